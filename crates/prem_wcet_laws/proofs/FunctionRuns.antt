-- Functions run in scopes that are charged no more than their least charge.
use Rattle.std.proofs.Common.{◌≡◌, ℕ, ◌+◌, ◌-◌, ◌*◌, ◌%◌, ◌^◌, ◌<◌, ◌≤◌, refl, ap, ◌∙◌, sym, subst, arith, true, List, [], ◌∷◌, ◌++◌, inl, inr, ◌⊎◌, length, Ok}
use Rattle.prem_wcet_laws.proofs.Prelude.{guard_grows, words-followed, Pieces, followed, size_of, Guard, Setting, Calls, Falls, Returns, then_run, run, AllSteps, Holds, Same, Within, total}
use Rattle.prem_wcet_laws.proofs.Prelude.{each_closing, each_declared, each_function, each_opening, each_result, all_between, then_ok, Opened, rounded, resulted, number_apart, globals_stack}
use Rattle.prem_wcet_laws.proofs.Prelude.{functions_run, Globals, Stack, Ground, AreApart, Callees, FunctionFits, performed, Between, with_globals, CalleesAt, Matches, ArgumentsStand}
use Rattle.prem_wcet_laws.proofs.Prelude.{at_frame, Codes, code_calls, TaskState, Did, Phase, locals_of, slots_of, frame_of, Parts, opening, closing, declare_code, result_code, steps_code}
use Rattle.prem_wcet_laws.proofs.Prelude.{function_code, only, Access, IsAmong, callees_in, Routine, Limits, calls_below, ProgramState, declare, result_of, KeepsTo, weight_of, RunDivides}
use Rattle.prem_wcet_laws.proofs.Prelude.{StaysOn, Weighs, is_held, confined_to, IsIn, IsNative, own, own_around, declared as declared_code, body_at, least, least_function, Works, narrowed}
use Rattle.prem_wcet_laws.proofs.Prelude.{globals_of, Stands, Scene, fact_of, extent_of, is_roomy, scope_weight, code_ranges, data_ranges, data_lines, lines_in, path_weight, charge}
use Rattle.prem_wcet_laws.proofs.Prelude.{function_span, PlaceWeight, put_number, list_all, flat_map, map}
use Rattle.prem_code_laws.proofs.GenLawsLemmas.Frames.{declared, opened}
use Rattle.prem_code_laws.proofs.GenLawsLemmas.Jobs.{frame_runs}
use Rattle.prem_syntax.specs.Statements.{run as run_source}
use Rattle.prem_wcet_laws.proofs.Calls.{function_calls, declared_call, result_calls}
use Rattle.prem_wcet_laws.proofs.Divide.{divides_together, run_more}
use Rattle.prem_wcet_laws.proofs.Held.{has_left, has_right, has_mapped, has_flat, held_by, held_left, held_right}
use Rattle.prem_wcet_laws.proofs.Keeping.{Any, confined_confines, keeps_in}
use Rattle.prem_wcet_laws.proofs.LeastRuns.{Here, frame_alone, fit_alone, ground_alone, fell, own_run, least_divides}
use Rattle.prem_wcet_laws.proofs.Named.{performed_same, calls_same}
use Rattle.prem_wcet_laws.proofs.OneScope.{steps_callable, covers, covered_has, task_fits, Reached, closed, ground_small, calls_keep, same_trans, calls_grow, confined_grows, line_kept}
use Rattle.prem_wcet_laws.proofs.OneScope.{all_kept, scope_charged, called_weigh}
use Rattle.prem_wcet_laws.proofs.PlaceCost.{run_in}
use Rattle.prem_wcet_laws.proofs.ScopeCosts.{scope_weighs}
use Rattle.prem_wcet_laws.proofs.Sequence.{seq, lesser}
use Rattle.prem_wcet_laws.proofs.Takes.{emits_native}
use Rattle.prem_wcet_laws.specs.FunctionLaws.{FunctionsDivide}

-- a call of a function keeps to its ranges, and weighs no more than its code
pub record FunctionKept (e : Scene) (s : Setting) (calls : Calls) (f : Routine) (at : ℕ) (t : TaskState) : Type 0 where
  pub to : TaskState
  pub back : ℕ
  pub trace : List Did
  pub goes : run s calls at (function_code e.parts f) t ≡ Returns back to trace
  pub steps_in : AllSteps (IsIn (code_ranges e at (function_span e f)) (data_ranges e (function_span e f))) trace
  pub weighs : (w : PlaceWeight) → Weighs w → total (weight_of w) trace ≤ path_weight e w at (function_span e f)

module _ (e : Scene) (s : Setting) (gs : Globals) (parts : Parts) (cs : Callees) (phase : Phase) (c : Codes) (routines : List Routine)
    (total_functions : ℕ) (st : Stands e s gs parts cs phase c routines total_functions)
    (may : Access) (limits : Limits) (calls : Calls) (same_calls : (part : ℕ) (t : TaskState) → Same (code_calls s c total_functions part t) (calls part t)) where
  between_guard : (h : Guard) (q : ProgramState) (t : TaskState) → Between s gs phase q t → Between (record s { guard = h }) gs phase q t
  between_guard h q t b = record {
    globals = record { shaped = b.globals.shaped; stands = b.globals.stands; word = b.globals.word };
    words = b.words;
    phase_is = b.phase_is;
    left = b.left;
    used = b.used;
    outputs = b.outputs;
    inputs = b.inputs;
  }

  -- the code of a function keeps to its ranges
  function_kept : (k : Stack) → Ground s gs may k → (f : Routine) (at depth under : ℕ) → FunctionFits gs parts cs phase at depth under f →
      ((g : ℕ) → IsAmong g (callees_in f.body) → g < total_functions) → k.slots ≡ slots_of f → k.low + under ≤ k.sp →
      ((a : ℕ) → k.low ≤ a → a < k.top → is_held (data_ranges e (function_span e f)) a ≡ true) →
      (ws : List ℕ) (q : ProgramState) (t : TaskState) (back word : ℕ) (after : ProgramState) → length ws ≡ length f.text.params →
      ArgumentsStand t.view k.sp ws → Between s gs phase q t → t.registers 2 ≡ k.sp + frame_of f → k.sp + frame_of f < 2 ^ 32 →
      t.registers 1 ≡ back → back % 4 ≡ 0 → back < 2 ^ 32 → performed (calls_below limits routines total_functions) may f ws q ≡ Ok (word, after) →
      FunctionKept e s calls f at t
  function_kept k ground f at depth under fit known slots_is space stack ws q t back word after len args b two top_small one back_al back_small is =
      let span = function_span e f in
      let ranges = data_ranges e span in
      let code = code_ranges e at span in
      let sm : Setting = record s { guard = confined_to ranges s.guard } in
      let inner : Calls = code_calls sm c total_functions in
      let inside = λ (g : ℕ). covers ranges (e.global g) in
      let own_code : function_code e.parts f ≡ function_code (with_globals gs parts) f = ap (λ q. function_code q f) st.parts_are in
      let reached : (g : ℕ) → IsAmong g (callees_in f.body) → Reached e s gs parts cs phase c routines total_functions st code ranges g = λ g among. record {
        less = known g among;
        callable = steps_callable gs parts cs phase _ under f.body fit.body g among;
        code_in = λ x there. inr (has_flat (λ f. (fact_of e f).code) g (callees_in f.body) x among there);
        touched_in = λ x there. has_right x e.stack _ (has_right x (map e.global (globals_of f)) _ (has_flat (λ f. (fact_of e f).touched) g (callees_in f.body) x among there));
      } in
      let source : performed (calls_below limits routines total_functions) (narrowed inside may) f ws q ≡ Ok (word, after) =
      performed_same inside may (calls_below limits routines total_functions) f ws q
      (λ g among. covered_has (e.global g) ranges (has_right (e.global g) e.stack _ (has_left (e.global g) (map e.global (globals_of f)) _ (has_mapped e.global g (globals_of f) among))))
      (λ g among. calls_same inside limits routines (Reached e s gs parts cs phase c routines total_functions st code ranges)
      (closed e s gs parts cs phase c routines total_functions st code ranges) total_functions may g (reached g among))
      ∙ is in
      let callees : CalleesAt sm gs (narrowed inside may) k inner parts cs phase (calls_below limits routines total_functions) =
      λ g callable. at_frame sm gs (narrowed inside may) k phase (inner (parts.callee g)) (parts.link g) (parts.frame g) (cs.depth g) (cs.params g)
      (cs.returns g) (λ words q. calls_below limits routines total_functions (narrowed inside may) g words q)
      (functions_run sm gs parts cs phase c limits routines st.all (narrowed inside may)
      (task_fits s (confined_to ranges s.guard) gs parts cs phase c routines st.all st.task) total_functions st.some g callable) in
      let d = (frame_runs sm inner gs (narrowed inside may) parts cs phase (calls_below limits routines total_functions)
      k callees f at depth under fit (ground_small e s gs parts cs phase c routines total_functions st code ranges may k ground stack) slots_is space
      ws q t back word after len args (between_guard (confined_to ranges s.guard) q t b) two top_small one back_al back_small source).back_to in
      let goes_small : run sm inner at (function_code e.parts f) t ≡ Returns back d.to d.trace = ap (λ q. run sm inner at q t) own_code ∙ d.goes in
      let grown : Same (run sm inner at (function_code e.parts f) t) (run s calls at (function_code e.parts f) t) =
      guard_grows sm s.guard (confined_grows ranges s.guard) inner calls
      (λ part u. same_trans _ _ _ (calls_grow s (confined_to ranges s.guard) (confined_grows ranges s.guard) c total_functions part u) (same_calls part u)) (function_code e.parts f) at t in
      let kept : Holds (IsIn code ranges) Any (run sm inner at (function_code e.parts f) t) =
      keeps_in code ranges sm inner (confined_confines ranges s.guard) (function_code e.parts f) at
      (λ a ge lt. held_by (extent_of at (function_code e.parts f)) code a (inl refl) ge lt) (each_function IsNative emits_native refl e.parts f)
      (function_calls (λ part. (u : TaskState) → Any u → Holds (IsIn code ranges) Any (inner part u)) e.parts f
      (λ g among u j. let next = reached g among in
      subst (λ q. Holds (IsIn code ranges) Any (inner q u)) (sym (ap (λ (q : Parts). q.callee g) st.parts_are ∙ st.task.callees g next.callable))
      (calls_keep e s gs parts cs phase c routines total_functions st code ranges total_functions (omega arith) g next u)))
      t in
      let steps_in : AllSteps (IsIn code ranges) d.trace = (subst (Holds (IsIn code ranges) Any) goes_small kept).0 in
      let goes : run s calls at (function_code e.parts f) t ≡ Returns back d.to d.trace = subst (λ o. Same o (run s calls at (function_code e.parts f) t)) goes_small grown in
      record {
        to = d.to;
        back = back;
        trace = d.trace;
        goes = goes;
        steps_in = steps_in;
        weighs = λ w weighs.
            subst (Within (weight_of w) (path_weight e w at span)) goes_small
            (run_in w weighs sm inner _ (called_weigh e s gs parts cs phase c routines total_functions st (confined_to ranges s.guard) w weighs) (function_code e.parts f) at t);
      }

module _ (e : Scene) (s : Setting) (gs : Globals) (parts : Parts) (cs : Callees) (phase : Phase) (c : Codes) (routines : List Routine)
    (total_functions : ℕ) (st : Stands e s gs parts cs phase c routines total_functions)
    (may : Access) (limits : Limits) (calls : Calls) (k : Stack) (works : Works e s gs parts cs phase c routines total_functions may limits calls k)
    (f : Routine) (at depth under : ℕ) (fit : FunctionFits gs parts cs phase at depth under f)
    (known : (g : ℕ) → IsAmong g (callees_in f.body) → g < total_functions) (slots_is : k.slots ≡ slots_of f) (space : k.low + under ≤ k.sp)
    (ws : List ℕ) (q : ProgramState) (t : TaskState) (back word : ℕ) (after : ProgramState) (len : length ws ≡ length f.text.params) (args : ArgumentsStand t.view k.sp ws) (b : Between s gs phase q t)
    (two : t.registers 2 ≡ k.sp + frame_of f) (top_small : k.sp + frame_of f < 2 ^ 32) (one : t.registers 1 ≡ back) (back_al : back % 4 ≡ 0) (back_small : back < 2 ^ 32)
    (is : performed (calls_below limits routines total_functions) may f ws q ≡ Ok (word, after)) where
  abbrev Run : (most at : ℕ) → Pieces → TaskState → Type 0
  Run most at ps u = RunDivides e.plant most (run s calls at ps u)

  -- as one scope, with or without the stack below its frame
  pub kept_here : FunctionKept e s calls f at t
  kept_here = by (callees_in f.body) refl where
    alone : callees_in f.body ≡ [] → FunctionKept e s calls f at t
    alone none =
        function_kept e s gs parts cs phase c routines total_functions st may limits calls works.same_calls (frame_alone k) (ground_alone s gs may k works.ground) f at depth 0 (record {
          placed = fit.placed;
          ends = fit.ends;
          deep = omega (arith, fit.deep);
          locals = fit.locals;
          body = fit_alone gs parts cs phase (locals_of f) under f.body none fit.body;
          result = fit.result;
        }) known slots_is (omega arith) (λ a le lt. held_left e.stack _ a (works.frame a le lt)) ws q t back word after len args b two top_small one back_al back_small is

    calling : (g : ℕ) (fs : List ℕ) → callees_in f.body ≡ g ∷ fs → FunctionKept e s calls f at t
    calling g fs some =
        function_kept e s gs parts cs phase c routines total_functions st may limits calls works.same_calls k works.ground f at depth under fit known
        slots_is space stack ws q t back word after len args b two top_small one back_al back_small is where
          among : IsAmong g (callees_in f.body)
          among = subst (IsAmong g) (sym some) (inl refl)

          below : (a : ℕ) → k.low ≤ a → a < k.sp → is_held (data_ranges e (function_span e f)) a ≡ true
          below a le lt =
              held_right e.stack _ a (held_right (map e.global (globals_of f)) (flat_map (λ f. (fact_of e f).touched) (callees_in f.body)) a
              (subst (λ (xs : List ℕ). is_held (flat_map (λ f. (fact_of e f).touched) xs) a ≡ true) (sym some)
              (held_left (fact_of e g).touched (flat_map (λ f. (fact_of e f).touched) fs) a
              (works.below g (known g among) (steps_callable gs parts cs phase _ under f.body fit.body g among) a le lt))))

          split : (a : ℕ) → (a < k.sp) ⊎ (k.sp ≤ a)
          split a = grind arith

          stack : (a : ℕ) → k.low ≤ a → a < k.top → is_held (data_ranges e (function_span e f)) a ≡ true
          stack a le lt = each (split a) where
            each : (a < k.sp) ⊎ (k.sp ≤ a) → is_held (data_ranges e (function_span e f)) a ≡ true
            each (inl less) = below a le less
            each (inr more) = held_left e.stack _ a (works.frame a more lt)

    by : (xs : List ℕ) → callees_in f.body ≡ xs → FunctionKept e s calls f at t
    by [] none = alone none
    by (g ∷ fs) some = calling g fs some

  as_scope : Run (charge e at (function_span e f)) at (function_code e.parts f) t
  as_scope =
      let d = kept_here in
      let span = function_span e f in
      let code = code_ranges e at span in
      let ranges = data_ranges e span in
      let lines = lines_in e at span in
      let w = scope_weight e.plant lines (list_all (is_roomy e.plant lines) (data_lines e span)) in
      subst (RunDivides e.plant (charge e at span)) (sym d.goes)
      (divides_together e.plant (charge e at span) lines d.trace
      (all_kept (IsIn code ranges) (KeepsTo e.plant.line lines) (λ x h. line_kept e.plant.line code ranges x st.line h) d.trace d.steps_in)
      (all_kept (IsIn code ranges) StaysOn (λ x h. h.stays) d.trace d.steps_in)
      (scope_charged e.plant st.line lines code ranges (path_weight e w at span) d.trace d.steps_in (d.weighs w (scope_weighs e.plant lines (list_all (is_roomy e.plant lines) (data_lines e span))))))

  beside : (base i : ℕ) → AreApart (base + 4 + 4 * i) 4 base 4
  beside base i = grind arith

  -- by its parts
  by_parts : Run (own_around e f + least e (locals_of f) (body_at e f at) f.body) at (function_code e.parts f) t
  by_parts =
      let frame = frame_of f in
      let r = rounded (4 + 4 * slots_of f) in
      let holds : 4 + 4 * slots_of f ≤ frame = r.1.0 in
      let ground = works.ground in
      let room : k.sp + 4 + 4 * k.slots ≤ k.top = ground.room in
      let ends : k.top ≤ s.size = ground.ends in
      let small : s.size < 2 ^ 32 = ground.small in
      let sal : k.sp % 4 ≡ 0 = ground.aligned in
      let floor : k.low ≤ k.sp = ground.floor in
      let below : k.sp + frame - frame ≡ k.sp = omega arith in
      let same_slots : k.slots ≡ slots_of f = slots_is in
      let op0 = opened s at frame (k.sp + frame) back t b.words two one (omega arith) (omega arith) top_small (omega arith) (omega arith)
      (all_between s.guard.store k.low k.top ground.stores 4 (k.sp + frame - frame) (omega arith) (omega arith)) in
      let op = subst (λ sp. Opened s at frame sp back t) below op0 in
      let p0 : ProgramState = record q { locals = ws } in
      let t1 : TaskState = record t { registers = op.registers; view = put_number 4 k.sp back t.view } in
      let m0 : Matches s gs k phase (length f.text.params) p0 t1 = record {
        globals = globals_stack s gs may k ground q.globals 4 k.sp back t.view (omega arith) (omega arith) b.globals;
        locals = record {
          fits = omega arith;
          stands = λ i lt. number_apart 4 k.sp back t.view (k.sp + 4 + 4 * i) 4 (beside k.sp i) ∙ args.stands i lt;
          word = args.word;
        };
        words = op.words;
        stack = op.stack;
        count_is = len;
        phase_is = b.phase_is;
        left = b.left;
        used = b.used;
        outputs = b.outputs;
        inputs = b.inputs;
      } in
      let source = calls_below limits routines total_functions in
      let x = then_ok (declare may f.locals p0) _ (word, after) is in
      let y = then_ok (run_source may source f.body x.0) _ (word, after) x.1.1 in
      let z = then_ok (result_of may f.result y.0) _ (word, after) y.1.1 in
      let dp = declared_code e f in
      let bp = steps_code e.parts (locals_of f) f.body in
      let rp = result_code e.parts.target e.parts.global f.result in
      let cp = only (closing frame) in
      let s1 = words-followed dp (followed bp (followed rp cp)) in
      let s2 = words-followed bp (followed rp cp) in
      let size : at + size_of (function_code e.parts f) < 2 ^ 32 = subst (λ q. at + size_of (function_code q f) < 2 ^ 32) (sym st.parts_are) fit.ends in
      let at_al : at % 4 ≡ 0 = fit.placed in
      let at1 = at + 8 in
      let d1 = declared s calls gs may k ground phase (locals_of f) (locals_of f) (slots_of f) (omega arith) (omega arith) f.locals (length f.text.params) at1 t1 p0 x.0 m0 fit.locals refl x.1.0 in
      let goes1 : run s calls at1 dp t1 ≡ Falls d1.to d1.trace =
      subst (λ (q : Parts). run s calls at1 (declare_code q.target q.global (length f.text.params) f.locals) t1 ≡ Falls d1.to d1.trace)
      (sym st.parts_are) d1.goes in
      let at2 = at1 + size_of dp in
      let here : Here e s gs parts cs phase c routines total_functions st may limits calls k works (locals_of f) under space (locals_of f) at2 f.body d1.to x.0 y.0 = record {
        slots = omega arith;
        room = omega arith;
        aligned = omega arith;
        size = omega arith;
        fit = fit.body;
        known = known;
        matches = d1.matches;
        runs = y.1.0;
      } in
      let d2 = fell e s gs parts cs phase c routines total_functions st may limits calls k works (locals_of f) under space (locals_of f) at2 f.body d1.to x.0 y.0 here in
      let at3 = at2 + size_of bp in
      let d3 = resulted s calls gs may k ground phase (locals_of f) at3 f.result d2.to y.0 z.0 d2.matches fit.result z.1.0 in
      let goes3 : run s calls at3 rp d2.to ≡ Falls d3.to d3.trace =
      subst (λ (q : Parts). run s calls at3 (result_code q.target q.global f.result) d2.to ≡ Falls d3.to d3.trace) (sym st.parts_are) d3.goes in
      let own_of = own_run e s gs parts cs phase c routines total_functions st may limits calls k works (locals_of f) under space in
      let body = least e (locals_of f) (body_at e f at) f.body in
      run_more e.plant (own e (only (opening frame)) + (own e dp + (body + (own e rp + own e cp)))) _ (run s calls at (function_code e.parts f) t)
      (moved (own e (only (opening frame))) (own e dp) body (own e rp) (own e cp))
      (seq e.plant s calls _ _ (function_code e.parts f) (only (opening frame)) (followed dp (followed bp (followed rp cp))) refl at t t1
      (op.trace ++ []) (ap (λ o. then_run o (λ u. Falls u [])) op.goes) (own_of (only (opening frame)) tt (each_opening IsNative emits_native frame) at t)
      (seq e.plant s calls _ _ (followed dp (followed bp (followed rp cp))) dp (followed bp (followed rp cp)) refl at1 t1 d1.to d1.trace goes1
      (own_of dp (declared_call (λ part. ⊥) e.parts.target e.parts.global (length f.text.params) f.locals)
      (each_declared IsNative emits_native e.parts.target e.parts.global (length f.text.params) f.locals) at1 t1)
      (seq e.plant s calls _ _ (followed bp (followed rp cp)) bp (followed rp cp) refl at2 d1.to d2.to d2.trace d2.goes
      (least_divides e s gs parts cs phase c routines total_functions st may limits calls k works (locals_of f) under space f.body (locals_of f) at2 d1.to x.0 y.0 here)
      (seq e.plant s calls _ _ (followed rp cp) rp cp refl at3 d2.to d3.to d3.trace goes3
      (own_of rp (result_calls (λ part. ⊥) e.parts.target e.parts.global f.result) (each_result IsNative emits_native e.parts.target e.parts.global f.result)
      at3 d2.to) (own_of cp tt (each_closing IsNative emits_native refl frame) (at3 + size_of rp) d3.to))))) where
        moved : (a b x y z : ℕ) → a + (b + (x + (y + z))) ≤ a + b + (y + z) + x
        moved a b x y z = omega arith

  pub function_divides : Run (least_function e f at) at (function_code e.parts f) t
  function_divides = lesser e.plant _ _ _ as_scope by_parts

pub functions_divide : FunctionsDivide
functions_divide e s gs parts cs phase c routines total_functions st may limits calls k works f at depth under fit known slots_is space ws q t back
    word after len args b two top_small one back_al back_small is =
    function_divides e s gs parts cs phase c routines total_functions st may limits calls k works f at depth under fit known slots_is space ws q t
    back word after len args b two top_small one back_al back_small is
