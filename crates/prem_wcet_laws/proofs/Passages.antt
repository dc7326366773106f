-- Passages between marked calls: as one scope, or by their parts.
use Rattle.std.proofs.Common.{map, ◌≡◌, ℕ, suc, ◌+◌, ◌-◌, ◌*◌, ◌%◌, ◌^◌, ◌<◌, ◌≤◌, refl, ap, ◌∙◌, sym, subst, arith, true, false, Bool, leb, ltb, List, [], ◌∷◌, ◌++◌, length, Option, Some}
use Rattle.std.proofs.Common.{Ok, ◌⊎◌, inl, inr}
use Rattle.prem_wcet_laws.proofs.Prelude.{run-followed, guard_grows, Pieces, no_pieces, followed, size_of, EachPiece, Guard, Setting, Calls, Ending, Falls, Returns, Stuck, with_trace}
use Rattle.prem_wcet_laws.proofs.Prelude.{then_run, run, AllSteps, Holds, Same, Within, total as total_of, each_arguments, each_closing, each_declared, each_result, each_steps, each_target}
use Rattle.prem_wcet_laws.proofs.Prelude.{globals_stack, steps_end, functions_run, Globals, GlobalsStand, Stack, Ground, AllFit, Callees, StepsFit, DeclaredFit, ResultFits, Between}
use Rattle.prem_wcet_laws.proofs.Prelude.{with_globals, CalleesAt, Matches, ArgumentsStand, at_frame, Codes, code_calls, TaskState, Did, Phase, lines_of, counters_in, locals_of, slots_of}
use Rattle.prem_wcet_laws.proofs.Prelude.{frame_of, Parts, steps_code, argument_code, declare_code, result_code, opening, closing, only, Extent, Access, IsAmong, callees_in, Term, Steps}
use Rattle.prem_wcet_laws.proofs.Prelude.{Routine, Limits, calls_below, ProgramState, values, declare, result_of, StaysOn, KeepsTo, Divides, RunDivides, weight_of, is_held, confined_to}
use Rattle.prem_wcet_laws.proofs.Prelude.{IsNative, IsIn, own, least, narrowed, Edge, no_edge, entry, leaving, landing, passing, bottom_of, argument_ranges, passage_span, passage_data}
use Rattle.prem_wcet_laws.proofs.Prelude.{passage_charge, passage_apart, passage, Stands, Scene, fact_of, code_ranges, data_ranges, extent_of, path_weight, scope_weight, is_roomy}
use Rattle.prem_wcet_laws.proofs.Prelude.{globals_in, globals_in_terms, globals_in_result, number_at, put_number, and_parts, and_from, leb-true, ltb-true, list_all, flat_map}
use Rattle.prem_code_laws.proofs.Emitted.{joined as native_joined}
use Rattle.prem_syntax.specs.Statements.{run as run_source}
use Rattle.prem_wcet_laws.proofs.Alone.{CallFree, free_any, own_divides}
use Rattle.prem_wcet_laws.proofs.Calls.{among_left, among_right, joined as calls_joined, arguments_call, target_calls, declared_call, result_calls, steps_call}
use Rattle.prem_wcet_laws.proofs.Divide.{divides_together, divides_join, divides_more}
use Rattle.prem_wcet_laws.proofs.Edges.{passing as passed, landing as landed, entered, left}
use Rattle.prem_wcet_laws.proofs.Held.{has_left, has_right, has_mapped, has_flat, held_by, held_left, held_right}
use Rattle.prem_wcet_laws.proofs.Keeping.{Any, confined_confines, keeps_in}
use Rattle.prem_wcet_laws.proofs.LeastRuns.{frame_alone, fit_alone, ground_alone, matches_alone}
use Rattle.prem_wcet_laws.proofs.Named.{all_same, declare_same, result_same, run_same, calls_same}
use Rattle.prem_wcet_laws.proofs.OneScope.{steps_callable, covers, covered_has, task_fits, matches_guard, Reached, closed, ground_small, calls_keep, same_trans, calls_grow, confined_grows}
use Rattle.prem_wcet_laws.proofs.OneScope.{line_kept, all_kept, scope_charged, called_weigh}
use Rattle.prem_wcet_laws.proofs.PlaceCost.{run_in}
use Rattle.prem_wcet_laws.proofs.ScopeCosts.{scope_weighs}
use Rattle.prem_wcet_laws.proofs.Sequence.{lesser}
use Rattle.prem_wcet_laws.proofs.Takes.{emits_native}
use Rattle.std.specs.Prelude.{◌&&◌, ◌||◌}

-- ---- runs that aren't stuck

abbrev pub Goes : Ending → Type 0
Goes (Falls t trace) = Unit {0}
Goes (Returns back t trace) = Unit {0}
Goes Stuck = ⊥

agree : (o p : Ending) → Same o p → Goes o → p ≡ o
agree (Falls t trace) p h g = h
agree (Returns back t trace) p h g = h
agree Stuck p h g = absurd g

goes_by : {o p : Ending} → o ≡ p → Goes p → Goes o
goes_by e g = subst Goes (sym e) g

-- its steps
abbrev pub HasTrace : Ending → List Did → Type 0
HasTrace (Falls t trace) steps = trace ≡ steps
HasTrace (Returns back t trace) steps = trace ≡ steps
HasTrace Stuck steps = ⊥

pub with_traced : (o : Ending) (steps first : List Did) → HasTrace o steps → HasTrace (with_trace first o) (first ++ steps)
with_traced (Falls t trace) steps first h = ap (λ z. first ++ z) h
with_traced (Returns back t trace) steps first h = ap (λ z. first ++ z) h
with_traced Stuck steps first h = h

held_of : (P : Did → Type 0) (o : Ending) (steps : List Did) → HasTrace o steps → Holds P Any o → AllSteps P steps
held_of P (Falls t trace) steps h k = subst (AllSteps P) h k.0
held_of P (Returns back t trace) steps h k = subst (AllSteps P) h k.0
held_of P Stuck steps h k = absurd h

weight_within : (w : Did → ℕ) (n : ℕ) (o : Ending) (steps : List Did) → HasTrace o steps → Within w n o → total_of w steps ≤ n
weight_within w n (Falls t trace) steps h k = subst (λ ds. total_of w ds ≤ n) h k
weight_within w n (Returns back t trace) steps h k = subst (λ ds. total_of w ds ≤ n) h k
weight_within w n Stuck steps h k = absurd h

-- ---- edges

module _ (s : Setting) (gs : Globals) (may : Access) (k : Stack) where
  -- the code of an edge runs under each guard that allows the frame, the globals that it names, and the bytes below the frame that it writes
  pub record EdgeGoes (edge : Edge) (at : ℕ) (t : TaskState) : Type 0 where
    pub free : CallFree edge.pieces
    pub native : EachPiece IsNative edge.pieces
    pub stored : (a : ℕ) → is_held edge.below a ≡ true → s.guard.store a ≡ true
    pub goes : (h : Guard) (inside : ℕ → Bool) (calls : Calls) → Ground (record s { guard = h }) gs (narrowed inside may) (frame_alone k) →
        ((g : ℕ) → IsAmong g edge.globals → inside g ≡ true) → ((a : ℕ) → is_held edge.below a ≡ true → h.store a ≡ true) →
        Goes (run (record s { guard = h }) calls at edge.pieces t)

  pub no_edge_goes : (at : ℕ) (t : TaskState) → EdgeGoes no_edge at t
  no_edge_goes at t = record { free = tt; native = tt; stored = λ a h. cc; goes = λ h inside calls ground names below. tt }

module _ (s : Setting) (gs : Globals) (parts : Parts) (cs : Callees) (e : Scene) (parts_are : e.parts ≡ with_globals gs parts) (may : Access)
    (k : Stack) (ground : Ground s gs may k) (phase : Phase) where
  -- a state that matches, under another guard and with no stack below the frame
  matches_small : (h : Guard) (count : ℕ) (p : ProgramState) (t : TaskState) → Matches s gs k phase count p t → Matches (record s { guard = h }) gs (frame_alone k) phase count p t
  matches_small h count p t m = matches_guard s h gs parts cs phase (frame_alone k) count p t (matches_alone s gs may k phase count p t m)

  between_guard : (h : Guard) (q : ProgramState) (t : TaskState) → Between s gs phase q t → Between (record s { guard = h }) gs phase q t
  between_guard h q t b = record {
    globals = record { shaped = b.globals.shaped; stands = b.globals.stands; word = b.globals.word };
    words = b.words;
    phase_is = b.phase_is;
    left = b.left;
    used = b.used;
    outputs = b.outputs;
    inputs = b.inputs;
  }

  pub landing_goes : (count at : ℕ) (target : Option ℕ) (t : TaskState) (p : ProgramState) → Matches s gs k phase count p t → count ≤ k.slots →
      ((i : ℕ) → target ≡ Some i → i < count) → EdgeGoes s gs may k (landing target) at t
  landing_goes count at target t p m fits inside_ = record {
    free = target_calls (λ part. ⊥) target;
    native = each_target IsNative emits_native target no_pieces tt;
    stored = λ a h. cc;
    goes = λ h inside calls small names below. goes_by
        (landed (record s { guard = h }) calls gs (narrowed inside may) (frame_alone k) small phase count at target t p (matches_small h count p t m)
        fits inside_).goes tt;
  }

  -- words below the frame are no globals
  apart : (h : Guard) (frame : ℕ) → k.low + frame ≤ k.sp → (a w : ℕ) (view : ℕ → ℕ) (globals : List (List ℕ)) → k.sp - frame + 4 ≤ a → a + 4 ≤ k.sp →
      GlobalsStand (record s { guard = h }) gs globals view → GlobalsStand (record s { guard = h }) gs globals (put_number 4 a w view)
  apart h frame low a w view globals le ge g =
      let room : k.sp + 4 + 4 * k.slots ≤ k.top = ground.room in
      let x = globals_stack s gs may k ground globals 4 a w view (omega arith) (omega arith) (record { shaped = g.shaped; stands = g.stands; word = g.word }) in
      record { shaped = x.shaped; stands = x.stands; word = x.word }

  argument_held : (bottom frame a : ℕ) (es : List Term) → bottom - frame + 4 ≤ a → a < bottom - frame + 4 + 4 * length es → is_held (argument_ranges bottom frame es) a ≡ true
  argument_held bottom frame a [] le lt = absurd (omega (arith, le, lt))
  argument_held bottom frame a (x ∷ xs) le lt = held_by _ (argument_ranges bottom frame (x ∷ xs)) a (inl refl) le lt

  held_one : (r : Extent) (a : ℕ) → is_held (r ∷ []) a ≡ true → (r.0 ≤ a) × (a < r.1)
  held_one r a h = by (leb r.0 a && ltb a r.1) refl where
    by : (b : Bool) → (leb r.0 a && ltb a r.1) ≡ b → (r.0 ≤ a) × (a < r.1)
    by true is = let x = and_parts (leb r.0 a) (ltb a r.1) is in (leb-true r.0 a x.0, ltb-true a r.1 x.1)
    by false is = let none : (false || false) ≡ true = sym (ap (λ b. b || false) is) ∙ h in cc

  argument_stored : (f : ℕ) (es : List Term) → 4 + 4 * length es ≤ parts.frame f → k.low + parts.frame f ≤ k.sp → (a : ℕ) →
      is_held (argument_ranges k.sp (parts.frame f) es) a ≡ true → s.guard.store a ≡ true
  argument_stored f [] room low a h = cc
  argument_stored f (x ∷ xs) room low a h =
      let z = held_one (k.sp - parts.frame f + 4, k.sp - parts.frame f + 4 + 4 * length (x ∷ xs)) a h in
      let fr : k.sp + 4 + 4 * k.slots ≤ k.top = ground.room in
      let few : 4 + 4 * suc (length xs) ≤ parts.frame f = room in
      let le : k.sp - parts.frame f + 4 ≤ a = z.0 in
      let lt : a < k.sp - parts.frame f + 4 + 4 * suc (length xs) = z.1 in
      ground.stores a (omega arith) (omega arith)

  pub passing_goes : (f : ℕ) (count at : ℕ) (es : List Term) (t : TaskState) (p : ProgramState) (ws : List ℕ) → Matches s gs k phase count p t → AllFit gs count es → values may p es ≡ Ok ws →
      4 + 4 * length es ≤ parts.frame f → parts.frame f % 4 ≡ 0 → k.low + parts.frame f ≤ k.sp → bottom_of e.stack ≡ k.sp → EdgeGoes s gs may k (passing e f es) at t
  passing_goes f count at es t p ws m fit is room al low bottom =
      subst (λ (q : Parts). EdgeGoes s gs may k
      (record {
        pieces = argument_code q.target q.global (q.frame f) 0 es;
        globals = globals_in_terms es;
        below =
            argument_ranges (bottom_of e.stack) (q.frame f) es;
      }) at t) (sym parts_are)
      (subst (λ n. EdgeGoes s gs may k
      (record {
        pieces = argument_code gs.target gs.part (parts.frame f) 0 es;
        globals = globals_in_terms es;
        below =
            argument_ranges n (parts.frame f) es;
      }) at t) (sym bottom)
      (record {
        free = arguments_call (λ part. ⊥) gs.target gs.part (parts.frame f) 0 es;
        stored = λ a h. argument_stored f es room low a h;
        native = each_arguments IsNative emits_native gs.target gs.part (parts.frame f) 0 es;
        goes = λ h inside calls small names below.
            goes_by (passed (record s { guard = h }) calls gs (narrowed inside may) (frame_alone k) small phase count (parts.frame f) es 0 at t p ws (matches_small h count p t m) fit
            (all_same inside may p.globals p.locals es names ∙ is) (omega arith) al (omega arith)
            (λ a le lt. below a (argument_held k.sp (parts.frame f) a es (omega (arith, le)) (omega (arith, lt)))) (apart h (parts.frame f) low)).goes tt;
      }))

  pub entry_goes : (f : Routine) (at back : ℕ) (ws : List ℕ) (q p1 : ProgramState) (t : TaskState) → k.slots ≡ slots_of f →
      DeclaredFit gs (length f.text.params) f.locals → length ws ≡ length f.text.params → ArgumentsStand t.view k.sp ws →
      Between s gs phase q t → t.registers 2 ≡ k.sp + frame_of f → k.sp + frame_of f < 2 ^ 32 → t.registers 1 ≡ back → back < 2 ^ 32 →
      declare may f.locals (record q { locals = ws }) ≡ Ok p1 → EdgeGoes s gs may k (entry e f) at t
  entry_goes f at back ws q p1 t slots_is fit len args b two top_small one back_small is =
      subst (λ (q : Parts). EdgeGoes s gs may k
      (record {
        pieces = Rattle.prem_asm.specs.Pieces.straight (opening (frame_of f))
            (declare_code q.target q.global (length f.text.params) f.locals);
        globals = globals_in_terms f.locals;
        below = [];
      }) at t) (sym parts_are)
      (record {
        free = declared_call (λ part. ⊥) gs.target gs.part (length f.text.params) f.locals;
        stored = λ a h. cc;
        native = ((refl, (refl, tt)), each_declared IsNative emits_native gs.target gs.part (length f.text.params) f.locals);
        goes = λ h inside calls small names below.
            goes_by (entered (record s { guard = h }) calls gs (narrowed inside may) (frame_alone k)
            small phase f at back ws q p1 t slots_is fit len args (between_guard h q t b) two top_small one back_small
            (declare_same inside may (λ a f ws p. Ok (0, p)) f.locals (record q { locals = ws }) names ∙ is)).goes tt;
      })

  pub leaving_goes : (f : Routine) (at back w : ℕ) (t : TaskState) (p : ProgramState) → k.slots ≡ slots_of f → ResultFits gs (locals_of f) f.result →
      Matches s gs k phase (locals_of f) p t → result_of may f.result p ≡ Ok w →
      number_at t.view k.sp 4 ≡ back → k.sp + frame_of f < 2 ^ 32 → back % 4 ≡ 0 → back < 2 ^ 32 → EdgeGoes s gs may k (leaving e f) at t
  leaving_goes f at back w t p slots_is fit m is home top_small back_al back_small =
      subst (λ (q : Parts). EdgeGoes s gs may k
      (record {
        pieces = followed (result_code q.target q.global f.result) (only (closing (frame_of f)));
        globals = globals_in_result f.result;
        below = [];
      }) at t) (sym parts_are)
      (record {
        free = calls_joined (λ part. ⊥) (result_code gs.target gs.part f.result) (only (closing (frame_of f))) (result_calls (λ part. ⊥) gs.target gs.part f.result) tt;
        stored = λ a h. cc;
        native = native_joined IsNative (result_code gs.target gs.part f.result) (only (closing (frame_of f))) (each_result IsNative emits_native gs.target gs.part f.result) (each_closing IsNative emits_native refl (frame_of f));
        goes = λ h inside calls small names below.
            goes_by (left (record s { guard = h }) calls gs (narrowed inside may) (frame_alone k) small phase f at back w t p slots_is fit (matches_small h (locals_of f) p t m)
            (result_same inside may (λ a f ws p. Ok (0, p)) f.result p names ∙ is) home top_small back_al back_small).goes tt;
      })

-- ---- a passage as one scope

module _ (e : Scene) (s : Setting) (gs : Globals) (parts : Parts) (cs : Callees) (phase : Phase) (c : Codes) (routines : List Routine) (total : ℕ) (st_ : Stands e s gs parts cs phase c routines total)
    (may : Access) (limits : Limits) (calls : Calls) (same_calls : (part : ℕ) (t : TaskState) → Same (code_calls s c total part t) (calls part t)) (k : Stack) (ground : Ground s gs may k)
    (framed : (a : ℕ) → k.sp ≤ a → a < k.top → is_held e.stack a ≡ true) (lower : (f : ℕ) → f < total → cs.callable f ≡ true → (a : ℕ) → k.low ≤ a → a < k.sp → is_held (fact_of e f).touched a ≡ true)
    (count under : ℕ) (space : k.low + under ≤ k.sp) (n from : ℕ) (before : Edge) (first : Steps) (last : Edge) where
  abbrev ranges : List Extent
  ranges = passage_data e n before first last

  abbrev code : List Extent
  code = code_ranges e from (passage_span e n before first last)

  abbrev small : Setting
  small = record s { guard = confined_to ranges s.guard }

  abbrev inner : Calls
  inner = code_calls small c total

  abbrev inside : ℕ → Bool
  inside g = covers ranges (e.global g)

  abbrev body : Pieces
  body = steps_code e.parts n first

  grown : (ps : Pieces) (at : ℕ) (t : TaskState) → Same (run small inner at ps t) (run s calls at ps t)
  grown ps at t =
      guard_grows small s.guard (confined_grows ranges s.guard) inner calls
      (λ part u. same_trans _ _ _ (calls_grow s (confined_to ranges s.guard) (confined_grows ranges s.guard) c total part u) (same_calls part u)) ps at t

  -- the frame
  frame_held : (a : ℕ) → k.sp ≤ a → a < k.top → is_held ranges a ≡ true
  frame_held a le lt = held_left (data_ranges e (passage_span e n before first last)) _ a (held_left e.stack _ a (framed a le lt))

  alone_small : Ground small gs (narrowed inside may) (frame_alone k)
  alone_small = ground_small e s gs parts cs phase c routines total st_ code ranges may (frame_alone k) (ground_alone s gs may k ground) (λ a le lt. frame_held a le lt)

  named : (g : ℕ) → IsAmong g (before.globals ++ (globals_in first ++ last.globals)) → inside g ≡ true
  named g is =
      covered_has (e.global g) ranges
      (has_left (e.global g) (data_ranges e (passage_span e n before first last)) _
      (has_right (e.global g) e.stack _
      (has_left (e.global g) (map e.global (before.globals ++ (globals_in first ++ last.globals))) _
      (has_mapped e.global g (before.globals ++ (globals_in first ++ last.globals)) is))))

  below_stored : (edge : Edge) (at : ℕ) (t : TaskState) → EdgeGoes s gs may k edge at t →
      ((a : ℕ) → is_held edge.below a ≡ true → is_held (before.below ++ last.below) a ≡ true) → (a : ℕ) → is_held edge.below a ≡ true →
      small.guard.store a ≡ true
  below_stored edge at t x within a h = and_from (is_held ranges a) (s.guard.store a) (held_right (data_ranges e (passage_span e n before first last)) _ a (within a h)) (x.stored a h)

  edge_agrees : (edge : Edge) (at : ℕ) (t : TaskState) → EdgeGoes s gs may k edge at t → ((g : ℕ) → IsAmong g edge.globals → inside g ≡ true) →
      ((a : ℕ) → is_held edge.below a ≡ true → is_held (before.below ++ last.below) a ≡ true) →
      run s calls at edge.pieces t ≡ run small inner at edge.pieces t
  edge_agrees edge at t x names within =
      agree (run small inner at edge.pieces t) (run s calls at edge.pieces t) (grown edge.pieces at t) (x.goes small.guard inside inner alone_small names (below_stored edge at t x within))

  reached : ((f : ℕ) → IsAmong f (callees_in first) → f < total) → StepsFit gs parts cs phase count under first → (f : ℕ) →
      IsAmong f (callees_in first) → Reached e s gs parts cs phase c routines total st_ code ranges f
  reached known fit f among = record {
    less = known f among;
    callable = steps_callable gs parts cs phase count under first fit f among;
    code_in = λ x there. inr (has_flat (λ f. (fact_of e f).code) f (callees_in first) x among there);
    touched_in = λ x there.
        has_left x (data_ranges e (passage_span e n before first last)) _
        (has_right x e.stack _ (has_right x (map e.global (before.globals ++ (globals_in first ++ last.globals))) _ (has_flat (λ f. (fact_of e f).touched) f (callees_in first) x among there)));
  }

  -- the statements
  body_goes : (stk : Stack) → Ground s gs may stk → ((a : ℕ) → stk.low ≤ a → a < stk.top → is_held ranges a ≡ true) → (room : ℕ) →
      stk.low + room ≤ stk.sp → (at : ℕ) (t : TaskState) (p after : ProgramState) →
      count ≤ n → n + counters_in first ≤ stk.slots → at % 4 ≡ 0 → at + size_of body < 2 ^ 32 → StepsFit gs parts cs phase count room first → ((f : ℕ) → IsAmong f (callees_in first) → f < total) →
      Matches s gs stk phase count p t → run_source may (calls_below limits routines total) first p ≡ Ok after → Goes (run small inner at body t)
  body_goes stk own_ground stack room space_ at t p after le slots al size fit known m is =
      let own_code : body ≡ steps_code (with_globals gs parts) n first = ap (λ q. steps_code q n first) st_.parts_are in
      let reach : (f : ℕ) → IsAmong f (callees_in first) → Reached e s gs parts cs phase c routines total st_ code ranges f = λ f among. record {
        less = known f among;
        callable = steps_callable gs parts cs phase count room first fit f among;
        code_in = λ x there. inr (has_flat (λ f. (fact_of e f).code) f (callees_in first) x among there);
        touched_in = λ x there.
            has_left x (data_ranges e (passage_span e n before first last)) _
            (has_right x e.stack _ (has_right x (map e.global (before.globals ++ (globals_in first ++ last.globals))) _ (has_flat (λ f. (fact_of e f).touched) f (callees_in first) x among there)));
      } in
      let source : run_source (narrowed inside may) (calls_below limits routines total) first p ≡ Ok after =
      run_same inside may (calls_below limits routines total) first p
      (λ g among. named g (among_right g before.globals _ (among_left g (globals_in first) last.globals among)))
      (λ f among. calls_same inside limits routines (Reached e s gs parts cs phase c routines total st_ code ranges)
      (closed e s gs parts cs phase c routines total st_ code ranges) total may f (reach f among))
      ∙ is in
      let callees : CalleesAt small gs (narrowed inside may) stk inner parts cs phase (calls_below limits routines total) =
      λ f callable. at_frame small gs (narrowed inside may) stk phase (inner (parts.callee f)) (parts.link f) (parts.frame f) (cs.depth f)
      (cs.params f) (cs.returns f) (λ words q. calls_below limits routines total (narrowed inside may) f words q)
      (functions_run small gs parts cs phase c limits routines st_.all (narrowed inside may)
      (task_fits s (confined_to ranges s.guard) gs parts cs phase c routines st_.all st_.task) total st_.some f callable) in
      let d = steps_end small inner gs (narrowed inside may) stk
      (ground_small e s gs parts cs phase c routines total st_ code ranges may stk own_ground stack) parts cs phase
      (calls_below limits routines total) callees count room space_
      first n at t p after le slots al (subst (λ q. at + size_of q < 2 ^ 32) own_code size) fit (matches_guard s (confined_to ranges s.guard) gs parts cs phase stk count p t m) source in
      goes_by (ap (λ q. run small inner at q t) own_code ∙ d.goes) tt

  body_agrees : (at : ℕ) (t : TaskState) (p after : ProgramState) →
      count ≤ n → n + counters_in first ≤ k.slots → at % 4 ≡ 0 → at + size_of body < 2 ^ 32 → StepsFit gs parts cs phase count under first → ((f : ℕ) → IsAmong f (callees_in first) → f < total) →
      Matches s gs k phase count p t → run_source may (calls_below limits routines total) first p ≡ Ok after → run s calls at body t ≡ run small inner at body t
  body_agrees at t p after le slots al size fit known m is = agree (run small inner at body t) (run s calls at body t) (grown body at t) (by (callees_in first) refl) where
    touched_below : (f : ℕ) (fs : List ℕ) → callees_in first ≡ f ∷ fs → (a : ℕ) → k.low ≤ a → a < k.sp → is_held ranges a ≡ true
    touched_below f fs some a low lt =
        held_left (data_ranges e (passage_span e n before first last)) _ a
        (held_right e.stack _ a (held_right (map e.global (before.globals ++ (globals_in first ++ last.globals))) (flat_map (λ f. (fact_of e f).touched) (callees_in first)) a
        (subst (λ (xs : List ℕ). is_held (flat_map (λ f. (fact_of e f).touched) xs) a ≡ true) (sym some)
        (held_left (fact_of e f).touched (flat_map (λ f. (fact_of e f).touched) fs) a
        (lower f (known f (subst (IsAmong f) (sym some) (inl refl))) (steps_callable gs parts cs phase count under first fit f (subst (IsAmong f) (sym some) (inl refl))) a low lt)))))

    split : (a : ℕ) → (a < k.sp) ⊎ (k.sp ≤ a)
    split a = grind arith

    stack : (f : ℕ) (fs : List ℕ) → callees_in first ≡ f ∷ fs → (a : ℕ) → k.low ≤ a → a < k.top → is_held ranges a ≡ true
    stack f fs some a low lt = each (split a) where
      each : (a < k.sp) ⊎ (k.sp ≤ a) → is_held ranges a ≡ true
      each (inl less) = touched_below f fs some a low less
      each (inr more) = frame_held a more lt

    none_below : (a : ℕ) → a + 0 ≤ a
    none_below a = omega arith

    by : (xs : List ℕ) → callees_in first ≡ xs → Goes (run small inner at body t)
    by [] none =
        body_goes (frame_alone k) (ground_alone s gs may k ground) (λ a low lt. frame_held a low lt) 0 (none_below k.sp) at t p after le slots al size
        (fit_alone gs parts cs phase count under first none fit) known (matches_alone s gs may k phase count p t m) is
    by (f ∷ fs) some = body_goes k ground (λ a low lt. stack f fs some a low lt) under space at t p after le slots al size fit known m is

  abbrev Kept : ℕ → Type 0
  Kept part = (v : TaskState) → Any v → Holds (IsIn code ranges) Any (inner part v)

  -- together they are one scope
  pub passage_scope : (t0 t u : TaskState) (p after : ProgramState) (trace_before trace_body trace_last : List Did) →
      EdgeGoes s gs may k before from t0 → run s calls from before.pieces t0 ≡ Falls t trace_before →
      count ≤ n → n + counters_in first ≤ k.slots → (from + size_of before.pieces) % 4 ≡ 0 → from + size_of before.pieces + size_of body < 2 ^ 32 →
      StepsFit gs parts cs phase count under first → ((f : ℕ) → IsAmong f (callees_in first) → f < total) →
      Matches s gs k phase count p t → run_source may (calls_below limits routines total) first p ≡ Ok after → run s calls (from + size_of before.pieces) body t ≡ Falls u trace_body →
      EdgeGoes s gs may k last (from + size_of before.pieces + size_of body) u → HasTrace (run s calls (from + size_of before.pieces + size_of body) last.pieces u) trace_last →
      Divides e.plant (passage_charge e n from before first last) (trace_before ++ (trace_body ++ trace_last))
  passage_scope t0 t u p after trace_before trace_body trace_last x goes_before le slots al size fit known m is goes_body y goes_last =
      let at1 = from + size_of before.pieces in
      let at2 = at1 + size_of body in
      let whole = followed before.pieces (followed body last.pieces) in
      let lines = lines_of e.plant.line (code ++ ranges) in
      let o = run s calls at2 last.pieces u in
      let first_is : run small inner from before.pieces t0 ≡ Falls t trace_before =
      sym (edge_agrees before from t0 x (λ g among. named g (among_left g before.globals _ among)) (λ a h. held_left before.below last.below a h)) ∙ goes_before in
      let body_is : run small inner at1 body t ≡ Falls u trace_body = sym (body_agrees at1 t p after le slots al size fit known m is) ∙ goes_body in
      let last_is : run small inner at2 last.pieces u ≡ o =
      sym (edge_agrees last at2 u y (λ g among. named g (among_right g before.globals _ (among_right g (globals_in first) last.globals among))) (λ a h. held_right before.below last.below a h)) in
      let whole_is : run small inner from whole t0 ≡ with_trace trace_before (with_trace trace_body o) =
      run-followed small inner before.pieces (followed body last.pieces) from t0
      ∙ ap (λ z. then_run z (run small inner at1 (followed body last.pieces))) first_is
      ∙ ap (with_trace trace_before) (run-followed small inner body last.pieces at1 t ∙ ap (λ z. then_run z (run small inner at2 last.pieces)) body_is ∙ ap (with_trace trace_body) last_is) in
      let traced : HasTrace (run small inner from whole t0) (trace_before ++ (trace_body ++ trace_last)) =
      subst (λ z. HasTrace z (trace_before ++ (trace_body ++ trace_last))) (sym whole_is) (with_traced _ _ trace_before (with_traced o trace_last trace_body goes_last)) in
      let kept : Holds (IsIn code ranges) Any (run small inner from whole t0) =
      keeps_in code ranges small inner (confined_confines ranges s.guard) whole from (λ a ge lt. held_by (extent_of from whole) code a (inl refl) ge lt)
      (native_joined IsNative before.pieces (followed body last.pieces) x.native (native_joined IsNative body last.pieces (each_steps IsNative emits_native e.parts n first) y.native))
      (calls_joined Kept before.pieces (followed body last.pieces) (free_any Kept before.pieces x.free)
      (calls_joined Kept body last.pieces
      (steps_call Kept e.parts n first
      (λ f among v j. let next = reached known fit f among in
      subst (λ q. Holds (IsIn code ranges) Any (inner q v)) (sym (ap (λ (q : Parts). q.callee f) st_.parts_are ∙ st_.task.callees f next.callable))
      (calls_keep e s gs parts cs phase c routines total st_ code ranges total (omega arith) f next v)))
      (free_any Kept last.pieces y.free)))
      t0 in
      let steps_in : AllSteps (IsIn code ranges) (trace_before ++ (trace_body ++ trace_last)) = held_of (IsIn code ranges) (run small inner from whole t0) _ traced kept in
      let w = scope_weight e.plant lines (list_all (is_roomy e.plant lines) (lines_of e.plant.line ranges)) in
      let weighs = scope_weighs e.plant lines (list_all (is_roomy e.plant lines) (lines_of e.plant.line ranges)) in
      let heavy : Within (weight_of w) (path_weight e w from (passage_span e n before first last)) (run small inner from whole t0) =
      run_in w weighs small inner _ (called_weigh e s gs parts cs phase c routines total st_ (confined_to ranges s.guard) w weighs) whole from t0 in
      divides_together e.plant (passage_charge e n from before first last) lines (trace_before ++ (trace_body ++ trace_last))
      (all_kept (IsIn code ranges) (KeepsTo e.plant.line lines) (λ d h. line_kept e.plant.line code ranges d st_.line h) _ steps_in)
      (all_kept (IsIn code ranges) StaysOn (λ d h. h.stays) _ steps_in)
      (scope_charged e.plant st_.line lines code ranges (path_weight e w from (passage_span e n before first last)) _ steps_in (weight_within (weight_of w) _ _ _ traced heavy))

  -- or stand by their parts
  pub passage_divides : (t0 t u : TaskState) (p after : ProgramState) (trace_before trace_body trace_last : List Did) →
      EdgeGoes s gs may k before from t0 → run s calls from before.pieces t0 ≡ Falls t trace_before →
      count ≤ n → n + counters_in first ≤ k.slots → (from + size_of before.pieces) % 4 ≡ 0 → from + size_of before.pieces + size_of body < 2 ^ 32 →
      StepsFit gs parts cs phase count under first → ((f : ℕ) → IsAmong f (callees_in first) → f < total) →
      Matches s gs k phase count p t → run_source may (calls_below limits routines total) first p ≡ Ok after → run s calls (from + size_of before.pieces) body t ≡ Falls u trace_body →
      EdgeGoes s gs may k last (from + size_of before.pieces + size_of body) u → HasTrace (run s calls (from + size_of before.pieces + size_of body) last.pieces u) trace_last →
      Divides e.plant (least e n (from + size_of before.pieces) first) trace_body → Divides e.plant (passage e n from before first last) (trace_before ++ (trace_body ++ trace_last))
  passage_divides t0 t u p after trace_before trace_body trace_last x goes_before le slots al size fit known m is goes_body y goes_last quiet_body =
      let at1 = from + size_of before.pieces in
      let all = trace_before ++ (trace_body ++ trace_last) in
      let a : Divides e.plant (own e before.pieces) trace_before = subst (RunDivides e.plant (own e before.pieces)) goes_before (own_divides e.plant s calls before.pieces x.free x.native from t0) in
      let b : Divides e.plant (own e last.pieces) trace_last = divides_of (own e last.pieces) _ trace_last goes_last (own_divides e.plant s calls last.pieces y.free y.native (at1 + size_of body) u) in
      let apart_ : Divides e.plant (passage_apart e n from before first last) all =
      divides_more e.plant (own e before.pieces + (least e n at1 first + own e last.pieces)) _ all (moved _ _ _)
      (divides_join e.plant _ _ trace_before (trace_body ++ trace_last) a (divides_join e.plant _ _ trace_body trace_last quiet_body b)) in
      lesser e.plant (passage_charge e n from before first last) (passage_apart e n from before first last) (Falls t0 all)
      (passage_scope t0 t u p after trace_before trace_body trace_last x goes_before le slots al size fit known m is goes_body y goes_last) apart_ where
        moved : (a b c : ℕ) → a + (b + c) ≤ a + b + c
        moved a b c = omega arith

        divides_of : (m : ℕ) (o : Ending) (steps : List Did) → HasTrace o steps → RunDivides e.plant m o → Divides e.plant m steps
        divides_of m (Falls v trace) steps h d = subst (Divides e.plant m) h d
        divides_of m (Returns back v trace) steps h d = subst (Divides e.plant m) h d
        divides_of m Stuck steps h d = absurd h
