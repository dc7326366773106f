-- Lists of statements run in scopes that are charged no more than their least charge.
use Rattle.std.proofs.Common.{◌≡◌, ◌≢◌, ℕ, zero, suc, ◌+◌, ◌-◌, ◌*◌, ◌%◌, ◌^◌, ◌<◌, ◌≤◌, refl, ap, ◌∙◌, sym, subst, arith, cond, eqb, eq-eqb, not, true, false, Bool, List, [], ◌∷◌, ◌++◌}
use Rattle.std.proofs.Common.{inl, inr, ◌⊎◌, length, max, Option, Ok}
use Rattle.prem_wcet_laws.proofs.Prelude.{words-followed, choose_both, Pieces, no_pieces, straight, either, repeat, call_to, followed, words, size_of, branch_of, skip_words, skip_at}
use Rattle.prem_wcet_laws.proofs.Prelude.{other_at, either_end, test_at, back_at, repeat_end, jump_to, EachPiece, Setting, Calls, Ending, Falls, Returns, Stuck, with_trace, then_run, called}
use Rattle.prem_wcet_laws.proofs.Prelude.{control, test_holds, taken_steps, other_steps, skip_steps, linked, run, Same, Test, each_arguments, each_bound, each_count, each_counter}
use Rattle.prem_wcet_laws.proofs.Prelude.{each_first, each_step, each_steps, each_target, each_ten, each_turn, puts_give, reg_same, reg_other, reg_words, constant_puts, tested, loop_of}
use Rattle.prem_wcet_laws.proofs.Prelude.{goes_then, before, after as after_none, then_ok, same_ok, ok_of, Gave, gave, silent, counter_matches, lowered, headed as bound_headed, passed}
use Rattle.prem_wcet_laws.proofs.Prelude.{values_length, step_ok, number_same, word_back, widen, evaluated, still, changed, slot_falls, quiet_constant, steps_end, functions_run, Globals}
use Rattle.prem_wcet_laws.proofs.Prelude.{Stack, Ground, Fits, Callees, StepsFit, with_globals, CalleesAt, Matches, slot_at, IsKept, ArgumentsStand, at_frame, Codes, code_calls}
use Rattle.prem_wcet_laws.proofs.Prelude.{with_register, TaskState, Did, Phase, job_weight, counters_in, Parts, load_slot, store_slot, bound_test, step_code, count_code, turn_code}
use Rattle.prem_wcet_laws.proofs.Prelude.{argument_code, target_code, steps_code, only, constant, nonzero, term_code, Access, and_then, truth_of, IsAmong, callees_in, Term, Steps, Done}
use Rattle.prem_wcet_laws.proofs.Prelude.{SetLocal, SetScalar, SetElement, Output, Input, If, For, While, Call, Routine, Limits, calls_below, ProgramState, value, values, with_local}
use Rattle.prem_wcet_laws.proofs.Prelude.{with_output, take_input, store, choose, holds, in_bound, int_local, loop_test, loop_step, counting, bounded, with_target, Place, Divides}
use Rattle.prem_wcet_laws.proofs.Prelude.{RunDivides, is_held, IsNative, own, own_jump, own_turns, own_choice, term_of, bound_code, first_code, counter_code, turn_of, taken_place}
use Rattle.prem_wcet_laws.proofs.Prelude.{other_place, body_place, called_least, single, apart, least, Works, StepsDivide, Stands, ScopeRun, Scene, fact_of, charge, data_ranges, span_of}
use Rattle.prem_wcet_laws.proofs.Prelude.{globals_in, number_at, put_number, value_in, truth, Int, eqb-suc-zero, flat_map, map, slice_index}
use Rattle.prem_code_laws.proofs.GenLawsLemmas.Counting.{headed, stepped, tested as counted}
use Rattle.prem_syntax.specs.Expressions.{Outcome}
use Rattle.prem_syntax.specs.Statements.{run as run_source}
use Rattle.prem_wcet_laws.proofs.Alone.{CallFree, own_divides, control_divides}
use Rattle.prem_wcet_laws.proofs.Calls.{among_left, among_right, joined, term_calls, arguments_call, target_calls}
use Rattle.prem_wcet_laws.proofs.Divide.{divides_join, divides_more, divides_none, divides_together, run_more, run_with}
use Rattle.prem_wcet_laws.proofs.Held.{held_left, held_right}
use Rattle.prem_wcet_laws.proofs.OneScope.{steps_callable, steps_are_scopes}
use Rattle.prem_wcet_laws.proofs.Sequence.{any_then, nothing_then, seq, lesser, Part, turns_divide}
use Rattle.prem_wcet_laws.proofs.Shape.{followed-assoc, first_local, first_scalar, first_element, first_output, first_input, first_if, first_for, first_while, first_call}
use Rattle.prem_wcet_laws.proofs.Takes.{emits_native}

-- ---- members of the lists of callees

among_cases : (n : ℕ) (xs ys : List ℕ) → IsAmong n (xs ++ ys) → IsAmong n xs ⊎ IsAmong n ys
among_cases n [] ys h = inr h
among_cases n (x ∷ xs) ys (inl e) = inl (inl e)
among_cases n (x ∷ xs) ys (inr h) = by (among_cases n xs ys h) where
  by : IsAmong n xs ⊎ IsAmong n ys → IsAmong n (x ∷ xs) ⊎ IsAmong n ys
  by (inl a) = inl (inr a)
  by (inr b) = inr b

-- of a statement alone, and with others behind it
among_loop : (xs ys : List ℕ) (n : ℕ) → IsAmong n (xs ++ []) → IsAmong n (xs ++ ys)
among_loop xs ys n h = by (among_cases n xs [] h) where
  by : IsAmong n xs ⊎ IsAmong n [] → IsAmong n (xs ++ ys)
  by (inl a) = among_left n xs ys a
  by (inr b) = absurd b

among_choice : (xs ys zs : List ℕ) (n : ℕ) → IsAmong n (xs ++ (ys ++ [])) → IsAmong n (xs ++ (ys ++ zs))
among_choice xs ys zs n h = by (among_cases n xs (ys ++ []) h) where
  by : IsAmong n xs ⊎ IsAmong n (ys ++ []) → IsAmong n (xs ++ (ys ++ zs))
  by (inl a) = among_left n xs (ys ++ zs) a
  by (inr b) = among_right n xs (ys ++ zs) (among_loop ys zs n b)

among_call : (zs : List ℕ) (f n : ℕ) → IsAmong n (f ∷ []) → IsAmong n (f ∷ zs)
among_call zs f n (inl e) = inl e
among_call zs f n (inr b) = absurd b

-- ---- statements that call nothing need no stack below their frame

append_none : (xs ys : List ℕ) → xs ++ ys ≡ [] → (xs ≡ []) × (ys ≡ [])
append_none [] ys e = (refl, e)
append_none (x ∷ xs) ys e = cc

pub fit_alone : (gs : Globals) (parts : Parts) (cs : Callees) (phase : Phase) (count under : ℕ) (steps : Steps) → callees_in steps ≡ [] →
    StepsFit gs parts cs phase count under steps → StepsFit gs parts cs phase count 0 steps
fit_alone gs parts cs phase count under Done e fit = tt
fit_alone gs parts cs phase count under (SetLocal at k value rest) e fit = (fit.0, (fit.1.0, fit_alone gs parts cs phase count under rest e fit.1.1))
fit_alone gs parts cs phase count under (SetScalar at g ty value rest) e fit = (fit.0, (fit.1.0, fit_alone gs parts cs phase count under rest e fit.1.1))
fit_alone gs parts cs phase count under (SetElement at g ty index value rest) e fit = (fit.0, (fit.1.0, (fit.1.1.0, fit_alone gs parts cs phase count under rest e fit.1.1.1)))
fit_alone gs parts cs phase count under (Output at value rest) e fit = (fit.0, (fit.1.0, fit_alone gs parts cs phase count under rest e fit.1.1))
fit_alone gs parts cs phase count under (Input at k rest) e fit = (fit.0, (fit.1.0, fit_alone gs parts cs phase count under rest e fit.1.1))
fit_alone gs parts cs phase count under (If at condition taken other rest) e fit =
    let a = append_none (callees_in taken) (callees_in other ++ callees_in rest) e in
    let b = append_none (callees_in other) (callees_in rest) a.1 in
    (fit.0, (fit_alone gs parts cs phase count under taken a.0 fit.1.0, (fit_alone gs parts cs phase count under other b.0 fit.1.1.0, fit_alone gs parts cs phase count under rest b.1 fit.1.1.1)))
fit_alone gs parts cs phase count under (For at k low closed high step turns body rest) e fit =
    let a = append_none (callees_in body) (callees_in rest) e in
    (fit.0, (fit.1.0, (fit.1.1.0, (fit.1.1.1.0, (fit_alone gs parts cs phase count under body a.0 fit.1.1.1.1.0, fit_alone gs parts cs phase count under rest a.1 fit.1.1.1.1.1)))))
fit_alone gs parts cs phase count under (While at turns condition body rest) e fit =
    let a = append_none (callees_in body) (callees_in rest) e in
    (fit.0, (fit.1.0, (fit_alone gs parts cs phase count under body a.0 fit.1.1.0, fit_alone gs parts cs phase count under rest a.1 fit.1.1.1)))
fit_alone gs parts cs phase count under (Call at target f arguments rest) e fit = cc

-- the frame at work with no stack below it
abbrev pub frame_alone : Stack → Stack
frame_alone k = record { low = k.sp; top = k.top; sp = k.sp; slots = k.slots }

module _ (s : Setting) (gs : Globals) (may : Access) (k : Stack) where
  pub ground_alone : Ground s gs may k → Ground s gs may (frame_alone k)
  ground_alone g = record {
    target = g.target;
    small = g.small;
    ends = g.ends;
    aligned = g.aligned;
    floor = omega arith;
    room = g.room;
    loads = λ a le lt. g.loads a (omega (arith, g.floor, le)) lt;
    stores = λ a le lt. g.stores a (omega (arith, g.floor, le)) lt;
    elements = λ h j lt. let x = g.elements h j lt in record { aligned = x.aligned; within = x.within; outside = higher _ _ g.floor x.outside };
    allowed = g.allowed;
    apart = g.apart;
  } where
    higher : (a n : ℕ) → k.low ≤ k.sp → (a + n ≤ k.low) ⊎ (k.top ≤ a) → (a + n ≤ k.sp) ⊎ (k.top ≤ a)
    higher a n floor (inl h) = inl (omega (arith, floor, h))
    higher a n floor (inr h) = inr h

  pub matches_alone : (phase : Phase) (count : ℕ) (st : ProgramState) (t : TaskState) → Matches s gs k phase count st t → Matches s gs (frame_alone k) phase count st t
  matches_alone phase count st t m = record {
    globals = m.globals;
    locals = record { fits = m.locals.fits; stands = m.locals.stands; word = m.locals.word };
    words = m.words;
    stack = m.stack;
    count_is = m.count_is;
    phase_is = m.phase_is;
    left = m.left;
    used = m.used;
    outputs = m.outputs;
    inputs = m.inputs;
  }

module _ (e : Scene) (s : Setting) (gs : Globals) (parts : Parts) (cs : Callees) (phase : Phase) (c : Codes) (routines : List Routine) (total : ℕ) (st_ : Stands e s gs parts cs phase c routines total)
    (may : Access) (limits : Limits) (calls : Calls) (k : Stack) (works : Works e s gs parts cs phase c routines total may limits calls k) (count under : ℕ) (space : k.low + under ≤ k.sp) where
  abbrev source : Rattle.prem_syntax.specs.Statements.Calls
  source = calls_below limits routines total

  abbrev code : ℕ → Steps → Pieces
  code n steps = steps_code e.parts n steps

  abbrev Run : (most at : ℕ) → Pieces → TaskState → Type 0
  Run most at ps t = RunDivides e.plant most (run s calls at ps t)

  -- ---- what the code does

  pub callees_run : CalleesAt s gs may k calls parts cs phase source
  callees_run f callable =
      let h = at_frame s gs may k phase (code_calls s c total (parts.callee f)) (parts.link f) (parts.frame f) (cs.depth f) (cs.params f) (cs.returns f) (λ ws q. source may f ws q)
      (functions_run s gs parts cs phase c limits routines st_.all may st_.task total st_.some f callable) in
      record {
        runs = λ count q ws t back word after ground m at_link al small floor len args is.
            let b = h.runs count q ws t back word after ground m at_link al small floor len args is in
            record {
              to = b.to;
              trace = b.trace;
              goes = subst (λ o. Same o (calls (parts.callee f) t)) b.goes (works.same_calls (parts.callee f) t);
              marks = b.marks;
              matches = b.matches;
              result = b.result;
              kept = b.kept;
            };
      }

  -- statements of which a list begins
  pub record Here (n at : ℕ) (steps : Steps) (t : TaskState) (st after : ProgramState) : Type 0 where
    pub slots : count ≤ n
    pub room : n + counters_in steps ≤ k.slots
    pub aligned : at % 4 ≡ 0
    pub size : at + size_of (code n steps) < 2 ^ 32
    pub fit : StepsFit gs parts cs phase count under steps
    pub known : (f : ℕ) → IsAmong f (callees_in steps) → f < total
    pub matches : Matches s gs k phase count st t
    pub runs : run_source may source steps st ≡ Ok after

  -- where they fall to
  pub record Fell (lo hi : ℕ) (o : Ending) (t : TaskState) (after : ProgramState) : Type 0 where
    pub to : TaskState
    pub trace : List Did
    pub goes : o ≡ Falls to trace
    pub matches : Matches s gs k phase count after to
    pub kept : (a : ℕ) → IsKept k count lo hi a → to.view a ≡ t.view a

  pub fell : (n at : ℕ) (steps : Steps) (t : TaskState) (st after : ProgramState) → Here n at steps t st after → Fell n (n + counters_in steps) (run s calls at (code n steps) t) t after
  fell n at steps t st after h =
      let own_code : code n steps ≡ steps_code (with_globals gs parts) n steps = ap (λ q. steps_code q n steps) st_.parts_are in
      let d = steps_end s calls gs may k works.ground parts cs phase source callees_run count under space steps n at t st after h.slots h.room
      h.aligned (subst (λ q. at + size_of q < 2 ^ 32) own_code h.size) h.fit h.matches h.runs in
      record { to = d.to; trace = d.trace; goes = ap (λ q. run s calls at q t) own_code ∙ d.goes; matches = d.matches; kept = d.kept }

  -- they are one scope
  scoped : (n at : ℕ) (steps : Steps) (t : TaskState) (st after : ProgramState) → Here n at steps t st after → ScopeRun e s calls n at steps t
  scoped n at steps t st after h = by (callees_in steps) refl where
    alone : callees_in steps ≡ [] → ScopeRun e s calls n at steps t
    alone none =
        steps_are_scopes e s gs parts cs phase c routines total st_ may (frame_alone k) limits calls (ground_alone s gs may k works.ground)
        works.same_calls count 0 (omega arith) steps n at t st after h.slots h.room h.aligned h.size
        (fit_alone gs parts cs phase count under steps none h.fit) h.known (λ a le lt. held_left e.stack _ a (works.frame a le lt)) (matches_alone s gs may k phase count st t h.matches) h.runs

    calling : (f : ℕ) (fs : List ℕ) → callees_in steps ≡ f ∷ fs → ScopeRun e s calls n at steps t
    calling f fs some =
        steps_are_scopes e s gs parts cs phase c routines total st_ may k limits calls works.ground works.same_calls count under space steps n at t st
        after h.slots h.room h.aligned h.size h.fit h.known stack h.matches h.runs where
          below : (a : ℕ) → k.low ≤ a → a < k.sp → is_held (data_ranges e (span_of e n steps)) a ≡ true
          below a le lt =
              held_right e.stack _ a (held_right (map e.global (globals_in steps)) (flat_map (λ f. (fact_of e f).touched) (callees_in steps)) a
              (subst (λ (xs : List ℕ). is_held (flat_map (λ f. (fact_of e f).touched) xs) a ≡ true) (sym some)
              (held_left (fact_of e f).touched (flat_map (λ f. (fact_of e f).touched) fs) a
              (works.below f (h.known f (subst (IsAmong f) (sym some) (inl refl))) (steps_callable gs parts cs phase count under steps h.fit f (subst (IsAmong f) (sym some) (inl refl))) a le lt))))

          split : (a : ℕ) → (a < k.sp) ⊎ (k.sp ≤ a)
          split a = grind arith

          stack : (a : ℕ) → k.low ≤ a → a < k.top → is_held (data_ranges e (span_of e n steps)) a ≡ true
          stack a le lt = each (split a) where
            each : (a < k.sp) ⊎ (k.sp ≤ a) → is_held (data_ranges e (span_of e n steps)) a ≡ true
            each (inl less) = below a le less
            each (inr more) = held_left e.stack _ a (works.frame a more lt)

    by : (xs : List ℕ) → callees_in steps ≡ xs → ScopeRun e s calls n at steps t
    by [] is = alone is
    by (f ∷ fs) is = calling f fs is

  scope_divides : (n at : ℕ) (steps : Steps) (t : TaskState) (st after : ProgramState) → Here n at steps t st after → Run (charge e at (span_of e n steps)) at (code n steps) t
  scope_divides n at steps t st after h =
      let x = scoped n at steps t st after h in
      subst (RunDivides e.plant (charge e at (span_of e n steps))) (sym x.goes) (divides_together e.plant _ _ x.trace x.keeps x.stays x.charged)

  -- a statement that has no others inside
  single_divides : (n at : ℕ) (steps : Steps) (t : TaskState) (st after : ProgramState) → CallFree (code n steps) → Here n at steps t st after → Run (single e n at steps) at (code n steps) t
  single_divides n at steps t st after free h =
      lesser e.plant _ _ (run s calls at (code n steps) t) (scope_divides n at steps t st after h) (own_divides e.plant s calls (code n steps) free (each_steps IsNative emits_native e.parts n steps) at t)

  abbrev Known : Steps → Type 0
  Known steps = (f : ℕ) → IsAmong f (callees_in steps) → f < total

  -- ---- statements one behind another

  shorter : (at : ℕ) (whole first rest : Pieces) → whole ≡ followed first rest → at + size_of whole < 2 ^ 32 → at + size_of first < 2 ^ 32
  shorter at whole first rest is lt = let w : words whole ≡ words first + words rest = ap words is ∙ words-followed first rest in omega (arith, w, lt)

  first_here : (n at n2 : ℕ) (all first rest : Steps) → code n all ≡ followed (code n first) (code n2 rest) → (t : TaskState) (st st1 after : ProgramState) → Here n at all t st after →
      n + counters_in first ≤ k.slots → StepsFit gs parts cs phase count under first → Known first → run_source may source first st ≡ Ok st1 → Here n at first t st st1
  first_here n at n2 all first rest is t st st1 after h room fit known runs =
      record { slots = h.slots; room = room; aligned = h.aligned; size = shorter at (code n all) (code n first) (code n2 rest) is h.size; fit = fit; known = known; matches = h.matches; runs = runs }

  rest_here : (n at n2 : ℕ) (all first rest : Steps) → code n all ≡ followed (code n first) (code n2 rest) → (t u : TaskState) (st st1 after : ProgramState) → Here n at all t st after →
      n ≤ n2 → n2 + counters_in rest ≤ k.slots → StepsFit gs parts cs phase count under rest → Known rest →
      run_source may source rest st1 ≡ Ok after → Matches s gs k phase count st1 u → Here n2 (at + size_of (code n first)) rest u st1 after
  rest_here n at n2 all first rest is t u st st1 after h le room fit known runs m =
      let w : words (code n all) ≡ words (code n first) + words (code n2 rest) = ap words is ∙ words-followed (code n first) (code n2 rest) in
      record {
        slots = further _ _ _ h.slots le;
        room = room;
        aligned = fourth at (words (code n first)) h.aligned;
        size = sum at _ _ _ w h.size;
        fit = fit;
        known = known;
        matches = m;
        runs = runs;
      } where
        further : (a b c : ℕ) → a ≤ b → b ≤ c → a ≤ c
        further a b c h k = omega (arith, h, k)

        fourth : (a b : ℕ) → a % 4 ≡ 0 → (a + 4 * b) % 4 ≡ 0
        fourth a b h = omega (arith, h)

        sum : (a w b c : ℕ) → w ≡ b + c → a + 4 * w < 2 ^ 32 → a + 4 * b + 4 * c < 2 ^ 32
        sum a w b c e lt = omega (arith, e, lt)

  join : (x y n at n2 : ℕ) (all first rest : Steps) → code n all ≡ followed (code n first) (code n2 rest) →
      (t : TaskState) (st st1 after : ProgramState) → Here n at all t st after → Here n at first t st st1 →
      n ≤ n2 → n2 + counters_in rest ≤ k.slots → StepsFit gs parts cs phase count under rest → Known rest → run_source may source rest st1 ≡ Ok after →
      Run x at (code n first) t → ((u : TaskState) → Here n2 (at + size_of (code n first)) rest u st1 after → Run y (at + size_of (code n first)) (code n2 rest) u) → Run (x + y) at (code n all) t
  join x y n at n2 all first rest is t st st1 after h one le room fit known runs run_first again =
      let f = fell n at first t st st1 one in
      seq e.plant s calls x y (code n all) (code n first) (code n2 rest) is at t f.to f.trace f.goes run_first
      (again f.to (rest_here n at n2 all first rest is t f.to st st1 after h le room fit known runs f.matches))

  -- ---- code without calls

  term_free : (r : ℕ) (x : Term) → CallFree (term_of e r x)
  term_free r x = term_calls (λ part. ⊥) e.parts.target e.parts.global r x

  pub free_then : (a b : Pieces) → CallFree a → CallFree b → CallFree (followed a b)
  free_then a b h k = joined (λ part. ⊥) a b h k

  pub own_run : (ps : Pieces) → CallFree ps → EachPiece IsNative ps → (at : ℕ) (t : TaskState) → Run (own e ps) at ps t
  own_run ps free native at t = own_divides e.plant s calls ps free native at t

  gave_term : (x : Term) (r at : ℕ) (t : TaskState) (st : ProgramState) (w : ℕ) → 10 ≤ r → Matches s gs k phase count st t → Fits gs count r x →
      value may st x ≡ Ok w → Gave s calls at (term_of e r x) t r w
  gave_term x r at t st w ten m fit is =
      subst (λ (q : Parts). Gave s calls at (term_code q.target q.global r x) t r w) (sym st_.parts_are) (evaluated s calls gs may k works.ground phase count x r at t st w ten m fit is)

  -- ---- steps of branches and jumps

  branch_step : (at : ℕ) (test : Test) (t : TaskState) → Divides e.plant (job_weight e.plant (branch_of test)) (taken_steps at test t)
  branch_step at test t = control_divides e.plant at (branch_of test) t (job_weight e.plant (branch_of test)) refl (omega arith)

  jump_step : (link at to : ℕ) (t : TaskState) → Divides e.plant (own_jump e) (control at (jump_to link at to) t)
  jump_step link at to t = control_divides e.plant at (jump_to link at to) t (own_jump e) refl (omega arith)

  other_step : (at : ℕ) (test : Test) (to : ℕ) (t : TaskState) → Divides e.plant (job_weight e.plant (branch_of test) + own_jump e) (other_steps at test to t)
  other_step at test to t = divides_join e.plant _ _ _ _ (branch_step at test t) (jump_step 0 (at + 4) to t)

  skip_step : (n from to : ℕ) (t : TaskState) → Divides e.plant (n * own_jump e) (skip_steps n from to t)
  skip_step zero from to t = divides_more e.plant 0 _ [] (omega arith) (divides_none e.plant)
  skip_step (suc n) from to t = divides_more e.plant (own_jump e) _ _ (more n (own_jump e)) (jump_step 0 from to t) where
    more : (n j : ℕ) → j ≤ suc n * j
    more n j = omega arith

  -- ---- choices

  choice_divides : (at : ℕ) (test : Test) (taken other : Pieces) (t : TaskState) (x y : ℕ) → (test_holds test t ≡ true → Run x (at + 8) taken t) →
      (test_holds test t ≡ false → Run y (other_at at taken other) other t) →
      Run (own_choice e test other x y) at (either test taken other no_pieces) t
  choice_divides at test taken other t x y on off =
      let b = job_weight e.plant (branch_of test) in
      let j = own_jump e in
      let n = skip_words other * j in
      let skip = skip_at at taken in
      let oth = other_at at taken other in
      let end = either_end at taken other in
      nothing_then e.plant _ _
      (choose_both (test_holds test t)
      (λ t. with_trace (taken_steps at test t) (then_run (run s calls (at + 8) taken t) (λ t. Falls t (skip_steps (skip_words other) skip end t))))
      (λ t. with_trace (other_steps at test oth t) (run s calls oth other t))
      t (RunDivides e.plant (b + max (x + n) (j + y)))
      (λ is. run_more e.plant (b + (x + n)) _ _ (omega arith) (run_with e.plant b (x + n) (taken_steps at test t) _ (branch_step at test t)
      (any_then e.plant x n (run s calls (at + 8) taken t) _ (on is) (λ u. skip_step (skip_words other) skip end u))))
      (λ is. run_more e.plant ((b + j) + y) _ _ (omega arith) (run_with e.plant (b + j) y (other_steps at test oth t) (run s calls oth other t) (other_step at test oth t) (off is))))

  if_divides : (n at : ℕ) (pl : _) (condition : Term) (taken other : Steps) (t : TaskState) (st after : ProgramState) (x y : ℕ) → Here n at (If pl condition taken other Done) t st after →
      ((u : TaskState) (q : ProgramState) → Here n (taken_place at (term_of e 10 condition)) taken u st q → Run x (taken_place at (term_of e 10 condition)) (code n taken) u) →
      ((u : TaskState) (q : ProgramState) → Here (n + counters_in taken) (other_place at (term_of e 10 condition) (code n taken) (code (n + counters_in taken) other)) other u st q →
      Run y (other_place at (term_of e 10 condition) (code n taken) (code (n + counters_in taken) other)) (code (n + counters_in taken) other) u) →
      Run (own e (term_of e 10 condition) + own_choice e (nonzero 10) (code (n + counters_in taken) other) x y) at (code n (If pl condition taken other Done)) t
  if_divides n at pl condition taken other t st after x y h on off =
      let b = then_ok (holds may condition st) _ after h.runs in
      let v = then_ok (value may st condition) _ b.0 b.1.0 in
      let chosen = then_ok (choose b.0 (run_source may source taken) (run_source may source other) st) (run_source may source Done) after b.1.1 in
      let ps = term_of e 10 condition in
      let tk = code n taken in
      let ot = code (n + counters_in taken) other in
      let g = gave_term condition 10 at t st v.0 (omega arith) h.matches h.fit.0 v.1.0 in
      let u : TaskState = record t { registers = g.registers } in
      let m = still s calls gs may k works.ground phase count at ps t st 10 v.0 (omega arith) h.matches g in
      let at1 = at + size_of ps in
      let w = words-followed ps (either (nonzero 10) tk ot no_pieces) in
      let test_is : test_holds (nonzero 10) u ≡ b.0 = tested 10 u v.0 g.words g.value ∙ same_ok _ b.0 v.1.1 in
      let size : at + 4 * words (code n (If pl condition taken other Done)) < 2 ^ 32 = h.size in
      let aligned : at % 4 ≡ 0 = h.aligned in
      seq e.plant s calls _ _ (code n (If pl condition taken other Done)) ps (either (nonzero 10) tk ot no_pieces) refl at t u g.trace g.goes
      (own_run ps (term_free 10 condition) (each_ten IsNative emits_native e.parts.target e.parts.global condition) at t)
      (choice_divides at1 (nonzero 10) tk ot u x y
      (λ is. on u chosen.0 (record {
        slots = h.slots;
        room = omega (arith, h.room);
        aligned = omega (arith, aligned);
        size = omega (arith, size, w);
        fit = h.fit.1.0;
        known = λ f is. h.known f (among_left f (callees_in taken) (callees_in other ++ []) is);
        matches = m;
        runs = subst (λ b. choose b (run_source may source taken) (run_source may source other) st ≡ Ok chosen.0) (sym test_is ∙ is) chosen.1.0;
      }))
      (λ is. off u chosen.0 (record {
        slots = omega (arith, h.slots);
        room = omega (arith, h.room);
        aligned = omega (arith, aligned);
        size = omega (arith, size, w);
        fit = h.fit.1.1.0;
        known = λ f is. h.known f (among_right f (callees_in taken) (callees_in other ++ []) (among_left f (callees_in other) [] is));
        matches = m;
        runs = subst (λ b. choose b (run_source may source taken) (run_source may source other) st ≡ Ok chosen.0) (sym test_is ∙ is) chosen.1.0;
      })))

  -- ---- counting loops

  -- where a turn begins, and where its test stands
  record Turn (line i step : ℕ) (closed : Bool) (high : Term) (body : Steps) (fin : ProgramState) (r : ℕ) (u : TaskState) : Type 0 where
    now : ProgramState
    matches : Matches s gs k phase count now u
    runs : counting line r (loop_test may i closed high) (λ q. and_then (run_source may source body q) (loop_step line i step)) now ≡ Ok fin

  record Asked (line i step : ℕ) (closed : Bool) (high : Term) (body : Steps) (fin : ProgramState) (r : ℕ) (u : TaskState) : Type 0 where
    now : ProgramState
    bound : ℕ
    matches : Matches s gs k phase count now u
    ten : u.registers 10 ≡ slice_index now.locals i
    eleven : u.registers 11 ≡ bound
    value_is : value may now high ≡ Ok bound
    runs : counting line r (loop_test may i closed high) (λ q. and_then (run_source may source body q) (loop_step line i step)) now ≡ Ok fin

  count_value : (line i : ℕ) (closed : Bool) (high : Term) (turn : ProgramState → Outcome ProgramState) (fin : ProgramState) (r : ℕ)
      (q : ProgramState) → counting line r (loop_test may i closed high) turn q ≡ Ok fin → (hv : ℕ) × (value may q high ≡ Ok hv)
  unfolding counting
  count_value line i closed high turn fin zero q is =
      let x = then_ok (loop_test may i closed high q) _ fin is in
      let y = then_ok (value may q high) _ x.0 x.1.0 in
      (y.0, y.1.0)
  count_value line i closed high turn fin (suc r) q is =
      let x = then_ok (loop_test may i closed high q) _ fin is in
      let y = then_ok (value may q high) _ x.0 x.1.0 in
      (y.0, y.1.0)

  count_next : (line : ℕ) (test : ProgramState → Outcome Bool) (turn : ProgramState → Outcome ProgramState) (fin : ProgramState) (r : ℕ)
      (q : ProgramState) (b : Bool) → counting line (suc r) test turn q ≡ Ok fin → test q ≡ Ok b → b ≡ true →
      (q1 : ProgramState) × ((turn q ≡ Ok q1) × (counting line r test turn q1 ≡ Ok fin))
  unfolding counting
  count_next line test turn fin r q b is tests holding =
      let e1 : choose b (λ t. and_then (turn t) (counting line r test turn)) Ok q ≡ Ok fin =
      sym (ap (λ o. and_then o (λ go. choose go (λ t. and_then (turn t) (counting line r test turn)) Ok q)) tests) ∙ is in
      let e2 : and_then (turn q) (counting line r test turn) ≡ Ok fin = subst (λ b. choose b (λ t. and_then (turn t) (counting line r test turn)) Ok q ≡ Ok fin) holding e1 in
      then_ok (turn q) (counting line r test turn) fin e2

  for_divides : (n at : ℕ) (pl : Place) (i : ℕ) (low : Term) (closed : Bool) (high : Term) (step turns : ℕ) (body : Steps) (t : TaskState)
      (st after : ProgramState) (x : ℕ) → Here n at (For pl i low closed high step turns body Done) t st after →
      ((u : TaskState) (q q1 : ProgramState) → Here n (body_place at (first_code e i low) (bound_code e i high)) body u q q1 →
      Run x (body_place at (first_code e i low) (bound_code e i high)) (code n body) u) →
      Run (own e (first_code e i low) + own_turns e turns (bound_test closed) (own e (bound_code e i high)) (x + own e (only (step_code i step)))) at
      (code n (For pl i low closed high step turns body Done)) t
  for_divides n at pl i low closed high step turns body t st after x h again =
      let v = then_ok (value may st low) _ after h.runs in
      let turn = λ (q : ProgramState). and_then (run_source may source body q) (loop_step pl.line i step) in
      let y = then_ok (counting pl.line turns (loop_test may i closed high) turn (with_local i v.0 st)) (run_source may source Done) after v.1.1 in
      let first = first_code e i low in
      let head = bound_code e i high in
      let inner = followed (code n body) (only (step_code i step)) in
      let loop = repeat turns head (bound_test closed) inner no_pieces in
      let is : code n (For pl i low closed high step turns body Done) ≡ followed first loop = sym (followed-assoc (term_of e 10 low) (only (store_slot i ∷ [])) loop) in
      let at1 = at + size_of first in
      let at2 = test_at at1 head + 8 in
      let w1 = words-followed first loop in
      let w2 = words-followed (code n body) (only (step_code i step)) in
      let size : at + 4 * words (followed first loop) < 2 ^ 32 = subst (λ q. at + 4 * words q < 2 ^ 32) is h.size in
      let aligned : at % 4 ≡ 0 = h.aligned in
      let slots : count ≤ n = h.slots in
      let room : n + (counters_in body + 0) ≤ k.slots = h.room in
      let fits : count ≤ k.slots = omega arith in
      let one : Here n at (SetLocal pl i low Done) t st (with_local i v.0 st) = record {
        slots = slots;
        room = omega arith;
        aligned = aligned;
        size = shorter at (code n (For pl i low closed high step turns body Done)) first loop is h.size;
        fit = (h.fit.0, (h.fit.1.0, tt));
        known = λ f is. absurd is;
        matches = h.matches;
        runs = ap (λ o. and_then o (λ w. Ok (with_local i w st))) v.1.0;
      } in
      let f = fell n at (SetLocal pl i low Done) t st (with_local i v.0 st) one in
      let l = loop_of s calls at1 head (bound_test closed) inner in
      seq e.plant s calls _ _ (code n (For pl i low closed high step turns body Done)) first loop is at t f.to f.trace f.goes
      (own_run first (free_then (term_of e 10 low) _ (term_free 10 low) tt) (each_first IsNative emits_native e.parts.target e.parts.global i low) at t)
      (nothing_then e.plant _ _
      (turns_divide e.plant (own e head) (job_weight e.plant (branch_of (bound_test closed))) (x + own e (only (step_code i step))) (own_jump e) l
      (Turn pl.line i step closed high body y.0) (Asked pl.line i step closed high body y.0)
      (λ r u turn_here. (let hv = count_value pl.line i closed high turn y.0 r turn_here.now turn_here.runs in
      let d = headed s calls gs may k works.ground phase count n (n + counters_in body) fits (omega arith) i h.fit.0 at1 high u turn_here.now hv.0 turn_here.matches h.fit.1.1.0 hv.1 in
      let goes : run s calls at1 head u ≡ Falls (record u { registers = d.registers }) d.trace =
      subst (λ (q : Parts). run s calls at1 (straight (load_slot i ∷ []) (term_code q.target q.global 11 high)) u ≡ Falls (record u { registers = d.registers }) d.trace) (sym st_.parts_are) d.goes in
      record {
        to = record u { registers = d.registers };
        trace = d.trace;
        goes = goes;
        divides = subst (RunDivides e.plant (own e head)) goes (own_run head (term_free 11 high) (each_bound IsNative emits_native e.parts.target e.parts.global i high) at1 u);
        next = record { now = turn_here.now; bound = hv.0; matches = d.matches; ten = d.ten; eleven = d.eleven; value_is = hv.1; runs = turn_here.runs };
      }))
      (λ u. branch_step (test_at at1 head) (bound_test closed) u) (λ u. other_step (test_at at1 head) (bound_test closed) (repeat_end at1 head inner) u)
      (λ r u asked holding. (let in_it : in_bound closed (int_local i asked.now) (value_in Int asked.bound) ≡ true =
      sym (counted s calls gs may k works.ground phase count n (n + counters_in body) fits (omega arith) i h.fit.0 closed u
      (slice_index asked.now.locals i) asked.bound asked.ten asked.eleven) ∙ holding in
      let nx = count_next pl.line (loop_test may i closed high) turn y.0 r asked.now (in_bound closed (int_local i asked.now) (value_in Int asked.bound)) asked.runs
      (ap (λ o. and_then o (λ z. Ok (in_bound closed (int_local i asked.now) (value_in Int z)))) asked.value_is) in_it in
      let bd = then_ok (run_source may source body asked.now) (loop_step pl.line i step) nx.0 nx.1.0 in
      let here : Here n at2 body u asked.now bd.0 = record {
        slots = slots;
        room = omega arith;
        aligned = omega arith;
        size = omega (arith, size, w1, w2);
        fit = h.fit.1.1.1.1.0;
        known = λ f is. h.known f (among_left f (callees_in body) [] is);
        matches = asked.matches;
        runs = bd.1.0;
      } in
      let g = fell n at2 body u asked.now bd.0 here in
      let z = stepped s calls gs may k works.ground phase count n (n + counters_in body) fits (omega arith) i h.fit.0 (at2 + size_of (code n body)) step g.to bd.0 h.fit.1.1.1.0 g.matches in
      let goes = goes_then s calls (code n body) (only (step_code i step)) at2 u g.to z.to g.trace z.trace g.goes z.goes in
      record {
        to = z.to;
        trace = g.trace ++ z.trace;
        goes = goes;
        divides = subst (RunDivides e.plant (x + own e (only (step_code i step)))) goes
            (seq e.plant s calls _ _ inner (code n body) (only (step_code i step)) refl at2 u g.to g.trace g.goes (again u asked.now bd.0 here)
            (own_run (only (step_code i step)) tt (each_step IsNative emits_native i step) (at2 + size_of (code n body)) g.to));
        next = record {
          now = nx.0;
          matches = subst (λ q. Matches s gs k phase count q z.to)
              (step_ok s calls gs may k works.ground phase count n (n + counters_in body) fits (omega arith) i h.fit.0 pl.line step bd.0 nx.0 bd.1.1) z.matches;
          runs = nx.1.1;
        };
      }))
      (λ u. jump_step 0 (back_at at1 head inner) at1 u)
      turns f.to (record { now = with_local i v.0 st; matches = f.matches; runs = y.1.0 })))

  -- ---- bounded loops

  -- where a turn begins, with what its counter holds, and where its test stands
  record Left (number : ℕ) (condition : Term) (body : Steps) (fin : ProgramState) (r : ℕ) (u : TaskState) : Type 0 where
    now : ProgramState
    matches : Matches s gs k phase count now u
    counts : number_at u.view (slot_at k number) 4 ≡ r
    small : r < 2 ^ 32
    runs : bounded r (holds may condition) (run_source may source body) now ≡ Ok fin

  abbrev Further : (condition : Term) (body : Steps) (fin now : ProgramState) (m : ℕ) → Type 0
  Further condition body fin now m = (q1 : ProgramState) × ((run_source may source body now ≡ Ok q1) × (bounded m (holds may condition) (run_source may source body) q1 ≡ Ok fin))

  record Decided (number : ℕ) (condition : Term) (body : Steps) (fin : ProgramState) (r : ℕ) (u : TaskState) : Type 0 where
    now : ProgramState
    matches : Matches s gs k phase count now u
    counts : number_at u.view (slot_at k number) 4 ≡ r
    small : r < 2 ^ 32
    next : (m : ℕ) → r ≡ suc m → test_holds (nonzero 10) u ≡ true → Further condition body fin now m

  -- a truth that isn't 0
  truth_true : (b : Bool) → not (eqb (truth b) 0) ≡ true → b ≡ true
  truth_true true h = refl
  truth_true false h = cc

  bounded_next : (condition : Term) (body : Steps) (fin : ProgramState) (m : ℕ) (q : ProgramState) (w : ℕ) → value may q condition ≡ Ok w → not (eqb w 0) ≡ true →
      bounded (suc m) (holds may condition) (run_source may source body) q ≡ Ok fin → Further condition body fin q m
  unfolding bounded
  bounded_next condition body fin m q w val holding is =
      let f = λ (o : Outcome ℕ). and_then (and_then o (λ c. Ok (not (eqb c 0))))
      (λ go. choose go (λ t. and_then (run_source may source body t) (bounded m (holds may condition) (run_source may source body))) Ok q) in
      let e1 : choose (not (eqb w 0)) (λ t. and_then (run_source may source body t) (bounded m (holds may condition) (run_source may source body))) Ok q ≡ Ok fin = sym (ap f val) ∙ is in
      let e2 : and_then (run_source may source body q) (bounded m (holds may condition) (run_source may source body)) ≡ Ok fin =
      subst (λ b. choose b (λ t. and_then (run_source may source body t) (bounded m (holds may condition) (run_source may source body))) Ok q ≡ Ok fin) holding e1 in
      then_ok (run_source may source body q) (bounded m (holds may condition) (run_source may source body)) fin e2

  bounded_value : (condition : Term) (body : Steps) (fin : ProgramState) (m : ℕ) (q : ProgramState) →
      bounded (suc m) (holds may condition) (run_source may source body) q ≡ Ok fin → (w : ℕ) × (value may q condition ≡ Ok w)
  unfolding bounded
  bounded_value condition body fin m q is =
      let x = then_ok (holds may condition q) _ fin is in
      let y = then_ok (value may q condition) _ x.0 x.1.0 in
      (y.0, y.1.0)

  made : (n : ℕ) (condition : Term) (body : Steps) (fin : ProgramState) (at1 r : ℕ) (u : TaskState) (left : Left n condition body fin r u) (registers : ℕ → ℕ) (trace : List Did) →
      run s calls at1 (turn_code gs.target gs.part n condition) u ≡ Falls (record u { registers = registers }) trace → Matches s gs k phase count left.now (record u { registers = registers }) →
      ((m : ℕ) → r ≡ suc m → test_holds (nonzero 10) (record u { registers = registers }) ≡ true → Further condition body fin left.now m) →
      Part e.plant (own e (turn_of e n condition)) (run s calls at1 (turn_of e n condition) u) (Decided n condition body fin r)
  made n condition body fin at1 r u left registers trace goes matches next =
      let here : run s calls at1 (turn_of e n condition) u ≡ Falls (record u { registers = registers }) trace =
      subst (λ (q : Parts). run s calls at1 (turn_code q.target q.global n condition) u ≡ Falls (record u { registers = registers }) trace) (sym st_.parts_are) goes in
      record {
        to = record u { registers = registers };
        trace = trace;
        goes = here;
        divides = subst (RunDivides e.plant (own e (turn_of e n condition))) here
            (own_run (turn_of e n condition) (joined (λ part. ⊥) (term_of e 10 condition) _ (term_free 10 condition) tt, tt, tt)
            (each_turn IsNative emits_native e.parts.target e.parts.global n condition) at1 u);
        next = record { now = left.now; matches = matches; counts = left.counts; small = left.small; next = next };
      }

  asks : (n : ℕ) (condition : Term) (body : Steps) (fin : ProgramState) → Fits gs count 10 condition → count ≤ n → n < k.slots → (at1 r : ℕ) (u : TaskState) → Left n condition body fin r u →
      Part e.plant (own e (turn_of e n condition)) (run s calls at1 (turn_of e n condition) u) (Decided n condition body fin r)
  asks n condition body fin fit slots inside at1 zero u left =
      let d = bound_headed s calls gs may k works.ground phase count n (suc n) n slots inside (omega arith) (omega arith) at1 condition u left.now 0 0 left.matches left.counts left.small fit refl in
      made n condition body fin at1 zero u left d.registers d.trace d.goes d.matches (λ m is holding. absurd (never m is)) where
        never : (m : ℕ) → 0 ≡ suc m → ⊥
        never m is = omega (arith, is)
  asks n condition body fin fit slots inside at1 (suc r) u left =
      let v = bounded_value condition body fin r left.now left.runs in
      let b = not (eqb v.0 0) in
      let d = bound_headed s calls gs may k works.ground phase count n (suc n) n slots inside (omega arith) (omega arith) at1 condition u left.now
      (suc r) (truth b) left.matches left.counts left.small fit
      (ap (λ b. cond b (ok_of 0) (truth_of (value may left.now condition))) (eqb-suc-zero r) ∙ ap truth_of v.1) in
      made n condition body fin at1 (suc r) u left d.registers d.trace d.goes d.matches
      (λ m is holding. let same : r ≡ m = one_less r m is in
      subst (Further condition body fin left.now) same
      (bounded_next condition body fin r left.now v.0 v.1 (truth_true b (sym (tested 10 (record u { registers = d.registers }) (truth b) d.matches.words d.ten) ∙ holding)) left.runs)) where
        one_less : (r m : ℕ) → suc r ≡ suc m → r ≡ m
        one_less r m is = omega (arith, is)

  while_divides : (n at : ℕ) (pl : Place) (turns : ℕ) (condition : Term) (body : Steps) (t : TaskState) (st after : ProgramState) (x : ℕ) → Here n at (While pl turns condition body Done) t st after →
      ((u : TaskState) (q q1 : ProgramState) → Here (n + 1) (body_place at (counter_code n turns) (turn_of e n condition) + 12) body u q q1 →
      Run x (body_place at (counter_code n turns) (turn_of e n condition) + 12) (code (n + 1) body) u) →
      Run (own e (counter_code n turns) + own_turns e turns (nonzero 10) (own e (turn_of e n condition)) (own e (only (count_code n)) + x)) at (code n (While pl turns condition body Done)) t
  while_divides n at pl turns condition body t st after x h again =
      let y = then_ok (bounded turns (holds may condition) (run_source may source body) st) (run_source may source Done) after h.runs in
      let first = counter_code n turns in
      let head = turn_of e n condition in
      let inner = straight (count_code n) (code (n + 1) body) in
      let loop = repeat turns head (nonzero 10) inner no_pieces in
      let ps = only (constant 10 turns) in
      let at1 = at + size_of first in
      let at2 = test_at at1 head + 8 in
      let size : at + 4 * words (followed first loop) < 2 ^ 32 = h.size in
      let w1 = words-followed first loop in
      let aligned : at % 4 ≡ 0 = h.aligned in
      let slots : count ≤ n = h.slots in
      let room : n + (1 + counters_in body + 0) ≤ k.slots = h.room in
      let hi = n + 1 + counters_in body in
      let inside : n < k.slots = omega arith in
      let g = gave s calls 10 at ps t turns (quiet_constant 10 (omega arith) turns, tt)
      (puts_give s silent at (constant 10 turns) t 10 turns (constant_puts t.registers 10 turns (omega arith) h.fit.0 h.matches.words)) in
      let t1 : TaskState = record t { registers = g.registers } in
      let m1 = still s calls gs may k works.ground phase count at ps t st 10 turns (omega arith) h.matches g in
      let z = slot_falls s calls gs may k works.ground phase count n hi (at + size_of ps) n t1 st turns m1 inside g.value in
      let t2 : TaskState = record t1 { view = put_number 4 (slot_at k n) turns t.view } in
      let m2 = counter_matches s calls gs may k works.ground phase count n hi n slots inside (omega arith) (omega arith) t1 st turns m1 in
      let goes_first : run s calls at first t ≡ Falls t2 (g.trace ++ (z.0 ++ [])) =
      goes_then s calls ps (only (store_slot n ∷ [])) at t t1 t2 g.trace (z.0 ++ []) g.goes
      (before s calls (at + size_of ps) (store_slot n) [] no_pieces t1 t2 t2 z.0 [] z.1 (after_none s calls (at + size_of ps + 4) no_pieces t2 t2 [] refl)) in
      let l = loop_of s calls at1 head (nonzero 10) inner in
      seq e.plant s calls _ _ (code n (While pl turns condition body Done)) first loop refl at t t2 (g.trace ++ (z.0 ++ [])) goes_first (own_run first tt (each_counter IsNative emits_native n turns) at t)
      (nothing_then e.plant _ _
      (turns_divide e.plant (own e head) (job_weight e.plant (branch_of (nonzero 10))) (own e (only (count_code n)) + x) (own_jump e) l
      (Left n condition body y.0) (Decided n condition body y.0)
      (λ r u left. asks n condition body y.0 h.fit.1.0 slots inside at1 r u left)
      (λ u. branch_step (test_at at1 head) (nonzero 10) u) (λ u. other_step (test_at at1 head) (nonzero 10) (repeat_end at1 head inner) u)
      (λ r u decided holding. (let nx = decided.next r refl holding in
      let d = lowered s calls gs may k works.ground phase count n hi n slots inside (omega arith) (omega arith) at2 u decided.now r decided.matches decided.counts decided.small in
      let here : Here (n + 1) (at2 + 12) body d.to decided.now nx.0 = record {
        slots = omega arith;
        room = omega arith;
        aligned = omega arith;
        size = omega (arith, size, w1);
        fit = h.fit.1.1.0;
        known = λ f is. h.known f (among_left f (callees_in body) [] is);
        matches = d.matches;
        runs = nx.1.0;
      } in
      let f = fell (n + 1) (at2 + 12) body d.to decided.now nx.0 here in
      let goes = goes_then s calls (only (count_code n)) (code (n + 1) body) at2 u d.to f.to d.trace f.trace d.goes f.goes in
      record {
        to = f.to;
        trace = d.trace ++ f.trace;
        goes = goes;
        divides = subst (RunDivides e.plant (own e (only (count_code n)) + x)) goes
            (seq e.plant s calls _ _ inner (only (count_code n)) (code (n + 1) body) refl at2 u d.to d.trace d.goes
            (own_run (only (count_code n)) tt (each_count IsNative emits_native n) at2 u) (again d.to decided.now nx.0 here));
        next = record {
          now = nx.0;
          matches = f.matches;
          counts = counter_same d.to.view f.to.view r (λ a kept. f.kept a (widen k count (suc n) (n + 1) hi hi a (omega arith) (omega arith) kept)) d.counts;
          small = omega (arith, decided.small);
          runs = nx.1.1;
        };
      }))
      (λ u. jump_step 0 (back_at at1 head inner) at1 u)
      turns t2 (record { now = st; matches = m2; counts = word_back (slot_at k n) turns t.view h.fit.0; small = h.fit.0; runs = y.1.0 }))) where
        counter_same : (view view' : ℕ → ℕ) (r : ℕ) → ((a : ℕ) → IsKept k count (suc n) (n + 1 + counters_in body) a → view' a ≡ view a) →
            number_at view (slot_at k n) 4 ≡ r → number_at view' (slot_at k n) 4 ≡ r
        counter_same view view' r kept is = number_same view' view 4 (slot_at k n) (λ b le lt. kept b (by b le lt)) ∙ is where
          slots : count ≤ n
          slots = h.slots

          by : (b : ℕ) → slot_at k n ≤ b → b < slot_at k n + 4 → IsKept k count (suc n) (n + 1 + counters_in body) b
          by b le lt = let le2 : count ≤ n = slots in grind arith

  -- ---- calls

  called_divides : (a b back : ℕ) (o : Ending) (next : TaskState → Ending) (u : TaskState) (trace : List Did) → o ≡ Returns back u trace → RunDivides e.plant a o → RunDivides e.plant b (next u) →
      RunDivides e.plant (a + b) (called back o next)
  called_divides a b back o next u trace is h k =
      subst (λ x. RunDivides e.plant (a + b) (called back x next)) (sym is)
      (subst (λ x. RunDivides e.plant (a + b) (cond x (with_trace trace (next u)) Stuck)) (sym (eq-eqb back back refl))
      (run_with e.plant a b trace (next u) (subst (RunDivides e.plant a) is h) k))

  call_divides : (n at : ℕ) (pl : Place) (target : Option ℕ) (f : ℕ) (arguments : List Term) (t : TaskState) (st after : ProgramState) → Here n at (Call pl target f arguments Done) t st after →
      Run (own e (argument_code e.parts.target e.parts.global (e.parts.frame f) 0 arguments) + own_jump e + called_least e f + own e
      (target_code target no_pieces)) at (code n (Call pl target f arguments Done)) t
  call_divides n at pl target f arguments t st after h =
      let vs = then_ok (values may st arguments) _ after h.runs in
      let r = then_ok (source may f vs.0 st) (λ r. run_source may source Done (with_target target r.0 r.1)) after vs.1.1 in
      let fit = h.fit.0 in
      let frame = parts.frame f in
      let link = parts.link f in
      let part = parts.callee f in
      let args = argument_code gs.target gs.part frame 0 arguments in
      let last = target_code target no_pieces in
      let size : at + 4 * words (followed args (call_to link part last)) < 2 ^ 32 =
      subst (λ (q : Parts). at + 4 * words (steps_code q n (Call pl target f arguments Done)) < 2 ^ 32) st_.parts_are h.size in
      let w1 = words-followed args (call_to link part last) in
      let aligned : at % 4 ≡ 0 = h.aligned in
      let floor : k.low ≤ k.sp = works.ground.floor in
      let room : 4 + 4 * length arguments ≤ frame = fit.room in
      let dep : frame ≤ cs.depth f = fit.frame in
      let lim : cs.depth f ≤ under = fit.deep in
      let one : 1 ≤ link = fit.link.0 in
      let q = passed s calls gs may k works.ground phase count frame arguments 0 at t st vs.0 h.matches fit.arguments_fit vs.1.0 (omega arith) fit.aligned (omega arith) in
      let at1 = at + size_of args in
      let ra = at1 + 4 in
      let t1 : TaskState = q.to in
      let t2 : TaskState = linked link ra t1 in
      let small : ra < 2 ^ 32 = omega (arith, size, w1) in
      let not_two : 2 ≢ link = λ e. fit.no_stack (sym e) in
      let m2 = changed s calls gs may k works.ground phase count t1 st (with_register link ra t1.registers) q.matches
      (reg_words link ra t1.registers small q.matches.words) (reg_other link ra t1.registers 2 not_two ∙ q.matches.stack) in
      let stand : ArgumentsStand t2.view (k.sp - frame) vs.0 = record {
        stands = λ i lt. (let z : 0 + i ≡ i = omega arith in subst (λ n. number_at t1.view (k.sp - frame + 4 + 4 * n) 4 ≡ slice_index vs.0 i) z (q.stands i lt));
        word = q.word;
      } in
      let ra_aligned : ra % 4 ≡ 0 = omega arith in
      let deep : k.low + cs.depth f ≤ k.sp = omega arith in
      let long = values_length s calls gs may k works.ground phase count arguments st vs.0 vs.1.0 ∙ fit.number in
      let holds_ra = reg_same link ra t1.registers (omega arith) in
      let b = (callees_run f fit.callable).runs count st vs.0 t2 ra r.0.0 r.0.1 works.ground m2 holds_ra ra_aligned small deep long stand r.1.0 in
      let d = (works.divides f (h.known f (inl refl)) fit.callable).divides count st vs.0 t2 ra r.0.0 r.0.1 m2 holds_ra ra_aligned small deep long stand r.1.0 in
      let a = own e args in
      let j = own_jump e in
      let l = called_least e f in
      let z = own e last in
      subst (λ (q : Parts). RunDivides e.plant
      (own e (argument_code q.target q.global (q.frame f) 0 arguments) + own_jump e + called_least e f + own e (target_code target no_pieces))
      (run s calls at (steps_code q n (Call pl target f arguments Done)) t))
      (sym st_.parts_are)
      (run_more e.plant (a + (j + (l + z))) _ (run s calls at (followed args (call_to link part last)) t) (moved a j l z)
      (seq e.plant s calls a (j + (l + z)) (followed args (call_to link part last)) args (call_to link part last) refl at t t1 q.trace q.goes
      (own_run args (arguments_call (λ part. ⊥) gs.target gs.part frame 0 arguments) (each_arguments IsNative emits_native gs.target gs.part frame 0 arguments) at t)
      (run_with e.plant j (l + z) (control at1 (jump_to link at1 (s.places part)) t1) _ (jump_step link at1 (s.places part) t1)
      (called_divides l z ra (calls part t2) (run s calls ra last) b.to b.trace b.goes d (own_run last (target_calls (λ part. ⊥) target) (each_target IsNative emits_native target no_pieces tt) ra b.to))))) where
        moved : (a j l z : ℕ) → a + (j + (l + z)) ≤ a + j + l + z
        moved a j l z = omega arith

  -- ---- lists

  pub divides : (steps : Steps) (n at : ℕ) (t : TaskState) (st after : ProgramState) → Here n at steps t st after → Run (apart e n at steps) at (code n steps) t
  divides Done n at t st after h = divides_none e.plant
  divides (SetLocal pl i ex rest) n at t st after h =
      let x = then_ok (value may st ex) _ after h.runs in
      let one = first_here n at n (SetLocal pl i ex rest) (SetLocal pl i ex Done) rest (first_local e.parts n pl i ex rest) t st (with_local i x.0 st)
      after h (omega (arith, h.room)) (h.fit.0, (h.fit.1.0, tt)) (λ f is. absurd is)
      (ap (λ o. and_then o (λ w. Ok (with_local i w st))) x.1.0) in
      join _ _ n at n (SetLocal pl i ex rest) (SetLocal pl i ex Done) rest (first_local e.parts n pl i ex rest) t st (with_local i x.0 st) after h one (omega arith) h.room h.fit.1.1 h.known x.1.1
      (single_divides n at (SetLocal pl i ex Done) t st (with_local i x.0 st) (free_then (term_of e 10 ex) _ (term_free 10 ex) tt) one) (λ u here. divides rest n _ u (with_local i x.0 st) after here)
  divides (SetScalar pl g ty ex rest) n at t st after h =
      let x = then_ok (value may st ex) _ after h.runs in
      let y = then_ok (store may pl.line ty g 0 x.0 st) (run_source may source rest) after x.1.1 in
      let one = first_here n at n (SetScalar pl g ty ex rest) (SetScalar pl g ty ex Done) rest (first_scalar e.parts n pl g ty ex rest)
      t st y.0 after h (omega (arith, h.room)) (h.fit.0, (h.fit.1.0, tt)) (λ f is. absurd is)
      (ap (λ o. and_then o (λ w. and_then (store may pl.line ty g 0 w st) (λ q. Ok q))) x.1.0 ∙ ap (λ o. and_then o (λ q. Ok q)) y.1.0) in
      join _ _ n at n (SetScalar pl g ty ex rest) (SetScalar pl g ty ex Done) rest (first_scalar e.parts n pl g ty ex rest) t st y.0 after h one (omega arith) h.room h.fit.1.1 h.known y.1.1
      (single_divides n at (SetScalar pl g ty ex Done) t st y.0 (free_then (term_of e 10 ex) _ (term_free 10 ex) tt) one) (λ u here. divides rest n _ u y.0 after here)
  divides (SetElement pl g ty index ex rest) n at t st after h =
      let x = then_ok (value may st ex) _ after h.runs in
      let j = then_ok (value may st index) _ after x.1.1 in
      let y = then_ok (store may pl.line ty g j.0 x.0 st) (run_source may source rest) after j.1.1 in
      let one = first_here n at n (SetElement pl g ty index ex rest) (SetElement pl g ty index ex Done) rest
      (first_element e.parts n pl g ty index ex rest) t st y.0 after h (omega (arith, h.room)) (h.fit.0, (h.fit.1.0, (h.fit.1.1.0, tt))) (λ f is. absurd is)
      (ap (λ o. and_then o (λ w. and_then (value may st index) (λ j. and_then (store may pl.line ty g j w st) (λ q. Ok q)))) x.1.0
      ∙ ap (λ o. and_then o (λ j. and_then (store may pl.line ty g j x.0 st) (λ q. Ok q))) j.1.0 ∙ ap (λ o. and_then o (λ q. Ok q)) y.1.0) in
      join _ _ n at n (SetElement pl g ty index ex rest) (SetElement pl g ty index ex Done) rest (first_element e.parts n pl g ty index ex rest)
      t st y.0 after h one (omega arith) h.room h.fit.1.1.1 h.known y.1.1
      (single_divides n at (SetElement pl g ty index ex Done) t st y.0
      (free_then (term_of e 10 ex) _ (term_free 10 ex) (free_then (term_of e 11 index) _ (term_free 11 index) tt)) one)
      (λ u here. divides rest n _ u y.0 after here)
  divides (Output pl ex rest) n at t st after h =
      let x = then_ok (value may st ex) _ after h.runs in
      let one = first_here n at n (Output pl ex rest) (Output pl ex Done) rest (first_output e.parts n pl ex rest) t st (with_output x.0 st) after h
      (omega (arith, h.room)) (h.fit.0, (h.fit.1.0, tt)) (λ f is. absurd is)
      (ap (λ o. and_then o (λ w. Ok (with_output w st))) x.1.0) in
      join _ _ n at n (Output pl ex rest) (Output pl ex Done) rest (first_output e.parts n pl ex rest) t st (with_output x.0 st) after h one (omega arith) h.room h.fit.1.1 h.known x.1.1
      (single_divides n at (Output pl ex Done) t st (with_output x.0 st) (free_then (term_of e 10 ex) _ (term_free 10 ex) tt) one) (λ u here. divides rest n _ u (with_output x.0 st) after here)
  divides (Input pl i rest) n at t st after h =
      let st1 = take_input i st.inputs st in
      let one = first_here n at n (Input pl i rest) (Input pl i Done) rest (first_input e.parts n pl i rest) t st st1 after h (omega (arith, h.room))
      (h.fit.0, (h.fit.1.0, tt)) (λ f is. absurd is) refl in
      join _ _ n at n (Input pl i rest) (Input pl i Done) rest (first_input e.parts n pl i rest) t st st1 after h one (omega arith) h.room h.fit.1.1 h.known h.runs
      (single_divides n at (Input pl i Done) t st st1 tt one) (λ u here. divides rest n _ u st1 after here)
  divides (If pl condition taken other rest) n at t st after h =
      let b = then_ok (holds may condition st) _ after h.runs in
      let y = then_ok (choose b.0 (run_source may source taken) (run_source may source other) st) (run_source may source rest) after b.1.1 in
      let first_known = λ (f : ℕ) (is : IsAmong f (callees_in taken ++ (callees_in other ++ []))). h.known f (among_choice (callees_in taken) (callees_in other) (callees_in rest) f is) in
      let one = first_here n at (n + counters_in taken + counters_in other) (If pl condition taken other rest) (If pl condition taken other Done) rest
      (first_if e.parts n pl condition taken other rest) t st y.0 after h (omega (arith, h.room))
      (h.fit.0, (h.fit.1.0, (h.fit.1.1.0, tt))) first_known
      (ap (λ o. and_then o (λ c. and_then (choose c (run_source may source taken) (run_source may source other) st) (λ q. Ok q))) b.1.0 ∙ ap (λ o. and_then o (λ q. Ok q)) y.1.0) in
      join _ _ n at (n + counters_in taken + counters_in other) (If pl condition taken other rest) (If pl condition taken other Done) rest
      (first_if e.parts n pl condition taken other rest) t st y.0 after h one (omega arith) (omega (arith, h.room))
      h.fit.1.1.1 (λ f is. h.known f (among_right f (callees_in taken) (callees_in other ++ callees_in rest) (among_right f (callees_in other) (callees_in rest) is))) y.1.1
      (lesser e.plant _ _ _ (scope_divides n at (If pl condition taken other Done) t st y.0 one)
      (if_divides n at pl condition taken other t st y.0 _ _ one
      (λ u q here. lesser e.plant _ _ _ (scope_divides n _ taken u st q here) (divides taken n _ u st q here))
      (λ u q here. lesser e.plant _ _ _ (scope_divides (n + counters_in taken) _ other u st q here) (divides other (n + counters_in taken) _ u st q here))))
      (λ u here. divides rest (n + counters_in taken + counters_in other) _ u y.0 after here)
  divides (For pl i low closed high step turns body rest) n at t st after h =
      let v = then_ok (value may st low) _ after h.runs in
      let turn = λ (q : ProgramState). and_then (run_source may source body q) (loop_step pl.line i step) in
      let y = then_ok (counting pl.line turns (loop_test may i closed high) turn (with_local i v.0 st)) (run_source may source rest) after v.1.1 in
      let one = first_here n at (n + counters_in body) (For pl i low closed high step turns body rest) (For pl i low closed high step turns body Done)
      rest (first_for e.parts n pl i low closed high step turns body rest) t st y.0 after h (omega (arith, h.room))
      (h.fit.0, (h.fit.1.0, (h.fit.1.1.0, (h.fit.1.1.1.0, (h.fit.1.1.1.1.0, tt))))) (λ f is. h.known f (among_loop (callees_in body) (callees_in rest) f is))
      (ap (λ o. and_then o (λ w. and_then (counting pl.line turns (loop_test may i closed high) turn (with_local i w st)) (λ q. Ok q))) v.1.0 ∙ ap (λ o. and_then o (λ q. Ok q)) y.1.0) in
      join _ _ n at (n + counters_in body) (For pl i low closed high step turns body rest) (For pl i low closed high step turns body Done) rest
      (first_for e.parts n pl i low closed high step turns body rest) t st y.0 after h one (omega arith) (omega (arith, h.room))
      h.fit.1.1.1.1.1 (λ f is. h.known f (among_right f (callees_in body) (callees_in rest) is)) y.1.1
      (lesser e.plant _ _ _ (scope_divides n at (For pl i low closed high step turns body Done) t st y.0 one)
      (for_divides n at pl i low closed high step turns body t st y.0 _ one
      (λ u q q1 here. lesser e.plant _ _ _ (scope_divides n _ body u q q1 here) (divides body n _ u q q1 here))))
      (λ u here. divides rest (n + counters_in body) _ u y.0 after here)
  divides (While pl turns condition body rest) n at t st after h =
      let y = then_ok (bounded turns (holds may condition) (run_source may source body) st) (run_source may source rest) after h.runs in
      let one = first_here n at (n + 1 + counters_in body) (While pl turns condition body rest) (While pl turns condition body Done) rest
      (first_while e.parts n pl turns condition body rest) t st y.0 after h (omega (arith, h.room))
      (h.fit.0, (h.fit.1.0, (h.fit.1.1.0, tt))) (λ f is. h.known f (among_loop (callees_in body) (callees_in rest) f is)) (ap (λ o. and_then o (λ q. Ok q)) y.1.0) in
      join _ _ n at (n + 1 + counters_in body) (While pl turns condition body rest) (While pl turns condition body Done) rest
      (first_while e.parts n pl turns condition body rest) t st y.0 after h one (omega arith) (omega (arith, h.room))
      h.fit.1.1.1 (λ f is. h.known f (among_right f (callees_in body) (callees_in rest) is)) y.1.1
      (lesser e.plant _ _ _ (scope_divides n at (While pl turns condition body Done) t st y.0 one)
      (while_divides n at pl turns condition body t st y.0 _ one
      (λ u q q1 here. lesser e.plant _ _ _ (scope_divides (n + 1) _ body u q q1 here) (divides body (n + 1) _ u q q1 here))))
      (λ u here. divides rest (n + 1 + counters_in body) _ u y.0 after here)
  divides (Call pl target f arguments rest) n at t st after h =
      let vs = then_ok (values may st arguments) _ after h.runs in
      let r = then_ok (source may f vs.0 st) (λ r. run_source may source rest (with_target target r.0 r.1)) after vs.1.1 in
      let st1 = with_target target r.0.0 r.0.1 in
      let one = first_here n at n (Call pl target f arguments rest) (Call pl target f arguments Done) rest
      (first_call e.parts n pl target f arguments rest) t st st1 after h (omega (arith, h.room)) (h.fit.0, tt)
      (λ g is. h.known g (among_call (callees_in rest) f g is))
      (ap (λ o. and_then o (λ ws. and_then (source may f ws st) (λ r. Ok (with_target target r.0 r.1)))) vs.1.0 ∙ ap (λ o. and_then o (λ r. Ok (with_target target r.0 r.1))) r.1.0) in
      join _ _ n at n (Call pl target f arguments rest) (Call pl target f arguments Done) rest (first_call e.parts n pl target f arguments rest)
      t st st1 after h one (omega arith) h.room h.fit.1 (λ g is. h.known g (inr is)) r.1.1
      (lesser e.plant _ _ _ (scope_divides n at (Call pl target f arguments Done) t st st1 one) (call_divides n at pl target f arguments t st st1 one))
      (λ u here. divides rest n _ u st1 after here)

  pub least_divides : (steps : Steps) (n at : ℕ) (t : TaskState) (st after : ProgramState) → Here n at steps t st after → Run (least e n at steps) at (code n steps) t
  least_divides steps n at t st after h = lesser e.plant _ _ _ (scope_divides n at steps t st after h) (divides steps n at t st after h)

pub steps_divide : StepsDivide
steps_divide e s gs parts cs phase c routines total st_ may limits calls k works count under space steps n at t st after slots room aligned size fit known m is =
    least_divides e s gs parts cs phase c routines total st_ may limits calls k works count under space steps n at t st after
    (record { slots = slots; room = room; aligned = aligned; size = size; fit = fit; known = known; matches = m; runs = is })
