-- Lists of statements with marked calls run in scopes and marked calls, charged no more than their parted charge.
use Rattle.std.proofs.Common.{◌≡◌, ◌≢◌, ℕ, zero, suc, ◌+◌, ◌-◌, ◌*◌, ◌%◌, ◌^◌, ◌<◌, ◌≤◌, refl, ap, ◌∙◌, sym, subst, arith, cond, eqb, eq-eqb, not, true, false, Bool, List, [], ◌∷◌, ◌++◌}
use Rattle.std.proofs.Common.{append_assoc, inl, inr, length, Option, Ok, append-nil, Some, None}
use Rattle.prem_wcet_laws.proofs.Prelude.{run-followed, words-followed, choose_both, Pieces, no_pieces, straight, either, repeat, call_to, followed, words, size_of, branch_of, skip_words}
use Rattle.prem_wcet_laws.proofs.Prelude.{skip_at, other_at, either_end, test_at, back_at, repeat_end, jump_to, EachPiece, Setting, Calls, Ending, Falls, Returns, Stuck, with_trace}
use Rattle.prem_wcet_laws.proofs.Prelude.{then_run, called, control, test_holds, taken_steps, other_steps, skip_steps, linked, run, Test, each_bound, each_count, each_counter, each_first}
use Rattle.prem_wcet_laws.proofs.Prelude.{each_step, each_ten, each_turn, puts_give, reg_same, reg_other, reg_words, constant_puts, tested, loop_of, goes_then, before, after as after_none}
use Rattle.prem_wcet_laws.proofs.Prelude.{then_ok, same_ok, ok_of, Gave, gave, silent, counter_matches, lowered, headed as bound_headed, passed, values_length, step_ok, number_same}
use Rattle.prem_wcet_laws.proofs.Prelude.{word_back, widen, evaluated, still, changed, slot_falls, quiet_constant, steps_end, Globals, Stack, Ground, Fits, TargetFits, Callees, CallFits}
use Rattle.prem_wcet_laws.proofs.Prelude.{StepsFit, with_globals, Matches, slot_at, IsKept, ArgumentsStand, Codes, with_register, TaskState, Did, Phase, job_weight, counters_in, Parts}
use Rattle.prem_wcet_laws.proofs.Prelude.{load_slot, store_slot, bound_test, step_code, count_code, turn_code, argument_code, target_code, steps_code, only, constant, nonzero, term_code}
use Rattle.prem_wcet_laws.proofs.Prelude.{Access, and_then, truth_of, IsAmong, callees_in, Term, Steps, Done, SetLocal, SetScalar, SetElement, Output, Input, If, For, While, Call, Routine}
use Rattle.prem_wcet_laws.proofs.Prelude.{Limits, calls_below, ProgramState, value, values, with_local, with_output, take_input, store, choose, holds, in_bound, int_local, loop_test}
use Rattle.prem_wcet_laws.proofs.Prelude.{loop_step, counting, bounded, with_target, Place, PathCount, quiet, then_count, IsNoMore, Divides, RunDivides, Courses, RunCourses, IsNative, own}
use Rattle.prem_wcet_laws.proofs.Prelude.{own_jump, term_of, bound_code, first_code, counter_code, turn_of, taken_place, other_place, body_place, least, narrowed, cuts, has_cut, front}
use Rattle.prem_wcet_laws.proofs.Prelude.{by_cut, Edge, no_edge, passing, landing, next_edge, passage, Begun, counted, begins, opened, called_parted, choice_count, turn_count, landing_place}
use Rattle.prem_wcet_laws.proofs.Prelude.{parted, Mixes, StepsCourse, Stands, Scene, number_at, put_number, value_in, truth, Int, eqb-suc-zero, and_parts, list_any, slice_index}
use Rattle.prem_code_laws.proofs.GenLawsLemmas.Counting.{headed, stepped, tested as bound_tested}
use Rattle.prem_syntax.specs.Expressions.{Outcome}
use Rattle.prem_syntax.specs.Statements.{run as run_source}
use Rattle.prem_wcet_laws.proofs.Alone.{CallFree, own_divides, control_divides}
use Rattle.prem_wcet_laws.proofs.Calls.{joined, term_calls}
use Rattle.prem_wcet_laws.proofs.Counting.{same_count, no_more_then, quiet_more, then_no_more, either_first, either_second, then_assoc, nothing_first, nothing_last, by_same}
use Rattle.prem_wcet_laws.proofs.Courses.{course_of, run_course, courses_join, courses_more, courses_none, run_more, run_with, any_then, nothing_then, seq, Part, turns_course}
use Rattle.prem_wcet_laws.proofs.LeastRuns.{steps_divide, frame_alone, ground_alone}
use Rattle.prem_wcet_laws.proofs.NoCuts.{none_first, none_second, none_left, none_right, none_loop, none_choice}
use Rattle.prem_wcet_laws.proofs.OneScope.{steps_callable}
use Rattle.prem_wcet_laws.proofs.Passages.{Goes, HasTrace, with_traced, EdgeGoes, no_edge_goes, landing_goes, passing_goes, passage_divides}
use Rattle.prem_wcet_laws.proofs.Shape.{followed-assoc, first_local, first_scalar, first_element, first_output, first_input, first_if, first_for, first_while, first_call}
use Rattle.prem_wcet_laws.proofs.Takes.{emits_native}
use Rattle.prem_wcet_laws.specs.PartedLaws.{is_marked}
use Rattle.std.specs.Prelude.{◌||◌}

module _ (e : Scene) (s : Setting) (gs : Globals) (parts : Parts) (cs every : Callees) (phase : Phase) (c : Codes) (routines : List Routine)
    (total : ℕ) (st_ : Stands e s gs parts cs phase c routines total)
    (may : Access) (limits : Limits) (calls : Calls) (k : Stack) (Marked : List Did → ℕ → Type 0)
    (mixed : Mixes e s gs parts cs every phase c routines total may limits calls k Marked) (count under : ℕ) (space : k.low + under ≤ k.sp) where
  abbrev source : Rattle.prem_syntax.specs.Statements.Calls
  source = calls_below limits routines total

  abbrev code : ℕ → Steps → Pieces
  code n steps = steps_code e.parts n steps

  abbrev Run : (most : PathCount) (at : ℕ) → Pieces → TaskState → Type 0
  Run most at ps t = RunCourses e.plant Marked most (run s calls at ps t)

  -- statements of which a list begins
  pub record Here (n at : ℕ) (steps : Steps) (t : TaskState) (st after : ProgramState) : Type 0 where
    pub slots : count ≤ n
    pub room : n + counters_in steps ≤ k.slots
    pub aligned : at % 4 ≡ 0
    pub size : at + size_of (code n steps) < 2 ^ 32
    pub fit : StepsFit gs parts every phase count under steps
    pub matches : Matches s gs k phase count st t
    pub runs : run_source may source steps st ≡ Ok after

  -- where they fall to
  pub record Fell (lo hi : ℕ) (o : Ending) (t : TaskState) (after : ProgramState) : Type 0 where
    pub to : TaskState
    pub trace : List Did
    pub goes : o ≡ Falls to trace
    pub matches : Matches s gs k phase count after to
    pub kept : (a : ℕ) → IsKept k count lo hi a → to.view a ≡ t.view a

  pub fell : (n at : ℕ) (steps : Steps) (t : TaskState) (st after : ProgramState) → Here n at steps t st after → Fell n (n + counters_in steps) (run s calls at (code n steps) t) t after
  fell n at steps t st after h =
      let own_code : code n steps ≡ steps_code (with_globals gs parts) n steps = ap (λ q. steps_code q n steps) st_.parts_are in
      let d = steps_end s calls gs may k mixed.works.ground parts every phase source mixed.callees count under space steps n at t st after h.slots
      h.room h.aligned (subst (λ q. at + size_of q < 2 ^ 32) own_code h.size) h.fit h.matches h.runs in
      record { to = d.to; trace = d.trace; goes = ap (λ q. run s calls at q t) own_code ∙ d.goes; matches = d.matches; kept = d.kept }

  -- ---- statements one behind another

  shorter : (at : ℕ) (whole first rest : Pieces) → whole ≡ followed first rest → at + size_of whole < 2 ^ 32 → at + size_of first < 2 ^ 32
  shorter at whole first rest is lt = let w : words whole ≡ words first + words rest = ap words is ∙ words-followed first rest in omega (arith, w, lt)

  first_here : (n at n2 : ℕ) (all first rest : Steps) → code n all ≡ followed (code n first) (code n2 rest) → (t : TaskState) (st st1 after : ProgramState) → Here n at all t st after →
      n + counters_in first ≤ k.slots → StepsFit gs parts every phase count under first → run_source may source first st ≡ Ok st1 → Here n at first t st st1
  first_here n at n2 all first rest is t st st1 after h room fit runs =
      record { slots = h.slots; room = room; aligned = h.aligned; size = shorter at (code n all) (code n first) (code n2 rest) is h.size; fit = fit; matches = h.matches; runs = runs }

  rest_here : (n at n2 : ℕ) (all first rest : Steps) → code n all ≡ followed (code n first) (code n2 rest) → (t u : TaskState) (st st1 after : ProgramState) → Here n at all t st after →
      n ≤ n2 → n2 + counters_in rest ≤ k.slots → StepsFit gs parts every phase count under rest → run_source may source rest st1 ≡ Ok after →
      Matches s gs k phase count st1 u → Here n2 (at + size_of (code n first)) rest u st1 after
  rest_here n at n2 all first rest is t u st st1 after h le room fit runs m =
      let w : words (code n all) ≡ words (code n first) + words (code n2 rest) = ap words is ∙ words-followed (code n first) (code n2 rest) in
      record { slots = further _ _ _ h.slots le; room = room; aligned = fourth at (words (code n first)) h.aligned; size = sum at _ _ _ w h.size; fit = fit; matches = m; runs = runs } where
        further : (a b c : ℕ) → a ≤ b → b ≤ c → a ≤ c
        further a b c h k = omega (arith, h, k)

        fourth : (a b : ℕ) → a % 4 ≡ 0 → (a + 4 * b) % 4 ≡ 0
        fourth a b h = omega (arith, h)

        sum : (a w b c : ℕ) → w ≡ b + c → a + 4 * w < 2 ^ 32 → a + 4 * b + 4 * c < 2 ^ 32
        sum a w b c e lt = omega (arith, e, lt)

  -- ---- code without calls

  term_free : (r : ℕ) (x : Term) → CallFree (term_of e r x)
  term_free r x = term_calls (λ part. ⊥) e.parts.target e.parts.global r x

  pub free_then : (a b : Pieces) → CallFree a → CallFree b → CallFree (followed a b)
  free_then a b h k = joined (λ part. ⊥) a b h k

  pub own_run : (ps : Pieces) → CallFree ps → EachPiece IsNative ps → (at : ℕ) (t : TaskState) → Run (quiet (own e ps)) at ps t
  own_run ps free native at t = run_course e.plant Marked _ _ (own_divides e.plant s calls ps free native at t)

  gave_term : (x : Term) (r at : ℕ) (t : TaskState) (st : ProgramState) (w : ℕ) → 10 ≤ r → Matches s gs k phase count st t → Fits gs count r x →
      value may st x ≡ Ok w → Gave s calls at (term_of e r x) t r w
  gave_term x r at t st w ten m fit is =
      subst (λ (q : Parts). Gave s calls at (term_code q.target q.global r x) t r w) (sym st_.parts_are) (evaluated s calls gs may k mixed.works.ground phase count x r at t st w ten m fit is)

  -- ---- steps of branches and jumps

  branch_step : (at : ℕ) (test : Test) (t : TaskState) → Courses e.plant Marked (quiet (job_weight e.plant (branch_of test))) (taken_steps at test t)
  branch_step at test t = course_of e.plant Marked _ _ (control_divides e.plant at (branch_of test) t (job_weight e.plant (branch_of test)) refl (omega arith))

  jump_step : (link at to : ℕ) (t : TaskState) → Courses e.plant Marked (quiet (own_jump e)) (control at (jump_to link at to) t)
  jump_step link at to t = course_of e.plant Marked _ _ (control_divides e.plant at (jump_to link at to) t (own_jump e) refl (omega arith))

  other_step : (at : ℕ) (test : Test) (to : ℕ) (t : TaskState) → Courses e.plant Marked (then_count (quiet (job_weight e.plant (branch_of test))) (quiet (own_jump e))) (other_steps at test to t)
  other_step at test to t = courses_join e.plant Marked _ _ _ _ (branch_step at test t) (jump_step 0 (at + 4) to t)

  skip_step : (n from to : ℕ) (t : TaskState) → Courses e.plant Marked (quiet (n * own_jump e)) (skip_steps n from to t)
  skip_step zero from to t = courses_more e.plant Marked (quiet 0) _ [] (quiet_more 0 _ (omega arith)) (courses_none e.plant Marked)
  skip_step (suc n) from to t = courses_more e.plant Marked (quiet (own_jump e)) _ _ (quiet_more _ _ (more n (own_jump e))) (jump_step 0 from to t) where
    more : (n j : ℕ) → j ≤ suc n * j
    more n j = omega arith

  -- ---- choices

  choice_divides : (at : ℕ) (test : Test) (taken other : Pieces) (t : TaskState) (x y : PathCount) → (test_holds test t ≡ true → Run x (at + 8) taken t) →
      (test_holds test t ≡ false → Run y (other_at at taken other) other t) →
      Run (choice_count e test other x y) at (either test taken other no_pieces) t
  choice_divides at test taken other t x y on off =
      let b = quiet (job_weight e.plant (branch_of test)) in
      let j = quiet (own_jump e) in
      let n = skip_words other * own_jump e in
      let skip = skip_at at taken in
      let oth = other_at at taken other in
      let end = either_end at taken other in
      nothing_then e.plant Marked _ _
      (choose_both (test_holds test t)
      (λ t. with_trace (taken_steps at test t) (then_run (run s calls (at + 8) taken t) (λ t. Falls t (skip_steps (skip_words other) skip end t))))
      (λ t. with_trace (other_steps at test oth t) (run s calls oth other t))
      t (RunCourses e.plant Marked (choice_count e test other x y))
      (λ is. run_more e.plant Marked (then_count b (then_count x (quiet n))) _ _ (then_no_more b _ b _ (same_count b) (either_first _ (then_count x (quiet n)) (then_count j y) (same_count _)))
      (run_with e.plant Marked b (then_count x (quiet n)) (taken_steps at test t) _ (branch_step at test t)
      (any_then e.plant Marked x n (run s calls (at + 8) taken t) _ (on is) (λ u. skip_step (skip_words other) skip end u))))
      (λ is. run_more e.plant Marked (then_count (then_count b j) y) _ _
      (no_more_then _ (then_count b (then_count j y)) _ (by_same (then_assoc b j y))
      (then_no_more b _ b _ (same_count b) (either_second _ (then_count x (quiet n)) (then_count j y) (same_count _))))
      (run_with e.plant Marked (then_count b j) y (other_steps at test oth t) (run s calls oth other t) (other_step at test oth t) (off is))))

  if_divides : (n at : ℕ) (pl : _) (condition : Term) (taken other : Steps) (t : TaskState) (st after : ProgramState) (x y : PathCount) → Here n at (If pl condition taken other Done) t st after →
      ((u : TaskState) (q : ProgramState) → Here n (taken_place at (term_of e 10 condition)) taken u st q → Run x (taken_place at (term_of e 10 condition)) (code n taken) u) →
      ((u : TaskState) (q : ProgramState) → Here (n + counters_in taken) (other_place at (term_of e 10 condition) (code n taken) (code (n + counters_in taken) other)) other u st q →
      Run y (other_place at (term_of e 10 condition) (code n taken) (code (n + counters_in taken) other)) (code (n + counters_in taken) other) u) →
      Run (then_count (quiet (own e (term_of e 10 condition))) (choice_count e (nonzero 10) (code (n + counters_in taken) other) x y)) at (code n (If pl condition taken other Done)) t
  if_divides n at pl condition taken other t st after x y h on off =
      let b = then_ok (holds may condition st) _ after h.runs in
      let v = then_ok (value may st condition) _ b.0 b.1.0 in
      let chosen = then_ok (choose b.0 (run_source may source taken) (run_source may source other) st) (run_source may source Done) after b.1.1 in
      let ps = term_of e 10 condition in
      let tk = code n taken in
      let ot = code (n + counters_in taken) other in
      let g = gave_term condition 10 at t st v.0 (omega arith) h.matches h.fit.0 v.1.0 in
      let u : TaskState = record t { registers = g.registers } in
      let m = still s calls gs may k mixed.works.ground phase count at ps t st 10 v.0 (omega arith) h.matches g in
      let at1 = at + size_of ps in
      let w = words-followed ps (either (nonzero 10) tk ot no_pieces) in
      let test_is : test_holds (nonzero 10) u ≡ b.0 = tested 10 u v.0 g.words g.value ∙ same_ok _ b.0 v.1.1 in
      let size : at + 4 * words (code n (If pl condition taken other Done)) < 2 ^ 32 = h.size in
      let aligned : at % 4 ≡ 0 = h.aligned in
      seq e.plant Marked s calls _ _ (code n (If pl condition taken other Done)) ps (either (nonzero 10) tk ot no_pieces) refl at t u g.trace g.goes
      (own_run ps (term_free 10 condition) (each_ten IsNative emits_native e.parts.target e.parts.global condition) at t)
      (choice_divides at1 (nonzero 10) tk ot u x y
      (λ is. on u chosen.0 (record {
        slots = h.slots;
        room = omega (arith, h.room);
        aligned = omega (arith, aligned);
        size = omega (arith, size, w);
        fit = h.fit.1.0;
        matches = m;
        runs = subst (λ b. choose b (run_source may source taken) (run_source may source other) st ≡ Ok chosen.0) (sym test_is ∙ is) chosen.1.0;
      }))
      (λ is. off u chosen.0 (record {
        slots = omega (arith, h.slots);
        room = omega (arith, h.room);
        aligned = omega (arith, aligned);
        size = omega (arith, size, w);
        fit = h.fit.1.1.0;
        matches = m;
        runs = subst (λ b. choose b (run_source may source taken) (run_source may source other) st ≡ Ok chosen.0) (sym test_is ∙ is) chosen.1.0;
      })))

  -- ---- counting loops

  -- where a turn begins, and where its test stands
  record Turn (line i step : ℕ) (closed : Bool) (high : Term) (body : Steps) (fin : ProgramState) (r : ℕ) (u : TaskState) : Type 0 where
    now : ProgramState
    matches : Matches s gs k phase count now u
    runs : counting line r (loop_test may i closed high) (λ q. and_then (run_source may source body q) (loop_step line i step)) now ≡ Ok fin

  record Asked (line i step : ℕ) (closed : Bool) (high : Term) (body : Steps) (fin : ProgramState) (r : ℕ) (u : TaskState) : Type 0 where
    now : ProgramState
    bound : ℕ
    matches : Matches s gs k phase count now u
    ten : u.registers 10 ≡ slice_index now.locals i
    eleven : u.registers 11 ≡ bound
    value_is : value may now high ≡ Ok bound
    runs : counting line r (loop_test may i closed high) (λ q. and_then (run_source may source body q) (loop_step line i step)) now ≡ Ok fin

  count_value : (line i : ℕ) (closed : Bool) (high : Term) (turn : ProgramState → Outcome ProgramState) (fin : ProgramState) (r : ℕ)
      (q : ProgramState) → counting line r (loop_test may i closed high) turn q ≡ Ok fin → (hv : ℕ) × (value may q high ≡ Ok hv)
  unfolding counting
  count_value line i closed high turn fin zero q is =
      let x = then_ok (loop_test may i closed high q) _ fin is in
      let y = then_ok (value may q high) _ x.0 x.1.0 in
      (y.0, y.1.0)
  count_value line i closed high turn fin (suc r) q is =
      let x = then_ok (loop_test may i closed high q) _ fin is in
      let y = then_ok (value may q high) _ x.0 x.1.0 in
      (y.0, y.1.0)

  count_next : (line : ℕ) (test : ProgramState → Outcome Bool) (turn : ProgramState → Outcome ProgramState) (fin : ProgramState) (r : ℕ)
      (q : ProgramState) (b : Bool) → counting line (suc r) test turn q ≡ Ok fin → test q ≡ Ok b → b ≡ true →
      (q1 : ProgramState) × ((turn q ≡ Ok q1) × (counting line r test turn q1 ≡ Ok fin))
  unfolding counting
  count_next line test turn fin r q b is tests holding =
      let e1 : choose b (λ t. and_then (turn t) (counting line r test turn)) Ok q ≡ Ok fin =
      sym (ap (λ o. and_then o (λ go. choose go (λ t. and_then (turn t) (counting line r test turn)) Ok q)) tests) ∙ is in
      let e2 : and_then (turn q) (counting line r test turn) ≡ Ok fin = subst (λ b. choose b (λ t. and_then (turn t) (counting line r test turn)) Ok q ≡ Ok fin) holding e1 in
      then_ok (turn q) (counting line r test turn) fin e2

  for_divides : (n at : ℕ) (pl : Place) (i : ℕ) (low : Term) (closed : Bool) (high : Term) (step turns : ℕ) (body : Steps) (t : TaskState)
      (st after : ProgramState) (x : PathCount) → Here n at (For pl i low closed high step turns body Done) t st after →
      ((u : TaskState) (q q1 : ProgramState) → Here n (body_place at (first_code e i low) (bound_code e i high)) body u q q1 →
      Run x (body_place at (first_code e i low) (bound_code e i high)) (code n body) u) →
      Run (then_count (quiet (own e (first_code e i low)))
      (turn_count e turns (bound_test closed) (own e (bound_code e i high)) (then_count x (quiet (own e (only (step_code i step))))))) at
      (code n (For pl i low closed high step turns body Done)) t
  for_divides n at pl i low closed high step turns body t st after x h again =
      let v = then_ok (value may st low) _ after h.runs in
      let turn = λ (q : ProgramState). and_then (run_source may source body q) (loop_step pl.line i step) in
      let y = then_ok (counting pl.line turns (loop_test may i closed high) turn (with_local i v.0 st)) (run_source may source Done) after v.1.1 in
      let first = first_code e i low in
      let head = bound_code e i high in
      let inner = followed (code n body) (only (step_code i step)) in
      let loop = repeat turns head (bound_test closed) inner no_pieces in
      let is : code n (For pl i low closed high step turns body Done) ≡ followed first loop = sym (followed-assoc (term_of e 10 low) (only (store_slot i ∷ [])) loop) in
      let at1 = at + size_of first in
      let at2 = test_at at1 head + 8 in
      let w1 = words-followed first loop in
      let w2 = words-followed (code n body) (only (step_code i step)) in
      let size : at + 4 * words (followed first loop) < 2 ^ 32 = subst (λ q. at + 4 * words q < 2 ^ 32) is h.size in
      let aligned : at % 4 ≡ 0 = h.aligned in
      let slots : count ≤ n = h.slots in
      let room : n + (counters_in body + 0) ≤ k.slots = h.room in
      let fits : count ≤ k.slots = omega arith in
      let one : Here n at (SetLocal pl i low Done) t st (with_local i v.0 st) = record {
        slots = slots;
        room = omega arith;
        aligned = aligned;
        size = shorter at (code n (For pl i low closed high step turns body Done)) first loop is h.size;
        fit = (h.fit.0, (h.fit.1.0, tt));
        matches = h.matches;
        runs = ap (λ o. and_then o (λ w. Ok (with_local i w st))) v.1.0;
      } in
      let f = fell n at (SetLocal pl i low Done) t st (with_local i v.0 st) one in
      let l = loop_of s calls at1 head (bound_test closed) inner in
      seq e.plant Marked s calls _ _ (code n (For pl i low closed high step turns body Done)) first loop is at t f.to f.trace f.goes
      (own_run first (free_then (term_of e 10 low) _ (term_free 10 low) tt) (each_first IsNative emits_native e.parts.target e.parts.global i low) at t)
      (nothing_then e.plant Marked _ _
      (turns_course e.plant Marked (own e head) (job_weight e.plant (branch_of (bound_test closed))) (then_count x (quiet (own e (only (step_code i step))))) (own_jump e) l
      (Turn pl.line i step closed high body y.0) (Asked pl.line i step closed high body y.0)
      (λ r u turn_here. (let hv = count_value pl.line i closed high turn y.0 r turn_here.now turn_here.runs in
      let d = headed s calls gs may k mixed.works.ground phase count n (n + counters_in body) fits (omega arith) i h.fit.0 at1 high u turn_here.now hv.0 turn_here.matches h.fit.1.1.0 hv.1 in
      let goes : run s calls at1 head u ≡ Falls (record u { registers = d.registers }) d.trace =
      subst (λ (q : Parts). run s calls at1 (straight (load_slot i ∷ []) (term_code q.target q.global 11 high)) u ≡ Falls (record u { registers = d.registers }) d.trace) (sym st_.parts_are) d.goes in
      record {
        to = record u { registers = d.registers };
        trace = d.trace;
        goes = goes;
        courses = subst (RunCourses e.plant Marked (quiet (own e head))) goes (own_run head (term_free 11 high) (each_bound IsNative emits_native e.parts.target e.parts.global i high) at1 u);
        next = record { now = turn_here.now; bound = hv.0; matches = d.matches; ten = d.ten; eleven = d.eleven; value_is = hv.1; runs = turn_here.runs };
      }))
      (λ u. branch_step (test_at at1 head) (bound_test closed) u) (λ u. other_step (test_at at1 head) (bound_test closed) (repeat_end at1 head inner) u)
      (λ r u asked holding. (let in_it : in_bound closed (int_local i asked.now) (value_in Int asked.bound) ≡ true =
      sym (bound_tested s calls gs may k mixed.works.ground phase count n (n + counters_in body) fits (omega arith) i h.fit.0 closed u
      (slice_index asked.now.locals i) asked.bound asked.ten asked.eleven) ∙ holding in
      let nx = count_next pl.line (loop_test may i closed high) turn y.0 r asked.now (in_bound closed (int_local i asked.now) (value_in Int asked.bound)) asked.runs
      (ap (λ o. and_then o (λ z. Ok (in_bound closed (int_local i asked.now) (value_in Int z)))) asked.value_is) in_it in
      let bd = then_ok (run_source may source body asked.now) (loop_step pl.line i step) nx.0 nx.1.0 in
      let here : Here n at2 body u asked.now bd.0 = record {
        slots = slots;
        room = omega arith;
        aligned = omega arith;
        size = omega (arith, size, w1, w2);
        fit = h.fit.1.1.1.1.0;
        matches = asked.matches;
        runs = bd.1.0;
      } in
      let g = fell n at2 body u asked.now bd.0 here in
      let z = stepped s calls gs may k mixed.works.ground phase count n (n + counters_in body) fits (omega arith) i h.fit.0 (at2 + size_of (code n body)) step g.to bd.0 h.fit.1.1.1.0 g.matches in
      let goes = goes_then s calls (code n body) (only (step_code i step)) at2 u g.to z.to g.trace z.trace g.goes z.goes in
      record {
        to = z.to;
        trace = g.trace ++ z.trace;
        goes = goes;
        courses = subst (RunCourses e.plant Marked (then_count x (quiet (own e (only (step_code i step)))))) goes
            (seq e.plant Marked s calls _ _ inner (code n body) (only (step_code i step)) refl at2 u g.to g.trace g.goes (again u asked.now bd.0 here)
            (own_run (only (step_code i step)) tt (each_step IsNative emits_native i step) (at2 + size_of (code n body)) g.to));
        next = record {
          now = nx.0;
          matches = subst (λ q. Matches s gs k phase count q z.to)
              (step_ok s calls gs may k mixed.works.ground phase count n (n + counters_in body) fits (omega arith)
              i h.fit.0 pl.line step bd.0 nx.0 bd.1.1) z.matches;
          runs = nx.1.1;
        };
      }))
      (λ u. jump_step 0 (back_at at1 head inner) at1 u)
      turns f.to (record { now = with_local i v.0 st; matches = f.matches; runs = y.1.0 })))

  -- ---- bounded loops

  -- where a turn begins, with what its counter holds, and where its test stands
  record Left (number : ℕ) (condition : Term) (body : Steps) (fin : ProgramState) (r : ℕ) (u : TaskState) : Type 0 where
    now : ProgramState
    matches : Matches s gs k phase count now u
    counts : number_at u.view (slot_at k number) 4 ≡ r
    small : r < 2 ^ 32
    runs : bounded r (holds may condition) (run_source may source body) now ≡ Ok fin

  abbrev Further : (condition : Term) (body : Steps) (fin now : ProgramState) (m : ℕ) → Type 0
  Further condition body fin now m = (q1 : ProgramState) × ((run_source may source body now ≡ Ok q1) × (bounded m (holds may condition) (run_source may source body) q1 ≡ Ok fin))

  record Decided (number : ℕ) (condition : Term) (body : Steps) (fin : ProgramState) (r : ℕ) (u : TaskState) : Type 0 where
    now : ProgramState
    matches : Matches s gs k phase count now u
    counts : number_at u.view (slot_at k number) 4 ≡ r
    small : r < 2 ^ 32
    next : (m : ℕ) → r ≡ suc m → test_holds (nonzero 10) u ≡ true → Further condition body fin now m

  -- a truth that isn't 0
  truth_true : (b : Bool) → not (eqb (truth b) 0) ≡ true → b ≡ true
  truth_true true h = refl
  truth_true false h = cc

  bounded_next : (condition : Term) (body : Steps) (fin : ProgramState) (m : ℕ) (q : ProgramState) (w : ℕ) → value may q condition ≡ Ok w → not (eqb w 0) ≡ true →
      bounded (suc m) (holds may condition) (run_source may source body) q ≡ Ok fin → Further condition body fin q m
  unfolding bounded
  bounded_next condition body fin m q w val holding is =
      let f = λ (o : Outcome ℕ). and_then (and_then o (λ c. Ok (not (eqb c 0))))
      (λ go. choose go (λ t. and_then (run_source may source body t) (bounded m (holds may condition) (run_source may source body))) Ok q) in
      let e1 : choose (not (eqb w 0)) (λ t. and_then (run_source may source body t) (bounded m (holds may condition) (run_source may source body))) Ok q ≡ Ok fin = sym (ap f val) ∙ is in
      let e2 : and_then (run_source may source body q) (bounded m (holds may condition) (run_source may source body)) ≡ Ok fin =
      subst (λ b. choose b (λ t. and_then (run_source may source body t) (bounded m (holds may condition) (run_source may source body))) Ok q ≡ Ok fin) holding e1 in
      then_ok (run_source may source body q) (bounded m (holds may condition) (run_source may source body)) fin e2

  bounded_value : (condition : Term) (body : Steps) (fin : ProgramState) (m : ℕ) (q : ProgramState) →
      bounded (suc m) (holds may condition) (run_source may source body) q ≡ Ok fin → (w : ℕ) × (value may q condition ≡ Ok w)
  unfolding bounded
  bounded_value condition body fin m q is =
      let x = then_ok (holds may condition q) _ fin is in
      let y = then_ok (value may q condition) _ x.0 x.1.0 in
      (y.0, y.1.0)

  made : (n : ℕ) (condition : Term) (body : Steps) (fin : ProgramState) (at1 r : ℕ) (u : TaskState) (left : Left n condition body fin r u) (registers : ℕ → ℕ) (trace : List Did) →
      run s calls at1 (turn_code gs.target gs.part n condition) u ≡ Falls (record u { registers = registers }) trace → Matches s gs k phase count left.now (record u { registers = registers }) →
      ((m : ℕ) → r ≡ suc m → test_holds (nonzero 10) (record u { registers = registers }) ≡ true → Further condition body fin left.now m) →
      Part e.plant Marked (quiet (own e (turn_of e n condition))) (run s calls at1 (turn_of e n condition) u) (Decided n condition body fin r)
  made n condition body fin at1 r u left registers trace goes matches next =
      let here : run s calls at1 (turn_of e n condition) u ≡ Falls (record u { registers = registers }) trace =
      subst (λ (q : Parts). run s calls at1 (turn_code q.target q.global n condition) u ≡ Falls (record u { registers = registers }) trace) (sym st_.parts_are) goes in
      record {
        to = record u { registers = registers };
        trace = trace;
        goes = here;
        courses = subst (RunCourses e.plant Marked (quiet (own e (turn_of e n condition)))) here
            (own_run (turn_of e n condition) (joined (λ part. ⊥) (term_of e 10 condition) _ (term_free 10 condition) tt, tt, tt)
            (each_turn IsNative emits_native e.parts.target e.parts.global n condition) at1 u);
        next = record { now = left.now; matches = matches; counts = left.counts; small = left.small; next = next };
      }

  asks : (n : ℕ) (condition : Term) (body : Steps) (fin : ProgramState) → Fits gs count 10 condition → count ≤ n → n < k.slots → (at1 r : ℕ) (u : TaskState) → Left n condition body fin r u →
      Part e.plant Marked (quiet (own e (turn_of e n condition))) (run s calls at1 (turn_of e n condition) u) (Decided n condition body fin r)
  asks n condition body fin fit slots inside at1 zero u left =
      let d = bound_headed s calls gs may k mixed.works.ground phase count n (suc n) n slots inside (omega arith) (omega arith)
      at1 condition u left.now 0 0 left.matches left.counts left.small fit refl in
      made n condition body fin at1 zero u left d.registers d.trace d.goes d.matches (λ m is holding. absurd (never m is)) where
        never : (m : ℕ) → 0 ≡ suc m → ⊥
        never m is = omega (arith, is)
  asks n condition body fin fit slots inside at1 (suc r) u left =
      let v = bounded_value condition body fin r left.now left.runs in
      let b = not (eqb v.0 0) in
      let d = bound_headed s calls gs may k mixed.works.ground phase count n (suc n) n slots inside (omega arith) (omega arith)
      at1 condition u left.now (suc r) (truth b) left.matches left.counts left.small fit
      (ap (λ b. cond b (ok_of 0) (truth_of (value may left.now condition))) (eqb-suc-zero r) ∙ ap truth_of v.1) in
      made n condition body fin at1 (suc r) u left d.registers d.trace d.goes d.matches
      (λ m is holding. let same : r ≡ m = one_less r m is in
      subst (Further condition body fin left.now) same
      (bounded_next condition body fin r left.now v.0 v.1 (truth_true b (sym (tested 10 (record u { registers = d.registers }) (truth b) d.matches.words d.ten) ∙ holding)) left.runs)) where
        one_less : (r m : ℕ) → suc r ≡ suc m → r ≡ m
        one_less r m is = omega (arith, is)

  while_divides : (n at : ℕ) (pl : Place) (turns : ℕ) (condition : Term) (body : Steps) (t : TaskState) (st after : ProgramState) (x : PathCount) →
      Here n at (While pl turns condition body Done) t st after →
      ((u : TaskState) (q q1 : ProgramState) → Here (n + 1) (body_place at (counter_code n turns) (turn_of e n condition) + 12) body u q q1 →
      Run x (body_place at (counter_code n turns) (turn_of e n condition) + 12) (code (n + 1) body) u) →
      Run (then_count (quiet (own e (counter_code n turns)))
      (turn_count e turns (nonzero 10) (own e (turn_of e n condition)) (then_count (quiet (own e (only (count_code n)))) x))) at
      (code n (While pl turns condition body Done)) t
  while_divides n at pl turns condition body t st after x h again =
      let y = then_ok (bounded turns (holds may condition) (run_source may source body) st) (run_source may source Done) after h.runs in
      let first = counter_code n turns in
      let head = turn_of e n condition in
      let inner = straight (count_code n) (code (n + 1) body) in
      let loop = repeat turns head (nonzero 10) inner no_pieces in
      let ps = only (constant 10 turns) in
      let at1 = at + size_of first in
      let at2 = test_at at1 head + 8 in
      let size : at + 4 * words (followed first loop) < 2 ^ 32 = h.size in
      let w1 = words-followed first loop in
      let aligned : at % 4 ≡ 0 = h.aligned in
      let slots : count ≤ n = h.slots in
      let room : n + (1 + counters_in body + 0) ≤ k.slots = h.room in
      let hi = n + 1 + counters_in body in
      let inside : n < k.slots = omega arith in
      let g = gave s calls 10 at ps t turns (quiet_constant 10 (omega arith) turns, tt)
      (puts_give s silent at (constant 10 turns) t 10 turns (constant_puts t.registers 10 turns (omega arith) h.fit.0 h.matches.words)) in
      let t1 : TaskState = record t { registers = g.registers } in
      let m1 = still s calls gs may k mixed.works.ground phase count at ps t st 10 turns (omega arith) h.matches g in
      let z = slot_falls s calls gs may k mixed.works.ground phase count n hi (at + size_of ps) n t1 st turns m1 inside g.value in
      let t2 : TaskState = record t1 { view = put_number 4 (slot_at k n) turns t.view } in
      let m2 = counter_matches s calls gs may k mixed.works.ground phase count n hi n slots inside (omega arith) (omega arith) t1 st turns m1 in
      let goes_first : run s calls at first t ≡ Falls t2 (g.trace ++ (z.0 ++ [])) =
      goes_then s calls ps (only (store_slot n ∷ [])) at t t1 t2 g.trace (z.0 ++ []) g.goes
      (before s calls (at + size_of ps) (store_slot n) [] no_pieces t1 t2 t2 z.0 [] z.1 (after_none s calls (at + size_of ps + 4) no_pieces t2 t2 [] refl)) in
      let l = loop_of s calls at1 head (nonzero 10) inner in
      seq e.plant Marked s calls _ _ (code n (While pl turns condition body Done)) first loop refl at t t2 (g.trace ++ (z.0 ++ [])) goes_first (own_run first tt (each_counter IsNative emits_native n turns) at t)
      (nothing_then e.plant Marked _ _
      (turns_course e.plant Marked (own e head) (job_weight e.plant (branch_of (nonzero 10))) (then_count (quiet (own e (only (count_code n)))) x) (own_jump e) l
      (Left n condition body y.0) (Decided n condition body y.0)
      (λ r u left. asks n condition body y.0 h.fit.1.0 slots inside at1 r u left)
      (λ u. branch_step (test_at at1 head) (nonzero 10) u) (λ u. other_step (test_at at1 head) (nonzero 10) (repeat_end at1 head inner) u)
      (λ r u decided holding. (let nx = decided.next r refl holding in
      let d = lowered s calls gs may k mixed.works.ground phase count n hi n slots inside (omega arith) (omega arith) at2 u decided.now r decided.matches decided.counts decided.small in
      let here : Here (n + 1) (at2 + 12) body d.to decided.now nx.0 = record {
        slots = omega arith;
        room = omega arith;
        aligned = omega arith;
        size = omega (arith, size, w1);
        fit = h.fit.1.1.0;
        matches = d.matches;
        runs = nx.1.0;
      } in
      let f = fell (n + 1) (at2 + 12) body d.to decided.now nx.0 here in
      let goes = goes_then s calls (only (count_code n)) (code (n + 1) body) at2 u d.to f.to d.trace f.trace d.goes f.goes in
      record {
        to = f.to;
        trace = d.trace ++ f.trace;
        goes = goes;
        courses = subst (RunCourses e.plant Marked (then_count (quiet (own e (only (count_code n)))) x)) goes
            (seq e.plant Marked s calls _ _ inner (only (count_code n)) (code (n + 1) body) refl at2 u d.to d.trace d.goes
            (own_run (only (count_code n)) tt (each_count IsNative emits_native n) at2 u) (again d.to decided.now nx.0 here));
        next = record {
          now = nx.0;
          matches = f.matches;
          counts = counter_same d.to.view f.to.view r (λ a kept. f.kept a (widen k count (suc n) (n + 1) hi hi a (omega arith) (omega arith) kept)) d.counts;
          small = omega (arith, decided.small);
          runs = nx.1.1;
        };
      }))
      (λ u. jump_step 0 (back_at at1 head inner) at1 u)
      turns t2 (record { now = st; matches = m2; counts = word_back (slot_at k n) turns t.view h.fit.0; small = h.fit.0; runs = y.1.0 }))) where
        counter_same : (view view' : ℕ → ℕ) (r : ℕ) → ((a : ℕ) → IsKept k count (suc n) (n + 1 + counters_in body) a → view' a ≡ view a) →
            number_at view (slot_at k n) 4 ≡ r → number_at view' (slot_at k n) 4 ≡ r
        counter_same view view' r kept is = number_same view' view 4 (slot_at k n) (λ b le lt. kept b (by b le lt)) ∙ is where
          slots : count ≤ n
          slots = h.slots

          by : (b : ℕ) → slot_at k n ≤ b → b < slot_at k n + 4 → IsKept k count (suc n) (n + 1 + counters_in body) b
          by b le lt = let le2 : count ≤ n = slots in grind arith

  -- ---- calls

  target_inside : (returns : Bool) (target : Option ℕ) → TargetFits count returns target → (i : ℕ) → target ≡ Some i → i < count
  target_inside returns None fit i is = cc
  target_inside returns (Some j) fit i is = let same : j ≡ i = cc in subst (λ n. n < count) same fit.0

  -- the call of a function in which a marked call is, or which is one: its arguments, and the steps from the jump to the return
  record CallRun (q : Parts) (at f : ℕ) (arguments : List Term) (t : TaskState) (after : ProgramState) : Type 0 where
    to : TaskState
    trace : List Did
    goes : run s calls at (argument_code q.target q.global (q.frame f) 0 arguments) t ≡ Falls to trace
    back : TaskState
    middle : List Did
    jumps : (rest : Pieces) → run s calls (at + size_of (argument_code q.target q.global (q.frame f) 0 arguments))
        (call_to (q.link f) (q.callee f) rest) to
        ≡ with_trace middle (run s calls (at + size_of (argument_code q.target q.global (q.frame f) 0 arguments) + 4) rest back)
    courses : Courses e.plant Marked (then_count (quiet (own_jump e)) (called_parted e f)) middle
    matches : Matches s gs k phase count after back

  with_twice : (xs ys : List Did) (o : Ending) → with_trace xs (with_trace ys o) ≡ with_trace (xs ++ ys) o
  with_twice xs ys (Falls t trace) = ap (Falls t) (sym (append_assoc xs ys trace))
  with_twice xs ys (Returns back t trace) = ap (Returns back t) (sym (append_assoc xs ys trace))
  with_twice xs ys Stuck = refl

  call_run : (n at : ℕ) (pl : Place) (target : Option ℕ) (f : ℕ) (arguments : List Term) (rest : Steps) (t : TaskState) (st after : ProgramState) →
      Here n at (Call pl target f arguments rest) t st after → cuts e f ≡ true →
      (vs : List ℕ) → values may st arguments ≡ Ok vs → (r : ℕ × ProgramState) → source may f vs st ≡ Ok r → CallRun e.parts at f arguments t r.1
  call_run n at pl target f arguments rest t st after h cut vs vs_is r r_is =
      let fit = h.fit.0 in
      let frame = parts.frame f in
      let link = parts.link f in
      let part = parts.callee f in
      let args = argument_code gs.target gs.part frame 0 arguments in
      let behind_call = target_code target (steps_code (with_globals gs parts) n rest) in
      let size : at + 4 * words (followed args (call_to link part behind_call)) < 2 ^ 32 =
      subst (λ (q : Parts). at + 4 * words (steps_code q n (Call pl target f arguments rest)) < 2 ^ 32) st_.parts_are h.size in
      let w1 = words-followed args (call_to link part behind_call) in
      let aligned : at % 4 ≡ 0 = h.aligned in
      let floor : k.low ≤ k.sp = mixed.works.ground.floor in
      let room : 4 + 4 * length arguments ≤ frame = fit.room in
      let dep : frame ≤ every.depth f = fit.frame in
      let lim : every.depth f ≤ under = fit.deep in
      let one : 1 ≤ link = fit.link.0 in
      let q = passed s calls gs may k mixed.works.ground phase count frame arguments 0 at t st vs h.matches fit.arguments_fit vs_is (omega arith) fit.aligned (omega arith) in
      let at1 = at + size_of args in
      let ra = at1 + 4 in
      let t1 : TaskState = q.to in
      let t2 : TaskState = linked link ra t1 in
      let small : ra < 2 ^ 32 = omega (arith, size, w1) in
      let not_two : 2 ≢ link = λ e. fit.no_stack (sym e) in
      let m2 = changed s calls gs may k mixed.works.ground phase count t1 st (with_register link ra t1.registers) q.matches
      (reg_words link ra t1.registers small q.matches.words) (reg_other link ra t1.registers 2 not_two ∙ q.matches.stack) in
      let stand : ArgumentsStand t2.view (k.sp - frame) vs = record {
        stands = λ i lt. (let z : 0 + i ≡ i = omega arith in subst (λ n. number_at t1.view (k.sp - frame + 4 + 4 * n) 4 ≡ slice_index vs i) z (q.stands i lt));
        word = q.word;
      } in
      let ra_aligned : ra % 4 ≡ 0 = omega arith in
      let deep : k.low + every.depth f ≤ k.sp = omega arith in
      let long = values_length s calls gs may k mixed.works.ground phase count arguments st vs vs_is ∙ fit.number in
      let holds_ra = reg_same link ra t1.registers (omega arith) in
      let b = (mixed.callees f fit.callable).runs count st vs t2 ra r.0 r.1 mixed.works.ground m2 holds_ra ra_aligned small deep long stand r_is in
      let d = (mixed.courses f fit.callable cut).courses count st vs t2 ra r.0 r.1 m2 holds_ra ra_aligned small deep long stand r_is in
      let jal = control at1 (jump_to link at1 (s.places part)) t1 in
      subst (λ (p : Parts). CallRun p at f arguments t r.1) (sym st_.parts_are)
      (record {
        to = t1;
        trace = q.trace;
        goes = q.goes;
        back = b.to;
        middle = jal ++ b.trace;
        jumps = λ more.
            ap (λ o. with_trace jal (called ra o (run s calls ra more))) b.goes
            ∙ ap (λ z. with_trace jal (cond z (with_trace b.trace (run s calls ra more b.to)) Stuck)) (eq-eqb ra ra refl) ∙ with_twice jal b.trace (run s calls ra more b.to);
        courses = courses_join e.plant Marked (quiet (own_jump e)) (called_parted e f) jal b.trace (jump_step link at1 (s.places part) t1)
            (subst (RunCourses e.plant Marked (called_parted e f)) b.goes d);
        matches = b.matches;
      })

  -- ---- statements without marked calls

  none_among : (p : ℕ → Bool) (xs : List ℕ) (f : ℕ) → list_any p xs ≡ false → IsAmong f xs → p f ≡ false
  none_among p [] f none is = absurd is
  none_among p (x ∷ xs) f none (inl same) = ap p (sym same) ∙ none_first _ _ none
  none_among p (x ∷ xs) f none (inr is) = none_among p xs f (none_second _ _ none) is

  fit_call : (target : Option ℕ) (f : ℕ) (arguments : List Term) → cuts e f ≡ false → CallFits gs parts every count under target f arguments → CallFits gs parts cs count under target f arguments
  fit_call target f arguments none x = record {
    callable = (mixed.quiet f x.callable none).1;
    arguments_fit = x.arguments_fit;
    number = x.number ∙ mixed.params f;
    room = x.room;
    aligned = x.aligned;
    frame = subst (λ n. parts.frame f ≤ n) (mixed.depths f) x.frame;
    deep = subst (λ n. n ≤ under) (mixed.depths f) x.deep;
    target_fits = subst (λ b. TargetFits count b target) (mixed.returns f) x.target_fits;
    link = x.link;
    no_stack = x.no_stack;
  }

  fit_quiet : (steps : Steps) → has_cut e steps ≡ false → StepsFit gs parts every phase count under steps → StepsFit gs parts cs phase count under steps
  fit_quiet Done none fit = tt
  fit_quiet (SetLocal at i value rest) none fit = (fit.0, (fit.1.0, fit_quiet rest none fit.1.1))
  fit_quiet (SetScalar at g ty value rest) none fit = (fit.0, (fit.1.0, fit_quiet rest none fit.1.1))
  fit_quiet (SetElement at g ty index value rest) none fit = (fit.0, (fit.1.0, (fit.1.1.0, fit_quiet rest none fit.1.1.1)))
  fit_quiet (Output at value rest) none fit = (fit.0, (fit.1.0, fit_quiet rest none fit.1.1))
  fit_quiet (Input at i rest) none fit = (fit.0, (fit.1.0, fit_quiet rest none fit.1.1))
  fit_quiet (If at condition taken other rest) none fit =
      let a = callees_in taken in
      let b = callees_in other in
      let d = callees_in rest in
      let more = none_right (cuts e) a (b ++ d) none in
      (fit.0, (fit_quiet taken (none_left (cuts e) a (b ++ d) none) fit.1.0, (fit_quiet other (none_left (cuts e) b d more) fit.1.1.0, fit_quiet rest (none_right (cuts e) b d more) fit.1.1.1)))
  fit_quiet (For at i low closed high step turns body rest) none fit =
      let a = callees_in body in
      let d = callees_in rest in
      (fit.0, (fit.1.0, (fit.1.1.0, (fit.1.1.1.0, (fit_quiet body (none_left (cuts e) a d none) fit.1.1.1.1.0, fit_quiet rest (none_right (cuts e) a d none) fit.1.1.1.1.1)))))
  fit_quiet (While at turns condition body rest) none fit =
      let a = callees_in body in
      let d = callees_in rest in
      (fit.0, (fit.1.0, (fit_quiet body (none_left (cuts e) a d none) fit.1.1.0, fit_quiet rest (none_right (cuts e) a d none) fit.1.1.1)))
  fit_quiet (Call at target f arguments rest) none fit = (fit_call target f arguments (none_first _ _ none) fit.0, fit_quiet rest (none_second _ _ none) fit.1)

  -- they divide
  quiet_divides : (n at : ℕ) (steps : Steps) (t : TaskState) (st after : ProgramState) → has_cut e steps ≡ false → Here n at steps t st after →
      RunDivides e.plant (least e n at steps) (run s calls at (code n steps) t)
  quiet_divides n at steps t st after none h =
      steps_divide e s gs parts cs phase c routines total st_ may limits calls k mixed.works count under space steps n at t st after h.slots h.room h.aligned h.size (fit_quiet steps none h.fit)
      (λ f is. (mixed.quiet f (steps_callable gs parts every phase count under steps h.fit f is) (none_among (cuts e) (callees_in steps) f none is)).0) h.matches h.runs

  -- ---- what stands before the next marked call, and what is behind it

  abbrev Home : TaskState → TaskState → Type 0
  Home t u = (a : ℕ) → k.sp ≤ a → a < k.sp + 4 → u.view a ≡ t.view a

  -- the edge behind all statements runs, where these have run through
  abbrev Lasts : (last : Edge) (at : ℕ) (t : TaskState) (after : ProgramState) → Type 0
  Lasts last at t after = (u : TaskState) → Matches s gs k phase count after u → Home t u → EdgeGoes s gs may k last at u

  trace_of : (o : Ending) → Goes o → (steps : List Did) × HasTrace o steps
  trace_of (Falls t trace) g = (trace, refl)
  trace_of (Returns back t trace) g = (trace, refl)
  trace_of Stuck g = absurd g

  traced_courses : (m : PathCount) (o : Ending) (steps : List Did) → HasTrace o steps → RunCourses e.plant Marked m o → Courses e.plant Marked m steps
  traced_courses m (Falls t trace) steps h k = subst (Courses e.plant Marked m) h k
  traced_courses m (Returns back t trace) steps h k = subst (Courses e.plant Marked m) h k
  traced_courses m Stuck steps h k = absurd h

  run_traced : (m : PathCount) (o : Ending) (steps : List Did) → HasTrace o steps → Courses e.plant Marked m steps → RunCourses e.plant Marked m o
  run_traced m (Falls t trace) steps h k = subst (Courses e.plant Marked m) (sym h) k
  run_traced m (Returns back t trace) steps h k = subst (Courses e.plant Marked m) (sym h) k
  run_traced m Stuck steps h k = tt

  open_ground : Ground s gs (narrowed (λ g. true) may) (frame_alone k)
  open_ground =
      let g = ground_alone s gs may k mixed.works.ground in
      record {
        target = g.target;
        small = g.small;
        ends = g.ends;
        aligned = g.aligned;
        floor = g.floor;
        room = g.room;
        loads = g.loads;
        stores = g.stores;
        elements = g.elements;
        allowed = λ h j lt is. g.allowed h j lt (and_parts (may h j) true is).0;
        apart = g.apart;
      }

  pub edge_trace : (edge : Edge) (at : ℕ) (t : TaskState) → EdgeGoes s gs may k edge at t → (steps : List Did) × HasTrace (run s calls at edge.pieces t) steps
  edge_trace edge at t x = trace_of (run s calls at edge.pieces t) (x.goes s.guard (λ g. true) calls open_ground (λ g is. refl) x.stored)

  -- the statements before the first marked call run through, then the edge behind them, and what is still behind it is counted
  pub record Tailed (first : Steps) (edge last : Edge) (most : PathCount) (n at : ℕ) (steps : Steps) (t : TaskState) (st : ProgramState) : Type 0 where
    mid : ProgramState
    none : has_cut e first ≡ false
    few : counters_in first ≤ counters_in steps
    short : words (code n first) ≤ words (code n steps)
    here : Here n at first t st mid
    front_to : TaskState
    front_trace : List Did
    front_goes : run s calls at (code n first) t ≡ Falls front_to front_trace
    edge_goes : EdgeGoes s gs may k edge (at + size_of (code n first)) front_to
    edge_steps : List Did
    edge_traced : HasTrace (run s calls (at + size_of (code n first)) edge.pieces front_to) edge_steps
    behind_trace : List Did
    whole : HasTrace (run s calls at (followed (code n steps) last.pieces) t) (front_trace ++ (edge_steps ++ behind_trace))
    courses : Courses e.plant Marked most behind_trace

  -- a passage that begins with an edge, and what is behind it
  passage_run : (from : ℕ) (before : Edge) (t0 t : TaskState) (trace : List Did) → EdgeGoes s gs may k before from t0 → run s calls from before.pieces t0 ≡ Falls t trace →
      (first : Steps) (edge last : Edge) (most : PathCount) (n : ℕ) (steps : Steps) (st : ProgramState) → Tailed first edge last most n (from + size_of before.pieces) steps t st →
      RunCourses e.plant Marked (then_count (quiet (passage e n from before first edge)) most) (run s calls from (followed before.pieces (followed (code n steps) last.pieces)) t0)
  passage_run from before t0 t trace x goes first edge last most n steps st z =
      let at = from + size_of before.pieces in
      let fit = fit_quiet first z.none z.here.fit in
      let d : Divides e.plant (passage e n from before first edge) (trace ++ (z.front_trace ++ z.edge_steps)) =
      passage_divides e s gs parts cs phase c routines total st_ may limits calls mixed.works.same_calls k mixed.works.ground mixed.works.frame
      mixed.works.below count under space n from before first edge
      t0 t z.front_to st z.mid trace z.front_trace z.edge_steps x goes z.here.slots z.here.room z.here.aligned z.here.size fit
      (λ f is. (mixed.quiet f (steps_callable gs parts every phase count under first z.here.fit f is) (none_among (cuts e) (callees_in first) f z.none is)).0)
      z.here.matches z.here.runs z.front_goes z.edge_goes z.edge_traced
      (subst (RunDivides e.plant (least e n at first)) z.front_goes (quiet_divides n at first t st z.mid z.none z.here)) in
      let traced : HasTrace (run s calls from (followed before.pieces (followed (code n steps) last.pieces)) t0) (trace ++ (z.front_trace ++ (z.edge_steps ++ z.behind_trace))) =
      subst (λ o. HasTrace o (trace ++ (z.front_trace ++ (z.edge_steps ++ z.behind_trace))))
      (sym (run-followed s calls before.pieces (followed (code n steps) last.pieces) from t0 ∙ ap (λ o. then_run o (run s calls at (followed (code n steps) last.pieces))) goes))
      (with_traced (run s calls at (followed (code n steps) last.pieces) t) _ trace z.whole) in
      let same : trace ++ (z.front_trace ++ (z.edge_steps ++ z.behind_trace)) ≡ (trace ++ (z.front_trace ++ z.edge_steps)) ++ z.behind_trace =
      ap (λ ds. trace ++ ds) (sym (append_assoc z.front_trace z.edge_steps z.behind_trace)) ∙ sym (append_assoc trace (z.front_trace ++ z.edge_steps) z.behind_trace) in
      run_traced _ _ _ traced
      (subst (Courses e.plant Marked (then_count (quiet (passage e n from before first edge)) most)) (sym same)
      (courses_join e.plant Marked (quiet (passage e n from before first edge)) most (trace ++ (z.front_trace ++ z.edge_steps)) z.behind_trace (course_of e.plant Marked _ _ d) z.courses))

  -- what is counted where a passage begins
  begun_more : (b : Begun) (last : Edge) (n at : ℕ) (steps : Steps) → IsNoMore (then_count (quiet (opened e b last n steps)) (parted e counted last n at steps)) (parted e b last n at steps)
  begun_more b last n at Done = by_same (nothing_last (quiet (opened e b last n Done)))
  begun_more b last n at (SetLocal pl i ex rest) = by_same (ap (then_count (quiet (opened e b last n (SetLocal pl i ex rest)))) (nothing_first _))
  begun_more b last n at (SetScalar pl g ty ex rest) = by_same (ap (then_count (quiet (opened e b last n (SetScalar pl g ty ex rest)))) (nothing_first _))
  begun_more b last n at (SetElement pl g ty index ex rest) = by_same (ap (then_count (quiet (opened e b last n (SetElement pl g ty index ex rest)))) (nothing_first _))
  begun_more b last n at (Output pl ex rest) = by_same (ap (then_count (quiet (opened e b last n (Output pl ex rest)))) (nothing_first _))
  begun_more b last n at (Input pl i rest) = by_same (ap (then_count (quiet (opened e b last n (Input pl i rest)))) (nothing_first _))
  begun_more b last n at (If pl condition taken other rest) = by_same (ap (then_count (quiet (opened e b last n (If pl condition taken other rest)))) (nothing_first _))
  begun_more b last n at (For pl i low closed high step turns body rest) = by_same (ap (then_count (quiet (opened e b last n (For pl i low closed high step turns body rest)))) (nothing_first _))
  begun_more b last n at (While pl turns condition body rest) = by_same (ap (then_count (quiet (opened e b last n (While pl turns condition body rest)))) (nothing_first _))
  begun_more b last n at (Call pl target f arguments rest) = by_same (ap (then_count (quiet (opened e b last n (Call pl target f arguments rest)))) (nothing_first _))

  abbrev Tail : (last : Edge) (n at : ℕ) (steps : Steps) (t : TaskState) (st : ProgramState) → Type 0
  Tail last n at steps t st = Tailed (front e steps) (next_edge e last steps) last (parted e counted last n at steps) n at steps t st

  -- statements behind an edge
  pub fresh : (from : ℕ) (before : Edge) (t0 t : TaskState) (trace : List Did) → EdgeGoes s gs may k before from t0 → run s calls from before.pieces t0 ≡ Falls t trace →
      (last : Edge) (n at : ℕ) (steps : Steps) (st : ProgramState) → from + size_of before.pieces ≡ at → Tail last n at steps t st →
      RunCourses e.plant Marked (parted e (begins from before) last n at steps) (run s calls from (followed before.pieces (followed (code n steps) last.pieces)) t0)
  fresh from before t0 t trace x goes last n at steps st same z =
      run_more e.plant Marked _ _ (run s calls from (followed before.pieces (followed (code n steps) last.pieces)) t0) (begun_more (begins from before) last n at steps)
      (passage_run from before t0 t trace x goes (front e steps) (next_edge e last steps) last (parted e counted last n at steps) n steps st
      (subst (λ a. Tailed (front e steps) (next_edge e last steps) last (parted e counted last n at steps) n a steps t st) (sym same) z))

  followed_nothing : (ps : Pieces) → followed ps no_pieces ≡ ps
  followed_nothing no_pieces = refl
  followed_nothing (straight is rest) = ap (straight is) (followed_nothing rest)
  followed_nothing (Rattle.prem_asm.specs.Pieces.address_of rd part more rest) = ap (Rattle.prem_asm.specs.Pieces.address_of rd part more) (followed_nothing rest)
  followed_nothing (either test taken other rest) = ap (either test taken other) (followed_nothing rest)
  followed_nothing (repeat turns head test body rest) = ap (repeat turns head test body) (followed_nothing rest)
  followed_nothing (call_to link part rest) = ap (call_to link part) (followed_nothing rest)

  nothing_behind : (at : ℕ) → at + size_of no_pieces ≡ at
  nothing_behind at = omega arith

  -- between no edges
  pub inner_run : (n at : ℕ) (steps : Steps) (t : TaskState) (st : ProgramState) → Tail no_edge n at steps t st → Run (parted e (begins at no_edge) no_edge n at steps) at (code n steps) t
  inner_run n at steps t st z =
      subst (λ ps. Run (parted e (begins at no_edge) no_edge n at steps) at ps t) (followed_nothing (code n steps))
      (fresh at no_edge t t [] (no_edge_goes s gs may k at t) refl no_edge n at steps st (nothing_behind at) z)

  -- a marked call is in the first statement
  cut_tail : (n at n2 : ℕ) (all one rest : Steps) (last : Edge) (x : PathCount) → code n all ≡ followed (code n one) (code n2 rest) →
      (t : TaskState) (st st1 after : ProgramState) → Here n at all t st after → Here n at one t st st1 →
      n ≤ n2 → n2 + counters_in rest ≤ k.slots → StepsFit gs parts every phase count under rest → run_source may source rest st1 ≡ Ok after → Run x at (code n one) t →
      ((u : TaskState) → Here n2 (at + size_of (code n one)) rest u st1 after → Home t u → Tail last n2 (at + size_of (code n one)) rest u st1) →
      Tailed Done no_edge last (then_count (quiet 0) (then_count x (parted e (begins (at + size_of (code n one)) no_edge) last n2 (at + size_of (code n one)) rest))) n at all t st
  cut_tail n at n2 all one rest last x is t st st1 after h h1 le room fit runs run_one again =
      let f = fell n at one t st st1 h1 in
      let at1 = at + size_of (code n one) in
      let z = again f.to (rest_here n at n2 all one rest is t f.to st st1 after h le room fit runs f.matches) (λ a ge lt. f.kept a (inl (ge, lt))) in
      let y = fresh at1 no_edge f.to f.to [] (no_edge_goes s gs may k at1 f.to) refl last n2 at1 rest st1 (nothing_behind at1) z in
      let parts_is : followed (code n all) last.pieces ≡ followed (code n one) (followed (code n2 rest) last.pieces) =
      ap (λ ps. followed ps last.pieces) is ∙ followed-assoc (code n one) (code n2 rest) last.pieces in
      let o = run s calls at (followed (code n all) last.pieces) t in
      let all_run = seq e.plant Marked s calls x _ (followed (code n all) last.pieces) (code n one) (followed (code n2 rest) last.pieces) parts_is at t f.to f.trace f.goes run_one y in
      let steps = f.trace ++ (z.front_trace ++ (z.edge_steps ++ z.behind_trace)) in
      let traced : HasTrace o steps =
      subst (λ o. HasTrace o steps) (sym
      (ap (λ ps. run s calls at ps t) parts_is ∙ run-followed s calls (code n one) (followed (code n2 rest) last.pieces) at t
      ∙ ap (λ o. then_run o (run s calls at1 (followed (code n2 rest) last.pieces))) f.goes))
      (with_traced (run s calls at1 (followed (code n2 rest) last.pieces) f.to) _ f.trace z.whole) in
      record {
        mid = st;
        none = refl;
        few = omega arith;
        short = omega arith;
        here = record { slots = h.slots; room = omega (arith, h.room); aligned = h.aligned; size = omega (arith, h.size); fit = tt; matches = h.matches; runs = refl };
        front_to = t;
        front_trace = [];
        front_goes = refl;
        edge_goes = no_edge_goes s gs may k (at + size_of (code n Done)) t;
        edge_steps = [];
        edge_traced = refl;
        behind_trace = steps;
        whole = traced;
        courses = courses_more e.plant Marked _ _ steps (by_same (sym (nothing_first _))) (traced_courses _ o steps traced all_run);
      }

  -- none is in it
  quiet_tail : (n at n2 : ℕ) (all one rest first : Steps) (edge last : Edge) (most : PathCount) → code n all ≡ followed (code n one) (code n2 rest) →
      code n first ≡ followed (code n one) (code n2 (front e rest)) → (t : TaskState) (st st1 after : ProgramState) → Here n at all t st after →
      Here n at one t st st1 → n ≤ n2 → n2 + counters_in rest ≤ k.slots → StepsFit gs parts every phase count under rest → run_source may source rest st1 ≡ Ok after →
      ((u : TaskState) → Here n2 (at + size_of (code n one)) rest u st1 after → Home t u → Tailed (front e rest) edge last most n2 (at + size_of (code n one)) rest u st1) →
      (counters_in (front e rest) ≤ counters_in rest → counters_in first ≤ counters_in all) →
      (StepsFit gs parts every phase count under (front e rest) → StepsFit gs parts every phase count under first) →
      ((q : ProgramState) → run_source may source (front e rest) st1 ≡ Ok q → run_source may source first st ≡ Ok q) →
      (has_cut e (front e rest) ≡ false → has_cut e first ≡ false) → Tailed first edge last (then_count (quiet 0) most) n at all t st
  quiet_tail n at n2 all one rest first edge last most is is_first t st st1 after h h1 le room fit runs again few fits means quiet_first =
      let f = fell n at one t st st1 h1 in
      let at1 = at + size_of (code n one) in
      let z = again f.to (rest_here n at n2 all one rest is t f.to st st1 after h le room fit runs f.matches) (λ a ge lt. f.kept a (inl (ge, lt))) in
      let w : words (code n all) ≡ words (code n one) + words (code n2 rest) = ap words is ∙ words-followed (code n one) (code n2 rest) in
      let w1 : words (code n first) ≡ words (code n one) + words (code n2 (front e rest)) = ap words is_first ∙ words-followed (code n one) (code n2 (front e rest)) in
      let short : words (code n first) ≤ words (code n all) = omega (arith, w, w1, z.short) in
      let less : counters_in first ≤ counters_in all = few z.few in
      let joined_goes = goes_then s calls (code n one) (code n2 (front e rest)) at t f.to z.front_to f.trace z.front_trace f.goes z.front_goes in
      let place : at1 + size_of (code n2 (front e rest)) ≡ at + size_of (code n first) = placed at _ _ _ w1 in
      let parts_is : followed (code n all) last.pieces ≡ followed (code n one) (followed (code n2 rest) last.pieces) =
      ap (λ ps. followed ps last.pieces) is ∙ followed-assoc (code n one) (code n2 rest) last.pieces in
      record {
        mid = z.mid;
        none = quiet_first z.none;
        few = less;
        short = short;
        here = record {
          slots = h.slots;
          room = omega (arith, h.room, less);
          aligned = h.aligned;
          size = omega (arith, h.size, short);
          fit = fits z.here.fit;
          matches = h.matches;
          runs = means z.mid z.here.runs;
        };
        front_to = z.front_to;
        front_trace = f.trace ++ z.front_trace;
        front_goes = ap (λ q. run s calls at q t) is_first ∙ joined_goes;
        edge_goes = subst (λ a. EdgeGoes s gs may k edge a z.front_to) place z.edge_goes;
        edge_steps = z.edge_steps;
        edge_traced = subst (λ a. HasTrace (run s calls a edge.pieces z.front_to) z.edge_steps) place z.edge_traced;
        behind_trace = z.behind_trace;
        whole = subst (λ o. HasTrace o ((f.trace ++ z.front_trace) ++ (z.edge_steps ++ z.behind_trace)))
            (sym (ap (λ ps. run s calls at ps t) parts_is ∙ run-followed s calls (code n one) (followed (code n2 rest) last.pieces) at t
            ∙ ap (λ o. then_run o (run s calls at1 (followed (code n2 rest) last.pieces))) f.goes))
            (subst (HasTrace (with_trace f.trace (run s calls at1 (followed (code n2 rest) last.pieces) f.to))) (sym (append_assoc f.trace z.front_trace (z.edge_steps ++ z.behind_trace)))
            (with_traced (run s calls at1 (followed (code n2 rest) last.pieces) f.to) _ f.trace z.whole));
        courses = courses_more e.plant Marked most _ z.behind_trace (by_same (sym (nothing_first most))) z.courses;
      } where
        placed : (a b c d : ℕ) → b ≡ c + d → a + 4 * c + 4 * d ≡ a + 4 * b
        placed a b c d e = omega (arith, e)

  -- one or the other
  pick : (b : Bool) (first : Steps) (edge_cut edge last : Edge) (x y : PathCount) (n at : ℕ) (steps : Steps) (t : TaskState) (st : ProgramState) →
      (b ≡ true → Tailed Done edge_cut last (then_count (quiet 0) x) n at steps t st) →
      (b ≡ false → Tailed first edge last (then_count (quiet 0) y) n at steps t st) → Tailed (by_cut b Done first) (by_cut b edge_cut edge) last (then_count (quiet 0) (by_cut b x y)) n at steps t st
  pick true first edge_cut edge last x y n at steps t st cut quiet_ = cut refl
  pick false first edge_cut edge last x y n at steps t st cut quiet_ = quiet_ refl

  -- a call in which a marked one is, or which is one
  with_falls : (xs : List Did) (o : Ending) (u : TaskState) (steps : List Did) → with_trace xs o ≡ Falls u steps → (trace : List Did) × (o ≡ Falls u trace)
  with_falls xs (Falls t trace) u steps is = (trace, ap (λ z. Falls z trace) (same_to is)) where
    to_of : Ending → TaskState
    to_of (Falls t trace) = t
    to_of (Returns back t trace) = t
    to_of Stuck = u

    same_to : Falls t (xs ++ trace) ≡ Falls u steps → t ≡ u
    same_to is = ap to_of is
  with_falls xs (Returns back t trace) u steps is = cc
  with_falls xs Stuck u steps is = cc

  target_followed : (target : Option ℕ) (rest last : Pieces) → followed (target_code target rest) last ≡ followed (target_code target no_pieces) (followed rest last)
  target_followed None rest last = refl
  target_followed (Some i) rest last = refl

  call_tail : (n at : ℕ) (pl : Place) (target : Option ℕ) (f : ℕ) (arguments : List Term) (rest : Steps) (last : Edge) (t : TaskState)
      (st after : ProgramState) → Here n at (Call pl target f arguments rest) t st after → cuts e f ≡ true →
      (vs : List ℕ) → values may st arguments ≡ Ok vs → (r : ℕ × ProgramState) → source may f vs st ≡ Ok r →
      Here n at (Call pl target f arguments Done) t st (with_target target r.0 r.1) → run_source may source rest (with_target target r.0 r.1) ≡ Ok after →
      ((u : TaskState) → Here n (at + size_of (code n (Call pl target f arguments Done))) rest u (with_target target r.0 r.1) after → Home t u →
      Tail last n (at + size_of (code n (Call pl target f arguments Done))) rest u (with_target target r.0 r.1)) →
      Tailed Done (passing e f arguments) last
      (then_count (quiet 0) (then_count (then_count (quiet (own_jump e)) (called_parted e f))
      (parted e (begins (landing_place e at f arguments) (landing target)) last n (at + size_of (code n (Call pl target f arguments Done)))
      rest))) n at (Call pl target f arguments rest) t st
  call_tail n at pl target f arguments rest last t st after h cut vs vs_is r r_is h1 runs again =
      let st1 = with_target target r.0 r.1 in
      let fit = h.fit.0 in
      let x = call_run n at pl target f arguments rest t st after h cut vs vs_is r r_is in
      let args = argument_code e.parts.target e.parts.global (e.parts.frame f) 0 arguments in
      let land = target_code target no_pieces in
      let call = λ (more : Pieces). call_to (e.parts.link f) (e.parts.callee f) more in
      let at1 = at + size_of args in
      let ra = at1 + 4 in
      let all = code n (Call pl target f arguments rest) in
      let one = code n (Call pl target f arguments Done) in
      let behind_ = at + size_of one in
      let fl = fell n at (Call pl target f arguments Done) t st st1 h1 in
      let one_is : run s calls at one t ≡ with_trace x.trace (with_trace x.middle (run s calls ra land x.back)) =
      run-followed s calls args (call land) at t ∙ ap (λ o. then_run o (run s calls at1 (call land))) x.goes ∙ ap (with_trace x.trace) (x.jumps land) in
      let l1 = with_falls x.trace (with_trace x.middle (run s calls ra land x.back)) fl.to fl.trace (sym one_is ∙ fl.goes) in
      let l2 = with_falls x.middle (run s calls ra land x.back) fl.to l1.0 l1.1 in
      let w = words-followed args (call land) in
      let place : ra + size_of land ≡ behind_ = placed at (words args) (words land) (words one) w in
      let z = again fl.to (rest_here n at n (Call pl target f arguments rest) (Call pl target f arguments Done) rest
      (first_call e.parts n pl target f arguments rest) t fl.to st st1 after h (omega arith) h.room h.fit.1 runs fl.matches)
      (λ a ge lt. fl.kept a (inl (ge, lt))) in
      let slots : count ≤ k.slots = below_slots n (counters_in rest) h.slots h.room in
      let lg = landing_goes s gs parts cs e st_.parts_are may k mixed.works.ground phase count ra target x.back r.1 x.matches slots (target_inside (every.returns f) target fit.target_fits) in
      let y = fresh ra (landing target) x.back fl.to l2.0 lg l2.1 last n behind_ rest st1 place z in
      let parts_is : followed all last.pieces ≡ followed args (call (followed land (followed (code n rest) last.pieces))) =
      followed-assoc args (call (target_code target (code n rest))) last.pieces ∙ ap (λ q. followed args (call q)) (target_followed target (code n rest) last.pieces) in
      let rest_run = run s calls ra (followed land (followed (code n rest) last.pieces)) x.back in
      let o = run s calls at (followed all last.pieces) t in
      let rest_steps = l2.0 ++ (z.front_trace ++ (z.edge_steps ++ z.behind_trace)) in
      let rest_traced : HasTrace rest_run rest_steps =
      subst (λ o. HasTrace o rest_steps)
      (sym (run-followed s calls land (followed (code n rest) last.pieces) ra x.back
      ∙ ap (λ o. then_run o (run s calls (ra + size_of land) (followed (code n rest) last.pieces))) l2.1))
      (subst (λ a. HasTrace (with_trace l2.0 (run s calls a (followed (code n rest) last.pieces) fl.to)) rest_steps) (sym place)
      (with_traced (run s calls behind_ (followed (code n rest) last.pieces) fl.to) _ l2.0 z.whole)) in
      let whole_is : o ≡ with_trace x.trace (with_trace x.middle rest_run) =
      ap (λ ps. run s calls at ps t) parts_is ∙ run-followed s calls args (call (followed land (followed (code n rest) last.pieces))) at t
      ∙ ap (λ o. then_run o (run s calls at1 (call (followed land (followed (code n rest) last.pieces))))) x.goes
      ∙ ap (with_trace x.trace) (x.jumps (followed land (followed (code n rest) last.pieces))) in
      let same_frame : e.parts.frame f ≡ parts.frame f = ap (λ (q : Parts). q.frame f) st_.parts_are in
      let dep : parts.frame f ≤ every.depth f = fit.frame in
      let lim : every.depth f ≤ under = fit.deep in
      record {
        mid = st;
        none = refl;
        few = omega arith;
        short = omega arith;
        here = record { slots = h.slots; room = omega (arith, h.room); aligned = h.aligned; size = omega (arith, h.size); fit = tt; matches = h.matches; runs = refl };
        front_to = t;
        front_trace = [];
        front_goes = refl;
        edge_goes = passing_goes s gs parts cs e st_.parts_are may k mixed.works.ground phase f count (at + size_of (code n Done))
            arguments t st vs h.matches fit.arguments_fit vs_is fit.room fit.aligned (omega arith) mixed.bottom;
        edge_steps = x.trace;
        edge_traced = subst (λ a. HasTrace (run s calls a args t) x.trace) (sym (nothing_behind at)) (subst (λ o. HasTrace o x.trace) (sym x.goes) refl);
        behind_trace = x.middle ++ rest_steps;
        whole = subst (λ o. HasTrace o (x.trace ++ (x.middle ++ rest_steps))) (sym whole_is) (with_traced _ _ x.trace (with_traced rest_run rest_steps x.middle rest_traced));
        courses = courses_more e.plant Marked _ _ _ (by_same (sym (nothing_first _)))
            (courses_join e.plant Marked (then_count (quiet (own_jump e)) (called_parted e f)) _ x.middle rest_steps x.courses (traced_courses _ rest_run rest_steps rest_traced y));
      } where
        placed : (at a l o : ℕ) → o ≡ a + (1 + l) → at + 4 * a + 4 + 4 * l ≡ at + 4 * o
        placed at a l o e = omega (arith, e)

        below_slots : (n m : ℕ) → count ≤ n → n + m ≤ k.slots → count ≤ k.slots
        below_slots n m le more = omega (arith, le, more)

  only_first : (b : Bool) → (b || false) ≡ true → b ≡ true
  only_first true is = refl
  only_first false is = cc

  -- behind the first statement
  lasts_on : (n at n2 : ℕ) (all one rest : Steps) → code n all ≡ followed (code n one) (code n2 rest) →
      (last : Edge) (t u : TaskState) (after : ProgramState) → Lasts last (at + size_of (code n all)) t after → Home t u →
      Lasts last (at + size_of (code n one) + size_of (code n2 rest)) u after
  lasts_on n at n2 all one rest is last t u after lasts home v m kept =
      subst (λ a. EdgeGoes s gs may k last a v) (placed at _ _ _ (ap words is ∙ words-followed (code n one) (code n2 rest))) (lasts v m (λ a le lt. kept a le lt ∙ home a le lt)) where
        placed : (a b c d : ℕ) → b ≡ c + d → a + 4 * b ≡ a + 4 * c + 4 * d
        placed a b c d e = omega (arith, e)

  pub tail : (steps : Steps) (n at : ℕ) (last : Edge) (t : TaskState) (st after : ProgramState) → Here n at steps t st after →
      Lasts last (at + size_of (code n steps)) t after → Tail last n at steps t st
  tail Done n at last t st after h lasts =
      let same : st ≡ after = same_ok st after h.runs in
      let x = lasts t (subst (λ q. Matches s gs k phase count q t) same h.matches) (λ a le lt. refl) in
      let y = edge_trace last (at + size_of (code n Done)) t x in
      record {
        mid = st;
        none = refl;
        few = omega arith;
        short = omega arith;
        here = record { slots = h.slots; room = h.room; aligned = h.aligned; size = h.size; fit = tt; matches = h.matches; runs = refl };
        front_to = t;
        front_trace = [];
        front_goes = refl;
        edge_goes = x;
        edge_steps = y.0;
        edge_traced = y.1;
        behind_trace = [];
        whole = subst (HasTrace (run s calls at last.pieces t)) (sym (append-nil y.0)) (subst (λ a. HasTrace (run s calls a last.pieces t) y.0) (nothing_behind at) y.1);
        courses = courses_none e.plant Marked;
      }
  tail (SetLocal pl i ex rest) n at last t st after h lasts =
      let x = then_ok (value may st ex) _ after h.runs in
      let st1 = with_local i x.0 st in
      let one = first_here n at n (SetLocal pl i ex rest) (SetLocal pl i ex Done) rest (first_local e.parts n pl i ex rest) t st st1 after h
      (omega (arith, h.room)) (h.fit.0, (h.fit.1.0, tt)) (ap (λ o. and_then o (λ w. Ok (with_local i w st))) x.1.0) in
      quiet_tail n at n (SetLocal pl i ex rest) (SetLocal pl i ex Done) rest (SetLocal pl i ex (front e rest)) _ last _
      (first_local e.parts n pl i ex rest) (first_local e.parts n pl i ex (front e rest)) t st st1 after h one (omega arith) h.room h.fit.1.1 x.1.1
      (λ u here home. tail rest n _ last u st1 after here
      (lasts_on n at n (SetLocal pl i ex rest) (SetLocal pl i ex Done) rest (first_local e.parts n pl i ex rest) last t u after lasts home))
      (λ few. few) (λ fit. (h.fit.0, (h.fit.1.0, fit)))
      (λ q runs. ap (λ o. and_then o (λ w. run_source may source (front e rest) (with_local i w st))) x.1.0 ∙ runs) (λ none. none)
  tail (SetScalar pl g ty ex rest) n at last t st after h lasts =
      let x = then_ok (value may st ex) _ after h.runs in
      let y = then_ok (store may pl.line ty g 0 x.0 st) (run_source may source rest) after x.1.1 in
      let one = first_here n at n (SetScalar pl g ty ex rest) (SetScalar pl g ty ex Done) rest (first_scalar e.parts n pl g ty ex rest)
      t st y.0 after h (omega (arith, h.room)) (h.fit.0, (h.fit.1.0, tt))
      (ap (λ o. and_then o (λ w. and_then (store may pl.line ty g 0 w st) (λ q. Ok q))) x.1.0 ∙ ap (λ o. and_then o (λ q. Ok q)) y.1.0) in
      quiet_tail n at n (SetScalar pl g ty ex rest) (SetScalar pl g ty ex Done) rest (SetScalar pl g ty ex (front e rest)) _ last _
      (first_scalar e.parts n pl g ty ex rest) (first_scalar e.parts n pl g ty ex (front e rest)) t st y.0 after h one (omega arith) h.room h.fit.1.1 y.1.1
      (λ u here home. tail rest n _ last u y.0 after here
      (lasts_on n at n (SetScalar pl g ty ex rest) (SetScalar pl g ty ex Done) rest (first_scalar e.parts n pl g ty ex rest)
      last t u after lasts home)) (λ few. few) (λ fit. (h.fit.0, (h.fit.1.0, fit)))
      (λ q runs. ap (λ o. and_then o (λ w. and_then (store may pl.line ty g 0 w st) (run_source may source (front e rest)))) x.1.0
      ∙ ap (λ o. and_then o (run_source may source (front e rest))) y.1.0 ∙ runs) (λ none. none)
  tail (SetElement pl g ty index ex rest) n at last t st after h lasts =
      let x = then_ok (value may st ex) _ after h.runs in
      let j = then_ok (value may st index) _ after x.1.1 in
      let y = then_ok (store may pl.line ty g j.0 x.0 st) (run_source may source rest) after j.1.1 in
      let one = first_here n at n (SetElement pl g ty index ex rest) (SetElement pl g ty index ex Done) rest
      (first_element e.parts n pl g ty index ex rest) t st y.0 after h (omega (arith, h.room)) (h.fit.0, (h.fit.1.0, (h.fit.1.1.0, tt)))
      (ap (λ o. and_then o (λ w. and_then (value may st index) (λ j. and_then (store may pl.line ty g j w st) (λ q. Ok q)))) x.1.0
      ∙ ap (λ o. and_then o (λ j. and_then (store may pl.line ty g j x.0 st) (λ q. Ok q))) j.1.0 ∙ ap (λ o. and_then o (λ q. Ok q)) y.1.0) in
      quiet_tail n at n (SetElement pl g ty index ex rest) (SetElement pl g ty index ex Done) rest
      (SetElement pl g ty index ex (front e rest)) _ last _ (first_element e.parts n pl g ty index ex rest)
      (first_element e.parts n pl g ty index ex (front e rest)) t st y.0 after h one (omega arith) h.room h.fit.1.1.1 y.1.1
      (λ u here home. tail rest n _ last u y.0 after here
      (lasts_on n at n (SetElement pl g ty index ex rest) (SetElement pl g ty index ex Done) rest (first_element e.parts n pl g ty index ex rest)
      last t u after lasts home)) (λ few. few) (λ fit. (h.fit.0, (h.fit.1.0, (h.fit.1.1.0, fit))))
      (λ q runs. ap (λ o. and_then o
      (λ w. and_then (value may st index) (λ j. and_then (store may pl.line ty g j w st) (run_source may source (front e rest))))) x.1.0
      ∙ ap (λ o. and_then o (λ j. and_then (store may pl.line ty g j x.0 st) (run_source may source (front e rest)))) j.1.0
      ∙ ap (λ o. and_then o (run_source may source (front e rest))) y.1.0 ∙ runs) (λ none. none)
  tail (Output pl ex rest) n at last t st after h lasts =
      let x = then_ok (value may st ex) _ after h.runs in
      let one = first_here n at n (Output pl ex rest) (Output pl ex Done) rest (first_output e.parts n pl ex rest) t st (with_output x.0 st) after h
      (omega (arith, h.room)) (h.fit.0, (h.fit.1.0, tt)) (ap (λ o. and_then o (λ w. Ok (with_output w st))) x.1.0) in
      quiet_tail n at n (Output pl ex rest) (Output pl ex Done) rest (Output pl ex (front e rest)) _ last _ (first_output e.parts n pl ex rest)
      (first_output e.parts n pl ex (front e rest)) t st (with_output x.0 st) after h one (omega arith) h.room h.fit.1.1 x.1.1
      (λ u here home. tail rest n _ last u (with_output x.0 st) after here
      (lasts_on n at n (Output pl ex rest) (Output pl ex Done) rest (first_output e.parts n pl ex rest) last t u after lasts home)) (λ few. few)
      (λ fit. (h.fit.0, (h.fit.1.0, fit)))
      (λ q runs. ap (λ o. and_then o (λ w. run_source may source (front e rest) (with_output w st))) x.1.0 ∙ runs) (λ none. none)
  tail (Input pl i rest) n at last t st after h lasts =
      let one = first_here n at n (Input pl i rest) (Input pl i Done) rest (first_input e.parts n pl i rest) t st (take_input i st.inputs st) after h
      (omega (arith, h.room)) (h.fit.0, (h.fit.1.0, tt)) refl in
      quiet_tail n at n (Input pl i rest) (Input pl i Done) rest (Input pl i (front e rest)) _ last _ (first_input e.parts n pl i rest)
      (first_input e.parts n pl i (front e rest)) t st (take_input i st.inputs st) after h one (omega arith) h.room h.fit.1.1 h.runs
      (λ u here home. tail rest n _ last u (take_input i st.inputs st) after here
      (lasts_on n at n (Input pl i rest) (Input pl i Done) rest (first_input e.parts n pl i rest) last t u after lasts home)) (λ few. few)
      (λ fit. (h.fit.0, (h.fit.1.0, fit)))
      (λ q runs. runs) (λ none. none)
  tail (If pl condition taken other rest) n at last t st after h lasts =
      let b = then_ok (holds may condition st) _ after h.runs in
      let y = then_ok (choose b.0 (run_source may source taken) (run_source may source other) st) (run_source may source rest) after b.1.1 in
      let is = first_if e.parts n pl condition taken other rest in
      let n2 = n + counters_in taken + counters_in other in
      let one = first_here n at n2 (If pl condition taken other rest) (If pl condition taken other Done) rest is t st y.0 after h
      (omega (arith, h.room)) (h.fit.0, (h.fit.1.0, (h.fit.1.1.0, tt)))
      (ap (λ o. and_then o (λ c. and_then (choose c (run_source may source taken) (run_source may source other) st) (λ q. Ok q))) b.1.0
      ∙ ap (λ o. and_then o (λ q. Ok q)) y.1.0) in
      pick (has_cut e (If pl condition taken other Done)) (If pl condition taken other (front e rest)) no_edge _ last _ _ n at (If pl condition taken other rest) t st
      (λ cut. cut_tail n at n2 (If pl condition taken other rest) (If pl condition taken other Done) rest last _ is t st y.0 after h one (omega arith) (omega (arith, h.room)) h.fit.1.1.1 y.1.1
      (if_divides n at pl condition taken other t st y.0 _ _ one
      (λ u q here. inner_run n _ taken u st (tail taken n _ no_edge u st q here (λ v m home. no_edge_goes s gs may k _ v)))
      (λ u q here. inner_run (n + counters_in taken) _ other u st (tail other (n + counters_in taken) _ no_edge u st q here (λ v m home. no_edge_goes s gs may k _ v))))
      (λ u here home. tail rest n2 _ last u y.0 after here (lasts_on n at n2 (If pl condition taken other rest) (If pl condition taken other Done) rest is last t u after lasts home)))
      (λ none. quiet_tail n at n2 (If pl condition taken other rest) (If pl condition taken other Done) rest
      (If pl condition taken other (front e rest)) _ last _ is (first_if e.parts n pl condition taken other (front e rest)) t st y.0 after h one
      (omega arith) (omega (arith, h.room)) h.fit.1.1.1 y.1.1
      (λ u here home. tail rest n2 _ last u y.0 after here (lasts_on n at n2 (If pl condition taken other rest) (If pl condition taken other Done) rest is last t u after lasts home))
      (λ few. omega (arith, few)) (λ fit. (h.fit.0, (h.fit.1.0, (h.fit.1.1.0, fit))))
      (λ q runs. ap (λ o. and_then o
      (λ c. and_then (choose c (run_source may source taken) (run_source may source other) st) (run_source may source (front e rest)))) b.1.0
      ∙ ap (λ o. and_then o (run_source may source (front e rest))) y.1.0 ∙ runs)
      (none_choice (cuts e) (callees_in taken) (callees_in other) (callees_in (front e rest)) none))
  tail (For pl i low closed high step turns body rest) n at last t st after h lasts =
      let v = then_ok (value may st low) _ after h.runs in
      let turn = λ (q : ProgramState). and_then (run_source may source body q) (loop_step pl.line i step) in
      let y = then_ok (counting pl.line turns (loop_test may i closed high) turn (with_local i v.0 st)) (run_source may source rest) after v.1.1 in
      let is = first_for e.parts n pl i low closed high step turns body rest in
      let n2 = n + counters_in body in
      let one = first_here n at n2 (For pl i low closed high step turns body rest) (For pl i low closed high step turns body Done)
      rest is t st y.0 after h (omega (arith, h.room)) (h.fit.0, (h.fit.1.0, (h.fit.1.1.0, (h.fit.1.1.1.0, (h.fit.1.1.1.1.0, tt)))))
      (ap (λ o. and_then o (λ w. and_then (counting pl.line turns (loop_test may i closed high) turn (with_local i w st)) (λ q. Ok q))) v.1.0
      ∙ ap (λ o. and_then o (λ q. Ok q)) y.1.0) in
      pick (has_cut e (For pl i low closed high step turns body Done)) (For pl i low closed high step turns body (front e rest))
      no_edge _ last _ _ n at (For pl i low closed high step turns body rest) t st
      (λ cut. cut_tail n at n2 (For pl i low closed high step turns body rest) (For pl i low closed high step turns body Done)
      rest last _ is t st y.0 after h one (omega arith) (omega (arith, h.room)) h.fit.1.1.1.1.1 y.1.1
      (for_divides n at pl i low closed high step turns body t st y.0 _ one (λ u q q1 here. inner_run n _ body u q (tail body n _ no_edge u q q1 here (λ v m home. no_edge_goes s gs may k _ v))))
      (λ u here home. tail rest n2 _ last u y.0 after here
      (lasts_on n at n2 (For pl i low closed high step turns body rest) (For pl i low closed high step turns body Done) rest is last t u after lasts home)))
      (λ none. quiet_tail n at n2 (For pl i low closed high step turns body rest) (For pl i low closed high step turns body Done) rest
      (For pl i low closed high step turns body (front e rest)) _ last _ is
      (first_for e.parts n pl i low closed high step turns body (front e rest)) t st y.0 after h one (omega arith) (omega (arith, h.room))
      h.fit.1.1.1.1.1 y.1.1
      (λ u here home. tail rest n2 _ last u y.0 after here
      (lasts_on n at n2 (For pl i low closed high step turns body rest) (For pl i low closed high step turns body Done) rest is last t u after lasts home))
      (λ few. omega (arith, few)) (λ fit. (h.fit.0, (h.fit.1.0, (h.fit.1.1.0, (h.fit.1.1.1.0, (h.fit.1.1.1.1.0, fit))))))
      (λ q runs. ap (λ o. and_then o
      (λ w. and_then (counting pl.line turns (loop_test may i closed high) turn (with_local i w st)) (run_source may source (front e rest))))
      v.1.0 ∙ ap (λ o. and_then o (run_source may source (front e rest))) y.1.0 ∙ runs)
      (none_loop (cuts e) (callees_in body) (callees_in (front e rest)) none))
  tail (While pl turns condition body rest) n at last t st after h lasts =
      let y = then_ok (bounded turns (holds may condition) (run_source may source body) st) (run_source may source rest) after h.runs in
      let is = first_while e.parts n pl turns condition body rest in
      let n2 = n + 1 + counters_in body in
      let one = first_here n at n2 (While pl turns condition body rest) (While pl turns condition body Done) rest is t st y.0 after h
      (omega (arith, h.room)) (h.fit.0, (h.fit.1.0, (h.fit.1.1.0, tt))) (ap (λ o. and_then o (λ q. Ok q)) y.1.0) in
      pick (has_cut e (While pl turns condition body Done)) (While pl turns condition body (front e rest)) no_edge _ last _ _ n at (While pl turns condition body rest) t st
      (λ cut. cut_tail n at n2 (While pl turns condition body rest) (While pl turns condition body Done) rest last _ is t st y.0 after h one (omega arith) (omega (arith, h.room)) h.fit.1.1.1 y.1.1
      (while_divides n at pl turns condition body t st y.0 _ one (λ u q q1 here. inner_run (n + 1) _ body u q (tail body (n + 1) _ no_edge u q q1 here (λ v m home. no_edge_goes s gs may k _ v))))
      (λ u here home. tail rest n2 _ last u y.0 after here (lasts_on n at n2 (While pl turns condition body rest) (While pl turns condition body Done) rest is last t u after lasts home)))
      (λ none. quiet_tail n at n2 (While pl turns condition body rest) (While pl turns condition body Done) rest
      (While pl turns condition body (front e rest)) _ last _ is (first_while e.parts n pl turns condition body (front e rest))
      t st y.0 after h one (omega arith) (omega (arith, h.room)) h.fit.1.1.1 y.1.1
      (λ u here home. tail rest n2 _ last u y.0 after here (lasts_on n at n2 (While pl turns condition body rest) (While pl turns condition body Done) rest is last t u after lasts home))
      (λ few. omega (arith, few)) (λ fit. (h.fit.0, (h.fit.1.0, (h.fit.1.1.0, fit))))
      (λ q runs. ap (λ o. and_then o (run_source may source (front e rest))) y.1.0 ∙ runs)
      (none_loop (cuts e) (callees_in body) (callees_in (front e rest)) none))
  tail (Call pl target f arguments rest) n at last t st after h lasts =
      let vs = then_ok (values may st arguments) _ after h.runs in
      let r = then_ok (source may f vs.0 st) (λ r. run_source may source rest (with_target target r.0 r.1)) after vs.1.1 in
      let st1 = with_target target r.0.0 r.0.1 in
      let is = first_call e.parts n pl target f arguments rest in
      let one = first_here n at n (Call pl target f arguments rest) (Call pl target f arguments Done) rest is t st st1 after h (omega (arith, h.room))
      (h.fit.0, tt) (ap (λ o. and_then o (λ ws. and_then (source may f ws st) (λ r. Ok (with_target target r.0 r.1)))) vs.1.0
      ∙ ap (λ o. and_then o (λ r. Ok (with_target target r.0 r.1))) r.1.0) in
      pick (has_cut e (Call pl target f arguments Done)) (Call pl target f arguments (front e rest)) (passing e f arguments) _ last _ _ n at (Call pl target f arguments rest) t st
      (λ cut. call_tail n at pl target f arguments rest last t st after h (only_first _ cut) vs.0 vs.1.0 r.0 r.1.0 one r.1.1
      (λ u here home. tail rest n _ last u st1 after here (lasts_on n at n (Call pl target f arguments rest) (Call pl target f arguments Done) rest is last t u after lasts home)))
      (λ none. quiet_tail n at n (Call pl target f arguments rest) (Call pl target f arguments Done) rest
      (Call pl target f arguments (front e rest)) _ last _ is (first_call e.parts n pl target f arguments (front e rest)) t st st1 after h one
      (omega arith) h.room h.fit.1 r.1.1
      (λ u here home. tail rest n _ last u st1 after here (lasts_on n at n (Call pl target f arguments rest) (Call pl target f arguments Done) rest is last t u after lasts home))
      (λ few. few) (λ fit. (h.fit.0, fit))
      (λ q runs. ap (λ o. and_then o
      (λ ws. and_then (source may f ws st) (λ r. run_source may source (front e rest) (with_target target r.0 r.1)))) vs.1.0
      ∙ ap (λ o. and_then o (λ r. run_source may source (front e rest) (with_target target r.0 r.1))) r.1.0 ∙ runs)
      (λ more. none_loop (cuts e) (f ∷ []) (callees_in (front e rest)) none more))

pub steps_course : StepsCourse
steps_course e s gs parts cs every phase c routines total st_ may limits calls k marked mixed count under space steps n at t st after slots room aligned size fit m is =
    inner_run e s gs parts cs every phase c routines total st_ may limits calls k (is_marked marked) mixed count under space n at steps t st
    (tail e s gs parts cs every phase c routines total st_ may limits calls k (is_marked marked) mixed count under space steps n at no_edge t st after
    (record { slots = slots; room = room; aligned = aligned; size = size; fit = fit; matches = m; runs = is }) (λ u m home. no_edge_goes s gs may k _ u))
