-- A run that notes marked calls by their functions alone is the run of the meaning, seen in outline.
use Rattle.std.specs.Prelude.{slice_get, pos, ◌+ℤ◌, int_lt}
use Rattle.std.specs.Option.{option_map}
use Rattle.std.proofs.Common.{◌≡◌, ℕ, zero, suc, ◌+◌, Bool, true, false, eqb, cond, List, [], ◌∷◌, length, map, refl, ap, sym, ◌∙◌, Option, None, Some, Ok, Err, is_some}
use Rattle.std.proofs.lemmas.List.{map-append}
use Rattle.prem_list.specs.Sequence.{items_of}
use Rattle.prem_word.specs.Words.{word_of}
use Rattle.prem_syntax.specs.declared.tree.Ty.{Ty}
use Rattle.prem_syntax.specs.declared.tree.Mark.{Mark}
use Rattle.prem_syntax.specs.SyntaxOf.{mark_of}
use Rattle.prem_syntax.specs.Resolved.{Term, Steps, Done, Routine}
use Rattle.prem_syntax.specs.Expressions.{Outcome, and_then, or_wrong, cell}
use Rattle.prem_syntax.specs.Statements.{ProgramState, MarkedCall, Calls, choose, value, values, with_local, with_cell, store, stored, with_output, take_input, holds, loop_test}
use Rattle.prem_syntax.specs.Statements.{int_local, loop_step, counting, bounded, with_target, run, declare, result_of, with_mark, is_marked, leave, enter, with_new_local}
use Rattle.prem_syntax.specs.Source.{Limits, unlimited, everywhere, enter_if_there, this_or, calls_below, do_jobs}
use Rattle.prem_tree.specs.declared.resolve.resolved.Step.{Step, Row_of-Step, end_of-Step, more_of-Step}
use Rattle.prem_tree.specs.declared.resolve.resolved.Step.TheVariants.{Block', SetLocal, SetScalar, SetElement, Output, Input, If', For', While', Call}
use Rattle.prem_tree.specs.declared.resolve.resolved.Routine.{Routine as RoutineTree}
use Rattle.prem_tree.specs.declared.resolve.resolved.Resolved.{Resolved as ResolvedTree}
use Rattle.prem_tree.specs.Resolve.ResolvedOf.{term_of, loops_of, step_before, row_before, routine_of, routines_of, resolved_of}
use Rattle.prem_tree.specs.State.Interpreter.{noted}
use Rattle.prem_tree.specs.StepMeaning.{NotedCalls, do_step, do_row, do_routine, do_if_there, this_or_others, noted_calls, back_in, noted_jobs}

-- a state whose marked calls are known by their functions alone
abbrev pub outline : ProgramState → ProgramState
outline s = record s { marks = map (λ (m : MarkedCall). noted m.function) s.marks }

abbrev pub called : ℕ × ProgramState → ℕ × ProgramState
called r = (r.0, outline r.1)

abbrev pub mapped : {A B : Type 0} → (A → B) → Outcome A → Outcome B
mapped f (Ok x) = Ok (f x)
mapped f (Err line) = Err line

and_then-ok : {A : Type 0} (o : Outcome A) → and_then o (λ x. Ok x) ≡ o
and_then-ok (Ok x) = refl
and_then-ok (Err line) = refl

-- the same outcome, then what agrees in outline
behind : {A B C : Type 0} (g : B → C) (o : Outcome A) (f : A → Outcome B) (h : A → Outcome C) → ((x : A) → mapped g (f x) ≡ h x) → mapped g (and_then o f) ≡ and_then o h
behind g (Ok x) f h same = same x
behind g (Err line) f h same = refl

behind_both : {A : Type 0} (o : Outcome A) (f h : A → Outcome ProgramState) (k : ProgramState → Outcome ProgramState) → ((x : A) → mapped outline (f x) ≡ and_then (h x) k) →
    mapped outline (and_then o f) ≡ and_then (and_then o h) k
behind_both (Ok x) f h k same = same x
behind_both (Err line) f h k same = refl

-- outcomes that agree in outline, then what agrees in outline
joined : {A B C D : Type 0} (a : A → B) (g : C → D) (o : Outcome A) (o' : Outcome B) (f : A → Outcome C) (k : B → Outcome D) → mapped a o ≡ o' → ((t : A) → mapped g (f t) ≡ k (a t)) →
    mapped g (and_then o f) ≡ and_then o' k
joined a g (Ok t) o' f k is same = rw (sym is) (same t)
joined a g (Err line) o' f k is same = rw (sym is)

store_outlined : (line g : ℕ) (ty : Ty) (j w : ℕ) (s : ProgramState) → mapped outline (store everywhere line ty g j w s) ≡ store everywhere line ty g j w (outline s)
store_outlined line g ty j w s =
    behind outline (or_wrong line (cell everywhere s.globals g j)) (λ old. Ok (with_cell g j (stored ty w) s)) (λ old. Ok (with_cell g j (stored ty w) (outline s))) (λ old. refl)

step_outlined : (past : Bool) (line k w : ℕ) (s : ProgramState) → mapped outline (cond past (Err line) (Ok (with_local k w s))) ≡ cond past (Err line) (Ok (with_local k w (outline s)))
step_outlined true line k w s = refl
step_outlined false line k w s = refl

loop_step_outlined : (line k step : ℕ) (s : ProgramState) → mapped outline (loop_step line k step s) ≡ loop_step line k step (outline s)
loop_step_outlined line k step s =
    step_outlined (int_lt (pos 2147483647) (int_local k s +ℤ pos step)) line k (word_of (int_local k s +ℤ pos step)) s

input_outlined : (k : ℕ) (inputs : List ℕ) (s : ProgramState) → outline (take_input k inputs s) ≡ take_input k inputs (outline s)
input_outlined k [] s = refl
input_outlined k (w ∷ rest) s = refl

target_outlined : (target : Option ℕ) (w : ℕ) (s : ProgramState) → outline (with_target target w s) ≡ with_target target w (outline s)
target_outlined None w s = refl
target_outlined (Some k) w s = refl

choose_outlined : (go : Bool) (f g f' g' : ProgramState → Outcome ProgramState) (s : ProgramState) →
    ((t : ProgramState) → mapped outline (f t) ≡ f' (outline t)) → ((t : ProgramState) → mapped outline (g t) ≡ g' (outline t)) →
    mapped outline (choose go f g s) ≡ choose go f' g' (outline s)
choose_outlined true f g f' g' s hf hg = hf s
choose_outlined false f g f' g' s hf hg = hg s

counting_outlined : (line n : ℕ) (test : ProgramState → Outcome Bool) (turn turn' : ProgramState → Outcome ProgramState) (s : ProgramState) →
    ((t : ProgramState) → test t ≡ test (outline t)) → ((t : ProgramState) → mapped outline (turn t) ≡ turn' (outline t)) →
    mapped outline (counting line n test turn s) ≡ counting line n test turn' (outline s)
unfolding counting
counting_outlined line zero test turn turn' s ht hn =
    rw (sym (ht s))
    (behind outline (test s) (λ go. choose go (λ t. Err line) Ok s) (λ go. choose go (λ t. Err line) Ok (outline s))
    (λ go. choose_outlined go (λ t. Err line) Ok (λ t. Err line) Ok s (λ t. refl) (λ t. refl)))
counting_outlined line (suc n) test turn turn' s ht hn =
    let goes = λ (t : ProgramState). and_then (turn t) (counting line n test turn) in
    let goes' = λ (t : ProgramState). and_then (turn' t) (counting line n test turn') in
    let same : (t : ProgramState) → mapped outline (goes t) ≡ goes' (outline t) =
    λ t. joined outline outline (turn t) (turn' (outline t)) (counting line n test turn) (counting line n test turn') (hn t) (λ u. counting_outlined line n test turn turn' u ht hn) in
    rw (sym (ht s)) (behind outline (test s) (λ go. choose go goes Ok s) (λ go. choose go goes' Ok (outline s)) (λ go. choose_outlined go goes Ok goes' Ok s same (λ t. refl)))

bounded_outlined : (n : ℕ) (test : ProgramState → Outcome Bool) (turn turn' : ProgramState → Outcome ProgramState) (s : ProgramState) →
    ((t : ProgramState) → test t ≡ test (outline t)) → ((t : ProgramState) → mapped outline (turn t) ≡ turn' (outline t)) →
    mapped outline (bounded n test turn s) ≡ bounded n test turn' (outline s)
unfolding bounded
bounded_outlined zero test turn turn' s ht hn = refl
bounded_outlined (suc n) test turn turn' s ht hn =
    let goes = λ (t : ProgramState). and_then (turn t) (bounded n test turn) in
    let goes' = λ (t : ProgramState). and_then (turn' t) (bounded n test turn') in
    let same : (t : ProgramState) → mapped outline (goes t) ≡ goes' (outline t) =
    λ t. joined outline outline (turn t) (turn' (outline t)) (bounded n test turn) (bounded n test turn') (hn t) (λ u. bounded_outlined n test turn turn' u ht hn) in
    rw (sym (ht s)) (behind outline (test s) (λ go. choose go goes Ok s) (λ go. choose go goes' Ok (outline s)) (λ go. choose_outlined go goes Ok goes' Ok s same (λ t. refl)))

assoc : {A B C : Type 0} (o : Outcome A) (f : A → Outcome B) (g : B → Outcome C) → and_then (and_then o f) g ≡ and_then o (λ x. and_then (f x) g)
assoc (Ok x) f g = refl
assoc (Err line) f g = refl

-- a counting loop behind its first value, and a call, before what agrees in outline
for_run : (line : ℕ) (o : Outcome ℕ) (l n : ℕ) (test : ProgramState → Outcome Bool) (turn turn' f k : ProgramState → Outcome ProgramState)
    (s : ProgramState) → ((t : ProgramState) → test t ≡ test (outline t)) →
    ((t : ProgramState) → mapped outline (turn t) ≡ turn' (outline t)) → ((t : ProgramState) → mapped outline (f t) ≡ k (outline t)) →
    mapped outline (and_then o (λ w. and_then (counting line n test turn (with_local l w s)) f))
    ≡ and_then (and_then (and_then o (λ w. Ok (with_local l w (outline s)))) (counting line n test turn')) k
for_run line (Ok w) l n test turn turn' f k s ht hn same =
    joined outline outline (counting line n test turn (with_local l w s)) (counting line n test turn' (with_local l w (outline s))) f k
    (counting_outlined line n test turn turn' (with_local l w s) ht hn) same
for_run line (Err at) l n test turn turn' f k s ht hn same = refl

call_run : (o o' : Outcome (ℕ × ProgramState)) (target : Option ℕ) (f k : ProgramState → Outcome ProgramState) → mapped called o ≡ o' → ((t : ProgramState) → mapped outline (f t) ≡ k (outline t)) →
    mapped outline (and_then o (λ r. f (with_target target r.0 r.1))) ≡ and_then (and_then o' (λ r. Ok (with_target target r.0 r.1))) k
call_run (Ok r) o' target f k is same = rw (sym is) (same (with_target target r.0 r.1) ∙ ap k (target_outlined target r.0 r.1))
call_run (Err line) o' target f k is same = rw (sym is)

-- calls that agree in outline
pub record AgreeInOutline (calls : Calls) (noting : NotedCalls) : Type 0 where
  pub same : (f : ℕ) (ws : List ℕ) (s : ProgramState) → mapped called (calls everywhere f ws s) ≡ noting f ws (outline s)

-- a step before others, whose run is k in outline
mutual
  step_run : (calls : Calls) (noting : NotedCalls) → AgreeInOutline calls noting → (n : ℕ) (x : Step) (rest : Steps) (k : ProgramState → Outcome ProgramState) (s : ProgramState) →
      ((t : ProgramState) → mapped outline (run everywhere calls rest t) ≡ k (outline t)) →
      mapped outline (run everywhere calls (step_before unlimited.turns n x rest) s) ≡ and_then (do_step noting x (outline s)) k
  step_run calls noting h n (Block' shape body) rest k s same = row_run calls noting h n body rest k s same
  step_run calls noting h n (SetLocal at l e) rest k s same =
      behind_both (value everywhere s (term_of e)) (λ w. run everywhere calls rest (with_local l w s)) (λ w. Ok (with_local l w (outline s))) k (λ w. same (with_local l w s))
  step_run calls noting h n (SetScalar at g ty e) rest k s same =
      behind_both (value everywhere s (term_of e)) (λ w. and_then (store everywhere at.line ty g 0 w s) (run everywhere calls rest)) (λ w. store everywhere at.line ty g 0 w (outline s)) k
      (λ w. joined outline outline (store everywhere at.line ty g 0 w s) (store everywhere at.line ty g 0 w (outline s)) (run everywhere calls rest) k (store_outlined at.line g ty 0 w s) same)
  step_run calls noting h n (SetElement at g ty index e) rest k s same =
      behind_both (value everywhere s (term_of e)) (λ w. and_then (value everywhere s (term_of index)) (λ j. and_then (store everywhere at.line ty g j w s) (run everywhere calls rest)))
      (λ w. and_then (value everywhere s (term_of index)) (λ j. store everywhere at.line ty g j w (outline s))) k
      (λ w. behind_both (value everywhere s (term_of index)) (λ j. and_then (store everywhere at.line ty g j w s) (run everywhere calls rest)) (λ j. store everywhere at.line ty g j w (outline s)) k
      (λ j. joined outline outline (store everywhere at.line ty g j w s) (store everywhere at.line ty g j w (outline s)) (run everywhere calls rest) k (store_outlined at.line g ty j w s) same))
  step_run calls noting h n (Output at e) rest k s same =
      behind_both (value everywhere s (term_of e)) (λ w. run everywhere calls rest (with_output w s)) (λ w. Ok (with_output w (outline s))) k (λ w. same (with_output w s))
  step_run calls noting h n (Input at l) rest k s same = same (take_input l s.inputs s) ∙ ap k (input_outlined l s.inputs s)
  step_run calls noting h n (If' at c p taken q other) rest k s same =
      behind_both (holds everywhere (term_of c) s)
      (λ go. and_then (choose go (run everywhere calls (step_before unlimited.turns n taken Done))
      (run everywhere calls (step_before unlimited.turns (n + loops_of taken) other Done)) s) (run everywhere calls rest))
      (λ go. choose go (do_step noting taken) (do_step noting other) (outline s)) k
      (λ go. joined outline outline
      (choose go (run everywhere calls (step_before unlimited.turns n taken Done)) (run everywhere calls (step_before unlimited.turns (n + loops_of taken) other Done)) s)
      (choose go (do_step noting taken) (do_step noting other) (outline s)) (run everywhere calls rest) k
      (choose_outlined go (run everywhere calls (step_before unlimited.turns n taken Done))
      (run everywhere calls (step_before unlimited.turns (n + loops_of taken) other Done)) (do_step noting taken) (do_step noting other) s
      (λ t. step_run calls noting h n taken Done (λ u. Ok u) t (λ u. refl) ∙ and_then-ok (do_step noting taken (outline t)))
      (λ t. step_run calls noting h (n + loops_of taken) other Done (λ u. Ok u) t (λ u. refl) ∙ and_then-ok (do_step noting other (outline t))))
      same)
  step_run calls noting h n (For' at l low closed high step p body) rest k s same =
      let turn = λ (t : ProgramState). and_then (run everywhere calls (step_before unlimited.turns (n + 1) body Done) t) (loop_step at.line l step) in
      let turn' = λ (t : ProgramState). and_then (do_step noting body t) (loop_step at.line l step) in
      let test = loop_test everywhere l closed (term_of high) in
      let turned : (t : ProgramState) → mapped outline (turn t) ≡ turn' (outline t) =
      λ t. joined outline outline (run everywhere calls (step_before unlimited.turns (n + 1) body Done) t) (do_step noting body (outline t)) (loop_step at.line l step) (loop_step at.line l step)
      (step_run calls noting h (n + 1) body Done (λ u. Ok u) t (λ u. refl) ∙ and_then-ok (do_step noting body (outline t))) (loop_step_outlined at.line l step) in
      for_run at.line (value everywhere s (term_of low)) l (unlimited.turns n) test turn turn' (run everywhere calls rest) k s (λ t. refl) turned same
  step_run calls noting h n (While' at turns c p body) rest k s same =
      joined outline outline (bounded turns (holds everywhere (term_of c)) (run everywhere calls (step_before unlimited.turns n body Done)) s)
      (bounded turns (holds everywhere (term_of c)) (do_step noting body) (outline s))
      (run everywhere calls rest) k
      (bounded_outlined turns (holds everywhere (term_of c)) (run everywhere calls (step_before unlimited.turns n body Done)) (do_step noting body) s (λ t. refl)
      (λ t. step_run calls noting h n body Done (λ u. Ok u) t (λ u. refl) ∙ and_then-ok (do_step noting body (outline t))))
      same
  step_run calls noting h n (Call at target f arguments) rest k s same =
      behind_both (values everywhere s (map term_of (items_of arguments))) (λ ws. and_then (calls everywhere f ws s) (λ r. run everywhere calls rest (with_target target r.0 r.1)))
      (λ ws. and_then (noting f ws (outline s)) (λ r. Ok (with_target target r.0 r.1))) k
      (λ ws. call_run (calls everywhere f ws s) (noting f ws (outline s)) target (run everywhere calls rest) k (h.same f ws s) same)

  row_run : {m : _} (calls : Calls) (noting : NotedCalls) → AgreeInOutline calls noting → (n : ℕ) (row : Row_of-Step m) (rest : Steps) (k : ProgramState → Outcome ProgramState) (s : ProgramState) →
      ((t : ProgramState) → mapped outline (run everywhere calls rest t) ≡ k (outline t)) →
      mapped outline (run everywhere calls (row_before unlimited.turns n row rest) s) ≡ and_then (do_row noting row (outline s)) k
  row_run calls noting h n end_of-Step rest k s same = same s
  row_run calls noting h n (more_of-Step first others) rest k s same =
      step_run calls noting h n first (row_before unlimited.turns (n + loops_of first) others rest) (λ t. and_then (do_row noting others t) k) s
      (λ t. row_run calls noting h (n + loops_of first) others rest k t same)
      ∙ sym (assoc (do_step noting first (outline s)) (do_row noting others) k)

declare_outlined : (es : List Term) (s : ProgramState) → mapped outline (declare everywhere es s) ≡ declare everywhere es (outline s)
declare_outlined [] s = refl
declare_outlined (e ∷ es) s =
    behind outline (value everywhere s e) (λ w. declare everywhere es (with_new_local w s)) (λ w. declare everywhere es (with_new_local w (outline s))) (λ w. declare_outlined es (with_new_local w s))

marks_outlined : (mark : Option Mark) (m : MarkedCall) (ms : List MarkedCall) →
    map (λ (c : MarkedCall). noted c.function) (with_mark (is_some (option_map mark_of mark)) m ms) ≡ with_mark (is_some mark) (noted m.function) (map (λ (c : MarkedCall). noted c.function) ms)
marks_outlined None m ms = refl
marks_outlined (Some mark) m ms = map-append (λ (c : MarkedCall). noted c.function) ms (m ∷ [])

with_marks : List MarkedCall → List ℕ → ProgramState → ProgramState
with_marks ms ls s = record s { marks = ms; locals = ls }

leave_outlined : (r : RoutineTree) (i n : ℕ) (s u : ProgramState) → outline (leave (routine_of unlimited.turns i r) n s u) ≡ back_in r n (outline s) (outline u)
unfolding with_marks
leave_outlined r i n s u =
    ap (λ ms. with_marks ms s.locals u) (marks_outlined r.text.now.mark (record { function = n; before = s.globals; after = u.globals }) u.marks)

result_same : (e : Option Term) (u : ProgramState) → result_of everywhere e u ≡ result_of everywhere e (outline u)
result_same None u = refl
result_same (Some e) u = refl

-- a function that is entered
enter_run : (calls : Calls) (noting : NotedCalls) → AgreeInOutline calls noting → (r : RoutineTree) (i n : ℕ) (ws : List ℕ) (s : ProgramState) →
    mapped called (enter calls everywhere (routine_of unlimited.turns i r) n ws s) ≡ do_routine noting r n ws (outline s)
enter_run calls noting h r i n ws s =
    let back = λ (u : ProgramState). and_then (result_of everywhere (option_map term_of r.result) u) (λ w. Ok (w, leave (routine_of unlimited.turns i r) n s u)) in
    let back' = λ (u : ProgramState). and_then (result_of everywhere (option_map term_of r.result) u) (λ w. Ok (w, back_in r n (outline s) u)) in
    let ended : (u : ProgramState) → mapped called (back u) ≡ back' (outline u) =
    λ u. behind called (result_of everywhere (option_map term_of r.result) u) (λ w. Ok (w, leave (routine_of unlimited.turns i r) n s u)) (λ w. Ok (w, back_in r n (outline s) (outline u)))
    (λ w. ap (λ (t : ProgramState). Ok (w, t)) (leave_outlined r i n s u))
    ∙ ap (λ (o : Outcome ℕ). and_then o (λ w. Ok (w, back_in r n (outline s) (outline u)))) (result_same (option_map term_of r.result) u) in
    let body = run everywhere calls (step_before unlimited.turns i r.body Done) in
    joined outline called (declare everywhere (map term_of (items_of r.locals)) (record s { locals = ws })) (declare everywhere (map term_of (items_of r.locals)) (record (outline s) { locals = ws }))
    (λ t. and_then (body t) back) (λ t. and_then (do_step noting r.body t) back')
    (declare_outlined (map term_of (items_of r.locals)) (record s { locals = ws }))
    (λ t. joined outline called (body t) (do_step noting r.body (outline t)) back back'
    (step_run calls noting h i r.body Done (λ u. Ok u) t (λ u. refl) ∙ and_then-ok (do_step noting r.body (outline t))) ended)

access_same : (b : Bool) (calls : Calls) (f : Routine) (n : ℕ) (ws : List ℕ) (s : ProgramState) → enter calls (cond b everywhere everywhere) f n ws s ≡ enter calls everywhere f n ws s
access_same true calls f n ws s = refl
access_same false calls f n ws s = refl

-- a function by number
if_there_run : (calls : Calls) (noting : NotedCalls) → AgreeInOutline calls noting → (rs : List RoutineTree) (i k n : ℕ) (ws : List ℕ) (s : ProgramState) →
    mapped called (enter_if_there unlimited calls (slice_get (routines_of unlimited.turns i rs) k) n everywhere 0 ws s) ≡ do_if_there noting (slice_get rs k) n ws (outline s)
if_there_run calls noting h [] i k n ws s = refl
if_there_run calls noting h (r ∷ rs) i zero n ws s =
    ap (mapped called) (access_same (is_marked (routine_of unlimited.turns i r)) calls (routine_of unlimited.turns i r) n ws s) ∙ enter_run calls noting h r i n ws s
if_there_run calls noting h (r ∷ rs) i (suc k) n ws s = if_there_run calls noting h rs (i + loops_of r.body) k n ws s

chosen : (b : Bool) (this others : Calls) (f : ℕ) (ws : List ℕ) (s : ProgramState) (this' others' : Outcome (ℕ × ProgramState)) →
    mapped called (this everywhere f ws s) ≡ this' → mapped called (others everywhere f ws s) ≡ others' →
    mapped called (this_or b this others everywhere f ws s) ≡ this_or_others b this' others'
chosen true this others f ws s this' others' a b = a
chosen false this others f ws s this' others' a b = b

any_number : (limits : Limits) (calls : Calls) (found : Option Routine) (n f : ℕ) (ws : List ℕ) (s : ProgramState) →
    mapped called (enter_if_there limits calls found n everywhere f ws s) ≡ mapped called (enter_if_there limits calls found n everywhere 0 ws s)
any_number limits calls None n f ws s = refl
any_number limits calls (Some r) n f ws s = refl

pub calls_agree : (rs : List RoutineTree) (n : ℕ) → AgreeInOutline (calls_below unlimited (routines_of unlimited.turns 0 rs) n) (noted_calls rs n)
calls_agree rs zero = record { same = λ f ws s. refl }
calls_agree rs (suc n) =
    let before = calls_agree rs n in
    let routines = routines_of unlimited.turns 0 rs in
    record {
      same = λ f ws s.
          chosen (eqb f n) (enter_if_there unlimited (calls_below unlimited routines n) (slice_get routines n) n) (calls_below unlimited routines n) f ws s
          (do_if_there (noted_calls rs n) (slice_get rs n) n ws (outline s)) (noted_calls rs n f ws (outline s))
          (any_number unlimited (calls_below unlimited routines n) (slice_get routines n) n f ws s
          ∙ if_there_run (calls_below unlimited routines n) (noted_calls rs n) before rs 0 n n ws s) (before.same f ws s);
    }

pub length-routines_of : (i : ℕ) (rs : List RoutineTree) → length (routines_of unlimited.turns i rs) ≡ length rs
length-routines_of i [] = refl
length-routines_of i (r ∷ rs) = ap suc (length-routines_of (i + loops_of r.body) rs)

-- jobs
pub jobs_agree : (r : ResolvedTree) (n : ℕ) (s : ProgramState) → mapped outline (do_jobs unlimited (resolved_of unlimited.turns r) n s) ≡ noted_jobs (items_of r.routines) r.job n (outline s)
jobs_agree r zero s = refl
jobs_agree r (suc n) s =
    let rs = items_of r.routines in
    let routines = routines_of unlimited.turns 0 rs in
    let count : length routines ≡ length rs = length-routines_of 0 rs in
    joined called outline (calls_below unlimited routines (length routines) everywhere r.job [] s) (noted_calls rs (length rs) r.job [] (outline s))
    (λ (t : ℕ × ProgramState). do_jobs unlimited (resolved_of unlimited.turns r) n t.1) (λ (t : ℕ × ProgramState). noted_jobs rs r.job n t.1)
    ((calls_agree rs (length routines)).same r.job [] s ∙ ap (λ k. noted_calls rs k r.job [] (outline s)) count) (λ t. jobs_agree r n t.1)
