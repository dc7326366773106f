-- Loops turn by turn, and calls by number.
use Rattle.std.specs.Prelude.{slice_get}
use Rattle.std.proofs.Common.{◌≡◌, ℕ, zero, suc, ◌-◌, ◌<◌, ◌≤◌, Bool, true, false, eqb, List, refl, ap, sym, ◌∙◌, arith, get_or, length, drop, ◌+◌, Ok, Err}
use Rattle.std.proofs.lemmas.List.{at_drop_more}
use Rattle.prem_list.specs.declared.Sequence.{Sequence}
use Rattle.prem_list.specs.Sequence.{items_of}
use Rattle.prem_syntax.specs.Expressions.{Outcome, and_then}
use Rattle.prem_syntax.specs.Statements.{ProgramState, choose, counting, bounded}
use Rattle.prem_tree.specs.declared.state.fail.SourceFail.TheVariants.{Wrong}
use Rattle.prem_tree.specs.declared.resolve.resolved.Step.{Step, Block, Row_of-Step, end_of-Step, more_of-Step, items-the_row-Step, items_hidden-the_row-Step-0}
use Rattle.prem_tree.specs.declared.resolve.resolved.Step.TheBlock.{hidden-the_row-Step-0}
use Rattle.prem_tree.specs.declared.resolve.resolved.Routine.{Routine}
use Rattle.prem_tree.specs.State.Interpreter.{GoesWrong}
use Rattle.prem_tree.specs.StepMeaning.{NotedCalls, do_step, do_row, do_list, do_if_there, noted_calls}

-- functions that agree, behind an outcome
and_then-same : {A B : Type 0} (o : Outcome A) (f g : A → Outcome B) → ((x : A) → f x ≡ g x) → and_then o f ≡ and_then o g
and_then-same (Ok x) f g same = same x
and_then-same (Err line) f g same = refl

pub wrong_at : {A : Type 0} (outcome : Outcome A) (line : ℕ) → outcome ≡ Err line → GoesWrong (Wrong line) outcome
wrong_at outcome line is = record { at_line = λ other e. let same : line ≡ other = cc in is ∙ ap Err same }

pub bounded-none : (n : ℕ) (test : ProgramState → Outcome Bool) (turn : ProgramState → Outcome ProgramState) (s : ProgramState) → n ≡ 0 → bounded n test turn s ≡ Ok s
unfolding bounded
bounded-none n test turn s none = rw none

pub bounded-more : (n : ℕ) (test : ProgramState → Outcome Bool) (turn : ProgramState → Outcome ProgramState) (s : ProgramState) → 0 < n →
    bounded n test turn s ≡ and_then (test s) (λ go. choose go (λ t. and_then (turn t) (bounded (n - 1) test turn)) Ok s)
unfolding bounded
bounded-more zero test turn s some = absurd (omega arith)
bounded-more (suc n) test turn s some = let less : suc n - 1 ≡ n = omega arith in rw less

pub counting-wrong : (line n : ℕ) (test : ProgramState → Outcome Bool) (turn : ProgramState → Outcome ProgramState) (s : ProgramState) (at : ℕ) → test s ≡ Err at → counting line n test turn s ≡ Err at
unfolding counting
counting-wrong line zero test turn s at is = rw is
counting-wrong line (suc n) test turn s at is = rw is

pub counting-done : (line n : ℕ) (test : ProgramState → Outcome Bool) (turn : ProgramState → Outcome ProgramState) (s : ProgramState) → test s ≡ Ok false → counting line n test turn s ≡ Ok s
unfolding counting
counting-done line zero test turn s is = rw is
counting-done line (suc n) test turn s is = rw is

pub counting-past : (line n : ℕ) (test : ProgramState → Outcome Bool) (turn : ProgramState → Outcome ProgramState) (s : ProgramState) → n ≡ 0 →
    test s ≡ Ok true → counting line n test turn s ≡ Err line
unfolding counting
counting-past line n test turn s none is = rw none (rw is)

pub counting-turn : (line n : ℕ) (test : ProgramState → Outcome Bool) (turn : ProgramState → Outcome ProgramState) (s : ProgramState) → 0 < n → test s ≡ Ok true →
    counting line n test turn s ≡ and_then (turn s) (counting line (n - 1) test turn)
unfolding counting
counting-turn line zero test turn s some is = absurd (omega arith)
counting-turn line (suc n) test turn s some is = let less : suc n - 1 ≡ n = omega arith in rw less (rw is)

-- a call of a function with a smaller number, and of none
pub noted_calls-none : (rs : List Routine) (n f : ℕ) (ws : List ℕ) (s : ProgramState) → n ≤ f → noted_calls rs n f ws s ≡ Err 0
noted_calls-none rs zero f ws s past = refl
noted_calls-none rs (suc n) f ws s past =
    let other : eqb f n ≡ false = grind arith in
    rw other (noted_calls-none rs n f ws s (omega arith))

pub noted_calls-below : (rs : List Routine) (n f : ℕ) (ws : List ℕ) (s : ProgramState) → f < n → noted_calls rs n f ws s ≡ do_if_there (noted_calls rs f) (slice_get rs f) f ws s
noted_calls-below rs zero f ws s below = absurd (omega arith)
noted_calls-below rs (suc n) f ws s below = by (eqb f n) refl (λ less. noted_calls-below rs n f ws s less)
  where
    by : (b : Bool) → eqb f n ≡ b → (f < n → noted_calls rs n f ws s ≡ do_if_there (noted_calls rs f) (slice_get rs f) f ws s) →
        noted_calls rs (suc n) f ws s ≡ do_if_there (noted_calls rs f) (slice_get rs f) f ws s
    by true is more = let same : f ≡ n = grind arith in rw is (rw same)
    by false is more = let less : f < n = grind arith in rw is (more less)

-- steps of a list, the first one first
row_done : {m : _} (calls : NotedCalls) (row : Row_of-Step m) (s : ProgramState) → do_row calls row s ≡ do_list calls (items-the_row-Step m row) s
row_done calls end_of-Step s = refl
row_done calls (more_of-Step first rest) s = and_then-same (do_step calls first s) (do_row calls rest) (do_list calls (items-the_row-Step _ rest)) (λ t. row_done calls rest t)

pub do_step-Block : (calls : NotedCalls) (body : Sequence Step) (s : ProgramState) → do_step calls (Block body) s ≡ do_list calls (items_of body) s
do_step-Block calls body s = row_done calls (hidden-the_row-Step-0 body.all) s ∙ ap (λ xs. do_list calls xs s) (items_hidden-the_row-Step-0 body.all)

pub do_list_more : (calls : NotedCalls) (steps : List Step) (i : ℕ) (x : Step) (s : ProgramState) → i < length steps → x ≡ get_or steps i x →
    do_list calls (drop i steps) s ≡ and_then (do_step calls x s) (do_list calls (drop (i + 1) steps))
do_list_more calls steps i x s inside is =
    at_drop_more (λ xs. do_list calls xs s) steps i x inside ∙ ap (λ y. and_then (do_step calls y s) (do_list calls (drop (i + 1) steps))) (sym is)
