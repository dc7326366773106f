-- What a run in the code holds, as a state of the meaning, and what its results say of an outcome.
use Rattle.std.specs.Prelude.{◌≡◌, ℕ, List, [], map, drop, Ok, Err, Result, MatchResult}
use Rattle.prem_list.specs.Sequence.{items_of}
use Rattle.prem_syntax.specs.Expressions.{Outcome}
use Rattle.prem_syntax.specs.Statements.{MarkedCall, ProgramState}
use Rattle.prem_tree.specs.declared.state.interpreter.Interpreter.{Interpreter}
use Rattle.prem_tree.specs.declared.state.fail.SourceFail.{SourceFail}
use Rattle.prem_tree.specs.declared.state.fail.SourceFail.TheVariants.{Wrong}

-- a marked call of which only the function is known
abbrev pub noted : ℕ → MarkedCall
noted n = record { function = n; before = []; after = [] }

-- a run, with the locals of the function at work
abbrev pub state_of : Interpreter → List ℕ → ProgramState
state_of m locals = record {
  globals = map (λ words. words.items) m.globals.items;
  locals = locals;
  inputs = drop m.used m.inputs.now;
  used = m.used;
  outputs = items_of m.outputs;
  marks = map noted (items_of m.marks);
}

-- where a run gives up, the outcome is wrong at the line that it names; want of memory tells nothing
pub record GoesWrong {A : Type 0} (e : SourceFail) (outcome : Outcome A) : Type 0 where
  pub at_line : (line : ℕ) → e ≡ Wrong line → outcome ≡ Err line

-- a result gives an outcome
abbrev pub Gives : {A B : Type 0} → Result A SourceFail → Outcome B → (A → B) → Type 0
Gives result outcome seen = MatchResult result (λ x. outcome ≡ Ok (seen x)) (λ e. GoesWrong e outcome)

-- a result with the line of an error gives an outcome
abbrev pub Yields : {A B : Type 0} → Result A ℕ → Outcome B → (A → B) → Type 0
Yields result outcome seen = MatchResult result (λ x. outcome ≡ Ok (seen x)) (λ line. outcome ≡ Err line)
