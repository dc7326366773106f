-- What a call gives where a set isn't compiled.
use Rattle.std.specs.Prelude.{◌≡◌, Option, Some, Result, Ok, Err}
use Rattle.prem_layout.specs.Rules.{Refusal}
use Rattle.prem_tasks.specs.Told.{Told, refusal_of}
use Rattle.prem_tasks.specs.declared.fail.CompileFail.{CompileFail}
use Rattle.prem_tasks.specs.declared.fail.CompileFail.TheVariants.{Refused, OutOfMemory}
use Rattle.prem_answer.specs.declared.answer.Answer.{Answer}
use Rattle.prem_answer.specs.declared.answer.Halt.{Halt}
use Rattle.prem_answer.specs.declared.answer.Halt.TheVariants as halt
use Rattle.prem_answer.specs.Stages.{Comes, Reply, reply_of}

-- what the compiler refuses is this rule; that memory is out tells nothing
abbrev pub IsFirst : Option (Refusal Told) → CompileFail → Type 0
IsFirst first (Refused refusal) = first ≡ Some (refusal_of refusal)
IsFirst first OutOfMemory = Unit {0}

-- the rule that is refused is told so; that memory is out is no answer
abbrev pub Refuses : (Refusal Told → Reply) → CompileFail → Result Answer Halt → Type 0
Refuses told (Refused refusal) result = Comes reply_of (λ given. given ≡ Ok (told (refusal_of refusal))) result
Refuses told OutOfMemory result = result ≡ Err halt.OutOfMemory
