-- Steps one after the other, each of which may be refused.
use Rattle.std.specs.Prelude.{Bool, if◌then◌else◌, Option, None, Some, Result, Ok, Err}

-- what is behind a step, where the step isn't refused
infixl 10 ◌>>=◌
abbrev pub ◌>>=◌ : {A B E : Type 0} → Result A E → (A → Result B E) → Result B E
(Ok x) >>= f = f x
(Err e) >>= f = Err e

-- what is there, or a refusal
abbrev pub wanted : {A E : Type 0} → E → Option A → Result A E
wanted e None = Err e
wanted e (Some x) = Ok x

-- what is given where the test holds, or a refusal
abbrev pub holds : {A E : Type 0} → E → Bool → A → Result A E
holds e test x = if test then Ok x else Err e
