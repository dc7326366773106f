-- A refusal passed on.
use Rattle.std.proofs.Common.{Result, ap}
use Rattle.prem_text.specs.declared.lexing.token.fail.FrontFail.{FrontFail}
use Rattle.prem_text.specs.declared.lexing.token.fail.FrontFail.TheVariants.{NotText, Token, Syntax, TooLong, TooDeep, OutOfMemory}
use Rattle.prem_text.specs.Lexing.Token.Reading.{◌>>=◌, Fails}

pub passed_on : {A B : Type 0} (fail : FrontFail) (first : Result A FrontFail) (f : A → Result B FrontFail) → Fails fail first → Fails fail (first >>= f)
passed_on OutOfMemory first f is = tt
passed_on (NotText at) first f is = ap (λ r. r >>= f) is
passed_on (Token line col) first f is = ap (λ r. r >>= f) is
passed_on (Syntax line col) first f is = ap (λ r. r >>= f) is
passed_on TooLong first f is = ap (λ r. r >>= f) is
passed_on (TooDeep line) first f is = ap (λ r. r >>= f) is
