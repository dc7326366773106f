-- Reading that may be refused.
use Rattle.std.specs.Prelude.{◌≡◌, Result, Ok, Err}
use Rattle.prem_text.specs.Prelude.{Place}
use Rattle.prem_text.specs.declared.lexing.token.fail.FrontFail.{FrontFail}
use Rattle.prem_text.specs.declared.lexing.token.fail.FrontFail.TheVariants.{NotText, Token, Syntax, TooLong, TooDeep, OutOfMemory}

infixl 10 ◌>>=◌
abbrev pub ◌>>=◌ : {A B : Type 0} → Result A FrontFail → (A → Result B FrontFail) → Result B FrontFail
(Ok x) >>= f = f x
(Err fail) >>= f = Err fail

-- no token begins at a place, or it is refused
abbrev pub no_token : {A : Type 0} → Place → Result A FrontFail
no_token at = Err (Token at.line at.col)

-- no program has the token at a place behind those before it
abbrev pub no_program : {A : Type 0} → Place → Result A FrontFail
no_program at = Err (Syntax at.line at.col)

-- the token at a place is past a limit of expressions or statements
abbrev pub too_deep : {A : Type 0} → Place → Result A FrontFail
too_deep at = Err (TooDeep at.line)

-- a call that fails so is right: what it should give is the same refusal, unless memory ran out
abbrev pub Fails : {Y : Type 0} → FrontFail → Result Y FrontFail → Type 0
Fails OutOfMemory read = Unit {0}
Fails (NotText at) read = read ≡ Err (NotText at)
Fails (Token line col) read = read ≡ Err (Token line col)
Fails (Syntax line col) read = read ≡ Err (Syntax line col)
Fails TooLong read = read ≡ Err TooLong
Fails (TooDeep line) read = read ≡ Err (TooDeep line)

-- what a call returned, by its view, is what reading gives, unless memory ran out
abbrev pub Gives : {X Y : Type 0} → (X → Y) → Result X FrontFail → Result Y FrontFail → Type 0
Gives view (Ok x) read = read ≡ Ok (view x)
Gives view (Err fail) read = Fails fail read
