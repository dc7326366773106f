-- What the answer of a reader says that may refuse, and want memory.
use Rattle.std.specs.Prelude.{◌≡◌, Result, Ok, Err}
use Rattle.prem_line.specs.declared.failing.Failing.{Failing}
use Rattle.prem_line.specs.declared.failing.Failing.TheVariants.{Refused, OutOfMemory}

-- what is read is refused for the same reason, unless memory ran out
abbrev pub Fails : {Y R : Type 0} → Failing R → Result Y R → Type 0
Fails OutOfMemory read = Unit {0}
Fails (Refused reason) read = read ≡ Err reason

-- the answer, seen by view, is what is read, unless memory ran out
abbrev pub Gives : {X Y R : Type 0} → (X → Y) → Result X (Failing R) → Result Y R → Type 0
Gives view (Ok x) read = read ≡ Ok (view x)
Gives view (Err fail) read = Fails fail read
