use Rattle.std.proofs.Common.{◌≡◌, ◌<◌, ◌^◌, drop}
use Rattle.prem_text.proofs.Prelude.{digits}
use Rattle.prem_text.proofs.lexing.literal.number.Given as goal

abbrev pub invariant-loop-i : goal.invariant-loop-i
invariant-loop-i l = (l.n < 2 ^ 32) × (digits l.base 0 l.word ≡ digits l.base l.n (drop l.i l.word))
