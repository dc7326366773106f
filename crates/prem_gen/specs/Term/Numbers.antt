-- The numbers in terms: those of locals and globals are small.
use Rattle.std.specs.Prelude.{◌<◌, ℕ, ◌+◌, ◌^◌, ⊤}
use Rattle.prem_tree.specs.declared.resolve.resolved.Term.{Term}
use Rattle.prem_tree.specs.declared.resolve.resolved.Term.TheVariants.{Constant, Local, Scalar, Element', Unary', Binary'}

-- the part of a global, where the first one has this part
abbrev pub from_part : ℕ → ℕ → ℕ
from_part first g = first + g

abbrev pub IsSmall : ℕ → Type 0
IsSmall n = n < 2 ^ 16

-- the locals and globals of a term have small numbers
abbrev pub HasSmall : Term → Type 0
HasSmall (Constant at word kind) = ⊤
HasSmall (Local at number kind) = IsSmall number
HasSmall (Scalar at g ty) = IsSmall g
HasSmall (Element' at g ty p index) = IsSmall g × HasSmall index
HasSmall (Unary' at op p operand) = HasSmall operand
HasSmall (Binary' at op kind p left right) = HasSmall left × HasSmall right
