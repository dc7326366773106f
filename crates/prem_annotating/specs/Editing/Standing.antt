-- A walk in memory, which goes by the numbers of the next token and the next order.
use Rattle.std.specs.Prelude.{ℕ, ◌+◌, Bool, true, false, List, [], ◌∷◌, ◌++◌, slice_get, Option, None, Some}
use Rattle.prem_annotating.specs.Prelude.{Place, lexeme_of, option_map}
use Rattle.prem_annotating.specs.Editing.Orders.{order_of}
use Rattle.prem_annotating.specs.Editing.Walk.{Step, at_token, at_byte, same_place, behind}
use Rattle.prem_annotating.specs.declared.editing.walk.GapMode.{GapMode}
use Rattle.prem_annotating.specs.declared.editing.walk.Order.{Order as OrderTree}
use Rattle.prem_annotating.specs.declared.editing.whole.Standing.{Standing}
use Rattle.prem_text.specs.declared.lexing.token.token.Spotted.{Spotted}

abbrev pub one_if : Bool → ℕ
one_if true = 1
one_if false = 0

abbrev pub behind_token : Step → Standing → List ℕ × Standing
behind_token step s = (step.bytes, record { spot = step.behind.spot; mode = step.behind.mode; token = s.token + 1; order = s.order + one_if step.behind.done })

abbrev pub behind_byte : List ℕ × GapMode → Standing → List ℕ × Standing
behind_byte moved s = (moved.0, record { spot = s.spot; mode = moved.1; token = s.token; order = s.order })

abbrev pub if_begun : Bool → Spotted → List OrderTree → Standing → ℕ → List ℕ × Standing
if_begun true t orders s b = behind_token (at_token s.spot (option_map order_of (slice_get orders s.order)) (lexeme_of t.token) b) s
if_begun false t orders s b = behind_byte (at_byte s.mode b) s

abbrev pub by_token : Option Spotted → Place → List OrderTree → Standing → ℕ → List ℕ × Standing
by_token (Some t) at orders s b = if_begun (same_place t.at at) t orders s b
by_token None at orders s b = behind_byte (at_byte s.mode b) s

-- what a byte at a place gives, and where the walk stands behind it
abbrev pub advanced : List Spotted → List OrderTree → Place → Standing → ℕ → List ℕ × Standing
advanced tokens orders at s b = by_token (slice_get tokens s.token) at orders s b

abbrev pub over : List Spotted → List OrderTree → Place → Standing → List ℕ → List ℕ
over tokens orders at s [] = []
over tokens orders at s (b ∷ rest) = (advanced tokens orders at s b).0 ++ over tokens orders (behind at b) (advanced tokens orders at s b).1 rest
