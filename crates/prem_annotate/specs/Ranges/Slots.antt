-- What calls give the parameters of all functions.
use Rattle.std.specs.Prelude.{ℕ, zero, suc, List, [], ◌∷◌, map, Option, None, Some, Vec}
use Rattle.prem_annotate.specs.Prelude.{span_of, join_with, if_narrower, stated_or, promoted, Routine, Parameter, Span, converted, option_map}
use Rattle.prem_annotate.specs.Seeing.Sight.{Argument}
use Rattle.prem_annotate.specs.declared.ranges.slots.ParameterRange.{ParameterRange as SlotTree}
use Rattle.prem_word.specs.declared.kind.Kind.{Kind}
use Rattle.std.specs.Global.{Global}

-- ---- slots

-- a parameter's kind, and the least range around what calls give it
pub record ParameterRange : Type 0 where
  pub kind : Kind
  pub joined : Option Span

abbrev pub slot : Kind → Option Span → ParameterRange
slot kind joined = record { kind = kind; joined = joined }

abbrev pub slot_of : SlotTree → ParameterRange
slot_of s = slot s.kind (option_map span_of s.given)

abbrev pub row_of : Vec SlotTree Global → List ParameterRange
row_of row = map slot_of row.items

-- one more call gives it a value of a range
abbrev pub given : Span → ParameterRange → ParameterRange
given r s = slot s.kind (Some (join_with (converted s.kind r) s.joined))

-- ---- rows of slots, one for each function

-- what has a number in a list changes
abbrev pub at_number : {A : Type 0} → ℕ → (A → A) → List A → List A
at_number k change [] = []
at_number zero change (x ∷ xs) = change x ∷ xs
at_number (suc k) change (x ∷ xs) = x ∷ at_number k change xs

abbrev pub with_argument : Argument → List (List ParameterRange) → List (List ParameterRange)
with_argument a rows = at_number a.callee (λ row. at_number a.parameter (given a.range) row) rows

abbrev pub with_arguments : List Argument → List (List ParameterRange) → List (List ParameterRange)
with_arguments [] rows = rows
with_arguments (a ∷ as_) rows = with_argument a (with_arguments as_ rows)

-- where no call gives anything
abbrev pub empty_slot : Parameter → ParameterRange
empty_slot p = slot (promoted p.ty) None

abbrev pub empty_row : Routine → List ParameterRange
empty_row f = map empty_slot f.text.params

-- ---- parameters

abbrev pub with_slot : ParameterRange → Parameter → Parameter
with_slot s p = record p { range = stated_or p.range (if_narrower (promoted p.ty) s.joined) }

abbrev pub with_slots : List ParameterRange → List Parameter → List Parameter
with_slots [] ps = []
with_slots (s ∷ ss) [] = []
with_slots (s ∷ ss) (p ∷ ps) = with_slot s p ∷ with_slots ss ps
