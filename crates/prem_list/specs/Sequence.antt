-- What a sequence holds.
use Rattle.std.specs.Prelude.{ℕ, List, vec_capacity}
use Rattle.prem_list.specs.declared.Sequence.{Sequence}

-- the items, the first one first
abbrev pub items_of : {T : Type 0} → Sequence T → List T
items_of s = s.all.items

-- as many items as it holds without taking memory
abbrev pub room_of : {T : Type 0} → Sequence T → ℕ
room_of s = vec_capacity s.all
