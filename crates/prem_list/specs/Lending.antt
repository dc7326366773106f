-- What a sequence ends as, once a borrow of one of its items has ended.
use Rattle.std.specs.Prelude.{ℕ}
use Rattle.std.specs.Vec.{with_item}
use Rattle.std.specs.Borrow.{Lends, Fml, RattleType, MutBor}
use Rattle.prem_list.specs.declared.Sequence.{Sequence}
use Rattle.prem_list.specs.contracts.Sequence.{the_row}

-- the sequence with another item at a place
abbrev pub with_item_at : {T : Type 0} → Sequence T → ℕ → T → Sequence T
with_item_at s at item = record { all = with_item s.all at item }

-- it ends with the last value behind r at that place
abbrev pub LendsItem : (T : RattleType) → MutBor (Sequence T.Denot) → ℕ → MutBor T.Denot → Fml
LendsItem T s at r = Lends (the_row T) T s r (with_item_at s.now at)
