-- What a sequence ends as, where its items are lent.
use Rattle.std.specs.Prelude.{List}
use Rattle.std.specs.Borrow.{Lends, MutBor, Fml, RattleType, Array}
use Rattle.std.specs.Vec.{with_items}
use Rattle.prem_list.specs.declared.Sequence.{Sequence}
use Rattle.prem_list.specs.contracts.Sequence.{the_row}

-- the sequence with these items
abbrev pub with_all : {T : Type 0} → Sequence T → List T → Sequence T
with_all s items = record s { all = with_items s.all items }

module _ (T : RattleType) (s : MutBor (Sequence T.Denot)) where
  -- once the borrow r ends, its items are those that r shows last
  abbrev pub LendsItems : MutBor (List T.Denot) → Fml
  LendsItems r = Lends (the_row T) (Array T 0) s r (with_all s.now)
