use Rattle.std.proofs.Common.{◌≡◌, OnOk, subst, sym}
use Rattle.prem_tiling.proofs.Prelude.{Statement, walk_of, walked}
use Rattle.prem_tiling.proofs.CopiesLemmas.Blocks.{block_is}
use Rattle.prem_tiling.proofs.copies.carried.+walking.Goals as goal

pub walk-returns-in-Block : goal.walk-returns-in-Block
walk-returns-in-Block t c =
    subst (λ (s : Statement). OnOk c.walk_all.result (walk_of c.walk_all.new.stale ≡ walked c.args.names.now (walk_of c.args.stale.now) s))
    (sym (block_is c.args.stmt.now c.in-Block.at c.in-Block.body c.items.result.now c.in-Block.is c.items.ensures)) c.walk_all.ensures
