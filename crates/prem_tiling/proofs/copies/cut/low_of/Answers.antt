use Rattle.std.proofs.Common.{ℕ, ◌*◌, ◌/◌, ap, ◌∙◌}
use Rattle.prem_tiling.proofs.Prelude.{cut_in}
use Rattle.prem_tiling.proofs.CopiesLemmas.Sizes.{low_small}
use Rattle.prem_tiling.proofs.copies.cut.low_of.Goals as goal

pub value_at-requires : goal.value_at-requires
value_at-requires c =
    low_small (cut_in c.args.c.now) c.requires.ready c.args.t c.first_turn-turn.result c.requires.within
    (c.first_turn-turn.ensures ∙ ap (λ (n : ℕ). c.args.t * n / c.args.c.now.tiles) c.turns_of.ensures.turns)
