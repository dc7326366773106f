use Rattle.std.proofs.Common.{refl, ap, ◌∙◌, map}
use Rattle.prem_place.specs.Content.Blocks.{block_of}
use Rattle.prem_place.specs.Flat.Flat.{listed}
use Rattle.prem_place.specs.Placed.PlacedOf.{placed_of}
use Rattle.prem_place.proofs.WordsLemmas.Jumps.{six_ends, far_same, words_same, words_then}
use Rattle.prem_place.proofs.words.task_words.Goals as goal

pub returns-in-Ok-clause-words : goal.returns-in-Ok-clause-words
returns-in-Ok-clause-words c =
    words_then c.flatten_parts.result (λ blocks. map block_of blocks.items) _ _ c.flatten_parts.ensures.words
    (words_same (placed_of c.args.t.now) c.requires c.deref.result.now c.args.t.now.table.job (listed c.items.result.now)
    (listed c.items-in-Ok.result.now) (c.deref.ensures.value ∙ c.in-Ok.ensures) refl (ap listed c.items.ensures)
    (ap listed c.items-in-Ok.ensures))

pub returns-in-Ok-clause-far : goal.returns-in-Ok-clause-far
returns-in-Ok-clause-far c =
    six_ends (placed_of c.args.t.now) c.requires _ c.flatten_parts.result
    (far_same (placed_of c.args.t.now) c.requires c.deref.result.now c.args.t.now.table.job (listed c.items.result.now)
    (listed c.items-in-Ok.result.now) (c.deref.ensures.value ∙ c.in-Ok.ensures) refl (ap listed c.items.ensures)
    (ap listed c.items-in-Ok.ensures))
    c.flatten_parts.ensures.far
