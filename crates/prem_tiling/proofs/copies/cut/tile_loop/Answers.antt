use Rattle.prem_tiling.proofs.Prelude.{name_bytes, counting_for, statement_of, cut_in, number_in, with_value, [], ap, ◌∙◌}
use Rattle.prem_tiling.proofs.CopiesLemmas.Sizes.{ready_uncalled, uncalled_same}
use Rattle.prem_tiling.proofs.copies.cut.tile_loop.Goals as goal

pub returns : goal.returns
returns c =
    let cut = c.args.c.now in
    let low = c.with_value.ensures ∙ ap (with_value (number_in cut.form.low)) c.low_of.ensures in
    let high = c.with_value-2.ensures ∙ ap (with_value (number_in cut.form.high)) c.high_of.ensures in
    let body = c.in_ok-body.ensures ∙ uncalled_same (name_bytes cut.function.now.name) [] (statement_of cut.form.body.now) (ready_uncalled (cut_in cut) c.requires.ready) in
    λ i. counting_for cut.form.at (c.in_ok-names.ensures i) (low i) (c.closed_of.ensures i) (high i) cut.form.step (body i)
