use Rattle.std.proofs.Common.{◌++◌, ap, ◌∙◌, map, replicate, length, ◌≡◌, ℕ}
use Rattle.prem_profile.specs.Spent.{no_cost}
use Rattle.prem_profile.specs.Strips.{strip_of, strip_rows, strip_words}
use Rattle.prem_profile.proofs.Setting.{many_empty, split}
use Rattle.prem_profile.proofs.strip.rows_from.Goals as goal

pub returns-clause-words : goal.returns-clause-words
returns-clause-words c =
    let strips = map strip_of c.args.strips.now in
    let row : length c.in_ok-costs.costs.items ≡ c.args.first = many_empty c.in_ok-costs.costs.items c.args.first c.in_ok-costs.ensures in
    c.in_ok-set_strips.ensures.words ∙ ap (λ w. strip_rows w (length c.in_ok-costs.costs.items) strips) c.in_ok-words.ensures
    ∙ ap (λ (r : ℕ). strip_rows (replicate c.args.size 0) r strips) row

pub returns-clause-costs : goal.returns-clause-costs
returns-clause-costs c =
    let n = strip_words (map strip_of c.args.strips.now) in
    c.in_ok-set_strips.ensures.costs ∙ ap (λ cs. cs ++ replicate n no_cost) c.in_ok-costs.ensures ∙ split c.args.first n
