use Rattle.std.proofs.Common.{◌+◌, ◌++◌, ◌∷◌, ap, sym, ◌∙◌, drop, length, map, replicate}
use Rattle.prem_profile.specs.declared.strip.Strip.{Strip as StripTree}
use Rattle.prem_profile.specs.Spent.{no_cost}
use Rattle.prem_profile.specs.Strips.{strip_of, strip_rows, strip_words}
use Rattle.prem_profile.proofs.Setting.{next_many, next_strips, strip_next}
use Rattle.prem_profile.proofs.strip.set_strips.Goals as goal

pub strips-preserved : goal.strips-preserved
strips-preserved c =
    let start = c.args.rows.now in
    let strips = c.args.strips.now in
    let k = c.strips.strip-index in
    let s = c.strip-item.result in
    let next = strip_next s strips k c.strips-test.true ∙ ap (λ (x : StripTree). x ∷ drop (k + 1) strips) (sym c.strip-item.is) in
    record {
      words =
          next_strips c.strips.rows.words.items c.set_rows.new.rows.words.items (strip_rows start.words.items (length start.costs.items) (map strip_of strips)) c.strips.rows.costs.items
          c.set_rows.new.rows.costs.items s (drop k strips) (drop (k + 1) strips) next c.in_ok-set_rows.ensures.words c.in_ok-set_rows.ensures.costs c.strips.invariant.words;
      costs =
          next_many c.strips.rows.costs.items c.set_rows.new.rows.costs.items (start.costs.items ++ replicate (strip_words (map strip_of strips)) no_cost) s (drop k strips) (drop (k + 1) strips) next
          c.in_ok-set_rows.ensures.costs c.strips.invariant.costs;
    }
