use Rattle.std.proofs.Common.{◌∙◌, length}
use Rattle.prem_profile.specs.Strips.{set_rows}
use Rattle.prem_profile.proofs.Setting.{next_costs, next_words}
use Rattle.prem_profile.proofs.strip.set_rows.Goals as goal

pub words-preserved : goal.words-preserved
words-preserved c =
    let start = c.args.rows.now in
    let costs = c.words.rows.costs.items in
    let more = c.push.new.self.items in
    record {
      words =
          next_words c.words.rows.words.items c.set_row.new.words.items (set_rows start.words.items c.args.place (length start.costs.items) c.args.count) c.args.place c.words.n c.args.count costs more
          c.no_cost.result c.len-row.result c.words-test.true (c.len-row.ensures ∙ c.words.rows.costs.ok.0) c.set_row.ensures c.in_ok-push.ensures.items c.words.invariant.words;
      costs = next_costs costs more start.costs.items c.no_cost.result c.words.n c.no_cost.ensures c.in_ok-push.ensures.items c.words.invariant.costs;
    }
