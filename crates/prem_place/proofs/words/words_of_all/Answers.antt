use Rattle.std.proofs.Common.{map}
use Rattle.prem_layout.specs.Rules.{over_tasks, reach_rules}
use Rattle.prem_place.specs.Content.Blocks.{block_of}
use Rattle.prem_place.specs.Placed.PlacedOf.{placed_of}
use Rattle.prem_place.specs.Words.Far.{words_in}
use Rattle.prem_place.proofs.VerdictLemmas.Stages.{passes_at}
use Rattle.prem_place.proofs.WordsLemmas.Turns.{first_part, more_words}
use Rattle.prem_place.proofs.words.words_of_all.Goals as goal

pub returns-in-Err-Refused-clause-ends : goal.returns-in-Err-Refused-clause-ends
returns-in-Err-Refused-clause-ends c =
    let named = rw c.in-Err-Refused.field-0-is at c.function_of.ensures.name in
    first_part c.args.tasks.now c.loop-n.n c.function_of.result c.in-Err-Refused.part c.index-tasks-n.result c.index-tasks-n-in-Err-Refused.result
    c.in-Err-Refused.field-0 c.loop-n-test.true c.index-tasks-n.is c.index-tasks-n-in-Err-Refused.is
    c.in-Err-Refused.field-0-is c.in-Err-Refused.ensures.far named c.function_of.ensures.function c.loop-n.invariant.rest

pub loop-n-preserved : goal.loop-n-preserved
loop-n-preserved c =
    let tasks = c.args.tasks.now in
    let lt = c.loop-n-test.true in
    record {
      rest = passes_at reach_rules tasks c.loop-n.n c.index-tasks-n.result (over_tasks reach_rules (map placed_of tasks)) lt c.index-tasks-n.is c.in-Ok.ensures.far c.loop-n.invariant.rest;
      words = more_words (λ blocks. map block_of blocks.items)
          tasks c.loop-n.n c.index-tasks-n.result c.loop-n.all.items c.push.new.self.items c.in-Ok.blocks (map words_in tasks)
          lt c.index-tasks-n.is c.in-Ok.ensures.words
          c.in_ok-push-in-Ok.ensures.items c.loop-n.invariant.words;
    }
