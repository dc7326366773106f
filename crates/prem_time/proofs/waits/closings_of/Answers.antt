use Rattle.std.proofs.Common.{◌<◌, ◌+◌, ◌++◌, [], ◌∷◌, List, ap, ◌∙◌, sym, arith, length, append_assoc}
use Rattle.prem_resp.specs.declared.busy.length.Busy.TheVariants.{Within}
use Rattle.prem_latency.specs.declared.wait.Closing.{Closing}
use Rattle.prem_time.proofs.ClosingsFit.{closed_behind, closings_from, closings_step}
use Rattle.prem_time.proofs.waits.closings_of.Goals as goal

pub loop-k-preserved : goal.loop-k-preserved
loop-k-preserved c =
    let more : List Closing = closings_from c.args.loads.now c.args.found.now c.args.times.now c.args.i c.args.cost (c.loop-k.k + 1) in
    let step = closings_step c.args.loads.now c.args.found.now c.args.times.now c.args.i c.args.cost c.loop-k.k
    (record { period = 0; cost = 0; longest = 0 }) (Within 0) c.index-times-k.result c.loop-k-test.true c.requires.found c.requires.times
    c.index-times-k.is in
    record {
      tasks =
          ap (λ (xs : List Closing). xs ++ more) c.in_ok-push.ensures.items
          ∙ append_assoc c.loop-k.tasks.items (c.closing_of.result ∷ []) more
          ∙ ap (λ (x : Closing). c.loop-k.tasks.items ++ x ∷ more) c.closing_of.ensures
          ∙ ap (λ (xs : List Closing). c.loop-k.tasks.items ++ xs) (sym step)
          ∙ c.loop-k.invariant.tasks;
      rest = closed_behind c.args.times.now c.args.i c.loop-k.k c.index-times-k.result
          (let there : c.loop-k.k < length c.args.loads.now = c.loop-k-test.true in omega (arith, there, c.requires.times)) c.loop-k.invariant.rest;
    }
