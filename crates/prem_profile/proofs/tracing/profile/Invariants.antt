use Rattle.std.proofs.Common.{◌-◌, length, map}
use Rattle.prem_profile.specs.Calls.{last_calls, narrow}
use Rattle.prem_profile.specs.Ahead.{IsAhead}
use Rattle.prem_profile.proofs.ToldTurns.{standing}
use Rattle.prem_profile.proofs.Profiled.{IsProfiled}
use Rattle.prem_profile.proofs.CalledRuns.{IsCalled}
use Rattle.prem_profile.proofs.tracing.profile.Given as goal

abbrev pub invariant-turns : goal.invariant-turns
invariant-turns g l = record {
  profiled : IsProfiled l.image l.input l.table.tasks l.table.words.items (length l.fn.costs.items) l.limit l.at l.stop (standing l.image l.input l.at) l.account.home l.account.total l.account.costs.items;
  ahead : IsAhead l.image l.input l.at l.limit l.machine l.ahead;
  called :
      IsCalled l.image l.input l.functions.most l.table.tasks l.table.words.items l.functions.functions.items (length l.fn.costs.items) l.at l.calls.row l.calls.function l.calls.recent
      (last_calls l.calls) (map narrow l.calls.costs.items);
}

abbrev pub decreases-turns : goal.decreases-turns
decreases-turns g l = l.limit - l.at
