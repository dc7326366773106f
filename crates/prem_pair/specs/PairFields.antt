-- The fields of a run of two cores, and what they keep.
use Rattle.std.specs.Prelude.{◌≡◌, ◌^◌, ◌≤◌, [], false}
use Rattle.prem_pair.specs.Prelude.{IsSetting}
use Rattle.prem_machine.specs.Work.{setup_in}
use Rattle.prem_pair.specs.BothOf.{AreBoth, GoOn, pair_of}
use Rattle.prem_pair.specs.Cycles.Pair.{one_trapped}
use Rattle.prem_pair.specs.States.{PairRunning}
use Rattle.prem_pair.specs.declared.pair.Pair.TheInside.{Inside}

abbrev pub running_of : {P Q : Type 0} → Inside P Q → PairRunning
running_of m = record { first = setup_in m.first; second = setup_in m.second; requests = m.requests.items; state = pair_of m.both }

-- where nothing has trapped it is at the beginning of a cycle, and cycle 2^61 is the last one
pub record IsPair {P Q : Type 0} (m : Inside P Q) : Type 0 where
  pub one : IsSetting m.first m.requests.items
  pub two : IsSetting m.second []
  pub stands : AreBoth m.first m.second m.requests.items m.both
  pub goes : one_trapped (pair_of m.both) ≡ false → GoOn m.requests.items m.both
  pub time : m.both.first.now ≤ 2 ^ 61
