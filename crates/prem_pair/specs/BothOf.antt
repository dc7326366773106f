-- Both cores' parts as the state of a run.
use Rattle.std.specs.Prelude.{◌≡◌, ◌≢◌, ◌*◌, None, List, []}
use Rattle.prem_pair.specs.Prelude.{arrivals_at, Turned, Request, Stands, state_of}
use Rattle.prem_machine.specs.declared.work.Setting.{Setting}
use Rattle.prem_pair.specs.Cycles.Pair.{PairState, holder_at, bus_for}
use Rattle.prem_pair.specs.Sides.{Goes, Arrives}
use Rattle.prem_pair.specs.declared.both.Both.{Both}
use Rattle.prem_pair.specs.declared.cycles.state.Holder.{Holder}
use Rattle.prem_pair.specs.declared.cycles.state.Holder.TheVariants.{Gates}

abbrev pub pair_of : {P Q : Type 0} → Both P Q → PairState
pair_of x = record { first = state_of x.first; second = state_of x.second; holder = x.holder }

-- who holds the token in the coming cycle, and what the bus does
abbrev pub holder_in : List Request → PairState → Holder
holder_in requests s = holder_at (arrivals_at requests s.first).gates s

abbrev pub bus_in : List Request → PairState → Turned
bus_in requests s = bus_for (holder_in requests s) (arrivals_at requests s.first).gates s

-- nothing is carried but while the gates hold the token
abbrev pub IsFree : {P Q : Type 0} → Both P Q → Type 0
IsFree x = x.holder ≢ Gates → x.first.gates.carried ≡ None

-- what always holds of the parts
pub record AreBoth {P Q : Type 0} (p q : Setting) (requests : List Request) (x : Both P Q) : Type 0 where
  pub first : Stands p requests x.first
  pub second : Stands q [] x.second
  pub same_now : x.second.now ≡ x.first.now

-- and what holds besides where nothing has trapped
pub record GoOn {P Q : Type 0} (requests : List Request) (x : Both P Q) : Type 0 where
  pub first : Goes (4 * x.first.now) x.first
  pub second : Goes (4 * x.second.now) x.second
  pub arrives : Arrives x.first.now requests x.first
  pub free : IsFree x
