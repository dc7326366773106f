-- The length of a busy period by its steps, each of which goes on with what there is to do.
use Rattle.std.specs.Prelude.{All}
use Rattle.std.proofs.Common.{◌≡◌, ℕ, zero, suc, ◌<◌, ◌≤◌, arith, List}
use Rattle.prem_resp.specs.declared.busy.load.Load.{Load}
use Rattle.prem_resp.specs.declared.busy.length.Busy.TheVariants.{Within, Past}
use Rattle.prem_resp.specs.Busy.Busy.{IsLoad, load_at, demand, IsBalanced}
use Rattle.prem_resp.specs.Busy.Found.{IsFound}
use Rattle.prem_resp.proofs.BusyLemmas.Grows.{balanced_above}

-- the cycles behind so many steps
abbrev pub stepped : List Load → ℕ → ℕ → ℕ
stepped loads i zero = 0
stepped loads i (suc n) = demand loads i (stepped loads i n)

below : (loads : List Load) (i n other : ℕ) → All IsLoad loads → IsBalanced loads i other → stepped loads i n ≤ other
below loads i zero other all balanced = omega arith
below loads i (suc n) other all balanced = balanced_above loads i (stepped loads i n) other all balanced (below loads i n other all balanced)

-- where they stay, that is the length
pub found : (loads : List Load) (i n cycles : ℕ) → All IsLoad loads → stepped loads i n ≡ cycles → demand loads i cycles ≡ cycles → 1 ≤ cycles →
    cycles ≤ (load_at loads i).period → IsFound loads i (Within cycles)
found loads i n cycles all at stay some le = (
  record {
    balanced = (some, let e : demand loads i cycles ≡ cycles = stay in omega (arith, e));
    least = λ other balanced. let x : stepped loads i n ≤ other = below loads i n other all balanced in omega (arith, x, at);
  },
  le,
)

pub past : (loads : List Load) (i n : ℕ) → All IsLoad loads → (load_at loads i).period < stepped loads i n → IsFound loads i Past
past loads i n all lt other balanced le = let x : stepped loads i n ≤ other = below loads i n other all balanced in omega (arith, x, lt, le)
