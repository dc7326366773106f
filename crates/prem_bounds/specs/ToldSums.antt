-- Four sums in memory, as far as they are told.
use Rattle.std.specs.Prelude.{◌≡◌, ℕ, zero, suc, nat_lt, if◌then◌else◌, List, [], ◌∷◌, length, Option, Some, None}
use Rattle.prem_isa.specs.declared.instr.Instr.{Instr}
use Rattle.prem_layout.specs.Stretch.Sums.{Sums, taking, part_sums}
use Rattle.prem_bounds.specs.declared.stretches.Sums.{Sums as SumsInMemory}
use Rattle.prem_bounds.specs.declared.reach.Reach.{Reach}
use Rattle.prem_bounds.specs.Scale.{clipped, weight_by}

abbrev pub clip : Option ℕ → Option ℕ
clip None = None
clip (Some n) = Some (clipped n)

abbrev pub clipped_sums : Sums → Sums
clipped_sums a = record { whole = clip a.whole; before = clip a.before; between = clip a.between; behind = clip a.behind }

abbrev pub sums_of : SumsInMemory → Sums
sums_of a = record { whole = a.whole; before = a.before; between = a.between; behind = a.behind }

-- what is found of some sums
abbrev pub AreTold : SumsInMemory → Sums → Type 0
AreTold found sums = clipped_sums (sums_of found) ≡ clipped_sums sums

-- ---- tables

abbrev pub sums_in : List SumsInMemory → ℕ → Sums
sums_in [] k = taking 0
sums_in (first ∷ rest) zero = sums_of first
sums_in (first ∷ rest) (suc k) = sums_in rest k

-- an array of so many sums tells these
pub record TellsSums (count : ℕ) (array : List SumsInMemory) (sums : ℕ → Sums) : Type 0 where
  pub long : length array ≡ count
  pub each : (k : ℕ) → clipped_sums (sums_in array k) ≡ clipped_sums (sums k)

-- ---- what is known of instructions and parts

abbrev pub stub_sums : (stubs : ℕ) (marked : SumsInMemory) → ℕ → Sums
stub_sums stubs marked k = if nat_lt k stubs then sums_of marked else taking 0

abbrev pub sums_by : Reach → ℕ → Sums
sums_by r = part_sums r.scale.count (sums_in r.functions) (stub_sums r.stubs r.marked)

abbrev pub step_weight : Reach → Instr → ℕ
step_weight r = weight_by r.scale
