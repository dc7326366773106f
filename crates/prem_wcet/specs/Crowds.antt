-- What the lines of a collection in memory add to instructions.
use Rattle.std.specs.Prelude.{◌≡◌, ℕ, ◌+◌, ◌/◌, ◌%◌, ◌<◌, ◌≤◌, nat_le, Bool, true, if◌then◌else◌, List, length, slice_index, ◌^◌}
use Rattle.std.specs.List.{list_all}
use Rattle.prem_plant.specs.declared.plant.Plant.{Plant}
use Rattle.prem_isa.specs.declared.instr.Instr.{Instr}
use Rattle.prem_isa.specs.declared.instr.Instr.TheVariants.{Load, Store}
use Rattle.prem_isa.specs.Decode.{cost_of}
use Rattle.prem_layout.specs.Footprint.{count_in}
use Rattle.prem_layout.specs.Bounds.{line_cost}
use Rattle.prem_wcet_laws.specs.Scopes.{is_roomy, roomy_lines}
use Rattle.prem_wcet.specs.declared.crowd.Crowd.{Crowd}

-- the set of a line has room
abbrev pub has_room : Crowd → ℕ → Bool
has_room c n = nat_le (slice_index c.counts (n % c.sets)) c.room

abbrev pub miss_unless : Crowd → Bool → ℕ
miss_unless c roomy = if roomy then 0 else c.miss

-- what the fetch of an instruction at a place may miss, and what a load or a store may
abbrev pub fetch_by : Crowd → ℕ → ℕ
fetch_by c at = miss_unless c (has_room c (at / c.line))

abbrev pub access_by : Crowd → ℕ
access_by c = miss_unless c c.roomy

-- the weight of an instruction at a place
abbrev pub place_weight : Crowd → ℕ → Instr → ℕ
place_weight c at (Load op rd rs1 offset) = cost_of (Load op rd rs1 offset) + fetch_by c at + access_by c
place_weight c at (Store op rs1 rs2 offset) = cost_of (Store op rs1 rs2 offset) + fetch_by c at + access_by c
place_weight c at i = cost_of i + fetch_by c at

-- the numbers of a cache, and what a miss costs
pub record IsCache (c : Crowd) : Type 0 where
  pub line : 1 ≤ c.line
  pub some : 1 ≤ c.sets
  pub most : c.sets ≤ 1024
  pub miss : c.miss ≤ 2000

-- a collection of lines, of which these are its data's, in the cache of a plant
pub record IsCrowd (p : Plant) (lines touched : List ℕ) (c : Crowd) : Type 0 where
  pub line : c.line ≡ p.line
  pub sets : c.sets ≡ p.sets
  pub room : c.room ≡ p.«ways»
  pub miss : c.miss ≡ line_cost p
  pub counts : (s : ℕ) → s < p.sets → slice_index c.counts s ≡ count_in p.sets lines s
  pub roomy : c.roomy ≡ list_all (is_roomy p lines) touched
  pub held : c.held ≡ length (roomy_lines p lines)
  pub small : c.held < 2 ^ 32
  pub alone : c.alone ≡ true → (n : ℕ) → is_roomy p lines n ≡ true
