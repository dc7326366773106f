-- What instructions and calls cost in memory, and the bills of functions.
use Rattle.std.specs.Prelude.{◌≤◌, ℕ, ◌+◌, ◌/◌, Vec, List, [], ◌∷◌, map}
use Rattle.std.specs.Global.{Global}
use Rattle.prem_isa.specs.declared.instr.Instr.{Instr}
use Rattle.prem_isa.specs.declared.instr.Instr.TheVariants.{Load, Store}
use Rattle.prem_asm.specs.Pieces.{Pieces}
use Rattle.prem_wcet_laws.specs.Scopes.{Scene}
use Rattle.prem_wcet.specs.declared.crowd.Crowd.{Crowd}
use Rattle.prem_wcet.specs.Crowds.{IsCache, has_room}
use Rattle.prem_profile.specs.declared.bound.bill.Item.{Item}
use Rattle.prem_profile.specs.declared.bound.pieces.Costing.{Costing}
use Rattle.prem_profile.specs.declared.bound.pieces.Costing.TheVariants.{Rule, Scope}
use Rattle.prem_profile.specs.declared.bound.pieces.Prices.{Prices}
use Rattle.prem_profile.specs.Bound.Bills.{Bill}
use Rattle.prem_profile.specs.Bound.Pieces.{PlaceCost, instruction_cost, part_bill}
use Rattle.prem_profile.specs.Bound.Scopes.{bills_behind, crowd_lines, lines_item, path_with, rule_misses}

-- ---- what instructions cost

-- how many lines an instruction may bring in, where sets of a collection have room or haven't
abbrev pub crowd_misses : Crowd → (at : ℕ) → Instr → ℕ
crowd_misses c at (Load op rd rs1 offset) = crowd_lines (has_room c (at / c.line)) + crowd_lines c.roomy
crowd_misses c at (Store op rs1 rs2 offset) = crowd_lines (has_room c (at / c.line)) + crowd_lines c.roomy
crowd_misses c at i = crowd_lines (has_room c (at / c.line))

abbrev pub crowd_cost : Crowd → PlaceCost
crowd_cost c at i = instruction_cost c.miss (crowd_misses c at i) i

abbrev pub miss_by : Costing → ℕ
miss_by (Rule miss) = miss
miss_by (Scope c) = c.now.miss

abbrev pub misses_by : Costing → (at : ℕ) → Instr → ℕ
misses_by (Rule miss) at i = rule_misses i
misses_by (Scope c) at i = crowd_misses c.now at i

abbrev pub cost_by : Costing → PlaceCost
cost_by c at i = instruction_cost (miss_by c) (misses_by c at i) i

-- a miss costs no more than that of a plant, and a collection is that of a cache
abbrev pub IsPriced : Costing → Type 0
IsPriced (Rule miss) = miss ≤ 2000
IsPriced (Scope c) = IsCache c.now

abbrev pub bills_in : List (Vec Item Global) → List Bill
bills_in bills = map (λ (b : Vec Item Global). b.items) bills

abbrev pub costs_by : Prices → PlaceCost
costs_by prices = cost_by prices.costing

abbrev pub calls_by : Prices → ℕ → Bill
calls_by prices = part_bill prices.count prices.cycles.now

-- ---- scopes

-- a path where a collection has room or hasn't
abbrev pub crowd_path : Scene → Crowd → (at : ℕ) → Pieces → Bill
crowd_path e c at ps = path_with (crowd_cost c) e.functions (bills_behind (crowd_cost c) e.functions e.places [] e.facts) at ps

abbrev pub crowd_bill : Scene → Crowd → (at : ℕ) → Pieces → Bill
crowd_bill e c at ps = lines_item e.plant at c.held ∷ crowd_path e c at ps
