-- The bills of code as one scope, which has the lines that it brings in at its first word, and of code by the rule.
use Rattle.std.specs.Prelude.{ℕ, ◌+◌, ◌*◌, ◌/◌, Bool, if◌then◌else◌, List, [], ◌∷◌, ◌++◌, length, map}
use Rattle.std.specs.List.{list_all}
use Rattle.prem_plant.specs.declared.plant.Plant.{Plant}
use Rattle.prem_isa.specs.declared.instr.Instr.{Instr}
use Rattle.prem_isa.specs.declared.instr.Instr.TheVariants.{Load, Store}
use Rattle.prem_asm.specs.Pieces.{Pieces, branch_of}
use Rattle.prem_layout.specs.Template.Terms.{nonzero}
use Rattle.prem_layout.specs.Bounds.{line_cost}
use Rattle.prem_layout.specs.Parts.{code_part}
use Rattle.prem_bounds.specs.Scale.{clipped}
use Rattle.prem_wcet_laws.specs.Scopes.{Span, Fact, Scene, is_roomy, roomy_lines, lines_in, data_lines}
use Rattle.prem_profile.specs.declared.bound.bill.Item.{Item}
use Rattle.prem_profile.specs.declared.bound.bill.Spot.TheVariants.{At}
use Rattle.prem_profile.specs.Bound.Bills.{Bill, cycles_on, spent_at}
use Rattle.prem_profile.specs.Bound.Pieces.{PlaceCost, instruction_cost, item, jump_item, bill_from, part_bill}
use Rattle.prem_profile.specs.Bound.Spread.{spread_path}

-- ---- as one scope

-- a touch of a line whose set has no room may bring it in each time
abbrev pub crowd_lines : Bool → ℕ
crowd_lines roomy = if roomy then 0 else 1

-- how many lines an instruction at a place may bring in, where the lines of the data have room or haven't
abbrev pub scope_misses : Plant → (lines : List ℕ) → (data_roomy : Bool) → (at : ℕ) → Instr → ℕ
scope_misses p lines data_roomy at (Load op rd rs1 offset) = crowd_lines (is_roomy p lines (at / p.line)) + crowd_lines data_roomy
scope_misses p lines data_roomy at (Store op rs1 rs2 offset) = crowd_lines (is_roomy p lines (at / p.line)) + crowd_lines data_roomy
scope_misses p lines data_roomy at i = crowd_lines (is_roomy p lines (at / p.line))

abbrev pub scope_cost : Plant → (lines : List ℕ) → (data_roomy : Bool) → PlaceCost
scope_cost p lines data_roomy at i = instruction_cost (line_cost p) (scope_misses p lines data_roomy at i) i

abbrev pub cycles_of : List Bill → List ℕ
cycles_of bills = map (λ (b : Bill). clipped (cycles_on b)) bills

-- the paths of functions in the order of the text, behind those that are known
abbrev pub bills_behind : PlaceCost → (functions : ℕ) → (places : ℕ → ℕ) → List Bill → List Fact → List Bill
bills_behind c functions places known [] = known
bills_behind c functions places known (f ∷ fs) =
    bills_behind c functions places (known ++ bill_from c (part_bill functions (cycles_of known)) (places (code_part (length known))) f.pieces ∷ []) fs

-- the dearest path at a place, with the items of the functions that it calls
abbrev pub path_with : PlaceCost → (functions : ℕ) → List Bill → (at : ℕ) → Pieces → Bill
path_with c functions bills at ps = spread_path bills (bill_from c (part_bill functions (cycles_of bills)) at ps)

abbrev pub path_bill : Scene → PlaceCost → (at : ℕ) → Span → Bill
path_bill e c at s = path_with c e.functions (bills_behind c e.functions e.places [] e.facts) at s.pieces

-- so many lines that are brought in, each behind one that is written back
abbrev pub lines_item : Plant → (at lines : ℕ) → Item
lines_item p at lines = spent_at (At at) (record { instructions = 0; cycles = lines * line_cost p; misses = lines; backs = lines })

-- with these lines, of which these are the data's
abbrev pub scope_bill_with : Scene → (at : ℕ) → Span → (lines held : List ℕ) → Bill
scope_bill_with e at s lines held =
    lines_item e.plant at (length (roomy_lines e.plant lines)) ∷ path_bill e (scope_cost e.plant lines (list_all (is_roomy e.plant lines) held)) at s

abbrev pub scope_bill : Scene → (at : ℕ) → Span → Bill
scope_bill e at s = scope_bill_with e at s (lines_in e at s) (data_lines e s)

-- ---- by the rule, where each touch brings a line in

abbrev pub rule_misses : Instr → ℕ
rule_misses (Load op rd rs1 offset) = 2
rule_misses (Store op rs1 rs2 offset) = 2
rule_misses i = 1

abbrev pub rule_cost : Plant → PlaceCost
rule_cost p at i = instruction_cost (line_cost p) (rule_misses i) i

-- code that calls nothing
abbrev pub own_bill : Scene → (at : ℕ) → Pieces → Bill
own_bill e at ps = bill_from (rule_cost e.plant) (part_bill 0 []) at ps

abbrev pub own_jump_item : Scene → (at : ℕ) → Item
own_jump_item e at = jump_item (rule_cost e.plant) at

-- the test of a choice or of a loop
abbrev pub own_test_item : Scene → (at : ℕ) → Item
own_test_item e at = item (rule_cost e.plant) at (branch_of (nonzero 10))
