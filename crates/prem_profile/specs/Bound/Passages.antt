-- The bills of statements with marked calls: each passage between two of these is the cheaper of one scope and its parts.
use Rattle.std.specs.Prelude.{ℕ, zero, suc, pos, ◌+◌, if◌then◌else◌, List, [], ◌∷◌, ◌++◌}
use Rattle.prem_plant.specs.declared.plant.Plant.{Plant}
use Rattle.prem_isa.specs.declared.instr.Instr.TheVariants.{Jalr, PmMem}
use Rattle.prem_asm.specs.Pieces.{size_of}
use Rattle.prem_layout.specs.Footprint.{lines_of}
use Rattle.prem_layout.specs.Plans.{Plan}
use Rattle.prem_wcet_laws.specs.Scopes.{Scene, code_ranges}
use Rattle.prem_wcet_laws.specs.Parted.{Edge, by_cut, no_edge}
use Rattle.prem_wcet.specs.Outlines.{Outline, ended, plain, calling, choice, turning, between, code_of, cut_in, data_between, edge_in, first_place, front_in, inner_place, landing_in, second_place}
use Rattle.prem_profile.specs.declared.bound.bill.Item.{Item}
use Rattle.prem_profile.specs.declared.bound.bill.Spot.{Spot}
use Rattle.prem_profile.specs.declared.bound.bill.Spot.TheVariants.{At, Switch}
use Rattle.prem_profile.specs.Bound.Bills.{Bill, cheaper, spent_at}
use Rattle.prem_profile.specs.Bound.Pieces.{item}
use Rattle.prem_profile.specs.Bound.Scopes.{own_bill, own_jump_item, rule_cost, scope_bill_with}
use Rattle.prem_profile.specs.Bound.Statements.{CallBill, call_at, choice_bill, head_end, inner_end, least_bill, over_place, turns_bill}

-- ---- marked calls

-- the number of a task, and where the stub of each of its marked functions stands
pub record Stubs : Type 0 where
  pub task : ℕ
  pub places : ℕ → ℕ

-- cycles in which no instruction is counted
abbrev pub cycles_item : Spot → ℕ → Item
cycles_item s n = spent_at s (record { instructions = 0; cycles = n; misses = 0; backs = 0 })

-- one switch to a task
abbrev pub switch_item : Plant → (task : ℕ) → Item
switch_item p task = cycles_item (Switch task) p.switch

-- `pm.mem`, a switch, the stated length, a switch, and the return, all but the switches at the stub's first word
abbrev pub marked_call : Plant → (task at : ℕ) → Plan → Bill
marked_call p task at plan =
    item (rule_cost p) at PmMem ∷ switch_item p task ∷ cycles_item (At at) plan.stated ∷ switch_item p task ∷ item (rule_cost p) at (Jalr 0 4 (pos 0)) ∷ []

-- that of the plan of such a number
abbrev pub marked_bill : Plant → (task at : ℕ) → List Plan → ℕ → Bill
marked_bill p task at [] k = []
marked_bill p task at (plan ∷ plans) zero = marked_call p task at plan
marked_bill p task at (plan ∷ plans) (suc k) = marked_bill p task at plans k

-- a call in which a marked one is, or which is one
abbrev pub cut_bill : Scene → Stubs → List CallBill → ℕ → Bill
cut_bill e stubs known f = if e.marked f then marked_bill e.plant stubs.task (stubs.places (e.stub f)) e.plans (e.stub f) else (call_at known f).parted

-- ---- passages

-- statements without marked calls between two edges, of which the first one begins at a place
abbrev pub passage_bill : Scene → List CallBill → (at : ℕ) → (before : Edge) → Outline → (last : Edge) → Bill
passage_bill e known at before o last =
    cheaper
    (scope_bill_with e at (between before o last)
    (lines_of e.plant.line (code_ranges e at (between before o last) ++ data_between e before o last)) (lines_of e.plant.line (data_between e before o last)))
    (own_bill e at before.pieces
    ++ (least_bill e known (at + size_of before.pieces) o ++ own_bill e (at + size_of before.pieces + size_of (code_of o)) last.pieces))

-- the passage that statements at a place begin behind an edge, up to the first marked call
abbrev pub first_passage : Scene → List CallBill → (at : ℕ) → (before last : Edge) → Outline → Bill
first_passage e known at before last o = passage_bill e known at before (front_in e o) (edge_in e last o)

-- what stands behind that passage: each statement with marked calls, and the passage behind it
abbrev pub closed_bill : Scene → Stubs → List CallBill → (last : Edge) → (at : ℕ) → Outline → Bill
closed_bill e stubs known last at ended = []
closed_bill e stubs known last at (plain code names rest) = closed_bill e stubs known last (at + size_of code) rest
closed_bill e stubs known last at (calling code names arguments count callee landing rest) =
    by_cut (cut_in e (calling code names arguments count callee landing ended))
    (own_jump_item e (at + size_of arguments)
    ∷ (cut_bill e stubs known callee ++ first_passage e known (at + size_of arguments + 4) (landing_in landing) last rest))
    []
    ++ closed_bill e stubs known last (at + size_of code) rest
closed_bill e stubs known last at (choice code names condition skips taken other rest) =
    by_cut (cut_in e (choice code names condition skips taken other ended))
    ((own_bill e at condition
    ++ choice_bill e (at + size_of condition) (over_place at condition taken) skips
    (first_passage e known (first_place at condition) no_edge no_edge taken ++ closed_bill e stubs known no_edge (first_place at condition) taken)
    (first_passage e known (second_place at condition taken skips) no_edge no_edge other
    ++ closed_bill e stubs known no_edge (second_place at condition taken skips) other))
    ++ first_passage e known (at + size_of code) no_edge last rest)
    []
    ++ closed_bill e stubs known last (at + size_of code) rest
closed_bill e stubs known last at (turning code names first turns head before body behind rest) =
    by_cut (cut_in e (turning code names first turns head before body behind ended))
    ((own_bill e at first
    ++ turns_bill e (head_end at first head) (inner_end at first head before body + size_of behind) turns (own_bill e (at + size_of first) head)
    (own_bill e (head_end at first head + 8) before
    ++ ((first_passage e known (inner_place at first head before) no_edge no_edge body ++ closed_bill e stubs known no_edge (inner_place at first head before) body)
    ++ own_bill e (inner_end at first head before body) behind)))
    ++ first_passage e known (at + size_of code) no_edge last rest)
    []
    ++ closed_bill e stubs known last (at + size_of code) rest

-- statements behind an edge that begins at a place, before another edge
abbrev pub parted_bill : Scene → Stubs → List CallBill → (at : ℕ) → (before last : Edge) → Outline → Bill
parted_bill e stubs known at before last o = first_passage e known at before last o ++ closed_bill e stubs known last (at + size_of before.pieces) o
