-- The bill of pieces at a place: the greatest weight over their paths, word by word. Of a choice it has the dearer side, and of a loop all turns.
use Rattle.std.specs.Prelude.{ℕ, zero, suc, pos, ◌+◌, ◌*◌, ◌||◌, nat_lt, Bool, true, false, if◌then◌else◌, List, [], ◌∷◌, ◌++◌, length, slice_index_or}
use Rattle.prem_isa.specs.declared.instr.Instr.{Instr}
use Rattle.prem_isa.specs.declared.instr.Instr.TheVariants.{Lui, Jal, OpImm}
use Rattle.prem_isa.specs.declared.instr.AluOp.TheVariants.{Add}
use Rattle.prem_isa.specs.Decode.{cost_of}
use Rattle.prem_layout.specs.Bounds.{weight_at}
use Rattle.prem_asm.specs.Pieces.{Pieces, no_pieces, straight, address_of, either, repeat, call_to, branch_of, skip_words, skip_at, other_at, either_end, test_at, back_at, repeat_end}
use Rattle.prem_profile.specs.declared.cost.Cost.{Cost}
use Rattle.prem_profile.specs.declared.bound.bill.Item.{Item}
use Rattle.prem_profile.specs.declared.bound.bill.Spot.TheVariants.{At, Call}
use Rattle.prem_profile.specs.Bound.Bills.{Bill, bill_times, dearer, spent_at}

-- what an instruction at a place costs
abbrev pub PlaceCost : Type 0
PlaceCost = ℕ → Instr → Cost

-- an instruction for which so many lines are brought in, each behind one that is written back, for so many cycles
abbrev pub instruction_cost : (miss lines : ℕ) → Instr → Cost
instruction_cost miss lines i = record { instructions = 1; cycles = cost_of i + lines * miss; misses = lines; backs = lines }

abbrev pub item : PlaceCost → (at : ℕ) → Instr → Item
item c at i = spent_at (At at) (c at i)

-- a jump, whose register and offset don't add to its cost
abbrev pub jump_item : PlaceCost → (at : ℕ) → Item
jump_item c at = item c at (Jal 0 (pos 0))

-- instructions one behind another
abbrev pub straight_bill : PlaceCost → (at : ℕ) → List Instr → Bill
straight_bill c at [] = []
straight_bill c at (i ∷ is) = item c at i ∷ straight_bill c (at + 4) is

-- pieces, with what is billed for each called part
abbrev pub bill_from : PlaceCost → (calls : ℕ → Bill) → (at : ℕ) → Pieces → Bill
bill_from c calls at no_pieces = []
bill_from c calls at (straight code rest) = straight_bill c at code ++ bill_from c calls (at + 4 * length code) rest
bill_from c calls at (address_of rd part more rest) = item c at (Lui 0 0) ∷ item c (at + 4) (OpImm Add 0 0 (pos 0)) ∷ bill_from c calls (at + 8) rest
bill_from c calls at (either test taken other rest) =
    item c at (branch_of test)
    ∷ (dearer (bill_from c calls (at + 8) taken ++ bill_times (skip_words other) (jump_item c (skip_at at taken) ∷ []))
    (jump_item c (at + 4) ∷ bill_from c calls (other_at at taken other) other)
    ++ bill_from c calls (either_end at taken other) rest)
bill_from c calls at (repeat turns head test body rest) =
    bill_times turns (bill_from c calls at head ++ (item c (test_at at head) (branch_of test) ∷ (bill_from c calls (test_at at head + 8) body ++ jump_item c (back_at at head body) ∷ [])))
    ++ ((bill_from c calls at head ++ item c (test_at at head) (branch_of test) ∷ jump_item c (test_at at head + 4) ∷ [])
    ++ bill_from c calls (repeat_end at head body) rest)
bill_from c calls at (call_to link part rest) = jump_item c at ∷ (calls part ++ bill_from c calls (at + 4) rest)

-- ---- called parts

-- whether pieces call a part
abbrev pub has_call : Pieces → Bool
has_call no_pieces = false
has_call (straight code rest) = has_call rest
has_call (address_of rd part more rest) = has_call rest
has_call (either test taken other rest) = (has_call taken || has_call other) || has_call rest
has_call (repeat turns head test body rest) = (has_call head || has_call body) || has_call rest
has_call (call_to link part rest) = true

abbrev pub bill_at : List Bill → ℕ → Bill
bill_at bills n = slice_index_or bills n []

-- one call of a function that takes so many cycles; one that takes none isn't billed
abbrev pub call_items : (function cycles : ℕ) → Bill
call_items f zero = []
call_items f (suc n) = spent_at (Call f) (record { instructions = 1; cycles = suc n; misses = 0; backs = 0 }) ∷ []

-- of the code of so many functions, each of which takes so many cycles; no stub is called
abbrev pub part_bill : (functions : ℕ) → (cycles : List ℕ) → ℕ → Bill
part_bill functions cycles zero = []
part_bill functions cycles (suc n) = if nat_lt n functions then call_items n (weight_at cycles n) else []
