-- What holds of each item of bills, where it holds of those that they are made of.
use Rattle.std.specs.Prelude.{nat_lt}
use Rattle.std.proofs.Common.{◌≡◌, ℕ, zero, suc, pos, ◌+◌, ◌*◌, Bool, true, false, cond, List, [], ◌∷◌, ◌++◌, length, refl, sym, subst}
use Rattle.prem_isa.specs.declared.instr.Instr.{Instr}
use Rattle.prem_isa.specs.declared.instr.Instr.TheVariants.{Lui, Jal, OpImm}
use Rattle.prem_isa.specs.declared.instr.AluOp.TheVariants.{Add}
use Rattle.prem_asm.specs.Pieces.{Pieces, no_pieces, straight, address_of, either, repeat, call_to, branch_of, skip_words, skip_at, other_at, either_end, test_at, back_at, repeat_end}
use Rattle.prem_layout.specs.Bounds.{weight_at}
use Rattle.prem_layout.specs.Parts.{code_part}
use Rattle.prem_bounds.specs.Scale.{clipped}
use Rattle.prem_wcet_laws.specs.Scopes.{Fact}
use Rattle.prem_profile.specs.declared.bound.bill.Item.{Item}
use Rattle.prem_profile.specs.Bound.Bills.{Bill, bill_times, cost_times, cycles_on, dearer}
use Rattle.prem_profile.specs.Bound.Pieces.{PlaceCost, bill_at, bill_from, call_items, item, jump_item, part_bill, straight_bill}
use Rattle.prem_profile.specs.Bound.Scopes.{bills_behind, cycles_of}

abbrev pub AreAll : (Item → Type 0) → Bill → Type 0
AreAll q [] = Unit {0}
AreAll q (x ∷ bill) = q x × AreAll q bill

-- an item so many times
abbrev pub timed : ℕ → Item → Item
timed n x = record { spot = x.spot; cost = cost_times n x.cost }

-- ---- bills of bills

pub all_append : (q : Item → Type 0) (a b : Bill) → AreAll q a → AreAll q b → AreAll q (a ++ b)
all_append q [] b f g = g
all_append q (x ∷ a) b f g = (f.0, all_append q a b f.1 g)

pub all_times : (q : Item → Type 0) → ((n : ℕ) (x : Item) → q x → q (timed n x)) → (n : ℕ) (a : Bill) → AreAll q a → AreAll q (bill_times n a)
all_times q more n [] f = tt
all_times q more n (x ∷ a) f = (more n x f.0, all_times q more n a f.1)

pub all_one : (q : Item → Type 0) (t : Bool) (a b : Bill) → AreAll q a → AreAll q b → AreAll q (cond t a b)
all_one q true a b f g = f
all_one q false a b f g = g

pub all_dearer : (q : Item → Type 0) (a b : Bill) → AreAll q a → AreAll q b → AreAll q (dearer a b)
all_dearer q a b f g = all_one q (nat_lt (clipped (cycles_on a)) (clipped (cycles_on b))) b a g f

-- ---- parts

none_called : (n : ℕ) → weight_at [] n ≡ 0
none_called zero = refl
none_called (suc n) = refl

pub none_all : (q : Item → Type 0) (part : ℕ) → AreAll q (part_bill 0 [] part)
none_all q zero = tt
none_all q (suc n) = all_one q (nat_lt n 0) (call_items n (weight_at [] n)) [] (subst (λ k. AreAll q (call_items n k)) (sym (none_called n)) tt) tt

pub part_all : (q : Item → Type 0) → ((f n : ℕ) → AreAll q (call_items f n)) → (functions : ℕ) (cycles : List ℕ) (part : ℕ) → AreAll q (part_bill functions cycles part)
part_all q call functions cycles zero = tt
part_all q call functions cycles (suc n) = all_one q (nat_lt n functions) (call_items n (weight_at cycles n)) [] (call n (weight_at cycles n)) tt

-- ---- bills of functions

abbrev pub AllOf : (Item → Type 0) → List Bill → Type 0
AllOf q [] = Unit {0}
AllOf q (b ∷ bs) = AreAll q b × AllOf q bs

pub all_at : (q : Item → Type 0) (bs : List Bill) → AllOf q bs → (n : ℕ) → AreAll q (bill_at bs n)
all_at q [] h zero = tt
all_at q [] h (suc n) = tt
all_at q (b ∷ bs) h zero = h.0
all_at q (b ∷ bs) h (suc n) = all_at q bs h.1 n

all_more : (q : Item → Type 0) (bs : List Bill) (b : Bill) → AllOf q bs → AreAll q b → AllOf q (bs ++ b ∷ [])
all_more q [] b h one = (one, tt)
all_more q (c ∷ bs) b h one = (h.0, all_more q bs b h.1 one)

-- ---- pieces

module _ (q : Item → Type 0) (times : (n : ℕ) (x : Item) → q x → q (timed n x)) (c : PlaceCost) (each : (at : ℕ) (i : Instr) → q (item c at i)) where
  straight_all : (at : ℕ) (code : List Instr) → AreAll q (straight_bill c at code)
  straight_all at [] = tt
  straight_all at (i ∷ is) = (each at i, straight_all (at + 4) is)

  module _ (bills : ℕ → Bill) (called : (part : ℕ) → AreAll q (bills part)) where
    pub pieces_all : (at : ℕ) (ps : Pieces) → AreAll q (bill_from c bills at ps)
    pieces_all at no_pieces = tt
    pieces_all at (straight code rest) = all_append q (straight_bill c at code) _ (straight_all at code) (pieces_all (at + 4 * length code) rest)
    pieces_all at (address_of rd part more rest) = (each at (Lui 0 0), (each (at + 4) (OpImm Add 0 0 (pos 0)), pieces_all (at + 8) rest))
    pieces_all at (either test taken other rest) =
        let first : Bill = bill_from c bills (at + 8) taken ++ bill_times (skip_words other) (jump_item c (skip_at at taken) ∷ []) in
        let second : Bill = jump_item c (at + 4) ∷ bill_from c bills (other_at at taken other) other in (
          each at (branch_of test),
          all_append q (dearer first second) _
              (all_dearer q first second
              (all_append q (bill_from c bills (at + 8) taken) _ (pieces_all (at + 8) taken)
              (all_times q times (skip_words other) (jump_item c (skip_at at taken) ∷ []) (each (skip_at at taken) (Jal 0 (pos 0)), tt)))
              (each (at + 4) (Jal 0 (pos 0)), pieces_all (other_at at taken other) other))
              (pieces_all (either_end at taken other) rest),
        )
    pieces_all at (repeat turns head test body rest) =
        let there : ℕ = test_at at head in
        let back : ℕ = back_at at head body in
        let turn : Bill = bill_from c bills at head ++ (item c there (branch_of test) ∷ (bill_from c bills (there + 8) body ++ jump_item c back ∷ [])) in
        let out : Bill = bill_from c bills at head ++ item c there (branch_of test) ∷ jump_item c (there + 4) ∷ [] in
        all_append q (bill_times turns turn) _
        (all_times q times turns turn
        (all_append q (bill_from c bills at head) _ (pieces_all at head)
        (each there (branch_of test), all_append q (bill_from c bills (there + 8) body) _ (pieces_all (there + 8) body) (each back (Jal 0 (pos 0)), tt))))
        (all_append q out _ (all_append q (bill_from c bills at head) _ (pieces_all at head) (each there (branch_of test), (each (there + 4) (Jal 0 (pos 0)), tt))) (pieces_all (repeat_end at head body) rest))
    pieces_all at (call_to link part rest) = (each at (Jal 0 (pos 0)), all_append q (bills part) _ (called part) (pieces_all (at + 4) rest))

  module _ (call : (f n : ℕ) → AreAll q (call_items f n)) (functions : ℕ) where
    pub path_all : (cycles : List ℕ) (at : ℕ) (ps : Pieces) → AreAll q (bill_from c (part_bill functions cycles) at ps)
    path_all cycles at ps = pieces_all (part_bill functions cycles) (part_all q call functions cycles) at ps

    pub known_all : (places : ℕ → ℕ) (known : List Bill) (fs : List Fact) → AllOf q known → AllOf q (bills_behind c functions places known fs)
    known_all places known [] h = h
    known_all places known (f ∷ fs) h =
        let next : Bill = bill_from c (part_bill functions (cycles_of known)) (places (code_part (length known))) f.pieces in
        known_all places (known ++ next ∷ []) fs (all_more q known next h (path_all (cycles_of known) (places (code_part (length known))) f.pieces))
