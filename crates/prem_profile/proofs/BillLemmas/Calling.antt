-- Code that calls no function has the same bill whatever functions are billed.
use Rattle.std.specs.Prelude.{◌||◌, pos}
use Rattle.std.proofs.Common.{◌≡◌, ℕ, zero, suc, ◌+◌, ◌*◌, ◌<◌, Bool, true, false, List, [], ◌∷◌, ◌++◌, get_or, length, drop, refl, ap, sym, ◌∙◌, arith}
use Rattle.prem_isa.specs.declared.instr.Instr.TheVariants.{Lui, OpImm}
use Rattle.prem_isa.specs.declared.instr.AluOp.TheVariants.{Add}
use Rattle.prem_asm.specs.declared.piece.Piece.{Piece}
use Rattle.prem_asm.specs.Pieces.{Pieces, no_pieces, straight, address_of, either, repeat, call_to, back_at, branch_of, either_end, followed, other_at, repeat_end, skip_at, skip_words, test_at}
use Rattle.prem_asm.specs.PiecesOf.{piece_of, pieces_of}
use Rattle.prem_asm.proofs.PieceWords.{drop_piece}
use Rattle.prem_asm.proofs.Rows.{piece_before-followed}
use Rattle.prem_profile.specs.declared.bound.bill.Item.{Item}
use Rattle.prem_profile.specs.declared.bound.bill.Spot.{Spot}
use Rattle.prem_profile.specs.declared.bound.bill.Spot.TheVariants.{Switch, At, Call}
use Rattle.prem_profile.specs.Bound.Bills.{Bill, bill_times, dearer, is_call}
use Rattle.prem_profile.specs.Bound.Pieces.{PlaceCost, bill_at, bill_from, has_call, item, jump_item, part_bill, straight_bill}
use Rattle.prem_profile.specs.Bound.Scopes.{cycles_of, path_with}
use Rattle.prem_profile.specs.Bound.Spread.{calls_on, items_often, spot_calls, spread, spread_path}
use Rattle.prem_profile.proofs.BillLemmas.Each.{AreAll, pieces_all, timed}

neither : (a b : Bool) → (a || b) ≡ false → (a ≡ false) × (b ≡ false)
neither true b h = absurd (cc)
neither false b h = (refl, h)

pub or_none : (a : Bool) → (a || false) ≡ a
or_none true = refl
or_none false = refl

pub or_assoc : (a b c : Bool) → ((a || b) || c) ≡ (a || (b || c))
or_assoc true b c = refl
or_assoc false b c = refl

pub call_followed : (p q : Pieces) → has_call (followed p q) ≡ (has_call p || has_call q)
call_followed no_pieces q = refl
call_followed (straight code rest) q = call_followed rest q
call_followed (address_of rd part more rest) q = call_followed rest q
call_followed (either test taken other rest) q =
    let both = has_call taken || has_call other in ap (λ b. both || b) (call_followed rest q) ∙ sym (or_assoc both (has_call rest) (has_call q))
call_followed (repeat turns head test body rest) q =
    let both = has_call head || has_call body in ap (λ b. both || b) (call_followed rest q) ∙ sym (or_assoc both (has_call rest) (has_call q))
call_followed (call_to link part rest) q = refl

pub call_drop : (ps : List Piece) (i : ℕ) (p : Piece) → i < length ps → p ≡ get_or ps i p →
    has_call (pieces_of (drop i ps)) ≡ (has_call (piece_of p) || has_call (pieces_of (drop (i + 1) ps)))
call_drop ps i p h is =
    ap has_call (drop_piece ps i p h is ∙ piece_before-followed p (pieces_of (drop (i + 1) ps))) ∙ call_followed (piece_of p) (pieces_of (drop (i + 1) ps))

module _ (c : PlaceCost) (f g : ℕ → Bill) where
  pub uncalled : (at : ℕ) (ps : Pieces) → has_call ps ≡ false → bill_from c f at ps ≡ bill_from c g at ps
  uncalled at no_pieces h = refl
  uncalled at (straight code rest) h = ap (λ x. straight_bill c at code ++ x) (uncalled (at + 4 * length code) rest h)
  uncalled at (address_of rd part more rest) h = ap (λ x. item c at (Lui 0 0) ∷ item c (at + 4) (OpImm Add 0 0 (pos 0)) ∷ x) (uncalled (at + 8) rest h)
  uncalled at (either test taken other rest) h =
      let all = neither (has_call taken || has_call other) (has_call rest) h in
      let both = neither (has_call taken) (has_call other) all.0 in
      let first = uncalled (at + 8) taken both.0 in
      let second = uncalled (other_at at taken other) other both.1 in
      let behind = uncalled (either_end at taken other) rest all.1 in
      λ i. item c at (branch_of test)
      ∷ (dearer (first i ++ bill_times (skip_words other) (jump_item c (skip_at at taken) ∷ [])) (jump_item c (at + 4) ∷ second i) ++ behind i)
  uncalled at (repeat turns head test body rest) h =
      let all = neither (has_call head || has_call body) (has_call rest) h in
      let both = neither (has_call head) (has_call body) all.0 in
      let first = uncalled at head both.0 in
      let second = uncalled (test_at at head + 8) body both.1 in
      let behind = uncalled (repeat_end at head body) rest all.1 in
      λ i. bill_times turns (first i ++ (item c (test_at at head) (branch_of test) ∷ (second i ++ jump_item c (back_at at head body) ∷ [])))
      ++ ((first i ++ item c (test_at at head) (branch_of test) ∷ jump_item c (test_at at head + 4) ∷ []) ++ behind i)
  uncalled at (call_to link part rest) h = absurd (cc)

-- ---- paths that call nothing

abbrev silent : Item → Type 0
silent x = is_call x.spot ≡ false

timed_silent : (n : ℕ) (x : Item) → silent x → silent (timed n x)
timed_silent n x e = e

quiet : (s : Spot) (n f : ℕ) → is_call s ≡ false → spot_calls s n f ≡ 0
quiet (Switch k) n f e = refl
quiet (At pc) n f e = refl
quiet (Call g) n f e = absurd (cc)

uncalling : (bill : Bill) → AreAll silent bill → (f : ℕ) → calls_on bill f ≡ 0
uncalling [] h f = refl
uncalling (x ∷ bill) h f = λ i. quiet x.spot x.cost.instructions f h.0 i + uncalling bill h.1 f i

none_more : (k : ℕ) → 0 + 0 * k ≡ 0
none_more k = omega arith

spread_none : (bills : List Bill) (n : ℕ) (often : ℕ → ℕ) → ((f : ℕ) → often f ≡ 0) → spread bills n often ≡ []
spread_none bills zero often e = refl
spread_none bills (suc n) often e =
    let b : Bill = bill_at bills n in
    λ i. items_often (e n i) b ++ spread_none bills n (λ f. often f + often n * calls_on b f) (λ f. (λ j. e f j + e n j * calls_on b f) ∙ none_more (calls_on b f)) i

module _ (c : PlaceCost) (functions at : ℕ) (ps : Pieces) where
  abbrev bare : Bill
  bare = bill_from c (λ part. []) at ps

  bare_silent : AreAll silent bare
  bare_silent = pieces_all silent timed_silent c (λ at i. refl) (λ part. []) (λ part. tt) at ps

  -- such a path stays what it is, whatever functions there are
  bare_path : (bills : List Bill) (cycles : List ℕ) → has_call ps ≡ false → spread_path bills (bill_from c (part_bill functions cycles) at ps) ≡ items_often 1 bare ++ []
  bare_path bills cycles none =
      ap (spread_path bills) (uncalled c (part_bill functions cycles) (λ part. []) at ps none)
      ∙ ap (λ rest. items_often 1 bare ++ rest) (spread_none bills (length bills) (calls_on bare) (uncalling bare bare_silent))

  pub called_as : (known all : List Bill) (cycles : List ℕ) (calls : Bool) → calls ≡ has_call ps → cycles ≡ cycles_of known → (calls ≡ true → known ≡ all) →
      spread_path known (bill_from c (part_bill functions cycles) at ps) ≡ path_with c functions all at ps
  called_as known all cycles true is told same = ap (λ ns. spread_path known (bill_from c (part_bill functions ns) at ps)) told ∙ ap (λ bs. path_with c functions bs at ps) (same refl)
  called_as known all cycles false is told same = bare_path known cycles (sym is) ∙ sym (bare_path all (cycles_of all) (sym is))
