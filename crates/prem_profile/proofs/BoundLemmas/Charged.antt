-- The bill of code as one scope comes to its charge, and that of code by the rule to the rule's.
use Rattle.std.proofs.Common.{◌≡◌, ℕ, pos, ◌+◌, ◌*◌, ◌/◌, max, Bool, true, false, List, [], ◌∷◌, length, refl, ap, arith}
use Rattle.std.specs.List.{list_all}
use Rattle.prem_plant.specs.declared.plant.Plant.{Plant}
use Rattle.prem_isa.specs.declared.instr.Instr.{Instr}
use Rattle.prem_isa.specs.declared.instr.Instr.TheVariants.{Lui, Auipc, Jal, Jalr, Branch, Load, Store, OpImm, Op, MulDiv, Fence, Ecall, Ebreak, PmMem, PmExec, PmEnd, PmDone, PmIn, PmOut}
use Rattle.prem_isa.specs.Decode.{cost_of}
use Rattle.prem_asm.specs.Pieces.{Pieces, no_pieces, straight, address_of, either, repeat, call_to, address_weight, branch_of, either_end, jump_weight, other_at, repeat_end, skip_words, test_at}
use Rattle.prem_asm.specs.Pieces.{weight, weighted}
use Rattle.prem_layout.specs.Template.Terms.{nonzero}
use Rattle.prem_layout.specs.Bounds.{job_weight, line_cost, part_weight, weight_at}
use Rattle.prem_wcet_laws.specs.Scopes.{Scene, Span, charge, charge_with, crowd_cost, data_lines, is_roomy, lines_in, path_weight, places_behind, roomy_lines, scope_weight}
use Rattle.prem_wcet_laws.specs.Weights.{PlaceWeight, weight_from, weighted_from}
use Rattle.prem_wcet_laws.specs.Least.{own, own_jump}
use Rattle.prem_profile.specs.Bound.Bills.{Bill, bill_times}
use Rattle.prem_profile.specs.Bound.Pieces.{PlaceCost, part_bill}
use Rattle.prem_profile.specs.Bound.Scopes.{bills_behind, crowd_lines, cycles_of, lines_item, own_bill, own_jump_item, own_test_item, path_bill, rule_cost, scope_bill, scope_bill_with, scope_cost}
use Rattle.prem_profile.proofs.BoundLemmas.Sums.{Comes, known_come, led, no_part, none, part_comes, pieces_come, recount, times}
use Rattle.prem_profile.proofs.BoundLemmas.Spread.{spread_kept}

-- ---- instructions

-- a line that is brought in, or none
crowd_is : (p : Plant) (roomy : Bool) → crowd_lines roomy * line_cost p ≡ crowd_cost p roomy
crowd_is p true = omega arith
crowd_is p false = omega arith

module _ (p : Plant) (lines : List ℕ) (roomy : Bool) (at : ℕ) where
  fetched : (c : ℕ) → c + crowd_lines (is_roomy p lines (at / p.line)) * line_cost p ≡ c + crowd_cost p (is_roomy p lines (at / p.line))
  fetched c = ap (λ n. c + n) (crowd_is p (is_roomy p lines (at / p.line)))

  accessed : (c : ℕ) → c + (crowd_lines (is_roomy p lines (at / p.line)) + crowd_lines roomy) * line_cost p
      ≡ c + crowd_cost p (is_roomy p lines (at / p.line)) + crowd_cost p roomy
  accessed c = by (is_roomy p lines (at / p.line)) roomy where
    by : (a b : Bool) → c + (crowd_lines a + crowd_lines b) * line_cost p ≡ c + crowd_cost p a + crowd_cost p b
    by true true = omega arith
    by true false = omega arith
    by false true = omega arith
    by false false = omega arith

  scope_same : (i : Instr) → (scope_cost p lines roomy at i).cycles ≡ scope_weight p lines roomy at i
  scope_same (Load op rd rs1 offset) = accessed (cost_of (Load op rd rs1 offset))
  scope_same (Store op rs1 rs2 offset) = accessed (cost_of (Store op rs1 rs2 offset))
  scope_same (Lui rd imm) = fetched (cost_of (Lui rd imm))
  scope_same (Auipc rd imm) = fetched (cost_of (Auipc rd imm))
  scope_same (Jal rd offset) = fetched (cost_of (Jal rd offset))
  scope_same (Jalr rd rs1 offset) = fetched (cost_of (Jalr rd rs1 offset))
  scope_same (Branch op rs1 rs2 offset) = fetched (cost_of (Branch op rs1 rs2 offset))
  scope_same (OpImm op rd rs1 imm) = fetched (cost_of (OpImm op rd rs1 imm))
  scope_same (Op op rd rs1 rs2) = fetched (cost_of (Op op rd rs1 rs2))
  scope_same (MulDiv op rd rs1 rs2) = fetched (cost_of (MulDiv op rd rs1 rs2))
  scope_same (Fence high rd) = fetched (cost_of (Fence high rd))
  scope_same Ecall = fetched (cost_of Ecall)
  scope_same Ebreak = fetched (cost_of Ebreak)
  scope_same PmMem = fetched (cost_of PmMem)
  scope_same (PmExec rs1) = fetched (cost_of (PmExec rs1))
  scope_same PmEnd = fetched (cost_of PmEnd)
  scope_same PmDone = fetched (cost_of PmDone)
  scope_same (PmIn rd) = fetched (cost_of (PmIn rd))
  scope_same (PmOut rs1) = fetched (cost_of (PmOut rs1))

module _ (p : Plant) where
  once : (c : ℕ) → c + 1 * line_cost p ≡ c + line_cost p
  once c = omega arith

  pub rule_same : (at : ℕ) (i : Instr) → (rule_cost p at i).cycles ≡ job_weight p i
  rule_same at (Load op rd rs1 offset) = refl
  rule_same at (Store op rs1 rs2 offset) = refl
  rule_same at (Lui rd imm) = once (cost_of (Lui rd imm))
  rule_same at (Auipc rd imm) = once (cost_of (Auipc rd imm))
  rule_same at (Jal rd offset) = once (cost_of (Jal rd offset))
  rule_same at (Jalr rd rs1 offset) = once (cost_of (Jalr rd rs1 offset))
  rule_same at (Branch op rs1 rs2 offset) = once (cost_of (Branch op rs1 rs2 offset))
  rule_same at (OpImm op rd rs1 imm) = once (cost_of (OpImm op rd rs1 imm))
  rule_same at (Op op rd rs1 rs2) = once (cost_of (Op op rd rs1 rs2))
  rule_same at (MulDiv op rd rs1 rs2) = once (cost_of (MulDiv op rd rs1 rs2))
  rule_same at (Fence high rd) = once (cost_of (Fence high rd))
  rule_same at Ecall = once (cost_of Ecall)
  rule_same at Ebreak = once (cost_of Ebreak)
  rule_same at PmMem = once (cost_of PmMem)
  rule_same at (PmExec rs1) = once (cost_of (PmExec rs1))
  rule_same at PmEnd = once (cost_of PmEnd)
  rule_same at PmDone = once (cost_of PmDone)
  rule_same at (PmIn rd) = once (cost_of (PmIn rd))
  rule_same at (PmOut rs1) = once (cost_of (PmOut rs1))

-- ---- scopes

module _ (e : Scene) where
  path_comes : (c : PlaceCost) (w : PlaceWeight) → ((at : ℕ) (i : Instr) → (c at i).cycles ≡ w at i) → (at : ℕ) (s : Span) → Comes (path_bill e c at s) (path_weight e w at s)
  path_comes c w same at s =
      let bills : List Bill = bills_behind c e.functions e.places [] e.facts in
      let known : List ℕ = places_behind w e.functions e.places [] e.facts in
      spread_kept c e.functions e.places e.facts at s.pieces (path_weight e w at s)
      (pieces_come w c same (part_bill e.functions (cycles_of bills)) (part_weight e.functions (weight_at known) (λ k. 0))
      (part_comes w c same e.functions bills known (known_come w c same e.functions e.places [] [] e.facts tt)) at s.pieces)

  pub scope_comes_with : (at : ℕ) (s : Span) (lines held : List ℕ) → Comes (scope_bill_with e at s lines held) (charge_with e at s lines held)
  scope_comes_with at s lines held =
      let roomy : Bool = list_all (is_roomy e.plant lines) held in
      led (lines_item e.plant at (length (roomy_lines e.plant lines))) (length (roomy_lines e.plant lines) * line_cost e.plant) refl
      (path_comes (scope_cost e.plant lines roomy) (scope_weight e.plant lines roomy) (scope_same e.plant lines roomy) at s)

  pub scope_comes : (at : ℕ) (s : Span) → Comes (scope_bill e at s) (charge e at s)
  scope_comes at s = scope_comes_with at s (lines_in e at s) (data_lines e s)

  -- ---- by the rule

  -- weights to which places don't add
  alike_code : (w : Instr → ℕ) (at : ℕ) (code : List Instr) → weight_from (λ a. w) at code ≡ weight w code
  alike_code w at [] = refl
  alike_code w at (i ∷ is) = ap (λ n. w i + n) (alike_code w (at + 4) is)

  alike : (w : Instr → ℕ) (c : ℕ → ℕ) (at : ℕ) (ps : Pieces) → weighted_from (λ a. w) c at ps ≡ weighted w c ps
  alike w c at no_pieces = refl
  alike w c at (straight code rest) = λ i. alike_code w at code i + alike w c (at + 4 * length code) rest i
  alike w c at (address_of rd part more rest) = ap (λ n. address_weight w + n) (alike w c (at + 8) rest)
  alike w c at (either test taken other rest) =
      λ i.
      w (branch_of test) + max (alike w c (at + 8) taken i + skip_words other * jump_weight w) (jump_weight w + alike w c (other_at at taken other) other i)
      + alike w c (either_end at taken other) rest i
  alike w c at (repeat turns head test body rest) =
      λ i.
      turns * (alike w c at head i + w (branch_of test) + alike w c (test_at at head + 8) body i + jump_weight w)
      + (alike w c at head i + w (branch_of test) + jump_weight w)
      + alike w c (repeat_end at head body) rest i
  alike w c at (call_to link part rest) = ap (λ n. jump_weight w + c part + n) (alike w c (at + 4) rest)

  pub own_comes : (at : ℕ) (ps : Pieces) → Comes (own_bill e at ps) (own e ps)
  own_comes at ps =
      recount (own e ps) (pieces_come (λ a. job_weight e.plant) (rule_cost e.plant) (rule_same e.plant) (part_bill 0 []) (λ part. 0) no_part at ps)
      (alike (job_weight e.plant) (λ part. 0) at ps)

  pub jump_first : {b : Bill} {n : ℕ} (at : ℕ) → Comes b n → Comes (own_jump_item e at ∷ b) (own_jump e + n)
  jump_first at c = led (own_jump_item e at) (own_jump e) (rule_same e.plant at (Jal 0 (pos 0))) c

  pub test_first : {b : Bill} {n : ℕ} (at : ℕ) → Comes b n → Comes (own_test_item e at ∷ b) (job_weight e.plant (branch_of (nonzero 10)) + n)
  test_first at c = led (own_test_item e at) (job_weight e.plant (branch_of (nonzero 10))) (rule_same e.plant at (branch_of (nonzero 10))) c

  pub last_jump : (at : ℕ) → Comes (own_jump_item e at ∷ []) (own_jump e)
  last_jump at = recount (own_jump e) (jump_first at none) (nothing (own_jump e)) where
    nothing : (n : ℕ) → n + 0 ≡ n
    nothing n = omega arith

  pub jumps_come : (n at : ℕ) → Comes (bill_times n (own_jump_item e at ∷ [])) (n * own_jump e)
  jumps_come n at = times n (last_jump at)
