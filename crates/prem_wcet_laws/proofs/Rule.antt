-- Least and parted charges are no more than the rule's weights.
use Rattle.std.proofs.Common.{◌≡◌, ℕ, ◌+◌, ◌*◌, ◌≤◌, arith, subst, sym, refl, ap, ◌∙◌, true, false, Bool, [], ◌∷◌}
use Rattle.prem_wcet_laws.proofs.Prelude.{Pieces, no_pieces, straight, either, repeat, call_to, followed, branch_of, skip_words, weighted, size_of, Test, job_weight, counters_in, locals_of}
use Rattle.prem_wcet_laws.proofs.Prelude.{frame_of, store_slot, bound_test, step_code, count_code, argument_code, target_code, steps_code, closing, result_code, function_code, only, nonzero}
use Rattle.prem_wcet_laws.proofs.Prelude.{Steps, Done, SetLocal, SetScalar, SetElement, Output, Input, If, For, While, Call, Routine, PathCount, own, own_jump, own_turns, own_choice}
use Rattle.prem_wcet_laws.proofs.Prelude.{term_of, bound_code, first_code, counter_code, turn_of, taken_place, other_place, body_place, behind, called_least, single, apart, least, declared}
use Rattle.prem_wcet_laws.proofs.Prelude.{body_at, own_around, least_function, has_cut, by_cut, front, Edge, no_edge, entry, leaving, passing, landing, next_edge, passage, Begun, counted}
use Rattle.prem_wcet_laws.proofs.Prelude.{begins, opened, called_parted, landing_place, parted, parted_function, Scene}
use Rattle.prem_wcet_laws.proofs.Ordered.{right_of, both_less, turns_less, choice_less, weighted-followed, own_less}
use Rattle.prem_wcet_laws.proofs.Shape.{first_local, first_scalar, first_element, first_output, first_input, first_if, first_for, first_while, first_call}

-- ---- lists of statements

module _ (e : Scene) (calls : ℕ → ℕ) (known : (f : ℕ) → called_least e f ≤ calls (e.parts.callee f)) where
  abbrev W : Pieces → ℕ
  W ps = weighted (job_weight e.plant) calls ps

  abbrev code : ℕ → Steps → Pieces
  code n steps = steps_code e.parts n steps

  own_within : (ps : Pieces) → own e ps ≤ W ps
  own_within ps = own_less (job_weight e.plant) calls ps

  -- one statement, and those behind it
  pub first_then : (a b : ℕ) (whole first rest : Pieces) → whole ≡ followed first rest → a ≤ W first → b ≤ W rest → a + b ≤ W whole
  first_then a b whole first rest is le more =
      let all : W whole ≡ W first + W rest = ap W is ∙ weighted-followed (job_weight e.plant) calls first rest in
      omega (arith, all, le, more)

  single_within : (n at : ℕ) (statement : Steps) → single e n at statement ≤ W (code n statement)
  single_within n at statement = right_of _ _ _ (own_within (code n statement))

  if_code : (n : ℕ) (pl : _) (condition : _) (taken other : Steps) →
      W (code n (If pl condition taken other Done))
      ≡ W (term_of e 10 condition) + (own_choice e (nonzero 10) (code (n + counters_in taken) other) (W (code n taken)) (W (code (n + counters_in taken) other)))
  if_code n pl condition taken other =
      weighted-followed (job_weight e.plant) calls (term_of e 10 condition) (either (nonzero 10) (code n taken) (code (n + counters_in taken) other) no_pieces)
      ∙ nothing (W (term_of e 10 condition)) (own_choice e (nonzero 10) (code (n + counters_in taken) other) (W (code n taken)) (W (code (n + counters_in taken) other))) where
        nothing : (a b : ℕ) → a + (b + 0) ≡ a + b
        nothing a b = omega arith

  pub if_less : (n : ℕ) (pl : _) (condition : _) (taken other : Steps) (x y : ℕ) → x ≤ W (code n taken) → y ≤ W (code (n + counters_in taken) other) →
      own e (term_of e 10 condition) + own_choice e (nonzero 10) (code (n + counters_in taken) other) x y ≤ W (code n (If pl condition taken other Done))
  if_less n pl condition taken other x y le more =
      subst (λ z. own e (term_of e 10 condition) + own_choice e (nonzero 10) (code (n + counters_in taken) other) x y ≤ z) (sym (if_code n pl condition taken other))
      (both_less _ _ _ _ (own_within (term_of e 10 condition))
      (choice_less (job_weight e.plant (branch_of (nonzero 10))) (skip_words (code (n + counters_in taken) other) * own_jump e) (own_jump e) _ _ _ _ le more))

  -- a loop behind some code
  loop_code : (first : Pieces) (turns : ℕ) (head : Pieces) (test : Test) (body : Pieces) →
      W (followed first (repeat turns head test body no_pieces)) ≡ W first + own_turns e turns test (W head) (W body)
  loop_code first turns head test body =
      weighted-followed (job_weight e.plant) calls first (repeat turns head test body no_pieces) ∙ nothing (W first) (own_turns e turns test (W head) (W body)) where
        nothing : (a b : ℕ) → a + (b + 0) ≡ a + b
        nothing a b = omega arith

  pub loop_less : (first : Pieces) (turns : ℕ) (head : Pieces) (test : Test) (body : Pieces) (x : ℕ) → x ≤ W body →
      own e first + own_turns e turns test (own e head) x ≤ W (followed first (repeat turns head test body no_pieces))
  loop_less first turns head test body x le =
      subst (λ z. own e first + own_turns e turns test (own e head) x ≤ z) (sym (loop_code first turns head test body))
      (both_less _ _ _ _ (own_within first) (turns_less turns _ _ (job_weight e.plant (branch_of test)) _ _ (own_jump e) (own_within head) le))

  for_is : (n : ℕ) (pl : _) (k : ℕ) (low : _) (closed : _) (high : _) (step turns : ℕ) (body : Steps) →
      code n (For pl k low closed high step turns body Done)
      ≡ followed (first_code e k low) (repeat turns (bound_code e k high) (bound_test closed) (followed (code n body) (only (step_code k step))) no_pieces)
  for_is n pl k low closed high step turns body =
      sym (Rattle.prem_wcet_laws.proofs.Shape.followed-assoc (term_of e 10 low) (only (store_slot k ∷ []))
      (repeat turns (bound_code e k high) (bound_test closed) (followed (code n body) (only (step_code k step))) no_pieces))

  pub for_less : (n : ℕ) (pl : _) (k : ℕ) (low : _) (closed : _) (high : _) (step turns : ℕ) (body : Steps) (x : ℕ) → x ≤ W (code n body) →
      own e (first_code e k low) + own_turns e turns (bound_test closed) (own e (bound_code e k high)) (x + own e (only (step_code k step))) ≤ W
      (code n (For pl k low closed high step turns body Done))
  for_less n pl k low closed high step turns body x le =
      let inner = followed (code n body) (only (step_code k step)) in
      let more : x + own e (only (step_code k step)) ≤ W inner = first_then _ _ inner (code n body) (only (step_code k step)) refl le (own_within (only (step_code k step))) in
      subst (λ z. own e (first_code e k low) + own_turns e turns (bound_test closed) (own e (bound_code e k high))
      (x + own e (only (step_code k step))) ≤ W z) (sym (for_is n pl k low closed high step turns body))
      (loop_less (first_code e k low) turns (bound_code e k high) (bound_test closed) inner (x + own e (only (step_code k step))) more)

  pub while_less : (n : ℕ) (pl : _) (turns : ℕ) (condition : _) (body : Steps) (x : ℕ) → x ≤ W (code (n + 1) body) →
      own e (counter_code n turns) + own_turns e turns (nonzero 10) (own e (turn_of e n condition)) (own e (only (count_code n)) + x) ≤ W (code n (While pl turns condition body Done))
  while_less n pl turns condition body x le =
      let inner = straight (count_code n) (code (n + 1) body) in
      let more : own e (only (count_code n)) + x ≤ W inner = first_then _ _ inner (only (count_code n)) (code (n + 1) body) refl (own_within (only (count_code n))) le in
      loop_less (counter_code n turns) turns (turn_of e n condition) (nonzero 10) inner (own e (only (count_code n)) + x) more

  pub call_less : (n : ℕ) (pl : _) (target : _) (f : ℕ) (arguments : _) (x : ℕ) → x ≤ calls (e.parts.callee f) →
      own e (argument_code e.parts.target e.parts.global (e.parts.frame f) 0 arguments) + own_jump e + x + own e (target_code target no_pieces) ≤ W (code n (Call pl target f arguments Done))
  call_less n pl target f arguments x le =
      let args = argument_code e.parts.target e.parts.global (e.parts.frame f) 0 arguments in
      let last = target_code target no_pieces in
      sums _ _ _ _ _ _ _ _ (weighted-followed (job_weight e.plant) calls args (call_to (e.parts.link f) (e.parts.callee f) last)) (own_within args) le (own_within last) where
        sums : (a j x t whole a' x' t' : ℕ) → whole ≡ a' + (j + x' + t') → a ≤ a' → x ≤ x' → t ≤ t' → a + j + x + t ≤ whole
        sums a j x t whole a' x' t' is p q r = omega (arith, is, p, q, r)

  pub apart_within : (steps : Steps) (n at : ℕ) → apart e n at steps ≤ W (code n steps)
  apart_within Done n at = omega arith
  apart_within (SetLocal pl k value rest) n at = first_then _ _ _ _ _ (first_local e.parts n pl k value rest) (single_within n at (SetLocal pl k value Done)) (apart_within rest n _)
  apart_within (SetScalar pl g ty value rest) n at = first_then _ _ _ _ _ (first_scalar e.parts n pl g ty value rest) (single_within n at (SetScalar pl g ty value Done)) (apart_within rest n _)
  apart_within (SetElement pl g ty index value rest) n at =
      first_then _ _ _ _ _ (first_element e.parts n pl g ty index value rest) (single_within n at (SetElement pl g ty index value Done)) (apart_within rest n _)
  apart_within (Output pl value rest) n at = first_then _ _ _ _ _ (first_output e.parts n pl value rest) (single_within n at (Output pl value Done)) (apart_within rest n _)
  apart_within (Input pl k rest) n at = first_then _ _ _ (code n (Input pl k Done)) (code n rest) (first_input e.parts n pl k rest) (single_within n at (Input pl k Done)) (apart_within rest n _)
  apart_within (If pl condition taken other rest) n at =
      first_then _ _ _ _ _ (first_if e.parts n pl condition taken other rest)
      (right_of _ _ _ (if_less n pl condition taken other _ _ (right_of _ _ _ (apart_within taken n _)) (right_of _ _ _ (apart_within other (n + counters_in taken) _))))
      (apart_within rest (n + counters_in taken + counters_in other) _)
  apart_within (For pl k low closed high step turns body rest) n at =
      first_then _ _ _ _ _ (first_for e.parts n pl k low closed high step turns body rest)
      (right_of _ _ _ (for_less n pl k low closed high step turns body _ (right_of _ _ _ (apart_within body n _))))
      (apart_within rest (n + counters_in body) _)
  apart_within (While pl turns condition body rest) n at =
      first_then _ _ _ (code n (While pl turns condition body Done)) (code (n + 1 + counters_in body) rest) (first_while e.parts n pl turns condition body rest)
      (right_of _ _ _ (while_less n pl turns condition body _ (right_of _ _ _ (apart_within body (n + 1) _))))
      (apart_within rest (n + 1 + counters_in body) _)
  apart_within (Call pl target f arguments rest) n at =
      first_then _ _ _ _ _ (first_call e.parts n pl target f arguments rest)
      (right_of _ _ _ (call_less n pl target f arguments _ (known f)))
      (apart_within rest n _)

  pub least_within : (steps : Steps) (n at : ℕ) → least e n at steps ≤ W (code n steps)
  least_within steps n at = right_of _ _ _ (apart_within steps n at)

  -- ---- with marked calls

  module _ (cut_known : (f : ℕ) → (called_parted e f).total ≤ calls (e.parts.callee f)) where
    -- what stands before the next marked call, the edge behind it, and what is counted behind that
    abbrev pub Counts : (last : Edge) (n at : ℕ) (steps : Steps) → Type 0
    Counts last n at steps = W (code n (front e steps)) + W (next_edge e last steps).pieces + (parted e counted last n at steps).total ≤ W (code n steps) + W last.pieces

    spared : (o x : ℕ) → o + x ≡ o + (0 + x)
    spared o x = omega arith

    begun_total : (b : Begun) (last : Edge) (n at : ℕ) (steps : Steps) → (parted e b last n at steps).total ≡ opened e b last n steps + (parted e counted last n at steps).total
    begun_total b last n at Done = none (opened e b last n Done) where
      none : (a : ℕ) → a ≡ a + 0
      none a = omega arith
    begun_total b last n at (SetLocal pl k value rest) = spared _ _
    begun_total b last n at (SetScalar pl g ty value rest) = spared _ _
    begun_total b last n at (SetElement pl g ty index value rest) = spared _ _
    begun_total b last n at (Output pl value rest) = spared _ _
    begun_total b last n at (Input pl k rest) = spared _ _
    begun_total b last n at (If pl condition taken other rest) = spared _ _
    begun_total b last n at (For pl k low closed high step turns body rest) = spared _ _
    begun_total b last n at (While pl turns condition body rest) = spared _ _
    begun_total b last n at (Call pl target f arguments rest) = spared _ _

    -- where a passage begins
    pub fresh_of : (from : ℕ) (before last : Edge) (n at : ℕ) (steps : Steps) → Counts last n at steps →
        (parted e (begins from before) last n at steps).total ≤ W before.pieces + (W (code n steps) + W last.pieces)
    fresh_of from before last n at steps h =
        let first = front e steps in
        let edge = next_edge e last steps in
        let apart_less : passage e n from before first edge ≤ W before.pieces + W (code n first) + W edge.pieces =
        right_of _ _ _ (both_less _ _ _ _ (both_less _ _ _ _ (own_within before.pieces) (least_within first n (from + size_of before.pieces))) (own_within edge.pieces)) in
        sum (W (code n first)) (W edge.pieces) _ _ _ _ _ (begun_total (begins from before) last n at steps) apart_less h where
          sum : (f d all o b p r : ℕ) → all ≡ o + p → o ≤ b + f + d → f + d + p ≤ r → all ≤ b + r
          sum f d all o b p r is le more = omega (arith, is, le, more)

    quiet_within : (last edge : ℕ) (p : ℕ) (whole one rest begin first : Pieces) → whole ≡ followed one rest → begin ≡ followed one first →
        W first + edge + p ≤ W rest + last → W begin + edge + (0 + p) ≤ W whole + last
    quiet_within last edge p whole one rest begin first is starts h =
        let all : W whole ≡ W one + W rest = ap W is ∙ weighted-followed (job_weight e.plant) calls one rest in
        let some : W begin ≡ W one + W first = ap W starts ∙ weighted-followed (job_weight e.plant) calls one first in
        omega (arith, all, some, h)

    -- a statement that may have a marked call in it
    either_way : (b : Bool) (n : ℕ) (first : Steps) (cut_edge edge last : Edge) (whole one rest behind_ : Pieces) (x y : PathCount) →
        whole ≡ followed one rest → code n first ≡ followed one behind_ → W cut_edge.pieces + x.total ≤ W whole + W last.pieces →
        W behind_ + W edge.pieces + y.total ≤ W rest + W last.pieces → W (code n (by_cut b Done first)) + W (by_cut b cut_edge edge).pieces + (0 + (by_cut b x y).total) ≤ W whole + W last.pieces
    either_way true n first cut_edge edge last whole one rest behind_ x y is starts cut quiet_ = omega (arith, cut)
    either_way false n first cut_edge edge last whole one rest behind_ x y is starts cut quiet_ =
        quiet_within (W last.pieces) (W edge.pieces) y.total whole one rest (code n first) behind_ is starts quiet_

    cut_then : (c p l : ℕ) (whole one rest : Pieces) → whole ≡ followed one rest → c ≤ W one → p ≤ 0 + (W rest + l) → 0 + (c + p) ≤ W whole + l
    cut_then c p l whole one rest is le more =
        let all : W whole ≡ W one + W rest = ap W is ∙ weighted-followed (job_weight e.plant) calls one rest in
        omega (arith, all, le, more)

    inner_less : (a b : ℕ) → a ≤ 0 + (b + 0) → a ≤ b
    inner_less a b h = omega (arith, h)

    turn_total : (n h b y j : ℕ) → n * (h + b + (y + j)) + (h + b + j) ≡ n * (h + b + y + j) + (h + b + j)
    turn_total n h b y j = let e : h + b + (y + j) ≡ h + b + y + j = omega arith in ap (λ z. n * z + (h + b + j)) e

    pub counts : (steps : Steps) (last : Edge) (n at : ℕ) → Counts last n at steps
    counts Done last n at = omega arith
    counts (SetLocal pl k value rest) last n at =
        quiet_within _ _ _ (code n (SetLocal pl k value rest)) (code n (SetLocal pl k value Done)) (code n rest)
        (code n (SetLocal pl k value (front e rest))) (code n (front e rest)) (first_local e.parts n pl k value rest)
        (first_local e.parts n pl k value (front e rest)) (counts rest last n (behind e n at (SetLocal pl k value Done)))
    counts (SetScalar pl g ty value rest) last n at =
        quiet_within _ _ _ (code n (SetScalar pl g ty value rest)) (code n (SetScalar pl g ty value Done)) (code n rest)
        (code n (SetScalar pl g ty value (front e rest))) (code n (front e rest)) (first_scalar e.parts n pl g ty value rest)
        (first_scalar e.parts n pl g ty value (front e rest)) (counts rest last n (behind e n at (SetScalar pl g ty value Done)))
    counts (SetElement pl g ty index value rest) last n at =
        quiet_within _ _ _ (code n (SetElement pl g ty index value rest)) (code n (SetElement pl g ty index value Done)) (code n rest)
        (code n (SetElement pl g ty index value (front e rest))) (code n (front e rest)) (first_element e.parts n pl g ty index value rest)
        (first_element e.parts n pl g ty index value (front e rest)) (counts rest last n (behind e n at (SetElement pl g ty index value Done)))
    counts (Output pl value rest) last n at =
        quiet_within _ _ _ (code n (Output pl value rest)) (code n (Output pl value Done)) (code n rest) (code n (Output pl value (front e rest)))
        (code n (front e rest)) (first_output e.parts n pl value rest) (first_output e.parts n pl value (front e rest))
        (counts rest last n (behind e n at (Output pl value Done)))
    counts (Input pl k rest) last n at =
        quiet_within _ _ _ (code n (Input pl k rest)) (code n (Input pl k Done)) (code n rest) (code n (Input pl k (front e rest)))
        (code n (front e rest)) (first_input e.parts n pl k rest) (first_input e.parts n pl k (front e rest))
        (counts rest last n (behind e n at (Input pl k Done)))
    counts (If pl condition taken other rest) last n at =
        let n2 = n + counters_in taken + counters_in other in
        let next = behind e n at (If pl condition taken other Done) in
        let c = counts rest last n2 next in
        let at1 = taken_place at (term_of e 10 condition) in
        let at2 = other_place at (term_of e 10 condition) (code n taken) (code (n + counters_in taken) other) in
        either_way (has_cut e (If pl condition taken other Done)) n (If pl condition taken other (front e rest)) no_edge (next_edge e last rest) last
        (code n (If pl condition taken other rest)) (code n (If pl condition taken other Done)) (code n2 rest) (code n2 (front e rest)) _ _
        (first_if e.parts n pl condition taken other rest) (first_if e.parts n pl condition taken other (front e rest))
        (cut_then _ _ (W last.pieces) (code n (If pl condition taken other rest)) (code n (If pl condition taken other Done)) (code n2 rest) (first_if e.parts n pl condition taken other rest)
        (if_less n pl condition taken other _ _ (inner_less _ _ (fresh_of at1 no_edge no_edge n at1 taken (counts taken no_edge n at1)))
        (inner_less _ _ (fresh_of at2 no_edge no_edge (n + counters_in taken) at2 other (counts other no_edge (n + counters_in taken) at2))))
        (fresh_of next no_edge last n2 next rest c))
        c
    counts (For pl k low closed high step turns body rest) last n at =
        let n2 = n + counters_in body in
        let next = behind e n at (For pl k low closed high step turns body Done) in
        let c = counts rest last n2 next in
        let at1 = body_place at (first_code e k low) (bound_code e k high) in
        either_way (has_cut e (For pl k low closed high step turns body Done)) n (For pl k low closed high step turns body (front e rest)) no_edge
        (next_edge e last rest) last (code n (For pl k low closed high step turns body rest))
        (code n (For pl k low closed high step turns body Done)) (code n2 rest) (code n2 (front e rest)) _ _
        (first_for e.parts n pl k low closed high step turns body rest) (first_for e.parts n pl k low closed high step turns body (front e rest))
        (cut_then _ _ (W last.pieces) (code n (For pl k low closed high step turns body rest))
        (code n (For pl k low closed high step turns body Done)) (code n2 rest) (first_for e.parts n pl k low closed high step turns body rest)
        (subst (λ z. own e (first_code e k low) + z ≤ W (code n (For pl k low closed high step turns body Done)))
        (sym (turn_total turns (own e (bound_code e k high)) (job_weight e.plant (branch_of (bound_test closed))) _ (own_jump e)))
        (for_less n pl k low closed high step turns body _ (inner_less _ _ (fresh_of at1 no_edge no_edge n at1 body (counts body no_edge n at1)))))
        (fresh_of next no_edge last n2 next rest c))
        c
    counts (While pl turns condition body rest) last n at =
        let n2 = n + 1 + counters_in body in
        let next = behind e n at (While pl turns condition body Done) in
        let c = counts rest last n2 next in
        let at1 = body_place at (counter_code n turns) (turn_of e n condition) + 12 in
        either_way (has_cut e (While pl turns condition body Done)) n (While pl turns condition body (front e rest)) no_edge (next_edge e last rest)
        last (code n (While pl turns condition body rest)) (code n (While pl turns condition body Done)) (code n2 rest) (code n2 (front e rest)) _ _
        (first_while e.parts n pl turns condition body rest) (first_while e.parts n pl turns condition body (front e rest))
        (cut_then _ _ (W last.pieces) (code n (While pl turns condition body rest)) (code n (While pl turns condition body Done)) (code n2 rest) (first_while e.parts n pl turns condition body rest)
        (subst (λ z. own e (counter_code n turns) + z ≤ W (code n (While pl turns condition body Done)))
        (sym (turn_total turns (own e (turn_of e n condition)) (job_weight e.plant (branch_of (nonzero 10))) _ (own_jump e)))
        (while_less n pl turns condition body _ (inner_less _ _ (fresh_of at1 no_edge no_edge (n + 1) at1 body (counts body no_edge (n + 1) at1)))))
        (fresh_of next no_edge last n2 next rest c))
        c
    counts (Call pl target f arguments rest) last n at =
        let next = behind e n at (Call pl target f arguments Done) in
        let c = counts rest last n next in
        either_way (has_cut e (Call pl target f arguments Done)) n (Call pl target f arguments (front e rest)) (passing e f arguments)
        (next_edge e last rest) last (code n (Call pl target f arguments rest)) (code n (Call pl target f arguments Done)) (code n rest)
        (code n (front e rest)) _ _
        (first_call e.parts n pl target f arguments rest) (first_call e.parts n pl target f arguments (front e rest))
        (call_then n pl target f arguments rest (W last.pieces) _ (fresh_of (landing_place e at f arguments) (landing target) last n next rest c))
        c where
          call_then : (n : ℕ) (pl : _) (target : _) (f : ℕ) (arguments : _) (rest : Steps) (l p : ℕ) → p ≤ W (target_code target no_pieces) + (W (code n rest) + l) →
              W (argument_code e.parts.target e.parts.global (e.parts.frame f) 0 arguments) + (own_jump e + (called_parted e f).total + p) ≤ W (code n (Call pl target f arguments rest)) + l
          call_then n pl target f arguments rest l p le =
              let args = argument_code e.parts.target e.parts.global (e.parts.frame f) 0 arguments in
              let land = target_code target no_pieces in
              let call = call_to (e.parts.link f) (e.parts.callee f) land in
              let all : W (code n (Call pl target f arguments rest)) ≡ W (code n (Call pl target f arguments Done)) + W (code n rest) =
              ap W (first_call e.parts n pl target f arguments rest) ∙ weighted-followed (job_weight e.plant) calls (code n (Call pl target f arguments Done)) (code n rest) in
              sums _ _ _ _ _ _ _ _ _ all (weighted-followed (job_weight e.plant) calls args call) (cut_known f) le where
                sums : (w one r a j x x' t p : ℕ) → w ≡ one + r → one ≡ a + (j + x' + t) → x ≤ x' → p ≤ t + (r + l) → a + (j + x + p) ≤ w + l
                sums w one r a j x x' t p is one_is h k = omega (arith, is, one_is, h, k)

  -- ---- functions

  function_less : (f : Routine) (x : ℕ) → x ≤ W (code (locals_of f) f.body) → own_around e f + x ≤ W (function_code e.parts f)
  function_less f x le =
      let a = declared e f in
      let b = code (locals_of f) f.body in
      let c = result_code e.parts.target e.parts.global f.result in
      let d = only (closing (frame_of f)) in
      sums _ _ _ _ _ _ _ _ _ _ _ _
      (weighted-followed (job_weight e.plant) calls a (followed b (followed c d))) (weighted-followed (job_weight e.plant) calls b (followed c d)) (weighted-followed (job_weight e.plant) calls c d)
      (own_within a) le (own_within c) (own_within d) where
        sums : (o a x c d a' x' c' d' w1 w2 w3 : ℕ) → w1 ≡ a' + w2 → w2 ≡ x' + w3 → w3 ≡ c' + d' → a ≤ a' → x ≤ x' → c ≤ c' → d ≤ d' → ((o + 0) + a) + (c + d) + x ≤ o + w1
        sums o a x c d a' x' c' d' w1 w2 w3 p q r h k l m = omega (arith, p, q, r, h, k, l, m)

  pub least_function_within : (f : Routine) (at : ℕ) → least_function e f at ≤ W (function_code e.parts f)
  least_function_within f at = right_of _ _ _ (function_less f _ (least_within f.body (locals_of f) (body_at e f at)))

  pub parted_function_within : ((f : ℕ) → (called_parted e f).total ≤ calls (e.parts.callee f)) → (f : Routine) (at : ℕ) → (parted_function e f at).total ≤ W (function_code e.parts f)
  parted_function_within cut_known f at =
      let at1 = at + size_of (entry e f).pieces in
      let b = code (locals_of f) f.body in
      sum _ _ _ _ _ _
      (weighted-followed (job_weight e.plant) calls (entry e f).pieces (followed b (leaving e f).pieces)) (weighted-followed (job_weight e.plant) calls b (leaving e f).pieces)
      (fresh_of cut_known at (entry e f) (leaving e f) (locals_of f) at1 f.body (counts cut_known f.body (leaving e f) (locals_of f) at1)) where
        sum : (p w a v b c : ℕ) → w ≡ a + v → v ≡ b + c → p ≤ a + (b + c) → p ≤ w
        sum p w a v b c is more le = omega (arith, is, more, le)
