-- The four sums of parted statements are within those of their code.
use Rattle.std.proofs.Common.{◌≡◌, ℕ, ◌+◌, ◌*◌, ◌≤◌, min, arith, subst, sym, refl, ap, ◌∙◌, true, false, Bool, List, [], ◌∷◌, ◌++◌, length}
use Rattle.prem_wcet_laws.proofs.Prelude.{Pieces, no_pieces, straight, either, repeat, call_to, followed, branch_of, skip_words, size_of, Test, chained_assoc, none_taken, within_same}
use Rattle.prem_wcet_laws.proofs.Prelude.{within_then, chained_within, job_weight, Sums, taking, chained, turned, summed, IsWithin, among, counters_in, locals_of, frame_of, store_slot}
use Rattle.prem_wcet_laws.proofs.Prelude.{bound_test, step_code, count_code, argument_code, target_code, steps_code, opening, closing, result_code, function_code, only, nonzero, callees_in}
use Rattle.prem_wcet_laws.proofs.Prelude.{Term, Steps, Done, SetLocal, SetScalar, SetElement, Output, Input, If, For, While, Call, Routine, PathCount, own, own_jump, own_turns, own_choice}
use Rattle.prem_wcet_laws.proofs.Prelude.{term_of, bound_code, first_code, counter_code, turn_of, taken_place, other_place, body_place, behind, called_least, single, apart, least, declared}
use Rattle.prem_wcet_laws.proofs.Prelude.{body_at, own_before, own_behind, least_function, cuts, has_cut, front, by_cut, Edge, no_edge, entry, leaving, passing, landing, next_edge}
use Rattle.prem_wcet_laws.proofs.Prelude.{passage_apart, Begun, counted, begins, opened, called_parted, landing_place, parted, parted_function, Scene}
use Rattle.prem_wcet_laws.proofs.Calls.{EachCall, term_calls, arguments_call, target_calls, declared_call, result_calls, joined}
use Rattle.prem_wcet_laws.proofs.Counting.{none_behind}
use Rattle.prem_wcet_laws.proofs.NoCuts.{none_first, none_second, none_left, none_right, none_loop, none_choice}
use Rattle.prem_wcet_laws.proofs.Ordered.{right_of}
use Rattle.prem_wcet_laws.proofs.Shape.{followed-assoc, first_local, first_scalar, first_element, first_output, first_input, first_if, first_for, first_while, first_call}
use Rattle.prem_wcet_laws.proofs.Within.{among_within, turned_within, taken_both, taken_less, taken_choice, taken_loop, summed-followed, taken_pieces}

-- of a choice, and of a loop
abbrev choice_sums : Scene → Test → (other_code : Pieces) → (taken other : Sums) → Sums
choice_sums e test other_code taken other =
    chained (taking (job_weight e.plant (branch_of test)))
    (among (chained taken (taking (skip_words other_code * own_jump e))) (chained (taking (own_jump e)) other))

abbrev turn_sums : Scene → (turns : ℕ) → Test → (head : ℕ) → (body : Sums) → Sums
turn_sums e turns test head body =
    turned turns (chained (taking (head + job_weight e.plant (branch_of test))) (chained body (taking (own_jump e)))) (taking (head + job_weight e.plant (branch_of test) + own_jump e))

-- ---- lists of statements

module _ (e : Scene) (sums : ℕ → Sums) (quiet_known : (f : ℕ) → cuts e f ≡ false → IsWithin (taking (called_least e f)) (sums (e.parts.callee f))) where
  abbrev S : Pieces → Sums
  S ps = summed (job_weight e.plant) sums ps

  abbrev code : ℕ → Steps → Pieces
  code n steps = steps_code e.parts n steps

  abbrev NoCalls : Pieces → Type 0
  NoCalls ps = EachCall (λ part. IsWithin (taking 0) (sums part)) ps

  own_sums : (ps : Pieces) → NoCalls ps → IsWithin (taking (own e ps)) (S ps)
  own_sums ps h = taken_pieces (job_weight e.plant) sums (λ part. 0) ps h

  term_none : (r : ℕ) (x : _) → NoCalls (term_of e r x)
  term_none r x = term_calls (λ part. IsWithin (taking 0) (sums part)) e.parts.target e.parts.global r x

  behind_none : (p q : Pieces) → NoCalls p → NoCalls q → NoCalls (followed p q)
  behind_none p q h k = joined (λ part. IsWithin (taking 0) (sums part)) p q h k

  -- pieces behind others
  S-behind : (whole first rest : Pieces) → whole ≡ followed first rest → S whole ≡ chained (S first) (S rest)
  S-behind whole first rest is = ap S is ∙ summed-followed (job_weight e.plant) sums first rest

  taken_then : (a b : ℕ) (whole first rest : Pieces) → whole ≡ followed first rest → IsWithin (taking a) (S first) → IsWithin (taking b) (S rest) → IsWithin (taking (a + b)) (S whole)
  taken_then a b whole first rest is h k = subst (λ z. IsWithin (taking (a + b)) z) (sym (S-behind whole first rest is)) (taken_both a b (S first) (S rest) h k)

  both_then : (x y : Sums) (whole first rest : Pieces) → whole ≡ followed first rest → IsWithin x (S first) → IsWithin y (S rest) → IsWithin (chained x y) (S whole)
  both_then x y whole first rest is h k = subst (λ z. IsWithin (chained x y) z) (sym (S-behind whole first rest is)) (chained_within x y (S first) (S rest) h k)

  smaller : (a b : ℕ) (x : Sums) → IsWithin (taking b) x → IsWithin (taking (min a b)) x
  smaller a b x h = taken_less (min a b) b x (right_of a b b (omega arith)) h

  single_sums : (n at : ℕ) (statement : Steps) → NoCalls (code n statement) → IsWithin (taking (single e n at statement)) (S (code n statement))
  single_sums n at statement none = smaller _ _ _ (own_sums (code n statement) none)

  -- ---- the parts of statements

  if_is : (n : ℕ) (pl : _) (condition : _) (taken other : Steps) →
      S (code n (If pl condition taken other Done))
      ≡ chained (S (term_of e 10 condition))
      (choice_sums e (nonzero 10) (code (n + counters_in taken) other) (S (code n taken)) (S (code (n + counters_in taken) other)))
  if_is n pl condition taken other =
      summed-followed (job_weight e.plant) sums (term_of e 10 condition) (either (nonzero 10) (code n taken) (code (n + counters_in taken) other) no_pieces)
      ∙ ap (λ z. chained (S (term_of e 10 condition)) (chained (taking (job_weight e.plant (branch_of (nonzero 10)))) z)) (last _) where
        last : (x : Sums) → chained x (taking 0) ≡ x
        last x = none_behind x

  if_sums : (n : ℕ) (pl : _) (condition : _) (taken other : Steps) (x y : Sums) → IsWithin x (S (code n taken)) → IsWithin y (S (code (n + counters_in taken) other)) →
      IsWithin (chained (taking (own e (term_of e 10 condition))) (choice_sums e (nonzero 10) (code (n + counters_in taken) other) x y)) (S (code n (If pl condition taken other Done)))
  if_sums n pl condition taken other x y h k =
      subst (λ z. IsWithin (chained (taking (own e (term_of e 10 condition))) (choice_sums e (nonzero 10) (code (n + counters_in taken) other) x y)) z) (sym (if_is n pl condition taken other))
      (chained_within _ _ _ _ (own_sums (term_of e 10 condition) (term_none 10 condition))
      (chained_within _ _ _ _ (within_same (taking (job_weight e.plant (branch_of (nonzero 10)))))
      (among_within _ _ _ _ (chained_within _ _ _ _ h (within_same (taking (skip_words (code (n + counters_in taken) other) * own_jump e))))
      (chained_within _ _ _ _ (within_same (taking (own_jump e))) k))))

  if_taken : (n : ℕ) (pl : _) (condition : _) (taken other : Steps) (x y : ℕ) → IsWithin (taking x) (S (code n taken)) → IsWithin (taking y) (S (code (n + counters_in taken) other)) →
      IsWithin (taking (own e (term_of e 10 condition) + own_choice e (nonzero 10) (code (n + counters_in taken) other) x y)) (S (code n (If pl condition taken other Done)))
  if_taken n pl condition taken other x y h k =
      subst (λ z. IsWithin (taking (own e (term_of e 10 condition) + own_choice e (nonzero 10) (code (n + counters_in taken) other) x y)) z) (sym (if_is n pl condition taken other))
      (taken_both _ _ _ _ (own_sums (term_of e 10 condition) (term_none 10 condition))
      (taken_choice (job_weight e.plant (branch_of (nonzero 10))) (skip_words (code (n + counters_in taken) other) * own_jump e) (own_jump e) x y _ _ h k))

  -- a loop behind some code
  abbrev turning : (turns : ℕ) (test : Test) (head body : Sums) → Sums
  turning turns test head body =
      turned turns (chained head (chained (taking (job_weight e.plant (branch_of test))) (chained body (taking (own_jump e)))))
      (chained head (taking (job_weight e.plant (branch_of test) + own_jump e)))

  loop_is : (first : Pieces) (turns : ℕ) (head : Pieces) (test : Test) (body : Pieces) →
      S (followed first (repeat turns head test body no_pieces)) ≡ chained (S first) (turning turns test (S head) (S body))
  loop_is first turns head test body =
      summed-followed (job_weight e.plant) sums first (repeat turns head test body no_pieces) ∙ ap (chained (S first)) (none_behind (turning turns test (S head) (S body)))

  loop_sums : (first : Pieces) (turns : ℕ) (head : Pieces) (test : Test) (body : Pieces) (x : Sums) → NoCalls first → NoCalls head → IsWithin x (S body) →
      IsWithin (chained (taking (own e first)) (turn_sums e turns test (own e head) x)) (S (followed first (repeat turns head test body no_pieces)))
  loop_sums first turns head test body x none empty h =
      subst (λ z. IsWithin (chained (taking (own e first)) (turn_sums e turns test (own e head) x)) z) (sym (loop_is first turns head test body))
      (chained_within _ _ _ _ (own_sums first none)
      (turned_within turns _ _ _ _
      (subst (λ z. IsWithin z (chained (S head) (chained (taking (job_weight e.plant (branch_of test))) (chained (S body) (taking (own_jump e))))))
      (sym (chained_assoc (taking (own e head)) (taking (job_weight e.plant (branch_of test))) (chained x (taking (own_jump e)))))
      (chained_within _ _ _ _ (own_sums head empty)
      (chained_within _ _ _ _ (within_same (taking (job_weight e.plant (branch_of test)))) (chained_within _ _ _ _ h (within_same (taking (own_jump e)))))))
      (taken_less _ (own e head + (job_weight e.plant (branch_of test) + own_jump e)) _ (omega arith)
      (taken_both _ _ _ _ (own_sums head empty) (within_same (taking (job_weight e.plant (branch_of test) + own_jump e)))))))

  loop_taken : (first : Pieces) (turns : ℕ) (head : Pieces) (test : Test) (body : Pieces) (x : ℕ) → NoCalls first → NoCalls head → IsWithin (taking x) (S body) →
      IsWithin (taking (own e first + own_turns e turns test (own e head) x)) (S (followed first (repeat turns head test body no_pieces)))
  loop_taken first turns head test body x none empty h =
      subst (λ z. IsWithin (taking (own e first + own_turns e turns test (own e head) x)) z) (sym (loop_is first turns head test body))
      (taken_both _ _ _ _ (own_sums first none) (taken_loop turns _ (job_weight e.plant (branch_of test)) _ (own_jump e) _ _ (own_sums head empty) h))

  for_is : (n : ℕ) (pl : _) (k : ℕ) (low : _) (closed : _) (high : _) (step turns : ℕ) (body : Steps) →
      code n (For pl k low closed high step turns body Done)
      ≡ followed (first_code e k low) (repeat turns (bound_code e k high) (bound_test closed) (followed (code n body) (only (step_code k step))) no_pieces)
  for_is n pl k low closed high step turns body =
      sym (followed-assoc (term_of e 10 low) (only (store_slot k ∷ [])) (repeat turns (bound_code e k high) (bound_test closed) (followed (code n body) (only (step_code k step))) no_pieces))

  first_none : (k : ℕ) (low : _) → NoCalls (first_code e k low)
  first_none k low = behind_none (term_of e 10 low) (only (store_slot k ∷ [])) (term_none 10 low) tt

  bound_none : (k : ℕ) (high : _) → NoCalls (bound_code e k high)
  bound_none k high = term_none 11 high

  turn_none : (n : ℕ) (condition : _) → NoCalls (turn_of e n condition)
  turn_none n condition = (behind_none (term_of e 10 condition) _ (term_none 10 condition) tt, tt, tt)

  for_sums : (n : ℕ) (pl : _) (k : ℕ) (low : _) (closed : _) (high : _) (step turns : ℕ) (body : Steps) (x : Sums) → IsWithin x (S (code n body)) →
      IsWithin (chained (taking (own e (first_code e k low))) (turn_sums e turns (bound_test closed) (own e (bound_code e k high)) (chained x (taking (own e (only (step_code k step)))))))
      (S (code n (For pl k low closed high step turns body Done)))
  for_sums n pl k low closed high step turns body x h =
      subst (λ z. IsWithin (chained (taking (own e (first_code e k low)))
      (turn_sums e turns (bound_test closed) (own e (bound_code e k high)) (chained x (taking (own e (only (step_code k step))))))) (S z))
      (sym (for_is n pl k low closed high step turns body))
      (loop_sums (first_code e k low) turns (bound_code e k high) (bound_test closed) (followed (code n body) (only (step_code k step))) _ (first_none k low) (bound_none k high)
      (both_then _ _ (followed (code n body) (only (step_code k step))) (code n body) (only (step_code k step)) refl h (own_sums (only (step_code k step)) tt)))

  for_taken : (n : ℕ) (pl : _) (k : ℕ) (low : _) (closed : _) (high : _) (step turns : ℕ) (body : Steps) (x : ℕ) → IsWithin (taking x) (S (code n body)) →
      IsWithin (taking (own e (first_code e k low) + own_turns e turns (bound_test closed) (own e (bound_code e k high))
      (x + own e (only (step_code k step))))) (S (code n (For pl k low closed high step turns body Done)))
  for_taken n pl k low closed high step turns body x h =
      subst (λ z. IsWithin (taking (own e (first_code e k low) + own_turns e turns (bound_test closed) (own e (bound_code e k high))
      (x + own e (only (step_code k step))))) (S z)) (sym (for_is n pl k low closed high step turns body))
      (loop_taken (first_code e k low) turns (bound_code e k high) (bound_test closed) (followed (code n body) (only (step_code k step))) _ (first_none k low) (bound_none k high)
      (taken_then _ _ (followed (code n body) (only (step_code k step))) (code n body) (only (step_code k step)) refl h (own_sums (only (step_code k step)) tt)))

  while_sums : (n : ℕ) (pl : _) (turns : ℕ) (condition : _) (body : Steps) (x : Sums) → IsWithin x (S (code (n + 1) body)) →
      IsWithin (chained (taking (own e (counter_code n turns)))
      (turn_sums e turns (nonzero 10) (own e (turn_of e n condition)) (chained (taking (own e (only (count_code n)))) x)))
      (S (code n (While pl turns condition body Done)))
  while_sums n pl turns condition body x h =
      loop_sums (counter_code n turns) turns (turn_of e n condition) (nonzero 10) (straight (count_code n) (code (n + 1) body)) _ tt (turn_none n condition)
      (both_then _ _ (straight (count_code n) (code (n + 1) body)) (only (count_code n)) (code (n + 1) body) refl (own_sums (only (count_code n)) tt) h)

  while_taken : (n : ℕ) (pl : _) (turns : ℕ) (condition : _) (body : Steps) (x : ℕ) → IsWithin (taking x) (S (code (n + 1) body)) →
      IsWithin (taking (own e (counter_code n turns) + own_turns e turns (nonzero 10) (own e (turn_of e n condition))
      (own e (only (count_code n)) + x))) (S (code n (While pl turns condition body Done)))
  while_taken n pl turns condition body x h =
      loop_taken (counter_code n turns) turns (turn_of e n condition) (nonzero 10) (straight (count_code n) (code (n + 1) body)) _ tt (turn_none n condition)
      (taken_then _ _ (straight (count_code n) (code (n + 1) body)) (only (count_code n)) (code (n + 1) body) refl (own_sums (only (count_code n)) tt) h)

  abbrev args : (f : ℕ) (arguments : List Term) → Pieces
  args f arguments = argument_code e.parts.target e.parts.global (e.parts.frame f) 0 arguments

  args_none : (f : ℕ) (arguments : _) → NoCalls (args f arguments)
  args_none f arguments = arguments_call (λ part. IsWithin (taking 0) (sums part)) e.parts.target e.parts.global (e.parts.frame f) 0 arguments

  target_none : (target : _) → NoCalls (target_code target no_pieces)
  target_none target = target_calls (λ part. IsWithin (taking 0) (sums part)) target

  call_is : (n : ℕ) (pl : _) (target : _) (f : ℕ) (arguments : _) →
      S (code n (Call pl target f arguments Done)) ≡ chained (S (args f arguments)) (chained (taking (own_jump e)) (chained (sums (e.parts.callee f)) (S (target_code target no_pieces))))
  call_is n pl target f arguments = summed-followed (job_weight e.plant) sums (args f arguments) (call_to (e.parts.link f) (e.parts.callee f) (target_code target no_pieces))

  call_sums : (n : ℕ) (pl : _) (target : _) (f : ℕ) (arguments : _) (x : Sums) → IsWithin x (sums (e.parts.callee f)) →
      IsWithin (chained (taking (own e (args f arguments) + own_jump e)) (chained x (taking (own e (target_code target no_pieces))))) (S (code n (Call pl target f arguments Done)))
  call_sums n pl target f arguments x h =
      subst (λ z. IsWithin (chained (taking (own e (args f arguments) + own_jump e)) (chained x (taking (own e (target_code target no_pieces))))) z)
      (chained_assoc (S (args f arguments)) (taking (own_jump e)) (chained (sums (e.parts.callee f)) (S (target_code target no_pieces))) ∙ sym (call_is n pl target f arguments))
      (chained_within _ _ _ _ (taken_both _ _ _ _ (own_sums (args f arguments) (args_none f arguments)) (within_same (taking (own_jump e))))
      (chained_within _ _ _ _ h (own_sums (target_code target no_pieces) (target_none target))))

  call_taken : (n : ℕ) (pl : _) (target : _) (f : ℕ) (arguments : _) (x : ℕ) → IsWithin (taking x) (sums (e.parts.callee f)) →
      IsWithin (taking (own e (args f arguments) + own_jump e + x + own e (target_code target no_pieces))) (S (code n (Call pl target f arguments Done)))
  call_taken n pl target f arguments x h =
      taken_less _ (own e (args f arguments) + own_jump e + (x + own e (target_code target no_pieces))) _ (omega arith) (call_sums n pl target f arguments (taking x) h)

  -- ---- without marked calls

  pub apart_sums : (steps : Steps) (n at : ℕ) → has_cut e steps ≡ false → IsWithin (taking (apart e n at steps)) (S (code n steps))
  apart_sums Done n at none = within_same (taking 0)
  apart_sums (SetLocal pl k value rest) n at none =
      taken_then _ _ (code n (SetLocal pl k value rest)) (code n (SetLocal pl k value Done)) (code n rest) (first_local e.parts n pl k value rest)
      (single_sums n at (SetLocal pl k value Done) (behind_none (term_of e 10 value) _ (term_none 10 value) tt)) (apart_sums rest n _ none)
  apart_sums (SetScalar pl g ty value rest) n at none =
      taken_then _ _ (code n (SetScalar pl g ty value rest)) (code n (SetScalar pl g ty value Done)) (code n rest)
      (first_scalar e.parts n pl g ty value rest)
      (single_sums n at (SetScalar pl g ty value Done) (behind_none (term_of e 10 value) _ (term_none 10 value) tt)) (apart_sums rest n _ none)
  apart_sums (SetElement pl g ty index value rest) n at none =
      taken_then _ _ (code n (SetElement pl g ty index value rest)) (code n (SetElement pl g ty index value Done)) (code n rest)
      (first_element e.parts n pl g ty index value rest)
      (single_sums n at (SetElement pl g ty index value Done)
      (behind_none (term_of e 10 value) _ (term_none 10 value) (behind_none (term_of e 11 index) _ (term_none 11 index) tt))) (apart_sums rest n _ none)
  apart_sums (Output pl value rest) n at none =
      taken_then _ _ (code n (Output pl value rest)) (code n (Output pl value Done)) (code n rest) (first_output e.parts n pl value rest)
      (single_sums n at (Output pl value Done) (behind_none (term_of e 10 value) _ (term_none 10 value) tt)) (apart_sums rest n _ none)
  apart_sums (Input pl k rest) n at none =
      taken_then _ _ (code n (Input pl k rest)) (code n (Input pl k Done)) (code n rest) (first_input e.parts n pl k rest) (single_sums n at (Input pl k Done) (tt)) (apart_sums rest n _ none)
  apart_sums (If pl condition taken other rest) n at none =
      let a = callees_in taken in
      let b = callees_in other in
      let c = callees_in rest in
      let more = none_right (cuts e) a (b ++ c) none in
      taken_then _ _ (code n (If pl condition taken other rest)) (code n (If pl condition taken other Done))
      (code (n + counters_in taken + counters_in other) rest) (first_if e.parts n pl condition taken other rest)
      (smaller _ _ _ (if_taken n pl condition taken other _ _ (smaller _ _ _ (apart_sums taken n _ (none_left (cuts e) a (b ++ c) none)))
      (smaller _ _ _ (apart_sums other (n + counters_in taken) _ (none_left (cuts e) b c more)))))
      (apart_sums rest (n + counters_in taken + counters_in other) _ (none_right (cuts e) b c more))
  apart_sums (For pl k low closed high step turns body rest) n at none =
      taken_then _ _ (code n (For pl k low closed high step turns body rest)) (code n (For pl k low closed high step turns body Done))
      (code (n + counters_in body) rest) (first_for e.parts n pl k low closed high step turns body rest)
      (smaller _ _ _ (for_taken n pl k low closed high step turns body _ (smaller _ _ _ (apart_sums body n _ (none_left (cuts e) (callees_in body) (callees_in rest) none)))))
      (apart_sums rest (n + counters_in body) _ (none_right (cuts e) (callees_in body) (callees_in rest) none))
  apart_sums (While pl turns condition body rest) n at none =
      taken_then _ _ (code n (While pl turns condition body rest)) (code n (While pl turns condition body Done))
      (code (n + 1 + counters_in body) rest) (first_while e.parts n pl turns condition body rest)
      (smaller _ _ _ (while_taken n pl turns condition body _ (smaller _ _ _ (apart_sums body (n + 1) _ (none_left (cuts e) (callees_in body) (callees_in rest) none)))))
      (apart_sums rest (n + 1 + counters_in body) _ (none_right (cuts e) (callees_in body) (callees_in rest) none))
  apart_sums (Call pl target f arguments rest) n at none =
      taken_then _ _ (code n (Call pl target f arguments rest)) (code n (Call pl target f arguments Done)) (code n rest) (first_call e.parts n pl target f arguments rest)
      (smaller _ _ _ (call_taken n pl target f arguments _ (quiet_known f (none_first _ _ none))))
      (apart_sums rest n _ (none_second _ _ none))

  -- ---- with them

  by_cases : (b : Bool) (first : Steps) → (b ≡ false → has_cut e first ≡ false) → has_cut e (by_cut b Done first) ≡ false
  by_cases true first h = refl
  by_cases false first h = h refl

  one_edge : (b : Bool) (x y : Edge) → NoCalls x.pieces → NoCalls y.pieces → NoCalls (by_cut b x y).pieces
  one_edge true x y h k = h
  one_edge false x y h k = k

  module _ (cut_known : (f : ℕ) → IsWithin (called_parted e f).sums (sums (e.parts.callee f))) where
    -- what stands before the next marked call, the edge behind it, and what is counted behind that
    abbrev pub Splits : (last : Edge) (n at : ℕ) (steps : Steps) → Type 0
    Splits last n at steps = IsWithin
        (chained (S (code n (front e steps))) (chained (S (next_edge e last steps).pieces) (parted e counted last n at steps).sums))
        (chained (S (code n steps)) (S last.pieces))

    same_within : {x y : Sums} → x ≡ y → IsWithin x y
    same_within {x} e = subst (IsWithin x) e (within_same x)

    begun_sums : (b : Begun) (last : Edge) (n at : ℕ) (steps : Steps) → (parted e b last n at steps).sums ≡ chained (taking (opened e b last n steps)) (parted e counted last n at steps).sums
    begun_sums b last n at Done = sym (none_behind (taking (opened e b last n Done)))
    begun_sums b last n at (SetLocal pl k value rest) = ap (chained (taking (opened e b last n (SetLocal pl k value rest)))) (sym (none_taken _))
    begun_sums b last n at (SetScalar pl g ty value rest) = ap (chained (taking (opened e b last n (SetScalar pl g ty value rest)))) (sym (none_taken _))
    begun_sums b last n at (SetElement pl g ty index value rest) = ap (chained (taking (opened e b last n (SetElement pl g ty index value rest)))) (sym (none_taken _))
    begun_sums b last n at (Output pl value rest) = ap (chained (taking (opened e b last n (Output pl value rest)))) (sym (none_taken _))
    begun_sums b last n at (Input pl k rest) = ap (chained (taking (opened e b last n (Input pl k rest)))) (sym (none_taken _))
    begun_sums b last n at (If pl condition taken other rest) = ap (chained (taking (opened e b last n (If pl condition taken other rest)))) (sym (none_taken _))
    begun_sums b last n at (For pl k low closed high step turns body rest) = ap (chained (taking (opened e b last n (For pl k low closed high step turns body rest)))) (sym (none_taken _))
    begun_sums b last n at (While pl turns condition body rest) = ap (chained (taking (opened e b last n (While pl turns condition body rest)))) (sym (none_taken _))
    begun_sums b last n at (Call pl target f arguments rest) = ap (chained (taking (opened e b last n (Call pl target f arguments rest)))) (sym (none_taken _))

    -- no marked call is in what stands before the first
    front_none : (steps : Steps) → has_cut e (front e steps) ≡ false
    front_none Done = refl
    front_none (SetLocal pl k value rest) = front_none rest
    front_none (SetScalar pl g ty value rest) = front_none rest
    front_none (SetElement pl g ty index value rest) = front_none rest
    front_none (Output pl value rest) = front_none rest
    front_none (Input pl k rest) = front_none rest
    front_none (If pl condition taken other rest) =
        by_cases (has_cut e (If pl condition taken other Done)) (If pl condition taken other (front e rest))
        (λ none. none_choice (cuts e) (callees_in taken) (callees_in other) (callees_in (front e rest)) none (front_none rest))
    front_none (For pl k low closed high step turns body rest) =
        by_cases (has_cut e (For pl k low closed high step turns body Done)) (For pl k low closed high step turns body (front e rest))
        (λ none. none_loop (cuts e) (callees_in body) (callees_in (front e rest)) none (front_none rest))
    front_none (While pl turns condition body rest) =
        by_cases (has_cut e (While pl turns condition body Done)) (While pl turns condition body (front e rest))
        (λ none. none_loop (cuts e) (callees_in body) (callees_in (front e rest)) none (front_none rest))
    front_none (Call pl target f arguments rest) =
        by_cases (has_cut e (Call pl target f arguments Done)) (Call pl target f arguments (front e rest))
        (λ none. none_loop (cuts e) (f ∷ []) (callees_in (front e rest)) none (front_none rest))

    -- edges call nothing
    edge_none : (last : Edge) → NoCalls last.pieces → (steps : Steps) → NoCalls (next_edge e last steps).pieces
    edge_none last h Done = h
    edge_none last h (SetLocal pl k value rest) = edge_none last h rest
    edge_none last h (SetScalar pl g ty value rest) = edge_none last h rest
    edge_none last h (SetElement pl g ty index value rest) = edge_none last h rest
    edge_none last h (Output pl value rest) = edge_none last h rest
    edge_none last h (Input pl k rest) = edge_none last h rest
    edge_none last h (If pl condition taken other rest) = one_edge (has_cut e (If pl condition taken other Done)) no_edge (next_edge e last rest) tt (edge_none last h rest)
    edge_none last h (For pl k low closed high step turns body rest) = one_edge (has_cut e (For pl k low closed high step turns body Done)) no_edge (next_edge e last rest) tt (edge_none last h rest)
    edge_none last h (While pl turns condition body rest) = one_edge (has_cut e (While pl turns condition body Done)) no_edge (next_edge e last rest) tt (edge_none last h rest)
    edge_none last h (Call pl target f arguments rest) =
        one_edge (has_cut e (Call pl target f arguments Done)) (passing e f arguments) (next_edge e last rest)
        (arguments_call (λ part. IsWithin (taking 0) (sums part)) e.parts.target e.parts.global (e.parts.frame f) 0 arguments) (edge_none last h rest)

    -- where a passage begins
    pub fresh_of : (from : ℕ) (before last : Edge) → NoCalls before.pieces → NoCalls last.pieces → (n at : ℕ) (steps : Steps) →
        Splits last n at steps → IsWithin (parted e (begins from before) last n at steps).sums
        (chained (S before.pieces) (chained (S (code n steps)) (S last.pieces)))
    fresh_of from before last none empty n at steps h =
        let first = front e steps in
        let edge = next_edge e last steps in
        let p = (parted e counted last n at steps).sums in
        let o = opened e (begins from before) last n steps in
        let apart_less : IsWithin (taking (passage_apart e n from before first edge)) (chained (chained (S before.pieces) (S (code n first))) (S edge.pieces)) =
        taken_both _ _ _ _ (taken_both _ _ _ _ (own_sums before.pieces none)
        (smaller _ _ _ (apart_sums first n (from + size_of before.pieces) (front_none steps)))) (own_sums edge.pieces (edge_none last empty steps)) in
        let opening_less : IsWithin (taking o) (chained (chained (S before.pieces) (S (code n first))) (S edge.pieces)) = smaller _ _ _ apart_less in
        let one : IsWithin (chained (taking o) p) (chained (S before.pieces) (chained (S (code n first)) (chained (S edge.pieces) p))) =
        subst (IsWithin (chained (taking o) p))
        (chained_assoc (chained (S before.pieces) (S (code n first))) (S edge.pieces) p ∙ chained_assoc (S before.pieces) (S (code n first)) (chained (S edge.pieces) p))
        (chained_within (taking o) p (chained (chained (S before.pieces) (S (code n first))) (S edge.pieces)) p opening_less (within_same p)) in
        subst (λ z. IsWithin z (chained (S before.pieces) (chained (S (code n steps)) (S last.pieces)))) (sym (begun_sums (begins from before) last n at steps))
        (within_then _ (chained (S before.pieces) (chained (S (code n first)) (chained (S edge.pieces) p))) _ one
        (chained_within (S before.pieces) _ (S before.pieces) _ (within_same (S before.pieces)) h))

    quiet_within : (last edge p : Sums) (whole one rest begin first : Pieces) → whole ≡ followed one rest → begin ≡ followed one first →
        IsWithin (chained (S first) (chained edge p)) (chained (S rest) last) →
        IsWithin (chained (S begin) (chained edge (chained (taking 0) p))) (chained (S whole) last)
    quiet_within last edge p whole one rest begin first is starts h =
        subst (λ z. IsWithin (chained (S begin) (chained edge z)) (chained (S whole) last)) (sym (none_taken p))
        (subst (λ z. IsWithin z (chained (S whole) last)) (sym (ap (λ z. chained z (chained edge p)) (S-behind begin one first starts) ∙ chained_assoc (S one) (S first) (chained edge p)))
        (subst (IsWithin (chained (S one) (chained (S first) (chained edge p)))) (sym (ap (λ z. chained z last) (S-behind whole one rest is) ∙ chained_assoc (S one) (S rest) last))
        (chained_within (S one) _ (S one) _ (within_same (S one)) h)))

    -- a statement that may have a marked call in it
    either_way : (b : Bool) (n : ℕ) (first : Steps) (cut_edge edge last : Edge) (whole one rest behind_ : Pieces) (x y : PathCount) →
        whole ≡ followed one rest → code n first ≡ followed one behind_ → IsWithin (chained (S cut_edge.pieces) x.sums) (chained (S whole) (S last.pieces)) →
        IsWithin (chained (S behind_) (chained (S edge.pieces) y.sums)) (chained (S rest) (S last.pieces)) →
        IsWithin (chained (S (code n (by_cut b Done first))) (chained (S (by_cut b cut_edge edge).pieces) (chained (taking 0) (by_cut b x y).sums))) (chained (S whole) (S last.pieces))
    either_way true n first cut_edge edge last whole one rest behind_ x y is starts cut quiet_ =
        subst (λ z. IsWithin z (chained (S whole) (S last.pieces)))
        (sym (none_taken (chained (S cut_edge.pieces) (chained (taking 0) x.sums)) ∙ ap (chained (S cut_edge.pieces)) (none_taken x.sums))) cut
    either_way false n first cut_edge edge last whole one rest behind_ x y is starts cut quiet_ =
        quiet_within (S last.pieces) (S edge.pieces) y.sums whole one rest (code n first) behind_ is starts quiet_

    cut_then : (c p l : Sums) (whole one rest : Pieces) → whole ≡ followed one rest → IsWithin c (S one) →
        IsWithin p (chained (taking 0) (chained (S rest) l)) → IsWithin (chained (taking 0) (chained c p)) (chained (S whole) l)
    cut_then c p l whole one rest is le more =
        subst (λ z. IsWithin z (chained (S whole) l)) (sym (none_taken (chained c p)))
        (subst (IsWithin (chained c p)) (sym (ap (λ z. chained z l) (S-behind whole one rest is) ∙ chained_assoc (S one) (S rest) l))
        (chained_within c p (S one) (chained (S rest) l) le (subst (IsWithin p) (none_taken (chained (S rest) l)) more)))

    inner_less : (a b : Sums) → IsWithin a (chained (taking 0) (chained b (taking 0))) → IsWithin a b
    inner_less a b h = subst (IsWithin a) (none_taken (chained b (taking 0)) ∙ none_behind b) h

    inner_of : (n at : ℕ) (steps : Steps) → Splits no_edge n at steps → IsWithin (parted e (begins at no_edge) no_edge n at steps).sums (S (code n steps))
    inner_of n at steps h = inner_less _ _ (fresh_of at no_edge no_edge tt tt n at steps h)

    pub splits : (steps : Steps) (last : Edge) → NoCalls last.pieces → (n at : ℕ) → Splits last n at steps
    splits Done last empty n at = same_within (none_taken (chained (S last.pieces) (taking 0)) ∙ none_behind (S last.pieces) ∙ sym (none_taken (S last.pieces)))
    splits (SetLocal pl k value rest) last empty n at =
        quiet_within _ _ _ (code n (SetLocal pl k value rest)) (code n (SetLocal pl k value Done)) (code n rest)
        (code n (SetLocal pl k value (front e rest))) (code n (front e rest)) (first_local e.parts n pl k value rest)
        (first_local e.parts n pl k value (front e rest)) (splits rest last empty n (behind e n at (SetLocal pl k value Done)))
    splits (SetScalar pl g ty value rest) last empty n at =
        quiet_within _ _ _ (code n (SetScalar pl g ty value rest)) (code n (SetScalar pl g ty value Done)) (code n rest)
        (code n (SetScalar pl g ty value (front e rest))) (code n (front e rest)) (first_scalar e.parts n pl g ty value rest)
        (first_scalar e.parts n pl g ty value (front e rest)) (splits rest last empty n (behind e n at (SetScalar pl g ty value Done)))
    splits (SetElement pl g ty index value rest) last empty n at =
        quiet_within _ _ _ (code n (SetElement pl g ty index value rest)) (code n (SetElement pl g ty index value Done)) (code n rest)
        (code n (SetElement pl g ty index value (front e rest))) (code n (front e rest)) (first_element e.parts n pl g ty index value rest)
        (first_element e.parts n pl g ty index value (front e rest)) (splits rest last empty n (behind e n at (SetElement pl g ty index value Done)))
    splits (Output pl value rest) last empty n at =
        quiet_within _ _ _ (code n (Output pl value rest)) (code n (Output pl value Done)) (code n rest) (code n (Output pl value (front e rest)))
        (code n (front e rest)) (first_output e.parts n pl value rest) (first_output e.parts n pl value (front e rest))
        (splits rest last empty n (behind e n at (Output pl value Done)))
    splits (Input pl k rest) last empty n at =
        quiet_within _ _ _ (code n (Input pl k rest)) (code n (Input pl k Done)) (code n rest) (code n (Input pl k (front e rest)))
        (code n (front e rest)) (first_input e.parts n pl k rest) (first_input e.parts n pl k (front e rest))
        (splits rest last empty n (behind e n at (Input pl k Done)))
    splits (If pl condition taken other rest) last empty n at =
        let n2 = n + counters_in taken + counters_in other in
        let next = behind e n at (If pl condition taken other Done) in
        let c = splits rest last empty n2 next in
        let at1 = taken_place at (term_of e 10 condition) in
        let at2 = other_place at (term_of e 10 condition) (code n taken) (code (n + counters_in taken) other) in
        either_way (has_cut e (If pl condition taken other Done)) n (If pl condition taken other (front e rest)) no_edge (next_edge e last rest) last
        (code n (If pl condition taken other rest)) (code n (If pl condition taken other Done)) (code n2 rest) (code n2 (front e rest)) _ _
        (first_if e.parts n pl condition taken other rest) (first_if e.parts n pl condition taken other (front e rest))
        (cut_then _ _ (S last.pieces) (code n (If pl condition taken other rest)) (code n (If pl condition taken other Done)) (code n2 rest) (first_if e.parts n pl condition taken other rest)
        (if_sums n pl condition taken other _ _ (inner_of n at1 taken (splits taken no_edge tt n at1))
        (inner_of (n + counters_in taken) at2 other (splits other no_edge tt (n + counters_in taken) at2)))
        (fresh_of next no_edge last tt empty n2 next rest c))
        c
    splits (For pl k low closed high step turns body rest) last empty n at =
        let n2 = n + counters_in body in
        let next = behind e n at (For pl k low closed high step turns body Done) in
        let c = splits rest last empty n2 next in
        let at1 = body_place at (first_code e k low) (bound_code e k high) in
        either_way (has_cut e (For pl k low closed high step turns body Done)) n (For pl k low closed high step turns body (front e rest)) no_edge
        (next_edge e last rest) last (code n (For pl k low closed high step turns body rest))
        (code n (For pl k low closed high step turns body Done)) (code n2 rest) (code n2 (front e rest)) _ _
        (first_for e.parts n pl k low closed high step turns body rest) (first_for e.parts n pl k low closed high step turns body (front e rest))
        (cut_then _ _ (S last.pieces) (code n (For pl k low closed high step turns body rest))
        (code n (For pl k low closed high step turns body Done)) (code n2 rest) (first_for e.parts n pl k low closed high step turns body rest)
        (for_sums n pl k low closed high step turns body _ (inner_of n at1 body (splits body no_edge tt n at1)))
        (fresh_of next no_edge last tt empty n2 next rest c))
        c
    splits (While pl turns condition body rest) last empty n at =
        let n2 = n + 1 + counters_in body in
        let next = behind e n at (While pl turns condition body Done) in
        let c = splits rest last empty n2 next in
        let at1 = body_place at (counter_code n turns) (turn_of e n condition) + 12 in
        either_way (has_cut e (While pl turns condition body Done)) n (While pl turns condition body (front e rest)) no_edge (next_edge e last rest)
        last (code n (While pl turns condition body rest)) (code n (While pl turns condition body Done)) (code n2 rest) (code n2 (front e rest)) _ _
        (first_while e.parts n pl turns condition body rest) (first_while e.parts n pl turns condition body (front e rest))
        (cut_then _ _ (S last.pieces) (code n (While pl turns condition body rest)) (code n (While pl turns condition body Done)) (code n2 rest) (first_while e.parts n pl turns condition body rest)
        (while_sums n pl turns condition body _ (inner_of (n + 1) at1 body (splits body no_edge tt (n + 1) at1)))
        (fresh_of next no_edge last tt empty n2 next rest c))
        c
    splits (Call pl target f arguments rest) last empty n at =
        let next = behind e n at (Call pl target f arguments Done) in
        let c = splits rest last empty n next in
        either_way (has_cut e (Call pl target f arguments Done)) n (Call pl target f arguments (front e rest)) (passing e f arguments)
        (next_edge e last rest) last (code n (Call pl target f arguments rest)) (code n (Call pl target f arguments Done)) (code n rest)
        (code n (front e rest)) _ _
        (first_call e.parts n pl target f arguments rest) (first_call e.parts n pl target f arguments (front e rest))
        (call_then n pl target f arguments rest (S last.pieces) _
        (fresh_of (landing_place e at f arguments) (landing target) last (target_calls (λ part. IsWithin (taking 0) (sums part)) target)
        empty n next rest c))
        c where
          call_then : (n : ℕ) (pl : _) (target : _) (f : ℕ) (arguments : _) (rest : Steps) (l p : Sums) → IsWithin p (chained (S (target_code target no_pieces)) (chained (S (code n rest)) l)) →
              IsWithin (chained (S (argument_code e.parts.target e.parts.global (e.parts.frame f) 0 arguments))
              (chained (chained (taking (own_jump e)) (called_parted e f).sums) p)) (chained (S (code n (Call pl target f arguments rest))) l)
          call_then n pl target f arguments rest l p le =
              let args = argument_code e.parts.target e.parts.global (e.parts.frame f) 0 arguments in
              let land = target_code target no_pieces in
              let j = taking (own_jump e) in
              let callee = sums (e.parts.callee f) in
              let one = code n (Call pl target f arguments Done) in
              let one_is : S one ≡ chained (S args) (chained j (chained callee (S land))) = summed-followed (job_weight e.plant) sums args (call_to (e.parts.link f) (e.parts.callee f) land) in
              let all_is : chained (S (code n (Call pl target f arguments rest))) l ≡ chained (S args) (chained (chained j callee) (chained (S land) (chained (S (code n rest)) l))) =
              ap (λ z. chained z l) (S-behind (code n (Call pl target f arguments rest)) one (code n rest) (first_call e.parts n pl target f arguments rest))
              ∙ chained_assoc (S one) (S (code n rest)) l ∙ ap (λ z. chained z (chained (S (code n rest)) l)) one_is
              ∙ moved (S args) j callee (S land) (chained (S (code n rest)) l) in
              subst (IsWithin (chained (S args) (chained (chained j (called_parted e f).sums) p))) (sym all_is)
              (chained_within (S args) _ (S args) _ (within_same (S args))
              (chained_within (chained j (called_parted e f).sums) p (chained j callee) _ (chained_within j _ j _ (within_same j) (cut_known f)) le)) where
                moved : (a j x t r : Sums) → chained (chained a (chained j (chained x t))) r ≡ chained a (chained (chained j x) (chained t r))
                moved a j x t r =
                    chained_assoc a (chained j (chained x t)) r ∙ ap (chained a) (chained_assoc j (chained x t) r ∙ ap (chained j) (chained_assoc x t r) ∙ sym (chained_assoc j x (chained t r)))

  -- ---- functions

  around : (f : Routine) (x : Sums) → IsWithin x (S (code (locals_of f) f.body)) → IsWithin (chained (taking (own_before e f)) (chained x (taking (own_behind e f)))) (S (function_code e.parts f))
  around f x h =
      let a = declared e f in
      let b = code (locals_of f) f.body in
      let c = result_code e.parts.target e.parts.global f.result in
      let d = only (closing (frame_of f)) in
      let ends : IsWithin (taking (own_behind e f)) (S (followed c d)) =
      taken_then (own e c) (own e d) (followed c d) c d refl (own_sums c (result_calls (λ part. IsWithin (taking 0) (sums part)) e.parts.target e.parts.global f.result)) (own_sums d tt) in
      let inner : IsWithin (chained x (taking (own_behind e f))) (S (followed b (followed c d))) = both_then x (taking (own_behind e f)) (followed b (followed c d)) b (followed c d) refl h ends in
      let begins : IsWithin (taking (own_before e f)) (S (straight (opening (frame_of f)) a)) =
      taken_then (own e (only (opening (frame_of f)))) (own e a) (straight (opening (frame_of f)) a) (only (opening (frame_of f))) a refl (own_sums (only (opening (frame_of f))) tt)
      (own_sums a (declared_call (λ part. IsWithin (taking 0) (sums part)) e.parts.target e.parts.global (length f.text.params) f.locals)) in
      both_then (taking (own_before e f)) (chained x (taking (own_behind e f))) (function_code e.parts f) (straight (opening (frame_of f)) a) (followed b (followed c d)) refl begins inner

  pub function_taken : (f : Routine) (at : ℕ) → has_cut e f.body ≡ false → IsWithin (taking (least_function e f at)) (S (function_code e.parts f))
  function_taken f at none =
      smaller _ _ _
      (taken_less _ (own_before e f + (least e (locals_of f) (body_at e f at) f.body + own_behind e f)) _ (moved (own_before e f) (own_behind e f) _)
      (around f (taking (least e (locals_of f) (body_at e f at) f.body)) (smaller _ _ _ (apart_sums f.body (locals_of f) (body_at e f at) none)))) where
        moved : (a b x : ℕ) → a + b + x ≤ a + (x + b)
        moved a b x = omega arith

  pub function_sums : ((f : ℕ) → IsWithin (called_parted e f).sums (sums (e.parts.callee f))) → (f : Routine) (at : ℕ) → IsWithin (parted_function e f at).sums (S (function_code e.parts f))
  function_sums cut_known f at =
      let Good = λ (part : ℕ). IsWithin (taking 0) (sums part) in
      let at1 = at + size_of (entry e f).pieces in
      let b = code (locals_of f) f.body in
      let leaves : NoCalls (leaving e f).pieces =
      behind_none (result_code e.parts.target e.parts.global f.result) (only (closing (frame_of f)))
      (result_calls Good e.parts.target e.parts.global f.result) tt in
      let enters : NoCalls (entry e f).pieces = declared_call Good e.parts.target e.parts.global (length f.text.params) f.locals in
      subst (IsWithin (parted_function e f at).sums)
      (ap (chained (S (entry e f).pieces)) (sym (summed-followed (job_weight e.plant) sums b (leaving e f).pieces))
      ∙ sym (summed-followed (job_weight e.plant) sums (entry e f).pieces (followed b (leaving e f).pieces)))
      (fresh_of cut_known at (entry e f) (leaving e f) enters leaves (locals_of f) at1 f.body (splits cut_known f.body (leaving e f) leaves (locals_of f) at1))
