-- All ranges lie in their kinds, and so no loop has more turns than there are ints.
use Rattle.std.proofs.Common.{◌≡◌, ℕ, zero, suc, ◌+◌, ◌-◌, ◌*◌, ◌/◌, ◌^◌, ◌<◌, ◌≤◌, Bool, true, false, cond, List, [], ◌∷◌, ◌++◌, map, refl, sym, ◌∙◌, arith, Option, None, Some, eqb, ⊎_elim}
use Rattle.std.specs.Prelude.{⊤, ℤ, pos, negsuc, ◌+ℤ◌, ◌-ℤ◌, ◌≤ℤ◌, int_le, unsigned_abs, ◌||◌, slice_get, slice_index, unwrap_or}
use Rattle.prem_ranges.proofs.Prelude.{assigns, in_counting, loop_end, turn_bound, body_range, range_behind, in_body, behind_loop, in_while, behind_call, after, bounds, known_parameter}
use Rattle.prem_ranges.proofs.Prelude.{known_local, declared, at_body, bounds_in, Known, any_again, with_range, assigned, Environment, range_at, at_local, loosened, joined, in_term}
use Rattle.prem_ranges.proofs.Prelude.{in_range_of_int, in_turns, in_counting_loop, in_steps, in_arguments, in_scalar, in_element, parameters_of, in_locals, in_result, in_routine}
use Rattle.prem_ranges.proofs.Prelude.{in_routines, range_breaches, site_of, type_range, range_of, cut, cut_if_some, opposite, is_same_kind, cut_by, refined, kinds_of, Typed, TypedSteps}
use Rattle.prem_ranges.proofs.Prelude.{Ranged, none_ranged, next_ranged, TypedLocals, TypedRoutine, TypedProgram, kind_of, promoted, Term, Constant, Local, Scalar, Element, Unary, Binary}
use Rattle.prem_ranges.proofs.Prelude.{AndAlso, OrElse, Steps, Done, SetLocal, SetScalar, SetElement, Output, Input, If, For, While, Call, Routine, Resolved, LocalVariable, GlobalVariable}
use Rattle.prem_ranges.proofs.Prelude.{Ty, Void, Short, Ushort, Schar, Uchar, Neg, Flip, Not, word_in_whole, whole_kept, within_kept, truths_kept, range_kept, negate_kept, flip_kept}
use Rattle.prem_ranges.proofs.Prelude.{join_kept, converted_kept, Span, from_to, exactly, LiesIn, IsRange, whole, unless_empty, converted, value_in, BinOp, Lt, Le, Gt, Ge, Eq, Kind, Int}
use Rattle.prem_ranges.proofs.Prelude.{Unsigned, mul-le-mul_left, mul-le-mul_right, cases_lt, ints, clamps, map-append, int_max, flat_map}
use Rattle.prem_ranges.proofs.Basics.{none_left, none_right, unbroken as unbroken_is, is_at_most, is_above, is_not_below}
use Rattle.prem_ranges.proofs.Environments.{kinds-at_local, kinds-loosened, kinds-joined, kind_known}
use Rattle.prem_ranges.proofs.Expressions.{kinds-refined}
use Rattle.prem_ranges.proofs.Statements.{kinds-after, kinds-behind_call, kinds-in_body}
use Rattle.prem_syntax.specs.declared.tree.Ty.TheVariants.{Int as IntTy, Unsigned as UnsignedTy}

-- ---- environments

pub ranged_local : {env : Environment} → Ranged env → (k : ℕ) (change : Known → Known) →
    ((l : Known) → slice_get env k ≡ Some l → IsRange l.kind l.range → IsRange (change l).kind (change l).range) → Ranged (at_local k change env)
ranged_local none_ranged k change keeps = none_ranged
ranged_local (next_ranged {l = l} is rest) zero change keeps = next_ranged (keeps l refl is) rest
ranged_local (next_ranged is rest) (suc k) change keeps = next_ranged is (ranged_local rest k change keeps)

pub ranged_any : {env : Environment} → Ranged env → (k : ℕ) → Ranged (at_local k any_again env)
ranged_any ranged k = ranged_local ranged k any_again (λ l there is. whole_kept l.kind)

loosened_range : (b : Bool) (l : Known) → IsRange l.kind l.range → IsRange (cond b (any_again l) l).kind (cond b (any_again l) l).range
loosened_range true l is = whole_kept l.kind
loosened_range false l is = is

pub ranged_loosened : {env : Environment} → Ranged env → (picked : ℕ → Bool) → Ranged (loosened picked env)
ranged_loosened none_ranged picked = none_ranged
ranged_loosened (next_ranged {l = l} is rest) picked = next_ranged (loosened_range (picked 0) l is) (ranged_loosened rest (λ k. picked (suc k)))

pub ranged_joined : {one two : Environment} → Ranged one → Ranged two → kinds_of one ≡ kinds_of two → Ranged (joined one two)
ranged_joined none_ranged second same = none_ranged
ranged_joined (next_ranged is rest) none_ranged same = none_ranged
ranged_joined (next_ranged {l = l} {ls = ls} is rest) (next_ranged {l = m} {ls = ms} is' rest') same =
    let kind : l.kind ≡ m.kind = cc in
    let more : kinds_of ls ≡ kinds_of ms = cc in
    next_ranged (join_kept l.kind l.range m.range is (rw kind is')) (ranged_joined rest rest' more)

range_at_kept : {env : Environment} → Ranged env → (k : ℕ) (kind : Kind) → slice_get (kinds_of env) k ≡ Some kind → IsRange kind (range_at env k)
range_at_kept none_ranged k kind is = cc
range_at_kept (next_ranged {l = l} r rest) zero kind is = let same : l.kind ≡ kind = cc in rw (← same) r
range_at_kept (next_ranged r rest) (suc k) kind is = range_at_kept rest k kind is

-- ---- expressions

fits : (k : Kind) (lo hi : ℤ) → lo ≤ℤ hi → (whole k).lo ≤ℤ lo → hi ≤ℤ (whole k).hi → IsRange k (from_to lo hi)
fits k lo hi a b c = record { ordered = a; least = b; greatest = c }

type_kept : (ty : Ty) → IsRange (promoted ty) (type_range ty)
type_kept Void = whole_kept Int
type_kept IntTy = whole_kept Int
type_kept UnsignedTy = whole_kept Unsigned
type_kept Short = fits Int (negsuc 32767) (pos 32767) (omega (arith, ints)) (omega (arith, ints)) (omega (arith, ints))
type_kept Ushort = fits Int (pos 0) (pos 65535) (omega (arith, ints)) (omega (arith, ints)) (omega (arith, ints))
type_kept Schar = fits Int (negsuc 127) (pos 127) (omega (arith, ints)) (omega (arith, ints)) (omega (arith, ints))
type_kept Uchar = fits Int (pos 0) (pos 255) (omega (arith, ints)) (omega (arith, ints)) (omega (arith, ints))

exactly_kept : (k : Kind) (z : ℤ) → LiesIn (whole k) z → IsRange k (exactly z)
exactly_kept k z h = record { ordered = omega (arith, ints); least = h.low; greatest = h.high }

pub term_kept : (gs : List GlobalVariable) (env : Environment) → Ranged env → (e : Term) → Typed gs (kinds_of env) e → IsRange (kind_of e) (range_of env e)
term_kept gs env ranged (Constant at word kind) typed = exactly_kept kind (value_in kind word) (word_in_whole kind word typed)
term_kept gs env ranged (Local at k kind) typed = range_at_kept ranged k kind typed
term_kept gs env ranged (Scalar at g ty) typed = type_kept ty
term_kept gs env ranged (Element at g ty index) typed = type_kept ty
term_kept gs env ranged (Unary at Neg e) typed = negate_kept (kind_of e) (converted (kind_of e) (range_of env e))
term_kept gs env ranged (Unary at Flip e) typed =
    flip_kept (kind_of e) (converted (kind_of e) (range_of env e)) (converted_kept (kind_of e) (kind_of e) (range_of env e) (term_kept gs env ranged e typed))
term_kept gs env ranged (Unary at Not e) typed = truths_kept Int
term_kept gs env ranged (Binary at op kind left right) typed =
    range_kept op kind (converted kind (range_of env left)) (converted kind (range_of env right)) (converted_kept (kind_of left) kind (range_of env left) (term_kept gs env ranged left typed.2))
    (converted_kept (kind_of right) kind (range_of env right) (term_kept gs env ranged right typed.3))
term_kept gs env ranged (AndAlso at left right) typed = truths_kept Int
term_kept gs env ranged (OrElse at left right) typed = truths_kept Int

-- a cut is within what it cuts
pub record Narrower (a b : Span) : Type 0 where
  pub low : b.lo ≤ℤ a.lo
  pub high : a.hi ≤ℤ b.hi

pub narrower : (op : BinOp) (x e : Span) → Narrower (cut op x e) x
narrower Lt x e = record { low = omega (arith, ints); high = omega (arith, ints, clamps) }
narrower Le x e = record { low = omega (arith, ints); high = omega (arith, ints, clamps) }
narrower Gt x e = record { low = omega (arith, ints, clamps); high = omega (arith, ints) }
narrower Ge x e = record { low = omega (arith, ints, clamps); high = omega (arith, ints) }
narrower Eq x e = record { low = omega (arith, ints, clamps); high = omega (arith, ints, clamps) }
narrower op x e = record { low = omega (arith, ints); high = omega (arith, ints) }

cut_kept : (kind : Kind) (c x : Span) → Narrower c x → IsRange kind x → IsRange kind (unwrap_or (unless_empty c) x)
cut_kept kind c x n is = by (int_le c.lo c.hi) refl
  where
    by : (t : Bool) → int_le c.lo c.hi ≡ t → IsRange kind (unwrap_or (cond t (Some c) None) x)
    by true e = record { ordered = is_at_most c.lo c.hi e; least = let a = n.low in let b = is.least in omega (arith, ints); greatest = let a = n.high in let b = is.greatest in omega (arith, ints) }
    by false e = is

ranged_cut : (op : BinOp) (left : Term) (right : Kind) (r : Span) (env : Environment) → Ranged env → Ranged (cut_by op left right r env)
ranged_cut op (Local at k kind) right r env ranged = by (is_same_kind kind right)
  where
    by : (b : Bool) → Ranged (cond b (at_local k (cut_if_some op r) env) env)
    by true = ranged_local ranged k (cut_if_some op r) (λ l there is. cut_kept l.kind (cut op l.range r) l.range (narrower op l.range r) is)
    by false = ranged
ranged_cut op (Constant at word k) right r env ranged = ranged
ranged_cut op (Scalar at g ty) right r env ranged = ranged
ranged_cut op (Element at g ty index) right r env ranged = ranged
ranged_cut op (Unary at uop e) right r env ranged = ranged
ranged_cut op (Binary at bop k e e') right r env ranged = ranged
ranged_cut op (AndAlso at e e') right r env ranged = ranged
ranged_cut op (OrElse at e e') right r env ranged = ranged

pub ranged_refined : (b : Bool) (env : Environment) (e : Term) → Ranged env → Ranged (refined b env e)
ranged_refined true env (AndAlso at left right) ranged = ranged_refined true (refined true env left) right (ranged_refined true env left ranged)
ranged_refined false env (AndAlso at left right) ranged = ranged
ranged_refined true env (OrElse at left right) ranged = ranged
ranged_refined false env (OrElse at left right) ranged = ranged_refined false (refined false env left) right (ranged_refined false env left ranged)
ranged_refined true env (Unary at Not e) ranged = ranged_refined false env e ranged
ranged_refined false env (Unary at Not e) ranged = ranged_refined true env e ranged
ranged_refined true env (Unary at Neg e) ranged = ranged
ranged_refined false env (Unary at Neg e) ranged = ranged
ranged_refined true env (Unary at Flip e) ranged = ranged
ranged_refined false env (Unary at Flip e) ranged = ranged
ranged_refined true env (Binary at op kind left right) ranged = ranged_cut op left (kind_of right) (range_of env right) env ranged
ranged_refined false env (Binary at op kind left right) ranged = ranged_cut (opposite op) left (kind_of right) (range_of env right) env ranged
ranged_refined true env (Constant at word kind) ranged = ranged
ranged_refined false env (Constant at word kind) ranged = ranged
ranged_refined true env (Local at k kind) ranged = ranged
ranged_refined false env (Local at k kind) ranged = ranged
ranged_refined true env (Scalar at g ty) ranged = ranged
ranged_refined false env (Scalar at g ty) ranged = ranged
ranged_refined true env (Element at g ty index) ranged = ranged
ranged_refined false env (Element at g ty index) ranged = ranged

-- ---- loops

-- a loop whose variable can't pass the greatest int
pub record LoopFits (low : Span) (end : ℤ) (step : ℕ) : Type 0 where
  pub is : IsRange Int low
  pub ends : (end -ℤ pos 1 +ℤ pos step) ≤ℤ pos 2147483647
  pub some : 0 < step

pub body_kept : (low : Span) (end : ℤ) (step : ℕ) → LoopFits low end step → IsRange Int (body_range low end)
body_kept low end step h =
    let e = h.ends in let s = h.some in let a = h.is.ordered in let b = h.is.least in let c = h.is.greatest in
    record { ordered = omega (arith, ints, clamps); least = b; greatest = omega (arith, ints, clamps) }

pub behind_kept : (low : Span) (end : ℤ) (step : ℕ) → LoopFits low end step → IsRange Int (range_behind low end step)
behind_kept low end step h = within_kept Int (from_to low.lo (int_max low.hi (end -ℤ pos 1 +ℤ pos step))) (let a = h.is.ordered in omega (arith, ints, clamps))

too_many : (m n r d step : ℕ) → n ≤ r → n ≡ m + step → d ≤ m → r ≤ d + (step - 1) → 0 < step → ⊥
too_many m n r d step a b c e f = omega arith

quotient_small : (d step q : ℕ) → 0 < d → 0 < step → q * step ≤ d + (step - 1) → q ≤ d
quotient_small d step q some_d some h =
    ⊎_elim
    (λ (above : d < q).
    let more : suc d * step ≤ q * step = mul-le-mul_right step above in
    let parts : suc d * step ≡ d * step + step = omega arith in
    let one : d * 1 ≤ d * step = mul-le-mul_left d some in
    absurd (too_many (d * step) (suc d * step) (q * step) d step more parts (let e : d * 1 ≡ d = omega arith in rw e at one) h some))
    (λ le. le) (cases_lt d q)

turn_bound_small : (low : Span) (end : ℤ) (step : ℕ) → LoopFits low end step → turn_bound low.lo end step < 2 ^ 32
turn_bound_small low end step h = by (int_le end low.lo) refl
  where
    by : (b : Bool) → int_le end low.lo ≡ b → cond b 0 ((unsigned_abs (end -ℤ low.lo) + (step - 1)) / step) < 2 ^ 32
    by true e = omega arith
    by false e =
        let above = is_above end low.lo e in
        let ends = h.ends in let some = h.some in let least = h.is.least in
        let d : ℕ = unsigned_abs (end -ℤ low.lo) in
        let d_some : 0 < d = omega (arith, ints) in
        let d_small : d < 2 ^ 32 = omega (arith, ints) in
        let q : ℕ = (d + (step - 1)) / step in
        let product : (d + (step - 1)) / step * step ≤ d + (step - 1) = omega arith in
        let le : q ≤ d = quotient_small d step ((d + (step - 1)) / step) d_some some product in omega arith

-- ---- steps

pub ranged_counting : (gs : List GlobalVariable) (env : Environment) (k : ℕ) (r : Span) (body : Steps) → slice_get (kinds_of env) k ≡ Some Int →
    Ranged env → IsRange Int r → Ranged (at_local k (with_range r) (in_counting k body env))
ranged_counting gs env k r body is_int ranged is =
    let env' = in_counting k body env in
    let same : kinds_of env' ≡ kinds_of env = kinds-loosened (λ j. eqb k j || assigns j body) env in
    ranged_local (ranged_loosened ranged (λ j. eqb k j || assigns j body)) k (with_range r) (λ l there old. let kind : l.kind ≡ Int = kind_known env' k l Int there (rw same is_int) in rw kind is)

pub ranged_call : (target : Option ℕ) (env : Environment) → Ranged env → Ranged (behind_call target env)
ranged_call None env ranged = ranged
ranged_call (Some k) env ranged = ranged_any ranged k

abbrev pub AllSmall : List ℕ → Type 0
AllSmall [] = ⊤
AllSmall (n ∷ ns) = (n < 2 ^ 32) × AllSmall ns

all_both : (xs ys : List ℕ) → AllSmall xs → AllSmall ys → AllSmall (xs ++ ys)
all_both [] ys h k = k
all_both (x ∷ xs) ys h k = (h.0, all_both xs ys h.1 k)

pub record Kept (env : Environment) (steps : Steps) : Type 0 where
  pub ranged : Ranged (after env steps)
  pub small : AllSmall (bounds env steps)

pub steps_kept : (p : Resolved) (n : ℕ) (steps : Steps) (around : ℕ) (env : Environment) → Ranged env → TypedSteps p n (kinds_of env) steps →
    in_steps (site_of p n) around env steps ≡ [] → Kept env steps
steps_kept p n Done around env ranged typed unbroken = record { ranged = ranged; small = tt }
steps_kept p n (SetLocal at k e rest) around env ranged typed unbroken =
    let env' = at_local k (assigned (range_of env e)) env in
    let ranged' : Ranged env' = ranged_local ranged k (assigned (range_of env e)) (λ l there is. converted_kept (kind_of e) l.kind (range_of env e) (term_kept p.globals env ranged e typed.0)) in
    let h = steps_kept p n rest around env' ranged' (rw (kinds-at_local env k (assigned (range_of env e)) (λ l. refl)) typed.1)
    (none_right (in_term (site_of p n) env e) (in_steps (site_of p n) around env' rest) unbroken) in
    record { ranged = h.ranged; small = h.small }
steps_kept p n (SetScalar at g ty e rest) around env ranged typed unbroken =
    let h = steps_kept p n rest around env ranged typed.2 (none_right (in_scalar (site_of p n) at g ++ in_term (site_of p n) env e) (in_steps (site_of p n) around env rest) unbroken) in
    record { ranged = h.ranged; small = h.small }
steps_kept p n (SetElement at g ty index e rest) around env ranged typed unbroken =
    let h = steps_kept p n rest around env ranged typed.3
    (none_right (in_element (site_of p n) at g (range_of env index) ++ in_term (site_of p n) env index ++ in_term (site_of p n) env e)
    (in_steps (site_of p n) around env rest) unbroken) in
    record { ranged = h.ranged; small = h.small }
steps_kept p n (Output at e rest) around env ranged typed unbroken =
    let h = steps_kept p n rest around env ranged typed.1 (none_right (in_term (site_of p n) env e) (in_steps (site_of p n) around env rest) unbroken) in
    record { ranged = h.ranged; small = h.small }
steps_kept p n (Input at k rest) around env ranged typed unbroken =
    let h = steps_kept p n rest around (at_local k any_again env) (ranged_any ranged k) (rw (kinds-at_local env k any_again (λ l. refl)) typed) unbroken in
    record { ranged = h.ranged; small = h.small }
steps_kept p n (If at c taken other rest) around env ranged typed unbroken =
    let site = site_of p n in
    let yes_env = refined true env c in
    let no_env = refined false env c in
    let a = after yes_env taken in
    let b = after no_env other in
    let c_breaches = in_term site env c in
    let taken_breaches = in_steps site around yes_env taken in
    let other_breaches = in_steps site around no_env other in
    let rest_breaches = in_steps site around (joined a b) rest in
    let three = none_left (c_breaches ++ taken_breaches ++ other_breaches) rest_breaches unbroken in
    let two = none_left (c_breaches ++ taken_breaches) other_breaches three in
    let one_kept = steps_kept p n taken around yes_env (ranged_refined true env c ranged) (rw (kinds-refined true env c) typed.1) (none_right c_breaches taken_breaches two) in
    let two_kept = steps_kept p n other around no_env (ranged_refined false env c ranged) (rw (kinds-refined false env c) typed.2) (none_right (c_breaches ++ taken_breaches) other_breaches three) in
    let yes_kinds : kinds_of a ≡ kinds_of env = kinds-after yes_env taken ∙ kinds-refined true env c in
    let no_kinds : kinds_of b ≡ kinds_of env = kinds-after no_env other ∙ kinds-refined false env c in
    let same : kinds_of a ≡ kinds_of b = yes_kinds ∙ sym no_kinds in
    let rest_kinds : kinds_of (joined a b) ≡ kinds_of env = kinds-joined a b same ∙ yes_kinds in
    let h = steps_kept p n rest around (joined a b) (ranged_joined one_kept.ranged two_kept.ranged same) (rw rest_kinds typed.3)
    (none_right (c_breaches ++ taken_breaches ++ other_breaches) rest_breaches unbroken) in
    record {
      ranged = h.ranged;
      small =
          all_both (bounds yes_env taken ++ bounds no_env other) (bounds (joined a b) rest)
          (all_both (bounds yes_env taken) (bounds no_env other) one_kept.small two_kept.small) h.small;
    }
steps_kept p n (For at k low closed high step turns body rest) around env ranged typed unbroken =
    let site = site_of p n in
    let end = loop_end env k closed high body in
    let r = range_of env low in
    let bound = turn_bound r.lo end step in
    let body_env = in_body env k low end body in
    let env' = behind_loop env k low end step body in
    let loop_breaches = in_counting_loop at end step (around * bound) in
    let low_breaches = in_term site env low in
    let high_breaches = in_term site (in_counting k body env) high in
    let body_breaches = in_steps site (around * bound) body_env body in
    let rest_breaches = in_steps site around env' rest in
    let four = none_left (loop_breaches ++ low_breaches ++ high_breaches ++ body_breaches) rest_breaches unbroken in
    let three = none_left (loop_breaches ++ low_breaches ++ high_breaches) body_breaches four in
    let two = none_left (loop_breaches ++ low_breaches) high_breaches three in
    let range_unbroken = none_left (in_range_of_int at end step) (in_turns at (around * bound)) (none_left loop_breaches low_breaches two) in
    let fits_loop : LoopFits r end step =
    record {
      is = rw typed.0.low_is_int at (term_kept p.globals env ranged low typed.1);
      ends =
          is_not_below _ _ (unbroken_is _ _ _ range_unbroken);
      some = typed.0.some;
    } in
    let body_h = steps_kept p n body (around * bound) body_env
    (ranged_counting p.globals env k (body_range r end) body typed.0.is_int ranged (body_kept r end step fits_loop))
    (rw (kinds-in_body env k (body_range r end) body) typed.3) (none_right (loop_breaches ++ low_breaches ++ high_breaches) body_breaches four) in
    let h = steps_kept p n rest around env'
    (ranged_counting p.globals env k (range_behind r end step) body typed.0.is_int ranged (behind_kept r end step fits_loop))
    (rw (kinds-in_body env k (range_behind r end step) body) typed.4)
    (none_right (loop_breaches ++ low_breaches ++ high_breaches ++ body_breaches) rest_breaches unbroken) in
    record { ranged = h.ranged; small = all_both (bound ∷ bounds body_env body) (bounds env' rest) (turn_bound_small r end step fits_loop, body_h.small) h.small }
steps_kept p n (While at turns c body rest) around env ranged typed unbroken =
    let site = site_of p n in
    let env' = in_while body env in
    let body_env = refined true env' c in
    let turn_breaches = in_turns at (around * turns) in
    let c_breaches = in_term site env' c in
    let body_breaches = in_steps site (around * turns) body_env body in
    let rest_breaches = in_steps site around env' rest in
    let three = none_left (turn_breaches ++ c_breaches ++ body_breaches) rest_breaches unbroken in
    let kinds : kinds_of env' ≡ kinds_of env = kinds-loosened (λ j. assigns j body) env in
    let body_kinds : kinds_of body_env ≡ kinds_of env = kinds-refined true env' c ∙ kinds in
    let ranged' = ranged_loosened ranged (λ j. assigns j body) in
    let body_h = steps_kept p n body (around * turns) body_env (ranged_refined true env' c ranged') (rw body_kinds typed.1) (none_right (turn_breaches ++ c_breaches) body_breaches three) in
    let h = steps_kept p n rest around env' ranged' (rw kinds typed.2) (none_right (turn_breaches ++ c_breaches ++ body_breaches) rest_breaches unbroken) in
    record { ranged = h.ranged; small = all_both (bounds body_env body) (bounds env' rest) body_h.small h.small }
steps_kept p n (Call at target f arguments rest) around env ranged typed unbroken =
    let site = site_of p n in
    let h = steps_kept p n rest around (behind_call target env) (ranged_call target env ranged) (rw (kinds-behind_call target env) typed.2)
    (none_right (in_arguments at site env arguments (parameters_of (slice_get site.routines f))) (in_steps site around (behind_call target env) rest) unbroken) in
    record { ranged = h.ranged; small = h.small }

-- ---- functions

ranged_more : {env : Environment} → Ranged env → (l : Known) → IsRange l.kind l.range → Ranged (env ++ l ∷ [])
ranged_more none_ranged l is = next_ranged is none_ranged
ranged_more (next_ranged first rest) l is = next_ranged first (ranged_more rest l is)

pub ranged_declared : (gs : List GlobalVariable) (ls : List LocalVariable) (es : List Term) (env : Environment) → Ranged env → TypedLocals gs (kinds_of env) ls es → Ranged (declared env ls es)
ranged_declared gs [] [] env ranged typed = ranged
ranged_declared gs [] (e ∷ es) env ranged typed = absurd typed
ranged_declared gs (l ∷ ls) [] env ranged typed = absurd typed
ranged_declared gs (l ∷ ls) (e ∷ es) env ranged typed =
    let l' = known_local env l e in
    let kinds : kinds_of (env ++ l' ∷ []) ≡ kinds_of env ++ promoted l.ty ∷ [] = map-append (λ (x : Known). x.kind) env (l' ∷ []) in
    ranged_declared gs ls es (env ++ l' ∷ []) (ranged_more ranged l' (converted_kept (kind_of e) (promoted l.ty) (range_of env e) (term_kept gs env ranged e typed.0))) (rw kinds typed.1)

routine_kept : (p : Resolved) (n : ℕ) (f : Routine) → TypedRoutine p n f → in_routine (site_of p n) f ≡ [] → AllSmall (bounds_in f)
routine_kept p n f typed unbroken =
    let site = site_of p n in
    let locals = in_locals site (map known_parameter f.text.params) f.text.locals f.locals in
    let steps = in_steps site 1 (at_body f) f.body in
    let ranged : Ranged (at_body f) = ranged_declared p.globals f.text.locals f.locals (map known_parameter f.text.params) typed.parameters typed.locals in
    (steps_kept p n f.body 1 (at_body f) ranged typed.body (none_right locals steps (none_left (locals ++ steps) (in_result site (after (at_body f) f.body) f.result) unbroken))).small

routines_kept : (p : Resolved) (n : ℕ) (rest : List Routine) → ((k : ℕ) (f : Routine) → slice_get rest k ≡ Some f → TypedRoutine p (n + k) f) →
    in_routines p n rest ≡ [] → AllSmall (flat_map bounds_in rest)
routines_kept p n [] typed unbroken = tt
routines_kept p n (f ∷ rest) typed unbroken =
    let here : n + 0 ≡ n = omega arith in
    let first : TypedRoutine p n f = rw here at (typed 0 f refl) in
    all_both (bounds_in f) (flat_map bounds_in rest) (routine_kept p n f first (none_left (in_routine (site_of p n) f) (in_routines p (n + 1) rest) unbroken))
    (routines_kept p (n + 1) rest (λ k g there. let next : n + 1 + k ≡ n + suc k = omega arith in rw next (typed (suc k) g there))
    (none_right (in_routine (site_of p n) f) (in_routines p (n + 1) rest) unbroken))

small_at : (ns : List ℕ) → AllSmall ns → (k : ℕ) → slice_index ns k < 2 ^ 32
small_at [] small k = omega arith
small_at (n ∷ ns) small zero = small.0
small_at (n ∷ ns) small (suc k) = small_at ns small.1 k

-- no loop has more turns than there are ints
pub bounds_small : (p : Resolved) → TypedProgram p → range_breaches p ≡ [] → (k : ℕ) → slice_index (flat_map bounds_in p.routines) k < 2 ^ 32
bounds_small p typed unbroken k =
    small_at (flat_map bounds_in p.routines) (routines_kept p 0 p.routines (λ i f there. let e : 0 + i ≡ i = omega arith in rw e (typed.each i f there)) unbroken) k
