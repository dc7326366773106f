-- The first balanced number of cycles is what is to be found, and nothing else is.
use Rattle.std.proofs.Common.{◌≡◌, ℕ, zero, suc, ◌+◌, ◌<◌, ◌≤◌, refl, ap, ◌∙◌, sym, subst, arith, eqb, cond, Bool, true, false, List, ⊎_elim}
use Rattle.std.proofs.lemmas.Bool.{cases_lt, cases_eq, eqb-true, eqb-false}
use Rattle.prem_resp.specs.declared.busy.load.Load.{Load}
use Rattle.prem_resp.specs.declared.busy.length.Busy.{Busy}
use Rattle.prem_resp.specs.declared.busy.length.Busy.TheVariants.{Within, Past}
use Rattle.prem_resp.specs.Busy.Busy.{load_at, demand, IsBalanced, IsLength}
use Rattle.prem_resp.specs.Busy.Found.{IsFound, first_balanced, busy_of}

-- what the search over numbers below an end comes to
abbrev Searched : List Load → ℕ → (end : ℕ) → Busy → Type 0
Searched loads i end (Within length) = IsLength loads i length × (length < end)
Searched loads i end Past = (other : ℕ) → IsBalanced loads i other → other < end → ⊥

module _ (loads : List Load) (i : ℕ) where
  abbrev NoneBefore : ℕ → Type 0
  NoneBefore from = (other : ℕ) → IsBalanced loads i other → other < from → ⊥

  least_there : (from : ℕ) → 1 ≤ from → NoneBefore from → from ≡ demand loads i from → IsLength loads i from
  least_there from some none e = record {
    balanced = (some, e);
    least = λ other balanced. ⊎_elim (λ (lt : other < from). absurd (none other balanced lt)) (λ (le : from ≤ other). le) (cases_lt other from);
  }

  none_there : (from : ℕ) → NoneBefore from → (from ≡ demand loads i from → ⊥) → NoneBefore (suc from)
  none_there from none ne other balanced lt =
      ⊎_elim (λ (same : other ≡ from). ne (sym same ∙ balanced.1 ∙ ap (demand loads i) same))
      (λ (other_one : other ≡ from → ⊥). none other balanced (less other from lt other_one))
      (cases_eq other from) where
        less : (a b : ℕ) → a < suc b → (a ≡ b → ⊥) → a < b
        less a b lt ne = ⊎_elim (λ (x : a < b). x) (λ (x : b ≤ a). absurd (ne (let e : a ≡ b = omega (arith, x, lt) in e))) (cases_lt a b)

  searched : (left from : ℕ) → 1 ≤ from → NoneBefore from → Searched loads i (from + left) (first_balanced loads i left from)
  unfolding first_balanced
  searched zero from some none = λ other balanced lt. none other balanced (omega (arith, lt))
  searched (suc left) from some none = by (eqb from (demand loads i from)) refl (λ less. searched left (suc from) (omega arith) less) where
    by : (b : Bool) → eqb from (demand loads i from) ≡ b → (NoneBefore (suc from) → Searched loads i (suc from + left) (first_balanced loads i left (suc from))) →
        Searched loads i (from + suc left) (cond b (Within from) (first_balanced loads i left (suc from)))
    by true e next = (least_there from some none (eqb-true from (demand loads i from) e), omega arith)
    by false e next =
        let more : from + suc left ≡ suc from + left = omega arith in
        subst (λ n. Searched loads i n (first_balanced loads i left (suc from))) (sym more) (next (none_there from none (eqb-false from (demand loads i from) e)))

  found_by : (b : Busy) → Searched loads i (1 + (load_at loads i).period) b → IsFound loads i b
  found_by (Within length) h = (h.0, omega (arith, h.1))
  found_by Past h = λ length balanced le. h length balanced (omega (arith, le))

  pub busy_found : IsFound loads i (busy_of loads i)
  busy_found = found_by (busy_of loads i) (searched (load_at loads i).period 1 (omega arith) (λ other balanced lt. let some : 1 ≤ other = balanced.0 in omega (arith, some, lt)))

  -- only one thing may be found
  pub found_once : (a b : Busy) → IsFound loads i a → IsFound loads i b → a ≡ b
  found_once (Within n) (Within m) h k =
      let le : n ≤ m = h.0.least m k.0.balanced in
      let ge : m ≤ n = k.0.least n h.0.balanced in
      let same : n ≡ m = omega (arith, le, ge) in
      ap Within same
  found_once (Within n) Past h k = absurd (k n h.0.balanced h.1)
  found_once Past (Within m) h k = absurd (h m k.0.balanced k.1)
  found_once Past Past h k = refl
