-- What the rules of replacement keep.
use Rattle.std.specs.Prelude.{map}
use Rattle.std.proofs.Common.{◌≡◌, ◌≢◌, ℕ, refl, ap, ◌∙◌, sym, cond, true, List, [], ◌∷◌, ⊎_elim}
use Rattle.std.proofs.lemmas.Bool.{eq-eqb, ne_eqb, cases_eq}
use Rattle.prem_plant.specs.declared.plant.Replacement.{Replacement}
use Rattle.prem_plant.specs.declared.plant.Replacement.TheVariants.{Lru, Fifo}
use Rattle.prem_plant.specs.Order.Order.{is_in, without, lru, fifo, one_pass, each_pass, MissesOnce, IsFullAfter, CacheMissesOnce, IsCacheFullAfter}
use Rattle.prem_plant.specs.Order.Rules.{KeepsMembers, AreApartBy, MovesAlike, IsOfKind, order_rule_of, passes_of}
use Rattle.prem_plant.proofs.OrderLemmas.Members.{in_head, in_tail, in_other, in_without, once_without}
use Rattle.prem_plant.proofs.OrderLemmas.Residency.{lru_misses_once, lru_full}
use Rattle.prem_plant.proofs.OrderLemmas.Earliest.{fifo_misses_once, fifo_full}
use Rattle.prem_plant.proofs.OrderLemmas.Lift.{once_lifts, full_lifts}

-- ---- least recently used

pub lru_members : KeepsMembers lru
lru_members w order t once = (once_without w order once, same)
  where
    same : (v : ℕ) → is_in v (lru w order) ≡ is_in v order
    same v =
        ⊎_elim (λ (e : w ≡ v). in_head v w (without w order) e ∙ sym (ap (λ u. is_in u order) (sym e) ∙ t))
        (λ (ne : w ≢ v). in_other v w (without w order) ne ∙ in_without w v order (λ e. ne (sym e))) (cases_eq w v)

named_without : (name : ℕ → ℕ) (w : ℕ) (order : List ℕ) → is_in w order ≡ true → AreApartBy name order → map name (without w order) ≡ without (name w) (map name order)
named_without name w [] t apart = refl
named_without name w (z ∷ zs) t apart =
    ⊎_elim (λ (e : z ≡ w).
    ap (λ b. map name (cond b zs (z ∷ without w zs))) (eq-eqb z w e)
    ∙ sym (ap (λ b. cond b (map name zs) (name z ∷ without (name w) (map name zs))) (eq-eqb (name z) (name w) (ap name e))))
    (λ (ne : z ≢ w).
    let nn : name z ≢ name w = (λ e. ne (apart z w (in_head z z zs refl) t e)) in
    ap (λ b. map name (cond b zs (z ∷ without w zs))) (ne_eqb z w ne)
    ∙ ap (λ xs. name z ∷ xs) (named_without name w zs (sym (in_other w z zs ne) ∙ t) (λ u v hu hv e. apart u v (in_tail u z zs hu) (in_tail v z zs hv) e))
    ∙ sym (ap (λ b. cond b (map name zs) (name z ∷ without (name w) (map name zs))) (ne_eqb (name z) (name w) nn)))
    (cases_eq z w)

pub lru_alike : MovesAlike lru
lru_alike name w order t apart = ap (λ xs. name w ∷ xs) (named_without name w order t apart)

pub lru_is_lru : IsOfKind Lru lru one_pass
lru_is_lru = record { moves = λ w order t. refl; passes_are = λ room. refl }

-- ---- first in, first out

pub fifo_members : KeepsMembers fifo
fifo_members w order t once = (once, λ v. refl)

pub fifo_alike : MovesAlike fifo
fifo_alike name w order t apart = refl

pub fifo_is_fifo : IsOfKind Fifo fifo each_pass
fifo_is_fifo = record { moves = λ w order t. refl; passes_are = λ room. refl }

-- ---- each kind

pub kind_once : (kind : Replacement) → MissesOnce (order_rule_of kind)
kind_once Lru = lru_misses_once
kind_once Fifo = fifo_misses_once

pub kind_full : (kind : Replacement) → IsFullAfter (passes_of kind) (order_rule_of kind)
kind_full Lru = lru_full
kind_full Fifo = fifo_full

pub kind_cache_once : (kind : Replacement) → CacheMissesOnce (order_rule_of kind)
kind_cache_once kind = once_lifts (order_rule_of kind) (kind_once kind)

pub kind_cache_full : (kind : Replacement) → IsCacheFullAfter (passes_of kind) (order_rule_of kind)
kind_cache_full kind = full_lifts (passes_of kind) (order_rule_of kind) (kind_full kind)

pub kind_members : (kind : Replacement) → KeepsMembers (order_rule_of kind)
kind_members Lru = lru_members
kind_members Fifo = fifo_members

pub kind_alike : (kind : Replacement) → MovesAlike (order_rule_of kind)
kind_alike Lru = lru_alike
kind_alike Fifo = fifo_alike
