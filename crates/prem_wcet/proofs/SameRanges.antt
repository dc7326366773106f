-- Ranges that are the same touch the same lines.
use Rattle.std.specs.Prelude.{nat_lt}
use Rattle.std.proofs.Common.{◌≡◌, ℕ, ◌<◌, ◌≤◌, max, ◌||◌, List, [], ◌∷◌, ◌++◌, filter, refl, ap, sym, ◌∙◌, ⊎_elim, arith}
use Rattle.std.proofs.lemmas.Bool.{cases_lt, lt-ltb, le-ltb, ltb-true}
use Rattle.std.proofs.lemmas.List.Folds.{list_any-append}
use Rattle.std.specs.List.{list_any, flat_map}
use Rattle.prem_plant.specs.Places.{Extent}
use Rattle.prem_layout.specs.Footprint.{touches, line_end, last_line_end, numbers_from, lines_of}
use Rattle.prem_wcet.specs.Same.{AreSame}

pub same_append : (xs ys us vs : List Extent) → AreSame xs ys → AreSame us vs → AreSame (xs ++ us) (ys ++ vs)
same_append xs ys us vs e f = λ p. list_any-append p xs us ∙ ap (λ b. b || list_any p us) (e p) ∙ ap (λ b. list_any p ys || b) (f p) ∙ sym (list_any-append p ys vs)

pub same_flat : (f g : ℕ → List Extent) → ((n : ℕ) → AreSame (f n) (g n)) → (ns : List ℕ) → AreSame (flat_map f ns) (flat_map g ns)
same_flat f g each [] = λ p. refl
same_flat f g each (n ∷ ns) = same_append (f n) (g n) (flat_map f ns) (flat_map g ns) (each n) (same_flat f g each ns)

-- ---- lines

-- some range ends behind a line
below_last : (line k : ℕ) (rs : List Extent) → nat_lt k (last_line_end line rs) ≡ list_any (λ (r : Extent). nat_lt k (line_end line r)) rs
below_last line k [] = le-ltb k 0 (omega arith)
below_last line k (r ∷ rs) = below_max k (line_end line r) (last_line_end line rs) ∙ ap (λ b. nat_lt k (line_end line r) || b) (below_last line k rs) where
  below_max : (k a b : ℕ) → nat_lt k (max a b) ≡ (nat_lt k a || nat_lt k b)
  below_max k a b = ⊎_elim
      (λ (l : k < a). lt-ltb k (max a b) (omega arith) ∙ ap (λ x. x || nat_lt k b) (sym (lt-ltb k a l)))
      (λ (ge : a ≤ k). ⊎_elim
      (λ (l : k < b). lt-ltb k (max a b) (omega arith) ∙ sym (ap (λ x. x || nat_lt k b) (le-ltb k a ge) ∙ lt-ltb k b l))
      (λ (gb : b ≤ k). le-ltb k (max a b) (omega arith) ∙ sym (ap (λ x. x || nat_lt k b) (le-ltb k a ge) ∙ le-ltb k b gb))
      (cases_lt k b))
      (cases_lt k a)

-- numbers with the same ones below them
same_bound : (a b : ℕ) → ((k : ℕ) → nat_lt k a ≡ nat_lt k b) → a ≡ b
same_bound a b same = ⊎_elim
    (λ (l : a < b). absurd (let m : a < a = ltb-true a a (same a ∙ lt-ltb a b l) in omega (arith, m)))
    (λ (ge : b ≤ a). ⊎_elim
    (λ (l : b < a). absurd (let m : b < b = ltb-true b b (sym (same b) ∙ lt-ltb b a l) in omega (arith, m)))
    (λ (le : a ≤ b). omega (arith, ge, le))
    (cases_lt b a))
    (cases_lt a b)

pub same_end : (line : ℕ) (xs ys : List Extent) → AreSame xs ys → last_line_end line xs ≡ last_line_end line ys
same_end line xs ys same =
    same_bound (last_line_end line xs) (last_line_end line ys) (λ k. below_last line k xs ∙ same (λ (r : Extent). nat_lt k (line_end line r)) ∙ sym (below_last line k ys))

pub same_lines : (line : ℕ) (xs ys : List Extent) → AreSame xs ys → lines_of line xs ≡ lines_of line ys
same_lines line xs ys same = λ i. filter (λ n. same (touches line n) i) (numbers_from 0 (same_end line xs ys same i))
