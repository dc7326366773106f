-- Rules over tasks, task by task.
use Rattle.std.specs.List.{AllByRecursion}
use Rattle.std.proofs.Common.{◌≡◌, ℕ, zero, suc, ◌+◌, ◌<◌, List, [], ◌∷◌, Option, None, Some, refl, ap, sym, ◌∙◌, subst, arith, length, map, drop, get_or}
use Rattle.std.proofs.lemmas.List.{at_drop_more}
use Rattle.prem_layout.specs.Placed.{Placed}
use Rattle.prem_layout.specs.Rules.{LateRule, Refusal, or_else, refused_by, first_among}
use Rattle.prem_place.specs.Placed.PlacedOf.{placed_of}
use Rattle.prem_place.specs.declared.placed.PlacedTask.{PlacedTask}

step_is : (check : Placed → Option LateRule) (tasks : List PlacedTask) (n : ℕ) (t : PlacedTask) → n < length tasks → t ≡ get_or tasks n t →
    first_among check n (map placed_of (drop n tasks)) ≡ or_else (refused_by (Some n) (check (placed_of t))) (first_among check (n + 1) (map placed_of (drop (n + 1) tasks)))
step_is check tasks n t lt is =
    at_drop_more (λ (ts : List PlacedTask). first_among check n (map placed_of ts)) tasks n t lt
    ∙ ap (λ (q : PlacedTask). or_else (refused_by (Some n) (check (placed_of q))) (first_among check (n + 1) (map placed_of (drop (n + 1) tasks)))) (sym is)

-- a task that breaks the rule is the first
pub stops_at : (check : Placed → Option LateRule) (tasks : List PlacedTask) (n : ℕ) (t : PlacedTask) (rule : LateRule)
    (whole : Option (Refusal LateRule)) → n < length tasks → t ≡ get_or tasks n t → check (placed_of t) ≡ Some rule →
    first_among check n (map placed_of (drop n tasks)) ≡ whole → Some (record { task = Some n; rule = rule }) ≡ whole
stops_at check tasks n t rule whole lt is broken e =
    sym (step_is check tasks n t lt is ∙ ap (λ o. or_else (refused_by (Some n) o) (first_among check (n + 1) (map placed_of (drop (n + 1) tasks)))) broken) ∙ e

-- a task that keeps the rule leaves those behind it
pub passes_at : (check : Placed → Option LateRule) (tasks : List PlacedTask) (n : ℕ) (t : PlacedTask) (whole : Option (Refusal LateRule)) →
    n < length tasks → t ≡ get_or tasks n t → check (placed_of t) ≡ None →
    first_among check n (map placed_of (drop n tasks)) ≡ whole → first_among check (n + 1) (map placed_of (drop (n + 1) tasks)) ≡ whole
passes_at check tasks n t whole lt is kept e =
    sym (step_is check tasks n t lt is ∙ ap (λ o. or_else (refused_by (Some n) o) (first_among check (n + 1) (map placed_of (drop (n + 1) tasks)))) kept) ∙ e

pub all_at : {A : Type 0} (P : A → Type 0) (xs : List A) (i : ℕ) (x : A) → AllByRecursion P xs → i < length xs → x ≡ get_or xs i x → P x
all_at P [] i x h lt is = absurd (omega arith)
all_at P (y ∷ ys) zero x h lt is = subst P (sym is) h.0
all_at P (y ∷ ys) (suc i) x h lt is = all_at P ys i x h.1 (omega arith) is

pub mapped_long : {A B : Type 0} (f : A → B) (xs : List A) → length (map f xs) ≡ length xs
mapped_long f [] = refl
mapped_long f (x ∷ xs) = ap suc (mapped_long f xs)

pub longs_same : {A B C : Type 0} (f : A → C) (g : B → C) (xs : List A) (ys : List B) → map f xs ≡ map g ys → length xs ≡ length ys
longs_same f g xs ys e = sym (mapped_long f xs) ∙ ap length e ∙ mapped_long g ys

-- where lists are the same through functions, items with one number are
pub both_at : {A B C : Type 0} (f : A → C) (g : B → C) (xs : List A) (ys : List B) (i : ℕ) (x : A) (y : B) → map f xs ≡ map g ys → i < length xs →
    i < length ys → x ≡ get_or xs i x → y ≡ get_or ys i y → f x ≡ g y
both_at f g [] ys i x y e lx ly ix iy = absurd (omega arith)
both_at f g (a ∷ rest) [] i x y e lx ly ix iy = absurd (omega arith)
both_at f g (a ∷ rest) (b ∷ bs) zero x y e lx ly ix iy = let h : f a ≡ g b = cc in ap f ix ∙ h ∙ ap g (sym iy)
both_at f g (a ∷ rest) (b ∷ bs) (suc i) x y e lx ly ix iy = let h : map f rest ≡ map g bs = cc in both_at f g rest bs i x y h (omega arith) (omega arith) ix iy

-- an item of a list that is mapped
pub item_of_map : {A B : Type 0} (f : A → B) (xs : List A) (ys : List B) (i : ℕ) (x : A) (y : B) → ys ≡ map f xs → i < length xs → x ≡ get_or xs i x → y ≡ get_or ys i y → y ≡ f x
item_of_map f [] ys i x y e lt ix iy = absurd (omega arith)
item_of_map f (a ∷ rest) ys zero x y e lt ix iy = iy ∙ ap (λ zs. get_or zs 0 y) e ∙ ap f (sym ix)
item_of_map f (a ∷ rest) [] (suc i) x y e lt ix iy = absurd cc
item_of_map f (a ∷ rest) (b ∷ bs) (suc i) x y e lt ix iy = let h : bs ≡ map f rest = cc in item_of_map f rest bs i x y h (omega arith) ix iy
