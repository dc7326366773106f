-- Tasks whose words are told one by one.
use Rattle.std.specs.Prelude.{slice_index_or}
use Rattle.std.proofs.Common.{◌≡◌, ℕ, zero, suc, ◌+◌, ◌<◌, List, [], ◌∷◌, ◌++◌, Some, refl, ap, sym, ◌∙◌, subst, arith, length, map, drop, get_or, append_assoc}
use Rattle.std.proofs.lemmas.List.{at_drop_more}
use Rattle.prem_line.specs.declared.failing.Failing.{Failing}
use Rattle.prem_line.specs.declared.failing.Failing.TheVariants.{Refused}
use Rattle.prem_layout.specs.Placed.{name_at}
use Rattle.prem_layout.specs.Rules.{Reach, first_among, reach_rules, over_tasks}
use Rattle.prem_place.specs.Content.Blocks.{Words}
use Rattle.prem_place.specs.Placed.PlacedOf.{placed_of}
use Rattle.prem_place.specs.declared.placed.PlacedTask.{PlacedTask}
use Rattle.prem_place.specs.Verdict.Told.{routines_in, name_in}
use Rattle.prem_place.specs.Flat.Blocks.{names_in}
use Rattle.prem_place.specs.Words.Far.{FarPart, IsFarIn, IsFirstFar, words_in}
use Rattle.prem_place.proofs.VerdictLemmas.Names.{tasks_long, routines_at}
use Rattle.prem_place.proofs.VerdictLemmas.Stages.{stops_at}

-- a task with a jump out of reach is the first
pub first_far : (tasks : List PlacedTask) (n f : ℕ) (t : PlacedTask) → n < length tasks → t ≡ get_or tasks n t →
    reach_rules (placed_of t) ≡ Some (Reach (name_at (placed_of t).task.program.routines f)) →
    f < length (placed_of t).task.program.routines →
    first_among reach_rules n (map placed_of (drop n tasks)) ≡ over_tasks reach_rules (map placed_of tasks) →
    IsFirstFar (map placed_of tasks) (record { task = n; function = f })
first_far tasks n f t lt is broken inside rest =
    let routines : routines_in (map placed_of tasks) n ≡ (placed_of t).task.program.routines = routines_at tasks n t lt is in
    let named : reach_rules (placed_of t) ≡ Some (Reach (name_in (map placed_of tasks) n f)) = broken ∙ ap (λ rs. Some (Reach (name_at rs f))) (sym routines) in
    record {
      first = sym (stops_at reach_rules tasks n t (Reach (name_in (map placed_of tasks) n f)) (over_tasks reach_rules (map placed_of tasks)) lt is named rest);
      there = record { task = omega (arith, lt, tasks_long tasks); function = omega (arith, inside, ap length routines) };
    }

-- the words of one more task
pub more_words : {B : Type 0} (f : B → List Words) (tasks : List PlacedTask) (n : ℕ) (t : PlacedTask) (old new : List B) (b : B)
    (whole : List (List Words)) → n < length tasks → t ≡ get_or tasks n t → f b ≡ words_in t →
    new ≡ old ++ b ∷ [] → map f old ++ map words_in (drop n tasks) ≡ whole → map f new ++ map words_in (drop (n + 1) tasks) ≡ whole
more_words f tasks n t old new b whole lt is eb en e =
    ap (λ bs. map f bs ++ map words_in (drop (n + 1) tasks)) en ∙ ap (λ ws. ws ++ map words_in (drop (n + 1) tasks)) (mapped old)
    ∙ append_assoc (map f old) (f b ∷ []) (map words_in (drop (n + 1) tasks))
    ∙ ap (λ w. map f old ++ (w ∷ map words_in (drop (n + 1) tasks))) (eb ∙ ap words_in is)
    ∙ ap (λ ws. map f old ++ ws) (sym (at_drop_more (λ (ts : List PlacedTask). map words_in ts) tasks n t lt)) ∙ e
  where
    mapped : (xs : List _) → map f (xs ++ b ∷ []) ≡ map f xs ++ f b ∷ []
    mapped [] = refl
    mapped (x ∷ xs) = ap (λ ws. f x ∷ ws) (mapped xs)

same_item : (tasks : List PlacedTask) (n : ℕ) (a b : PlacedTask) → n < length tasks → a ≡ get_or tasks n a → b ≡ get_or tasks n b → a ≡ b
same_item [] n a b lt ia ib = absurd (omega arith)
same_item (x ∷ xs) zero a b lt ia ib = ia ∙ sym ib
same_item (x ∷ xs) (suc n) a b lt ia ib = same_item xs n a b (omega arith) ia ib

-- where a part of a task is told as far, and a function has its name
pub first_part : (tasks : List PlacedTask) (n f part : ℕ) (a b : PlacedTask) (e : Failing ℕ) → n < length tasks → a ≡ get_or tasks n a → b ≡ get_or tasks n b → e ≡ Refused part → IsFarIn (placed_of a) e →
    name_at (placed_of b).task.program.routines f ≡ slice_index_or (names_in (placed_of b)) part [] → f < length (placed_of b).task.program.routines →
    first_among reach_rules n (map placed_of (drop n tasks)) ≡ over_tasks reach_rules (map placed_of tasks) → IsFirstFar (map placed_of tasks) (record { task = n; function = f })
first_part tasks n f part a b e lt ia ib is far named inside rest =
    let here : FarPart (placed_of a) part = subst (IsFarIn (placed_of a)) is far in
    let there : FarPart (placed_of b) part = subst (λ (q : PlacedTask). FarPart (placed_of q) part) (same_item tasks n a b lt ia ib) here in
    first_far tasks n f b lt ib (there.first ∙ ap (λ name. Some (Reach name)) (sym named)) inside rest
