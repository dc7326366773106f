-- What an index finds among things with names.
use Rattle.std.specs.Str.{bytes_eq}
use Rattle.std.proofs.Common.{◌≡◌, ℕ, suc, ◌+◌, Bool, true, false, cond, List, [], ◌∷◌, map, get_or, Option, None, Some, option_map, is_some, true≢false, refl, ap, ◌∙◌, arith}
use Rattle.prem_syntax.specs.Syntax.{Text}
use Rattle.prem_syntax.specs.Resolve.{find_named}
use Rattle.prem_names.specs.Numbers.{number_of}

module _ {A B : Type 0} (f : A → B) (name_of : B → Text) (w : Text) (d : A) where
  from : (n : ℕ) (xs : List A) → find_named name_of w n (map f xs) ≡ option_map (λ k. (n + k, f (get_or xs k d))) (number_of (map (λ a. name_of (f a)) xs) w)
  from n [] = refl
  from n (x ∷ xs) = by (bytes_eq (name_of (f x)) w) (number_of (map (λ a. name_of (f a)) xs) w) (from (n + 1) xs)
    where
      by : (b : Bool) (o : Option ℕ) → find_named name_of w (n + 1) (map f xs) ≡ option_map (λ k. (n + 1 + k, f (get_or xs k d))) o →
          cond b (Some (n, f x)) (find_named name_of w (n + 1) (map f xs)) ≡ option_map (λ k. (n + k, f (get_or (x ∷ xs) k d))) (cond b (Some 0) (option_map suc o))
      by true o h = ap (λ k. Some (k, f x)) (omega arith)
      by false None h = h
      by false (Some k) h = h ∙ ap (λ j. Some (j, f (get_or xs k d))) (omega arith)

  -- the first thing with a name, where the index has its number
  pub number_found : (xs : List A) (k : ℕ) → number_of (map (λ a. name_of (f a)) xs) w ≡ Some k → find_named name_of w 0 (map f xs) ≡ Some (k, f (get_or xs k d))
  number_found xs k h = from 0 xs ∙ ap (option_map (λ k. (0 + k, f (get_or xs k d)))) h ∙ ap (λ j. Some (j, f (get_or xs k d))) (omega arith)

module _ {A B : Type 0} (f : A → B) (name_of : B → Text) (w : Text) where
  none_from : (n : ℕ) (xs : List A) → number_of (map (λ a. name_of (f a)) xs) w ≡ None → find_named name_of w n (map f xs) ≡ None
  none_from n [] h = refl
  none_from n (x ∷ xs) h = by (bytes_eq (name_of (f x)) w) (number_of (map (λ a. name_of (f a)) xs) w) (none_from (n + 1) xs) h
    where
      by : (b : Bool) (o : Option ℕ) → (o ≡ None → find_named name_of w (n + 1) (map f xs) ≡ None) → cond b (Some 0) (option_map suc o) ≡ None →
          cond b (Some (n, f x)) (find_named name_of w (n + 1) (map f xs)) ≡ None
      by true o h e = absurd (true≢false (ap is_some e))
      by false None h e = h refl
      by false (Some k) h e = absurd (true≢false (ap is_some e))

  pub number_missing : (xs : List A) → number_of (map (λ a. name_of (f a)) xs) w ≡ None → find_named name_of w 0 (map f xs) ≡ None
  number_missing = none_from 0
