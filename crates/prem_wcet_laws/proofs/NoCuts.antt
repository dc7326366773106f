-- Lists of callees without a marked call.
use Rattle.std.proofs.Common.{◌≡◌, ℕ, sym, ◌∙◌, refl, ap, false, true, Bool, ◌||◌, List, [], ◌∷◌, ◌++◌}
use Rattle.prem_wcet_laws.proofs.Prelude.{list_any-append, list_any}

pub none_first : (a b : Bool) → (a || b) ≡ false → a ≡ false
none_first true b h = cc
none_first false b h = refl

pub none_second : (a b : Bool) → (a || b) ≡ false → b ≡ false
none_second true b h = cc
none_second false b h = h

pub none_left : (p : ℕ → Bool) (xs ys : List ℕ) → list_any p (xs ++ ys) ≡ false → list_any p xs ≡ false
none_left p xs ys h = none_first _ _ (sym (list_any-append p xs ys) ∙ h)

pub none_right : (p : ℕ → Bool) (xs ys : List ℕ) → list_any p (xs ++ ys) ≡ false → list_any p ys ≡ false
none_right p xs ys h = none_second _ _ (sym (list_any-append p xs ys) ∙ h)

-- of a statement alone, and of those behind it
pub none_loop : (p : ℕ → Bool) (xs ys : List ℕ) → list_any p (xs ++ []) ≡ false → list_any p ys ≡ false → list_any p (xs ++ ys) ≡ false
none_loop p [] ys h more = more
none_loop p (x ∷ xs) ys h more = ap (λ b. b || list_any p (xs ++ ys)) (none_first _ _ h) ∙ none_loop p xs ys (none_second _ _ h) more

pub none_choice : (p : ℕ → Bool) (xs ys zs : List ℕ) → list_any p (xs ++ (ys ++ [])) ≡ false → list_any p zs ≡ false → list_any p (xs ++ (ys ++ zs)) ≡ false
none_choice p [] ys zs h more = none_loop p ys zs h more
none_choice p (x ∷ xs) ys zs h more = ap (λ b. b || list_any p (xs ++ (ys ++ zs))) (none_first _ _ h) ∙ none_choice p xs ys zs (none_second _ _ h) more
