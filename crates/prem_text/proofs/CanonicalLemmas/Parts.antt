-- Tokens at places whose lexemes stand in parts.
use Rattle.std.proofs.Common.{◌≡◌, ℕ, zero, suc, Bool, true, false, List, [], ◌∷◌, ◌++◌, Option, None, refl, ap, sym, ◌∙◌, append_assoc, map, ◌&&◌}
use Rattle.prem_text.proofs.Prelude.{Text, Place, IsRow, name_or_none, name_at, Slot, fits, text_of, value_of, text_at, value_at, place_at, Lexeme, Seen, and_parts}

-- tokens are these lexemes, each at some place
pub data Are : List Lexeme → List Seen → Type 0 where
  none : Are [] []
  next : (x : Lexeme) (at : Place) (xs : List Lexeme) (ts : List Seen) → Are xs ts → Are (x ∷ xs) ((x, at) ∷ ts)

pub are_own : (ts : List Seen) → Are (map (λ (t : Seen). t.0) ts) ts
are_own [] = none
are_own (t ∷ ts) = next t.0 t.1 _ ts (are_own ts)

pub record Cut (xs ys : List Lexeme) (ts : List Seen) : Type 0 where
  pub front : List Seen
  pub back : List Seen
  pub is : ts ≡ front ++ back
  pub before : Are xs front
  pub behind : Are ys back

pub cut : (xs ys : List Lexeme) (ts : List Seen) → Are (xs ++ ys) ts → Cut xs ys ts
cut [] ys ts are = record { front = []; back = ts; is = refl; before = none; behind = are }
cut (x ∷ xs) ys _ (next _ at _ ts are) =
    let c = cut xs ys ts are in
    record { front = (x, at) ∷ c.front; back = c.back; is = ap (λ (u : List Seen). (x, at) ∷ u) c.is; before = next x at xs c.front c.before; behind = c.behind }

pub join : {a b c d : List Seen} → a ≡ b → c ≡ d → a ++ c ≡ b ++ d
join p q = λ i. p i ++ q i

-- parts put together again
pub glue : {xs ys : List Lexeme} {ts a b : List Seen} (c : Cut xs ys ts) → a ≡ c.front → b ≡ c.back → a ++ b ≡ ts
glue c p q = join p q ∙ sym c.is

pub single : (x : Lexeme) (ts : List Seen) → Are (x ∷ []) ts → (x, place_at 0 ts) ∷ [] ≡ ts
single x _ (next _ at _ _ none) = refl

-- ---- rows

-- lexemes stand in these slots
abbrev pub all_fit : List Slot → List Lexeme → Bool
all_fit [] [] = true
all_fit [] (x ∷ xs) = false
all_fit (s ∷ slots) [] = false
all_fit (s ∷ slots) (x ∷ xs) = fits s x && all_fit slots xs

pub row : (slots : List Slot) (xs : List Lexeme) (ts : List Seen) → Are xs ts → all_fit slots xs ≡ true → IsRow slots ts
row [] _ _ none fit = tt
row [] _ _ (next x at xs ts are) fit = absurd cc
row (s ∷ slots) _ _ none fit = absurd cc
row (s ∷ slots) _ _ (next x at xs ts are) fit = let parts = and_parts (fits s x) (all_fit slots xs) fit in (parts.0, row slots xs ts are parts.1)

abbrev pub text_in : ℕ → List Lexeme → Option Text
text_in n [] = None
text_in zero (x ∷ xs) = text_of x
text_in (suc n) (x ∷ xs) = text_in n xs

abbrev pub value_in : ℕ → List Lexeme → ℕ
value_in n [] = 0
value_in zero (x ∷ xs) = value_of x
value_in (suc n) (x ∷ xs) = value_in n xs

text_is : (n : ℕ) (xs : List Lexeme) (ts : List Seen) → Are xs ts → text_at n ts ≡ text_in n xs
text_is n _ _ none = refl
text_is zero _ _ (next x at xs ts are) = refl
text_is (suc n) _ _ (next x at xs ts are) = text_is n xs ts are

pub name_is : (n : ℕ) (xs : List Lexeme) (ts : List Seen) → Are xs ts → name_at n ts ≡ name_or_none (text_in n xs)
name_is n xs ts are = ap name_or_none (text_is n xs ts are)

pub value_is : (n : ℕ) (xs : List Lexeme) (ts : List Seen) → Are xs ts → value_at n ts ≡ value_in n xs
value_is n _ _ none = refl
value_is zero _ _ (next x at xs ts are) = refl
value_is (suc n) _ _ (next x at xs ts are) = value_is n xs ts are

-- ---- lists with commas

-- a comma before each part but the first, in place of one behind each but the last
pub regroup : (a b c d q back ts : List Seen) → c ++ d ≡ q ++ back → (b ++ q) ++ back ≡ ts → ((a ++ b) ++ c) ++ d ≡ a ++ ts
regroup a b c d q back ts e is =
    let whole : (a ++ b) ++ (q ++ back) ≡ a ++ ((b ++ q) ++ back) = simp append_assoc in
    append_assoc (a ++ b) c d ∙ ap (λ (u : List Seen). (a ++ b) ++ u) e ∙ whole ∙ ap (λ (u : List Seen). a ++ u) is
