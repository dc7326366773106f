-- The tokens of a row, by their number.
use Rattle.std.proofs.Common.{◌≡◌, ◌≤◌, ◌<◌, ℕ, zero, suc, List, [], ◌∷◌, length, get_or, map, None, refl, arith, false}
use Rattle.prem_text.specs.declared.lexing.token.token.Spotted.{Spotted}
use Rattle.prem_text.specs.Lexing.Token.Lexeme.{lexeme_of, seen_of}
use Rattle.prem_text.specs.Grammar.Slots.{Slot, fits, is_less_equal, text_of, value_of, text_at, value_at, place_at, slot_at}
use Rattle.prem_text.specs.Grammar.Statement.{is_at_most}

pub text_at_within : (n : ℕ) (ts : List Spotted) (d : Spotted) → n < length ts → text_at n (map seen_of ts) ≡ text_of (lexeme_of (get_or ts n d).token)
text_at_within n [] d within = absurd (omega arith)
text_at_within zero (t ∷ ts) d within = refl
text_at_within (suc n) (t ∷ ts) d within = text_at_within n ts d (omega arith)

pub text_at_past : (n : ℕ) (ts : List Spotted) → length ts ≤ n → text_at n (map seen_of ts) ≡ None
text_at_past n [] past = refl
text_at_past zero (t ∷ ts) past = absurd (omega arith)
text_at_past (suc n) (t ∷ ts) past = text_at_past n ts (omega arith)

pub value_at_within : (n : ℕ) (ts : List Spotted) (d : Spotted) → n < length ts → value_at n (map seen_of ts) ≡ value_of (lexeme_of (get_or ts n d).token)
value_at_within n [] d within = absurd (omega arith)
value_at_within zero (t ∷ ts) d within = refl
value_at_within (suc n) (t ∷ ts) d within = value_at_within n ts d (omega arith)

pub value_at_past : (n : ℕ) (ts : List Spotted) → length ts ≤ n → value_at n (map seen_of ts) ≡ 0
value_at_past n [] past = refl
value_at_past zero (t ∷ ts) past = absurd (omega arith)
value_at_past (suc n) (t ∷ ts) past = value_at_past n ts (omega arith)

pub place_at_within : (n : ℕ) (ts : List Spotted) (d : Spotted) → n < length ts → place_at n (map seen_of ts) ≡ (get_or ts n d).at
place_at_within n [] d within = absurd (omega arith)
place_at_within zero (t ∷ ts) d within = refl
place_at_within (suc n) (t ∷ ts) d within = place_at_within n ts d (omega arith)

pub place_at_past : (n : ℕ) (ts : List Spotted) → length ts ≤ n → place_at n (map seen_of ts) ≡ record { line = 0; col = 0 }
place_at_past n [] past = refl
place_at_past zero (t ∷ ts) past = absurd (omega arith)
place_at_past (suc n) (t ∷ ts) past = place_at_past n ts (omega arith)

pub slot_at_within : (n : ℕ) (s : Slot) (ts : List Spotted) (d : Spotted) → n < length ts → slot_at n s (map seen_of ts) ≡ fits s (lexeme_of (get_or ts n d).token)
slot_at_within n s [] d within = absurd (omega arith)
slot_at_within zero s (t ∷ ts) d within = refl
slot_at_within (suc n) s (t ∷ ts) d within = slot_at_within n s ts d (omega arith)

pub slot_at_past : (n : ℕ) (s : Slot) (ts : List Spotted) → length ts ≤ n → slot_at n s (map seen_of ts) ≡ false
slot_at_past n s [] past = refl
slot_at_past zero s (t ∷ ts) past = absurd (omega arith)
slot_at_past (suc n) s (t ∷ ts) past = slot_at_past n s ts (omega arith)

pub is_at_most_last : (ts : List Spotted) (n : ℕ) (d : Spotted) → length ts ≡ suc n → is_at_most (map seen_of ts) ≡ is_less_equal (lexeme_of (get_or ts n d).token)
is_at_most_last [] n d is = absurd (omega arith)
is_at_most_last (t ∷ []) zero d is = refl
is_at_most_last (t ∷ []) (suc n) d is = absurd (omega arith)
is_at_most_last (t ∷ u ∷ ts) zero d is = absurd (omega arith)
is_at_most_last (t ∷ u ∷ ts) (suc n) d is = is_at_most_last (u ∷ ts) n d (omega arith)
