-- Tokens of a text can be spelled, and so can the canonical ones of its tree.
use Rattle.std.proofs.Common.{◌≡◌, ◌≤◌, ℕ, ℤ, pos, neg_ℤ, zero, suc, nat_lt, int_lt, unsigned_abs, Bool, true, false, if◌then◌else◌, List, [], ◌∷◌, ◌++◌, Some, refl, sym, subst, arith}
use Rattle.prem_text.proofs.Prelude.{number_lexeme, constant_lexemes, IsRow, name_or_none, name_at, Slot, a_name, is_name, fits, text_of, value_of, value_at, Lexeme, name, number, word}
use Rattle.prem_text.proofs.Prelude.{mark, end_of_text, Seen, Divides, up_to, gap, token, AreTokens, Spells, as_name, as_word, as_literal, as_mark, Literal, as_int, as_large, as_suffixed}
use Rattle.prem_text.proofs.Prelude.{Int, Unsigned, nat_tests}
use Rattle.prem_text.proofs.GrammarLemmas.Taken.{nth}

-- ---- lexemes

abbrev pub IsSayable : Lexeme → Type 0
IsSayable (name x) = Spells x (name x)
IsSayable (number value Int) = value ≤ 2147483647
IsSayable (number value Unsigned) = value ≤ 4294967295
IsSayable _ = Unit {0}

-- names and literals are spelled, and the end of the text isn't among them
abbrev pub AreSayable : List Lexeme → Type 0
AreSayable [] = Unit {0}
AreSayable (name x ∷ xs) = IsSayable (name x) × AreSayable xs
AreSayable (number value kind ∷ xs) = IsSayable (number value kind) × AreSayable xs
AreSayable (word k ∷ xs) = AreSayable xs
AreSayable (mark k ∷ xs) = AreSayable xs
AreSayable (end_of_text ∷ xs) = ⊥

pub both : (xs ys : List Lexeme) → AreSayable xs → AreSayable ys → AreSayable (xs ++ ys)
both [] ys p q = q
both (name x ∷ xs) ys p q = (p.0, both xs ys p.1 q)
both (number value kind ∷ xs) ys p q = (p.0, both xs ys p.1 q)
both (word k ∷ xs) ys p q = both xs ys p q
both (mark k ∷ xs) ys p q = both xs ys p q
both (end_of_text ∷ xs) ys p q = absurd p

-- ---- tokens of a text

abbrev pub AreSaid : List Seen → Type 0
AreSaid [] = Unit {0}
AreSaid (t ∷ ts) = IsSayable t.0 × AreSaid ts

pub front : (ts us : List Seen) → AreSaid (ts ++ us) → AreSaid ts
front [] us p = tt
front (t ∷ ts) us p = (p.0, front ts us p.1)

pub back : (ts us : List Seen) → AreSaid (ts ++ us) → AreSaid us
back [] us p = p
back (t ∷ ts) us p = back ts us p.1

said_append : (ts us : List Seen) → AreSaid ts → AreSaid us → AreSaid (ts ++ us)
said_append [] us p q = q
said_append (t ∷ ts) us p q = (p.0, said_append ts us p.1 q)

literal_said : (bytes : List ℕ) (value : ℕ) (kind : _) → Literal bytes value kind → IsSayable (number value kind)
literal_said _ _ _ (as_int hex digits n d le) = le
literal_said _ _ _ (as_large digits n d above le) = le
literal_said _ _ _ (as_suffixed hex digits n u d is le) = le

spelled_said : (bytes : List ℕ) (t : Lexeme) → Spells bytes t → IsSayable t
spelled_said _ _ (as_name b rest first more le free) = as_name b rest first more le free
spelled_said _ _ (as_word bytes k is) = tt
spelled_said _ _ (as_literal bytes n kind is) = literal_said bytes n kind is
spelled_said _ _ (as_mark bytes k is) = tt

divides_said : (before text : List ℕ) (ts : List Seen) (rest : List ℕ) → Divides before text ts rest → AreSaid ts
divides_said _ _ _ _ (up_to before rest) = tt
divides_said _ _ _ _ (gap before bytes text ts rest is more) = divides_said _ _ _ _ more
divides_said _ _ _ _ (token before bytes text t ts rest is more) = (spelled_said bytes t is.spells, divides_said _ _ _ _ more)

pub tokens_said : (text : List ℕ) (all : List Seen) → AreTokens text all → AreSaid all
tokens_said text all is = subst AreSaid (sym is.is_all) (said_append is.tokens _ (divides_said _ _ _ _ is.divides) (tt, tt))

-- ---- rows

named : (t : Lexeme) → is_name t ≡ true → IsSayable t → IsSayable (name (name_or_none (text_of t)))
named (name x) is p = p
named (number value kind) is p = absurd cc
named (word k) is p = absurd cc
named (mark k) is p = absurd cc
named end_of_text is p = absurd cc

pub name_said : (n : ℕ) (slots : List Slot) (ts : List Seen) → nth n slots ≡ Some a_name → IsRow slots ts → AreSaid ts → IsSayable (name (name_at n ts))
name_said n [] ts is right p = absurd cc
name_said n (s ∷ slots) [] is right p = absurd right
name_said zero (s ∷ slots) (t ∷ ts) is right p =
    let slot : s ≡ a_name = cc in
    named t.0 (subst (λ (x : Slot). fits x t.0 ≡ true) slot right.0) p.0
name_said (suc n) (s ∷ slots) (t ∷ ts) is right p = name_said n slots ts is right.1 p.1

value_small : (t : Lexeme) → IsSayable t → value_of t ≤ 4294967295
value_small (number value Int) p = omega (arith, p)
value_small (number value Unsigned) p = p
value_small (name x) p = omega arith
value_small (word k) p = omega arith
value_small (mark k) p = omega arith
value_small end_of_text p = omega arith

pub value_bound : (n : ℕ) (ts : List Seen) → AreSaid ts → value_at n ts ≤ 4294967295
value_bound n [] p = omega arith
value_bound zero (t ∷ ts) p = value_small t.0 p.0
value_bound (suc n) (t ∷ ts) p = value_bound n ts p.1

-- ---- numbers

number_by : (b : Bool) (n : ℕ) → nat_lt 2147483647 n ≡ b → n ≤ 4294967295 → IsSayable (number n (if b then Unsigned else Int))
number_by true n is le = le
number_by false n is le = let small : n ≤ 2147483647 = grind (arith, nat_tests) in small

pub number_said : (n : ℕ) → n ≤ 4294967295 → IsSayable (number_lexeme n)
number_said n le = number_by (nat_lt 2147483647 n) n refl le

pub value_said : (n : ℕ) (ts : List Seen) → AreSaid ts → IsSayable (number_lexeme (value_at n ts))
value_said n ts p = number_said (value_at n ts) (value_bound n ts p)

constant_by : (b : Bool) (z : ℤ) → unsigned_abs z ≤ 4294967295 → int_lt z (pos 0) ≡ b → AreSayable (constant_lexemes z)
constant_by true z le is = rw is (number_said (unsigned_abs z) le, tt)
constant_by false z le is = rw is (number_said (unsigned_abs z) le, tt)

pub constant_said : (z : ℤ) → unsigned_abs z ≤ 4294967295 → AreSayable (constant_lexemes z)
constant_said z le = constant_by (int_lt z (pos 0)) z le refl

pub abs_negated : (n : ℕ) → unsigned_abs (neg_ℤ (pos n)) ≡ n
abs_negated zero = refl
abs_negated (suc n) = refl

-- ---- lists

abbrev pub Each : {X : Type 0} → (X → List Lexeme) → List X → Type 0
Each f [] = Unit {0}
Each f (x ∷ xs) = AreSayable (f x) × Each f xs

pub each_last : {X : Type 0} → (f : X → List Lexeme) (xs : List X) (x : X) → Each f xs → AreSayable (f x) → Each f (xs ++ x ∷ [])
each_last f [] x p q = (q, tt)
each_last f (y ∷ ys) x p q = (p.0, each_last f ys x p.1 q)
