-- Marks: the one that is read is the longest.
use Rattle.std.proofs.Common.{◌≡◌, ◌≤◌, ℕ, Bool, true, false, List, [], ◌∷◌, ◌++◌, length, Option, None, Some, refl, sym, ap, subst, ◌∙◌, arith, nat_le, ◌&&◌, ◌==◌, not, slice_index, eq-eqb}
use Rattle.std.proofs.Common.{eqb-true, leb-true, inl, inr, if◌then◌else◌}
use Rattle.std.specs.Prelude.{◌⊎◌}
use Rattle.prem_text.proofs.Prelude.{marks, begins, mark_in, longest_mark, Lexeme, mark, is_name_byte, is_blank, is_printable, StandsIn, at_front, further, every, Spells, as_mark, Mark}
use Rattle.prem_text.proofs.Prelude.{and_parts, and_from, nat_tests}
use Rattle.prem_text.proofs.SpellingLemmas.Tables.{stands_every, stands_none, split, pair_is, distinct, one_value}

abbrev pub is_mark_byte : ℕ → Bool
is_mark_byte b = not (is_name_byte b) && not (is_blank b) && is_printable b

-- a mark has one or two bytes
abbrev pub is_mark_text : List ℕ → Bool
is_mark_text [] = false
is_mark_text (a ∷ []) = is_mark_byte a
is_mark_text (a ∷ b ∷ []) = is_mark_byte a && is_mark_byte b
is_mark_text (a ∷ b ∷ c ∷ rest) = false

-- longer ones stand first
abbrev ordered : List (List ℕ × Mark) → Bool
ordered [] = true
ordered (x ∷ xs) = every (λ (y : List ℕ × Mark). nat_le (length y.0) (length x.0)) xs && ordered xs

marks_distinct : distinct marks ≡ true
marks_distinct = refl

marks_ordered : ordered marks ≡ true
marks_ordered = refl

marks_are_texts : every (λ (x : List ℕ × Mark). is_mark_text x.0) marks ≡ true
marks_are_texts = refl

pub mark_text : (bytes : List ℕ) (m : Mark) → StandsIn (bytes, m) marks → is_mark_text bytes ≡ true
mark_text bytes m there = stands_every (λ (x : List ℕ × Mark). is_mark_text x.0) (bytes, m) marks there marks_are_texts

-- a row that begins a text, of all such rows the longest
record Longest (xs : List (List ℕ × Mark)) (f g : ℕ) (m : Mark) (k : ℕ) : Type 0 where
  bytes : List ℕ
  there : StandsIn (bytes, m) xs
  starts : begins bytes f g ≡ true
  size : length bytes ≡ k
  longest : (y : List ℕ × Mark) → StandsIn y xs → begins y.0 f g ≡ true → length y.0 ≤ k

first_longest : (x y : List ℕ × Mark) (xs : List (List ℕ × Mark)) → every (λ (z : List ℕ × Mark). nat_le (length z.0) (length x.0)) xs ≡ true → (x ≡ y) ⊎ StandsIn y xs → length y.0 ≤ length x.0
first_longest x y xs all (inl e) = let same = ap (λ (z : List ℕ × Mark). length z.0) e in omega arith
first_longest x y xs all (inr t) = leb-true (length y.0) (length x.0) (stands_every (λ (z : List ℕ × Mark). nat_le (length z.0) (length x.0)) y xs t all)

later_longest : (x y : List ℕ × Mark) (xs : List (List ℕ × Mark)) (f g : ℕ) (m : Mark) (k : ℕ) → begins x.0 f g ≡ false → Longest xs f g m k →
    begins y.0 f g ≡ true → (x ≡ y) ⊎ StandsIn y xs → length y.0 ≤ k
later_longest x y xs f g m k off l is (inl e) =
    let same = ap (λ (z : List ℕ × Mark). begins z.0 f g) e in
    let clash : true ≡ false = sym is ∙ sym same ∙ off in absurd cc
later_longest x y xs f g m k off l is (inr t) = l.longest y t is

found_by : (b : Bool) (x : List ℕ × Mark) (xs : List (List ℕ × Mark)) (f g : ℕ) (r : Mark × ℕ) → begins x.0 f g ≡ b → ordered (x ∷ xs) ≡ true →
    (ordered xs ≡ true → mark_in xs f g ≡ Some r → Longest xs f g r.0 r.1) → (if b then Some (x.1, length x.0) else mark_in xs f g) ≡ Some r → Longest (x ∷ xs) f g r.0 r.1
found_by true x xs f g r e order rec is =
    let value : (x.1, length x.0) ≡ r = cc in
    let parts = and_parts (every (λ (z : List ℕ × Mark). nat_le (length z.0) (length x.0)) xs) (ordered xs) order in
    let here : Longest (x ∷ xs) f g x.1 (length x.0) = record {
      bytes = x.0;
      there = at_front xs;
      starts = e;
      size = refl;
      longest = λ y t begun. first_longest x y xs parts.0 (split y (x ∷ xs) t x xs refl);
    } in
    subst (λ (z : Mark × ℕ). Longest (x ∷ xs) f g z.0 z.1) value here
found_by false x xs f g r e order rec is =
    let parts = and_parts (every (λ (z : List ℕ × Mark). nat_le (length z.0) (length x.0)) xs) (ordered xs) order in
    let l = rec parts.1 is in
    record {
      bytes = l.bytes;
      there = further x xs l.there;
      starts = l.starts;
      size = l.size;
      longest = λ y t begun. later_longest x y xs f g r.0 r.1 e l begun (split y (x ∷ xs) t x xs refl);
    }

mark_found : (xs : List (List ℕ × Mark)) (f g : ℕ) (r : Mark × ℕ) → ordered xs ≡ true → mark_in xs f g ≡ Some r → Longest xs f g r.0 r.1
mark_found [] f g r order is = absurd cc
mark_found (x ∷ xs) f g r order is = found_by (begins x.0 f g) x xs f g r refl order (λ o m. mark_found xs f g r o m) is

none_by : (b : Bool) (x y : List ℕ × Mark) (xs : List (List ℕ × Mark)) (f g : ℕ) → begins x.0 f g ≡ b → (if b then Some (x.1, length x.0) else mark_in xs f g) ≡ None →
    (mark_in xs f g ≡ None → StandsIn y xs → ⊥) → begins y.0 f g ≡ true → (x ≡ y) ⊎ StandsIn y xs → ⊥
none_by true x y xs f g e is rec begun there = cc
none_by false x y xs f g e is rec begun (inl same) =
    let both = ap (λ (z : List ℕ × Mark). begins z.0 f g) same in
    let clash : true ≡ false = sym begun ∙ sym both ∙ e in cc
none_by false x y xs f g e is rec begun (inr t) = rec is t

mark_none : (xs : List (List ℕ × Mark)) (f g : ℕ) (y : List ℕ × Mark) → mark_in xs f g ≡ None → StandsIn y xs → begins y.0 f g ≡ true → ⊥
mark_none [] f g y is there begun = stands_none y there
mark_none (x ∷ xs) f g y is there begun = none_by (begins x.0 f g) x y xs f g refl is (λ m t. mark_none xs f g y m t begun) begun (split y (x ∷ xs) there x xs refl)

-- ---- the first two bytes, and the whole spelling

pub record Front (bytes text : List ℕ) : Type 0 where
  pub rest : List ℕ
  pub parts : text ≡ bytes ++ rest

not_zero : (b : ℕ) → is_mark_byte b ≡ true → (0 == b) ≡ false
not_zero b is = grind (arith, nat_tests)

begins_front : (bytes text : List ℕ) → is_mark_text bytes ≡ true → begins bytes (slice_index text 0) (slice_index text 1) ≡ true → Front bytes text
begins_front [] text is begun = absurd cc
begins_front (a ∷ []) [] is begun = let clash : true ≡ false = sym begun ∙ not_zero a is in absurd cc
begins_front (a ∷ []) (c ∷ cs) is begun = let same = eqb-true c a begun in record { rest = cs; parts = ap (λ (k : ℕ). k ∷ cs) same }
begins_front (a ∷ b ∷ []) [] is begun =
    let clash : true ≡ false = sym (and_parts (0 == a) (0 == b) begun).0 ∙ not_zero a (and_parts (is_mark_byte a) (is_mark_byte b) is).0 in absurd cc
begins_front (a ∷ b ∷ []) (c ∷ []) is begun =
    let clash : true ≡ false = sym (and_parts (c == a) (0 == b) begun).1 ∙ not_zero b (and_parts (is_mark_byte a) (is_mark_byte b) is).1 in absurd cc
begins_front (a ∷ b ∷ []) (c ∷ d ∷ cs) is begun =
    let parts = and_parts (c == a) (d == b) begun in
    let first = eqb-true c a parts.0 in
    let second = eqb-true d b parts.1 in
    record { rest = cs; parts = ap (λ (k : ℕ). k ∷ d ∷ cs) first ∙ ap (λ (k : ℕ). a ∷ k ∷ cs) second }
begins_front (a ∷ b ∷ c ∷ more) text is begun = absurd cc

front_begins : (bytes rest : List ℕ) → is_mark_text bytes ≡ true → begins bytes (slice_index (bytes ++ rest) 0) (slice_index (bytes ++ rest) 1) ≡ true
front_begins [] rest is = absurd cc
front_begins (a ∷ []) rest is = eq-eqb a a refl
front_begins (a ∷ b ∷ []) rest is = and_from (a == a) (b == b) (eq-eqb a a refl) (eq-eqb b b refl)
front_begins (a ∷ b ∷ c ∷ more) rest is = absurd cc

pub same_front : (s t rest later : List ℕ) → s ++ rest ≡ t ++ later → length s ≡ length t → s ≡ t
same_front [] [] rest later e size = refl
same_front [] (b ∷ t) rest later e size = absurd (omega arith)
same_front (a ∷ s) [] rest later e size = absurd (omega arith)
same_front (a ∷ s) (b ∷ t) rest later e size =
    let head : a ≡ b = cc in
    let tails : s ++ rest ≡ t ++ later = cc in
    let more = same_front s t rest later tails (omega arith) in cc

-- ---- what is read, and what is spelled

read_by : (o : Option (Mark × ℕ)) (bytes rest : List ℕ) (m : Mark) → mark_in marks (slice_index (bytes ++ rest) 0) (slice_index (bytes ++ rest) 1) ≡ o → StandsIn (bytes, m) marks →
    ((more later : List ℕ) (u : Lexeme) → bytes ++ rest ≡ more ++ later → Spells more u → length more ≤ length bytes) → o ≡ Some (m, length bytes)
read_by None bytes rest m is there longest = absurd (mark_none marks _ _ (bytes, m) is there (front_begins bytes rest (mark_text bytes m there)))
read_by (Some r) bytes rest m is there longest =
    let l = mark_found marks _ _ r marks_ordered is in
    let front = begins_front l.bytes (bytes ++ rest) (mark_text l.bytes r.0 l.there) l.starts in
    let no_more : length l.bytes ≤ length bytes = longest l.bytes front.rest (mark r.0) front.parts (as_mark l.bytes r.0 l.there) in
    let no_less : length bytes ≤ r.1 = l.longest (bytes, m) there (front_begins bytes rest (mark_text bytes m there)) in
    let size : length l.bytes ≡ r.1 = l.size in
    let equal : length bytes ≡ length l.bytes = omega arith in
    let same : bytes ≡ l.bytes = same_front bytes l.bytes rest front.rest front.parts equal in
    let value : r.0 ≡ m = one_value (l.bytes, r.0) (bytes, m) marks marks_distinct l.there there (sym same) in
    let count : r.1 ≡ length bytes = omega arith in
    ap (λ (x : Mark × ℕ). Some x) (pair_is r m (length bytes) value count)

pub mark_read : (bytes rest : List ℕ) (m : Mark) → StandsIn (bytes, m) marks →
    ((more later : List ℕ) (u : Lexeme) → bytes ++ rest ≡ more ++ later → Spells more u → length more ≤ length bytes) →
    longest_mark (slice_index (bytes ++ rest) 0) (slice_index (bytes ++ rest) 1) ≡ Some (m, length bytes)
unfolding longest_mark
mark_read bytes rest m there longest = read_by (mark_in marks (slice_index (bytes ++ rest) 0) (slice_index (bytes ++ rest) 1)) bytes rest m refl there longest

-- the longest mark at the front of a text
pub record MarkFront (text : List ℕ) (m : Mark) (k : ℕ) : Type 0 where
  pub bytes : List ℕ
  pub rest : List ℕ
  pub parts : text ≡ bytes ++ rest
  pub there : StandsIn (bytes, m) marks
  pub size : length bytes ≡ k
  pub longest : (more later : List ℕ) (n : Mark) → text ≡ more ++ later → StandsIn (more, n) marks → length more ≤ k

pub front_mark : (text : List ℕ) (r : Mark × ℕ) → longest_mark (slice_index text 0) (slice_index text 1) ≡ Some r → MarkFront text r.0 r.1
unfolding longest_mark
front_mark text r is =
    let l = mark_found marks (slice_index text 0) (slice_index text 1) r marks_ordered is in
    let front = begins_front l.bytes text (mark_text l.bytes r.0 l.there) l.starts in
    record {
      bytes = l.bytes;
      rest = front.rest;
      parts = front.parts;
      there = l.there;
      size = l.size;
      longest = λ more later n e there. l.longest (more, n) there
          (subst (λ (t : List ℕ). begins more (slice_index t 0) (slice_index t 1) ≡ true) (sym e) (front_begins more later (mark_text more n there)));
    }
