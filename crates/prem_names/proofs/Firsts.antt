-- The first numbers of names, where one name more comes.
use Rattle.std.specs.Borrow.{Bor}
use Rattle.std.specs.Str.{bytes_eq}
use Rattle.std.specs.Map.{lookup}
use Rattle.std.proofs.Common.{◌≡◌, ◌<◌, ℕ, suc, Bool, true, false, cond, List, [], ◌∷◌, ◌++◌, ◌||◌, length, option_copied, Option, None, Some, option_map, IfSome, is_some, is_none}
use Rattle.std.proofs.Common.{true≢false, refl, sym, ap, ◌∙◌, arith, subst}
use Rattle.std.proofs.lemmas.Slice.Eq.{bytes_eq-Decides}
use Rattle.std.proofs.lemmas.List.{length-map, map_push}
use Rattle.indexmap.specs.IndexMap.{IndexMap, insert_entry}
use Rattle.indexmap.proofs.CallerLemmas.{insert_entry-new}
use Rattle.prem_syntax.specs.Syntax.{Text}
use Rattle.prem_syntax.specs.Breaches.{has_name}
use Rattle.prem_names.specs.Numbers.{number_of, texts_in, with_first, AreFirsts}

-- the first one that is there
abbrev or_else : {A : Type 0} → Option A → Option A → Option A
or_else (Some a) other = Some a
or_else None other = other

-- a number below a length, where there is one
pub within_names : (names : List Text) (w : Text) → IfSome (number_of names w) (λ n. n < length names)
within_names [] w = tt
within_names (x ∷ xs) w = by (bytes_eq x w) (number_of xs w) (within_names xs w)
  where
    by : (b : Bool) (o : Option ℕ) → IfSome o (λ n. n < length xs) → IfSome (cond b (Some 0) (option_map suc o)) (λ n. n < suc (length xs))
    by true o h = omega arith
    by false None h = tt
    by false (Some n) h = omega (arith, h)

pub has_number : (names : List Text) (w : Text) → is_some (number_of names w) ≡ has_name names w
has_number [] w = refl
has_number (x ∷ xs) w = by (bytes_eq x w) (number_of xs w) (has_number xs w)
  where
    by : (b : Bool) (o : Option ℕ) → is_some o ≡ has_name xs w → is_some (cond b (Some 0) (option_map suc o)) ≡ (b || has_name xs w)
    by true o h = refl
    by false None h = h
    by false (Some n) h = h

-- one name more
number-append : (names : List Text) (k w : Text) → number_of (names ++ k ∷ []) w ≡ or_else (number_of names w) (cond (bytes_eq k w) (Some (length names)) None)
number-append [] k w = refl
number-append (x ∷ xs) k w = by (bytes_eq x w) (number_of xs w) (bytes_eq k w) (number_of (xs ++ k ∷ []) w) (number-append xs k w)
  where
    by : (b : Bool) (o : Option ℕ) (t : Bool) (all : Option ℕ) → all ≡ or_else o (cond t (Some (length xs)) None) →
        cond b (Some 0) (option_map suc all) ≡ or_else (cond b (Some 0) (option_map suc o)) (cond t (Some (suc (length xs))) None)
    by true o t all h = refl
    by false (Some n) t all h = ap (option_map suc) h
    by false None true all h = ap (option_map suc) h
    by false None false all h = ap (option_map suc) h

lookup-append : (test : Bor Text → Bool) (es : List (Bor Text × ℕ)) (k : Bor Text) (v : ℕ) →
    lookup test (es ++ (k, v) ∷ []) ≡ or_else (lookup test es) (cond (test k) (Some v) None)
lookup-append test [] k v = refl
lookup-append test (e ∷ es) k v = by (test e.0) (lookup-append test es k v)
  where
    by : (b : Bool) → lookup test (es ++ (k, v) ∷ []) ≡ or_else (lookup test es) (cond (test k) (Some v) None) →
        cond b (Some e.1) (lookup test (es ++ (k, v) ∷ [])) ≡ or_else (cond b (Some e.1) (lookup test es)) (cond (test k) (Some v) None)
    by true h = refl
    by false h = h

turned : (a b : Text) → bytes_eq a b ≡ bytes_eq b a
turned a b = by (bytes_eq a b) (bytes_eq b a) refl refl
  where
    by : (s t : Bool) → bytes_eq a b ≡ s → bytes_eq b a ≡ t → s ≡ t
    by true true p q = refl
    by false false p q = refl
    by true false p q = sym ((bytes_eq-Decides b a).1 (sym ((bytes_eq-Decides a b).0 p))) ∙ q
    by false true p q = sym p ∙ (bytes_eq-Decides a b).1 (sym ((bytes_eq-Decides b a).0 q))

-- an entry that is put behind the others, since there was none of its spelling
pub put_new : {S : Type 0} (m : IndexMap (Bor Text) ℕ S) (k : Bor Text) (n : ℕ) (found : Option (Bor ℕ)) (put : List (Bor Text × ℕ)) →
    option_copied found ≡ lookup (λ x. bytes_eq k.now x.now) m.entries → is_none found ≡ true → put ≡ insert_entry (λ a b. bytes_eq a.now b.now) m.entries k n →
    put ≡ with_first m.entries k n
put_new m k n (Some v) put h none is = absurd (true≢false (sym none))
put_new m k n None put h none is =
    is ∙ insert_entry-new (λ a b. bytes_eq a.now b.now) m k n (sym h) ∙ ap (λ o. cond (is_none o) (m.entries ++ (k, n) ∷ []) m.entries) h

-- a spelling that is there keeps its first number
kept : (es : List (Bor Text × ℕ)) (names : List Text) (k : Text) → AreFirsts es names → is_none (number_of names k) ≡ false → AreFirsts es (names ++ k ∷ [])
kept es names k firsts there = λ w.
    firsts w ∙ by w (number_of names w) (bytes_eq k w) refl refl ∙ sym (number-append names k w)
  where
    by : (w : Text) (o : Option ℕ) (t : Bool) → number_of names w ≡ o → bytes_eq k w ≡ t → number_of names w ≡ or_else (number_of names w) (cond (bytes_eq k w) (Some (length names)) None)
    by w (Some m) t p q = rw p refl
    by w None false p q = rw (p, q) refl
    by w None true p q = absurd (true≢false (sym (ap is_none (ap (number_of names) ((bytes_eq-Decides k w).0 q) ∙ p)) ∙ there))

-- a new one has the number behind the others
more : (es : List (Bor Text × ℕ)) (names : List Text) (k : Bor Text) → AreFirsts es names → AreFirsts (es ++ (k, length names) ∷ []) (names ++ k.now ∷ [])
more es names k firsts = λ w.
    lookup-append (λ n. bytes_eq w n.now) es k (length names)
    ∙ (λ i. or_else (firsts w i) (cond (turned w k.now i) (Some (length names)) None))
    ∙ sym (number-append names k.now w)

pub firsts_put : (es : List (Bor Text × ℕ)) (names : List (Bor Text)) (k : Bor Text) → AreFirsts es (texts_in names) → AreFirsts (with_first es k (length names)) (texts_in (names ++ k ∷ []))
firsts_put es names k firsts =
    subst (AreFirsts (with_first es k (length names))) (sym (map_push (λ n. n.now) names k)) (by (is_none (lookup (λ n. bytes_eq k.now n.now) es)) refl)
  where
    count : length (texts_in names) ≡ length names
    count = length-map names (λ n. n.now)

    by : (b : Bool) → is_none (lookup (λ n. bytes_eq k.now n.now) es) ≡ b → AreFirsts (cond b (es ++ (k, length names) ∷ []) es) (texts_in names ++ k.now ∷ [])
    by true p = subst (λ n. AreFirsts (es ++ (k, n) ∷ []) (texts_in names ++ k.now ∷ [])) count (more es (texts_in names) k firsts)
    by false p = kept es (texts_in names) k.now firsts (sym (ap is_none (firsts k.now)) ∙ p)
