-- How a walk in memory goes on.
use Rattle.std.proofs.Common.{◌≡◌, ◌<◌, ◌≤◌, ℕ, zero, suc, ◌+◌, Bool, true, false, List, [], ◌∷◌, ◌++◌, length, get_or, drop, map, Option, None, Some, refl, sym, ap, ◌∙◌, arith}
use Rattle.std.proofs.Common.{append_assoc, drop-cons, add-one}
use Rattle.std.specs.Prelude.{slice_get, ◌==◌, if◌then◌else◌}
use Rattle.prem_annotating.proofs.Prelude.{order_of, one_if, behind_token, behind_byte, if_begun, by_token, advanced, over, Order, Step, at_token, at_byte, begins, same_place, first_order}
use Rattle.prem_annotating.proofs.Prelude.{rest_if, first_if, tokens_behind, marked, walked, behind, GapMode, TokenPlace, Place, Seen, seen_of, lexeme_of, drop_all, option_map}
use Rattle.prem_annotating.specs.declared.editing.walk.Order.{Order as OrderTree}
use Rattle.prem_annotating.specs.declared.editing.whole.Standing.{Standing}
use Rattle.prem_text.specs.declared.lexing.token.token.Spotted.{Spotted}

-- ---- what comes next in a list

none_next : {A B : Type 0} (f : A → B) (xs : List A) (n : ℕ) → slice_get xs n ≡ None → drop n (map f xs) ≡ []
none_next f [] zero e = refl
none_next f [] (suc n) e = refl
none_next f (x ∷ xs) zero e = cc
none_next f (x ∷ xs) (suc n) e = none_next f xs n e

some_next : {A B : Type 0} (f : A → B) (xs : List A) (n : ℕ) (x : A) → slice_get xs n ≡ Some x → drop n (map f xs) ≡ f x ∷ drop (n + 1) (map f xs)
some_next f [] zero x e = cc
some_next f [] (suc n) x e = cc
some_next f (y ∷ ys) zero x e = let same : y ≡ x = cc in ap (λ z. f z ∷ map f ys) same
some_next f (y ∷ ys) (suc n) x e = let k : suc n + 1 ≡ suc (n + 1) = omega arith in some_next f ys n x e ∙ ap (λ m. f x ∷ drop m (f y ∷ map f ys)) (sym k)

first_there : (orders : List OrderTree) (n : ℕ) → option_map order_of (slice_get orders n) ≡ first_order (drop n (map order_of orders))
first_there orders n = by (slice_get orders n) refl
  where
    by : (o : Option OrderTree) → slice_get orders n ≡ o → option_map order_of (slice_get orders n) ≡ first_order (drop n (map order_of orders))
    by None is = ap (option_map order_of) is ∙ ap first_order (sym (none_next order_of orders n is))
    by (Some x) is = ap (option_map order_of) is ∙ ap first_order (sym (some_next order_of orders n x is))

drop_next : {A : Type 0} (xs : List A) (n : ℕ) → drop 1 (drop n xs) ≡ drop (n + 1) xs
drop_next [] zero = refl
drop_next [] (suc n) = sym (drop_all (suc n + 1) [] (omega arith))
drop_next (x ∷ xs) zero = refl
drop_next (x ∷ xs) (suc n) = let k : suc n + 1 ≡ suc (n + 1) = omega arith in drop_next xs n ∙ ap (λ m. drop m (x ∷ xs)) (sym k)

rest_there : (done : Bool) (os : List Order) (n : ℕ) → rest_if done (drop n os) ≡ drop (n + one_if done) os
rest_there true os n = drop_next os n
rest_there false os n = let k : n ≡ n + 0 = omega arith in ap (λ m. drop m os) k

-- ---- the walk by numbers is the walk by lists

abbrev over_lists : List Spotted → List OrderTree → Place → Standing → List ℕ → List ℕ
over_lists tokens orders at s text = walked s.spot s.mode (drop s.order (map order_of orders)) (marked at (drop s.token (map seen_of tokens)) text)

no_token : (ts : List Seen) (at : Place) (spot : TokenPlace) (mode : GapMode) (os : List Order) (b : ℕ) (rest : List ℕ) → begins at ts ≡ false →
    walked spot mode os (marked at ts (b ∷ rest)) ≡ (at_byte mode b).0 ++ walked spot (at_byte mode b).1 os (marked (behind at b) ts rest)
no_token [] at spot mode os b rest is = refl
no_token (t ∷ ts) at spot mode os b rest is = ap (λ (x : Bool). walked spot mode os ((b, first_if x (t ∷ ts)) ∷ marked (behind at b) (tokens_behind x (t ∷ ts)) rest)) is

one_token : (t : Seen) (ts : List Seen) (at : Place) (spot : TokenPlace) (mode : GapMode) (os : List Order) (b : ℕ) (rest : List ℕ) → same_place t.1 at ≡ true →
    walked spot mode os (marked at (t ∷ ts) (b ∷ rest)) ≡ (at_token spot (first_order os) t.0 b).bytes
    ++ walked (at_token spot (first_order os) t.0 b).behind.spot (at_token spot (first_order os) t.0 b).behind.mode
    (rest_if (at_token spot (first_order os) t.0 b).behind.done os) (marked (behind at b) ts rest)
one_token t ts at spot mode os b rest is = ap (λ (x : Bool). walked spot mode os ((b, first_if x (t ∷ ts)) ∷ marked (behind at b) (tokens_behind x (t ∷ ts)) rest)) is

-- a byte that no token begins with, and one that a token begins with, where the rest is known
passed : (tokens : List Spotted) (orders : List OrderTree) (at : Place) (s : Standing) (b : ℕ) (rest : List ℕ) → begins at (drop s.token (map seen_of tokens)) ≡ false →
    over tokens orders (behind at b) (behind_byte (at_byte s.mode b) s).1 rest ≡ over_lists tokens orders (behind at b) (behind_byte (at_byte s.mode b) s).1 rest →
    (behind_byte (at_byte s.mode b) s).0 ++ over tokens orders (behind at b) (behind_byte (at_byte s.mode b) s).1 rest ≡ over_lists tokens orders at s (b ∷ rest)
passed tokens orders at s b rest off later =
    ap (λ (l : List ℕ). (at_byte s.mode b).0 ++ l) later ∙ sym (no_token (drop s.token (map seen_of tokens)) at s.spot s.mode (drop s.order (map order_of orders)) b rest off)

stepped : (tokens : List Spotted) (orders : List OrderTree) (at : Place) (s : Standing) (b : ℕ) (rest : List ℕ) (t : Spotted) (step : Step) →
    slice_get tokens s.token ≡ Some t → same_place t.at at ≡ true →
    at_token s.spot (first_order (drop s.order (map order_of orders))) (lexeme_of t.token) b ≡ step →
    over tokens orders (behind at b) (behind_token step s).1 rest ≡ over_lists tokens orders (behind at b) (behind_token step s).1 rest →
    (behind_token step s).0 ++ over tokens orders (behind at b) (behind_token step s).1 rest ≡ over_lists tokens orders at s (b ∷ rest)
stepped tokens orders at s b rest t step there same is later =
    let os = drop s.order (map order_of orders) in
    let behind_ts = drop (s.token + 1) (map seen_of tokens) in
    let one = one_token (seen_of t) behind_ts at s.spot s.mode os b rest same in
    let moved : over_lists tokens orders (behind at b) (behind_token step s).1 rest ≡ walked step.behind.spot step.behind.mode (rest_if step.behind.done os) (marked (behind at b) behind_ts rest) =
    ap (λ l. walked step.behind.spot step.behind.mode l (marked (behind at b) behind_ts rest)) (sym (rest_there step.behind.done (map order_of orders) s.order)) in
    ap (λ (l : List ℕ). step.bytes ++ l) (later ∙ moved)
    ∙ sym (ap (λ (l : List Seen). walked s.spot s.mode os (marked at l (b ∷ rest))) (some_next seen_of tokens s.token t there) ∙ one
    ∙ ap (λ (x : Step). x.bytes ++ walked x.behind.spot x.behind.mode (rest_if x.behind.done os) (marked (behind at b) behind_ts rest)) is)

begun : (tokens : List Spotted) (orders : List OrderTree) (at : Place) (s : Standing) (b : ℕ) (rest : List ℕ) (t : Spotted) → slice_get tokens s.token ≡ Some t →
    ((s' : Standing) → over tokens orders (behind at b) s' rest ≡ over_lists tokens orders (behind at b) s' rest) →
    (x : Bool) → same_place t.at at ≡ x → (if_begun x t orders s b).0 ++ over tokens orders (behind at b) (if_begun x t orders s b).1 rest ≡ over_lists tokens orders at s (b ∷ rest)
begun tokens orders at s b rest t there later true same =
    let step = at_token s.spot (option_map order_of (slice_get orders s.order)) (lexeme_of t.token) b in
    stepped tokens orders at s b rest t step there same (ap (λ o. at_token s.spot o (lexeme_of t.token) b) (sym (first_there orders s.order))) (later (behind_token step s).1)
begun tokens orders at s b rest t there later false same =
    passed tokens orders at s b rest (ap (begins at) (some_next seen_of tokens s.token t there) ∙ same) (later (behind_byte (at_byte s.mode b) s).1)

by_next : (tokens : List Spotted) (orders : List OrderTree) (at : Place) (s : Standing) (b : ℕ) (rest : List ℕ) →
    ((s' : Standing) → over tokens orders (behind at b) s' rest ≡ over_lists tokens orders (behind at b) s' rest) →
    (o : Option Spotted) → slice_get tokens s.token ≡ o → (by_token o at orders s b).0 ++ over tokens orders (behind at b) (by_token o at orders s b).1 rest ≡ over_lists tokens orders at s (b ∷ rest)
by_next tokens orders at s b rest later None is = passed tokens orders at s b rest (ap (begins at) (none_next seen_of tokens s.token is)) (later (behind_byte (at_byte s.mode b) s).1)
by_next tokens orders at s b rest later (Some t) is = begun tokens orders at s b rest t is later (same_place t.at at) refl

pub over_is : (tokens : List Spotted) (orders : List OrderTree) (at : Place) (s : Standing) (text : List ℕ) → over tokens orders at s text ≡ over_lists tokens orders at s text
over_is tokens orders at s [] = refl
over_is tokens orders at s (b ∷ rest) = by_next tokens orders at s b rest (λ s'. over_is tokens orders (behind at b) s' rest) (slice_get tokens s.token) refl

-- ---- the loop over a text

-- one byte of it
pub over_next : (tokens : List Spotted) (orders : List OrderTree) (at : Place) (s : Standing) (i : ℕ) (text out out' whole : List ℕ) →
    i < length text → out' ≡ out ++ (advanced tokens orders at s (get_or text i 0)).0 →
    out ++ over tokens orders at s (drop i text) ≡ whole → out' ++ over tokens orders (behind at (get_or text i 0)) (advanced tokens orders at s (get_or text i 0)).1 (drop (i + 1) text) ≡ whole
over_next tokens orders at s i text out out' whole inside is so_far =
    let b = get_or text i 0 in
    let split : drop i text ≡ b ∷ drop (i + 1) text = rw add-one (drop-cons text i 0 inside) in
    let one = (advanced tokens orders at s b).0 in
    let rest = over tokens orders (behind at b) (advanced tokens orders at s b).1 (drop (i + 1) text) in
    ap (λ (l : List ℕ). l ++ rest) is ∙ append_assoc out one rest ∙ ap (λ (l : List ℕ). out ++ over tokens orders at s l) (sym split) ∙ so_far

at_most_one : (n : ℕ) (done : Bool) → n + one_if done ≤ n + 1
at_most_one n true = omega arith
at_most_one n false = omega arith

token_begun : (orders : List OrderTree) (s : Standing) (b : ℕ) (t : Spotted) (x : Bool) → (if_begun x t orders s b).1.token ≤ s.token + 1
token_begun orders s b t true = omega arith
token_begun orders s b t false = omega arith

order_begun : (orders : List OrderTree) (s : Standing) (b : ℕ) (t : Spotted) (x : Bool) → (if_begun x t orders s b).1.order ≤ s.order + 1
order_begun orders s b t true = at_most_one s.order (at_token s.spot (option_map order_of (slice_get orders s.order)) (lexeme_of t.token) b).behind.done
order_begun orders s b t false = omega arith

-- the numbers grow by one at most
pub token_next : (tokens : List Spotted) (orders : List OrderTree) (at : Place) (s : Standing) (b : ℕ) → (advanced tokens orders at s b).1.token ≤ s.token + 1
token_next tokens orders at s b = by (slice_get tokens s.token)
  where
    by : (o : Option Spotted) → (by_token o at orders s b).1.token ≤ s.token + 1
    by None = omega arith
    by (Some t) = token_begun orders s b t (same_place t.at at)

pub order_next : (tokens : List Spotted) (orders : List OrderTree) (at : Place) (s : Standing) (b : ℕ) → (advanced tokens orders at s b).1.order ≤ s.order + 1
order_next tokens orders at s b = by (slice_get tokens s.token)
  where
    by : (o : Option Spotted) → (by_token o at orders s b).1.order ≤ s.order + 1
    by None = omega arith
    by (Some t) = order_begun orders s b t (same_place t.at at)

-- lines and columns grow by one at most

line_by : (at : Place) (x : Bool) → (if x then at.line + 1 else at.line) ≤ at.line + 1
line_by at true = omega arith
line_by at false = omega arith

col_by : (at : Place) (x : Bool) → (if x then 1 else at.col + 1) ≤ at.col + 1
col_by at true = omega arith
col_by at false = omega arith

pub line_next : (at : Place) (b : ℕ) → (behind at b).line ≤ at.line + 1
line_next at b = line_by at (b == 10)

pub col_next : (at : Place) (b : ℕ) → (behind at b).col ≤ at.col + 1
col_next at b = col_by at (b == 10)
