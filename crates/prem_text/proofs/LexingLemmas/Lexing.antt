-- How the tokens of a text follow from those of its rest.
use Rattle.std.proofs.Common.{◌≡◌, ◌≤◌, ◌<◌, ℕ, suc, ◌+◌, List, [], ◌∷◌, ◌++◌, length, get_or, drop, Option, None, Some, Result, Ok, Err, refl, ap, ◌∙◌, arith, false, nat_lt, sym}
use Rattle.std.proofs.Common.{append_assoc, drop-cons, add-one}
use Rattle.prem_text.proofs.Prelude.{Place, Lexeme, Seen, end_of_text, ◌>>=◌, Fails, place, put, with_front, lex, beginning, tokens_of, Cursor, Mode, Skip, Line, Block, FrontFail, NotText}
use Rattle.prem_text.proofs.Prelude.{Token, Syntax, TooLong, TooDeep, OutOfMemory, nat_tests, drop_all}
use Rattle.prem_text.specs.Lexing.Tokens.{behind, step, at_end}

with_front_twice : (xs ys : List Seen) (r : Result (List Seen) FrontFail) → with_front xs (with_front ys r) ≡ with_front (xs ++ ys) r
with_front_twice xs ys (Ok zs) = ap (λ (ts : List Seen). Ok ts) (sym (append_assoc xs ys zs))
with_front_twice xs ys (Err f) = refl

-- one byte
pub lex_cons : (mode : Mode) (at : Cursor) (room b : ℕ) (rest : List ℕ) →
    lex mode at room (b ∷ rest) ≡ (step mode at (b ∷ rest) >>= λ s. put s.1 at room (λ left. lex s.0 (behind at b) left rest))
unfolding lex
lex_cons mode at room b rest = refl

lex_at : (mode : Mode) (at : Cursor) (room i : ℕ) (text : List ℕ) → i < length text →
    lex mode at room (drop i text) ≡ (step mode at (drop i text) >>= λ s. put s.1 at room (λ left. lex s.0 (behind at (get_or text i 0)) left (drop (i + 1) text)))
lex_at mode at room i text inside =
    let split : drop i text ≡ get_or text i 0 ∷ drop (i + 1) text = rw add-one (drop-cons text i 0 inside) in
    rw split (lex_cons mode at room (get_or text i 0) (drop (i + 1) text))

pub passed : (front : List Seen) (mode next : Mode) (at : Cursor) (room i : ℕ) (text : List ℕ) (total : Result (List Seen) FrontFail) → i < length text →
    step mode at (drop i text) ≡ Ok (next, None) → with_front front (lex mode at room (drop i text)) ≡ total →
    with_front front (lex next (behind at (get_or text i 0)) room (drop (i + 1) text)) ≡ total
passed front mode next at room i text total inside is so_far =
    let one = lex_at mode at room i text inside in
    let here : lex mode at room (drop i text) ≡ lex next (behind at (get_or text i 0)) room (drop (i + 1) text) = one ∙ rw is refl in
    ap (with_front front) (sym here) ∙ so_far

pub taken : (front : List Seen) (mode next : Mode) (t : Lexeme) (at : Cursor) (n room i : ℕ) (text : List ℕ) (total : Result (List Seen) FrontFail) → i < length text → n ≡ suc room →
    step mode at (drop i text) ≡ Ok (next, Some t) → with_front front (lex mode at n (drop i text)) ≡ total →
    with_front (front ++ (t, place at) ∷ []) (lex next (behind at (get_or text i 0)) room (drop (i + 1) text)) ≡ total
taken front mode next t at n room i text total inside more is so_far =
    let one = lex_at mode at n i text inside in
    let rest = lex next (behind at (get_or text i 0)) room (drop (i + 1) text) in
    let here : lex mode at n (drop i text) ≡ with_front ((t, place at) ∷ []) rest = one ∙ rw (is, more) refl in
    sym (with_front_twice front ((t, place at) ∷ []) rest) ∙ ap (with_front front) (sym here) ∙ so_far

pub full : (front : List Seen) (mode next : Mode) (t : Lexeme) (at : Cursor) (n i : ℕ) (text : List ℕ) (total : Result (List Seen) FrontFail) → i < length text → n ≡ 0 →
    step mode at (drop i text) ≡ Ok (next, Some t) → with_front front (lex mode at n (drop i text)) ≡ total → total ≡ Err TooLong
full front mode next t at n i text total inside none is so_far =
    let one = lex_at mode at n i text inside in
    let here : lex mode at n (drop i text) ≡ Err TooLong = one ∙ rw (is, none) refl in
    sym so_far ∙ ap (with_front front) here

-- a refusal of a step is the refusal of all
refused : (fail : FrontFail) (front : List Seen) (mode : Mode) (at : Cursor) (room i : ℕ) (text : List ℕ) (total : Result (List Seen) FrontFail) → i < length text →
    step mode at (drop i text) ≡ Err fail → with_front front (lex mode at room (drop i text)) ≡ total → total ≡ Err fail
refused fail front mode at room i text total inside is so_far =
    let one = lex_at mode at room i text inside in
    let here : lex mode at room (drop i text) ≡ Err fail = one ∙ rw is refl in
    sym so_far ∙ ap (with_front front) here

pub wrong : (fail : FrontFail) (front : List Seen) (mode : Mode) (at : Cursor) (room i : ℕ) (text : List ℕ) (total : Result (List Seen) FrontFail) → i < length text →
    Fails fail (step mode at (drop i text)) → with_front front (lex mode at room (drop i text)) ≡ total → Fails fail total
wrong OutOfMemory front mode at room i text total inside is so_far = tt
wrong (NotText n) front mode at room i text total inside is so_far = refused (NotText n) front mode at room i text total inside is so_far
wrong (Token line col) front mode at room i text total inside is so_far = refused (Token line col) front mode at room i text total inside is so_far
wrong (Syntax line col) front mode at room i text total inside is so_far = refused (Syntax line col) front mode at room i text total inside is so_far
wrong TooLong front mode at room i text total inside is so_far = refused TooLong front mode at room i text total inside is so_far
wrong (TooDeep line) front mode at room i text total inside is so_far = refused (TooDeep line) front mode at room i text total inside is so_far

-- the tokens of a text that is not too long
pub whole : (text : List ℕ) → length text ≤ 1048576 → tokens_of text ≡ lex (Skip 0) beginning 200000 text
unfolding tokens_of
whole text le = let short : nat_lt 1048576 (length text) ≡ false = grind (arith, nat_tests) in rw short refl

pub at_last : (front : List Seen) (mode : Mode) (at : Cursor) (room i : ℕ) (text : List ℕ) (total end : Result (List Seen) FrontFail) → length text ≤ i →
    at_end mode at ≡ end → with_front front (lex mode at room (drop i text)) ≡ total → total ≡ with_front front end
unfolding lex
at_last front mode at room i text total end le is so_far =
    let nothing : drop i text ≡ [] = drop_all i text le in
    let here : lex mode at room (drop i text) ≡ at_end mode at = rw nothing refl in
    sym so_far ∙ ap (with_front front) (here ∙ is)

pub none_is : {X : Type 0} (o : Option X) → ((x : X) → o ≡ Some x → ⊥) → o ≡ None
none_is None not = refl
none_is (Some x) not = absurd (not x refl)

-- outside a comment the text may end
pub may_end : (mode : Mode) (at : Cursor) → ((k : ℕ) (p : Place) → mode ≡ Block k p → ⊥) → at_end mode at ≡ Ok ((end_of_text, place at) ∷ [])
may_end (Block k p) at not = absurd (not k p refl)
may_end (Skip k) at not = refl
may_end Line at not = refl
