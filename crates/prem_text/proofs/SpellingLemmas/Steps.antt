-- What the lexer does at a gap, at a token, and where neither begins.
use Rattle.std.proofs.Common.{append-nil, ◌≡◌, ℕ, zero, suc, ◌+◌, ◌-◌, Bool, true, false, List, [], ◌∷◌, ◌++◌, length, None, Some, Result, Ok, Err, refl, sym, ap, subst, ◌∙◌, arith, ◌==◌}
use Rattle.std.proofs.Common.{not, cond, reverse, take_while, count_by, append_assoc, length-append, eqb-true, if◌then◌else◌}
use Rattle.prem_text.proofs.Prelude.{Place, Lexeme, Seen, no_token, is_blank, is_printable, first_token, place, begins_with, start, put, lex, with_front, is_feed, has_close, ends_line, Gap}
use Rattle.prem_text.proofs.Prelude.{a_blank, a_block, a_line, opens_comment, IsToken, place_behind, every, Cursor, Mode, Skip, Line, Block, FrontFail, NotText, and_parts, or_parts}
use Rattle.prem_text.proofs.Prelude.{and_right, reverse-append, take_while-cons, sum_by-append, sum_by-cons}
use Rattle.prem_text.proofs.LexingLemmas.Lexing.{lex_cons}
use Rattle.prem_text.proofs.SpellingLemmas.Front.{token_ready}
use Rattle.prem_text.specs.Lexing.Tokens.{behind, step}

-- ---- places

-- where the lexer stands behind bytes
abbrev pub cursor_behind : List ℕ → Cursor
cursor_behind before = record { offset = length before; line = (place_behind before).line; col = (place_behind before).col }

abbrev in_line : ℕ → Bool
in_line b = not (is_feed b)

line_by : (t : Bool) (c n : ℕ) → n ≡ c + cond t 1 0 → (if t then 1 + c + 1 else 1 + c) ≡ 1 + n
line_by true c n e = omega arith
line_by false c n e = omega arith

col_by : (t : Bool) (b : ℕ) (since : List ℕ) → (if t then 1 else 1 + length since + 1) ≡ 1 + length (cond (not t) (b ∷ since) [])
col_by true b since = refl
col_by false b since = omega arith

feeds_behind : (before : List ℕ) (b : ℕ) → count_by is_feed (before ++ b ∷ []) ≡ count_by is_feed before + cond (is_feed b) 1 0
feeds_behind before b =
    let both = sum_by-append (λ (x : ℕ). cond (is_feed x) 1 0) before (b ∷ []) in
    let one = sum_by-cons (λ (x : ℕ). cond (is_feed x) 1 0) b [] in
    both ∙ ap (λ (k : ℕ). count_by is_feed before + k) (one ∙ plus_zero (cond (is_feed b) 1 0))
  where
    plus_zero : (k : ℕ) → k + 0 ≡ k
    plus_zero k = omega arith

line_behind : (before : List ℕ) (b : ℕ) → take_while in_line (reverse (before ++ b ∷ [])) ≡ cond (in_line b) (b ∷ take_while in_line (reverse before)) []
line_behind before b = ap (take_while in_line) (reverse-append before (b ∷ [])) ∙ take_while-cons in_line b (reverse before)

pub behind_is : (before : List ℕ) (b : ℕ) → behind (cursor_behind before) b ≡ cursor_behind (before ++ b ∷ [])
behind_is before b =
    let offsets : length before + 1 ≡ length (before ++ b ∷ []) = sym (length-append before (b ∷ [])) in
    let lines = line_by (is_feed b) (count_by is_feed before) (count_by is_feed (before ++ b ∷ [])) (feeds_behind before b) in
    let cols = col_by (is_feed b) b (take_while in_line (reverse before)) ∙ ap (λ (l : List ℕ). 1 + length l) (sym (line_behind before b)) in
    λ i. record { offset = offsets i; line = lines i; col = cols i }

-- ---- one byte

lex_on : (mode next : Mode) (before : List ℕ) (room b : ℕ) (rest : List ℕ) → step mode (cursor_behind before) (b ∷ rest) ≡ Ok (next, None) →
    lex mode (cursor_behind before) room (b ∷ rest) ≡ lex next (cursor_behind (before ++ b ∷ [])) room rest
lex_on mode next before room b rest is =
    let here : lex mode (cursor_behind before) room (b ∷ rest) ≡ lex next (behind (cursor_behind before) b) room rest = lex_cons mode (cursor_behind before) room b rest ∙ rw is refl in
    here ∙ ap (λ (at : Cursor). lex next at room rest) (behind_is before b)

lex_takes : (mode next : Mode) (t : Lexeme) (at : Cursor) (room b : ℕ) (rest : List ℕ) → step mode at (b ∷ rest) ≡ Ok (next, Some t) →
    lex mode at room (b ∷ rest) ≡ put (Some t) at room (λ left. lex next (behind at b) left rest)
lex_takes mode next t at room b rest is = lex_cons mode at room b rest ∙ rw is refl

lex_fails : (mode : Mode) (at : Cursor) (fail : FrontFail) (room b : ℕ) (rest : List ℕ) → step mode at (b ∷ rest) ≡ Err fail → lex mode at room (b ∷ rest) ≡ Err fail
lex_fails mode at fail room b rest is = lex_cons mode at room b rest ∙ rw is refl

moved : (mode : Mode) (room : ℕ) (rest xs ys : List ℕ) → xs ≡ ys → lex mode (cursor_behind xs) room rest ≡ lex mode (cursor_behind ys) room rest
moved mode room rest xs ys e = ap (λ (l : List ℕ). lex mode (cursor_behind l) room rest) e

-- ---- runs of bytes

skip_step : (k : ℕ) (at : Cursor) (text : List ℕ) → step (Skip (suc k)) at text ≡ Ok (Skip k, None)
unfolding step
skip_step k at text = refl

skips : (s rest before : List ℕ) (room : ℕ) → lex (Skip (length s)) (cursor_behind before) room (s ++ rest) ≡ lex (Skip 0) (cursor_behind (before ++ s)) room rest
skips [] rest before room = moved (Skip 0) room rest before (before ++ []) (sym (append-nil before))
skips (b ∷ s) rest before room =
    lex_on (Skip (suc (length s))) (Skip (length s)) before room b (s ++ rest) (skip_step (length s) (cursor_behind before) (b ∷ s ++ rest))
    ∙ skips s rest (before ++ b ∷ []) room
    ∙ moved (Skip 0) room rest _ _ (append_assoc before (b ∷ []) s)

block_on : (from : Place) (at : Cursor) (text : List ℕ) → begins_with 42 47 text ≡ false → step (Block 0 from) at text ≡ Ok (Block 0 from, None)
unfolding step
block_on from at text off = rw off refl

block_ends : (from : Place) (at : Cursor) (rest : List ℕ) → step (Block 0 from) at (42 ∷ 47 ∷ rest) ≡ Ok (Skip 1, None)
unfolding step
block_ends from at rest = refl

no_close : (b : ℕ) (body rest : List ℕ) → begins_with 42 47 (b ∷ body) ≡ false → begins_with 42 47 (b ∷ body ++ 42 ∷ rest) ≡ false
no_close b [] rest off = and_right (b == 42) false refl
no_close b (c ∷ body) rest off = off

in_block : (from : Place) (body rest before : List ℕ) (room : ℕ) → has_close body ≡ false →
    lex (Block 0 from) (cursor_behind before) room (body ++ 42 ∷ 47 ∷ rest) ≡ lex (Skip 0) (cursor_behind (before ++ (body ++ 42 ∷ 47 ∷ []))) room rest
in_block from [] rest before room off =
    lex_on (Block 0 from) (Skip 1) before room 42 (47 ∷ rest) (block_ends from (cursor_behind before) rest)
    ∙ skips (47 ∷ []) rest (before ++ 42 ∷ []) room
    ∙ moved (Skip 0) room rest _ _ (append_assoc before (42 ∷ []) (47 ∷ []))
in_block from (b ∷ body) rest before room off =
    let parts = or_parts (begins_with 42 47 (b ∷ body)) (has_close body) off in
    lex_on (Block 0 from) (Block 0 from) before room b (body ++ 42 ∷ 47 ∷ rest) (block_on from (cursor_behind before) (b ∷ body ++ 42 ∷ 47 ∷ rest) (no_close b body (47 ∷ rest) parts.0))
    ∙ in_block from body rest (before ++ b ∷ []) room parts.1
    ∙ moved (Skip 0) room rest _ _ (append_assoc before (b ∷ []) (body ++ 42 ∷ 47 ∷ []))

-- a comment that isn't closed
open_block : (from : Place) (body before : List ℕ) (room : ℕ) → has_close body ≡ false → lex (Block 0 from) (cursor_behind before) room body ≡ no_token from
unfolding lex
open_block from [] before room off = refl
open_block from (b ∷ body) before room off =
    let parts = or_parts (begins_with 42 47 (b ∷ body)) (has_close body) off in
    lex_on (Block 0 from) (Block 0 from) before room b body (block_on from (cursor_behind before) (b ∷ body) parts.0)
    ∙ open_block from body (before ++ b ∷ []) room parts.1

line_on : (at : Cursor) (b : ℕ) (rest : List ℕ) → is_feed b ≡ false → step Line at (b ∷ rest) ≡ Ok (Line, None)
unfolding step
line_on at b rest off = rw off refl

feed_ends : (at : Cursor) (rest : List ℕ) → step Line at (10 ∷ rest) ≡ Ok (Skip 0, None)
unfolding step
feed_ends at rest = refl

blank_step : (at : Cursor) (b : ℕ) (rest : List ℕ) → is_blank b ≡ true → step (Skip 0) at (b ∷ rest) ≡ Ok (Skip 0, None)
unfolding step start
blank_step at b rest is = rw is refl

line_nothing : (at : Cursor) (room : ℕ) → lex Line at room [] ≡ lex (Skip 0) at room []
unfolding lex
line_nothing at room = refl

line_feed : (before rest : List ℕ) (room b : ℕ) → is_feed b ≡ true → lex Line (cursor_behind before) room (b ∷ rest) ≡ lex (Skip 0) (cursor_behind before) room (b ∷ rest)
line_feed before rest room b is =
    let ten : b ≡ 10 = eqb-true b 10 is in
    subst (λ (k : ℕ). lex Line (cursor_behind before) room (k ∷ rest) ≡ lex (Skip 0) (cursor_behind before) room (k ∷ rest)) (sym ten)
    (lex_on Line (Skip 0) before room 10 rest (feed_ends (cursor_behind before) rest) ∙ sym (lex_on (Skip 0) (Skip 0) before room 10 rest (blank_step (cursor_behind before) 10 rest refl)))

to_line_end : (body rest before : List ℕ) (room : ℕ) → every in_line body ≡ true → ends_line rest ≡ true →
    lex Line (cursor_behind before) room (body ++ rest) ≡ lex (Skip 0) (cursor_behind (before ++ body)) room rest
to_line_end [] [] before room all ends = line_nothing (cursor_behind before) room ∙ moved (Skip 0) room [] before (before ++ []) (sym (append-nil before))
to_line_end [] (b ∷ rest) before room all ends = line_feed before rest room b ends ∙ moved (Skip 0) room (b ∷ rest) before (before ++ []) (sym (append-nil before))
to_line_end (b ∷ body) rest before room all ends =
    let parts = and_parts (in_line b) (every in_line body) all in
    lex_on Line Line before room b (body ++ rest) (line_on (cursor_behind before) b (body ++ rest) (no_feed (is_feed b) parts.0))
    ∙ to_line_end body rest (before ++ b ∷ []) room parts.1 ends
    ∙ moved (Skip 0) room rest _ _ (append_assoc before (b ∷ []) body)
  where
    no_feed : (t : Bool) → not t ≡ true → t ≡ false
    no_feed true e = sym e
    no_feed false e = refl

-- ---- a gap

opens_block : (at : Cursor) (rest : List ℕ) → step (Skip 0) at (47 ∷ 42 ∷ rest) ≡ Ok (Block 1 (place at), None)
unfolding step start
opens_block at rest = refl

block_first : (from : Place) (at : Cursor) (text : List ℕ) → step (Block 1 from) at text ≡ Ok (Block 0 from, None)
unfolding step
block_first from at text = refl

opens_line : (at : Cursor) (rest : List ℕ) → step (Skip 0) at (47 ∷ 47 ∷ rest) ≡ Ok (Line, None)
unfolding step start
opens_line at rest = refl

-- behind the two bytes that open a comment
into_block : (before rest : List ℕ) (room : ℕ) → lex (Skip 0) (cursor_behind before) room (47 ∷ 42 ∷ rest) ≡ lex (Block 0 (place_behind before)) (cursor_behind (before ++ 47 ∷ 42 ∷ [])) room rest
into_block before rest room =
    lex_on (Skip 0) (Block 1 (place_behind before)) before room 47 (42 ∷ rest) (opens_block (cursor_behind before) rest)
    ∙ lex_on (Block 1 (place_behind before)) (Block 0 (place_behind before)) (before ++ 47 ∷ []) room 42 rest (block_first (place_behind before) (cursor_behind (before ++ 47 ∷ [])) (42 ∷ rest))
    ∙ moved (Block 0 (place_behind before)) room rest _ _ (append_assoc before (47 ∷ []) (42 ∷ []))

into_line : (before rest : List ℕ) (room : ℕ) → lex (Skip 0) (cursor_behind before) room (47 ∷ 47 ∷ rest) ≡ lex Line (cursor_behind (before ++ 47 ∷ 47 ∷ [])) room rest
into_line before rest room =
    lex_on (Skip 0) Line before room 47 (47 ∷ rest) (opens_line (cursor_behind before) rest)
    ∙ lex_on Line Line (before ++ 47 ∷ []) room 47 rest (line_on (cursor_behind (before ++ 47 ∷ [])) 47 rest refl)
    ∙ moved Line room rest _ _ (append_assoc before (47 ∷ []) (47 ∷ []))

pub gap_passes : (bytes text : List ℕ) → Gap bytes text → (before : List ℕ) (room : ℕ) →
    lex (Skip 0) (cursor_behind before) room (bytes ++ text) ≡ lex (Skip 0) (cursor_behind (before ++ bytes)) room text
gap_passes _ text (a_blank b _ is) before room = lex_on (Skip 0) (Skip 0) before room b text (blank_step (cursor_behind before) b text is)
gap_passes _ text (a_block body _ off) before room =
    into_block before ((body ++ 42 ∷ 47 ∷ []) ++ text) room
    ∙ ap (λ (l : List ℕ). lex (Block 0 (place_behind before)) (cursor_behind (before ++ 47 ∷ 42 ∷ [])) room l) (append_assoc body (42 ∷ 47 ∷ []) text)
    ∙ in_block (place_behind before) body text (before ++ 47 ∷ 42 ∷ []) room off
    ∙ moved (Skip 0) room text _ _ (append_assoc before (47 ∷ 42 ∷ []) (body ++ 42 ∷ 47 ∷ []))
gap_passes _ text (a_line body _ all ends) before room =
    into_line before (body ++ text) room
    ∙ to_line_end body text (before ++ 47 ∷ 47 ∷ []) room all ends
    ∙ moved (Skip 0) room text _ _ (append_assoc before (47 ∷ 47 ∷ []) body)

-- ---- a token

token_here : (at : Cursor) (b : ℕ) (rest : List ℕ) (t : Lexeme) (k : ℕ) → is_blank b ≡ false → opens_comment (b ∷ rest) ≡ false → is_printable b ≡ true → first_token (b ∷ rest) ≡ Some (t, suc k) →
    step (Skip 0) at (b ∷ rest) ≡ Ok (Skip k, Some t)
unfolding step start
token_here at b rest t k blank off printable reads =
    let parts = or_parts (begins_with 47 42 (b ∷ rest)) (begins_with 47 47 (b ∷ rest)) off in
    let less : suc k - 1 ≡ k = omega arith in
    let here : step (Skip 0) at (b ∷ rest) ≡ Ok (Skip (suc k - 1), Some t) = rw (blank, parts.1, parts.0, printable, reads) refl in
    here ∙ ap (λ (n : ℕ). Ok (Skip n, Some t)) less

put_same : (t : Lexeme) (at : Cursor) (room : ℕ) (go other : ℕ → Result (List Seen) FrontFail) → ((left : ℕ) → go left ≡ other left) → put (Some t) at room go ≡ put (Some t) at room other
put_same t at zero go other same = refl
put_same t at (suc room) go other same = ap (with_front ((t, place at) ∷ [])) (same room)

ready_passes : (b : ℕ) (more text : List ℕ) (t : Lexeme) → is_blank b ≡ false → is_printable b ≡ true → opens_comment (b ∷ more ++ text) ≡ false →
    first_token (b ∷ more ++ text) ≡ Some (t, suc (length more)) →
    (before : List ℕ) (room : ℕ) →
    lex (Skip 0) (cursor_behind before) room (b ∷ more ++ text)
    ≡ put (Some t) (cursor_behind before) room (λ left. lex (Skip 0) (cursor_behind (before ++ b ∷ more)) left text)
ready_passes b more text t blank printable off reads before room =
    lex_takes (Skip 0) (Skip (length more)) t (cursor_behind before) room b (more ++ text) (token_here (cursor_behind before) b (more ++ text) t (length more) blank off printable reads)
    ∙ put_same t (cursor_behind before) room _ _ (λ left.
    ap (λ (at : Cursor). lex (Skip (length more)) at left (more ++ text)) (behind_is before b)
    ∙ skips more text (before ++ b ∷ []) left
    ∙ moved (Skip 0) left text _ _ (append_assoc before (b ∷ []) more))

pub token_passes : (bytes text : List ℕ) (t : Lexeme) → IsToken bytes text t → (before : List ℕ) (room : ℕ) →
    lex (Skip 0) (cursor_behind before) room (bytes ++ text) ≡ put (Some t) (cursor_behind before) room (λ left. lex (Skip 0) (cursor_behind (before ++ bytes)) left text)
token_passes bytes text t token before room =
    let ready = token_ready bytes text t token in
    let off = ap (λ (s : List ℕ). opens_comment (s ++ text)) (sym ready.parts) ∙ token.no_comment in
    let reads = ap (λ (s : List ℕ). first_token (s ++ text)) (sym ready.parts) ∙ ready.reads ∙ ap (λ (s : List ℕ). Some (t, length s)) ready.parts in
    subst (λ (s : List ℕ). lex (Skip 0) (cursor_behind before) room (s ++ text) ≡ put (Some t) (cursor_behind before) room (λ left. lex (Skip 0) (cursor_behind (before ++ s)) left text))
    (sym ready.parts) (ready_passes ready.first ready.more text t ready.blank ready.printable off reads before room)

-- ---- refusals

no_token_here : (at : Cursor) (b : ℕ) (rest : List ℕ) → is_blank b ≡ false → opens_comment (b ∷ rest) ≡ false → is_printable b ≡ true →
    first_token (b ∷ rest) ≡ None → step (Skip 0) at (b ∷ rest) ≡ no_token (place at)
unfolding step start
no_token_here at b rest blank off printable reads =
    let parts = or_parts (begins_with 47 42 (b ∷ rest)) (begins_with 47 47 (b ∷ rest)) off in
    rw (blank, parts.1, parts.0, printable, reads) refl

pub token_refused : (before : List ℕ) (room b : ℕ) (rest : List ℕ) → is_blank b ≡ false → opens_comment (b ∷ rest) ≡ false → is_printable b ≡ true → first_token (b ∷ rest) ≡ None →
    lex (Skip 0) (cursor_behind before) room (b ∷ rest) ≡ no_token (place_behind before)
token_refused before room b rest blank off printable reads = lex_fails (Skip 0) (cursor_behind before) _ room b rest (no_token_here (cursor_behind before) b rest blank off printable reads)

no_text_here : (at : Cursor) (b : ℕ) (rest : List ℕ) → is_blank b ≡ false → opens_comment (b ∷ rest) ≡ false → is_printable b ≡ false → step (Skip 0) at (b ∷ rest) ≡ Err (NotText at.offset)
unfolding step start
no_text_here at b rest blank off printable =
    let parts = or_parts (begins_with 47 42 (b ∷ rest)) (begins_with 47 47 (b ∷ rest)) off in
    rw (blank, parts.1, parts.0, printable) refl

pub byte_refused : (before : List ℕ) (room b : ℕ) (rest : List ℕ) → is_blank b ≡ false → opens_comment (b ∷ rest) ≡ false → is_printable b ≡ false →
    lex (Skip 0) (cursor_behind before) room (b ∷ rest) ≡ Err (NotText (length before))
byte_refused before room b rest blank off printable = lex_fails (Skip 0) (cursor_behind before) _ room b rest (no_text_here (cursor_behind before) b rest blank off printable)

pub comment_refused : (before body : List ℕ) (room : ℕ) → has_close body ≡ false → lex (Skip 0) (cursor_behind before) room (47 ∷ 42 ∷ body) ≡ no_token (place_behind before)
comment_refused before body room off = into_block before body room ∙ open_block (place_behind before) body (before ++ 47 ∷ 42 ∷ []) room off
