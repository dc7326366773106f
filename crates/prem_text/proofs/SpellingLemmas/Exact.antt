-- Every text is divided or refused, and the lexer does what its division says.
use Rattle.std.proofs.Common.{append-nil, ◌≡◌, ◌≤◌, ◌<◌, ℕ, zero, suc, ◌+◌, ◌-◌, Bool, true, false, List, [], ◌∷◌, ◌++◌, length, Option, None, Some, Result, Ok, Err, refl, sym, ap, subst}
use Rattle.std.proofs.Common.{◌∙◌, arith, ◌&&◌, ◌||◌, ◌==◌, not, nat_lt, append_assoc, length-append, eqb-true, slice_index, inl, inr, lt-ltb, le-ltb, if◌then◌else◌}
use Rattle.std.specs.Prelude.{◌⊎◌}
use Rattle.prem_text.proofs.Prelude.{Lexeme, end_of_text, Seen, is_blank, is_printable, first_token, begins_with, lex, with_front, tokens_of, is_feed, has_close, ends_line, Gap, a_blank}
use Rattle.prem_text.proofs.Prelude.{a_block, a_line, opens_comment, IsToken, place_behind, Divides, up_to, gap, token, AreTokens, Sticks, is_text, Refused, too_long, too_many, no_text}
use Rattle.prem_text.proofs.Prelude.{every, Cursor, Skip, FrontFail, NotText, Token, TooLong, and_parts, and_from, or_right, or_from, cases_lt}
use Rattle.prem_text.proofs.SpellingLemmas.Front.{token_ready, token_taken}
use Rattle.prem_text.proofs.SpellingLemmas.Marks.{same_front}
use Rattle.prem_text.proofs.SpellingLemmas.Steps.{cursor_behind, gap_passes, token_passes, token_refused, byte_refused, comment_refused}
use Rattle.prem_text.specs.Spelling.Division.{no_token}

-- ---- what begins at the front of a text

-- the refusal at a byte with which nothing begins
abbrev refusal : List ℕ → ℕ → FrontFail
refusal before b = if is_text b then Token (place_behind before).line (place_behind before).col else NotText (length before)

abbrev NoGap : List ℕ → Type 0
NoGap text = (bytes rest : List ℕ) → text ≡ bytes ++ rest → Gap bytes rest → ⊥

abbrev NoToken : List ℕ → Type 0
NoToken text = (bytes rest : List ℕ) (t : Lexeme) → text ≡ bytes ++ rest → IsToken bytes rest t → ⊥

abbrev Fails : ℕ → List ℕ → Type 0
Fails b text = (before : List ℕ) (room : ℕ) → lex (Skip 0) (cursor_behind before) room (b ∷ text) ≡ Err (refusal before b)

data Ahead : List ℕ → Type 0 where
  nothing : Ahead []
  a_gap : (bytes text : List ℕ) → Gap bytes text → 0 < length bytes → Ahead (bytes ++ text)
  a_token : (bytes text : List ℕ) (t : Lexeme) → IsToken bytes text t → 0 < length bytes → Ahead (bytes ++ text)
  stuck : (b : ℕ) (text : List ℕ) → NoGap (b ∷ text) → NoToken (b ∷ text) → Fails b text → Ahead (b ∷ text)

abbrev tail_of : List ℕ → List ℕ
tail_of [] = []
tail_of (b ∷ text) = text

close_there : (body rest : List ℕ) → has_close (body ++ 42 ∷ 47 ∷ rest) ≡ true
close_there [] rest = refl
close_there (b ∷ body) rest = or_right (begins_with 42 47 (b ∷ body ++ 42 ∷ 47 ∷ rest)) (has_close (body ++ 42 ∷ 47 ∷ rest)) (close_there body rest)

-- how a gap begins
data Opens (text : List ℕ) : Type 0 where
  by_blank : is_blank (slice_index text 0) ≡ true → Opens text
  by_line : begins_with 47 47 text ≡ true → Opens text
  by_block : begins_with 47 42 text ≡ true → has_close (tail_of (tail_of text)) ≡ true → Opens text

gap_opens : (bytes rest text : List ℕ) → text ≡ bytes ++ rest → Gap bytes rest → Opens text
gap_opens _ rest text e (a_blank b _ is) = by_blank (ap (λ (t : List ℕ). is_blank (slice_index t 0)) e ∙ is)
gap_opens _ rest text e (a_block body _ off) =
    by_block (ap (begins_with 47 42) e)
    (ap (λ (t : List ℕ). has_close (tail_of (tail_of t))) e ∙ ap has_close (append_assoc body (42 ∷ 47 ∷ []) rest) ∙ close_there body rest)
gap_opens _ rest text e (a_line body _ all ends) = by_line (ap (begins_with 47 47) e)

clash : {A : Type 0} (b : Bool) → b ≡ true → b ≡ false → A
clash b onto off = let e : true ≡ false = sym onto ∙ off in absurd cc

opens_nothing : (text : List ℕ) → is_blank (slice_index text 0) ≡ false → begins_with 47 47 text ≡ false →
    (begins_with 47 42 text ≡ true → has_close (tail_of (tail_of text)) ≡ true → ⊥) → Opens text → ⊥
opens_nothing text blank line block (by_blank is) = clash (is_blank (slice_index text 0)) is blank
opens_nothing text blank line block (by_line is) = clash (begins_with 47 47 text) is line
opens_nothing text blank line block (by_block is there) = block is there

-- the first `*/`, and the end of a line
record Closed (text : List ℕ) : Type 0 where
  body : List ℕ
  rest : List ℕ
  parts : text ≡ body ++ 42 ∷ 47 ∷ rest
  open_before : has_close body ≡ false

-- two bytes at the front
record Pair (a c b : ℕ) (text : List ℕ) : Type 0 where
  more : List ℕ
  parts : b ∷ text ≡ a ∷ c ∷ more

pair_at : (a c b : ℕ) (text : List ℕ) → (0 == c) ≡ false → begins_with a c (b ∷ text) ≡ true → Pair a c b text
pair_at a c b [] some is = clash (0 == c) (and_parts (b == a) (0 == c) is).1 some
pair_at a c b (d ∷ more) some is =
    let parts = and_parts (b == a) (d == c) is in
    let first = eqb-true b a parts.0 in
    let second = eqb-true d c parts.1 in
    record { more = more; parts = ap (λ (k : ℕ). k ∷ d ∷ more) first ∙ ap (λ (k : ℕ). a ∷ k ∷ more) second }

later_pair : (b c : ℕ) (body rest : List ℕ) → begins_with 42 47 (b ∷ body ++ 42 ∷ 47 ∷ rest) ≡ false → begins_with 42 47 (b ∷ body) ≡ false
later_pair b c [] rest off = and_none (b == 42)
  where
    and_none : (t : Bool) → (t && false) ≡ false
    and_none true = refl
    and_none false = refl
later_pair b c (d ∷ body) rest off = off

closed_by : (t : Bool) (b : ℕ) (text : List ℕ) → begins_with 42 47 (b ∷ text) ≡ t → (t || has_close text) ≡ true → (has_close text ≡ true → Closed text) → Closed (b ∷ text)
closed_by true b text is some rec =
    let pair = pair_at 42 47 b text refl is in
    record { body = []; rest = pair.more; parts = pair.parts; open_before = refl }
closed_by false b text off some rec =
    let c = rec some in
    let before = later_pair b 0 c.body c.rest (ap (λ (t : List ℕ). begins_with 42 47 (b ∷ t)) (sym c.parts) ∙ off) in
    record {
      body = b ∷ c.body;
      rest = c.rest;
      parts = ap (λ (t : List ℕ). b ∷ t) c.parts;
      open_before = or_from (begins_with 42 47 (b ∷ c.body)) (has_close c.body) before c.open_before;
    }

closed : (text : List ℕ) → has_close text ≡ true → Closed text
closed [] some = absurd cc
closed (b ∷ text) some = closed_by (begins_with 42 47 (b ∷ text)) b text refl some (closed text)

record LineEnd (text : List ℕ) : Type 0 where
  body : List ℕ
  rest : List ℕ
  parts : text ≡ body ++ rest
  all : every (λ b. not (is_feed b)) body ≡ true
  ends : ends_line rest ≡ true

line_end_by : (t : Bool) (b : ℕ) (text : List ℕ) → is_feed b ≡ t → LineEnd text → LineEnd (b ∷ text)
line_end_by true b text is e = record { body = []; rest = b ∷ text; parts = refl; all = refl; ends = is }
line_end_by false b text off e = record {
  body = b ∷ e.body;
  rest = e.rest;
  parts = ap (λ (t : List ℕ). b ∷ t) e.parts;
  all = and_from (not (is_feed b)) (every (λ c. not (is_feed c)) e.body) (ap not off) e.all;
  ends = e.ends;
}

line_end : (text : List ℕ) → LineEnd text
line_end [] = record { body = []; rest = []; parts = refl; all = refl; ends = refl }
line_end (b ∷ text) = line_end_by (is_feed b) b text refl (line_end text)

-- ---- the cases

text_byte : (b : ℕ) (x y : FrontFail) → is_printable b ≡ true → (if is_text b then x else y) ≡ x
text_byte b x y is = ap (λ (t : Bool). if t then x else y) (or_right (is_blank b) (is_printable b) is)

no_text_byte : (b : ℕ) (x y : FrontFail) → is_blank b ≡ false → is_printable b ≡ false → (if is_text b then x else y) ≡ y
no_text_byte b x y blank off = ap (λ (t : Bool). if t then x else y) (or_from (is_blank b) (is_printable b) blank off)

token_by : (o : Option (Lexeme × ℕ)) (b : ℕ) (text : List ℕ) → is_blank b ≡ false → begins_with 47 47 (b ∷ text) ≡ false → begins_with 47 42 (b ∷ text) ≡ false → is_printable b ≡ true →
    first_token (b ∷ text) ≡ o → Ahead (b ∷ text)
token_by (Some r) b text blank line block printable first =
    let taken = token_taken b text r (or_from (begins_with 47 42 (b ∷ text)) (begins_with 47 47 (b ∷ text)) block line) first in
    let ready = token_ready taken.bytes taken.rest r.0 taken.token in
    let size : length taken.bytes ≡ suc (length ready.more) = ap length ready.parts in
    subst Ahead (sym taken.parts) (a_token taken.bytes taken.rest r.0 taken.token (omega arith))
token_by None b text blank line block printable first =
    stuck b text
    (λ bytes rest e g. opens_nothing (b ∷ text) blank line (λ is there. clash (begins_with 47 42 (b ∷ text)) is block) (gap_opens bytes rest (b ∷ text) e g))
    (λ bytes rest t e tok. none_some (t, length bytes) (sym first ∙ ap first_token e ∙ (token_ready bytes rest t tok).reads))
    (λ before room. token_refused before room b text blank (or_from (begins_with 47 42 (b ∷ text)) (begins_with 47 47 (b ∷ text)) block line) printable first
    ∙ ap Err (sym (text_byte b _ (NotText (length before)) printable)))
  where
    none_some : (x : Lexeme × ℕ) → None ≡ Some x → ⊥
    none_some x e = cc

printable_by : (t : Bool) (b : ℕ) (text : List ℕ) → is_blank b ≡ false → begins_with 47 47 (b ∷ text) ≡ false → begins_with 47 42 (b ∷ text) ≡ false → is_printable b ≡ t → Ahead (b ∷ text)
printable_by true b text blank line block printable = token_by (first_token (b ∷ text)) b text blank line block printable refl
printable_by false b text blank line block printable =
    stuck b text
    (λ bytes rest e g. opens_nothing (b ∷ text) blank line (λ is there. clash (begins_with 47 42 (b ∷ text)) is block) (gap_opens bytes rest (b ∷ text) e g))
    (λ bytes rest t e tok.
    let ready = token_ready bytes rest t tok in
    let same : b ≡ ready.first = ap (λ (l : List ℕ). slice_index l 0) e ∙ ap (λ (l : List ℕ). slice_index (l ++ rest) 0) ready.parts in
    clash (is_printable b) (ap is_printable same ∙ ready.printable) printable)
    (λ before room. byte_refused before room b text blank (or_from (begins_with 47 42 (b ∷ text)) (begins_with 47 47 (b ∷ text)) block line) printable
    ∙ ap Err (sym (no_text_byte b (Token (place_behind before).line (place_behind before).col) _ blank printable)))

comment_by : (t : Bool) (text : List ℕ) → has_close text ≡ t → Ahead (47 ∷ 42 ∷ text)
comment_by true text is =
    let c = closed text is in
    let parts : 47 ∷ 42 ∷ text ≡ (47 ∷ 42 ∷ c.body ++ 42 ∷ 47 ∷ []) ++ c.rest = ap (λ (l : List ℕ). 47 ∷ 42 ∷ l) (c.parts ∙ sym (append_assoc c.body (42 ∷ 47 ∷ []) c.rest)) in
    subst Ahead (sym parts) (a_gap (47 ∷ 42 ∷ c.body ++ 42 ∷ 47 ∷ []) c.rest (a_block c.body c.rest c.open_before) (omega arith))
comment_by false text off =
    stuck 47 (42 ∷ text)
    (λ bytes rest e g. opens_nothing (47 ∷ 42 ∷ text) refl refl (λ is there. clash (has_close text) there off) (gap_opens bytes rest (47 ∷ 42 ∷ text) e g))
    (λ bytes rest t e tok. clash (opens_comment (47 ∷ 42 ∷ text)) refl (ap opens_comment e ∙ tok.no_comment))
    (λ before room. comment_refused before text room off)

block_by : (t : Bool) (b : ℕ) (text : List ℕ) → is_blank b ≡ false → begins_with 47 47 (b ∷ text) ≡ false → begins_with 47 42 (b ∷ text) ≡ t → Ahead (b ∷ text)
block_by true b text blank line is = let pair = pair_at 47 42 b text refl is in subst Ahead (sym pair.parts) (comment_by (has_close pair.more) pair.more refl)
block_by false b text blank line off = printable_by (is_printable b) b text blank line off refl

line_by : (t : Bool) (b : ℕ) (text : List ℕ) → is_blank b ≡ false → begins_with 47 47 (b ∷ text) ≡ t → Ahead (b ∷ text)
line_by true b text blank is =
    let pair = pair_at 47 47 b text refl is in
    let end = line_end pair.more in
    let parts : b ∷ text ≡ (47 ∷ 47 ∷ end.body) ++ end.rest = pair.parts ∙ ap (λ (l : List ℕ). 47 ∷ 47 ∷ l) end.parts in
    subst Ahead (sym parts) (a_gap (47 ∷ 47 ∷ end.body) end.rest (a_line end.body end.rest end.all end.ends) (omega arith))
line_by false b text blank off = block_by (begins_with 47 42 (b ∷ text)) b text blank off refl

blank_by : (t : Bool) (b : ℕ) (text : List ℕ) → is_blank b ≡ t → Ahead (b ∷ text)
blank_by true b text is = a_gap (b ∷ []) text (a_blank b text is) (omega arith)
blank_by false b text off = line_by (begins_with 47 47 (b ∷ text)) b text off refl

ahead : (text : List ℕ) → Ahead text
ahead [] = nothing
ahead (b ∷ text) = blank_by (is_blank b) b text refl

-- ---- how far a text divides

data End : List ℕ → Type 0 where
  whole : End []
  sticks : (b : ℕ) (text : List ℕ) → NoGap (b ∷ text) → NoToken (b ∷ text) → Fails b text → End (b ∷ text)

record Outcome (before text : List ℕ) : Type 0 where
  mid : List ℕ
  rest : List ℕ
  parts : text ≡ mid ++ rest
  tokens : List Seen
  divides : Divides before text tokens rest
  end : End rest

further : (before bytes text : List ℕ) → Outcome (before ++ bytes) text → (t : List Seen) →
    ((ts : List Seen) (rest : List ℕ) → Divides (before ++ bytes) text ts rest → Divides before (bytes ++ text) (t ++ ts) rest) → Outcome before (bytes ++ text)
further before bytes text o t on = record {
  mid = bytes ++ o.mid;
  rest = o.rest;
  parts = ap (λ (l : List ℕ). bytes ++ l) o.parts ∙ sym (append_assoc bytes o.mid o.rest);
  tokens = t ++ o.tokens;
  divides = on o.tokens o.rest o.divides;
  end = o.end;
}

shorter : (bytes text : List ℕ) → 0 < length bytes → length text < length (bytes ++ text)
shorter bytes text some = omega (arith, length-append bytes text)

outcome_by : (before text : List ℕ) → Ahead text → ((more later : List ℕ) → length later < length text → Outcome more later) → Outcome before text
outcome_by before _ nothing rec = record { mid = []; rest = []; parts = refl; tokens = []; divides = up_to before []; end = whole }
outcome_by before _ (a_gap bytes text g some) rec = further before bytes text (rec (before ++ bytes) text (shorter bytes text some)) [] (λ ts rest d. gap before bytes text ts rest g d)
outcome_by before _ (a_token bytes text t tok some) rec =
    further before bytes text (rec (before ++ bytes) text (shorter bytes text some)) ((t, place_behind before) ∷ []) (λ ts rest d. token before bytes text t ts rest tok d)
outcome_by before _ (stuck b text g t f) rec = record { mid = []; rest = b ∷ text; parts = refl; tokens = []; divides = up_to before (b ∷ text); end = sticks b text g t f }

outcome : (n : ℕ) (before text : List ℕ) → length text ≤ n → Outcome before text
outcome zero before text le = outcome_by before text (ahead text) (λ more later less. absurd (omega arith))
outcome (suc n) before text le = outcome_by before text (ahead text) (λ more later less. outcome n more later (omega arith))

-- ---- the lexer along a division

with_front_none : (r : Result (List Seen) FrontFail) → with_front [] r ≡ r
with_front_none (Ok xs) = refl
with_front_none (Err f) = refl

with_front_more : (t : Seen) (ts : List Seen) (r : Result (List Seen) FrontFail) → with_front (t ∷ []) (with_front ts r) ≡ with_front (t ∷ ts) r
with_front_more t ts (Ok xs) = refl
with_front_more t ts (Err f) = refl

record Along (before text : List ℕ) (ts : List Seen) (rest : List ℕ) : Type 0 where
  mid : List ℕ
  parts : text ≡ mid ++ rest
  reads : (total room : ℕ) → total ≡ length ts + room → lex (Skip 0) (cursor_behind before) total text ≡ with_front ts (lex (Skip 0) (cursor_behind (before ++ mid)) room rest)

moved : (room : ℕ) (rest xs ys : List ℕ) → xs ≡ ys → lex (Skip 0) (cursor_behind xs) room rest ≡ lex (Skip 0) (cursor_behind ys) room rest
moved room rest xs ys e = ap (λ (l : List ℕ). lex (Skip 0) (cursor_behind l) room rest) e

along : (before text : List ℕ) (ts : List Seen) (rest : List ℕ) → Divides before text ts rest → Along before text ts rest
along _ _ _ _ (up_to before rest) = record {
  mid = [];
  parts = refl;
  reads = λ total room e.
      let same : total ≡ room = omega arith in
      ap (λ (k : ℕ). lex (Skip 0) (cursor_behind before) k rest) same ∙ moved room rest before (before ++ []) (sym (append-nil before)) ∙ sym (with_front_none _);
}
along _ _ _ _ (gap before bytes text ts rest g d) =
    let a = along (before ++ bytes) text ts rest d in
    record {
      mid = bytes ++ a.mid;
      parts = ap (λ (l : List ℕ). bytes ++ l) a.parts ∙ sym (append_assoc bytes a.mid rest);
      reads = λ total room e.
          gap_passes bytes text g before total ∙ a.reads total room e ∙ ap (with_front ts) (moved room rest _ _ (append_assoc before bytes a.mid));
    }
along _ _ _ _ (token before bytes text t ts rest tok d) =
    let a = along (before ++ bytes) text ts rest d in
    record {
      mid = bytes ++ a.mid;
      parts = ap (λ (l : List ℕ). bytes ++ l) a.parts ∙ sym (append_assoc bytes a.mid rest);
      reads = λ total room e.
          let one : total ≡ suc (length ts + room) = omega arith in
          let here = token_passes bytes text t tok before (suc (length ts + room)) in
          ap (λ (k : ℕ). lex (Skip 0) (cursor_behind before) k (bytes ++ text)) one ∙ here
          ∙ ap (with_front ((t, place_behind before) ∷ [])) (a.reads (length ts + room) room refl ∙ ap (with_front ts) (moved room rest _ _ (append_assoc before bytes a.mid)))
          ∙ with_front_more (t, place_behind before) ts _;
    }

-- past the last token that there is room for
full_token : (room : ℕ) (before bytes text : List ℕ) (t : Lexeme) (ts : List Seen) → IsToken bytes text t → room < suc (length ts) →
    ((left : ℕ) → left < length ts → lex (Skip 0) (cursor_behind (before ++ bytes)) left text ≡ Err TooLong) → lex (Skip 0) (cursor_behind before) room (bytes ++ text) ≡ Err TooLong
full_token zero before bytes text t ts tok less rec = token_passes bytes text t tok before 0
full_token (suc room) before bytes text t ts tok less rec = token_passes bytes text t tok before (suc room) ∙ ap (with_front ((t, place_behind before) ∷ [])) (rec room (omega arith))

full : (before text : List ℕ) (ts : List Seen) (rest : List ℕ) → Divides before text ts rest → (room : ℕ) → room < length ts → lex (Skip 0) (cursor_behind before) room text ≡ Err TooLong
full _ _ _ _ (up_to before rest) room less = absurd (omega arith)
full _ _ _ _ (gap before bytes text ts rest g d) room less = gap_passes bytes text g before room ∙ full (before ++ bytes) text ts rest d room less
full _ _ _ _ (token before bytes text t ts rest tok d) room less = full_token room before bytes text t ts tok less (λ left under. full (before ++ bytes) text ts rest d left under)

-- ---- whole texts

ends_so : (at : Cursor) (room : ℕ) → lex (Skip 0) at room [] ≡ Ok ((end_of_text, record { line = at.line; col = at.col }) ∷ [])
unfolding lex
ends_so at room = refl

short_text : (text : List ℕ) → length text ≤ 1048576 → tokens_of text ≡ lex (Skip 0) (cursor_behind []) 200000 text
unfolding tokens_of
short_text text le = let off : nat_lt 1048576 (length text) ≡ false = le-ltb 1048576 (length text) le in rw off refl

long_text : (text : List ℕ) → 1048576 < length text → tokens_of text ≡ Err TooLong
unfolding tokens_of
long_text text lt = let is : nat_lt 1048576 (length text) ≡ true = lt-ltb 1048576 (length text) lt in rw is refl

abbrev with_end : List ℕ → List Seen → List Seen
with_end text ts = ts ++ (end_of_text, place_behind text) ∷ []

read_whole : (text : List ℕ) (ts : List Seen) → Divides [] text ts [] → (total room : ℕ) → total ≡ length ts + room → lex (Skip 0) (cursor_behind []) total text ≡ Ok (with_end text ts)
read_whole text ts d total room e =
    let a = along [] text ts [] d in
    let all : a.mid ≡ text = sym (a.parts ∙ append-nil a.mid) in
    a.reads total room e ∙ ap (with_front ts) (moved room [] a.mid text all ∙ ends_so (cursor_behind text) room)

pub complete : (text : List ℕ) (all : List Seen) → AreTokens text all → tokens_of text ≡ Ok all
complete text all a =
    let count : length a.tokens ≤ 200000 = a.count in
    short_text text a.size ∙ read_whole text a.tokens a.divides 200000 (200000 - length a.tokens) (omega arith) ∙ ap (λ (l : List Seen). Ok l) (sym a.is_all)

no_snoc : (ys : List Seen) (x : Seen) → [] ≡ ys ++ x ∷ [] → ⊥
no_snoc [] x e = cc
no_snoc (y ∷ ys) x e = cc

same_before : (xs ys : List Seen) (x : Seen) → xs ++ x ∷ [] ≡ ys ++ x ∷ [] → xs ≡ ys
same_before [] [] x e = refl
same_before [] (y ∷ ys) x e = let rest : [] ≡ ys ++ x ∷ [] = cc in absurd (no_snoc ys x rest)
same_before (z ∷ xs) [] x e = let rest : [] ≡ xs ++ x ∷ [] = cc in absurd (no_snoc xs x rest)
same_before (z ∷ xs) (y ∷ ys) x e =
    let head : z ≡ y = cc in
    let rest : xs ++ x ∷ [] ≡ ys ++ x ∷ [] = cc in
    let same = same_before xs ys x rest in cc

pub unique : (text : List ℕ) (tokens others : List Seen) → Divides [] text tokens [] → Divides [] text others [] → tokens ≡ others
unique text tokens others d o =
    let first = read_whole text tokens d (length tokens + length others) (length others) refl in
    let second = read_whole text others o (length tokens + length others) (length tokens) (omega arith) in
    let same : Ok (with_end text tokens) ≡ Ok (with_end text others) = sym first ∙ second in
    let lists : with_end text tokens ≡ with_end text others = cc in
    same_before tokens others (end_of_text, place_behind text) lists

-- ---- refusals

fails_by : (l : List ℕ) → Ahead l → (b : ℕ) (text : List ℕ) → l ≡ b ∷ text → NoGap (b ∷ text) → NoToken (b ∷ text) → Fails b text
fails_by _ nothing b text e g t = absurd cc
fails_by _ (a_gap bytes rest is some) b text e g t = absurd (g bytes rest (sym e) is)
fails_by _ (a_token bytes rest x tok some) b text e g t = absurd (t bytes rest x (sym e) tok)
fails_by _ (stuck c more gs ts fails) b text e g t =
    let first : c ≡ b = cc in
    let rest : more ≡ text = cc in
    subst (λ (l : List ℕ). Fails b l) rest (subst (λ (k : ℕ). Fails k more) first fails)

same_start : (xs ys rest : List ℕ) → xs ++ rest ≡ ys ++ rest → xs ≡ ys
same_start xs ys rest e =
    let sizes = sym (length-append xs rest) ∙ ap length e ∙ length-append ys rest in
    same_front xs ys rest rest e (omega arith)

read_stuck : (text : List ℕ) (s : Sticks text) → length text ≤ 1048576 → length s.tokens ≤ 200000 → tokens_of text ≡ Err (refusal s.before s.byte)
read_stuck text s size count =
    let a = along [] text s.tokens (s.byte ∷ s.behind) s.divides in
    let same : a.mid ≡ s.before = same_start a.mid s.before (s.byte ∷ s.behind) (sym a.parts ∙ s.parts) in
    let fails = fails_by (s.byte ∷ s.behind) (ahead (s.byte ∷ s.behind)) s.byte s.behind refl s.no_gap s.no_token in
    short_text text size ∙ a.reads 200000 (200000 - length s.tokens) (omega arith)
    ∙ ap (with_front s.tokens) (moved _ (s.byte ∷ s.behind) a.mid s.before same ∙ fails s.before (200000 - length s.tokens))

if_true : (b : Bool) (x y : FrontFail) → b ≡ true → (if b then x else y) ≡ x
if_true b x y is = ap (λ (t : Bool). if t then x else y) is

if_false : (b : Bool) (x y : FrontFail) → b ≡ false → (if b then x else y) ≡ y
if_false b x y is = ap (λ (t : Bool). if t then x else y) is

pub refusals_complete : (text : List ℕ) (fail : FrontFail) → Refused text fail → tokens_of text ≡ Err fail
refusals_complete text _ (too_long lt) = long_text text lt
refusals_complete text _ (too_many ts rest size d count) = short_text text size ∙ full [] text ts rest d 200000 count
refusals_complete text _ (no_text s size count off) = read_stuck text s size count ∙ ap (λ (f : FrontFail). Err f) (if_false (is_text s.byte) _ _ off)
refusals_complete text _ (no_token s size count is) = read_stuck text s size count ∙ ap (λ (f : FrontFail). Err f) (if_true (is_text s.byte) _ _ is)

-- ---- every text is one or the other

data Settled (text : List ℕ) : Type 0 where
  divided : (all : List Seen) → AreTokens text all → Settled text
  wrong : (fail : FrontFail) → Refused text fail → Settled text

stuck_by : (t : Bool) (text : List ℕ) (s : Sticks text) → length text ≤ 1048576 → length s.tokens ≤ 200000 → is_text s.byte ≡ t → Settled text
stuck_by true text s size count is = wrong _ (no_token s size count is)
stuck_by false text s size count off = wrong _ (no_text s size count off)

end_by : (text mid rest : List ℕ) (ts : List Seen) → text ≡ mid ++ rest → Divides [] text ts rest → End rest → length text ≤ 1048576 → length ts ≤ 200000 → Settled text
end_by text mid _ ts parts d whole size count = divided (with_end text ts) (record { tokens = ts; divides = d; is_all = refl; size = size; count = count })
end_by text mid _ ts parts d (sticks b rest g t f) size count =
    stuck_by (is_text b) text (record { before = mid; byte = b; behind = rest; parts = parts; tokens = ts; divides = d; no_gap = g; no_token = t }) size count refl

count_by : (text : List ℕ) (o : Outcome [] text) → length text ≤ 1048576 → (200000 < length o.tokens) ⊎ (length o.tokens ≤ 200000) → Settled text
count_by text o size (inl more) = wrong TooLong (too_many o.tokens o.rest size o.divides more)
count_by text o size (inr count) = end_by text o.mid o.rest o.tokens o.parts o.divides o.end size count

size_by : (text : List ℕ) → (1048576 < length text) ⊎ (length text ≤ 1048576) → Settled text
size_by text (inl long) = wrong TooLong (too_long long)
size_by text (inr short) =
    let o = outcome (length text) [] text (omega arith) in
    count_by text o short (cases_lt 200000 (length o.tokens))

settled : (text : List ℕ) → Settled text
settled text = size_by text (cases_lt 1048576 (length text))

sound_by : (text : List ℕ) (all : List Seen) → Settled text → tokens_of text ≡ Ok all → AreTokens text all
sound_by text all (divided others a) is =
    let same : Ok others ≡ Ok all = sym (complete text others a) ∙ is in
    let lists : others ≡ all = cc in
    subst (λ (l : List Seen). AreTokens text l) lists a
sound_by text all (wrong fail r) is = let off : Err fail ≡ Ok all = sym (refusals_complete text fail r) ∙ is in absurd cc

pub sound : (text : List ℕ) (all : List Seen) → tokens_of text ≡ Ok all → AreTokens text all
sound text all is = sound_by text all (settled text) is

refused_by : (text : List ℕ) (fail : FrontFail) → Settled text → tokens_of text ≡ Err fail → Refused text fail
refused_by text fail (divided all a) is = let off : Ok all ≡ Err fail = sym (complete text all a) ∙ is in absurd cc
refused_by text fail (wrong other r) is =
    let same : Err other ≡ Err fail = sym (refusals_complete text other r) ∙ is in
    let one : other ≡ fail = cc in
    subst (λ (f : FrontFail). Refused text f) one r

pub refusals_sound : (text : List ℕ) (fail : FrontFail) → tokens_of text ≡ Err fail → Refused text fail
refusals_sound text fail is = refused_by text fail (settled text) is
