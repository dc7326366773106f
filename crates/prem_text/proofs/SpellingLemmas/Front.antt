-- The token at the front of a text.
use Rattle.std.proofs.Common.{option_map, ◌≡◌, ◌≤◌, ℕ, Bool, true, false, List, [], ◌∷◌, ◌++◌, length, Option, None, Some, refl, sym, ap, subst, ◌∙◌, nat_le, ◌&&◌, not, cond, slice_index}
use Rattle.std.proofs.Common.{take_while, le-leb, leb-true, if◌then◌else◌}
use Rattle.prem_text.proofs.Prelude.{literal_word, reserved_word, longest_mark, marks, Lexeme, name, number, word, mark, is_digit, is_name_byte, is_blank, is_printable, plain_word}
use Rattle.prem_text.proofs.Prelude.{word_token, first_token, goes_on, is_mark, opens_comment, IsToken, StandsIn, every, is_letter, Literal, Reserved, Spells, as_name, as_word, as_literal}
use Rattle.prem_text.proofs.Prelude.{as_mark, Mark, Word, Kind, and_parts, and_from, not-true, take_while-cons}
use Rattle.prem_text.proofs.SpellingLemmas.Bytes.{letter_name, letter_digit, name_letter, digit_name, name_blank, name_printable, run_is, run_of, run_longest}
use Rattle.prem_text.proofs.SpellingLemmas.Literals.{literal_read, literal_found, is_number_row, literal_row}
use Rattle.prem_text.proofs.SpellingLemmas.Marks.{is_mark_byte, is_mark_text, mark_text, mark_read, MarkFront, front_mark}
use Rattle.prem_text.proofs.SpellingLemmas.Tables.{reserved_read, reserved_found, is_word_row, reserved_row}

-- ---- the shape of spellings

-- bytes are a word of name bytes, or a mark
pub data Shape : List ℕ → Type 0 where
  a_word : (b : ℕ) (more : List ℕ) → is_name_byte b ≡ true → every is_name_byte more ≡ true → Shape (b ∷ more)
  a_mark : (bytes : List ℕ) (m : Mark) → StandsIn (bytes, m) marks → Shape bytes

word_shape : (bytes : List ℕ) → is_word_row bytes ≡ true → Shape bytes
word_shape [] row = absurd cc
word_shape (b ∷ more) row = let parts = and_parts (is_letter b) (every is_name_byte more) row in a_word b more (letter_name b parts.0) parts.1

number_shape : (bytes : List ℕ) → is_number_row bytes ≡ true → Shape bytes
number_shape [] row = absurd cc
number_shape (b ∷ more) row = let parts = and_parts (is_digit b) (every is_name_byte more) row in a_word b more (digit_name b parts.0) parts.1

pub shape : (bytes : List ℕ) (t : Lexeme) → Spells bytes t → Shape bytes
shape _ _ (as_name b more letter all le free) = a_word b more (letter_name b letter) all
shape _ _ (as_word bytes k r) = word_shape bytes (reserved_row bytes k r)
shape _ _ (as_literal bytes n kind l) = number_shape bytes (literal_row bytes n kind l)
shape _ _ (as_mark bytes m there) = a_mark bytes m there

-- the first byte of a mark
record MarkByte (bytes : List ℕ) : Type 0 where
  first : ℕ
  more : List ℕ
  parts : bytes ≡ first ∷ more
  is : is_mark_byte first ≡ true

mark_byte : (bytes : List ℕ) → is_mark_text bytes ≡ true → MarkByte bytes
mark_byte [] is = absurd cc
mark_byte (a ∷ []) is = record { first = a; more = []; parts = refl; is = is }
mark_byte (a ∷ b ∷ []) is = record { first = a; more = b ∷ []; parts = refl; is = (and_parts (is_mark_byte a) (is_mark_byte b) is).0 }
mark_byte (a ∷ b ∷ c ∷ rest) is = absurd cc

mark_no_name : (b : ℕ) → is_mark_byte b ≡ true → is_name_byte b ≡ false
mark_no_name b is = not-true (is_name_byte b) (first_of_three (not (is_name_byte b)) (not (is_blank b)) (is_printable b) is)
  where
    first_of_three : (x y z : Bool) → (x && y && z) ≡ true → x ≡ true
    first_of_three true y z e = refl
    first_of_three false y z e = e

pub mark_no_blank : (b : ℕ) → is_mark_byte b ≡ true → is_blank b ≡ false
mark_no_blank b is = not-true (is_blank b) (second_of_three (not (is_name_byte b)) (not (is_blank b)) (is_printable b) is)
  where
    second_of_three : (x y z : Bool) → (x && y && z) ≡ true → y ≡ true
    second_of_three true true z e = refl
    second_of_three true false z e = e
    second_of_three false true z e = refl
    second_of_three false false z e = e

mark_printable : (b : ℕ) → is_mark_byte b ≡ true → is_printable b ≡ true
mark_printable b is = third_of_three (not (is_name_byte b)) (not (is_blank b)) (is_printable b) is
  where
    third_of_three : (x y z : Bool) → (x && y && z) ≡ true → z ≡ true
    third_of_three true true z e = e
    third_of_three true false z e = absurd cc
    third_of_three false true z e = absurd cc
    third_of_three false false z e = absurd cc

-- ---- what is spelled is read

word_first : (text : List ℕ) → is_name_byte (slice_index text 0) ≡ true → first_token text ≡ option_map (λ t. (t, length (take_while is_name_byte text))) (word_token (take_while is_name_byte text))
unfolding first_token
word_first text is = rw is refl

mark_first : (text : List ℕ) → is_name_byte (slice_index text 0) ≡ false → first_token text ≡ option_map (λ m. (mark m.0, m.1)) (longest_mark (slice_index text 0) (slice_index text 1))
unfolding first_token
mark_first text off = rw off refl

word_reads : (b : ℕ) (more rest : List ℕ) (t : Lexeme) → is_name_byte b ≡ true → every is_name_byte more ≡ true → goes_on rest ≡ false → word_token (b ∷ more) ≡ Some t →
    first_token ((b ∷ more) ++ rest) ≡ Some (t, length (b ∷ more))
word_reads b more rest t is all stops token =
    word_first ((b ∷ more) ++ rest) is
    ∙ ap (λ (s : List ℕ). option_map (λ (u : Lexeme). (u, length s)) (word_token s)) (run_is (b ∷ more) rest (and_from (is_name_byte b) (every is_name_byte more) is all) stops)
    ∙ ap (option_map (λ (u : Lexeme). (u, length (b ∷ more)))) token

number_token : (b : ℕ) (more : List ℕ) (n : ℕ) (kind : Kind) → is_digit b ≡ true → literal_word (b ∷ more) ≡ Some (n, kind) → word_token (b ∷ more) ≡ Some (number n kind)
number_token b more n kind digit is =
    ap (λ (c : Bool). if c then option_map (λ (x : ℕ × Kind). number x.0 x.1) (literal_word (b ∷ more)) else plain_word (b ∷ more)) digit
    ∙ ap (option_map (λ (x : ℕ × Kind). number x.0 x.1)) is

plain_token : (b : ℕ) (more : List ℕ) → is_digit b ≡ false → word_token (b ∷ more) ≡ plain_word (b ∷ more)
plain_token b more off = ap (λ (c : Bool). if c then option_map (λ (x : ℕ × Kind). number x.0 x.1) (literal_word (b ∷ more)) else plain_word (b ∷ more)) off

abbrev plain_of : Bool → List ℕ → Option Word → Option Lexeme
plain_of short bytes (Some k) = Some (word k)
plain_of short bytes None = if short then Some (name bytes) else None

plain_is : (bytes : List ℕ) → plain_word bytes ≡ plain_of (nat_le (length bytes) 64) bytes (reserved_word bytes)
plain_is bytes = same (reserved_word bytes)
  where
    same : (o : Option Word) → (elim o [ Some k ↦ Some (word k) | None ↦ if nat_le (length bytes) 64 then Some (name bytes) else None ]) ≡ plain_of (nat_le (length bytes) 64) bytes o
    same None = refl
    same (Some k) = refl

unreserved : (o : Option Word) (bytes : List ℕ) → reserved_word bytes ≡ o → ((k : Word) → Reserved bytes k → ⊥) → o ≡ None
unreserved None bytes is free = refl
unreserved (Some k) bytes is free = absurd (free k (reserved_found bytes k is))

pub record Ready (bytes rest : List ℕ) (t : Lexeme) : Type 0 where
  pub first : ℕ
  pub more : List ℕ
  pub parts : bytes ≡ first ∷ more
  pub blank : is_blank first ≡ false
  pub printable : is_printable first ≡ true
  pub reads : first_token (bytes ++ rest) ≡ Some (t, length bytes)

word_ready : (b : ℕ) (more rest : List ℕ) (t : Lexeme) → is_name_byte b ≡ true → every is_name_byte more ≡ true → goes_on rest ≡ false → word_token (b ∷ more) ≡ Some t → Ready (b ∷ more) rest t
word_ready b more rest t is all stops token = record {
  first = b;
  more = more;
  parts = refl;
  blank = name_blank b is;
  printable = name_printable b is;
  reads = word_reads b more rest t is all stops token;
}

reserved_ready : (bytes rest : List ℕ) (k : Word) → Reserved bytes k → is_word_row bytes ≡ true → goes_on rest ≡ false → Ready bytes rest (word k)
reserved_ready [] rest k r row stops = absurd cc
reserved_ready (b ∷ more) rest k r row stops =
    let parts = and_parts (is_letter b) (every is_name_byte more) row in
    let token = plain_token b more (letter_digit b parts.0) ∙ plain_is (b ∷ more) ∙ ap (plain_of (nat_le (length (b ∷ more)) 64) (b ∷ more)) (reserved_read (b ∷ more) k r) in
    word_ready b more rest (word k) (letter_name b parts.0) parts.1 stops token

literal_ready : (bytes rest : List ℕ) (n : ℕ) (kind : Kind) → Literal bytes n kind → is_number_row bytes ≡ true → goes_on rest ≡ false → Ready bytes rest (number n kind)
literal_ready [] rest n kind l row stops = absurd cc
literal_ready (b ∷ more) rest n kind l row stops =
    let parts = and_parts (is_digit b) (every is_name_byte more) row in
    word_ready b more rest (number n kind) (digit_name b parts.0) parts.1 stops (number_token b more n kind parts.0 (literal_read (b ∷ more) n kind l))

ready_by : (bytes rest : List ℕ) (t : Lexeme) → Spells bytes t → ((more later : List ℕ) (u : Lexeme) → bytes ++ rest ≡ more ++ later → Spells more u → length more ≤ length bytes) →
    (is_mark t ≡ false → goes_on rest ≡ false) → Ready bytes rest t
ready_by _ rest _ (as_name b more letter all le free) longest apart =
    let short : nat_le (length (b ∷ more)) 64 ≡ true = le-leb (length (b ∷ more)) 64 le in
    let none = unreserved (reserved_word (b ∷ more)) (b ∷ more) refl free in
    let token = plain_token b more (letter_digit b letter) ∙ plain_is (b ∷ more) ∙ ap (plain_of (nat_le (length (b ∷ more)) 64) (b ∷ more)) none
    ∙ ap (λ (c : Bool). plain_of c (b ∷ more) None) short in
    word_ready b more rest (name (b ∷ more)) (letter_name b letter) all (apart refl) token
ready_by _ rest _ (as_word bytes k r) longest apart = reserved_ready bytes rest k r (reserved_row bytes k r) (apart refl)
ready_by _ rest _ (as_literal bytes n kind l) longest apart = literal_ready bytes rest n kind l (literal_row bytes n kind l) (apart refl)
ready_by _ rest _ (as_mark bytes m there) longest apart =
    let byte = mark_byte bytes (mark_text bytes m there) in
    let front : slice_index (bytes ++ rest) 0 ≡ byte.first = ap (λ (s : List ℕ). slice_index (s ++ rest) 0) byte.parts in
    record {
      first = byte.first;
      more = byte.more;
      parts = byte.parts;
      blank = mark_no_blank byte.first byte.is;
      printable = mark_printable byte.first byte.is;
      reads = mark_first (bytes ++ rest) (ap is_name_byte front ∙ mark_no_name byte.first byte.is)
          ∙ ap (option_map (λ (m : Mark × ℕ). (mark m.0, m.1))) (mark_read bytes rest m there longest);
    }

pub token_ready : (bytes rest : List ℕ) (t : Lexeme) → IsToken bytes rest t → Ready bytes rest t
token_ready bytes rest t token = ready_by bytes rest t token.spells token.longest token.apart

-- ---- what is read is spelled

word_longest : (b : ℕ) (s rest more later : List ℕ) → is_name_byte b ≡ true → goes_on rest ≡ false → (b ∷ s) ++ rest ≡ more ++ later → Shape more → length more ≤ length (b ∷ s)
word_longest b s rest _ later is stops e (a_word c more first all) = run_longest (b ∷ s) rest (c ∷ more) later stops (and_from (is_name_byte c) (every is_name_byte more) first all) e
word_longest b s rest _ later is stops e (a_mark bytes m there) =
    let byte = mark_byte bytes (mark_text bytes m there) in
    let front : b ≡ byte.first = ap (λ (t : List ℕ). slice_index t 0) e ∙ ap (λ (t : List ℕ). slice_index (t ++ later) 0) byte.parts in
    let clash : true ≡ false = sym is ∙ ap is_name_byte front ∙ mark_no_name byte.first byte.is in absurd cc

mark_longest : (text more later : List ℕ) (m : Mark) (k : ℕ) → is_name_byte (slice_index text 0) ≡ false → MarkFront text m k → text ≡ more ++ later → Shape more → length more ≤ k
mark_longest text _ later m k off front e (a_word b more first all) =
    let here : slice_index text 0 ≡ b = ap (λ (t : List ℕ). slice_index t 0) e in
    let clash : true ≡ false = sym first ∙ ap is_name_byte (sym here) ∙ off in absurd cc
mark_longest text _ later m k off front e (a_mark bytes n there) = front.longest bytes later n e there

-- the token at the front of a text, and its number of bytes
pub record Taken (text : List ℕ) (t : Lexeme) (k : ℕ) : Type 0 where
  pub bytes : List ℕ
  pub rest : List ℕ
  pub parts : text ≡ bytes ++ rest
  pub size : length bytes ≡ k
  pub token : IsToken bytes rest t

name_by : (c : Bool) (o : Option Word) (b : ℕ) (more : List ℕ) (t : Lexeme) → is_letter b ≡ true → every is_name_byte more ≡ true → nat_le (length (b ∷ more)) 64 ≡ c → reserved_word (b ∷ more) ≡ o →
    plain_of c (b ∷ more) o ≡ Some t → Spells (b ∷ more) t
name_by c (Some k) b more t letter all short r is = let e : word k ≡ t = cc in subst (λ (u : Lexeme). Spells (b ∷ more) u) e (as_word (b ∷ more) k (reserved_found (b ∷ more) k r))
name_by true None b more t letter all short r is =
    let e : name (b ∷ more) ≡ t = cc in
    let free : (k : Word) → Reserved (b ∷ more) k → ⊥ = λ k reserved. none_some k (sym r ∙ reserved_read (b ∷ more) k reserved) in
    subst (λ (u : Lexeme). Spells (b ∷ more) u) e (as_name b more letter all (leb-true (length (b ∷ more)) 64 short) free)
  where
    none_some : (k : Word) → None ≡ Some k → ⊥
    none_some k e = cc
name_by false None b more t letter all short r is = absurd cc

number_by : (o : Option (ℕ × Kind)) (b : ℕ) (more : List ℕ) (t : Lexeme) → is_digit b ≡ true → literal_word (b ∷ more) ≡ o →
    option_map (λ (x : ℕ × Kind). number x.0 x.1) o ≡ Some t → Spells (b ∷ more) t
number_by None b more t digit l is = absurd cc
number_by (Some x) b more t digit l is = let e : number x.0 x.1 ≡ t = cc in subst (λ (u : Lexeme). Spells (b ∷ more) u) e (as_literal (b ∷ more) x.0 x.1 (literal_found b more x digit l))

spells_by : (d : Bool) (b : ℕ) (more : List ℕ) (t : Lexeme) → is_digit b ≡ d → is_name_byte b ≡ true → every is_name_byte more ≡ true →
    (if d then option_map (λ (x : ℕ × Kind). number x.0 x.1) (literal_word (b ∷ more)) else plain_word (b ∷ more)) ≡ Some t → Spells (b ∷ more) t
spells_by true b more t digit is all token = number_by (literal_word (b ∷ more)) b more t digit refl token
spells_by false b more t digit is all token =
    name_by (nat_le (length (b ∷ more)) 64) (reserved_word (b ∷ more)) b more t (name_letter b digit is) all refl refl (sym (plain_is (b ∷ more)) ∙ token)

word_by : (o : Option Lexeme) (b : ℕ) (more rest : List ℕ) (r : Lexeme × ℕ) → is_name_byte b ≡ true → every is_name_byte more ≡ true → goes_on rest ≡ false → opens_comment (b ∷ more ++ rest) ≡ false →
    word_token (b ∷ more) ≡ o → option_map (λ (u : Lexeme). (u, length (b ∷ more))) o ≡ Some r → Taken (b ∷ more ++ rest) r.0 r.1
word_by None b more rest r is all stops off token e = absurd cc
word_by (Some t) b more rest r is all stops off token e =
    let value : (t, length (b ∷ more)) ≡ r = cc in
    let spelled = spells_by (is_digit b) b more t refl is all token in
    let good : IsToken (b ∷ more) rest t = record {
      spells = spelled;
      longest = λ longer later u same s. word_longest b more rest longer later is stops same (shape longer u s);
      apart = λ _. stops;
      no_comment = off;
    } in
    let taken : Taken (b ∷ more ++ rest) t (length (b ∷ more)) = record { bytes = b ∷ more; rest = rest; parts = refl; size = refl; token = good } in
    subst (λ (x : Lexeme × ℕ). Taken (b ∷ more ++ rest) x.0 x.1) value taken

word_taken : (b : ℕ) (text : List ℕ) (r : Lexeme × ℕ) → is_name_byte b ≡ true → opens_comment (b ∷ text) ≡ false → first_token (b ∷ text) ≡ Some r → Taken (b ∷ text) r.0 r.1
word_taken b text r is off e =
    let run = run_of text in
    let front : take_while is_name_byte (b ∷ text) ≡ b ∷ take_while is_name_byte text = take_while-cons is_name_byte b text ∙ ap (λ (c : Bool). cond c (b ∷ take_while is_name_byte text) []) is in
    let whole : b ∷ text ≡ b ∷ take_while is_name_byte text ++ run.rest = ap (λ (l : List ℕ). b ∷ l) run.parts in
    let read : option_map (λ (u : Lexeme). (u, length (b ∷ take_while is_name_byte text))) (word_token (b ∷ take_while is_name_byte text)) ≡ Some r =
    sym (word_first (b ∷ text) is ∙ ap (λ (s : List ℕ). option_map (λ (u : Lexeme). (u, length s)) (word_token s)) front) ∙ e in
    subst (λ (l : List ℕ). Taken l r.0 r.1) (sym whole)
    (word_by (word_token (b ∷ take_while is_name_byte text)) b (take_while is_name_byte text) run.rest r is run.all run.stops (ap opens_comment (sym whole) ∙ off) refl read)

mark_by : (o : Option (Mark × ℕ)) (b : ℕ) (text : List ℕ) (r : Lexeme × ℕ) → is_name_byte b ≡ false → opens_comment (b ∷ text) ≡ false → longest_mark b (slice_index (b ∷ text) 1) ≡ o →
    option_map (λ (m : Mark × ℕ). (mark m.0, m.1)) o ≡ Some r → Taken (b ∷ text) r.0 r.1
mark_by None b text r is off m e = absurd cc
mark_by (Some x) b text r is off m e =
    let value : (mark x.0, x.1) ≡ r = cc in
    let front = front_mark (b ∷ text) x m in
    let good : IsToken front.bytes front.rest (mark x.0) = record {
      spells = as_mark front.bytes x.0 front.there;
      longest = λ longer later u same s. subst (λ (k : ℕ). length longer ≤ k) (sym front.size) (mark_longest (b ∷ text) longer later x.0 x.1 is front (front.parts ∙ same) (shape longer u s));
      apart = λ wrong. no_mark wrong;
      no_comment = ap opens_comment (sym front.parts) ∙ off;
    } in
    let taken : Taken (b ∷ text) (mark x.0) x.1 = record { bytes = front.bytes; rest = front.rest; parts = front.parts; size = front.size; token = good } in
    subst (λ (y : Lexeme × ℕ). Taken (b ∷ text) y.0 y.1) value taken
  where
    no_mark : {A : Type 0} → true ≡ false → A
    no_mark e = absurd cc

taken_by : (c : Bool) (b : ℕ) (text : List ℕ) (r : Lexeme × ℕ) → is_name_byte b ≡ c → opens_comment (b ∷ text) ≡ false → first_token (b ∷ text) ≡ Some r → Taken (b ∷ text) r.0 r.1
taken_by true b text r is off e = word_taken b text r is off e
taken_by false b text r is off e = mark_by (longest_mark b (slice_index (b ∷ text) 1)) b text r is off refl (sym (mark_first (b ∷ text) is) ∙ e)

pub token_taken : (b : ℕ) (text : List ℕ) (r : Lexeme × ℕ) → opens_comment (b ∷ text) ≡ false → first_token (b ∷ text) ≡ Some r → Taken (b ∷ text) r.0 r.1
token_taken b text r off e = taken_by (is_name_byte b) b text r refl off e
