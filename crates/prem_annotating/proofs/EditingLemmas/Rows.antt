-- The walk over rows of tokens that stay: declarations, ranges and marks.
use Rattle.std.proofs.Common.{◌≡◌, ℕ, Bool, true, false, List, [], ◌∷◌, ◌++◌, refl, sym, ap, subst, ◌∙◌, append_assoc, append-nil, Option, Some, None}
use Rattle.std.specs.Prelude.{if◌then◌else◌}
use Rattle.prem_annotating.proofs.Prelude.{Order, kept, at_token, is_type, type_or, is_predictable, behind_name, in_range, TokenPlace, Elsewhere, BehindType, BehindName, InMark}
use Rattle.prem_annotating.proofs.Prelude.{InParameters, InRange, Text, lexemes_of, IsRow, spelled, TypeForm, void_type, int_type, short_type, signed_char_type, unsigned_type}
use Rattle.prem_annotating.proofs.Prelude.{unsigned_int_type, unsigned_short_type, unsigned_char_type, type_slots, Declaration, IsDeclaration, declaration_tokens, ConstantPhrase}
use Rattle.prem_annotating.proofs.Prelude.{constant_slots, IsConstant, PartedConstant, InitialPhrase, no_initial, one_initial, many_initial, ArePartedConstants, IsInitial, constants_tokens}
use Rattle.prem_annotating.proofs.Prelude.{initial_tokens, IsLength, length_tokens, GlobalPhrase, IsGlobal, global_tokens, RangePhrase, IsRange, range_tokens, LocalPhrase, AreLocals}
use Rattle.prem_annotating.proofs.Prelude.{local_tokens, ResultPhrase, IsResult, result_tokens, Slot, fits, left_parenthesis, right_parenthesis, left_brace, right_brace, left_bracket}
use Rattle.prem_annotating.proofs.Prelude.{right_bracket, semicolon, comma, equal_sign, minus_sign, a_name, a_literal, the_void, the_int, the_short, the_signed, the_char, the_unsigned}
use Rattle.prem_annotating.proofs.Prelude.{the_range, the_return, is_left_parenthesis, is_right_parenthesis, is_comma, is_name, is_void, is_int, is_short, is_signed, is_char, is_unsigned}
use Rattle.prem_annotating.proofs.Prelude.{Lexeme, name, word, mark, Seen, every, Word, and_parts}
use Rattle.prem_annotating.proofs.EditingLemmas.Goes.{Stays, stays_join, AreQuiet, quiet_join, quiet_stays}
use Rattle.prem_annotating.proofs.EditingLemmas.Quiet.{quiet_slot, row_quiet, phrase_quiet}
use Rattle.prem_annotating.proofs.Edits.{lexemes_join}
use Rattle.prem_text.specs.Grammar.Slots.{is_range}
use Rattle.prem_text.specs.declared.lexing.token.token.Mark.TheVariants as m
use Rattle.prem_text.specs.declared.lexing.token.token.Word.TheVariants as w

-- rows one behind another
pub rows_join : (s s1 s2 : TokenPlace) (xs ys : List Seen) → Stays s (lexemes_of xs) s1 → Stays s1 (lexemes_of ys) s2 → Stays s (lexemes_of (xs ++ ys)) s2
rows_join s s1 s2 xs ys one two = subst (λ l. Stays s l s2) (sym (lexemes_join xs ys)) (stays_join s s1 s2 (lexemes_of xs) (lexemes_of ys) one two)

-- ---- types

pub record IsType (x : Lexeme) : Type 0 where
  pub kind : Word
  pub is : x ≡ word kind
  pub right : is_type kind ≡ true

void_is : (x : Lexeme) → is_void x ≡ true → IsType x
void_is (word w.Void) h = record { kind = w.Void; is = refl; right = refl }
void_is (word _) h = absurd cc
void_is _ h = absurd cc

int_is : (x : Lexeme) → is_int x ≡ true → IsType x
int_is (word w.Int) h = record { kind = w.Int; is = refl; right = refl }
int_is (word _) h = absurd cc
int_is _ h = absurd cc

short_is : (x : Lexeme) → is_short x ≡ true → IsType x
short_is (word w.Short) h = record { kind = w.Short; is = refl; right = refl }
short_is (word _) h = absurd cc
short_is _ h = absurd cc

signed_is : (x : Lexeme) → is_signed x ≡ true → IsType x
signed_is (word w.Signed) h = record { kind = w.Signed; is = refl; right = refl }
signed_is (word _) h = absurd cc
signed_is _ h = absurd cc

char_is : (x : Lexeme) → is_char x ≡ true → IsType x
char_is (word w.Char) h = record { kind = w.Char; is = refl; right = refl }
char_is (word _) h = absurd cc
char_is _ h = absurd cc

unsigned_is : (x : Lexeme) → is_unsigned x ≡ true → IsType x
unsigned_is (word w.Unsigned) h = record { kind = w.Unsigned; is = refl; right = refl }
unsigned_is (word _) h = absurd cc
unsigned_is _ h = absurd cc

-- one or two types
pub data Types : List Seen → Type 0 where
  one_type : (t : Seen) → IsType t.0 → Types (t ∷ [])
  two_types : (t u : Seen) → IsType t.0 → IsType u.0 → Types (t ∷ u ∷ [])

one_row : (s : Slot) (row : List Seen) → ((x : Lexeme) → fits s x ≡ true → IsType x) → IsRow (s ∷ []) row → Types row
one_row s [] is h = absurd h
one_row s (t ∷ []) is h = one_type t (is t.0 h.0)
one_row s (t ∷ u ∷ more) is h = absurd h.1

two_row : (s r : Slot) (row : List Seen) → ((x : Lexeme) → fits s x ≡ true → IsType x) → ((x : Lexeme) → fits r x ≡ true → IsType x) → IsRow (s ∷ r ∷ []) row → Types row
two_row s r [] is are h = absurd h
two_row s r (t ∷ []) is are h = absurd h.1
two_row s r (t ∷ u ∷ []) is are h = two_types t u (is t.0 h.0) (are u.0 h.1.0)
two_row s r (t ∷ u ∷ v ∷ more) is are h = absurd h.1.1

pub types_of_row : (form : TypeForm) (row : List Seen) → IsRow (type_slots form) row → Types row
types_of_row void_type row h = one_row the_void row void_is h
types_of_row int_type row h = one_row the_int row int_is h
types_of_row short_type row h = one_row the_short row short_is h
types_of_row signed_char_type row h = two_row the_signed the_char row signed_is char_is h
types_of_row unsigned_type row h = one_row the_unsigned row unsigned_is h
types_of_row unsigned_int_type row h = two_row the_unsigned the_int row unsigned_is int_is h
types_of_row unsigned_short_type row h = two_row the_unsigned the_short row unsigned_is short_is h
types_of_row unsigned_char_type row h = two_row the_unsigned the_char row unsigned_is char_is h

type_alone : (k : Word) → is_type k ≡ true → is_predictable k ≡ false
type_alone w.Predictable h = absurd cc
type_alone _ h = refl

-- a type begins
type_first : (x : Lexeme) → IsType x → (o : Option Order) (b : ℕ) → at_token Elsewhere o x b ≡ kept b BehindType
type_first x t o b =
    let alone = ap (λ (z : Bool). kept b (if z then InMark else type_or t.kind)) (type_alone t.kind t.right) in
    let right = ap (λ (z : Bool). kept b (if z then BehindType else Elsewhere)) t.right in
    subst (λ y. at_token Elsewhere o y b ≡ kept b BehindType) (sym t.is) (alone ∙ right)

type_next : (x : Lexeme) → IsType x → (o : Option Order) (b : ℕ) → at_token BehindType o x b ≡ kept b BehindType
type_next x t o b = subst (λ y. at_token BehindType o y b ≡ kept b BehindType) (sym t.is) (ap (λ (z : Bool). kept b (if z then BehindType else Elsewhere)) t.right)

type_range : (k : Word) → is_type k ≡ true → (o : Option Order) (b : ℕ) → at_token InParameters o (word k) b ≡ kept b InParameters
type_range w.Range h o b = absurd cc
type_range _ h o b = refl

type_parameter : (x : Lexeme) → IsType x → (o : Option Order) (b : ℕ) → at_token InParameters o x b ≡ kept b InParameters
type_parameter x t o b = subst (λ y. at_token InParameters o y b ≡ kept b InParameters) (sym t.is) (type_range t.kind t.right o b)

types_stay : (row : List Seen) → Types row → Stays Elsewhere (lexemes_of row) BehindType
types_stay _ (one_type t a) = (BehindType, type_first t.0 a, refl, refl)
types_stay _ (two_types t u a b) = (BehindType, type_first t.0 a, refl, (BehindType, type_next u.0 b, refl, refl))

pub types_in_parameters : (row : List Seen) → Types row → Stays InParameters (lexemes_of row) InParameters
types_in_parameters _ (one_type t a) = (InParameters, type_parameter t.0 a, refl, refl)
types_in_parameters _ (two_types t u a b) = (InParameters, type_parameter t.0 a, refl, (InParameters, type_parameter u.0 b, refl, refl))

-- ---- names and declarations

pub record IsNameOf (x : Lexeme) : Type 0 where
  pub text : Text
  pub is : x ≡ name text

pub name_of : (x : Lexeme) → is_name x ≡ true → IsNameOf x
name_of (name x) h = record { text = x; is = refl }
name_of _ h = absurd cc

name_behind_type : (x : Lexeme) → IsNameOf x → (o : Option Order) (b : ℕ) → at_token BehindType o x b ≡ kept b BehindName
name_behind_type x n o b = subst (λ y. at_token BehindType o y b ≡ kept b BehindName) (sym n.is) refl

name_stays : (row : List Seen) → IsRow (a_name ∷ []) row → Stays BehindType (lexemes_of row) BehindName
name_stays [] h = absurd h
name_stays (t ∷ []) h = (BehindName, name_behind_type t.0 (name_of t.0 h.0), refl, refl)
name_stays (t ∷ u ∷ more) h = absurd h.1

pub declaration_stays : (d : Declaration) → IsDeclaration d → Stays Elsewhere (lexemes_of (declaration_tokens d)) BehindName
declaration_stays d h = rows_join Elsewhere BehindType BehindName d.type_row d.name_row (types_stay d.type_row (types_of_row d.form d.type_row h.0)) (name_stays d.name_row h.1)

-- ---- behind a name: what doesn't begin parameters

no_open : (x : Lexeme) → is_left_parenthesis x ≡ false → behind_name x ≡ Elsewhere
no_open (mark m.OpenParenthesis) h = absurd cc
no_open (mark _) h = refl
no_open _ h = refl

-- quiet tokens, of which the first is no `(`
pub data GoesOn : List Seen → Type 0 where
  goes_with : (t : Seen) (ts : List Seen) → is_left_parenthesis t.0 ≡ false → AreQuiet ts → GoesOn (t ∷ ts)

pub behind_stays : (ts : List Seen) → GoesOn ts → Stays BehindName (lexemes_of ts) Elsewhere
behind_stays _ (goes_with t ts off q) = (Elsewhere, (λ o b. ap (kept b) (no_open t.0 off)), refl, quiet_stays ts q)

not_open : (s : Slot) → Type 0
not_open s = (x : Lexeme) → fits s x ≡ true → is_left_parenthesis x ≡ false

no_bracket : not_open left_bracket
unfolding not_open
no_bracket (mark m.OpenParenthesis) h = absurd cc
no_bracket (mark _) h = refl
no_bracket _ h = refl

no_equal : not_open equal_sign
unfolding not_open
no_equal (mark m.OpenParenthesis) h = absurd cc
no_equal (mark _) h = refl
no_equal _ h = refl

no_semicolon : not_open semicolon
unfolding not_open
no_semicolon (mark m.OpenParenthesis) h = absurd cc
no_semicolon (mark _) h = refl
no_semicolon _ h = refl

-- a row, and quiet tokens behind it
row_goes_on : (s : Slot) (slots : List Slot) (row rest : List Seen) → not_open s → every quiet_slot (s ∷ slots) ≡ true → IsRow (s ∷ slots) row → AreQuiet rest → GoesOn (row ++ rest)
unfolding not_open
row_goes_on s slots [] rest off all h q = absurd h
row_goes_on s slots (t ∷ ts) rest off all h q = goes_with t (ts ++ rest) (off t.0 h.0) (quiet_join ts rest (row_quiet slots ts (and_parts (quiet_slot s) (every quiet_slot slots) all).1 h.1) q)

-- ---- globals

constant_quiet : (c : ConstantPhrase) → IsConstant c → AreQuiet c.row
constant_quiet c h = by c.negative c.row h
  where
    by : (n : Bool) (row : List Seen) → IsRow (constant_slots n) row → AreQuiet row
    by true row h = row_quiet (minus_sign ∷ a_literal ∷ []) row refl h
    by false row h = row_quiet (a_literal ∷ []) row refl h

constants_quiet : (cs : List PartedConstant) → ArePartedConstants cs → AreQuiet (constants_tokens cs)
constants_quiet [] h = tt
constants_quiet (c ∷ rest) h = quiet_join (c.0.row ++ c.1) (constants_tokens rest) (quiet_join c.0.row c.1 (constant_quiet c.0 h.0) (row_quiet (comma ∷ []) c.1 refl h.1)) (constants_quiet rest h.2)

initial_goes_on : (i : InitialPhrase) (tail : List Seen) → IsInitial i → IsRow (semicolon ∷ []) tail → GoesOn (initial_tokens i ++ tail)
initial_goes_on no_initial tail h t = subst GoesOn (append-nil tail) (row_goes_on semicolon [] tail [] no_semicolon refl t tt)
initial_goes_on (one_initial sign constant) tail h t =
    subst GoesOn (sym (append_assoc sign constant.row tail))
    (row_goes_on equal_sign [] sign (constant.row ++ tail) no_equal refl h.0
    (quiet_join constant.row tail (constant_quiet constant h.1) (row_quiet (semicolon ∷ []) tail refl t)))
initial_goes_on (many_initial head before last close) tail h t =
    let inner = constants_tokens before ++ last.row ++ close ++ tail in
    let q = quiet_join (constants_tokens before ++ last.row ++ close) tail
    (quiet_join (constants_tokens before ++ last.row) close
    (quiet_join (constants_tokens before) last.row (constants_quiet before h.1) (constant_quiet last h.2))
    (row_quiet (right_brace ∷ []) close refl h.3)) (row_quiet (semicolon ∷ []) tail refl t) in
    subst GoesOn (regroup head (constants_tokens before) last.row close tail) (row_goes_on equal_sign (left_brace ∷ []) head inner no_equal refl h.0 q)
  where
    regroup : (a b c d e : List Seen) → a ++ (b ++ c ++ d ++ e) ≡ a ++ b ++ c ++ d ++ e
    regroup a b c d e = simp (append_assoc)

initial_quiet : (i : InitialPhrase) → IsInitial i → AreQuiet (initial_tokens i)
initial_quiet no_initial h = tt
initial_quiet (one_initial sign constant) h = quiet_join sign constant.row (row_quiet (equal_sign ∷ []) sign refl h.0) (constant_quiet constant h.1)
initial_quiet (many_initial head before last close) h =
    quiet_join (head ++ constants_tokens before ++ last.row) close
    (quiet_join (head ++ constants_tokens before) last.row
    (quiet_join head (constants_tokens before) (row_quiet (equal_sign ∷ left_brace ∷ []) head refl h.0) (constants_quiet before h.1))
    (constant_quiet last h.2)) (row_quiet (right_brace ∷ []) close refl h.3)

length_goes_on : (len : Option (List Seen)) (i : InitialPhrase) (tail : List Seen) → IsLength len → IsInitial i → IsRow (semicolon ∷ []) tail → GoesOn (length_tokens len ++ (initial_tokens i ++ tail))
length_goes_on None i tail l h t = initial_goes_on i tail h t
length_goes_on (Some row) i tail l h t =
    row_goes_on left_bracket (a_literal ∷ right_bracket ∷ []) row (initial_tokens i ++ tail) no_bracket refl l
    (quiet_join (initial_tokens i) tail (initial_quiet i h) (row_quiet (semicolon ∷ []) tail refl t))

pub global_stays : (g : GlobalPhrase) → IsGlobal g → Stays Elsewhere (lexemes_of (global_tokens g)) Elsewhere
global_stays g h =
    let rest = length_tokens g.length ++ (initial_tokens g.initial ++ g.tail) in
    subst (λ l. Stays Elsewhere (lexemes_of l) Elsewhere) (regroup (declaration_tokens g.declaration) (length_tokens g.length) (initial_tokens g.initial) g.tail)
    (rows_join Elsewhere BehindName Elsewhere (declaration_tokens g.declaration) rest (declaration_stays g.declaration h.0) (behind_stays rest (length_goes_on g.length g.initial g.tail h.1 h.2 h.3)))
  where
    regroup : (a b c d : List Seen) → a ++ (b ++ (c ++ d)) ≡ a ++ b ++ c ++ d
    regroup a b c d = simp (append_assoc)

-- ---- what stands behind a function's parameters

pub locals_stay : (ls : List LocalPhrase) → AreLocals ls → Stays Elsewhere (lexemes_of (local_tokens ls)) Elsewhere
locals_stay [] h = refl
locals_stay (l ∷ rest) h =
    let d = declaration_tokens l.declaration in
    let inner = l.sign ++ (spelled l.value ++ l.tail) in
    let behind = behind_stays inner
    (row_goes_on equal_sign [] l.sign (spelled l.value ++ l.tail) no_equal refl h.1
    (quiet_join (spelled l.value) l.tail (phrase_quiet l.value) (row_quiet (semicolon ∷ []) l.tail refl h.3))) in
    let one = rows_join Elsewhere BehindName Elsewhere d inner (declaration_stays l.declaration h.0) behind in
    subst (λ x. Stays Elsewhere (lexemes_of x) Elsewhere) (regroup d l.sign (spelled l.value) l.tail (local_tokens rest))
    (rows_join Elsewhere Elsewhere Elsewhere (d ++ inner) (local_tokens rest) one (locals_stay rest h.4))
  where
    regroup : (a b c d e : List Seen) → (a ++ (b ++ (c ++ d))) ++ e ≡ a ++ b ++ c ++ d ++ e
    regroup a b c d e = simp (append_assoc)

pub result_quiet : (r : Option ResultPhrase) → IsResult r → AreQuiet (result_tokens r)
result_quiet None h = tt
result_quiet (Some r) h = quiet_join (r.head ++ spelled r.value) r.tail
    (quiet_join r.head (spelled r.value) (row_quiet (the_return ∷ []) r.head refl h.0) (phrase_quiet r.value)) (row_quiet (semicolon ∷ []) r.tail refl h.2)

pub close_mark : (x : Lexeme) → is_right_parenthesis x ≡ true → x ≡ mark m.CloseParenthesis
close_mark (mark m.CloseParenthesis) h = refl
close_mark (mark _) h = absurd cc
close_mark _ h = absurd cc

open_mark : (x : Lexeme) → is_left_parenthesis x ≡ true → x ≡ mark m.OpenParenthesis
open_mark (mark m.OpenParenthesis) h = refl
open_mark (mark _) h = absurd cc
open_mark _ h = absurd cc

comma_mark : (x : Lexeme) → is_comma x ≡ true → x ≡ mark m.Comma
comma_mark (mark m.Comma) h = refl
comma_mark (mark _) h = absurd cc
comma_mark _ h = absurd cc

range_word : (x : Lexeme) → is_range x ≡ true → x ≡ word w.Range
range_word (word w.Range) h = refl
range_word (word _) h = absurd cc
range_word _ h = absurd cc

-- a token stays at a spot
pub one_stays : (s s1 : TokenPlace) (x y : Lexeme) → x ≡ y → ((o : Option Order) (b : ℕ) → at_token s o y b ≡ kept b s1) → (o : Option Order) (b : ℕ) → at_token s o x b ≡ kept b s1
one_stays s s1 x y e is o b = subst (λ z. at_token s o z b ≡ kept b s1) (sym e) (is o b)

pub begins_stay : (row : List Seen) → IsRow (right_parenthesis ∷ left_brace ∷ []) row → Stays InParameters (lexemes_of row) Elsewhere
begins_stay [] h = absurd h
begins_stay (t ∷ ts) h = (Elsewhere, one_stays InParameters Elsewhere t.0 (mark m.CloseParenthesis) (close_mark t.0 h.0) (λ o b. refl), refl, quiet_stays ts (row_quiet (left_brace ∷ []) ts refl h.1))

pub opening_stays : (row : List Seen) → IsRow (left_parenthesis ∷ []) row → Stays BehindName (lexemes_of row) InParameters
opening_stays [] h = absurd h
opening_stays (t ∷ []) h = (InParameters, one_stays BehindName InParameters t.0 (mark m.OpenParenthesis) (open_mark t.0 h.0) (λ o b. refl), refl, refl)
opening_stays (t ∷ u ∷ more) h = absurd h.1

pub comma_stays : (row : List Seen) → IsRow (comma ∷ []) row → Stays InParameters (lexemes_of row) InParameters
comma_stays [] h = absurd h
comma_stays (t ∷ []) h = (InParameters, one_stays InParameters InParameters t.0 (mark m.Comma) (comma_mark t.0 h.0) (λ o b. refl), refl, refl)
comma_stays (t ∷ u ∷ more) h = absurd h.1

-- ---- a RANGE that stands

no_close : (x : Lexeme) → is_right_parenthesis x ≡ false → in_range x ≡ InRange
no_close (mark m.CloseParenthesis) h = absurd cc
no_close (mark _) h = refl
no_close _ h = refl

pub inner_slot : Slot → Bool
inner_slot left_parenthesis = true
inner_slot minus_sign = true
inner_slot a_literal = true
inner_slot comma = true
inner_slot _ = false

inner_fits : (s : Slot) (x : Lexeme) → inner_slot s ≡ true → fits s x ≡ true → is_right_parenthesis x ≡ false
unfolding inner_slot
inner_fits left_parenthesis x i f = subst (λ y. is_right_parenthesis y ≡ false) (sym (open_mark x f)) refl
inner_fits minus_sign (mark m.CloseParenthesis) i f = absurd cc
inner_fits minus_sign (mark _) i f = refl
inner_fits minus_sign _ i f = refl
inner_fits a_literal (mark _) i f = absurd cc
inner_fits a_literal _ i f = refl
inner_fits comma x i f = subst (λ y. is_right_parenthesis y ≡ false) (sym (comma_mark x f)) refl
inner_fits _ x i f = absurd cc

inner_stays : (slots : List Slot) (row : List Seen) → every inner_slot slots ≡ true → IsRow slots row → Stays InRange (lexemes_of row) InRange
inner_stays [] [] all h = refl
inner_stays [] (t ∷ ts) all h = absurd h
inner_stays (s ∷ slots) [] all h = absurd h
inner_stays (s ∷ slots) (t ∷ ts) all h =
    let parts = and_parts (inner_slot s) (every inner_slot slots) all in
    (InRange, (λ o b. ap (kept b) (no_close t.0 (inner_fits s t.0 parts.0 h.0))), refl, inner_stays slots ts parts.1 h.1)

constant_stays : (c : ConstantPhrase) → IsConstant c → Stays InRange (lexemes_of c.row) InRange
unfolding inner_slot
constant_stays c h = by c.negative c.row h
  where
    by : (n : Bool) (row : List Seen) → IsRow (constant_slots n) row → Stays InRange (lexemes_of row) InRange
    by true row h = inner_stays (minus_sign ∷ a_literal ∷ []) row refl h
    by false row h = inner_stays (a_literal ∷ []) row refl h

range_head : (row : List Seen) → IsRow (the_range ∷ left_parenthesis ∷ []) row → Stays InParameters (lexemes_of row) InRange
unfolding inner_slot
range_head [] h = absurd h
range_head (t ∷ ts) h = (InRange, one_stays InParameters InRange t.0 (word w.Range) (range_word t.0 h.0) (λ o b. refl), refl, inner_stays (left_parenthesis ∷ []) ts refl h.1)

range_close : (row : List Seen) → IsRow (right_parenthesis ∷ []) row → Stays InRange (lexemes_of row) InParameters
range_close [] h = absurd h
range_close (t ∷ []) h = (InParameters, one_stays InRange InParameters t.0 (mark m.CloseParenthesis) (close_mark t.0 h.0) (λ o b. refl), refl, refl)
range_close (t ∷ u ∷ more) h = absurd h.1

pub range_stays : (r : RangePhrase) → IsRange (Some r) → Stays InParameters (lexemes_of (range_tokens (Some r))) InParameters
unfolding inner_slot
range_stays r h =
    rows_join InParameters InRange InParameters (r.head ++ r.low.row ++ r.middle ++ r.high.row) r.close
    (rows_join InParameters InRange InRange (r.head ++ r.low.row ++ r.middle) r.high.row
    (rows_join InParameters InRange InRange (r.head ++ r.low.row) r.middle
    (rows_join InParameters InRange InRange r.head r.low.row (range_head r.head h.0) (constant_stays r.low h.1))
    (inner_stays (comma ∷ []) r.middle refl h.2))
    (constant_stays r.high h.3)) (range_close r.close h.4)
