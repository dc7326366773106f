-- What the grammar of items spells is read, and each token past a limit is seen to be.
use Rattle.std.proofs.Common.{◌≡◌, List, [], ◌∷◌, ◌++◌, Option, None, Some, Bool, true, false, refl, ap, sym, subst, ◌∙◌, append_assoc}
use Rattle.prem_text.proofs.Prelude.{Text, Place, Ty, Typing, no_type, after_signed, after_unsigned, a_type, type_in, Declared, an_item, a_parameter, a_local, Constant, ItemRow, Stage}
use Rattle.prem_text.proofs.Prelude.{in_row, in_type, before_constant, behind_constant, ahead, refused, declared, type_or_name, type_begins, constant_of, constant, row_ends, row_goes_on}
use Rattle.prem_text.proofs.Prelude.{step, is_too_deep, IsRow, name_at, name_or_none, quiet, TypeForm, void_type, int_type, short_type, signed_char_type, unsigned_type, unsigned_int_type}
use Rattle.prem_text.proofs.Prelude.{unsigned_short_type, unsigned_char_type, type_slots, type_of, Declaration, IsDeclaration, declaration_tokens, constant_slots, constant_value, Slot}
use Rattle.prem_text.proofs.Prelude.{minus_sign, a_name, a_literal, the_void, the_int, the_short, the_signed, the_char, the_unsigned, fits, text_of, value_at, place_at, is_left_brace}
use Rattle.prem_text.proofs.Prelude.{is_name, is_literal, Lexeme, name, number, word, mark, end_of_text, Seen}
use Rattle.prem_syntax.specs.declared.tree.Ty.TheVariants.{Void, Int, Unsigned, Short, Ushort, Schar, Uchar}
use Rattle.prem_text.specs.declared.lexing.token.token.Mark.TheVariants as m
use Rattle.prem_text.specs.declared.lexing.token.token.Word.TheVariants as w

-- a stage reads all of these tokens, and no item ends with one of them
pub data Runs : Stage → List Seen → List Bool → Stage → Type 0 where
  rest : (s : Stage) → Runs s [] [] s
  forth : (s mid end : Stage) (t : Seen) (ts : List Seen) (b : Bool) (bs : List Bool) → step s t ≡ ahead mid → is_too_deep mid ≡ b → Runs mid ts bs end → Runs s (t ∷ ts) (b ∷ bs) end

pub runs_append : {p mid end : Stage} {xs ys : List Seen} {cs bs : List Bool} → Runs p xs cs mid → Runs mid ys bs end → Runs p (xs ++ ys) (cs ++ bs) end
runs_append (rest _) q = q
runs_append (forth p next _ t ts b bs is flag r) q = forth p next _ t _ b _ is flag (runs_append r q)

pub quiet_append : (xs ys : List Seen) → quiet (xs ++ ys) ≡ quiet xs ++ quiet ys
quiet_append [] ys = refl
quiet_append (t ∷ ts) ys = ap (λ (l : List Bool). false ∷ l) (quiet_append ts ys)

-- tokens none of which is past a limit
pub quietly : (s end : Stage) (xs ys : List Seen) → Runs s (xs ++ ys) (quiet xs ++ quiet ys) end → Runs s (xs ++ ys) (quiet (xs ++ ys)) end
quietly s end xs ys r = subst (λ (l : List Bool). Runs s (xs ++ ys) l end) (sym (quiet_append xs ys)) r

pub row_runs : (row : ItemRow) (got : List Seen) (wanted : Slot) (later : List Slot) (ts : List Seen) (end : Stage) → IsRow (wanted ∷ later) ts →
    row_ends row (got ++ ts) ≡ ahead end → is_too_deep end ≡ false →
    Runs (in_row row got wanted later) ts (quiet ts) end
row_runs row got wanted [] [] end fit is flag = absurd fit
row_runs row got wanted [] (t ∷ u ∷ ts) end fit is flag = absurd fit.1
row_runs row got wanted [] (t ∷ []) end fit is flag = forth _ end _ t [] false [] (fitting row got t wanted [] fit.0 ∙ is) flag (rest end)
  where
    fitting : (row : ItemRow) (got : List Seen) (t : Seen) (wanted : Slot) (later : List Slot) → fits wanted t.0 ≡ true → step (in_row row got wanted later) t ≡ row_goes_on row (got ++ t ∷ []) later
    fitting row got t wanted later h = rw h refl
row_runs row got wanted (slot ∷ later) [] end fit is flag = absurd fit
row_runs row got wanted (slot ∷ later) (t ∷ ts) end fit is flag =
    let same : row_ends row ((got ++ t ∷ []) ++ ts) ≡ ahead end = ap (λ (l : List Seen). row_ends row l) (append_assoc got (t ∷ []) ts) ∙ is in
    forth _ (in_row row (got ++ t ∷ []) slot later) _ t ts false _ (fitting row got t wanted (slot ∷ later) fit.0) refl (row_runs row (got ++ t ∷ []) slot later ts end fit.1 same flag)
  where
    fitting : (row : ItemRow) (got : List Seen) (t : Seen) (wanted : Slot) (later : List Slot) → fits wanted t.0 ≡ true → step (in_row row got wanted later) t ≡ row_goes_on row (got ++ t ∷ []) later
    fitting row got t wanted later h = rw h refl

-- a row that a stage begins
pub row_from : (s : Stage) (row : ItemRow) (first wanted : Slot) (later : List Slot) (ts : List Seen) (end : Stage) →
    ((t : Seen) → fits first t.0 ≡ true → step s t ≡ ahead (in_row row (t ∷ []) wanted later)) →
    IsRow (first ∷ wanted ∷ later) ts → row_ends row ts ≡ ahead end → is_too_deep end ≡ false → Runs s ts (quiet ts) end
row_from s row first wanted later [] end begins fit is flag = absurd fit
row_from s row first wanted later (t ∷ ts) end begins fit is flag =
    forth _ (in_row row (t ∷ []) wanted later) _ t ts false _ (begins t fit.0) refl (row_runs row (t ∷ []) wanted later ts end fit.1 is flag)

-- one token
pub one_runs : (s : Stage) (slot : Slot) (ts : List Seen) (end : Stage) → ((t : Seen) → fits slot t.0 ≡ true → step s t ≡ ahead end) →
    IsRow (slot ∷ []) ts → is_too_deep end ≡ false → Runs s ts (quiet ts) end
one_runs s slot [] end is fit flag = absurd fit
one_runs s slot (t ∷ u ∷ ts) end is fit flag = absurd fit.1
one_runs s slot (t ∷ []) end is fit flag = forth _ end _ t [] false [] (is t fit.0) flag (rest end)

-- ---- types and names

pub void_begins : (d : Declared) (x : Lexeme) (at : Place) → fits the_void x ≡ true → type_or_name d no_type at x ≡ ahead (in_type d (a_type Void))
void_begins d (word w.Void) at h = refl
void_begins d (word _) at h = absurd cc
void_begins d _ at h = absurd cc

int_begins : (d : Declared) (x : Lexeme) (at : Place) → fits the_int x ≡ true → type_or_name d no_type at x ≡ ahead (in_type d (a_type Int))
int_begins d (word w.Int) at h = refl
int_begins d (word _) at h = absurd cc
int_begins d _ at h = absurd cc

short_begins : (d : Declared) (x : Lexeme) (at : Place) → fits the_short x ≡ true → type_or_name d no_type at x ≡ ahead (in_type d (a_type Short))
short_begins d (word w.Short) at h = refl
short_begins d (word _) at h = absurd cc
short_begins d _ at h = absurd cc

signed_begins : (d : Declared) (x : Lexeme) (at : Place) → fits the_signed x ≡ true → type_or_name d no_type at x ≡ ahead (in_type d (after_signed))
signed_begins d (word w.Signed) at h = refl
signed_begins d (word _) at h = absurd cc
signed_begins d _ at h = absurd cc

unsigned_begins : (d : Declared) (x : Lexeme) (at : Place) → fits the_unsigned x ≡ true → type_or_name d no_type at x ≡ ahead (in_type d (after_unsigned))
unsigned_begins d (word w.Unsigned) at h = refl
unsigned_begins d (word _) at h = absurd cc
unsigned_begins d _ at h = absurd cc

after_signed_char : (d : Declared) (x : Lexeme) (at : Place) → fits the_char x ≡ true → type_or_name d after_signed at x ≡ ahead (in_type d (a_type Schar))
after_signed_char d (word w.Char) at h = refl
after_signed_char d (word _) at h = absurd cc
after_signed_char d _ at h = absurd cc

after_unsigned_int : (d : Declared) (x : Lexeme) (at : Place) → fits the_int x ≡ true → type_or_name d after_unsigned at x ≡ ahead (in_type d (a_type Unsigned))
after_unsigned_int d (word w.Int) at h = refl
after_unsigned_int d (word _) at h = absurd cc
after_unsigned_int d _ at h = absurd cc

after_unsigned_short : (d : Declared) (x : Lexeme) (at : Place) → fits the_short x ≡ true → type_or_name d after_unsigned at x ≡ ahead (in_type d (a_type Ushort))
after_unsigned_short d (word w.Short) at h = refl
after_unsigned_short d (word _) at h = absurd cc
after_unsigned_short d _ at h = absurd cc

after_unsigned_char : (d : Declared) (x : Lexeme) (at : Place) → fits the_char x ≡ true → type_or_name d after_unsigned at x ≡ ahead (in_type d (a_type Uchar))
after_unsigned_char d (word w.Char) at h = refl
after_unsigned_char d (word _) at h = absurd cc
after_unsigned_char d _ at h = absurd cc

abbrev pub typing_of : TypeForm → Typing
typing_of void_type = a_type Void
typing_of int_type = a_type Int
typing_of short_type = a_type Short
typing_of signed_char_type = a_type Schar
typing_of unsigned_type = after_unsigned
typing_of unsigned_int_type = a_type Unsigned
typing_of unsigned_short_type = a_type Ushort
typing_of unsigned_char_type = a_type Uchar

abbrev pub first_word : TypeForm → Slot
first_word void_type = the_void
first_word int_type = the_int
first_word short_type = the_short
first_word signed_char_type = the_signed
first_word unsigned_type = the_unsigned
first_word unsigned_int_type = the_unsigned
first_word unsigned_short_type = the_unsigned
first_word unsigned_char_type = the_unsigned

-- the words of a type, from a stage at which it may begin
pub words_run : (form : TypeForm) (d : Declared) (s : Stage) (words : List Seen) → IsRow (type_slots form) words → ((t : Seen) → fits (first_word form) t.0 ≡ true → step s t ≡ type_begins d t) →
    Runs s words (quiet words) (in_type d (typing_of form))
words_run void_type d s [] row begins = absurd row
words_run void_type d s (t ∷ []) row begins = forth _ _ _ t [] false [] (begins t row.0 ∙ void_begins d t.0 t.1 row.0) refl (rest _)
words_run void_type d s (t ∷ u ∷ ts) row begins = absurd row.1
words_run int_type d s [] row begins = absurd row
words_run int_type d s (t ∷ []) row begins = forth _ _ _ t [] false [] (begins t row.0 ∙ int_begins d t.0 t.1 row.0) refl (rest _)
words_run int_type d s (t ∷ u ∷ ts) row begins = absurd row.1
words_run short_type d s [] row begins = absurd row
words_run short_type d s (t ∷ []) row begins = forth _ _ _ t [] false [] (begins t row.0 ∙ short_begins d t.0 t.1 row.0) refl (rest _)
words_run short_type d s (t ∷ u ∷ ts) row begins = absurd row.1
words_run signed_char_type d s [] row begins = absurd row
words_run signed_char_type d s (t ∷ []) row begins = absurd row.1
words_run signed_char_type d s (t ∷ u ∷ []) row begins =
    forth _ (in_type d after_signed) _ t _ false _ (begins t row.0 ∙ signed_begins d t.0 t.1 row.0) refl
    (forth _ _ _ u [] false [] (after_signed_char d u.0 u.1 row.1.0) refl (rest _))
words_run signed_char_type d s (t ∷ u ∷ v ∷ ts) row begins = absurd row.1.1
words_run unsigned_type d s [] row begins = absurd row
words_run unsigned_type d s (t ∷ []) row begins = forth _ _ _ t [] false [] (begins t row.0 ∙ unsigned_begins d t.0 t.1 row.0) refl (rest _)
words_run unsigned_type d s (t ∷ u ∷ ts) row begins = absurd row.1
words_run unsigned_int_type d s [] row begins = absurd row
words_run unsigned_int_type d s (t ∷ []) row begins = absurd row.1
words_run unsigned_int_type d s (t ∷ u ∷ []) row begins =
    forth _ (in_type d after_unsigned) _ t _ false _ (begins t row.0 ∙ unsigned_begins d t.0 t.1 row.0) refl
    (forth _ _ _ u [] false [] (after_unsigned_int d u.0 u.1 row.1.0) refl (rest _))
words_run unsigned_int_type d s (t ∷ u ∷ v ∷ ts) row begins = absurd row.1.1
words_run unsigned_short_type d s [] row begins = absurd row
words_run unsigned_short_type d s (t ∷ []) row begins = absurd row.1
words_run unsigned_short_type d s (t ∷ u ∷ []) row begins =
    forth _ (in_type d after_unsigned) _ t _ false _ (begins t row.0 ∙ unsigned_begins d t.0 t.1 row.0) refl
    (forth _ _ _ u [] false [] (after_unsigned_short d u.0 u.1 row.1.0) refl (rest _))
words_run unsigned_short_type d s (t ∷ u ∷ v ∷ ts) row begins = absurd row.1.1
words_run unsigned_char_type d s [] row begins = absurd row
words_run unsigned_char_type d s (t ∷ []) row begins = absurd row.1
words_run unsigned_char_type d s (t ∷ u ∷ []) row begins =
    forth _ (in_type d after_unsigned) _ t _ false _ (begins t row.0 ∙ unsigned_begins d t.0 t.1 row.0) refl
    (forth _ _ _ u [] false [] (after_unsigned_char d u.0 u.1 row.1.0) refl (rest _))
words_run unsigned_char_type d s (t ∷ u ∷ v ∷ ts) row begins = absurd row.1.1

type_known : (form : TypeForm) → type_in (typing_of form) ≡ Some (type_of form)
type_known void_type = refl
type_known int_type = refl
type_known short_type = refl
type_known signed_char_type = refl
type_known unsigned_type = refl
type_known unsigned_int_type = refl
type_known unsigned_short_type = refl
type_known unsigned_char_type = refl

declared_quiet : (d : Declared) (ty : Ty) (at : Place) (x : Text) → is_too_deep (declared d ty at x) ≡ false
declared_quiet (an_item annotation) ty at x = refl
declared_quiet (a_parameter f) ty at x = refl
declared_quiet (a_local f) ty at x = refl

name_declares : (d : Declared) (typing : Typing) (ty : Ty) (x : Lexeme) (at : Place) → type_in typing ≡ Some ty → is_name x ≡ true →
    type_or_name d typing at x ≡ ahead (declared d ty at (name_or_none (text_of x)))
name_declares d typing ty (name x) at is h = ap (λ (o : Option Ty). elim o [ Some ty' ↦ ahead (declared d ty' at x) | None ↦ refused ]) is
name_declares d typing ty (number v k) at is h = absurd cc
name_declares d typing ty (word x) at is h = absurd cc
name_declares d typing ty (mark x) at is h = absurd cc
name_declares d typing ty end_of_text at is h = absurd cc

pub declaration_runs : (e : Declaration) (d : Declared) (s : Stage) → IsDeclaration e → ((t : Seen) → fits (first_word e.form) t.0 ≡ true → step s t ≡ type_begins d t) →
    Runs s (declaration_tokens e) (quiet (declaration_tokens e)) (declared d (type_of e.form) (place_at 0 e.name_row) (name_at 0 e.name_row))
declaration_runs e d s is begins =
    quietly s _ e.type_row e.name_row (runs_append (words_run e.form d s e.type_row is.0 begins) (names e.name_row is.1))
  where
    names : (row : List Seen) → IsRow (a_name ∷ []) row → Runs (in_type d (typing_of e.form)) row (quiet row) (declared d (type_of e.form) (place_at 0 row) (name_at 0 row))
    names [] fit = absurd fit
    names (t ∷ u ∷ ts) fit = absurd fit.1
    names (t ∷ []) fit = forth _ _ _ t [] false [] (name_declares d (typing_of e.form) (type_of e.form) t.0 t.1 (type_known e.form) fit.0)
        (declared_quiet d (type_of e.form) t.1 (name_or_none (text_of t.0))) (rest _)

-- ---- constants

pub literal_read : (c : Constant) (negative : Bool) (x : Lexeme) → is_literal x ≡ true →
    constant c negative x ≡ ahead (behind_constant c (constant_of negative (value_at 0 ((x, record { line = 0; col = 0 }) ∷ []))))
literal_read c negative (number v k) h = refl
literal_read c negative (name x) h = absurd cc
literal_read c negative (word x) h = absurd cc
literal_read c negative (mark x) h = absurd cc
literal_read c negative end_of_text h = absurd cc

minus_read : (c : Constant) (x : Lexeme) → fits minus_sign x ≡ true → constant c false x ≡ ahead (before_constant c true)
minus_read c (mark m.Minus) h = refl
minus_read c (mark _) h = absurd cc
minus_read c _ h = absurd cc

no_brace : (slot : Slot) (x : Lexeme) → fits slot (mark m.OpenBrace) ≡ false → fits slot x ≡ true → is_left_brace x ≡ false
no_brace slot (mark m.OpenBrace) is h = let e : false ≡ true = sym is ∙ h in absurd cc
no_brace slot (mark _) is h = refl
no_brace slot _ is h = refl

pub constant_runs : (c : Constant) (s : Stage) (negative : Bool) (row : List Seen) → IsRow (constant_slots negative) row → ((t : Seen) → is_left_brace t.0 ≡ false → step s t ≡ constant c false t.0) →
    Runs s row (quiet row) (behind_constant c (constant_value negative row))
constant_runs c s false [] fit begins = absurd fit
constant_runs c s false (t ∷ u ∷ ts) fit begins = absurd fit.1
constant_runs c s false (t ∷ []) fit begins = forth _ _ _ t [] false [] (begins t (no_brace a_literal t.0 refl fit.0) ∙ literal_read c false t.0 fit.0) refl (rest _)
constant_runs c s true [] fit begins = absurd fit
constant_runs c s true (t ∷ []) fit begins = absurd fit.1
constant_runs c s true (t ∷ u ∷ v ∷ ts) fit begins = absurd fit.1.1
constant_runs c s true (t ∷ u ∷ []) fit begins =
    forth _ (before_constant c true) _ t _ false _ (begins t (no_brace minus_sign t.0 refl fit.0) ∙ minus_read c t.0 fit.0) refl
    (forth _ _ _ u [] false [] (literal_read c true u.0 fit.1.0) refl (rest _))
