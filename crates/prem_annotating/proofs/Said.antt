-- What a program needs can be said: its numbers are those of literals, and its names those of globals.
use Rattle.std.proofs.Common.{◌≡◌, ℕ, zero, suc, ◌+◌, ◌≤◌, List, [], ◌∷◌, ◌++◌, refl, ap, sym, ◌∙◌, subst, arith, Option, None, Some}
use Rattle.std.specs.Prelude.{ℤ, pos, negsuc, max, ◌≤ℤ◌, unsigned_abs, slice_get, unwrap_or}
use Rattle.prem_annotating.proofs.Prelude.{annotated_mark, texts_of, all_ranged, all_annotated, annotated, first_other, ranged_routines, functions_in, IsOfGlobal, Each, IsSaidRange}
use Rattle.prem_annotating.proofs.Prelude.{IsSaidMark, CanBeSaid, AreRegionWords, parameters_of, resolved, ProgramHasWords, IsWellFormed, promoted, globals_of, functions_of, Routine}
use Rattle.prem_annotating.proofs.Prelude.{Resolved, unlimited, Text, Parameter, RegionText, MarkText, GlobalVariable, FunctionText, ProgramText, global_item, function_item, IsSayable}
use Rattle.prem_annotating.proofs.Prelude.{AreSayable, AreSaid, front as said_front, tokens_said, text_read, kind_for, type_lexemes, declaration_lexemes, length_lexemes, initial_lexemes}
use Rattle.prem_annotating.proofs.Prelude.{global_lexemes, mark_lexemes, parameters_lexemes, locals_lexemes, statements_lexemes, result_lexemes, function_lexemes, program_lexemes}
use Rattle.prem_annotating.proofs.Prelude.{items_tokens, Lexeme, name, number, word, mark, end_of_text, Spells, IsProgramText, from_to, Kind, Int, Unsigned, ints, option_map}
use Rattle.prem_annotating.proofs.Annotates.{texts_resolved}
use Rattle.prem_annotating.proofs.Fits.{ranges_fit}
use Rattle.prem_annotating.proofs.Inside.{regions_fit}
use Rattle.prem_annotating.proofs.Regions.{marked_from}
use Rattle.prem_annotating.proofs.Transformed.{resolved_annotated}
use Rattle.prem_annotating.specs.Said.{AnnotationsCanBeSaid}
use Rattle.prem_text.proofs.CanonicalLemmas.ItemsSaid.{items_said}
use Rattle.prem_text.proofs.ReadWordsLemmas.ProgramWords.{reads_have_words}
use Rattle.prem_word.specs.Ranges.{IsRange}
use Rattle.prem_text.specs.declared.lexing.token.token.Mark.TheVariants as m

-- ---- tokens that can be said

front : (xs ys : List Lexeme) → AreSayable (xs ++ ys) → AreSayable xs
front [] ys h = tt
front (name x ∷ xs) ys h = (h.0, front xs ys h.1)
front (number value kind ∷ xs) ys h = (h.0, front xs ys h.1)
front (word k ∷ xs) ys h = front xs ys h
front (mark k ∷ xs) ys h = front xs ys h
front (end_of_text ∷ xs) ys h = absurd h

back : (xs ys : List Lexeme) → AreSayable (xs ++ ys) → AreSayable ys
back [] ys h = h
back (name x ∷ xs) ys h = back xs ys h.1
back (number value kind ∷ xs) ys h = back xs ys h.1
back (word k ∷ xs) ys h = back xs ys h
back (mark k ∷ xs) ys h = back xs ys h
back (end_of_text ∷ xs) ys h = absurd h

number_said : (n : ℕ) (k : Kind) → IsSayable (number n k) → n ≤ 4294967295
number_said n Int h = omega (arith, h)
number_said n Unsigned h = h

-- ---- globals and marks of a text

pub record GlobalSaid (v : GlobalVariable) : Type 0 where
  pub name_is : Spells v.name (name v.name)
  pub len_is : unwrap_or v.len 1 ≤ 4294967295

abbrev StatedSaid : Option MarkText → Type 0
StatedSaid None = Unit {0}
StatedSaid (Some k) = k.stated ≤ 4294967295

len_said : (o : Option ℕ) → AreSayable (length_lexemes o) → unwrap_or o 1 ≤ 4294967295
len_said None h = omega arith
len_said (Some n) h = number_said n (kind_for n) h.0

global_said : (v : GlobalVariable) → AreSayable (global_lexemes v) → GlobalSaid v
global_said v h =
    let start = declaration_lexemes v.ty v.name in
    let h3 = front (start ++ length_lexemes v.len ++ initial_lexemes v.initial) (mark m.Semicolon ∷ []) h in
    let h2 = front (start ++ length_lexemes v.len) (initial_lexemes v.initial) h3 in
    let named = back (type_lexemes v.ty) (name v.name ∷ []) (front start (length_lexemes v.len) h2) in
    record { name_is = named.0; len_is = len_said v.len (back start (length_lexemes v.len) h2) }

stated_said : (o : Option MarkText) → AreSayable (mark_lexemes o) → StatedSaid o
stated_said None h = tt
stated_said (Some k) h = number_said k.stated (kind_for k.stated) h.0

function_said : (f : FunctionText) → AreSayable (function_lexemes f) → StatedSaid f.mark
function_said f h =
    let to_name = mark_lexemes f.mark ++ declaration_lexemes f.ty f.name in
    let to_params = to_name ++ (mark m.OpenParenthesis ∷ []) ++ parameters_lexemes f.params in
    let to_locals = to_params ++ (mark m.CloseParenthesis ∷ mark m.OpenBrace ∷ []) ++ locals_lexemes f.locals in
    let h8 = front (to_locals ++ statements_lexemes f.body ++ result_lexemes f.result) (mark m.CloseBrace ∷ []) h in
    let h7 = front (to_locals ++ statements_lexemes f.body) (result_lexemes f.result) h8 in
    let h6 = front to_locals (statements_lexemes f.body) h7 in
    let h5 = front (to_params ++ mark m.CloseParenthesis ∷ mark m.OpenBrace ∷ []) (locals_lexemes f.locals) h6 in
    let h4 = front to_params (mark m.CloseParenthesis ∷ mark m.OpenBrace ∷ []) h5 in
    let h3 = front (to_name ++ mark m.OpenParenthesis ∷ []) (parameters_lexemes f.params) h4 in
    let h2 = front to_name (mark m.OpenParenthesis ∷ []) h3 in
    stated_said f.mark (front (mark_lexemes f.mark) (declaration_lexemes f.ty f.name) h2)

globals_said : (p : ProgramText) → AreSayable (program_lexemes p) → Each GlobalSaid (globals_of p)
globals_said [] h = tt
globals_said (global_item g ∷ items) h = (global_said g (front (global_lexemes g) (program_lexemes items) h), globals_said items (back (global_lexemes g) (program_lexemes items) h))
globals_said (function_item f ∷ items) h = globals_said items (back (function_lexemes f) (program_lexemes items) h)

marks_said : (p : ProgramText) → AreSayable (program_lexemes p) → Each (λ (f : FunctionText). StatedSaid f.mark) (functions_of p)
marks_said [] h = tt
marks_said (global_item g ∷ items) h = marks_said items (back (global_lexemes g) (program_lexemes items) h)
marks_said (function_item f ∷ items) h = (function_said f (front (function_lexemes f) (program_lexemes items) h), marks_said items (back (function_lexemes f) (program_lexemes items) h))

text_said : (text : List ℕ) (p : ProgramText) → IsProgramText text p → AreSayable (program_lexemes p)
text_said text p is =
    let all = subst AreSaid (sym is.spelled) (tokens_said text is.all is.tokens) in
    subst (λ (q : ProgramText). AreSayable (program_lexemes q)) is.tree (items_said is.phrase.items is.right.0 (said_front (items_tokens is.phrase.items) is.phrase.end all))

-- ---- lists by number

at_number : {A : Type 0} (P : A → Type 0) (xs : List A) → Each P xs → (n : ℕ) (x : A) → slice_get xs n ≡ Some x → P x
at_number P [] h n x there = absurd cc
at_number P (y ∷ ys) h zero x there = let same : y ≡ x = cc in subst P same h.0
at_number P (y ∷ ys) h (suc n) x there = at_number P ys h.1 n x there

by_number : {A : Type 0} (P : A → Type 0) (xs : List A) → ((n : ℕ) (x : A) → slice_get xs n ≡ Some x → P x) → Each P xs
by_number P [] h = tt
by_number P (x ∷ xs) h = (h 0 x refl, by_number P xs (λ n y there. h (suc n) y there))

record HasText (fs : List Routine) (n : ℕ) (t : FunctionText) : Type 0 where
  routine : Routine
  there : slice_get fs n ≡ Some routine
  is : routine.text ≡ t

text_at : (fs : List Routine) (n : ℕ) (t : FunctionText) → slice_get (texts_of fs) n ≡ Some t → HasText fs n t
text_at [] n t there = absurd cc
text_at (f ∷ fs) zero t there = let same : f.text ≡ t = cc in record { routine = f; there = refl; is = same }
text_at (f ∷ fs) (suc n) t there = let h = text_at fs n t there in record { routine = h.routine; there = h.there; is = h.is }

at_text : (fs : List Routine) (n : ℕ) (f : Routine) → slice_get fs n ≡ Some f → slice_get (texts_of fs) n ≡ Some f.text
at_text [] n f there = absurd cc
at_text (g ∷ fs) zero f there = let same : g ≡ f = cc in ap (λ (x : Routine). Some x.text) same
at_text (g ∷ fs) (suc n) f there = at_text fs n f there

-- a function with its ranges has the mark that it had
record MarkedAs (fs : List Routine) (n : ℕ) (g : Routine) : Type 0 where
  routine : Routine
  there : slice_get fs n ≡ Some routine
  is : g.text.mark ≡ routine.text.mark

mark_ranged : (k : ℕ) (fs : List Routine) (n : ℕ) (g : Routine) → slice_get (ranged_routines k fs) n ≡ Some g → MarkedAs fs n g
mark_ranged k [] n g there = absurd cc
mark_ranged k (f ∷ fs) zero g there = record { routine = f; there = refl; is = by there }
  where
    by : slice_get (ranged_routines k (f ∷ fs)) zero ≡ Some g → g.text.mark ≡ f.text.mark
    by same = ap (λ (o : Option Routine). elim o [ None ↦ f.text.mark | Some x ↦ x.text.mark ]) (sym same)
mark_ranged k (f ∷ fs) (suc n) g there = let h = mark_ranged (k + 1) fs n g there in record { routine = h.routine; there = h.there; is = h.is }

-- ---- numbers

abs_small : (z : ℤ) → negsuc 2147483647 ≤ℤ z → z ≤ℤ pos 4294967295 → unsigned_abs z ≤ 4294967295
abs_small (pos n) low high = omega (arith, ints, high)
abs_small (negsuc n) low high = omega (arith, ints, low)

range_small : (k : Kind) (r : ℤ × ℤ) → IsRange k (from_to r.0 r.1) → IsSaidRange (Some r)
range_small Int r is = (
  abs_small r.0 is.least (omega (arith, ints, is.ordered, is.greatest)),
  abs_small r.1 (omega (arith, ints, is.ordered, is.least)) (omega (arith, ints, is.greatest)),
)
range_small Unsigned r is = (
  abs_small r.0 (omega (arith, ints, is.least)) (omega (arith, ints, is.ordered, is.greatest)),
  abs_small r.1 (omega (arith, ints, is.ordered, is.least)) is.greatest,
)

max_said : (a b : ℕ) → a ≤ 4294967295 → b ≤ 4294967295 → max a b ≤ 4294967295
max_said a b ha hb = omega (arith, ha, hb)

-- ---- annotations

record Basis (lengths : ℕ → ℕ) (p : ProgramText) : Type 0 where
  formed : IsWellFormed p
  words : ProgramHasWords p
  first : first_other p ≡ None
  globals : Each GlobalSaid (globals_of p)
  marks : Each (λ (f : FunctionText). StatedSaid f.mark) (functions_of p)
  lengths_are : (n : ℕ) → lengths n ≤ 4294967295

routines_are : (lengths : ℕ → ℕ) (p : ProgramText) → functions_in (annotated lengths p) ≡ all_annotated lengths p
routines_are lengths p = ap (λ (q : Resolved). q.routines) (resolved_annotated lengths p)

parameter_said : (lengths : ℕ → ℕ) (p : ProgramText) → Basis lengths p → (n : ℕ) (f : Routine) → slice_get (all_annotated lengths p) n ≡ Some f →
    (k : ℕ) (q : Parameter) → slice_get f.text.params k ≡ Some q → IsSaidRange q.range
parameter_said lengths p basis n f there k q q_there = by q.range refl
  where
    by : (o : Option (ℤ × ℤ)) → q.range ≡ o → IsSaidRange o
    by None e = tt
    by (Some r) e =
        let params : parameters_of (slice_get (functions_in (annotated lengths p)) n) ≡ f.text.params =
        ap (λ (fs : List Routine). parameters_of (slice_get fs n)) (routines_are lengths p) ∙ ap parameters_of there in
        range_small (promoted q.ty) r (ranges_fit lengths p basis.formed basis.words basis.first n k q r (ap (λ (ps : List Parameter). slice_get ps k) params ∙ q_there) e)

regions_said : (p : ProgramText) → Each GlobalSaid (globals_of p) → (rs : List RegionText) → ((k : ℕ) (r : RegionText) → slice_get rs k ≡ Some r → IsOfGlobal p r) → AreRegionWords rs
regions_said p globals [] h = tt
regions_said p globals (r ∷ rs) h =
    let is = h 0 r refl in
    let said = at_number GlobalSaid (globals_of p) globals is.number is.variable is.there in
    let below = is.below in
    let ordered = is.ordered in
    let len = said.len_is in
    let high : r.high ≤ 4294967295 = omega (arith, below, len) in
    let low : r.low ≤ 4294967295 = omega (arith, ordered, high) in
    (subst (λ (x : Text). Spells x (name x)) (sym is.name_is) said.name_is, low, high, regions_said p globals rs (λ k s there. h (suc k) s there))

stated_small : (rs : List RegionText) (length : ℕ) (o : Option MarkText) (k : MarkText) → length ≤ 4294967295 → StatedSaid o → option_map (annotated_mark rs length) o ≡ Some k → k.stated ≤ 4294967295
stated_small rs length None k small h e = absurd cc
stated_small rs length (Some old) k small h e = let same : annotated_mark rs length old ≡ k = cc in subst (λ (x : MarkText). x.stated ≤ 4294967295) same (max_said old.stated length h small)

mark_said : (lengths : ℕ → ℕ) (p : ProgramText) → Basis lengths p → (n : ℕ) (f : Routine) → slice_get (all_annotated lengths p) n ≡ Some f → IsSaidMark f.text.mark
mark_said lengths p basis n f there = by f.text.mark refl
  where
    stated : (k : MarkText) → f.text.mark ≡ Some k → k.stated ≤ 4294967295
    stated k e =
        let from = marked_from lengths (resolved p).globals (all_ranged p) n f there in
        let old = mark_ranged 0 (resolved p).routines n from.routine from.there in
        let text = ap (λ (ts : List FunctionText). slice_get ts n) (sym (texts_resolved (functions_of p) unlimited.turns 0 [] p)) ∙ at_text (resolved p).routines n old.routine old.there in
        let small = at_number (λ (g : FunctionText). StatedSaid g.mark) (functions_of p) basis.marks n old.routine.text text in
        stated_small _ (lengths n) from.routine.text.mark k (basis.lengths_are n) (subst StatedSaid (sym old.is) small) (ap (λ (x : Routine). x.text.mark) from.is ∙ e)

    by : (o : Option MarkText) → f.text.mark ≡ o → IsSaidMark o
    by None e = tt
    by (Some k) e = (
      stated k e,
      regions_said p basis.globals k.regions (λ j r r_there.
          regions_fit lengths p basis.formed basis.words basis.first n j r
          (record {
            function = f;
            there = ap (λ (fs : List Routine). slice_get fs n) (routines_are lengths p) ∙ there;
            mark = k;
            marked = e;
            stands = r_there;
          })),
    )

all_said : (ts : List FunctionText) → ((n : ℕ) (t : FunctionText) → slice_get ts n ≡ Some t → Each (λ (q : Parameter). IsSaidRange q.range) t.params × IsSaidMark t.mark) → CanBeSaid ts
all_said [] h = tt
all_said (t ∷ ts) h = let one = h 0 t refl in (one.0, one.1, all_said ts (λ n u there. h (suc n) u there))

pub annotations_can_be_said : AnnotationsCanBeSaid
annotations_can_be_said lengths text p is formed first small =
    let sayable = text_said text p is in
    let basis : Basis lengths p = record {
      formed = formed;
      words = reads_have_words text p (text_read text p is);
      first = first;
      globals =
          globals_said p sayable;
      marks = marks_said p sayable;
      lengths_are = small;
    } in
    all_said (texts_of (all_annotated lengths p)) (λ n t there.
    let has = text_at (all_annotated lengths p) n t there in
    subst (λ (x : FunctionText). Each (λ (q : Parameter). IsSaidRange q.range) x.params × IsSaidMark x.mark) has.is
    (by_number (λ (q : Parameter). IsSaidRange q.range) has.routine.text.params (parameter_said lengths p basis n has.routine has.there), mark_said lengths p basis n has.routine has.there))
