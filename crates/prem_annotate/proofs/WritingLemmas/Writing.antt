-- Texts with notes are texts with annotations.
use Rattle.std.proofs.Common.{◌≡◌, ◌≤◌, subst, length, ℕ, suc, ◌+◌, List, [], ◌∷◌, ◌++◌, map, refl, sym, ap, ◌∙◌, arith, None, Ok, Err, Result}
use Rattle.prem_annotate.proofs.Prelude.{Notes, notes, wanted, annotated_text, orders_at, orders_from, texts_of, all_annotated, Wanted, annotations, unplaced_wanted, function_orders}
use Rattle.prem_annotate.proofs.Prelude.{all_orders, edited_text, text_with, functions_of, FunctionText, ProgramText, length-map}
use Rattle.prem_annotate.specs.Writing.Laws.{TextsAreEdits, TextsAreRead, TextsStay}
use Rattle.prem_annotating.proofs.Annotates.{texts_are_there, texts_are_annotated}
use Rattle.prem_annotating.proofs.EditingLemmas.Unchanged.{stays_where_same}
use Rattle.prem_annotating.proofs.Edits.{edited_divide}
use Rattle.prem_annotating.proofs.Pieces.{divided_pieces}
use Rattle.prem_annotating.specs.Editing.Walk.{Order}
use Rattle.prem_annotating.specs.Pieces.{text_of, lexemes_in}
use Rattle.prem_text.proofs.SpellingLemmas.Exact.{sound, unique}
use Rattle.prem_text.specs.Lexing.Token.Lexeme.{Seen}
use Rattle.prem_text.specs.Lexing.Tokens.{tokens_of}
use Rattle.prem_text.specs.Texts.{reads}
use Rattle.prem_text.specs.declared.lexing.token.fail.FrontFail.{FrontFail}

-- ---- orders

none_from : (n : ℕ) (fs : List FunctionText) → orders_from n fs [] ≡ all_orders fs []
none_from n [] = refl
none_from n (f ∷ fs) = ap (λ l. function_orders f None [] ++ l) (none_from (n + 1) fs)

one_less : (n : ℕ) (fs : List FunctionText) (x : Notes) (ns : List Notes) → orders_from (suc n) fs (x ∷ ns) ≡ orders_from n fs ns
one_less n [] x ns = refl
one_less n (f ∷ fs) x ns = let k : suc n + 1 ≡ suc (n + 1) = omega arith in ap (λ l. orders_at f ns n ++ l) (ap (λ m. orders_from m fs (x ∷ ns)) k ∙ one_less (n + 1) fs x ns)

pub orders_are : (fs : List FunctionText) (ns : List Notes) → orders_from 0 fs ns ≡ all_orders fs (map wanted ns)
orders_are [] ns = refl
orders_are (f ∷ fs) [] = none_from 0 (f ∷ fs)
orders_are (f ∷ fs) (n ∷ ns) = ap (λ l. function_orders f n.mark n.ranges ++ l) (one_less 0 fs n ns ∙ orders_are fs ns)

-- ---- the text of a program that is read

pub text_is : (text : List ℕ) (p : ProgramText) (os : List Order) (ns : List Notes) (new : List ℕ) → reads text ≡ Ok p →
    os ≡ orders_from 0 (functions_of p) ns → new ≡ edited_text os text → new ≡ annotated_text ns text
text_is text p os ns new read orders is =
    is ∙ ap (λ (l : List Order). edited_text l text) (orders ∙ orders_are (functions_of p) ns)
    ∙ sym (ap (λ (r : Result ProgramText FrontFail). elim r [ Ok q ↦ edited_text (all_orders (functions_of q) (map wanted ns)) text | Err fail ↦ text ]) read)

-- ---- laws

wanted_are : (fs : List FunctionText) → map wanted (map notes fs) ≡ map annotations fs
wanted_are [] = refl
wanted_are (f ∷ fs) = ap (λ l. annotations f ∷ l) (wanted_are fs)

pub texts_are_edits : TextsAreEdits
texts_are_edits lengths text p is said =
    let a = texts_are_there lengths text p is said in
    (a, ap (λ (ws : List Wanted). text_with ws text) (wanted_are (texts_of (all_annotated lengths p))) ∙ sym a.written)

pub texts_are_read : TextsAreRead
texts_are_read lengths text p is said ts tokens =
    let e = texts_are_edits lengths text p is said in
    let a = e.0 in
    let t = sound (text_of a.new) ts (ap tokens_of (sym e.1) ∙ tokens) in
    let d = divided_pieces [] a.new (edited_divide a.old a.new a.edited a.old_divided) in
    let same = unique (text_of a.new) t.tokens d.tokens t.divides d.divides in
    let long : length (lexemes_in a.new) ≡ length t.tokens = ap length (sym d.lexemes) ∙ length-map d.tokens (λ (x : Seen). x.0) ∙ ap length (sym same) in
    let count : length (lexemes_in a.new) ≤ 200000 = subst (λ n. n ≤ 200000) (sym long) t.count in
    let read = texts_are_annotated lengths text p is a t.size count in
    (read.0, ap reads e.1 ∙ read.1, read.2)

pub texts_stay : TextsStay
texts_stay text p is = stays_where_same text p (map wanted (map notes (functions_of p))) is (ap (map unplaced_wanted) (sym (wanted_are (functions_of p))))
