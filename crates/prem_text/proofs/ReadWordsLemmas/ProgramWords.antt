-- Literals of a program that is read from a text are words.
use Rattle.std.proofs.Common.{ℕ, List, [], ◌∷◌, ◌++◌, Option, None, Some, sym, subst}
use Rattle.prem_text.proofs.Prelude.{HasWordsIf, LocalsHaveWords, ProgramHasWords, ProgramText, spelled, declaration_tokens, mark_tokens, parameters_tokens, LocalPhrase, local_tokens}
use Rattle.prem_text.proofs.Prelude.{local_trees, ResultPhrase, result_tokens, result_tree, global_tokens, function_tokens, ItemPhrase, of_global, of_function, items_tokens, items_tree}
use Rattle.prem_text.proofs.Prelude.{all_written, IsProgramText}
use Rattle.prem_text.proofs.CanonicalLemmas.Sayable.{AreSaid, front, back, tokens_said}
use Rattle.prem_text.proofs.ReadWordsLemmas.PhraseWords.{phrase_words}
use Rattle.prem_text.proofs.ReadWordsLemmas.StatementWords.{statements_words}
use Rattle.prem_text.proofs.Whole.{text_sound}
use Rattle.prem_text.specs.ReadWords.Law.{ReadsHaveWords}

locals_words : (ls : List LocalPhrase) → AreSaid (local_tokens ls) → LocalsHaveWords (local_trees ls)
locals_words [] s = tt
locals_words (l ∷ rest) s =
    let start = declaration_tokens l.declaration ++ l.sign in
    let to_value = front (start ++ spelled l.value) l.tail (front (start ++ spelled l.value ++ l.tail) (local_tokens rest) s) in
    (phrase_words l.value (back start (spelled l.value) to_value), locals_words rest (back (start ++ spelled l.value ++ l.tail) (local_tokens rest) s))

result_words : (r : Option ResultPhrase) → AreSaid (result_tokens r) → HasWordsIf (result_tree r)
result_words None s = tt
result_words (Some r) s = phrase_words r.value (back r.head (spelled r.value) (front (r.head ++ spelled r.value) r.tail s))

items_words : (all : List ItemPhrase) → AreSaid (items_tokens all) → ProgramHasWords (items_tree all)
items_words [] s = tt
items_words (of_global g ∷ rest) s = items_words rest (back (global_tokens g) (items_tokens rest) s)
items_words (of_function f ∷ rest) s =
    let start = mark_tokens f.mark ++ declaration_tokens f.declaration ++ f.opening ++ parameters_tokens f.params ++ f.begins in
    let to_locals = start ++ local_tokens f.locals in
    let to_body = to_locals ++ all_written f.body in
    let to_result = front (to_body ++ result_tokens f.result) f.tail (front (function_tokens f) (items_tokens rest) s) in
    let body = front to_body (result_tokens f.result) to_result in (
      locals_words f.locals (back start (local_tokens f.locals) (front to_locals (all_written f.body) body)),
      statements_words f.body (back to_locals (all_written f.body) body),
      result_words f.result (back to_body (result_tokens f.result) to_result),
      items_words rest (back (function_tokens f) (items_tokens rest) s),
    )

-- the tokens of a text are spelled, and so are those of a phrase that has them
program_words : (bytes : List ℕ) (x : ProgramText) → IsProgramText bytes x → ProgramHasWords x
program_words bytes x t =
    let said : AreSaid (items_tokens t.phrase.items ++ t.phrase.end) = subst AreSaid (sym t.spelled) (tokens_said bytes t.all t.tokens) in
    subst ProgramHasWords t.tree (items_words t.phrase.items (front (items_tokens t.phrase.items) t.phrase.end said))

pub reads_have_words : ReadsHaveWords
reads_have_words bytes x is = program_words bytes x (text_sound bytes x is)
