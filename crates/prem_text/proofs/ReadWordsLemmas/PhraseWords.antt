-- Literals of an expression whose tokens are spelled are words.
use Rattle.std.proofs.Common.{ℕ, ◌^◌, ◌<◌, [], ◌∷◌, arith}
use Rattle.prem_text.proofs.Prelude.{HasWords, Place, Phrase, of_literal, of_name, of_element, of_bracket, of_prefix, of_infix, spelled, tree, number, Kind}
use Rattle.prem_text.proofs.CanonicalLemmas.Sayable.{IsSayable, AreSaid, front, back, value_bound}

literal_word : (at : Place) (value : ℕ) (kind : Kind) → IsSayable (number value kind) → value < 2 ^ 32
literal_word at value kind said = omega (arith, value_bound 0 ((number value kind, at) ∷ []) (said, tt))

pub phrase_words : (p : Phrase) → AreSaid (spelled p) → HasWords (tree p)
phrase_words (of_literal at value kind) s = literal_word at value kind s.0
phrase_words (of_name at text) s = tt
phrase_words (of_element at text a index b) s = phrase_words index (front (spelled index) _ s.1.1)
phrase_words (of_bracket a inner b) s = phrase_words inner (front (spelled inner) _ s.1)
phrase_words (of_prefix at sign op operand) s = phrase_words operand s.1
phrase_words (of_infix left at sign op right) s = (phrase_words left (front (spelled left) _ s), phrase_words right (back (spelled left) _ s).1)
