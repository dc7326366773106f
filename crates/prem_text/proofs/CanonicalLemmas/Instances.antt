-- Where the laws' premises hold.
use Rattle.std.proofs.Common.{◌≤◌, ℕ, [], ◌∷◌, None, codes, refl, arith}
use Rattle.prem_text.proofs.Prelude.{literal, binary, output, no_statements, next_statement, function_item, ProgramText, Place, IsOfText, IsTextOf, ReadBack, printed, Phrase, of_literal}
use Rattle.prem_text.proofs.Prelude.{of_bracket, of_infix, nowhere, literal_word, used_word, is_unused, reserved_word, longest_mark, first_token, start, lex, tokens_of, reads, Add, Sub, Int}
use Rattle.prem_text.proofs.CanonicalLemmas.Examples.{lit, outs}
use Rattle.prem_text.proofs.CanonicalLemmas.Fewest.{fewest_parentheses}
use Rattle.prem_text.proofs.CanonicalLemmas.Read.{canonical_divided, canonical_read}
use Rattle.prem_text.proofs.Whole.{text_sound}
use Rattle.prem_text.specs.Lexing.Tokens.{step}
use Rattle.prem_syntax.specs.declared.tree.Ty.TheVariants as ty
use Rattle.prem_text.specs.declared.lexing.token.token.Mark.TheVariants as m

-- ---- a program

abbrev at : ℕ → Place
at col = record { line = 1; col = col }

abbrev sum_program : ProgramText
sum_program = outs (binary nowhere Add (lit 2) (lit 3))

-- the tree of `void job(void){out(2+3);}`
abbrev sum_of_text : ProgramText
sum_of_text = function_item record {
  at = at 6;
  mark = None;
  ty = ty.Void;
  name = codes "job";
  params = [];
  locals = [];
  body = next_statement (output (at 16) (binary (at 21) Add (literal (at 20) 2 Int) (literal (at 22) 3 Int))) no_statements;
  result = None;
} ∷ []

sum_is_of_text : IsOfText sum_program
unfolding tokens_of lex step start first_token reserved_word used_word is_unused longest_mark literal_word
sum_is_of_text = record { text = codes "void job(void){out(2+3);}"; items = sum_of_text; is_text = text_sound _ _ refl; same = refl }

sum_is_divided : IsTextOf sum_program (printed sum_program)
sum_is_divided = canonical_divided sum_program sum_is_of_text

sum_is_read : ReadBack sum_program (reads (printed sum_program))
sum_is_read = canonical_read sum_program sum_is_of_text

-- ---- parentheses: `9 - ( 4 - 3 )` has fewer than `( 9 - ( ( 4 - 3 ) ) )`

abbrev number_phrase : ℕ → Phrase
number_phrase n = of_literal nowhere n Int

abbrev difference : Phrase → Phrase → Phrase
difference left right = of_infix left nowhere m.Minus Sub right

abbrev in_brackets : Phrase → Phrase
in_brackets p = of_bracket nowhere p nowhere

one_at_most : 1 ≤ 3
one_at_most =
    let law = fewest_parentheses 1 (binary nowhere Sub (lit 9) (binary nowhere Sub (lit 4) (lit 3))) (omega arith) in
    law.fewest (in_brackets (difference (number_phrase 9) (in_brackets (in_brackets (difference (number_phrase 4) (number_phrase 3))))))
    (omega arith, (refl, omega arith, omega arith, tt, (refl, omega arith, omega arith, tt, tt))) refl
