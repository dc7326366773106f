-- The law at small texts.
use Rattle.std.proofs.Common.{◌≡◌, ℕ, ◌^◌, List, [], ◌∷◌, None, Some, Ok, Err, codes, refl, arith}
use Rattle.prem_text.proofs.Prelude.{ProgramHasWords, literal, variable, element, binary, assign, no_statements, next_statement, ProgramText, absent, global_item, function_item, Place}
use Rattle.prem_text.proofs.Prelude.{literal_word, used_word, is_unused, reserved_word, longest_mark, first_token, start, lex, tokens_of, reads, Token, Add, Int, Unsigned}
use Rattle.prem_text.proofs.ReadWordsLemmas.ProgramWords.{reads_have_words}
use Rattle.prem_text.specs.Lexing.Tokens.{step}
use Rattle.prem_syntax.specs.declared.tree.Ty.TheVariants as ty

-- a place in the first line
abbrev in_column : ℕ → Place
in_column n = record { line = 1; col = n }

-- a program with one literal, which is the result of its function
abbrev returning : ℕ → ProgramText
returning n =
    function_item record {
      at = in_column 10;
      mark = None;
      ty = ty.Unsigned;
      name = codes "f";
      params = [];
      locals = [];
      body = no_statements;
      result = Some (literal (in_column 27) n Unsigned);
    } ∷
    []

largest_read : reads (codes "unsigned f(void) { return 4294967295u; }") ≡ Ok (returning 4294967295)
unfolding tokens_of lex step start first_token reserved_word used_word is_unused longest_mark literal_word
largest_read = refl

-- the largest literal is a word
largest : ProgramHasWords (returning 4294967295)
largest = reads_have_words _ _ largest_read

-- one more is no token
one_more : reads (codes "unsigned f(void) { return 4294967296u; }") ≡ Err (Token 1 27)
unfolding tokens_of lex step start first_token reserved_word used_word is_unused longest_mark literal_word
one_more = refl

-- no text gives a literal that is no word
never_read : (bytes : List ℕ) → reads bytes ≡ Ok (returning (2 ^ 32)) → ⊥
never_read bytes is = omega (arith, (reads_have_words bytes (returning (2 ^ 32)) is).2)

-- literals of a target stand twice in what is assigned, and 1 is added where the text has no literal
abbrev changing : ProgramText
changing =
    global_item record { at = in_column 5; ty = ty.Int; name = codes "a"; len = Some 2; initial = absent } ∷
    function_item record {
      at = in_column 16;
      mark = None;
      ty = ty.Void;
      name = codes "f";
      params = record { at = in_column 22; ty = ty.Int; name = codes "i"; range = None } ∷ [];
      locals = [];
      body = next_statement
          (assign (in_column 27) (codes "a") (Some (literal (in_column 29) 9 Int))
          (binary (in_column 32) Add (element (in_column 27) (codes "a") (literal (in_column 29) 9 Int)) (literal (in_column 35) 7 Int)))
          (next_statement (assign (in_column 38) (codes "i") None (binary (in_column 39) Add (variable (in_column 38) (codes "i")) (literal (in_column 39) 1 Int))) no_statements);
      result = None;
    } ∷
    []

changing_read : reads (codes "int a[2]; void f(int i) { a[9] += 7; i++; }") ≡ Ok changing
unfolding tokens_of lex step start first_token reserved_word used_word is_unused longest_mark literal_word
changing_read = refl

changed : ProgramHasWords changing
changed = reads_have_words _ _ changing_read
