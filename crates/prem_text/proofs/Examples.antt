-- Small texts that are programs, and some that are none.
use Rattle.std.proofs.Common.{[], ◌∷◌, ◌++◌, None, codes, refl, replicate}
use Rattle.prem_text.proofs.Prelude.{ProgramText, absent, global_item, function_item, no_statements, literal_word, used_word, is_unused, reserved_word, longest_mark, first_token, start, lex}
use Rattle.prem_text.proofs.Prelude.{tokens_of, IsProgramText, IsNoProgram, Token, Syntax, TooDeep}
use Rattle.prem_text.proofs.Whole.{text_sound, text_refused}
use Rattle.prem_text.specs.Lexing.Tokens.{step}
use Rattle.prem_syntax.specs.declared.tree.Ty.TheVariants as ty

abbrev items : ProgramText
items =
    global_item record { at = record { line = 1; col = 5 }; ty = ty.Int; name = codes "x"; len = None; initial = absent } ∷
    function_item record { at = record { line = 2; col = 6 }; mark = None; ty = ty.Void; name = codes "f"; params = []; locals = []; body = no_statements; result = None } ∷
    []

a_program : IsProgramText (codes "int x;" ++ (10 ∷ []) ++ codes "void f(void){/**/}") items
unfolding tokens_of lex step start first_token reserved_word used_word is_unused longest_mark literal_word
a_program = text_sound _ _ refl

no_items : IsProgramText (codes "// ..") []
unfolding tokens_of lex step start first_token reserved_word used_word is_unused longest_mark literal_word
no_items = text_sound _ _ refl

-- the end of the text is the token that no program has there
cut_off : IsNoProgram (codes "int x") (Syntax 1 6)
unfolding tokens_of lex step start first_token reserved_word used_word is_unused longest_mark literal_word
cut_off = text_refused _ _ refl

wrong_token : IsNoProgram (codes "int int;") (Syntax 1 5)
unfolding tokens_of lex step start first_token reserved_word used_word is_unused longest_mark literal_word
wrong_token = text_refused _ _ refl

-- a token that is refused comes before the grammar
token_first : IsNoProgram (codes "int int 08") (Token 1 9)
unfolding tokens_of lex step start first_token reserved_word used_word is_unused longest_mark literal_word
token_first = text_refused _ _ refl

too_deep_a_block : IsNoProgram (codes "void f(void){" ++ replicate 65 123) (TooDeep 1)
unfolding tokens_of lex step start first_token reserved_word used_word is_unused longest_mark literal_word
too_deep_a_block = text_refused _ _ refl
