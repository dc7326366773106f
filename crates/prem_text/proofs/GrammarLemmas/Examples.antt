-- Token lists that are read, with their trees, places and refusals by hand.
use Rattle.prem_text.proofs.Prelude.{Text, literal, variable, element, unary, binary, block, if_then, if_else, bounded_while, counting_for, assign, output, input, call, Statements}
use Rattle.prem_text.proofs.Prelude.{no_statements, next_statement, absent, one, many, FunctionText, global_item, function_item, ProgramText, Place, Neg, read, Lexeme, name, number, word}
use Rattle.prem_text.proofs.Prelude.{mark, end_of_text, Seen, no_program, too_deep, FrontFail, Add, Sub, Mul, Shl, Eq, And, Int, Unsigned}
use Rattle.std.specs.Prelude.{◌≡◌, ℕ, ◌+◌, pos, neg_ℤ, Bool, true, false, List, [], ◌∷◌, ◌++◌, replicate, None, Some, Result, Ok, Err, refl}
use Rattle.prem_syntax.specs.declared.tree.Ty.TheVariants as ty
use Rattle.prem_text.specs.declared.lexing.token.token.Mark.TheVariants as m
use Rattle.prem_text.specs.declared.lexing.token.token.Word.TheVariants as w

abbrev the_x : Text
the_x = 120 ∷ []

abbrev the_y : Text
the_y = 121 ∷ []

abbrev the_z : Text
the_z = 122 ∷ []

abbrev the_f : Text
the_f = 102 ∷ []

-- each token stands on a line of its own
abbrev on_line : ℕ → Place
on_line n = record { line = n; col = 1 }

abbrev placed : ℕ → List Lexeme → List Seen
placed n [] = (end_of_text, on_line n) ∷ []
placed n (t ∷ ts) = (t, on_line n) ∷ placed (n + 1) ts

abbrev texts : List Lexeme → Result ProgramText FrontFail
texts ts = read (placed 1 ts)

-- `void f(void) { .. }`: the first token inside stands on line 7
abbrev bodies : List Lexeme → Result ProgramText FrontFail
bodies ts = texts ((word w.Void ∷ name the_f ∷ mark m.OpenParenthesis ∷ word w.Void ∷ mark m.CloseParenthesis ∷ mark m.OpenBrace ∷ []) ++ ts ++ mark m.CloseBrace ∷ [])

abbrev function_of : Statements → FunctionText
function_of body = record { at = on_line 2; mark = None; ty = ty.Void; name = the_f; params = []; locals = []; body = body; result = None }

abbrev body_is : Statements → Result ProgramText FrontFail
body_is body = Ok (function_item (function_of body) ∷ [])

-- `out ( 1 + 2 * 3 ) ;`
product_first : bodies (word w.Out ∷ mark m.OpenParenthesis ∷ number 1 Int ∷ mark m.Plus ∷ number 2 Int ∷ mark m.Star ∷ number 3 Int ∷ mark
    m.CloseParenthesis ∷ mark m.Semicolon ∷ [])
    ≡ body_is (next_statement (output (on_line 7)
    (binary (on_line 10) Add (literal (on_line 9) 1 Int) (binary (on_line 12) Mul (literal (on_line 11) 2 Int) (literal (on_line 13) 3 Int)))) no_statements)
product_first = refl

-- `out ( 9 - 4 - 3u ) ;`
from_the_left : bodies (word w.Out ∷ mark m.OpenParenthesis ∷ number 9 Int ∷ mark m.Minus ∷ number 4 Int ∷ mark m.Minus ∷ number 3 Unsigned ∷ mark
    m.CloseParenthesis ∷ mark m.Semicolon ∷ [])
    ≡ body_is (next_statement (output (on_line 7)
    (binary (on_line 12) Sub (binary (on_line 10) Sub (literal (on_line 9) 9 Int) (literal (on_line 11) 4 Int)) (literal (on_line 13) 3 Unsigned)))
    no_statements)
from_the_left = refl

-- `out ( x & y == z ) ;`
equality_before_and : bodies (word w.Out ∷ mark m.OpenParenthesis ∷ name the_x ∷ mark m.And ∷ name the_y ∷ mark m.EqualEqual ∷ name the_z ∷ mark
    m.CloseParenthesis ∷ mark m.Semicolon ∷ [])
    ≡ body_is (next_statement (output (on_line 7)
    (binary (on_line 10) And (variable (on_line 9) the_x) (binary (on_line 12) Eq (variable (on_line 11) the_y) (variable (on_line 13) the_z)))) no_statements)
equality_before_and = refl

-- `out ( - x * y [ ( 1 ) ] ) ;`
prefix_before_product : bodies
    (word w.Out ∷ mark m.OpenParenthesis ∷ mark m.Minus ∷ name the_x ∷ mark m.Star ∷ name the_y ∷ mark m.OpenBracket ∷ mark m.OpenParenthesis ∷ number
    1 Int ∷ mark m.CloseParenthesis ∷ mark m.CloseBracket ∷ mark m.CloseParenthesis ∷ mark m.Semicolon ∷ [])
    ≡ body_is (next_statement (output (on_line 7)
    (binary (on_line 11) Mul (unary (on_line 9) Neg (variable (on_line 10) the_x)) (element (on_line 12) the_y (literal (on_line 15) 1 Int)))) no_statements)
prefix_before_product = refl

-- `out ( ( 1 + 2 ) << 3 ) ;`
brackets_bind : bodies (word w.Out ∷ mark m.OpenParenthesis ∷ mark m.OpenParenthesis ∷ number 1 Int ∷ mark m.Plus ∷ number 2 Int ∷ mark
    m.CloseParenthesis ∷ mark m.ShiftLeft ∷ number 3 Int ∷ mark m.CloseParenthesis ∷ mark m.Semicolon ∷ [])
    ≡ body_is (next_statement (output (on_line 7)
    (binary (on_line 14) Shl (binary (on_line 11) Add (literal (on_line 10) 1 Int) (literal (on_line 12) 2 Int)) (literal (on_line 15) 3 Int))) no_statements)
brackets_bind = refl

-- `if ( x ) if ( y ) { } else { }`
nearest_if : bodies (word w.If ∷ mark m.OpenParenthesis ∷ name the_x ∷ mark m.CloseParenthesis ∷ word w.If ∷ mark m.OpenParenthesis ∷ name the_y ∷
    mark m.CloseParenthesis ∷ mark m.OpenBrace ∷ mark m.CloseBrace ∷ word w.Else ∷ mark m.OpenBrace ∷ mark m.CloseBrace ∷ [])
    ≡ body_is (next_statement (if_then (on_line 7) (variable (on_line 9) the_x)
    (if_else (on_line 11) (variable (on_line 13) the_y) (block (on_line 15) no_statements) (block (on_line 18) no_statements))) no_statements)
nearest_if = refl

-- `if ( x ) z ++ ; else if ( y ) z -- ;`
else_if : bodies (word w.If ∷ mark m.OpenParenthesis ∷ name the_x ∷ mark m.CloseParenthesis ∷ name the_z ∷ mark m.PlusPlus ∷ mark m.Semicolon ∷ word
    w.Else ∷ word w.If ∷ mark m.OpenParenthesis ∷ name the_y ∷ mark m.CloseParenthesis ∷ name the_z ∷ mark m.MinusMinus ∷ mark m.Semicolon ∷ [])
    ≡ body_is (next_statement (if_else (on_line 7) (variable (on_line 9) the_x)
    (assign (on_line 11) the_z None (binary (on_line 12) Add (variable (on_line 11) the_z) (literal (on_line 12) 1 Int)))
    (if_then (on_line 15) (variable (on_line 17) the_y)
    (assign (on_line 19) the_z None (binary (on_line 20) Sub (variable (on_line 19) the_z) (literal (on_line 20) 1 Int))))) no_statements)
else_if = refl

-- `x += 1 + y ;`
added_to_scalar : bodies (name the_x ∷ mark m.PlusEqual ∷ number 1 Int ∷ mark m.Plus ∷ name the_y ∷ mark m.Semicolon ∷ [])
    ≡ body_is (next_statement (assign (on_line 7) the_x None
    (binary (on_line 8) Add (variable (on_line 7) the_x) (binary (on_line 10) Add (literal (on_line 9) 1 Int) (variable (on_line 11) the_y)))) no_statements)
added_to_scalar = refl

-- `x [ y ] -= 2 ;`
taken_from_element : bodies (name the_x ∷ mark m.OpenBracket ∷ name the_y ∷ mark m.CloseBracket ∷ mark m.MinusEqual ∷ number 2 Int ∷ mark m.Semicolon
    ∷ []) ≡ body_is (next_statement
    (assign (on_line 7) the_x (Some (variable (on_line 9) the_y))
    (binary (on_line 11) Sub (element (on_line 7) the_x (variable (on_line 9) the_y)) (literal (on_line 12) 2 Int))) no_statements)
taken_from_element = refl

-- `x [ 1u ] ++ ;`
element_bumped : bodies (name the_x ∷ mark m.OpenBracket ∷ number 1 Unsigned ∷ mark m.CloseBracket ∷ mark m.PlusPlus ∷ mark m.Semicolon ∷ [])
    ≡ body_is (next_statement (assign (on_line 7) the_x (Some (literal (on_line 9) 1 Unsigned))
    (binary (on_line 11) Add (element (on_line 7) the_x (literal (on_line 9) 1 Unsigned)) (literal (on_line 11) 1 Int))) no_statements)
element_bumped = refl

-- `x [ 2 ] = y ;`
element_set : bodies (name the_x ∷ mark m.OpenBracket ∷ number 2 Int ∷ mark m.CloseBracket ∷ mark m.Equal ∷ name the_y ∷ mark m.Semicolon ∷ [])
    ≡ body_is (next_statement (assign (on_line 7) the_x (Some (literal (on_line 9) 2 Int)) (variable (on_line 12) the_y)) no_statements)
element_set = refl

-- `x = y [ 1 ] + z ;`
value_begins_with_name : bodies
    (name the_x ∷ mark m.Equal ∷ name the_y ∷ mark m.OpenBracket ∷ number 1 Int ∷ mark m.CloseBracket ∷ mark m.Plus ∷ name the_z ∷ mark m.Semicolon ∷
    []) ≡ body_is (next_statement (assign (on_line 7) the_x None
    (binary (on_line 13) Add (element (on_line 9) the_y (literal (on_line 11) 1 Int)) (variable (on_line 14) the_z))) no_statements)
value_begins_with_name = refl

-- `x = in ( ) ;`
word_taken : bodies (name the_x ∷ mark m.Equal ∷ word w.In ∷ mark m.OpenParenthesis ∷ mark m.CloseParenthesis ∷ mark m.Semicolon ∷ [])
    ≡ body_is (next_statement (input (on_line 7) the_x) no_statements)
word_taken = refl

-- `f ( ) ;`
call_alone : bodies (name the_f ∷ mark m.OpenParenthesis ∷ mark m.CloseParenthesis ∷ mark m.Semicolon ∷ []) ≡ body_is (next_statement (call (on_line 7) None the_f []) no_statements)
call_alone = refl

-- `x = f ( y , - 1 ) ;`
call_with_target : bodies (name the_x ∷ mark m.Equal ∷ name the_f ∷ mark m.OpenParenthesis ∷ name the_y ∷ mark m.Comma ∷ mark m.Minus ∷ number 1 Int ∷
    mark m.CloseParenthesis ∷ mark m.Semicolon ∷ [])
    ≡ body_is (next_statement (call (on_line 7) (Some the_x) the_f
    (variable (on_line 11) the_y ∷ unary (on_line 13) Neg (literal (on_line 14) 1 Int) ∷ [])) no_statements)
call_with_target = refl

-- `BOUNDED ( 8 ) while ( x ) { }`
bounded : bodies (word w.Bounded ∷ mark m.OpenParenthesis ∷ number 8 Int ∷ mark m.CloseParenthesis ∷ word w.While ∷ mark m.OpenParenthesis ∷ name
    the_x ∷ mark m.CloseParenthesis ∷ mark m.OpenBrace ∷ mark m.CloseBrace ∷ [])
    ≡ body_is (next_statement (bounded_while (on_line 7) 8 (variable (on_line 13) the_x) (block (on_line 15) no_statements)) no_statements)
bounded = refl

-- `for ( x = 0 ; y < 5 << 1 ; z ++ ) { }`
bumped_loop : bodies (word w.For ∷ mark m.OpenParenthesis ∷ name the_x ∷ mark m.Equal ∷ number 0 Int ∷ mark m.Semicolon ∷ name the_y ∷ mark m.Less ∷
    number 5 Int ∷ mark m.ShiftLeft ∷ number 1 Int ∷ mark m.Semicolon ∷ name the_z ∷ mark m.PlusPlus ∷ mark m.CloseParenthesis ∷ mark m.OpenBrace ∷
    mark m.CloseBrace ∷ []) ≡ body_is
    (next_statement (counting_for (on_line 7) (record { first = the_x; second = the_y; third = the_z; fourth = the_z }) (literal (on_line 11) 0 Int)
    false (binary (on_line 16) Shl (literal (on_line 15) 5 Int) (literal (on_line 17) 1 Int)) 1 (block (on_line 22) no_statements)) no_statements)
bumped_loop = refl

-- `for ( x = 0 ; x <= y ; x += 3u ) f ( ) ;`
added_loop : bodies (word w.For ∷ mark m.OpenParenthesis ∷ name the_x ∷ mark m.Equal ∷ number 0 Int ∷ mark m.Semicolon ∷ name the_x ∷ mark m.LessEqual
    ∷ name the_y ∷ mark m.Semicolon ∷ name the_x ∷ mark m.PlusEqual ∷ number 3 Unsigned ∷ mark m.CloseParenthesis ∷ name the_f ∷ mark
    m.OpenParenthesis ∷ mark m.CloseParenthesis ∷ mark m.Semicolon ∷ [])
    ≡ body_is (next_statement (counting_for (on_line 7) (record { first = the_x; second = the_x; third = the_x; fourth = the_x })
    (literal (on_line 11) 0 Int) true (variable (on_line 15) the_y) 3 (call (on_line 21) None the_f [])) no_statements)
added_loop = refl

-- `for ( x = 0 ; y < 2 ; z = f + 4 ) { }`
summed_loop : bodies (word w.For ∷ mark m.OpenParenthesis ∷ name the_x ∷ mark m.Equal ∷ number 0 Int ∷ mark m.Semicolon ∷ name the_y ∷ mark m.Less ∷
    number 2 Int ∷ mark m.Semicolon ∷ name the_z ∷ mark m.Equal ∷ name the_f ∷ mark m.Plus ∷ number 4 Int ∷ mark m.CloseParenthesis ∷ mark m.OpenBrace
    ∷ mark m.CloseBrace ∷ []) ≡ body_is
    (next_statement (counting_for (on_line 7) (record { first = the_x; second = the_y; third = the_z; fourth = the_f }) (literal (on_line 11) 0 Int)
    false (literal (on_line 15) 2 Int) 4 (block (on_line 23) no_statements)) no_statements)
summed_loop = refl

-- `{ out ( 1 ) ; } out ( 2 ) ;`
two_statements : bodies (mark m.OpenBrace ∷ word w.Out ∷ mark m.OpenParenthesis ∷ number 1 Int ∷ mark m.CloseParenthesis ∷ mark m.Semicolon ∷ mark
    m.CloseBrace ∷ word w.Out ∷ mark m.OpenParenthesis ∷ number 2 Int ∷ mark m.CloseParenthesis ∷ mark m.Semicolon ∷ [])
    ≡ body_is (next_statement (block (on_line 7) (next_statement (output (on_line 8) (literal (on_line 10) 1 Int)) no_statements))
    (next_statement (output (on_line 14) (literal (on_line 16) 2 Int)) no_statements))
two_statements = refl

-- `out ( 1 ;`
no_closing : bodies (word w.Out ∷ mark m.OpenParenthesis ∷ number 1 Int ∷ mark m.Semicolon ∷ []) ≡ no_program (on_line 10)
no_closing = refl

-- `out ( 1 2 ) ;`
two_operands : bodies (word w.Out ∷ mark m.OpenParenthesis ∷ number 1 Int ∷ number 2 Int ∷ mark m.CloseParenthesis ∷ mark m.Semicolon ∷ []) ≡ no_program (on_line 10)
two_operands = refl

-- `out ( 1 + ) ;`
no_operand : bodies (word w.Out ∷ mark m.OpenParenthesis ∷ number 1 Int ∷ mark m.Plus ∷ mark m.CloseParenthesis ∷ mark m.Semicolon ∷ []) ≡ no_program (on_line 11)
no_operand = refl

-- `out ( 1 ) ; else`
no_statement : bodies (word w.Out ∷ mark m.OpenParenthesis ∷ number 1 Int ∷ mark m.CloseParenthesis ∷ mark m.Semicolon ∷ word w.Else ∷ []) ≡ no_program (on_line 12)
no_statement = refl

-- `x = ;`
no_expression : bodies (name the_x ∷ mark m.Equal ∷ mark m.Semicolon ∷ []) ≡ no_program (on_line 9)
no_expression = refl

-- `for ( x = 0 ; x < 1 < 2 ; x ++ ) { }`
no_comparison_in_bound : bodies
    (word w.For ∷ mark m.OpenParenthesis ∷ name the_x ∷ mark m.Equal ∷ number 0 Int ∷ mark m.Semicolon ∷ name the_x ∷ mark m.Less ∷ number 1 Int ∷
    mark m.Less ∷ number 2 Int ∷ mark m.Semicolon ∷ name the_x ∷ mark m.PlusPlus ∷ mark m.CloseParenthesis ∷ mark m.OpenBrace ∷ mark m.CloseBrace ∷
    []) ≡ no_program (on_line 16)
no_comparison_in_bound = refl

-- `for ( x = 0 ; x > 1 ; x ++ ) { }`
other_comparison : bodies (word w.For ∷ mark m.OpenParenthesis ∷ name the_x ∷ mark m.Equal ∷ number 0 Int ∷ mark m.Semicolon ∷ name the_x ∷ mark
    m.Greater ∷ number 1 Int ∷ mark m.Semicolon ∷ name the_x ∷ mark m.PlusPlus ∷ mark m.CloseParenthesis ∷ mark m.OpenBrace ∷ mark m.CloseBrace ∷ [])
    ≡ no_program (on_line 14)
other_comparison = refl

-- `for ( x = 0 ; x < 1 ; x -- ) { }`
no_step_down : bodies (word w.For ∷ mark m.OpenParenthesis ∷ name the_x ∷ mark m.Equal ∷ number 0 Int ∷ mark m.Semicolon ∷ name the_x ∷ mark m.Less ∷
    number 1 Int ∷ mark m.Semicolon ∷ name the_x ∷ mark m.MinusMinus ∷ mark m.CloseParenthesis ∷ mark m.OpenBrace ∷ mark m.CloseBrace ∷ [])
    ≡ no_program (on_line 18)
no_step_down = refl

-- `x = ( y ) ( 1 ) ;`
bracketed_call : bodies (name the_x ∷ mark m.Equal ∷ mark m.OpenParenthesis ∷ name the_y ∷ mark m.CloseParenthesis ∷ mark m.OpenParenthesis ∷ number 1
    Int ∷ mark m.CloseParenthesis ∷ mark m.Semicolon ∷ []) ≡ no_program (on_line 12)
bracketed_call = refl

-- `x = 1 + f ( 2 ) ;`
no_call_in_sum : bodies (name the_x ∷ mark m.Equal ∷ number 1 Int ∷ mark m.Plus ∷ name the_f ∷ mark m.OpenParenthesis ∷ number 2 Int ∷ mark
    m.CloseParenthesis ∷ mark m.Semicolon ∷ []) ≡ no_program (on_line 12)
no_call_in_sum = refl

-- `x [ 1 ] = in ( ) ;`
element_takes_no_word : bodies
    (name the_x ∷ mark m.OpenBracket ∷ number 1 Int ∷ mark m.CloseBracket ∷ mark m.Equal ∷ word w.In ∷ mark m.OpenParenthesis ∷ mark
    m.CloseParenthesis ∷ mark m.Semicolon ∷ []) ≡ no_program (on_line 12)
element_takes_no_word = refl

-- `f ( 1 , ) ;`
empty_argument : bodies (name the_f ∷ mark m.OpenParenthesis ∷ number 1 Int ∷ mark m.Comma ∷ mark m.CloseParenthesis ∷ mark m.Semicolon ∷ []) ≡ no_program (on_line 11)
empty_argument = refl

-- `{ } int x = 1 ;`
late_local : bodies (mark m.OpenBrace ∷ mark m.CloseBrace ∷ word w.Int ∷ name the_x ∷ mark m.Equal ∷ number 1 Int ∷ mark m.Semicolon ∷ []) ≡ no_program (on_line 9)
late_local = refl

-- `{ int x = 1 ; }`
no_local_in_block : bodies (mark m.OpenBrace ∷ word w.Int ∷ name the_x ∷ mark m.Equal ∷ number 1 Int ∷ mark m.Semicolon ∷ mark m.CloseBrace ∷ []) ≡ no_program (on_line 8)
no_local_in_block = refl

-- `;`
nothing_alone : bodies (mark m.Semicolon ∷ []) ≡ no_program (on_line 7)
nothing_alone = refl

-- `return 1 ; x ++ ;`
behind_result : bodies (word w.Return ∷ number 1 Int ∷ mark m.Semicolon ∷ name the_x ∷ mark m.PlusPlus ∷ mark m.Semicolon ∷ []) ≡ no_program (on_line 10)
behind_result = refl

-- `int x [ 3 ] = { 1 , - 2 } ;`
array : texts (word w.Int ∷ name the_x ∷ mark m.OpenBracket ∷ number 3 Int ∷ mark m.CloseBracket ∷ mark m.Equal ∷ mark m.OpenBrace ∷ number 1 Int ∷
    mark m.Comma ∷ mark m.Minus ∷ number 2 Int ∷ mark m.CloseBrace ∷ mark m.Semicolon ∷ [])
    ≡ Ok (global_item record { at = on_line 2; ty = ty.Int; name = the_x; len = Some 3; initial = many (pos 1 ∷ neg_ℤ (pos 2) ∷ []) } ∷ [])
array = refl

-- `unsigned x ; signed char y = - 5u ;`
scalars : texts (word w.Unsigned ∷ name the_x ∷ mark m.Semicolon ∷ word w.Signed ∷ word w.Char ∷ name the_y ∷ mark m.Equal ∷ mark m.Minus ∷ number 5
    Unsigned ∷ mark m.Semicolon ∷ [])
    ≡ Ok (global_item record { at = on_line 2; ty = ty.Unsigned; name = the_x; len = None; initial = absent } ∷ global_item
    record { at = on_line 6; ty = ty.Schar; name = the_y; len = None; initial = one (neg_ℤ (pos 5)) } ∷ [])
scalars = refl

-- `PREDICTABLE ( 500 ) REGION ( x , 0 , 2u ) void f ( unsigned char y RANGE ( - 1 , 5 ) , short z ) { int x = 1 ; unsigned int y = 2 ; return x ; }`
marked_function : texts (word w.Predictable ∷ mark m.OpenParenthesis ∷ number 500 Int ∷ mark m.CloseParenthesis ∷ word w.Region ∷ mark
    m.OpenParenthesis ∷ name the_x ∷ mark m.Comma ∷ number 0 Int ∷ mark m.Comma ∷ number 2 Unsigned ∷ mark m.CloseParenthesis ∷ word w.Void ∷ name
    the_f ∷ mark m.OpenParenthesis ∷ word w.Unsigned ∷ word w.Char ∷ name the_y ∷ word w.Range ∷ mark m.OpenParenthesis ∷ mark m.Minus ∷ number 1 Int
    ∷ mark m.Comma ∷ number 5 Int ∷ mark m.CloseParenthesis ∷ mark m.Comma ∷ word w.Short ∷ name the_z ∷ mark m.CloseParenthesis ∷ mark m.OpenBrace ∷
    word w.Int ∷ name the_x ∷ mark m.Equal ∷ number 1 Int ∷ mark m.Semicolon ∷ word w.Unsigned ∷ word w.Int ∷ name the_y ∷ mark m.Equal ∷ number 2 Int
    ∷ mark m.Semicolon ∷ word w.Return ∷ name the_x ∷ mark m.Semicolon ∷ mark m.CloseBrace ∷ []) ≡ Ok (function_item record {
      at = on_line 14;
      mark = Some record { stated = 500; regions = record { at = on_line 7; name = the_x; low = 0; high = 2 } ∷ [] };
      ty = ty.Void;
      name = the_f;
      params = record { at = on_line 18; ty = ty.Uchar; name = the_y; range = Some (neg_ℤ (pos 1), pos 5) } ∷ record { at = on_line 28; ty = ty.Short; name = the_z; range = None } ∷ [];
      locals = record { at = on_line 32; ty = ty.Int; name = the_x; value = literal (on_line 34) 1 Int } ∷
          record { at = on_line 38; ty = ty.Unsigned; name = the_y; value = literal (on_line 40) 2 Int } ∷ [];
      body = no_statements;
      result = Some (variable (on_line 43) the_x);
    } ∷ [])
marked_function = refl

-- `void f ( int x , void y ) { }`
later_void_parameter : texts (word w.Void ∷ name the_f ∷ mark m.OpenParenthesis ∷ word w.Int ∷ name the_x ∷ mark m.Comma ∷ word w.Void ∷ name the_y ∷
    mark m.CloseParenthesis ∷ mark m.OpenBrace ∷ mark m.CloseBrace ∷ []) ≡ Ok (function_item record {
      at = on_line 2;
      mark = None;
      ty = ty.Void;
      name = the_f;
      params = record { at = on_line 5; ty = ty.Int; name = the_x; range = None } ∷ record { at = on_line 8; ty = ty.Void; name = the_y; range = None } ∷ [];
      locals = [];
      body = no_statements;
      result = None;
    } ∷ [])
later_void_parameter = refl

-- `void f ( void x ) { }`
void_parameter : texts (word w.Void ∷ name the_f ∷ mark m.OpenParenthesis ∷ word w.Void ∷ name the_x ∷ mark m.CloseParenthesis ∷ mark m.OpenBrace ∷ mark m.CloseBrace ∷ []) ≡ no_program (on_line 5)
void_parameter = refl

-- `void f ( ) { }`
no_parameters : texts (word w.Void ∷ name the_f ∷ mark m.OpenParenthesis ∷ mark m.CloseParenthesis ∷ mark m.OpenBrace ∷ mark m.CloseBrace ∷ []) ≡ no_program (on_line 4)
no_parameters = refl

-- `PREDICTABLE ( 1 ) int x ;`
marked_global : texts (word w.Predictable ∷ mark m.OpenParenthesis ∷ number 1 Int ∷ mark m.CloseParenthesis ∷ word w.Int ∷ name the_x ∷ mark m.Semicolon ∷ []) ≡ no_program (on_line 7)
marked_global = refl

-- `int x = - - 1 ;`
two_signs : texts (word w.Int ∷ name the_x ∷ mark m.Equal ∷ mark m.Minus ∷ mark m.Minus ∷ number 1 Int ∷ mark m.Semicolon ∷ []) ≡ no_program (on_line 5)
two_signs = refl

-- `int x = 1 + 2 ;`
computed_initial : texts (word w.Int ∷ name the_x ∷ mark m.Equal ∷ number 1 Int ∷ mark m.Plus ∷ number 2 Int ∷ mark m.Semicolon ∷ []) ≡ no_program (on_line 5)
computed_initial = refl

-- `char x ;`
char_alone : texts (word w.Char ∷ name the_x ∷ mark m.Semicolon ∷ []) ≡ no_program (on_line 1)
char_alone = refl

-- `unsigned unsigned x ;`
long_type : texts (word w.Unsigned ∷ word w.Unsigned ∷ name the_x ∷ mark m.Semicolon ∷ []) ≡ no_program (on_line 2)
long_type = refl

-- `int x [ 3`
cut_off : texts (word w.Int ∷ name the_x ∷ mark m.OpenBracket ∷ number 3 Int ∷ []) ≡ no_program (on_line 5)
cut_off = refl

-- `x ++ ;`
statement_outside : texts (name the_x ∷ mark m.PlusPlus ∷ mark m.Semicolon ∷ []) ≡ no_program (on_line 1)
statement_outside = refl

-- an expression of 256 tokens is the longest
abbrev output_of : List Lexeme → List Lexeme
output_of e = word w.Out ∷ mark m.OpenParenthesis ∷ e ++ mark m.CloseParenthesis ∷ mark m.Semicolon ∷ []

abbrev is_read : Result ProgramText FrontFail → Bool
is_read (Ok p) = true
is_read (Err e) = false

longest_expression : is_read (bodies (output_of (replicate 255 (mark m.Tilde) ++ number 1 Int ∷ []))) ≡ true
longest_expression = refl

one_token_more : bodies (output_of (replicate 256 (mark m.Tilde) ++ number 1 Int ∷ [])) ≡ too_deep (on_line 265)
one_token_more = refl

-- at one token Syntax comes first
wrong_and_too_long : bodies (output_of (replicate 256 (mark m.Tilde) ++ mark m.Semicolon ∷ [])) ≡ no_program (on_line 265)
wrong_and_too_long = refl

longest_result : bodies (word w.Return ∷ replicate 256 (mark m.Tilde) ++ number 1 Int ∷ mark m.Semicolon ∷ []) ≡ too_deep (on_line 264)
longest_result = refl

abbrev nested : ℕ → List Lexeme
nested n = replicate n (mark m.OpenBrace) ++ replicate n (mark m.CloseBrace)

deepest_block : is_read (bodies (nested 64)) ≡ true
deepest_block = refl

one_block_more : bodies (nested 65) ≡ too_deep (on_line 71)
one_block_more = refl

-- `out` inside 64 blocks, and behind `else` and `if` inside 63
deep_output : bodies (replicate 64 (mark m.OpenBrace) ++ output_of (number 1 Int ∷ []) ++ replicate 64 (mark m.CloseBrace)) ≡ too_deep (on_line 71)
deep_output = refl

deep_else : bodies (replicate 63 (mark m.OpenBrace) ++ (word w.If ∷ mark m.OpenParenthesis ∷ name the_x ∷ mark m.CloseParenthesis ∷ mark m.OpenBrace ∷ [])) ≡ too_deep (on_line 74)
deep_else = refl
