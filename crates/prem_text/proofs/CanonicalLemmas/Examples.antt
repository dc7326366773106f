-- Trees with their canonical spellings.
use Rattle.std.proofs.Common.{◌≡◌, ℕ, pos, negsuc, true, false, [], ◌∷◌, None, Some, codes, refl}
use Rattle.prem_text.proofs.Prelude.{Expression, literal, variable, element, unary, binary, Statement, block, if_then, if_else, bounded_while, counting_for, assign, output, input, call}
use Rattle.prem_text.proofs.Prelude.{Statements, no_statements, next_statement, absent, one, many, global_item, function_item, ProgramText, Neg, Not, printed, nowhere, Add, Sub, Mul, Shl}
use Rattle.prem_text.proofs.Prelude.{Eq, And, OrElse, AndAlso, Lt, Int, Unsigned}
use Rattle.std.specs.Fmt.{digits}
use Rattle.prem_syntax.specs.declared.tree.Ty.TheVariants as ty

abbrev pub lit : ℕ → Expression
lit n = literal nowhere n Int

abbrev x : Expression
x = variable nowhere (codes "x")

abbrev two : Statement → Statement → Statements
two a b = next_statement a (next_statement b no_statements)

abbrev only : Statement → Statements
only a = next_statement a no_statements

abbrev with_body : Statements → ProgramText
with_body body = function_item record { at = nowhere; mark = None; ty = ty.Void; name = codes "job"; params = []; locals = []; body = body; result = None } ∷ []

abbrev pub outs : Expression → ProgramText
outs e = with_body (only (output nowhere e))

row_one : printed (outs (binary nowhere Add (lit 2) (lit 3))) ≡ codes "void job ( void ) { out ( 2 + 3 ) ; }"
unfolding digits
row_one = refl

left_alone : printed (outs (binary nowhere Sub (binary nowhere Sub (lit 9) (lit 4)) (lit 3))) ≡ codes "void job ( void ) { out ( 9 - 4 - 3 ) ; }"
unfolding digits
left_alone = refl

right_enclosed : printed (outs (binary nowhere Sub (lit 9) (binary nowhere Sub (lit 4) (lit 3)))) ≡ codes "void job ( void ) { out ( 9 - ( 4 - 3 ) ) ; }"
unfolding digits
right_enclosed = refl

tighter_alone : printed (outs (binary nowhere Add (binary nowhere Mul (lit 1) (lit 2)) (binary nowhere Mul (lit 3) (lit 4)))) ≡ codes "void job ( void ) { out ( 1 * 2 + 3 * 4 ) ; }"
unfolding digits
tighter_alone = refl

looser_enclosed : printed (outs (binary nowhere Mul (binary nowhere Add (lit 1) (lit 2)) (binary nowhere Add (lit 3) (lit 4)))) ≡ codes "void job ( void ) { out ( ( 1 + 2 ) * ( 3 + 4 ) ) ; }"
unfolding digits
looser_enclosed = refl

loosest : printed (outs (binary nowhere OrElse (binary nowhere AndAlso x x) (binary nowhere AndAlso x (binary nowhere OrElse x x)))) ≡ codes "void job ( void ) { out ( x && x || x && ( x || x ) ) ; }"
unfolding digits
loosest = refl

equality_in_and : printed (outs (binary nowhere And (binary nowhere Eq x (lit 0)) (binary nowhere Eq (binary nowhere And x (lit 1)) (lit 0))))
    ≡ codes "void job ( void ) { out ( x == 0 & ( x & 1 ) == 0 ) ; }"
unfolding digits
equality_in_and = refl

prefixes : printed (outs (unary nowhere Neg (unary nowhere Neg (binary nowhere Add x (lit 1))))) ≡ codes "void job ( void ) { out ( - - ( x + 1 ) ) ; }"
unfolding digits
prefixes = refl

prefix_in_product : printed (outs (binary nowhere Mul (unary nowhere Neg x) (unary nowhere Not x))) ≡ codes "void job ( void ) { out ( - x * ! x ) ; }"
unfolding digits
prefix_in_product = refl

an_index : printed (outs (element nowhere (codes "a") (binary nowhere OrElse x (lit 1)))) ≡ codes "void job ( void ) { out ( a [ x || 1 ] ) ; }"
unfolding digits
an_index = refl

kinds : printed (outs (binary nowhere Add (literal nowhere 0 Int) (literal nowhere 4294967295 Unsigned))) ≡ codes "void job ( void ) { out ( 0 + 4294967295u ) ; }"
unfolding digits
kinds = refl

every_statement : printed (with_body (
    next_statement (block nowhere no_statements) (next_statement (assign nowhere (codes "x") None (lit 1))
    (next_statement (assign nowhere (codes "a") (Some x) (binary nowhere Add (element nowhere (codes "a") x) (lit 1))) (next_statement (input nowhere (codes "x"))
    (next_statement (call nowhere None (codes "f") [])
    (next_statement (call nowhere (Some (codes "x")) (codes "f") (x ∷ lit 2 ∷ [])) no_statements)))))))
    ≡ codes "void job ( void ) { { } x = 1 ; a [ x ] = a [ x ] + 1 ; x = in ( ) ; f ( ) ; x = f ( x , 2 ) ; }"
unfolding digits
every_statement = refl

-- a bound of a loop is an expression of the level of shifts
loops : printed (with_body (
    two (bounded_while nowhere 2147483648 (binary nowhere Lt x (lit 3)) (block nowhere no_statements))
    (counting_for nowhere (record { first = codes "i"; second = codes "i"; third = codes "i"; fourth = codes "i" }) (binary nowhere OrElse x x) true
    (binary nowhere Lt x (lit 4)) 1 (block nowhere no_statements))))
    ≡ codes "void job ( void ) { BOUNDED ( 2147483648u ) while ( x < 3 ) { } for ( i = x || x ; i <= ( x < 4 ) ; i = i + 1 ) { } }"
unfolding digits
loops = refl

high_shift : printed (with_body
    (only (counting_for nowhere (record { first = codes "i"; second = codes "j"; third = codes "k"; fourth = codes "l" }) (lit 0) false
    (binary nowhere Shl x (lit 4)) 2147483647 (output nowhere x)))) ≡ codes "void job ( void ) { for ( i = 0 ; j < x << 4 ; k = l + 2147483647 ) out ( x ) ; }"
unfolding digits
high_shift = refl

-- an `else` belongs to the nearest `if`, and a block keeps it from an inner one
nearest_if : printed (with_body (only (if_then nowhere x (if_else nowhere x (output nowhere (lit 1)) (output nowhere (lit 2))))))
    ≡ codes "void job ( void ) { if ( x ) if ( x ) out ( 1 ) ; else out ( 2 ) ; }"
unfolding digits
nearest_if = refl

outer_if : printed (with_body (only (if_else nowhere x (block nowhere (only (if_then nowhere x (output nowhere (lit 1))))) (output nowhere (lit 2)))))
    ≡ codes "void job ( void ) { if ( x ) { if ( x ) out ( 1 ) ; } else out ( 2 ) ; }"
unfolding digits
outer_if = refl

globals : printed (global_item record { at = nowhere; ty = ty.Unsigned; name = codes "u"; len = None; initial = absent } ∷ global_item
    record { at = nowhere; ty = ty.Schar; name = codes "c"; len = Some 3; initial = many (pos 0 ∷ negsuc 0 ∷ pos 127 ∷ []) } ∷ global_item
    record { at = nowhere; ty = ty.Uchar; name = codes "d"; len = Some 4294967295; initial = absent } ∷ global_item
    record { at = nowhere; ty = ty.Ushort; name = codes "e"; len = None; initial = one (negsuc 2147483647) } ∷ global_item
    record { at = nowhere; ty = ty.Short; name = codes "g"; len = None; initial = one (pos 2147483647) } ∷ [])
    ≡ codes "unsigned u ; signed char c [ 3 ] = { 0 , - 1 , 127 } ; unsigned char d [ 4294967295u ] ; unsigned short e = - 2147483648u ; short g = 2147483647 ;"
unfolding digits
globals = refl

abbrev marked : ProgramText
marked = function_item record {
  at = nowhere;
  mark = Some record { stated = 500; regions = record { at = nowhere; name = codes "a"; low = 0; high = 15 } ∷ record { at = nowhere; name = codes "b"; low = 1; high = 2147483648 } ∷ [] };
  ty = ty.Int;
  name = codes "f";
  params = record { at = nowhere; ty = ty.Int; name = codes "n"; range = Some (negsuc 0, pos 7) } ∷ record { at = nowhere; ty = ty.Unsigned; name = codes "k"; range = None } ∷ [];
  locals = record { at = nowhere; ty = ty.Int; name = codes "i"; value = lit 0 } ∷ [];
  body = no_statements;
  result = Some x;
} ∷ []

a_marked_function : printed marked ≡ codes "PREDICTABLE ( 500 ) REGION ( a , 0 , 15 ) REGION ( b , 1 , 2147483648u ) int f ( int n RANGE ( - 1 , 7 ) , unsigned k ) { int i = 0 ; return x ; }"
unfolding digits
a_marked_function = refl
