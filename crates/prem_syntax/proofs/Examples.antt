-- Programs whose meaning the checker computes; each stands above its tree in the language's own text.
use Rattle.std.specs.Prelude.{codes, pos, negsuc, replicate}
use Rattle.std.proofs.Common.{◌≡◌, refl, ℕ, List, [], ◌∷◌, None, Some, Ok, Err, true, false}
use Rattle.prem_word.specs.declared.kind.BinOp.TheVariants.{Add, Sub, Mul, Div, Rem, Shl, Shr, Lt, Gt, Eq, AndAlso, OrElse}
use Rattle.prem_syntax.specs.declared.tree.Ty.TheVariants.{Void, Int as IntTy, Short, Ushort, Schar, Uchar}
use Rattle.prem_syntax.specs.declared.tree.UnOp.TheVariants.{Not}
use Rattle.prem_syntax.specs.Syntax.{variable, element, unary, binary, block, if_then, if_else, bounded_while, counting_for, assign, output, input, call, no_statements, absent, one, many, ProgramText}
use Rattle.prem_syntax.specs.Expressions.{Outcome, and_then}
use Rattle.prem_syntax.specs.Statements.{ProgramState, counting, bounded}
use Rattle.prem_syntax.specs.Source.{source}
use Rattle.prem_syntax.proofs.Samples.{at, int, uint, statements, one_name, parameter, local, region, global, function, plain}

abbrev pub outputs_of : Outcome ProgramState → Outcome (List ℕ)
outputs_of r = and_then r (λ s. Ok s.outputs)

-- sums and differences of ints wrap, and an output is a word
--   void job(void){ out(0-1); out(0x80000000); }
differences_wrap_text : ProgramText
differences_wrap_text = plain (at 1 6) (codes "job") (statements ((output (at 1 17) (binary (at 1 22) Sub (int 1 21 0) (int 1 23 1))) ∷ (output (at 1 27) (uint 1 31 2147483648)) ∷ [])) ∷ []

differences_wrap : outputs_of (source differences_wrap_text [] 1) ≡ Ok (4294967295 ∷ 2147483648 ∷ [])
unfolding differences_wrap_text counting bounded
differences_wrap = refl

-- a BOUNDED loop ends after its turns even where its condition holds
--   void job(void) { BOUNDED(3) while (1) { out(1); } }
bounded_ends_text : ProgramText
bounded_ends_text = plain (at 1 6) (codes "job") (statements ((bounded_while (at 1 18) 3 (int 1 36 1) (block (at 1 39) (statements ((output (at 1 41) (int 1 45 1)) ∷ [])))) ∷ [])) ∷ []

bounded_ends : outputs_of (source bounded_ends_text [] 1) ≡ Ok (1 ∷ 1 ∷ 1 ∷ [])
unfolding bounded_ends_text counting bounded
bounded_ends = refl

-- a quotient truncates toward zero; unsigned products wrap
--   void job(void) { out((0-7)/2); out((0-7)%2); out(0x10001u*0x10001u); }
division_truncates_text : ProgramText
division_truncates_text = plain (at 1 6) (codes "job")
    (statements ((output (at 1 18) (binary (at 1 27) Div (binary (at 1 24) Sub (int 1 23 0) (int 1 25 7)) (int 1 28 2))) ∷
    (output (at 1 32) (binary (at 1 41) Rem (binary (at 1 38) Sub (int 1 37 0) (int 1 39 7)) (int 1 42 2))) ∷
    (output (at 1 46) (binary (at 1 58) Mul (uint 1 50 65537) (uint 1 59 65537))) ∷ [])) ∷ []

division_truncates : outputs_of (source division_truncates_text [] 1) ≡ Ok (4294967293 ∷ 4294967295 ∷ 131073 ∷ [])
unfolding division_truncates_text counting bounded
division_truncates = refl

--   int a[64];
--   void job(void) { int i = 0; for (i = 0; i < 64; i++) { if (i < 63) out(a[i + 1]); } }
index_inside_text : ProgramText
index_inside_text = global (at 1 5) IntTy (codes "a") (Some 64) absent ∷ function (at 2 6) None Void (codes "job") []
    (local (at 2 22) IntTy (codes "i") (int 2 26 0) ∷ [])
    (statements ((counting_for (at 2 29) (one_name (codes "i")) (int 2 38 0) false (int 2 45 64) 1
    (block (at 2 54) (statements ((if_then (at 2 56) (binary (at 2 62) Lt (variable (at 2 60) (codes "i")) (int 2 64 63))
    (output (at 2 68) (element (at 2 72) (codes "a") (binary (at 2 76) Add (variable (at 2 74) (codes "i")) (int 2 78 1))))) ∷ [])))) ∷ [])) None ∷ []

index_inside : outputs_of (source index_inside_text [] 1) ≡ Ok (replicate 63 0)
unfolding index_inside_text counting bounded
index_inside = refl

-- wrong at the line of the name
--   int a[64];
--   void job(void) { int i = 0; for (i = 0; i < 64; i++) { out(a[i + 1]); } }
index_outside_text : ProgramText
index_outside_text = global (at 1 5) IntTy (codes "a") (Some 64) absent ∷ function (at 2 6) None Void (codes "job") []
    (local (at 2 22) IntTy (codes "i") (int 2 26 0) ∷ [])
    (statements ((counting_for (at 2 29) (one_name (codes "i")) (int 2 38 0) false (int 2 45 64) 1
    (block (at 2 54) (statements ((output (at 2 56)
    (element (at 2 60) (codes "a") (binary (at 2 64) Add (variable (at 2 62) (codes "i")) (int 2 66 1)))) ∷ [])))) ∷ [])) None ∷ []

index_outside : outputs_of (source index_outside_text [] 1) ≡ Err 2
unfolding index_outside_text counting bounded
index_outside = refl

--   int a[2];
--   void job(void) {
--     a[0 - 1] = 1; }
negative_index_text : ProgramText
negative_index_text = global (at 1 5) IntTy (codes "a") (Some 2) absent ∷ plain (at 2 6) (codes "job")
    (statements ((assign (at 3 3) (codes "a") (Some (binary (at 3 7) Sub (int 3 5 0) (int 3 9 1))) (int 3 14 1)) ∷ [])) ∷ []

negative_index : outputs_of (source negative_index_text [] 1) ≡ Err 3
unfolding negative_index_text counting bounded
negative_index = refl

-- wrong at the line of the operator
--   int g;
--   void job(void) { out(5
--     / g); }
zero_divisor_text : ProgramText
zero_divisor_text = global (at 1 5) IntTy (codes "g") None absent ∷ plain (at 2 6) (codes "job")
    (statements ((output (at 2 18) (binary (at 3 3) Div (int 2 22 5) (variable (at 3 5) (codes "g")))) ∷ [])) ∷ []

zero_divisor : outputs_of (source zero_divisor_text [] 1) ≡ Err 3
unfolding zero_divisor_text counting bounded
zero_divisor = refl

--   int g;
--   void job(void) { out(5
--     % g); }
zero_remainder_text : ProgramText
zero_remainder_text = global (at 1 5) IntTy (codes "g") None absent ∷ plain (at 2 6) (codes "job")
    (statements ((output (at 2 18) (binary (at 3 3) Rem (int 2 22 5) (variable (at 3 5) (codes "g")))) ∷ [])) ∷ []

zero_remainder : outputs_of (source zero_remainder_text [] 1) ≡ Err 3
unfolding zero_remainder_text counting bounded
zero_remainder = refl

-- wrong at the line of the loop
--   void job(void) { int i = 0; out(1);
--     for (i = 2147483646; i <= 2147483647; i++) { out(i); } }
loop_passes_int_text : ProgramText
loop_passes_int_text = function (at 1 6) None Void (codes "job") [] (local (at 1 22) IntTy (codes "i") (int 1 26 0) ∷ [])
    (statements ((output (at 1 29) (int 1 33 1)) ∷
    (counting_for (at 2 3) (one_name (codes "i")) (int 2 12 2147483646) true (int 2 29 2147483647) 1
    (block (at 2 46) (statements ((output (at 2 48) (variable (at 2 52) (codes "i"))) ∷ [])))) ∷ [])) None ∷ []

loop_passes_int : outputs_of (source loop_passes_int_text [] 1) ≡ Err 2
unfolding loop_passes_int_text counting bounded
loop_passes_int = refl

--   void job(void) { int i = 0; for (i = 2147483640; i < 2147483643; i += 4) { out(i); } out(i); }
loop_ends_at_most_text : ProgramText
loop_ends_at_most_text = function (at 1 6) None Void (codes "job") [] (local (at 1 22) IntTy (codes "i") (int 1 26 0) ∷ [])
    (statements ((counting_for (at 1 29) (one_name (codes "i")) (int 1 38 2147483640) false (int 1 54 2147483643) 4
    (block (at 1 74) (statements ((output (at 1 76) (variable (at 1 80) (codes "i"))) ∷ [])))) ∷ (output (at 1 86) (variable (at 1 90) (codes "i")))
    ∷ [])) None ∷ []

loop_ends_at_most : outputs_of (source loop_ends_at_most_text [] 1) ≡ Ok (2147483640 ∷ 2147483644 ∷ [])
unfolding loop_ends_at_most_text counting bounded
loop_ends_at_most = refl

-- the left side goes wrong first
--   int z;
--   void job(void) { out((1 / z)
--     + (1 / z)); }
left_before_right_text : ProgramText
left_before_right_text = global (at 1 5) IntTy (codes "z") None absent ∷ plain (at 2 6) (codes "job")
    (statements ((output (at 2 18)
    (binary (at 3 3) Add (binary (at 2 25) Div (int 2 23 1) (variable (at 2 27) (codes "z")))
    (binary (at 3 8) Div (int 3 6 1) (variable (at 3 10) (codes "z"))))) ∷ [])) ∷ []

left_before_right : outputs_of (source left_before_right_text [] 1) ≡ Err 2
unfolding left_before_right_text counting bounded
left_before_right = refl

-- an assignment evaluates its value first
--   int z;
--   int a[2];
--   void job(void) { a[1 / z]
--     = 1 / z; }
value_before_index_text : ProgramText
value_before_index_text = global (at 1 5) IntTy (codes "z") None absent ∷ global (at 2 5) IntTy (codes "a") (Some 2) absent ∷ plain (at 3 6)
    (codes "job") (statements ((assign (at 3 18) (codes "a") (Some (binary (at 3 22) Div (int 3 20 1) (variable (at 3 24) (codes "z"))))
    (binary (at 4 7) Div (int 4 5 1) (variable (at 4 9) (codes "z")))) ∷ [])) ∷ []

value_before_index : outputs_of (source value_before_index_text [] 1) ≡ Err 4
unfolding value_before_index_text counting bounded
value_before_index = refl

--   int z;
--   void f(int x, int y) { }
--   void job(void) { f(
--     1 / z,
--     1 / z); }
arguments_from_the_left_text : ProgramText
arguments_from_the_left_text =
    global (at 1 5) IntTy (codes "z") None absent ∷ function (at 2 6) None Void (codes "f")
    (parameter (at 2 12) IntTy (codes "x") None ∷ parameter (at 2 19) IntTy (codes "y") None ∷ []) [] no_statements None ∷ plain (at 3 6)
    (codes "job") (statements ((call (at 3 18) None (codes "f")
    ((binary (at 4 5) Div (int 4 3 1) (variable (at 4 7) (codes "z"))) ∷ (binary (at 5 5) Div (int 5 3 1) (variable (at 5 7) (codes "z"))) ∷ [])) ∷ [])) ∷ []

arguments_from_the_left : outputs_of (source arguments_from_the_left_text [] 1) ≡ Err 4
unfolding arguments_from_the_left_text counting bounded
arguments_from_the_left = refl

--   int z;
--   void job(void) { out(0 && 1 / z); out(2 && 3); out(4 && 0); }
and_stops_text : ProgramText
and_stops_text = global (at 1 5) IntTy (codes "z") None absent ∷ plain (at 2 6) (codes "job")
    (statements ((output (at 2 18) (binary (at 2 24) AndAlso (int 2 22 0) (binary (at 2 29) Div (int 2 27 1) (variable (at 2 31) (codes "z"))))) ∷
    (output (at 2 35) (binary (at 2 41) AndAlso (int 2 39 2) (int 2 44 3))) ∷
    (output (at 2 48) (binary (at 2 54) AndAlso (int 2 52 4) (int 2 57 0))) ∷ [])) ∷ []

and_stops : outputs_of (source and_stops_text [] 1) ≡ Ok (0 ∷ 1 ∷ 0 ∷ [])
unfolding and_stops_text counting bounded
and_stops = refl

--   int z;
--   void job(void) { out(2 || 1 / z); out(0 || 3); out(0 || 0); }
or_stops_text : ProgramText
or_stops_text = global (at 1 5) IntTy (codes "z") None absent ∷ plain (at 2 6) (codes "job")
    (statements ((output (at 2 18) (binary (at 2 24) OrElse (int 2 22 2) (binary (at 2 29) Div (int 2 27 1) (variable (at 2 31) (codes "z"))))) ∷
    (output (at 2 35) (binary (at 2 41) OrElse (int 2 39 0) (int 2 44 3))) ∷ (output (at 2 48) (binary (at 2 54) OrElse (int 2 52 0) (int 2 57 0))) ∷ [])) ∷ []

or_stops : outputs_of (source or_stops_text [] 1) ≡ Ok (1 ∷ 1 ∷ 0 ∷ [])
unfolding or_stops_text counting bounded
or_stops = refl

--   int n = 3;
--   void job(void) { int i = 0; for (i = 0; i < n; i++) { n -= 1; out(i); } }
bound_read_each_turn_text : ProgramText
bound_read_each_turn_text = global (at 1 5) IntTy (codes "n") None (one (pos 3)) ∷ function (at 2 6) None Void (codes "job") []
    (local (at 2 22) IntTy (codes "i") (int 2 26 0) ∷ [])
    (statements ((counting_for (at 2 29) (one_name (codes "i")) (int 2 38 0) false (variable (at 2 45) (codes "n")) 1
    (block (at 2 53) (statements ((assign (at 2 55) (codes "n") None (binary (at 2 57) Sub (variable (at 2 55) (codes "n")) (int 2 60 1))) ∷
    (output (at 2 63) (variable (at 2 67) (codes "i"))) ∷ [])))) ∷ [])) None ∷ []

bound_read_each_turn : outputs_of (source bound_read_each_turn_text [] 1) ≡ Ok (0 ∷ 1 ∷ [])
unfolding bound_read_each_turn_text counting bounded
bound_read_each_turn = refl

-- with no turn left the condition isn't evaluated
--   int z = 1;
--   void job(void) { BOUNDED(1) while (1 / z) { z = 0; out(7); } }
no_turn_no_condition_text : ProgramText
no_turn_no_condition_text = global (at 1 5) IntTy (codes "z") None (one (pos 1)) ∷ plain (at 2 6) (codes "job")
    (statements ((bounded_while (at 2 18) 1 (binary (at 2 38) Div (int 2 36 1) (variable (at 2 40) (codes "z")))
    (block (at 2 43) (statements ((assign (at 2 45) (codes "z") None (int 2 49 0)) ∷ (output (at 2 52) (int 2 56 7)) ∷ [])))) ∷ [])) ∷ []

no_turn_no_condition : outputs_of (source no_turn_no_condition_text [] 1) ≡ Ok (7 ∷ [])
unfolding no_turn_no_condition_text counting bounded
no_turn_no_condition = refl

--   void job(void) { out((0 - 8) >> 1); out(0xfffffff8 >> 1); out(1 << 33); out((0 - 1) << 31); }
int_shift_is_arithmetic_text : ProgramText
int_shift_is_arithmetic_text =
    plain (at 1 6) (codes "job") (statements
    ((output (at 1 18) (binary (at 1 30) Shr (binary (at 1 25) Sub (int 1 23 0) (int 1 27 8)) (int 1 33 1))) ∷
    (output (at 1 37) (binary (at 1 52) Shr (uint 1 41 4294967288) (int 1 55 1))) ∷
    (output (at 1 59) (binary (at 1 65) Shl (int 1 63 1) (int 1 68 33))) ∷
    (output (at 1 73) (binary (at 1 85) Shl (binary (at 1 80) Sub (int 1 78 0) (int 1 82 1)) (int 1 88 31))) ∷ [])) ∷ []

int_shift_is_arithmetic : outputs_of (source int_shift_is_arithmetic_text [] 1) ≡ Ok (4294967292 ∷ 2147483644 ∷ 2 ∷ 2147483648 ∷ [])
unfolding int_shift_is_arithmetic_text counting bounded
int_shift_is_arithmetic = refl

--   void job(void) { out(0 - 1 < 1); out(0 - 1 < 1u); out(2147483647 + 1 < 0); out(!5 == 0); }
comparisons_by_kind_text : ProgramText
comparisons_by_kind_text = plain (at 1 6) (codes "job")
    (statements ((output (at 1 18) (binary (at 1 28) Lt (binary (at 1 24) Sub (int 1 22 0) (int 1 26 1)) (int 1 30 1))) ∷
    (output (at 1 34) (binary (at 1 44) Lt (binary (at 1 40) Sub (int 1 38 0) (int 1 42 1)) (uint 1 46 1))) ∷
    (output (at 1 51) (binary (at 1 70) Lt (binary (at 1 66) Add (int 1 55 2147483647) (int 1 68 1)) (int 1 72 0))) ∷
    (output (at 1 76) (binary (at 1 83) Eq (unary (at 1 80) Not (int 1 81 5)) (int 1 86 0))) ∷ [])) ∷ []

comparisons_by_kind : outputs_of (source comparisons_by_kind_text [] 1) ≡ Ok (1 ∷ 0 ∷ 1 ∷ 1 ∷ [])
unfolding comparisons_by_kind_text counting bounded
comparisons_by_kind = refl

-- the type of a shift is that of its left operand
--   void job(void) { out(0 - 1 < (1 << 1u)); out(0 - 1 < (1u << 1)); }
shift_has_left_kind_text : ProgramText
shift_has_left_kind_text = plain (at 1 6) (codes "job")
    (statements ((output (at 1 18)
    (binary (at 1 28) Lt (binary (at 1 24) Sub (int 1 22 0) (int 1 26 1)) (binary (at 1 33) Shl (int 1 31 1) (uint 1 36 1)))) ∷
    (output (at 1 42) (binary (at 1 52) Lt (binary (at 1 48) Sub (int 1 46 0) (int 1 50 1)) (binary (at 1 58) Shl (uint 1 55 1) (int 1 61 1)))) ∷ [])) ∷ []

shift_has_left_kind : outputs_of (source shift_has_left_kind_text [] 1) ≡ Ok (1 ∷ 0 ∷ [])
unfolding shift_has_left_kind_text counting bounded
shift_has_left_kind = refl

--   signed char c = 200;
--   unsigned char d = -1;
--   short s = 40000;
--   unsigned short t;
--   void job(void) { out(c); out(d); out(s); c = 383; d = 511; s = 32768; t = 0 - 1; out(c); out(d); out(s); out(t); }
stores_keep_low_bits_text : ProgramText
stores_keep_low_bits_text = global (at 1 13) Schar (codes "c") None (one (pos 200)) ∷ global (at 2 15) Uchar (codes "d") None (one (negsuc 0))
    ∷ global (at 3 7) Short (codes "s") None (one (pos 40000)) ∷ global (at 4 16) Ushort (codes "t") None absent ∷ plain (at 5 6) (codes "job")
    (statements ((output (at 5 18) (variable (at 5 22) (codes "c"))) ∷ (output (at 5 26) (variable (at 5 30) (codes "d"))) ∷
    (output (at 5 34) (variable (at 5 38) (codes "s"))) ∷ (assign (at 5 42) (codes "c") None (int 5 46 383)) ∷
    (assign (at 5 51) (codes "d") None (int 5 55 511)) ∷ (assign (at 5 60) (codes "s") None (int 5 64 32768)) ∷
    (assign (at 5 71) (codes "t") None (binary (at 5 77) Sub (int 5 75 0) (int 5 79 1))) ∷ (output (at 5 82) (variable (at 5 86) (codes "c"))) ∷
    (output (at 5 90) (variable (at 5 94) (codes "d"))) ∷ (output (at 5 98) (variable (at 5 102) (codes "s"))) ∷
    (output (at 5 106) (variable (at 5 110) (codes "t"))) ∷ [])) ∷ []

stores_keep_low_bits : source stores_keep_low_bits_text [] 1
    ≡ Ok (record {
      globals = ((127 ∷ []) ∷ (255 ∷ []) ∷ (4294934528 ∷ []) ∷ (65535 ∷ []) ∷ []);
      locals = [];
      inputs = [];
      used = 0;
      outputs =
          (4294967240 ∷ 255 ∷ 4294941760 ∷ 127 ∷ 255 ∷ 4294934528 ∷ 65535 ∷ []);
      marks = [];
    })
unfolding stores_keep_low_bits_text counting bounded
stores_keep_low_bits = refl

--   short a[4] = {1, -2};
--   void job(void) { out(a[0]); out(a[1]); out(a[2]); }
missing_constants_are_zero_text : ProgramText
missing_constants_are_zero_text =
    global (at 1 7) Short (codes "a") (Some 4) (many ((pos 1) ∷ (negsuc 1) ∷ [])) ∷ plain (at 2 6) (codes "job")
    (statements ((output (at 2 18) (element (at 2 22) (codes "a") (int 2 24 0))) ∷ (output (at 2 29) (element (at 2 33) (codes "a") (int 2 35 1))) ∷
    (output (at 2 40) (element (at 2 44) (codes "a") (int 2 46 2))) ∷ [])) ∷ []

missing_constants_are_zero : source missing_constants_are_zero_text [] 1
    ≡ Ok (record { globals = ((1 ∷ 4294967294 ∷ 0 ∷ 0 ∷ []) ∷ []); locals = []; inputs = []; used = 0; outputs = (1 ∷ 4294967294 ∷ 0 ∷ []); marks = [] })
unfolding missing_constants_are_zero_text counting bounded
missing_constants_are_zero = refl

--   void job(void) { int x = 0; x = in(); out(x); x = in(); out(x); x = in(); out(x); }
inputs_end_text : ProgramText
inputs_end_text = function (at 1 6) None Void (codes "job") [] (local (at 1 22) IntTy (codes "x") (int 1 26 0) ∷ [])
    (statements ((input (at 1 29) (codes "x")) ∷ (output (at 1 39) (variable (at 1 43) (codes "x"))) ∷ (input (at 1 47) (codes "x")) ∷
    (output (at 1 57) (variable (at 1 61) (codes "x"))) ∷ (input (at 1 65) (codes "x")) ∷ (output (at 1 75) (variable (at 1 79) (codes "x"))) ∷ [])) None ∷ []

inputs_end : source inputs_end_text (5 ∷ 6 ∷ []) 1 ≡ Ok (record { globals = []; locals = []; inputs = []; used = 2; outputs = (5 ∷ 6 ∷ 0 ∷ []); marks = [] })
unfolding inputs_end_text counting bounded
inputs_end = refl

-- locals are new in each job and at each call
--   int g;
--   int f(int x) { int y = x + 1; y += 1; return y; }
--   void job(void) { int r = 0; r = f(g); g += r; out(g); }
globals_persist_text : ProgramText
globals_persist_text = global (at 1 5) IntTy (codes "g") None absent ∷ function (at 2 5) None IntTy (codes "f")
    (parameter (at 2 11) IntTy (codes "x") None ∷ [])
    (local (at 2 20) IntTy (codes "y") (binary (at 2 26) Add (variable (at 2 24) (codes "x")) (int 2 28 1)) ∷ [])
    (statements ((assign (at 2 31) (codes "y") None (binary (at 2 33) Add (variable (at 2 31) (codes "y")) (int 2 36 1))) ∷ []))
    (Some (variable (at 2 46) (codes "y"))) ∷ function (at 3 6) None Void (codes "job") [] (local (at 3 22) IntTy (codes "r") (int 3 26 0) ∷ [])
    (statements ((call (at 3 29) (Some (codes "r")) (codes "f") ((variable (at 3 35) (codes "g")) ∷ [])) ∷
    (assign (at 3 39) (codes "g") None (binary (at 3 41) Add (variable (at 3 39) (codes "g")) (variable (at 3 44) (codes "r")))) ∷
    (output (at 3 47) (variable (at 3 51) (codes "g"))) ∷ [])) None ∷ []

globals_persist : source globals_persist_text [] 3 ≡ Ok (record { globals = ((14 ∷ []) ∷ []); locals = []; inputs = []; used = 0; outputs = (2 ∷ 6 ∷ 14 ∷ []); marks = [] })
unfolding globals_persist_text counting bounded
globals_persist = refl

--   int g;
--   PREDICTABLE(491) REGION(g, 0, 0) void set(int x RANGE(0, 9)) { g = x; }
--   void job(void) { set(7); out(g); set(8); }
marked_calls_are_noted_text : ProgramText
marked_calls_are_noted_text = global (at 1 5) IntTy (codes "g") None absent ∷ function (at 2 39)
    (Some (record { stated = 491; regions = (region (at 2 25) (codes "g") 0 0 ∷ []) })) Void (codes "set")
    (parameter (at 2 47) IntTy (codes "x") (Some (pos 0, pos 9)) ∷ []) []
    (statements ((assign (at 2 64) (codes "g") None (variable (at 2 68) (codes "x"))) ∷ [])) None ∷ plain (at 3 6) (codes "job")
    (statements ((call (at 3 18) None (codes "set") ((int 3 22 7) ∷ [])) ∷ (output (at 3 26) (variable (at 3 30) (codes "g"))) ∷
    (call (at 3 34) None (codes "set") ((int 3 38 8) ∷ [])) ∷ [])) ∷ []

marked_calls_are_noted : source marked_calls_are_noted_text [] 1
    ≡ Ok (record {
      globals = ((8 ∷ []) ∷ []);
      locals = [];
      inputs = [];
      used = 0;
      outputs = (7 ∷ []);
      marks =
          (record { function = 0; before = ((0 ∷ []) ∷ []); after = ((7 ∷ []) ∷ []) } ∷
          record { function = 0; before = ((7 ∷ []) ∷ []); after = ((8 ∷ []) ∷ []) } ∷ []);
    })
unfolding marked_calls_are_noted_text counting bounded
marked_calls_are_noted = refl

--   int r[3];
--   void job(void) { int i = 0; int j = 0; int s = 0; for (i = 0; i < 3; i++) { s = 0; for (j = i; j <= 4; j += 2) { s += j; } r[i] = s; } if (s > 5) out(s); else { out(0); } }
nested_loops_text : ProgramText
nested_loops_text = global (at 1 5) IntTy (codes "r") (Some 3) absent ∷ function (at 2 6) None Void (codes "job") []
    (local (at 2 22) IntTy (codes "i") (int 2 26 0) ∷ local (at 2 33) IntTy (codes "j") (int 2 37 0) ∷ local (at 2 44) IntTy (codes "s") (int 2 48 0)
    ∷ []) (statements ((counting_for (at 2 51) (one_name (codes "i")) (int 2 60 0) false (int 2 67 3) 1
    (block (at 2 75) (statements ((assign (at 2 77) (codes "s") None (int 2 81 0)) ∷
    (counting_for (at 2 84) (one_name (codes "j")) (variable (at 2 93) (codes "i")) true (int 2 101 4) 2
    (block (at 2 112) (statements ((assign (at 2 114) (codes "s") None
    (binary (at 2 116) Add (variable (at 2 114) (codes "s")) (variable (at 2 119) (codes "j")))) ∷ [])))) ∷
    (assign (at 2 124) (codes "r") (Some (variable (at 2 126) (codes "i"))) (variable (at 2 131) (codes "s"))) ∷ [])))) ∷
    (if_else (at 2 136) (binary (at 2 142) Gt (variable (at 2 140) (codes "s")) (int 2 144 5)) (output (at 2 147) (variable (at 2 151) (codes "s")))
    (block (at 2 160) (statements ((output (at 2 162) (int 2 166 0)) ∷ [])))) ∷ [])) None ∷ []

nested_loops : source nested_loops_text [] 1 ≡ Ok (record { globals = ((6 ∷ 4 ∷ 6 ∷ []) ∷ []); locals = []; inputs = []; used = 0; outputs = (6 ∷ []); marks = [] })
unfolding nested_loops_text counting bounded
nested_loops = refl
