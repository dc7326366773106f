-- Programs and their tiles, computed; each stands below its text.
use Rattle.std.proofs.Common.{◌≡◌, refl, ℕ, List, [], ◌∷◌, None, Some, Bool, true, false, Option, Result, Err}
use Rattle.prem_tiling.proofs.Prelude.{functions_of, Text, Expression, literal, variable, element, binary, Statement, block, if_then, if_else, bounded_while, counting_for, assign, output}
use Rattle.prem_tiling.proofs.Prelude.{call, no_statements, absent, LocalVariable, RegionText, FunctionText, ItemText, ProgramText, Place, Void, carried_in, Added, within, nothing}
use Rattle.prem_tiling.proofs.Prelude.{elsewhere, added_in, Loop, shape_of, turns_of, marked_named, TileRule, no_function, shape, carry, turns, taken, tile, Cut, tiled, Add, Sub, Int}
use Rattle.prem_tiling.proofs.Prelude.{digits, codes, pos, negsuc}
use Rattle.prem_syntax.proofs.Samples.{at, statements, one_name, local, region, global, function, plain}
use Rattle.prem_syntax.specs.declared.tree.Ty.TheVariants.{Int as IntTy}

-- ---- short forms; all stands in one line, since tiles keep the places of the function

abbrev p : Place
p = at 2 1

abbrev n : ℕ → Expression
n value = literal p value Int

abbrev i : Expression
i = variable p (codes "i")

abbrev a_at : Expression → Expression
a_at index = element p (codes "a") index

abbrev set_a : Expression → Expression → Statement
set_a index value = assign p (codes "a") (Some index) value

abbrev loop : ℕ → Bool → ℕ → ℕ → List Statement → Statement
loop low closed high step body = counting_for p (one_name (codes "i")) (n low) closed (n high) step (block p (statements body))

abbrev ints : List Text → List LocalVariable
ints [] = []
ints (x ∷ xs) = local p IntTy x (n 0) ∷ ints xs

abbrev marked : ℕ → List RegionText → Text → List LocalVariable → Statement → ItemText
marked stated regions name locals body =
    function p (Some (record { stated = stated; regions = regions })) Void name [] locals (statements (body ∷ [])) None

abbrev cut_of : FunctionText → Loop → ℕ → ℕ → Cut
cut_of f l k stated = record { function = f; loop = l; tiles = k; stated = stated }

-- the tiles of the marked function `f`, where it has the shape
abbrev tiles_of : ProgramText → ℕ → ℕ → Option ProgramText
tiles_of program k stated = by (marked_named (functions_of program) (codes "f"))
  where
    cut : FunctionText → Option Loop → Option ProgramText
    cut f None = None
    cut f (Some l) = Some (tiled (cut_of f l k stated) program)

    by : Option FunctionText → Option ProgramText
    by None = None
    by (Some f) = cut f (shape_of f)

-- ---- a loop of eight turns

--   int a[8];
--   PREDICTABLE(900) REGION(a, 0, 7) void f(void) { int i = 0; for (i = 0; i < 8; i++) { a[i] = i; } }
--   void job(void) { f(); out(a[7]); }
unfoldable pub eight : ProgramText
eight =
    global (at 1 5) IntTy (codes "a") (Some 8) absent
    ∷ marked 900 (region p (codes "a") 0 7 ∷ []) (codes "f") (ints (codes "i" ∷ [])) (loop 0 false 8 1 (set_a i i ∷ []))
    ∷ plain p (codes "job") (statements (call p None (codes "f") [] ∷ output p (a_at (n 7)) ∷ []))
    ∷ []

abbrev pub eight_loop : Loop
eight_loop = record {
  at = p;
  names = one_name (codes "i");
  low = record { at = p; value = 0; kind = Int };
  closed = false;
  high = record { at = p; value = 8; kind = Int };
  step = 1;
  body = block p (statements (set_a i i ∷ []));
}

abbrev pub eight_cut : Cut
eight_cut = record {
  function = record {
    at = p;
    mark = Some (record { stated = 900; regions = region p (codes "a") 0 7 ∷ [] });
    ty = Void;
    name = codes "f";
    params =
        [];
    locals = ints (codes "i" ∷ []);
    body = statements (loop 0 false 8 1 (set_a i i ∷ []) ∷ []);
    result = None;
  };
  loop = eight_loop;
  tiles = 2;
  stated = 700;
}

-- two tiles of four turns each
--   int a[8];
--   PREDICTABLE(700) REGION(a, 0, 3) void f_t0(void) { int i = 0; for (i = 0; i < 4; i = i + 1) { a[i] = i; } }
--   PREDICTABLE(700) REGION(a, 4, 7) void f_t1(void) { int i = 0; for (i = 4; i < 8; i = i + 1) { a[i] = i; } }
--   void job(void) { { f_t0(); f_t1(); } out(a[7]); }
eight_in_two : tiles_of eight 2 700 ≡ Some (
    global (at 1 5) IntTy (codes "a") (Some 8) absent
    ∷ marked 700 (region p (codes "a") 0 3 ∷ []) (codes "f_t0") (ints (codes "i" ∷ [])) (loop 0 false 4 1 (set_a i i ∷ []))
    ∷ marked 700 (region p (codes "a") 4 7 ∷ []) (codes "f_t1") (ints (codes "i" ∷ [])) (loop 4 false 8 1 (set_a i i ∷ []))
    ∷ plain p (codes "job") (statements (block p (statements (call p None (codes "f_t0") [] ∷ call p None (codes "f_t1") [] ∷ [])) ∷ output p (a_at (n 7)) ∷ []))
    ∷ [])
unfolding eight digits
eight_in_two = refl

turns_named : ProgramText → Text → Option ℕ
turns_named program name = by (marked_named (functions_of program) name)
  where
    of_loop : Option Loop → Option ℕ
    of_loop None = None
    of_loop (Some l) = Some (turns_of l)

    by : Option FunctionText → Option ℕ
    by None = None
    by (Some f) = of_loop (shape_of f)

eight_turns : turns_named eight (codes "f") ≡ Some 8
unfolding eight turns_named
eight_turns = refl

job_is_not_marked : turns_named eight (codes "job") ≡ None
unfolding eight turns_named
job_is_not_marked = refl

-- 3 to 13 by threes, the last value included or not: 3, 6, 9 and 12
turns_are_rounded_up : (l : Loop) → turns_of (record l { low = record l.low { value = 3 }; closed = true; high = record l.high { value = 12 }; step = 3 }) ≡ 4
turns_are_rounded_up l = refl

-- ---- carried locals

abbrev s : Expression
s = variable p (codes "s")

abbrev set : Text → Expression → Statement
set x value = assign p x None value

abbrev plus : Expression → Expression → Expression
plus x y = binary p Add x y

abbrev minus : Expression → Expression → Expression
minus x y = binary p Sub x y

abbrev locals : List Text
locals = codes "i" ∷ codes "s" ∷ codes "j" ∷ []

abbrev carried : List Statement → Option ℕ
carried body = carried_in locals (block p (statements body))

--   s = s + i; a[i] = s;
sum_is_carried : carried (set (codes "s") (plus s i) ∷ set_a i s ∷ []) ≡ Some 2
sum_is_carried = refl

--   s = 0; for (j = 0; j < 3; j++) { s = s + a[i + j]; } a[i] = s;
inner_sum_is_not : carried (set (codes "s") (n 0) ∷ counting_for p (one_name (codes "j")) (n 0) false (n 3) 1
    (set (codes "s") (plus s (a_at (plus i (variable p (codes "j")))))) ∷ set_a i s ∷ []) ≡ None
inner_sum_is_not = refl

--   if (i) { s = 2; } else { s = i; } a[i] = s;
both_arms_assign : carried (if_else p i (set (codes "s") (n 2)) (set (codes "s") i) ∷ set_a i s ∷ []) ≡ None
both_arms_assign = refl

--   if (i) { s = 2; } a[i] = s;
one_arm_may_not : carried (if_then p i (set (codes "s") (n 2)) ∷ set_a i s ∷ []) ≡ Some 2
one_arm_may_not = refl

--   BOUNDED(3) while (i) { s = 1; } a[i] = s;
loop_may_not : carried (bounded_while p 3 i (set (codes "s") (n 1)) ∷ set_a i s ∷ []) ≡ Some 2
loop_may_not = refl

--   for (j = 0; j < j; j++) { } a[i] = j;
variable_is_assigned : carried (counting_for p (one_name (codes "j")) (n 0) false (variable p (codes "j")) 1 (block p no_statements) ∷ set_a i (variable p (codes "j")) ∷ []) ≡ None
variable_is_assigned = refl

--   a[i] = s;
unassigned_is_not_carried : carried (set_a i s ∷ []) ≡ None
unassigned_is_not_carried = refl

-- ---- accesses

abbrev added : List Statement → Added
added body = added_in (codes "i") (codes "a") (block p (statements body))

--   a[i] = a[i + 2] - a[i - 1];
neighbours : added (set_a i (minus (a_at (plus i (n 2))) (a_at (minus i (n 1)))) ∷ []) ≡ within (negsuc 0) (pos 2)
neighbours = refl

--   a[2 + i] = 0;
other_side : added (set_a (plus (n 2) i) (n 0) ∷ []) ≡ elsewhere
other_side = refl

--   a[i + 65536] = 0;
too_far : added (set_a (plus i (n 65536)) (n 0) ∷ []) ≡ elsewhere
too_far = refl

--   s = i;
no_access : added (set (codes "s") i ∷ []) ≡ nothing
no_access = refl

-- ---- narrowed regions: 1 to 9 by twos are five turns, 2 and 3 of them

--   int a[17];
--   PREDICTABLE(900) REGION(a, 0, 16) REGION(a, 3, 5) void f(void) { int i = 0; for (i = 1; i <= 9; i += 2) { a[i + 2] = a[i - 1]; } }
five : ProgramText
five =
    global (at 1 5) IntTy (codes "a") (Some 17) absent
    ∷ marked 900 (region p (codes "a") 0 16 ∷ region p (codes "a") 3 5 ∷ []) (codes "f") (ints (codes "i" ∷ [])) (loop 1 true 9 2 (set_a (plus i (n 2)) (a_at (minus i (n 1))) ∷ []))
    ∷ []

--   PREDICTABLE(700) REGION(a, 0, 6) REGION(a, 3, 5) void f_t0(void) { int i = 0; for (i = 1; i < 5; i = i + 2) { a[i + 2] = a[i - 1]; } }
--   PREDICTABLE(700) REGION(a, 4, 11) REGION(a, 4, 5) void f_t1(void) { int i = 0; for (i = 5; i <= 9; i = i + 2) { a[i + 2] = a[i - 1]; } }
five_in_two : tiles_of five 2 700 ≡ Some (
    global (at 1 5) IntTy (codes "a") (Some 17) absent
    ∷ marked 700 (region p (codes "a") 0 6 ∷ region p (codes "a") 3 5 ∷ []) (codes "f_t0") (ints (codes "i" ∷ [])) (loop 1 false 5 2 (set_a (plus i (n 2)) (a_at (minus i (n 1))) ∷ []))
    ∷ marked 700 (region p (codes "a") 4 11 ∷ region p (codes "a") 4 5 ∷ []) (codes "f_t1") (ints (codes "i" ∷ [])) (loop 5 true 9 2 (set_a (plus i (n 2)) (a_at (minus i (n 1))) ∷ []))
    ∷ [])
unfolding five digits
five_in_two = refl

-- ---- refusals, where no text is past a limit

abbrev asked : ProgramText → Text → ℕ → ℕ → Result ProgramText TileRule
asked program name k stated = tile (λ q. false) program name k stated

eight_in_nine : asked eight (codes "f") 9 700 ≡ Err (turns 8)
unfolding eight digits
eight_in_nine = refl

job_has_no_tiles : asked eight (codes "job") 2 700 ≡ Err no_function
unfolding eight digits
job_has_no_tiles = refl

--   PREDICTABLE(900) REGION(a, 0, 7) void f(void) { int i = 0; int s = 0; for (i = 0; i < 8; i++) { s = s + i; a[i] = s; } }
summing : ProgramText
summing =
    global (at 1 5) IntTy (codes "a") (Some 8) absent
    ∷ marked 900 (region p (codes "a") 0 7 ∷ []) (codes "f") (ints (codes "i" ∷ codes "s" ∷ [])) (loop 0 false 8 1 (set (codes "s") (plus s i) ∷ set_a i s ∷ []))
    ∷ plain p (codes "job") (statements (call p None (codes "f") [] ∷ []))
    ∷ []

summing_carries : asked summing (codes "f") 2 700 ≡ Err (carry 2)
unfolding summing digits
summing_carries = refl

-- the name of a tile that something has: a local of `job`
named_so : ProgramText
named_so =
    global (at 1 5) IntTy (codes "a") (Some 8) absent
    ∷ marked 900 (region p (codes "a") 0 7 ∷ []) (codes "f") (ints (codes "i" ∷ [])) (loop 0 false 8 1 (set_a i i ∷ []))
    ∷ function p None Void (codes "job") [] (ints (codes "f_t1" ∷ [])) (statements (call p None (codes "f") [] ∷ [])) None
    ∷ []

name_is_taken : asked named_so (codes "f") 2 700 ≡ Err (taken (codes "f_t1"))
unfolding named_so digits
name_is_taken = refl

-- a function with another statement behind its loop
two_statements : ProgramText
two_statements =
    function p (Some (record { stated = 900; regions = [] })) Void (codes "f") [] (ints (codes "i" ∷ [])) (statements (loop 0 false 8 1 [] ∷ set (codes "i") (n 0) ∷ [])) None
    ∷ plain p (codes "job") no_statements
    ∷ []

other_shape : asked two_statements (codes "f") 2 700 ≡ Err (shape 2)
unfolding two_statements digits
other_shape = refl
