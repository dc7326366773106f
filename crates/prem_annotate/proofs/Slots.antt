-- The slots of parameters are the joins of what calls give them.
use Rattle.std.proofs.Common.{◌≡◌, ℕ, zero, suc, ◌+◌, ◌<◌, ◌≤◌, Bool, true, false, cond, List, [], ◌∷◌, ◌++◌, length, map, drop, get_or, set, refl, ap, sym, ◌∙◌, arith, Some}
use Rattle.std.specs.Prelude.{◌==◌, ◌&&◌, ◌-◌, slice_get}
use Rattle.prem_annotate.proofs.Prelude.{slot, given, at_number, with_argument, with_arguments, empty_slot, empty_row, with_slots, argument, argument_of, arguments_from, passed}
use Rattle.prem_annotate.proofs.Prelude.{Argument as ArgumentTree, join_all, argument_at, given_by, if_narrower, stated_or, ranged_parameters, KnownCall, Environment, range_of, promoted}
use Rattle.prem_annotate.proofs.Prelude.{Term, Routine, Parameter, Span, converted, Kind, nat_tests, drop_more}
use Rattle.prem_annotate.specs.Ranges.Slots.{ParameterRange}
use Rattle.prem_annotate.specs.Seeing.Sight.{Argument}
use Rattle.prem_annotating.specs.Inferred.{given as given_in}

-- ---- what arguments give a parameter

abbrev pub given_if : Bool → Kind → Span → List Span → List Span
given_if true kind r rest = converted kind r ∷ rest
given_if false kind r rest = rest

abbrev pub is_for : Argument → ℕ → ℕ → Bool
is_for a f k = (a.callee == f) && (a.parameter == k)

-- the ranges of those for parameter k of function f, converted
abbrev pub given_to : List Argument → ℕ → ℕ → Kind → List Span
given_to [] f k kind = []
given_to (a ∷ as_) f k kind = given_if (is_for a f k) kind a.range (given_to as_ f k kind)

abbrev pub slots_in : List Argument → ℕ → ℕ → List Parameter → List ParameterRange
slots_in as_ f k [] = []
slots_in as_ f k (p ∷ ps) = slot (promoted p.ty) (join_all (given_to as_ f k (promoted p.ty))) ∷ slots_in as_ f (k + 1) ps

abbrev pub slots_of : List Argument → ℕ → List Routine → List (List ParameterRange)
slots_of as_ n [] = []
slots_of as_ n (f ∷ fs) = slots_in as_ n 0 f.text.params ∷ slots_of as_ (n + 1) fs

-- ---- one more argument

and_false : (b : Bool) → (b && false) ≡ false
and_false true = refl
and_false false = refl

other_function : (a : Argument) (f k : ℕ) → (a.callee == f) ≡ false → is_for a f k ≡ false
other_function a f k is = ap (λ b. b && (a.parameter == k)) is

other_parameter : (a : Argument) (f k : ℕ) → (a.parameter == k) ≡ false → is_for a f k ≡ false
other_parameter a f k is = ap (λ b. (a.callee == f) && b) is ∙ and_false (a.callee == f)

this_one : (a : Argument) (f k : ℕ) → (a.callee == f) ≡ true → (a.parameter == k) ≡ true → is_for a f k ≡ true
this_one a f k one two = ap (λ b. b && (a.parameter == k)) one ∙ two

abbrev slot_if : Bool → Kind → Span → List Span → ParameterRange
slot_if b kind r rest = slot kind (join_all (given_if b kind r rest))

row_past : (a : Argument) (as_ : List Argument) (f k : ℕ) (ps : List Parameter) → a.parameter < k → slots_in (a ∷ as_) f k ps ≡ slots_in as_ f k ps
row_past a as_ f k [] lt = refl
row_past a as_ f k (p ∷ ps) lt =
    let other : (a.parameter == k) ≡ false = grind (arith, nat_tests) in
    let rest = row_past a as_ f (k + 1) ps (omega arith) in
    λ i. slot_if (other_parameter a f k other i) (promoted p.ty) a.range (given_to as_ f k (promoted p.ty)) ∷ rest i

row_other : (a : Argument) (as_ : List Argument) (f k : ℕ) (ps : List Parameter) → (a.callee == f) ≡ false → slots_in (a ∷ as_) f k ps ≡ slots_in as_ f k ps
row_other a as_ f k [] is = refl
row_other a as_ f k (p ∷ ps) is =
    let rest = row_other a as_ f (k + 1) ps is in
    λ i. slot_if (other_function a f k is i) (promoted p.ty) a.range (given_to as_ f k (promoted p.ty)) ∷ rest i

row_hit : (a : Argument) (as_ : List Argument) (f k j : ℕ) (ps : List Parameter) → (a.callee == f) ≡ true → a.parameter ≡ k + j →
    at_number j (given a.range) (slots_in as_ f k ps) ≡ slots_in (a ∷ as_) f k ps
row_hit a as_ f k zero [] is e = refl
row_hit a as_ f k (suc j) [] is e = refl
row_hit a as_ f k zero (p ∷ ps) is e =
    let same : (a.parameter == k) ≡ true = grind (arith, nat_tests) in
    let rest = row_past a as_ f (k + 1) ps (omega arith) in
    λ i. slot_if (sym (this_one a f k is same) i) (promoted p.ty) a.range (given_to as_ f k (promoted p.ty)) ∷ sym rest i
row_hit a as_ f k (suc j) (p ∷ ps) is e =
    let other : (a.parameter == k) ≡ false = grind (arith, nat_tests) in
    let rest = row_hit a as_ f (k + 1) j ps is (omega arith) in
    λ i. slot_if (sym (other_parameter a f k other) i) (promoted p.ty) a.range (given_to as_ f k (promoted p.ty)) ∷ rest i

rows_past : (a : Argument) (as_ : List Argument) (n : ℕ) (fs : List Routine) → a.callee < n → slots_of (a ∷ as_) n fs ≡ slots_of as_ n fs
rows_past a as_ n [] lt = refl
rows_past a as_ n (f ∷ fs) lt =
    let other : (a.callee == n) ≡ false = grind (arith, nat_tests) in
    let rest = rows_past a as_ (n + 1) fs (omega arith) in
    λ i. row_other a as_ n 0 f.text.params other i ∷ rest i

rows_hit : (a : Argument) (as_ : List Argument) (n j : ℕ) (fs : List Routine) → a.callee ≡ n + j →
    at_number j (λ row. at_number a.parameter (given a.range) row) (slots_of as_ n fs) ≡ slots_of (a ∷ as_) n fs
rows_hit a as_ n zero [] e = refl
rows_hit a as_ n (suc j) [] e = refl
rows_hit a as_ n zero (f ∷ fs) e =
    let same : (a.callee == n) ≡ true = grind (arith, nat_tests) in
    let here : a.parameter ≡ 0 + a.parameter = omega arith in
    let rest = rows_past a as_ (n + 1) fs (omega arith) in
    λ i. row_hit a as_ n 0 a.parameter f.text.params same here i ∷ sym rest i
rows_hit a as_ n (suc j) (f ∷ fs) e =
    let other : (a.callee == n) ≡ false = grind (arith, nat_tests) in
    let rest = rows_hit a as_ (n + 1) j fs (omega arith) in
    λ i. sym (row_other a as_ n 0 f.text.params other) i ∷ rest i

-- more arguments, before others
pub arguments_added : (as_ bs : List Argument) (fs : List Routine) → with_arguments as_ (slots_of bs 0 fs) ≡ slots_of (as_ ++ bs) 0 fs
arguments_added [] bs fs = refl
arguments_added (a ∷ as_) bs fs = ap (with_argument a) (arguments_added as_ bs fs) ∙ rows_hit a (as_ ++ bs) 0 a.callee fs (omega arith)

-- ---- no argument

no_slots : (f k : ℕ) (ps : List Parameter) → map empty_slot ps ≡ slots_in [] f k ps
no_slots f k [] = refl
no_slots f k (p ∷ ps) = ap (λ l. empty_slot p ∷ l) (no_slots f (k + 1) ps)

pub no_rows : (n : ℕ) (fs : List Routine) → map empty_row fs ≡ slots_of [] n fs
no_rows n [] = refl
no_rows n (f ∷ fs) = λ i. no_slots n 0 f.text.params i ∷ no_rows (n + 1) fs i

-- ---- a function's row

pub row_at : (as_ : List Argument) (n i : ℕ) (fs : List Routine) (f : Routine) → slice_get fs i ≡ Some f → slice_get (slots_of as_ n fs) i ≡ Some (slots_in as_ (n + i) 0 f.text.params)
row_at as_ n i [] f there = cc
row_at as_ n zero (g ∷ fs) f there = let same : g ≡ f = cc in let e : n ≡ n + 0 = omega arith in λ i. Some (slots_in as_ (e i) 0 (same i).text.params)
row_at as_ n (suc i) (g ∷ fs) f there = let e : n + 1 + i ≡ n + suc i = omega arith in row_at as_ (n + 1) i fs f there ∙ ap (λ m. Some (slots_in as_ m 0 f.text.params)) e

-- ---- the arguments of calls

given_to-append : (xs ys : List Argument) (f k : ℕ) (kind : Kind) → given_to (xs ++ ys) f k kind ≡ given_to xs f k kind ++ given_to ys f k kind
given_to-append [] ys f k kind = refl
given_to-append (a ∷ as_) ys f k kind = by (is_for a f k) (given_to-append as_ ys f k kind)
  where
    by : (b : Bool) → given_to (as_ ++ ys) f k kind ≡ given_to as_ f k kind ++ given_to ys f k kind →
        given_if b kind a.range (given_to (as_ ++ ys) f k kind) ≡ given_if b kind a.range (given_to as_ f k kind) ++ given_to ys f k kind
    by true e = ap (λ l. converted kind a.range ∷ l) e
    by false e = e

from_other : (c j : ℕ) (env : Environment) (es : List Term) (f k : ℕ) (kind : Kind) → (c == f) ≡ false → given_to (arguments_from c j env es) f k kind ≡ []
from_other c j env [] f k kind is = refl
from_other c j env (e ∷ es) f k kind is =
    let a = argument c j (range_of env e) in let rest = given_to (arguments_from c (j + 1) env es) f k kind in
    ap (λ b. given_if b kind (range_of env e) rest) (other_function a f k is) ∙ from_other c (j + 1) env es f k kind is

from_past : (c j : ℕ) (env : Environment) (es : List Term) (f k : ℕ) (kind : Kind) → k < j → given_to (arguments_from c j env es) f k kind ≡ []
from_past c j env [] f k kind lt = refl
from_past c j env (e ∷ es) f k kind lt =
    let a = argument c j (range_of env e) in let rest = given_to (arguments_from c (j + 1) env es) f k kind in
    let other : (j == k) ≡ false = grind (arith, nat_tests) in
    ap (λ b. given_if b kind (range_of env e) rest) (other_parameter a f k other) ∙ from_past c (j + 1) env es f k kind (omega arith)

from_hit : (c j i : ℕ) (env : Environment) (es : List Term) (f k : ℕ) (kind : Kind) → (c == f) ≡ true → k ≡ j + i →
    given_to (arguments_from c j env es) f k kind ≡ argument_at env kind (slice_get es i)
from_hit c j i env [] f k kind is same = refl
from_hit c j zero env (e ∷ es) f k kind is same =
    let a = argument c j (range_of env e) in let rest = given_to (arguments_from c (j + 1) env es) f k kind in
    let here : (j == k) ≡ true = grind (arith, nat_tests) in
    ap (λ b. given_if b kind (range_of env e) rest) (this_one a f k is here) ∙ ap (λ l. converted kind (range_of env e) ∷ l) (from_past c (j + 1) env es f k kind (omega arith))
from_hit c j (suc i) env (e ∷ es) f k kind is same =
    let a = argument c j (range_of env e) in let rest = given_to (arguments_from c (j + 1) env es) f k kind in
    let other : (j == k) ≡ false = grind (arith, nat_tests) in
    ap (λ b. given_if b kind (range_of env e) rest) (other_parameter a f k other) ∙ from_hit c (j + 1) i env es f k kind is (omega arith)

from_call : (c : KnownCall) (f k : ℕ) (kind : Kind) → given_to (arguments_from c.callee 0 c.known c.arguments) f k kind ≡ given_by f k kind c
from_call c f k kind = by (c.callee == f) refl
  where
    by : (b : Bool) → (c.callee == f) ≡ b → given_to (arguments_from c.callee 0 c.known c.arguments) f k kind ≡ given_by f k kind c
    by true is = from_hit c.callee 0 k c.known c.arguments f k kind is (omega arith) ∙ sym (ap (λ b. cond b (argument_at c.known kind (slice_get c.arguments k)) []) is)
    by false is = from_other c.callee 0 c.known c.arguments f k kind is ∙ sym (ap (λ b. cond b (argument_at c.known kind (slice_get c.arguments k)) []) is)

pub given_is : (calls : List KnownCall) (f k : ℕ) (kind : Kind) → given_to (passed calls) f k kind ≡ given_in calls f k kind
given_is [] f k kind = refl
given_is (c ∷ cs) f k kind =
    given_to-append (arguments_from c.callee 0 c.known c.arguments) (passed cs) f k kind
    ∙ (λ i. from_call c f k kind i ++ given_is cs f k kind i)

-- ---- the ranges of parameters

pub slots_range : (calls : List KnownCall) (f k : ℕ) (ps : List Parameter) → with_slots (slots_in (passed calls) f k ps) ps ≡ ranged_parameters calls f k ps
slots_range calls f k [] = refl
slots_range calls f k (p ∷ ps) =
    let rest = slots_range calls f (k + 1) ps in
    λ i. record p { range = stated_or p.range (if_narrower (promoted p.ty) (join_all (given_is calls f k (promoted p.ty) i))) } ∷ rest i

-- ---- lists in memory

pub number_within : {A B : Type 0} (f : A → B) (xs : List A) (k : ℕ) (change : B → B) (x y : A) → k < length xs → x ≡ get_or xs k x →
    f y ≡ change (f x) → map f (set xs k y) ≡ at_number k change (map f xs)
number_within f [] k change x y within is changed = absurd (omega arith)
number_within f (z ∷ zs) zero change x y within is changed = ap (λ l. l ∷ map f zs) (changed ∙ ap (λ u. change (f u)) is)
number_within f (z ∷ zs) (suc k) change x y within is changed = ap (λ l. f z ∷ l) (number_within f zs k change x y (omega arith) is changed)

pub number_past : {A B : Type 0} (f : A → B) (xs : List A) (k : ℕ) (change : B → B) → length xs ≤ k → map f xs ≡ at_number k change (map f xs)
number_past f [] zero change past = refl
number_past f [] (suc k) change past = refl
number_past f (z ∷ zs) zero change past = absurd (omega arith)
number_past f (z ∷ zs) (suc k) change past = ap (λ l. f z ∷ l) (number_past f zs k change (omega arith))

-- the one before the last ones
pub drop_before : {A : Type 0} (xs : List A) (n : ℕ) (x : A) → 0 < n → n ≤ length xs → x ≡ get_or xs (n - 1) x → drop (n - 1) xs ≡ x ∷ drop n xs
drop_before xs n x some within is =
    let e : n - 1 + 1 ≡ n = omega arith in
    drop_more xs (n - 1) x (omega arith) ∙ (λ i. sym is i ∷ drop (e i) xs)

pub arguments_before : (as_ : List ArgumentTree) (n : ℕ) (a : ArgumentTree) (rows rows' start : List (List ParameterRange)) → 0 < n → n ≤ length as_ → a ≡ get_or as_ (n - 1) a →
    rows ≡ with_arguments (map argument_of (drop n as_)) start → rows' ≡ with_argument (argument_of a) rows → rows' ≡ with_arguments (map argument_of (drop (n - 1) as_)) start
arguments_before as_ n a rows rows' start some within is old new =
    new ∙ ap (with_argument (argument_of a)) old ∙ ap (λ (l : List ArgumentTree). with_arguments (map argument_of l) start) (sym (drop_before as_ n a some within is))

pub slots_long : (as_ : List Argument) (n : ℕ) (fs : List Routine) → length (slots_of as_ n fs) ≡ length fs
slots_long as_ n [] = refl
slots_long as_ n (f ∷ fs) = ap suc (slots_long as_ (n + 1) fs)
