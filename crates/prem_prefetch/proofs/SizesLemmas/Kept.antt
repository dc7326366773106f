-- The limits that a well-formed program keeps to.
use Rattle.std.specs.Prelude.{nat_lt, nat_le, not, ◌&&◌, ◌||◌, is_none, IsTrue, unwrap_or}
use Rattle.std.specs.List.{list_any, AllByRecursion}
use Rattle.std.proofs.Common.{◌≡◌, ℕ, ◌≤◌, Bool, true, false, cond, List, [], ◌∷◌, ◌++◌, length, refl, arith, Option, None, Some}
use Rattle.std.proofs.lemmas.Bool.Decides.{nat_tests}
use Rattle.prem_syntax.specs.declared.tree.Place.{Place}
use Rattle.prem_syntax.specs.declared.rules.Count.TheVariants.{Functions, Globals, Parameters, Regions, Length, Stated}
use Rattle.prem_syntax.specs.Syntax.{GlobalVariable, FunctionText, ProgramText}
use Rattle.prem_syntax.specs.Resolve.{functions_of, globals_of}
use Rattle.prem_syntax.specs.Rules.{Rule, Limit, NoJob, Breach, first, first_of, comes_before}
use Rattle.prem_syntax.specs.Breaches.{if_broken, is_job_name, regions_of, is_stated, is_length, item_names, reached, in_items, in_limits, breaches}
use Rattle.prem_syntax.specs.ProgramRules.{first_breach, IsWellFormed}
use Rattle.prem_analysis.proofs.Counts.{at_most}
use Rattle.prem_prefetch.specs.Parts.Parts.{IsShortGlobal}

none_left : {A : Type 0} (xs ys : List A) → xs ++ ys ≡ [] → xs ≡ []
none_left [] ys e = refl
none_left (x ∷ xs) ys e = cc

none_right : {A : Type 0} (xs ys : List A) → xs ++ ys ≡ [] → ys ≡ []
none_right [] ys e = e
none_right (x ∷ xs) ys e = cc

not_broken : (b : Bool) (at : Option Place) (rule : Rule) → if_broken b at rule ≡ [] → b ≡ false
not_broken true at rule e = cc
not_broken false at rule e = refl

none_broken : (bs : List Breach) → first_of bs ≡ None → bs ≡ []
none_broken [] e = refl
none_broken (b ∷ bs) e = some_first b (first_of bs) e where
  some_first : (a : Breach) (o : Option Breach) → first (Some a) o ≡ None → b ∷ bs ≡ []
  some_first a None h = cc
  some_first a (Some c) h = by (comes_before c a) h where
    by : (t : Bool) → cond t (Some c) (Some a) ≡ None → b ∷ bs ≡ []
    by true k = cc
    by false k = cc

is_none_means : {A : Type 0} (o : Option A) → IsTrue (is_none o) → o ≡ None
is_none_means None h = refl
is_none_means (Some x) h = cc

-- ---- each global and each function

either_false : (a b : Bool) → (a || b) ≡ false → (a ≡ false) × (b ≡ false)
either_false true b e = cc
either_false false b e = (refl, e)

short_length : (len : Option ℕ) → not (is_length len) ≡ false → unwrap_or len 1 ≤ 65536
short_length None e = omega arith
short_length (Some n) e = by (nat_le 1 n) (nat_le n 65536) refl e
  where
    by : (a b : Bool) → nat_le n 65536 ≡ b → not (a && b) ≡ false → n ≤ 65536
    by true true is h = grind (arith, nat_tests)
    by true false is h = cc
    by false b is h = cc

short_globals : (gs : List GlobalVariable) → list_any (λ (g : GlobalVariable). not (is_length g.len)) gs ≡ false → AllByRecursion IsShortGlobal gs
short_globals [] e = tt
short_globals (g ∷ gs) e =
    let both = either_false (not (is_length g.len)) (list_any (λ (g : GlobalVariable). not (is_length g.len)) gs) e in
    (short_length g.len both.0, short_globals gs both.1)

abbrev pub HasFewRegions : FunctionText → Type 0
HasFewRegions f = length (regions_of f.mark) ≤ 32

few_here : (n : ℕ) → nat_lt 32 n ≡ false → n ≤ 32
few_here n is = grind (arith, nat_tests)

few_regions : (fs : List FunctionText) → list_any (λ (f : FunctionText). nat_lt 32 (length (regions_of f.mark))) fs ≡ false → AllByRecursion HasFewRegions fs
few_regions [] e = tt
few_regions (f ∷ fs) e =
    let both = either_false (nat_lt 32 (length (regions_of f.mark))) (list_any (λ (f : FunctionText). nat_lt 32 (length (regions_of f.mark))) fs) e in
    (few_here (length (regions_of f.mark)) both.0, few_regions fs both.1)

pub record Kept (p : ProgramText) : Type 0 where
  pub functions : length (functions_of p) ≤ 256
  pub globals : length (globals_of p) ≤ 256
  pub regions : AllByRecursion HasFewRegions (functions_of p)
  pub lengths : AllByRecursion IsShortGlobal (globals_of p)

pub all_kept : (p : ProgramText) → IsWellFormed p → Kept p
unfolding first_breach
all_kept p formed =
    let gs = globals_of p in
    let fs = functions_of p in
    let none : breaches p ≡ [] = none_broken (breaches p) (is_none_means (first_breach p) formed) in
    let job = if_broken (not (list_any (λ (f : FunctionText). is_job_name f.name) fs)) None NoJob in
    let items = in_items fs (item_names p) (reached fs) 0 [] [] p in
    let limits : in_limits gs fs ≡ [] = none_left (in_limits gs fs) job (none_left (in_limits gs fs ++ job) items none) in
    let one = if_broken (nat_lt 256 (length fs)) None (Limit Functions) in
    let two = if_broken (nat_lt 256 (length gs)) None (Limit Globals) in
    let three = if_broken (list_any (λ (f : FunctionText). nat_lt 8 (length f.params)) fs) None (Limit Parameters) in
    let four = if_broken (list_any (λ (f : FunctionText). nat_lt 32 (length (regions_of f.mark))) fs) None (Limit Regions) in
    let five = if_broken (list_any (λ (g : GlobalVariable). not (is_length g.len)) gs) None (Limit Length) in
    let six = if_broken (list_any (λ (f : FunctionText). not (is_stated f.mark)) fs) None (Limit Stated) in
    let first_five : one ++ two ++ three ++ four ++ five ≡ [] = none_left (one ++ two ++ three ++ four ++ five) six limits in
    let first_four : one ++ two ++ three ++ four ≡ [] = none_left (one ++ two ++ three ++ four) five first_five in
    let first_two : one ++ two ≡ [] = none_left (one ++ two) three (none_left (one ++ two ++ three) four first_four) in
    record {
      functions = at_most (length fs) (not_broken (nat_lt 256 (length fs)) None (Limit Functions) (none_left one two first_two));
      globals = at_most (length gs) (not_broken (nat_lt 256 (length gs)) None (Limit Globals) (none_right one two first_two));
      regions = few_regions fs (not_broken (list_any (λ (f : FunctionText). nat_lt 32 (length (regions_of f.mark))) fs) None (Limit Regions) (none_right (one ++ two ++ three) four first_four));
      lengths = short_globals gs (not_broken (list_any (λ (g : GlobalVariable). not (is_length g.len)) gs) None (Limit Length) (none_right (one ++ two ++ three ++ four) five first_five));
    }
