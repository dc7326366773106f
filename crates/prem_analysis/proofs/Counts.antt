-- A well-formed program has few functions and globals, so the numbers that its first breach names are small.
use Rattle.std.proofs.Common.{◌≡◌, ℕ, suc, ◌+◌, ◌≤◌, Bool, true, false, List, [], ◌∷◌, ◌++◌, length, refl, ap, sym, ◌∙◌, arith, Option, None, Some, subst}
use Rattle.prem_analysis.proofs.Prelude.{Named, is_none_tells, well_formed_is_typed, range_breaches, RangeRule, LoopBound, TooLarge, ZeroDivisor, IndexOutside, RegionOutside, ArgRange}
use Rattle.prem_analysis.proofs.Prelude.{RangeBreach, first_of, resolved, first_range_breach, ProgramHasWords, first_breach, IsWellFormed, loops_within, functions_of, globals_of}
use Rattle.prem_analysis.proofs.Prelude.{resolve_items, unlimited, GlobalVariable, FunctionText, global_item, function_item, ProgramText, nat_tests, list_any, nat_lt, not}
use Rattle.prem_analysis.proofs.Naming.{NamedIf, program_named}
use Rattle.prem_ranges.proofs.Basics.{none_left, none_right}
use Rattle.prem_ranges.proofs.Named.{none_broken}
use Rattle.prem_syntax.specs.Breaches.{if_broken, is_job_name, regions_of, is_stated, is_length, item_names, reached, in_items, in_limits, breaches}
use Rattle.prem_syntax.specs.Rules.{Rule, Limit, NoJob}
use Rattle.prem_syntax.specs.declared.rules.Count.TheVariants.{Functions, Globals, Parameters, Regions, Length, Stated}

not_broken : (b : Bool) (at : _) (rule : Rule) → if_broken b at rule ≡ [] → b ≡ false
not_broken true at rule e = cc
not_broken false at rule e = refl

record Few (p : ProgramText) : Type 0 where
  pub functions : length (functions_of p) ≤ 256
  pub globals : length (globals_of p) ≤ 256

pub at_most : (n : ℕ) → nat_lt 256 n ≡ false → n ≤ 256
at_most n is = grind (arith, nat_tests)

few : (p : ProgramText) → IsWellFormed p → Few p
unfolding first_breach
few p formed =
    let gs = globals_of p in
    let fs = functions_of p in
    let none : breaches p ≡ [] = none_broken (breaches p) (is_none_tells (first_breach p) formed) in
    let job = if_broken (not (list_any (λ (f : FunctionText). is_job_name f.name) fs)) None NoJob in
    let limits : in_limits gs fs ≡ [] = none_left (in_limits gs fs) job (none_left (in_limits gs fs ++ job) (in_items fs (item_names p) (reached fs) 0 [] [] p) none) in
    let one = if_broken (nat_lt 256 (length fs)) None (Limit Functions) in
    let two = if_broken (nat_lt 256 (length gs)) None (Limit Globals) in
    let three = if_broken (list_any (λ (f : FunctionText). nat_lt 8 (length f.params)) fs) None (Limit Parameters) in
    let four = if_broken (list_any (λ (f : FunctionText). nat_lt 32 (length (regions_of f.mark))) fs) None (Limit Regions) in
    let five = if_broken (list_any (λ (g : GlobalVariable). not (is_length g.len)) gs) None (Limit Length) in
    let six = if_broken (list_any (λ (f : FunctionText). not (is_stated f.mark)) fs) None (Limit Stated) in
    let first_two = none_left (one ++ two) three (none_left (one ++ two ++ three) four (none_left (one ++ two ++ three ++ four) five (none_left (one ++ two ++ three ++ four ++ five) six limits))) in
    record {
      functions = at_most (length fs) (not_broken (nat_lt 256 (length fs)) None (Limit Functions) (none_left one two first_two));
      globals = at_most (length gs) (not_broken (nat_lt 256 (length gs)) None (Limit Globals) (none_right one two first_two));
    }

pub as_many : (fs : List FunctionText) (t : ℕ → ℕ) (n : ℕ) (gs : List GlobalVariable) (items : ProgramText) → length (resolve_items fs t n gs items) ≡ length (functions_of items)
as_many fs t n gs [] = refl
as_many fs t n gs (global_item g ∷ items) = as_many fs t n (gs ++ g ∷ []) items
as_many fs t n gs (function_item f ∷ items) = ap suc (as_many fs t (n + loops_within f.body) gs items)

more_named : (m n : ℕ) (rule : RangeRule) → m ≤ 65536 → n ≤ 65536 → Named m n rule → Named 65536 65536 rule
more_named m n LoopBound a b h = tt
more_named m n TooLarge a b h = tt
more_named m n (ZeroDivisor divisor) a b h = tt
more_named m n (IndexOutside index len) a b h = tt
more_named m n (RegionOutside function elements global) a b h = let f = h.0 in let g = h.1 in (omega arith, omega arith)
more_named m n (ArgRange argument stated) a b h = h

widened : (m n : ℕ) (o : Option RangeBreach) → m ≤ 65536 → n ≤ 65536 → NamedIf m n o → NamedIf 65536 65536 o
widened m n None a b h = tt
widened m n (Some x) a b h = more_named m n x.rule a b h

small_named : (p : ProgramText) → IsWellFormed p → ProgramHasWords p → NamedIf 65536 65536 (first_range_breach p)
unfolding first_range_breach
small_named p formed words =
    let counts = few p formed in
    let many = as_many (functions_of p) unlimited.turns 0 [] p in
    let functions = counts.functions in
    let globals = counts.globals in
    widened (length (resolved p).routines) (length (resolved p).globals) (first_of (range_breaches (resolved p))) (omega arith) (omega arith)
    (program_named (resolved p) (well_formed_is_typed p formed words unlimited.turns))

-- what the first breach of a tree names
pub told_named : (p : ProgramText) (o : Option RangeBreach) (b : RangeBreach) → IsWellFormed p → ProgramHasWords p → o ≡ first_range_breach p → o ≡ Some b → Named 65536 65536 b.rule
told_named p o b formed words found is = subst (λ (x : Option RangeBreach). NamedIf 65536 65536 x) (sym found ∙ is) (small_named p formed words)
