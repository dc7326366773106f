-- What a well-formed program doesn't break.
use Rattle.std.specs.Prelude.{nat_lt, not}
use Rattle.std.specs.List.{list_any}
use Rattle.std.proofs.Common.{◌≡◌, ◌≤◌, Bool, true, false, cond, List, [], ◌∷◌, ◌++◌, length, refl, Option, None, Some}
use Rattle.prem_syntax.specs.declared.tree.Place.{Place}
use Rattle.prem_syntax.specs.declared.rules.Count.TheVariants.{Functions, Globals, Parameters, Regions, Length, Stated}
use Rattle.prem_syntax.specs.Syntax.{GlobalVariable, FunctionText, ProgramText}
use Rattle.prem_syntax.specs.Resolve.{functions_of, globals_of}
use Rattle.prem_syntax.specs.Rules.{Rule, Limit, NoJob, Breach, first, first_of, comes_before}
use Rattle.prem_syntax.specs.Breaches.{if_broken, is_job_name, regions_of, is_stated, is_length, item_names, reached, in_items, in_limits, breaches}
use Rattle.prem_syntax.specs.ProgramRules.{first_breach, IsWellFormed}
use Rattle.prem_ranges.proofs.AnalysisSound.{is_none_tells}
use Rattle.prem_ranges.proofs.Basics.{none_left, none_right}
use Rattle.prem_analysis.proofs.Counts.{at_most}

not_broken : (b : Bool) (at : Option Place) (rule : Rule) → if_broken b at rule ≡ [] → b ≡ false
not_broken true at rule e = cc
not_broken false at rule e = refl

none_broken : (bs : List Breach) → first_of bs ≡ None → bs ≡ []
none_broken [] e = refl
none_broken (b ∷ bs) e = some_first b (first_of bs) e where
  some_first : (a : Breach) (o : Option Breach) → first (Some a) o ≡ None → b ∷ bs ≡ []
  some_first a None h = cc
  some_first a (Some c) h = by (comes_before c a) h where
    by : (t : Bool) → cond t (Some c) (Some a) ≡ None → b ∷ bs ≡ []
    by true k = cc
    by false k = cc

pub record Kept (p : ProgramText) : Type 0 where
  pub few_functions : length (functions_of p) ≤ 256
  pub few_globals : length (globals_of p) ≤ 256
  pub items : in_items (functions_of p) (item_names p) (reached (functions_of p)) 0 [] [] p ≡ []

pub all_kept : (p : ProgramText) → IsWellFormed p → Kept p
unfolding first_breach
all_kept p formed =
    let gs = globals_of p in
    let fs = functions_of p in
    let none : breaches p ≡ [] = none_broken (breaches p) (is_none_tells (first_breach p) formed) in
    let job = if_broken (not (list_any (λ (f : FunctionText). is_job_name f.name) fs)) None NoJob in
    let items = in_items fs (item_names p) (reached fs) 0 [] [] p in
    let limits : in_limits gs fs ≡ [] = none_left (in_limits gs fs) job (none_left (in_limits gs fs ++ job) items none) in
    let one = if_broken (nat_lt 256 (length fs)) None (Limit Functions) in
    let two = if_broken (nat_lt 256 (length gs)) None (Limit Globals) in
    let three = if_broken (list_any (λ (f : FunctionText). nat_lt 8 (length f.params)) fs) None (Limit Parameters) in
    let four = if_broken (list_any (λ (f : FunctionText). nat_lt 32 (length (regions_of f.mark))) fs) None (Limit Regions) in
    let five = if_broken (list_any (λ (g : GlobalVariable). not (is_length g.len)) gs) None (Limit Length) in
    let six = if_broken (list_any (λ (f : FunctionText). not (is_stated f.mark)) fs) None (Limit Stated) in
    let first_two = none_left (one ++ two) three (none_left (one ++ two ++ three) four (none_left (one ++ two ++ three ++ four) five (none_left (one ++ two ++ three ++ four ++ five) six limits))) in
    record {
      few_functions = at_most (length fs) (not_broken (nat_lt 256 (length fs)) None (Limit Functions) (none_left one two first_two));
      few_globals = at_most (length gs) (not_broken (nat_lt 256 (length gs)) None (Limit Globals) (none_right one two first_two));
      items = none_right (in_limits gs fs ++ job) items none;
    }
