-- What is broken behind one more item.
use Rattle.std.proofs.Common.{◌≡◌, ◌≤◌, ℕ, ◌+◌, Bool, List, [], ◌∷◌, ◌++◌, Option, Result, Ok, Err, IfOk, OnOk, ap, sym, ◌∙◌, arith}
use Rattle.prem_syntax.specs.Syntax.{Text, GlobalVariable, FunctionText, ItemText, ProgramText, global_item, function_item}
use Rattle.prem_syntax.specs.Rules.{Breach, first, first_of}
use Rattle.prem_syntax.specs.Breaches.{in_global, in_function, in_items}
use Rattle.prem_syntax.specs.Reach.{is_in_set}
use Rattle.prem_check.specs.declared.program.Walk.{Walk}
use Rattle.prem_check.specs.declared.found.Broken.{Broken}
use Rattle.prem_check.specs.FoundOf.{found_of}
use Rattle.prem_check.specs.Walk.{functions_in, globals_in, before_in, first_behind, BehindGlobal, BehindFunction}
use Rattle.prem_check.proofs.First.{first_of_append}

moved : (fs gs : List FunctionText) (taken : List Text) (within : List Bool) (k n : ℕ) (hs js : List GlobalVariable) (before behind : List Text) (rest : ProgramText) →
    gs ≡ fs → n ≡ k → js ≡ hs → behind ≡ before → first_of (in_items fs taken within k hs before rest) ≡ first_of (in_items gs taken within n js behind rest)
moved fs gs taken within k n hs js before behind rest same_functions same_number same_globals same_names =
    ap (λ x. first_of (in_items x taken within k hs before rest)) (sym same_functions) ∙ ap (λ x. first_of (in_items gs taken within x hs before rest)) (sym same_number)
    ∙ ap (λ x. first_of (in_items gs taken within n x before rest)) (sym same_globals) ∙ ap (λ x. first_of (in_items gs taken within n js x rest)) (sym same_names)

pub behind_global : (after w : Walk) (g : GlobalVariable) (taken : List Text) (within : List Bool) (found : Option Breach) (rest : ProgramText) →
    BehindGlobal after w g → found ≡ first_of (in_global (before_in w) g) → first_behind w taken within (global_item g ∷ rest) ≡ first found (first_behind after taken within rest)
behind_global after w g taken within found rest h is =
    first_of_append (in_global (before_in w) g) (in_items (functions_in w) taken within w.number (globals_in w ++ g ∷ []) (before_in w ++ g.name ∷ []) rest)
    ∙ ap (λ o. first o (first_of (in_items (functions_in w) taken within w.number (globals_in w ++ g ∷ []) (before_in w ++ g.name ∷ []) rest))) (sym is)
    ∙ ap (first found)
    (moved (functions_in w) (functions_in after) taken within w.number after.number (globals_in w ++ g ∷ []) (globals_in after) (before_in w ++ g.name ∷ []) (before_in after) rest
    h.functions h.number h.globals h.before)

pub behind_function : (after w : Walk) (f : FunctionText) (taken : List Text) (within : List Bool) (found : Option Breach) (rest : ProgramText) → BehindFunction after w f →
    found ≡ first_of (in_function (functions_in w) taken w.number (is_in_set within w.number) (globals_in w) (before_in w) f) →
    first_behind w taken within (function_item f ∷ rest) ≡ first found (first_behind after taken within rest)
behind_function after w f taken within found rest h is =
    first_of_append (in_function (functions_in w) taken w.number (is_in_set within w.number) (globals_in w) (before_in w) f)
    (in_items (functions_in w) taken within (w.number + 1) (globals_in w) (before_in w ++ f.name ∷ []) rest)
    ∙ ap (λ o. first o (first_of (in_items (functions_in w) taken within (w.number + 1) (globals_in w) (before_in w ++ f.name ∷ []) rest))) (sym is)
    ∙ ap (first found)
    (moved (functions_in w) (functions_in after) taken within (w.number + 1) after.number (globals_in w) (globals_in after) (before_in w ++ f.name ∷ []) (before_in after) rest
    h.functions h.number h.globals h.before)

pub global_passed : {E : Type 0} (r : Result (Option Broken) E) (after w : Walk) (g : GlobalVariable) (item : ItemText) (taken : List Text) (within : List Bool) → item ≡ global_item g →
    IfOk r (λ found. found_of found ≡ first_of (in_global (before_in w) g)) → OnOk r (BehindGlobal after w g) →
    IfOk r (λ found. (rest : ProgramText) → first_behind w taken within (item ∷ rest) ≡ first (found_of found) (first_behind after taken within rest))
global_passed (Ok found) after w g item taken within is same h = λ rest.
    ap (λ i. first_behind w taken within (i ∷ rest)) is ∙ behind_global after w g taken within (found_of found) rest h same
global_passed (Err e) after w g item taken within is same h = tt

pub function_passed : {E : Type 0} (r : Result (Option Broken) E) (after w : Walk) (f : FunctionText) (item : ItemText) (taken : List Text) (within : List Bool) → item ≡ function_item f →
    IfOk r (λ found. found_of found ≡ first_of (in_function (functions_in w) taken w.number (is_in_set within w.number) (globals_in w) (before_in w) f)) → OnOk r (BehindFunction after w f) →
    IfOk r (λ found. (rest : ProgramText) → first_behind w taken within (item ∷ rest) ≡ first (found_of found) (first_behind after taken within rest))
function_passed (Ok found) after w f item taken within is same h = λ rest.
    ap (λ i. first_behind w taken within (i ∷ rest)) is ∙ behind_function after w f taken within (found_of found) rest h same
function_passed (Err e) after w f item taken within is same h = tt

pub at_most_one_more : (a b i : ℕ) → a ≤ b + 1 → b ≤ i → a ≤ i + 1
at_most_one_more a b i h k = omega arith
