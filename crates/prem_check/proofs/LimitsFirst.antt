-- A limit comes before everything else.
use Rattle.std.specs.List.{list_any}
use Rattle.std.proofs.Common.{◌≡◌, ℕ, nat_lt, ◌==◌, Bool, true, false, ◌&&◌, ◌||◌, if◌then◌else◌, List, [], ◌∷◌, ◌++◌, length, not, Option, None, Some, is_some, refl, ap, sym, ◌∙◌, arith}
use Rattle.std.proofs.lemmas.Bool.Decides.{nat_tests}
use Rattle.prem_syntax.specs.declared.tree.Place.{Place}
use Rattle.prem_syntax.specs.declared.rules.Count.{Count}
use Rattle.prem_syntax.specs.declared.rules.Count.TheVariants.{Functions, Globals, Parameters, Regions, Length, Stated}
use Rattle.prem_syntax.specs.Syntax.{GlobalVariable, FunctionText, ProgramText}
use Rattle.prem_syntax.specs.Resolve.{globals_of, functions_of}
use Rattle.prem_syntax.specs.ProgramRules.{first_breach}
use Rattle.prem_syntax.specs.Order.{less, key_of}
use Rattle.prem_syntax.specs.Rules.{Limit, NoJob, Breach, rank, first, first_of}
use Rattle.prem_syntax.specs.Breaches.{if_broken, is_length, is_stated, regions_of, is_job_name, item_names, reached, in_limits, in_items}
use Rattle.prem_check.specs.declared.found.Broken.{Broken}
use Rattle.prem_check.specs.FoundOf.{found_of}
use Rattle.prem_check.proofs.First.{first_of_append}

-- nothing comes before it
abbrev Stays : Option Breach → Type 0
Stays o = (later : Option Breach) → is_some o ≡ true → first o later ≡ o

below_none : (n : ℕ) → (nat_lt n 0 || (n == 0 && false)) ≡ false
below_none n = grind (arith, nat_tests)

none_before : (at : Option Place) (n : ℕ) → less (key_of at n) (0 ∷ 0 ∷ 0 ∷ 0 ∷ []) ≡ false
none_before None n = below_none n
none_before (Some at) n = refl

kept : (a b : Breach) (t : Bool) → t ≡ false → (if t then Some b else Some a) ≡ Some a
kept a b t e = ap (λ x. if x then Some b else Some a) e

one_stays : (broken : Bool) (which : Count) → Stays (first_of (if_broken broken None (Limit which)))
one_stays false which later t = ap (λ b. if b then None else later) t
one_stays true which None t = refl
one_stays true which (Some b) t = kept (record { at = None; rule = Limit which }) b (less (key_of b.at (rank b.rule)) (0 ∷ 0 ∷ 0 ∷ 0 ∷ [])) (none_before b.at (rank b.rule))

two_stay : (p q : Option Breach) → Stays p → Stays q → Stays (first p q)
two_stay None q hp hq = hq
two_stay (Some a) q hp hq = λ later t. ap (λ o. first o later) (hp q refl) ∙ hp later refl ∙ sym (hp q refl)

both_stay : (xs ys : List Breach) → Stays (first_of xs) → Stays (first_of ys) → Stays (first_of (xs ++ ys))
both_stay xs ys hx hy later t =
    let is = first_of_append xs ys in
    ap (λ o. first o later) is ∙ two_stay (first_of xs) (first_of ys) hx hy later (ap is_some (sym is) ∙ t) ∙ sym is

limits_stay : (gs : List GlobalVariable) (fs : List FunctionText) (later : Option Breach) → is_some (first_of (in_limits gs fs)) ≡ true →
    first (first_of (in_limits gs fs)) later ≡ first_of (in_limits gs fs)
limits_stay gs fs =
    let a = if_broken (nat_lt 256 (length fs)) None (Limit Functions) in
    let b = if_broken (nat_lt 256 (length gs)) None (Limit Globals) in
    let c = if_broken (list_any (λ (f : FunctionText). nat_lt 8 (length f.params)) fs) None (Limit Parameters) in
    let d = if_broken (list_any (λ (f : FunctionText). nat_lt 32 (length (regions_of f.mark))) fs) None (Limit Regions) in
    let e = if_broken (list_any (λ (g : GlobalVariable). not (is_length g.len)) gs) None (Limit Length) in
    let f = if_broken (list_any (λ (f : FunctionText). not (is_stated f.mark)) fs) None (Limit Stated) in
    both_stay (a ++ b ++ c ++ d ++ e) f
    (both_stay (a ++ b ++ c ++ d) e
    (both_stay (a ++ b ++ c) d (both_stay (a ++ b) c
    (both_stay a b (one_stays (nat_lt 256 (length fs)) Functions) (one_stays (nat_lt 256 (length gs)) Globals))
    (one_stays (list_any (λ (f : FunctionText). nat_lt 8 (length f.params)) fs) Parameters))
    (one_stays (list_any (λ (f : FunctionText). nat_lt 32 (length (regions_of f.mark))) fs) Regions))
    (one_stays (list_any (λ (g : GlobalVariable). not (is_length g.len)) gs) Length))
    (one_stays (list_any (λ (f : FunctionText). not (is_stated f.mark)) fs) Stated)

-- the three parts of what is broken in a program
abbrev pub limits : ProgramText → List Breach
limits p = in_limits (globals_of p) (functions_of p)

abbrev pub without_job : List FunctionText → List Breach
without_job fs = if_broken (not (list_any (λ (f : FunctionText). is_job_name f.name) fs)) None NoJob

abbrev pub among_items : List FunctionText → ProgramText → List Breach
among_items fs p = in_items fs (item_names p) (reached fs) 0 [] [] p

first_breach_is : (p : ProgramText) → first_breach p ≡ first (first (first_of (limits p)) (first_of (without_job (functions_of p)))) (first_of (among_items (functions_of p) p))
unfolding first_breach
first_breach_is p =
    first_of_append (limits p ++ without_job (functions_of p)) (among_items (functions_of p) p)
    ∙ ap (λ o. first o (first_of (among_items (functions_of p) p))) (first_of_append (limits p) (without_job (functions_of p)))

some_found : (o : Option Broken) → is_some (found_of o) ≡ is_some o
some_found None = refl
some_found (Some b) = refl

none_is : (o : Option Breach) → is_some o ≡ false → o ≡ None
none_is None e = refl
none_is (Some b) e = ap (λ t. if t then Some b else None) e

-- a limit is the first breach
pub past_limit : (p : ProgramText) (limit : Option Broken) → found_of limit ≡ first_of (limits p) → is_some limit ≡ true → found_of limit ≡ first_breach p
past_limit p limit is t =
    let some : is_some (first_of (limits p)) ≡ true = ap is_some (sym is) ∙ some_found limit ∙ t in
    let j = first_of (without_job (functions_of p)) in
    let i = first_of (among_items (functions_of p) p) in
    is
    ∙ sym (first_breach_is p ∙ ap (λ o. first o i) (limits_stay (globals_of p) (functions_of p) j some) ∙ limits_stay (globals_of p) (functions_of p) i some)

-- within the limits the rest decides
pub within_limits : (p : ProgramText) (limit : Option Broken) (job items all : Option Breach) → found_of limit ≡ first_of (limits p) → is_some limit ≡ false →
    job ≡ first_of (without_job (functions_of p)) → items ≡ first_of (among_items (functions_of p) p) → all ≡ first job items → all ≡ first_breach p
within_limits p limit job items all is none is_job is_items is_all =
    let no : first_of (limits p) ≡ None = none_is (first_of (limits p)) (ap is_some (sym is) ∙ some_found limit ∙ none) in
    is_all ∙ ap (λ o. first o items) is_job ∙ ap (first (first_of (without_job (functions_of p)))) is_items
    ∙ sym (first_breach_is p ∙ ap (λ o. first (first o (first_of (without_job (functions_of p)))) (first_of (among_items (functions_of p) p))) no)
