-- Breaches of the rules on ranges name functions and globals that are there, and stated ranges that hold a number.
use Rattle.std.proofs.Common.{◌≡◌, ℕ, suc, ◌+◌, ◌*◌, ◌^◌, ◌<◌, ◌≤◌, Bool, true, false, cond, List, [], ◌∷◌, ◌++◌, length, map, refl, ap, sym, arith, Option, None, Some}
use Rattle.std.specs.Prelude.{ℤ, pos, ◌+ℤ◌, ◌-ℤ◌, int_lt, ⊤, not, nat_lt, slice_get}
use Rattle.prem_analysis.proofs.Prelude.{Named, loop_end, turn_bound, in_counting, in_body, behind_loop, in_while, behind_call, stated_or_whole, known_parameter, known_local, after, at_body}
use Rattle.prem_analysis.proofs.Prelude.{any_again, assigned, Environment, at_local, joined as joined_env, Site, length_of, in_watch, in_watches, in_index, in_scalar, in_element, in_divisor}
use Rattle.prem_analysis.proofs.Prelude.{in_term, in_stated, in_argument, in_arguments, parameters_of, in_turns, in_range_of_int, in_counting_loop, in_steps, in_locals, in_result}
use Rattle.prem_analysis.proofs.Prelude.{in_routine, in_routines, range_breaches, range_of, refined, RangeRule, LoopBound, TooLarge, ZeroDivisor, IndexOutside, ArgRange, RangeBreach}
use Rattle.prem_analysis.proofs.Prelude.{comes_before, first, first_of, if_at, Watch, areas_hold, watch_if, watches_from, kinds_of, HasGlobal, Typed, AllTyped, TypedSteps, TypedLocals}
use Rattle.prem_analysis.proofs.Prelude.{TypedResult, Ranged, none_ranged, next_ranged, TypedRoutine, TypedProgram, promoted, Term, Constant, Scalar, Element, Unary, Binary, AndAlso, OrElse}
use Rattle.prem_analysis.proofs.Prelude.{Steps, Done, If, For, While, Resolved, Parameter, LocalVariable, MarkText, GlobalVariable, Place, Span, from_to, exactly, holds, IsRange, encloses}
use Rattle.prem_analysis.proofs.Prelude.{converted, BinOp, Div, Rem, Kind}
use Rattle.prem_ranges.specs.Environment.{Known}
use Rattle.prem_ranges.specs.RangeBreaches.{site_of}
use Rattle.prem_syntax.specs.Resolved.{Local, SetLocal, SetScalar, SetElement, Output, Input, Call, Routine}
use Rattle.prem_syntax.specs.declared.tree.Ty.{Ty}
use Rattle.std.proofs.lemmas.Option.{slice_get_within}

-- all breaches of a list name what is there
abbrev pub AllNamed : ℕ → ℕ → List RangeBreach → Type 0
AllNamed m n [] = ⊤
AllNamed m n (b ∷ bs) = Named m n b.rule × AllNamed m n bs

both : (m n : ℕ) (xs ys : List RangeBreach) → AllNamed m n xs → AllNamed m n ys → AllNamed m n (xs ++ ys)
both m n [] ys one two = two
both m n (x ∷ xs) ys one two = (one.0, both m n xs ys one.1 two)

if_named : (m n : ℕ) (b : Bool) (at : Place) (rule : RangeRule) → Named m n rule → AllNamed m n (if_at b at rule)
if_named m n true at rule h = (h, tt)
if_named m n false at rule h = tt

-- ---- accesses

abbrev AllBelow : ℕ → List Watch → Type 0
AllBelow m [] = ⊤
AllBelow m (w ∷ ws) = (w.function < m) × AllBelow m ws

watched : (m n : ℕ) (at : Place) (g : ℕ) (r : Span) (ws : List Watch) → AllBelow m ws → g < n → AllNamed m n (in_watches at g r ws)
watched m n at g r [] below there = tt
watched m n at g r (w ∷ ws) below there = by (areas_hold g r w.areas) (watched m n at g r ws below.1 there)
  where
    by : (b : Bool) → AllNamed m n (in_watches at g r ws) → AllNamed m n (in_watch b at g r w (in_watches at g r ws))
    by true rest = rest
    by false rest = ((below.0, there), tt)

-- a function among others, by its number
record Within (p : Resolved) (site : Site) : Type 0 where
  pub globals : site.globals ≡ p.globals
  pub routines : site.routines ≡ p.routines
  pub watches : AllBelow (length p.routines) site.watches

abbrev NamedIn : Resolved → List RangeBreach → Type 0
NamedIn p bs = AllNamed (length p.routines) (length p.globals) bs

joined : (p : Resolved) (xs ys : List RangeBreach) → NamedIn p xs → NamedIn p ys → NamedIn p (xs ++ ys)
joined p xs ys one two = both (length p.routines) (length p.globals) xs ys one two

scalar_named : (p : Resolved) (site : Site) → Within p site → (at : Place) (g : ℕ) → g < length p.globals → NamedIn p (in_scalar site at g)
scalar_named p site within at g there = watched (length p.routines) (length p.globals) at g (exactly (pos 0)) site.watches within.watches there

element_named : (p : Resolved) (site : Site) → Within p site → (at : Place) (g : ℕ) (r : Span) → g < length p.globals → NamedIn p (in_element site at g r)
element_named p site within at g r there =
    let n = length_of (slice_get site.globals g) in
    joined p (in_index at r n) (in_watches at g r site.watches) (if_named (length p.routines) (length p.globals) (not (encloses (from_to (pos 0) (pos n -ℤ pos 1)) r)) at (IndexOutside r n) tt)
    (watched (length p.routines) (length p.globals) at g r site.watches within.watches there)

global_there : (gs : List GlobalVariable) (g : ℕ) (ty : Ty) → HasGlobal gs g ty → g < length gs
global_there gs g ty has = slice_get_within gs g has.variable has.there

-- ---- expressions

divisor_named : (m n : ℕ) (at : Place) (op : BinOp) (r : Span) → AllNamed m n (in_divisor at op r)
divisor_named m n at Div r = if_named m n (holds r (pos 0)) at (ZeroDivisor r) tt
divisor_named m n at Rem r = if_named m n (holds r (pos 0)) at (ZeroDivisor r) tt
divisor_named m n at op r = tt

term_named : (p : Resolved) (site : Site) → Within p site → (ks : List Kind) (e : Term) (env : Environment) → Typed p.globals ks e → NamedIn p (in_term site env e)
term_named p site within ks (Constant at word kind) env typed = tt
term_named p site within ks (Local at k kind) env typed = tt
term_named p site within ks (Scalar at g ty) env typed = scalar_named p site within at g (global_there p.globals g ty typed.global)
term_named p site within ks (Element at g ty index) env typed =
    let r = range_of env index in
    joined p (in_element site at g r) (in_term site env index) (element_named p site within at g r (global_there p.globals g ty typed.0)) (term_named p site within ks index env typed.1)
term_named p site within ks (Unary at op e) env typed = term_named p site within ks e env typed
term_named p site within ks (Binary at op kind left right) env typed =
    let r = converted kind (range_of env right) in
    joined p (in_term site env left ++ in_divisor at op r) (in_term site env right)
    (joined p (in_term site env left) (in_divisor at op r) (term_named p site within ks left env typed.2) (divisor_named (length p.routines) (length p.globals) at op r))
    (term_named p site within ks right env typed.3)
term_named p site within ks (AndAlso at left right) env typed =
    let inner = refined true env left in
    joined p (in_term site env left) (in_term site inner right) (term_named p site within ks left env typed.0) (term_named p site within ks right inner typed.1)
term_named p site within ks (OrElse at left right) env typed =
    let inner = refined false env left in
    joined p (in_term site env left) (in_term site inner right) (term_named p site within ks left env typed.0) (term_named p site within ks right inner typed.1)

-- ---- calls

first_ranged : {l : Known} {ls : Environment} → Ranged (l ∷ ls) → IsRange l.kind l.range
first_ranged (next_ranged one rest) = one

others_ranged : {l : Known} {ls : Environment} → Ranged (l ∷ ls) → Ranged ls
others_ranged (next_ranged one rest) = rest

stated_named : (m n : ℕ) (at : Place) (r : Span) (kind : Kind) (range : Option (ℤ × ℤ)) → IsRange kind (stated_or_whole kind range) → AllNamed m n (in_stated at r range)
stated_named m n at r kind None is = tt
stated_named m n at r kind (Some stated) is = if_named m n (not (encloses (from_to stated.0 stated.1) r)) at (ArgRange r (from_to stated.0 stated.1)) is.ordered

arguments_named : (p : Resolved) (site : Site) → Within p site →
    (at : Place) (ks : List Kind) (env : Environment) (es : List Term) (ps : List Parameter) → AllTyped p.globals ks es →
    Ranged (map known_parameter ps) → NamedIn p (in_arguments at site env es ps)
arguments_named p site within at ks env [] ps typed ranged = tt
arguments_named p site within at ks env (e ∷ es) [] typed ranged =
    joined p (in_term site env e) (in_arguments at site env es []) (term_named p site within ks e env typed.0) (arguments_named p site within at ks env es [] typed.1 ranged)
arguments_named p site within at ks env (e ∷ es) (q ∷ qs) typed ranged =
    joined p (in_argument at env e q ++ in_term site env e) (in_arguments at site env es qs)
    (joined p (in_argument at env e q) (in_term site env e)
    (stated_named (length p.routines) (length p.globals) at (converted (promoted q.ty) (range_of env e)) (promoted q.ty) q.range
    (first_ranged ranged)) (term_named p site within ks e env typed.0))
    (arguments_named p site within at ks env es qs typed.1 (others_ranged ranged))

-- ---- steps

abbrev ParametersRanged : Resolved → Type 0
ParametersRanged p = (f : ℕ) (routine : Routine) → slice_get p.routines f ≡ Some routine → Ranged (map known_parameter routine.text.params)

in_turns_named : (m n : ℕ) (at : Place) (turns : ℕ) → AllNamed m n (in_turns at turns)
in_turns_named m n at turns = if_named m n (nat_lt (2 ^ 40) turns) at TooLarge tt

steps_named : (p : Resolved) (site : Site) → Within p site → ParametersRanged p →
    (n : ℕ) (ks : List Kind) (steps : Steps) (around : ℕ) (env : Environment) → TypedSteps p n ks steps → NamedIn p (in_steps site around env steps)
steps_named p site within ranged n ks Done around env typed = tt
steps_named p site within ranged n ks (SetLocal at k e rest) around env typed =
    let next = at_local k (assigned (range_of env e)) env in
    joined p (in_term site env e) (in_steps site around next rest) (term_named p site within ks e env typed.0) (steps_named p site within ranged n ks rest around next typed.1)
steps_named p site within ranged n ks (SetScalar at g ty e rest) around env typed =
    joined p (in_scalar site at g ++ in_term site env e) (in_steps site around env rest)
    (joined p (in_scalar site at g) (in_term site env e) (scalar_named p site within at g (global_there p.globals g ty typed.0.global)) (term_named p site within ks e env typed.1))
    (steps_named p site within ranged n ks rest around env typed.2)
steps_named p site within ranged n ks (SetElement at g ty index e rest) around env typed =
    let r = range_of env index in
    let element = in_element site at g r in
    joined p (element ++ in_term site env index ++ in_term site env e) (in_steps site around env rest)
    (joined p (element ++ in_term site env index) (in_term site env e)
    (joined p element (in_term site env index) (element_named p site within at g r (global_there p.globals g ty typed.0))
    (term_named p site within ks index env typed.1)) (term_named p site within ks e env typed.2))
    (steps_named p site within ranged n ks rest around env typed.3)
steps_named p site within ranged n ks (Output at e rest) around env typed =
    joined p (in_term site env e) (in_steps site around env rest) (term_named p site within ks e env typed.0) (steps_named p site within ranged n ks rest around env typed.1)
steps_named p site within ranged n ks (Input at k rest) around env typed = steps_named p site within ranged n ks rest around (at_local k any_again env) typed
steps_named p site within ranged n ks (If at condition taken other rest) around env typed =
    let yes = refined true env condition in
    let no = refined false env condition in
    let next = joined_env (after yes taken) (after no other) in
    joined p (in_term site env condition ++ in_steps site around yes taken ++ in_steps site around no other) (in_steps site around next rest)
    (joined p (in_term site env condition ++ in_steps site around yes taken) (in_steps site around no other)
    (joined p (in_term site env condition) (in_steps site around yes taken) (term_named p site within ks condition env typed.0)
    (steps_named p site within ranged n ks taken around yes typed.1)) (steps_named p site within ranged n ks other around no typed.2))
    (steps_named p site within ranged n ks rest around next typed.3)
steps_named p site within ranged n ks (For at k low closed high step turns body rest) around env typed =
    let end = loop_end env k closed high body in
    let product = around * turn_bound (range_of env low).lo end step in
    let head = in_counting k body env in
    let inner = in_body env k low end body in
    let next = behind_loop env k low end step body in
    let own = in_counting_loop at end step product in
    let own_named = joined p (in_range_of_int at end step) (in_turns at product)
    (if_named (length p.routines) (length p.globals) (int_lt (pos 2147483647) (end -ℤ pos 1 +ℤ pos step)) at LoopBound tt) (in_turns_named (length p.routines) (length p.globals) at product) in
    joined p (own ++ in_term site env low ++ in_term site head high ++ in_steps site product inner body) (in_steps site around next rest)
    (joined p (own ++ in_term site env low ++ in_term site head high) (in_steps site product inner body)
    (joined p (own ++ in_term site env low) (in_term site head high)
    (joined p own (in_term site env low) own_named (term_named p site within ks low env typed.1)) (term_named p site within ks high head typed.2))
    (steps_named p site within ranged n ks body product inner typed.3))
    (steps_named p site within ranged n ks rest around next typed.4)
steps_named p site within ranged n ks (While at turns condition body rest) around env typed =
    let product = around * turns in
    let head = in_while body env in
    let inner = refined true head condition in
    joined p (in_turns at product ++ in_term site head condition ++ in_steps site product inner body) (in_steps site around head rest)
    (joined p (in_turns at product ++ in_term site head condition) (in_steps site product inner body)
    (joined p (in_turns at product) (in_term site head condition) (in_turns_named (length p.routines) (length p.globals) at product)
    (term_named p site within ks condition head typed.0)) (steps_named p site within ranged n ks body product inner typed.1))
    (steps_named p site within ranged n ks rest around head typed.2)
steps_named p site within ranged n ks (Call at target f arguments rest) around env typed =
    let next = behind_call target env in
    joined p (in_arguments at site env arguments (parameters_of (slice_get site.routines f))) (in_steps site around next rest)
    (by (slice_get site.routines f) (ap (λ fs. slice_get fs f) within.routines)) (steps_named p site within ranged n ks rest around next typed.2)
  where
    by : (found : Option Routine) → found ≡ slice_get p.routines f → NamedIn p (in_arguments at site env arguments (parameters_of found))
    by None is = arguments_named p site within at ks env arguments [] typed.1 none_ranged
    by (Some routine) is = arguments_named p site within at ks env arguments routine.text.params typed.1 (ranged f routine (sym is))

-- ---- functions

locals_named : (p : Resolved) (site : Site) → Within p site → (ls : List LocalVariable) (es : List Term) (ks : List Kind) (env : Environment) →
    TypedLocals p.globals ks ls es → NamedIn p (in_locals site env ls es)
locals_named p site within [] [] ks env typed = tt
locals_named p site within [] (e ∷ es) ks env typed = absurd typed
locals_named p site within (l ∷ ls) [] ks env typed = absurd typed
locals_named p site within (l ∷ ls) (e ∷ es) ks env typed =
    let next = env ++ known_local env l e ∷ [] in
    joined p (in_term site env e) (in_locals site next ls es) (term_named p site within ks e env typed.0) (locals_named p site within ls es (ks ++ promoted l.ty ∷ []) next typed.1)

result_named : (p : Resolved) (site : Site) → Within p site → (ks : List Kind) (env : Environment) (result : Option Term) → TypedResult p.globals ks result → NamedIn p (in_result site env result)
result_named p site within ks env None typed = tt
result_named p site within ks env (Some e) typed = term_named p site within ks e env typed

routine_named : (p : Resolved) (site : Site) → Within p site → ParametersRanged p → (n : ℕ) (f : Routine) → TypedRoutine p n f → NamedIn p (in_routine site f)
routine_named p site within ranged n f typed =
    let env = map known_parameter f.text.params in
    let locals = in_locals site env f.text.locals f.locals in
    let steps = in_steps site 1 (at_body f) f.body in
    let result = in_result site (after (at_body f) f.body) f.result in
    joined p (locals ++ steps) result
    (joined p locals steps (locals_named p site within f.text.locals f.locals (kinds_of env) env typed.locals)
    (steps_named p site within ranged n (kinds_of (at_body f)) f.body 1 (at_body f) typed.body))
    (result_named p site within (kinds_of (at_body f)) (after (at_body f) f.body) f.result typed.result)

-- ---- programs

watches_below : (gs : List GlobalVariable) (fs : List Routine) (f n m : ℕ) (rest : List Routine) → n + length rest ≤ m → AllBelow m (watches_from gs fs f n rest)
watches_below gs fs f n m [] within = tt
watches_below gs fs f n m (marked ∷ rest) within = by _ marked.text.mark (watches_below gs fs f (n + 1) m rest (omega arith))
  where
    by : (reaches : Bool) (mark : Option MarkText) → AllBelow m (watches_from gs fs f (n + 1) rest) → AllBelow m (watch_if reaches gs n mark ++ watches_from gs fs f (n + 1) rest)
    by reaches None more = more
    by true (Some mark) more = (omega arith, more)
    by false (Some mark) more = more

routines_named : (p : Resolved) → ParametersRanged p → (n : ℕ) (rest : List Routine) →
    ((i : ℕ) (f : Routine) → slice_get rest i ≡ Some f → (k : ℕ) × TypedRoutine p k f) → NamedIn p (in_routines p n rest)
routines_named p ranged n [] typed = tt
routines_named p ranged n (f ∷ rest) typed =
    let first = typed 0 f refl in
    joined p (in_routine (site_of p n) f) (in_routines p (n + 1) rest)
    (routine_named p (site_of p n) (record { globals = refl; routines = refl; watches = watches_below p.globals p.routines n 0 (length p.routines) p.routines (omega arith) }) ranged first.0 f first.1)
    (routines_named p ranged (n + 1) rest (λ i g there. typed (suc i) g there))

abbrev pub NamedIf : ℕ → ℕ → Option RangeBreach → Type 0
NamedIf m n None = ⊤
NamedIf m n (Some b) = Named m n b.rule

first_named : (m n : ℕ) (bs : List RangeBreach) → AllNamed m n bs → NamedIf m n (first_of bs)
first_named m n [] all = tt
first_named m n (b ∷ bs) all = pick (first_of bs) (first_named m n bs all.1)
  where
    by : (t : Bool) (c : RangeBreach) → Named m n c.rule → NamedIf m n (cond t (Some c) (Some b))
    by true c h = h
    by false c h = all.0

    pick : (o : Option RangeBreach) → NamedIf m n o → NamedIf m n (first (Some b) o)
    pick None h = all.0
    pick (Some c) h = by (comes_before c b) c h

-- the first breach of a program with right names and kinds
pub program_named : (p : Resolved) → TypedProgram p → NamedIf (length p.routines) (length p.globals) (first_of (range_breaches p))
program_named p typed =
    first_named (length p.routines) (length p.globals) (range_breaches p)
    (routines_named p (λ f routine there. (typed.each f routine there).parameters) 0 p.routines (λ i f there. (i, typed.each i f there)))
