-- What a run in the code says of the meaning.
use Rattle.std.proofs.Common.{◌≡◌, ℕ, suc, ◌+◌, ◌≤◌, Bool, true, false, ltb, List, [], ◌∷◌, ◌++◌, length, map, refl, ap, sym, ◌∙◌, arith, Option, None, Some, Ok, Err, is_none, IsTrue}
use Rattle.std.proofs.lemmas.Bool.Decides.{nat_tests}
use Rattle.prem_list.specs.Sequence.{items_of}
use Rattle.prem_syntax.specs.declared.rules.Count.TheVariants.{Functions}
use Rattle.prem_syntax.specs.Syntax.{GlobalVariable, FunctionText, global_item, function_item, ProgramText}
use Rattle.prem_syntax.specs.SyntaxOf.{global_of}
use Rattle.prem_syntax.specs.Resolve.{functions_of, resolve_items, loops_within}
use Rattle.prem_syntax.specs.Rules.{Limit, Breach, first, first_of, comes_before}
use Rattle.prem_syntax.specs.Breaches.{if_broken}
use Rattle.prem_syntax.specs.ProgramRules.{first_breach, IsWellFormed}
use Rattle.prem_syntax.specs.Resolved.{Resolved}
use Rattle.prem_syntax.specs.Expressions.{Outcome}
use Rattle.prem_syntax.specs.Statements.{ProgramState, MarkedCall}
use Rattle.prem_syntax.specs.Source.{unlimited, initial_words, start, do_jobs, source}
use Rattle.prem_tree.specs.declared.resolve.resolved.Resolved.{Resolved as ResolvedTree}
use Rattle.prem_tree.specs.declared.state.interpreter.Interpreter.{Interpreter}
use Rattle.prem_tree.specs.declared.source.SourceRun.{SourceRun}
use Rattle.prem_tree.specs.Resolve.ResolvedOf.{resolved_of, IsResolved}
use Rattle.prem_tree.specs.State.Interpreter.{noted, state_of}
use Rattle.prem_tree.specs.StepMeaning.{noted_jobs}
use Rattle.prem_tree.specs.SourceRun.{EndsIn, IsRun, resolved_outcome}
use Rattle.prem_tree.proofs.NotedLaws.{outline, mapped, length-routines_of, jobs_agree}

-- ---- the number of functions

pub some_first : (b : Breach) (o : Option Breach) → is_none (first (Some b) o) ≡ false
some_first b None = refl
some_first b (Some other) = by (comes_before other b) refl
  where
    by : (test : Bool) → comes_before other b ≡ test → is_none (first (Some b) (Some other)) ≡ false
    by true is = rw is
    by false is = rw is

-- the rule on the number of functions is the first of eight lists of breaches
first_unbroken : (test : Bool) (a b c d e f g : List Breach) →
    IsTrue (is_none (first_of (if_broken test None (Limit Functions) ++ a ++ b ++ c ++ d ++ e ++ f ++ g))) → test ≡ false
first_unbroken false a b c d e f g none = refl
first_unbroken true a b c d e f g none =
    let broken : is_none (first_of (if_broken true None (Limit Functions) ++ a ++ b ++ c ++ d ++ e ++ f ++ g)) ≡ false =
    some_first (record { at = None; rule = Limit Functions }) (first_of (a ++ b ++ c ++ d ++ e ++ f ++ g)) in
    absurd (let e : true ≡ false = sym none ∙ broken in cc)

few_functions : (p : ProgramText) → IsWellFormed p → length (functions_of p) ≤ 256
unfolding first_breach
few_functions p well =
    let unbroken : ltb 256 (length (functions_of p)) ≡ false = first_unbroken (ltb 256 (length (functions_of p))) _ _ _ _ _ _ _ well in
    grind (arith, nat_tests)

length-resolve_items : (fs : List FunctionText) (turns : ℕ → ℕ) (n : ℕ) (gs : List GlobalVariable) (items : ProgramText) → length (resolve_items fs turns n gs items) ≡ length (functions_of items)
length-resolve_items fs turns n gs [] = refl
length-resolve_items fs turns n gs (global_item g ∷ items) = length-resolve_items fs turns n (gs ++ g ∷ []) items
length-resolve_items fs turns n gs (function_item f ∷ items) = ap suc (length-resolve_items fs turns (n + loops_within f.body) gs items)

pub few_routines : (r : ResolvedTree) (p : ProgramText) → IsResolved r p → IsWellFormed p → length (items_of r.routines) ≤ 256
few_routines r p h well =
    let same : length (items_of r.routines) ≡ length (functions_of p) =
    sym (length-routines_of 0 (items_of r.routines)) ∙ ap (λ (q : Resolved). length q.routines) (h.same unlimited.turns) ∙ length-resolve_items (functions_of p) unlimited.turns 0 [] p in
    let few = few_functions p well in
    omega arith

-- ---- the run

-- an interpreter at the start
pub starts : (m : Interpreter) (r : ResolvedTree) (inputs : List ℕ) → map (λ words. words.items) m.globals.items ≡ map initial_words (map (λ g. global_of g.now) r.globals.items) →
    m.inputs.now ≡ inputs → m.used ≡ 0 → items_of m.outputs ≡ [] → items_of m.marks ≡ [] → state_of m [] ≡ start (resolved_of unlimited.turns r) inputs
starts m r inputs globals ins used outs marks = rw (globals, ins, used, outs, marks)

pub run_agrees : (m : Interpreter) (r : ResolvedTree) (inputs : List ℕ) (jobs : ℕ) → state_of m [] ≡ start (resolved_of unlimited.turns r) inputs →
    mapped outline (resolved_outcome r inputs jobs) ≡ noted_jobs (items_of r.routines) r.job jobs (state_of m [])
run_agrees m r inputs jobs begun = jobs_agree r jobs (start (resolved_of unlimited.turns r) inputs) ∙ ap (noted_jobs (items_of r.routines) r.job jobs) (sym begun)

-- a program does what its resolved form in memory does
pub source-resolved : (r : ResolvedTree) (p : ProgramText) (inputs : List ℕ) (jobs : ℕ) → IsResolved r p → source p inputs jobs ≡ resolved_outcome r inputs jobs
source-resolved r p inputs jobs h = ap (λ q. do_jobs unlimited q jobs (start q inputs)) (sym (h.same unlimited.turns))

functions_noted : (ids : List ℕ) → map (λ (m : MarkedCall). m.function) (map noted ids) ≡ ids
functions_noted [] = refl
functions_noted (n ∷ ids) = ap (λ ns. n ∷ ns) (functions_noted ids)

functions_outlined : (ms : List MarkedCall) → map (λ (m : MarkedCall). m.function) (map (λ (m : MarkedCall). noted m.function) ms) ≡ map (λ (m : MarkedCall). m.function) ms
functions_outlined [] = refl
functions_outlined (m ∷ ms) = ap (λ ns. m.function ∷ ns) (functions_outlined ms)

ends : (m : Interpreter) (run : SourceRun) (s : ProgramState) → outline s ≡ state_of m [] → items_of run.outputs ≡ items_of m.outputs → items_of run.marks ≡ items_of m.marks →
    map items_of (items_of run.globals) ≡ map (λ words. words.items) m.globals.items → run.used ≡ m.used → EndsIn run s
ends m run s is outs marks globals used = record {
  outputs_are = outs ∙ sym (ap (λ (t : ProgramState). t.outputs) is);
  marks_are = marks ∙ sym (functions_noted (items_of m.marks)) ∙ sym (ap (λ (t : ProgramState). map (λ (c : MarkedCall). c.function) t.marks) is) ∙ functions_outlined s.marks;
  globals_are = globals ∙ sym (ap (λ (t : ProgramState). t.globals) is);
  used_is = used ∙ sym (ap (λ (t : ProgramState). t.used) is);
}

pub run_ends : (m : Interpreter) (run : SourceRun) (o : Outcome ProgramState) → mapped outline o ≡ Ok (state_of m []) →
    items_of run.outputs ≡ items_of m.outputs → items_of run.marks ≡ items_of m.marks →
    map items_of (items_of run.globals) ≡ map (λ words. words.items) m.globals.items → run.used ≡ m.used → IsRun run o
run_ends m run (Ok s) is outs marks globals used = ends m run s (let same : outline s ≡ state_of m [] = cc in same) outs marks globals used
run_ends m run (Err line) is outs marks globals used = absurd (cc)

pub run_goes_wrong : (o : Outcome ProgramState) (line : ℕ) → mapped outline o ≡ Err line → o ≡ Err line
run_goes_wrong (Ok s) line is = absurd (cc)
run_goes_wrong (Err at) line is = ap Err (let same : at ≡ line = cc in same)
