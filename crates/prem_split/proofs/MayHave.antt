-- Well-formed programs whose frames may be compiled have plans.
use Rattle.std.specs.Int.{next_multiple_of}
use Rattle.std.specs.List.{AllByRecursion}
use Rattle.std.proofs.Common.{◌≡◌, ℕ, ◌+◌, ◌*◌, ◌<◌, ◌≤◌, ◌^◌, Bool, true, false, ltb, List, [], ◌∷◌, ◌++◌, length, refl, ap, sym, ◌∙◌, subst, arith, None, is_none, IsTrue}
use Rattle.std.proofs.lemmas.Bool.Decides.{nat_tests}
use Rattle.std.proofs.lemmas.List.{length-map}
use Rattle.prem_list.specs.Sequence.{items_of}
use Rattle.prem_syntax.specs.declared.rules.Count.TheVariants.{Functions, Globals}
use Rattle.prem_syntax.specs.Syntax.{ProgramText}
use Rattle.prem_syntax.specs.SyntaxOf.{global_of, function_of}
use Rattle.prem_syntax.specs.Rules.{Limit, Breach, first_of}
use Rattle.prem_syntax.specs.Breaches.{if_broken}
use Rattle.prem_syntax.specs.ProgramRules.{first_breach, IsWellFormed}
use Rattle.prem_syntax.specs.Resolved.{Resolved}
use Rattle.prem_syntax.specs.Resolve.{globals_of, resolve}
use Rattle.prem_syntax.specs.Source.{unlimited}
use Rattle.prem_tree.specs.declared.resolve.resolved.Routine.{Routine as RoutineTree}
use Rattle.prem_tree.specs.declared.resolve.resolved.Resolved.{Resolved as ResolvedTree}
use Rattle.prem_tree.specs.Resolve.ResolvedOf.{loops_of, routines_of, resolved_of, IsResolved}
use Rattle.prem_tree.proofs.RunLaws.{few_routines, some_first}
use Rattle.prem_layout.specs.Plans as layout
use Rattle.prem_split.specs.Walk.{HasFrame, counters_of, frame_of as frame_of_tree}
use Rattle.prem_split.specs.PlansWith.{MayHavePlans, plans_in}
use Rattle.prem_split.specs.Texts.{HasSmallFrame, HasFrames, plans_of}
use Rattle.prem_split.proofs.PlansAre.{frame_same, plans_are}

-- the rule on the number of globals is the second of eight lists of breaches
second_unbroken : (test other : Bool) (b c d e f g : List Breach) →
    IsTrue (is_none (first_of (if_broken other None (Limit Functions) ++ if_broken test None (Limit Globals) ++ b ++ c ++ d ++ e ++ f ++ g))) → test ≡ false
second_unbroken false other b c d e f g none = refl
second_unbroken true true b c d e f g none =
    let broken : is_none (first_of (if_broken true None (Limit Functions) ++ if_broken true None (Limit Globals) ++ b ++ c ++ d ++ e ++ f ++ g)) ≡ false =
    some_first (record { at = None; rule = Limit Functions }) (first_of (if_broken true None (Limit Globals) ++ b ++ c ++ d ++ e ++ f ++ g)) in
    absurd (let e : true ≡ false = sym none ∙ broken in cc)
second_unbroken true false b c d e f g none =
    let broken : is_none (first_of (if_broken false None (Limit Functions) ++ if_broken true None (Limit Globals) ++ b ++ c ++ d ++ e ++ f ++ g)) ≡ false =
    some_first (record { at = None; rule = Limit Globals }) (first_of (b ++ c ++ d ++ e ++ f ++ g)) in
    absurd (let e : true ≡ false = sym none ∙ broken in cc)

few_globals : (p : ProgramText) → IsWellFormed p → length (globals_of p) ≤ 256
unfolding first_breach
few_globals p well =
    let unbroken : ltb 256 (length (globals_of p)) ≡ false = second_unbroken (ltb 256 (length (globals_of p))) _ _ _ _ _ _ _ well in
    grind (arith, nat_tests)

-- a frame that may be compiled has few slots
short_frame : (params locals counters : ℕ) → next_multiple_of (4 + 4 * (params + locals + counters)) 16 ≤ 2032 → (params < 2 ^ 32) × (locals < 2 ^ 32) × (counters < 2 ^ 32)
short_frame params locals counters h = (omega arith, omega arith, omega arith)

pub has_frame : (r : RoutineTree) → frame_of_tree r ≤ 2032 → HasFrame r
has_frame r h =
    let s = short_frame (length (function_of r.text.now).params) (length (items_of r.locals)) (counters_of r.body) h in
    record { short = record { params = s.0; locals = s.1; counters = s.2 }; frame = h }

frames_fit : (turns : ℕ → ℕ) (n : ℕ) (rs : List RoutineTree) → AllByRecursion HasSmallFrame (routines_of turns n rs) → AllByRecursion HasFrame rs
frames_fit turns n [] h = tt
frames_fit turns n (r ∷ rs) h = (has_frame r (subst (λ k. k ≤ 2032) (sym (frame_same turns n r)) h.0), frames_fit turns (n + loops_of r.body) rs h.1)

pub few_functions_there : (r : ResolvedTree) (p : ProgramText) → IsResolved r p → IsWellFormed p → length (items_of r.routines) ≤ 256
few_functions_there r p h well = few_routines r p h well

pub few_globals_there : (r : ResolvedTree) (p : ProgramText) → IsResolved r p → IsWellFormed p → length r.globals.items ≤ 256
few_globals_there r p h well =
    let long : length r.globals.items ≡ length (globals_of p) = sym (length-map r.globals.items (λ g. global_of g.now)) ∙ ap (λ (q : Resolved). length q.globals) (h.same unlimited.turns) in
    let few = few_globals p well in
    omega (arith, long, few)

pub may_have_plans : (r : ResolvedTree) (p : ProgramText) → IsResolved r p → IsWellFormed p → HasFrames p → MayHavePlans r
may_have_plans r p h well frames =
    let same : resolved_of unlimited.turns r ≡ resolve unlimited.turns p = h.same unlimited.turns in
    record {
      functions = few_functions_there r p h well;
      globals = few_globals_there r p h well;
      frames = frames_fit unlimited.turns 0 (items_of r.routines) (subst (λ (q : Resolved). AllByRecursion HasSmallFrame q.routines) (sym same) frames);
    }

pub plans_are_by_text : (r : ResolvedTree) (p : ProgramText) → IsResolved r p → plans_in r ≡ plans_of p
plans_are_by_text r p h = plans_are unlimited.turns r ∙ ap layout.plans_of (h.same unlimited.turns)
