-- The slots of a function in memory.
use Rattle.std.proofs.Common.{◌≡◌, ℕ, arith, map, length}
use Rattle.std.proofs.lemmas.List.{length-map}
use Rattle.prem_list.specs.Sequence.{items_of}
use Rattle.prem_syntax.specs.SyntaxOf.{parameter_of}
use Rattle.prem_syntax.specs.Resolved.{Done}
use Rattle.prem_tree.specs.declared.resolve.resolved.Routine.{Routine}
use Rattle.prem_tree.specs.Resolve.ResolvedOf.{term_of, routine_of, step_before}
use Rattle.prem_layout.specs.Template.Frames.{counters_in, slots_of}
use Rattle.prem_gen.specs.Routine.StepCode.{whiles_of}
use Rattle.prem_gen.specs.Routine.FrameOf.{slots_in}
use Rattle.prem_gen.proofs.RoutineLemmas.Before.{counters_before}

-- that of the function for which it stands
pub slots_are : (turns : ℕ → ℕ) (m : ℕ) (r : Routine) → slots_of (routine_of turns m r) ≡ slots_in r
slots_are turns m r =
    let whiles : counters_in (step_before turns m r.body Done) ≡ whiles_of r.body = omega (arith, counters_before turns m r.body Done) in
    let params : length (map parameter_of (items_of r.text.now.params)) ≡ length (items_of r.text.now.params) = length-map (items_of r.text.now.params) parameter_of in
    let locals : length (map term_of (items_of r.locals)) ≡ length (items_of r.locals) = length-map (items_of r.locals) term_of in
    omega (arith, whiles, params, locals)
