use Rattle.std.specs.Prelude.{slice_index}
use Rattle.std.proofs.Common.{ap, sym, arith, take, length}
use Rattle.prem_list.specs.Sequence.{items_of}
use Rattle.prem_syntax.specs.SyntaxOf.{program_of}
use Rattle.prem_tree.specs.Resolve.ResolvedOf.{all_loops}
use Rattle.prem_tree.proofs.RunLaws.{few_routines}
use Rattle.prem_gen.proofs.CodesLemmas.Fors.{loops_resolved, routines_count}
use Rattle.prem_gen.proofs.CodesLemmas.Numbered.{loops_before, length_taken}
use Rattle.prem_gen.proofs.CodesLemmas.Sameness.{well_formed_are_small}
use Rattle.prem_gen.proofs.codes.generator.function_code.Goals as goal

pub callees-requires : goal.callees-requires
callees-requires c =
    let few = few_routines c.in_ok-resolved.resolved (program_of c.args.p.now) c.in_ok-resolved.ensures c.requires.formed in
    omega (arith, few, ap length c.items-routines.ensures)

pub slice_bounds-loops_of_all-end : goal.slice_bounds-loops_of_all-end
slice_bounds-loops_of_all-end c =
    let count = routines_count c.in_ok-resolved.resolved (program_of c.args.p.now) c.in_ok-resolved.ensures in
    sym (length_taken c.items-routines.result.now c.args.f (omega (arith, count, ap length c.items-routines.ensures, c.requires.there)))

pub code_at-requires-clause-small : goal.code_at-requires-clause-small
code_at-requires-clause-small c = well_formed_are_small c.in_ok-resolved.resolved (program_of c.args.p.now) c.in_ok-resolved.ensures c.requires.formed (slice_index c.args.turns.now)

pub code_at-requires-clause-few : goal.code_at-requires-clause-few
code_at-requires-clause-few c = few_routines c.in_ok-resolved.resolved (program_of c.args.p.now) c.in_ok-resolved.ensures c.requires.formed

pub code_at-requires-clause-there : goal.code_at-requires-clause-there
code_at-requires-clause-there c =
    let count = routines_count c.in_ok-resolved.resolved (program_of c.args.p.now) c.in_ok-resolved.ensures in
    omega (arith, count, c.requires.there)

pub code_at-requires-clause-turn : goal.code_at-requires-clause-turn
code_at-requires-clause-turn c =
    let rs = items_of c.in_ok-resolved.resolved.routines in
    let loops = loops_resolved c.in_ok-resolved.resolved (program_of c.args.p.now) c.in_ok-resolved.ensures in
    let same = ap (λ ys. all_loops (take c.args.f ys)) c.items-routines.ensures in
    omega (arith, c.loops_of_all-turn.ensures, same, loops_before rs c.args.f, loops, c.requires.loops)

pub code_at-requires-clause-loops : goal.code_at-requires-clause-loops
code_at-requires-clause-loops c =
    let loops = loops_resolved c.in_ok-resolved.resolved (program_of c.args.p.now) c.in_ok-resolved.ensures in
    omega (arith, loops, c.requires.loops)
