use Rattle.std.proofs.Common.{arith, drop}
use Rattle.prem_place.proofs.PlacingLemmas.Placing.{tree_few, plans_may, placed_is, stands_is, placed_task}
use Rattle.prem_place.proofs.placing.place.place_task.Goals as goal

pub of_resolved-requires-clause-functions : goal.of_resolved-requires-clause-functions
of_resolved-requires-clause-functions c = (tree_few c.args.task c.requires.task).functions

pub of_resolved-requires-clause-globals : goal.of_resolved-requires-clause-globals
of_resolved-requires-clause-globals c = (tree_few c.args.task c.requires.task).globals

pub stubs_of-requires-clause-plans : goal.stubs_of-requires-clause-plans
stubs_of-requires-clause-plans c =
    plans_may c.args.p.now c.args.task (drop c.args.first c.args.l.now) c.requires.plant c.requires.task c.requires.lies c.in_ok-places.places c.items.result.now c.in_ok-places.ensures c.items.ensures

pub overflow_cast-job : goal.overflow_cast-job
overflow_cast-job c =
    let few = tree_few c.args.task c.requires.task in
    let functions = few.functions in
    let job = few.job in
    omega (arith, functions, job)

pub returns-clause-same : goal.returns-clause-same
returns-clause-same c =
    placed_is c.args.p.now c.args.task (drop c.args.first c.args.l.now)
    c.requires.plant c.requires.task c.requires.lies c.in_ok-places.places c.items.result.now c.in_ok-stubs.stubs c.in_ok-places.ensures
    c.items.ensures c.in_ok-stubs.ensures

pub returns-clause-placed : goal.returns-clause-placed
returns-clause-placed c =
    placed_task c.args.p.now c.args.task (drop c.args.first c.args.l.now)
    c.requires.plant c.requires.task c.requires.lies c.in_ok-places.places c.items.result.now c.in_ok-stubs.stubs c.in_ok-places.ensures
    c.items.ensures c.in_ok-stubs.ensures

pub returns-clause-stands : goal.returns-clause-stands
returns-clause-stands c =
    stands_is c.args.p.now c.args.task (drop c.args.first c.args.l.now)
    c.requires.plant c.requires.task c.requires.lies c.in_ok-places.places c.items.result.now c.in_ok-stubs.stubs c.in_ok-places.ensures
    c.items.ensures c.in_ok-stubs.ensures
