use Rattle.std.proofs.Common.{map}
use Rattle.prem_list.specs.Sequence.{items_of}
use Rattle.prem_place.proofs.PlacingLemmas.Placing.{tree_few}
use Rattle.prem_color.specs.WantOf.{want_of}
use Rattle.prem_compile.proofs.Pushing.{plans_there, pushed}
use Rattle.prem_compile.proofs.parts.push_task.Goals as goal

pub shape_of-requires-clause-functions : goal.shape_of-requires-clause-functions
shape_of-requires-clause-functions c = (tree_few c.args.task.now c.requires.task).functions

pub shape_of-requires-clause-globals : goal.shape_of-requires-clause-globals
shape_of-requires-clause-globals c = (tree_few c.args.task.now c.requires.task).globals

pub push_wants-requires-clause-there : goal.push_wants-requires-clause-there
push_wants-requires-clause-there c =
    plans_there c.args.task.now c.requires.task c.in_ok-shape.shape c.items.result.now c.in_ok-shape.ensures.shape c.items.ensures c.args.sizes.now c.args.first c.requires.there

pub returns : goal.returns
returns c =
    pushed c.args.task.now c.requires.task c.in_ok-shape.shape c.items.result.now c.in_ok-shape.ensures.shape c.items.ensures c.args.sizes.now
    c.args.n c.args.first (map want_of (items_of c.args.wants.now)) (map want_of (items_of c.push_wants.new.wants)) c.push_wants.result c.push_wants.ensures
