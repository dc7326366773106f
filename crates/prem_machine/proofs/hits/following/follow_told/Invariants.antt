use Rattle.prem_machine.proofs.Following.{HasFollowed, HasTold}
use Rattle.std.specs.Prelude.{◌+◌, ◌-◌, true}
use Rattle.prem_machine.proofs.hits.following.follow_told.Given as goal

abbrev pub invariant-instructions : goal.invariant-instructions
invariant-instructions g l =
    HasFollowed l.initial.mem l.initial.cache l.initial.core l.initial.outputs l.most l.mem l.cache l.core l.outputs l.near l.sum.time l.sum.hits l.sum.stores
    × HasTold true l.initial.mem l.initial.cache l.initial.core l.initial.outputs l.cache l.core l.outputs l.sum l.initial.told.items l.told.items

abbrev pub decreases-instructions : goal.decreases-instructions
decreases-instructions g l = l.most + 21 - l.sum.time
