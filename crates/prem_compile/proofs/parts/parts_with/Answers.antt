use Rattle.std.proofs.Common.{refl}
use Rattle.prem_tasks.specs.SetOf.{set_of}
use Rattle.prem_compile.proofs.Pushing.{coded_stand, parts_told}
use Rattle.prem_compile.proofs.parts.parts_with.Goals as goal

pub wants_of-requires-clause-there : goal.wants_of-requires-clause-there
wants_of-requires-clause-there c =
    coded_stand (set_of c.args.set.now) c.args.tasks.now c.requires.code c.args.parts.sizes.items c.deref.result.now c.requires.named.sizes c.deref.ensures.value

pub returns : goal.returns
returns c =
    parts_told (set_of c.args.set.now) c.args.tasks.now c.requires.code c.args.parts c.deref.result.now
    (record { sizes = c.from_vec.result; names = c.args.parts.names; wants = c.in_ok-wants.wants })
    c.requires.named c.requires.may c.deref.ensures.value c.from_vec.ensures refl c.in_ok-wants.ensures
