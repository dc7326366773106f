use Rattle.std.proofs.Common.{List, subst}
use Rattle.prem_plant.specs.declared.layout.PartSize.{PartSize}
use Rattle.prem_prefetch.specs.Sizes.Sizes.{MayHavePlaces}
use Rattle.prem_tasks.specs.SetOf.{set_of}
use Rattle.prem_compile.proofs.parts.parts_of_coded.Goals as goal

pub parts_with-requires-clause-may : goal.parts_with-requires-clause-may
parts_with-requires-clause-may c =
    subst (λ (ps : List PartSize). MayHavePlaces (set_of c.args.set.now).plant.line ps) c.in_ok-sizes.ensures.parts c.in_ok-sizes.ensures.may
