use Rattle.std.proofs.Common.{ap, map, ◌+◌}
use Rattle.prem_list.specs.Sequence.{items_of}
use Rattle.prem_syntax.specs.Name.{name_bytes}
use Rattle.prem_compile.specs.CompiledOf.{compiled_of}
use Rattle.prem_profile.specs.Lines.Told.{lines_told}
use Rattle.prem_profile.specs.Sets.{strips_of}
use Rattle.prem_profile.specs.Strips.{strip_of}
use Rattle.prem_profile.proofs.Parted.{next_parts}
use Rattle.prem_profile.proofs.strips.strips_of.Goals as goal

pub parts-preserved : goal.parts-preserved
parts-preserved c =
    let tasks = map lines_told c.args.tasks.now in
    let whole = strips_of tasks (compiled_of c.args.compiled.now) in
    record {
      at = ap (λ m. m + 1) c.parts.invariant.at;
      strips =
          next_parts _ tasks c.args.compiled.now.layout c.items-part-items.result.now (items_of c.args.compiled.now.parts) (map name_bytes c.parts.names.now)
          (map name_bytes c.rest_names-names.result.now) c.parts.n c.parts.part-index
          (map strip_of c.parts.strips.items) (map strip_of c.push_part.new.strips.items)
          whole c.first_name.result.now c.part-place.result c.items-part-items.ensures c.parts-test.true c.part-place.ensures.place
          c.first_name.ensures c.rest_names-names.ensures c.in_ok-push_part.ensures c.parts.invariant.strips;
    }
