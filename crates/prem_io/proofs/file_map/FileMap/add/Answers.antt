use Rattle.std.proofs.Common.{map, rules, arith}
use Rattle.std.proofs.lemmas.Grind.{common_steps}
use Rattle.prem_io.specs.FileEntry.{file_of}
use Rattle.prem_io.proofs.Files.{HasDistinctNames-push}
use Rattle.prem_io.proofs.file_map.FileMap.add.Goals as goal

pub invariant_of-self-2 : goal.invariant_of-self-2
invariant_of-self-2 c =
    let files = map file_of c.self.inside.entries.items in
    HasDistinctNames-push files c.args.name.now c.args.bytes.now (map file_of c.push.new.self.items) c.self.invariant (search rules) (grind (arith, common_steps))

pub returns-clause-distinct : goal.returns-clause-distinct
returns-clause-distinct c = invariant_of-self-2 c
