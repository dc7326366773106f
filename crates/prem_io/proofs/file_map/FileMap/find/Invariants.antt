use Rattle.std.proofs.Common.{◌≡◌, map, drop}
use Rattle.prem_io.specs.Files.{stored}
use Rattle.prem_io.specs.FileEntry.{file_of}
use Rattle.prem_io.proofs.file_map.FileMap.find.Given as goal

-- the files so far don't have the name
abbrev pub invariant-loop-entry : goal.invariant-loop-entry
invariant-loop-entry l =
    stored (map file_of l.entry-items) l.name ≡ stored (map file_of (drop l.entry-index l.entry-items)) l.name
