use Rattle.std.specs.List.{flat_map}
use Rattle.std.proofs.Common.{◌≡◌, ◌++◌, map, take}
use Rattle.prem_syntax.specs.Name.{name_bytes}
use Rattle.prem_place.specs.Verdict.Told.{numbered}
use Rattle.prem_build.specs.Tables.Check.{interval_text}
use Rattle.prem_build.proofs.tables.bounds.push_intervals.Given as goal

abbrev pub invariant-loop-fact : goal.invariant-loop-fact
invariant-loop-fact l =
    l.text.items ≡ l.initial.text.items ++ flat_map (interval_text l.task (map name_bytes l.functions)) (map numbered (take l.fact-index l.facts))
