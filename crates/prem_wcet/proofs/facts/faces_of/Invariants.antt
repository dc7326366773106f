use Rattle.std.specs.List.{AllByRecursion}
use Rattle.std.proofs.Common.{◌≡◌, ◌++◌, drop}
use Rattle.prem_split.specs.Walk.{HasFrame}
use Rattle.prem_wcet.specs.KnownOf.{faces_in}
use Rattle.prem_wcet.proofs.facts.faces_of.Given as goal

-- the faces that are there, and those of the rest
abbrev pub invariant-loop-routine : goal.invariant-loop-routine
invariant-loop-routine l =
    record {
      all : l.faces.items ++ faces_in (drop l.routine-index l.routines) l.rest ≡ faces_in l.routines l.lengths;
      small : AllByRecursion HasFrame (drop l.routine-index l.routines);
    }
