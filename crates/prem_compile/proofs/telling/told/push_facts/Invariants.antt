use Rattle.std.proofs.Common.{◌≡◌, ◌++◌, take}
use Rattle.prem_list.specs.Sequence.{items_of}
use Rattle.prem_compile.proofs.telling.told.push_facts.Given as goal

abbrev pub invariant-loop-fact : goal.invariant-loop-fact
invariant-loop-fact l = items_of l.intervals ≡ items_of l.initial.intervals ++ take l.fact-index l.facts
