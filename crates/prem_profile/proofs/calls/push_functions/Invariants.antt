use Rattle.std.proofs.Common.{◌≡◌, ◌+◌, ◌++◌, map, drop}
use Rattle.prem_profile.specs.Strips.{strip_of}
use Rattle.prem_profile.specs.Calls.{functions_from}
use Rattle.prem_profile.proofs.calls.push_functions.Given as goal

-- what is there, and what is left
abbrev pub invariant-strips : goal.invariant-strips
invariant-strips l = record {
  number : l.number ≡ l.strip-index + 1;
  functions : l.functions.items ++ functions_from l.number (map strip_of (drop l.strip-index l.strips)) ≡ l.initial.functions.items ++ functions_from 1 (map strip_of l.strips);
}
