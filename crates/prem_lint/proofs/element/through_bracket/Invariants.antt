use Rattle.std.proofs.Common.{◌≡◌, ◌++◌, ◌≤◌, take, drop}
use Rattle.prem_lint.specs.Elements.{through}
use Rattle.prem_lint.proofs.element.through_bracket.Given as goal

abbrev pub invariant-loop-n : goal.invariant-loop-n
invariant-loop-n l =
    record {
      same : take l.n l.text ++ through l.depth (drop l.n l.text) ≡ through 0 l.text;
      small : l.depth ≤ l.n;
    }
