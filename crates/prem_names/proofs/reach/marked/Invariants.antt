use Rattle.std.proofs.Common.{◌≡◌, map, take}
use Rattle.prem_syntax.specs.SyntaxOf.{function_of}
use Rattle.prem_syntax.specs.Breaches.{is_marked_text}
use Rattle.prem_names.proofs.reach.marked.Given as goal

abbrev pub invariant-loop-f : goal.invariant-loop-f
invariant-loop-f l = l.set.items ≡ map is_marked_text (map (λ f. function_of f.now) (take l.f-index l.functions))
