use Rattle.std.specs.List.{flat_map}
use Rattle.std.proofs.Common.{◌≡◌, ◌++◌, map, take}
use Rattle.prem_syntax.specs.SyntaxOf.{function_of}
use Rattle.prem_place.specs.Verdict.Told.{numbered}
use Rattle.prem_lint.specs.Needs.{need_text}
use Rattle.prem_lint.proofs.needs.put_facts.Given as goal

abbrev pub invariant-loop-fact : goal.invariant-loop-fact
invariant-loop-fact l =
    l.text.items ≡ l.initial.text.items ++ flat_map (need_text l.file l.n (map (λ f. function_of f.now) l.functions)) (map numbered (take l.fact-index l.facts))
