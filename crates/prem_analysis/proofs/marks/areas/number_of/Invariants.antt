use Rattle.std.proofs.Common.{option_map, ◌≡◌, map, drop}
use Rattle.prem_analysis.proofs.Prelude.{find_named, GlobalVariable, global_of}
use Rattle.prem_syntax.specs.Name.{name_bytes}
use Rattle.prem_analysis.proofs.marks.areas.number_of.Given as goal

abbrev pub invariant-loop-k : goal.invariant-loop-k
invariant-loop-k l =
    option_map (λ found. found.0) (find_named (λ (g : GlobalVariable). g.name) (name_bytes l.name) 0 (map (λ g. global_of g.now) l.globals))
    ≡ option_map (λ found. found.0) (find_named (λ (g : GlobalVariable). g.name) (name_bytes l.name) l.k (map (λ g. global_of g.now) (drop l.k l.globals)))
