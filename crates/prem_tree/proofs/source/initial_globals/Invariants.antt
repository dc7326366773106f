use Rattle.std.proofs.Common.{◌≡◌, take, map}
use Rattle.prem_syntax.specs.SyntaxOf.{global_of}
use Rattle.prem_syntax.specs.Source.{initial_words}
use Rattle.prem_tree.proofs.source.initial_globals.Given as goal

abbrev pub invariant-loop-g : goal.invariant-loop-g
invariant-loop-g l = map (λ words. words.items) l.all.items ≡ map initial_words (map (λ g. global_of g.now) (take l.g-index l.globals))
