use Rattle.std.proofs.Common.{◌≡◌, drop, map, length}
use Rattle.prem_syntax.specs.SyntaxOf.{global_of}
use Rattle.prem_layout.specs.Image.{with_globals}
use Rattle.prem_place.specs.Content.Blocks.{HasGlobals}
use Rattle.prem_place.proofs.content.content.put_globals.Given as goal

abbrev pub invariant-loop-n : goal.invariant-loop-n
invariant-loop-n l =
    record {
      rest : with_globals l.places l.n (map (λ g. global_of g.now) (drop l.n l.globals)) l.content ≡ with_globals l.places 0 (map (λ g. global_of g.now) l.globals) l.fn.content;
      within : HasGlobals (length l.fn.content) l.places l.n (map (λ g. global_of g.now) (drop l.n l.globals));
      long : length l.content ≡ length l.fn.content;
    }
