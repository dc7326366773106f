use Rattle.std.specs.Prelude.{slice_index}
use Rattle.std.proofs.Common.{◌≡◌, ◌++◌, drop, take, map}
use Rattle.prem_list.specs.Sequence.{items_of}
use Rattle.prem_tree.specs.Resolve.ResolvedOf.{all_loops, resolved_of}
use Rattle.prem_layout.specs.Template.Limits.{excess, excess_among}
use Rattle.prem_layout.specs.Template.Parts.{parts_of, codes_of}
use Rattle.prem_gen.proofs.CodesLemmas.All.{FitBelow, view}
use Rattle.prem_gen.proofs.codes.generator.codes.Given as goal

-- what is there, and the rest
abbrev pub invariant-loop-routine : goal.invariant-loop-routine
invariant-loop-routine l = record {
  number : l.f ≡ l.routine-index;
  turn : l.turn ≡ all_loops (take l.routine-index (items_of l.r.routines));
  codes :
      map view (items_of l.codes) ++ codes_of (parts_of l.target (resolved_of (slice_index l.turns) l.r).routines) (drop l.routine-index (resolved_of (slice_index l.turns) l.r).routines)
      ≡ codes_of (parts_of l.target (resolved_of (slice_index l.turns) l.r).routines) (resolved_of (slice_index l.turns) l.r).routines;
  fits : FitBelow (resolved_of (slice_index l.turns) l.r) l.routine-index;
  excess : excess_among l.routine-index (drop l.routine-index (resolved_of (slice_index l.turns) l.r).routines) ≡ excess (resolved_of (slice_index l.turns) l.r);
}
