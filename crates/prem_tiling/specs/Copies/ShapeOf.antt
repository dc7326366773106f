-- Loops in memory.
use Rattle.prem_syntax.specs.SyntaxOf.{loop_names_of, statement_of}
use Rattle.prem_tiling.specs.Shapes.Shape.{Number, Loop}
use Rattle.prem_tiling.specs.declared.copies.shape.Loop.{Loop as LoopTree}
use Rattle.prem_tiling.specs.declared.copies.shape.Number.{Number as NumberTree}

abbrev pub number_in : NumberTree → Number
number_in n = record { at = n.at; value = n.value; kind = n.kind }

abbrev pub loop_in : LoopTree → Loop
loop_in l = record {
  at = l.at;
  names = loop_names_of l.names.now;
  low = number_in l.low;
  closed = l.closed;
  high = number_in l.high;
  step = l.step;
  body = statement_of l.body.now;
}
