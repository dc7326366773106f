use Rattle.std.proofs.Common.{◌≡◌, ◌≤◌}
use Rattle.std.specs.Vec.Iter.{into_iter_items, into_iter_len}
use Rattle.prem_text.specs.Grammar.Statement.{Around, inside}
use Rattle.prem_reader.specs.Expression.StateOf.{state_of}
use Rattle.prem_reader.specs.Statement.PointOf.{use_of}
use Rattle.prem_front.specs.Taking.{LeadsTo}
use Rattle.prem_front.proofs.program.take_inside.Given as goal

-- what is left reads as all does
abbrev pub invariant-loop-spotted : goal.invariant-loop-spotted
invariant-loop-spotted l = record {
  leads : (around : Around) → LeadsTo (inside (use_of l.initial.reading.purpose) (state_of l.initial.reading.state) l.initial.reading.room around) (into_iter_items l.initial.tokens)
      (inside (use_of l.initial.reading.purpose) (state_of l.reading.state) l.reading.room around) (into_iter_items l.tokens);
  purpose : l.reading.purpose ≡ l.initial.reading.purpose;
  less : into_iter_len l.tokens ≤ into_iter_len l.initial.tokens;
}

abbrev pub decreases-loop-spotted : goal.decreases-loop-spotted
decreases-loop-spotted l = into_iter_len l.tokens
