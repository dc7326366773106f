use Rattle.std.specs.Io.KnownBytes.{append_known}
use Rattle.std.proofs.Common.{◌≡◌, ◌≤◌, ◌-◌, length, take}
use Rattle.prem_answer.proofs.write.write_all.Given as goal

abbrev pub invariant-loop-at : goal.invariant-loop-at
invariant-loop-at g l = record {
  written : g.K.Sink.bytes l.sink ≡ append_known (g.K.Sink.bytes l.initial.sink) (take l.at l.text);
  within : l.at ≤ length l.text;
  count : g.K.Sink.faults l.initial.sink ≤ g.K.Sink.faults l.sink;
}

abbrev pub decreases-loop-at : goal.decreases-loop-at
decreases-loop-at g l = length l.text - l.at
