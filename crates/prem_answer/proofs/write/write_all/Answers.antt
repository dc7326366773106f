use Rattle.std.specs.Io.KnownBytes.{append_known}
use Rattle.std.proofs.Common.{◌≡◌, length-drop, take, drop, arith}
use Rattle.std.proofs.lemmas.List.{take_rest}
use Rattle.prem_answer.proofs.Written.{written_on}
use Rattle.prem_answer.proofs.write.write_all.Goals as goal

pub loop-at-preserved : goal.loop-at-preserved
loop-at-preserved g c =
    let text = c.args.text.now in
    let at = c.loop-at.at in
    let n = c.in_ok-at.field-0 in
    let step : g.K.Sink.bytes c.write.new.self ≡ append_known (g.K.Sink.bytes c.loop-at.sink) (take n (drop at text)) = simp take_rest at c.in_ok-at.ensures.taken in
    record {
      written = written_on (g.K.Sink.bytes c.args.sink.now) (g.K.Sink.bytes c.loop-at.sink) (g.K.Sink.bytes c.write.new.self) text at n c.loop-at.invariant.written step;
      within = omega (arith, length-drop at text, c.in_ok-at.ensures.most);
      count = omega (arith, c.loop-at.invariant.count, c.in_ok-at.ensures.count);
    }
