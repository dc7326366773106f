use Rattle.std.proofs.Common.{◌≡◌, ◌++◌, ◌-◌}
use Rattle.prem_list.specs.Sequence.{items_of}
use Rattle.prem_running.specs.Sample.Draws.{after, numbers}
use Rattle.prem_running.proofs.sample.draws.Draws.words.Given as goal

-- what is drawn and the draws that are left give the whole
abbrev pub invariant-draws : goal.invariant-draws
invariant-draws l =
    (items_of l.words ++ numbers l.below (l.count - l.counter) l.self.state ≡ numbers l.below l.count l.initial.self.state)
    × (after (l.count - l.counter) l.self.state ≡ after l.count l.initial.self.state)
