use Rattle.std.proofs.Common.{◌-◌, ap, sym, ◌∙◌, subst}
use Rattle.prem_pair.proofs.Prelude.{BusRun, bus_run, CoreWant, SameQueues, quiet_queues, pair_of, wanted, empty_window}
use Rattle.prem_pair.proofs.Passes.{passed_arrives, passed_stands}
use Rattle.prem_pair.proofs.both.Both.pass_turns.Goals as goal

pub returns-clause-stands : goal.returns-clause-stands
returns-clause-stands g c =
    let old = c.args.self.now in
    let n = c.args.at - old.first.now in
    let s = pair_of old in
    let memory = old.first.work.memory in
    let P : BusRun → Type 0 = λ r. SameQueues old.first.gates r.gates in
    let bus = ap (λ (k : CoreWant). bus_run n old.first.now empty_window k old.first.gates memory) (sym c.wanted-want.ensures) ∙ c.pass.ensures.passed memory in
    let same : SameQueues old.first.gates c.pass.new.self = subst P bus (quiet_queues n old.first.now empty_window (wanted s) old.first.gates memory c.requires.quiet) in
    passed_stands c.args.first.now c.args.requests.now old.first c.pass.new.self _ c.requires.stands same

pub returns-clause-arrives : goal.returns-clause-arrives
returns-clause-arrives g c =
    let old = c.args.self.now in
    let n = c.args.at - old.first.now in
    let s = pair_of old in
    let memory = old.first.work.memory in
    let P : BusRun → Type 0 = λ r. SameQueues old.first.gates r.gates in
    let bus = ap (λ (k : CoreWant). bus_run n old.first.now empty_window k old.first.gates memory) (sym c.wanted-want.ensures) ∙ c.pass.ensures.passed memory in
    let same : SameQueues old.first.gates c.pass.new.self = subst P bus (quiet_queues n old.first.now empty_window (wanted s) old.first.gates memory c.requires.quiet) in
    passed_arrives c.args.requests.now old.first c.pass.new.self _ c.args.at c.requires.arrives same c.requires.from c.requires.none

pub returns-clause-free : goal.returns-clause-free
returns-clause-free g c = λ ne.
    let old = c.args.self.now in
    let n = c.args.at - old.first.now in
    let s = pair_of old in
    let memory = old.first.work.memory in
    let P : BusRun → Type 0 = λ r. SameQueues old.first.gates r.gates in
    let bus = ap (λ (k : CoreWant). bus_run n old.first.now empty_window k old.first.gates memory) (sym c.wanted-want.ensures) ∙ c.pass.ensures.passed memory in
    let same : SameQueues old.first.gates c.pass.new.self = subst P bus (quiet_queues n old.first.now empty_window (wanted s) old.first.gates memory c.requires.quiet) in
    same.none (c.requires.free ne)
