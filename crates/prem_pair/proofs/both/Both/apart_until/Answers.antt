use Rattle.prem_pair.proofs.Prelude.{is_new, pair_of, ◌∙◌, ap, sym}
use Rattle.prem_pair.proofs.Owning.{may_stretch}
use Rattle.prem_pair.proofs.both.Both.apart_until.Goals as goal

pub returns-clause-may : goal.returns-clause-may
returns-clause-may g c =
    let x = c.args.self.now in
    may_stretch c.args.requests.now (pair_of x) c.args.limit c.next_arrival.result (sym c.is_gates.ensures ∙ c.if-is_gates.false) (sym c.clashes.ensures ∙ c.if-clashes.false)
    (sym (c.is_new.ensures ∙ ap is_new c.wanted.ensures) ∙ c.if-is_new.false) (sym c.stays.ensures ∙ c.if-not-stays.false)
    (c.next_arrival.ensures x.first.now c.requires.goes.arrives.arrived c.requires.limit)

pub returns-clause-within : goal.returns-clause-within
returns-clause-within g c = (c.next_arrival.ensures c.args.self.now.first.now c.requires.goes.arrives.arrived c.requires.limit).within
