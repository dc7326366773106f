use Rattle.std.proofs.Common.{ap, arith}
use Rattle.std.proofs.lemmas.List.{get_or_default}
use Rattle.prem_resp.specs.declared.busy.load.Load.{Load}
use Rattle.prem_resp.specs.Busy.Busy.{no_load}
use Rattle.prem_resp.proofs.BusyLemmas.Early.{never, late, grows_there, early_there}
use Rattle.prem_resp.proofs.busy.length.busy_length.Goals as goal

pub returns-in-None : goal.returns-in-None
returns-in-None c = never c.args.loads.now c.args.i c.requires.loads c.requires.there c.in-None.ensures

pub returns-then-first-period : goal.returns-then-first-period
returns-then-first-period c =
    let there = ap (λ (x : Load). x.period) (get_or_default c.args.loads.now c.args.i no_load (record { period = 0; cost = 0; longest = 0 }) c.requires.there) in
    late c.args.loads.now c.args.i c.in-Some.first c.requires.loads c.requires.there c.in-Some.ensures (omega (arith, c.if-first-period.true, c.from-period.ensures, there))

pub search-requires-clause-grows : goal.search-requires-clause-grows
search-requires-clause-grows c = grows_there c.args.loads.now c.args.i c.in-Some.first c.requires.loads c.requires.there c.in-Some.ensures

pub search-requires-clause-least : goal.search-requires-clause-least
search-requires-clause-least c = early_there c.args.loads.now c.args.i c.in-Some.first c.requires.loads c.requires.there c.in-Some.ensures
