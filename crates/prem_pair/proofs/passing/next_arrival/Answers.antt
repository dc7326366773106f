use Rattle.std.proofs.Common.{◌≡◌, ℕ, get_or, sym, subst}
use Rattle.prem_pair.proofs.Prelude.{next_some, IsNextArrival, min}
use Rattle.prem_machine.proofs.Arriving.{no_request}
use Rattle.prem_machine.proofs.Resting.{next_none}
use Rattle.prem_pair.proofs.passing.next_arrival.Goals as goal

pub returns-then-arrived-requests : goal.returns-then-arrived-requests
returns-then-arrived-requests c now h le =
    let rs = c.args.requests.now in
    let e : c.min.result ≡ min c.args.limit (get_or rs c.args.arrived no_request).cycle = c.min.ensures in
    let P : ℕ → Type 0 = λ k. IsNextArrival now c.args.limit rs k in
    subst P (sym e) (next_some now c.args.arrived c.args.limit rs no_request c.requires h le c.if-arrived-requests.true)

pub returns-else-arrived-requests : goal.returns-else-arrived-requests
returns-else-arrived-requests c now h le = next_none now c.args.arrived c.args.limit c.args.requests.now h le c.if-arrived-requests.false
