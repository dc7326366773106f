use Rattle.std.proofs.Common.{ℕ, ◌≤◌, ◌∙◌, ap, sym, subst}
use Rattle.prem_pair.proofs.Prelude.{IsNextChange, CoreWant, behind_from, cycle_behind, pair_of, rest_with, wanted, empty_window, is_first}
use Rattle.prem_pair.proofs.Passes.{rests_until}
use Rattle.prem_pair.proofs.both.Both.rest.Goals as goal

pub cycle_behind-first-requires : goal.cycle_behind-first-requires
cycle_behind-first-requires g c = (c.next_arrival-arrival.ensures c.args.self.now.first.now c.requires.goes.arrives.arrived c.requires.limit).not_before

pub cycle_behind-both-requires : goal.cycle_behind-both-requires
cycle_behind-both-requires g c =
    let now = c.args.self.now.first.now in
    let arrival = c.next_arrival-arrival.ensures now c.requires.goes.arrives.arrived c.requires.limit in
    subst (λ k. now ≤ k) (sym c.cycle_behind-first.ensures) (behind_from now c.next_arrival-arrival.result c.rest_with.result arrival.not_before)

pub next_change-requires-clause-limit : goal.next_change-requires-clause-limit
next_change-requires-clause-limit g c =
    let now = c.args.self.now.first.now in
    let arrival = c.next_arrival-arrival.ensures now c.requires.goes.arrives.arrived c.requires.limit in
    let first = subst (λ k. now ≤ k) (sym c.cycle_behind-first.ensures) (behind_from now c.next_arrival-arrival.result c.rest_with.result arrival.not_before) in
    subst (λ k. now ≤ k) (sym c.cycle_behind-both.ensures) (behind_from now c.cycle_behind-first.result c.rest_with-2.result first)

pub returns-clause-within : goal.returns-clause-within
returns-clause-within g c =
    let x = c.args.self.now in
    let s = pair_of x in
    let now = x.first.now in
    let arrival = c.next_arrival-arrival.result in
    let o = c.rest_with.ensures ∙ ap (λ b. rest_with b s.first) c.is_first.ensures in
    let u = c.rest_with-2.ensures ∙ ap (λ b. rest_with b s.second) c.is_second.ensures in
    let one = c.cycle_behind-first.ensures ∙ ap (cycle_behind now arrival) o in
    let two = c.cycle_behind-both.ensures ∙ ap (λ k. cycle_behind now k c.rest_with-2.result) one
    ∙ ap (λ v. cycle_behind now (cycle_behind now arrival (rest_with (is_first x.holder) s.first)) v) u in
    let P : CoreWant → Type 0 = λ k. IsNextChange now empty_window k x.first.gates c.cycle_behind-both.result c.next_change.result in
    let Q : ℕ → Type 0 = λ m. IsNextChange now empty_window (wanted s) x.first.gates m c.next_change.result in
    (rests_until c.args.requests.now s c.args.limit arrival c.next_change.result (sym c.stays.ensures ∙ c.if-not-stays.false)
    (c.next_arrival-arrival.ensures now c.requires.goes.arrives.arrived c.requires.limit) (subst Q two (subst P c.wanted-want.ensures c.next_change.ensures))).1

pub returns-clause-rests : goal.returns-clause-rests
returns-clause-rests g c = λ lt.
    let x = c.args.self.now in
    let s = pair_of x in
    let now = x.first.now in
    let arrival = c.next_arrival-arrival.result in
    let o = c.rest_with.ensures ∙ ap (λ b. rest_with b s.first) c.is_first.ensures in
    let u = c.rest_with-2.ensures ∙ ap (λ b. rest_with b s.second) c.is_second.ensures in
    let one = c.cycle_behind-first.ensures ∙ ap (cycle_behind now arrival) o in
    let two = c.cycle_behind-both.ensures ∙ ap (λ k. cycle_behind now k c.rest_with-2.result) one
    ∙ ap (λ v. cycle_behind now (cycle_behind now arrival (rest_with (is_first x.holder) s.first)) v) u in
    let P : CoreWant → Type 0 = λ k. IsNextChange now empty_window k x.first.gates c.cycle_behind-both.result c.next_change.result in
    let Q : ℕ → Type 0 = λ m. IsNextChange now empty_window (wanted s) x.first.gates m c.next_change.result in
    (rests_until c.args.requests.now s c.args.limit arrival c.next_change.result (sym c.stays.ensures ∙ c.if-not-stays.false)
    (c.next_arrival-arrival.ensures now c.requires.goes.arrives.arrived c.requires.limit) (subst Q two (subst P c.wanted-want.ensures c.next_change.ensures))).0
