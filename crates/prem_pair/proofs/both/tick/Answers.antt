use Rattle.std.proofs.Common.{◌≡◌, ℕ, ◌+◌, ◌*◌, length, ap, sym, ◌∙◌, refl, subst, arith, List}
use Rattle.prem_pair.proofs.Prelude.{with_now, Counts, Log, Task, Work, items_of, counts_settled, few_kept, mode_later, same_state, same_tasks, transfers-log_settled, settle_parts}
use Rattle.prem_pair.proofs.Prelude.{CountsWithin, dropped_in, log_in, core_with, over_in, state_of}
use Rattle.prem_pair.proofs.both.tick.Goals as goal

pub settle-requires-clause-ready : goal.settle-requires-clause-ready
settle-requires-clause-ready g c = mode_later c.args.parts.now.now c.args.parts.now.sched c.args.parts.now.moment.mode c.requires.stands.periods c.requires.goes.ready

pub returns-clause-state : goal.returns-clause-state
returns-clause-state g c =
    let old = c.args.parts.now in
    same_state _ _ refl
    (let f : List Task → Work = λ tasks. record { tasks = tasks; cache = old.work.cache; memory = old.work.memory } in
    ap f (same_tasks old.work.cores.items (items_of old.facts.tasks) (items_of c.settle.new.facts.tasks) c.settle.ensures.outputs))
    c.settle.ensures.sched c.settle.ensures.core refl c.settle.ensures.log refl
    ∙ sym (settle_parts (with_now (state_of old) (old.now + 1)))

pub returns-clause-goes : goal.returns-clause-goes
returns-clause-goes g c =
    let old = c.args.parts.now in
    let r = c.requires.goes in
    let over = over_in (old.now + 1) old.core.debt old.moment in
    let counts = ap (λ (l : Log). l.counts) c.settle.ensures.log in
    let e : 4 * old.now + 3 + 1 ≡ 4 * (old.now + 1) = omega arith in
    let Q : ℕ → Type 0 = λ n. CountsWithin n (log_in c.settle.new.facts).counts in
    let R : Counts → Type 0 = λ n. CountsWithin (4 * old.now + 3 + 1) n in
    record {
      ready = c.settle.ensures.ready;
      first = omega (arith, c.settle.ensures.begun);
      counts = subst Q e (subst R (sym counts) (counts_settled (4 * old.now + 3) (old.now + 1) over (core_with old.core.debt old.moment) (log_in old.facts) r.counts));
    }

pub returns-clause-arrives : goal.returns-clause-arrives
returns-clause-arrives g c = λ t h.
    let old = c.args.parts.now in
    let over = over_in (old.now + 1) old.core.debt old.moment in
    let transfers = ap (λ (l : Log). length l.transfers) c.settle.ensures.log ∙ ap length (transfers-log_settled (old.now + 1) over (core_with old.core.debt old.moment) (log_in old.facts)) in
    record {
      arrived = h.arrived;
      few = few_kept old.arrived (items_of old.facts.devices) (items_of c.settle.new.facts.devices) (ap dropped_in c.settle.ensures.devices) h.few;
      pending = omega (arith, h.pending, transfers);
    }
