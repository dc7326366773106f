use Rattle.std.proofs.Common.{◌+◌, ap, sym, ◌∙◌, refl, List}
use Rattle.prem_pair.proofs.Prelude.{with_now, MachineState, Task, Work, items_of, mode_later, same_state, same_tasks, settle_parts, state_of}
use Rattle.prem_pair.proofs.both.end_in_place.Goals as goal

pub settle-requires-clause-ready : goal.settle-requires-clause-ready
settle-requires-clause-ready g c = mode_later c.args.parts.now.now c.args.parts.now.sched c.args.parts.now.moment.mode c.requires.stands.periods c.requires.goes.ready

pub returns-clause-state : goal.returns-clause-state
returns-clause-state g c =
    let old = c.args.parts.now in
    same_state _ _ refl
    (let f : List Task → Work = λ tasks. record { tasks = tasks; cache = old.work.cache; memory = old.work.memory } in
    ap f (same_tasks old.work.cores.items (items_of old.facts.tasks) (items_of c.settle.new.facts.tasks) c.settle.ensures.outputs))
    c.settle.ensures.sched c.settle.ensures.core refl c.settle.ensures.log refl
    ∙ sym (ap (λ (s : MachineState). with_now s old.now) (settle_parts (with_now (state_of old) (old.now + 1))))
