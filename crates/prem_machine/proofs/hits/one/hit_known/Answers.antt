use Rattle.std.proofs.Common.{◌≡◌, ℕ, ◌/◌, List, ap, sym, ◌∙◌}
use Rattle.prem_machine.proofs.Prelude.{Issued, issued_with, Task, Phase, items_of, touch_of, view_of, rule_of, IsHit, stores_in, with_outputs}
use Rattle.prem_machine.proofs.Finding.{known_hit}
use Rattle.prem_machine.proofs.IssueLemmas.Executed.{with_any_outputs}
use Rattle.prem_machine.proofs.hits.one.hit_known.Goals as goal

hits : (g : _) (c : goal.After-stores_in g) → IsHit c.args.cache.now.plant c.args.mem.now (with_outputs (items_of c.args.outputs.now) c.args.core.now) c.args.cache.now
    (with_outputs (items_of c.advance.new.outputs) c.advance.new.self) c.touch_known-touches.new.cache c.args.cost c.count_of.result c.stores_in.result
    × (c.touch_known-touches.new.mem ≡ c.args.mem.now)
hits g c =
    let x = c.args.cache.now in
    let e = c.args.effect in
    let core = c.args.core.now in
    let touched = c.touch_known-touches in
    let t = with_outputs (items_of c.args.outputs.now) core in
    let I : List Task → ℕ → Issued = λ tasks at. issued_with (rule_of x.plant.policy) x.plant.line tasks e.stored (at / x.plant.line)
    (touch_of (rule_of x.plant.policy) x (at / x.plant.line) c.args.mem.now) e.access in
    known_hit x touched.new.cache c.args.mem.now touched.new.mem t (with_outputs (items_of c.advance.new.outputs) c.advance.new.self) c.args.task.now c.line_of-line.result e
    c.args.cost c.count_of.result c.stores_in.result touched.result
    (with_any_outputs x.plant.target x.plant.memory (view_of x c.args.mem.now) core (items_of c.args.outputs.now) c.args.cost e.access (λ v. e) c.requires.does)
    c.requires.stays c.requires.takes_none (c.line_of-line.ensures.line ∙ ap (λ n. n / x.plant.line) c.pc-pc.ensures.same) (c.are_there.ensures c.if-not-are_there.false)
    (λ tasks. ap (I tasks) (sym c.pc-pc.ensures.same) ∙ touched.ensures.issued tasks)
    c.advance.ensures.task c.count_of.ensures (c.stores_in.ensures ∙ ap (λ (p : Phase). stores_in p e.stored) c.phase-phase.ensures)

pub returns-clause-hit : goal.returns-clause-hit
returns-clause-hit g c = (hits g c).0

pub returns-clause-memory : goal.returns-clause-memory
returns-clause-memory g c = (hits g c).1
