use Rattle.std.proofs.Common.{◌≤◌, ◌+◌, ℕ, ◌∙◌, ap, arith}
use Rattle.prem_machine.proofs.Prelude.{attempt_in, view_of, takes_word, Plant, number_at, nat_tests}
use Rattle.prem_machine.proofs.Wanting.{takes_told}
use Rattle.prem_machine.proofs.issue.task.TaskCore.takes_word.Goals as goal

pub returns : goal.returns
returns g c =
    let t = c.args.self.now in
    let plant : Plant = c.plant-plant.result in
    let view : ℕ → ℕ = view_of c.args.cache.now c.args.mem.now in
    let within : t.pc + 4 ≤ plant.memory =
    (let past = c.if-from.false in let one = c.from.ensures in let other = c.from-2.ensures in let same = c.pc-pc.ensures.same in grind (arith, nat_tests)) in
    c.is_taking.ensures
    ∙ takes_told plant.target plant.memory view t c.peek-word.result c.coming.result within
    (c.peek-word.ensures.number ∙ ap (λ n. number_at view n 4) c.pc-pc.ensures.same) c.coming.ensures.outcome
    ∙ ap (λ (p : Plant). takes_word (attempt_in p.target p.memory view t)) c.plant-plant.ensures.same
