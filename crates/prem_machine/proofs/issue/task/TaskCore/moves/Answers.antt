use Rattle.std.proofs.Common.{◌≡◌, ℕ, subst}
use Rattle.prem_machine.proofs.Prelude.{Task, decode_of, act_of, told_by, Phase, Moves, core_task, Inside, IfSome, slice_index}
use Rattle.prem_machine.proofs.issue.task.TaskCore.moves.Goals as goal

pub returns-clause-outcome : goal.returns-clause-outcome
returns-clause-outcome c =
    let M : Task → Type 0 = λ t. IfSome c.moving_of.result (λ m. (bytes : ℕ) (view : ℕ → ℕ) (phase : Phase) (input : ℕ) →
    told_by view t.pc input (Moves m.rd m.value m.next) ≡ act_of c.args.target bytes view (slice_index t.registers) t.pc phase input (decode_of c.args.word)) in
    subst M c.self.view_is (subst (λ (i : Inside). M (core_task i)) c.self-inside.view_is c.moving_of.ensures.outcome)
