use Rattle.std.proofs.Common.{◌≡◌, ℕ, subst}
use Rattle.prem_machine.proofs.Prelude.{Task, decode_of, act_of, told_by, Phase, Stores, core_task, Inside, Target, IfSome, slice_index}
use Rattle.prem_machine.proofs.issue.task.TaskCore.stores.Goals as goal

pub returns-clause-outcome : goal.returns-clause-outcome
returns-clause-outcome c =
    let M : Task → Type 0 = λ t. IfSome c.storing_of.result (λ m. (target : Target) (view : ℕ → ℕ) (phase : Phase) (input : ℕ) →
    told_by view t.pc input (Stores m.address m.size m.value) ≡ act_of target c.args.size view (slice_index t.registers) t.pc phase input (decode_of c.args.word)) in
    subst M c.self.view_is (subst (λ (i : Inside). M (core_task i)) c.self-inside.view_is c.storing_of.ensures.outcome)
