use Rattle.std.proofs.Common.{◌≡◌, ℕ, subst}
use Rattle.prem_machine.proofs.Prelude.{Task, decode_of, act_of, told_by, Puts, core_task, Inside, Target, IfSome, slice_index}
use Rattle.prem_machine.proofs.issue.task.TaskCore.puts.Goals as goal

pub returns : goal.returns
returns c =
    let M : Task → Type 0 = λ t. IfSome c.putting_of.result (λ m. (target : Target) (size : ℕ) (view : ℕ → ℕ) (pc : ℕ) (input : ℕ) →
    told_by view pc input (Puts m) ≡ act_of target size view (slice_index t.registers) pc t.phase input (decode_of c.args.word)) in
    record { outcome = subst M c.self.view_is (subst (λ (i : Inside). M (core_task i)) c.self-inside.view_is c.putting_of.ensures.outcome) }
