-- The next address of a task of the machine's parts.
use Rattle.std.proofs.Common.{◌≡◌, ◌<◌, ◌≤◌, ℕ, zero, suc, List, [], ◌∷◌, length, refl, arith, get_or}
use Rattle.prem_cycle.specs.declared.facts.TaskFacts.{TaskFacts}
use Rattle.prem_cycle.specs.State.{Task}
use Rattle.prem_machine.specs.Work.{tasks_in}

pub pc_there : (cores : List Task) (facts : List TaskFacts) (k : ℕ) (z d : Task) → k < length cores → k < length facts → (get_or (tasks_in cores facts) k z).pc ≡ (get_or cores k d).pc
pc_there [] facts k z d h j = absurd (omega arith)
pc_there (c ∷ cores) [] k z d h j = absurd (omega arith)
pc_there (c ∷ cores) (f ∷ facts) zero z d h j = refl
pc_there (c ∷ cores) (f ∷ facts) (suc k) z d h j = pc_there cores facts k z d (omega arith) (omega arith)

pub pc_untold : (cores : List Task) (facts : List TaskFacts) (k : ℕ) (z : Task) → length facts ≤ k → (get_or (tasks_in cores facts) k z).pc ≡ z.pc
pc_untold [] facts k z h = refl
pc_untold (c ∷ cores) [] k z h = refl
pc_untold (c ∷ cores) (f ∷ facts) zero z h = absurd (omega arith)
pc_untold (c ∷ cores) (f ∷ facts) (suc k) z h = pc_untold cores facts k z (omega arith)

pub pc_none : (cores : List Task) (facts : List TaskFacts) (k : ℕ) (z : Task) → length cores ≤ k → (get_or (tasks_in cores facts) k z).pc ≡ z.pc
pc_none [] facts k z h = refl
pc_none (c ∷ cores) [] k z h = refl
pc_none (c ∷ cores) (f ∷ facts) zero z h = absurd (omega arith)
pc_none (c ∷ cores) (f ∷ facts) (suc k) z h = pc_none cores facts k z (omega arith)
