-- Worked sets: the greatest stretches of their tasks, path by path, and their longest intervals, computed.
use Rattle.std.proofs.Common.{◌≡◌, refl, ℕ, List, [], ◌∷◌, map, length}
use Rattle.prem_layout.proofs.Prelude.{Coded, Placed, turning, task_paths, stretch_of, longest_of, default_plant as plant, Plant, codes}
use Rattle.prem_layout.proofs.Rows.{two_tasks}
use Rattle.prem_layout.proofs.Samples.{m_text, m_turns}
use Rattle.prem_layout.proofs.Tasks.{coded, placed}

abbrev stretches : Plant → List Coded → List ℕ
stretches p tasks = map (λ (t : Placed). stretch_of p t.plans t.table) (placed p tasks)

abbrev longests : Plant → List Coded → List ℕ
longests p tasks = map (λ (t : Placed). longest_of p t.plans t.table) (placed p tasks)

abbrev paths : Plant → List Coded → List ℕ
paths p tasks = map (λ (t : Placed). length (task_paths p t.plans t.table)) (placed p tasks)

-- one task with a marked function of one store
abbrev task_m : List Coded
task_m = coded (codes "m") 1000 1 m_text m_turns ∷ []

m_stretch : stretches plant task_m ≡ 233 ∷ []
unfolding turning
m_stretch = refl

m_longest : longests plant task_m ≡ 511 ∷ []
unfolding turning
m_longest = refl

abbrev small_cache : Plant
small_cache = record plant { sets = 16; «ways» = 2 }

two_longest : longests small_cache two_tasks ≡ 511 ∷ 511 ∷ []
unfolding turning
two_longest = refl
