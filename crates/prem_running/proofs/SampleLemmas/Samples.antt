-- Draws from the seed 7, and lines of the text, computed.
use Rattle.std.specs.Prelude.{codes, decimal}
use Rattle.std.specs.Fmt.{digits}
use Rattle.std.specs.List.{join_by}
use Rattle.std.proofs.Common.{◌≡◌, ℕ, [], ◌∷◌, Some, refl}
use Rattle.prem_gate.specs.declared.request.Request.{Request}
use Rattle.prem_running.specs.Sample.Draws.{next, after, numbers}
use Rattle.prem_running.specs.Sample.Trace.{behind_tasks, requests_from, task_names}
use Rattle.prem_running.specs.Sample.Sample.{outputs_line, sample_line}

first_coefficients : numbers 100 16 7 ≡ 48 ∷ 66 ∷ 40 ∷ 50 ∷ 33 ∷ 84 ∷ 57 ∷ 80 ∷ 7 ∷ 83 ∷ 53 ∷ 16 ∷ 12 ∷ 3 ∷ 51 ∷ 48 ∷ []
unfolding next numbers
first_coefficients = refl

first_words : numbers 200 3 (after 16 7) ≡ 105 ∷ 199 ∷ 71 ∷ []
unfolding next after numbers
first_words = refl

abbrev put : (cycle device line word : ℕ) → Request
put cycle device line word = record { cycle = cycle; device = device; line = line; put = Some word }

-- behind all 704 draws of the tasks
first_requests : requests_from 2 0 (behind_tasks task_names 7) ≡ put 3818 0 1 10685 ∷ put 4241 1 3 29825 ∷ []
unfolding next after requests_from
first_requests = refl

listed : join_by decimal (codes ", ") (1 ∷ 20 ∷ 3 ∷ []) ≡ codes "1, 20, 3"
unfolding digits
listed = refl

-- sums are words
lines : outputs_line (4294967295 ∷ 2 ∷ []) ≡ codes "outputs 2 sum 1\n"
unfolding digits
lines = refl

first_line : sample_line 7 ≡ codes "sample 7 tasks 4\n"
unfolding digits
first_line = refl
