-- What is due for a job that does nothing, counted by hand from its seven instructions: they cost 11 cycles, and there are
-- seven fetches, a store and a load.
use Rattle.std.proofs.Common.{◌≡◌, ℕ, refl, []}
use Rattle.prem_cycle.proofs.Prelude.{cycles_of, steps_of, run_alone, lone_issued, finish_of, TaskRun, plain_start, plain_steps, plain_run, plain_trace, to_front}
use Rattle.prem_cycle.proofs.Images.{bytes_in, nothing, plant, task}

abbrev run : ℕ → TaskRun
run jobs = run_alone (plant 64) (task 1000 jobs 0 48) (bytes_in nothing) []

abbrev due : (jobs instructions : ℕ) → ℕ
due jobs n = finish_of (plant 64) (task 1000 jobs 0 48) (plain_trace (run jobs) n (plain_start (run jobs)))

-- the switch, the cost, and nine times a fill and a write back
one_job : due 1 7 ≡ 211
unfolding plain_trace plain_steps
one_job = refl

-- the second job is released at cycle 1000
two_jobs : due 2 14 ≡ 1422
unfolding plain_trace plain_steps
two_jobs = refl

seven_end_it : (plain_run (run 1) 7).ended ≡ 1
unfolding plain_steps
seven_end_it = refl

six_do_not : (plain_run (run 1) 6).ended ≡ 0
unfolding plain_steps
six_do_not = refl

-- the last of them issues in cycle 60, and in cycle 44 three have issued
all_issued : lone_issued to_front (plant 64) (task 1000 1 0 48) (bytes_in nothing) [] 61 ≡ 7
unfolding steps_of cycles_of
all_issued = refl

not_all_issued : lone_issued to_front (plant 64) (task 1000 1 0 48) (bytes_in nothing) [] 60 ≡ 6
unfolding steps_of cycles_of
not_all_issued = refl

three_issued : lone_issued to_front (plant 64) (task 1000 1 0 48) (bytes_in nothing) [] 45 ≡ 3
unfolding steps_of cycles_of
three_issued = refl
