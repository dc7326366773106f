-- Counts of steps in memory, told up to a limit, where the turns of counting loops are a list.
use Rattle.std.specs.Prelude.{ℕ, ◌+◌, ◌*◌, ◌^◌, min, max, List, [], ◌∷◌, ◌++◌, drop, slice_index, Option, None, Some}
use Rattle.prem_syntax.specs.declared.tree.Mark.{Mark}
use Rattle.prem_tree.specs.declared.resolve.resolved.Step.{Step, Row_of-Step, end_of-Step, more_of-Step}
use Rattle.prem_tree.specs.declared.resolve.resolved.Step.TheVariants.{Block', SetLocal, SetScalar, SetElement, Output, Input, If', For', While', Call}
use Rattle.prem_tree.specs.declared.resolve.resolved.Routine.{Routine}
use Rattle.prem_tree.specs.Resolve.ResolvedOf.{loops_of}

-- a count from 2 ^ 32 on is told as that
abbrev pub clipped : ℕ → ℕ
clipped n = min n (2 ^ 32)

abbrev pub first_turn : List ℕ → ℕ
first_turn turns = slice_index turns 0

-- the greatest count over the paths of a step, where an output and calls count so much
abbrev mutual
  pub most_of_step : (output : ℕ) (calls : ℕ → ℕ) → List ℕ → Step → ℕ
  most_of_step output calls turns (Block' shape body) = most_of_row output calls turns body
  most_of_step output calls turns (SetLocal at number value) = 0
  most_of_step output calls turns (SetScalar at g ty value) = 0
  most_of_step output calls turns (SetElement at g ty index value) = 0
  most_of_step output calls turns (Output at value) = output
  most_of_step output calls turns (Input at number) = 0
  most_of_step output calls turns (If' at condition p taken q other) =
      max (most_of_step output calls turns taken) (most_of_step output calls (drop (loops_of taken) turns) other)
  most_of_step output calls turns (For' at number low closed high step p body) =
      first_turn turns * most_of_step output calls (drop 1 turns) body
  most_of_step output calls turns (While' at most condition p body) = most * most_of_step output calls turns body
  most_of_step output calls turns (Call at target callee arguments) = calls callee

  pub most_of_row : {m : _} → (output : ℕ) (calls : ℕ → ℕ) → List ℕ → Row_of-Step m → ℕ
  most_of_row output calls turns end_of-Step = 0
  most_of_row output calls turns (more_of-Step first rest) =
      most_of_step output calls turns first + most_of_row output calls (drop (loops_of first) turns) rest

abbrev pub most_of_list : (output : ℕ) (calls : ℕ → ℕ) → List ℕ → List Step → ℕ
most_of_list output calls turns [] = 0
most_of_list output calls turns (first ∷ rest) =
    most_of_step output calls turns first + most_of_list output calls (drop (loops_of first) turns) rest

-- ---- functions

abbrev pub mark_if : ℕ → Option Mark → ℕ
mark_if mark None = 0
mark_if mark (Some m) = mark

abbrev pub mark_of : ℕ → Routine → ℕ
mark_of mark f = mark_if mark f.text.now.mark

-- what a call of a function counts
abbrev pub count_of_routine : (output mark : ℕ) → List ℕ → List ℕ → Routine → ℕ
count_of_routine output mark known turns f = clipped (mark_of mark f + clipped (most_of_step output (slice_index known) turns f.body))

-- those of functions, behind those that are known
abbrev pub counts_behind : (output mark : ℕ) → List ℕ → List ℕ → List Routine → List ℕ
counts_behind output mark known turns [] = known
counts_behind output mark known turns (f ∷ fs) =
    counts_behind output mark (known ++ count_of_routine output mark known turns f ∷ []) (drop (loops_of f.body) turns) fs
