-- What the generator knows of a task, as what the templates know of it.
use Rattle.std.specs.Prelude.{ℕ, ◌+◌, slice_index_or, List}
use Rattle.prem_layout.specs.Template.Steps.{Parts}
use Rattle.prem_gen.specs.Term.Numbers.{from_part}
use Rattle.prem_gen.specs.declared.routine.task.Callee.{Callee}
use Rattle.prem_gen.specs.declared.routine.task.Task.{Task}

-- a function that isn't there
abbrev pub absent : ℕ → Callee
absent f = record { frame = 0; link = 1; part = 1 + f }

abbrev pub callee_at : List Callee → ℕ → Callee
callee_at callees f = slice_index_or callees f (absent f)

abbrev pub parts_in : Task → Parts
parts_in t = record {
  target = t.target;
  global = from_part t.first;
  frame = λ f. (callee_at t.callees.now f).frame;
  link = λ f. (callee_at t.callees.now f).link;
  callee = λ f. (callee_at t.callees.now f).part;
}

-- the turns of a counting loop by its number
abbrev pub turns_in : Task → ℕ → ℕ
turns_in t m = slice_index_or t.turns.now m 0
