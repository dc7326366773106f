-- How far a machine is ahead of what is booked of its run, by instructions that it has told of.
use Rattle.std.specs.Prelude.{◌≡◌, ◌≤◌, ℕ, ◌+◌, List, drop, length}
use Rattle.prem_list.specs.Sequence.{items_of}
use Rattle.prem_gate.specs.declared.request.RunInput.{RunInput}
use Rattle.prem_image.specs.declared.image.Image.{Image}
use Rattle.prem_cycle.specs.State.{MachineState, rule_in}
use Rattle.prem_cycle.specs.Inputs.{image_run, setup_of}
use Rattle.prem_cycle.specs.Run.{cycles_of}
use Rattle.prem_machine.specs.Execution.{AreExecutions, cycles_in}
use Rattle.prem_machine.specs.States.{Running, requests_in, setup_in, state_of}
use Rattle.prem_machine.specs.declared.execution.Execution.{Execution}
use Rattle.prem_profile.specs.declared.ahead.Ahead.{Ahead}
use Rattle.prem_profile.specs.declared.cost.Cost.{Cost}

-- the run of an image behind so many cycles
abbrev pub run_after : Image → RunInput → ℕ → MachineState
run_after image input n = cycles_of (rule_in (setup_of image)) (setup_of image) (items_of input.requests) n (image_run (rule_in (setup_of image)) image input 0)

-- what an instruction that is told costs
abbrev pub execution_cost : Execution → Cost
execution_cost x = record { instructions = 1; cycles = x.cycles; misses = x.misses; backs = x.backs }

-- of a run that is booked up to a cycle, the machine has gone on by these instructions, and not past the limit
pub record IsAheadBy (image : Image) (input : RunInput) (at limit : ℕ) (m : Running) (executions : List Execution) : Type 0 where
  pub setup : setup_in m ≡ setup_of image
  pub requests : requests_in m ≡ items_of input.requests
  pub state : state_of m ≡ run_after image input (at + cycles_in executions)
  pub within : at + cycles_in executions ≤ limit
  pub told : AreExecutions (rule_in (setup_of image)) (setup_of image) (items_of input.requests) executions (run_after image input at)

pub record IsAhead (image : Image) (input : RunInput) (at limit : ℕ) (m : Running) (a : Ahead) : Type 0 where
  pub some : a.booked ≤ length a.told.items
  pub rest : IsAheadBy image input at limit m (drop a.booked a.told.items)
