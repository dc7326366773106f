-- What is told of a set: of each task what its jobs take at most and its marked functions, and the cycle by which all jobs have ended.
use Rattle.std.specs.Prelude.{ℕ, List, [], map, slice_index_or}
use Rattle.prem_plant.specs.declared.plant.Plant.{Plant}
use Rattle.prem_syntax.specs.Syntax.{Text}
use Rattle.prem_sound.specs.Limits.{jobs_limit}
use Rattle.prem_layout.specs.Bounds.{job_bound_of}
use Rattle.prem_layout.specs.Placed.{Placed}
use Rattle.prem_tasks.specs.Broken.{TaskSet}
use Rattle.prem_tasks.specs.Compiled.{placed_in}
use Rattle.prem_sets_sound.specs.ImagePremises.Accepted.{setup_in}
use Rattle.prem_wcet_laws.specs.Wcet.{wcet_of, longest_wcet_of}
use Rattle.prem_wcet.specs.Times.{IntervalText, interval_text}
use Rattle.prem_resp.specs.declared.busy.load.Load.{Load}
use Rattle.prem_resp.specs.Busy.Busy.{load_at}

-- ---- a task

-- its period, what a job takes at most, and its longest stretch or interval with the switch before it
abbrev pub load_of : Plant → Placed → Load
load_of p t = record { period = t.task.period; cost = wcet_of p t.plans t.task.program t.at; longest = longest_wcet_of p t.plans t.task.program t.at }

-- what is told beside these: its name, the rule's bound of its jobs, and its marked functions in the order of the text
pub record TaskTold : Type 0 where
  pub name : Text
  pub bound : ℕ
  pub intervals : List IntervalText

abbrev pub no_told : TaskTold
no_told = record { name = []; bound = 0; intervals = [] }

abbrev pub told_of : Plant → Placed → TaskTold
told_of p t = record { name = t.task.name; bound = job_bound_of p t.plans t.table; intervals = map (interval_text p t) t.plans }

-- ---- a set

abbrev pub loads_in : TaskSet → List Load
loads_in set = map (load_of set.plant) (placed_in set)

abbrev pub tolds_in : TaskSet → List TaskTold
tolds_in set = map (told_of set.plant) (placed_in set)

abbrev pub told_at : TaskSet → ℕ → TaskTold
told_at set i = slice_index_or (tolds_in set) i no_told

-- the last release, and for each task its jobs times what one takes at most
abbrev pub limit_in : TaskSet → ℕ
limit_in set = jobs_limit (setup_in set) (λ k. (load_at (loads_in set) k).cost)
