-- The stages of the work: a set is read and judged by all rules, and its times are told.
use Rattle.std.specs.Prelude.{ℕ, ◌++◌, ◌&&◌, Bool, List, Option, None, Some, Ok, codes}
use Rattle.prem_layout.specs.Rules.{Refusal}
use Rattle.prem_tasks.specs.Told.{Told}
use Rattle.prem_tasks.specs.Broken.{TaskSet, broken}
use Rattle.prem_syntax.specs.Syntax.{Text}
use Rattle.prem_answer.specs.declared.status.Status.TheVariants.{Done, Refused}
use Rattle.prem_answer.specs.Stages.{Reply, Stage}
use Rattle.prem_answer.specs.Refusal.Texts.{refused_reply}
use Rattle.prem_exec.specs.Sources.Sources.{reading_set}
use Rattle.prem_resp.specs.Fits.{found_in}
use Rattle.prem_resp.specs.Lines.{all_within}
use Rattle.prem_time.specs.Words.{Asked, Distance}
use Rattle.prem_time.specs.Times.{limit_in, loads_in, tolds_in}
use Rattle.prem_time.specs.Devices.{all_held, devices_in, unknown_in}
use Rattle.prem_time.specs.Lines.{time_text}

-- ---- a set

-- all tasks are in time, and the requests of all devices that are named
abbrev pub all_fits : List Distance → TaskSet → Bool
all_fits ds set = all_within (found_in (loads_in set)) && all_held (devices_in set ds)

-- each task with what its jobs take at most, its busy period and its marked functions, each device that is named, and the cycle by which all
-- jobs have ended
abbrev pub set_text : List Distance → TaskSet → List ℕ
set_text ds set = time_text (tolds_in set) (loads_in set) (found_in (loads_in set)) (devices_in set ds) (limit_in set) (all_fits ds set)

-- to a set that has no device of this name
abbrev pub unknown_line : Text → List ℕ
unknown_line name = codes "refused * device " ++ (name ++ codes "\n")

abbrev pub unknown_reply : Text → Reply
unknown_reply name = (Refused, unknown_line name)

-- to a set that breaks no rule and has such a text, by the first device that is named and that it hasn't got
abbrev pub found_reply : Option Text → (text : List ℕ) → Reply
found_reply None text = (Done, text)
found_reply (Some name) text = unknown_reply name

-- to a set whose first broken rule is this, if it breaks one
abbrev pub judged_reply : List Distance → TaskSet → Option (Refusal Told) → Reply
judged_reply ds set None = found_reply (unknown_in ds set.devices) (set_text ds set)
judged_reply ds set (Some refusal) = refused_reply set.tasks refusal

abbrev pub time_reply : List Distance → TaskSet → Reply
time_reply ds set = judged_reply ds set (broken set)

-- the set and its sources are read, and the set is judged
abbrev pub time_stages : Asked → Stage Reply
time_stages asked = reading_set asked.set (λ set reads. Ok (time_reply asked.distances set))
