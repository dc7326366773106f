-- Sets at given places of their parts: the first rule that is broken, and what a set is compiled to there.
use Rattle.std.specs.Prelude.{List, map, Option}
use Rattle.prem_plant.specs.Places.{Extent, AreLawful}
use Rattle.prem_layout.specs.Bounds.{JobBound, limit_of}
use Rattle.prem_layout.specs.Placed.{Coded, Placed, placed_from}
use Rattle.prem_layout.specs.Rules.{LateRule, Refusal, or_else, over_tasks, code_rules}
use Rattle.prem_layout.specs.Broken.{broken_when_placed}
use Rattle.prem_layout.specs.Image.{image_of}
use Rattle.prem_tasks.specs.Told.{Told}
use Rattle.prem_tasks.specs.Broken.{TaskSet, programs_of, text_rules, program_rules, range_rules, late_refusal}
use Rattle.prem_tasks.specs.Compiled.{CompiledText, coded_in, parts_in, part_name, facts_from, job_bounds}

-- ---- the rules

-- registers and frames
abbrev pub code_broken : TaskSet → Option (Refusal LateRule)
code_broken set = over_tasks (λ (c : Coded). code_rules c.program) (coded_in set)

-- the groups up to code generation
abbrev pub broken_early : TaskSet → Option (Refusal Told)
broken_early set =
    or_else (over_tasks text_rules set.tasks)
    (or_else (over_tasks program_rules (programs_of set.tasks))
    (or_else (over_tasks range_rules (programs_of set.tasks)) (late_refusal (code_broken set))))

abbrev pub placed_by : TaskSet → List Extent → List Placed
placed_by set places = placed_from set.plant places (coded_in set)

-- those that look at placed tasks
abbrev pub placed_broken : TaskSet → List Extent → Option (Refusal LateRule)
placed_broken set places = broken_when_placed set.plant (coded_in set) (placed_by set places)

-- all of them: that on memory is no matter of given places
abbrev pub broken_at : TaskSet → List Extent → Option (Refusal Told)
broken_at set places = or_else (broken_early set) (late_refusal (placed_broken set places))

-- ---- the image

abbrev pub compiled_at : TaskSet → List Extent → CompiledText
compiled_at set places = record {
  image = image_of set.plant set.devices places (coded_in set);
  layout = places;
  parts = parts_in set;
  names = map (part_name set.devices (coded_in set)) (parts_in set);
  intervals = facts_from set.plant 0 (placed_by set places);
  jobs = map (λ (j : JobBound). j.bound) (job_bounds set.plant (placed_by set places));
  limit = limit_of (job_bounds set.plant (placed_by set places));
}

-- places that are lawful for the parts of a set
abbrev pub AreLawfulFor : TaskSet → List Extent → Type 0
AreLawfulFor set places = AreLawful set.plant.line set.plant.memory (parts_in set) places
