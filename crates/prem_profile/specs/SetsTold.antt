-- The lines of the code of a set's tasks, as they are made in memory.
use Rattle.std.specs.Prelude.{List, [], ◌∷◌}
use Rattle.prem_list.specs.Sequence.{items_of}
use Rattle.prem_plant.specs.declared.plant.Target.{Target}
use Rattle.prem_prefetch.specs.declared.sizes.coded.CodedTask.{CodedTask}
use Rattle.prem_tasks.specs.declared.set.TaskText.{TaskText as TaskTree}
use Rattle.prem_profile.specs.Lines.Marks.{mark_lines}
use Rattle.prem_profile.specs.Lines.Tasks.{TaskLines}
use Rattle.prem_profile.specs.Lines.Told.{tables_of}

abbrev pub tables_from : Target → List TaskTree → List CodedTask → List TaskLines
tables_from target [] cs = []
tables_from target (t ∷ ts) [] = []
tables_from target (t ∷ ts) (c ∷ cs) = tables_of target (mark_lines (items_of t.text)) c.program ∷ tables_from target ts cs
