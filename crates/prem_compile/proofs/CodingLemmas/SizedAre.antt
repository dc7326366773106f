-- The parts of a set's tasks in memory are those of the set.
use Rattle.std.specs.List.{AllByRecursion}
use Rattle.std.proofs.Common.{◌≡◌, List, Result, Ok, Err, IfOk, Vec, Global, ap, sym, ◌∙◌, subst}
use Rattle.prem_plant.specs.declared.plant.Plant.{Plant}
use Rattle.prem_plant.specs.declared.plant.Device.{Device}
use Rattle.prem_plant.specs.declared.layout.PartSize.{PartSize}
use Rattle.prem_layout.specs.Placed.{Coded, parts_of}
use Rattle.prem_prefetch.specs.declared.sizes.coded.CodedTask.{CodedTask}
use Rattle.prem_prefetch.specs.Sizes.Sizes.{AreCodesOf, MayHaveParts, parts_in}
use Rattle.prem_prefetch.proofs.SizesLemmas.Programs.{sets_may_have_parts}
use Rattle.prem_prefetch.proofs.SizesLemmas.PartsOf.{parts_are_exact}
use Rattle.prem_tasks.specs.Broken.{TaskSet, programs_of}
use Rattle.prem_tasks.specs.Compiled.{parts_in as parts_of_set}
use Rattle.prem_compile.specs.Joined.{HasCode}

module _ (set : TaskSet) (tasks : List CodedTask) (h : HasCode set tasks) where
  pub may_have_parts : AllByRecursion MayHaveParts tasks
  may_have_parts =
      sets_may_have_parts tasks (programs_of set.tasks) h.tasks_are.each (subst (λ (cs : List Coded). AreCodesOf (programs_of set.tasks) cs) (sym h.tasks_are.same) h.codes_are)

  pub parts_told : {E : Type 0} (plant : Plant) (devices : List Device) (result : Result (Vec PartSize Global) E) → plant ≡ set.plant → devices ≡ set.devices →
      IfOk result (λ parts. parts.items ≡ parts_in plant devices tasks) → IfOk result (λ parts. parts.items ≡ parts_of_set set)
  parts_told plant devices (Err e) ep ed told = tt
  parts_told plant devices (Ok parts) ep ed told =
      told ∙ ap (λ (p : Plant). parts_in p devices tasks) ep ∙ ap (λ (ds : List Device). parts_in set.plant ds tasks) ed
      ∙ parts_are_exact set.plant set.devices tasks h.tasks_are.each ∙ ap (λ (cs : List Coded). parts_of set.plant set.devices cs) h.tasks_are.same
