-- A set at its default places is billed as it is billed there.
use Rattle.std.proofs.Common.{◌≡◌, List, Option, None, Result, Ok, Err, ap, sym, ◌∙◌, subst}
use Rattle.prem_plant.specs.declared.layout.PartSize.{PartSize}
use Rattle.prem_plant.specs.Places.{Extent, default_places}
use Rattle.prem_layout.specs.Rules.{LateRule, Refusal, refused_by, memory_rules}
use Rattle.prem_prefetch.specs.declared.sizes.coded.CodedTask.{CodedTask}
use Rattle.prem_tasks.specs.Broken.{TaskSet, late_refusal, broken}
use Rattle.prem_tasks.specs.Compiled.{parts_in, places_in}
use Rattle.prem_tasks.specs.At.{broken_at, broken_early, placed_broken}
use Rattle.prem_tasks.specs.Stops.{Stop}
use Rattle.prem_stages.proofs.Passing.{none_passes, same_stop}
use Rattle.prem_compile.specs.Joined.{HasCode}
use Rattle.prem_profile.specs.Bound.Billed.{EndsBilled, EndsBilledAt}
use Rattle.prem_profile.specs.declared.bound.set.BilledSet.{BilledSet}

default_is : (set : TaskSet) (tasks : List CodedTask) → HasCode set tasks → refused_by None (memory_rules set.plant (places_in set)) ≡ None → broken set ≡ broken_at set (places_in set)
default_is set tasks h none =
    h.broken_is
    ∙ ap (λ (x : Option (Refusal LateRule)). late_refusal x) (none_passes (refused_by None (memory_rules set.plant (places_in set))) (placed_broken set (places_in set)) none)
    ∙ sym (none_passes (broken_early set) (late_refusal (placed_broken set (places_in set))) h.early)

pub billed_default : (set : TaskSet) (tasks : List CodedTask) (parts : List PartSize) (layout : List Extent)
    (result : Result BilledSet Stop) → HasCode set tasks → parts ≡ parts_in set → layout ≡ default_places parts →
    refused_by None (memory_rules set.plant (default_places parts)) ≡ None → EndsBilledAt set layout result → EndsBilled set result
billed_default set tasks parts layout result h are laid none ends =
    let kept : refused_by None (memory_rules set.plant (places_in set)) ≡ None = ap (λ (ps : List PartSize). refused_by None (memory_rules set.plant (default_places ps))) (sym are) ∙ none in
    by result (subst (λ (places : List Extent). EndsBilledAt set places result) (laid ∙ ap default_places are) ends) (default_is set tasks h kept)
  where
    by : (r : Result BilledSet Stop) → EndsBilledAt set (places_in set) r → broken set ≡ broken_at set (places_in set) → EndsBilled set r
    by (Ok c) billed same = record { made = record { lawful = same ∙ billed.made.lawful; compiled = billed.made.compiled; bounds = billed.made.bounds }; bill = billed.bill; plant = billed.plant; short = billed.short; few = billed.few }
    by (Err stop) stops same = same_stop stop _ _ same stops
