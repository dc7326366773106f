-- Where the stages up to bounds stop, and what stands where they don't.
use Rattle.std.proofs.Common.{◌≡◌, List, Option, None, Some, Result, Ok, Err, refl, ap, sym, ◌∙◌, subst}
use Rattle.prem_plant.specs.declared.layout.PartSize.{PartSize}
use Rattle.prem_plant.specs.Places.{Extent, default_places}
use Rattle.prem_layout.specs.Rules.{LateRule, Refusal, or_else, refused_by, over_tasks, memory_rules, reach_rules, conflict_rules, bound_rules}
use Rattle.prem_prefetch.specs.declared.sizes.coded.CodedTask.{CodedTask}
use Rattle.prem_tasks.specs.Broken.{TaskSet, late_refusal, broken}
use Rattle.prem_tasks.specs.Told.{Told}
use Rattle.prem_tasks.specs.Compiled.{coded_in, parts_in, places_in}
use Rattle.prem_tasks.specs.At.{broken_early, placed_by, placed_broken}
use Rattle.prem_tasks.specs.Stops.{Stop}
use Rattle.prem_stages.proofs.Groups.{late_or}
use Rattle.prem_stages.proofs.Passing.{first_stops, none_passes, same_stop}
use Rattle.prem_compile.specs.Joined.{HasCode}
use Rattle.prem_compile.specs.PlacedStages.Late.{broken_last}
use Rattle.prem_compile.specs.Bounding.{unbounded_at, unbounded}
use Rattle.prem_compile.specs.Judging.{broken_behind_bounds, EndsJudged, EndsJudgedAt}
use Rattle.prem_compile.specs.declared.bounding.Judged.{Judged}

-- ---- at the default places

abbrev memory_rule : TaskSet → Option (Refusal Told)
memory_rule set = late_refusal (refused_by None (memory_rules set.plant (places_in set)))

behind_early : (set : TaskSet) → broken_early set ≡ None → unbounded set ≡ or_else (memory_rule set) (unbounded_at set (places_in set))
behind_early set early = none_passes (broken_early set) (or_else (memory_rule set) (unbounded_at set (places_in set))) early

behind_memory : (set : TaskSet) (tasks : List CodedTask) → HasCode set tasks → refused_by None (memory_rules set.plant (places_in set)) ≡ None → unbounded set ≡ unbounded_at set (places_in set)
behind_memory set tasks h none =
    behind_early set h.early ∙ none_passes (memory_rule set) (unbounded_at set (places_in set)) (ap (λ (x : Option (Refusal LateRule)). late_refusal x) none)

-- ---- the rules behind bounds

four_joined : {R : Type 0} (a b c d : Option (Refusal R)) → or_else a (or_else b (or_else c d)) ≡ or_else (or_else a (or_else b c)) d
four_joined None None c d = refl
four_joined None (Some r) c d = refl
four_joined (Some r) b c d = refl

placed_parts : (set : TaskSet) (places : List Extent) → late_refusal (placed_broken set places) ≡ or_else (unbounded_at set places) (broken_behind_bounds set places)
placed_parts set places =
    let placed = placed_by set places in
    let reach = over_tasks reach_rules placed in
    let conflicts = over_tasks (conflict_rules set.plant) placed in
    let bounds = over_tasks (bound_rules set.plant) placed in
    let last = broken_last set.plant (coded_in set) placed in
    ap (λ (x : Option (Refusal LateRule)). late_refusal x) (four_joined reach conflicts bounds last) ∙ late_or (or_else reach (or_else conflicts bounds)) last

behind_code : (set : TaskSet) (tasks : List CodedTask) → HasCode set tasks → refused_by None (memory_rules set.plant (places_in set)) ≡ None →
    broken set ≡ or_else (unbounded_at set (places_in set)) (broken_behind_bounds set (places_in set))
behind_code set tasks h none =
    h.broken_is
    ∙ ap (λ (x : Option (Refusal LateRule)). late_refusal x) (none_passes (refused_by None (memory_rules set.plant (places_in set))) (placed_broken set (places_in set)) none)
    ∙ placed_parts set (places_in set)

pub judged_default : (set : TaskSet) (tasks : List CodedTask) (parts : List PartSize) (layout : List Extent)
    (result : Result Judged Stop) → HasCode set tasks → parts ≡ parts_in set → layout ≡ default_places parts →
    refused_by None (memory_rules set.plant (default_places parts)) ≡ None → EndsJudgedAt set layout result → EndsJudged set result
judged_default set tasks parts layout result h are laid none ends =
    let kept : refused_by None (memory_rules set.plant (places_in set)) ≡ None = ap (λ (ps : List PartSize). refused_by None (memory_rules set.plant (default_places ps))) (sym are) ∙ none in
    by result (subst (λ (places : List Extent). EndsJudgedAt set places result) (laid ∙ ap default_places are) ends) (behind_memory set tasks h kept) (behind_code set tasks h kept)
  where
    by : (r : Result Judged Stop) → EndsJudgedAt set (places_in set) r → unbounded set ≡ unbounded_at set (places_in set) →
        broken set ≡ or_else (unbounded_at set (places_in set)) (broken_behind_bounds set (places_in set)) → EndsJudged set r
    by (Ok j) made same whole = record {
      bounds = record { lawful = same ∙ made.bounds.lawful; told = made.bounds.told };
      first = made.last ∙ sym (whole ∙ none_passes (unbounded_at set (places_in set)) (broken_behind_bounds set (places_in set)) made.bounds.lawful);
    }
    by (Err stop) stops same whole = record {
      unbounded = same_stop stop _ _ same stops;
      first = first_stops stop (unbounded_at set (places_in set)) (broken_behind_bounds set (places_in set)) (broken set) stops (sym whole);
    }
