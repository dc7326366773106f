-- The rules behind code generation as stages of the compiler.
use Rattle.std.specs.Prelude.{◌≡◌, List, Option, None, Result, MatchResult}
use Rattle.std.specs.Option.{option_map}
use Rattle.std.specs.declared.alloc.Global.{Global}
use Rattle.std.specs.declared.boxed.Box.{Box}
use Rattle.prem_plant.specs.declared.plant.Plant.{Plant}
use Rattle.prem_layout.specs.Placed.{Coded, Placed}
use Rattle.prem_layout.specs.Rules.{LateRule, Refusal, or_else, refused_by, over_tasks, conflict_rules, bound_rules, length_rules, log_rules}
use Rattle.prem_tasks.specs.Broken.{late_refusal}
use Rattle.prem_tasks.specs.Told.{Told, refusal_of}
use Rattle.prem_tasks.specs.Stops.{Stop, Stops}
use Rattle.prem_tasks.specs.declared.rule.Refusal.{Refusal as BrokenRule}

-- a stage ends well exactly where no such rule is broken, but for want of memory
abbrev pub EndsLate : {A : Type 0} → Result A Stop → Option (Refusal LateRule) → Type 0
EndsLate result found = MatchResult result (λ _. found ≡ None) (λ stop. Stops stop (late_refusal found))

-- a refusal in memory as plain data
abbrev pub found_of : Option (Box BrokenRule Global) → Option (Refusal Told)
found_of found = option_map (λ (r : Box BrokenRule Global). refusal_of r.value) found

-- the groups behind bounds
abbrev pub broken_last : Plant → List Coded → List Placed → Option (Refusal LateRule)
broken_last p tasks placed = or_else (over_tasks (length_rules p) placed) (refused_by None (log_rules tasks))

-- the groups behind that on jumps
abbrev pub broken_behind : Plant → List Coded → List Placed → Option (Refusal LateRule)
broken_behind p tasks placed =
    or_else (over_tasks (conflict_rules p) placed)
    (or_else (over_tasks (bound_rules p) placed) (broken_last p tasks placed))
