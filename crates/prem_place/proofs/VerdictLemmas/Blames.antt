-- Tasks that are blamed.
use Rattle.std.proofs.Common.{◌≡◌, ℕ, ◌<◌, List, Option, Some, ap, ◌∙◌, arith, length, map, drop, get_or}
use Rattle.prem_syntax.specs.Syntax.{Text}
use Rattle.prem_layout.specs.Placed.{Placed, name_at}
use Rattle.prem_layout.specs.Rules.{LateRule, Refusal, first_among}
use Rattle.prem_place.specs.Placed.PlacedOf.{coded_of, placed_of, routines_of}
use Rattle.prem_place.specs.Verdict.Told.{HasFunction, function_in, rule_of, refusal_of}
use Rattle.prem_place.specs.declared.placed.PlacedTask.{PlacedTask}
use Rattle.prem_place.specs.declared.verdict.verdict.Verdict.{Verdict}
use Rattle.prem_place.proofs.VerdictLemmas.Names.{tasks_long, routines_at, plain_long}
use Rattle.prem_place.proofs.VerdictLemmas.Stages.{stops_at}

abbrev blamed : ℕ → Text → Verdict → Refusal LateRule
blamed n name v = record { task = Some n; rule = rule_of name v }

pub has_function : (tasks : List PlacedTask) (n f : ℕ) (t : PlacedTask) → n < length tasks → t ≡ get_or tasks n t → f < length (routines_of t) → HasFunction (map placed_of tasks) n f
has_function tasks n f t lt is inside = record { task = omega (arith, lt, tasks_long tasks); function = omega (arith, inside, ap length (routines_at tasks n t lt is), plain_long t) }

-- the first task that breaks a rule, with the name of its function
pub blame_is : (check : Placed → Option LateRule) (tasks : List PlacedTask) (n : ℕ) (t : PlacedTask) (v : Verdict) (whole : Option (Refusal LateRule)) → n < length tasks → t ≡ get_or tasks n t →
    check (placed_of t) ≡ Some (rule_of (name_at (coded_of t).program.routines (function_in v)) v) →
    first_among check n (map placed_of (drop n tasks)) ≡ whole → Some (refusal_of (map placed_of tasks) (record { task = n; verdict = v })) ≡ whole
blame_is check tasks n t v whole lt is broken e =
    ap (λ rs. Some (blamed n (name_at rs (function_in v)) v)) (routines_at tasks n t lt is)
    ∙ stops_at check tasks n t (rule_of (name_at (coded_of t).program.routines (function_in v)) v) whole lt is broken e
