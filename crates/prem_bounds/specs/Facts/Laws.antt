-- What the laws of this crate say.
use Rattle.std.specs.Prelude.{◌≡◌, ℕ, nat_lt, Bool, List, map}
use Rattle.std.specs.Option.{option_map}
use Rattle.prem_plant.specs.declared.plant.Plant.{Plant}
use Rattle.prem_syntax.specs.Resolved.{Routine}
use Rattle.prem_syntax.specs.Statements.{is_marked}
use Rattle.prem_layout.specs.Facts.{IntervalFact, interval_facts}
use Rattle.prem_layout.specs.Footprint.{footprint_of}
use Rattle.prem_layout.specs.Placed.{Placed, name_at}
use Rattle.prem_layout.specs.Rules.{BoundTooLarge, ConflictIn, Length, greatest_bound, large_bound, conflict_rules, length_rules}
use Rattle.prem_bounds.specs.Facts.Large.{first_large}
use Rattle.prem_bounds.specs.Facts.Clashes.{Clash, first_clash}
use Rattle.prem_bounds.specs.Facts.FactOf.{first_short}

abbrev pub is_large : IntervalFact → Bool
is_large f = nat_lt greatest_bound f.bound

-- the rule on bounds is broken by the first function whose bound is too large
abbrev pub LargeIsFirst : Type 0
LargeIsFirst =
    (routines : List Routine) (job bound : ℕ) (facts : List IntervalFact) →
    large_bound job bound 0 facts routines ≡ option_map (λ m. BoundTooLarge (name_at routines m)) (first_large job (nat_lt greatest_bound bound) 0 (map is_large facts) (map is_marked routines))

-- the rule on conflicts, by the first that doesn't fit
abbrev pub ClashIsFirst : Type 0
ClashIsFirst =
    (p : Plant) (t : Placed) →
    conflict_rules p t
    ≡ option_map (λ (c : Clash). ConflictIn (name_at t.task.program.routines c.function) c.conflict.set c.conflict.lines p.«ways») (first_clash p t.plans (map (footprint_of p.line t.at) t.plans))

-- the rule on lengths, by the first that is too short
abbrev pub ShortIsFirst : Type 0
ShortIsFirst =
    (p : Plant) (t : Placed) →
    length_rules p t ≡ option_map (λ (f : IntervalFact). Length (name_at t.task.program.routines f.function) f.bound f.stated) (first_short (interval_facts p t))
