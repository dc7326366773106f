-- The parts of a set in memory, their names, and what its marked functions want of the cache.
use Rattle.std.specs.Prelude.{◌≡◌, List, map, None, Some, Result, MatchResult}
use Rattle.prem_list.specs.Sequence.{items_of}
use Rattle.prem_syntax.specs.Name.{name_bytes}
use Rattle.prem_prefetch.specs.Sizes.Sizes.{MayHavePlaces}
use Rattle.prem_color.specs.Offsets.{PartRange}
use Rattle.prem_color.specs.Standing.{TasksStand}
use Rattle.prem_color.specs.Wants.{Want, ranges_of, wants_of}
use Rattle.prem_color.specs.WantOf.{want_of}
use Rattle.prem_tasks.specs.Broken.{TaskSet}
use Rattle.prem_tasks.specs.Compiled.{coded_in, parts_in, part_name}
use Rattle.prem_tasks.specs.At.{broken_early}
use Rattle.prem_tasks.specs.Told.{refusal_of}
use Rattle.prem_tasks.specs.Stops.{Stop, Stops}
use Rattle.prem_tasks.specs.declared.fail.CompileFail.{CompileFail}
use Rattle.prem_tasks.specs.declared.fail.CompileFail.TheVariants.{Refused, OutOfMemory}
use Rattle.prem_compile.specs.declared.parts.Parts.{Parts}

-- the wants of a set's marked functions
abbrev pub wants_in : TaskSet → List Want
wants_in set = wants_of (parts_in set) (coded_in set)

-- their ranges alone
abbrev pub ranges_wanted : TaskSet → List (List PartRange)
ranges_wanted set = ranges_of (wants_in set)

-- the parts with their sizes, names and wants; they may have places, and what the wants name is there
pub record AreParts (set : TaskSet) (p : Parts) : Type 0 where
  pub sizes : items_of p.sizes ≡ parts_in set
  pub names : map name_bytes (items_of p.names) ≡ map (part_name set.devices (coded_in set)) (parts_in set)
  pub wants : map want_of (items_of p.wants) ≡ wants_in set
  pub may : MayHavePlaces set.plant.line (parts_in set)
  pub stand : TasksStand (parts_in set) 0 (coded_in set)

-- of a set that breaks no rule up to code generation
pub record HasParts (set : TaskSet) (p : Parts) : Type 0 where
  pub lawful : broken_early set ≡ None
  pub parts : AreParts set p

abbrev pub EndsParts : TaskSet → Result Parts Stop → Type 0
EndsParts set result = MatchResult result (HasParts set) (λ stop. Stops stop (broken_early set))

-- a refusal is the first of these rules that the set breaks; that memory is out tells nothing
abbrev pub IsRefusedEarly : TaskSet → CompileFail → Type 0
IsRefusedEarly set (Refused refusal) = broken_early set ≡ Some (refusal_of refusal)
IsRefusedEarly set OutOfMemory = Unit {0}

abbrev pub IsPartsAnswer : TaskSet → Result Parts CompileFail → Type 0
IsPartsAnswer set result = MatchResult result (HasParts set) (IsRefusedEarly set)
