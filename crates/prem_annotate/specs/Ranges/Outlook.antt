-- What is found of a function: the ranges of its parameters, and what is seen of it.
use Rattle.prem_annotate.specs.Prelude.{with_parameters, touches_of, calls_of, Routine, Parameter, ℤ, List, map, Option}
use Rattle.prem_annotate.specs.Ranges.Slots.{ParameterRange, with_slots}
use Rattle.prem_annotate.specs.Seeing.Sight.{Sight, sight_of}
use Rattle.prem_annotate.specs.Seeing.Walk.{passed}
use Rattle.prem_annotate.specs.declared.ranges.outlook.Outlook.{Outlook as OutlookTree}

pub record Outlook : Type 0 where
  pub ranges : List (Option (ℤ × ℤ))
  pub sight : Sight

abbrev pub outlook_of : OutlookTree → Outlook
outlook_of o = record { ranges = o.ranges.items; sight = sight_of o.sight }

abbrev pub ranges_of : List Parameter → List (Option (ℤ × ℤ))
ranges_of ps = map (λ (p : Parameter). p.range) ps

-- of a function that has its ranges: its accesses, and the arguments of its calls
abbrev pub outlook : Routine → Outlook
outlook f = record { ranges = ranges_of f.text.params; sight = record { touches = touches_of f; arguments = passed (calls_of f) } }

-- of a function whose parameters are given so much
abbrev pub outlook_with : List ParameterRange → Routine → Outlook
outlook_with row f = outlook (with_parameters (with_slots row f.text.params) f)
