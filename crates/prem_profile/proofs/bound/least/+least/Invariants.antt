use Rattle.std.proofs.Common.{◌≡◌, ◌+◌, ◌*◌, ◌++◌, drop}
use Rattle.prem_wcet.specs.Fitting.{FitsAt}
use Rattle.prem_wcet.specs.PartsOf.{part_of, parts_of}
use Rattle.prem_wcet.specs.SceneOf.{scene_in}
use Rattle.prem_wcet.proofs.PartRows.{count}
use Rattle.prem_profile.specs.Bound.Statements.{apart_bill}
use Rattle.prem_profile.specs.Bound.Memory.{EndsAt, calls_of}
use Rattle.prem_profile.proofs.bound.least.+least.Given as goal

abbrev pub decreases-by_choice : goal.decreases-by_choice
decreases-by_choice l = 4 * (count (parts_of l.taken.now) + count (parts_of l.other.now)) + 3

abbrev pub decreases-by_turns : goal.decreases-by_turns
decreases-by_turns l = 4 * count (parts_of l.body.now) + 3

abbrev pub decreases-by_parts : goal.decreases-by_parts
decreases-by_parts l = 4 * count (part_of l.part.now)

abbrev pub decreases-apart : goal.decreases-apart
decreases-apart l = 4 * count (parts_of l.parts.now) + 1

abbrev pub decreases-least : goal.decreases-least
decreases-least l = 4 * count (parts_of l.parts.now) + 2

-- what is there, and the bills of the rest, which stands behind it
abbrev pub invariant-apart-loop-n : goal.invariant-apart-loop-n
invariant-apart-loop-n l =
    record {
      rest : l.bill.items ++ apart_bill (scene_in l.scene) (calls_of l.known) l.place (parts_of (drop l.n l.parts)) ≡ apart_bill (scene_in l.scene) (calls_of l.known) l.at (parts_of l.parts);
      fits : FitsAt l.place (parts_of (drop l.n l.parts));
      ends : EndsAt l.place (parts_of (drop l.n l.parts));
    }
