use Rattle.std.proofs.Common.{◌≡◌, map, drop}
use Rattle.prem_layout.specs.Rules.{first_among, over_tasks}
use Rattle.prem_stages.specs.Stages.{checked_text}
use Rattle.prem_annotate_answer.specs.Written.{other_ranges}
use Rattle.prem_annotate_answer.proofs.others.other_rules.Given as goal

abbrev pub invariant-loop-n : goal.invariant-loop-n
invariant-loop-n l = first_among other_ranges l.n (map checked_text (drop l.n l.programs)) ≡ over_tasks other_ranges (map checked_text l.programs)
