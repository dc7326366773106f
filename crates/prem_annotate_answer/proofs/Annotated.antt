-- A set is annotated exactly where nothing stands against it.
use Rattle.std.proofs.Common.{◌≡◌, Option, None, Some, refl, ap, ◌∙◌, sym}
use Rattle.prem_layout.specs.Rules.{or_else, over_tasks}
use Rattle.prem_tasks.specs.Broken.{TaskSet, text_rules, program_rules, programs_of, broken}
use Rattle.prem_stages.proofs.Passing.{none_passes}
use Rattle.prem_compile.specs.Bounding.{unbounded}
use Rattle.prem_annotate_answer.specs.Written.{Writer, unlengthened, written, other_ranges, unwritten, unranged, unannotated, IsAnnotated}

pub first_none : {R : Type 0} (a b : Option R) → or_else a b ≡ None → a ≡ None
first_none None b e = refl
first_none (Some r) b e = absurd cc

pub then_none : {R : Type 0} (a b : Option R) → or_else a b ≡ None → b ≡ None
then_none None b e = e
then_none (Some r) b e = absurd cc

pub none_stands : (write : Writer) (set new : TaskSet) → IsAnnotated write set new → unannotated write set ≡ None
none_stands write set new is =
    none_passes (over_tasks text_rules set.tasks) (or_else (over_tasks program_rules (programs_of set.tasks)) (unranged write set)) is.texts_are_read
    ∙ none_passes (over_tasks program_rules (programs_of set.tasks)) (unranged write set) is.programs_are_formed
    ∙ none_passes (over_tasks other_ranges (programs_of set.tasks)) (unwritten write set) is.ranges_are_kept
    ∙ none_passes (unbounded (unlengthened write set)) (broken (written write set)) is.has_bounds ∙ ap broken (sym is.written_is) ∙ is.lawful

pub none_is_annotated : (write : Writer) (set : TaskSet) → unannotated write set ≡ None → IsAnnotated write set (written write set)
none_is_annotated write set none =
    let one = over_tasks text_rules set.tasks in
    let two = over_tasks program_rules (programs_of set.tasks) in
    let three = over_tasks other_ranges (programs_of set.tasks) in
    let from_two = then_none one (or_else two (unranged write set)) none in
    let from_three = then_none two (unranged write set) from_two in
    let from_four = then_none three (unwritten write set) from_three in
    record {
      texts_are_read = first_none one (or_else two (unranged write set)) none;
      programs_are_formed = first_none two (unranged write set) from_two;
      ranges_are_kept = first_none three (unwritten write set) from_three;
      has_bounds = first_none (unbounded (unlengthened write set)) (broken (written write set)) from_four;
      written_is = refl;
      lawful = then_none (unbounded (unlengthened write set)) (broken (written write set)) from_four;
    }
