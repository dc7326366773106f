-- The stages in which a set is annotated, one after another.
use Rattle.std.proofs.Common.{◌≡◌, ℕ, ◌+◌, List, [], ◌∷◌, None, Result, Ok, map, refl, ap, sym, ◌∙◌, subst, length}
use Rattle.std.proofs.lemmas.List.{length-map}
use Rattle.prem_syntax.specs.Syntax.{ProgramText}
use Rattle.prem_tree.specs.declared.checked.Checked.{Checked}
use Rattle.prem_text.specs.declared.lexing.token.fail.FrontFail.{FrontFail}
use Rattle.prem_text.specs.Texts.{reads}
use Rattle.prem_layout.specs.Rules.{or_else, over_tasks}
use Rattle.prem_place.specs.Verdict.Told.{BoundsTold}
use Rattle.prem_tasks.specs.Broken.{TaskText, TaskSet, text_rules, program_rules, programs_of, broken}
use Rattle.prem_tasks.specs.Stops.{Stop, Stops}
use Rattle.prem_stages.specs.Stages.{checked_text}
use Rattle.prem_stages.specs.Coded.{AreFormed, unformed}
use Rattle.prem_stages.proofs.Groups.{or_joins}
use Rattle.prem_stages.proofs.Passing.{same_stop, first_stops, none_passes}
use Rattle.prem_compile.specs.Bounding.{unbounded, bounds_told}
use Rattle.prem_annotate.specs.Notes.{Notes, no_lengths, program_notes}
use Rattle.prem_annotate_answer.specs.Written.{Writer, written_by, with_text, written_task, written_tasks, with_tasks, unlengthened, length_told, written, other_ranges, unwritten}
use Rattle.prem_annotate_answer.specs.Written.{unranged, unannotated, IsAnnotated}
use Rattle.prem_annotate_answer.specs.Steps.{AreReadAs, AreRanged, programs_notes, all_lengthened, noted_tasks, noted_set}
use Rattle.prem_annotate_answer.proofs.Reading.{tasks_read, as_many_read}
use Rattle.prem_annotate_answer.proofs.Lengthening.{same_notes, lengths_are_in}

-- ---- programs

pub formed_read : (set : TaskSet) (programs : List Checked) → AreFormed set programs → AreReadAs set.tasks (map checked_text programs)
formed_read set programs formed = subst (λ (ps : List ProgramText). AreReadAs set.tasks ps) (sym formed.programs_are) (tasks_read set.tasks formed.texts_are_read)

pub as_many_notes : {A : Type 0} (view : A → List Notes) (set : TaskSet) (programs : List Checked) (all : List A) → AreFormed set programs →
    map view all ≡ map (program_notes no_lengths) (map checked_text programs) → length all ≡ length set.tasks
as_many_notes view set programs all formed are =
    let ps = map checked_text programs in
    sym (length-map all view) ∙ ap length are ∙ length-map ps (program_notes no_lengths) ∙ as_many_read set.tasks ps (formed_read set programs formed)

-- ---- sets with notes

noted_is : (write : Writer) (lengths : ℕ → ℕ → ℕ) (k : ℕ) (ts : List TaskText) (ps : List ProgramText) → AreReadAs ts ps →
    noted_tasks write ts (programs_notes lengths k ps) ≡ written_tasks write lengths k ts
noted_is write lengths k [] ps are = refl
noted_is write lengths k (t ∷ ts) [] are = absurd cc
noted_is write lengths k (t ∷ ts) (p ∷ ps) are =
    let head : reads t.text ≡ Ok p = cc in
    let rest : AreReadAs ts ps = cc in
    ap (λ (r : Result ProgramText FrontFail). with_text (written_by write (lengths k) t.text r) t ∷ noted_tasks write ts (programs_notes lengths (k + 1) ps)) (sym head)
    ∙ ap (λ (more : List TaskText). written_task write (lengths k) t ∷ more) (noted_is write lengths (k + 1) ts ps rest)

pub noted_first : (write : Writer) (set : TaskSet) (programs : List Checked) (notes : List (List Notes)) → AreFormed set programs →
    notes ≡ map (program_notes no_lengths) (map checked_text programs) → noted_set write notes set ≡ unlengthened write set
noted_first write set programs notes formed are =
    let ps = map checked_text programs in
    ap (λ (ns : List (List Notes)). noted_set write ns set) (are ∙ sym (same_notes 0 ps))
    ∙ ap (λ (ts : List TaskText). with_tasks ts set) (noted_is write (λ k. no_lengths) 0 set.tasks ps (formed_read set programs formed))

pub noted_last : (write : Writer) (set : TaskSet) (programs : List Checked) (first : TaskSet) (notes more : List (List Notes))
    (told : List BoundsTold) → AreFormed set programs → notes ≡ map (program_notes no_lengths) (map checked_text programs) →
    first ≡ unlengthened write set → told ≡ bounds_told first → more ≡ all_lengthened (length_told told) 0 notes → noted_set write more set ≡ written write set
noted_last write set programs first notes more told formed are is bounds put =
    let ps = map checked_text programs in
    let lengths = length_told (bounds_told (unlengthened write set)) in
    let same : told ≡ bounds_told (unlengthened write set) = bounds ∙ ap bounds_told is in
    ap (λ (ns : List (List Notes)). noted_set write ns set)
    (put ∙ ap (λ (b : List BoundsTold). all_lengthened (length_told b) 0 notes) same ∙ ap (λ (ns : List (List Notes)). all_lengthened lengths 0 ns) are ∙ lengths_are_in lengths 0 ps)
    ∙ ap (λ (ts : List TaskText). with_tasks ts set) (noted_is write lengths 0 set.tasks ps (formed_read set programs formed))

-- ---- refusals

pub stops_at_programs : (write : Writer) (set : TaskSet) (stop : Stop) → Stops stop (unformed set) → Stops stop (unannotated write set)
stops_at_programs write set stop s =
    first_stops stop (unformed set) (unranged write set) (unannotated write set) s
    (or_joins (over_tasks text_rules set.tasks) (over_tasks program_rules (programs_of set.tasks)) (unranged write set))

behind_programs : (write : Writer) (set : TaskSet) (programs : List Checked) → AreFormed set programs → unannotated write set ≡ unranged write set
behind_programs write set programs formed =
    none_passes (over_tasks text_rules set.tasks) (or_else (over_tasks program_rules (programs_of set.tasks)) (unranged write set)) formed.texts_are_read
    ∙ none_passes (over_tasks program_rules (programs_of set.tasks)) (unranged write set) formed.programs_are_formed

behind_ranges : (write : Writer) (set : TaskSet) (programs : List Checked) → AreFormed set programs → AreRanged set → unannotated write set ≡ unwritten write set
behind_ranges write set programs formed ranged =
    behind_programs write set programs formed ∙ none_passes (over_tasks other_ranges (programs_of set.tasks)) (unwritten write set) ranged

pub are_ranged : (set : TaskSet) (programs : List Checked) → AreFormed set programs → over_tasks other_ranges (map checked_text programs) ≡ None → AreRanged set
are_ranged set programs formed none = ap (λ (ps : List ProgramText). over_tasks other_ranges ps) (sym formed.programs_are) ∙ none

pub stops_at_ranges : (write : Writer) (set : TaskSet) (programs : List Checked) (stop : Stop) → AreFormed set programs →
    Stops stop (over_tasks other_ranges (map checked_text programs)) → Stops stop (unannotated write set)
stops_at_ranges write set programs stop formed s =
    let here : Stops stop (over_tasks other_ranges (programs_of set.tasks)) = same_stop stop _ _ (ap (λ (ps : List ProgramText). over_tasks other_ranges ps) (sym formed.programs_are)) s in
    first_stops stop (over_tasks other_ranges (programs_of set.tasks)) (unwritten write set) (unannotated write set) here (sym (behind_programs write set programs formed))

pub stops_at_bounds : (write : Writer) (set : TaskSet) (programs : List Checked) (first : TaskSet) (stop : Stop) → AreFormed set programs →
    AreRanged set → first ≡ unlengthened write set → Stops stop (unbounded first) → Stops stop (unannotated write set)
stops_at_bounds write set programs first stop formed ranged is s =
    let here : Stops stop (unbounded (unlengthened write set)) = same_stop stop _ _ (ap unbounded (sym is)) s in
    first_stops stop (unbounded (unlengthened write set)) (broken (written write set)) (unannotated write set) here (sym (behind_ranges write set programs formed ranged))

pub stops_at_rules : (write : Writer) (set : TaskSet) (programs : List Checked) (first last : TaskSet) (stop : Stop) → AreFormed set programs →
    AreRanged set → first ≡ unlengthened write set → unbounded first ≡ None → last ≡ written write set →
    Stops stop (broken last) → Stops stop (unannotated write set)
stops_at_rules write set programs first last stop formed ranged first_is none last_is s =
    let here : Stops stop (broken (written write set)) = same_stop stop _ _ (ap broken (sym last_is)) s in
    let passed : unwritten write set ≡ broken (written write set) = none_passes (unbounded (unlengthened write set)) (broken (written write set)) (ap unbounded (sym first_is) ∙ none) in
    same_stop stop _ _ (behind_ranges write set programs formed ranged ∙ passed) here

pub set_is_annotated : (write : Writer) (set : TaskSet) (programs : List Checked) (first last new : TaskSet) → AreFormed set programs →
    AreRanged set → first ≡ unlengthened write set → unbounded first ≡ None → last ≡ written write set →
    new ≡ last → broken last ≡ None → IsAnnotated write set new
set_is_annotated write set programs first last new formed ranged first_is none last_is same lawful = record {
  texts_are_read = formed.texts_are_read;
  programs_are_formed = formed.programs_are_formed;
  ranges_are_kept = ranged;
  has_bounds = ap unbounded (sym first_is) ∙ none;
  written_is = same ∙ last_is;
  lawful = ap broken same ∙ lawful;
}
