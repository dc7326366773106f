use Rattle.std.proofs.Common.{◌≡◌, ◌∙◌, refl, ap, sym, List, Vec, Global, map, length}
use Rattle.std.proofs.lemmas.List.{length-map}
use Rattle.prem_place.specs.Verdict.Told.{bounds_of}
use Rattle.prem_tasks.specs.SetOf.{set_of}
use Rattle.prem_annotate.specs.declared.notes.FunctionNotes.{FunctionNotes}
use Rattle.prem_annotate.specs.Writing.Text.{annotated_text}
use Rattle.prem_annotate_answer.specs.Written.{unlengthened, length_told}
use Rattle.prem_annotate_answer.specs.Steps.{notes_in, all_lengthened}
use Rattle.prem_annotate_answer.proofs.Lengthening.{all_count}
use Rattle.prem_annotate_answer.proofs.Stages.{formed_read, as_many_notes, noted_last}
use Rattle.prem_annotate_answer.proofs.set.lengthened_set.Goals as goal

pub noted_set-requires-clause-read : goal.noted_set-requires-clause-read
noted_set-requires-clause-read c = formed_read (set_of c.args.set.now) c.args.programs.now c.requires.formed

pub noted_set-requires-clause-noted : goal.noted_set-requires-clause-noted
noted_set-requires-clause-noted c =
    let old = c.args.notes.items in
    let new = c.in_ok-lengthened.lengthened.items in
    let same : length new ≡ length old = sym (length-map new notes_in) ∙ ap length c.in_ok-lengthened.ensures
    ∙ all_count (length_told (map bounds_of c.args.bounds.now)) 0 (map notes_in old) ∙ length-map old notes_in in
    ap length c.deref.ensures.value ∙ same ∙ as_many_notes notes_in (set_of c.args.set.now) c.args.programs.now old c.requires.formed c.requires.notes

pub returns : goal.returns
returns c =
    let set = set_of c.args.set.now in
    let told = map bounds_of c.args.bounds.now in
    let more = map notes_in c.deref.result.now in
    let put : more ≡ all_lengthened (length_told told) 0 (map notes_in c.args.notes.items) =
    ap (λ (ns : List (Vec FunctionNotes Global)). map notes_in ns) c.deref.ensures.value ∙ c.in_ok-lengthened.ensures in
    c.in_ok-new.ensures
    ∙ noted_last annotated_text set c.args.programs.now (unlengthened annotated_text set) (map notes_in c.args.notes.items) more told c.requires.formed c.requires.notes refl c.requires.bounds put
