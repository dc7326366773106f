use Rattle.std.proofs.Common.{◌≡◌, ◌∙◌, sym, map, length}
use Rattle.std.proofs.lemmas.List.{length-map}
use Rattle.prem_place.specs.Verdict.Told.{numbered}
use Rattle.prem_annotate.specs.Notes.{notes_of}
use Rattle.prem_annotate_answer.specs.Steps.{notes_in}
use Rattle.prem_annotate_answer.proofs.Lengthening.{listed_lengths}
use Rattle.prem_annotate_answer.proofs.lengths.lengthened.Goals as goal

pub returns : goal.returns
returns c =
    let xs = map notes_of c.args.notes.items in
    let size : c.len.result ≡ length xs = c.len.ensures ∙ c.args.notes.ok.0 ∙ sym (length-map c.args.notes.items notes_of) in
    listed_lengths (map numbered c.args.facts.now) c.deref.result.now c.len.result xs (notes_in c.in_ok-all.all) (c.deref.ensures.value ∙ c.in_ok-lengths.ensures) size c.in_ok-all.ensures.same
