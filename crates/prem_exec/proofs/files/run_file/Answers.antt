use Rattle.std.specs.Prelude.{Option}
use Rattle.std.proofs.Common.{ap, ◌∙◌, sym, subst}
use Rattle.prem_io.specs.Files.{Files}
use Rattle.prem_image.specs.Text.{image_text}
use Rattle.prem_set.specs.Run.Run.{run_of}
use Rattle.prem_set.specs.Run.Views.{IsRun}
use Rattle.prem_report.specs.Fitting.Named.{names_in}
use Rattle.prem_answer.specs.declared.answer.Telling.TheVariants.{Whole}
use Rattle.prem_answer.proofs.Reading.{made_ok}
use Rattle.prem_exec.specs.Exec.{run_limit, run_of_bytes, input_of}
use Rattle.prem_exec.proofs.Behind.{read_halts}
use Rattle.prem_exec.proofs.Stages.{run_read, run_refused}
use Rattle.prem_exec.proofs.files.run_file.Goals as goal

pub returns-in-Err-clause-input : goal.returns-in-Err-clause-input
returns-in-Err-clause-input g c =
    let name = c.args.name.now in
    let told : Option Files = g.S.Store.files c.args.store.now in
    read_halts Whole told run_limit name (run_of_bytes (image_text c.args.image.now) name) input_of c.in-Err.halt c.in-Err.ensures.read

pub returns-in-Ok-read_run_of-clause-input : goal.returns-in-Ok-read_run_of-clause-input
returns-in-Ok-read_run_of-clause-input g c =
    let name = c.args.name.now in
    let image = c.args.image.now in
    let bytes = c.in-Ok.bytes.items in
    let input = c.in-Ok-read_run_of.input in
    let read : IsRun input (run_of bytes (names_in image)) = subst (λ bs. IsRun input (run_of bs (names_in image))) c.deref.ensures.value c.in-Ok-read_run_of.ensures.exact in
    made_ok _ run_limit name (run_of_bytes (image_text image) name) bytes _ c.in-Ok.ensures.read (run_read name (run_of bytes (names_in image)) input read)

pub returns-in-Err-Line-clause-input : goal.returns-in-Err-Line-clause-input
returns-in-Err-Line-clause-input g c =
    let name = c.args.name.now in
    let image = c.args.image.now in
    let bytes = c.in-Ok.bytes.items in
    let read = ap (λ bs. run_of bs (names_in image)) (sym c.deref.ensures.value) ∙ (rw c.in-Err-Line.field-0-is at c.in-Err-Line.ensures.exact) in
    made_ok _ run_limit name (run_of_bytes (image_text image) name) bytes _ c.in-Ok.ensures.read
    (run_refused Whole name (run_of bytes (names_in image)) c.in-Err-Line.n c.in-Err-Line.which _ read c.in_ok-line_form-in-Err-Line.ensures)
