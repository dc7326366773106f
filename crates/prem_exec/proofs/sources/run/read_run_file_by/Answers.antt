use Rattle.std.specs.Prelude.{Option}
use Rattle.std.proofs.Common.{ap, ◌∙◌, sym, subst}
use Rattle.prem_io.specs.Files.{Files}
use Rattle.prem_tasks.specs.SetOf.{set_of}
use Rattle.prem_set.specs.Run.Names.{KnownNames}
use Rattle.prem_set.specs.Run.Run.{run_of}
use Rattle.prem_set.specs.Run.Views.{IsRun}
use Rattle.prem_answer.proofs.Reading.{made_ok_by}
use Rattle.prem_exec.specs.Sources.Sources.{input_of, names_of, run_limit, run_of_bytes_by}
use Rattle.prem_exec.proofs.Behind.{read_halts}
use Rattle.prem_exec.proofs.Stages.{run_refused}
use Rattle.prem_exec.proofs.SourcesLemmas.Passing.{run_formed}
use Rattle.prem_exec.proofs.sources.run.read_run_file_by.Goals as goal

pub returns-in-Err-clause-input : goal.returns-in-Err-clause-input
returns-in-Err-clause-input g c =
    let how = c.args.telling in
    let name = c.args.name.now in
    let told : Option Files = g.S.Store.files c.args.store.now in
    read_halts how told run_limit name (run_of_bytes_by how (set_of c.args.set.now) name) input_of c.in-Err.halt c.in-Err.ensures.read

pub returns-in-Ok-read_run-clause-input : goal.returns-in-Ok-read_run-clause-input
returns-in-Ok-read_run-clause-input g c =
    let how = c.args.telling in
    let name = c.args.name.now in
    let set = set_of c.args.set.now in
    let bytes = c.in-Ok.bytes.items in
    let input = c.in-Ok-read_run.input in
    let first : IsRun input (run_of bytes c.in_ok-names.names) = subst (λ bs. IsRun input (run_of bs c.in_ok-names.names)) c.deref.ensures.value c.in-Ok-read_run.ensures.exact in
    let read : IsRun input (run_of bytes (names_of set)) = subst (λ (known : KnownNames). IsRun input (run_of bytes known)) c.in_ok-names.ensures first in
    made_ok_by how _ run_limit name (run_of_bytes_by how set name) bytes _ c.in-Ok.ensures.read (run_formed how name (run_of bytes (names_of set)) input read)

pub returns-in-Err-Line-clause-input : goal.returns-in-Err-Line-clause-input
returns-in-Err-Line-clause-input g c =
    let how = c.args.telling in
    let name = c.args.name.now in
    let set = set_of c.args.set.now in
    let bytes = c.in-Ok.bytes.items in
    let read =
    ap (λ (known : KnownNames). run_of bytes known) (sym c.in_ok-names.ensures)
    ∙ ap (λ bs. run_of bs c.in_ok-names.names) (sym c.deref.ensures.value)
    ∙ (rw c.in-Err-Line.field-0-is at c.in-Err-Line.ensures.exact) in
    made_ok_by how _ run_limit name (run_of_bytes_by how set name) bytes _ c.in-Ok.ensures.read
    (run_refused how name (run_of bytes (names_of set)) c.in-Err-Line.n c.in-Err-Line.which _ read c.in_ok-line_form-in-Err-Line.ensures)
