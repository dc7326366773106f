use Rattle.std.specs.Prelude.{Option, Ok, Err}
use Rattle.std.proofs.Common.{ap, ◌∙◌, refl}
use Rattle.prem_io.specs.Files.{Files}
use Rattle.prem_image.specs.Text.{image_text}
use Rattle.prem_command.specs.Words.{run_asked}
use Rattle.prem_answer.specs.declared.answer.Telling.TheVariants.{Whole}
use Rattle.prem_answer.proofs.Reading.{given_at_once}
use Rattle.prem_exec.specs.Exec.{exec_limit, image_limit, image_of_bytes, input_of, run_limit, run_of_bytes, run_reply}
use Rattle.prem_exec.proofs.Behind.{file_goes, file_halts}
use Rattle.prem_exec.proofs.Stages.{behind_image, told_run}
use Rattle.prem_exec.proofs.exec.exec_answer.Goals as goal

pub returns-in-Err-clause-answer : goal.returns-in-Err-clause-answer
returns-in-Err-clause-answer g c =
    let asked = run_asked c.args.asked.now in
    let told : Option Files = g.S.Store.files c.args.store.now in
    file_halts Whole told image_limit asked.of (image_of_bytes asked.of) (behind_image asked) image_text c.in-Err.halt c.in-Err.ensures.image

pub returns-in-Err-run_file-clause-answer : goal.returns-in-Err-run_file-clause-answer
returns-in-Err-run_file-clause-answer g c =
    let asked = run_asked c.args.asked.now in
    let i = image_text c.in-Ok.image in
    let told : Option Files = g.S.Store.files c.args.store.now in
    let later : Option Files = g.S.Store.files c.image_file.new.store in
    let halt = c.in-Err-run_file.halt in
    file_goes Whole told image_limit asked.of (image_of_bytes asked.of) (behind_image asked) later i (Err halt) c.in-Ok.ensures.same c.in-Ok.ensures.image
    (file_halts Whole later run_limit asked.run (run_of_bytes i asked.run) (told_run asked i) input_of halt c.in-Err-run_file.ensures.input)

pub returns-clause-answer : goal.returns-clause-answer
returns-clause-answer g c =
    let asked = run_asked c.args.asked.now in
    let i = image_text c.in-Ok.image in
    let input = input_of c.in-Ok-run_file.input in
    let told : Option Files = g.S.Store.files c.args.store.now in
    let later : Option Files = g.S.Store.files c.image_file.new.store in
    let answer = c.in_ok-run_answer.field-0 in
    let reply = run_reply i input asked.intervals in
    file_goes Whole told image_limit asked.of (image_of_bytes asked.of) (behind_image asked) later i (Ok answer) c.in-Ok.ensures.same c.in-Ok.ensures.image
    (file_goes Whole later run_limit asked.run (run_of_bytes i asked.run) (told_run asked i) later input (Ok answer) refl c.in-Ok-run_file.ensures.input
    (given_at_once later (reply (exec_limit asked.cycles)) (Ok answer) (ap Ok (c.in_ok-run_answer.ensures ∙ ap reply c.exec_limit-limit.ensures.limit))))
