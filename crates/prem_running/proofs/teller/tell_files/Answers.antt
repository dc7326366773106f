use Rattle.std.specs.Prelude.{Option, Err}
use Rattle.std.proofs.Common.{refl}
use Rattle.prem_io.specs.Files.{Files}
use Rattle.prem_tasks.specs.SetOf.{set_of}
use Rattle.prem_answer.specs.declared.answer.Telling.TheVariants.{Whole}
use Rattle.prem_answer.proofs.Reading.{given_at_once}
use Rattle.prem_exec.specs.Sources.Sources.{input_of, reading_set, run_limit, run_of_bytes}
use Rattle.prem_exec.proofs.Behind.{file_goes, file_halts, pass_goes, pass_halts}
use Rattle.prem_running.specs.Tellings.{set_reply}
use Rattle.prem_running.proofs.Tellings.{behind_run, behind_set}
use Rattle.prem_running.proofs.teller.tell_files.Goals as goal

pub tell_set-requires-clause-suits : goal.tell_set-requires-clause-suits
tell_set-requires-clause-suits g c = c.requires (set_of c.in-Ok.set)

pub returns-in-Err-clause-answer : goal.returns-in-Err-clause-answer
returns-in-Err-clause-answer g c =
    let told : Option Files = g.S.Store.files c.args.store.now in
    pass_halts told (reading_set c.args.name.now) (behind_set (g.T.Teller.told c.args.teller.now) c.args.run.now) set_of c.in-Err.halt c.in-Err.ensures.set

pub returns-in-Err-read_run_file-clause-answer : goal.returns-in-Err-read_run_file-clause-answer
returns-in-Err-read_run_file-clause-answer g c =
    let tells = g.T.Teller.told c.args.teller.now in
    let run = c.args.run.now in
    let set = set_of c.in-Ok.set in
    let told : Option Files = g.S.Store.files c.args.store.now in
    let later : Option Files = g.S.Store.files c.read_task_set.new.store in
    let halt = c.in-Err-read_run_file.halt in
    pass_goes told (reading_set c.args.name.now) (behind_set tells run) later set (Err halt) c.in-Ok.ensures.same c.in-Ok.ensures.set
    (file_halts Whole later run_limit run (run_of_bytes set run) (behind_run tells set) input_of halt c.in-Err-read_run_file.ensures.input)

pub returns-clause-answer : goal.returns-clause-answer
returns-clause-answer g c =
    let tells = g.T.Teller.told c.args.teller.now in
    let run = c.args.run.now in
    let set = set_of c.in-Ok.set in
    let input = input_of c.in-Ok-read_run_file.input in
    let told : Option Files = g.S.Store.files c.args.store.now in
    let later : Option Files = g.S.Store.files c.read_task_set.new.store in
    let result = c.tell_set.result in
    pass_goes told (reading_set c.args.name.now) (behind_set tells run) later set result c.in-Ok.ensures.same c.in-Ok.ensures.set
    (file_goes Whole later run_limit run (run_of_bytes set run) (behind_run tells set) later input result refl c.in-Ok-read_run_file.ensures.input
    (given_at_once later (set_reply tells set input) result c.tell_set.ensures.answer))
