use Rattle.std.specs.Prelude.{Option, Err}
use Rattle.std.proofs.Common.{refl}
use Rattle.prem_io.specs.Files.{Files}
use Rattle.prem_tasks.specs.SetOf.{set_of}
use Rattle.prem_answer.specs.declared.answer.Telling.TheVariants.{Brief}
use Rattle.prem_answer.proofs.Reading.{given_at_once}
use Rattle.prem_exec.specs.Sources.Sources.{input_of, reading_set_by, run_limit, run_of_bytes_by}
use Rattle.prem_exec.proofs.Behind.{file_goes, file_halts, pass_goes, pass_halts}
use Rattle.prem_pair_top.specs.Words.{pair_asked}
use Rattle.prem_pair_top.specs.Stages.{reading_other, sets_reply}
use Rattle.prem_pair_top.proofs.Stages.{behind_input, behind_one, behind_other, behind_two}
use Rattle.prem_pair_top.proofs.answer.pair_answer.Goals as goal

pub returns-in-Err-clause-answer : goal.returns-in-Err-clause-answer
returns-in-Err-clause-answer g c =
    let asked = pair_asked c.args.asked.now in
    let told : Option Files = g.S.Store.files c.args.store.now in
    pass_halts told (reading_set_by Brief asked.set) (behind_one asked) set_of c.in-Err.halt c.in-Err.ensures.set

pub returns-in-Err-read_other_set-clause-answer : goal.returns-in-Err-read_other_set-clause-answer
returns-in-Err-read_other_set-clause-answer g c =
    let asked = pair_asked c.args.asked.now in
    let told : Option Files = g.S.Store.files c.args.store.now in
    let later : Option Files = g.S.Store.files c.read_task_set_by.new.store in
    let one = set_of c.in-Ok.set in
    let halt = c.in-Err-read_other_set.halt in
    pass_goes told (reading_set_by Brief asked.set) (behind_one asked) later one (Err halt) c.in-Ok.ensures.same c.in-Ok.ensures.set
    (pass_halts later (reading_other asked.other_set) (behind_two asked one) set_of halt c.in-Err-read_other_set.ensures.set)

pub returns-in-Err-read_run_file_by-clause-answer : goal.returns-in-Err-read_run_file_by-clause-answer
returns-in-Err-read_run_file_by-clause-answer g c =
    let asked = pair_asked c.args.asked.now in
    let told : Option Files = g.S.Store.files c.args.store.now in
    let later : Option Files = g.S.Store.files c.read_task_set_by.new.store in
    let third : Option Files = g.S.Store.files c.read_other_set.new.store in
    let one = set_of c.in-Ok.set in
    let two = set_of c.in-Ok-read_other_set.set in
    let halt = c.in-Err-read_run_file_by.halt in
    pass_goes told (reading_set_by Brief asked.set) (behind_one asked) later one (Err halt) c.in-Ok.ensures.same c.in-Ok.ensures.set
    (pass_goes later (reading_other asked.other_set) (behind_two asked one) third two (Err halt) c.in-Ok-read_other_set.ensures.same c.in-Ok-read_other_set.ensures.set
    (file_halts Brief third run_limit asked.run (run_of_bytes_by Brief one asked.run) (behind_input asked one two) input_of halt c.in-Err-read_run_file_by.ensures.input))

pub returns-in-Err-read_run_file_by-2-clause-answer : goal.returns-in-Err-read_run_file_by-2-clause-answer
returns-in-Err-read_run_file_by-2-clause-answer g c =
    let asked = pair_asked c.args.asked.now in
    let told : Option Files = g.S.Store.files c.args.store.now in
    let later : Option Files = g.S.Store.files c.read_task_set_by.new.store in
    let third : Option Files = g.S.Store.files c.read_other_set.new.store in
    let last : Option Files = g.S.Store.files c.read_run_file_by.new.store in
    let one = set_of c.in-Ok.set in
    let two = set_of c.in-Ok-read_other_set.set in
    let input = input_of c.in-Ok-read_run_file_by.input in
    let halt = c.in-Err-read_run_file_by-2.halt in
    let r = c.in-Ok-read_run_file_by.ensures in
    pass_goes told (reading_set_by Brief asked.set) (behind_one asked) later one (Err halt) c.in-Ok.ensures.same c.in-Ok.ensures.set
    (pass_goes later (reading_other asked.other_set) (behind_two asked one) third two (Err halt) c.in-Ok-read_other_set.ensures.same c.in-Ok-read_other_set.ensures.set
    (file_goes Brief third run_limit asked.run (run_of_bytes_by Brief one asked.run) (behind_input asked one two) last input (Err halt) r.same r.input
    (file_halts Brief last run_limit asked.other_run (run_of_bytes_by Brief two asked.other_run) (behind_other asked one two input) input_of halt c.in-Err-read_run_file_by-2.ensures.input)))

pub returns-clause-answer : goal.returns-clause-answer
returns-clause-answer g c =
    let asked = pair_asked c.args.asked.now in
    let told : Option Files = g.S.Store.files c.args.store.now in
    let later : Option Files = g.S.Store.files c.read_task_set_by.new.store in
    let third : Option Files = g.S.Store.files c.read_other_set.new.store in
    let last : Option Files = g.S.Store.files c.read_run_file_by.new.store in
    let one = set_of c.in-Ok.set in
    let two = set_of c.in-Ok-read_other_set.set in
    let input = input_of c.in-Ok-read_run_file_by.input in
    let other = input_of c.in-Ok-read_run_file_by-2.input in
    let result = c.sets_answer.result in
    let r = c.in-Ok-read_run_file_by.ensures in
    pass_goes told (reading_set_by Brief asked.set) (behind_one asked) later one result c.in-Ok.ensures.same c.in-Ok.ensures.set
    (pass_goes later (reading_other asked.other_set) (behind_two asked one) third two result c.in-Ok-read_other_set.ensures.same c.in-Ok-read_other_set.ensures.set
    (file_goes Brief third run_limit asked.run (run_of_bytes_by Brief one asked.run) (behind_input asked one two) last input result r.same r.input
    (file_goes Brief last run_limit asked.other_run (run_of_bytes_by Brief two asked.other_run) (behind_other asked one two input) last other result refl c.in-Ok-read_run_file_by-2.ensures.input
    (given_at_once last (sets_reply asked one two input other) result c.sets_answer.ensures.answer))))
