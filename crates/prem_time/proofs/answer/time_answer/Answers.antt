use Rattle.std.specs.Prelude.{Option, Ok}
use Rattle.std.proofs.Common.{◌≡◌, ap, ◌∙◌}
use Rattle.prem_io.specs.Files.{Files}
use Rattle.prem_tasks.specs.declared.set.TaskSet.{TaskSet as SetTree}
use Rattle.prem_tasks.specs.Broken.{TaskSet}
use Rattle.prem_tasks.specs.SetOf.{set_of}
use Rattle.prem_answer.specs.declared.answer.Answer.{Answer}
use Rattle.prem_answer.specs.Stages.{Reply, reply_of, IsGiven}
use Rattle.prem_answer.proofs.Reading.{halt_passes}
use Rattle.prem_exec.specs.Sources.Sources.{Passes, reading_set}
use Rattle.prem_exec.proofs.SourcesLemmas.Passing.{comes_as}
use Rattle.prem_time.specs.Words.{Asked}
use Rattle.prem_time.specs.Asked.{asked_in, distances_in}
use Rattle.prem_time.specs.Stages.{time_reply, time_stages}
use Rattle.prem_time.proofs.Stages.{no_set, set_told}
use Rattle.prem_time.proofs.answer.time_answer.Goals as goal

pub returns-in-Err-clause-answer : goal.returns-in-Err-clause-answer
returns-in-Err-clause-answer g c =
    let asked : Asked = asked_in c.args.asked.now in
    let told : Option Files = g.S.Store.files c.args.store.now in
    halt_passes {X = SetTree} {Y = TaskSet} {V = Answer} {W = Reply} set_of reply_of (Passes told (reading_set asked.set)) (IsGiven told (time_stages asked)) c.in-Err.halt
    (λ reply passes. no_set told asked reply passes) c.in-Err.ensures.set

pub returns-clause-answer : goal.returns-clause-answer
returns-clause-answer g c =
    let asked : Asked = asked_in c.args.asked.now in
    let set = set_of c.in-Ok.set in
    let told : Option Files = g.S.Store.files c.args.store.now in
    comes_as reply_of (λ given. given ≡ Ok (time_reply (distances_in c.deref.result.now) set)) (IsGiven told (time_stages asked)) c.set_answer.result
    (λ given is. set_told told asked set given c.in-Ok.ensures.set (is ∙ ap (λ ds. Ok (time_reply (distances_in ds) set)) c.deref.ensures.value)) c.set_answer.ensures.answer
