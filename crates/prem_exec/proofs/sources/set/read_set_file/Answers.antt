use Rattle.std.specs.Prelude.{Option}
use Rattle.std.proofs.Common.{rules, ◌≡◌, ◌≢◌, subst, Ok}
use Rattle.prem_io.specs.Files.{Files}
use Rattle.prem_set.specs.SetFile.{set_of}
use Rattle.prem_set.specs.Views.{set_view, SetFails}
use Rattle.prem_set.specs.declared.fault.SetFail.TheVariants.{OutOfMemory as NoMemory}
use Rattle.prem_answer.proofs.Reading.{made_ok_by}
use Rattle.prem_exec.specs.Sources.Sources.{set_limit, set_of_bytes_by}
use Rattle.prem_exec.proofs.Behind.{read_halts}
use Rattle.prem_exec.proofs.SourcesLemmas.Passing.{set_formed, set_refused}
use Rattle.prem_exec.proofs.sources.set.read_set_file.Goals as goal

pub returns-in-Err-clause-set : goal.returns-in-Err-clause-set
returns-in-Err-clause-set g c =
    let how = c.args.telling in
    let name = c.args.name.now in
    let told : Option Files = g.S.Store.files c.args.store.now in
    read_halts how told set_limit name (set_of_bytes_by how name) set_view c.in-Err.halt c.in-Err.ensures.read

pub returns-in-Ok-read_set-clause-set : goal.returns-in-Ok-read_set-clause-set
returns-in-Ok-read_set-clause-set g c =
    let how = c.args.telling in
    let name = c.args.name.now in
    let bytes = c.in-Ok.bytes.items in
    let read = subst (λ bs. set_of bs ≡ Ok (set_view c.in-Ok-read_set.set)) c.deref.ensures.value c.in-Ok-read_set.ensures.exact in
    made_ok_by how _ set_limit name (set_of_bytes_by how name) bytes _ c.in-Ok.ensures.read (set_formed how name (set_of bytes) (set_view c.in-Ok-read_set.set) read)

pub returns : goal.returns
returns g c =
    let how = c.args.telling in
    let name = c.args.name.now in
    let bytes = c.in-Ok.bytes.items in
    let fail = c.in-Err-read_set.fail in
    let other : fail ≢ NoMemory = search rules in
    let failed : SetFails fail (set_of bytes) = subst (λ bs. SetFails fail (set_of bs)) c.deref.ensures.value c.in-Err-read_set.ensures.exact in
    record {
      set = made_ok_by how _ set_limit name (set_of_bytes_by how name) bytes _ c.in-Ok.ensures.read (set_refused how name (set_of bytes) fail _ other failed c.in_ok-set_form-in-Err-read_set.ensures);
      lawful = tt;
      fault = search rules;
      later = search rules;
      same = search rules;
    }
