use Rattle.std.specs.Prelude.{Option}
use Rattle.std.proofs.Common.{rules, ◌≡◌, ◌≢◌, subst, Ok, ap, ◌∙◌}
use Rattle.prem_io.specs.Files.{Files}
use Rattle.prem_set.specs.SetFile.{set_of}
use Rattle.prem_set.specs.Views.{set_view, SetFails}
use Rattle.prem_set.specs.declared.fault.SetFail.TheVariants.{OutOfMemory as NoMemory}
use Rattle.prem_answer.specs.declared.status.Status.TheVariants.{Refused}
use Rattle.prem_answer.specs.declared.answer.Telling.TheVariants.{Whole}
use Rattle.prem_answer.proofs.Reading.{made_ok}
use Rattle.prem_exec.proofs.Behind.{read_halts}
use Rattle.prem_lint.specs.Forms.{form_text, set_limit, stated_in}
use Rattle.prem_lint.proofs.Stated.{stated_formed, stated_refused}
use Rattle.prem_lint.proofs.form.read_stated.Goals as goal

pub returns-in-Err-clause-set : goal.returns-in-Err-clause-set
returns-in-Err-clause-set g c =
    let name = c.args.name.now in
    let told : Option Files = g.S.Store.files c.args.store.now in
    read_halts Whole told set_limit name (stated_in name) set_view c.in-Err.halt c.in-Err.ensures.read

pub returns-in-Ok-read_set-clause-set : goal.returns-in-Ok-read_set-clause-set
returns-in-Ok-read_set-clause-set g c =
    let name = c.args.name.now in
    let bytes = c.in-Ok.bytes.items in
    let read = subst (λ bs. set_of bs ≡ Ok (set_view c.in-Ok-read_set.set)) c.deref.ensures.value c.in-Ok-read_set.ensures.exact in
    made_ok _ set_limit name (stated_in name) bytes _ c.in-Ok.ensures.read (stated_formed name bytes (set_of bytes) (set_view c.in-Ok-read_set.set) read)

pub returns : goal.returns
returns g c =
    let name = c.args.name.now in
    let bytes = c.in-Ok.bytes.items in
    let fail = c.in-Err-read_set.fail in
    let other : fail ≢ NoMemory = search rules in
    let failed : SetFails fail (set_of bytes) = subst (λ bs. SetFails fail (set_of bs)) c.deref.ensures.value c.in-Err-read_set.ensures.exact in
    record {
      set = made_ok _ set_limit name (stated_in name) bytes _ c.in-Ok.ensures.read
          (stated_refused name bytes (set_of bytes) fail _ other failed
          (c.in_ok-form_answer-in-Err-read_set.ensures ∙ ap (λ bs. (Refused, form_text name bs fail)) c.deref-in-Err-read_set.ensures.value));
      lawful = tt;
      fault = search rules;
      later = search rules;
      same = search rules;
    }
