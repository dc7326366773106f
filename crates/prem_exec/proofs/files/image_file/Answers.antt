use Rattle.std.specs.Prelude.{Option}
use Rattle.std.proofs.Common.{◌≡◌, ◌≢◌, ap, ◌∙◌, sym, subst, rules}
use Rattle.prem_io.specs.Files.{Files}
use Rattle.prem_image.specs.Text.{image_text}
use Rattle.prem_imagefile.specs.declared.fail.ImageFail.TheVariants.{OutOfMemory as NoMemory}
use Rattle.prem_imagefile.specs.Reading.{read_as, Fails}
use Rattle.prem_answer.specs.declared.answer.Telling.TheVariants.{Whole}
use Rattle.prem_answer.proofs.Reading.{made_ok}
use Rattle.prem_exec.specs.Exec.{image_limit, image_of_bytes}
use Rattle.prem_exec.proofs.Behind.{read_halts}
use Rattle.prem_exec.proofs.Stages.{image_read, image_refused}
use Rattle.prem_exec.proofs.files.image_file.Goals as goal

pub returns-in-Err-clause-image : goal.returns-in-Err-clause-image
returns-in-Err-clause-image g c =
    let name = c.args.name.now in
    let told : Option Files = g.S.Store.files c.args.store.now in
    read_halts Whole told image_limit name (image_of_bytes name) image_text c.in-Err.halt c.in-Err.ensures.read

pub returns-in-Ok-read_image-clause-image : goal.returns-in-Ok-read_image-clause-image
returns-in-Ok-read_image-clause-image g c =
    let name = c.args.name.now in
    let bytes = c.in-Ok.bytes.items in
    let read : read_as bytes ≡ _ = ap read_as (sym c.deref.ensures.value) ∙ c.in-Ok-read_image.ensures.exact in
    made_ok _ image_limit name (image_of_bytes name) bytes _ c.in-Ok.ensures.read (image_read name (read_as bytes) (image_text c.in-Ok-read_image.image) read)

pub returns : goal.returns
returns g c =
    let name = c.args.name.now in
    let bytes = c.in-Ok.bytes.items in
    let fail = c.in-Err-read_image.fail in
    let other : fail ≢ NoMemory = search rules in
    let failed : Fails fail (read_as bytes) = subst (λ bs. Fails fail (read_as bs)) c.deref.ensures.value c.in-Err-read_image.ensures.exact in
    record {
      image = made_ok _ image_limit name (image_of_bytes name) bytes _ c.in-Ok.ensures.read (image_refused name (read_as bytes) fail _ other failed c.in_ok-image_form-in-Err-read_image.ensures);
      fault = search rules;
      later = search rules;
      same = search rules;
    }
