use Rattle.std.proofs.Common.{◌≤◌, refl, subst}
use Rattle.prem_answer.proofs.Reading.{read_ok, read_long}
use Rattle.prem_answer.proofs.files.read_file_by.Goals as goal

pub returns-in-Ok-clause-read : goal.returns-in-Ok-clause-read
returns-in-Ok-clause-read g c =
    let into = c.read_file.new.into in
    read_ok c.args.telling _ c.args.limit c.args.name.now into.items c.in-Ok.ensures.bytes (subst (λ n. n ≤ c.args.limit) into.ok.0 c.in-Ok.ensures.limit)

pub returns-in-Err-TooLong-clause-read : goal.returns-in-Err-TooLong-clause-read
returns-in-Err-TooLong-clause-read g c =
    let long = rw c.in-Err-TooLong.field-0-is at c.in-Err-TooLong.ensures.too_long in
    read_long c.args.telling _ c.args.limit c.args.name.now _ (long refl) c.in_ok-form_by-in-Err-TooLong.ensures
