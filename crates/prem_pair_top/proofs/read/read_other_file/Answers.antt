use Rattle.std.specs.Prelude.{Option}
use Rattle.prem_io.specs.Files.{Files}
use Rattle.prem_set.specs.Views.{set_view}
use Rattle.prem_answer.specs.Stages.{reply_of}
use Rattle.prem_pair_top.proofs.OtherSet.{file_with_some}
use Rattle.prem_pair_top.proofs.read.read_other_file.Goals as goal

pub returns-in_ok-form-in-len1-up-clause-set : goal.returns-in_ok-form-in-len1-up-clause-set
returns-in_ok-form-in-len1-up-clause-set g c =
    let told : Option Files = g.S.Store.files c.args.store.now in
    file_with_some told c.args.name.now (set_view c.in-Ok.file) c.items.result.now (reply_of c.in_ok-form-in-len1-up.field-0) c.in-Ok.ensures.set c.items.ensures c.in-len1-up.len_at_least
    c.in_ok-form-in-len1-up.ensures
