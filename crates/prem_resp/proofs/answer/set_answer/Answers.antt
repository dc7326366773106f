use Rattle.std.specs.Prelude.{Ok}
use Rattle.std.proofs.Common.{ap}
use Rattle.prem_tasks.specs.SetOf.{set_of}
use Rattle.prem_answer.specs.Stages.{reply_of}
use Rattle.prem_resp.proofs.LoadsAre.{has_loads}
use Rattle.prem_resp.proofs.Stages.{tested_is}
use Rattle.prem_resp.proofs.answer.set_answer.Goals as goal

pub tested-requires : goal.tested-requires
tested-requires c = has_loads (set_of c.args.set.now) c.in-Ok.compiled c.in-Ok.ensures

pub returns-in_ok-tested-in-Ok-clause-answer : goal.returns-in_ok-tested-in-Ok-clause-answer
returns-in_ok-tested-in-Ok-clause-answer c =
    ap Ok (tested_is (set_of c.args.set.now) c.in-Ok.compiled (reply_of c.in_ok-tested-in-Ok.field-0) c.in-Ok.ensures c.in_ok-tested-in-Ok.ensures)
