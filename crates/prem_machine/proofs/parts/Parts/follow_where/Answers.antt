use Rattle.prem_machine.proofs.Prelude.{rule_in, state_of, setup_in}
use Rattle.prem_machine.proofs.OneByOne.{tells_none}
use Rattle.prem_machine.proofs.Stretching.{silent_stays, stays}
use Rattle.prem_machine.proofs.parts.Parts.follow_where.Goals as goal

pub returns-then-not-follows-clause-state : goal.returns-then-not-follows-clause-state
returns-then-not-follows-clause-state g c =
    let x = c.args.self.now in
    stays (rule_in (setup_in c.args.setting.now)) (setup_in c.args.setting.now) c.args.requests.now (state_of x) x.now

pub returns-then-not-follows-clause-silent : goal.returns-then-not-follows-clause-silent
returns-then-not-follows-clause-silent g c =
    let x = c.args.self.now in
    silent_stays (rule_in (setup_in c.args.setting.now)) (setup_in c.args.setting.now) c.args.requests.now (state_of x) x.now

pub returns-then-not-follows-clause-told : goal.returns-then-not-follows-clause-told
returns-then-not-follows-clause-told g c is_told =
    let x = c.args.self.now in
    tells_none (rule_in (setup_in c.args.setting.now)) (setup_in c.args.setting.now) c.args.requests.now (state_of x) x.now c.args.told.now.items
