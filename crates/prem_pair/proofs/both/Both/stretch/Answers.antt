use Rattle.prem_pair.proofs.Prelude.{rule_in, setup_in, pair_of}
use Rattle.prem_pair.proofs.Going.{none_trapped}
use Rattle.prem_pair.proofs.Together.{none_were_taken}
use Rattle.prem_pair.proofs.both.Both.stretch.Goals as goal

pub returns-then-is_none-2-clause-state : goal.returns-then-is_none-2-clause-state
returns-then-is_none-2-clause-state g c =
    let s = pair_of c.args.self.now in
    let p = setup_in c.args.first.now in
    let q = setup_in c.args.second.now in
    none_were_taken (rule_in p) (rule_in q) p q c.args.requests.now s (none_trapped s c.requires.over)

pub returns-in_default-clause-state : goal.returns-in_default-clause-state
returns-in_default-clause-state g c =
    let s = pair_of c.args.self.now in
    let p = setup_in c.args.first.now in
    let q = setup_in c.args.second.now in
    none_were_taken (rule_in p) (rule_in q) p q c.args.requests.now s (none_trapped s c.requires.over)

pub returns-in-None-None-clause-state : goal.returns-in-None-None-clause-state
returns-in-None-None-clause-state g c =
    let s = pair_of c.args.self.now in
    let p = setup_in c.args.first.now in
    let q = setup_in c.args.second.now in
    none_were_taken (rule_in p) (rule_in q) p q c.args.requests.now s (none_trapped s c.requires.over)
