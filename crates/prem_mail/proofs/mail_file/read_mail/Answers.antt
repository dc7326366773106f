use Rattle.std.proofs.Common.{◌≡◌, length, arith}
use Rattle.std.proofs.lemmas.Bool.Decides.{nat_tests}
use Rattle.prem_mail.proofs.Lawful.{feeds_are_lawful}
use Rattle.prem_mail.proofs.Left.{failed, went, done}
use Rattle.prem_mail.proofs.mail_file.read_mail.Goals as goal

pub returns-in-Err-clause-exact : goal.returns-in-Err-clause-exact
returns-in-Err-clause-exact c =
    failed c.args.names.now c.args.bytes.now c.loop-rest.n c.loop-rest.feeds.items c.loop-rest.rest.now c.first_line.result.0.now c.first_line.result.1.now c.in-Err.fail c.at_line.result
    c.loop-rest.invariant c.first_line.ensures.line c.in-Err.ensures c.at_line.ensures

pub loop-rest-preserved : goal.loop-rest-preserved
loop-rest-preserved c =
    went c.args.names.now c.args.bytes.now c.loop-rest.n c.loop-rest.feeds.items c.read_line.new.feeds.items c.loop-rest.rest.now c.first_line.result.0.now c.first_line.result.1.now
    c.loop-rest.invariant c.first_line.ensures.line c.first_line.ensures.shorter c.in_default.ensures

pub returns-clause-exact : goal.returns-clause-exact
returns-clause-exact c =
    let none : length c.loop-rest.rest.now ≡ 0 = grind (arith, nat_tests, c.is_empty.ensures, c.loop-rest-test.false) in
    done c.args.names.now c.args.bytes.now c.loop-rest.n c.loop-rest.feeds.items c.loop-rest.rest.now c.loop-rest.invariant none

pub returns-clause-lawful : goal.returns-clause-lawful
returns-clause-lawful c =
    let none : length c.loop-rest.rest.now ≡ 0 = grind (arith, nat_tests, c.is_empty.ensures, c.loop-rest-test.false) in
    feeds_are_lawful c.args.bytes.now c.args.names.now c.loop-rest.feeds.items
    (done c.args.names.now c.args.bytes.now c.loop-rest.n c.loop-rest.feeds.items c.loop-rest.rest.now c.loop-rest.invariant none)
