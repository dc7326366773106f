use Rattle.std.proofs.Common.{◌≤◌, length, map, ap}
use Rattle.prem_list.specs.Sequence.{items_of}
use Rattle.prem_cycle.specs.FactsOf.{inputs_size}
use Rattle.prem_cycle.specs.State.{rule_in}
use Rattle.prem_cycle.specs.Inputs.{words_of, setup_of}
use Rattle.prem_machine.proofs.Arriving.{all_unmap}
use Rattle.prem_set.specs.Run.Views.{lists_of}
use Rattle.prem_mail.proofs.Beginning.{first_holds, first_mailed}
use Rattle.prem_mail.proofs.mail.Mail.new.Goals as goal

pub lists_of-requires : goal.lists_of-requires
lists_of-requires g c = all_unmap items_of (λ words. length words ≤ inputs_size) (items_of c.args.run.now.words) c.requires.fits.each

pub invariant_of-result : goal.invariant_of-result
invariant_of-result g c =
    let image = c.args.image.now in
    let run = c.args.run.now in
    first_holds (rule_in (setup_of image)) (setup_of image) (items_of image.content) (words_of run) (items_of run.requests)
    (map (λ d. d.device.lines) (items_of image.devices)) c.in_ok-machine.machine c.in_ok-feeds.feeds.items c.args.feeds.now
    c.in_ok-words.words c.in_ok-lost.lost.items (length c.items.result.now)
    c.in_ok-machine.ensures.state c.in_ok-machine.ensures.setup c.in_ok-feeds.ensures c.requires.feeds.each c.in_ok-words.ensures.lists
    c.requires.fits.tasks
    c.in_ok-words.ensures.rooms c.in_ok-lost.ensures (ap length c.items.ensures)

pub returns-clause-first : goal.returns-clause-first
returns-clause-first g c =
    let image = c.args.image.now in
    let run = c.args.run.now in
    first_mailed (rule_in (setup_of image)) (setup_of image) (items_of image.content) (words_of run) (lists_of c.in_ok-words.words)
    (items_of run.requests) c.in_ok-machine.machine.state c.in_ok-lost.lost.items (length c.items.result.now)
    c.in_ok-machine.ensures.state c.in_ok-words.ensures.lists c.in_ok-lost.ensures (ap length c.items.ensures)
