use Rattle.std.proofs.Common.{◌≡◌, ◌+◌, ◌*◌, ◌≤◌, length, ap, sym, subst, arith, List, All}
use Rattle.prem_pair.proofs.Prelude.{Log, DeviceFacts, items_of, rooms_left, counts_in, CountsWithin}
use Rattle.prem_machine.proofs.Told.{told_length}
use Rattle.prem_pair.proofs.side.act.Goals as goal

pub move_core-parts-requires-clause-room : goal.move_core-parts-requires-clause-room
move_core-parts-requires-clause-room g c =
    let old = c.args.parts.now in
    let n = told_length (items_of old.facts.tasks) old.sched c.requires.stands.told in
    (rooms_left c.args.requests.now old.work.cores.items old.facts (omega (arith, n, c.requires.stands.cores, c.requires.stands.tasks)) c.requires.stands.rooms c.requires.room).0

pub returns-clause-goes : goal.returns-clause-goes
returns-clause-goes g c =
    let old = c.args.parts.now in
    let mc = c.move_core-parts.ensures in
    let e : 4 * old.now + 1 + 2 ≡ 4 * old.now + 3 = omega arith in
    record {
      ready = mc.ready old.sched c.next_step-step.ensures.ready c.requires.goes.ready;
      first = mc.first;
      counts = subst (λ n. CountsWithin n (counts_in c.move_core-parts.new.facts)) e (mc.counts (4 * old.now + 1) c.requires.goes.counts);
    }

pub returns-clause-arrives : goal.returns-clause-arrives
returns-clause-arrives g c = λ t h.
    let log = ap (λ (l : Log). length l.transfers) c.move_core-parts.ensures.log in
    record {
      arrived = h.arrived;
      few = subst (λ (ds : List DeviceFacts). All (λ d. d.dropped ≤ c.args.parts.now.arrived) ds) (sym c.move_core-parts.ensures.devices) h.few;
      pending = omega (arith, h.pending, log);
    }
