use Rattle.std.proofs.Common.{◌≡◌, true, false, cond, Some, map, ap, sym, ◌∙◌}
use Rattle.prem_list.specs.Sequence.{items_of}
use Rattle.prem_mail.specs.Delivery.{has_room}
use Rattle.prem_mail.specs.Mailing.{Mailing, with_mail, with_mailed, supplied_to}
use Rattle.prem_mail.proofs.mail.Mail.supply.Goals as goal

pub bring-requires : goal.bring-requires
bring-requires g c =
    record {
      room = ap (λ (x : Mailing). has_room c.in-Some.task x.mailed.mail.lists) (sym c.self.view_is)
          ∙ ap (λ ls. has_room c.in-Some.task (map items_of ls)) (sym c.items.ensures) ∙ sym c.has_room.ensures ∙ c.if-has_room.true;
    }

pub returns-then-has_room : goal.returns-then-has_room
returns-then-has_room g c =
    let x = c.args.self.now in
    let k = c.in-Some.task in
    let wanted : c.args.wanted ≡ Some k = c.in-Some.is in
    let room : has_room k x.mailed.mail.lists ≡ true =
    ap (λ (y : Mailing). has_room k y.mailed.mail.lists) (sym c.self.view_is)
    ∙ ap (λ ls. has_room k (map items_of ls)) (sym c.items.ensures) ∙ sym c.has_room.ensures ∙ c.if-has_room.true in
    c.bring.ensures ∙ sym (ap (λ o. with_mailed x (supplied_to o x.mailed)) wanted ∙ ap (λ b. with_mailed x (cond b (with_mail k 0 x.mailed) x.mailed)) room)

pub returns-else-has_room : goal.returns-else-has_room
returns-else-has_room g c =
    let x = c.args.self.now in
    let k = c.in-Some.task in
    let wanted : c.args.wanted ≡ Some k = c.in-Some.is in
    let room : has_room k x.mailed.mail.lists ≡ false =
    ap (λ (y : Mailing). has_room k y.mailed.mail.lists) (sym c.self.view_is)
    ∙ ap (λ ls. has_room k (map items_of ls)) (sym c.items.ensures) ∙ sym c.has_room.ensures ∙ c.if-has_room.false in
    sym (ap (λ o. with_mailed x (supplied_to o x.mailed)) wanted ∙ ap (λ b. with_mailed x (cond b (with_mail k 0 x.mailed) x.mailed)) room)
