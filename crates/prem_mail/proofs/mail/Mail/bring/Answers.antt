use Rattle.std.specs.Prelude.{slice_index_or, slice_set}
use Rattle.std.proofs.Common.{◌≡◌, ◌<◌, ◌≤◌, ◌++◌, [], ◌∷◌, ℕ, true, List, length, ap, sym, ◌∙◌, subst, arith}
use Rattle.std.proofs.lemmas.List.{get_or-map, length-map, map-set}
use Rattle.prem_list.specs.declared.Sequence.{Sequence}
use Rattle.prem_list.specs.Sequence.{items_of, room_of}
use Rattle.prem_list.specs.Lending.{with_item_at}
use Rattle.prem_cycle.specs.FactsOf.{inputs_size, with_input}
use Rattle.prem_machine.specs.States.{Running, with_state}
use Rattle.prem_set.specs.Run.Views.{lists_of}
use Rattle.prem_mail.specs.Delivery.{has_room}
use Rattle.prem_mail.specs.MailFields.{mailing_of, HoldsMail}
use Rattle.prem_mail.specs.Mailing.{Mailing, with_mailed, with_mail}
use Rattle.prem_mail.proofs.Runs.{room_there}
use Rattle.prem_mail.proofs.Kept.{brought_keeps}
use Rattle.prem_mail.proofs.Bringing.{room_for}
use Rattle.prem_mail.proofs.mail.Mail.bring.Goals as goal

-- the list has room
has_room_here : (g : _) (c : goal.After-self-1 g) → has_room c.from.result (lists_of c.self.inside.words) ≡ true
has_room_here g c =
    ap (λ i. has_room i (lists_of c.self.inside.words)) c.from.ensures
    ∙ ap (λ (x : Mailing). has_room c.args.task x.mailed.mail.lists) c.self.view_is ∙ c.requires.room

-- the machine has the word
has_word : (g : _) (c : goal.After-self-1 g) → c.append_input.new.self ≡ with_state c.self.inside.machine (with_input c.from.result c.args.word c.self.inside.machine.state)
has_word g c =
    let m = c.self.inside in
    let r = m.machine in
    let room : has_room c.args.task (lists_of m.words) ≡ true = ap (λ (x : Mailing). has_room c.args.task x.mailed.mail.lists) c.self.view_is ∙ c.requires.room in
    let yes : c.append_input.result ≡ true = c.append_input.ensures.room ∙ room_for r m.feeds.items m.words m.lost.items c.args.task c.self.invariant room in
    c.append_input.ensures.appended yes ∙ ap (λ i. with_state r (with_input i c.args.word r.state)) (sym c.from.ensures)

-- and the list
there : (g : _) (c : goal.After-self-1 g) → c.from.result < length (items_of c.self.inside.words)
there g c =
    let lt : c.from.result < length (lists_of c.self.inside.words) = room_there c.from.result (lists_of c.self.inside.words) (has_room_here g c) in
    let e : length (lists_of c.self.inside.words) ≡ length (items_of c.self.inside.words) = length-map (items_of c.self.inside.words) items_of in
    omega (arith, lt, e)

list_has : (g : _) (c : goal.After-self-1 g) → items_of c.put.new.self ≡ slice_index_or (lists_of c.self.inside.words) c.from.result [] ++ c.args.word ∷ []
list_has g c =
    let old = c.item_mut.result.now in
    let words = c.self.inside.words in
    let list_is : slice_index_or (lists_of words) c.from.result [] ≡ items_of (slice_index_or (items_of words) c.from.result old) =
    get_or-map items_of (items_of words) c.from.result old [] (there g c) in
    c.put.ensures.items ∙ ap (λ l. l ++ c.args.word ∷ []) (ap items_of c.item_mut.ensures.value ∙ sym list_is)

pub invariant_of-self : goal.invariant_of-self
invariant_of-self g c =
    let m = c.self.inside in
    let r = m.machine in
    let old = c.item_mut.result.now in
    let kept : inputs_size ≤ room_of old = subst (λ (l : Sequence ℕ). inputs_size ≤ room_of l) (sym c.item_mut.ensures.value) (c.self.invariant.rooms c.from.result old (there g c)) in
    let same : room_of c.put.new.self ≡ room_of old = c.put.ensures.room in
    let big : inputs_size ≤ room_of c.put.new.self = omega (arith, kept, same) in
    subst (λ (q : Running). HoldsMail q m.feeds.items (with_item_at m.words c.from.result c.put.new.self) m.lost.items) (sym (has_word g c))
    (brought_keeps r m.feeds.items m.words m.lost.items c.from.result c.args.word c.put.new.self c.self.invariant (has_room_here g c) (list_has g c) big)

pub returns : goal.returns
returns g c =
    let m = c.self.inside in
    let r = m.machine in
    let k = c.from.result in
    let lists : lists_of (with_item_at m.words k c.put.new.self) ≡ slice_set (lists_of m.words) k (slice_index_or (lists_of m.words) k [] ++ c.args.word ∷ []) =
    map-set items_of (items_of m.words) k c.put.new.self ∙ ap (slice_set (lists_of m.words) k) (list_has g c) in
    let with_machine : Running → List (List ℕ) →
    Mailing = λ q ls. record {
      setup = q.setup;
      requests = q.requests;
      feeds = m.feeds.items;
      mailed =
          record { state = q.state; mail = record { lists = ls; lost = m.lost.items } };
    } in
    ap (λ (q : Running). with_machine q (lists_of (with_item_at m.words k c.put.new.self))) (has_word g c)
    ∙ ap (with_machine (with_state r (with_input k c.args.word r.state))) lists
    ∙ ap (λ i. with_mailed (mailing_of m) (with_mail i c.args.word (mailing_of m).mailed)) c.from.ensures
    ∙ ap (λ (x : Mailing). with_mailed x (with_mail c.args.task c.args.word x.mailed)) c.self.view_is
