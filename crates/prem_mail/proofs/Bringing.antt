-- A word is brought, and nothing else happens.
use Rattle.std.specs.Prelude.{slice_index_or}
use Rattle.std.proofs.Common.{◌≡◌, ℕ, ◌+◌, ◌-◌, ◌<◌, ◌≤◌, true, nat_lt, List, [], length, ap, ◌∙◌, arith}
use Rattle.std.proofs.lemmas.List.{length-map, length-drop}
use Rattle.prem_list.specs.declared.Sequence.{Sequence}
use Rattle.prem_list.specs.Sequence.{items_of}
use Rattle.prem_cycle.specs.State.{rule_in}
use Rattle.prem_cycle.specs.State.{Task, task_in}
use Rattle.prem_cycle.specs.FactsOf.{has_room_for_word, inputs_size}
use Rattle.prem_cycle.specs.Run.{cycles_of}
use Rattle.prem_cycle.specs.Runs.Inputs.Taken.{TakesFrom}
use Rattle.prem_machine.specs.States.{Running, with_state}
use Rattle.prem_set.specs.Run.Views.{lists_of}
use Rattle.prem_mail.specs.declared.feed.Feed.{Feed}
use Rattle.prem_mail.specs.Delivery.{has_room}
use Rattle.prem_mail.specs.MailFields.{HoldsMail}
use Rattle.prem_mail.proofs.Runs.{room_there, room_left}

taken_long : (words : List ℕ) (t : Task) → TakesFrom words t → t.used + length t.left ≡ length words
taken_long words t h =
    let used : t.used ≤ length words = h.used in
    let left : length t.left ≡ length words - t.used = ap length h.left ∙ length-drop t.used words in
    omega (arith, used, left)

-- where the list has room, so has the machine
pub room_for : (r : Running) (feeds : List Feed) (words : Sequence (Sequence ℕ)) (lost : List ℕ) (k : ℕ) → HoldsMail r feeds words lost →
    has_room k (lists_of words) ≡ true → has_room_for_word k r.state ≡ true
room_for r feeds words lost k h room =
    let there : k < length (lists_of words) = room_there k (lists_of words) room in
    let long : length (lists_of words) ≡ length (items_of words) = length-map (items_of words) items_of in
    let inside : k < length (items_of words) = omega (arith, there, long) in
    ap (λ n. nat_lt n inputs_size) (taken_long (slice_index_or (lists_of words) k []) (task_in r.state.work k) (h.taken k inside)) ∙ room_left k (lists_of words) room

-- a run up to where it is stays
pub stays_there : (r new : Running) (n : ℕ) → n ≡ r.state.now → new.state ≡ cycles_of (rule_in r.setup) r.setup r.requests (n - r.state.now) r.state →
    new.setup ≡ r.setup → new.requests ≡ r.requests → new ≡ r
unfolding cycles_of
stays_there r new n here state setup requests =
    let none : n - r.state.now ≡ 0 = omega (arith, here) in
    let same : new.state ≡ r.state = state ∙ ap (λ i. cycles_of (rule_in r.setup) r.setup r.requests i r.state) none in
    ap (λ s. record { setup = s; requests = new.requests; state = new.state }) setup
    ∙ ap (λ q. record { setup = r.setup; requests = q; state = new.state }) requests
    ∙ ap (with_state r) same
