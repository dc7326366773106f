-- What a word that comes leaves as it is, and to which task a transfer goes.
use Rattle.std.specs.Prelude.{is_some, IfSome}
use Rattle.std.proofs.Common.{◌≡◌, ℕ, suc, ◌<◌, Bool, true, false, cond, List, [], ◌∷◌, Option, None, Some, All, refl, arith}
use Rattle.prem_gate.specs.declared.bus.Transfer.{Transfer}
use Rattle.prem_cycle.specs.Cycle.{is_over}
use Rattle.prem_cycle.proofs.RunsLemmas.InputsLemmas.Cycles.{over_with}
use Rattle.prem_mail.specs.declared.feed.Feed.{Feed}
use Rattle.prem_mail.specs.MailFile.{is_of}
use Rattle.prem_mail.specs.Delivery.{has_room, fed_by, receiver}
use Rattle.prem_mail.specs.Mailing.{Mailed, with_mail, without_mail, supplied_to, received_by, handed_to}

-- ---- before a cycle

abbrev supplied_by : Bool → ℕ → Mailed → Mailed
supplied_by b k m = cond b (with_mail k 0 m) m

over_by : (b : Bool) (k : ℕ) (m : Mailed) → is_over (supplied_by b k m).state ≡ is_over m.state
over_by true k m = over_with k 0 m.state
over_by false k m = refl

pub supplied_over : (o : Option ℕ) (m : Mailed) → is_over (supplied_to o m).state ≡ is_over m.state
supplied_over None m = refl
supplied_over (Some k) m = over_by (has_room k m.mail.lists) k m

now_by : (b : Bool) (k : ℕ) (m : Mailed) → (supplied_by b k m).state.now ≡ m.state.now
now_by true k m = refl
now_by false k m = refl

pub supplied_now : (o : Option ℕ) (m : Mailed) → (supplied_to o m).state.now ≡ m.state.now
supplied_now None m = refl
supplied_now (Some k) m = now_by (has_room k m.mail.lists) k m

lost_by : (b : Bool) (k : ℕ) (m : Mailed) → (supplied_by b k m).mail.lost ≡ m.mail.lost
lost_by true k m = refl
lost_by false k m = refl

pub supplied_lost : (o : Option ℕ) (m : Mailed) → (supplied_to o m).mail.lost ≡ m.mail.lost
supplied_lost None m = refl
supplied_lost (Some k) m = lost_by (has_room k m.mail.lists) k m

-- ---- behind it

abbrev handed_by : Bool → ℕ → ℕ → Mailed → Mailed
handed_by b k value m = cond b (with_mail k value m) (without_mail k m)

behind_now : (b : Bool) (k value : ℕ) (m : Mailed) → (handed_by b k value m).state.now ≡ m.state.now
behind_now true k value m = refl
behind_now false k value m = refl

handed_now : (o : Option ℕ) (value : ℕ) (m : Mailed) → (handed_to o value m).state.now ≡ m.state.now
handed_now None value m = refl
handed_now (Some k) value m = behind_now (has_room k m.mail.lists) k value m

pub received_now : (feeds : List Feed) (o : Option Transfer) (m : Mailed) → (received_by feeds o m).state.now ≡ m.state.now
received_now feeds None m = refl
received_now feeds (Some t) m = handed_now (receiver feeds t) t.value m

behind_trapped : (b : Bool) (k value : ℕ) (m : Mailed) → (handed_by b k value m).state.trapped ≡ m.state.trapped
behind_trapped true k value m = refl
behind_trapped false k value m = refl

handed_trapped : (o : Option ℕ) (value : ℕ) (m : Mailed) → (handed_to o value m).state.trapped ≡ m.state.trapped
handed_trapped None value m = refl
handed_trapped (Some k) value m = behind_trapped (has_room k m.mail.lists) k value m

pub received_trapped : (feeds : List Feed) (o : Option Transfer) (m : Mailed) → (received_by feeds o m).state.trapped ≡ m.state.trapped
received_trapped feeds None m = refl
received_trapped feeds (Some t) m = handed_trapped (receiver feeds t) t.value m

-- ---- the receiver

known_by : (b : Bool) (n k : ℕ) (o : Option ℕ) → k < n → IfSome o (λ k. k < n) → IfSome (cond b (Some k) o) (λ k. k < n)
known_by true n k o lt h = lt
known_by false n k o lt h = h

fed_known : (n : ℕ) (feeds : List Feed) (device line : ℕ) → All (λ (f : Feed). f.task < n) feeds → IfSome (fed_by feeds device line) (λ k. k < n)
fed_known n [] device line h = tt
fed_known n (f ∷ feeds) device line h =
    known_by (is_of device line f) n f.task (fed_by feeds device line) (h 0 f (omega arith)) (fed_known n feeds device line (λ i d lt. h (suc i) d (omega (arith, lt))))

put_known : (b : Bool) (n : ℕ) (o : Option ℕ) → IfSome o (λ k. k < n) → IfSome (cond b o None) (λ k. k < n)
put_known true n o h = h
put_known false n o h = tt

pub receiver_known : (n : ℕ) (feeds : List Feed) (t : Transfer) → All (λ (f : Feed). f.task < n) feeds → IfSome (receiver feeds t) (λ k. k < n)
receiver_known n feeds t h = put_known (is_some t.request.put) n (fed_by feeds t.device t.request.line) (fed_known n feeds t.device t.request.line h)
