-- What a run in memory keeps.
use Rattle.std.specs.Prelude.{is_some, slice_index_or}
use Rattle.std.proofs.Common.{◌≡◌, ℕ, zero, suc, ◌<◌, ◌≤◌, true, false, List, [], ◌∷◌, ◌++◌, Option, None, Some, refl, ap, sym, ◌∙◌, subst, arith, ⊎_elim, length, drop}
use Rattle.std.proofs.Common.{slice_set, length-append, length-set, All}
use Rattle.std.proofs.lemmas.Bool.{cases_Bool, cases_eq}
use Rattle.std.proofs.lemmas.List.{get_or-set_same, get_or-set_other, map-set, length-map}
use Rattle.std.proofs.lemmas.List.Elements.{All-set}
use Rattle.prem_list.specs.declared.Sequence.{Sequence}
use Rattle.prem_list.specs.Sequence.{items_of, room_of}
use Rattle.prem_list.specs.Lending.{with_item_at}
use Rattle.prem_isa.specs.Plain.{with_last}
use Rattle.prem_lru.specs.Entries.{ReplacementRule}
use Rattle.prem_gate.specs.declared.request.Request.{Request}
use Rattle.prem_gate.specs.declared.bus.Transfer.{Transfer}
use Rattle.prem_gate.specs.Gates.{Turned}
use Rattle.prem_cycle.specs.State.{Setup, MachineState, Task, task_in, rule_in}
use Rattle.prem_cycle.specs.Cycle.{arrivals_at, bus_at, core_at, joined, is_over, step_of}
use Rattle.prem_cycle.specs.FactsOf.{inputs_size, with_input, with_word}
use Rattle.prem_cycle.proofs.RunLaws.{step_of-goes, step_of-stays}
use Rattle.prem_cycle.specs.Runs.Inputs.Taken.{TakesFrom}
use Rattle.prem_cycle.proofs.RunsLemmas.InputsLemmas.Words.{no_task, tasks_with, task_with}
use Rattle.prem_cycle.proofs.RunsLemmas.InputsLemmas.Taken.{step_from}
use Rattle.prem_machine.specs.States.{Running, with_state}
use Rattle.prem_sound.proofs.ServeLemmas.Queues.{ticked_transfers}
use Rattle.prem_set.specs.Run.Views.{lists_of}
use Rattle.prem_mail.specs.declared.feed.Feed.{Feed}
use Rattle.prem_mail.specs.Delivery.{has_room}
use Rattle.prem_mail.specs.MailFields.{HoldsMail}
use Rattle.prem_mail.proofs.Finds.{set_there}
use Rattle.prem_mail.proofs.Steps.{step_long}
use Rattle.prem_mail.proofs.Runs.{room_there}

-- ---- a word comes to a task

drop_push : (n : ℕ) (xs : List ℕ) (y : ℕ) → n ≤ length xs → drop n (xs ++ y ∷ []) ≡ drop n xs ++ y ∷ []
drop_push zero xs y le = refl
drop_push (suc n) [] y le = absurd (omega (arith, le))
drop_push (suc n) (x ∷ xs) y le = drop_push n xs y (omega (arith, le))

word_comes : (words : List ℕ) (word : ℕ) (t : Task) → TakesFrom words t → TakesFrom (words ++ word ∷ []) (with_word word t)
word_comes words word t h =
    let used : t.used ≤ length words = h.used in
    let e = length-append words (word ∷ []) in
    record { used = omega (arith, used, e); left = ap (λ left. left ++ word ∷ []) h.left ∙ sym (drop_push t.used words word used) }

other_stays : (P : Task → Type 0) (tasks : List Task) (k j word : ℕ) → (j ≡ k → ⊥) → P (slice_index_or tasks j no_task) → P (slice_index_or (tasks_with k word tasks) j no_task)
other_stays P tasks k j word other h = task_with P tasks k j word h (λ e. absurd (other e))

pub brought_keeps : (r : Running) (feeds : List Feed) (words : Sequence (Sequence ℕ)) (lost : List ℕ) (k word : ℕ) (list : Sequence ℕ) →
    HoldsMail r feeds words lost → has_room k (lists_of words) ≡ true →
    items_of list ≡ slice_index_or (lists_of words) k [] ++ word ∷ [] → inputs_size ≤ room_of list → HoldsMail (with_state r (with_input k word r.state)) feeds (with_item_at words k list) lost
brought_keeps r feeds words lost k word list h room items big =
    let there : k < length (lists_of words) = room_there k (lists_of words) room in
    let long : length (lists_of words) ≡ length (items_of words) = length-map (items_of words) items_of in
    let inside : k < length (items_of words) = omega (arith, there, long) in
    let count : length (items_of words) ≡ length r.setup.tasks = h.count in
    let tasks : length r.state.work.tasks ≡ length r.setup.tasks = h.tasks in
    let in_tasks : k < length r.state.work.tasks = omega (arith, inside, count, tasks) in
    let new : lists_of (with_item_at words k list) ≡ slice_set (lists_of words) k (items_of list) = map-set items_of (items_of words) k list in
    record {
      count = length-set (items_of words) k list ∙ count;
      counts = h.counts;
      tasks = length-set r.state.work.tasks k (with_word word (task_in r.state.work k)) ∙ tasks;
      rooms = All-set (λ (l : Sequence ℕ). inputs_size ≤ room_of l) (items_of words) k list big h.rooms;
      taken = λ j lt. ⊎_elim (λ (e : j ≡ k). here there in_tasks (h.taken k inside) new j e)
          (λ (other : j ≡ k → ⊥). there_too j (h.taken j (let x = length-set (items_of words) k list in omega (arith, lt, x))) new other) (cases_eq j k);
      known = h.known;
      few = h.few;
    }
  where
    here : k < length (lists_of words) → k < length r.state.work.tasks → TakesFrom (slice_index_or (lists_of words) k []) (task_in r.state.work k) →
        lists_of (with_item_at words k list) ≡ slice_set (lists_of words) k (items_of list) → (j : ℕ) → j ≡ k →
        TakesFrom (slice_index_or (lists_of (with_item_at words k list)) j []) (task_in (with_input k word r.state).work j)
    here there in_tasks takes new j e =
        let list_is : slice_index_or (lists_of (with_item_at words k list)) k [] ≡ slice_index_or (lists_of words) k [] ++ word ∷ [] =
        ap (λ ls. slice_index_or ls k []) new ∙ get_or-set_same (lists_of words) k (items_of list) [] there ∙ items in
        let task_is : task_in (with_input k word r.state).work k ≡ with_word word (task_in r.state.work k) = set_there r.state.work.tasks k word in_tasks in
        subst (λ (i : ℕ). TakesFrom (slice_index_or (lists_of (with_item_at words k list)) i []) (task_in (with_input k word r.state).work i)) (sym e)
        (subst (λ (l : List ℕ). TakesFrom l (task_in (with_input k word r.state).work k)) (sym list_is)
        (subst (λ (t : Task). TakesFrom (slice_index_or (lists_of words) k [] ++ word ∷ []) t) (sym task_is) (word_comes (slice_index_or (lists_of words) k []) word (task_in r.state.work k) takes)))

    there_too : (j : ℕ) → TakesFrom (slice_index_or (lists_of words) j []) (task_in r.state.work j) →
        lists_of (with_item_at words k list) ≡ slice_set (lists_of words) k (items_of list) → (j ≡ k → ⊥) →
        TakesFrom (slice_index_or (lists_of (with_item_at words k list)) j []) (task_in (with_input k word r.state).work j)
    there_too j takes new other =
        let list_is : slice_index_or (lists_of (with_item_at words k list)) j [] ≡ slice_index_or (lists_of words) j [] =
        ap (λ ls. slice_index_or ls j []) new ∙ get_or-set_other (lists_of words) k j (items_of list) [] other in
        subst (λ (l : List ℕ). TakesFrom l (task_in (with_input k word r.state).work j)) (sym list_is)
        (other_stays (TakesFrom (slice_index_or (lists_of words) j [])) r.state.work.tasks k j word other takes)

-- ---- a cycle

last_longer : {A : Type 0} (o : Option A) (xs : List A) → length xs ≤ length (with_last o xs)
last_longer None xs = omega arith
last_longer (Some x) xs = let e = length-append xs (x ∷ []) in omega (arith, e)

pub more_transfers : (rule : ReplacementRule) (p : Setup) (requests : List Request) (s : MachineState) → length s.log.transfers ≤ length (step_of rule p requests s).log.transfers
more_transfers rule p requests s =
    let b : Turned = bus_at (arrivals_at requests s).gates s in
    ⊎_elim (λ (e : is_over s ≡ true).
    (let x : length (step_of rule p requests s).log.transfers ≡ length s.log.transfers =
    ap (λ (u : MachineState). length u.log.transfers) (step_of-stays rule p requests s e) in omega (arith, x)))
    (λ (e : is_over s ≡ false).
    (let x : length (step_of rule p requests s).log.transfers ≡ length (with_last b.turn.ended s.log.transfers) =
    ap (λ (u : MachineState). length u.log.transfers) (step_of-goes rule p requests s e)
    ∙ ap (λ (ts : List Transfer). length ts) (ticked_transfers (is_some (core_at rule p b s).trapped) (joined (arrivals_at requests s) b (core_at rule p b s) s)) in
    let y = last_longer b.turn.ended s.log.transfers in
    omega (arith, x, y)))
    (cases_Bool (is_over s))

few_more : (lost : List ℕ) (a b : ℕ) → a ≤ b → All (λ n. n ≤ a) lost → All (λ n. n ≤ b) lost
few_more lost a b le h k d lt = let x = h k d lt in omega (arith, x, le)

pub cycled_keeps : (r : Running) (feeds : List Feed) (words : Sequence (Sequence ℕ)) (lost : List ℕ) (s : MachineState) →
    s ≡ step_of (rule_in r.setup) r.setup r.requests r.state → HoldsMail r feeds words lost → HoldsMail (with_state r s) feeds words lost
cycled_keeps r feeds words lost s is h =
    subst (λ (u : MachineState). HoldsMail (with_state r u) feeds words lost) (sym is)
    (record {
      count = h.count;
      counts = h.counts;
      tasks = step_long (rule_in r.setup) r.setup r.requests r.state ∙ h.tasks;
      rooms = h.rooms;
      taken = λ k lt. step_from (rule_in r.setup) r.setup r.requests (slice_index_or (lists_of words) k []) k r.state (h.taken k lt);
      known = h.known;
      few = few_more lost (length r.state.log.transfers) (length (step_of (rule_in r.setup) r.setup r.requests r.state).log.transfers)
          (more_transfers (rule_in r.setup) r.setup r.requests r.state) h.few;
    })
