-- A run to which words come as it goes is the run that has had them from the start.
use Rattle.std.specs.Prelude.{◌&&◌, ◌||◌, nat_lt, slice_get, slice_index_or}
use Rattle.std.proofs.Common.{◌≡◌, ℕ, zero, suc, ◌<◌, refl, ap, ap₂, ◌∙◌, sym, subst, arith, cond, ⊎_elim, Bool, true, false, List, [], ◌∷◌, ◌++◌, Option, Some, None, length}
use Rattle.std.proofs.Common.{length-set, length-append}
use Rattle.std.proofs.lemmas.Bool.{cases_Bool, ltb-true}
use Rattle.std.proofs.lemmas.Bool.Decides.{nat_tests}
use Rattle.prem_lru.specs.Entries.{ReplacementRule}
use Rattle.prem_gate.specs.declared.request.Request.{Request}
use Rattle.prem_gate.specs.declared.bus.Transfer.{Transfer}
use Rattle.prem_cycle.specs.State.{Setup, MachineState, start_of}
use Rattle.prem_cycle.specs.Cycle.{step_of}
use Rattle.prem_cycle.specs.FactsOf.{inputs_size}
use Rattle.prem_cycle.specs.Inputs.{FitsRun}
use Rattle.prem_cycle.specs.Run.{coming_step, cycles_of, memory_of, run_of, steps_of, wants_input_of}
use Rattle.prem_cycle.specs.Runs.Inputs.PastEnd.{run_reads_past_end}
use Rattle.prem_cycle.specs.Runs.Inputs.Extended.{with_word_for}
use Rattle.prem_cycle.proofs.RunsLemmas.InputsLemmas.Turns.{past_of}
use Rattle.prem_cycle.proofs.RunsLemmas.InputsLemmas.Cycles.{has_read-next}
use Rattle.prem_cycle.proofs.RunsLemmas.InputsLemmas.Runs.{state_extends, reads_stay}
use Rattle.prem_cycle.proofs.RunsLemmas.InputsLemmas.Taken.{room_is_of_the_list}
use Rattle.prem_cycle.proofs.RunsLemmas.InputsLemmas.Fits.{lists_stay_fit}
use Rattle.prem_cycle.proofs.RunsLemmas.InputsLemmas.Wants.{and_second, and_first}
use Rattle.prem_mail.specs.declared.feed.Feed.{Feed}
use Rattle.prem_mail.specs.Delivery.{Delivery, with_lists, with_lost, has_room, supplied, handed, receiver, received, ended_between, with_cycle, delivered_in}
use Rattle.prem_mail.specs.Mailing.{Mailed, with_mail, without_mail, supplied_to, handed_to, received_by, cycled, stepped, mail_step, mailed_by}
use Rattle.prem_mail.specs.Laws.{mailed_run, MailedRunsAreRuns}
use Rattle.prem_mail.proofs.FromInputs.{not_past}
use Rattle.prem_mail.proofs.Finds.{supplied_finds}
use Rattle.prem_mail.proofs.Steps.{run_long}

-- ---- room

pub room_there : (k : ℕ) (lists : List (List ℕ)) → has_room k lists ≡ true → k < length lists
room_there k lists h = ltb-true k (length lists) (and_first _ _ h)

pub room_left : (k : ℕ) (lists : List (List ℕ)) → has_room k lists ≡ true → nat_lt (length (slice_index_or lists k [])) inputs_size ≡ true
room_left k lists h = and_second (nat_lt k (length lists)) _ h

-- a list is as long as before, or longer
longer : (lists : List (List ℕ)) (k word j : ℕ) → length (slice_index_or (with_word_for k word lists) j []) < inputs_size → length (slice_index_or lists j []) < inputs_size
longer [] k word j h = h
longer (l ∷ lists) zero word zero h = let e = length-append l (word ∷ []) in omega (arith, e, h)
longer (l ∷ lists) zero word (suc j) h = h
longer (l ∷ lists) (suc k) word zero h = h
longer (l ∷ lists) (suc k) word (suc j) h = longer lists k word j h

room_before : (k word j : ℕ) (lists : List (List ℕ)) → has_room j (with_word_for k word lists) ≡ true → has_room j lists ≡ true
room_before k word j lists h =
    let a : j < length (with_word_for k word lists) = room_there j (with_word_for k word lists) h in
    let e : length (with_word_for k word lists) ≡ length lists = length-set lists k (slice_index_or lists k [] ++ word ∷ []) in
    let lt : j < length lists = omega (arith, a, e) in
    let few : length (slice_index_or (with_word_for k word lists) j []) < inputs_size = ltb-true _ inputs_size (room_left j (with_word_for k word lists) h) in
    let less : length (slice_index_or lists j []) < inputs_size = longer lists k word j few in
    let one : nat_lt j (length lists) ≡ true = grind (arith, nat_tests, lt) in
    let two : nat_lt (length (slice_index_or lists j [])) inputs_size ≡ true = grind (arith, nat_tests, less) in
    ap₂ (λ a b. a && b) one two

-- ---- the mail alone

mail_if : (b : Bool) (x y : Mailed) (u v : Delivery) → x.mail ≡ u → y.mail ≡ v → (cond b x y).mail ≡ cond b u v
mail_if true x y u v a b = a
mail_if false x y u v a b = b

supplied_mail : (o : Option ℕ) (m : Mailed) → (supplied_to o m).mail ≡ supplied o m.mail
supplied_mail None m = refl
supplied_mail (Some k) m = mail_if (has_room k m.mail.lists) (with_mail k 0 m) m (with_lists m.mail (with_word_for k 0 m.mail.lists)) m.mail refl refl

handed_mail : (o : Option ℕ) (value : ℕ) (m : Mailed) → (handed_to o value m).mail ≡ handed o value m.mail
handed_mail None value m = refl
handed_mail (Some k) value m = mail_if (has_room k m.mail.lists) (with_mail k value m) (without_mail k m) (with_lists m.mail (with_word_for k value m.mail.lists)) (with_lost m.mail k) refl refl

received_mail : (feeds : List Feed) (o : Option Transfer) (m : Mailed) → (received_by feeds o m).mail ≡ received feeds o m.mail
received_mail feeds None m = refl
received_mail feeds (Some t) m = handed_mail (receiver feeds t) t.value m

abbrev transfers_of : Mailed → List Transfer
transfers_of m = m.state.log.transfers

log_if : (b : Bool) (x y : Mailed) (ts : List Transfer) → transfers_of x ≡ ts → transfers_of y ≡ ts → transfers_of (cond b x y) ≡ ts
log_if true x y ts a b = a
log_if false x y ts a b = b

supplied_log : (o : Option ℕ) (m : Mailed) → transfers_of (supplied_to o m) ≡ transfers_of m
supplied_log None m = refl
supplied_log (Some k) m = log_if (has_room k m.mail.lists) (with_mail k 0 m) m (transfers_of m) refl refl

-- ---- a run and its lists

module _ (rule : ReplacementRule) (p : Setup) (content : List ℕ) (requests : List Request) where
  abbrev run : List (List ℕ) → ℕ → MachineState
  run lists n = run_of rule p content lists requests n

  -- the state is that of the run on the lists so far, and a task that has read past the end of its list has no room for a word
  record Follows (n : ℕ) (m : Mailed) : Type 0 where
    pub state : m.state ≡ run m.mail.lists n
    pub reads : (j : ℕ) → has_room j m.mail.lists ≡ true → run_reads_past_end rule p content m.mail.lists requests n j ≡ false
    pub fits : FitsRun p m.mail.lists requests

  with_mail_follows : (n k word : ℕ) (m : Mailed) → Follows n m → has_room k m.mail.lists ≡ true → Follows n (with_mail k word m)
  with_mail_follows n k word m f room =
      let lists : List (List ℕ) = m.mail.lists in
      let lt : k < length lists = room_there k lists room in
      let count : length lists ≡ length p.tasks = f.fits.tasks in
      let within : k < length p.tasks = omega (arith, lt, count) in
      let none : run_reads_past_end rule p content lists requests n k ≡ false = f.reads k room in
      record {
        state = state_extends rule p content lists requests m.state n k word lt f.state none;
        reads = λ j later. reads_stay rule p content lists requests n k word j lt none ∙ f.reads j (room_before k word j lists later);
        fits = lists_stay_fit rule p content lists requests n k word within f.fits (room_is_of_the_list rule p content lists requests n k within ∙ room_left k lists room);
      }

  -- no task that has room for a word reads past the end in the coming cycle
  abbrev ReadsNone : Mailed → Type 0
  ReadsNone m = (j : ℕ) → has_room j m.mail.lists ≡ true → past_of j (coming_step rule p requests m.state) ≡ false

  record Ready (n : ℕ) (m : Mailed) : Type 0 where
    pub follows : Follows n m
    pub none : ReadsNone m

  supplied_ready : (n : ℕ) (m : Mailed) (o : Option ℕ) → wants_input_of rule p requests m.state ≡ o → Follows n m → Ready n (supplied_to o m)
  supplied_ready n m None e f =
      record { follows = f; none = λ j room. not_past j (coming_step rule p requests m.state) (λ same. let x : None ≡ Some j = sym e ∙ same in absurd cc) }
  supplied_ready n m (Some k) e f =
      ⊎_elim (λ (room : has_room k m.mail.lists ≡ true).
      subst (λ b. Ready n (cond b (with_mail k 0 m) m)) (sym room) (with_room room))
      (λ (full : has_room k m.mail.lists ≡ false).
      subst (λ b. Ready n (cond b (with_mail k 0 m) m)) (sym full) (without full))
      (cases_Bool (has_room k m.mail.lists))
    where
      with_room : has_room k m.mail.lists ≡ true → Ready n (with_mail k 0 m)
      with_room room =
          let lt : k < length m.mail.lists = room_there k m.mail.lists room in
          let count : length m.mail.lists ≡ length p.tasks = f.fits.tasks in
          let long : length m.state.work.tasks ≡ length p.tasks = ap (λ (s : MachineState). length s.work.tasks) f.state ∙ run_long rule p content m.mail.lists requests n in
          let within : k < length m.state.work.tasks = omega (arith, lt, count, long) in
          record { follows = with_mail_follows n k 0 m f room; none = λ j later. supplied_finds rule p requests m.state k j within e }

      without : has_room k m.mail.lists ≡ false → Ready n m
      without full = record {
        follows = f;
        none = λ j room. not_past j (coming_step rule p requests m.state) (λ same.
            let x : Some k ≡ Some j = sym e ∙ same in
            let is : k ≡ j = cc in
            let y : true ≡ false = sym room ∙ ap (λ i. has_room i m.mail.lists) (sym is) ∙ full in
            absurd cc);
      }

  cycled_follows : (n : ℕ) (m : Mailed) → Ready n m → Follows (suc n) (cycled rule p requests m)
  unfolding cycles_of
  cycled_follows n m r =
      let f = r.follows in
      let start : MachineState = start_of p m.mail.lists (memory_of p content) in
      record {
        state = ap (step_of rule p requests) f.state;
        reads = λ j room.
            has_read-next rule p requests n start j
            ∙ ap₂ (λ a b. a || b) (f.reads j room) (sym (ap (λ s. past_of j (coming_step rule p requests s)) f.state) ∙ r.none j room);
        fits = f.fits;
      }

  handed_follows : (n value : ℕ) (o : Option ℕ) (m : Mailed) → Follows n m → Follows n (handed_to o value m)
  handed_follows n value None m f = f
  handed_follows n value (Some k) m f =
      ⊎_elim (λ (room : has_room k m.mail.lists ≡ true).
      subst (λ b. Follows n (cond b (with_mail k value m) (without_mail k m))) (sym room) (with_mail_follows n k value m f room))
      (λ (full : has_room k m.mail.lists ≡ false).
      subst (λ b. Follows n (cond b (with_mail k value m) (without_mail k m))) (sym full) (record { state = f.state; reads = f.reads; fits = f.fits }))
      (cases_Bool (has_room k m.mail.lists))

  received_follows : (n : ℕ) (feeds : List Feed) (o : Option Transfer) (m : Mailed) → Follows n m → Follows n (received_by feeds o m)
  received_follows n feeds None m f = f
  received_follows n feeds (Some t) m f = handed_follows n t.value (receiver feeds t) m f

  -- ---- a step

  step_follows : (n : ℕ) (feeds : List Feed) (m : Mailed) → Follows n m → Follows (suc n) (mail_step rule p requests feeds m)
  step_follows n feeds m f =
      received_follows (suc n) feeds (ended_between m.state (stepped rule p requests m).state) (stepped rule p requests m)
      (cycled_follows n (supplied_to (wants_input_of rule p requests m.state) m) (supplied_ready n m (wants_input_of rule p requests m.state) refl f))

  step_mail : (n : ℕ) (feeds : List Feed) (m : Mailed) → Follows n m → (mail_step rule p requests feeds m).mail ≡ with_cycle rule p requests feeds run n m.mail
  step_mail n feeds m f =
      let o : Option ℕ = wants_input_of rule p requests m.state in
      let fed : Mailed = supplied_to o m in
      let ready : Ready n fed = supplied_ready n m o refl f in
      let next : Mailed = cycled rule p requests fed in
      let after : Follows (suc n) next = cycled_follows n fed ready in
      let before : fed.mail ≡ supplied o m.mail = supplied_mail o m in
      let count : length m.state.log.transfers ≡ length (run fed.mail.lists n).log.transfers =
      ap (λ (ts : List Transfer). length ts) (sym (supplied_log o m)) ∙ ap (λ (s : MachineState). length s.log.transfers) ready.follows.state in
      let ended : ended_between m.state next.state ≡ ended_between (run fed.mail.lists n) (run fed.mail.lists (suc n)) =
      ap₂ (λ (s : MachineState) k. slice_get s.log.transfers k) after.state count in
      received_mail feeds (ended_between m.state next.state) next
      ∙ ap (λ e. received feeds e fed.mail) ended
      ∙ ap (λ (d : Delivery). received feeds (ended_between (run d.lists n) (run d.lists (suc n))) d) before
      ∙ ap (λ (s : MachineState). let d : Delivery = supplied (wants_input_of rule p requests s) m.mail in received feeds (ended_between (run d.lists n) (run d.lists (suc n))) d) f.state

  -- ---- any number of them

  record Is (inputs : List (List ℕ)) (feeds : List Feed) (n : ℕ) : Type 0 where
    pub follows : Follows n (mailed_run rule p content inputs requests feeds n)
    pub mail : (mailed_run rule p content inputs requests feeds n).mail ≡ delivered_in rule p content inputs requests feeds n

  run_is : (inputs : List (List ℕ)) (feeds : List Feed) (n : ℕ) → FitsRun p inputs requests → Is inputs feeds n
  unfolding cycles_of steps_of mailed_by delivered_in
  run_is inputs feeds zero fits = record { follows = record { state = refl; reads = λ j room. refl; fits = fits }; mail = refl }
  run_is inputs feeds (suc n) fits =
      let is : Is inputs feeds n = run_is inputs feeds n fits in
      record {
        follows = step_follows n feeds (mailed_run rule p content inputs requests feeds n) is.follows;
        mail = step_mail n feeds (mailed_run rule p content inputs requests feeds n) is.follows ∙ ap (with_cycle rule p requests feeds run n) is.mail;
      }

pub mailed_runs_are_runs : MailedRunsAreRuns
mailed_runs_are_runs rule p content inputs requests feeds n fits =
    let is = run_is rule p content requests inputs feeds n fits in
    record {
      mail = is.mail;
      state = is.follows.state ∙ ap (λ (d : Delivery). run_of rule p content d.lists requests n) is.mail;
      fits = subst (λ (d : Delivery). FitsRun p d.lists requests) is.mail is.follows.fits;
    }
