-- What is delivered are words, so what holds of sound images holds of their runs with feeds.
use Rattle.std.specs.Prelude.{is_some, slice_get, slice_index_or}
use Rattle.std.proofs.Common.{◌≡◌, ℕ, zero, suc, ◌<◌, ◌^◌, Bool, true, false, cond, leb, List, [], ◌∷◌, ◌++◌, length, Option, None, Some, IfSome, All, refl, sym, subst, arith}
use Rattle.std.proofs.lemmas.Bool.{cond_both}
use Rattle.std.proofs.lemmas.List.Elements.{All-head, All-nil, All-push, All-set, All-tail}
use Rattle.prem_isa.specs.Plain.{with_last}
use Rattle.prem_lru.specs.Entries.{ReplacementRule}
use Rattle.prem_gate.specs.declared.request.Request.{Request}
use Rattle.prem_gate.specs.declared.bus.Window.{Window}
use Rattle.prem_gate.specs.declared.bus.Carried.{Carried}
use Rattle.prem_gate.specs.declared.bus.Transfer.{Transfer}
use Rattle.prem_gate.specs.declared.bus.CoreWant.{CoreWant}
use Rattle.prem_gate.specs.declared.bus.CoreWant.TheVariants.{No, New, Held}
use Rattle.prem_gate.specs.Gates.{GatesState, Turned, slot_of, value_of, startable, taken, ends, goes_on, carries, wants, starts, bus_free, bus_with, bus_turn}
use Rattle.prem_gate.specs.Ranges.{IsStart}
use Rattle.prem_gate.proofs.Places.{startable_is}
use Rattle.prem_cycle.specs.State.{Setup, MachineState, start_of}
use Rattle.prem_cycle.specs.Core.{want_of}
use Rattle.prem_cycle.specs.Cycle.{Arrivals, arrivals_at, bus_at, cycle_of, is_over, step_of}
use Rattle.prem_cycle.specs.Run.{cycles_of, memory_of, run_of, wants_input_of}
use Rattle.prem_cycle.specs.Runs.Inputs.Extended.{with_word_for}
use Rattle.prem_sound.specs.Serve.Requests.{PutWords}
use Rattle.prem_sound.specs.Sound.{AreInputs}
use Rattle.prem_sound.proofs.ServeLemmas.Puts.{HoldAll, arrivals_all, head_all, cycles_all, start_all}
use Rattle.prem_sound.proofs.ServeLemmas.Queues.{queue_at, cycle_transfers}
use Rattle.prem_sound.proofs.ServeLemmas.Words.{PutsWord}
use Rattle.prem_mail.specs.declared.feed.Feed.{Feed}
use Rattle.prem_mail.specs.Delivery.{Delivery, has_room, with_lists, with_lost, supplied, fed_by, receiver, ended_between, handed, received, delivered_in}
use Rattle.prem_mail.specs.Laws.{IsRun}
use Rattle.prem_mail.specs.Good.{MailedRunsAreGood}
use Rattle.prem_mail.proofs.Runs.{mailed_runs_are_runs}

abbrev IsWord : ℕ → Type 0
IsWord value = value < 2 ^ 32

-- ---- the values of transfers

-- a put's value is a word
abbrev IsRight : Transfer → Type 0
IsRight t = IfSome t.request.put (λ put. t.value < 2 ^ 32)

value_right : (slot : ℕ) (put : Option ℕ) (memory : List ℕ) → IfSome put (λ value. value < 2 ^ 32) → IfSome put (λ v. value_of slot put memory < 2 ^ 32)
value_right slot None memory h = tt
value_right slot (Some v) memory h = h

abbrev EndsRight : Turned → Type 0
EndsRight t = IfSome t.turn.ended IsRight

carries_right : (clash : Bool) (c : Carried) (s : GatesState) (memory : List ℕ) → PutsWord c.request → EndsRight (carries clash c s memory)
carries_right clash c s memory h =
    cond_both (leb c.left 1) (ends clash c s memory) (goes_on clash c s memory) EndsRight (λ _. value_right (slot_of s c) c.request.put memory h) (λ _. tt)

starts_right : (now : ℕ) (w : Window) (core : Bool) (start : Option Carried) (s : GatesState) (memory : List ℕ) → startable now w s ≡ start →
    HoldAll PutsWord s → EndsRight (starts core start s memory)
starts_right now w core None s memory is h = tt
starts_right now w core (Some c) s memory is h =
    let x : IsStart now w s.gates c = startable_is now w s c is in
    carries_right core c (taken c.device s) memory (head_all PutsWord (queue_at s c.device) c.request x.head (h.queues c.device))

free_right : (now : ℕ) (w : Window) (core : CoreWant) (start : Option Carried) (s : GatesState) (memory : List ℕ) → startable now w s ≡ start →
    HoldAll PutsWord s → EndsRight (bus_free core start s memory)
free_right now w No start s memory is h = starts_right now w false start s memory is h
free_right now w New start s memory is h = starts_right now w true start s memory is h
free_right now w Held start s memory is h = tt

with_right : (now : ℕ) (w : Window) (core : CoreWant) (carried : Option Carried) (s : GatesState) (memory : List ℕ) → IfSome carried (λ c. PutsWord c.request) → HoldAll PutsWord s →
    EndsRight (bus_with core carried (startable now w s) s memory)
with_right now w core (Some c) s memory x h = carries_right (wants core) c s memory x
with_right now w core None s memory x h = free_right now w core (startable now w s) s memory refl h

turn_right : (now : ℕ) (w : Window) (core : CoreWant) (s : GatesState) (memory : List ℕ) → HoldAll PutsWord s → EndsRight (bus_turn now w core s memory)
turn_right now w core s memory h = with_right now w core s.carried s memory h.carried h

-- ---- those of a run

push_right : (o : Option Transfer) (xs : List Transfer) → IfSome o IsRight → All IsRight xs → All IsRight (with_last o xs)
push_right None xs x h = h
push_right (Some t) xs x h = All-push IsRight xs t h x

step_right : (rule : ReplacementRule) (p : Setup) (requests : List Request) (s : MachineState) → PutWords requests → HoldAll PutsWord s.gates →
    All IsRight s.log.transfers → All IsRight (step_of rule p requests s).log.transfers
step_right rule p requests s puts h right =
    let a : Arrivals = arrivals_at requests s in
    cond_both (is_over s) s (cycle_of rule p requests s) (λ (x : MachineState). All IsRight x.log.transfers) (λ _. right)
    (λ _. subst (All IsRight) (sym (cycle_transfers rule p a (bus_at a.gates s) s))
    (push_right (bus_at a.gates s).turn.ended s.log.transfers (turn_right s.now s.core.window (want_of s.core.debt) a.gates s.work.memory (arrivals_all PutsWord s.now requests _ puts h)) right))

run_right : (rule : ReplacementRule) (p : Setup) (content : List ℕ) (inputs : List (List ℕ)) (requests : List Request) (n : ℕ) → PutWords requests →
    All IsRight (run_of rule p content inputs requests n).log.transfers
unfolding cycles_of
run_right rule p content inputs requests zero puts = All-nil IsRight
run_right rule p content inputs requests (suc n) puts =
    let s = start_of p inputs (memory_of p content) in
    step_right rule p requests (cycles_of rule p requests n s) puts (cycles_all PutsWord rule p requests n s puts (start_all PutsWord p inputs (memory_of p content)))
    (run_right rule p content inputs requests n puts)

right_at : (xs : List Transfer) (k : ℕ) → All IsRight xs → IfSome (slice_get xs k) IsRight
right_at [] k h = tt
right_at (x ∷ xs) zero h = All-head IsRight x xs h
right_at (x ∷ xs) (suc k) h = right_at xs k (All-tail IsRight x xs h)

-- ---- what is delivered

abbrev pub AreWords : List ℕ → Type 0
AreWords words = All (λ word. word < 2 ^ 32) words

abbrev pub AllWords : List (List ℕ) → Type 0
AllWords lists = All (λ words. All (λ word. word < 2 ^ 32) words) lists

words_at : (lists : List (List ℕ)) (k : ℕ) → AllWords lists → AreWords (slice_index_or lists k [])
words_at [] k h = All-nil IsWord
words_at (ws ∷ lists) zero h = All-head AreWords ws lists h
words_at (ws ∷ lists) (suc k) h = words_at lists k (All-tail AreWords ws lists h)

one_more : (k word : ℕ) (lists : List (List ℕ)) → IsWord word → AllWords lists → AllWords (with_word_for k word lists)
one_more k word lists w h = All-set AreWords lists k (slice_index_or lists k [] ++ word ∷ []) (All-push IsWord (slice_index_or lists k []) word (words_at lists k h) w) h

supplied_words : (o : Option ℕ) (d : Delivery) → AllWords d.lists → AllWords (supplied o d).lists
supplied_words None d h = h
supplied_words (Some k) d h = cond_both (has_room k d.lists) (with_lists d (with_word_for k 0 d.lists)) d (λ (x : Delivery). AllWords x.lists) (λ _. one_more k 0 d.lists (omega arith) h) (λ _. h)

handed_words : (o : Option ℕ) (value : ℕ) (d : Delivery) → IfSome o (λ k. value < 2 ^ 32) → AllWords d.lists → AllWords (handed o value d).lists
handed_words None value d w h = h
handed_words (Some k) value d w h =
    cond_both (has_room k d.lists) (with_lists d (with_word_for k value d.lists)) (with_lost d k) (λ (x : Delivery). AllWords x.lists) (λ _. one_more k value d.lists w h) (λ _. h)

put_there : (put : Option ℕ) (value : ℕ) (o : Option ℕ) → IfSome put (λ v. value < 2 ^ 32) → IfSome (cond (is_some put) o None) (λ k. value < 2 ^ 32)
put_there None value o h = tt
put_there (Some v) value None h = tt
put_there (Some v) value (Some k) h = h

received_words : (feeds : List Feed) (o : Option Transfer) (d : Delivery) → IfSome o IsRight → AllWords d.lists → AllWords (received feeds o d).lists
received_words feeds None d x h = h
received_words feeds (Some t) d x h = handed_words (receiver feeds t) t.value d (put_there t.request.put t.value (fed_by feeds t.device t.request.line) x) h

delivered_words : (rule : ReplacementRule) (p : Setup) (content : List ℕ) (inputs : List (List ℕ)) (requests : List Request) (feeds : List Feed) (n : ℕ) → AllWords inputs → PutWords requests →
    AllWords (delivered_in rule p content inputs requests feeds n).lists
unfolding delivered_in
delivered_words rule p content inputs requests feeds zero h puts = h
delivered_words rule p content inputs requests feeds (suc n) h puts =
    let d : Delivery = delivered_in rule p content inputs requests feeds n in
    let before : Delivery = supplied (wants_input_of rule p requests (run_of rule p content d.lists requests n)) d in
    let s : MachineState = run_of rule p content before.lists requests n in
    let next : MachineState = run_of rule p content before.lists requests (suc n) in
    received_words feeds (ended_between s next) before (right_at next.log.transfers (length s.log.transfers) (run_right rule p content before.lists requests (suc n) puts))
    (supplied_words (wants_input_of rule p requests (run_of rule p content d.lists requests n)) d (delivered_words rule p content inputs requests feeds n h puts))

-- ---- good runs

pub mailed_runs_are_good : MailedRunsAreGood
mailed_runs_are_good rule p content promises limit inputs requests feeds n sound are fits puts =
    let run : IsRun rule p content inputs requests feeds n = mailed_runs_are_runs rule p content inputs requests feeds n fits in
    let lists : List (List ℕ) = (delivered_in rule p content inputs requests feeds n).lists in
    let inputs_are : AreInputs p lists = record { count = run.fits.tasks; words = delivered_words rule p content inputs requests feeds n are.words puts } in
    record {
      inputs = inputs_are;
      good = sound.good lists requests n inputs_are fits.short.trace puts;
      finished = λ late. sound.finished lists requests n inputs_are fits.short.trace puts late;
    }
