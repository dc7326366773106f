-- A run with feeds before its first cycle.
use Rattle.std.specs.Prelude.{slice_index_or}
use Rattle.std.proofs.Common.{◌≡◌, ℕ, zero, suc, ◌<◌, ◌≤◌, All, List, [], ◌∷◌, length, map, replicate, refl, ap, sym, ◌∙◌, subst, arith}
use Rattle.std.proofs.lemmas.List.{length-map, length-replicate}
use Rattle.std.proofs.lemmas.List.Elements.{All-replicate}
use Rattle.prem_list.specs.declared.Sequence.{Sequence}
use Rattle.prem_list.specs.Sequence.{items_of, room_of}
use Rattle.prem_lru.specs.Entries.{ReplacementRule}
use Rattle.prem_gate.specs.declared.request.Request.{Request}
use Rattle.prem_image.specs.declared.image.TaskRecord.{TaskRecord}
use Rattle.prem_cycle.specs.State.{Setup, MachineState, first_task, first_tasks, no_record, start_of}
use Rattle.prem_cycle.specs.FactsOf.{inputs_size}
use Rattle.prem_cycle.specs.Run.{cycles_of, memory_of, run_of}
use Rattle.prem_cycle.specs.Runs.Inputs.Taken.{TakesFrom}
use Rattle.prem_machine.specs.States.{Running}
use Rattle.prem_set.specs.Run.Views.{lists_of}
use Rattle.prem_mail.specs.declared.feed.Feed.{Feed}
use Rattle.prem_mail.specs.Feeds.{IsFeed}
use Rattle.prem_mail.specs.Laws.{mailed_first}
use Rattle.prem_mail.specs.MailFields.{HoldsMail}
use Rattle.prem_mail.specs.Mailing.{Mailed}

-- ---- the state

begins : (rule : ReplacementRule) (p : Setup) (content : List ℕ) (inputs : List (List ℕ)) (requests : List Request) → run_of rule p content inputs requests 0 ≡ start_of p inputs (memory_of p content)
unfolding cycles_of
begins rule p content inputs requests = refl

all_zero : (tasks : List TaskRecord) → replicate {A = ℕ} (length tasks) 0 ≡ map (λ t. 0) tasks
all_zero [] = refl
all_zero (t ∷ ts) = ap (λ ns. 0 ∷ ns) (all_zero ts)

pub first_mailed : (rule : ReplacementRule) (p : Setup) (content : List ℕ) (inputs lists : List (List ℕ)) (requests : List Request) (s : MachineState) (lost : List ℕ) (count : ℕ) →
    s ≡ run_of rule p content inputs requests 0 → lists ≡ inputs → lost ≡ replicate count 0 → count ≡ length p.tasks →
    ◌≡◌ {A = Mailed} (record { state = s; mail = record { lists = lists; lost = lost } }) (mailed_first p content inputs)
first_mailed rule p content inputs lists requests s lost count is same zeros long =
    let made : MachineState → List (List ℕ) → List ℕ → Mailed = λ u ls ns. record { state = u; mail = record { lists = ls; lost = ns } } in
    ap (λ u. made u lists lost) (is ∙ begins rule p content inputs requests)
    ∙ ap (λ ls. made (start_of p inputs (memory_of p content)) ls lost) same
    ∙ ap (made (start_of p inputs (memory_of p content)) inputs) (zeros ∙ ap (λ n. replicate n 0) long ∙ all_zero p.tasks)

-- ---- what the parts keep

tasks_counted : (rs : List TaskRecord) (inputs : List (List ℕ)) → length (first_tasks rs inputs) ≡ length rs
tasks_counted [] inputs = refl
tasks_counted (r ∷ rs) [] = ap suc (tasks_counted rs [])
tasks_counted (r ∷ rs) (ws ∷ inputs) = ap suc (tasks_counted rs inputs)

first_takes : (rs : List TaskRecord) (inputs : List (List ℕ)) (k : ℕ) → k < length inputs → length inputs ≡ length rs →
    TakesFrom (slice_index_or inputs k []) (slice_index_or (first_tasks rs inputs) k (first_task no_record []))
first_takes rs [] k lt long = absurd (omega (arith, lt))
first_takes [] (ws ∷ inputs) k lt long = absurd (omega (arith, long))
first_takes (r ∷ rs) (ws ∷ inputs) zero lt long = record { used = omega arith; left = refl }
first_takes (r ∷ rs) (ws ∷ inputs) (suc k) lt long = first_takes rs inputs k (omega (arith, lt)) (omega (arith, long))

fed : (tasks : ℕ) (lines : List ℕ) (feeds : List Feed) → All (IsFeed tasks lines) feeds → All (λ (f : Feed). f.task < tasks) feeds
fed tasks lines feeds h k d lt = (h k d lt).task

pub first_holds : (rule : ReplacementRule) (p : Setup) (content : List ℕ) (inputs : List (List ℕ)) (requests : List Request) (lines : List ℕ)
    (r : Running) (feeds given : List Feed) (words : Sequence (Sequence ℕ)) (lost : List ℕ) (count : ℕ) →
    r.state ≡ run_of rule p content inputs requests 0 → r.setup ≡ p → feeds ≡ given → All (IsFeed (length p.tasks) lines) given → lists_of words ≡ inputs → length inputs ≡ length p.tasks →
    All (λ list. inputs_size ≤ room_of list) (items_of words) → lost ≡ replicate count 0 → count ≡ length p.tasks → HoldsMail r feeds words lost
first_holds rule p content inputs requests lines r feeds given words lost count is setup same each lists long rooms zeros counted =
    let state : r.state ≡ start_of p inputs (memory_of p content) = is ∙ begins rule p content inputs requests in
    let mapped : length (lists_of words) ≡ length (items_of words) = length-map (items_of words) items_of in
    let as_many : length (lists_of words) ≡ length inputs = ap (λ (ls : List (List ℕ)). length ls) lists in
    let tasks : length r.setup.tasks ≡ length p.tasks = ap (λ (q : Setup). length q.tasks) setup in
    let working : length r.state.work.tasks ≡ length p.tasks = ap (λ (s : MachineState). length s.work.tasks) state ∙ tasks_counted p.tasks inputs in
    let zero_count : length lost ≡ count = ap (λ (ns : List ℕ). length ns) zeros ∙ length-replicate count 0 in
    record {
      count = omega (arith, mapped, as_many, tasks, long);
      counts = omega (arith, zero_count, counted, tasks);
      tasks = omega (arith, working, tasks);
      rooms = rooms;
      taken = λ k lt.
          subst (λ (s : MachineState). TakesFrom (slice_index_or (lists_of words) k []) (slice_index_or s.work.tasks k (first_task no_record []))) (sym state)
          (subst (λ (ls : List (List ℕ)). TakesFrom (slice_index_or ls k []) (slice_index_or (first_tasks p.tasks inputs) k (first_task no_record []))) (sym lists)
          (first_takes p.tasks inputs k (omega (arith, lt, mapped, as_many)) long));
      known = subst (λ n. All (λ (f : Feed). f.task < n) feeds) (sym tasks)
          (subst (λ (fs : List Feed). All (λ (f : Feed). f.task < length p.tasks) fs) (sym same) (fed (length p.tasks) lines given each));
      few = subst (λ (ns : List ℕ). All (λ n. n ≤ length r.state.log.transfers) ns) (sym zeros) (All-replicate (λ n. n ≤ length r.state.log.transfers) count 0 (omega arith));
    }
