-- Runs in which devices feed tasks: the input words that are delivered within some cycles.
use Rattle.std.specs.Prelude.{ℕ, zero, suc, ◌+◌, ◌&&◌, nat_lt, Bool, if◌then◌else◌, List, [], ◌∷◌, length, map, Option, None, Some, is_some, slice_get, slice_index, slice_index_or, slice_set}
use Rattle.prem_lru.specs.Entries.{ReplacementRule}
use Rattle.prem_gate.specs.declared.request.Request.{Request}
use Rattle.prem_gate.specs.declared.bus.Transfer.{Transfer}
use Rattle.prem_cycle.specs.State.{Setup, MachineState}
use Rattle.prem_cycle.specs.FactsOf.{inputs_size}
use Rattle.prem_cycle.specs.Run.{run_of, wants_input_of}
use Rattle.prem_cycle.specs.Runs.Inputs.Extended.{with_word_for}
use Rattle.prem_mail.specs.declared.feed.Feed.{Feed}
use Rattle.prem_mail.specs.MailFile.{is_of}

-- the lists of input words, one for each task, and how many values of each task were lost
pub record Delivery : Type 0 where
  pub lists : List (List ℕ)
  pub lost : List ℕ

abbrev pub with_lists : Delivery → List (List ℕ) → Delivery
with_lists d lists = record { lists = lists; lost = d.lost }

abbrev pub with_lost : Delivery → ℕ → Delivery
with_lost d k = record { lists = d.lists; lost = slice_set d.lost k (slice_index d.lost k + 1) }

-- there is such a list, and it has fewer words than it may have
abbrev pub has_room : ℕ → List (List ℕ) → Bool
has_room k lists = nat_lt k (length lists) && nat_lt (length (slice_index_or lists k [])) inputs_size

-- ---- before a cycle

-- the task whose `pm.in` is to issue with its list used up gets a 0, unless its list is full
abbrev pub supplied : Option ℕ → Delivery → Delivery
supplied None d = d
supplied (Some k) d = if has_room k d.lists then with_lists d (with_word_for k 0 d.lists) else d

-- ---- behind a cycle

-- the task of the first feed of this device and line
abbrev pub fed_by : List Feed → ℕ → ℕ → Option ℕ
fed_by [] device line = None
fed_by (f ∷ feeds) device line = if is_of device line f then Some f.task else fed_by feeds device line

-- the transfer that the log of a later state has first behind those of this one
abbrev pub ended_between : MachineState → MachineState → Option Transfer
ended_between s later = slice_get later.log.transfers (length s.log.transfers)

-- the task that is to get its value: a get feeds none
abbrev pub receiver : List Feed → Transfer → Option ℕ
receiver feeds t = if is_some t.request.put then fed_by feeds t.device t.request.line else None

-- it gets the value, or the value is lost where its list is full
abbrev pub handed : Option ℕ → ℕ → Delivery → Delivery
handed None value d = d
handed (Some k) value d = if has_room k d.lists then with_lists d (with_word_for k value d.lists) else with_lost d k

abbrev pub received : List Feed → Option Transfer → Delivery → Delivery
received feeds None d = d
received feeds (Some t) d = handed (receiver feeds t) t.value d

-- ---- a run

-- the words that the run begins with, and no value is lost
abbrev pub at_first : Setup → List (List ℕ) → Delivery
at_first p inputs = record { lists = inputs; lost = map (λ t. 0) p.tasks }

-- one cycle more, where the run on any lists is known
abbrev pub with_cycle : ReplacementRule → Setup → List Request → List Feed → (run : List (List ℕ) → ℕ → MachineState) → ℕ → Delivery → Delivery
with_cycle rule p requests feeds run n d =
    let before : Delivery = supplied (wants_input_of rule p requests (run d.lists n)) d in
    received feeds (ended_between (run before.lists n) (run before.lists (suc n))) before

-- what is delivered within n cycles: each cycle is that of the run on the lists so far, from the start
unfoldable pub delivered_in : ReplacementRule → Setup → (content : List ℕ) (inputs : List (List ℕ)) (requests : List Request) → List Feed → ℕ → Delivery
delivered_in rule p content inputs requests feeds zero = at_first p inputs
delivered_in rule p content inputs requests feeds (suc n) =
    with_cycle rule p requests feeds (λ lists. run_of rule p content lists requests) n (delivered_in rule p content inputs requests feeds n)
