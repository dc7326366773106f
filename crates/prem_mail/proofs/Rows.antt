-- A worked run with a feed, computed: `void job(void) { int x = 0; x = in(); out(x); }` in two jobs of a period of 1000 cycles. The device puts 5 in
-- the idle window between them, so the first job takes a 0 that comes as it is wanted, and the second one the 5.
use Rattle.std.proofs.Common.{◌≡◌, ℕ, List, [], ◌∷◌, refl, lit≤}
use Rattle.prem_lru.specs.Entries.{to_front}
use Rattle.prem_gate.specs.declared.request.Request.{Request}
use Rattle.prem_cycle.specs.declared.facts.DeviceFacts.{DeviceFacts}
use Rattle.prem_cycle.specs.State.{Setup, Counts}
use Rattle.prem_cycle.specs.FactsOf.{TaskReport, report_of}
use Rattle.prem_cycle.specs.Run.{cycles_of, run_of}
use Rattle.prem_cycle.proofs.Images.{bytes_in, alone, device, put, get}
use Rattle.prem_cycle.proofs.Told.{task_told, gate, counted}
use Rattle.prem_mail.specs.declared.feed.Feed.{Feed}
use Rattle.prem_mail.specs.Mailing.{Mailed, Mailing, mailed_by}
use Rattle.prem_mail.specs.Laws.{mailed_first, mailed_run}
use Rattle.prem_mail.specs.Calls.{AreOneCall}
use Rattle.prem_mail.proofs.TwoCalls.{two_calls_are_one}

-- the start at 0, the job at 8, the stack from 64 to 80, the device's area from 80 on
abbrev echo : List ℕ
echo =
    0x008000ef ∷ 0x0000300b ∷ 0xff010113 ∷ 0x00112023 ∷ 0x00000513 ∷ 0x00a12223 ∷ 0x0000450b
    ∷ 0x00a12223 ∷ 0x00412503 ∷ 0x0005500b ∷ 0x00012083 ∷ 0x01010113 ∷ 0x00008067 ∷ []

abbrev machine : Setup
machine = alone 144 2 80 (device 40 80 ∷ [])

abbrev feed : ℕ → ℕ → ℕ → Feed
feed device line task = record { device = device; line = line; task = task }

abbrev mailed : List Feed → List Request → ℕ → Mailed
mailed feeds requests n = mailed_run to_front machine (bytes_in echo) ([] ∷ []) requests feeds n

-- the lists, what is lost, the outputs, the cycles, and what is counted
abbrev told : Mailed → List (List ℕ) × List ℕ × List TaskReport × ℕ
told m = (m.mail.lists, m.mail.lost, (report_of m.state).tasks, m.state.now)

abbrev counts : Mailed → Counts × List DeviceFacts
counts m = ((report_of m.state).counts, (report_of m.state).devices)

row : told (mailed (feed 0 0 0 ∷ []) (put 30 0 0 5 ∷ []) 1100) ≡ ((0 ∷ 5 ∷ []) ∷ [], 0 ∷ [], task_told (0 ∷ 5 ∷ []) 2 ∷ [], 1040)
unfolding cycles_of mailed_by
row = refl

row_counts : counts (mailed (feed 0 0 0 ∷ []) (put 30 0 0 5 ∷ []) 1100) ≡ (counted 31 5 0 0 0, gate 0 0 ∷ [])
unfolding cycles_of mailed_by
row_counts = refl

-- the run on these lists has the same report
same_outputs : (report_of (run_of to_front machine (bytes_in echo) ((0 ∷ 5 ∷ []) ∷ []) (put 30 0 0 5 ∷ []) 1100)).tasks ≡ task_told (0 ∷ 5 ∷ []) 2 ∷ []
unfolding cycles_of
same_outputs = refl

-- a feed of another line, and a `get`, bring nothing
other_line : (mailed (feed 0 1 0 ∷ []) (put 30 0 0 5 ∷ []) 1100).mail.lists ≡ (0 ∷ 0 ∷ []) ∷ []
unfolding cycles_of mailed_by
other_line = refl

a_get : (mailed (feed 0 0 0 ∷ []) (get 30 0 0 ∷ []) 1100).mail.lists ≡ (0 ∷ 0 ∷ []) ∷ []
unfolding cycles_of mailed_by
a_get = refl

-- this run in memory, before its first cycle: calls up to cycles 500 and 1100 are one up to 1100
abbrev begun : Mailing
begun = record { setup = machine; requests = put 30 0 0 5 ∷ []; feeds = feed 0 0 0 ∷ []; mailed = mailed_first machine (bytes_in echo) ([] ∷ []) }

in_two_calls : AreOneCall 500 1100 begun
in_two_calls = two_calls_are_one 500 1100 begun (lit≤ tt) (lit≤ tt)
