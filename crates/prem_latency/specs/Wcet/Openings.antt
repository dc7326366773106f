-- How long the interval of a marked call keeps the bus closed, told by the call's steps behind `pm.mem`.
use Rattle.std.specs.Prelude.{◌≡◌, ℕ, ◌+◌, ◌*◌, min, List, [], ◌∷◌, length, if◌then◌else◌}
use Rattle.prem_plant.specs.declared.plant.Plant.{Plant}
use Rattle.prem_plant.specs.Order.Order.{is_in}
use Rattle.prem_isa.specs.declared.effect.Change.{Change}
use Rattle.prem_isa.specs.declared.effect.Change.TheVariants.{Stay, Memory, Execute, End, Job}
use Rattle.prem_isa.specs.Plain.{Did}
use Rattle.prem_sound.specs.Script.Script.{lines_of_dids, cost_of_dids}
use Rattle.prem_sets_sound.specs.Weave.Weave.{Weave, ends, goes, calls, Section, segment_of}

-- ---- the steps of a call

-- a step with those behind it, where it changes nothing
abbrev pub goes_first : Change → Did → List Did → List Did
goes_first Stay d ds = d ∷ ds
goes_first Memory d ds = []
goes_first (Execute stated) d ds = []
goes_first End d ds = []
goes_first Job d ds = []

-- those before `pm.exec`
abbrev pub before_exec : List Did → List Did
before_exec [] = []
before_exec (d ∷ ds) = goes_first d.change d (before_exec ds)

-- what stands behind a step, unless that is `pm.end`
abbrev pub ends_with : Change → List Did → List Did
ends_with Stay ds = ds
ends_with Memory ds = ds
ends_with (Execute stated) ds = ds
ends_with End ds = []
ends_with Job ds = ds

-- those up to `pm.end`, and with it
abbrev pub up_to_end : List Did → List Did
up_to_end [] = []
up_to_end (d ∷ ds) = d ∷ ends_with d.change (up_to_end ds)

abbrev pub states_or : Change → ℕ → ℕ
states_or Stay n = n
states_or Memory n = n
states_or (Execute stated) n = stated
states_or End n = n
states_or Job n = n

-- the length that they state
abbrev pub stated_of : List Did → ℕ
stated_of [] = 0
stated_of (d ∷ ds) = states_or d.change (stated_of ds)

-- ---- when they open the bus

-- numbers, each once
abbrev pub once : List ℕ → List ℕ
once [] = []
once (x ∷ xs) = if is_in x xs then once xs else x ∷ once xs

-- the lines that they touch
abbrev pub touched_by : Plant → List Did → List ℕ
touched_by p ds = once (lines_of_dids p.line ds)

-- by when `pm.exec` is issued: what the steps before it cost, and a fill and a write back for each line
abbrev pub opening_of : Plant → List Did → ℕ
opening_of p ds = cost_of_dids (before_exec ds) + length (touched_by p ds) * (p.fill + p.back)

-- the stated length, or until the bus is open and for one transfer at the interval's end, whichever is less
abbrev pub shut_of : Plant → (top : ℕ) → List Did → ℕ
shut_of p top ds = min (stated_of ds) (opening_of p ds + top)

-- ---- weaves

-- what each call of a weave counts, by its steps
abbrev pub counts_of : (List Did → ℕ) → Weave → List ℕ
counts_of counts ends = []
counts_of counts (goes d rest) = counts_of counts rest
counts_of counts (calls m rest) = counts (segment_of m) ∷ counts_of counts rest

-- the same call, which names just the lines that it touches
abbrev pub trimmed_call : Plant → Section → Section
trimmed_call p m = record m { call = record { members = touched_by p (segment_of m); stated = m.call.stated } }

abbrev pub trimmed : Plant → Weave → Weave
trimmed p ends = ends
trimmed p (goes d rest) = goes d (trimmed p rest)
trimmed p (calls m rest) = calls (trimmed_call p m) (trimmed p rest)

-- each call names just these
abbrev pub AreTrimmed : Plant → Weave → Type 0
AreTrimmed p ends = Unit {0}
AreTrimmed p (goes d rest) = AreTrimmed p rest
AreTrimmed p (calls m rest) = (m.call.members ≡ touched_by p (segment_of m)) × AreTrimmed p rest
