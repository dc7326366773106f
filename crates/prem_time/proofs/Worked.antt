-- Worked words and texts, computed.
use Rattle.std.specs.Prelude.{codes}
use Rattle.std.specs.Fmt.{digits}
use Rattle.std.proofs.Common.{◌≡◌, refl, ℕ, List, [], ◌∷◌, true, false, None, Some}
use Rattle.prem_resp.specs.declared.busy.load.Load.{Load}
use Rattle.prem_resp.specs.declared.busy.length.Busy.TheVariants.{Within, Past}
use Rattle.prem_time.specs.Times.{TaskTold}
use Rattle.prem_time.specs.Words.{asked_of}
use Rattle.prem_time.specs.Devices.{DeviceTold}
use Rattle.prem_time.specs.Lines.{numbers_text, time_text, wait_text}

-- ---- words

no_devices : asked_of (codes "s.toml" ∷ []) ≡ Some (record { set = codes "s.toml"; distances = [] })
no_devices = refl

two_devices : asked_of (codes "s.toml" ∷ codes "adc=5000" ∷ codes "card=1" ∷ [])
    ≡ Some (record { set = codes "s.toml"; distances = record { device = codes "adc"; every = 5000 } ∷ record { device = codes "card"; every = 1 } ∷ [] })
two_devices = refl

twice : asked_of (codes "s.toml" ∷ codes "adc=5000" ∷ codes "adc=1" ∷ []) ≡ None
twice = refl

most : asked_of (codes "s.toml" ∷ codes "adc=1099511627776" ∷ []) ≡ Some (record { set = codes "s.toml"; distances = record { device = codes "adc"; every = 1099511627776 } ∷ [] })
most = refl

too_many : asked_of (codes "s.toml" ∷ codes "adc=1099511627777" ∷ []) ≡ None
too_many = refl

none_apart : asked_of (codes "s.toml" ∷ codes "adc=0" ∷ []) ≡ None
none_apart = refl

no_number : asked_of (codes "s.toml" ∷ codes "adc" ∷ []) ≡ None
no_number = refl

no_name : asked_of (codes "s.toml" ∷ codes "=5" ∷ []) ≡ None
no_name = refl

-- ---- texts

abbrev marked : List ℕ → TaskTold
marked name = record { name = name; bound = 975; intervals = record { name = codes "set"; stated = 491; opens = 473 } ∷ [] }

abbrev quiet : List ℕ → TaskTold
quiet name = record { name = name; bound = 400; intervals = [] }

abbrev load : ℕ → Load
load period = record { period = period; cost = 835; longest = 511 }

abbrev dma : DeviceTold
dma = record { name = codes "dma"; cost = 40; every = 5000; queue = 2; wait = Some 7080 }

one_text : time_text (marked (codes "m") ∷ []) (load 1000 ∷ []) (Within 835 ∷ []) (dma ∷ []) 835 true
    ≡ codes "task m bound 975 wcet 835 longest 511 blocks 0 length 835\ninterval set stated 491 opens 473\ndevice dma cost 40 every 5000 wait 7080 queued 2 of 2\nlimit 835\nfits\n"
unfolding digits numbers_text wait_text
one_text = refl

late_text : time_text (quiet (codes "a") ∷ marked (codes "b") ∷ []) (load 1000 ∷ load 10000 ∷ []) (Past ∷ Within 2505 ∷ []) (record dma { wait = None } ∷ []) 11670 false
    ≡ codes "task a bound 400 wcet 835 longest 511 blocks 511 past\ntask b bound 975 wcet 835 longest 511 blocks 0 length 2505\ninterval set stated 491 opens 473\ndevice dma cost 40 every 5000 late\nlimit 11670\nlate\n"
unfolding digits numbers_text wait_text
late_text = refl
