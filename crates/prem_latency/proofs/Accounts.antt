-- What a task has kept closed for the job that isn't over: no more than it is charged, with what is left of its scope's credit, where each call
-- takes so many cycles as it keeps closed.
use Rattle.std.proofs.Common.{◌≡◌, ℕ, ◌+◌, ◌-◌, ◌≤◌, min, refl, ap, ◌∙◌, sym, arith, true, false, Bool, List, ◌<◌, leb}
use Rattle.prem_plant.specs.declared.plant.Plant.{Plant}
use Rattle.prem_isa.specs.declared.effect.Phase.{Phase}
use Rattle.prem_isa.specs.declared.effect.Phase.TheVariants.{Compatible, Memory as MemoryPhase, Execution}
use Rattle.prem_isa.specs.declared.effect.Change.{Change}
use Rattle.prem_isa.specs.declared.effect.Change.TheVariants.{Stay, Memory, Execute, End, Job}
use Rattle.prem_isa.specs.Act.{phase_after}
use Rattle.prem_isa.specs.Bounds.{IsLawful}
use Rattle.prem_isa.specs.Plain.{Did}
use Rattle.prem_gate.specs.declared.bus.Window.{Window}
use Rattle.prem_cycle.specs.declared.state.Interval.{Interval}
use Rattle.prem_cycle.specs.Core.{is_predictable, window_after}
use Rattle.prem_cycle.specs.Cycle.{ends_before}
use Rattle.prem_cycle.proofs.CoreCases.{Continues, Closes}
use Rattle.prem_sound.specs.Paced.Paced.{within_job}
use Rattle.prem_sound.proofs.ResidentLemmas.Residents.{Issued}
use Rattle.prem_sound.proofs.Spends.{kept_by}
use Rattle.prem_sound.specs.Scopes.Charged.{did_charge}
use Rattle.std.specs.Prelude.{◌&&◌, not}
use Rattle.std.proofs.lemmas.Bool.{le-leb, leb-false}
use Rattle.prem_gate.specs.Gates.{fits}
use Rattle.prem_resp.specs.Busy.Schedule.{one_if}

-- ---- one cycle

-- the window of an interval is open, but for its last cycles
pub record IsOpen (w : Window) (now first stated : ℕ) : Type 0 where
  pub start : w.start ≤ now
  pub close : w.close ≡ first + stated

module _ (longest : ℕ) where
  -- what a cycle counts that is for the task, or for another
  abbrev pub counts : Bool → ℕ → Window → ℕ
  counts serves now w = one_if (serves && not (fits now w longest))

  pub one_most : (serves : Bool) (now : ℕ) (w : Window) → counts serves now w ≤ 1
  one_most serves now w = by (serves && not (fits now w longest)) where
    by : (b : Bool) → one_if b ≤ 1
    by true = omega arith
    by false = omega arith

  -- in an open window only the last cycles count
  pub open_counts : (serves : Bool) (now first stated : ℕ) (w : Window) → IsOpen w now first stated →
      counts serves now w + (now + longest - (first + stated + 1)) ≤ now + 1 + longest - (first + stated + 1)
  open_counts serves now first stated w o = by (leb (now + longest) w.close) refl where
    open_fits : leb (now + longest) w.close ≡ true → fits now w longest ≡ true
    open_fits e = ap (λ b. b && (leb (now + longest) w.close)) (le-leb w.start now o.start) ∙ e

    and_none : (b : Bool) → (b && false) ≡ false
    and_none true = refl
    and_none false = refl

    by : (b : Bool) → leb (now + longest) w.close ≡ b → counts serves now w + (now + longest - (first + stated + 1)) ≤ now + 1 + longest - (first + stated + 1)
    by true e =
        let z : counts serves now w ≡ 0 = ap (λ b. one_if (serves && not b)) (open_fits e) ∙ ap one_if (and_none serves) in
        omega (arith, z)
    by false e =
        let past : w.close < now + longest = leb-false (now + longest) w.close e in
        let one : counts serves now w ≤ 1 = one_most serves now w in
        omega (arith, past, one, o.close)

-- ---- the accounts of a task

module _ (switch longest most : ℕ) where
  -- in a call, behind its `pm.mem`: so many cycles at most as have passed since its interval's first one, and behind its `pm.exec` also so many
  -- as it takes to open, and the last ones
  abbrev pub InCall : Phase → (now first stated opened had short job : ℕ) → Window → Type 0
  InCall Compatible now first stated opened had short job w = Unit {0}
  InCall MemoryPhase now first stated opened had short job w = had + first + short ≤ job + now
  InCall Execution now first stated opened had short job w =
      (had + first + short ≤ job + now) × (had + short ≤ job + (opened + 1) + (now + longest - (first + stated + 1))) × IsOpen w now first stated

  -- in an interval that is predictable or not, behind an instruction with this change
  abbrev pub HasShut : Bool → Change → Phase → (now owed credit first stated opened had short job : ℕ) → Window → Type 0
  HasShut false Stay ph now owed credit first stated opened had short job w = had + owed + credit + kept_by switch ph short ≤ switch + job
  HasShut false (Execute l) ph now owed credit first stated opened had short job w = had + owed + credit + kept_by switch ph short ≤ switch + job
  HasShut false Memory ph now owed credit first stated opened had short job w = had + owed + kept_by switch ph short ≤ job
  HasShut false End ph now owed credit first stated opened had short job w = Unit {0}
  HasShut false Job ph now owed credit first stated opened had short job w = had + owed ≤ most
  HasShut true Stay ph now owed credit first stated opened had short job w = InCall ph now first stated opened had short job w
  HasShut true (Execute l) ph now owed credit first stated opened had short job w = InCall ph now first stated opened had short job w
  HasShut true Memory ph now owed credit first stated opened had short job w = Unit {0}
  HasShut true End ph now owed credit first stated opened had short job w = InCall Execution now first stated opened had short job w
  HasShut true Job ph now owed credit first stated opened had short job w = Unit {0}

  -- where it is to issue
  abbrev pub MayShut : Bool → Phase → (now credit first stated opened had short job : ℕ) → Window → Type 0
  MayShut false ph now credit first stated opened had short job w = had + credit + kept_by switch ph short ≤ switch + job
  MayShut true ph now credit first stated opened had short job w = InCall ph now first stated opened had short job w

  -- a cycle passes in which it owes less
  call_on : (serves : Bool) (ph : Phase) (now first stated opened had short job : ℕ) (w : Window) →
      InCall ph now first stated opened had short job w → InCall ph (now + 1) first stated opened (had + counts longest serves now w) short job w
  call_on serves Compatible now first stated opened had short job w h = tt
  call_on serves MemoryPhase now first stated opened had short job w h = let one : counts longest serves now w ≤ 1 = one_most longest serves now w in omega (arith, h, one)
  call_on serves Execution now first stated opened had short job w h =
      let one : counts longest serves now w ≤ 1 = one_most longest serves now w in
      let last : counts longest serves now w + (now + longest - (first + stated + 1)) ≤ now + 1 + longest - (first + stated + 1) = open_counts longest serves now first stated w h.2 in
      (omega (arith, h.0, one), omega (arith, h.1, last), record { start = omega (arith, h.2.start); close = h.2.close })

  pub shut_on : (serves b : Bool) (mark : Change) (ph : Phase) (now owed owed' credit first stated opened had short job : ℕ) (w : Window) →
      1 + owed' ≤ owed → HasShut b mark ph now owed credit first stated opened had short job w →
      HasShut b mark ph (now + 1) owed' credit first stated opened (had + counts longest serves now w) short job w
  shut_on serves false Stay ph now owed owed' credit first stated opened had short job w le h = let one : counts longest serves now w ≤ 1 = one_most longest serves now w in omega (arith, le, h, one)
  shut_on serves false (Execute l) ph now owed owed' credit first stated opened had short job w le h = let one : counts longest serves now w ≤ 1 =
      one_most longest serves now w in omega (arith, le, h, one)
  shut_on serves false Memory ph now owed owed' credit first stated opened had short job w le h = let one : counts longest serves now w ≤ 1 = one_most longest serves now w in omega (arith, le, h, one)
  shut_on serves false End ph now owed owed' credit first stated opened had short job w le h = tt
  shut_on serves false Job ph now owed owed' credit first stated opened had short job w le h = let one : counts longest serves now w ≤ 1 = one_most longest serves now w in omega (arith, le, h, one)
  shut_on serves true Stay ph now owed owed' credit first stated opened had short job w le h = call_on serves ph now first stated opened had short job w h
  shut_on serves true (Execute l) ph now owed owed' credit first stated opened had short job w le h = call_on serves ph now first stated opened had short job w h
  shut_on serves true Memory ph now owed owed' credit first stated opened had short job w le h = tt
  shut_on serves true End ph now owed owed' credit first stated opened had short job w le h = call_on serves Execution now first stated opened had short job w h
  shut_on serves true Job ph now owed owed' credit first stated opened had short job w le h = tt

  -- it waits for its end
  pub shut_waits : (serves b : Bool) (i : Interval) (mark : Change) (ph : Phase) (now owed credit first stated opened had short job : ℕ)
      (w : Window) → Closes mark → (b ≡ false → mark ≡ End → ⊥) → ends_before now i mark ≡ false →
      HasShut b mark ph now owed credit first stated opened had short job w →
      HasShut b mark ph (now + 1) owed credit first stated opened (had + counts longest serves now w) short job w
  shut_waits serves b i Stay ph now owed credit first stated opened had short job w y no_end e h = absurd y
  shut_waits serves b i (Execute l) ph now owed credit first stated opened had short job w y no_end e h = absurd y
  shut_waits serves b i Memory ph now owed credit first stated opened had short job w y no_end e h = absurd (let z : true ≡ false = e in cc)
  shut_waits serves b i Job ph now owed credit first stated opened had short job w y no_end e h = absurd (let z : true ≡ false = e in cc)
  shut_waits serves false i End ph now owed credit first stated opened had short job w y no_end e h = absurd (no_end refl refl)
  shut_waits serves true i End ph now owed credit first stated opened had short job w y no_end e h = call_on serves Execution now first stated opened had short job w h

  pub shut_goes : (b : Bool) (mark : Change) (ph : Phase) (now owed credit first stated opened had short job : ℕ) (w : Window) → Continues mark →
      HasShut b mark ph now owed credit first stated opened had short job w → MayShut b ph now credit first stated opened had short job w
  shut_goes false Stay ph now owed credit first stated opened had short job w g h = omega (arith, h)
  shut_goes false (Execute l) ph now owed credit first stated opened had short job w g h = omega (arith, h)
  shut_goes true Stay ph now owed credit first stated opened had short job w g h = h
  shut_goes true (Execute l) ph now owed credit first stated opened had short job w g h = h
  shut_goes b Memory ph now owed credit first stated opened had short job w g h = absurd g
  shut_goes b End ph now owed credit first stated opened had short job w g h = absurd g
  shut_goes b Job ph now owed credit first stated opened had short job w g h = absurd g

  -- an interval begins
  pub shut_begins : (ph : Phase) (now stated opened had short job : ℕ) (w : Window) → (ph ≡ Execution → ⊥) →
      had + kept_by switch ph short ≤ switch + job → MayShut (is_predictable ph) ph now 0 now stated opened had short job w
  shut_begins Compatible now stated opened had short job w none h = omega (arith, h)
  shut_begins MemoryPhase now stated opened had short job w none h = omega (arith, h)
  shut_begins Execution now stated opened had short job w none h = absurd (none refl)

  -- ---- an instruction

  call_same : (now first stated stated' opened opened' had short short' job job' : ℕ) (w : Window) → job' ≡ job →
      (short' ≡ short) × (stated' ≡ stated) × (opened' ≡ opened) → InCall Execution now first stated opened had short job w →
      InCall Execution now first stated' opened' had short' job' w
  call_same now first stated stated' opened opened' had short short' job job' w e k h =
      (omega (arith, h.0, k.0, e), omega (arith, h.1, k.0, k.1, k.2, e), record { start = h.2.start; close = omega (arith, h.2.close, k.1) })

  pub shut_issues : (plant : Plant) (serves : Bool) (ph : Phase) (c : Change)
      (now owed credit spare charge first stated opened had short job next stated' opened' short' : ℕ) (w : Window) → plant.switch ≡ switch → IsLawful ph c →
      ((l : ℕ) → c ≡ Execute l → l ≡ stated) → ((l : ℕ) → c ≡ Execute l → now ≤ first + opened) →
      (ph ≡ Compatible → owed + 1 + spare ≤ credit + charge) → job + did_charge plant next ph c charge ≤ most →
      (c ≡ Memory → short' ≡ next) → ((c ≡ Memory → ⊥) → (short' ≡ short) × (stated' ≡ stated) × (opened' ≡ opened)) →
      MayShut (is_predictable ph) ph now credit first stated opened had short job w →
      HasShut (is_predictable ph) c (phase_after c ph) (now + 1) owed spare first stated' opened' (had + counts longest serves now w) short'
      (within_job c (job + did_charge plant next ph c charge)) (window_after c now first w)
  shut_issues plant serves Compatible Stay now owed credit spare charge first stated opened had short job next stated' opened' short' w sw l ex op pay le km ks h =
      let one : counts longest serves now w ≤ 1 = one_most longest serves now w in
      omega (arith, pay refl, h, one)
  shut_issues plant serves Compatible Memory now owed credit spare charge first stated opened had short job next stated' opened' short' w sw l ex op pay le km ks h =
      let one : counts longest serves now w ≤ 1 = one_most longest serves now w in
      omega (arith, pay refl, km refl, h, one, sw)
  shut_issues plant serves Compatible Job now owed credit spare charge first stated opened had short job next stated' opened' short' w sw l ex op pay le km ks h =
      let one : counts longest serves now w ≤ 1 = one_most longest serves now w in
      omega (arith, pay refl, le, h, one, sw)
  shut_issues plant serves Compatible (Execute t)
      now owed credit spare charge first stated opened had short job next stated' opened' short' w sw l ex op pay le km ks h =
      absurd (let y : Compatible ≡ MemoryPhase = l in cc)
  shut_issues plant serves Compatible End now owed credit spare charge first stated opened had short job next stated' opened' short' w sw l ex op pay
      le km ks h = absurd (let y : Compatible ≡ Execution = l in cc)
  shut_issues plant serves MemoryPhase Stay now owed credit spare charge first stated opened had short job next stated' opened' short' w sw l ex op pay le km ks h =
      let one : counts longest serves now w ≤ 1 = one_most longest serves now w in
      let k : (short' ≡ short) × (stated' ≡ stated) × (opened' ≡ opened) = ks (λ x. let y : Stay ≡ Memory = x in cc) in
      omega (arith, h, one, k.0)
  shut_issues plant serves MemoryPhase (Execute t) now owed credit spare charge first stated opened had short job next stated' opened' short' w sw l ex op pay le km ks h =
      let one : counts longest serves now w ≤ 1 = one_most longest serves now w in
      let k : (short' ≡ short) × (stated' ≡ stated) × (opened' ≡ opened) = ks (λ x. let y : Execute t ≡ Memory = x in cc) in
      let same : t ≡ stated = ex t refl in
      let soon : now ≤ first + opened = op t refl in
      (omega (arith, h, one, k.0), omega (arith, h, one, k.0, k.2, soon), record { start = omega arith; close = omega (arith, same, k.1) })
  shut_issues plant serves MemoryPhase Memory now owed credit spare charge first stated opened had short job next stated' opened' short' w sw l ex op
      pay le km ks h = absurd (let y : MemoryPhase ≡ Compatible = l in cc)
  shut_issues plant serves MemoryPhase End now owed credit spare charge first stated opened had short job next stated' opened' short' w sw l ex op pay
      le km ks h = absurd (let y : MemoryPhase ≡ Execution = l in cc)
  shut_issues plant serves MemoryPhase Job now owed credit spare charge first stated opened had short job next stated' opened' short' w sw l ex op pay
      le km ks h = absurd (let y : MemoryPhase ≡ Compatible = l in cc)
  shut_issues plant serves Execution Stay now owed credit spare charge first stated opened had short job next stated' opened' short' w sw l ex op pay le km ks h =
      let k : (short' ≡ short) × (stated' ≡ stated) × (opened' ≡ opened) = ks (λ x. let y : Stay ≡ Memory = x in cc) in
      call_same (now + 1) first stated stated' opened opened' (had + counts longest serves now w) short short' job (job + 0) w (omega arith) k
      (call_on serves Execution now first stated opened had short job w h)
  shut_issues plant serves Execution End now owed credit spare charge first stated opened had short job next stated' opened' short' w sw l ex op pay le km ks h =
      let k : (short' ≡ short) × (stated' ≡ stated) × (opened' ≡ opened) = ks (λ x. let y : End ≡ Memory = x in cc) in
      call_same (now + 1) first stated stated' opened opened' (had + counts longest serves now w) short short' job (job + 0) w (omega arith) k
      (call_on serves Execution now first stated opened had short job w h)
  shut_issues plant serves Execution (Execute t)
      now owed credit spare charge first stated opened had short job next stated' opened' short' w sw l ex op pay le km ks h =
      absurd (let y : Execution ≡ MemoryPhase = l in cc)
  shut_issues plant serves Execution Memory now owed credit spare charge first stated opened had short job next stated' opened' short' w sw l ex op
      pay le km ks h = absurd (let y : Execution ≡ Compatible = l in cc)
  shut_issues plant serves Execution Job now owed credit spare charge first stated opened had short job next stated' opened' short' w sw l ex op pay
      le km ks h = absurd (let y : Execution ≡ Compatible = l in cc)

  -- ---- the end

  -- an interval that ends leaves the job with no more than is due
  pub shut_ends : (b : Bool) (mark : Change) (i : Interval) (ph : Phase) (ds : List Did) (now owed credit stated opened had short job : ℕ)
      (w : Window) → i.predictable ≡ b → 1 ≤ longest → short ≡ min stated (opened + longest) → ends_before now i mark ≡ true →
      Issued mark ph stated ds i → (b ≡ true → mark ≡ End → now ≤ i.first + i.stated) → (mark ≡ Job → ⊥) →
      HasShut b mark ph now owed credit i.first stated opened had short job w → had + kept_by switch ph short ≤ job
  shut_ends b Stay i ph ds now owed credit stated opened had short job w pred some sh e y late no_job h = absurd (let z : false ≡ true = e in cc)
  shut_ends b (Execute t) i ph ds now owed credit stated opened had short job w pred some sh e y late no_job h = absurd (let z : false ≡ true = e in cc)
  shut_ends b Job i ph ds now owed credit stated opened had short job w pred some sh e y late no_job h = absurd (no_job refl)
  shut_ends false Memory i ph ds now owed credit stated opened had short job w pred some sh e y late no_job h = omega (arith, h)
  shut_ends true Memory i ph ds now owed credit stated opened had short job w pred some sh e y late no_job h = absurd (let z : false ≡ true = sym y.0 ∙ pred in cc)
  shut_ends false End i ph ds now owed credit stated opened had short job w pred some sh e y late no_job h = absurd (let z : true ≡ false = sym y.0 ∙ pred in cc)
  shut_ends true End i ph ds now owed credit stated opened had short job w pred some sh e y late no_job h =
      let z : kept_by switch ph short ≡ 0 = ap (λ q. kept_by switch q short) y.1 in
      let at : now ≤ i.first + i.stated = late refl refl in
      omega (arith, z, at, y.2, h.0, h.1, sh, some)

  -- a job that ends has no more than the most
  pub shut_job : (b : Bool) (mark : Change) (i : Interval) (ph : Phase) (ds : List Did) (now owed credit stated opened had short job : ℕ)
      (w : Window) → i.predictable ≡ b → Issued mark ph stated ds i → mark ≡ Job →
      HasShut b mark ph now owed credit i.first stated opened had short job w → had ≤ most
  shut_job false Job i ph ds now owed credit stated opened had short job w pred y e h = omega (arith, h)
  shut_job true Job i ph ds now owed credit stated opened had short job w pred y e h = absurd (let z : false ≡ true = sym y.0 ∙ pred in cc)
  shut_job b Stay i ph ds now owed credit stated opened had short job w pred y e h = absurd (let z : Stay ≡ Job = e in cc)
  shut_job b (Execute t) i ph ds now owed credit stated opened had short job w pred y e h = absurd (let z : Execute t ≡ Job = e in cc)
  shut_job b Memory i ph ds now owed credit stated opened had short job w pred y e h = absurd (let z : Memory ≡ Job = e in cc)
  shut_job b End i ph ds now owed credit stated opened had short job w pred y e h = absurd (let z : End ≡ Job = e in cc)
