-- Two sets that break no rule are sound together.
use Rattle.std.specs.Prelude.{drop, max}
use Rattle.std.proofs.Common.{◌≡◌, ◌+◌, ◌-◌, ◌*◌, ◌≤◌, ◌⊎◌, ◌==◌, ◌||◌, ℕ, Bool, true, false, cond, List, [], ◌∷◌, map, None, Some, Option, unwrap_or, refl, ap, ◌∙◌, sym, arith}
use Rattle.std.proofs.Common.{inl, inr, ⊎_elim, true≢false}
use Rattle.std.proofs.lemmas.Bool.{cases_Bool, false_from_ne_true}
use Rattle.prem_plant.specs.declared.plant.Plant.{Plant}
use Rattle.prem_plant.specs.declared.plant.Device.{Device}
use Rattle.prem_plant.specs.Order.Rules.{order_rule_of, passes_of}
use Rattle.prem_lru.specs.Rules.{rule_of}
use Rattle.prem_cycle.specs.declared.state.Trap.{Trap}
use Rattle.prem_cycle.specs.Alone.{run_in}
use Rattle.prem_cycle.specs.Cycle.{is_full}
use Rattle.prem_cycle.specs.Run.{memory_of}
use Rattle.prem_sound.specs.Script.Scripts.{last_release as last_of}
use Rattle.prem_sound.proofs.ResidentLemmas.Policies.{kind_policy}
use Rattle.prem_pair.specs.declared.cycles.state.PairStop.{PairStop}
use Rattle.prem_pair.specs.declared.cycles.state.PairStop.TheVariants.{Finished, Limit}
use Rattle.prem_pair.specs.Cycles.Pair.{PairState, both_finished, full_stop, is_pair_over, one_full, one_trapped, pair_start, pair_stop_of, trap_stop}
use Rattle.prem_pair.specs.Laws.PairSound.{due_of, GivesScripts}
use Rattle.prem_pair.proofs.CyclesLemmas.PairRuns.{pair_cycles-add, pair_cycles-over}
use Rattle.prem_pair.proofs.LawsLemmas.Images.{pairs_of_images}
use Rattle.prem_layout.specs.Bounds.{JobBound, job_bound_of, last_release, work_of}
use Rattle.prem_layout.specs.Facts.{job_fact}
use Rattle.prem_layout.specs.Image.{device_records, task_record}
use Rattle.prem_layout.specs.Placed.{Placed, part_total}
use Rattle.prem_tasks.specs.Broken.{TaskSet, broken}
use Rattle.prem_tasks.specs.Compiled.{coded_in, places_in, placed_in, job_bounds, compiled}
use Rattle.prem_sets_sound.specs.StubLaws.Own.Owned.{own_of}
use Rattle.prem_sets_sound.specs.StubLaws.JoinedRuns.Joined.{IsJoined}
use Rattle.prem_sets_sound.proofs.StubLawsLemmas.JoinedRunsLemmas.Joined.{scripted, are_scripts, limits}
use Rattle.prem_sets_sound.specs.ImagePremises.Accepted.{HasValues, limits_at, setup_in}
use Rattle.prem_sets_sound.specs.Meant.{promises_in}
use Rattle.prem_sets_sound.proofs.ImagePremisesLemmas.Whole.{accepted_sets_are_laid_out, accepted_sets_join, default_places_are_lawful}
use Rattle.prem_sets_sound.proofs.Sound.{accepted_tasks_are_meant, as_stubs_make, meant_tasks_join}
use Rattle.prem_exec.specs.Forms.{RunText}
use Rattle.prem_running.specs.RunSound.Runs.{SuitsRun}
use Rattle.prem_running.proofs.RunSoundLemmas.Reports.{third_true}
use Rattle.prem_pair_top.specs.Running.{CountsDue, due_in, jobs_due, limit_in, pair_at, pair_stop_at}
use Rattle.prem_pair_top.specs.Sound.{AreSound, PairsOfSetsAreSound, EndsWell, GoesWell, PairReportsEnd}

-- ---- scripts

pub joined : (set : TaskSet) → HasValues set → broken set ≡ None →
    IsJoined (passes_of set.plant.policy) (setup_in set) (compiled set).image.content (own_of (coded_in set) (places_in set))
    (limits_at set.plant (placed_in set)) (promises_in set) (compiled set).limit
joined set values none =
    let kind = set.plant.policy in
    accepted_sets_join (passes_of kind) set (promises_in set) values none
    (meant_tasks_join (passes_of kind) set.plant set.devices (coded_in set) (places_in set) (promises_in set)
    (accepted_sets_are_laid_out set (places_in set) values none (default_places_are_lawful set values none)) (as_stubs_make kind set.plant.ways) (accepted_tasks_are_meant set none))

-- ---- what the jobs of a set are due

releases_are : (p : Plant) (ts : List Placed) → last_release (map (job_fact p) ts) ≡ last_of (map task_record ts)
releases_are p [] = refl
releases_are p (t ∷ ts) = ap (max ((t.task.jobs - 1) * t.task.period)) (releases_are p ts)

pub work_is_due : (p : Plant) (ts : List Placed) → work_of (map (job_fact p) ts) ≡ jobs_due (map task_record ts) (map (λ (j : JobBound). j.bound) (map (job_fact p) ts))
work_is_due p [] = refl
work_is_due p (t ∷ ts) = ap (λ n. t.task.jobs * job_bound_of p t.plans t.table + n) (work_is_due p ts)

-- the limit of a compiled set counts them
pub counts_due : (set : TaskSet) → CountsDue (compiled set)
counts_due set =
    let p = set.plant in
    ap (λ n. n + work_of (job_bounds p (placed_in set))) (releases_are p (placed_in set)) ∙ ap (λ n. last_of (setup_in set).tasks + n) (work_is_due p (placed_in set))

due_within : (limit last due more : ℕ) → limit ≡ last + more → last + due ≤ limit → due ≤ more
due_within limit last due more is h = omega (arith, is, h)

-- its tasks have scripts for all input words
gives_scripts : (set : TaskSet) → HasValues set → broken set ≡ None → GivesScripts (passes_of set.plant.policy) (setup_in set) (compiled set).image.content (promises_in set) (due_in (compiled set))
gives_scripts set values none =
    let passes = passes_of set.plant.policy in
    let p = setup_in set in
    let content = (compiled set).image.content in
    let own = own_of (coded_in set) (places_in set) in
    let most = limits_at set.plant (placed_in set) in
    let h = joined set values none in
    record {
      image = h.image;
      zero = h.zero;
      own = own;
      for_inputs = λ inputs i. record {
        runs = run_in p content inputs;
        scripts = (scripted passes p content own most (promises_in set) (compiled set).limit h inputs i).0;
        are_scripts = are_scripts passes p content own most (promises_in set) (compiled set).limit h inputs i;
        keep = λ k lt. ((scripted passes p content own most (promises_in set) (compiled set).limit h inputs i).1 k lt).kept;
        within =
            due_within (compiled set).limit (last_of p.tasks)
            (due_of p (scripted passes p content own most (promises_in set) (compiled set).limit h inputs i).0) (due_in (compiled set)) (counts_due set)
            (limits passes p content own most (promises_in set) (compiled set).limit h inputs i);
      };
    }

pub no_devices : (set : TaskSet) → set.devices ≡ [] → (setup_in set).devices ≡ []
no_devices set none = ap (λ (ds : List Device). device_records ds (drop (part_total (coded_in set)) (places_in set))) none

pub pairs_of_sets_are_sound : PairsOfSetsAreSound
pairs_of_sets_are_sound one two values other_values none other_none free =
    let kind = one.plant.policy in
    let other = two.plant.policy in
    pairs_of_images (rule_of kind) (rule_of other) (order_rule_of kind) (order_rule_of other) (passes_of kind) (passes_of other) (setup_in one) (setup_in two)
    (compiled one).image.content (compiled two).image.content (promises_in one) (promises_in two) (due_in (compiled one)) (due_in (compiled two)) (kind_policy kind) (kind_policy other)
    (no_devices two free) (gives_scripts one values none) (gives_scripts two other_values other_none)

-- ---- how their reports end

-- nothing has trapped, and they have finished or their logs have room
record HasRoom (s : PairState) : Type 0 where
  untrapped : s.first.trapped ≡ None
  other_untrapped : s.second.trapped ≡ None
  room : both_finished s ≡ false → one_full s ≡ false

parts_false : (a b : Bool) → (a || b) ≡ false → (a ≡ false) × (b ≡ false)
parts_false true b e = absurd cc
parts_false false true e = absurd cc
parts_false false false e = (refl, refl)

abbrev stop_at_cycle : ℕ → PairState → Option PairStop
stop_at_cycle n s = cond (s.first.now == n) (Some Limit) None

abbrev stop_by : ℕ → PairState → Bool → Option Trap → Option Trap → Bool → Bool → Option PairStop
stop_by n s finished t u f g = cond finished (Some Finished) (trap_stop 0 t (trap_stop 1 u (full_stop 0 f (full_stop 1 g (stop_at_cycle n s)))))

-- both have finished
stops_finished : (n : ℕ) (s : PairState) → both_finished s ≡ true → pair_stop_of n s ≡ Some Finished
stops_finished n s f = ap (λ b. stop_by n s b s.first.trapped s.second.trapped (is_full s.first) (is_full s.second)) f

-- or only the cycle decides
stops_by_cycle : (n : ℕ) (s : PairState) → HasRoom s → both_finished s ≡ false → pair_stop_of n s ≡ stop_at_cycle n s
stops_by_cycle n s h f =
    let room = parts_false (is_full s.first) (is_full s.second) (h.room f) in
    ap (λ b. stop_by n s b s.first.trapped s.second.trapped (is_full s.first) (is_full s.second)) f
    ∙ ap (λ t. stop_by n s false t s.second.trapped (is_full s.first) (is_full s.second)) h.untrapped
    ∙ ap (λ t. stop_by n s false None t (is_full s.first) (is_full s.second)) h.other_untrapped
    ∙ ap (λ b. stop_by n s false None None b (is_full s.second)) room.0
    ∙ ap (λ b. stop_by n s false None None false b) room.1

at_cycle : (b : Bool) → unwrap_or (cond b (Some Limit) None) Limit ≡ Limit
at_cycle true = refl
at_cycle false = refl

tells_finished : (n : ℕ) (s : PairState) → both_finished s ≡ true → pair_stop_at n s ≡ Finished
tells_finished n s f = ap (λ o. unwrap_or o Limit) (stops_finished n s f)

tells_limit : (n : ℕ) (s : PairState) → HasRoom s → both_finished s ≡ false → pair_stop_at n s ≡ Limit
tells_limit n s h f = ap (λ o. unwrap_or o Limit) (stops_by_cycle n s h f) ∙ at_cycle (s.first.now == n)

goes_by_cycle : (stop : Option PairStop) (b : Bool) → stop ≡ cond b (Some Limit) None → GoesWell stop
goes_by_cycle stop true e = inr (inr e)
goes_by_cycle stop false e = inl e

goes_well : (n : ℕ) (s : PairState) → HasRoom s → GoesWell (pair_stop_of n s)
goes_well n s h =
    ⊎_elim (λ (f : both_finished s ≡ true). inr (inl (stops_finished n s f)))
    (λ (f : both_finished s ≡ false). goes_by_cycle (pair_stop_of n s) (s.first.now == n) (stops_by_cycle n s h f)) (cases_Bool (both_finished s))

tells_one : (n : ℕ) (s : PairState) → HasRoom s → (pair_stop_at n s ≡ Finished) ⊎ (pair_stop_at n s ≡ Limit)
tells_one n s h =
    ⊎_elim (λ (f : both_finished s ≡ true). inl (tells_finished n s f)) (λ (f : both_finished s ≡ false). inr (tells_limit n s h f)) (cases_Bool (both_finished s))

module _ (one two : TaskSet) (input other : RunText) (sound : AreSound one two) (suits : SuitsRun (setup_in one) input.words input.requests)
    (other_suits : SuitsRun (setup_in two) other.words other.requests) where
  abbrev limit : ℕ
  limit = limit_in (compiled one) (compiled two) input.requests

  abbrev state : ℕ → PairState
  state n = pair_at (compiled one).image (compiled two).image input other n

  from_limit : (n : ℕ) → limit ≤ n → both_finished (state n) ≡ true
  from_limit n le = sound.finished input.words other.words input.requests n suits.inputs_are other_suits.inputs_are suits.trace suits.puts le

  -- a state with a full log stays, and comes to the limit so
  full_finished : (n : ℕ) → one_full (state n) ≡ true → both_finished (state n) ≡ true
  full_finished n full =
      let p = setup_in one in
      let q = setup_in two in
      let start = pair_start p q input.words other.words (memory_of p (compiled one).image.content) (memory_of q (compiled two).image.content) in
      let over : is_pair_over (state n) ≡ true = third_true (both_finished (state n)) (one_trapped (state n)) (one_full (state n)) full in
      let same : state (n + limit) ≡ state n =
      pair_cycles-add (rule_of one.plant.policy) (rule_of two.plant.policy) p q input.requests n limit start
      ∙ pair_cycles-over (rule_of one.plant.policy) (rule_of two.plant.policy) p q input.requests limit (state n) over in
      ap both_finished (sym same) ∙ from_limit (n + limit) (omega arith)

  has_room : (n : ℕ) → HasRoom (state n)
  has_room n =
      let good = sound.good input.words other.words input.requests n suits.inputs_are other_suits.inputs_are suits.trace suits.puts in
      record {
        untrapped = good.first.untrapped;
        other_untrapped = good.second.untrapped;
        room = λ going. false_from_ne_true (one_full (state n)) (λ full. true≢false (sym (full_finished n full) ∙ going));
      }

  ends_well : (n : ℕ) → EndsWell limit n state
  ends_well n = record { ends = tells_one n (state n) (has_room n); finishes = λ le. tells_finished n (state n) (from_limit n le); on_the_way = λ m le. goes_well n (state m) (has_room m) }

pub pair_reports_end : PairReportsEnd
pair_reports_end one two input other n sound suits other_suits = ends_well one two input other sound suits other_suits n
