-- A core with its tasks, their bytes and scripts: what is known of it in a state, and that a cycle keeps this, whatever the bus does
-- that serves it, and however long it is kept waiting at scheduling points.
use Rattle.std.proofs.Common.{◌≡◌, ℕ, ◌<◌, ◌≤◌, Bool, length}
use Rattle.prem_pair.proofs.Prelude.{turn_with, Runs, bump_move, CoreMove, phase_in, Arrivals, joined, ticked, Setup, record_of, MachineState, Turned, TaskRun, ReplacementRule, HasTotals}
use Rattle.prem_pair.proofs.Prelude.{OrderRule, Lasts, core_lasts, KnownCore, Meets, Faces, Comes, faces, comes, core_keeps, core_known, NeedsIn, TurnNeeds, core_turns, ticked_needs}
use Rattle.prem_pair.proofs.Prelude.{off_behind, Timed, core_timed, IsPolicy, Script}
use Rattle.prem_image.specs.declared.image.TaskRecord.{TaskRecord}
use Rattle.prem_sound.proofs.ResidentLemmas.Keeps.{KeepScripts, Keeps}
use Rattle.std.specs.Prelude.{All}

pub record Hosted : Type 0 where
  pub rule : ReplacementRule
  pub order : OrderRule
  pub passes : ℕ → ℕ
  pub setup : Setup
  pub own : ℕ → ℕ → Bool
  pub runs : ℕ → TaskRun
  pub scripts : ℕ → Script
  pub policy : IsPolicy rule order passes
  pub keep : KeepScripts setup passes runs scripts
  pub are_runs : Runs setup own runs
  pub jobs_are : (k : ℕ) → k < length setup.tasks → (runs k).jobs ≡ (record_of setup k).jobs
  pub periods : All (λ (r : TaskRecord). 1 ≤ r.period) setup.tasks
  pub charged : HasTotals setup runs scripts

module _ (g : Hosted) where
  abbrev pub FacesIn : (ℕ → ℕ) → Turned → CoreMove → MachineState → Type 0
  FacesIn at b m s = Faces g.rule g.order g.passes g.setup g.own g.runs g.scripts g.policy g.keep g.are_runs at b m s

  abbrev pub ComesIn : (ℕ → ℕ) → Arrivals → Turned → CoreMove → MachineState → Type 0
  ComesIn at a b m s = Comes g.rule g.order g.passes g.setup g.own g.runs g.scripts g.policy g.keep g.are_runs at a b m s

  abbrev pub KeepsIn : (ℕ → ℕ) → MachineState → Type 0
  KeepsIn at s = Keeps g.rule g.order g.passes g.setup g.own g.runs g.scripts g.policy g.keep at s

  abbrev pub LastsIn : (ℕ → ℕ) → MachineState → Type 0
  LastsIn at s = Lasts g.rule g.order g.passes g.setup g.own g.runs g.scripts g.policy g.keep at s

  abbrev pub TimedIn : ℕ → (ℕ → ℕ) → MachineState → Type 0
  TimedIn off at s = Timed g.rule g.order g.passes g.setup g.own g.runs g.scripts g.policy g.keep g.jobs_are g.periods g.charged.scopings g.charged.scoped g.charged.total g.charged.totals off at s

  -- its tasks have issued so many instructions each, and it hasn't worked in so many cycles
  pub record CoreHolds (off : ℕ) (at : ℕ → ℕ) (s : MachineState) : Type 0 where
    pub known : KnownCore g.setup g.own g.runs at s
    pub keeps : KeepsIn at s
    pub lasts : LastsIn at s
    pub timed : TimedIn off at s
    pub needs : NeedsIn s.work s.core

  -- behind its part of a cycle, and behind the end of the cycle
  pub record CoreSteps (off : ℕ) (at : ℕ → ℕ) (a : Arrivals) (b : Turned) (m : CoreMove) (s : MachineState) : Type 0 where
    pub faced : FacesIn at b m s
    pub came : ComesIn at a b m s
    pub turned : TurnNeeds g.rule g.order g.passes g.setup g.own g.runs g.scripts g.policy g.keep g.are_runs m (phase_in s.work) (turn_with g.rule g.setup b m s)
    pub holds : CoreHolds (off_behind m off) (bump_move m at) (ticked (joined a b (turn_with g.rule g.setup b m s) s))

  pub core_steps : (off : ℕ) (at : ℕ → ℕ) (a : Arrivals) (b : Turned) (m : CoreMove) (s : MachineState) → CoreHolds off at s → Meets g.setup g.own b m s → CoreSteps off at a b m s
  core_steps off at a b m s h meets =
      let f : FacesIn at b m s = faces g.rule g.order g.passes g.setup g.own g.runs g.scripts g.policy g.keep g.are_runs at b m s h.known h.keeps meets in
      let c : ComesIn at a b m s = comes g.rule g.order g.passes g.setup g.own g.runs g.scripts g.policy g.keep g.are_runs at a b m s h.known h.keeps meets in
      let t : TurnNeeds g.rule g.order g.passes g.setup g.own g.runs g.scripts g.policy g.keep g.are_runs m (phase_in s.work) (turn_with g.rule g.setup b m s) =
      core_turns g.rule g.order g.passes g.setup g.own g.runs g.scripts g.policy g.keep g.are_runs at a b m s h.needs meets f c in
      record {
        faced = f;
        came = c;
        turned = t;
        holds = record {
          known = core_known g.rule g.order g.passes g.setup g.own g.runs g.scripts g.policy g.keep g.are_runs at a b m s c;
          keeps = core_keeps g.rule g.order g.passes g.setup g.own g.runs g.scripts g.policy g.keep g.are_runs at a b m s c;
          lasts = core_lasts g.rule g.order g.passes g.setup g.own g.runs g.scripts g.policy g.keep g.are_runs at a b m s h.keeps h.lasts meets f c;
          timed = core_timed g.rule g.order g.passes g.setup g.own g.runs g.scripts g.policy g.keep g.jobs_are g.periods g.charged.scopings
              g.charged.scoped g.charged.total g.charged.totals g.are_runs off at a b m s h.known h.keeps h.lasts h.timed meets f c;
          needs = ticked_needs (joined a b (turn_with g.rule g.setup b m s) s) t.needs;
        };
      }
