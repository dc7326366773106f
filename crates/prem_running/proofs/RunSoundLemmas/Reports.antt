-- Runs of sound images fill no log before they have finished, so their reports end with `finished` or `stopped`.
use Rattle.std.proofs.Common.{◌≡◌, ℕ, ◌+◌, ◌≤◌, ◌==◌, ◌⊎◌, Bool, true, false, ◌||◌, cond, List, Option, None, Some, is_some, unwrap_or, refl, ap, sym, ◌∙◌, arith, inl, inr, ⊎_elim, true≢false}
use Rattle.std.proofs.lemmas.Bool.{cases_Bool, false_from_ne_true}
use Rattle.prem_lru.specs.Entries.{ReplacementRule}
use Rattle.prem_gate.specs.declared.request.Request.{Request}
use Rattle.prem_cycle.specs.declared.state.Stop.{Stop}
use Rattle.prem_cycle.specs.declared.state.Stop.TheVariants.{Finished, LogFull, Limit}
use Rattle.prem_cycle.specs.declared.state.Trap.{Trap}
use Rattle.prem_cycle.specs.State.{Setup, MachineState, start_of}
use Rattle.prem_cycle.specs.Cycle.{is_finished, is_full, is_over, log_size}
use Rattle.prem_cycle.specs.Run.{memory_of, run_of}
use Rattle.prem_cycle.specs.FactsOf.{stop_trapped}
use Rattle.prem_cycle.proofs.RunLaws.{cycles_of-add, cycles_of-over}
use Rattle.prem_sound.specs.Script.Scripts.{Promise}
use Rattle.prem_sound.specs.Sound.{Sound}
use Rattle.prem_exec.specs.Exec.{stop_at}
use Rattle.prem_running.specs.RunSound.Runs.{SuitsRun, HasRoom, SoundRunsNeverFill, EndsWell, SoundReportsEnd}

pub third_true : (a b c : Bool) → c ≡ true → (a || b || c) ≡ true
third_true true b c h = refl
third_true false true c h = refl
third_true false false c h = h

-- ---- why a run stops

-- the log, then the cycle
abbrev stop_full : ℕ → MachineState → Bool → Option Stop
stop_full n s full = cond full (Some (LogFull log_size)) (cond (s.now == n) (Some Limit) None)

abbrev stop_by : ℕ → MachineState → Bool → Stop
stop_by n s finished = unwrap_or (cond finished (Some Finished) (stop_trapped s.trapped (stop_full n s (is_full s)))) Limit

at_cycle : (b : Bool) → unwrap_or (cond b (Some Limit) None) Limit ≡ Limit
at_cycle true = refl
at_cycle false = refl

pub tells_finished : (n : ℕ) (s : MachineState) → is_finished s ≡ true → stop_at n s ≡ Finished
tells_finished n s f = ap (stop_by n s) f

tells_limit : (n : ℕ) (s : MachineState) → HasRoom s → is_finished s ≡ false → stop_at n s ≡ Limit
tells_limit n s h f =
    ap (stop_by n s) f
    ∙ ap (λ (t : Option Trap). unwrap_or (stop_trapped t (stop_full n s (is_full s))) Limit) h.untrapped
    ∙ ap (λ (b : Bool). unwrap_or (stop_full n s b) Limit) (h.room f)
    ∙ at_cycle (s.now == n)

pub tells_one : (n : ℕ) (s : MachineState) → HasRoom s → (stop_at n s ≡ Finished) ⊎ (stop_at n s ≡ Limit)
tells_one n s h = ⊎_elim (λ (f : is_finished s ≡ true). inl (tells_finished n s f)) (λ (f : is_finished s ≡ false). inr (tells_limit n s h f)) (cases_Bool (is_finished s))

-- ---- runs of sound images

module _ (rule : ReplacementRule) (p : Setup) (content : List ℕ) (promises : List (List ℕ) → ℕ → Promise) (limit : ℕ) (inputs : List (List ℕ))
    (requests : List Request) (sound : Sound rule p content promises limit)
    (suits : SuitsRun p inputs requests) where
  abbrev state : ℕ → MachineState
  state n = run_of rule p content inputs requests n

  from_limit : (n : ℕ) → limit ≤ n → is_finished (state n) ≡ true
  from_limit n le = sound.finished inputs requests n suits.inputs_are suits.trace suits.puts le

  -- a state with a full log stays, and comes to the limit so
  full_finished : (n : ℕ) → is_full (state n) ≡ true → is_finished (state n) ≡ true
  full_finished n full =
      let over : is_over (state n) ≡ true = third_true (is_finished (state n)) (is_some (state n).trapped) (is_full (state n)) full in
      let same : state (n + limit) ≡ state n = cycles_of-add rule p requests n limit (start_of p inputs (memory_of p content)) ∙ cycles_of-over rule p requests limit (state n) over in
      ap is_finished (sym same) ∙ from_limit (n + limit) (omega arith)

  has_room : (n : ℕ) → HasRoom (state n)
  has_room n = record {
    untrapped = (sound.good inputs requests n suits.inputs_are suits.trace suits.puts).untrapped;
    room = λ going. false_from_ne_true (is_full (state n)) (λ full. true≢false (sym (full_finished n full) ∙ going));
  }

  ends_well : (n : ℕ) → EndsWell limit n (state n)
  ends_well n = record { ends = tells_one n (state n) (has_room n); finishes = λ le. tells_finished n (state n) (from_limit n le) }

pub sound_runs_never_fill : SoundRunsNeverFill
sound_runs_never_fill rule p content promises limit inputs requests n sound suits = has_room rule p content promises limit inputs requests sound suits n

pub sound_reports_end : SoundReportsEnd
sound_reports_end rule p content promises limit inputs requests n sound suits = ends_well rule p content promises limit inputs requests sound suits n
