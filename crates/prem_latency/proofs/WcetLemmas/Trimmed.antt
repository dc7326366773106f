-- A weave whose calls name just the lines that they touch is as good as it was.
use Rattle.std.specs.Prelude.{All, slice_index_or}
use Rattle.std.proofs.Common.{◌≡◌, ℕ, zero, suc, ◌+◌, ◌*◌, ◌<◌, ◌≤◌, refl, ap, ◌∙◌, sym, subst, arith, Bool, List, [], ◌∷◌, ◌++◌, length}
use Rattle.std.proofs.lemmas.Nat.{mul-le}
use Rattle.prem_plant.specs.declared.plant.Plant.{Plant}
use Rattle.prem_plant.specs.Order.Order.{AllIn}
use Rattle.prem_isa.specs.Plain.{TaskRun, PlainState, Did, plain_start, plain_step, plain_steps}
use Rattle.prem_cycle.specs.State.{Setup}
use Rattle.prem_cycle.specs.Runs.Position.Finish.{due_of}
use Rattle.prem_sound.specs.Script.Script.{lines_of_dids, change_due, call_at}
use Rattle.prem_sound.specs.Script.Scripts.{Reading, Promise}
use Rattle.prem_sound.specs.Script.Conforms.{IsOwnDid}
use Rattle.prem_sound.proofs.ScriptLemmas.Residency.{lines_of_dids-append}
use Rattle.prem_sets_sound.specs.Weave.Weave.{Section, segment_of, section_dids, IsSection, Weave, ends, goes, calls, dids_of, calls_of, marks_of, IsWeave, due_along, Goes, IsWoven, EndsAsPromised}
use Rattle.prem_sets_sound.specs.Weave.Pace.Pace.{AreStated}
use Rattle.prem_sets_sound.specs.StubLaws.Charges.Charges.{script_of}
use Rattle.prem_latency.specs.Wcet.Openings.{stated_of, once, touched_by, counts_of, trimmed_call, trimmed, AreTrimmed}
use Rattle.prem_latency.specs.Wcet.Aligned.{StateWithin}
use Rattle.prem_latency.specs.Wcet.Tasks.{script_by}
use Rattle.prem_latency.proofs.WcetLemmas.Openings.{once_all, touched_few, touched_room, left_in, touched_covered, section_states}

module _ (p : Plant) (passes : ℕ → ℕ) where
  section_trimmed : (m : Section) → IsSection p passes m → IsSection p passes (trimmed_call p m)
  section_trimmed m h =
      let xs : List ℕ = lines_of_dids p.line (segment_of m) in
      let split : lines_of_dids p.line (segment_of m) ≡ lines_of_dids p.line m.before ++ lines_of_dids p.line (m.exec ∷ (m.body ++ m.last ∷ [])) =
      lines_of_dids-append p.line m.before (m.exec ∷ (m.body ++ m.last ∷ [])) in
      let own : AllIn (once (lines_of_dids p.line (segment_of m))) (lines_of_dids p.line m.before) =
      left_in (once (lines_of_dids p.line (segment_of m))) (lines_of_dids p.line m.before) (lines_of_dids p.line (m.exec ∷ (m.body ++ m.last ∷ [])))
      (subst (AllIn (once (lines_of_dids p.line (segment_of m)))) split (once_all (lines_of_dids p.line (segment_of m)))) in
      let few = touched_few (lines_of_dids p.line (segment_of m)) m.call.members h.within in
      let less = mul-le (length (touched_by p (segment_of m))) (p.fill + p.back) (length m.call.members) (p.fill + p.back) few (omega arith) in
      record {
        begins = h.begins;
        fetching = h.fetching;
        opens = h.opens;
        running = h.running;
        lasts = h.lasts;
        stated = h.stated;
        within = once_all (lines_of_dids p.line (segment_of m));
        room = touched_room p.sets p.ways (lines_of_dids p.line (segment_of m)) m.call.members h.within h.room;
        covered = touched_covered (lines_of_dids p.line (segment_of m)) m.call.members h.within (passes p.ways) (lines_of_dids p.line m.before) own h.covered;
        fits = shorter _ _ _ _ less h.fits;
      } where
        shorter : (cost x y stated : ℕ) → x ≤ y → cost + y ≤ stated → cost + x ≤ stated
        shorter cost x y stated le h = omega (arith, le, h)

  pub weave_trimmed : (w : Weave) → IsWeave p passes w → IsWeave p passes (trimmed p w)
  weave_trimmed ends h = tt
  weave_trimmed (goes d rest) h = (h.0, weave_trimmed rest h.1)
  weave_trimmed (calls m rest) h = (section_trimmed m h.0, weave_trimmed rest h.1)

  each_stated : (w : Weave) (i : ℕ) → IsWeave p passes w → i < length (counts_of stated_of w) → (call_at (script_of (calls_of w)) i).stated ≤ slice_index_or (counts_of stated_of w) i 0
  each_stated ends i h lt = absurd (omega (arith, lt))
  each_stated (goes d rest) i h lt = each_stated rest i h.1 lt
  each_stated (calls m rest) zero h lt = let e = section_states p passes m h.0 in omega (arith, e)
  each_stated (calls m rest) (suc i) h lt = each_stated rest i h.1 (omega (arith, lt))

  -- what its calls state is what its steps state
  pub stated_within : (w : Weave) → IsWeave p passes w → StateWithin (script_of (calls_of w)) 0 (counts_of stated_of w)
  stated_within w h i lt = let e : i ≡ 0 + i = omega arith in subst (λ n. (call_at (script_of (calls_of w)) n).stated ≤ slice_index_or (counts_of stated_of w) i 0) e (each_stated w i h lt)

each_length : (ns : List ℕ) (i : ℕ) → i < length ns → (call_at (script_by ns) i).stated ≤ slice_index_or ns i 0
each_length [] i lt = absurd (omega (arith, lt))
each_length (n ∷ ns) zero lt = omega arith
each_length (n ∷ ns) (suc i) lt = each_length ns i (omega (arith, lt))

-- and a script of some lengths states these
pub by_lengths : (ns : List ℕ) → StateWithin (script_by ns) 0 ns
by_lengths ns i lt = let e : i ≡ 0 + i = omega arith in subst (λ n. (call_at (script_by ns) n).stated ≤ slice_index_or ns i 0) e (each_length ns i lt)

module _ (p : Plant) where
  pub dids_trimmed : (w : Weave) → dids_of (trimmed p w) ≡ dids_of w
  dids_trimmed ends = refl
  dids_trimmed (goes d rest) = ap (λ ds. d ∷ ds) (dids_trimmed rest)
  dids_trimmed (calls m rest) = ap (λ ds. section_dids m ++ ds) (dids_trimmed rest)

  marks_trimmed : (w : Weave) → marks_of (trimmed p w) ≡ marks_of w
  marks_trimmed ends = refl
  marks_trimmed (goes d rest) = marks_trimmed rest
  marks_trimmed (calls m rest) = ap (λ ms. m.mark ∷ ms) (marks_trimmed rest)

  pub calls_trimmed : (w : Weave) → length (calls_of (trimmed p w)) ≡ length (calls_of w)
  calls_trimmed ends = refl
  calls_trimmed (goes d rest) = calls_trimmed rest
  calls_trimmed (calls m rest) = ap suc (calls_trimmed rest)

  pub counts_trimmed : (counts : List Did → ℕ) (w : Weave) → counts_of counts (trimmed p w) ≡ counts_of counts w
  counts_trimmed counts ends = refl
  counts_trimmed counts (goes d rest) = counts_trimmed counts rest
  counts_trimmed counts (calls m rest) = ap (λ ns. counts (segment_of m) ∷ ns) (counts_trimmed counts rest)

  dues_trimmed : (w : Weave) → due_along p (trimmed p w) ≡ due_along p w
  dues_trimmed ends = refl
  dues_trimmed (goes d rest) = ap (λ n. due_of p d + change_due p 0 d.change + n) (dues_trimmed rest)
  dues_trimmed (calls m rest) = ap (λ n. due_of p m.begin + (2 * p.switch + m.call.stated) + n) (dues_trimmed rest)

  pub states_trimmed : (most : ℕ) (w : Weave) → AreStated most w → AreStated most (trimmed p w)
  states_trimmed most ends h = tt
  states_trimmed most (goes d rest) h = states_trimmed most rest h
  states_trimmed most (calls m rest) h = (h.0, states_trimmed most rest h.1)

  goes_trimmed : (reads : Reading) (run : TaskRun) (x : PlainState) (w : Weave) (y : PlainState) → Goes reads run x w y → Goes reads run x (trimmed p w) y
  goes_trimmed reads run x ends y g = g
  goes_trimmed reads run x (goes d rest) y g = (g.0, goes_trimmed reads run (plain_step run x) rest y g.1)
  goes_trimmed reads run x (calls m rest) y g = (record { trace = g.0.trace; before = g.0.before; after = g.0.after }, goes_trimmed reads run (plain_steps run (length (section_dids m)) x) rest y g.1)

  pub are_trimmed : (w : Weave) → AreTrimmed p (trimmed p w)
  are_trimmed ends = tt
  are_trimmed (goes d rest) = are_trimmed rest
  are_trimmed (calls m rest) = (refl, are_trimmed rest)

-- a run goes along it
pub woven_trimmed : (p : Setup) (passes : ℕ → ℕ) (own : ℕ → Bool) (reads : Reading) (run : TaskRun) (due : ℕ) (w : Weave) (y : PlainState) →
    IsWoven p passes own reads run due w y → IsWoven p passes own reads run due (trimmed p.plant w) y
woven_trimmed p passes own reads run due w y h = record {
  weave = weave_trimmed p.plant passes w h.weave;
  goes_along = goes_trimmed p.plant reads run (plain_start run) w y h.goes_along;
  jobs_end = h.jobs_end;
  untrapped = h.untrapped;
  own_dids = subst (All (IsOwnDid p own)) (sym (dids_trimmed p.plant w)) h.own_dids;
  dues = within _ _ _ (dues_trimmed p.plant w) h.dues;
} where
  within : (a b c : ℕ) → a ≡ b → b ≤ c → a ≤ c
  within a b c e le = omega (arith, e, le)

pub promised_trimmed : (p : Plant) (own : ℕ → Bool) (w : Weave) (y : PlainState) (q : Promise) → EndsAsPromised own w y q → EndsAsPromised own (trimmed p w) y q
promised_trimmed p own w y q h = record { own_bytes = h.own_bytes; outputs = h.outputs; finals = h.finals; marks = h.marks ∙ sym (marks_trimmed p w) }
