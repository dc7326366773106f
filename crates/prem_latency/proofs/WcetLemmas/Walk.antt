-- The walk over jobs.
use Rattle.std.specs.Prelude.{slice_index_or}
use Rattle.std.proofs.Common.{◌≡◌, ℕ, zero, suc, ◌+◌, ◌<◌, ◌≤◌, refl, ap, ◌∙◌, sym, subst, arith, List, [], ◌∷◌, ◌++◌, length, None, append_assoc, append-nil}
use Rattle.std.proofs.lemmas.List.{length-append}
use Rattle.prem_plant.specs.declared.plant.Plant.{Plant}
use Rattle.prem_isa.specs.declared.instr.Instr.TheVariants.{PmDone}
use Rattle.prem_isa.specs.Plain.{TaskRun, Did}
use Rattle.prem_cycle.specs.Runs.Position.Finish.{due_of}
use Rattle.prem_sound.specs.Script.Script.{call_at, Script, change_due}
use Rattle.prem_syntax.specs.Resolved.{Resolved}
use Rattle.prem_syntax.specs.Source.{Limits}
use Rattle.prem_asm.specs.Pieces.{jump_weight, jump_to}
use Rattle.prem_asm.specs.Runs.{Setting, Calls, control}
use Rattle.prem_asm.specs.OwnRun.{done_step}
use Rattle.prem_layout.specs.Bounds.{job_weight}
use Rattle.prem_layout.specs.Stretch.Paths.{Path, Takes, longest_from}
use Rattle.prem_layout.specs.Stretch.Sums.{Sums, taking, chained, sums_of_path, IsWithin}
use Rattle.prem_layout.proofs.StretchLemmas.Algebra.{chained_assoc, taken_none}
use Rattle.prem_layout.proofs.StretchLemmas.Exact.{path_joined}
use Rattle.prem_layout.proofs.StretchLemmas.Order.{chained_within, taking_within, longest_within}
use Rattle.prem_code_laws.specs.ExprLaws.Relation.{Globals}
use Rattle.prem_sets_sound.specs.Weave.Weave.{Weave, ends, goes, joined, segment_of, dids_of, calls_of, IsWeave}
use Rattle.prem_sets_sound.specs.StubLaws.JobWeave.Jobs.{JobRun, all_jobs, EachJob}
use Rattle.prem_sets_sound.proofs.WeaveLemmas.Joins.{weaves_join}
use Rattle.prem_sound.specs.Scopes.Strands as S
use Rattle.prem_wcet_laws.specs.Counts.{PathCount, quiet, then_count}
use Rattle.prem_wcet_laws.specs.Divided.{charge_of, path_of, Courses, StaysOn, scope_charge}
use Rattle.prem_wcet_laws.specs.PartedLaws.{is_marked}
use Rattle.prem_wcet_laws.proofs.Alone.{control_divides}
use Rattle.prem_wcet_laws.proofs.Courses.{course_of, courses_join}
use Rattle.prem_latency.specs.Wcet.Marked.{is_marked_call}
use Rattle.prem_latency.specs.Wcet.Openings.{stated_of, counts_of}
use Rattle.prem_latency.specs.Wcet.Aligned.{StateWithin}
use Rattle.prem_latency.specs.Wcet.Jobs.{JobStrand}
use Rattle.prem_latency.specs.Wcet.Walk.{cost_with, stretch_with, CallsCourse, JobsGoByCourses, CallsScope, JobsGoByScopes}
use Rattle.prem_latency.proofs.WcetLemmas.Jobs.{course_jobs_are_charged}
use Rattle.prem_isa.specs.declared.instr.Instr.{Instr}
use Rattle.prem_isa.specs.declared.effect.Phase.{Phase}
use Rattle.prem_isa.specs.declared.effect.Phase.TheVariants.{Compatible}
use Rattle.prem_isa.specs.declared.effect.Change.{Change}
use Rattle.prem_isa.specs.declared.effect.Change.TheVariants.{Stay, Job}
use Rattle.prem_asm.specs.Steps.{AllSteps}
use Rattle.prem_sound.specs.Scopes.Scopes.{Scope, charge_of as charge_of_scope}
use Rattle.prem_sound.specs.Scopes.Strands.{GoesTo, IsWithinInterval, change_behind, last_change, scope_due}
use Rattle.prem_sound.proofs.ScopesLemmas.StrandLaws.{jobs_are_charged}
use Rattle.prem_wcet_laws.specs.Starts.{start_steps}
use Rattle.prem_latency.proofs.WcetLemmas.Aligned.{take}
use Rattle.prem_latency.proofs.WcetLemmas.Partings.{steps_in, scopes_agree}

-- the jump to `job`
abbrev record_did : (at : ℕ) → Instr → Phase → Did
record_did at i ph = record { pc = at; instr = i; phase = ph; access = None; change = Stay }

-- ---- what calls count

counts_joined : (counts : List Did → ℕ) (w v : Weave) → counts_of counts (joined w v) ≡ counts_of counts w ++ counts_of counts v
counts_joined counts ends v = refl
counts_joined counts (goes d rest) v = counts_joined counts rest v
counts_joined counts (Rattle.prem_sets_sound.specs.Weave.Weave.calls m rest) v = ap (λ ns. counts (segment_of m) ∷ ns) (counts_joined counts rest v)

counted_calls : (counts : List Did → ℕ) (w : Weave) → length (counts_of counts w) ≡ length (calls_of w)
counted_calls counts ends = refl
counted_calls counts (goes d rest) = counted_calls counts rest
counted_calls counts (Rattle.prem_sets_sound.specs.Weave.Weave.calls m rest) = ap suc (counted_calls counts rest)

first_counts : (xs ys : List ℕ) (i : ℕ) → i < length xs → slice_index_or (xs ++ ys) i 0 ≡ slice_index_or xs i 0
first_counts [] ys i lt = absurd (omega (arith, lt))
first_counts (x ∷ xs) ys zero lt = refl
first_counts (x ∷ xs) ys (suc i) lt = first_counts xs ys i (omega (arith, lt))

next_counts : (xs ys : List ℕ) (i : ℕ) → slice_index_or (xs ++ ys) (length xs + i) 0 ≡ slice_index_or ys i 0
next_counts [] ys i = let e : 0 + i ≡ i = omega arith in ap (λ n. slice_index_or ys n 0) e
next_counts (x ∷ xs) ys i = let e : suc (length xs) + i ≡ suc (length xs + i) = omega arith in ap (λ n. slice_index_or (x ∷ (xs ++ ys)) n 0) e ∙ next_counts xs ys i

first_states : (s : Script) (begun : ℕ) (xs ys : List ℕ) → StateWithin s begun (xs ++ ys) → StateWithin s begun xs
first_states s begun xs ys h i lt = let n = length-append xs ys in subst (λ m. (call_at s (begun + i)).stated ≤ m) (first_counts xs ys i lt) (h i (omega (arith, lt, n)))

next_states : (s : Script) (begun : ℕ) (xs ys : List ℕ) → StateWithin s begun (xs ++ ys) → StateWithin s (begun + length xs) ys
next_states s begun xs ys h i lt =
    let n = length-append xs ys in
    let e : begun + (length xs + i) ≡ begun + length xs + i = omega arith in
    subst (λ j. (call_at s j).stated ≤ slice_index_or ys i 0) e (subst (λ m. (call_at s (begun + (length xs + i))).stated ≤ m) (next_counts xs ys i) (h (length xs + i) (omega (arith, lt, n))))

module _ (p : Plant) (passes : ℕ → ℕ) (counts : List Did → ℕ) (s : Setting) (gs : Globals) (limits : Limits) (program : Resolved) (own : TaskRun)
    (calls : Calls) (start job : ℕ) (call : PathCount) (cost most : ℕ)
    (course : CallsCourse p counts s gs limits program own calls start job call) (paid : cost_with p call ≤ cost) (long : stretch_with p call ≤ most) (script : Script) where
  abbrev OneJob : Weave → Type 0
  OneJob w = IsWeave p passes w × JobRun s gs limits program own calls start job (dids_of w)

  abbrev done : Did
  done = done_step (own.entry + 4)

  -- with the jump
  with_jump : (w : Weave) → JobRun s gs limits program own calls start job (dids_of w) →
      Courses p (is_marked (is_marked_call p counts)) (then_count (quiet (jump_weight (job_weight p))) call) (dids_of w)
  with_jump w r =
      let at = s.places start in
      let jump = control_divides p at (jump_to 1 at (s.places job)) r.task (jump_weight (job_weight p)) refl (omega arith) in
      subst (Courses p (is_marked (is_marked_call p counts)) (then_count (quiet (jump_weight (job_weight p))) call)) (sym r.steps_are)
      (courses_join p (is_marked (is_marked_call p counts)) (quiet (jump_weight (job_weight p))) call
      (control at (jump_to 1 at (s.places job)) r.task) r.trace (course_of p (is_marked (is_marked_call p counts)) _ _ jump) (course (dids_of w) r))

  done_less : due_of p done ≤ job_weight p PmDone
  done_less = omega arith

  -- with the job's end
  total_less : (c : ℕ) → c ≤ jump_weight (job_weight p) + call.total → c + (due_of p done + p.switch) ≤ cost
  total_less c le = omega (arith, le, done_less, paid)

  stretch_less : (es : Path) → IsWithin (sums_of_path es) (chained (taking (jump_weight (job_weight p))) call.sums) → longest_from 0 (es ++ Takes (due_of p done) ∷ []) ≤ most
  stretch_less es h =
      let j : Sums = taking (jump_weight (job_weight p)) in
      let d : ℕ = due_of p done in
      let last : IsWithin (chained (taking d) (taking 0)) (taking (job_weight p PmDone)) =
      subst (λ z. IsWithin z (taking (job_weight p PmDone))) (sym (taken_none d)) (taking_within d (job_weight p PmDone) done_less) in
      let both : IsWithin (chained (sums_of_path es) (chained (taking d) (taking 0))) (chained (chained j call.sums) (taking (job_weight p PmDone))) =
      chained_within (sums_of_path es) (chained (taking d) (taking 0)) (chained j call.sums) (taking (job_weight p PmDone)) h last in
      let whole : IsWithin (sums_of_path (es ++ Takes d ∷ [])) (chained j (chained call.sums (taking (job_weight p PmDone)))) =
      subst (λ a. IsWithin a (chained j (chained call.sums (taking (job_weight p PmDone))))) (sym (path_joined es (Takes d ∷ [])))
      (subst (IsWithin (chained (sums_of_path es) (chained (taking d) (taking 0)))) (chained_assoc j call.sums (taking (job_weight p PmDone))) both) in
      further _ _ _ (longest_within (es ++ Takes d ∷ []) (chained j (chained call.sums (taking (job_weight p PmDone)))) whole) long where
        further : (a b c : ℕ) → a ≤ b → b ≤ c → a ≤ c
        further a b c h k = omega (arith, h, k)

  strands_of : (ws : List Weave) (begun : ℕ) → EachJob OneJob ws → StateWithin script begun (counts_of counts (all_jobs done ws)) → JobStrand p script cost most begun (dids_of (all_jobs done ws))
  strands_of [] begun h has = record { strand = S.ends; dids_are = refl; is_strand = tt; charged = tt }
  strands_of (w ∷ ws) begun h has =
      let rest = all_jobs done ws in
      let join = weaves_join p passes w (goes done rest) in
      let states = subst (StateWithin script begun) (counts_joined counts w (goes done rest)) has in
      let later = subst (λ n. StateWithin script (begun + n) (counts_of counts rest)) (counted_calls counts w) (next_states script begun (counts_of counts w) (counts_of counts rest) states) in
      let c = with_jump w h.0.1 in
      let more = strands_of ws (begun + length (calls_of w)) h.1 later in
      subst (JobStrand p script cost most begun) (sym join.dids)
      (course_jobs_are_charged p passes script counts cost most begun c.division w done (dids_of rest) h.0.0 c.keeps c.loose c.steps_are
      (first_states script begun (counts_of counts w) (counts_of counts rest) states) refl refl
      (total_less (charge_of p c.division) c.counted.total) (stretch_less (path_of p c.division) c.counted.sums) more)

pub jobs_go_by_courses : JobsGoByCourses
jobs_go_by_courses p passes script counts s gs limits program own calls start job weave call cost most along course paid long states =
    let done = done_step (own.entry + 4) in
    subst (JobStrand p script cost most 0) (ap dids_of (sym along.weave_is))
    (strands_of p passes counts s gs limits program own calls start job call cost most course paid long script along.jobs 0 along.each
    (subst (λ w. StateWithin script 0 (counts_of counts w)) along.weave_is states))

-- ---- without marked calls

interval_end : (xs : List Did) (d : Did) → IsWithinInterval xs → AllSteps StaysOn xs → d.phase ≡ Compatible → d.change ≡ Job → IsWithinInterval (xs ++ d ∷ [])
interval_end [] d h k phase job = (phase, subst (λ c. GoesTo c []) (sym job) refl, tt)
interval_end (x ∷ xs) d h k phase job = (h.0, subst (λ c. GoesTo c (xs ++ d ∷ [])) (sym k.0) tt, interval_end xs d h.2 k.1 phase job)

last_end : (c : Change) (xs : List Did) (d : Did) → change_behind c (xs ++ d ∷ []) ≡ d.change
last_end c [] d = refl
last_end c (x ∷ xs) d = last_end x.change xs d

module _ (p : Plant) (passes : ℕ → ℕ) (s : Setting) (gs : Globals) (limits : Limits) (program : Resolved) (own : TaskRun) (calls : Calls)
    (start job : ℕ) (lines : List ℕ) (charge cost most : ℕ) (entry : s.places start ≡ own.entry)
    (scope : CallsScope p s gs limits program own calls start job lines charge) (paid : p.switch + charge ≤ cost) (long : charge ≤ most) (script : Script) where
  abbrev One : Weave → Type 0
  One w = IsWeave p passes w × JobRun s gs limits program own calls start job (dids_of w)

  abbrev finish : Did
  finish = done_step (own.entry + 4)

  scopes_of : (ws : List Weave) (begun : ℕ) → EachJob One ws → JobStrand p script cost most begun (dids_of (all_jobs finish ws))
  scopes_of [] begun h = record { strand = S.ends; dids_are = refl; is_strand = tt; charged = tt }
  scopes_of (w ∷ ws) begun h =
      let r = h.0.1 in
      let rest = all_jobs finish ws in
      let join = weaves_join p passes w (goes finish rest) in
      let more = scopes_of ws begun h.1 in
      let c = scope (dids_of w) r in
      let jump : Did = record { pc = s.places start; instr = jump_to 1 (s.places start) (s.places job); phase = Compatible; access = None; change = Stay } in
      let steps = start_steps (s.places start) (s.places job) r.trace in
      let x : Scope = record { lines = lines; dids = start_steps (s.places start) (s.places job) r.trace } in
      let steps_are : dids_of w ≡ jump ∷ r.trace =
      r.steps_are ∙ ap (λ (ph : Phase). record_did (s.places start) (jump_to 1 (s.places start) (s.places job)) ph ∷ r.trace) r.phase in
      let stays : AllSteps StaysOn (dids_of w) = subst (AllSteps StaysOn) (sym steps_are) (refl, c.1.0) in
      let taken = take p passes stated_of (dids_of w) [] w h.0.0 stays (sym (append-nil (dids_of w))) in
      let quiet_ : IsWithinInterval (jump ∷ r.trace) = subst IsWithinInterval steps_are taken.quiet in
      let finish_is : done_step (s.places start + 4) ≡ finish = ap (λ n. done_step (n + 4)) entry in
      let inside : IsWithinInterval steps = interval_end (jump ∷ r.trace) (done_step (s.places start + 4)) quiet_ (refl, c.1.0) refl refl in
      let last : last_change steps ≡ Job = last_end Stay (jump ∷ r.trace) (done_step (s.places start + 4)) in
      let charge_is : charge_of_scope p x ≡ scope_charge p lines steps = scopes_agree p lines steps in
      let due : scope_due p script begun x ≡ charge_of_scope p x + p.switch = ap (λ c. charge_of_scope p x + change_due p (call_at script begun).stated c) last in
      let all : dids_of (joined w (goes finish rest)) ≡ steps ++ dids_of rest =
      join.dids ∙ ap (λ ds. ds ++ finish ∷ dids_of rest) steps_are ∙ ap (λ d. (jump ∷ r.trace) ++ d ∷ dids_of rest) (sym finish_is)
      ∙ sym (append_assoc (jump ∷ r.trace) (done_step (s.places start + 4) ∷ []) (dids_of rest)) in
      subst (JobStrand p script cost most begun) (sym all)
      (record {
        strand = S.runs x more.strand;
        dids_are = ap (λ ds. steps ++ ds) more.dids_are;
        is_strand = (inside, steps_in p.line lines steps c.0, more.is_strand);
        charged = jobs_are_charged p script cost most begun S.ends more.strand x tt last (fits _ _ _ 0 due charge_is c.1.1) (short _ _ charge_is c.1.1, tt) more.charged;
      }) where
        fits : (due own_ sc : ℕ) (z : ℕ) → due ≡ own_ + p.switch → own_ ≡ sc → sc ≤ charge → 0 + due ≤ cost
        fits due own_ sc z e f le = omega (arith, e, f, le, paid)

        short : (own_ sc : ℕ) → own_ ≡ sc → sc ≤ charge → 0 + own_ ≤ most
        short own_ sc e le = omega (arith, e, le, long)

pub jobs_go_by_scopes : JobsGoByScopes
jobs_go_by_scopes p passes script s gs limits program own calls start job weave lines charge cost most entry along scope paid long =
    subst (JobStrand p script cost most 0) (ap dids_of (sym along.weave_is))
    (scopes_of p passes s gs limits program own calls start job lines charge cost most entry scope paid long script along.jobs 0 along.each)
