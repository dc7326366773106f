-- The run of a stub that returns opens the bus within what the code between its `pm.mem` and its `pm.exec` costs.
use Rattle.std.specs.Prelude.{All, negsuc}
use Rattle.std.proofs.Common.{◌≡◌, ℕ, ◌+◌, ◌*◌, ◌^◌, ◌<◌, ◌≤◌, refl, ap, ◌∙◌, sym, subst, arith, List, [], ◌∷◌, ◌++◌, append_assoc, append-nil, length}
use Rattle.std.proofs.lemmas.Nat.{mul-le}
use Rattle.std.proofs.lemmas.List.Sums.{sum_by-cons}
use Rattle.prem_plant.specs.declared.plant.Plant.{Plant}
use Rattle.prem_plant.specs.Places.{Extent}
use Rattle.prem_isa.specs.declared.instr.Instr.{Instr}
use Rattle.prem_isa.specs.declared.instr.Instr.TheVariants.{OpImm, PmExec}
use Rattle.prem_isa.specs.declared.instr.AluOp.TheVariants.{Add}
use Rattle.prem_isa.specs.declared.effect.Change.TheVariants.{Stay, Execute}
use Rattle.prem_isa.specs.declared.effect.Phase.TheVariants.{Compatible, Memory as MemoryPhase, Execution}
use Rattle.prem_isa.specs.Decode.{cost_of}
use Rattle.prem_isa.specs.Plain.{TaskRun, TaskState, Did}
use Rattle.prem_sound.specs.Script.Script.{cost_of_dids}
use Rattle.prem_sound.specs.Script.Scripts.{Mark}
use Rattle.prem_asm.specs.Pieces.{Pieces, no_pieces, straight, address_code, weighted, call_to, jump_to}
use Rattle.prem_asm.specs.Runs.{Guard, Setting, Ending, Falls, Returns, Stuck, with_trace, then_run, called, run, run_code, control, linked}
use Rattle.prem_asm.specs.Steps.{total, Within}
use Rattle.prem_asm.proofs.Cost.{total-append, trace_within_cost}
use Rattle.prem_layout.specs.Parts.{Passes as PassCount, once, times, pass_count}
use Rattle.prem_layout.specs.Stubs.{ranges_code, passes_code}
use Rattle.prem_code_laws.specs.ExprLaws.Registers.{AreWords}
use Rattle.prem_code_laws.specs.GenLaws.Table.{Codes, code_calls}
use Rattle.prem_code_laws.specs.PrefetchLaws.Premises.{Lines, AllInMemory, stub_code}
use Rattle.prem_code_laws.specs.PrefetchLaws.Touches.{IsFetch, IsLineOf}
use Rattle.prem_code_laws.specs.PrefetchLaws.Stubs.{memory_step}
use Rattle.prem_code_laws.specs.PrefetchLaws.Confined.{with_guard, exec_step, end_step, return_step, StubSteps}
use Rattle.prem_code_laws.proofs.PrefetchLawsLemmas.Passes.{passes_words, prefetch_run}
use Rattle.prem_code_laws.proofs.PrefetchLawsLemmas.Phases.{ending_code, execute_code, whole_code, stub_is, memory_falls, executed}
use Rattle.prem_code_laws.proofs.PrefetchLawsLemmas.Returns.{stubs_return}
use Rattle.prem_sets_sound.specs.Weave.Weave.{Section, section_dids, IsSection}
use Rattle.prem_sets_sound.specs.Weave.Segment.Bodies.{code_costs}
use Rattle.prem_sets_sound.specs.Weave.Segment.Sections.{section_of}
use Rattle.prem_sets_sound.specs.StubLaws.StubWeave.StubWeave.{StubAt, StubStands}
use Rattle.prem_sets_sound.proofs.WeaveLemmas.SegmentLemmas.Bodies.{charge, weighs, calls_cost}
use Rattle.prem_sets_sound.proofs.WeaveLemmas.SegmentLemmas.Sections.{stubs_are_sections, steps_map, steps_join, all_of}
use Rattle.prem_latency.specs.Wcet.Openings.{before_exec}
use Rattle.prem_latency.proofs.WcetLemmas.Openings.{exec_first}

-- ---- weights

-- what stands behind the passes adds to their weight, and no call does that is before it
module _ (w : Instr → ℕ) (f g : ℕ → ℕ) (line : ℕ) where
  ranges_more : (ranges : List Extent) (rest other : Pieces) (e : ℕ) → weighted w f rest ≤ weighted w g other + e →
      weighted w f (ranges_code line ranges rest) ≤ weighted w g (ranges_code line ranges other) + e
  ranges_more [] rest other e le = le
  ranges_more (range ∷ ranges) rest other e le = sum _ _ _ _ e (ranges_more ranges rest other e le) where
    sum : (a x u v e : ℕ) → u ≤ v + e → a + (x + u) ≤ a + (x + v) + e
    sum a x u v e h = omega (arith, h)

  passes_more : (passes : PassCount) (ranges : List Extent) (rest other : Pieces) (e : ℕ) → weighted w f rest ≤ weighted w g other + e →
      weighted w f (passes_code passes line ranges rest) ≤ weighted w g (passes_code passes line ranges other) + e
  passes_more once ranges rest other e le = ranges_more ranges rest other e le
  passes_more (times n) ranges rest other e le =
      let body = ranges_more ranges (straight (OpImm Add 7 7 (negsuc 0) ∷ []) no_pieces) (straight (OpImm Add 7 7 (negsuc 0) ∷ []) no_pieces) 0 (omega arith) in
      sum _ _ _ _ _ _ e (mul-le n _ n _ (omega arith) (turn _ _ _ _ _ body)) le where
        turn : (h b x y j : ℕ) → x ≤ y + 0 → h + b + x + j ≤ h + b + y + j
        turn h b x y j le = omega (arith, le)

        sum : (a m n x u v e : ℕ) → m ≤ n → u ≤ v + e → a + (m + x + u) ≤ a + (n + x + v) + e
        sum a m n x u v e h k = omega (arith, h, k)

-- ---- steps

cost_total : (ds : List Did) → cost_of_dids ds ≡ total charge ds
cost_total [] = refl
cost_total (d ∷ ds) = sum_by-cons (λ (x : Did). cost_of x.instr) d ds ∙ ap (λ z. cost_of d.instr + z) (cost_total ds)

-- steps before a run that returns
behind : (first : List Did) (o : Ending) (back : ℕ) (u : TaskState) (trace : List Did) → with_trace first o ≡ Returns back u trace →
    (rest : List Did) × ((o ≡ Returns back u rest) × (trace ≡ first ++ rest))
behind first (Falls v more) back u trace e = absurd (falls e) where
  falls : Falls v (first ++ more) ≡ Returns back u trace → ⊥
  falls e = cc
behind first (Returns to v more) back u trace e = (more, (whole e, sym (steps e))) where
  whole : Returns to v (first ++ more) ≡ Returns back u trace → Returns to v more ≡ Returns back u more
  whole e = cc

  steps : Returns to v (first ++ more) ≡ Returns back u trace → first ++ more ≡ trace
  steps e = cc
behind first Stuck back u trace e = absurd (never e) where
  never : Stuck ≡ Returns back u trace → ⊥
  never e = cc

-- ---- a stub

-- its steps up to `pm.exec`, which change nothing, and what they cost
record Opens (line at : ℕ) (passes : PassCount) (ranges : List Extent) (stated : ℕ) (trace : List Did) : Type 0 where
  before : List Did
  exec : Did
  later : List Did
  trace_is : trace ≡ memory_step at ∷ (before ++ exec ∷ later)
  stays : All (λ (d : Did). d.change ≡ Stay) before
  opens : exec.change ≡ Execute stated
  cost : cost_of_dids before ≤ weighted cost_of (λ part. 0) (passes_code passes line ranges (straight (address_code 5 stated) no_pieces))

opens_so : (s : Setting) (c : Codes) (n line : ℕ) → Lines s line → (ranges : List Extent) → AllInMemory s ranges → (passes : PassCount) →
    pass_count passes < 2 ^ 32 → (stated part at : ℕ) → stated < 2 ^ 32 →
    (t u : TaskState) (back : ℕ) (trace : List Did) → t.phase ≡ Compatible → AreWords t.registers →
    run s (code_calls s c n) at (stub_code passes line ranges stated part) t ≡ Returns back u trace → Opens line at passes ranges stated trace
opens_so s c n line fit ranges inside passes count_small stated part at stated_small t u back trace ph ws goes =
    let rest = execute_code stated part in
    let long = 4 * (passes_words passes + 9 * length ranges) in
    let t1 : TaskState = record t { phase = MemoryPhase } in
    let at1 = at + 4 * 1 in
    let z = prefetch_run s (code_calls s c n) line fit ranges inside passes at1 t1 count_small ws in
    let t2 : TaskState = record t1 { registers = z.registers } in
    let at2 = at1 + long in
    let x = executed line (IsLineOf line ranges) s at2 stated t2 z.words stated_small refl in
    let t3 : TaskState = record t2 { registers = x.registers; phase = Execution } in
    let at3 = at2 + 4 * 3 in
    let ra = at3 + 4 in
    let xt = x.length_steps ++ exec_step (at2 + 8) stated ∷ [] in
    let last = with_trace (control at3 (jump_to 1 at3 (s.places part)) t3) (called ra (code_calls s c n part (linked 1 ra t3)) (run s (code_calls s c n) ra ending_code)) in
    let run_rest : run s (code_calls s c n) at2 rest t2 ≡ with_trace xt last = ap (λ o. then_run o (run s (code_calls s c n) at3 (call_to 1 part ending_code))) x.goes in
    let whole : run s (code_calls s c n) at (whole_code passes line ranges stated part) t ≡ with_trace (memory_step at ∷ []) (with_trace z.trace (with_trace xt last)) =
    ap (λ o. then_run (then_run o (run_code s (at + 4) [])) (run s (code_calls s c n) at1 (passes_code passes line ranges rest))) (memory_falls s at t ph)
    ∙ ap (with_trace (memory_step at ∷ [])) (z.goes rest ∙ ap (with_trace z.trace) run_rest) in
    let e = sym (ap (λ ps. run s (code_calls s c n) at ps t) (stub_is passes line ranges stated part) ∙ whole) ∙ goes in
    let a = behind (memory_step at ∷ []) (with_trace z.trace (with_trace xt last)) back u trace e in
    let b = behind z.trace (with_trace xt last) back u a.0 a.1.0 in
    let d = behind xt last back u b.0 b.1.0 in
    let code = straight (address_code 5 stated ++ PmExec 5 ∷ []) no_pieces in
    let falls : run s (code_calls s c n) at1 (passes_code passes line ranges code) t1 ≡ Falls t3 (z.trace ++ (xt ++ [])) =
    z.goes code ∙ ap (λ o. with_trace z.trace (then_run o (run s (code_calls s c n) at3 no_pieces))) x.goes in
    let within : Within charge (weighted cost_of (code_costs c n) (passes_code passes line ranges code)) (Falls t3 (z.trace ++ (xt ++ []))) =
    subst (Within charge (weighted cost_of (code_costs c n) (passes_code passes line ranges code))) falls
    (trace_within_cost charge cost_of weighs s (code_calls s c n) (code_costs c n) (λ part t. calls_cost s c n part t) (passes_code passes line ranges code) at1 t1) in
    let less = passes_more cost_of (code_costs c n) (λ part. 0) line passes ranges code (straight (address_code 5 stated) no_pieces) (cost_of (PmExec 5)) (omega arith) in
    record {
      before = z.trace ++ x.length_steps;
      exec = exec_step (at2 + 8) stated;
      later = d.0;
      trace_is = a.1.1 ∙ ap (λ ds. memory_step at ∷ ds) (b.1.1 ∙ ap (λ ds. z.trace ++ ds) d.1.1 ∙ arranged z.trace x.length_steps (exec_step (at2 + 8) stated) d.0);
      stays = all_of (λ (y : Did). y.change ≡ Stay) (z.trace ++ x.length_steps)
          (steps_join (λ (y : Did). y.change ≡ Stay) z.trace x.length_steps
          (steps_map (IsFetch line (IsLineOf line ranges) MemoryPhase) (λ (y : Did). y.change ≡ Stay) (λ y h. h.1.0) z.trace z.fetches)
          (steps_map (IsFetch line (IsLineOf line ranges) MemoryPhase) (λ (y : Did). y.change ≡ Stay) (λ y h. h.1.0) x.length_steps x.fetches));
      opens = refl;
      cost = added z.trace x.length_steps (exec_step (at2 + 8) stated) _ _ (cost_of (PmExec 5)) refl within less;
    } where
      arranged : (a l : List Did) (e : Did) (r : List Did) → a ++ ((l ++ e ∷ []) ++ r) ≡ (a ++ l) ++ e ∷ r
      arranged a l e r = simp append_assoc

      added : (a l : List Did) (e : Did) (w v k : ℕ) → charge e ≡ k → total charge (a ++ ((l ++ e ∷ []) ++ [])) ≤ w → w ≤ v + k → cost_of_dids (a ++ l) ≤ v
      added a l e w v k is h le =
          let costs = cost_total (a ++ l) in
          let both = total-append charge a l in
          let all = total-append charge a ((l ++ e ∷ []) ++ []) in
          let end = ap (total charge) (append-nil (l ++ e ∷ [])) in
          let one = total-append charge l (e ∷ []) in
          omega (arith, is, h, le, costs, both, all, end, one)

-- ---- a stub that stands

-- the marked call of a stub's steps, with its members and its stated length, which opens within what its code costs
pub record StubSection (plant : Plant) (passes : ℕ → ℕ) (at : ℕ) (x : StubAt) (trace : List Did) : Type 0 where
  pub section : Section
  pub ended : ℕ
  pub trace_is : trace ≡ section_dids section ++ return_step ended ∷ []
  pub is_section : IsSection plant passes section
  pub begins : section.begin ≡ memory_step at
  pub members : section.call.members ≡ x.members
  pub stated : section.call.stated ≡ x.stated
  pub opens : cost_of_dids section.before ≤ weighted cost_of (λ part. 0) (passes_code x.kind plant.line x.ranges (straight (address_code 5 x.stated) no_pieces))

tail_of : (x y : Did) (xs ys : List Did) → x ∷ xs ≡ y ∷ ys → xs ≡ ys
tail_of x y xs ys e = cc

pub stub_section : (plant : Plant) (passes : ℕ → ℕ) (s : Setting) (h : Guard) (c : Codes) (own : TaskRun) (ended : ℕ) (bytes : ℕ → ℕ) (parts n : ℕ)
    (x : StubAt) → StubStands plant passes s h c own ended bytes parts n x →
    (t u : TaskState) (back : ℕ) (trace : List Did) → t.phase ≡ Compatible → AreWords t.registers →
    run (with_guard h s) (code_calls (with_guard h s) c n) (s.places x.stub) (stub_code x.kind plant.line x.ranges x.stated x.part) t
    ≡ Returns back u trace → StubSection plant passes (s.places x.stub) x trace
stub_section plant passes s h c own ended bytes parts n x stands t u back trace phase words goes =
    let r = stubs_return (with_guard h s) (code_calls (with_guard h s) c n)
    plant.line stands.line_fits x.ranges stands.in_memory x.kind stands.few x.stated x.part (s.places x.stub)
    stands.small t u back trace phase words goes in
    let w : StubSteps (code_calls (with_guard h s) c n x.part) (s.places x.stub) plant.line x.ranges (passes plant.ways) x.stated trace =
    subst (λ k. StubSteps (code_calls (with_guard h s) c n x.part) (s.places x.stub) plant.line x.ranges k x.stated trace) stands.count_is r.steps in
    let mark : Mark = record { stated = x.stated; before = []; after = [] } in
    let o = opens_so (with_guard h s) c n plant.line stands.line_fits x.ranges stands.in_memory x.kind stands.few x.stated x.part (s.places x.stub) stands.small t u back trace phase words goes in
    let is = stubs_are_sections plant passes (with_guard h s) c x.ranges x.members n x.part (s.places x.stub)
    x.kind x.stated mark t u back trace stands.line_fits.positive stands.within goes stands.room w refl stands.cost in
    let rest = w.body ++ end_step w.ended_at ∷ [] in
    let tails : o.before ++ o.exec ∷ o.later ≡ (w.before ++ exec_step w.opened_at x.stated ∷ rest) ++ return_step (w.ended_at + 4) ∷ [] = tail_of _ _ _ _ (sym o.trace_is ∙ w.trace_is) in
    let same : o.before ≡ w.before =
    sym (exec_first o.before o.exec x.stated o.later o.stays o.opens) ∙ ap before_exec (tails ∙ append_assoc w.before (exec_step w.opened_at x.stated ∷ rest) (return_step (w.ended_at + 4) ∷ []))
    ∙ exec_first w.before (exec_step w.opened_at x.stated) x.stated (rest ++ return_step (w.ended_at + 4) ∷ []) (λ k d lt. (is.fetching k d lt).1) refl in
    record {
      section = section_of w x.members mark;
      ended = w.ended_at + 4;
      trace_is = w.trace_is;
      is_section = is;
      begins = refl;
      members = refl;
      stated = refl;
      opens = subst (λ ds. cost_of_dids ds ≤ weighted cost_of (λ part. 0) (passes_code x.kind plant.line x.ranges (straight (address_code 5 x.stated) no_pieces))) same o.cost;
    }
