-- A run whose instructions conform has a script, and stays with its own bytes.
use Rattle.std.proofs.Common.{◌≡◌, ℕ, zero, suc, ◌+◌, ◌-◌, ◌%◌, ◌<◌, ◌≤◌, refl, ap, ◌∙◌, sym, subst, arith, cond, eqb, leb, ltb, true, false, Bool, Some, None, Option, List, [], ◌∷◌, ◌++◌}
use Rattle.std.proofs.Common.{append_assoc, length, get_or, IfSome, ⊎_elim}
use Rattle.std.specs.Prelude.{All, Result, Ok, Err, is_none, ◌&&◌}
use Rattle.prem_sound.proofs.Prelude.{is_predictable, AllOwn, LoadsOwn, IsOwn, IsOwnOutcome, Setup, act_fits, plain_fits, fetch_fits, plain_run-add, plain_trace-add, plain_stays, act, fetch}
use Rattle.prem_sound.proofs.Prelude.{accesses, goes, word_into, OnDone, EffectFits, AccessMatches, Fits, TaskRun, PlainState, Did, did_of, did_with, did_fetched, next_input, with_last}
use Rattle.prem_sound.proofs.Prelude.{outcome_of, is_running, plain_did, plain_start, plain_steps, plain_run, plain_trace, Access, Loads, Cause, Effect, Outcome, Trap, Done, Phase, Stored}
use Rattle.prem_sound.proofs.Prelude.{Instr, HaveRoom, Plant, Target, takes_nothing, IsOwnDid, begun_behind, KeepsCalls, due_behind, ConformingRunsHaveScripts, AtMark, KeepsMarks}
use Rattle.prem_sound.proofs.Prelude.{ConformingRunsKeepPromises, Begun, none_begun, begun_after, begun_with, begun_by, Call, no_call, call_at, call_of, IsStep, did_due, Script, due_with}
use Rattle.prem_sound.proofs.Prelude.{due_by, Reading, Mark, number_at, cases_lt, cond_both, le-ltb, length-append}
use Rattle.prem_isa.specs.Alu.{plus, load_size, loaded}
use Rattle.prem_isa.specs.declared.effect.Cause.TheVariants.{Align, Outside}
use Rattle.prem_isa.specs.declared.instr.Instr.TheVariants.{Lui, Auipc, Jal, Jalr, Branch, Load, Store, OpImm, Op, MulDiv, Fence, Ecall, Ebreak, PmMem, PmExec, PmEnd, PmDone, PmIn, PmOut}
use Rattle.prem_sound.proofs.ScriptLemmas.Pieces.{marks_at}

-- ---- by number and by list

begun_behind-last : (o : Option Did) (xs : List Did) (b : Begun) → begun_behind (with_last o xs) b ≡ begun_with o (begun_behind xs b)
begun_behind-last None xs b = refl
begun_behind-last (Some d) [] b = refl
begun_behind-last (Some d) (x ∷ xs) b = begun_behind-last (Some d) xs (begun_after x.change x b)

begun_is : (run : TaskRun) (n : ℕ) → begun_by run n ≡ begun_behind (plain_trace run n (plain_start run)) none_begun
unfolding begun_by plain_trace
begun_is run zero = refl
begun_is run (suc n) =
    ap (begun_with (plain_did run (plain_run run n))) (begun_is run n)
    ∙ sym (begun_behind-last (plain_did run (plain_run run n)) (plain_trace run n (plain_start run)) none_begun)

due_behind-last : (plant : Plant) (s : Script) (o : Option Did) (xs : List Did) (b : Begun) → due_behind plant s b (with_last o xs) ≡ due_behind plant s b xs + due_with plant s (begun_behind xs b) o
due_behind-last plant s None xs b = omega arith
due_behind-last plant s (Some d) [] b = omega arith
due_behind-last plant s (Some d) (x ∷ xs) b =
    let a : ℕ = did_due plant (call_at s b.calls).stated x.phase x in
    let r : due_behind plant s (begun_after x.change x b) (with_last (Some d) xs)
    ≡ due_behind plant s (begun_after x.change x b) xs + due_with plant s (begun_behind xs (begun_after x.change x b)) (Some d) =
    due_behind-last plant s (Some d) xs (begun_after x.change x b) in
    ap (λ z. a + z) r ∙ adds a (due_behind plant s (begun_after x.change x b) xs) (due_with plant s (begun_behind xs (begun_after x.change x b)) (Some d)) where
      adds : (a x y : ℕ) → a + (x + y) ≡ a + x + y
      adds a x y = omega arith

due_is : (plant : Plant) (s : Script) (run : TaskRun) (n : ℕ) → due_by plant s run n ≡ due_behind plant s none_begun (plain_trace run n (plain_start run))
unfolding due_by plain_trace
due_is plant s run zero = refl
due_is plant s run (suc n) =
    let o : Option Did = plain_did run (plain_run run n) in
    let xs : List Did = plain_trace run n (plain_start run) in
    ap (λ z. z + due_with plant s (begun_by run n) o) (due_is plant s run n)
    ∙ ap (λ b. due_behind plant s none_begun xs + due_with plant s b o) (begun_is run n)
    ∙ sym (due_behind-last plant s o xs none_begun)

-- ---- the instruction at a place of a list

keeps_at : (plant : Plant) (passes : ℕ → ℕ) (s : Script) (b : Begun) (xs : List Did) (d : Did) (ys : List Did) →
    KeepsCalls plant passes s b (xs ++ d ∷ ys) → is_predictable d.phase ≡ true → IsStep plant passes (call_of s (begun_behind xs b)) (begun_behind xs b).steps d
keeps_at plant passes s b [] d ys h = h.0
keeps_at plant passes s b (x ∷ xs) d ys h = keeps_at plant passes s (begun_after x.change x b) xs d ys h.1

all_at : (P : Did → Type 0) (xs : List Did) (d : Did) (ys : List Did) → All P (xs ++ d ∷ ys) → P d
all_at P [] d ys h = h 0 d (omega arith)
all_at P (x ∷ xs) d ys h = all_at P xs d ys (λ k e lt. h (suc k) e (omega (arith, lt)))

-- ---- the trace

pub length-last : (o : Option Did) (xs : List Did) → length (with_last o xs) ≤ length xs + 1
length-last None xs = omega arith
length-last (Some d) xs = omega (arith, length-append xs (d ∷ []))

pub trace_short : (run : TaskRun) (n : ℕ) (s : PlainState) → length (plain_trace run n s) ≤ n
unfolding plain_trace
trace_short run zero s = omega arith
trace_short run (suc n) s = omega (arith, length-last (plain_did run (plain_steps run n s)) (plain_trace run n s), trace_short run n s)

trace_next : (run : TaskRun) (n : ℕ) (s : PlainState) → plain_trace run (suc n) s ≡ with_last (plain_did run (plain_steps run n s)) (plain_trace run n s)
unfolding plain_trace
trace_next run n s = refl

module _ (run : TaskRun) (dids : List Did) (trace : plain_trace run (length dids) (plain_start run) ≡ dids) (ends : (plain_run run (length dids)).ended ≡ run.jobs) where
  -- the instruction number n, between those before it and those behind it
  record Place (n : ℕ) (d : Did) : Type 0 where
    rest : List Did
    whole : dids ≡ plain_trace run n (plain_start run) ++ d ∷ rest

  split_at : (n : ℕ) → n < length dids → dids ≡ with_last (plain_did run (plain_run run n)) (plain_trace run n (plain_start run)) ++ plain_trace run (length dids - suc n) (plain_run run (suc n))
  split_at n lt =
      let e : length dids ≡ suc n + (length dids - suc n) = omega (arith, lt) in
      sym trace ∙ ap (λ k. plain_trace run k (plain_start run)) e ∙ plain_trace-add run (suc n) (length dids - suc n) (plain_start run)
      ∙ ap (λ xs. xs ++ plain_trace run (length dids - suc n) (plain_run run (suc n))) (trace_next run n (plain_start run))

  place_of : (n : ℕ) (d : Did) → n < length dids → plain_did run (plain_run run n) ≡ Some d → Place n d
  place_of n d lt e =
      let rest : List Did = plain_trace run (length dids - suc n) (plain_run run (suc n)) in
      record {
        rest = rest;
        whole =
            split_at n lt ∙ ap (λ o. with_last o (plain_trace run n (plain_start run)) ++ rest) e
            ∙ append_assoc (plain_trace run n (plain_start run)) (d ∷ []) rest;
      }

  -- each instruction below the end is executed
  executes : (n : ℕ) → n < length dids → (o : Option Did) → plain_did run (plain_run run n) ≡ o → (d : Did) × (o ≡ Some d)
  executes n lt (Some d) e = (d, refl)
  executes n lt None e =
      let xs : List Did = plain_trace run n (plain_start run) in
      let rest : List Did = plain_trace run (length dids - suc n) (plain_run run (suc n)) in
      let whole : dids ≡ xs ++ rest = split_at n lt ∙ ap (λ o. with_last o xs ++ rest) e in
      let total : length dids ≡ length xs + length rest = ap length whole ∙ length-append xs rest in
      absurd (omega (arith, total, lt, trace_short run n (plain_start run), trace_short run (length dids - suc n) (plain_run run (suc n))))

  -- and none behind it
  and_false : (a b : Bool) → b ≡ false → (a && b) ≡ false
  and_false true b h = h
  and_false false b h = refl

  over_at : is_running run (plain_run run (length dids)) ≡ false
  over_at =
      and_false (is_none (plain_run run (length dids)).trapped) (ltb (plain_run run (length dids)).ended run.jobs)
      (le-ltb (plain_run run (length dids)).ended run.jobs (omega (arith, ends)))

  over_behind : (n : ℕ) → length dids ≤ n → is_running run (plain_run run n) ≡ false
  over_behind n le =
      let e : n ≡ length dids + (n - length dids) = omega (arith, le) in
      ap (λ k. is_running run (plain_run run k)) e
      ∙ ap (is_running run) (plain_run-add run (length dids) (n - length dids) ∙ plain_stays run (n - length dids) (plain_run run (length dids)) over_at) ∙ over_at

  below_end : (n : ℕ) (d : Did) → plain_did run (plain_run run n) ≡ Some d → n < length dids
  below_end n d e =
      ⊎_elim (λ (lt : n < length dids). lt)
      (λ (le : length dids ≤ n).
      let none : Option Did = None in
      let s : PlainState = plain_run run n in
      let x : None ≡ Some d = sym (ap (λ c. cond c (did_fetched run s (fetch run.size s.task.view s.pc)) none) (over_behind n le)) ∙ e in absurd cc)
      (cases_lt n (length dids))

  running_below : (n : ℕ) → is_running run (plain_run run n) ≡ true → n < length dids
  running_below n h =
      ⊎_elim (λ (lt : n < length dids). lt)
      (λ (le : length dids ≤ n). let x : false ≡ true = sym (over_behind n le) ∙ h in absurd cc)
      (cases_lt n (length dids))

  -- what holds of all instructions
  each_did : (P : Did → Type 0) → All P dids → (n : ℕ) (d : Did) → plain_did run (plain_run run n) ≡ Some d → P d
  each_did P all n d e =
      let x : Place n d = place_of n d (below_end n d e) e in
      all_at P (plain_trace run n (plain_start run)) d x.rest (subst (All P) x.whole all)

  each_step : (plant : Plant) (passes : ℕ → ℕ) (s : Script) → KeepsCalls plant passes s none_begun dids → (n : ℕ) (d : Did) →
      plain_did run (plain_run run n) ≡ Some d → is_predictable d.phase ≡ true → IsStep plant passes (call_of s (begun_by run n)) (begun_by run n).steps d
  each_step plant passes s keeps n d e p =
      let x : Place n d = place_of n d (below_end n d e) e in
      subst (λ b. IsStep plant passes (call_of s b) b.steps d) (sym (begun_is run n))
      (keeps_at plant passes s none_begun (plain_trace run n (plain_start run)) d x.rest (subst (KeepsCalls plant passes s none_begun) x.whole keeps) p)

  -- the marks of an instruction
  each_mark : (reads : Reading) (marks : List Mark) → KeepsMarks reads marks run 0 none_begun dids → (n : ℕ) (d : Did) →
      plain_did run (plain_run run n) ≡ Some d → AtMark reads marks d.change (plain_run run (n + 1)).task.view (begun_by run n)
  each_mark reads marks keeps n d e =
      let lt : n < length dids = below_end n d e in
      let x : Place n d = place_of n d lt e in
      let xs : List Did = plain_trace run n (plain_start run) in
      let rest : List Did = plain_trace run (length dids - suc n) (plain_run run (suc n)) in
      let whole : dids ≡ with_last (plain_did run (plain_run run n)) xs ++ rest = split_at n lt in
      let one : dids ≡ (xs ++ d ∷ []) ++ rest = whole ∙ ap (λ o. with_last o xs ++ rest) e in
      let total : length dids ≡ length (xs ++ d ∷ []) + length rest = ap length one ∙ length-append (xs ++ d ∷ []) rest in
      let here : length xs ≡ n = omega (arith, total, length-append xs (d ∷ []), trace_short run n (plain_start run), trace_short run (length dids - suc n) (plain_run run (suc n)), lt) in
      let at : AtMark reads marks d.change (plain_run run (0 + length xs + 1)).task.view (begun_behind xs none_begun) =
      marks_at reads marks run 0 none_begun xs d x.rest (subst (KeepsMarks reads marks run 0 none_begun) x.whole keeps) in
      let same : 0 + length xs + 1 ≡ n + 1 = omega (arith, here) in
      subst (AtMark reads marks d.change (plain_run run (n + 1)).task.view) (sym (begun_is run n))
      (subst (λ m. AtMark reads marks d.change (plain_run run m).task.view (begun_behind xs none_begun)) same at)

-- ---- own bytes

accesses_done : (size address bytes : ℕ) (f e : Effect) → accesses size address bytes (Done f) ≡ Done e → f ≡ e
accesses_done size address bytes f e h0 =
    cond_both (eqb (address % bytes) 0) (cond (leb (address + bytes) size) (Done f) (Trap Outside)) (Trap Align) (λ o. o ≡ Done e → f ≡ e)
    (λ _. cond_both (leb (address + bytes) size) (Done f) (Trap Outside) (λ o. o ≡ Done e → f ≡ e) (λ _ h. cc) (λ _ h. absurd (let x : Trap Outside ≡ Done e = h in cc)))
    (λ _ h. absurd (let x : Trap Align ≡ Done e = h in cc)) h0

-- a load that takes nothing
takes : (target : Target) (size : ℕ) (view registers : ℕ → ℕ) (pc : ℕ) (phase : Phase) (input : ℕ) (i : Instr) (e : Effect) → takes_nothing i ≡ true →
    act target size view registers pc phase input i ≡ Done e → (e.rd ≡ 0) × (e.stored ≡ None)
takes target size view registers pc phase input (Load op zero rs1 offset) e t h =
    let address : ℕ = plus (registers rs1) offset in
    let f : Effect = record (goes (pc + 4)) {
      value = word_into zero (loaded op (number_at view address (load_size op)));
      access =
          Some (record { kind = Loads; address = address; size = load_size op });
    } in
    let same : f ≡ e = accesses_done size address (load_size op) f e h in
    (ap (λ (g : Effect). g.rd) (sym same), ap (λ (g : Effect). g.stored) (sym same))
takes target size view registers pc phase input (Load op (suc rd) rs1 offset) e t h = absurd (let x : false ≡ true = t in cc)
takes target size view registers pc phase input (Lui rd imm) e t h = absurd (let x : false ≡ true = t in cc)
takes target size view registers pc phase input (Auipc rd imm) e t h = absurd (let x : false ≡ true = t in cc)
takes target size view registers pc phase input (Jal rd offset) e t h = absurd (let x : false ≡ true = t in cc)
takes target size view registers pc phase input (Jalr rd rs1 offset) e t h = absurd (let x : false ≡ true = t in cc)
takes target size view registers pc phase input (Branch op rs1 rs2 offset) e t h = absurd (let x : false ≡ true = t in cc)
takes target size view registers pc phase input (Store op rs1 rs2 offset) e t h = absurd (let x : false ≡ true = t in cc)
takes target size view registers pc phase input (OpImm op rd rs1 imm) e t h = absurd (let x : false ≡ true = t in cc)
takes target size view registers pc phase input (Op op rd rs1 rs2) e t h = absurd (let x : false ≡ true = t in cc)
takes target size view registers pc phase input (MulDiv op rd rs1 rs2) e t h = absurd (let x : false ≡ true = t in cc)
takes target size view registers pc phase input (Fence high rd) e t h = absurd (let x : false ≡ true = t in cc)
takes target size view registers pc phase input Ecall e t h = absurd (let x : false ≡ true = t in cc)
takes target size view registers pc phase input Ebreak e t h = absurd (let x : false ≡ true = t in cc)
takes target size view registers pc phase input PmMem e t h = absurd (let x : false ≡ true = t in cc)
takes target size view registers pc phase input (PmExec rs1) e t h = absurd (let x : false ≡ true = t in cc)
takes target size view registers pc phase input PmEnd e t h = absurd (let x : false ≡ true = t in cc)
takes target size view registers pc phase input PmDone e t h = absurd (let x : false ≡ true = t in cc)
takes target size view registers pc phase input (PmIn rd) e t h = absurd (let x : false ≡ true = t in cc)
takes target size view registers pc phase input (PmOut rs1) e t h = absurd (let x : false ≡ true = t in cc)

loads_by : (own : ℕ → Bool) (rd : ℕ) (access : Option Access) → IfSome access (λ a. AllOwn own a.address a.size) → LoadsOwn own rd access
loads_by own zero access h = tt
loads_by own (suc rd) None h = tt
loads_by own (suc rd) (Some a) h = λ _. h

stores_by : (own : ℕ → Bool) (access : Option Access) (stored : Option Stored) → AccessMatches access stored →
    IfSome access (λ a. AllOwn own a.address a.size) → IfSome stored (λ s. AllOwn own s.address s.size)
stores_by own None None m h = tt
stores_by own None (Some s) m h = absurd m
stores_by own (Some a) None m h = tt
stores_by own (Some a) (Some s) m h = subst (λ (b : Access). AllOwn own b.address b.size) m h

own_effect : (p : Setup) (own : ℕ → Bool) (pc : ℕ) (phase : Phase) (i : Instr) (e : Effect) (b : Bool) → takes_nothing i ≡ b →
    (b ≡ true → (e.rd ≡ 0) × (e.stored ≡ None)) → AccessMatches e.access e.stored → IsOwnDid p own (did_of pc phase i e) → IsOwn p own pc e
own_effect p own pc phase i e true t none m h = record {
  fetched = h.fetched;
  loads = subst (λ rd. LoadsOwn own rd e.access) (sym (none refl).0) tt;
  stores = subst (λ o. IfSome o (λ s. AllOwn own s.address s.size)) (sym (none refl).1) tt;
  fetch_line = h.fetch_line;
  data_line = h.data_line;
}
own_effect p own pc phase i e false t none m h = record {
  fetched = h.fetched;
  loads = loads_by own e.rd e.access (h.accessed t);
  stores = stores_by own e.access e.stored m (h.accessed t);
  fetch_line = h.fetch_line;
  data_line = h.data_line;
}

own_done : (p : Setup) (own : ℕ → Bool) (target : Target) (size : ℕ) (view registers : ℕ → ℕ) (pc : ℕ) (phase : Phase) (input : ℕ) (i : Instr)
    (o : Outcome) (d : Did) → Fits i → act target size view registers pc phase input i ≡ o → did_with pc phase i o ≡ Some d → IsOwnDid p own d →
    IsOwnOutcome p own pc o
own_done p own target size view registers pc phase input i (Trap cause) d fits is e h = absurd (let x : None ≡ Some d = e in cc)
own_done p own target size view registers pc phase input i (Done f) d fits is e h =
    let x : Some (did_of pc phase i f) ≡ Some d = e in
    let same : did_of pc phase i f ≡ d = cc in
    let k : EffectFits size f = subst (OnDone (EffectFits size)) is (act_fits target size view registers pc phase input i fits) in
    own_effect p own pc phase i f (takes_nothing i) refl (λ t. takes target size view registers pc phase input i f t is) k.matches (subst (IsOwnDid p own) (sym same) h)

own_fetched : (p : Setup) (own : ℕ → Bool) (run : TaskRun) (s : PlainState) (f : Result Instr Cause) (d : Did) → ((a : ℕ) → s.task.view a < 256) →
    fetch run.size s.task.view s.pc ≡ f → did_fetched run s f ≡ Some d → IsOwnDid p own d → IsOwnOutcome p own s.pc (outcome_of run s f)
own_fetched p own run s (Err cause) d bytes at e h = absurd (let x : None ≡ Some d = e in cc)
own_fetched p own run s (Ok i) d bytes at e h =
    own_done p own run.target run.size s.task.view s.task.registers s.pc s.task.phase (next_input s.task.left) i (outcome_of run s (Ok i)) d
    (fetch_fits run.size s.task.view s.pc bytes i at).0 refl e h

-- ---- the law

room_by : (sets room : ℕ) (calls : List Call) (i : ℕ) → All (λ (c : Call). HaveRoom sets room c.members) calls → HaveRoom sets room (get_or calls i no_call).members
room_by sets room [] i all k = omega arith
room_by sets room (c ∷ calls) zero all k = all 0 c (omega arith) k
room_by sets room (c ∷ calls) (suc i) all k = room_by sets room calls i (λ j d lt. all (suc j) d (omega (arith, lt))) k

pub conforming : ConformingRunsHaveScripts
conforming p passes own run calls due dids fits h =
    let s : Script = record { count = length dids; calls = calls; due = due } in (
      record {
        ends = h.ends;
        steps = λ n d e q. each_step run dids h.trace h.ends p.plant passes s h.keeps n d e q;
        room = λ i. room_by p.plant.sets p.plant.ways calls i h.room;
        calls_are = ap (λ (b : Begun). b.calls) (begun_is run (length dids) ∙ ap (λ xs. begun_behind xs none_begun) h.trace) ∙ h.calls_are;
        dues = subst (λ n. n ≤ due) (sym (due_is p.plant s run (length dids) ∙ ap (due_behind p.plant s none_begun) h.trace)) h.dues;
      },
      (λ n goes.
          let st : PlainState = plain_run run n in
          let none : Option Did = None in
          let x : (d : Did) × (plain_did run st ≡ Some d) = executes run dids h.trace h.ends n (running_below run dids h.trace h.ends n goes) (plain_did run st) refl in
          own_fetched p own run st (fetch run.size st.task.view st.pc) x.0 (plain_fits run fits n).task.bytes refl
          (sym (ap (λ c. cond c (did_fetched run st (fetch run.size st.task.view st.pc)) none) goes) ∙ x.1)
          (each_did run dids h.trace h.ends (IsOwnDid p own) h.own_dids n x.0 x.1)),
    )

pub keeping : ConformingRunsKeepPromises
keeping p passes own run calls due dids q c h = record {
  own_bytes = h.own_bytes;
  outputs = h.outputs;
  finals = h.finals;
  count = h.count;
  stated = h.stated;
  before = λ n d e m. subst (λ x. AtMark q.reads q.marks x (plain_run run (n + 1)).task.view (begun_by run n)) m (each_mark run dids c.trace c.ends q.reads q.marks h.marks n d e);
  after = λ n d e m. subst (λ x. AtMark q.reads q.marks x (plain_run run (n + 1)).task.view (begun_by run n)) m (each_mark run dids c.trace c.ends q.reads q.marks h.marks n d e);
}
