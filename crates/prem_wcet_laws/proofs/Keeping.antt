-- Runs under a guard that allows such ranges alone.
use Rattle.std.proofs.Common.{◌≡◌, ℕ, zero, suc, ◌+◌, ◌*◌, ◌/◌, ◌%◌, ◌<◌, ◌≤◌, refl, arith, cond, eqb, leb, true, false, Bool, List, [], ◌∷◌, length}
use Rattle.prem_wcet_laws.proofs.Prelude.{pieces_good, code-length, stepped_by, Pieces, code_of, EachPiece, Guard, Setting, Calls, all_of, allowed, stepped, outcome_at, run, Holds, AllCode}
use Rattle.prem_wcet_laws.proofs.Prelude.{Rules, extended_done, sets, jumps, accesses, loads, stores, changes, takes, puts, in_phase, plus, load_size, store_size, OnDone, TaskState}
use Rattle.prem_wcet_laws.proofs.Prelude.{next_input, Align, Outside, Stay, Memory, Execute, End, Job, Effect, Outcome, Trap, Phase, Compatible, Execution, Instr, Lui, Auipc, Jal, Jalr}
use Rattle.prem_wcet_laws.proofs.Prelude.{Branch, Load, Store, OpImm, Op, MulDiv, Fence, Ecall, Ebreak, PmMem, PmExec, PmEnd, PmDone, PmIn, PmOut, Lb, Lh, Lw, Lbu, Lhu, Sb, Sh, Sw, Extent}
use Rattle.prem_wcet_laws.proofs.Prelude.{Target, is_held, confined_to, is_foreign, IsNative, AccessIn, Accesses, IsIn, StandIn, number_at, cond_both, and_parts}
use Rattle.prem_isa.specs.Alu.{holds}
use Rattle.prem_isa.specs.declared.effect.Outcome.TheVariants.{Done}
use Rattle.prem_isa.specs.declared.effect.Phase.TheVariants.{Memory as MemoryPhase}
use Rattle.prem_isa.specs.declared.instr.LoadOp.{LoadOp}
use Rattle.prem_isa.specs.declared.instr.StoreOp.{StoreOp}
use Rattle.prem_wcet_laws.proofs.Alone.{none_access}
use Rattle.prem_wcet_laws.proofs.Calls.{EachCall}
use Rattle.prem_wcet_laws.proofs.EveryCalled.{every}

abbrev pub Any : TaskState → Type 0
Any t = Unit {0}

-- what is known of a guard: what it allows lies in the ranges
pub record Confines (ranges : List Extent) (g : Guard) : Type 0 where
  pub loads : (a : ℕ) → g.load a ≡ true → is_held ranges a ≡ true
  pub stores : (a : ℕ) → g.store a ≡ true → is_held ranges a ≡ true

pub confined_confines : (ranges : List Extent) (g : Guard) → Confines ranges (confined_to ranges g)
confined_confines ranges g = record { loads = λ a h. (and_parts (is_held ranges a) (g.load a) h).0; stores = λ a h. (and_parts (is_held ranges a) (g.store a) h).0 }

first_true : (f : ℕ → Bool) (a n : ℕ) → all_of f a n ≡ true → 0 < n → f a ≡ true
first_true f a zero h lt = absurd (omega arith)
first_true f a (suc n) h lt = (and_parts (f a) (all_of f (a + 1) n) h).0

module _ (code ranges : List Extent) (g : Guard) (o : Confines ranges g) where
  -- what an instruction accesses, but for loads that take nothing
  record Fine (i : Instr) (e : Effect) : Type 0 where
    inside : allowed g e ≡ true → is_foreign i ≡ false → AccessIn ranges e.access
    only : Accesses i e.access
    stays : is_foreign i ≡ false → e.change ≡ Stay

  sets_fine : (i : Instr) (next rd value : ℕ) → OnDone (Fine i) (sets next rd value)
  sets_fine i next rd value = record { inside = λ a t. tt; only = none_access i; stays = λ h. refl }

  jumps_fine : (i : Instr) (target rd value : ℕ) → OnDone (Fine i) (jumps target rd value)
  jumps_fine i target rd value = cond_both (eqb (target % 4) 0) (sets target rd value) (Trap Align) (OnDone (Fine i)) (λ e. sets_fine i target rd value) (λ e. tt)

  accesses_fine : (i : Instr) (size address bytes : ℕ) (done : Outcome) → OnDone (Fine i) done → OnDone (Fine i) (accesses size address bytes done)
  accesses_fine i size address bytes done k =
      cond_both (eqb (address % bytes) 0) (cond (leb (address + bytes) size) done (Trap Outside)) (Trap Align) (OnDone (Fine i))
      (λ e. cond_both (leb (address + bytes) size) done (Trap Outside) (OnDone (Fine i)) (λ f. k) (λ f. tt)) (λ e. tt)

  phase_fine : (i : Instr) (want have : Phase) (done : Outcome) → OnDone (Fine i) done → OnDone (Fine i) (in_phase want have done)
  phase_fine i Compatible Compatible done k = k
  phase_fine i Compatible MemoryPhase done k = tt
  phase_fine i Compatible Execution done k = tt
  phase_fine i MemoryPhase Compatible done k = tt
  phase_fine i MemoryPhase MemoryPhase done k = k
  phase_fine i MemoryPhase Execution done k = tt
  phase_fine i Execution Compatible done k = tt
  phase_fine i Execution MemoryPhase done k = tt
  phase_fine i Execution Execution done k = k

  load_some : (op : LoadOp) → 0 < load_size op
  load_some Lb = omega arith
  load_some Lh = omega arith
  load_some Lw = omega arith
  load_some Lbu = omega arith
  load_some Lhu = omega arith

  store_some : (op : StoreOp) → 0 < store_size op
  store_some Sb = omega arith
  store_some Sh = omega arith
  store_some Sw = omega arith

  load_fine : (op : LoadOp) (rd rs1 : ℕ) (offset : _) (next a n : ℕ) → OnDone (Fine (Load op rd rs1 offset)) (loads next op rd a n)
  load_fine op zero rs1 offset next a n = record { inside = λ h t. let both : true ≡ false = t in cc; only = tt; stays = λ h. refl }
  load_fine op (suc rd) rs1 offset next a n = record { inside = λ h t. o.loads a (first_true g.load a (load_size op) h (load_some op)); only = tt; stays = λ h. refl }

  store_fine : (op : StoreOp) (rs1 rs2 : ℕ) (offset : _) (next a w : ℕ) → OnDone (Fine (Store op rs1 rs2 offset)) (stores next op a w)
  store_fine op rs1 rs2 offset next a w = record { inside = λ h t. o.stores a (first_true g.store a (store_size op) h (store_some op)); only = tt; stays = λ h. refl }

  act_fine : (target : Target) (size at : ℕ) (i : Instr) (t : TaskState) → OnDone (Fine i) (outcome_at target size at i t)
  act_fine target size at (Lui rd imm) t = sets_fine (Lui rd imm) (at + 4) rd _
  act_fine target size at (Auipc rd imm) t = sets_fine (Auipc rd imm) (at + 4) rd _
  act_fine target size at (Jal rd offset) t = jumps_fine (Jal rd offset) (plus at offset) rd (at + 4)
  act_fine target size at (Jalr rd rs1 offset) t = jumps_fine (Jalr rd rs1 offset) (plus (t.registers rs1) offset / 2 * 2) rd (at + 4)
  act_fine target size at (Branch op rs1 rs2 offset) t =
      cond_both (holds op (t.registers rs1) (t.registers rs2)) (jumps (plus at offset) 0 0) (sets (at + 4) 0 0) (OnDone (Fine (Branch op rs1 rs2 offset)))
      (λ e. jumps_fine (Branch op rs1 rs2 offset) (plus at offset) 0 0) (λ e. sets_fine (Branch op rs1 rs2 offset) (at + 4) 0 0)
  act_fine target size at (Load op rd rs1 offset) t =
      let a = plus (t.registers rs1) offset in
      accesses_fine (Load op rd rs1 offset) size a (load_size op) (loads (at + 4) op rd a (number_at t.view a (load_size op)))
      (load_fine op rd rs1 offset (at + 4) a (number_at t.view a (load_size op)))
  act_fine target size at (Store op rs1 rs2 offset) t =
      let a = plus (t.registers rs1) offset in
      accesses_fine (Store op rs1 rs2 offset) size a (store_size op) (stores (at + 4) op a (t.registers rs2)) (store_fine op rs1 rs2 offset (at + 4) a (t.registers rs2))
  act_fine target size at (OpImm op rd rs1 imm) t = sets_fine (OpImm op rd rs1 imm) (at + 4) rd _
  act_fine target size at (Op op rd rs1 rs2) t = sets_fine (Op op rd rs1 rs2) (at + 4) rd _
  act_fine target size at (MulDiv op rd rs1 rs2) t = extended_done target _ (Fine (MulDiv op rd rs1 rs2)) (sets_fine (MulDiv op rd rs1 rs2) (at + 4) rd _)
  act_fine target size at (Fence high rd) t = sets_fine (Fence high rd) (at + 4) 0 0
  act_fine target size at Ecall t = tt
  act_fine target size at Ebreak t = tt
  act_fine target size at PmMem t = phase_fine PmMem Compatible t.phase (changes (at + 4) Memory) (record { inside = λ h s. tt; only = refl; stays = λ h. cc })
  act_fine target size at (PmExec rs1) t = phase_fine (PmExec rs1) MemoryPhase t.phase (changes (at + 4) (Execute (t.registers rs1))) (record { inside = λ h s. tt; only = refl; stays = λ h. cc })
  act_fine target size at PmEnd t = phase_fine PmEnd Execution t.phase (changes (at + 4) End) (record { inside = λ h s. tt; only = refl; stays = λ h. cc })
  act_fine target size at PmDone t = phase_fine PmDone Compatible t.phase (changes (at + 4) Job) (record { inside = λ h s. tt; only = refl; stays = λ h. cc })
  act_fine target size at (PmIn rd) t = phase_fine (PmIn rd) Compatible t.phase (takes (at + 4) rd (next_input t.left)) (record { inside = λ h s. tt; only = refl; stays = λ h. refl })
  act_fine target size at (PmOut rs1) t = phase_fine (PmOut rs1) Compatible t.phase (puts (at + 4) (t.registers rs1)) (record { inside = λ h s. tt; only = refl; stays = λ h. refl })

  -- ---- steps

  -- an instruction that stands in the ranges of the code, and takes something
  abbrev Good : ℕ → Instr → Type 0
  Good at i = (is_held code at ≡ true) × IsNative i

  one_in : (at : ℕ) (i : Instr) (t : TaskState) (x : Outcome) → Good at i → OnDone (Fine i) x → Holds (IsIn code ranges) Any (stepped g at i t x)
  one_in at i t (Trap cause) h k = tt
  one_in at i t (Done e) h k =
      stepped_by g at i t e (Holds (IsIn code ranges) Any) tt
      (λ a b. ((record { fetched = h.0; accessed = k.inside a h.1; accesses = k.only; stays = k.stays h.1 }, tt), tt))
      (λ a b to. ((record { fetched = h.0; accessed = k.inside a h.1; accesses = k.only; stays = k.stays h.1 }, tt), tt))

  in_rules : (target : Target) (size : ℕ) → Rules target size g Good (IsIn code ranges) Any
  in_rules target size = record {
    one = λ at i t h j. one_in at i t (outcome_at target size at i t) h (act_fine target size at i t);
    branch = λ at test t h j. (record { fetched = h.0; accessed = tt; accesses = refl; stays = refl }, tt);
    jump = λ at link z t h j. ((record { fetched = h.0; accessed = tt; accesses = refl; stays = refl }, tt), tt);
  }

  stand_code : (is : List Instr) (at : ℕ) → ((a : ℕ) → at ≤ a → a < at + 4 * length is → is_held code a ≡ true) → AllCode (λ at i. IsNative i) at is → AllCode Good at is
  stand_code [] at h k = tt
  stand_code (i ∷ is) at h k = ((h at (omega arith) (omega arith), k.0), stand_code is (at + 4) (λ a ge lt. h a (omega (arith, ge)) (omega (arith, lt))) k.1)

pub keeps_in : (code ranges : List Extent) (s : Setting) (calls : Calls) → Confines ranges s.guard → (ps : Pieces) (at : ℕ) → StandIn code at ps → EachPiece IsNative ps →
    EachCall (λ part. (t : TaskState) → Any t → Holds (IsIn code ranges) Any (calls part t)) ps → (t : TaskState) → Holds (IsIn code ranges) Any (run s calls at ps t)
keeps_in code ranges s calls o ps at stand takes parts t =
    every (Good code ranges s.guard o) (IsIn code ranges) Any s calls (in_rules code ranges s.guard o s.target s.size) ps at
    (stand_code code ranges s.guard o (code_of s.places at ps) at (λ a ge lt. stand a ge (omega (arith, lt, code-length s.places at ps))) (pieces_good IsNative s.places ps at takes)) parts t tt
