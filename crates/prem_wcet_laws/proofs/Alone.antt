-- Loads and stores alone access bytes, and what own code is charged where it stands alone.
use Rattle.std.proofs.Common.{◌≡◌, ℕ, ◌+◌, ◌*◌, ◌/◌, ◌%◌, ◌≤◌, refl, ap, ◌∙◌, sym, subst, arith, cond, eqb, leb, List, [], ◌∷◌, length, max, Some, None, Option, false}
use Rattle.prem_wcet_laws.proofs.Prelude.{pieces_good, stepped_by, Pieces, no_pieces, straight, address_of, either, repeat, call_to, weight, jump_weight, address_weight, branch_of}
use Rattle.prem_wcet_laws.proofs.Prelude.{skip_words, other_at, either_end, test_at, repeat_end, weighted, EachPiece, Guard, Setting, Calls, Ending, Falls, Returns, Stuck, stepped}
use Rattle.prem_wcet_laws.proofs.Prelude.{outcome_at, control, run, AllSteps, Holds, Within, total, Rules, extended_done, sets, jumps, accesses, loads, stores, changes, takes, puts}
use Rattle.prem_wcet_laws.proofs.Prelude.{in_phase, plus, load_size, store_size, multiply_divide, OnDone, cost_of, TaskState, Did, next_input, Align, Outside, Stay, Memory, Execute, End}
use Rattle.prem_wcet_laws.proofs.Prelude.{Job, Effect, Outcome, Trap, Phase, Compatible, Execution, Instr, Lui, Auipc, Jal, Jalr, Branch, Load, Store, OpImm, Op, MulDiv, Fence, Ecall}
use Rattle.prem_wcet_laws.proofs.Prelude.{Ebreak, PmMem, PmExec, PmEnd, PmDone, PmIn, PmOut, line_cost, job_weight, Plant, Target, StaysOn, Weighs, weight_of, access_lines, lone_charge}
use Rattle.prem_wcet_laws.proofs.Prelude.{Divides, RunDivides, Accesses, is_foreign, IsNative, weight_from, weighted_from, number_at, cond_both}
use Rattle.prem_isa.specs.Alu.{holds}
use Rattle.prem_isa.specs.declared.effect.Access.{Access}
use Rattle.prem_isa.specs.declared.effect.Outcome.TheVariants.{Done}
use Rattle.prem_isa.specs.declared.effect.Phase.TheVariants.{Memory as MemoryPhase}
use Rattle.prem_wcet_laws.proofs.Calls.{EachCall}
use Rattle.prem_wcet_laws.proofs.Divide.{divides_alone}
use Rattle.prem_wcet_laws.proofs.EveryCalled.{every}
use Rattle.prem_wcet_laws.proofs.PlaceCost.{run_in_each}
use Rattle.prem_wcet_laws.proofs.ScopeCosts.{total_less}

pub none_access : (i : Instr) → Accesses i None
none_access (Lui rd imm) = refl
none_access (Auipc rd imm) = refl
none_access (Jal rd offset) = refl
none_access (Jalr rd rs1 offset) = refl
none_access (Branch op rs1 rs2 offset) = refl
none_access (Load op rd rs1 offset) = tt
none_access (Store op rs1 rs2 offset) = tt
none_access (OpImm op rd rs1 imm) = refl
none_access (Op op rd rs1 rs2) = refl
none_access (MulDiv op rd rs1 rs2) = refl
none_access (Fence high rd) = refl
none_access Ecall = refl
none_access Ebreak = refl
none_access PmMem = refl
none_access (PmExec rs1) = refl
none_access PmEnd = refl
none_access PmDone = refl
none_access (PmIn rd) = refl
none_access (PmOut rs1) = refl

abbrev Only : Instr → Effect → Type 0
Only i e = Accesses i e.access × (is_foreign i ≡ false → e.change ≡ Stay)

sets_only : (i : Instr) (next rd value : ℕ) → OnDone (Only i) (sets next rd value)
sets_only i next rd value = (none_access i, λ h. refl)

jumps_only : (i : Instr) (target rd value : ℕ) → OnDone (Only i) (jumps target rd value)
jumps_only i target rd value = cond_both (eqb (target % 4) 0) (sets target rd value) (Trap Align) (OnDone (Only i)) (λ e. sets_only i target rd value) (λ e. tt)

accesses_only : (i : Instr) (size address bytes : ℕ) (done : Outcome) → OnDone (Only i) done → OnDone (Only i) (accesses size address bytes done)
accesses_only i size address bytes done k =
    cond_both (eqb (address % bytes) 0) (cond (leb (address + bytes) size) done (Trap Outside)) (Trap Align) (OnDone (Only i))
    (λ e. cond_both (leb (address + bytes) size) done (Trap Outside) (OnDone (Only i)) (λ f. k) (λ f. tt)) (λ e. tt)

phase_only : (i : Instr) (want have : Phase) (done : Outcome) → OnDone (Only i) done → OnDone (Only i) (in_phase want have done)
phase_only i Compatible Compatible done k = k
phase_only i Compatible MemoryPhase done k = tt
phase_only i Compatible Execution done k = tt
phase_only i MemoryPhase Compatible done k = tt
phase_only i MemoryPhase MemoryPhase done k = k
phase_only i MemoryPhase Execution done k = tt
phase_only i Execution Compatible done k = tt
phase_only i Execution MemoryPhase done k = tt
phase_only i Execution Execution done k = k

act_only : (target : Target) (size at : ℕ) (i : Instr) (t : TaskState) → OnDone (Only i) (outcome_at target size at i t)
act_only target size at (Lui rd imm) t = (refl, λ h. refl)
act_only target size at (Auipc rd imm) t = (refl, λ h. refl)
act_only target size at (Jal rd offset) t = jumps_only (Jal rd offset) (plus at offset) rd (at + 4)
act_only target size at (Jalr rd rs1 offset) t = jumps_only (Jalr rd rs1 offset) (plus (t.registers rs1) offset / 2 * 2) rd (at + 4)
act_only target size at (Branch op rs1 rs2 offset) t =
    cond_both (holds op (t.registers rs1) (t.registers rs2)) (jumps (plus at offset) 0 0) (sets (at + 4) 0 0) (OnDone (Only (Branch op rs1 rs2 offset)))
    (λ e. jumps_only (Branch op rs1 rs2 offset) (plus at offset) 0 0) (λ e. sets_only (Branch op rs1 rs2 offset) (at + 4) 0 0)
act_only target size at (Load op rd rs1 offset) t =
    let a = plus (t.registers rs1) offset in
    accesses_only (Load op rd rs1 offset) size a (load_size op) (loads (at + 4) op rd a (number_at t.view a (load_size op))) (tt, λ h. refl)
act_only target size at (Store op rs1 rs2 offset) t =
    let a = plus (t.registers rs1) offset in
    accesses_only (Store op rs1 rs2 offset) size a (store_size op) (stores (at + 4) op a (t.registers rs2)) (tt, λ h. refl)
act_only target size at (OpImm op rd rs1 imm) t = (refl, λ h. refl)
act_only target size at (Op op rd rs1 rs2) t = (refl, λ h. refl)
act_only target size at (MulDiv op rd rs1 rs2) t = extended_done target (sets (at + 4) rd (multiply_divide op (t.registers rs1) (t.registers rs2))) (Only (MulDiv op rd rs1 rs2)) (refl, λ h. refl)
act_only target size at (Fence high rd) t = sets_only (Fence high rd) (at + 4) 0 0
act_only target size at Ecall t = tt
act_only target size at Ebreak t = tt
act_only target size at PmMem t = phase_only PmMem Compatible t.phase (changes (at + 4) Memory) (refl, λ h. cc)
act_only target size at (PmExec rs1) t = phase_only (PmExec rs1) MemoryPhase t.phase (changes (at + 4) (Execute (t.registers rs1))) (refl, λ h. cc)
act_only target size at PmEnd t = phase_only PmEnd Execution t.phase (changes (at + 4) End) (refl, λ h. cc)
act_only target size at PmDone t = phase_only PmDone Compatible t.phase (changes (at + 4) Job) (refl, λ h. cc)
act_only target size at (PmIn rd) t = phase_only (PmIn rd) Compatible t.phase (takes (at + 4) rd (next_input t.left)) (refl, λ h. refl)
act_only target size at (PmOut rs1) t = phase_only (PmOut rs1) Compatible t.phase (puts (at + 4) (t.registers rs1)) (refl, λ h. refl)

-- ---- steps

abbrev pub StepAccesses : Did → Type 0
StepAccesses d = Accesses d.instr d.access × StaysOn d

abbrev Any : TaskState → Type 0
Any t = Unit {0}

abbrev Each : ℕ → Instr → Type 0
Each at i = IsNative i

one_only : (g : Guard) (at : ℕ) (i : Instr) (t : TaskState) (x : Outcome) → IsNative i → OnDone (Only i) x → Holds StepAccesses Any (stepped g at i t x)
one_only g at i t (Trap cause) h k = tt
one_only g at i t (Done e) h k = stepped_by g at i t e (Holds StepAccesses Any) tt (λ a b. (((k.0, k.1 h), tt), tt)) (λ a b to. (((k.0, k.1 h), tt), tt))

only_rules : (target : Target) (size : ℕ) (g : Guard) → Rules target size g Each StepAccesses Any
only_rules target size g = record {
  one = λ at i t h j. one_only g at i t (outcome_at target size at i t) h (act_only target size at i t);
  branch = λ at test t h j. ((refl, refl), tt);
  jump = λ at link z t h j. (((refl, refl), tt), tt);
}

accesses_hold : (s : Setting) (calls : Calls) (ps : Pieces) (at : ℕ) → EachPiece IsNative ps →
    EachCall (λ part. (t : TaskState) → Any t → Holds StepAccesses Any (calls part t)) ps → (t : TaskState) → Holds StepAccesses Any (run s calls at ps t)
accesses_hold s calls ps at native parts t = every Each StepAccesses Any s calls (only_rules s.target s.size s.guard) ps at (pieces_good IsNative s.places ps at native) parts t tt

-- ---- the rule's weights

plain_alone : (p : Plant) (pc : ℕ) (i : Instr) (x : Option Access) → x ≡ None → cost_of i + length (pc ∷ access_lines p.line x) * line_cost p ≤ cost_of i + line_cost p
plain_alone p pc i x e = subst (λ x. cost_of i + length (pc ∷ access_lines p.line x) * line_cost p ≤ cost_of i + line_cost p) (sym e) (once (cost_of i) (line_cost p)) where
  once : (c n : ℕ) → c + 1 * n ≤ c + n
  once c n = omega arith

-- a step that stands alone is charged at most its weight
instr_alone : (p : Plant) (pc : ℕ) (i : Instr) (x : Option Access) → Accesses i x → cost_of i + length (pc ∷ access_lines p.line x) * line_cost p ≤ job_weight p i
instr_alone p pc (Load op rd rs1 offset) None a = once (cost_of (Load op rd rs1 offset)) (line_cost p) where
  once : (c n : ℕ) → c + 1 * n ≤ c + 2 * n
  once c n = omega arith
instr_alone p pc (Load op rd rs1 offset) (Some x) a = least _ where
  least : (n : ℕ) → n ≤ n
  least n = omega arith
instr_alone p pc (Store op rs1 rs2 offset) None a = once (cost_of (Store op rs1 rs2 offset)) (line_cost p) where
  once : (c n : ℕ) → c + 1 * n ≤ c + 2 * n
  once c n = omega arith
instr_alone p pc (Store op rs1 rs2 offset) (Some x) a = least _ where
  least : (n : ℕ) → n ≤ n
  least n = omega arith
instr_alone p pc (Lui rd imm) x a = plain_alone p pc (Lui rd imm) x a
instr_alone p pc (Auipc rd imm) x a = plain_alone p pc (Auipc rd imm) x a
instr_alone p pc (Jal rd offset) x a = plain_alone p pc (Jal rd offset) x a
instr_alone p pc (Jalr rd rs1 offset) x a = plain_alone p pc (Jalr rd rs1 offset) x a
instr_alone p pc (Branch op rs1 rs2 offset) x a = plain_alone p pc (Branch op rs1 rs2 offset) x a
instr_alone p pc (OpImm op rd rs1 imm) x a = plain_alone p pc (OpImm op rd rs1 imm) x a
instr_alone p pc (Op op rd rs1 rs2) x a = plain_alone p pc (Op op rd rs1 rs2) x a
instr_alone p pc (MulDiv op rd rs1 rs2) x a = plain_alone p pc (MulDiv op rd rs1 rs2) x a
instr_alone p pc (Fence high rd) x a = plain_alone p pc (Fence high rd) x a
instr_alone p pc Ecall x a = plain_alone p pc Ecall x a
instr_alone p pc Ebreak x a = plain_alone p pc Ebreak x a
instr_alone p pc PmMem x a = plain_alone p pc PmMem x a
instr_alone p pc (PmExec rs1) x a = plain_alone p pc (PmExec rs1) x a
instr_alone p pc PmEnd x a = plain_alone p pc PmEnd x a
instr_alone p pc PmDone x a = plain_alone p pc PmDone x a
instr_alone p pc (PmIn rd) x a = plain_alone p pc (PmIn rd) x a
instr_alone p pc (PmOut rs1) x a = plain_alone p pc (PmOut rs1) x a

alone_less : (p : Plant) (ds : List Did) → AllSteps StepAccesses ds → total (lone_charge p) ds ≤ total (λ (d : Did). job_weight p d.instr) ds
alone_less p ds h = total_less StepAccesses (lone_charge p) (λ (d : Did). job_weight p d.instr) (λ d a. instr_alone p (d.pc / p.line) d.instr d.access a.0) ds h

-- weights that places don't add to
const_code : (w : Instr → ℕ) (is : List Instr) (at : ℕ) → weight_from (λ at. w) at is ≡ weight w is
const_code w [] at = refl
const_code w (i ∷ is) at = ap (λ n. w i + n) (const_code w is (at + 4))

const_weighted : (w : Instr → ℕ) (c : ℕ → ℕ) (ps : Pieces) (at : ℕ) → weighted_from (λ at. w) c at ps ≡ weighted w c ps
const_weighted w c no_pieces at = refl
const_weighted w c (straight code rest) at = ap (λ n. n + weighted_from (λ at. w) c (at + 4 * length code) rest) (const_code w code at)
    ∙ ap (λ n. weight w code + n) (const_weighted w c rest (at + 4 * length code))
const_weighted w c (address_of rd part more rest) at = ap (λ n. address_weight w + n) (const_weighted w c rest (at + 8))
const_weighted w c (either test taken other rest) at =
    let x = const_weighted w c taken (at + 8) in
    let y = const_weighted w c other (other_at at taken other) in
    let z = const_weighted w c rest (either_end at taken other) in
    ap (λ n. w (branch_of test) + max (n + skip_words other * jump_weight w)
    (jump_weight w + weighted_from (λ at. w) c (other_at at taken other) other) + weighted_from (λ at. w) c (either_end at taken other) rest) x
    ∙ ap (λ n. w (branch_of test) + max (weighted w c taken + skip_words other * jump_weight w) (jump_weight w + n) + weighted_from (λ at. w) c (either_end at taken other) rest) y
    ∙ ap (λ n. w (branch_of test) + max (weighted w c taken + skip_words other * jump_weight w) (jump_weight w + weighted w c other) + n) z
const_weighted w c (repeat turns head test body rest) at =
    let x = const_weighted w c head at in
    let y = const_weighted w c body (test_at at head + 8) in
    let z = const_weighted w c rest (repeat_end at head body) in
    ap (λ n. turns * (n + w (branch_of test) + weighted_from (λ at. w) c (test_at at head + 8) body + jump_weight w) +
    (n + w (branch_of test) + jump_weight w) + weighted_from (λ at. w) c (repeat_end at head body) rest) x
    ∙ ap (λ n. turns * (weighted w c head + w (branch_of test) + n + jump_weight w) + (weighted w c head + w (branch_of test) + jump_weight w)
    + weighted_from (λ at. w) c (repeat_end at head body) rest) y
    ∙ ap (λ n. turns * (weighted w c head + w (branch_of test) + weighted w c body + jump_weight w) + (weighted w c head + w (branch_of test) + jump_weight w) + n) z
const_weighted w c (call_to link part rest) at = ap (λ n. jump_weight w + c part + n) (const_weighted w c rest (at + 4))

rule_weighs : (p : Plant) → Weighs (λ at. job_weight p)
rule_weighs p = record { jump = λ at rd z. omega arith; upper = λ at rd n. omega arith; lower = λ at rd rs1 z. omega arith }

-- code without calls, whatever is said of the parts that it calls
abbrev pub CallFree : Pieces → Type 0
CallFree ps = EachCall (λ part. ⊥) ps

pub free_any : (Good : ℕ → Type 0) (ps : Pieces) → CallFree ps → EachCall Good ps
free_any Good no_pieces h = tt
free_any Good (straight code rest) h = free_any Good rest h
free_any Good (address_of rd part more rest) h = free_any Good rest h
free_any Good (either test taken other rest) h = (free_any Good taken h.0, free_any Good other h.1, free_any Good rest h.2)
free_any Good (repeat turns head test body rest) h = (free_any Good head h.0, free_any Good body h.1, free_any Good rest h.2)
free_any Good (call_to link part rest) h = absurd h.0

all_stay : (ds : List Did) → AllSteps StepAccesses ds → AllSteps StaysOn ds
all_stay [] h = tt
all_stay (d ∷ ds) h = (h.0.1, all_stay ds h.1)

pub own_divides : (p : Plant) (s : Setting) (calls : Calls) (ps : Pieces) → CallFree ps → EachPiece IsNative ps → (at : ℕ) (t : TaskState) →
    RunDivides p (weighted (job_weight p) (λ part. 0) ps) (run s calls at ps t)
own_divides p s calls ps free native at t =
    by (run s calls at ps t) (accesses_hold s calls ps at native (free_any (λ part. (t : TaskState) → Any t → Holds StepAccesses Any (calls part t)) ps free) t)
    (subst (λ n. Within (weight_of (λ at. job_weight p)) n (run s calls at ps t)) (const_weighted (job_weight p) (λ part. 0) ps at)
    (run_in_each (λ at. job_weight p) (rule_weighs p) s calls (λ part. 0) ps (free_any (λ part. (t : TaskState) → Within (weight_of (λ at. job_weight p)) 0 (calls part t)) ps free) at t)) where
      further : (a b c : ℕ) → a ≤ b → b ≤ c → a ≤ c
      further a b c h k = omega (arith, h, k)

      by : (o : Ending) → Holds StepAccesses Any o → Within (weight_of (λ at. job_weight p)) (weighted (job_weight p) (λ part. 0) ps) o → RunDivides p (weighted (job_weight p) (λ part. 0) ps) o
      by (Falls u trace) h k = divides_alone p _ trace (all_stay trace h.0) (further _ _ _ (alone_less p trace h.0) k)
      by (Returns back u trace) h k = divides_alone p _ trace (all_stay trace h.0) (further _ _ _ (alone_less p trace h.0) k)
      by Stuck h k = tt

-- single steps of branches and jumps
pub control_divides : (p : Plant) (at : ℕ) (i : Instr) (t : TaskState) (n : ℕ) → Accesses i None → job_weight p i ≤ n → Divides p n (control at i t)
control_divides p at i t n a le = divides_alone p n (control at i t) (refl, tt) (one _ _ n (instr_alone p (at / p.line) i None a) le) where
  one : (a b c : ℕ) → a ≤ b → b ≤ c → a + 0 ≤ c
  one a b c h k = omega (arith, h, k)
