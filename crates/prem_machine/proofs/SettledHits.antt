-- An instruction from a line whose touch finds it and changes nothing.
use Rattle.std.proofs.Common.{◌≡◌, ◌+◌, ◌≤◌, ℕ, Bool, arith, List, [], ◌∷◌, Option, None, Some, refl, ap, sym, ◌∙◌}
use Rattle.prem_machine.proofs.Prelude.{Executes, Issued, attempt_in, attempt_seen, is_memory, issued_with, one_if, stored_in, task_after, touched_with, view_touched, Task, TaskRecord}
use Rattle.prem_machine.proofs.Prelude.{load_size, cost_of, decode_of, fields_of, UpshotFits, act_of, told_by, Access, Stay, DataLoad, Effect, Phase, Stored, Instr, Upshot, CacheState}
use Rattle.prem_machine.proofs.Prelude.{Touched, touch_of, view_of, rule_of, ComesTo, Finds, IsHit, hit_of, stores_in, IsExecuted, cost_at, load_access, load_effect, Plant, number_at}
use Rattle.prem_machine.proofs.Prelude.{slice_index}
use Rattle.prem_machine.proofs.Finding.{comes_to}
use Rattle.prem_machine.proofs.Hitting.{stays_moved}
use Rattle.std.specs.Prelude.{◌/◌, ◌%◌, false, true}

pub word_comes : (p q : Plant) (view : ℕ → ℕ) (t : Task) (pc word cost : ℕ) (u : Upshot) → q ≡ p → pc ≡ t.pc → pc % 4 ≡ 0 → t.pc + 4 ≤ p.memory → word ≡ number_at view t.pc 4 →
    cost ≡ cost_at (fields_of word) →
    ((v : ℕ → ℕ) (input : ℕ) → told_by v t.pc input u ≡ act_of q.target q.memory v (slice_index t.registers) t.pc t.phase input (decode_of word)) →
    UpshotFits q.memory u → ComesTo p view t cost u
word_comes p q view t pc word cost u same at aligned place reads costs =
    comes_to p q view t pc word cost u same at aligned (omega (arith, place, at, ap (λ (x : Plant). x.memory) same)) (reads ∙ ap (λ n. number_at view n 4) (sym at)) costs

-- ---- one that accesses nothing

none_issued : (c : CacheState) (tasks : List Task) (stored : Option Stored) (line : ℕ) (m : List ℕ) (access : Option Access) → Finds c line m c → access ≡ None → stored ≡ None →
    issued_with (rule_of c.plant.policy) c.plant.line tasks stored line (touch_of (rule_of c.plant.policy) c line m) access
    ≡ record { work = record { tasks = tasks; cache = c; memory = m }; touches = hit_of line ∷ [] }
none_issued c tasks stored line m access finds no_access no_store =
    let rule = rule_of c.plant.policy in
    ap (issued_with rule c.plant.line tasks stored line (touch_of rule c line m)) no_access
    ∙ ap (λ s. issued_with rule c.plant.line tasks s line (touch_of rule c line m) None) no_store
    ∙ ap (λ t. issued_with rule c.plant.line tasks None line t None) finds

pub none_hit : (c : CacheState) (m : List ℕ) (t t' : Task) (r : TaskRecord) (effect : Effect) (cost : ℕ) →
    IsExecuted c.plant.target c.plant.memory (view_of c m) t cost effect.access (λ v. effect) → Finds c (t.pc / c.plant.line) m c → effect.access ≡ None → effect.stored ≡ None →
    effect.change ≡ Stay → effect.input ≡ false → t' ≡ task_after r effect t → IsHit c.plant m t c t' c cost 1 0
none_hit c m t t' r effect cost ex finds no_access no_store stays takes moved =
    record {
      instr = ex.instr;
      effect = effect;
      lines = t.pc / c.plant.line ∷ [];
      does = ex.seen (view_touched (rule_of c.plant.policy) c.plant.line c m t.pc);
      stays = stays;
      takes_none = takes;
      issued = λ tasks. none_issued c tasks effect.stored (t.pc / c.plant.line) m effect.access finds no_access no_store;
      moved = moved ∙ stays_moved r effect t stays;
      costs = ex.costs;
      finds = refl;
      counts = ap (stores_in t.phase) no_store;
    }

-- ---- one that accesses a line

-- what is seen behind both touches
seen_behind : (c c' : CacheState) (pc : ℕ) (a : Access) (m : List ℕ) → Finds c (pc / c.plant.line) m c → Finds c (a.address / c.plant.line) m c' →
    view_touched (rule_of c.plant.policy) c.plant.line c m pc (Some a) ≡ view_of c' m
seen_behind c c' pc a m first second =
    let rule = rule_of c.plant.policy in
    let F : Touched → ℕ → ℕ = λ t. view_of t.cache t.memory in
    ap (λ (t : Touched). F (touched_with rule c.plant.line t (Some a))) first ∙ ap F second

some_issued : (c c' : CacheState) (tasks : List Task) (stored : Option Stored) (line : ℕ) (m : List ℕ) (a : Access) → Finds c line m c → Finds c (a.address / c.plant.line) m c' →
    issued_with (rule_of c.plant.policy) c.plant.line tasks stored line (touch_of (rule_of c.plant.policy) c line m) (Some a)
    ≡ record { work = record { tasks = tasks; cache = stored_in stored c'; memory = m }; touches = hit_of line ∷ hit_of (a.address / c.plant.line) ∷ [] }
some_issued c c' tasks stored line m a first second =
    let rule = rule_of c.plant.policy in
    let q : ℕ = a.address / c.plant.line in
    let F : Touched → Issued = λ t. issued_with rule c.plant.line tasks stored line t (Some a) in
    let G : Touched → Issued = λ t.
    record {
      work = record { tasks = tasks; cache = stored_in stored t.cache; memory = t.memory };
      touches = hit_of line ∷ record { line = q; hit = t.hit; back = t.back } ∷ [];
    } in
    ap F first ∙ ap G second

some_hit : (c c' c'' : CacheState) (m : List ℕ) (t t' : Task) (r : TaskRecord) (a : Access) (instr : Instr) (effect : Effect) (cost stores : ℕ) →
    attempt_seen c.plant.target c.plant.memory (view_touched (rule_of c.plant.policy) c.plant.line c m t.pc) t (attempt_in c.plant.target c.plant.memory (view_of c m) t) ≡ Executes instr effect →
    cost_of instr ≡ cost → effect.access ≡ Some a → effect.change ≡ Stay → effect.input ≡ false → Finds c (t.pc / c.plant.line) m c → Finds c (a.address / c.plant.line) m c' →
    c'' ≡ stored_in effect.stored c' → t' ≡ task_after r effect t → stores ≡ stores_in t.phase effect.stored → IsHit c.plant m t c t' c'' cost 2 stores
some_hit c c' c'' m t t' r a instr effect cost stores does costs access stays takes first second stored moved count =
    let rule = rule_of c.plant.policy in
    let line : ℕ = t.pc / c.plant.line in
    record {
      instr = instr;
      effect = effect;
      lines = line ∷ a.address / c.plant.line ∷ [];
      does = does;
      stays = stays;
      takes_none = takes;
      issued = λ tasks.
          ap (issued_with rule c.plant.line tasks effect.stored line (touch_of rule c line m)) access
          ∙ some_issued c c' tasks effect.stored line m a first second
          ∙ ap (λ (x : CacheState). record { work = record { tasks = tasks; cache = x; memory = m }; touches = hit_of line ∷ hit_of (a.address / c.plant.line) ∷ [] }) (sym stored);
      moved = moved ∙ stays_moved r effect t stays;
      costs = costs;
      finds = refl;
      counts = sym count;
    }

-- a load
pub load_found : (c c' : CacheState) (m : List ℕ) (t t' : Task) (r : TaskRecord) (l : DataLoad) (e : Effect) (number cost : ℕ) →
    IsExecuted c.plant.target c.plant.memory (view_of c m) t cost (Some (load_access l)) (load_effect l) → Finds c (t.pc / c.plant.line) m c → Finds c (l.address / c.plant.line) m c' →
    ((view : ℕ → ℕ) → number ≡ number_at view l.address (load_size l.op) → e ≡ load_effect l view) → number ≡ number_at (view_of c' m) l.address (load_size l.op) →
    t' ≡ task_after r e t → IsHit c.plant m t c t' c' cost 2 0
load_found c c' m t t' r l e number cost ex first second is reads moved =
    let seen = view_touched (rule_of c.plant.policy) c.plant.line c m t.pc in
    let done = load_effect l (seen (Some (load_access l))) in
    let same = seen_behind c c' t.pc (load_access l) m first second in
    let at : number ≡ number_at (seen (Some (load_access l))) l.address (load_size l.op) = reads ∙ ap (λ (v : ℕ → ℕ). number_at v l.address (load_size l.op)) (sym same) in
    some_hit c c' c' m t t' r (load_access l) ex.instr done cost 0 (ex.seen seen) ex.costs refl refl refl first second refl
    (moved ∙ ap (λ x. task_after r x t) (is (seen (Some (load_access l))) at)) refl

one_few : (b : Bool) → one_if b ≤ 1
one_few true = omega arith
one_few false = omega arith

-- it counts as one store at most
pub stores_few : (phase : Phase) (stored : Option Stored) → stores_in phase stored ≤ 1
stores_few phase None = omega arith
stores_few phase (Some s) = one_few (is_memory phase)

-- a store
pub store_found : (c c' : CacheState) (m : List ℕ) (t t' : Task) (r : TaskRecord) (a : Access) (s : Stored) (e : Effect) (cost stores : ℕ) →
    IsExecuted c.plant.target c.plant.memory (view_of c m) t cost e.access (λ v. e) → e.access ≡ Some a → e.stored ≡ Some s → e.change ≡ Stay → e.input ≡ false →
    Finds c (t.pc / c.plant.line) m c → Finds c (a.address / c.plant.line) m c' → t' ≡ task_after r e t → stores ≡ stores_in t.phase (Some s) →
    IsHit c.plant m t c t' (stored_in (Some s) c') cost 2 stores
store_found c c' m t t' r a s e cost stores ex access stored stays takes first second moved count =
    some_hit c c' (stored_in (Some s) c') m t t' r a ex.instr e cost stores (ex.seen (view_touched (rule_of c.plant.policy) c.plant.line c m t.pc)) ex.costs access stays takes first second
    (ap (λ o. stored_in o c') (sym stored)) moved (count ∙ ap (stores_in t.phase) (sym stored))
