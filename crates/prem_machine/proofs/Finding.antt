-- An instruction that finds all its lines leaves memory as it is, and all its touches hit.
use Rattle.std.proofs.Common.{◌≡◌, ℕ, ◌+◌, ◌≤◌, ◌<◌, ◌-◌, true, false, List, [], ◌∷◌, Option, None, Some, length, map, take, refl, ap, sym, ◌∙◌, subst, cond, arith}
use Rattle.prem_machine.proofs.Prelude.{Executes, Issued, LineTouch, attempt_in, attempt_seen, issued_with, stored_in, task_after, view_touched, Task, TaskRecord, EffectFits, cost_of}
use Rattle.prem_machine.proofs.Prelude.{decode_of, fields_of, next_input, UpshotFits, act_of, told_by, Access, Stay, DataLoad, Effect, Done, Stored, Instr, Upshot, Loads, kind_rule}
use Rattle.prem_machine.proofs.Prelude.{entry_same, CacheState, Touched, is_resident, set_of, touch_of, touched_by, view_of, with_set, Entry, ReplacementRule, brought_in, find_line, hit_in}
use Rattle.prem_machine.proofs.Prelude.{last_entry, replaced, IsRule, rule_of, ComesTo, IsHit, count_of, hit_of, lines_of, lines_there, stores_in, CanIssue, IsExecuted, cost_at, load_access}
use Rattle.prem_machine.proofs.Prelude.{load_effect, Plant, number_at, nat_lt, is_some, slice_index, slice_index_or, IfSome}
use Rattle.prem_isa.specs.declared.effect.AccessKind.TheVariants.{Loads as LoadKind}
use Rattle.prem_machine.proofs.Hitting.{stays_moved}
use Rattle.prem_machine.proofs.IssueLemmas.Costs.{Costs, word_costs}
use Rattle.prem_machine.proofs.IssueLemmas.Executed.{executed, goes_aligned}
use Rattle.std.specs.Prelude.{◌/◌, ◌%◌, false}

-- a line that is found
pub found_touch : (rule : ReplacementRule) (c : CacheState) (line : ℕ) (memory : List ℕ) → is_resident c line ≡ true →
    touch_of rule c line memory ≡ record { cache = with_set c line (rule line (set_of c line)); memory = memory; hit = true; back = false }
found_touch rule c line memory is =
    let es = set_of c line in
    ap (λ b. touched_by c line (cond b (hit_in rule line es memory) (cond (nat_lt (length es) c.plant.ways) (brought_in c.plant.line line es memory)
    (replaced c.plant.line line (take (length es - 1) es) (last_entry es) memory)))) is

-- each line that was there is there behind it
pub found_keeps : (rule : ReplacementRule) (c : CacheState) (line q : ℕ) → IsRule rule → 0 < length c.sets → is_resident c line ≡ true →
    is_resident (with_set c line (rule line (set_of c line))) q ≡ is_resident c q
found_keeps rule c line q h some is =
    ap is_some (entry_same c line q (rule line (set_of c line)) some (h.found line q (set_of c line) is))

-- all that it finds
pub found_issued : (rule : ReplacementRule) (c : CacheState) (tasks : List Task) (stored : Option Stored) (line : ℕ) (memory : List ℕ) (access : Option Access) →
    IsRule rule → 0 < length c.sets → is_resident c line ≡ true → IfSome access (λ a. is_resident c (a.address / c.plant.line) ≡ true) →
    ((issued_with rule c.plant.line tasks stored line (touch_of rule c line memory) access).work.memory ≡ memory)
    × ((issued_with rule c.plant.line tasks stored line (touch_of rule c line memory) access).touches ≡ map hit_of (lines_of c.plant.line line access))
found_issued rule c tasks stored line memory None h some is there =
    let F : Touched → Issued = λ t. issued_with rule c.plant.line tasks stored line t None in
    let e = ap F (found_touch rule c line memory is) in
    (ap (λ (x : Issued). x.work.memory) e, ap (λ (x : Issued). x.touches) e)
found_issued rule c tasks stored line memory (Some a) h some is there =
    let size = c.plant.line in
    let mid = with_set c line (rule line (set_of c line)) in
    let q : ℕ = a.address / size in
    let F : Touched → Issued = λ t. issued_with rule size tasks stored line t (Some a) in
    let e = ap F (found_touch rule c line memory is) in
    let other = found_touch rule mid q memory (found_keeps rule c line q h some is ∙ there) in
    let G : Touched → Issued = λ t.
    record {
      work = record { tasks = tasks; cache = stored_in stored t.cache; memory = t.memory };
      touches = hit_of line ∷ record { line = q; hit = t.hit; back = t.back } ∷ [];
    } in
    let f = e ∙ ap G other in
    (ap (λ (x : Issued). x.work.memory) f, ap (λ (x : Issued). x.touches) f)

-- ---- an instruction that does

-- the cache has sets
resident_some : (sets : List (List Entry)) (line : ℕ) → is_some (find_line line (slice_index_or sets (line % length sets) [])) ≡ true → 0 < length sets
resident_some [] line is = absurd (cc)
resident_some (es ∷ sets) line is = omega arith

count_lines : (size line : ℕ) (access : Option Access) → length (lines_of size line access) ≡ count_of access
count_lines size line None = refl
count_lines size line (Some a) = refl

-- with this effect behind its touches
pub effect_hit : (c c' : CacheState) (m m' : List ℕ) (t t' : Task) (r : TaskRecord) (line : ℕ) (instr : Instr) (effect : Effect) (cost hits stores : ℕ) (touches : List LineTouch) →
    attempt_seen c.plant.target c.plant.memory (view_touched (rule_of c.plant.policy) c.plant.line c m t.pc) t (attempt_in c.plant.target c.plant.memory (view_of c m) t) ≡ Executes instr effect →
    cost_of instr ≡ cost → effect.change ≡ Stay → effect.input ≡ false → line ≡ t.pc / c.plant.line → lines_there c line effect.access →
    ((tasks : List Task) → issued_with (rule_of c.plant.policy) c.plant.line tasks effect.stored (t.pc / c.plant.line) (touch_of (rule_of c.plant.policy) c (t.pc / c.plant.line) m) effect.access
    ≡ record { work = record { tasks = tasks; cache = c'; memory = m' }; touches = touches }) →
    t' ≡ task_after r effect t → hits ≡ count_of effect.access → stores ≡ stores_in t.phase effect.stored →
    IsHit c.plant m t c t' c' cost hits stores × (m' ≡ m)
effect_hit c c' m m' t t' r line instr effect cost hits stores touches does costs stays takes at there issued moved count counts =
    let rule = rule_of c.plant.policy in
    let size = c.plant.line in
    let here : is_resident c (t.pc / size) ≡ true = subst (λ n. is_resident c n ≡ true) at there.0 in
    let all = found_issued rule c [] effect.stored (t.pc / size) m effect.access (kind_rule c.plant.policy) (resident_some c.sets (t.pc / size) here) here there.1 in
    let same : m' ≡ m = sym (ap (λ (x : Issued). x.work.memory) (issued [])) ∙ all.0 in
    let lines : touches ≡ map hit_of (lines_of size (t.pc / size) effect.access) = sym (ap (λ (x : Issued). x.touches) (issued [])) ∙ all.1 in
    let hit : IsHit c.plant m t c t' c' cost hits stores =
    record {
      instr = instr;
      effect = effect;
      lines = lines_of size (t.pc / size) effect.access;
      does = does;
      stays = stays;
      takes_none = takes;
      issued = λ tasks. issued tasks ∙ (λ i. record { work = record { tasks = tasks; cache = c'; memory = same i }; touches = lines i });
      moved = moved ∙ stays_moved r effect t stays;
      costs = costs;
      finds = count_lines size (t.pc / size) effect.access ∙ sym count;
      counts = sym counts;
    } in
    (hit, same)

-- with an effect that is the same on each view
pub known_hit : (c c' : CacheState) (m m' : List ℕ) (t t' : Task) (r : TaskRecord) (line : ℕ) (effect : Effect) (cost hits stores : ℕ) (touches : List LineTouch) →
    IsExecuted c.plant.target c.plant.memory (view_of c m) t cost effect.access (λ v. effect) → effect.change ≡ Stay → effect.input ≡ false →
    line ≡ t.pc / c.plant.line → lines_there c line effect.access →
    ((tasks : List Task) → issued_with (rule_of c.plant.policy) c.plant.line tasks effect.stored (t.pc / c.plant.line) (touch_of (rule_of c.plant.policy) c (t.pc / c.plant.line) m) effect.access
    ≡ record { work = record { tasks = tasks; cache = c'; memory = m' }; touches = touches }) →
    t' ≡ task_after r effect t → hits ≡ count_of effect.access → stores ≡ stores_in t.phase effect.stored →
    IsHit c.plant m t c t' c' cost hits stores × (m' ≡ m)
known_hit c c' m m' t t' r line effect cost hits stores touches ex =
    effect_hit c c' m m' t t' r line ex.instr effect cost hits stores touches (ex.seen (view_touched (rule_of c.plant.policy) c.plant.line c m t.pc)) ex.costs

-- with that of a load
pub load_hit : (c c' : CacheState) (m m' : List ℕ) (t t' : Task) (r : TaskRecord) (line : ℕ) (l : DataLoad) (e : Effect) (cost : ℕ) (touches : List LineTouch) →
    IsExecuted c.plant.target c.plant.memory (view_of c m) t cost (Some (load_access l)) (load_effect l) → line ≡ t.pc / c.plant.line → lines_there c line (Some (load_access l)) →
    ((tasks : List Task) → issued_with (rule_of c.plant.policy) c.plant.line tasks None (t.pc / c.plant.line) (touch_of (rule_of c.plant.policy) c (t.pc / c.plant.line) m) (Some (load_access l))
    ≡ record { work = record { tasks = tasks; cache = c'; memory = m' }; touches = touches }) →
    e ≡ load_effect l (view_touched (rule_of c.plant.policy) c.plant.line c m t.pc (Some (load_access l))) → t' ≡ task_after r e t →
    IsHit c.plant m t c t' c' cost 2 0 × (m' ≡ m)
load_hit c c' m m' t t' r line l e cost touches ex at there issued is moved =
    let seen = view_touched (rule_of c.plant.policy) c.plant.line c m t.pc in
    let done = load_effect l (seen (Some (load_access l))) in
    effect_hit c c' m m' t t' r line ex.instr done cost 2 0 touches (ex.seen seen) ex.costs refl refl at there issued
    (moved ∙ ap (λ x. task_after r x t) is) refl refl

-- ---- what it comes to

pub known_does : (p : Plant) (view : ℕ → ℕ) (t : Task) (cost : ℕ) (u : Upshot) (e : Effect) → ComesTo p view t cost u →
    ((v : ℕ → ℕ) (input : ℕ) → Done e ≡ told_by v t.pc input u) → IsExecuted p.target p.memory view t cost e.access (λ v. e)
known_does p view t cost u e h does =
    let input = next_input t.left in
    executed p.target p.memory view t h.word cost e.access (λ v. e) h.place h.reads h.costs (λ v. does v input ∙ h.outcome v input) (λ v. refl) refl

pub load_does : (p : Plant) (view : ℕ → ℕ) (t : Task) (cost : ℕ) (l : DataLoad) → ComesTo p view t cost (Loads l.op l.rd l.address l.next) →
    IsExecuted p.target p.memory view t cost (Some (load_access l)) (load_effect l)
load_does p view t cost l h =
    let input = next_input t.left in
    executed p.target p.memory view t h.word cost (Some (load_access l)) (load_effect l) h.place h.reads h.costs (λ v. h.outcome v input) (λ v. refl) refl

comes_aligned : (p : Plant) (view : ℕ → ℕ) (t : Task) (cost : ℕ) (u : Upshot) (e : Effect) → ComesTo p view t cost u → Done e ≡ told_by view t.pc 0 u → e.pc % 4 ≡ 0
comes_aligned p view t cost u e h does =
    goes_aligned p.target p.memory view (slice_index t.registers) t.pc t.phase 0 (decode_of h.word) e (does ∙ h.outcome view 0) h.aligned

pub known_ready : (p : Plant) (view : ℕ → ℕ) (t : Task) (cost : ℕ) (u : Upshot) (e : Effect) → ComesTo p view t cost u →
    ((v : ℕ → ℕ) (input : ℕ) → Done e ≡ told_by v t.pc input u) → EffectFits p.memory e → CanIssue p.memory t.pc e
known_ready p view t cost u e h does fits = record { place = h.place; fits = fits; aligned = comes_aligned p view t cost u e h (does view 0) }

pub load_goes_on : (p : Plant) (view : ℕ → ℕ) (t : Task) (cost : ℕ) (l : DataLoad) → ComesTo p view t cost (Loads l.op l.rd l.address l.next) → l.next % 4 ≡ 0
load_goes_on p view t cost l h = comes_aligned p view t cost (Loads l.op l.rd l.address l.next) (load_effect l view) h refl

-- what the code has found of it
pub comes_to : (p q : Plant) (view : ℕ → ℕ) (t : Task) (pc word cost : ℕ) (u : Upshot) → q ≡ p → pc ≡ t.pc → pc % 4 ≡ 0 → pc + 4 ≤ q.memory → word ≡ number_at view pc 4 →
    cost ≡ cost_at (fields_of word) →
    ((v : ℕ → ℕ) (input : ℕ) → told_by v t.pc input u ≡ act_of q.target q.memory v (slice_index t.registers) t.pc t.phase input (decode_of word)) →
    UpshotFits q.memory u → ComesTo p view t cost u
comes_to p q view t pc word cost u same at aligned within reads costs outcome fits =
    let C : ℕ → Type 0 = λ n. Costs (decode_of word) n in
    let come : ComesTo q view t cost u =
    record {
      word = word;
      place = subst (λ n. n + 4 ≤ q.memory) at within;
      aligned = subst (λ n. n % 4 ≡ 0) at aligned;
      reads = reads ∙ ap (λ n. number_at view n 4) at;
      costs = subst C (sym costs) (word_costs word);
      outcome = outcome;
      fits = fits;
    } in
    subst (λ (x : Plant). ComesTo x view t cost u) same come

-- the lines of a load, by its address
pub there_for : (c : CacheState) (line : ℕ) (l : DataLoad) (size : ℕ) →
    lines_there c line (Some (record { kind = LoadKind; address = l.address; size = size })) → lines_there c line (Some (load_access l))
there_for c line l size h = h
