-- The rules that each placed task of a set keeps that breaks none.
use Rattle.std.proofs.Common.{◌≡◌, ℕ, zero, suc, ◌+◌, refl, ap, sym, subst, List, [], ◌∷◌, drop, Option, None, Some, Ok, slice_get}
use Rattle.prem_sets_sound.proofs.Prelude.{broken_when_placed, broken_at_places, broken_late, part_count, Coded, Placed, task_places, placed_at, placed_from, or_else, refused_by}
use Rattle.prem_sets_sound.proofs.Prelude.{first_among, over_tasks, code_rules, memory_rules, reach_rules, conflict_rules, bound_rules, length_rules, log_rules, Extent, Plant, Target}
use Rattle.prem_sets_sound.proofs.Prelude.{bounded, AcceptedTasksKeepRules, ProgramText, TaskText, text_rules, program_before, programs_of, program_rules, range_rules, coded_one, coded_of}
use Rattle.prem_sets_sound.proofs.Prelude.{late_refusal, broken_programs, coded_in, places_in, placed_in, reads, AllByRecursion, option_map}
use Rattle.prem_sets_sound.proofs.ImagePremisesLemmas.Follow.{both_none, not_refused, not_late, read_there}
use Rattle.prem_syntax.specs.ProgramRules as meaning
use Rattle.prem_ranges.specs.RangesKept as ranges

-- ---- rules over all tasks

pub none_among : {A R : Type 0} (check : A → Option R) (n : ℕ) (xs : List A) → first_among check n xs ≡ None → AllByRecursion (λ x. check x ≡ None) xs
none_among check n [] h = tt
none_among check n (x ∷ xs) h =
    let s = both_none (refused_by (Some n) (check x)) (first_among check (n + 1) xs) h in
    (not_refused (Some n) (check x) s.first, none_among check (n + 1) xs s.second)

pub at_place : {A : Type 0} (P : A → Type 0) (xs : List A) → AllByRecursion P xs → (k : ℕ) (x : A) → slice_get xs k ≡ Some x → P x
at_place P [] h k x e = absurd cc
at_place P (y ∷ xs) h zero x e = let same : y ≡ x = cc in subst P same h.0
at_place P (y ∷ xs) h (suc k) x e = at_place P xs h.1 k x e

pub not_mapped : {A B : Type 0} (f : A → B) (o : Option A) → option_map f o ≡ None → o ≡ None
not_mapped f None h = refl
not_mapped f (Some a) h = absurd cc

-- ---- programs

-- each text has its program
abbrev pub Read : List TaskText → List ProgramText → Type 0
Read [] [] = Unit {0}
Read [] (q ∷ qs) = ⊥
Read (t ∷ ts) [] = ⊥
Read (t ∷ ts) (q ∷ qs) = (reads t.text ≡ Ok q) × Read ts qs

pub read_all : (n : ℕ) (ts : List TaskText) → first_among text_rules n ts ≡ None → Read ts (programs_of ts)
read_all n [] h = tt
read_all n (t ∷ ts) h =
    let s = both_none (refused_by (Some n) (text_rules t)) (first_among text_rules (n + 1) ts) h in
    let r = read_there n t s.first in
    let e : programs_of (t ∷ ts) ≡ r.0 ∷ programs_of ts = ap (λ o. program_before o (programs_of ts)) r.1 in
    subst (Read (t ∷ ts)) (sym e) (r.1, read_all (n + 1) ts s.second)

-- the text and the program of a placed task
pub record HasProgram (target : Target) (ts : List TaskText) (k : ℕ) (t : Placed) : Type 0 where
  pub text : TaskText
  pub program : ProgramText
  pub there : slice_get ts k ≡ Some text
  pub read : reads text.text ≡ Ok program
  pub two : program_rules program ≡ None
  pub three : range_rules program ≡ None
  pub is_coded : t.task ≡ coded_one target text (bounded program)
  pub four : code_rules t.task.program ≡ None

pub find_program : (p : Plant) (places : List Extent) (ts : List TaskText) (qs : List ProgramText) → Read ts qs →
    AllByRecursion (λ q. program_rules q ≡ None) qs → AllByRecursion (λ q. range_rules q ≡ None) qs → AllByRecursion (λ (c : Coded). code_rules c.program ≡ None) (coded_of p.target ts qs) →
    (k : ℕ) (t : Placed) → slice_get (placed_from p places (coded_of p.target ts qs)) k ≡ Some t → HasProgram p.target ts k t
find_program p places [] [] r two three four k t e = absurd cc
find_program p places [] (q ∷ qs) r two three four k t e = absurd r
find_program p places (x ∷ ts) [] r two three four k t e = absurd r
find_program p places (x ∷ ts) (q ∷ qs) r two three four zero t e =
    let c = coded_one p.target x (bounded q) in
    let same : placed_at p c (task_places c.program places) ≡ t = cc in
    let is : t.task ≡ c = ap (λ (u : Placed). u.task) (sym same) in
    record { text = x; program = q; there = refl; read = r.0; two = two.0; three = three.0; is_coded = is; four = subst (λ (d : Coded). code_rules d.program ≡ None) (sym is) four.0 }
find_program p places (x ∷ ts) (q ∷ qs) r two three four (suc k) t e =
    let c = coded_one p.target x (bounded q) in
    let f = find_program p (drop (part_count c.program) places) ts qs r.1 two.1 three.1 four.1 k t e in
    record { text = f.text; program = f.program; there = f.there; read = f.read; two = f.two; three = f.three; is_coded = f.is_coded; four = f.four }

-- ---- placed tasks

pub record KeepPlaced (p : Plant) (tasks : List Coded) (placed : List Placed) : Type 0 where
  pub six : AllByRecursion (λ t. reach_rules t ≡ None) placed
  pub seven : AllByRecursion (λ t. conflict_rules p t ≡ None) placed
  pub eight : AllByRecursion (λ t. bound_rules p t ≡ None) placed
  pub nine : AllByRecursion (λ t. length_rules p t ≡ None) placed
  pub ten : log_rules tasks ≡ None

pub placed_keep : (p : Plant) (tasks : List Coded) (placed : List Placed) → broken_when_placed p tasks placed ≡ None → KeepPlaced p tasks placed
placed_keep p tasks placed h =
    let ten = refused_by None (log_rules tasks) in
    let six = both_none (over_tasks reach_rules placed)
    (or_else (over_tasks (conflict_rules p) placed) (or_else (over_tasks (bound_rules p) placed) (or_else (over_tasks (length_rules p) placed) ten))) h in
    let seven = both_none (over_tasks (conflict_rules p) placed) (or_else (over_tasks (bound_rules p) placed) (or_else (over_tasks (length_rules p) placed) ten)) six.second in
    let eight = both_none (over_tasks (bound_rules p) placed) (or_else (over_tasks (length_rules p) placed) ten) seven.second in
    let nine = both_none (over_tasks (length_rules p) placed) ten eight.second in
    record {
      six = none_among reach_rules 0 placed six.first;
      seven = none_among (conflict_rules p) 0 placed seven.first;
      eight = none_among (bound_rules p) 0 placed eight.first;
      nine = none_among (length_rules p) 0 placed nine.first;
      ten = not_refused None (log_rules tasks) nine.second;
    }

pub accepted_tasks_keep_rules : AcceptedTasksKeepRules
accepted_tasks_keep_rules set h k t e =
    let ps = programs_of set.tasks in
    let cs = coded_in set in
    let late = broken_late set.plant set.devices cs in
    let one = both_none (over_tasks text_rules set.tasks) (broken_programs set ps) h in
    let two = both_none (over_tasks program_rules ps) (or_else (over_tasks range_rules ps) (late_refusal late)) one.second in
    let three = both_none (over_tasks range_rules ps) (late_refusal late) two.second in
    let four = both_none (over_tasks (λ (c : Coded). code_rules c.program) cs) (broken_at_places set.plant (places_in set) cs) (not_late late three.second) in
    let five = both_none (refused_by None (memory_rules set.plant (places_in set))) (broken_when_placed set.plant cs (placed_in set)) four.second in
    let keep = placed_keep set.plant cs (placed_in set) five.second in
    let f = find_program set.plant (places_in set) set.tasks ps (read_all 0 set.tasks one.first) (none_among program_rules 0 ps two.first) (none_among range_rules 0 ps three.first)
    (none_among (λ (c : Coded). code_rules c.program) 0 cs four.first) k t e in
    record {
      text = f.text;
      program = f.program;
      there = f.there;
      read = f.read;
      two = not_mapped _ (meaning.first_breach f.program) f.two;
      three = not_mapped _ (ranges.first_range_breach f.program) f.three;
      is_coded = f.is_coded;
      four = f.four;
      six = at_place (λ t. reach_rules t ≡ None) (placed_in set) keep.six k t e;
      seven = at_place (λ t. conflict_rules set.plant t ≡ None) (placed_in set) keep.seven k t e;
      eight = at_place (λ t. bound_rules set.plant t ≡ None) (placed_in set) keep.eight k t e;
      nine = at_place (λ t. length_rules set.plant t ≡ None) (placed_in set) keep.nine k t e;
    }
