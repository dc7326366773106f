-- Which rules may be the first that a set breaks, by where it is found.
use Rattle.std.specs.Prelude.{⊤, ◌==◌, nat_lt, if◌then◌else◌}
use Rattle.std.specs.Option.{option_map}
use Rattle.std.specs.declared.alloc.Global.{Global}
use Rattle.std.specs.declared.boxed.Box.{Box}
use Rattle.std.proofs.Common.{◌≡◌, ℕ, ◌+◌, Bool, true, false, List, [], ◌∷◌, Option, None, Some, Result, Ok, Err, refl, sym, subst}
use Rattle.prem_line.specs.declared.failing.Failing.TheVariants.{Refused as Stopped}
use Rattle.prem_plant.specs.declared.plant.Plant.{Plant}
use Rattle.prem_plant.specs.Places.{Extent}
use Rattle.prem_syntax.specs.Syntax.{Text, ProgramText}
use Rattle.prem_syntax.specs.Resolved.{Routine}
use Rattle.prem_syntax.specs.Statements.{is_marked}
use Rattle.prem_syntax.specs.Rules.{Breach}
use Rattle.prem_syntax.specs.ProgramRules.{first_breach}
use Rattle.prem_text.specs.declared.lexing.token.fail.FrontFail.{FrontFail}
use Rattle.prem_text.specs.Texts.{reads}
use Rattle.prem_check.specs.Told.{told_of as told_of_breach}
use Rattle.prem_ranges.specs.RangeRules.{RangeBreach}
use Rattle.prem_ranges.specs.RangesKept.{first_range_breach, resolved}
use Rattle.prem_layout.specs.Bounds.{job_bound_of}
use Rattle.prem_layout.specs.Facts.{IntervalFact, interval_facts}
use Rattle.prem_layout.specs.Footprint.{Conflict, conflict_of, footprint_of}
use Rattle.prem_layout.specs.Placed.{Coded, Placed, blocks_of}
use Rattle.prem_layout.specs.Plans.{Plan}
use Rattle.prem_layout.specs.Rules as rules
use Rattle.prem_layout.specs.Rules.{LateRule, Refusal, or_else, refused_by, first_among, over_tasks, of_excess, code_rules, memory_rules, Jump, of_jump, far_jump, reach_rules, of_conflict, conflict_in, first_conflict, conflict_rules, greatest_bound, if_large, marked_bound, facts_behind, large_bound, bound_rules}
use Rattle.prem_layout.specs.Template.Limits.{Excess, frame, depth, excess}
use Rattle.prem_tasks.specs.Broken.{TaskText, TaskSet, unread, text_rules, program_rules, programs_of, range_rules, range_told, late_refusal}
use Rattle.prem_tasks.specs.Compiled.{coded_in, places_in}
use Rattle.prem_tasks.specs.At.{broken_early, code_broken, placed_by}
use Rattle.prem_tasks.specs.Told.{Told, of_text, of_program, of_ranges, of_code, refusal_of, told_of}
use Rattle.prem_tasks.specs.Stops.{Stop, Stops}
use Rattle.prem_tasks.specs.declared.rule.Refusal.{Refusal as BrokenRule}
use Rattle.prem_stages.specs.Coded.{unformed}
use Rattle.prem_compile.specs.Bounding.{broken_up_to_bounds, unbounded, unbounded_at}
use Rattle.prem_lint.specs.Needs.{is_length}
use Rattle.prem_lint.specs.Programs.{HasProgram}

-- ---- what holds of all rules of a group

abbrev Holds : {R : Type 0} → (R → Type 0) → Option R → Type 0
Holds P None = ⊤
Holds P (Some rule) = P rule

abbrev HoldsOf : {R : Type 0} → (R → Type 0) → Option (Refusal R) → Type 0
HoldsOf P None = ⊤
HoldsOf P (Some r) = P r.rule

either : {R : Type 0} (P : R → Type 0) (a b : Option R) → Holds P a → Holds P b → Holds P (or_else a b)
either P None b one two = two
either P (Some rule) b one two = one

either_of : {R : Type 0} (P : R → Type 0) (a b : Option (Refusal R)) → HoldsOf P a → HoldsOf P b → HoldsOf P (or_else a b)
either_of P None b one two = two
either_of P (Some r) b one two = one

by_task : {R : Type 0} (P : R → Type 0) (task : Option ℕ) (rule : Option R) → Holds P rule → HoldsOf P (refused_by task rule)
by_task P task None h = tt
by_task P task (Some rule) h = h

among : {A R : Type 0} (P : R → Type 0) (check : A → Option R) → ((x : A) → Holds P (check x)) → (n : ℕ) (xs : List A) → HoldsOf P (first_among check n xs)
among P check each n [] = tt
among P check each n (x ∷ xs) =
    either_of P (refused_by (Some n) (check x)) (first_among check (n + 1) xs) (by_task P (Some n) (check x) (each x)) (among P check each (n + 1) xs)

of_late : (P : Told → Type 0) (found : Option (Refusal LateRule)) → HoldsOf (λ rule. P (of_code rule)) found → HoldsOf P (late_refusal found)
of_late P None h = tt
of_late P (Some r) h = h

found_so : (P : Told → Type 0) (found : Option (Refusal Told)) (r : Refusal Told) → HoldsOf P found → found ≡ Some r → P r.rule
found_so P found r h is = subst (HoldsOf P) is h

-- ---- texts and programs

text_rule : (P : Told → Type 0) → ((fail : FrontFail) → P (of_text fail)) → (t : TaskText) → Holds P (text_rules t)
text_rule P each t = by (reads t.text)
  where
    by : (read : Result ProgramText FrontFail) → Holds P (unread read)
    by (Ok p) = tt
    by (Err fail) = each fail

program_rule : (P : Told → Type 0) → ((b : Breach) → P (of_program (told_of_breach b))) → (p : ProgramText) → Holds P (program_rules p)
program_rule P each p = by (first_breach p)
  where
    by : (found : Option Breach) → Holds P (option_map (λ b. of_program (told_of_breach b)) found)
    by None = tt
    by (Some b) = each b

-- a rule that has a line of its own, and isn't that on lengths
pub record HasLine (rule : Told) : Type 0 where
  pub place : (text : List ℕ) → HasProgram rule text None
  pub other : is_length rule ≡ false

unformed_has_line : (set : TaskSet) (r : Refusal Told) → unformed set ≡ Some r → HasLine r.rule
unformed_has_line set r is =
    found_so HasLine (unformed set) r
    (either_of HasLine (over_tasks text_rules set.tasks) (over_tasks program_rules (programs_of set.tasks))
    (among HasLine text_rules (text_rule HasLine (λ fail. record { place = λ text. tt; other = refl })) 0 set.tasks)
    (among HasLine program_rules (program_rule HasLine (λ b. record { place = λ text. tt; other = refl })) 0 (programs_of set.tasks))) is

-- a refusal as it stands in a stop
refusal_in : (found : Option (Refusal Told)) (stop : Stop) (boxed : Box BrokenRule Global) → stop ≡ Stopped boxed → Stops stop found → found ≡ Some (refusal_of boxed.value)
refusal_in found stop boxed is stops = subst (λ (s : Stop). Stops s found) is stops

pub stops_at_line : (set : TaskSet) (stop : Stop) (boxed : Box BrokenRule Global) (refusal : BrokenRule) → stop ≡ Stopped boxed → refusal ≡ boxed.value →
    Stops stop (unformed set) → HasLine (told_of refusal.rule)
stops_at_line set stop boxed refusal is out stops =
    subst (λ (r : BrokenRule). HasLine (told_of r.rule)) (sym out) (unformed_has_line set (refusal_of boxed.value) (refusal_in (unformed set) stop boxed is stops))

-- ---- rules up to bounds

abbrev Other : Told → Type 0
Other rule = is_length rule ≡ false

abbrev OtherLate : LateRule → Type 0
OtherLate rule = Other (of_code rule)

range_other : (p : ProgramText) → Holds Other (range_rules p)
range_other p = by (first_range_breach p)
  where
    by : (found : Option RangeBreach) → Holds Other (option_map (λ (b : RangeBreach). of_ranges (range_told (resolved p) b.at.line b.rule)) found)
    by None = tt
    by (Some b) = refl

code_other : (c : Coded) → Holds OtherLate (code_rules c.program)
code_other c = by (excess c.program)
  where
    by : (found : Option Excess) → Holds OtherLate (of_excess c.program.routines found)
    by None = tt
    by (Some (frame f)) = refl
    by (Some (depth line)) = refl

if_other : (b : Bool) (rule : LateRule) → OtherLate rule → Holds OtherLate (if b then Some rule else None)
if_other true rule h = h
if_other false rule h = tt

reach_other : (t : Placed) → Holds OtherLate (reach_rules t)
reach_other t = by (far_jump (blocks_of t))
  where
    by : (found : Option Jump) → Holds OtherLate (of_jump found)
    by None = tt
    by (Some j) = refl

conflict_other : (name : Text) (room : ℕ) (found : Option Conflict) → Holds OtherLate (of_conflict name room found)
conflict_other name room None = tt
conflict_other name room (Some c) = refl

conflicts_other : (p : Plant) (t : Placed) (plans : List Plan) → Holds OtherLate (first_conflict p t plans)
conflicts_other p t [] = tt
conflicts_other p t (plan ∷ plans) =
    either OtherLate (conflict_in p t plan) (first_conflict p t plans) (conflict_other _ p.«ways» (conflict_of p.sets p.«ways» (footprint_of p.line t.at plan)))
    (conflicts_other p t plans)

large_other : (name : Text) (bound : ℕ) → Holds OtherLate (if_large name bound)
large_other name bound = if_other (nat_lt greatest_bound bound) (rules.BoundTooLarge name) refl

marked_other : (b : Bool) (name : Text) (facts : List IntervalFact) → Holds OtherLate (marked_bound b name facts)
marked_other false name facts = tt
marked_other true name [] = tt
marked_other true name (fact ∷ facts) = large_other name fact.bound

job_other : (b : Bool) (name : Text) (bound : ℕ) → Holds OtherLate (if b then if_large name bound else None)
job_other true name bound = large_other name bound
job_other false name bound = tt

bounds_other : (job bound n : ℕ) (facts : List IntervalFact) (fs : List Routine) → Holds OtherLate (large_bound job bound n facts fs)
bounds_other job bound n facts [] = tt
bounds_other job bound n facts (f ∷ fs) =
    let rest = large_bound job bound (n + 1) (facts_behind (is_marked f) facts) fs in
    either OtherLate (marked_bound (is_marked f) f.text.name facts) (or_else (if n == job then if_large f.text.name bound else None) rest)
    (marked_other (is_marked f) f.text.name facts)
    (either OtherLate (if n == job then if_large f.text.name bound else None) rest (job_other (n == job) f.text.name bound)
    (bounds_other job bound (n + 1) (facts_behind (is_marked f) facts) fs))

early_other : (set : TaskSet) → HoldsOf Other (broken_early set)
early_other set =
    let ps = programs_of set.tasks in
    either_of Other (over_tasks text_rules set.tasks) (or_else (over_tasks program_rules ps) (or_else (over_tasks range_rules ps) (late_refusal (code_broken set))))
    (among Other text_rules (text_rule Other (λ fail. refl)) 0 set.tasks)
    (either_of Other (over_tasks program_rules ps) (or_else (over_tasks range_rules ps) (late_refusal (code_broken set)))
    (among Other program_rules (program_rule Other (λ b. refl)) 0 ps)
    (either_of Other (over_tasks range_rules ps) (late_refusal (code_broken set)) (among Other range_rules range_other 0 ps)
    (of_late Other (code_broken set) (among OtherLate (λ (c : Coded). code_rules c.program) code_other 0 (coded_in set)))))

placed_other : (set : TaskSet) (places : List Extent) → HoldsOf Other (unbounded_at set places)
placed_other set places =
    let p = set.plant in
    let placed = placed_by set places in
    of_late Other (or_else (over_tasks reach_rules placed) (broken_up_to_bounds p placed))
    (either_of OtherLate (over_tasks reach_rules placed) (broken_up_to_bounds p placed) (among OtherLate reach_rules reach_other 0 placed)
    (either_of OtherLate (over_tasks (conflict_rules p) placed) (over_tasks (bound_rules p) placed)
    (among OtherLate (conflict_rules p) (λ t. conflicts_other p t t.plans) 0 placed)
    (among OtherLate (bound_rules p)
    (λ t. bounds_other t.table.job (job_bound_of p t.plans t.table) 0 (interval_facts p t) t.task.program.routines) 0 placed)))

-- a rule up to bounds isn't that on lengths
unbounded_other : (set : TaskSet) (r : Refusal Told) → unbounded set ≡ Some r → is_length r.rule ≡ false
unbounded_other set r is =
    let places = places_in set in
    let memory = refused_by None (memory_rules set.plant places) in
    found_so Other (unbounded set) r
    (either_of Other (broken_early set) (or_else (late_refusal memory) (unbounded_at set places)) (early_other set)
    (either_of Other (late_refusal memory) (unbounded_at set places)
    (of_late Other memory (by_task OtherLate None (memory_rules set.plant places) (if_other _ _ refl))) (placed_other set places))) is

pub stops_at_other : (set : TaskSet) (stop : Stop) (boxed : Box BrokenRule Global) (refusal : BrokenRule) → stop ≡ Stopped boxed → refusal ≡ boxed.value →
    Stops stop (unbounded set) → is_length (told_of refusal.rule) ≡ false
stops_at_other set stop boxed refusal is out stops =
    subst (λ (r : BrokenRule). is_length (told_of r.rule) ≡ false) (sym out) (unbounded_other set (refusal_of boxed.value) (refusal_in (unbounded set) stop boxed is stops))
