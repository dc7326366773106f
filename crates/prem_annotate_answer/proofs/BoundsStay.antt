-- The lengths that bounds ask for are those of the set that states them.
use Rattle.std.specs.Prelude.{drop, zero, if◌then◌else◌, ◌==◌}
use Rattle.std.proofs.Common.{◌≡◌, ℕ, suc, ◌+◌, ◌*◌, List, [], ◌∷◌, length, map, Result, refl, ap, sym, ◌∙◌}
use Rattle.prem_plant.specs.declared.plant.Plant.{Plant}
use Rattle.prem_plant.specs.declared.plant.Device.{Device}
use Rattle.prem_plant.specs.declared.plant.Target.{Target}
use Rattle.prem_plant.specs.declared.layout.PartSize.{PartSize}
use Rattle.prem_plant.specs.Places.{Extent, default_places}
use Rattle.prem_syntax.specs.Syntax.{ProgramText}
use Rattle.prem_ranges.specs.RangesKept.{bounded}
use Rattle.prem_text.specs.declared.lexing.token.fail.FrontFail.{FrontFail}
use Rattle.prem_text.specs.Canonical.Unplaced.{unplaced}
use Rattle.prem_text.proofs.Whole.{text_read}
use Rattle.prem_layout.specs.Plans.{Plan, plans_of}
use Rattle.prem_layout.specs.Parts.{stub_passes, part_count}
use Rattle.prem_layout.specs.Footprint.{TaskPlaces, footprint_of}
use Rattle.prem_layout.specs.Stubs.{stub_of}
use Rattle.prem_layout.specs.Bounds.{CodeTable, path_of}
use Rattle.prem_layout.specs.Facts.{IntervalFact, interval_facts_from}
use Rattle.prem_layout.specs.Placed.{Coded, parts_of, task_places, Placed, placed_at, placed_from}
use Rattle.prem_place.specs.Verdict.Told.{BoundsTold, with_task, told_of, told_from}
use Rattle.prem_tasks.specs.Broken.{TaskText, TaskSet, program_before, programs_of, coded_one, coded_of}
use Rattle.prem_annotate.specs.Writing.Text.{annotated_text}
use Rattle.prem_annotate_answer.specs.Lengths.{unstated, all_annotated, told_by}
use Rattle.prem_annotate_answer.specs.Written.{Writer, written_tasks, length_for, length_in, facts_told, length_told}
use Rattle.prem_annotate_answer.specs.Kept.{IsAnnotatedTask, AreAnnotatedTasks}
use Rattle.prem_annotate_answer.proofs.Unstated.{bare_program, bare_plan, plans_bare}
use Rattle.prem_annotate_answer.proofs.Stated.{bare_coded, all_coded, parts_bare, count_bare, places_bare, table_with, path_bare}
use Rattle.prem_annotate_answer.proofs.Annotating.{all_unstated}
use Rattle.prem_annotate_answer.proofs.UnplacedBounds.{told_unplaced}

-- ---- functions with their bounds

abbrev key : ℕ → ℕ → ℕ × ℕ
key function bound = (function, bound)

abbrev key_in : ℕ × IntervalFact → ℕ × ℕ
key_in x = key x.1.function x.1.bound

abbrev keys_of : BoundsTold → List (ℕ × ℕ)
keys_of b = map key_in b.facts

keys_bare : (p : Plant) (n : ℕ) (s t : Placed) (k : ℕ) (plans : List Plan) → s.at ≡ t.at → path_of s.table ≡ path_of t.table →
    map key_in (map (with_task n) (interval_facts_from p s k (map bare_plan plans)))
    ≡ map key_in (map (with_task n) (interval_facts_from p t k plans))
keys_bare p n s t k [] places paths = refl
keys_bare p n s t k (x ∷ xs) places paths =
    λ i. key x.function (paths i k + length (footprint_of p.line (places i) x) * (p.fill + p.back)) ∷ keys_bare p n s t (k + 1) xs places paths i

placed_keys : (p : Plant) (n : ℕ) (c : Coded) (at : TaskPlaces) → keys_of (told_of p n (placed_at p (bare_coded c) at)) ≡ keys_of (told_of p n (placed_at p c at))
placed_keys p n c at =
    let t = placed_at p c at in
    let stubs : List Plan → CodeTable = λ plans. table_with c.code c.program.job (map (stub_of (stub_passes p) p.line at) plans) in
    let with_plans : List Plan → Placed = λ plans. record { task = bare_coded c; at = at; plans = plans; table = stubs plans } in
    ap (λ (plans : List Plan). keys_of (told_of p n (with_plans plans))) (plans_bare c.program)
    ∙ keys_bare p n (with_plans (map bare_plan (plans_of c.program))) t 0 (plans_of c.program) refl (path_bare (stub_passes p) p.line at c.code c.program.job (plans_of c.program))

all_keys : (p : Plant) (n : ℕ) (places : List Extent) (cs : List Coded) → map keys_of (told_from p n (placed_from p places (map bare_coded cs))) ≡ map keys_of (told_from p n (placed_from p places cs))
all_keys p n places [] = refl
all_keys p n places (c ∷ cs) =
    let this : keys_of (told_of p n (placed_at p (bare_coded c) (task_places (bare_program c.program) places))) ≡ keys_of (told_of p n (placed_at p c (task_places c.program places))) =
    ap (λ at. keys_of (told_of p n (placed_at p (bare_coded c) at))) (places_bare c.program places) ∙ placed_keys p n c (task_places c.program places) in
    let rest : map keys_of (told_from p (n + 1) (placed_from p (drop (part_count (bare_program c.program)) places) (map bare_coded cs)))
    ≡ map keys_of (told_from p (n + 1) (placed_from p (drop (part_count c.program) places) cs)) =
    ap (λ m. map keys_of (told_from p (n + 1) (placed_from p (drop m places) (map bare_coded cs)))) (count_bare c.program) ∙ all_keys p (n + 1) (drop (part_count c.program) places) cs in
    λ i. this i ∷ rest i

codes_keys : (p : Plant) (devices : List Device) (cs : List Coded) →
    map keys_of (told_from p 0 (placed_from p (default_places (parts_of p devices (map bare_coded cs))) (map bare_coded cs)))
    ≡ map keys_of (told_from p 0 (placed_from p (default_places (parts_of p devices cs)) cs))
codes_keys p devices cs =
    ap (λ (parts : List PartSize). map keys_of (told_from p 0 (placed_from p (default_places parts) (map bare_coded cs)))) (parts_bare p devices cs)
    ∙ all_keys p 0 (default_places (parts_of p devices cs)) cs

keys_unstated : (p : Plant) (devices : List Device) (tasks : List TaskText) (ps : List ProgramText) → map keys_of (told_by p devices tasks (map unstated ps)) ≡ map keys_of (told_by p devices tasks ps)
keys_unstated p devices tasks ps =
    ap (λ (cs : List Coded). map keys_of (told_from p 0 (placed_from p (default_places (parts_of p devices cs)) cs))) (all_coded p.target tasks ps) ∙ codes_keys p devices (coded_of p.target tasks ps)

-- ---- lengths by these

abbrev length_by : List (ℕ × ℕ) → ℕ → ℕ
length_by [] n = 0
length_by (x ∷ xs) n = if x.0 == n then length_for x.1 else length_by xs n

length_is : (facts : List (ℕ × IntervalFact)) (n : ℕ) → length_in facts n ≡ length_by (map key_in facts) n
length_is [] n = refl
length_is (x ∷ xs) n = λ i. if x.1.function == n then length_for x.1.bound else length_is xs n i

abbrev keys_at : List (List (ℕ × ℕ)) → ℕ → List (ℕ × ℕ)
keys_at [] k = []
keys_at (ks ∷ more) zero = ks
keys_at (ks ∷ more) (suc k) = keys_at more k

keys_there : (bs : List BoundsTold) (k : ℕ) → map key_in (facts_told bs k) ≡ keys_at (map keys_of bs) k
keys_there [] k = refl
keys_there (b ∷ bs) zero = refl
keys_there (b ∷ bs) (suc k) = keys_there bs k

told_length : (bs : List BoundsTold) (k n : ℕ) → length_told bs k n ≡ length_by (keys_at (map keys_of bs) k) n
told_length bs k n = length_is (facts_told bs k) n ∙ ap (λ ks. length_by ks n) (keys_there bs k)

same_lengths : (xs ys : List BoundsTold) → map keys_of xs ≡ map keys_of ys → (k n : ℕ) → length_told xs k n ≡ length_told ys k n
same_lengths xs ys same k n = told_length xs k n ∙ ap (λ ks. length_by (keys_at ks k) n) same ∙ sym (told_length ys k n)

-- ---- programs

-- the programs of annotated tasks are the annotated programs, places aside
programs_are : (lengths : ℕ → ℕ → ℕ) (k : ℕ) (ts us : List TaskText) → AreAnnotatedTasks lengths k ts us → map unplaced (programs_of us) ≡ map unplaced (all_annotated lengths k (programs_of ts))
programs_are lengths k [] [] are = refl
programs_are lengths k [] (u ∷ us) are = absurd are
programs_are lengths k (t ∷ ts) [] are = absurd are
programs_are lengths k (t ∷ ts) (u ∷ us) are =
    let one : IsAnnotatedTask (lengths k) t u = are.0 in
    let rest = programs_are lengths (k + 1) ts us are.1 in
    ap (λ (r : Result ProgramText FrontFail). map unplaced (program_before r (programs_of us))) one.is_read
    ∙ (λ i. one.tree_is i ∷ rest i)
    ∙ ap (λ (r : Result ProgramText FrontFail). map unplaced (all_annotated lengths k (program_before r (programs_of ts)))) (sym (text_read t.text one.program one.text_is))

tasks_coded : (write : Writer) (target : Target) (lengths : ℕ → ℕ → ℕ) (k : ℕ) (ts : List TaskText) (ps : List ProgramText) →
    coded_of target (written_tasks write lengths k ts) ps ≡ coded_of target ts ps
tasks_coded write target lengths k [] ps = refl
tasks_coded write target lengths k (t ∷ ts) [] = refl
tasks_coded write target lengths k (t ∷ ts) (p ∷ ps) = ap (λ (cs : List Coded). coded_one target t (bounded p) ∷ cs) (tasks_coded write target lengths (k + 1) ts ps)

-- ---- sets

set_keys : (set : TaskSet) (lengths : ℕ → ℕ → ℕ) → AreAnnotatedTasks lengths 0 set.tasks (written_tasks annotated_text lengths 0 set.tasks) →
    map keys_of (told_by set.plant set.devices (written_tasks annotated_text lengths 0 set.tasks) (programs_of (written_tasks annotated_text lengths 0 set.tasks)))
    ≡ map keys_of (told_by set.plant set.devices set.tasks (map unstated (all_annotated lengths 0 (programs_of set.tasks))))
set_keys set lengths are =
    let ts = set.tasks in
    let us = written_tasks annotated_text lengths 0 set.tasks in
    let ps = programs_of us in
    let qs = all_annotated lengths 0 (programs_of ts) in
    ap (λ (cs : List Coded). map keys_of (told_from set.plant 0 (placed_from set.plant (default_places (parts_of set.plant set.devices cs)) cs)))
    (tasks_coded annotated_text set.plant.target lengths 0 ts ps)
    ∙ ap (map keys_of) (sym (told_unplaced set.plant set.devices ts ps) ∙ ap (told_by set.plant set.devices ts) (programs_are lengths 0 ts us are) ∙ told_unplaced set.plant set.devices ts qs)
    ∙ sym (keys_unstated set.plant set.devices ts qs)

pub lengths_stay : (set : TaskSet) (before behind : ℕ → ℕ → ℕ) →
    AreAnnotatedTasks before 0 set.tasks (written_tasks annotated_text before 0 set.tasks) →
    AreAnnotatedTasks behind 0 set.tasks (written_tasks annotated_text behind 0 set.tasks) → (k n : ℕ) →
    length_told (told_by set.plant set.devices (written_tasks annotated_text before 0 set.tasks) (programs_of (written_tasks annotated_text before 0 set.tasks))) k n
    ≡ length_told (told_by set.plant set.devices (written_tasks annotated_text behind 0 set.tasks) (programs_of (written_tasks annotated_text behind 0 set.tasks))) k n
lengths_stay set before behind old new k n =
    same_lengths _ _ (set_keys set before old
    ∙ ap (λ (ps : List ProgramText). map keys_of (told_by set.plant set.devices set.tasks ps))
    (all_unstated before behind 0 (programs_of set.tasks)) ∙ sym (set_keys set behind new)) k n
