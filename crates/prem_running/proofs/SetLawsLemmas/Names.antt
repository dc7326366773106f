-- The names of a set are those of its image.
use Rattle.std.specs.List.{AllByRecursion}
use Rattle.std.proofs.Common.{◌≡◌, ℕ, suc, ◌+◌, ◌-◌, List, [], ◌∷◌, ◌++◌, None, Some, Result, Ok, Err, length, map, drop, length-append, length-drop, refl, ap, ap₂, sym, ◌∙◌, subst, arith}
use Rattle.std.proofs.lemmas.List.{length-map}
use Rattle.prem_plant.specs.declared.plant.Target.{Target}
use Rattle.prem_plant.specs.declared.plant.Plant.{Plant}
use Rattle.prem_plant.specs.declared.plant.Device.{Device}
use Rattle.prem_plant.specs.declared.layout.PartKind.TheVariants.{Stack}
use Rattle.prem_plant.specs.declared.layout.PartSize.{PartSize}
use Rattle.prem_plant.specs.Places.{Extent, default_places}
use Rattle.prem_plant.proofs.Placing.{length-places}
use Rattle.prem_gate.specs.declared.request.Request.{Request}
use Rattle.prem_image.specs.Records.{task_names}
use Rattle.prem_cycle.specs.Inputs.{FitsRun, image_setup}
use Rattle.prem_syntax.specs.Syntax.{Text, ProgramText}
use Rattle.prem_syntax.specs.Resolved.{Routine, Resolved}
use Rattle.prem_text.specs.declared.lexing.token.fail.FrontFail.{FrontFail}
use Rattle.prem_text.specs.Texts.{reads}
use Rattle.prem_asm.specs.Pieces.{size_of}
use Rattle.prem_layout.specs.Template.Frames.{stack_size}
use Rattle.prem_layout.specs.Template.Parts.{codes_of}
use Rattle.prem_layout.specs.Template.Steps.{Parts}
use Rattle.prem_layout.specs.Plans.{plans_of}
use Rattle.prem_layout.specs.Parts.{Passes, stub_passes, part, code_parts, stub_parts, global_parts, task_parts, parts_from, area_parts, part_count}
use Rattle.prem_layout.specs.Placed.{Coded, sized_of, parts_of, placed_from, part_total}
use Rattle.prem_layout.specs.Image.{task_record, device_records}
use Rattle.prem_layout.specs.Rules.{or_else, refused_by, first_among, over_tasks}
use Rattle.prem_layout.proofs.TaskParts.{code_counted, globals_counted, areas_counted}
use Rattle.prem_tasks.specs.Broken.{TaskText, TaskSet, unread, text_rules, program_before, programs_of, coded_of, broken_programs, broken}
use Rattle.prem_tasks.specs.Compiled.{compiled, coded_in, places_in}
use Rattle.prem_set.specs.Run.Names.{known_of}
use Rattle.prem_set.specs.Run.Lawful.{IsLawful}
use Rattle.prem_report.specs.Fitting.Named.{devices_in, names_for}
use Rattle.prem_report.proofs.FittingLemmas.Fits.{lawful_fits}
use Rattle.prem_exec.specs.Sources.Sources.{names_of}
use Rattle.prem_running.proofs.SetLawsLemmas.Nothing.{none_first}

-- ---- each text has its program

read_count : (n : ℕ) (ts : List TaskText) → first_among text_rules n ts ≡ None → length (programs_of ts) ≡ length ts
read_count n [] e = refl
read_count n (t ∷ ts) e = by (reads t.text) e (read_count (n + 1) ts)
  where
    by : (read : Result ProgramText FrontFail) → or_else (refused_by (Some n) (unread read)) (first_among text_rules (n + 1) ts) ≡ None →
        (first_among text_rules (n + 1) ts ≡ None → length (programs_of ts) ≡ length ts) → length (program_before read (programs_of ts)) ≡ suc (length ts)
    by (Ok p) e more = ap suc (more e)
    by (Err fail) e more = absurd cc

pub as_many_programs : (set : TaskSet) → broken set ≡ None → length (programs_of set.tasks) ≡ length set.tasks
as_many_programs set e = read_count 0 set.tasks (none_first (over_tasks text_rules set.tasks) (broken_programs set (programs_of set.tasks)) e)

-- ---- the names of tasks

abbrev coded_names : List Coded → List Text
coded_names cs = map (λ (c : Coded). c.name) cs

abbrev stated_names : List TaskText → List Text
stated_names ts = map (λ (t : TaskText). t.name) ts

names_are_stated : (target : Target) (ts : List TaskText) (ps : List ProgramText) → length ps ≡ length ts → coded_names (coded_of target ts ps) ≡ stated_names ts
names_are_stated target [] ps count = refl
names_are_stated target (t ∷ ts) [] count = absurd (omega (arith, count))
names_are_stated target (t ∷ ts) (p ∷ ps) count = ap (λ (xs : List Text). t.name ∷ xs) (names_are_stated target ts ps (omega (arith, count)))

names_are_placed : (p : Plant) (places : List Extent) (cs : List Coded) → task_names (map task_record (placed_from p places cs)) ≡ coded_names cs
names_are_placed p places [] = refl
names_are_placed p places (c ∷ cs) = ap (λ (xs : List Text). c.name ∷ xs) (names_are_placed p (drop (part_count c.program) places) cs)

-- ---- how many parts there are

codes_counted : (parts : Parts) (fs : List Routine) → length (codes_of parts fs) ≡ length fs
codes_counted parts [] = refl
codes_counted parts (f ∷ fs) = ap suc (codes_counted parts fs)

-- the code of each function
abbrev HasCode : Coded → Type 0
HasCode c = length c.code ≡ length c.program.routines

coded_have_code : (target : Target) (ts : List TaskText) (ps : List ProgramText) → AllByRecursion HasCode (coded_of target ts ps)
coded_have_code target [] ps = tt
coded_have_code target (t ∷ ts) [] = tt
coded_have_code target (t ∷ ts) (p ∷ ps) = (codes_counted _ _, coded_have_code target ts ps)

task_counted : (passes : Passes) (task : ℕ) (sizes : List ℕ) (p : Resolved) → length sizes ≡ length p.routines → length (task_parts passes task sizes p) ≡ part_count p
task_counted passes task sizes p long =
    let cs = code_parts task 0 sizes in
    let ss = stub_parts passes task (plans_of p) in
    let gs = global_parts task 0 p.globals in
    let stack : List PartSize = part task Stack (stack_size p) 16 ∷ [] in
    let a : length cs ≡ length sizes = code_counted task 0 sizes in
    let b : length ss ≡ length (plans_of p) = length-map (plans_of p) _ in
    let c : length gs ≡ length p.globals = globals_counted task 0 p.globals in
    omega (arith, a, b, c, length-append gs stack, length-append ss (gs ++ stack), length-append cs (ss ++ (gs ++ stack)), long)

tasks_counted : (passes : Passes) (n : ℕ) (cs : List Coded) → AllByRecursion HasCode cs → length (parts_from passes n (map sized_of cs)) ≡ part_total cs
tasks_counted passes n [] h = refl
tasks_counted passes n (c ∷ cs) h =
    let a = length-append (task_parts passes n (map size_of c.code) c.program) (parts_from passes (n + 1) (map sized_of cs)) in
    let b = task_counted passes n (map size_of c.code) c.program (length-map c.code size_of ∙ h.0) in
    let d = tasks_counted passes (n + 1) cs h.1 in
    omega (arith, a, b, d)

-- behind the places of the tasks each device has one
areas_left : (p : Plant) (ds : List Device) (cs : List Coded) → AllByRecursion HasCode cs → length (drop (part_total cs) (default_places (parts_of p ds cs))) ≡ length ds
areas_left p ds cs h =
    let whole = parts_of p ds cs in
    let tasks = parts_from (stub_passes p) 0 (map sized_of cs) in
    let areas = area_parts p.line 0 ds in
    let a : length (drop (part_total cs) (default_places whole)) ≡ length (default_places whole) - part_total cs = length-drop (part_total cs) (default_places whole) in
    let b : length (default_places whole) ≡ length whole = length-places 0 whole in
    let c : length whole ≡ length tasks + length areas = length-append tasks areas in
    let d : length tasks ≡ part_total cs = tasks_counted (stub_passes p) 0 cs h in
    let e : length areas ≡ length ds = areas_counted p.line 0 ds in
    omega (arith, a, b, c, d, e)

-- ---- the devices

devices_are_recorded : (ds : List Device) (places : List Extent) → length places ≡ length ds → devices_in (device_records ds places) ≡ ds
devices_are_recorded [] places count = refl
devices_are_recorded (d ∷ ds) [] count = absurd (omega (arith, count))
devices_are_recorded (d ∷ ds) (p ∷ places) count = ap (λ (xs : List Device). d ∷ xs) (devices_are_recorded ds places (omega (arith, count)))

-- ---- the whole

pub names_are_kept : (set : TaskSet) → broken set ≡ None → names_for (compiled set).image.tasks (compiled set).image.devices ≡ names_of set
names_are_kept set e =
    let cs = coded_in set in
    let tasks : task_names (compiled set).image.tasks ≡ stated_names set.tasks =
    names_are_placed set.plant (places_in set) cs ∙ names_are_stated set.plant.target set.tasks (programs_of set.tasks) (as_many_programs set e) in
    let devices : devices_in (compiled set).image.devices ≡ set.devices =
    devices_are_recorded set.devices (drop (part_total cs) (places_in set)) (areas_left set.plant set.devices cs (coded_have_code set.plant.target set.tasks (programs_of set.tasks))) in
    ap₂ known_of tasks devices

pub lawful_runs_fit : (set : TaskSet) (words : List (List ℕ)) (requests : List Request) → broken set ≡ None → IsLawful (names_of set) words requests →
    FitsRun (image_setup (compiled set).image) words requests
lawful_runs_fit set words requests e lawful =
    lawful_fits (image_setup (compiled set).image) words requests (subst (λ names. IsLawful names words requests) (sym (names_are_kept set e)) lawful)
