-- Places with offsets of a set's parts are lawful, and leave no conflict.
use Rattle.std.specs.List.{AllByRecursion}
use Rattle.std.proofs.Common.{◌≡◌, ℕ, ◌+◌, ◌<◌, List, [], ◌∷◌, Option, None, Some, Ok, refl, ap, ◌∙◌, arith, length, length-append, map}
use Rattle.std.proofs.lemmas.List.{length-map}
use Rattle.prem_plant.specs.declared.plant.Plant.{Plant}
use Rattle.prem_plant.specs.declared.plant.Device.{Device}
use Rattle.prem_plant.specs.declared.layout.PartSize.{PartSize}
use Rattle.prem_plant.specs.Places.{Extent, ArePlaces}
use Rattle.prem_syntax.specs.Syntax.{ProgramText}
use Rattle.prem_asm.specs.Pieces.{size_of}
use Rattle.prem_layout.specs.Template.Parts.{parts_of as code_parts_of}
use Rattle.prem_layout.specs.Parts.{Passes, stub_passes, task_parts, parts_from, area_parts, part_count}
use Rattle.prem_layout.specs.Placed.{Coded, Placed, sized_of, parts_of, placed_from, part_total}
use Rattle.prem_layout.specs.Rules.{LateRule, or_else, refused_by, first_among, over_tasks, conflict_rules}
use Rattle.prem_layout.proofs.Lawful.{parts_may_be_placed}
use Rattle.prem_layout.proofs.TaskParts.{parts_counted}
use Rattle.prem_prefetch.specs.Sizes.Sizes.{AreCodesOf}
use Rattle.prem_prefetch.proofs.SizesLemmas.Programs.{as_many_codes as codes_long}
use Rattle.prem_color.specs.Offsets.{moved_places}
use Rattle.prem_color.specs.Wants.{wants_of, ranges_of}
use Rattle.prem_color.specs.Standing.{TasksStand}
use Rattle.prem_color.proofs.Moved.{moved_places_are_lawful, moved_places_have_room}
use Rattle.prem_color.proofs.Sets.{parts_align_lines}
use Rattle.prem_color.proofs.Wanted.{wants_leave_no_conflict}
use Rattle.prem_tasks.specs.Broken.{programs_of}
use Rattle.prem_tasks.specs.Compiled.{coded_in, parts_in}
use Rattle.prem_compile.specs.PartsOf.{ranges_wanted}
use Rattle.prem_compile.specs.Colors.{ColorsAreLawful, ColorsLeaveNoConflict}
use Rattle.prem_compile.proofs.CodingLemmas.Joined.{codes_when_early}
use Rattle.prem_compile.proofs.Wanting.{tasks_stand}

pub colors_are_lawful : ColorsAreLawful
colors_are_lawful set places h =
    let line = h.plant.line in
    let may = parts_may_be_placed (stub_passes set.plant) set.plant.line (map sized_of (coded_in set)) set.devices (omega (arith, line.0)) in
    moved_places_are_lawful set.plant (ranges_wanted set) (parts_in set) places (omega (arith, line.0)) may.0 (parts_align_lines set.plant set.devices (coded_in set) h.plant) may.1 h.moved h.within

-- ---- conflicts

none_over : (rule : Placed → Option LateRule) (n : ℕ) (ts : List Placed) → AllByRecursion (λ t. rule t ≡ None) ts → first_among rule n ts ≡ None
none_over rule n [] h = refl
none_over rule n (t ∷ ts) h = ap (λ (o : Option LateRule). or_else (refused_by (Some n) o) (first_among rule (n + 1) ts)) h.0 ∙ none_over rule (n + 1) ts h.1

tasks_counted : (passes : Passes) (n : ℕ) (ps : List ProgramText) (cs : List Coded) → AreCodesOf ps cs → length (parts_from passes n (map sized_of cs)) ≡ part_total cs
tasks_counted passes n ps [] h = refl
tasks_counted passes n [] (c ∷ cs) h = absurd h
tasks_counted passes n (p ∷ ps) (c ∷ cs) h =
    let sizes = map size_of c.code in
    let sized : length sizes ≡ length c.program.routines = length-map c.code size_of ∙ ap length h.0.code ∙ codes_long (code_parts_of h.0.target c.program.routines) c.program.routines in
    length-append (task_parts passes n sizes c.program) (parts_from passes (n + 1) (map sized_of cs))
    ∙ ap (λ k. k + length (parts_from passes (n + 1) (map sized_of cs))) (parts_counted passes n sizes c.program sized)
    ∙ ap (λ k. part_count c.program + k) (tasks_counted passes (n + 1) ps cs h.1)

no_conflict : (p : Plant) (devices : List Device) (ps : List ProgramText) (cs : List Coded) (places : List Extent) → AreCodesOf ps cs →
    TasksStand (parts_of p devices cs) 0 cs → ArePlaces p.memory (parts_of p devices cs) places →
    moved_places p (ranges_of (wants_of (parts_of p devices cs) cs)) (parts_of p devices cs) ≡ Ok places → over_tasks (conflict_rules p) (placed_from p places cs) ≡ None
no_conflict p devices ps [] places codes stand are moved = refl
no_conflict p devices ps (c ∷ cs) places codes stand are moved =
    let all : List PartSize = parts_of p devices (c ∷ cs) in
    let mine : List PartSize = parts_from (stub_passes p) 0 (map sized_of (c ∷ cs)) in
    let count : length mine ≡ part_total (c ∷ cs) = tasks_counted (stub_passes p) 0 ps (c ∷ cs) codes in
    let whole : length all ≡ length mine + length (area_parts p.line 0 devices) = length-append mine (area_parts p.line 0 devices) in
    let some : 0 < length all = omega (arith, whole, count) in
    none_over (conflict_rules p) 0 (placed_from p places (c ∷ cs))
    (wants_leave_no_conflict p p.memory all places (c ∷ cs) are (omega (arith, whole, count)) stand (moved_places_have_room p (ranges_of (wants_of all (c ∷ cs))) all places some moved))

pub colors_leave_no_conflict : ColorsLeaveNoConflict
colors_leave_no_conflict set places early h =
    let codes = codes_when_early set early in
    no_conflict set.plant set.devices (programs_of set.tasks) (coded_in set) places codes (tasks_stand set codes) (colors_are_lawful set places h).placed h.moved
