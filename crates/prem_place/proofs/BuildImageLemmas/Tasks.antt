-- The parts of tasks at their places.
use Rattle.std.specs.List.{AllByRecursion}
use Rattle.std.proofs.Common.{◌≡◌, ℕ, ◌+◌, ◌%◌, ◌<◌, ◌≤◌, refl, ap, sym, ◌∙◌, subst, arith, List, [], ◌∷◌, ◌++◌, length, map, drop, length-append}
use Rattle.std.proofs.lemmas.List.{length-map, drop-drop, get_or-drop}
use Rattle.prem_plant.specs.declared.plant.Plant.{Plant}
use Rattle.prem_plant.specs.declared.layout.PartKind.TheVariants.{Start, Stack}
use Rattle.prem_plant.specs.declared.layout.PartSize.{PartSize}
use Rattle.prem_plant.specs.Places.{Extent}
use Rattle.prem_syntax.specs.Syntax.{Text, GlobalVariable}
use Rattle.prem_syntax.specs.Resolved.{Routine}
use Rattle.prem_asm.specs.Pieces.{Pieces, size_of}
use Rattle.prem_layout.specs.Template.Frames.{stack_size}
use Rattle.prem_layout.specs.Plans.{Plan, plans_of}
use Rattle.prem_layout.specs.Parts.{Passes, stub_passes, part, start_size, code_parts, stub_parts, global_parts, task_parts, parts_from, part_count}
use Rattle.prem_layout.specs.Footprint.{TaskPlaces, place_at, no_place}
use Rattle.prem_layout.specs.Stubs.{stub_of}
use Rattle.prem_layout.specs.Bounds.{start_code}
use Rattle.prem_layout.specs.Placed.{Coded, sized_of, block, blocks_from, task_places, placed_at, placed_from, part_total, job_name, name_at}
use Rattle.prem_layout.proofs.StubLaws.{stubs_have_their_size}
use Rattle.prem_layout.proofs.TaskParts.{start_sized, code_counted, globals_counted, parts_counted, HasSizes, place_in}
use Rattle.prem_layout.proofs.Areas.{IsAt}
use Rattle.prem_place.specs.Content.Blocks.{HasGlobals}
use Rattle.prem_place.specs.BuildImage.Laid.{Ends, IsLaid}
use Rattle.prem_place.proofs.BuildImageLemmas.Sizes.{code_long, global_long, stack_whole}
use Rattle.prem_place.proofs.BuildImageLemmas.Ground.{Stand, stand_left, stand_right, stand_as, taken_same}

-- the code of each function
abbrev pub HasCode : Coded → Type 0
HasCode c = length c.code ≡ length c.program.routines

-- ---- how many there are

task_counted : (passes : Passes) (task : ℕ) (c : Coded) → HasCode c → length (task_parts passes task (map size_of c.code) c.program) ≡ part_count c.program
task_counted passes task c h = parts_counted passes task (map size_of c.code) c.program (length-map c.code size_of ∙ h)

pub tasks_counted : (passes : Passes) (n : ℕ) (cs : List Coded) → AllByRecursion HasCode cs → length (parts_from passes n (map sized_of cs)) ≡ part_total cs
tasks_counted passes n [] h = refl
tasks_counted passes n (c ∷ cs) h =
    let a = length-append (task_parts passes n (map size_of c.code) c.program) (parts_from passes (n + 1) (map sized_of cs)) in
    let b = task_counted passes n c h.0 in
    let d = tasks_counted passes (n + 1) cs h.1 in
    omega (arith, a, b, d)

-- ---- code

code_sized : (task n : ℕ) (code : List Pieces) → HasSizes code (code_parts task n (map size_of code))
code_sized task n [] = tt
code_sized task n (ps ∷ pss) = (refl, code_sized task (n + 1) pss)

stubs_sized : (passes : Passes) (line task : ℕ) (t : TaskPlaces) (plans : List Plan) → HasSizes (map (stub_of passes line t) plans) (stub_parts passes task plans)
stubs_sized passes line task t [] = tt
stubs_sized passes line task t (plan ∷ plans) = (stubs_have_their_size passes line t plan, stubs_sized passes line task t plans)

one_ends : (end : ℕ) (t : TaskPlaces) (name : Text) (n : ℕ) (ps : Pieces) (x : PartSize) → size_of ps ≡ x.size → IsAt end x (place_at t n) → Ends end (block t name n ps)
one_ends end t name n ps x s h =
    let long = code_long (λ k. (place_at t k).0) (place_at t n).0 ps in
    let e = h.ends in
    let w = h.within in
    omega (arith, long, s, e, w)

blocks_end : (end : ℕ) (t : TaskPlaces) (n : ℕ) (names : List Text) (pss : List Pieces) (xs : List PartSize) → HasSizes pss xs →
    Stand end (place_at t) n xs → AllByRecursion (Ends end) (blocks_from t n names pss)
blocks_end end t n [] pss xs s h = tt
blocks_end end t n (name ∷ names) [] xs s h = tt
blocks_end end t n (name ∷ names) (ps ∷ pss) [] s h = absurd s
blocks_end end t n (name ∷ names) (ps ∷ pss) (x ∷ xs) s h = (one_ends end t name n ps x s.0 h.0, blocks_end end t (n + 1) names pss xs s.1 h.1)

all_append : {A : Type 0} (P : A → Type 0) (xs ys : List A) → AllByRecursion P xs → AllByRecursion P ys → AllByRecursion P (xs ++ ys)
all_append P [] ys h k = k
all_append P (x ∷ xs) ys h k = (h.0, all_append P xs ys h.1 k)

-- ---- globals

globals_end : (end : ℕ) (t : TaskPlaces) (task n : ℕ) (gs : List GlobalVariable) → Stand end (place_at t) (1 + t.functions + length t.marked + n) (global_parts task n gs) → HasGlobals end t n gs
globals_end end t task n [] h = tt
globals_end end t task n (g ∷ gs) h =
    let e = h.0.ends in
    let w = h.0.within in
    let long = global_long g in
    let z : 1 + t.functions + length t.marked + n + 1 ≡ 1 + t.functions + length t.marked + (n + 1) = omega arith in
    (omega (arith, e, w, long), globals_end end t task (n + 1) gs (subst (λ k. Stand end (place_at t) k (global_parts task (n + 1) gs)) z h.1))

-- ---- one task

sixteens : (a b c : ℕ) → a ≡ b + c → b % 16 ≡ 0 → c % 16 ≡ 0 → a % 16 ≡ 0
sixteens a b c e x y = omega (arith, e, x, y)

task_laid : (p : Plant) (task end : ℕ) (c : Coded) (places : List Extent) → HasCode c →
    Stand end (place_at (task_places c.program places)) 0 (task_parts (stub_passes p) task (map size_of c.code) c.program) →
    IsLaid end (placed_at p c (task_places c.program places))
task_laid p task end c places long h =
    let at = task_places c.program places in
    let f = place_at at in
    let cs = code_parts task 0 (map size_of c.code) in
    let ss = stub_parts (stub_passes p) task (plans_of c.program) in
    let gs = global_parts task 0 c.program.globals in
    let stack : List PartSize = part task Stack (stack_size c.program) 16 ∷ [] in
    let first : IsAt end (part task Start start_size 4) (f 0) = h.0 in
    let lc : length cs ≡ at.functions = code_counted task 0 (map size_of c.code) ∙ length-map c.code size_of ∙ long in
    let ls : length ss ≡ length (plans_of c.program) = length-map (plans_of c.program) _ in
    let lm : length at.marked ≡ length (plans_of c.program) = length-map (plans_of c.program) _ in
    let lg : length gs ≡ length c.program.globals = globals_counted task 0 c.program.globals in
    let le : length at.elements ≡ length c.program.globals = length-map c.program.globals _ in
    let hc : Stand end f 1 cs = stand_left end f 1 cs (ss ++ (gs ++ stack)) h.1 in
    let h2 : Stand end f (1 + length cs) (ss ++ (gs ++ stack)) = stand_right end f 1 cs (ss ++ (gs ++ stack)) h.1 in
    let hs : Stand end f (1 + length cs) ss = stand_left end f (1 + length cs) ss (gs ++ stack) h2 in
    let h3 : Stand end f (1 + length cs + length ss) (gs ++ stack) = stand_right end f (1 + length cs) ss (gs ++ stack) h2 in
    let hg : Stand end f (1 + length cs + length ss) gs = stand_left end f (1 + length cs + length ss) gs stack h3 in
    let h4 : Stand end f (1 + length cs + length ss + length gs) stack = stand_right end f (1 + length cs + length ss) gs stack h3 in
    let zs : 1 + length cs ≡ 1 + at.functions = omega (arith, lc) in
    let zg : 1 + length cs + length ss ≡ 1 + at.functions + length at.marked + 0 = omega (arith, lc, ls, lm) in
    let zk : 1 + length cs + length ss + length gs ≡ 1 + at.functions + length at.marked + length at.elements = omega (arith, lc, ls, lm, lg, le) in
    let top : IsAt end (part task Stack (stack_size c.program) 16) (f (1 + at.functions + length at.marked + length at.elements)) =
    subst (λ k. IsAt end (part task Stack (stack_size c.program) 16) (f k)) zk h4.0 in
    let start_ends = first.ends in
    let start_within = first.within in
    record {
      entry_aligned = first.aligned;
      entry_within = omega (arith, start_ends, start_within);
      stack_aligned = sixteens _ _ (stack_size c.program) top.ends top.aligned (stack_whole c.program);
      stack_within = top.within;
      code = (
        one_ends end at job_name 0 (start_code c.program.job) (part task Start start_size 4) (start_sized c.program.job) first,
        all_append (Ends end)
            (blocks_from at 1 (map (λ (r : Routine). r.text.name) c.program.routines) c.code)
            (blocks_from at (1 + at.functions) (map (λ (plan : Plan). name_at c.program.routines plan.function) (plans_of c.program)) (map (stub_of (stub_passes p) p.line at) (plans_of c.program)))
            (blocks_end end at 1 (map (λ (r : Routine). r.text.name) c.program.routines) c.code cs (code_sized task 0 c.code) hc)
            (blocks_end end at (1 + at.functions) (map (λ (plan : Plan). name_at c.program.routines plan.function) (plans_of c.program))
            (map (stub_of (stub_passes p) p.line at) (plans_of c.program)) ss
            (stubs_sized (stub_passes p) p.line task at (plans_of c.program)) (subst (λ k. Stand end f k ss) zs hs)),
      );
      globals = globals_end end at task 0 c.program.globals (subst (λ k. Stand end f k gs) zg hg);
    }

-- ---- all tasks

pub all_laid : (p : Plant) (memory end n first : ℕ) (whole : List Extent) (cs : List Coded) → AllByRecursion HasCode cs →
    Stand memory (place_in whole) first (parts_from (stub_passes p) n (map sized_of cs)) →
    ((i : ℕ) → i < first + part_total cs → (place_in whole i).1 ≤ end) → AllByRecursion (IsLaid end) (placed_from p (drop first whole) cs)
all_laid p memory end n first whole [] code h within = tt
all_laid p memory end n first whole (c ∷ cs) code h within =
    let count = part_count c.program in
    let parts = task_parts (stub_passes p) n (map size_of c.code) c.program in
    let others = parts_from (stub_passes p) (n + 1) (map sized_of cs) in
    let places = drop first whole in
    let long : length parts ≡ count = task_counted (stub_passes p) n c code.0 in
    let here : Stand memory (place_in whole) first parts = stand_left memory (place_in whole) first parts others h in
    let there : Stand memory (place_in whole) (first + length parts) others = stand_right memory (place_in whole) first parts others h in
    let next : Stand memory (place_in whole) (first + count) others = subst (λ k. Stand memory (place_in whole) (first + k) others) long there in
    let mine : Stand end (place_at (task_places c.program places)) 0 parts =
    stand_as memory end (place_in whole) (place_at (task_places c.program places)) first 0 parts (λ i lt.
    let low : i < count = omega (arith, lt, long) in
    let z : i ≡ 0 + i = omega arith in
    (sym (get_or-drop first whole i no_place) ∙ sym (taken_same count i places low) ∙ ap (place_at (task_places c.program places)) z, within (first + i) (omega (arith, low)))) here in (
      task_laid p n end c places code.0 mine,
      subst (λ qs. AllByRecursion (IsLaid end) (placed_from p qs cs)) (sym (drop-drop count first whole))
          (all_laid p memory end (n + 1) (first + count) whole cs code.1 next (λ i lt. within i (omega (arith, lt)))),
    )
