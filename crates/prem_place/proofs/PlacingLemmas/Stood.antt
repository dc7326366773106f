-- A task whose parts lie apart stands at its places.
use Rattle.std.specs.Prelude.{All, slice_index}
use Rattle.std.specs.List.{AllByRecursion}
use Rattle.std.proofs.Common.{◌≡◌, ℕ, zero, suc, ◌+◌, ◌%◌, ◌^◌, ◌<◌, ◌≤◌, List, [], ◌∷◌, ◌++◌, Option, None, Some, refl, ap, sym, ◌∙◌, subst, arith, length, map, drop, append_assoc}
use Rattle.std.proofs.lemmas.List.{length-map}
use Rattle.std.proofs.lemmas.List.Elements.{All-nil, All-cons, recursion_from_All}
use Rattle.prem_plant.specs.declared.plant.Target.{Target}
use Rattle.prem_plant.specs.declared.plant.Plant.{Plant}
use Rattle.prem_plant.specs.declared.layout.PartSize.{PartSize}
use Rattle.prem_plant.specs.Ranges.{IsPlant}
use Rattle.prem_plant.specs.Places.{Extent}
use Rattle.prem_syntax.specs.Syntax.{Text, MarkText, ProgramText}
use Rattle.prem_syntax.specs.ProgramRules.{IsWellFormed}
use Rattle.prem_syntax.specs.Resolve.{functions_of, resolve}
use Rattle.prem_syntax.specs.Resolved.{Routine, Resolved}
use Rattle.prem_asm.specs.Pieces.{Pieces, size_of}
use Rattle.prem_layout.specs.Template.Limits.{excess}
use Rattle.prem_layout.specs.Template.Parts.{parts_of, codes_of}
use Rattle.prem_layout.specs.Plans.{Plan, plan_before, plans_from, plans_of}
use Rattle.prem_layout.specs.Parts.{pass_count, stub_passes, part_count, task_parts, parts_from, area_parts}
use Rattle.prem_layout.specs.Footprint.{TaskPlaces}
use Rattle.prem_layout.specs.Stubs.{stub_of}
use Rattle.prem_layout.specs.Bounds.{start_code}
use Rattle.prem_layout.specs.Placed as layout
use Rattle.prem_layout.specs.Placed.{Coded, sized_of, placed_at, task_places}
use Rattle.prem_layout.proofs.StubLaws.{passes_are_few}
use Rattle.prem_foot.specs.PlacesOf.{IsPlanAt}
use Rattle.prem_foot.proofs.Standing.{plans_stand}
use Rattle.prem_code_laws.specs.FitLaws.Whole.{HasWords, ProgramHasWords}
use Rattle.prem_code_laws.proofs.FitLawsLemmas.Whole.{programs_have_words}
use Rattle.prem_prefetch.proofs.SizesLemmas.Programs.{as_many_codes as codes_counted}
use Rattle.prem_place.specs.Flat.Flat.{EndWithin}
use Rattle.prem_place.specs.Stand.Lying.{Lie, starts_of, Stands}
use Rattle.prem_place.specs.Placing.CodedOf.{AreAtPlaces}
use Rattle.prem_place.specs.Placing.Standing.{TaskLies, TasksLie, IsStanding}
use Rattle.prem_place.proofs.StandLemmas.Lying.{places_lie}
use Rattle.prem_place.proofs.StandLemmas.TaskParts.{first_stands, others_lie}
use Rattle.prem_place.proofs.PlacingLemmas.Formed.{are_few, has_its_job, functions_counted}

-- ---- counts

plans_few : (p : Resolved) (n : ℕ) (fs : List Routine) → length (plans_from p n fs) ≤ length fs
plans_few p n [] = omega arith
plans_few p n (f ∷ fs) = by f.text.mark (plans_from p (n + 1) fs) (plans_few p (n + 1) fs)
  where
    by : (mark : Option MarkText) (plans : List Plan) → length plans ≤ length fs → length (plan_before p n mark plans) ≤ suc (length fs)
    by None plans le = omega (arith, le)
    by (Some mark) plans le = omega (arith, le)

pub record AreCounted (p : Resolved) : Type 0 where
  pub functions : length p.routines ≤ 256
  pub plans : length (plans_of p) ≤ 256
  pub globals : length p.globals ≤ 256

pub are_counted : (text : ProgramText) (bounds : ℕ → ℕ) → IsWellFormed text → AreCounted (resolve bounds text)
are_counted text bounds formed =
    let few = are_few text formed in
    let long : length (resolve bounds text).routines ≡ length (functions_of text) = functions_counted (functions_of text) bounds 0 [] text in
    let plans = plans_few (resolve bounds text) 0 (resolve bounds text).routines in
    let fs = few.functions in
    record { functions = omega (arith, fs, long); plans = omega (arith, fs, long, plans); globals = few.globals }

-- ---- addresses

aligned_all : (xs : List ℕ) → ((n : ℕ) → slice_index xs n % 4 ≡ 0) → All (λ start. start % 4 ≡ 0) xs
aligned_all [] h = All-nil (λ start. start % 4 ≡ 0)
aligned_all (x ∷ xs) h = All-cons (λ start. start % 4 ≡ 0) x xs (h 0) (aligned_all xs (λ n. h (suc n)))

within_left : (f : ℕ → ℕ) (part : ℕ) (xs ys : List Pieces) → EndWithin f part (xs ++ ys) → EndWithin f part xs
within_left f part [] ys h = tt
within_left f part (x ∷ xs) ys h = (h.0, within_left f (part + 1) xs ys h.1)

within_right : (f : ℕ → ℕ) (part : ℕ) (xs ys : List Pieces) → EndWithin f part (xs ++ ys) → EndWithin f (part + length xs) ys
within_right f part [] ys h = let z : part ≡ part + 0 = omega arith in subst (λ n. EndWithin f n ys) z h
within_right f part (x ∷ xs) ys h =
    let z : part + 1 + length xs ≡ part + suc (length xs) = omega arith in
    subst (λ n. EndWithin f n ys) z (within_right f (part + 1) xs ys h.1)

-- ---- a task

pub record Stood (p : Plant) (c : Coded) (places : List Extent) : Type 0 where
  pub plans : AllByRecursion (IsPlanAt (task_places c.program places)) (plans_of c.program)
  pub standing : IsStanding (placed_at p c (task_places c.program places))

abbrev made : Text → ℕ → ℕ → Resolved → List Pieces → Coded
made name period jobs program code = record { name = name; period = period; jobs = jobs; program = program; code = code }

made_stands : (target : Target) (p : Plant) (name : Text) (period jobs : ℕ) (text : ProgramText) (bounds : ℕ → ℕ) (places : List Extent) → IsPlant p →
    IsWellFormed text → excess (resolve bounds text) ≡ None →
    TaskLies p (made name period jobs (resolve bounds text) (codes_of (parts_of target (resolve bounds text).routines) (resolve bounds text).routines)) places →
    Stood p (made name period jobs (resolve bounds text) (codes_of (parts_of target (resolve bounds text).routines) (resolve bounds text).routines)) places
made_stands target p name period jobs text bounds places plant formed none lies =
    let q : Resolved = resolve bounds text in
    let code : List Pieces = codes_of (parts_of target q.routines) q.routines in
    let at : TaskPlaces = task_places q places in
    let stubs : List Pieces = map (stub_of (stub_passes p) p.line at) (plans_of q) in
    let starts : List ℕ = starts_of at in
    let line = plant.line in
    let memory = plant.memory in
    let counted = are_counted text bounds formed in
    let functions = counted.functions in
    let plans = counted.plans in
    let globals = counted.globals in
    let job = has_its_job text bounds formed in
    let long : length code ≡ length q.routines = codes_counted (parts_of target q.routines) q.routines in
    let small : p.memory ≤ 2 ^ 24 = omega (arith, memory.1) in
    let short : p.line < 2 ^ 11 = omega (arith, line.1) in
    let least = passes_are_few p plant in
    let few : pass_count (stub_passes p) < 2 ^ 11 = omega (arith, least.1) in
    let st : Stands (stub_passes p) p.line p.memory lies.number q code places = first_stands (stub_passes p) p.line p.memory lies.number q code lies.others places long small lies.lie in
    let sized : length (map size_of code) ≡ length q.routines = length-map code size_of ∙ long in
    let words : ProgramHasWords target q (stub_passes p) p.line at starts = programs_have_words target text bounds (stub_passes p) p.line at starts formed none few short st.addresses in
    let one : List Pieces = start_code q.job ∷ [] in
    let within : EndWithin (slice_index starts) 0 (one ++ (code ++ stubs)) = subst (λ (f : ℕ → ℕ). EndWithin f 0 (one ++ (code ++ stubs))) (sym st.same) st.within in
    record {
      plans = plans_stand (stub_passes p) p.memory lies.number text bounds (map size_of code) places formed small sized st.parts;
      standing = record {
        fit = record {
          first_fit = (words.start, tt);
          code_fit = recursion_from_All (HasWords starts) code words.code;
          stubs_fit = recursion_from_All (HasWords starts) stubs words.stubs;
          first_within = within_left (slice_index starts) 0 one (code ++ stubs) within;
          code_within = within_left (slice_index starts) 1 code stubs within.1;
          stubs_within = within_right (slice_index starts) 1 code stubs within.1;
        };
        count = sym (length-map at.places (λ (place : Extent). place.0)) ∙ st.addresses.count;
        few = omega (arith, functions, plans, globals);
        plans = refl;
        aligned = aligned_all starts st.addresses.aligned;
        same = st.same;
        parts = record { code = long; functions = refl; stubs = length-map (plans_of q) (stub_of (stub_passes p) p.line at) };
        apart = st.apart;
        job = job.there;
        named = job.named;
      };
    }

pub stood : (target : Target) (p : Plant) (c : Coded) (text : ProgramText) (bounds : ℕ → ℕ) (places : List Extent) → IsPlant p →
    c.program ≡ resolve bounds text → IsWellFormed text → excess c.program ≡ None →
    c.code ≡ codes_of (parts_of target c.program.routines) c.program.routines → TaskLies p c places → Stood p c places
stood target p c text bounds places plant same formed none code lies =
    let q : Resolved = resolve bounds text in
    let code' : c.code ≡ codes_of (parts_of target q.routines) q.routines = code ∙ ap (λ (r : Resolved). codes_of (parts_of target r.routines) r.routines) same in
    let is : c ≡ made c.name c.period c.jobs q (codes_of (parts_of target q.routines) q.routines) =
    ap (λ (r : Resolved). made c.name c.period c.jobs r c.code) same ∙ ap (made c.name c.period c.jobs q) code' in
    let none' : excess q ≡ None = ap excess (sym same) ∙ none in
    subst (λ (d : Coded). Stood p d places) (sym is)
    (made_stands target p c.name c.period c.jobs text bounds places plant formed none' (subst (λ (d : Coded). TaskLies p d places) is lies))

-- ---- all tasks

pub all_lie : (p : Plant) (cs : List Coded) (places : List Extent) → AreAtPlaces p cs places → TasksLie p cs places
all_lie p cs places h = record { number = 0; others = area_parts p.line 0 h.devices; lie = places_lie p.memory (layout.parts_of p h.devices cs) places h.placed }

pub first_lies : (p : Plant) (c : Coded) (cs : List Coded) (places : List Extent) → TasksLie p (c ∷ cs) places → TaskLies p c places
first_lies p c cs places h =
    let mine : List PartSize = task_parts (stub_passes p) h.number (map size_of c.code) c.program in
    let more : List PartSize = parts_from (stub_passes p) (h.number + 1) (map sized_of cs) in
    record {
      number = h.number;
      others = more ++ h.others;
      lie = subst (λ (xs : List PartSize). Lie p.memory xs places) (append_assoc mine more h.others) h.lie;
    }

pub rest_lie : (p : Plant) (c : Coded) (cs : List Coded) (places : List Extent) → length c.code ≡ length c.program.routines →
    TasksLie p (c ∷ cs) places → TasksLie p cs (drop (part_count c.program) places)
unfolding first_lies
rest_lie p c cs places long h =
    let t = first_lies p c cs places h in
    record {
      number = h.number + 1;
      others = h.others;
      lie = others_lie (stub_passes p) p.memory t.number c.program (map size_of c.code) t.others places (length-map c.code size_of ∙ long) t.lie;
    }

drop_nil : {A : Type 0} (n : ℕ) → drop {A = A} n [] ≡ []
drop_nil zero = refl
drop_nil (suc n) = refl

pub drop_more : {A : Type 0} (n m : ℕ) (xs : List A) → drop (n + m) xs ≡ drop m (drop n xs)
drop_more zero m xs = let z : zero + m ≡ m = omega arith in ap (λ k. drop k xs) z
drop_more (suc n) m [] = drop_nil (suc n + m) ∙ sym (drop_nil m)
drop_more (suc n) m (x ∷ xs) = let z : suc n + m ≡ suc (n + m) = omega arith in ap (λ k. drop k (x ∷ xs)) z ∙ drop_more n m xs
