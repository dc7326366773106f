-- The bills of the functions of a placed task, one by one.
use Rattle.std.specs.Prelude.{slice_get, slice_index, slice_index_or, take, is_some}
use Rattle.std.proofs.Common.{◌≡◌, ℕ, zero, suc, ◌+◌, ◌<◌, ◌≤◌, ◌^◌, ◌==◌, true, List, [], ◌∷◌, ◌++◌, drop, length, map, get_or, refl, ap, sym, subst, ◌∙◌, arith, Some}
use Rattle.std.proofs.lemmas.List.{drop_more}
use Rattle.prem_list.specs.declared.Sequence.{Sequence}
use Rattle.prem_list.specs.Sequence.{items_of}
use Rattle.prem_plant.specs.declared.plant.Plant.{Plant}
use Rattle.prem_syntax.specs.Resolved.{Routine, Resolved}
use Rattle.prem_tree.specs.declared.resolve.resolved.Routine.{Routine as RoutineTree}
use Rattle.prem_tree.specs.Resolve.ResolvedOf.{routine_of}
use Rattle.prem_asm.specs.declared.piece.Piece.{Piece}
use Rattle.prem_asm.specs.Pieces.{Pieces, no_pieces, size_of}
use Rattle.prem_asm.specs.PiecesOf.{pieces_of}
use Rattle.prem_layout.specs.Template.Parts.{marked_before}
use Rattle.prem_layout.specs.Template.Steps.{function_code}
use Rattle.prem_layout.specs.Plans.{Plan}
use Rattle.prem_layout.specs.Parts.{code_part, stub_part}
use Rattle.prem_layout.specs.Placed.{Placed}
use Rattle.prem_plant.specs.Places.{Extent}
use Rattle.prem_layout.specs.Footprint.{place_at}
use Rattle.prem_layout.proofs.TaskParts.{plans_counted}
use Rattle.prem_layout.specs.Plans.{plans_of as program_plans}
use Rattle.prem_bounds.specs.TableOf.{listed}
use Rattle.prem_place.specs.Placed.PlacedOf.{coded_of, plans_of, routines_of}
use Rattle.prem_place.specs.declared.placed.PlacedTask.{PlacedTask}
use Rattle.prem_wcet_laws.specs.Scopes.{Fact, Scene, no_fact}
use Rattle.prem_wcet_laws.specs.Wcet.{fact_at, scene_of, stack_of}
use Rattle.prem_wcet_laws.specs.Scenes.{facts_in as task_facts, scene_in as task_scene}
use Rattle.prem_wcet_laws.proofs.Scenes.{each_fact, facts_length, IsFact as IsFactAt, taken_length}
use Rattle.prem_wcet.specs.Cut.{IsFunction}
use Rattle.prem_wcet.specs.KnownOf.{AlikeRows, StandsWhole, faces_in, memory_scene, stack_by}
use Rattle.prem_wcet.specs.Lengths.{stated_in, with_lengths}
use Rattle.prem_wcet.specs.PartsOf.{IsOutline, parts_of}
use Rattle.prem_wcet.specs.declared.outline.Outline.{Outline as OutlineTree}
use Rattle.prem_wcet.specs.SceneOf.{face_at, facts_in, plan_stating}
use Rattle.prem_wcet.specs.declared.scene.Face.{Face}
use Rattle.prem_wcet.specs.declared.scene.Fact.{Fact as FactTree}
use Rattle.prem_wcet.proofs.FunctionCuts.{functions_are_cut}
use Rattle.prem_wcet.proofs.NextFacts.{routines_count, there}
use Rattle.prem_wcet.proofs.SceneFits.{code_count, stands_at}
use Rattle.prem_wcet.proofs.ScenesAlike.{StandsFor}
use Rattle.prem_profile.specs.declared.bound.least.CallItems.{CallItems}
use Rattle.prem_profile.specs.Bound.Statements.{CallBill}
use Rattle.prem_profile.specs.Bound.Passages.{Stubs, marked_bill}
use Rattle.prem_profile.specs.Bound.Tasks.{bills_of, function_bill, stubs_of}
use Rattle.prem_profile.specs.Bound.Memory.{EndsAt, IsNextCall, call_of, calls_of, function_calls, stubs_at}
use Rattle.prem_profile.proofs.BillLemmas.Ends.{function_ends}
use Rattle.prem_profile.proofs.BillLemmas.Functions.{function_stands}
use Rattle.prem_profile.proofs.BillLemmas.Marked.{faces_before, stated_told}
use Rattle.prem_profile.proofs.BillLemmas.Slots.{past}

-- ---- lists

take_more : (xs : List Fact) (n : ℕ) → n < length xs → take n xs ++ slice_index_or xs n no_fact ∷ [] ≡ take (n + 1) xs
take_more [] n lt = absurd (omega (arith, lt))
take_more (x ∷ xs) zero lt = refl
take_more (x ∷ xs) (suc n) lt =
    ap (λ ys. x ∷ ys) (take_more xs n (omega (arith, lt))) ∙ (let next : suc (n + 1) ≡ suc n + 1 = omega arith in ap (λ k. take k (x ∷ xs)) next)

there_item : {A : Type 0} (xs : List A) (n : ℕ) (x : A) → slice_get xs n ≡ Some x → x ≡ get_or xs n x
there_item [] n x is = refl
there_item (y ∷ ys) zero x is = let same : y ≡ x = cc in sym same
there_item (y ∷ ys) (suc n) x is = there_item ys n x is

drop_there : (fs : List Routine) (n : ℕ) (f : Routine) → n < length fs → slice_get fs n ≡ Some f → drop n fs ≡ f ∷ drop (n + 1) fs
drop_there fs n f lt is = drop_more fs n f lt ∙ ap (λ h. h ∷ drop (n + 1) fs) (sym (there_item fs n f is))

pub more_calls : (calls : List CallItems) (call : CallItems) → calls_of (calls ++ call ∷ []) ≡ calls_of calls ++ call_of call ∷ []
more_calls [] call = refl
more_calls (x ∷ calls) call = ap (λ cs. call_of x ∷ cs) (more_calls calls call)

-- the functions of which calls are billed so; what is left gives what all give
pub record AreBilledTo (p : Plant) (t : PlacedTask) (task : ℕ) (lengths : List ℕ) (n : ℕ) (calls : List CallItems) : Type 0 where
  pub left :
      bills_of (scene_of p (with_lengths lengths (plans_of t)) (coded_of t).program t.places) (stubs_of task t.places) (stack_of (coded_of t).program t.places)
      (take n (task_facts p (with_lengths lengths (plans_of t)) (coded_of t).program t.places)) (calls_of calls) (drop n (coded_of t).program.routines)
      ≡ bills_of (scene_of p (with_lengths lengths (plans_of t)) (coded_of t).program t.places) (stubs_of task t.places) (stack_of (coded_of t).program t.places) [] [] (coded_of t).program.routines

-- ---- a placed task

module _ (p : Plant) (t : PlacedTask) (task : ℕ) (lengths : List ℕ) (whole : StandsWhole p t) (long : length lengths ≡ length (plans_of t)) where
  abbrev program : Resolved
  program = (coded_of t).program

  abbrev plans : List Plan
  plans = with_lengths lengths (plans_of t)

  abbrev code : List (Sequence Piece)
  code = items_of t.table.code

  abbrev faces : List Face
  faces = faces_in (routines_of t) lengths

  abbrev base : Scene
  base = scene_of p plans program t.places

  abbrev stack : ℕ → List Extent
  stack = stack_of program t.places

  abbrev all : List Fact
  all = task_facts p plans program t.places

  abbrev stubs : Stubs
  stubs = stubs_of task t.places

  abbrev own_stubs : Stubs
  own_stubs = stubs_at t.places (length code) faces task

  stub_same : (f : ℕ) → own_stubs.places f ≡ stubs.places (marked_before f program.routines)
  stub_same f =
      let count : length code ≡ t.places.functions = routines_count p t whole ∙ sym whole.functions in
      λ i. (place_at t.places (stub_part (count i) (faces_before (slice_index t.turns.items) 0 (routines_of t) lengths f i))).0

  marks : (f : ℕ) → is_some (face_at faces f).stated ≡ true →
      marked_bill p task (own_stubs.places f) (map plan_stating faces) f ≡ marked_bill p task (stubs.places (marked_before f program.routines)) plans (marked_before f program.routines)
  marks f is =
      let plans_are : plans_of t ≡ program_plans program = ap (λ (q : Placed). q.plans) whole.task.same in
      ap (λ at. marked_bill p task at (map plan_stating faces) f) (stub_same f)
      ∙ stated_told p task (stubs.places (marked_before f program.routines)) (slice_index t.turns.items) 0 (routines_of t) lengths (plans_of t) f long
      (ap length plans_are ∙ plans_counted program 0 program.routines) is

  -- what a call of the next function is billed
  next_told : (facts : List FactTree) (known : List CallBill) (call : CallItems) → AlikeRows (facts_in facts code) (take (length facts) all) → length facts < length code →
      IsNextCall p t task faces facts known call →
      (f : Routine) × ((slice_get program.routines (length facts) ≡ Some f)
      × (call_of call ≡ function_bill (task_scene p plans program t.places (length facts)) stubs known f (place_at t.places (1 + length facts)).0))
  next_told facts known call rows lt next =
      let n : ℕ = length facts in
      let r : RoutineTree = next.routine in
      let one = there p t whole n r lt (there_item (routines_of t) n r next.there) in
      let f : Routine = routine_of (slice_index t.turns.items) one.loops r in
      let v : Scene = task_scene p plans program t.places n in
      let ps : Pieces = get_or (listed code) n no_pieces in
      let at : ℕ = (place_at t.places (1 + n)).0 in
      let e : Scene = memory_scene p t.places code faces (stack_by t.places (face_at faces program.job).frame (n == program.job)) facts in
      let stands : StandsFor e v = stands_at p t lengths whole long n (n == program.job) facts refl (less n (length code) (length program.routines) lt (code_count p t whole)) rows in
      let function : IsFunction v f next.outline = functions_are_cut v (slice_index t.turns.items) one.loops r ps next.outline one.code_is next.cut in
      (f, (one.routine, next.told ∙ function_stands e v stands own_stubs stubs marks known f at ps next.outline one.code_is function))
    where
      less : (n c k : ℕ) → n < c → c ≡ k → n ≤ k
      less n c k lt e = omega (arith, lt, e)

  pub billed_none : (calls : List CallItems) → calls ≡ [] → AreBilledTo p t task lengths 0 calls
  billed_none calls is = record { left = ap (λ cs. bills_of base stubs stack [] (calls_of cs) program.routines) is }

  pub billed_more : (n : ℕ) (facts : List FactTree) (calls more : List CallItems) (call : CallItems) → length facts ≡ n → n < length code → AlikeRows (facts_in facts code) (take n all) →
      IsNextCall p t task faces facts (calls_of calls) call → calls_of more ≡ calls_of calls ++ call_of call ∷ [] → AreBilledTo p t task lengths n calls → AreBilledTo p t task lengths (n + 1) more
  billed_more n facts calls more call same lt rows next put known =
      let next2 = next_told facts (calls_of calls) call (subst (λ k. AlikeRows (facts_in facts code) (take k all)) (sym same) rows) (omega (arith, lt, same)) next in
      by next2.0 (subst (λ k. slice_get program.routines k ≡ Some next2.0) same next2.1.0)
      (subst (λ k. call_of call ≡ function_bill (task_scene p plans program t.places k) stubs (calls_of calls) next2.0 (place_at t.places (1 + k)).0) same next2.1.1)
    where
      by : (f : Routine) → slice_get program.routines n ≡ Some f → call_of call ≡ function_bill (task_scene p plans program t.places n) stubs (calls_of calls) f (place_at t.places (1 + n)).0 → AreBilledTo p t task lengths (n + 1) more
      by f is told =
          let inside : n < length program.routines = (let count = code_count p t whole in omega (arith, lt, count)) in
          let taken : length (take n all) ≡ n = taken_length p plans program t.places n (omega (arith, inside)) in
          let v : Scene = task_scene p plans program t.places n in
          let fact : fact_at v f (base.places (code_part (length (take n all)))) ≡ slice_index_or all n no_fact =
          ap (λ k. fact_at v f (base.places (code_part k))) taken ∙ sym (let none : 0 + n ≡ n = omega arith in subst (λ k. IsFactAt base stack all k f) none (each_fact base stack program.routines [] n f is)) in
          let facts_are : take n all ++ fact_at v f (base.places (code_part (length (take n all)))) ∷ [] ≡ take (n + 1) all =
          ap (λ x. take n all ++ x ∷ []) fact ∙ take_more all n (let size = facts_length p plans program t.places in omega (arith, inside, size)) in
          let calls_are : calls_of calls ++ function_bill v stubs (calls_of calls) f (base.places (code_part (length (take n all)))) ∷ [] ≡ calls_of more =
          ap (λ x. calls_of calls ++ x ∷ []) (ap (λ k. function_bill v stubs (calls_of calls) f (base.places (code_part k))) taken ∙ sym told) ∙ sym put in
          record {
            left =
                (λ i. bills_of base stubs stack (sym facts_are i) (sym calls_are i) (drop (n + 1) program.routines))
                ∙ sym (ap (bills_of base stubs stack (take n all) (calls_of calls)) (drop_there program.routines n f inside is)) ∙ known.left;
          }

  pub all_billed : (n : ℕ) (calls : List CallItems) → n ≡ length code → AreBilledTo p t task lengths n calls → calls_of calls ≡ bills_of base stubs stack [] [] program.routines
  all_billed n calls is known =
      sym (ap (bills_of base stubs stack (take n all) (calls_of calls)) (past program.routines n (let count = code_count p t whole in omega (arith, is, count)))) ∙ known.left

-- ---- the next function

-- its loops end where its code does
pub body_ends : (p : Plant) (t : PlacedTask) (whole : StandsWhole p t) (n : ℕ) (r : RoutineTree) (o : OutlineTree) (ps : Pieces) (at : ℕ) → (lt : n < length (items_of t.table.code)) →
    r ≡ get_or (routines_of t) n r → ps ≡ get_or (listed (items_of t.table.code)) n no_pieces → at ≡ (place_at t.places (1 + n)).0 → IsOutline p.target r ps o →
    EndsAt (at + size_of (pieces_of o.entry.now)) (parts_of (items_of o.body))
body_ends p t whole n r o ps at lt is code_is at_is cut =
    let v : Scene = scene_of p (plans_of t) (coded_of t).program t.places in
    let one = there p t whole n r lt is in
    let f : Routine = routine_of (slice_index t.turns.items) one.loops r in
    let is_code : ps ≡ function_code v.parts f = code_is ∙ one.code_is in
    let near : at + size_of ps ≤ 2 ^ 24 = subst (λ k. k ≤ 2 ^ 24) (λ i. sym at_is i + size_of (sym code_is i)) (whole.ends n lt) in
    let ends : at + size_of (function_code v.parts f) < 2 ^ 32 = subst (λ qs. at + size_of qs < 2 ^ 32) is_code (omega (arith, near)) in
    function_ends v f o at (functions_are_cut v (slice_index t.turns.items) one.loops r ps o is_code cut) ends

-- what a call of it is billed, in the scene that memory has
pub next_called : (p : Plant) (t : PlacedTask) (task : ℕ) (faces faces2 : List Face) (facts facts2 : List FactTree) (codes : List (Sequence Piece))
    (stack : Extent) (n at : ℕ) (r : RoutineTree) (ps : Pieces) (o : OutlineTree) (known known2 : List CallBill) (call : CallItems) →
    n ≡ length facts → slice_get (routines_of t) n ≡ Some r → codes ≡ items_of t.table.code → faces2 ≡ faces → facts2 ≡ facts →
    stack ≡ stack_by t.places (face_at faces t.program.job).frame (length facts == t.program.job) →
    at ≡ (place_at t.places (1 + n)).0 → ps ≡ get_or (listed (items_of t.table.code)) n no_pieces → known2 ≡ known → IsOutline p.target r ps o →
    call_of call ≡ function_calls (memory_scene p t.places codes faces2 stack facts2) (stubs_at t.places (length codes) faces2 task) known2 at ps o → IsNextCall p t task faces facts known call
next_called p t task own faces2 facts facts2 codes stack n at r ps o known known2 call count there_is code_is faces_are facts_are stack_is at_is ps_is known_is cut told =
    let ps_same : ps ≡ get_or (listed (items_of t.table.code)) (length facts) no_pieces = ps_is ∙ ap (λ k. get_or (listed (items_of t.table.code)) k no_pieces) count in
    let at_same : at ≡ (place_at t.places (1 + length facts)).0 = at_is ∙ ap (λ k. (place_at t.places (1 + k)).0) count in
    record {
      routine = r;
      there = ap (slice_get (routines_of t)) (sym count) ∙ there_is;
      outline = o;
      cut = subst (λ qs. IsOutline p.target r qs o) ps_same cut;
      told = told
          ∙ (λ i. function_calls (memory_scene p t.places (code_is i) (faces_are i) (stack_is i) (facts_are i)) (stubs_at t.places (length (code_is i)) (faces_are i) task) (known_is i) (at_same i)
          (ps_same i) o);
    }

-- as many lengths are stated as there are plans
all_stated : (plans : List Plan) → length (map (λ (plan : Plan). plan.stated) plans) ≡ length plans
all_stated [] = refl
all_stated (plan ∷ plans) = ap suc (all_stated plans)

pub stated_long : (t : PlacedTask) → length (stated_in t) ≡ length (plans_of t)
stated_long t = all_stated (plans_of t)
