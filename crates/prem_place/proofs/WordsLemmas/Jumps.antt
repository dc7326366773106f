-- The lowest jump out of reach of a standing task.
use Rattle.std.specs.Prelude.{IfOk, MatchResult, nat_lt, slice_index, slice_index_or}
use Rattle.std.specs.List.{AllByRecursion}
use Rattle.std.proofs.Common.{◌≡◌, ℕ, Bool, true, false, cond, zero, suc, ◌+◌, ◌-◌, ◌<◌, ◌≤◌, List, [], ◌∷◌, ◌++◌, Option, None, Some, Result, Ok, Err, refl, ap, sym, ◌∙◌, subst}
use Rattle.std.proofs.Common.{arith, length, map, get_or, option_map, length-append}
use Rattle.std.proofs.lemmas.List.{length-map}
use Rattle.prem_list.specs.Sequence.{items_of}
use Rattle.prem_line.specs.declared.failing.Failing.{Failing}
use Rattle.prem_line.specs.declared.failing.Failing.TheVariants.{Refused, OutOfMemory}
use Rattle.prem_syntax.specs.Syntax.{Text, MarkText}
use Rattle.prem_syntax.specs.Resolved.{Routine, Resolved}
use Rattle.prem_asm.specs.Pieces.{Pieces}
use Rattle.prem_layout.specs.Plans.{Plan, plan_before, plans_from}
use Rattle.prem_layout.specs.Placed.{Placed, name_at, blocks_of}
use Rattle.prem_layout.specs.Rules.{LateRule, Reach, reach_rules}
use Rattle.prem_split.specs.declared.plan.IntervalPlan.{IntervalPlan}
use Rattle.prem_split.specs.PlanOf.{plan_of as plan_in}
use Rattle.prem_place.specs.Placed.PlacedOf.{placed_of, routines_of}
use Rattle.prem_place.specs.declared.placed.PlacedTask.{PlacedTask}
use Rattle.prem_place.specs.Content.Blocks.{Words}
use Rattle.prem_place.specs.Flat.Flat.{far_in, part_if, lower_part, lowest_far, words_from, Blames}
use Rattle.prem_place.specs.Flat.Blocks.{start_at, code_parts, parts_in, names_in, words_of}
use Rattle.prem_place.specs.Stand.Lying.{starts_of}
use Rattle.prem_place.specs.Placing.Standing.{IsStanding}
use Rattle.prem_place.specs.Words.Far.{IsFarIn}
use Rattle.prem_place.proofs.VerdictLemmas.Names.{plain_long}
use Rattle.prem_place.proofs.FlatLemmas.BlockLaws.{reach_is_lowest, blocks_have_words}

-- ---- the lowest far part

-- it is one of the parts
abbrev IsBelow : ℕ → Option ℕ → Type 0
IsBelow end o = (n : ℕ) → o ≡ Some n → n < end

lower_below : (places : ℕ → ℕ) (end : ℕ) (a b : Option ℕ) → IsBelow end a → IsBelow end b → IsBelow end (lower_part places a b)
lower_below places end None b h k = k
lower_below places end (Some x) None h k = h
lower_below places end (Some x) (Some y) h k = by (nat_lt (places y) (places x))
  where
    by : (t : Bool) → IsBelow end (cond t (Some y) (Some x))
    by true = k
    by false = h

nothing_below : (end : ℕ) → IsBelow end None
nothing_below end n e = cc

lowest_below : (places : ℕ → ℕ) (part : ℕ) (pss : List Pieces) → IsBelow (part + length pss) (lowest_far places part pss)
lowest_below places part [] = nothing_below (part + zero)
lowest_below places part (ps ∷ rest) =
    let z : part + 1 + length rest ≡ part + suc (length rest) = omega arith in
    lower_below places (part + suc (length rest)) (part_if part (far_in places part ps) None) (lowest_far places (part + 1) rest) (mine (far_in places part ps))
    (subst (λ end. IsBelow end (lowest_far places (part + 1) rest)) z (lowest_below places (part + 1) rest))
  where
    mine : (o : Option ℕ) → IsBelow (part + suc (length rest)) (part_if part o None)
    mine None n e = cc
    mine (Some at) n e = let same : part ≡ n = cc in omega (arith, same)

module _ (t : Placed) (s : IsStanding t) where
  abbrev far : Option ℕ
  far = lowest_far (start_at t.at) 0 (parts_in t)

  abbrev told : Option ℕ → Option LateRule
  told = option_map (λ part. Reach (slice_index_or (names_in t) part []))

  six_is : reach_rules t ≡ told far
  six_is = reach_is_lowest t s.parts s.apart

  names_long : length (names_in t) ≡ length (parts_in t)
  names_long =
      let routines : List Text = map (λ (r : Routine). r.text.name) t.task.program.routines in
      let plans : List Text = map (λ (plan : Plan). name_at t.task.program.routines plan.function) t.plans in
      let a = length-append routines plans in
      let b = length-append t.table.code t.table.stubs in
      let c = length-map t.task.program.routines (λ (r : Routine). r.text.name) in
      let d = length-map t.plans (λ (plan : Plan). name_at t.task.program.routines plan.function) in
      let code = s.parts.code in
      let stubs = s.parts.stubs in
      omega (arith, a, b, c, d, code, stubs)

  blamed_is : (e : Failing ℕ) → Blames far e → IsFarIn t e
  blamed_is OutOfMemory h = tt
  blamed_is (Refused part) h =
      let lt = lowest_below (start_at t.at) 0 (parts_in t) part h in
      record { first = six_is ∙ ap told h; there = omega (arith, lt, names_long) }

  pub six_ends : {A : Type 0} (found : Option ℕ) (r : Result A (Failing ℕ)) → found ≡ far → MatchResult r (λ _. found ≡ None) (Blames found) → MatchResult r (λ _. reach_rules t ≡ None) (IsFarIn t)
  six_ends found (Ok a) e h = six_is ∙ ap told (sym e ∙ h)
  six_ends found (Err x) e h = blamed_is x (subst (λ (o : Option ℕ). Blames o x) e h)

  -- the same parts at the same starts
  pub far_same : (starts : List ℕ) (job : ℕ) (code stubs : List Pieces) → starts ≡ starts_of t.at → job ≡ t.table.job → code ≡ t.table.code → stubs ≡ t.table.stubs →
      lowest_far (slice_index starts) 0 (code_parts job code stubs) ≡ far
  far_same starts job code stubs es ej ec et =
      ap (λ (ns : List ℕ). lowest_far (slice_index ns) 0 (code_parts job code stubs)) es
      ∙ ap (λ (f : ℕ → ℕ). lowest_far f 0 (code_parts job code stubs)) s.same
      ∙ ap (λ j. lowest_far (start_at t.at) 0 (code_parts j code stubs)) ej
      ∙ ap (λ (c : List Pieces). lowest_far (start_at t.at) 0 (code_parts t.table.job c stubs)) ec
      ∙ ap (λ (c : List Pieces). lowest_far (start_at t.at) 0 (code_parts t.table.job t.table.code c)) et

  pub words_same : (starts : List ℕ) (job : ℕ) (code stubs : List Pieces) → starts ≡ starts_of t.at → job ≡ t.table.job → code ≡ t.table.code → stubs ≡ t.table.stubs →
      words_from (slice_index starts) 0 (code_parts job code stubs) ≡ map words_of (blocks_of t)
  words_same starts job code stubs es ej ec et =
      ap (λ (ns : List ℕ). words_from (slice_index ns) 0 (code_parts job code stubs)) es
      ∙ ap (λ (f : ℕ → ℕ). words_from f 0 (code_parts job code stubs)) s.same
      ∙ ap (λ j. words_from (start_at t.at) 0 (code_parts j code stubs)) ej
      ∙ ap (λ (c : List Pieces). words_from (start_at t.at) 0 (code_parts t.table.job c stubs)) ec
      ∙ ap (λ (c : List Pieces). words_from (start_at t.at) 0 (code_parts t.table.job t.table.code c)) et
      ∙ sym (blocks_have_words t s.parts)

-- ---- names of parts

in_left : (xs ys : List Text) (k : ℕ) → k < length xs → slice_index_or (xs ++ ys) k [] ≡ slice_index_or xs k []
in_left [] ys k lt = absurd (omega arith)
in_left (x ∷ xs) ys zero lt = refl
in_left (x ∷ xs) ys (suc k) lt = in_left xs ys k (omega arith)

in_right : (xs ys : List Text) (k : ℕ) → slice_index_or (xs ++ ys) (length xs + k) [] ≡ slice_index_or ys k []
in_right [] ys k = let z : zero + k ≡ k = omega arith in ap (λ n. slice_index_or ys n []) z
in_right (x ∷ xs) ys k = let z : suc (length xs) + k ≡ suc (length xs + k) = omega arith in ap (λ n. slice_index_or (x ∷ (xs ++ ys)) n []) z ∙ in_right xs ys k

code_name : (t : Placed) (k : ℕ) → k < length t.task.program.routines → slice_index_or (names_in t) (suc k) [] ≡ name_at t.task.program.routines k
code_name t k lt =
    let long = length-map t.task.program.routines (λ (r : Routine). r.text.name) in
    in_left (map (λ (r : Routine). r.text.name) t.task.program.routines) _ k (omega (arith, lt, long))

mapped_at : (f : Plan → Text) (plans : List Plan) (k : ℕ) (plan : Plan) → k < length plans → plan ≡ get_or plans k plan → slice_index_or (map f plans) k [] ≡ f plan
mapped_at f [] k plan lt is = absurd (omega arith)
mapped_at f (x ∷ xs) zero plan lt is = ap f (sym is)
mapped_at f (x ∷ xs) (suc k) plan lt is = mapped_at f xs k plan (omega arith) is

stub_name : (t : Placed) (k : ℕ) (plan : Plan) → k < length t.plans → plan ≡ get_or t.plans k plan →
    slice_index_or (names_in t) (suc (length t.task.program.routines + k)) [] ≡ name_at t.task.program.routines plan.function
stub_name t k plan lt is =
    let names : List Text = map (λ (r : Routine). r.text.name) t.task.program.routines in
    let stubs : List Text = map (λ (q : Plan). name_at t.task.program.routines q.function) t.plans in
    let long : length names ≡ length t.task.program.routines = length-map t.task.program.routines (λ (r : Routine). r.text.name) in
    ap (λ n. slice_index_or (names ++ stubs) (n + k) []) (sym long) ∙ in_right names stubs k ∙ mapped_at (λ (q : Plan). name_at t.task.program.routines q.function) t.plans k plan lt is

abbrev Below : ℕ → Plan → Type 0
Below n plan = plan.function < n

plans_below : (p : Resolved) (n : ℕ) (fs : List Routine) (limit : ℕ) → n + length fs ≤ limit → AllByRecursion (Below limit) (plans_from p n fs)
plans_below p n [] limit le = tt
plans_below p n (f ∷ fs) limit le = by f.text.mark (plans_from p (n + 1) fs) (plans_below p (n + 1) fs limit (omega arith))
  where
    by : (mark : Option MarkText) (plans : List Plan) → AllByRecursion (Below limit) plans → AllByRecursion (Below limit) (plan_before p n mark plans)
    by None plans h = h
    by (Some mark) plans h = (omega arith, h)

all_at : (limit : ℕ) (plans : List Plan) (k : ℕ) (plan : Plan) → AllByRecursion (Below limit) plans → k < length plans → plan ≡ get_or plans k plan → plan.function < limit
all_at limit [] k plan h lt is = absurd (omega arith)
all_at limit (x ∷ xs) zero plan h lt is = subst (Below limit) (sym is) h.0
all_at limit (x ∷ xs) (suc k) plan h lt is = all_at limit xs k plan h.1 (omega arith) is

stub_function : (t : Placed) (s : IsStanding t) (k : ℕ) (plan : Plan) → k < length t.plans → plan ≡ get_or t.plans k plan → plan.function < length t.task.program.routines
stub_function t s k plan lt is =
    let q : Resolved = t.task.program in
    all_at (length q.routines) t.plans k plan
    (subst (λ (ps : List Plan). AllByRecursion (Below (length q.routines)) ps) (sym s.plans)
    (plans_below q 0 q.routines (length q.routines) (omega arith))) lt is

pub code_at : (t : Placed) (part k : ℕ) → part ≡ suc k → part ≤ length t.task.program.routines → name_at t.task.program.routines k ≡ slice_index_or (names_in t) part []
code_at t part k e le = sym (ap (λ n. slice_index_or (names_in t) n []) e ∙ code_name t k (omega (arith, e, le)))

-- as many parts as the start, the functions and the plans
pub parts_there : (t : Placed) (part k : ℕ) → part ≡ suc (length t.task.program.routines + k) → part < length (names_in t) → k < length t.plans
parts_there t part k e lt =
    let routines : List Text = map (λ (r : Routine). r.text.name) t.task.program.routines in
    let plans : List Text = map (λ (plan : Plan). name_at t.task.program.routines plan.function) t.plans in
    let a = length-append routines plans in
    let b = length-map t.task.program.routines (λ (r : Routine). r.text.name) in
    let c = length-map t.plans (λ (plan : Plan). name_at t.task.program.routines plan.function) in
    omega (arith, e, lt, a, b, c)

get_mapped : {A B : Type 0} (f : A → B) (xs : List A) (k : ℕ) (x : A) → x ≡ get_or xs k x → k < length xs → f x ≡ get_or (map f xs) k (f x)
get_mapped f [] k x is lt = absurd (omega arith)
get_mapped f (y ∷ ys) zero x is lt = ap f is
get_mapped f (y ∷ ys) (suc k) x is lt = get_mapped f ys k x is (omega arith)

pub record StubPart (t : Placed) (part f : ℕ) : Type 0 where
  pub name : name_at t.task.program.routines f ≡ slice_index_or (names_in t) part []
  pub function : f < length t.task.program.routines

pub stub_at : (t : Placed) (s : IsStanding t) {A : Type 0} (of : A → Plan) (all : List A) (part k : ℕ) (x : A) → t.plans ≡ map of all →
    part ≡ suc (length t.task.program.routines + k) → part < length (names_in t) →
    x ≡ get_or all k x → StubPart t part (of x).function
stub_at t s of all part k x ep e lt is =
    let below : k < length t.plans = parts_there t part k e lt in
    let long : length t.plans ≡ length all = ap length ep ∙ length-map all of in
    let there : of x ≡ get_or t.plans k (of x) = get_mapped of all k x is (omega (arith, below, long)) ∙ ap (λ (ps : List Plan). get_or ps k (of x)) (sym ep) in
    record {
      name = sym (ap (λ n. slice_index_or (names_in t) n []) e ∙ stub_name t k (of x) below there);
      function = stub_function t s k (of x) below there;
    }

-- ---- results that are given on

pub words_then : {A : Type 0} (r : Result A (Failing ℕ)) (f : A → List Words) (a b : List Words) → IfOk r (λ x. f x ≡ a) → a ≡ b → IfOk r (λ x. f x ≡ b)
words_then (Ok x) f a b h e = h ∙ e
words_then (Err x) f a b h e = tt

-- ---- in memory

pub stub_number : (t : PlacedTask) (part functions : ℕ) → functions ≡ length (routines_of t) → functions < part → part ≡ suc (length (placed_of t).task.program.routines + (part - 1 - functions))
stub_number t part functions e lt = omega (arith, e, lt, plain_long t)

pub plan_there : (t : PlacedTask) (part functions : ℕ) (all : List IntervalPlan) → functions ≡ length (routines_of t) → functions < part →
    part < length (names_in (placed_of t)) → all ≡ items_of t.plans → part - 1 - functions < length all
plan_there t part functions all e lt inside ea =
    let there = parts_there (placed_of t) part (part - 1 - functions) (stub_number t part functions e lt) inside in
    omega (arith, there, length-map (items_of t.plans) plan_in, ap length ea)

pub stub_found : (t : PlacedTask) (s : IsStanding (placed_of t)) (part functions : ℕ) (all : List IntervalPlan) (x : IntervalPlan) →
    functions ≡ length (routines_of t) → functions < part → part < length (names_in (placed_of t)) →
    all ≡ items_of t.plans → x ≡ get_or all (part - 1 - functions) x → StubPart (placed_of t) part (get_or all (part - 1 - functions) x).function
stub_found t s part functions all x e lt inside ea is =
    subst (λ (i : IntervalPlan). StubPart (placed_of t) part i.function) is
    (stub_at (placed_of t) s plan_in all part (part - 1 - functions) x (ap (map plan_in) (sym ea)) (stub_number t part functions e lt) inside is)
