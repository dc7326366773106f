-- The names of tasks, functions, globals and devices by their numbers.
use Rattle.std.specs.List.{AllByRecursion}
use Rattle.std.proofs.Common.{◌≡◌, ℕ, zero, suc, ◌<◌, List, [], ◌∷◌, refl, ap, sym, ◌∙◌, subst, arith, length, map, get_or, Bor}
use Rattle.prem_plant.specs.declared.plant.Device.{Device}
use Rattle.prem_plant.specs.declared.layout.PartKind.{PartKind}
use Rattle.prem_plant.specs.declared.layout.PartSize.{PartSize}
use Rattle.prem_syntax.specs.declared.tree.Global.{Global}
use Rattle.prem_syntax.specs.Name.{name_bytes}
use Rattle.prem_syntax.specs.SyntaxOf.{global_of}
use Rattle.prem_tree.specs.declared.resolve.resolved.Routine.{Routine}
use Rattle.prem_tree.specs.Resolve.ResolvedOf.{routines_of as plain_routines}
use Rattle.prem_layout.specs.Placed.{name_at}
use Rattle.prem_place.proofs.VerdictLemmas.Names.{name_from}
use Rattle.prem_place.proofs.BuildImageLemmas.Whole.{routines_long}
use Rattle.prem_tasks.specs.Broken.{global_name}
use Rattle.prem_tasks.specs.Compiled.{named_in, names_in, kind_name, part_name}
use Rattle.prem_prefetch.specs.declared.sizes.coded.CodedTask.{CodedTask}
use Rattle.prem_prefetch.specs.Sizes.CodedOf.{coded_in as coded_task}
use Rattle.prem_compile.specs.Telling.There.{IsIn, IsAmong, KindIsThere, IsThere}

pub all_at : {A B : Type 0} (P : B → Type 0) (f : A → B) (xs : List A) (i : ℕ) (x : A) → AllByRecursion P (map f xs) → i < length xs → P (f (get_or xs i x))
all_at P f [] i x h lt = absurd (omega arith)
all_at P f (y ∷ ys) zero x h lt = h.0
all_at P f (y ∷ ys) (suc i) x h lt = all_at P f ys i x h.1 (omega arith)

-- ---- tasks

pub among_within : (tasks : List CodedTask) (n : ℕ) (kind : PartKind) → IsAmong (map coded_task tasks) n kind → n < length tasks
among_within [] n kind h = absurd h
among_within (t ∷ ts) zero kind h = omega arith
among_within (t ∷ ts) (suc n) kind h = let lt = among_within ts n kind h in omega (arith, lt)

among_at : (tasks : List CodedTask) (n : ℕ) (kind : PartKind) (d : CodedTask) → IsAmong (map coded_task tasks) n kind → IsIn (coded_task (get_or tasks n d)) kind
among_at [] n kind d h = absurd h
among_at (t ∷ ts) zero kind d h = h
among_at (t ∷ ts) (suc n) kind d h = among_at ts n kind d h

pub named_at : (tasks : List CodedTask) (n : ℕ) (kind : PartKind) (d : CodedTask) → IsAmong (map coded_task tasks) n kind →
    named_in (get_or tasks n d).name.now (coded_task (get_or tasks n d)).program kind ≡ names_in (map coded_task tasks) n kind
named_at [] n kind d h = absurd h
named_at (t ∷ ts) zero kind d h = refl
named_at (t ∷ ts) (suc n) kind d h = named_at ts n kind d h

pub among_of : (tasks : List CodedTask) (n : ℕ) (kind : PartKind) (t : CodedTask) → IsAmong (map coded_task tasks) n kind → t ≡ get_or tasks n t → IsIn (coded_task t) kind
among_of tasks n kind t h is = subst (λ (q : CodedTask). IsIn (coded_task q) kind) (sym is) (among_at tasks n kind t h)

pub named_of : (tasks : List CodedTask) (n : ℕ) (kind : PartKind) (t : CodedTask) → IsAmong (map coded_task tasks) n kind → t ≡ get_or tasks n t →
    named_in t.name.now (coded_task t).program kind ≡ names_in (map coded_task tasks) n kind
named_of tasks n kind t h is = ap (λ (q : CodedTask). named_in q.name.now (coded_task q).program kind) is ∙ named_at tasks n kind t h

-- ---- functions

pub routine_within : (turns : ℕ → ℕ) (rs items : List Routine) (f n : ℕ) → f < length (plain_routines turns 0 rs) → n ≡ f → items ≡ rs → n < length items
routine_within turns rs items f n lt en ei =
    let long = routines_long turns 0 rs in
    let same = ap (λ (xs : List Routine). length xs) ei in
    omega (arith, lt, long, en, same)

pub routine_named : (turns : ℕ → ℕ) (rs items : List Routine) (f n : ℕ) (r : Routine) → f < length (plain_routines turns 0 rs) → n ≡ f → items ≡ rs →
    r ≡ get_or items n r → name_bytes r.text.now.name ≡ name_at (plain_routines turns 0 rs) f
routine_named turns rs items f n r lt en ei is =
    let long = routines_long turns 0 rs in
    name_from turns 0 rs f r (omega (arith, lt, long)) (is ∙ ap (λ (xs : List Routine). get_or xs n r) ei ∙ ap (λ k. get_or rs k r) en)

-- ---- globals

pub global_at : (globals : List (Bor Global)) (g : ℕ) (d : Bor Global) → g < length globals →
    name_bytes (get_or globals g d).now.name ≡ global_name (map (λ (x : Bor Global). global_of x.now) globals) g
global_at [] g d lt = absurd (omega arith)
global_at (x ∷ xs) zero d lt = refl
global_at (x ∷ xs) (suc g) d lt = global_at xs g d (omega arith)

-- ---- parts, at numbers and kinds that are found in code

module _ (devices : List Device) (tasks : List CodedTask) (part : PartSize) (n : ℕ) (kind : PartKind) (same : n ≡ part.task) (is : part.kind ≡ kind) where
  pub there_by : IsThere devices (map coded_task tasks) part → KindIsThere devices (map coded_task tasks) n kind
  there_by there =
      let found : KindIsThere devices (map coded_task tasks) part.task kind = subst (λ (k : PartKind). KindIsThere devices (map coded_task tasks) part.task k) is there in
      subst (λ m. KindIsThere devices (map coded_task tasks) m kind) (sym same) found

  pub named_by : kind_name devices (map coded_task tasks) n kind ≡ part_name devices (map coded_task tasks) part
  named_by = ap (λ m. kind_name devices (map coded_task tasks) m kind) same ∙ ap (λ (k : PartKind). kind_name devices (map coded_task tasks) part.task k) (sym is)
