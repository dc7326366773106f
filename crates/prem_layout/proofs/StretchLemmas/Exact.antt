-- The four sums of pieces are those of their paths.
use Rattle.std.proofs.Common.{◌≡◌, ℕ, zero, suc, ◌+◌, ◌-◌, ◌*◌, max, refl, ap, ◌∙◌, sym, arith, cond, ltb, Bool, true, false, List, [], ◌∷◌, ◌++◌, length}
use Rattle.prem_layout.proofs.Prelude.{Pieces, no_pieces, straight, address_of, either, repeat, call_to, weight, jump_weight, address_weight, skip_words, branch_of, Instr, CodeTable}
use Rattle.prem_layout.proofs.Prelude.{job_weight, start_code, Plan, Takes, Cuts, Path, each_behind, crossed, only, turning, paths_of, part_paths, paths_at, paths_behind, marked_paths}
use Rattle.prem_layout.proofs.Prelude.{task_paths, longest_from, longest_among, Sums, taking, no_sums, among, chained, greatest, sums_of_event, sums_of_path, sums_of_paths, turned, summed}
use Rattle.prem_layout.proofs.Prelude.{part_sums, sums_at, sums_behind, marked_sums, job_sums, task_sums, Plant}
use Rattle.prem_layout.proofs.StretchLemmas.Algebra.{among_none, among_assoc, chained_among, among_chained, chained_assoc, taken_none, none_taken, greatest_among, greatest_cut}
use Rattle.prem_layout.specs.Stretch.Laws.{SumsAreExact}

-- ---- lists of paths

abbrev IsSome : {A : Type 0} → List A → Type 0
IsSome [] = ⊥
IsSome (x ∷ xs) = Unit {0}

pub path_joined : (x y : Path) → sums_of_path (x ++ y) ≡ chained (sums_of_path x) (sums_of_path y)
path_joined [] y = sym (none_taken (sums_of_path y))
path_joined (e ∷ es) y = ap (chained (sums_of_event e)) (path_joined es y) ∙ sym (chained_assoc (sums_of_event e) (sums_of_path es) (sums_of_path y))

paths_joined : (xs ys : List Path) → sums_of_paths (xs ++ ys) ≡ among (sums_of_paths xs) (sums_of_paths ys)
paths_joined [] ys = refl
paths_joined (x ∷ xs) ys = ap (among (sums_of_path x)) (paths_joined xs ys) ∙ sym (among_assoc (sums_of_path x) (sums_of_paths xs) (sums_of_paths ys))

one_behind : (x : Path) (ys : List Path) → IsSome ys → sums_of_paths (each_behind x ys) ≡ chained (sums_of_path x) (sums_of_paths ys)
one_behind x [] some = absurd some
one_behind x (y ∷ []) some =
    ap (λ s. among s no_sums) (path_joined x y) ∙ among_none (chained (sums_of_path x) (sums_of_path y)) ∙ ap (chained (sums_of_path x)) (sym (among_none (sums_of_path y)))
one_behind x (y ∷ z ∷ zs) some =
    ap (λ s. among s (sums_of_paths (each_behind x (z ∷ zs)))) (path_joined x y) ∙ ap (among (chained (sums_of_path x) (sums_of_path y))) (one_behind x (z ∷ zs) tt)
    ∙ sym (chained_among (sums_of_path x) (sums_of_path y) (sums_of_paths (z ∷ zs)))

all_behind : (xs ys : List Path) → IsSome xs → IsSome ys → sums_of_paths (crossed xs ys) ≡ chained (sums_of_paths xs) (sums_of_paths ys)
all_behind [] ys none some = absurd none
all_behind (x ∷ []) ys one some =
    paths_joined (each_behind x ys) [] ∙ among_none (sums_of_paths (each_behind x ys)) ∙ one_behind x ys some ∙ ap (λ s. chained s (sums_of_paths ys)) (sym (among_none (sums_of_path x)))
all_behind (x ∷ z ∷ zs) ys one some =
    paths_joined (each_behind x ys) (crossed (z ∷ zs) ys) ∙ ap (λ s. among s (sums_of_paths (crossed (z ∷ zs) ys))) (one_behind x ys some)
    ∙ ap (among (chained (sums_of_path x) (sums_of_paths ys))) (all_behind (z ∷ zs) ys tt some)
    ∙ sym (among_chained (sums_of_path x) (sums_of_paths (z ∷ zs)) (sums_of_paths ys))

some_joined : (xs ys : List Path) → IsSome ys → IsSome (xs ++ ys)
some_joined [] ys some = some
some_joined (x ∷ xs) ys some = tt

some_first : (xs ys : List Path) → IsSome xs → IsSome (xs ++ ys)
some_first [] ys some = absurd some
some_first (x ∷ xs) ys some = tt

some_each : (x : Path) (ys : List Path) → IsSome ys → IsSome (each_behind x ys)
some_each x [] some = absurd some
some_each x (y ∷ ys) some = tt

some_crossed : (xs ys : List Path) → IsSome xs → IsSome ys → IsSome (crossed xs ys)
some_crossed [] ys none some = absurd none
some_crossed (x ∷ xs) ys one some = some_first (each_behind x ys) (crossed xs ys) (some_each x ys some)

-- paths, and their sums
record Tells (xs : List Path) (s : Sums) : Type 0 where
  some : IsSome xs
  sums : sums_of_paths xs ≡ s

only_tells : (n : ℕ) → Tells (only n) (taking n)
only_tells n = record { some = tt; sums = among_none (chained (taking n) (taking 0)) ∙ taken_none n }

none_tells : Tells ([] ∷ []) (taking 0)
none_tells = record { some = tt; sums = among_none (taking 0) }

crossed_tells : (xs ys : List Path) (s t : Sums) → Tells xs s → Tells ys t → Tells (crossed xs ys) (chained s t)
crossed_tells xs ys s t h k = record {
  some = some_crossed xs ys h.some k.some;
  sums = all_behind xs ys h.some k.some ∙ ap (λ a. chained a (sums_of_paths ys)) h.sums ∙ ap (chained s) k.sums;
}

joined_tells : (xs ys : List Path) (s t : Sums) → Tells xs s → Tells ys t → Tells (xs ++ ys) (among s t)
joined_tells xs ys s t h k = record {
  some = some_joined xs ys k.some;
  sums = paths_joined xs ys ∙ ap (λ a. among a (sums_of_paths ys)) h.sums ∙ ap (among s) k.sums;
}

turning_tells : (turns : ℕ) (xs ys : List Path) (s t : Sums) → Tells xs s → Tells ys t → Tells (turning turns xs ys) (turned turns s t)
unfolding turning turned
turning_tells zero xs ys s t h k = k
turning_tells (suc turns) xs ys s t h k =
    joined_tells (crossed xs (turning turns xs ys)) ys (chained s (turned turns s t)) t (crossed_tells xs (turning turns xs ys) s (turned turns s t) h (turning_tells turns xs ys s t h k)) k

-- ---- pieces

module _ (w : Instr → ℕ) (calls : ℕ → List Path) (sums : ℕ → Sums) (known : (part : ℕ) → Tells (calls part) (sums part)) where
  pieces_tell : (ps : Pieces) → Tells (paths_of w calls ps) (summed w sums ps)
  pieces_tell no_pieces = none_tells
  pieces_tell (straight code rest) = crossed_tells _ _ _ _ (only_tells (weight w code)) (pieces_tell rest)
  pieces_tell (address_of rd part more rest) = crossed_tells _ _ _ _ (only_tells (address_weight w)) (pieces_tell rest)
  pieces_tell (either test taken other rest) =
      crossed_tells _ _ _ _ (only_tells (w (branch_of test)))
      (crossed_tells _ _ _ _
      (joined_tells _ _ _ _ (crossed_tells _ _ _ _ (pieces_tell taken) (only_tells (skip_words other * jump_weight w))) (crossed_tells _ _ _ _ (only_tells (jump_weight w)) (pieces_tell other)))
      (pieces_tell rest))
  pieces_tell (repeat turns head test body rest) =
      crossed_tells _ _ _ _
      (turning_tells turns _ _ _ _
      (crossed_tells _ _ _ _ (pieces_tell head) (crossed_tells _ _ _ _ (only_tells (w (branch_of test))) (crossed_tells _ _ _ _ (pieces_tell body) (only_tells (jump_weight w)))))
      (crossed_tells _ _ _ _ (pieces_tell head) (only_tells (w (branch_of test) + jump_weight w))))
      (pieces_tell rest)
  pieces_tell (call_to link part rest) = crossed_tells _ _ _ _ (only_tells (jump_weight w)) (crossed_tells _ _ _ _ (known part) (pieces_tell rest))

-- ---- a task

marked_tell : (p : Plant) (plans : List Plan) (k : ℕ) → Tells (marked_paths p plans k) (marked_sums p plans k)
marked_tell p [] k = none_tells
marked_tell p (plan ∷ plans) zero = record { some = tt; sums = among_none _ }
marked_tell p (plan ∷ plans) (suc k) = marked_tell p plans k

abbrev AllTell : List (List Path) → List Sums → Type 0
AllTell [] [] = Unit {0}
AllTell [] (s ∷ ss) = ⊥
AllTell (x ∷ xs) [] = ⊥
AllTell (x ∷ xs) (s ∷ ss) = Tells x s × AllTell xs ss

one_tells : (xs : List (List Path)) (ss : List Sums) → AllTell xs ss → (n : ℕ) → Tells (paths_at xs n) (sums_at ss n)
one_tells [] [] h n = none_tells
one_tells [] (s ∷ ss) h n = absurd h
one_tells (x ∷ xs) [] h n = absurd h
one_tells (x ∷ xs) (s ∷ ss) h zero = h.0
one_tells (x ∷ xs) (s ∷ ss) h (suc n) = one_tells xs ss h.1 n

last_tells : (xs : List (List Path)) (ss : List Sums) (x : List Path) (s : Sums) → AllTell xs ss → Tells x s → AllTell (xs ++ x ∷ []) (ss ++ s ∷ [])
last_tells [] [] x s h k = (k, tt)
last_tells [] (t ∷ ss) x s h k = absurd h
last_tells (y ∷ xs) [] x s h k = absurd h
last_tells (y ∷ xs) (t ∷ ss) x s h k = (h.0, last_tells xs ss x s h.1 k)

part_tells : (functions : ℕ) (code stubs : ℕ → List Path) (code' stubs' : ℕ → Sums) → ((n : ℕ) → Tells (code n) (code' n)) →
    ((n : ℕ) → Tells (stubs n) (stubs' n)) → (part : ℕ) → Tells (part_paths functions code stubs part) (part_sums functions code' stubs' part)
part_tells functions code stubs code' stubs' h k zero = none_tells
part_tells functions code stubs code' stubs' h k (suc n) = by (ltb n functions) where
  by : (b : Bool) → Tells (cond b (code n) (stubs (n - functions))) (cond b (code' n) (stubs' (n - functions)))
  by true = h n
  by false = k (n - functions)

behind_tell : (w : Instr → ℕ) (functions : ℕ) (stubs : ℕ → List Path) (stubs' : ℕ → Sums) → ((n : ℕ) → Tells (stubs n) (stubs' n)) →
    (all : List Pieces) (xs : List (List Path)) (ss : List Sums) → AllTell xs ss →
    AllTell (paths_behind w functions stubs xs all) (sums_behind w functions stubs' ss all)
behind_tell w functions stubs stubs' k [] xs ss h = h
behind_tell w functions stubs stubs' k (ps ∷ rest) xs ss h =
    behind_tell w functions stubs stubs' k rest _ _
    (last_tells xs ss _ _ h (pieces_tell w (part_paths functions (paths_at xs) stubs) (part_sums functions (sums_at ss) stubs')
    (part_tells functions (paths_at xs) stubs (sums_at ss) stubs' (one_tells xs ss h) k) ps))

task_tells : (p : Plant) (plans : List Plan) (t : CodeTable) → sums_of_paths (task_paths p plans t) ≡ task_sums p plans t
task_tells p plans t =
    let f : ℕ = length t.code in
    let xs : List (List Path) = paths_behind (job_weight p) f (marked_paths p plans) [] t.code in
    let h : AllTell xs (job_sums p plans t) = behind_tell (job_weight p) f (marked_paths p plans) (marked_sums p plans) (marked_tell p plans) t.code [] [] tt in
    (pieces_tell (job_weight p) (part_paths f (paths_at xs) (marked_paths p plans)) (part_sums f (sums_at (job_sums p plans t)) (marked_sums p plans))
    (part_tells f (paths_at xs) (marked_paths p plans) (sums_at (job_sums p plans t)) (marked_sums p plans) (one_tells xs (job_sums p plans t) h) (marked_tell p plans)) (start_code t.job)).sums

-- ---- the greatest stretch

pub longest_path : (n : ℕ) (es : Path) → longest_from n es ≡ greatest (chained (taking n) (sums_of_path es))
longest_path n [] = omega arith
longest_path n (Takes m ∷ es) = longest_path (n + m) es ∙ ap greatest (chained_assoc (taking n) (taking m) (sums_of_path es))
longest_path n (Cuts ∷ es) = ap (max n) (longest_path 0 es ∙ ap greatest (none_taken (sums_of_path es))) ∙ sym (greatest_cut n (sums_of_path es))

longest_paths : (xs : List Path) → longest_among xs ≡ greatest (sums_of_paths xs)
longest_paths [] = refl
longest_paths (x ∷ xs) =
    ap (λ n. max n (longest_among xs)) (longest_path 0 x ∙ ap greatest (none_taken (sums_of_path x))) ∙ ap (max (greatest (sums_of_path x))) (longest_paths xs)
    ∙ sym (greatest_among (sums_of_path x) (sums_of_paths xs))

pub sums_are_exact : SumsAreExact
sums_are_exact p plans t = longest_paths (task_paths p plans t) ∙ ap greatest (task_tells p plans t)
