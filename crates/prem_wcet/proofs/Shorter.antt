-- Plans with shorter lengths.
use Rattle.std.specs.Prelude.{◌-◌, nat_lt, min, max, pos}
use Rattle.std.proofs.Common.{◌≡◌, ℕ, zero, suc, ◌+◌, ◌*◌, ◌≤◌, Bool, true, false, cond, List, [], ◌∷◌, ◌++◌, refl, ap, arith, length, map}
use Rattle.std.proofs.lemmas.Nat.{mul-le}
use Rattle.prem_plant.specs.declared.plant.Plant.{Plant}
use Rattle.prem_isa.specs.declared.instr.Instr.{Instr}
use Rattle.prem_isa.specs.declared.instr.Instr.TheVariants.{Jalr, PmMem}
use Rattle.prem_asm.specs.Pieces.{Pieces, no_pieces, straight, address_of, either, repeat, call_to, branch_of, weighted, jump_weight, skip_words}
use Rattle.prem_layout.specs.Plans.{Plan}
use Rattle.prem_layout.specs.Footprint.{TaskPlaces}
use Rattle.prem_layout.specs.Bounds.{CodeTable, part_weight, weight_at, weights_behind, marked_weights, job_weight, job_weights, job_bound_of, start_code}
use Rattle.prem_wcet_laws.specs.Opens.{opens_of, shortened}
use Rattle.prem_wcet.specs.Lengths.{with_lengths, lengths_within}

abbrev stated : List Plan → List ℕ
stated plans = map (λ (plan : Plan). plan.stated) plans

pub with_stated : (plans : List Plan) → with_lengths (stated plans) plans ≡ plans
with_stated [] = refl
with_stated (plan ∷ plans) = ap (λ ps. plan ∷ ps) (with_stated plans)

pub with_within : (p : Plant) (t : TaskPlaces) (top : ℕ) (plans : List Plan) → with_lengths (lengths_within top (map (opens_of p t) plans) (stated plans)) plans ≡ map (shortened p t top) plans
with_within p t top [] = refl
with_within p t top (plan ∷ plans) = ap (λ ps. shortened p t top plan ∷ ps) (with_within p t top plans)

pub within_long : (top : ℕ) (opens stated : List ℕ) → length opens ≡ length stated → length (lengths_within top opens stated) ≡ length stated
within_long top [] [] e = refl
within_long top [] (m ∷ ms) e = absurd (omega (arith, e))
within_long top (n ∷ ns) [] e = refl
within_long top (n ∷ ns) (m ∷ ms) e = ap suc (within_long top ns ms (omega (arith, e)))

-- ---- a job's bound

pub weighted_more : (w : Instr → ℕ) (f g : ℕ → ℕ) → ((part : ℕ) → f part ≤ g part) → (ps : Pieces) → weighted w f ps ≤ weighted w g ps
weighted_more w f g le no_pieces = omega arith
weighted_more w f g le (straight code rest) = let a = weighted_more w f g le rest in omega (arith, a)
weighted_more w f g le (address_of rd part more rest) = let a = weighted_more w f g le rest in omega (arith, a)
weighted_more w f g le (either test taken other rest) =
    let a = weighted_more w f g le taken in
    let b = weighted_more w f g le other in
    let c = weighted_more w f g le rest in
    sum (w (branch_of test)) (weighted w f taken) (weighted w g taken) (weighted w f other) (weighted w g other) (weighted w f rest)
    (weighted w g rest) (skip_words other * jump_weight w) (jump_weight w) a b c
  where
    sum : (t x x' y y' z z' s j : ℕ) → x ≤ x' → y ≤ y' → z ≤ z' → t + max (x + s) (j + y) + z ≤ t + max (x' + s) (j + y') + z'
    sum t x x' y y' z z' s j a b c = omega (arith, a, b, c)
weighted_more w f g le (repeat turns head test body rest) =
    let a = weighted_more w f g le head in
    let b = weighted_more w f g le body in
    let c = weighted_more w f g le rest in
    let t : ℕ = w (branch_of test) in
    let j : ℕ = jump_weight w in
    let m : turns * (weighted w f head + w (branch_of test) + weighted w f body + jump_weight w) ≤ turns * (weighted w g head + w (branch_of test) + weighted w g body + jump_weight w) =
    mul-le turns (weighted w f head + w (branch_of test) + weighted w f body + jump_weight w) turns
    (weighted w g head + w (branch_of test) + weighted w g body + jump_weight w) (omega arith) (omega (arith, a, b)) in
    sum (turns * (weighted w f head + w (branch_of test) + weighted w f body + jump_weight w)) (turns * (weighted w g head + w (branch_of test) + weighted w g body + jump_weight w))
    (weighted w f head) (weighted w g head) (weighted w f rest) (weighted w g rest) (w (branch_of test)) (jump_weight w) m a c
  where
    sum : (m m' x x' z z' t j : ℕ) → m ≤ m' → x ≤ x' → z ≤ z' → m + (x + t + j) + z ≤ m' + (x' + t + j) + z'
    sum m m' x x' z z' t j a b c = omega (arith, a, b, c)
weighted_more w f g le (call_to link part rest) =
    let a = le part in
    let b = weighted_more w f g le rest in
    omega (arith, a, b)

-- one weight more at each end
data Less : List ℕ → List ℕ → Type 0 where
  none : Less [] []
  more : {x y : ℕ} {xs ys : List ℕ} → x ≤ y → Less xs ys → Less (x ∷ xs) (y ∷ ys)

less_at : {xs ys : List ℕ} → Less xs ys → (k : ℕ) → weight_at xs k ≤ weight_at ys k
less_at none k = omega arith
less_at (more le h) zero = le
less_at (more le h) (suc k) = less_at h k

less_end : {xs ys : List ℕ} → Less xs ys → (x y : ℕ) → x ≤ y → Less (xs ++ x ∷ []) (ys ++ y ∷ [])
less_end none x y le = more le none
less_end (more a h) x y le = more a (less_end h x y le)

part_less : (functions : ℕ) (c d s t : ℕ → ℕ) → ((k : ℕ) → c k ≤ d k) → ((k : ℕ) → s k ≤ t k) → (p : ℕ) → part_weight functions c s p ≤ part_weight functions d t p
part_less functions c d s t h k zero = omega arith
part_less functions c d s t h k (suc n) = by (nat_lt n functions)
  where
    by : (b : Bool) → cond b (c n) (s (n - functions)) ≤ cond b (d n) (t (n - functions))
    by true = h n
    by false = k (n - functions)

behind_less : (w : Instr → ℕ) (functions : ℕ) (s t : ℕ → ℕ) → ((k : ℕ) → s k ≤ t k) → (pss : List Pieces) (xs ys : List ℕ) → Less xs ys →
    Less (weights_behind w functions (λ known. s) xs pss) (weights_behind w functions (λ known. t) ys pss)
behind_less w functions s t le [] xs ys h = h
behind_less w functions s t le (ps ∷ pss) xs ys h =
    let x : ℕ = weighted w (part_weight functions (weight_at xs) s) ps in
    let y : ℕ = weighted w (part_weight functions (weight_at ys) t) ps in
    behind_less w functions s t le pss (xs ++ x ∷ []) (ys ++ y ∷ [])
    (less_end h x y (weighted_more w (part_weight functions (weight_at xs) s) (part_weight functions (weight_at ys) t) (part_less functions (weight_at xs) (weight_at ys) s t (less_at h) le) ps))

marked_less : (p : Plant) (t : TaskPlaces) (top : ℕ) (plans : List Plan) (k : ℕ) → marked_weights p (map (shortened p t top) plans) k ≤ marked_weights p plans k
marked_less p t top [] k = omega arith
marked_less p t top (plan ∷ plans) zero = sum p.switch plan.stated (opens_of p t plan + top) (job_weight p PmMem) (job_weight p (Jalr 0 4 (pos 0)))
  where
    sum : (s m n a b : ℕ) → a + s + min m n + s + b ≤ a + s + m + s + b
    sum s m n a b = omega arith
marked_less p t top (plan ∷ plans) (suc k) = marked_less p t top plans k

pub bound_less : (p : Plant) (t : TaskPlaces) (top : ℕ) (plans : List Plan) (table : CodeTable) → job_bound_of p (map (shortened p t top) plans) table ≤ job_bound_of p plans table
bound_less p t top plans table =
    let short : List Plan = map (shortened p t top) plans in
    let weights = behind_less (job_weight p) (length table.code) (marked_weights p short) (marked_weights p plans) (marked_less p t top plans) table.code [] [] none in
    let start = weighted_more (job_weight p) (part_weight (length table.code) (weight_at (job_weights p short table)) (marked_weights p short))
    (part_weight (length table.code) (weight_at (job_weights p plans table)) (marked_weights p plans))
    (part_less (length table.code) _ _ _ _ (less_at weights) (marked_less p t top plans)) (start_code table.job) in
    omega (arith, start)
