-- From arrays of sums to those of a task.
use Rattle.std.specs.Prelude.{nat_lt}
use Rattle.std.proofs.Common.{◌≡◌, ℕ, zero, suc, ◌+◌, ◌*◌, ◌<◌, ◌≤◌, List, [], ◌∷◌, ◌++◌, refl, ap, ◌∙◌, sym, subst, arith, cond, Bool, true, false, ⊎_elim, length, length-append}
use Rattle.std.proofs.Common.{take, get_or, set, replicate, slice_set, max}
use Rattle.std.proofs.lemmas.Bool.{cases_eq, ltb-true, ltb-false}
use Rattle.std.proofs.lemmas.List.{length-set, length-replicate, length-take, take_more, take_all}
use Rattle.prem_list.specs.declared.Sequence.{Sequence}
use Rattle.prem_list.specs.Sequence.{items_of}
use Rattle.prem_plant.specs.declared.plant.Plant.{Plant}
use Rattle.prem_isa.specs.declared.instr.Instr.{Instr}
use Rattle.prem_asm.specs.declared.piece.Piece.{Piece}
use Rattle.prem_asm.specs.Pieces.{Pieces, no_pieces}
use Rattle.prem_layout.specs.Plans.{Plan}
use Rattle.prem_layout.specs.Bounds.{CodeTable, job_weight, line_cost, start_code}
use Rattle.prem_layout.specs.Stretch.Paths.{greatest_stated, longest_of, stretch_of}
use Rattle.prem_layout.specs.Stretch.Sums.{Sums, taking, greatest, summed, part_sums, sums_at, sums_behind, marked_sums_of, marked_sums, job_sums, task_sums}
use Rattle.prem_layout.proofs.StretchLemmas.Exact.{sums_are_exact}
use Rattle.prem_bounds.specs.declared.stretches.Sums.{Sums as SumsInMemory}
use Rattle.prem_bounds.specs.declared.reach.Reach.{Reach}
use Rattle.prem_bounds.specs.declared.table.CodeTable.{CodeTable as CodeTree}
use Rattle.prem_bounds.specs.Scale.{clipped, with_misses}
use Rattle.prem_bounds.specs.TableOf.{listed, table_of}
use Rattle.prem_bounds.specs.ToldSums.{clipped_sums, sums_of, AreTold, sums_in, TellsSums, stub_sums, sums_by, step_weight}
use Rattle.prem_bounds.proofs.Calls.{job_weights_same}
use Rattle.prem_bounds.proofs.Steps.{listed_long}
use Rattle.prem_bounds.proofs.AlikeSums.{summed_alike, part_alike, greatest_alike}

-- ---- arrays

in_set_same : (xs : List SumsInMemory) (n : ℕ) (x : SumsInMemory) → n < length xs → sums_in (set xs n x) n ≡ sums_of x
in_set_same [] n x lt = absurd (omega (arith, lt))
in_set_same (y ∷ ys) zero x lt = refl
in_set_same (y ∷ ys) (suc n) x lt = in_set_same ys n x (omega (arith, lt))

in_set_other : (xs : List SumsInMemory) (n k : ℕ) (x : SumsInMemory) → (k ≡ n → ⊥) → sums_in (set xs n x) k ≡ sums_in xs k
in_set_other [] n k x other = refl
in_set_other (y ∷ ys) zero zero x other = absurd (other refl)
in_set_other (y ∷ ys) zero (suc k) x other = refl
in_set_other (y ∷ ys) (suc n) zero x other = refl
in_set_other (y ∷ ys) (suc n) (suc k) x other = in_set_other ys n k x (λ e. other (ap suc e))

pub in_some : (xs : List SumsInMemory) (k : ℕ) (x : SumsInMemory) → k < length xs → x ≡ get_or xs k x → sums_of x ≡ sums_in xs k
in_some [] k x lt is = absurd (omega (arith, lt))
in_some (y ∷ ys) zero x lt is = ap sums_of is
in_some (y ∷ ys) (suc k) x lt is = in_some ys k x (omega (arith, lt)) is

pub in_none : (xs : List SumsInMemory) (k : ℕ) → length xs ≤ k → taking 0 ≡ sums_in xs k
in_none [] k le = refl
in_none (y ∷ ys) zero le = absurd (omega (arith, le))
in_none (y ∷ ys) (suc k) le = in_none ys k (omega (arith, le))

in_replicate : (count : ℕ) (x : SumsInMemory) → sums_of x ≡ taking 0 → (k : ℕ) → sums_in (replicate count x) k ≡ taking 0
in_replicate zero x e k = refl
in_replicate (suc count) x e zero = e
in_replicate (suc count) x e (suc k) = in_replicate count x e k

pub none_told : (count : ℕ) (x : SumsInMemory) → sums_of x ≡ taking 0 → TellsSums count (replicate count x) (λ k. taking 0)
none_told count x e = record { long = length-replicate {A = SumsInMemory} count x; each = λ k. ap clipped_sums (in_replicate count x e k) }

set_tells : (count n : ℕ) (value : SumsInMemory) (array : List SumsInMemory) (old new : ℕ → Sums) → n < count → TellsSums count array old →
    AreTold value (new n) → ((k : ℕ) → (k ≡ n → ⊥) → old k ≡ new k) →
    TellsSums count (slice_set array n value) new
set_tells count n value array old new lt t e same = record {
  long = length-set array n value ∙ t.long;
  each = λ k. ⊎_elim
      (λ (is : k ≡ n). ap (λ j. clipped_sums (sums_in (set array n value) j)) is
      ∙ ap clipped_sums (in_set_same array n value (omega (arith, t.long, lt))) ∙ e ∙ ap (λ j. clipped_sums (new j)) (sym is))
      (λ (other : k ≡ n → ⊥). ap clipped_sums (in_set_other array n k value other) ∙ t.each k ∙ ap clipped_sums (same k other))
      (cases_eq k n);
}

-- ---- functions one after another

-- the sums of the first n functions
abbrev pub known_sums : (w : Instr → ℕ) (functions : ℕ) (stubs : ℕ → Sums) → List Pieces → ℕ → List Sums
known_sums w functions stubs pss n = sums_behind w functions stubs [] (take n pss)

behind-append : (w : Instr → ℕ) (functions : ℕ) (stubs : ℕ → Sums) (known : List Sums) (pss qss : List Pieces) →
    sums_behind w functions stubs known (pss ++ qss) ≡ sums_behind w functions stubs (sums_behind w functions stubs known pss) qss
behind-append w functions stubs known [] qss = refl
behind-append w functions stubs known (ps ∷ pss) qss = behind-append w functions stubs (known ++ summed w (part_sums functions (sums_at known) stubs) ps ∷ []) pss qss

behind_long : (w : Instr → ℕ) (functions : ℕ) (stubs : ℕ → Sums) (known : List Sums) (pss : List Pieces) → length (sums_behind w functions stubs known pss) ≡ length known + length pss
behind_long w functions stubs known [] = omega arith
behind_long w functions stubs known (ps ∷ pss) =
    let one : Sums = summed w (part_sums functions (sums_at known) stubs) ps in
    omega (arith, behind_long w functions stubs (known ++ one ∷ []) pss, length-append known (one ∷ []))

known_more : (w : Instr → ℕ) (functions : ℕ) (stubs : ℕ → Sums) (pss : List Pieces) (n : ℕ) → n < length pss →
    known_sums w functions stubs pss (n + 1) ≡ known_sums w functions stubs pss n ++ summed w (part_sums functions (sums_at (known_sums w functions stubs pss n)) stubs) (get_or pss n no_pieces) ∷ []
known_more w functions stubs pss n lt =
    ap (sums_behind w functions stubs []) (take_more pss n no_pieces lt) ∙ behind-append w functions stubs [] (take n pss) (get_or pss n no_pieces ∷ [])

put_last : (xs : List Sums) (n : ℕ) (x : Sums) (k : ℕ) → length xs ≡ n → (k ≡ n → ⊥) → sums_at xs k ≡ sums_at (xs ++ x ∷ []) k
put_last [] n x zero e other = absurd (other e)
put_last [] n x (suc k) e other = refl
put_last (y ∷ ys) n x zero e other = refl
put_last (y ∷ ys) n x (suc k) e other = put_last ys (length ys) x k refl (λ same. other (let f : suc k ≡ suc (length ys) = ap suc same in f ∙ e))

at_last : (xs : List Sums) (n : ℕ) (x : Sums) → length xs ≡ n → sums_at (xs ++ x ∷ []) n ≡ x
at_last [] n x e = ap (λ k. sums_at (x ∷ []) k) (sym e)
at_last (y ∷ ys) n x e = ap (λ k. sums_at (y ∷ (ys ++ x ∷ [])) k) (sym e) ∙ at_last ys (length ys) x refl

function_more : (w : Instr → ℕ) (functions : ℕ) (stubs : ℕ → Sums) (pss : List Pieces) (n : ℕ) (value : SumsInMemory) (count : ℕ) (array : List SumsInMemory) → n < length pss → n < count →
    TellsSums count array (sums_at (known_sums w functions stubs pss n)) →
    AreTold value (summed w (part_sums functions (sums_at (known_sums w functions stubs pss n)) stubs) (get_or pss n no_pieces)) →
    TellsSums count (slice_set array n value) (sums_at (known_sums w functions stubs pss (n + 1)))
function_more w functions stubs pss n value count array inside lt t e =
    let known : List Sums = known_sums w functions stubs pss n in
    let one : Sums = summed w (part_sums functions (sums_at known) stubs) (get_or pss n no_pieces) in
    let more : known_sums w functions stubs pss (n + 1) ≡ known ++ one ∷ [] = known_more w functions stubs pss n inside in
    let long : length known ≡ n = omega (arith, behind_long w functions stubs [] (take n pss), length-take n pss, inside) in
    set_tells count n value array (sums_at known) (sums_at (known_sums w functions stubs pss (n + 1))) lt t
    (e ∙ ap clipped_sums (sym (ap (λ ks. sums_at ks n) more ∙ at_last known n one long)))
    (λ k other. put_last known n one k long other ∙ ap (λ ks. sums_at ks k) (sym more))

-- ---- marked calls

marked_there : (p : Plant) (plans : List Plan) (k : ℕ) → k < length plans → marked_sums p plans k ≡ marked_sums_of p
marked_there p [] k lt = absurd (omega (arith, lt))
marked_there p (plan ∷ plans) zero lt = refl
marked_there p (plan ∷ plans) (suc k) lt = marked_there p plans k (omega (arith, lt))

marked_none : (p : Plant) (plans : List Plan) (k : ℕ) → length plans ≤ k → marked_sums p plans k ≡ taking 0
marked_none p [] k le = refl
marked_none p (plan ∷ plans) zero le = absurd (omega (arith, le))
marked_none p (plan ∷ plans) (suc k) le = marked_none p plans k (omega (arith, le))

pub stubs_are : (p : Plant) (plans : List Plan) (stubs : ℕ) (marked : SumsInMemory) → stubs ≡ length plans → sums_of marked ≡ marked_sums_of p →
    (k : ℕ) → stub_sums stubs marked k ≡ marked_sums p plans k
stubs_are p plans stubs marked count e k = by (nat_lt k stubs) refl where
  by : (b : Bool) → nat_lt k stubs ≡ b → cond b (sums_of marked) (taking 0) ≡ marked_sums p plans k
  by true is = e ∙ sym (marked_there p plans k (let lt : k < stubs = ltb-true k stubs is in omega (arith, lt, count)))
  by false is = sym (marked_none p plans k (let le : stubs ≤ k = ltb-false k stubs is in omega (arith, le, count)))

-- ---- a job

abbrev pub job_known : Plant → List Plan → List Pieces → ℕ → ℕ → List Sums
job_known p plans code functions n = known_sums (job_weight p) functions (marked_sums p plans) code n

-- instructions weigh what they weigh in jobs, and so do parts
known_alike : (p : Plant) (plans : List Plan) (access other count stubs : ℕ) (functions : List SumsInMemory) (marked : SumsInMemory)
    (known : ℕ → Sums) (ps : Pieces) → access ≡ 2 * line_cost p → other ≡ line_cost p → stubs ≡ length plans → sums_of marked ≡ marked_sums_of p →
    TellsSums 256 functions known →
    clipped_sums (summed (with_misses access other) (part_sums count (sums_in functions) (stub_sums stubs marked)) ps)
    ≡ clipped_sums (summed (job_weight p) (part_sums count known (marked_sums p plans)) ps)
known_alike p plans access other count stubs functions marked known ps ea eo es em t =
    let c : ℕ → Sums = part_sums count (sums_in functions) (stub_sums stubs marked) in
    ap (λ m. clipped_sums (summed (with_misses m other) c ps)) ea
    ∙ ap (λ m. clipped_sums (summed (with_misses (2 * line_cost p) m) c ps)) eo
    ∙ ap (λ (w : Instr → ℕ). clipped_sums (summed w c ps)) (λ i k. job_weights_same p k i)
    ∙ summed_alike (job_weight p) c (part_sums count known (marked_sums p plans))
    (part_alike count (sums_in functions) known (stub_sums stubs marked) (marked_sums p plans) t.each (λ k. ap clipped_sums (stubs_are p plans stubs marked es em k))) ps

pub job_step : (p : Plant) (plans : List Plan) (code : List Pieces) (access other count stubs n : ℕ) (functions : List SumsInMemory)
    (marked value : SumsInMemory) (ps : Pieces) → access ≡ 2 * line_cost p → other ≡ line_cost p → stubs ≡ length plans → sums_of marked ≡ marked_sums_of p →
    n < length code → n < 256 → TellsSums 256 functions (sums_at (job_known p plans code count n)) →
    AreTold value (summed (with_misses access other) (part_sums count (sums_in functions) (stub_sums stubs marked)) ps) → get_or code n no_pieces ≡ ps →
    TellsSums 256 (slice_set functions n value) (sums_at (job_known p plans code count (n + 1)))
job_step p plans code access other count stubs n functions marked value ps ea eo es em inside lt t e is =
    function_more (job_weight p) count (marked_sums p plans) code n value 256 functions inside lt t
    (e ∙ known_alike p plans access other count stubs functions marked (sums_at (job_known p plans code count n)) ps ea eo es em t
    ∙ ap (λ q. clipped_sums (summed (job_weight p) (part_sums count (sums_at (job_known p plans code count n)) (marked_sums p plans)) q)) (sym is))

-- once all functions are told
pub job_all : (p : Plant) (plans : List Plan) (t : CodeTree) (code : List (Sequence Piece)) (array : List SumsInMemory) (n : ℕ) → code ≡ items_of t.code → length code ≤ n →
    TellsSums 256 array (sums_at (job_known p plans (listed code) (length (listed code)) n)) → TellsSums 256 array (sums_at (job_sums p plans (table_of t)))
job_all p plans t code array n e le told =
    let all : take n (listed code) ≡ listed code = take_all n (listed code) (omega (arith, listed_long code, le)) in
    let here : TellsSums 256 array (sums_at (sums_behind (job_weight p) (length (listed code)) (marked_sums p plans) [] (listed code))) =
    subst (λ pss. TellsSums 256 array (sums_at (sums_behind (job_weight p) (length (listed code)) (marked_sums p plans) [] pss))) all told in
    subst (λ (ss : List (Sequence Piece)). TellsSums 256 array (sums_at (sums_behind (job_weight p) (length (listed ss)) (marked_sums p plans) [] (listed ss)))) e here

-- ---- the longest interval

-- what is known of parts, once those of all functions are told
pub record IsReach (p : Plant) (plans : List Plan) (t : CodeTable) (r : Reach) : Type 0 where
  pub access : r.scale.access ≡ 2 * line_cost p
  pub other : r.scale.other ≡ line_cost p
  pub count : r.scale.count ≡ length t.code
  pub stubs : r.stubs ≡ length plans
  pub marked : sums_of r.marked ≡ marked_sums_of p
  pub functions : TellsSums 256 r.functions (sums_at (job_sums p plans t))

pub longest_told : (p : Plant) (plans : List Plan) (t : CodeTable) (r : Reach) (start : SumsInMemory) (stretch stated longest : ℕ) →
    IsReach p plans t r → AreTold start (summed (step_weight r) (sums_by r) (start_code t.job)) →
    stretch ≡ greatest (sums_of start) → stated ≡ greatest_stated plans → longest ≡ clipped (p.switch + max stretch stated) → clipped longest ≡ clipped (longest_of p plans t)
longest_told p plans t r start stretch stated longest h e es et el =
    let known : ℕ → Sums = sums_at (job_sums p plans t) in
    let whole : clipped_sums (sums_of start) ≡ clipped_sums (task_sums p plans t) =
    e ∙ known_alike p plans r.scale.access r.scale.other r.scale.count r.stubs r.functions r.marked known (start_code t.job) h.access h.other h.stubs h.marked h.functions
    ∙ ap (λ n. clipped_sums (summed (job_weight p) (part_sums n known (marked_sums p plans)) (start_code t.job))) h.count in
    let told : clipped stretch ≡ clipped (greatest (task_sums p plans t)) = ap clipped es ∙ greatest_alike (sums_of start) (task_sums p plans t) whole in
    let exact : stretch_of p plans t ≡ greatest (task_sums p plans t) = sums_are_exact p plans t in
    sum p.switch stretch stated longest (stretch_of p plans t) (greatest (task_sums p plans t)) (greatest_stated plans) told exact et el where
      sum : (w s d l x y z : ℕ) → clipped s ≡ clipped y → x ≡ y → d ≡ z → l ≡ clipped (w + max s d) → clipped l ≡ clipped (w + max x z)
      sum w s d l x y z a b c f = omega (arith, a, b, c, f)
