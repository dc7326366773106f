-- No stretch takes more than its job.
use Rattle.std.specs.Prelude.{nat_lt, pos}
use Rattle.std.proofs.Common.{◌≡◌, ℕ, zero, suc, ◌+◌, ◌-◌, ◌*◌, ◌<◌, ◌≤◌, ◌^◌, max, ap, arith, cond, Bool, true, false, Option, Some, None, List, [], ◌∷◌, ◌++◌, length}
use Rattle.prem_plant.specs.declared.plant.Plant.{Plant}
use Rattle.prem_isa.specs.declared.instr.Instr.{Instr}
use Rattle.prem_isa.specs.declared.instr.Instr.TheVariants.{Jalr, PmMem}
use Rattle.prem_asm.specs.Pieces.{Pieces, no_pieces, straight, address_of, either, repeat, call_to, weighted, weight, jump_weight, address_weight, skip_words, branch_of}
use Rattle.prem_layout.specs.Plans.{Plan}
use Rattle.prem_layout.specs.Bounds.{CodeTable, part_weight, weight_at, weights_behind, job_weight, marked_weight, marked_weights, job_weights, job_bound_of, start_code}
use Rattle.prem_layout.specs.Stretch.Paths.{stretch_of, longest_of, greatest_stated}
use Rattle.prem_layout.specs.Stretch.Sums.{most, both, or_none, Sums, taking, among, chained, greatest, turned, summed, part_sums, sums_at, sums_behind, marked_sums, job_sums, task_sums, IsLess}
use Rattle.prem_layout.proofs.StretchLemmas.Exact.{sums_are_exact}

both_under : (x y : Option ℕ) (a b : ℕ) → IsLess x (Some a) → IsLess y (Some b) → IsLess (both x y) (Some (a + b))
both_under None y a b h k = tt
both_under (Some x) None a b h k = tt
both_under (Some x) (Some y) a b h k = omega (arith, h, k)

most_under : (x y : Option ℕ) (n : ℕ) → IsLess x (Some n) → IsLess y (Some n) → IsLess (most x y) (Some n)
most_under None y n h k = k
most_under (Some x) None n h k = h
most_under (Some x) (Some y) n h k = omega (arith, h, k)

more_under : (x : Option ℕ) (a b : ℕ) → a ≤ b → IsLess x (Some a) → IsLess x (Some b)
more_under None a b le h = tt
more_under (Some x) a b le h = omega (arith, le, h)

none_under : (x : Option ℕ) (n : ℕ) → IsLess x (Some n) → or_none x ≤ n
none_under None n h = omega arith
none_under (Some x) n h = h

-- none of the four is greater
record IsUnder (n : ℕ) (s : Sums) : Type 0 where
  whole : IsLess s.whole (Some n)
  before : IsLess s.before (Some n)
  between : IsLess s.between (Some n)
  behind : IsLess s.behind (Some n)

greatest_under : (n : ℕ) (s : Sums) → IsUnder n s → greatest s ≤ n
greatest_under n s h = all (or_none s.whole) (or_none s.before) (or_none s.between) (or_none s.behind) (none_under s.whole n h.whole)
    (none_under s.before n h.before) (none_under s.between n h.between) (none_under s.behind n h.behind) where
      all : (w x y z : ℕ) → w ≤ n → x ≤ n → y ≤ n → z ≤ n → max (max w x) (max y z) ≤ n
      all w x y z h k l m = omega (arith, h, k, l, m)

sums_more : (a b : ℕ) (s : Sums) → a ≤ b → IsUnder a s → IsUnder b s
sums_more a b s le h = record {
  whole = more_under s.whole a b le h.whole;
  before = more_under s.before a b le h.before;
  between =
      more_under s.between a b le h.between;
  behind = more_under s.behind a b le h.behind;
}

taking_under : (n : ℕ) → IsUnder n (taking n)
taking_under n = let same : n ≤ n = omega arith in record { whole = same; before = tt; between = tt; behind = tt }

chained_under : (a b : ℕ) (s t : Sums) → IsUnder a s → IsUnder b t → IsUnder (a + b) (chained s t)
chained_under a b s t h k =
    let first : a ≤ a + b = omega arith in
    let second : b ≤ a + b = omega arith in
    record {
      whole = both_under s.whole t.whole a b h.whole k.whole;
      before = most_under s.before (both s.whole t.before) (a + b) (more_under s.before a (a + b) first h.before) (both_under s.whole t.before a b h.whole k.before);
      between = most_under (most s.between t.between) (both s.behind t.before) (a + b)
          (most_under s.between t.between (a + b) (more_under s.between a (a + b) first h.between) (more_under t.between b (a + b) second k.between))
          (both_under s.behind t.before a b h.behind k.before);
      behind = most_under t.behind (both s.behind t.whole) (a + b) (more_under t.behind b (a + b) second k.behind) (both_under s.behind t.whole a b h.behind k.whole);
    }

among_under : (n : ℕ) (s t : Sums) → IsUnder n s → IsUnder n t → IsUnder n (among s t)
among_under n s t h k = record {
  whole = most_under s.whole t.whole n h.whole k.whole;
  before = most_under s.before t.before n h.before k.before;
  between = most_under s.between t.between n h.between k.between;
  behind = most_under s.behind t.behind n h.behind k.behind;
}

turned_under : (turns a b : ℕ) (s t : Sums) → IsUnder a s → IsUnder b t → IsUnder (turns * a + b) (turned turns s t)
unfolding turned
turned_under zero a b s t h k = sums_more b (0 * a + b) t (omega arith) k
turned_under (suc turns) a b s t h k =
    among_under (suc turns * a + b) (chained s (turned turns s t)) t
    (sums_more (a + (turns * a + b)) (suc turns * a + b) (chained s (turned turns s t)) (omega arith) (chained_under a (turns * a + b) s (turned turns s t) h (turned_under turns a b s t h k)))
    (sums_more b (suc turns * a + b) t (omega arith) k)

-- ---- pieces

module _ (w : Instr → ℕ) (weights : ℕ → ℕ) (sums : ℕ → Sums) (known : (part : ℕ) → IsUnder (weights part) (sums part)) where
  pieces_under : (ps : Pieces) → IsUnder (weighted w weights ps) (summed w sums ps)
  pieces_under no_pieces = taking_under 0
  pieces_under (straight code rest) = chained_under (weight w code) (weighted w weights rest) (taking (weight w code)) (summed w sums rest) (taking_under (weight w code)) (pieces_under rest)
  pieces_under (address_of rd part more rest) =
      chained_under (address_weight w) (weighted w weights rest) (taking (address_weight w)) (summed w sums rest) (taking_under (address_weight w))
      (pieces_under rest)
  pieces_under (either test taken other rest) =
      let skip : ℕ = skip_words other * jump_weight w in
      let jump : ℕ = jump_weight w in
      let branch : ℕ = w (branch_of test) in
      let x : ℕ = weighted w weights taken in
      let y : ℕ = weighted w weights other in
      let r : ℕ = weighted w weights rest in
      let m : ℕ = max (x + skip) (jump + y) in
      sums_more (branch + (m + r)) (branch + m + r) _ (omega arith)
      (chained_under branch (m + r) (taking branch) _ (taking_under branch)
      (chained_under m r _ (summed w sums rest)
      (among_under m (chained (summed w sums taken) (taking skip)) (chained (taking jump) (summed w sums other))
      (sums_more (x + skip) m _ (omega arith) (chained_under x skip (summed w sums taken) (taking skip) (pieces_under taken) (taking_under skip)))
      (sums_more (jump + y) m _ (omega arith) (chained_under jump y (taking jump) (summed w sums other) (taking_under jump) (pieces_under other))))
      (pieces_under rest)))
  pieces_under (repeat turns head test body rest) =
      let jump : ℕ = jump_weight w in
      let branch : ℕ = w (branch_of test) in
      let x : ℕ = weighted w weights head in
      let y : ℕ = weighted w weights body in
      let r : ℕ = weighted w weights rest in
      let a : ℕ = x + (branch + (y + jump)) in
      let b : ℕ = x + (branch + jump) in
      sums_more (turns * a + b + r) (turns * (x + branch + y + jump) + (x + branch + jump) + r) _ (same turns x branch y jump r)
      (chained_under (turns * a + b) r _ (summed w sums rest)
      (turned_under turns a b _ _
      (chained_under x (branch + (y + jump)) (summed w sums head) _ (pieces_under head)
      (chained_under branch (y + jump) (taking branch) _ (taking_under branch) (chained_under y jump (summed w sums body) (taking jump) (pieces_under body) (taking_under jump))))
      (chained_under x (branch + jump) (summed w sums head) (taking (branch + jump)) (pieces_under head) (taking_under (branch + jump))))
      (pieces_under rest)) where
        same : (t x b y j r : ℕ) → t * (x + (b + (y + j))) + (x + (b + j)) + r ≤ t * (x + b + y + j) + (x + b + j) + r
        same t x b y j r =
            let e : x + (b + (y + j)) ≡ x + b + y + j = omega arith in
            let f : t * (x + (b + (y + j))) ≡ t * (x + b + y + j) = ap (λ n. t * n) e in
            omega (arith, f)
  pieces_under (call_to link part rest) =
      sums_more (jump_weight w + (weights part + weighted w weights rest)) (jump_weight w + weights part + weighted w weights rest) _ (omega arith)
      (chained_under (jump_weight w) (weights part + weighted w weights rest) (taking (jump_weight w)) _ (taking_under (jump_weight w))
      (chained_under (weights part) (weighted w weights rest) (sums part) (summed w sums rest) (known part) (pieces_under rest)))

-- ---- tables

AllUnder : List ℕ → List Sums → Type 0
AllUnder [] [] = Unit {0}
AllUnder [] (s ∷ ss) = ⊥
AllUnder (n ∷ ns) [] = ⊥
AllUnder (n ∷ ns) (s ∷ ss) = IsUnder n s × AllUnder ns ss

one_under : (ns : List ℕ) (ss : List Sums) → AllUnder ns ss → (k : ℕ) → IsUnder (weight_at ns k) (sums_at ss k)
unfolding AllUnder
one_under [] [] h k = taking_under 0
one_under [] (s ∷ ss) h k = absurd h
one_under (n ∷ ns) [] h k = absurd h
one_under (n ∷ ns) (s ∷ ss) h zero = h.0
one_under (n ∷ ns) (s ∷ ss) h (suc k) = one_under ns ss h.1 k

last_under : (ns : List ℕ) (ss : List Sums) (n : ℕ) (s : Sums) → AllUnder ns ss → IsUnder n s → AllUnder (ns ++ n ∷ []) (ss ++ s ∷ [])
unfolding AllUnder
last_under [] [] n s h k = (k, tt)
last_under [] (t ∷ ss) n s h k = absurd h
last_under (m ∷ ns) [] n s h k = absurd h
last_under (m ∷ ns) (t ∷ ss) n s h k = (h.0, last_under ns ss n s h.1 k)

part_under : (functions : ℕ) (code stubs : ℕ → ℕ) (code' stubs' : ℕ → Sums) → ((n : ℕ) → IsUnder (code n) (code' n)) →
    ((n : ℕ) → IsUnder (stubs n) (stubs' n)) → (part : ℕ) → IsUnder (part_weight functions code stubs part) (part_sums functions code' stubs' part)
part_under functions code stubs code' stubs' h k zero = taking_under 0
part_under functions code stubs code' stubs' h k (suc n) = by (nat_lt n functions) where
  by : (b : Bool) → IsUnder (cond b (code n) (stubs (n - functions))) (cond b (code' n) (stubs' (n - functions)))
  by true = h n
  by false = k (n - functions)

behind_under : (w : Instr → ℕ) (functions : ℕ) (stubs : ℕ → ℕ) (stubs' : ℕ → Sums) → ((n : ℕ) → IsUnder (stubs n) (stubs' n)) → (all : List Pieces) (ns : List ℕ) (ss : List Sums) → AllUnder ns ss →
    AllUnder (weights_behind w functions (λ known. stubs) ns all) (sums_behind w functions stubs' ss all)
behind_under w functions stubs stubs' k [] ns ss h = h
behind_under w functions stubs stubs' k (ps ∷ rest) ns ss h =
    behind_under w functions stubs stubs' k rest _ _
    (last_under ns ss _ _ h (pieces_under w (part_weight functions (weight_at ns) stubs) (part_sums functions (sums_at ss) stubs')
    (part_under functions (weight_at ns) stubs (sums_at ss) stubs' (one_under ns ss h) k) ps))

marked_under : (p : Plant) (plans : List Plan) (k : ℕ) → IsUnder (marked_weights p plans k) (marked_sums p plans k)
marked_under p [] k = taking_under 0
marked_under p (plan ∷ plans) zero =
    record {
      whole = tt;
      before = (let le : job_weight p PmMem + 0 ≤ marked_weight p plan = omega arith in le);
      between = tt;
      behind = (let le : 0 + (job_weight p (Jalr 0 4 (pos 0)) + 0) ≤ marked_weight p plan = omega arith in le);
    }
marked_under p (plan ∷ plans) (suc k) = marked_under p plans k

pub stretch_less : (p : Plant) (plans : List Plan) (t : CodeTable) → p.switch + stretch_of p plans t ≤ job_bound_of p plans t
unfolding AllUnder
stretch_less p plans t =
    let f : ℕ = length t.code in
    let h : AllUnder (job_weights p plans t) (job_sums p plans t) = behind_under (job_weight p) f (marked_weights p plans) (marked_sums p plans) (marked_under p plans) t.code [] [] tt in
    let under : IsUnder (weighted (job_weight p) (part_weight f (weight_at (job_weights p plans t)) (marked_weights p plans)) (start_code t.job)) (task_sums p plans t) =
    pieces_under (job_weight p) (part_weight f (weight_at (job_weights p plans t)) (marked_weights p plans)) (part_sums f (sums_at (job_sums p plans t)) (marked_sums p plans))
    (part_under f (weight_at (job_weights p plans t)) (marked_weights p plans) (sums_at (job_sums p plans t)) (marked_sums p plans) (one_under _ _ h) (marked_under p plans)) (start_code t.job) in
    omega (arith, greatest_under _ (task_sums p plans t) under, sums_are_exact p plans t)

-- where the longest passes a large number, the bound of the job does
pub longest_less : (p : Plant) (plans : List Plan) (t : CodeTable) → p.switch ≤ 10000 → greatest_stated plans < 2 ^ 32 → 2 ^ 40 < longest_of p plans t → 2 ^ 40 < job_bound_of p plans t
longest_less p plans t small stated lt = omega (arith, stretch_less p plans t, small, stated, lt)
