-- A path with the items of functions in place of its calls comes to what the path comes to.
use Rattle.std.specs.Prelude.{◌==◌, nat_lt}
use Rattle.std.proofs.Common.{◌≡◌, ℕ, zero, suc, ◌+◌, ◌*◌, ◌<◌, ◌≤◌, Bool, true, false, cond, List, [], ◌∷◌, ◌++◌, length, refl, ap, sym, subst, ◌∙◌, arith}
use Rattle.std.proofs.Math.Nat.{add-mul, mul-add, mul_assoc, mul_comm, zero-mul}
use Rattle.std.proofs.lemmas.Bool.Decides.{nat_tests}
use Rattle.prem_isa.specs.declared.instr.Instr.{Instr}
use Rattle.prem_asm.specs.Pieces.{Pieces}
use Rattle.prem_layout.specs.Bounds.{weight_at}
use Rattle.prem_layout.specs.Parts.{code_part}
use Rattle.prem_bounds.specs.Scale.{clipped}
use Rattle.prem_wcet_laws.specs.Scopes.{Fact}
use Rattle.prem_wcet.proofs.AlikeScopes.{alike_product, alike_sum}
use Rattle.prem_profile.specs.declared.bound.bill.Item.{Item}
use Rattle.prem_profile.specs.declared.bound.bill.Spot.{Spot}
use Rattle.prem_profile.specs.declared.bound.bill.Spot.TheVariants.{Switch, At, Call}
use Rattle.prem_profile.specs.Bound.Bills.{Bill, cycles_on, is_call}
use Rattle.prem_profile.specs.Bound.Pieces.{PlaceCost, bill_at, bill_from, call_items, item, part_bill}
use Rattle.prem_profile.specs.Bound.Scopes.{bills_behind, cycles_of, path_with}
use Rattle.prem_profile.specs.Bound.Spread.{calls_for, calls_on, item_calls, items_often, spread, spot_calls, without_calls}
use Rattle.prem_profile.proofs.BillLemmas.Each.{AreAll, all_one, pieces_all, timed}
use Rattle.prem_profile.proofs.BoundLemmas.Sums.{Comes, cycles_at, on_append, same_then, times, twice}
use Rattle.prem_profile.proofs.Numbers.{are_equal, more_test, is_less, is_more, true_false}

-- ---- numbers

still_less : (m n : ℕ) → m < suc n → (m == n) ≡ false → m < n
still_less m n lt e = grind (arith, nat_tests)

none_times : (n : ℕ) → n * 0 ≡ 0
none_times n = omega arith

once : (n : ℕ) → 1 * n ≡ n
once n = omega arith

pub told_times : (a w : ℕ) → clipped (clipped a * w) ≡ clipped (a * w)
told_times a w = ap clipped (mul_comm (clipped a) w) ∙ alike_product w (clipped a) a (twice a) ∙ ap clipped (mul_comm w a)

-- ---- sums of the first numbers of a sequence

abbrev sum_to : (ℕ → ℕ) → ℕ → ℕ
sum_to a zero = 0
sum_to a (suc n) = a n + sum_to a n

sum_same : (a b : ℕ → ℕ) (n : ℕ) → ((f : ℕ) → f < n → a f ≡ b f) → sum_to a n ≡ sum_to b n
sum_same a b zero e = refl
sum_same a b (suc n) e = λ i. e n (omega arith) i + sum_same a b n (λ f lt. e f (omega (arith, lt))) i

sum_none : (a : ℕ → ℕ) (n : ℕ) → ((f : ℕ) → f < n → a f ≡ 0) → sum_to a n ≡ 0
sum_none a zero e = refl
sum_none a (suc n) e = λ i. e n (omega arith) i + sum_none a n (λ f lt. e f (omega (arith, lt))) i

sum_both : (a b : ℕ → ℕ) (n : ℕ) → sum_to (λ f. a f + b f) n ≡ sum_to a n + sum_to b n
sum_both a b zero = refl
sum_both a b (suc n) = ap (λ m. a n + b n + m) (sum_both a b n) ∙ four (a n) (b n) (sum_to a n) (sum_to b n) where
  four : (a b c d : ℕ) → a + b + (c + d) ≡ a + c + (b + d)
  four a b c d = omega arith

sum_times : (k : ℕ) (a : ℕ → ℕ) (n : ℕ) → sum_to (λ f. k * a f) n ≡ k * sum_to a n
sum_times k a zero = sym (none_times k)
sum_times k a (suc n) = ap (λ m. k * a n + m) (sum_times k a n) ∙ sym (mul-add k (a n) (sum_to a n))

-- ---- what calls are told with, where each of a function takes so many cycles

module _ (w : ℕ → ℕ) where
  abbrev spot_paid : Spot → ℕ → ℕ
  spot_paid (Switch k) n = 0
  spot_paid (At pc) n = 0
  spot_paid (Call f) n = n * w f

  abbrev IsPaid : Item → Type 0
  IsPaid x = is_call x.spot ≡ true → clipped x.cost.cycles ≡ clipped (spot_paid x.spot x.cost.instructions)

  spot_times : (s : Spot) (n k c : ℕ) → (is_call s ≡ true → clipped c ≡ clipped (spot_paid s k)) → is_call s ≡ true → clipped (clipped (n * c)) ≡ clipped (spot_paid s (clipped (n * k)))
  spot_times (Switch j) n k c f e = absurd (true_false (sym e))
  spot_times (At pc) n k c f e = absurd (true_false (sym e))
  spot_times (Call g) n k c f e = twice (n * c) ∙ alike_product n c (k * w g) (f e) ∙ ap clipped (sym (mul_assoc n k (w g))) ∙ sym (told_times (n * k) (w g))

  paid_timed : (n : ℕ) (x : Item) → IsPaid x → IsPaid (timed n x)
  paid_timed n x f = spot_times x.spot n x.cost.instructions x.cost.cycles f

  quiet_paid : (s : Spot) (n : ℕ) → is_call s ≡ false → spot_paid s n ≡ 0
  quiet_paid (Switch j) n e = refl
  quiet_paid (At pc) n e = refl
  quiet_paid (Call g) n e = absurd (true_false e)

  -- calls of one function, among so many functions

  one_less : (g n k : ℕ) → k ≤ g → sum_to (λ f. calls_for g n f * w f) k ≡ 0
  one_less g n k le = sum_none (λ f. calls_for g n f * w f) k (λ f lt. ap (λ t. cond t n 0 * w f) (more_test g f (omega (arith, le, lt))) ∙ zero-mul (w f))

  one_paid : (g n k : ℕ) → g < k → sum_to (λ f. calls_for g n f * w f) k ≡ n * w g
  one_paid g n zero lt = absurd (omega (arith, lt))
  one_paid g n (suc k) lt = by (g == k) refl (one_paid g n k) where
    led : (m : ℕ) → 0 + m ≡ m
    led m = omega arith

    bare : (m : ℕ) → m + 0 ≡ m
    bare m = omega arith

    by : (t : Bool) → (g == k) ≡ t → (g < k → sum_to (λ f. calls_for g n f * w f) k ≡ n * w g) → cond t n 0 * w k + sum_to (λ f. calls_for g n f * w f) k ≡ n * w g
    by true e rest = let same = are_equal g k e in ap (λ m. n * w k + m) (one_less g n k (omega (arith, same))) ∙ bare (n * w k) ∙ ap (λ f. n * w f) (sym same)
    by false e rest = (λ i. zero-mul (w k) i + rest (still_less g k lt e) i) ∙ led (n * w g)

  spot_by : (s : Spot) (n k : ℕ) → ((f : ℕ) → k ≤ f → w f ≡ 0) → sum_to (λ f. spot_calls s n f * w f) k ≡ spot_paid s n
  spot_by (Switch j) n k past = sum_none (λ f. 0 * w f) k (λ f lt. zero-mul (w f))
  spot_by (At pc) n k past = sum_none (λ f. 0 * w f) k (λ f lt. zero-mul (w f))
  spot_by (Call g) n k past = by (nat_lt g k) refl where
    by : (t : Bool) → nat_lt g k ≡ t → sum_to (λ f. calls_for g n f * w f) k ≡ n * w g
    by true e = one_paid g n k (is_less g k e)
    by false e = let le = is_more g k e in one_less g n k le ∙ sym (ap (λ m. n * m) (past g le) ∙ none_times n)

  led : (m : ℕ) → m ≡ 0 + m
  led m = omega arith

  -- a bill comes to its items that are no calls, and to what its calls take

  module _ (k : ℕ) (past : (f : ℕ) → k ≤ f → w f ≡ 0) where
    abbrev called : Bill → ℕ
    called bill = sum_to (λ f. calls_on bill f * w f) k

    abbrev Divides : Bill → Type 0
    Divides bill = clipped (cycles_on bill) ≡ clipped (cycles_on (without_calls bill) + called bill)

    sums : (x : Item) (bill : Bill) → called (x ∷ bill) ≡ spot_paid x.spot x.cost.instructions + called bill
    sums x bill =
        sum_same (λ f. (item_calls x f + calls_on bill f) * w f) (λ f. item_calls x f * w f + calls_on bill f * w f) k (λ f lt. add-mul (item_calls x f) (calls_on bill f) (w f))
        ∙ sum_both (λ f. item_calls x f * w f) (λ f. calls_on bill f * w f) k
        ∙ ap (λ m. m + called bill) (spot_by x.spot x.cost.instructions k past)

    moved : (a b c : ℕ) → a + (b + c) ≡ b + (a + c)
    moved a b c = omega arith

    one_part : (x : Item) (bill : Bill) → IsPaid x → Divides bill → Divides (x ∷ bill)
    one_part x bill told rest = by (is_call x.spot) refl where
      by : (t : Bool) → is_call x.spot ≡ t → clipped (x.cost.cycles + cycles_on bill) ≡ clipped (cycles_on (cond t [] (x ∷ []) ++ without_calls bill) + called (x ∷ bill))
      by true e =
          let own : ℕ = cycles_on (without_calls bill) in
          let paid : ℕ = spot_paid x.spot x.cost.instructions in
          alike_sum x.cost.cycles paid (cycles_on bill) (own + called bill) (told e) rest ∙ ap clipped (moved paid own (called bill)) ∙ ap (λ m. clipped (own + m)) (sym (sums x bill))
      by false e =
          let own : ℕ = cycles_on (without_calls bill) in
          let none : called (x ∷ bill) ≡ called bill = sums x bill ∙ ap (λ m. m + called bill) (quiet_paid x.spot x.cost.instructions e) ∙ sym (led (called bill)) in
          alike_sum x.cost.cycles x.cost.cycles (cycles_on bill) (own + called bill) refl rest ∙ ap clipped (same_then x.cost.cycles own (called bill))
          ∙ ap (λ m. clipped (x.cost.cycles + own + m)) (sym none)

    parts : (bill : Bill) → AreAll IsPaid bill → Divides bill
    parts [] h = ap clipped (sym (sum_none (λ f. 0 * w f) k (λ f lt. zero-mul (w f))) ∙ led (sum_to (λ f. 0 * w f) k))
    parts (x ∷ bill) h = one_part x bill h.0 (parts bill h.1)

-- ---- functions that are told as often as they are called

often_comes : (n : ℕ) (bill : Bill) → clipped (cycles_on (items_often n bill)) ≡ clipped (n * cycles_on (without_calls bill))
often_comes zero bill = ap clipped (sym (zero-mul (cycles_on (without_calls bill))))
often_comes (suc n) bill = let bare : Comes (without_calls bill) (cycles_on (without_calls bill)) = record { is = refl } in (times (suc n) bare).is

abbrev taken : List Bill → ℕ → ℕ
taken bills = weight_at (cycles_of bills)

-- the bill of a function that calls only the first n
abbrev IsPart : List Bill → (n : ℕ) → Bill → Type 0
IsPart bills n b = clipped (cycles_on b) ≡ clipped (cycles_on (without_calls b) + sum_to (λ f. calls_on b f * taken bills f) n)

abbrev AreParts : List Bill → Type 0
AreParts bills = (n : ℕ) → n < length bills → IsPart bills n (bill_at bills n)

spread_comes : (bills : List Bill) → AreParts bills → (n : ℕ) → n ≤ length bills → (often : ℕ → ℕ) →
    clipped (cycles_on (spread bills n often)) ≡ clipped (sum_to (λ f. often f * taken bills f) n)
spread_comes bills h zero le often = refl
spread_comes bills h (suc n) le often =
    let b : Bill = bill_at bills n in
    let o : ℕ = often n in
    let own : ℕ = cycles_on (without_calls b) in
    let below : ℕ = sum_to (λ f. calls_on b f * taken bills f) n in
    let rest : ℕ = sum_to (λ f. often f * taken bills f) n in
    let more : ℕ → ℕ = λ f. often f + o * calls_on b f in
    let sums : sum_to (λ f. more f * taken bills f) n ≡ rest + o * below =
    sum_same (λ f. more f * taken bills f) (λ f. often f * taken bills f + o * (calls_on b f * taken bills f)) n
    (λ f lt. add-mul (often f) (o * calls_on b f) (taken bills f) ∙ ap (λ m. often f * taken bills f + m) (mul_assoc o (calls_on b f) (taken bills f)))
    ∙ sum_both (λ f. often f * taken bills f) (λ f. o * (calls_on b f * taken bills f)) n
    ∙ ap (λ m. rest + m) (sum_times o (λ f. calls_on b f * taken bills f) n) in
    let one : clipped (o * taken bills n) ≡ clipped (o * own + o * below) =
    ap (λ m. clipped (o * m)) (cycles_at bills n)
    ∙ alike_product o (clipped (cycles_on b)) (own + below) (twice (cycles_on b) ∙ h n (omega (arith, le)))
    ∙ ap clipped (mul-add o own below) in
    ap clipped (on_append (items_often o b) (spread bills n more))
    ∙ alike_sum (cycles_on (items_often o b)) (o * own) (cycles_on (spread bills n more)) (rest + o * below) (often_comes o b)
    (spread_comes bills h n (omega (arith, le)) more ∙ ap clipped sums)
    ∙ ap clipped (moved (o * own) rest (o * below))
    ∙ sym (alike_sum (o * taken bills n) (o * own + o * below) rest rest one refl) where
      moved : (a b c : ℕ) → a + (b + c) ≡ a + c + b
      moved a b c = omega arith

-- ---- one function more

at_less : (bs : List Bill) (b : Bill) (n : ℕ) → n < length bs → bill_at (bs ++ b ∷ []) n ≡ bill_at bs n
at_less [] b n lt = absurd (omega (arith, lt))
at_less (c ∷ bs) b zero lt = refl
at_less (c ∷ bs) b (suc n) lt = at_less bs b n (omega (arith, lt))

at_last : (bs : List Bill) (b : Bill) → bill_at (bs ++ b ∷ []) (length bs) ≡ b
at_last [] b = refl
at_last (c ∷ bs) b = at_last bs b

longer : (bs : List Bill) (b : Bill) → length (bs ++ b ∷ []) ≡ suc (length bs)
longer [] b = refl
longer (c ∷ bs) b = ap suc (longer bs b)

taken_less : (bs : List Bill) (b : Bill) (n : ℕ) → n < length bs → taken (bs ++ b ∷ []) n ≡ taken bs n
taken_less [] b n lt = absurd (omega (arith, lt))
taken_less (c ∷ bs) b zero lt = refl
taken_less (c ∷ bs) b (suc n) lt = taken_less bs b n (omega (arith, lt))

taken_past : (bs : List Bill) (n : ℕ) → length bs ≤ n → taken bs n ≡ 0
taken_past [] zero le = refl
taken_past [] (suc n) le = refl
taken_past (c ∷ bs) zero le = absurd (omega (arith, le))
taken_past (c ∷ bs) (suc n) le = taken_past bs n (omega (arith, le))

still_part : (bs : List Bill) (b : Bill) (n : ℕ) (x : Bill) → n ≤ length bs → IsPart bs n x → IsPart (bs ++ b ∷ []) n x
still_part bs b n x le h =
    h
    ∙ ap (λ m. clipped (cycles_on (without_calls x) + m))
    (sum_same (λ f. calls_on x f * taken bs f) (λ f. calls_on x f * taken (bs ++ b ∷ []) f) n
    (λ f lt. ap (λ m. calls_on x f * m) (sym (taken_less bs b f (omega (arith, lt, le))))))

parts_more : (bs : List Bill) (b : Bill) → AreParts bs → IsPart bs (length bs) b → AreParts (bs ++ b ∷ [])
parts_more bs b h one n lt = by (nat_lt n (length bs)) refl where
  by : (t : Bool) → nat_lt n (length bs) ≡ t → IsPart (bs ++ b ∷ []) n (bill_at (bs ++ b ∷ []) n)
  by true e =
      let less = is_less n (length bs) e in
      subst (IsPart (bs ++ b ∷ []) n) (sym (at_less bs b n less)) (still_part bs b n (bill_at bs n) (omega (arith, less)) (h n less))
  by false e =
      let long = longer bs b in
      let more = is_more n (length bs) e in
      let same : length bs ≡ n = omega (arith, lt, long, more) in
      subst (λ m. IsPart (bs ++ b ∷ []) m (bill_at (bs ++ b ∷ []) m)) same
      (subst (IsPart (bs ++ b ∷ []) (length bs)) (sym (at_last bs b)) (still_part bs b (length bs) b (omega arith) one))

-- ---- paths

call_paid : (cycles : List ℕ) (f : ℕ) → AreAll (IsPaid (weight_at cycles)) (call_items f (weight_at cycles f))
call_paid cycles f = by (weight_at cycles f) refl where
  by : (n : ℕ) → weight_at cycles f ≡ n → AreAll (IsPaid (weight_at cycles)) (call_items f n)
  by zero e = tt
  by (suc n) e = (λ told. ap clipped (sym (once (weight_at cycles f) ∙ e)), tt)

module _ (c : PlaceCost) (functions : ℕ) where
  part_paid : (cycles : List ℕ) (part : ℕ) → AreAll (IsPaid (weight_at cycles)) (part_bill functions cycles part)
  part_paid cycles zero = tt
  part_paid cycles (suc n) = all_one (IsPaid (weight_at cycles)) (nat_lt n functions) (call_items n (weight_at cycles n)) [] (call_paid cycles n) tt

  path_paid : (cycles : List ℕ) (at : ℕ) (ps : Pieces) → AreAll (IsPaid (weight_at cycles)) (bill_from c (part_bill functions cycles) at ps)
  path_paid cycles at ps =
      let each : (at : ℕ) (i : Instr) → IsPaid (weight_at cycles) (item c at i) = λ at i e. absurd (true_false (sym e)) in
      pieces_all (IsPaid (weight_at cycles)) (paid_timed (weight_at cycles)) c each (part_bill functions cycles) (part_paid cycles) at ps

  path_part : (bills : List Bill) (at : ℕ) (ps : Pieces) → IsPart bills (length bills) (bill_from c (part_bill functions (cycles_of bills)) at ps)
  path_part bills at ps =
      parts (taken bills) (length bills) (taken_past bills) (bill_from c (part_bill functions (cycles_of bills)) at ps) (path_paid (cycles_of bills) at ps)

  known_parts : (places : ℕ → ℕ) (known : List Bill) (fs : List Fact) → AreParts known → AreParts (bills_behind c functions places known fs)
  known_parts places known [] h = h
  known_parts places known (f ∷ fs) h =
      let at : ℕ = places (code_part (length known)) in
      let next : Bill = bill_from c (part_bill functions (cycles_of known)) at f.pieces in
      known_parts places (known ++ next ∷ []) fs (parts_more known next h (path_part known at f.pieces))

  no_parts : AreParts []
  no_parts n lt = absurd (omega (arith, lt))

  pub spread_kept : (places : ℕ → ℕ) (fs : List Fact) (at : ℕ) (ps : Pieces) (m : ℕ) →
      Comes (bill_from c (part_bill functions (cycles_of (bills_behind c functions places [] fs))) at ps) m →
      Comes (path_with c functions (bills_behind c functions places [] fs) at ps) m
  spread_kept places fs at ps m comes =
      let bills : List Bill = bills_behind c functions places [] fs in
      let path : Bill = bill_from c (part_bill functions (cycles_of bills)) at ps in
      let own : ℕ = cycles_on (without_calls path) in
      let called : ℕ = sum_to (λ f. calls_on path f * taken bills f) (length bills) in
      record {
        is = ap clipped (on_append (items_often 1 path) (spread bills (length bills) (calls_on path)))
            ∙ alike_sum (cycles_on (items_often 1 path)) own (cycles_on (spread bills (length bills) (calls_on path))) called
            (often_comes 1 path ∙ ap clipped (once own))
            (spread_comes bills (known_parts places [] fs no_parts) (length bills) (omega arith) (calls_on path))
            ∙ sym (path_part bills at ps) ∙ comes.is;
      }
