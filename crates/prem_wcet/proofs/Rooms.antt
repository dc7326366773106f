-- Lines that have room: what is counted in memory is what the definition counts.
use Rattle.std.proofs.Common.{◌≡◌, ℕ, zero, suc, ◌+◌, ◌%◌, ◌/◌, ◌==◌, ◌<◌, ◌≤◌, ◌^◌, nat_eq, nat_le, Bool, ◌&&◌, true, false, cond, if◌then◌else◌, List, [], ◌∷◌, length, filter}
use Rattle.std.proofs.Common.{slice_index, refl, ap, sym, ◌∙◌, arith}
use Rattle.std.specs.List.{count_by, list_all}
use Rattle.std.proofs.Math.Dec.{leb-zero}
use Rattle.std.proofs.lemmas.Bool.{eqb-true}
use Rattle.std.proofs.lemmas.Nat.{mod_below}
use Rattle.std.proofs.lemmas.List.Sums.{count_by-le-length, length-filter, sum_by-cons}
use Rattle.prem_plant.specs.declared.plant.Plant.{Plant}
use Rattle.prem_plant.specs.Ranges.{IsPlant}
use Rattle.prem_isa.specs.declared.instr.Instr.{Instr}
use Rattle.prem_isa.specs.declared.instr.Instr.TheVariants.{Lui, Auipc, Jal, Jalr, Branch, Load, Store, OpImm, Op, MulDiv, Fence, Ecall, Ebreak, PmMem, PmExec, PmEnd, PmDone, PmIn, PmOut}
use Rattle.prem_isa.specs.Decode.{cost_of}
use Rattle.prem_layout.specs.Footprint.{count_in}
use Rattle.prem_layout.specs.Bounds.{line_cost}
use Rattle.prem_wcet_laws.specs.Scopes.{crowd_cost, is_roomy, roomy_lines, scope_weight}
use Rattle.prem_wcet.specs.declared.crowd.Crowd.{Crowd}
use Rattle.prem_wcet.specs.Crowds.{IsCrowd, access_by, fetch_by, has_room, place_weight}

count_cons : (p : ℕ → Bool) (x : ℕ) (xs : List ℕ) (b : Bool) → p x ≡ b → count_by p (x ∷ xs) ≡ cond b 1 0 + count_by p xs
count_cons p x xs b is = sum_by-cons (λ n. cond (p n) 1 0) x xs ∙ ap (λ c. cond c 1 0 + count_by p xs) is

-- where all lines have room, a set that one of them goes into has
held_room : (room : ℕ → Bool) (sets s : ℕ) (xs : List ℕ) → count_by (λ n. room (n % sets)) xs ≡ length xs → 1 ≤ count_by (λ n. n % sets == s) xs → room s ≡ true
held_room room sets s [] all some = absurd (omega arith)
held_room room sets s (x ∷ xs) all some = by_room (room (x % sets)) refl (held_room room sets s xs) where
  by_set : (b : Bool) → (x % sets == s) ≡ b → room (x % sets) ≡ true → count_by (λ n. room (n % sets)) xs ≡ length xs →
      (count_by (λ n. room (n % sets)) xs ≡ length xs → 1 ≤ count_by (λ n. n % sets == s) xs → room s ≡ true) → room s ≡ true
  by_set true is here left rest = sym (ap room (eqb-true (x % sets) s is)) ∙ here
  by_set false is here left rest = let e = count_cons (λ n. n % sets == s) x xs false is in rest left (omega (arith, e, some))

  by_room : (b : Bool) → room (x % sets) ≡ b → (count_by (λ n. room (n % sets)) xs ≡ length xs → 1 ≤ count_by (λ n. n % sets == s) xs → room s ≡ true) → room s ≡ true
  by_room true is rest =
      let e = count_cons (λ n. room (n % sets)) x xs true is in
      let left : count_by (λ n. room (n % sets)) xs ≡ length xs = omega (arith, e, all) in
      by_set (x % sets == s) refl is left rest
  by_room false is rest =
      let e = count_cons (λ n. room (n % sets)) x xs false is in
      absurd (omega (arith, e, all, count_by-le-length (λ n. room (n % sets)) xs))

-- where all lines have room, each set has
all_have_room : (p : Plant) (lines : List ℕ) → length (roomy_lines p lines) ≡ length lines → (n : ℕ) → is_roomy p lines n ≡ true
all_have_room p lines all n = by_count (count_in p.sets lines (n % p.sets)) refl where
  by_count : (k : ℕ) → count_in p.sets lines (n % p.sets) ≡ k → is_roomy p lines n ≡ true
  by_count zero is = ap (λ k. nat_le k p.«ways») is ∙ leb-zero p.«ways»
  by_count (suc k) is = held_room (λ s. nat_le (count_in p.sets lines s) p.«ways») p.sets (n % p.sets) lines (sym (length-filter (is_roomy p lines) lines) ∙ all) (omega (arith, is))

-- ---- a collection in memory

all_true : (room : ℕ → Bool) → ((n : ℕ) → room n ≡ true) → (xs : List ℕ) → list_all room xs ≡ true
all_true room each [] = refl
all_true room each (x ∷ xs) = ap (λ b. b && list_all room xs) (each x) ∙ all_true room each xs

none_more : (n : ℕ) → n + 0 ≡ n
none_more n = omega arith

none_twice : (n : ℕ) → n + 0 + 0 ≡ n
none_twice n = omega arith

-- its counts are those of its lines
pub crowd_told : (p : Plant) (lines touched : List ℕ) (counts : List ℕ) (roomy : Bool) (miss held : ℕ) (alone : Bool) → IsPlant p →
    ((s : ℕ) → s < p.sets → slice_index counts s ≡ count_in p.sets lines s) →
    roomy ≡ list_all (λ n. nat_le (slice_index counts (n % p.sets)) p.«ways») touched → miss ≡ line_cost p →
    held ≡ length (filter (λ n. nat_le (slice_index counts (n % p.sets)) p.«ways») lines) → length lines < 2 ^ 32 →
    alone ≡ nat_eq held (length lines) →
    IsCrowd p lines touched (record { line = p.line; sets = p.sets; room = p.«ways»; counts = counts; roomy = roomy; miss = miss; held = held; alone = alone })
crowd_told p lines touched counts roomy miss held alone plant are all cost kept short one =
    let agree : (n : ℕ) → nat_le (slice_index counts (n % p.sets)) p.«ways» ≡ is_roomy p lines n = λ n. ap (λ k. nat_le k p.«ways») (are (n % p.sets) (mod_below n p.sets (plant.sets.0))) in
    let kept_is : held ≡ length (roomy_lines p lines) = kept ∙ (λ i. length (filter (λ n. agree n i) lines)) in
    record {
      line = refl;
      sets = refl;
      room = refl;
      miss = cost;
      counts = are;
      roomy = all ∙ (λ i. list_all (λ n. agree n i) touched);
      held = kept_is;
      small = omega (arith, kept_is, length-filter (is_roomy p lines) lines, count_by-le-length (is_roomy p lines) lines, short);
      alone = λ is. all_have_room p lines (sym kept_is ∙ eqb-true held (length lines) (sym one ∙ is));
    }

module _ (p : Plant) (lines touched : List ℕ) (c : Crowd) (plant : IsPlant p) (is : IsCrowd p lines touched c) where
  pub room_is : (n : ℕ) → has_room c n ≡ is_roomy p lines n
  room_is n =
      ap (λ k. nat_le (slice_index c.counts (n % k)) c.room) is.sets
      ∙ ap (λ k. nat_le (slice_index c.counts (n % p.sets)) k) is.room
      ∙ ap (λ k. nat_le k p.«ways») (is.counts (n % p.sets) (mod_below n p.sets (plant.sets.0)))

  pub fetch_is : (at : ℕ) → fetch_by c at ≡ crowd_cost p (is_roomy p lines (at / p.line))
  fetch_is at =
      ap (λ m. if has_room c (at / c.line) then 0 else m) is.miss
      ∙ ap (λ l. if has_room c (at / l) then 0 else line_cost p) is.line
      ∙ ap (λ b. if b then 0 else line_cost p) (room_is (at / p.line))

  pub access_is : access_by c ≡ crowd_cost p (list_all (is_roomy p lines) touched)
  access_is = ap (λ m. if c.roomy then 0 else m) is.miss ∙ ap (λ b. if b then 0 else line_cost p) is.roomy

  place_at : (at : ℕ) (i : Instr) → place_weight c at i ≡ scope_weight p lines (list_all (is_roomy p lines) touched) at i
  place_at at (Load op rd rs1 offset) = λ j. cost_of (Load op rd rs1 offset) + fetch_is at j + access_is j
  place_at at (Store op rs1 rs2 offset) = λ j. cost_of (Store op rs1 rs2 offset) + fetch_is at j + access_is j
  place_at at (Lui a b) = λ j. cost_of (Lui a b) + fetch_is at j
  place_at at (Auipc a b) = λ j. cost_of (Auipc a b) + fetch_is at j
  place_at at (Jal a b) = λ j. cost_of (Jal a b) + fetch_is at j
  place_at at (Jalr a b d) = λ j. cost_of (Jalr a b d) + fetch_is at j
  place_at at (Branch o a b d) = λ j. cost_of (Branch o a b d) + fetch_is at j
  place_at at (OpImm o a b d) = λ j. cost_of (OpImm o a b d) + fetch_is at j
  place_at at (Op o a b d) = λ j. cost_of (Op o a b d) + fetch_is at j
  place_at at (MulDiv o a b d) = λ j. cost_of (MulDiv o a b d) + fetch_is at j
  place_at at (Fence a b) = λ j. cost_of (Fence a b) + fetch_is at j
  place_at at Ecall = λ j. cost_of Ecall + fetch_is at j
  place_at at Ebreak = λ j. cost_of Ebreak + fetch_is at j
  place_at at PmMem = λ j. cost_of PmMem + fetch_is at j
  place_at at (PmExec a) = λ j. cost_of (PmExec a) + fetch_is at j
  place_at at PmEnd = λ j. cost_of PmEnd + fetch_is at j
  place_at at PmDone = λ j. cost_of PmDone + fetch_is at j
  place_at at (PmIn a) = λ j. cost_of (PmIn a) + fetch_is at j
  place_at at (PmOut a) = λ j. cost_of (PmOut a) + fetch_is at j

  -- the weights of instructions are those of a scope with these lines
  pub place_is : place_weight c ≡ scope_weight p lines (list_all (is_roomy p lines) touched)
  place_is = λ j at i. place_at at i j

  -- where all have room, places add nothing
  free_at : c.alone ≡ true → (at : ℕ) (i : Instr) → place_weight c at i ≡ cost_of i
  free_at alone at i = by_instr i where
    free : fetch_by c at ≡ 0
    free = fetch_is at ∙ ap (crowd_cost p) (is.alone alone (at / p.line))

    none : access_by c ≡ 0
    none = access_is ∙ ap (crowd_cost p) (all_true (is_roomy p lines) (is.alone alone) touched)

    by_instr : (x : Instr) → place_weight c at x ≡ cost_of x
    by_instr (Load op rd rs1 offset) = (λ j. cost_of (Load op rd rs1 offset) + free j + none j) ∙ none_twice (cost_of (Load op rd rs1 offset))
    by_instr (Store op rs1 rs2 offset) = (λ j. cost_of (Store op rs1 rs2 offset) + free j + none j) ∙ none_twice (cost_of (Store op rs1 rs2 offset))
    by_instr (Lui a b) = (λ j. cost_of (Lui a b) + free j) ∙ none_more (cost_of (Lui a b))
    by_instr (Auipc a b) = (λ j. cost_of (Auipc a b) + free j) ∙ none_more (cost_of (Auipc a b))
    by_instr (Jal a b) = (λ j. cost_of (Jal a b) + free j) ∙ none_more (cost_of (Jal a b))
    by_instr (Jalr a b d) = (λ j. cost_of (Jalr a b d) + free j) ∙ none_more (cost_of (Jalr a b d))
    by_instr (Branch o a b d) = (λ j. cost_of (Branch o a b d) + free j) ∙ none_more (cost_of (Branch o a b d))
    by_instr (OpImm o a b d) = (λ j. cost_of (OpImm o a b d) + free j) ∙ none_more (cost_of (OpImm o a b d))
    by_instr (Op o a b d) = (λ j. cost_of (Op o a b d) + free j) ∙ none_more (cost_of (Op o a b d))
    by_instr (MulDiv o a b d) = (λ j. cost_of (MulDiv o a b d) + free j) ∙ none_more (cost_of (MulDiv o a b d))
    by_instr (Fence a b) = (λ j. cost_of (Fence a b) + free j) ∙ none_more (cost_of (Fence a b))
    by_instr Ecall = (λ j. cost_of Ecall + free j) ∙ none_more (cost_of Ecall)
    by_instr Ebreak = (λ j. cost_of Ebreak + free j) ∙ none_more (cost_of Ebreak)
    by_instr PmMem = (λ j. cost_of PmMem + free j) ∙ none_more (cost_of PmMem)
    by_instr (PmExec a) = (λ j. cost_of (PmExec a) + free j) ∙ none_more (cost_of (PmExec a))
    by_instr PmEnd = (λ j. cost_of PmEnd + free j) ∙ none_more (cost_of PmEnd)
    by_instr PmDone = (λ j. cost_of PmDone + free j) ∙ none_more (cost_of PmDone)
    by_instr (PmIn a) = (λ j. cost_of (PmIn a) + free j) ∙ none_more (cost_of (PmIn a))
    by_instr (PmOut a) = (λ j. cost_of (PmOut a) + free j) ∙ none_more (cost_of (PmOut a))

  pub free_is : c.alone ≡ true → place_weight c ≡ (λ at i. cost_of i)
  free_is alone = λ j at i. free_at alone at i j
