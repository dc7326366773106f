-- Whether instructions conform, as a test that is computed.
use Rattle.std.proofs.Common.{◌≡◌, ℕ, ◌+◌, ◌*◌, ◌/◌, ◌%◌, ◌<◌, ◌≤◌, refl, ap, ◌∙◌, sym, subst, arith, cond, eqb, leb, true, false, Bool, Some, None, Option, List, [], ◌∷◌, ◌++◌, append-nil}
use Rattle.std.proofs.Common.{length, IfSome, ⊎_elim}
use Rattle.std.specs.Prelude.{All, ◌&&◌}
use Rattle.prem_sound.proofs.Prelude.{is_predictable, AllOwn, IsFree, Setup, cost_of, Did, Access, Loads, Stores, Change, Stay, Memory, Execute, End, Job, Phase, Compatible, Execution}
use Rattle.prem_sound.proofs.Prelude.{in_head, in_other, is_in, AllIn, AreOnce, of_set, one_pass, HaveRoom, Plant, IsOwnDid, KeepsCalls, lines_of_did, lines_of_dids, cost_of_dids, Begun}
use Rattle.prem_sound.proofs.Prelude.{begun_after, Call, call_of, IsCovered, Opens, StoresNothing, IsStep, Script, mod-eq_of_lt, and_parts, cases_eq, eqb-true, eq-eqb, ne_eqb, le-leb}
use Rattle.prem_sound.proofs.Prelude.{leb-true, All-nil, All-cons}
use Rattle.prem_isa.specs.declared.effect.AccessKind.{AccessKind}
use Rattle.prem_isa.specs.declared.effect.Phase.TheVariants.{Memory as MemoryPhase}

-- ---- members

abbrev pub all_inside : List ℕ → List ℕ → Bool
all_inside c [] = true
all_inside c (x ∷ xs) = is_in x c && all_inside c xs

inside_all : (c xs : List ℕ) → all_inside c xs ≡ true → AllIn c xs
inside_all c [] h = tt
inside_all c (x ∷ xs) h =
    let a : (is_in x c ≡ true) × (all_inside c xs ≡ true) = and_parts (is_in x c) (all_inside c xs) h in (a.0, inside_all c xs a.1)

-- ---- a step of a call

abbrev pub is_load : AccessKind → Bool
is_load Loads = true
is_load Stores = false

abbrev pub loads_alone : Option Access → Bool
loads_alone None = true
loads_alone (Some a) = is_load a.kind

abbrev pub stores_nothing : Phase → Option Access → Bool
stores_nothing Compatible access = true
stores_nothing MemoryPhase access = loads_alone access
stores_nothing Execution access = true

a_load : (k : AccessKind) → is_load k ≡ true → k ≡ Loads
a_load Loads h = refl
a_load Stores h = absurd (let x : false ≡ true = h in cc)

stores_by : (ph : Phase) (access : Option Access) → stores_nothing ph access ≡ true → StoresNothing ph access
stores_by Compatible access h = tt
stores_by Execution access h = tt
stores_by MemoryPhase None h = tt
stores_by MemoryPhase (Some a) h = a_load a.kind h

abbrev pub opens_well : Plant → Call → List Did → Change → Bool
opens_well plant c before Stay = true
opens_well plant c before Memory = true
opens_well plant c before (Execute stated) = eqb stated c.stated && (all_inside c.members (lines_of_dids plant.line before) && all_inside (lines_of_dids plant.line before) c.members)
opens_well plant c before End = true
opens_well plant c before Job = true

-- one pass is a part of its own
one_covers : (members xs : List ℕ) → AllIn members xs → AllIn xs members → IsCovered 1 members xs
one_covers members xs h k = record {
  parts = xs ∷ [];
  later = [];
  touches_are = sym (append-nil xs) ∙ sym (append-nil (xs ++ []));
  count_is = refl;
  passes = (h, k, tt);
  within = tt;
}

opens_by : (plant : Plant) (c : Call) (before : List Did) (ch : Change) → opens_well plant c before ch ≡ true → Opens plant one_pass c before ch
opens_by plant c before Stay h = tt
opens_by plant c before Memory h = tt
opens_by plant c before End h = tt
opens_by plant c before Job h = tt
opens_by plant c before (Execute stated) h =
    let xs : List ℕ = lines_of_dids plant.line before in
    let a : (eqb stated c.stated ≡ true) × ((all_inside c.members xs && all_inside xs c.members) ≡ true) = and_parts (eqb stated c.stated) (all_inside c.members xs && all_inside xs c.members) h in
    let b : (all_inside c.members xs ≡ true) × (all_inside xs c.members ≡ true) = and_parts (all_inside c.members xs) (all_inside xs c.members) a.1 in
    (eqb-true stated c.stated a.0, one_covers c.members xs (inside_all c.members xs b.0) (inside_all xs c.members b.1))

abbrev pub is_step : Plant → Call → List Did → Did → Bool
is_step plant c before d =
    all_inside c.members (lines_of_did plant.line d)
    && (stores_nothing d.phase d.access
    && (opens_well plant c before d.change
    && leb (cost_of_dids before + cost_of d.instr + length c.members * (plant.fill + plant.back)) c.stated))

step_by : (plant : Plant) (c : Call) (before : List Did) (d : Did) → is_step plant c before d ≡ true → IsStep plant one_pass c before d
step_by plant c before d h =
    let total : ℕ = cost_of_dids before + cost_of d.instr + length c.members * (plant.fill + plant.back) in
    let x : (all_inside c.members (lines_of_did plant.line d) ≡ true) × ((stores_nothing d.phase d.access && (opens_well plant c before d.change && leb total c.stated)) ≡ true) =
    and_parts (all_inside c.members (lines_of_did plant.line d)) (stores_nothing d.phase d.access && (opens_well plant c before d.change && leb total c.stated)) h in
    let y : (stores_nothing d.phase d.access ≡ true) × ((opens_well plant c before d.change && leb total c.stated) ≡ true) =
    and_parts (stores_nothing d.phase d.access) (opens_well plant c before d.change && leb total c.stated) x.1 in
    let z : (opens_well plant c before d.change ≡ true) × (leb total c.stated ≡ true) = and_parts (opens_well plant c before d.change) (leb total c.stated) y.1 in
    record {
      within = inside_all c.members (lines_of_did plant.line d) x.0;
      stores = stores_by d.phase d.access y.0;
      opens = opens_by plant c before d.change z.0;
      fits = leb-true total c.stated z.1;
    }

-- ---- all steps

abbrev pub keeps_calls : Plant → Script → Begun → List Did → Bool
keeps_calls plant s b [] = true
keeps_calls plant s b (d ∷ ds) = cond (is_predictable d.phase) (is_step plant (call_of s b) b.steps d) true && keeps_calls plant s (begun_after d.change d b) ds

pub keeps_by : (plant : Plant) (s : Script) (b : Begun) (ds : List Did) → keeps_calls plant s b ds ≡ true → KeepsCalls plant one_pass s b ds
keeps_by plant s b [] h = tt
keeps_by plant s b (d ∷ ds) h =
    let here : Bool = cond (is_predictable d.phase) (is_step plant (call_of s b) b.steps d) true in
    let a : (here ≡ true) × (keeps_calls plant s (begun_after d.change d b) ds ≡ true) = and_parts here (keeps_calls plant s (begun_after d.change d b) ds) h in (
      (λ p. step_by plant (call_of s b) b.steps d (sym (ap (λ c. cond c (is_step plant (call_of s b) b.steps d) true) p) ∙ a.0)),
      keeps_by plant s (begun_after d.change d b) ds a.1,
    )

-- ---- own bytes, where no device is

abbrev pub data_below : ℕ → Option Access → Bool
data_below size None = true
data_below size (Some a) = leb (a.address + a.size) size

abbrev pub is_below : ℕ → Did → Bool
is_below size d = leb (d.pc + 4) size && data_below size d.access

-- the bytes below a size are own
abbrev pub below : ℕ → ℕ → Bool
below size a = leb (a + 1) size

own_below : (size a n : ℕ) → a + n ≤ size → AllOwn (below size) a n
own_below size a n le k lt = le-leb (a + k + 1) size (omega (arith, le, lt))

data_by : (size : ℕ) (access : Option Access) → data_below size access ≡ true → IfSome access (λ a. AllOwn (below size) a.address a.size)
data_by size None h = tt
data_by size (Some a) h = own_below size a.address a.size (leb-true (a.address + a.size) size h)

no_device_line : (p : Setup) (access : Option Access) → p.devices ≡ [] → IfSome access (λ a. IsFree p (a.address / p.plant.line))
no_device_line p None e = tt
no_device_line p (Some a) e = λ d j lt. absurd (omega (arith, lt, ap length e))

own_by : (p : Setup) (size : ℕ) (d : Did) → p.devices ≡ [] → is_below size d ≡ true → IsOwnDid p (below size) d
own_by p size d none h =
    let a : (leb (d.pc + 4) size ≡ true) × (data_below size d.access ≡ true) = and_parts (leb (d.pc + 4) size) (data_below size d.access) h in
    record {
      fetched = own_below size d.pc 4 (leb-true (d.pc + 4) size a.0);
      accessed = λ _. data_by size d.access a.1;
      fetch_line = λ i j lt. absurd (omega (arith, lt, ap length none));
      data_line = no_device_line p d.access none;
    }

abbrev pub are_below : ℕ → List Did → Bool
are_below size [] = true
are_below size (d ∷ ds) = is_below size d && are_below size ds

pub owns_by : (p : Setup) (size : ℕ) (ds : List Did) → p.devices ≡ [] → are_below size ds ≡ true → All (IsOwnDid p (below size)) ds
owns_by p size [] none h = All-nil (IsOwnDid p (below size))
owns_by p size (d ∷ ds) none h =
    let a : (is_below size d ≡ true) × (are_below size ds ≡ true) = and_parts (is_below size d) (are_below size ds) h in
    All-cons (IsOwnDid p (below size)) d ds (own_by p size d none a.0) (owns_by p size ds none a.1)

-- ---- lines without conflict

-- below the number of sets, each once: at most one in each set
abbrev pub all_below : ℕ → List ℕ → Bool
all_below n [] = true
all_below n (x ∷ xs) = leb (x + 1) n && all_below n xs

none_of_set : (n i : ℕ) (xs : List ℕ) → is_in i xs ≡ false → all_below n xs ≡ true → of_set n i xs ≡ []
none_of_set n i [] out h = refl
none_of_set n i (x ∷ xs) out h =
    let a : (leb (x + 1) n ≡ true) × (all_below n xs ≡ true) = and_parts (leb (x + 1) n) (all_below n xs) h in
    let lt : x < n = let y : x + 1 ≤ n = leb-true (x + 1) n a.0 in omega arith in
    let ne : x ≡ i → ⊥ = (λ e. let y : true ≡ false = sym (in_head i x xs e) ∙ out in cc) in
    let same : x % n ≡ x = mod-eq_of_lt lt in
    ap (λ b. cond b (x ∷ of_set n i xs) (of_set n i xs)) (ne_eqb (x % n) i (λ e. ne (sym same ∙ e)))
    ∙ none_of_set n i xs (sym (in_other i x xs ne) ∙ out) a.1

pub no_conflict : (n room : ℕ) (xs : List ℕ) → 1 ≤ room → AreOnce xs → all_below n xs ≡ true → HaveRoom n room xs
no_conflict n room [] some once h i = omega (arith, some)
no_conflict n room (x ∷ xs) some once h i =
    let a : (leb (x + 1) n ≡ true) × (all_below n xs ≡ true) = and_parts (leb (x + 1) n) (all_below n xs) h in
    let lt : x < n = let y : x + 1 ≤ n = leb-true (x + 1) n a.0 in omega arith in
    let same : x % n ≡ x = mod-eq_of_lt lt in
    ⊎_elim (λ (e : x ≡ i).
    let none : of_set n i xs ≡ [] = none_of_set n i xs (subst (λ y. is_in y xs ≡ false) e once.0) a.1 in
    let is : of_set n i (x ∷ xs) ≡ x ∷ [] = ap (λ b. cond b (x ∷ of_set n i xs) (of_set n i xs)) (eq-eqb (x % n) i (same ∙ e)) ∙ ap (λ ys. x ∷ ys) none in
    subst (λ ys. length ys ≤ room) (sym is) (omega (arith, some)))
    (λ (ne : x ≡ i → ⊥).
    let is : of_set n i (x ∷ xs) ≡ of_set n i xs = ap (λ b. cond b (x ∷ of_set n i xs) (of_set n i xs)) (ne_eqb (x % n) i (λ e. ne (sym same ∙ e))) in
    subst (λ ys. length ys ≤ room) (sym is) (no_conflict n room xs some once.1 a.1 i))
    (cases_eq x i)
