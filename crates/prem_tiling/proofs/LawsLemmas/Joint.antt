-- Two outcomes that go wrong at one line, or give states that stand in a relation; and loops that keep it.
use Rattle.std.proofs.Common.{◌≡◌, ℕ, zero, suc, Bool, true, false, subst, Ok, Err}
use Rattle.prem_tiling.proofs.Prelude.{Outcome, and_then, ProgramState, choose, counting, bounded}

pub data Joint {A B : Type 0} (P : A → B → Type 0) : Outcome A → Outcome B → Type 0 where
  fine : {x : A} {y : B} → P x y → Joint P (Ok x) (Ok y)
  wrong : (line : ℕ) → Joint P (Err line) (Err line)

pub joint_then : {A B C D : Type 0} {P : A → B → Type 0} {Q : C → D → Type 0} {o : Outcome A} {o' : Outcome B} (f : A → Outcome C)
    (f' : B → Outcome D) → Joint P o o' → ((x : A) (y : B) → P x y → Joint Q (f x) (f' y)) → Joint Q (and_then o f) (and_then o' f')
joint_then f f' (fine p) go = go _ _ p
joint_then f f' (wrong line) go = wrong line

-- where the first outcomes are the same
pub same_then : {A C D : Type 0} {Q : C → D → Type 0} (o o' : Outcome A) (f : A → Outcome C) (f' : A → Outcome D) → o ≡ o' → ((x : A) → Joint Q (f x) (f' x)) → Joint Q (and_then o f) (and_then o' f')
same_then {Q = Q} o o' f f' same go = subst (λ r. Joint Q (and_then o f) (and_then r f')) same (by o)
  where
    by : (r : Outcome _) → Joint Q (and_then r f) (and_then r f')
    by (Ok x) = go x
    by (Err line) = wrong line

pub joint_mapped : {A B : Type 0} {P Q : A → B → Type 0} {o : Outcome A} {o' : Outcome B} → Joint P o o' → ((x : A) (y : B) → P x y → Q x y) → Joint Q o o'
joint_mapped (fine p) more = fine (more _ _ p)
joint_mapped (wrong line) more = wrong line

-- ---- loops

module _ (R : ProgramState → ProgramState → Type 0) (test test' : ProgramState → Outcome Bool) (turn turn' : ProgramState → Outcome ProgramState)
    (tests : (u v : ProgramState) → R u v → test u ≡ test' v) (turns : (u v : ProgramState) → R u v → Joint R (turn u) (turn' v)) where
  pub counting_joint : (line n : ℕ) (u v : ProgramState) → R u v → Joint R (counting line n test turn u) (counting line n test' turn' v)
  unfolding counting
  counting_joint line zero u v r = same_then (test u) (test' v) (λ go. choose go (λ t. Err line) Ok u) (λ go. choose go (λ t. Err line) Ok v) (tests u v r) by
    where
      by : (go : Bool) → Joint R (choose go (λ t. Err line) Ok u) (choose go (λ t. Err line) Ok v)
      by true = wrong line
      by false = fine r
  counting_joint line (suc n) u v r =
      same_then (test u) (test' v) (λ go. choose go (λ t. and_then (turn t) (counting line n test turn)) Ok u)
      (λ go. choose go (λ t. and_then (turn' t) (counting line n test' turn')) Ok v) (tests u v r) (by (λ x y. counting_joint line n x y))
    where
      by : ((x y : ProgramState) → R x y → Joint R (counting line n test turn x) (counting line n test' turn' y)) → (go : Bool) →
          Joint R (choose go (λ t. and_then (turn t) (counting line n test turn)) Ok u) (choose go (λ t. and_then (turn' t) (counting line n test' turn')) Ok v)
      by next true = joint_then (counting line n test turn) (counting line n test' turn') (turns u v r) next
      by next false = fine r

  pub bounded_joint : (n : ℕ) (u v : ProgramState) → R u v → Joint R (bounded n test turn u) (bounded n test' turn' v)
  unfolding bounded
  bounded_joint zero u v r = fine r
  bounded_joint (suc n) u v r =
      same_then (test u) (test' v) (λ go. choose go (λ t. and_then (turn t) (bounded n test turn)) Ok u)
      (λ go. choose go (λ t. and_then (turn' t) (bounded n test' turn')) Ok v) (tests u v r) (by (λ x y. bounded_joint n x y))
    where
      by : ((x y : ProgramState) → R x y → Joint R (bounded n test turn x) (bounded n test' turn' y)) → (go : Bool) →
          Joint R (choose go (λ t. and_then (turn t) (bounded n test turn)) Ok u) (choose go (λ t. and_then (turn' t) (bounded n test' turn')) Ok v)
      by next true = joint_then (bounded n test turn) (bounded n test' turn') (turns u v r) next
      by next false = fine r
