-- Outcomes in sequence and in loops: one relation says that a run is right, that two runs are the same, and where a run goes wrong.
use Rattle.std.proofs.Common.{◌≡◌, ℕ, zero, suc, Bool, true, false, refl, subst, Ok, Err}
use Rattle.prem_ranges.proofs.Prelude.{Ends, gives, wrong, Outcome, and_then, ProgramState, choose, counting, bounded}

pub ends_then : {A B : Type 0} {P : A → Type 0} {Q : B → Type 0} {W : ℕ → Type 0} {o o' : Outcome A} {f f' : A → Outcome B} →
    Ends P W o o' → ((x : A) → P x → Ends Q W (f x) (f' x)) → Ends Q W (and_then o f) (and_then o' f')
ends_then (gives {x = x} p) go = go x p
ends_then (wrong w) go = wrong w

pub ends_mapped : {A : Type 0} {P Q : A → Type 0} {W : ℕ → Type 0} {o o' : Outcome A} → Ends P W o o' → ((x : A) → P x → Q x) → Ends Q W o o'
ends_mapped (gives {x = x} p) more = gives (more x p)
ends_mapped (wrong w) more = wrong w

pub ends_same : {A : Type 0} {P : A → Type 0} {W : ℕ → Type 0} {o o' : Outcome A} → Ends P W o o' → o ≡ o'
ends_same (gives p) = refl
ends_same (wrong w) = refl

pub ends_blame : {A : Type 0} {P : A → Type 0} {W : ℕ → Type 0} {o o' : Outcome A} → Ends P W o o' → (line : ℕ) → o ≡ Err line → W line
ends_blame (gives p) line e = cc
ends_blame {W = W} (wrong {line = l} w) line e = let same : l ≡ line = cc in subst W same w

-- one outcome twice, of which so much is known
pub ends_known : {A : Type 0} {P : A → Type 0} {W : ℕ → Type 0} (o : Outcome A) → ((x : A) → o ≡ Ok x → P x) → ((line : ℕ) → o ≡ Err line → W line) → Ends P W o o
ends_known (Ok x) fact blame = gives (fact x refl)
ends_known (Err line) fact blame = wrong (blame line refl)

-- an outcome that is there
pub given : {A : Type 0} {P : A → Type 0} {o o' : Outcome A} → Ends P (λ line. ⊥) o o' → (x : A) × (o ≡ Ok x) × P x
given (gives {x = x} p) = (x, refl, p)
given (wrong w) = absurd w

-- where the next step needs what the first one gave
pub ends_with : {A B : Type 0} {P : A → Type 0} {Q : B → Type 0} {W : ℕ → Type 0} {o o' : Outcome A} {f f' : A → Outcome B} →
    Ends P W o o' → ((x : A) → o ≡ Ok x → P x → Ends Q W (f x) (f' x)) → Ends Q W (and_then o f) (and_then o' f')
ends_with (gives {x = x} p) go = go x refl p
ends_with (wrong w) go = wrong w

-- an outcome of which nothing is known
pub record Any {A : Type 0} (x : A) : Type 0 where

pub ends_any : {A : Type 0} (o : Outcome A) → Ends Any Any o o
ends_any o = ends_known o (λ x e. record {}) (λ line e. record {})

pub nothing_known : {A : Type 0} {W : ℕ → Type 0} {x : A} → Ends Any W (Ok x) (Ok x)
nothing_known = gives (record {})

-- ---- arms and loops

pub choose_ends : {P : ProgramState → Type 0} {W : ℕ → Type 0} (go : Bool) (f f' g g' : ProgramState → Outcome ProgramState) {t : ProgramState} →
    (go ≡ true → Ends P W (f t) (f' t)) → (go ≡ false → Ends P W (g t) (g' t)) → Ends P W (choose go f g t) (choose go f' g' t)
choose_ends true f f' g g' one two = one refl
choose_ends false f f' g g' one two = two refl

-- two loops that go on, with so many turns left: both have one, or the line of both is to blame
abbrev pub Goes : (ℕ → ℕ → ProgramState → Type 0) → (ℕ → Type 0) → ℕ → Outcome ProgramState → Outcome ProgramState → ℕ → ℕ → Type 0
Goes keeps W line o o' zero zero = W line
Goes keeps W line o o' (suc n) (suc m) = Ends (keeps n m) W o o'
Goes keeps W line o o' n m = ⊥

-- what a test tells: how the loop goes on, or what holds behind it
pub record Turns (on behind : Type 0) (go : Bool) : Type 0 where
  pub more : go ≡ true → on
  pub done : go ≡ false → behind

-- two loops, as far as an invariant of the turns that each has left leads
pub counting_ends : {ends : ProgramState → Type 0} {W : ℕ → Type 0} {test : ProgramState → Outcome Bool} {turn turn' : ProgramState → Outcome ProgramState}
    (line : ℕ) (keeps : ℕ → ℕ → ProgramState → Type 0) →
    ((n m : ℕ) (t : ProgramState) → keeps n m t → Ends (Turns (Goes keeps W line (turn t) (turn' t) n m) (ends t)) W (test t) (test t)) →
    (n m : ℕ) (t : ProgramState) → keeps n m t → Ends ends W (counting line n test turn t) (counting line m test turn' t)
unfolding counting
counting_ends line keeps each zero zero t now = ends_then (each zero zero t now) (λ go next. choose_ends go _ _ _ _ (λ e. wrong (next.more e)) (λ e. gives (next.done e)))
counting_ends line keeps each zero (suc m) t now = ends_then (each zero (suc m) t now) (λ go next. choose_ends go _ _ _ _ (λ e. absurd (next.more e)) (λ e. gives (next.done e)))
counting_ends line keeps each (suc n) zero t now = ends_then (each (suc n) zero t now) (λ go next. choose_ends go _ _ _ _ (λ e. absurd (next.more e)) (λ e. gives (next.done e)))
counting_ends line keeps each (suc n) (suc m) t now = ends_then (each (suc n) (suc m) t now)
    (λ go next. choose_ends go _ _ _ _ (λ e. ends_then (next.more e) (λ u kept. counting_ends line keeps each n m u kept)) (λ e. gives (next.done e)))

-- two loops with the same turns
pub kept_ends : {P : ProgramState → Type 0} {W : ℕ → Type 0} {test : ProgramState → Outcome Bool} {turn turn' : ProgramState → Outcome ProgramState} (line : ℕ) → W line →
    ((t : ProgramState) → P t → Ends (λ go. go ≡ true → Ends P W (turn t) (turn' t)) W (test t) (test t)) →
    (n : ℕ) (t : ProgramState) → P t → Ends P W (counting line n test turn t) (counting line n test turn' t)
unfolding counting
kept_ends line w one zero t now = ends_then (one t now) (λ go next. choose_ends go _ _ _ _ (λ e. wrong w) (λ e. gives now))
kept_ends line w one (suc n) t now = ends_then (one t now) (λ go next. choose_ends go _ _ _ _ (λ e. ends_then (next e) (λ u kept. kept_ends line w one n u kept)) (λ e. gives now))

pub bounded_ends : {P : ProgramState → Type 0} {W : ℕ → Type 0} {test : ProgramState → Outcome Bool} {turn turn' : ProgramState → Outcome ProgramState} →
    ((t : ProgramState) → P t → Ends (λ go. go ≡ true → Ends P W (turn t) (turn' t)) W (test t) (test t)) →
    (n : ℕ) (t : ProgramState) → P t → Ends P W (bounded n test turn t) (bounded n test turn' t)
unfolding bounded
bounded_ends one zero t now = gives now
bounded_ends one (suc n) t now = ends_then (one t now) (λ go next. choose_ends go _ _ _ _ (λ e. ends_then (next e) (λ u kept. bounded_ends one n u kept)) (λ e. gives now))
