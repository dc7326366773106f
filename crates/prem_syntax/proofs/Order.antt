-- The first breach of parts is the first of the whole, for each group of rules.
use Rattle.std.proofs.Common.{◌≡◌, ℕ, nat_lt, ◌==◌, Bool, true, false, ◌&&◌, ◌||◌, if◌then◌else◌, List, [], ◌∷◌, ◌++◌, Option, None, Some, refl, ap, ◌∙◌, sym, arith}
use Rattle.std.proofs.lemmas.Bool.Decides.{nat_tests}
use Rattle.prem_syntax.specs.declared.tree.Place.{Place}
use Rattle.prem_syntax.specs.Order.{Standing, less, key_of, stands_before, first_by, first_of_by}

-- four numbers
abbrev row : ℕ → ℕ → ℕ → ℕ → List ℕ
row a b c d = a ∷ b ∷ c ∷ d ∷ []

step : (x y z : ℕ) (p q r : Bool) → (p ≡ true → q ≡ true → r ≡ true) →
    (nat_lt x y || (x == y && p)) ≡ true → (nat_lt y z || (y == z && q)) ≡ true → (nat_lt x z || (x == z && r)) ≡ true
step x y z true true true h = grind (arith, nat_tests)
step x y z true true false h = λ s t. grind (arith, nat_tests, (h refl refl))
step x y z true false r h = grind (arith, nat_tests)
step x y z false q r h = grind (arith, nat_tests)

back : (x y z : ℕ) (p q r : Bool) → (p ≡ false → q ≡ false → r ≡ false) →
    (nat_lt x y || (x == y && p)) ≡ false → (nat_lt y z || (y == z && q)) ≡ false → (nat_lt x z || (x == z && r)) ≡ false
back x y z false false false h = grind (arith, nat_tests)
back x y z false false true h = λ s t. grind (arith, nat_tests, (h refl refl))
back x y z false true r h = grind (arith, nat_tests)
back x y z true q r h = grind (arith, nat_tests)

rows_pass : (a b c d e f g h i j k l : ℕ) → less (row a b c d) (row e f g h) ≡ true → less (row e f g h) (row i j k l) ≡ true → less (row a b c d) (row i j k l) ≡ true
rows_pass a b c d e f g h i j k l = step a e i _ _ _ (step b f j _ _ _ (step c g k _ _ _ (step d h l false false false (λ s t. s))))

rows_stay : (a b c d e f g h i j k l : ℕ) → less (row a b c d) (row e f g h) ≡ false → less (row e f g h) (row i j k l) ≡ false → less (row a b c d) (row i j k l) ≡ false
rows_stay a b c d e f g h i j k l = back a e i _ _ _ (back b f j _ _ _ (back c g k _ _ _ (back d h l false false false (λ s t. s))))

abbrev kind_at : Option Place → ℕ
kind_at None = 0
kind_at (Some at) = 1

abbrev line_at : Option Place → ℕ
line_at None = 0
line_at (Some at) = at.line

abbrev col_at : Option Place → ℕ
col_at None = 0
col_at (Some at) = at.col

abbrev row_of : Standing → List ℕ
row_of s = row (kind_at s.at) (line_at s.at) (col_at s.at) s.rank

key_is : (at : Option Place) (rank : ℕ) → key_of at rank ≡ row (kind_at at) (line_at at) (col_at at) rank
key_is None rank = refl
key_is (Some at) rank = refl

before_is : (a b : Standing) → stands_before a b ≡ less (row_of a) (row_of b)
before_is a b = ap (λ k. less k (key_of b.at b.rank)) (key_is a.at a.rank) ∙ ap (less (row_of a)) (key_is b.at b.rank)

passes : (a b c : Standing) → stands_before a b ≡ true → stands_before b c ≡ true → stands_before a c ≡ true
passes a b c s t =
    before_is a c
    ∙ rows_pass (kind_at a.at) (line_at a.at) (col_at a.at) a.rank (kind_at b.at) (line_at b.at) (col_at b.at) b.rank (kind_at c.at) (line_at c.at)
    (col_at c.at) c.rank (sym (before_is a b) ∙ s) (sym (before_is b c) ∙ t)

stays : (a b c : Standing) → stands_before a b ≡ false → stands_before b c ≡ false → stands_before a c ≡ false
stays a b c s t =
    before_is a c
    ∙ rows_stay (kind_at a.at) (line_at a.at) (col_at a.at) a.rank (kind_at b.at) (line_at b.at) (col_at b.at) b.rank (kind_at c.at) (line_at c.at)
    (col_at c.at) c.rank (sym (before_is a b) ∙ s) (sym (before_is b c) ∙ t)

choose : {B : Type 0} (a b c : Option B) (ba cb ca : Bool) → (cb ≡ true → ba ≡ true → ca ≡ true) → (cb ≡ false → ba ≡ false → ca ≡ false) →
    (if ba then (if cb then c else b) else (if ca then c else a)) ≡ (if cb then (if ca then c else a) else (if ba then b else a))
choose a b c true true ca h k = ap (λ x. if x then c else a) (sym (h refl refl))
choose a b c true false ca h k = refl
choose a b c false true ca h k = refl
choose a b c false false ca h k = ap (λ x. if x then c else a) (k refl refl)

left : {B : Type 0} (standing : B → Standing) (t : Bool) (a b c : Option B) → first_by standing (if t then b else a) c ≡ (if t then first_by standing b c else first_by standing a c)
left standing true a b c = refl
left standing false a b c = refl

right : {B : Type 0} (standing : B → Standing) (t : Bool) (a b c : Option B) → first_by standing a (if t then c else b) ≡ (if t then first_by standing a c else first_by standing a b)
right standing true a b c = refl
right standing false a b c = refl

pub first_by_none : {B : Type 0} (standing : B → Standing) (a : Option B) → first_by standing a None ≡ a
first_by_none standing None = refl
first_by_none standing (Some a) = refl

pub first_by_assoc : {B : Type 0} (standing : B → Standing) (a b c : Option B) → first_by standing (first_by standing a b) c ≡ first_by standing a (first_by standing b c)
first_by_assoc standing None b c = refl
first_by_assoc standing (Some a) None c = refl
first_by_assoc standing (Some a) (Some b) None = first_by_none standing (first_by standing (Some a) (Some b))
first_by_assoc standing (Some a) (Some b) (Some c) =
    let ba = stands_before (standing b) (standing a) in
    let cb = stands_before (standing c) (standing b) in
    let ca = stands_before (standing c) (standing a) in
    left standing ba (Some a) (Some b) (Some c) ∙ choose (Some a) (Some b) (Some c) ba cb ca (passes (standing c) (standing b) (standing a)) (stays (standing c) (standing b) (standing a))
    ∙ sym (right standing cb (Some a) (Some b) (Some c))

-- the first of two lists, one behind the other
pub first_of_by_append : {B : Type 0} (standing : B → Standing) (xs ys : List B) → first_of_by standing (xs ++ ys) ≡ first_by standing (first_of_by standing xs) (first_of_by standing ys)
first_of_by_append standing [] ys = refl
first_of_by_append standing (x ∷ xs) ys =
    ap (first_by standing (Some x)) (first_of_by_append standing xs ys) ∙ sym (first_by_assoc standing (Some x) (first_of_by standing xs) (first_of_by standing ys))
