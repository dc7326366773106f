-- The four sums of a loop at once are those of its turns one after another.
use Rattle.std.proofs.Common.{◌≡◌, ℕ, zero, suc, ◌+◌, ◌-◌, ◌*◌, ◌≤◌, max, refl, ap, ◌∙◌, sym, subst, arith, Option, Some, None}
use Rattle.prem_layout.specs.Stretch.Sums.{Sums, both, most, or_none, turned}
use Rattle.prem_layout.proofs.StretchLemmas.Algebra.{both_most, same_sums, same_code, code_most}
use Rattle.prem_bounds.specs.Turns.{repeated, again, before_turns, between_turns, behind_turns, looped}

-- ---- sums that may not be there, as numbers: one more than the sum, or 0

abbrev code : Option ℕ → ℕ
code None = 0
code (Some a) = suc a

-- ---- sums behind turns

none_repeated : (whole sum : Option ℕ) → repeated 0 whole sum ≡ sum
none_repeated whole None = refl
none_repeated whole (Some a) = let e : 0 * or_none whole + a ≡ a = omega arith in ap (λ n. Some n) e

one_more : (turns : ℕ) (whole sum : Option ℕ) → most (both whole (repeated turns whole sum)) sum ≡ repeated (suc turns) whole sum
one_more turns None None = refl
one_more turns None (Some s) = let e : s ≡ suc turns * 0 + s = omega arith in ap (λ n. Some n) e
one_more turns (Some a) None = refl
one_more turns (Some a) (Some s) = let e : max (a + (turns * a + s)) s ≡ suc turns * a + s = omega arith in ap (λ n. Some n) e

-- behind one more turn a sum is no less
more_behind : (behind : Option ℕ) (turns : ℕ) (whole sum : Option ℕ) → code (both behind (repeated turns whole sum)) ≤ code (both behind (repeated (suc turns) whole sum))
more_behind None turns whole sum = omega arith
more_behind (Some b) turns whole None = omega arith
more_behind (Some b) turns whole (Some s) = by (or_none whole) where
  by : (a : ℕ) → suc (b + (turns * a + s)) ≤ suc (b + (suc turns * a + s))
  by a = omega arith

again_less : (turns : ℕ) (turn : Sums) → code (again (suc turns) turn) ≤ code (again (suc (suc turns)) turn)
again_less zero turn = omega arith
again_less (suc turns) turn = more_behind turn.behind turns turn.whole turn.before

-- ---- the greater of several

arranged : (p a b q : Option ℕ) → most (most p (most a b)) q ≡ most (most a p) (most b q)
arranged p a b q =
    same_code _ _ (omega (arith, code_most (most p (most a b)) q, code_most p (most a b), code_most a b, code_most (most a p) (most b q), code_most a p, code_most b q))

first_between : (t o k : Option ℕ) → most (most (most t o) k) o ≡ most (most t o) k
first_between t o k = same_code _ _ (omega (arith, code_most (most (most t o) k) o, code_most (most t o) k, code_most t o))

first_behind : (o k : Option ℕ) → most (most o k) o ≡ most o k
first_behind o k = same_code _ _ (omega (arith, code_most (most o k) o, code_most o k))

more_behinds : (o k l : Option ℕ) → code k ≤ code l → most (most (most o k) l) o ≡ most o l
more_behinds o k l le = same_code _ _ (omega (arith, le, code_most (most (most o k) l) o, code_most (most o k) l, code_most o k, code_most o l))

more_betweens : (t o g p k l : Option ℕ) → code g ≤ code p → code k ≤ code l → most (most (most t (most (most t o) (most g k))) (most p l)) o ≡ most (most t o) (most p l)
more_betweens t o g p k l gp kl =
    let y : Option ℕ = most (most t o) (most g k) in
    let z : Option ℕ = most p l in
    let w : Option ℕ = most (most t o) z in
    let gk : code (most g k) ≤ code z = omega (arith, gp, kl, code_most g k, code_most p l) in
    let le : code y ≤ code w = omega (arith, gk, code_most (most t o) (most g k), code_most (most t o) z) in
    same_code _ _ (omega (arith, le, code_most (most (most t y) z) o, code_most (most t y) z, code_most t y, code_most (most t o) z, code_most t o))

-- ---- loops

whole_is : (turns : ℕ) (turn out : Sums) → (turned turns turn out).whole ≡ repeated turns turn.whole out.whole
unfolding turned
whole_is zero turn out = sym (none_repeated turn.whole out.whole)
whole_is (suc turns) turn out = ap (λ x. most (both turn.whole x) out.whole) (whole_is turns turn out) ∙ one_more turns turn.whole out.whole

before_is : (rest : ℕ) (turn out : Sums) → (turned (suc rest) turn out).before ≡ before_turns rest (suc rest) turn out
unfolding turned
before_is zero turn out =
    let a : Option ℕ = turn.before in
    let b : Option ℕ = out.before in
    ap (λ x. most (most a (both turn.whole x)) b) (sym (none_repeated turn.whole b))
    ∙ most_assoc a (both turn.whole (repeated 0 turn.whole b)) b
    ∙ ap (most a) (one_more 0 turn.whole b)
    ∙ ap (λ x. most x (repeated 1 turn.whole b)) (sym (none_repeated turn.whole a)) where
      most_assoc : (a b c : Option ℕ) → most (most a b) c ≡ most a (most b c)
      most_assoc a b c = same_code _ _ (omega (arith, code_most (most a b) c, code_most a b, code_most a (most b c), code_most b c))
before_is (suc rest) turn out =
    let a : Option ℕ = turn.before in
    let b : Option ℕ = out.before in
    let w : Option ℕ = turn.whole in
    ap (λ x. most (most a (both w x)) b) (before_is rest turn out)
    ∙ ap (λ x. most (most a x) b) (both_most w (repeated rest w a) (repeated (suc rest) w b))
    ∙ arranged a (both w (repeated rest w a)) (both w (repeated (suc rest) w b)) b
    ∙ ap (λ x. most x (most (both w (repeated (suc rest) w b)) b)) (one_more rest w a)
    ∙ ap (most (repeated (suc rest) w a)) (one_more (suc rest) w b)

behind_is : (rest : ℕ) (turn out : Sums) → (turned (suc rest) turn out).behind ≡ behind_turns rest turn out
unfolding turned
behind_is zero turn out =
    ap (λ x. most (most out.behind (both turn.behind x)) out.behind) (sym (none_repeated turn.whole out.whole))
    ∙ first_behind out.behind (both turn.behind (repeated 0 turn.whole out.whole))
behind_is (suc rest) turn out =
    ap (λ x. most (most x (both turn.behind (turned (suc rest) turn out).whole)) out.behind) (behind_is rest turn out)
    ∙ ap (λ x. most (most (behind_turns rest turn out) (both turn.behind x)) out.behind) (whole_is (suc rest) turn out)
    ∙ more_behinds out.behind (both turn.behind (repeated rest turn.whole out.whole)) (both turn.behind (repeated (suc rest) turn.whole out.whole)) (more_behind turn.behind rest turn.whole out.whole)

between_is : (rest : ℕ) (turn out : Sums) → (turned (suc rest) turn out).between ≡ between_turns rest (suc rest) turn out
unfolding turned
between_is zero turn out =
    first_between turn.between out.between (both turn.behind out.before)
    ∙ ap (λ x. most (most turn.between out.between) (both turn.behind x)) (sym (none_repeated turn.whole out.before))
between_is (suc rest) turn out =
    let w : Option ℕ = turn.whole in
    let h : Option ℕ = turn.behind in
    ap (λ x. most (most (most turn.between x) (both h (turned (suc rest) turn out).before)) out.between) (between_is rest turn out)
    ∙ ap (λ x. most (most (most turn.between (between_turns rest (suc rest) turn out)) (both h x)) out.between) (before_is rest turn out)
    ∙ ap (λ x. most (most (most turn.between (between_turns rest (suc rest) turn out)) x) out.between) (both_most h (repeated rest w turn.before) (repeated (suc rest) w out.before))
    ∙ more_betweens turn.between out.between (again (suc rest) turn) (both h (repeated rest w turn.before)) (both h (repeated rest w out.before)) (both h (repeated (suc rest) w out.before))
    (again_less rest turn) (more_behind h rest w out.before)

pub turns_are : (rest : ℕ) (turn out : Sums) → turned (suc rest) turn out ≡ looped rest (suc rest) turn out
turns_are rest turn out = same_sums _ _ (whole_is (suc rest) turn out) (before_is rest turn out) (between_is rest turn out) (behind_is rest turn out)

pub no_turns : (turns : ℕ) (turn out : Sums) → turns ≡ 0 → out ≡ turned turns turn out
unfolding turned
no_turns turns turn out e = ap (λ n. turned n turn out) (sym e)

pub turns_at : (turns : ℕ) (turn out : Sums) → 1 ≤ turns → looped (turns - 1) turns turn out ≡ turned turns turn out
turns_at turns turn out some =
    let e : suc (turns - 1) ≡ turns = omega (arith, some) in
    subst (λ n. looped (turns - 1) n turn out ≡ turned n turn out) e (sym (turns_are (turns - 1) turn out))
