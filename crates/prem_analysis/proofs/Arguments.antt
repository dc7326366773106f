-- Arguments, one after the other.
use Rattle.std.proofs.Common.{◌≡◌, ℕ, zero, suc, ◌+◌, ◌<◌, ◌≤◌, List, [], ◌∷◌, ◌++◌, map, drop, length, get_or, Option, refl, ap, sym, ◌∙◌, arith}
use Rattle.prem_analysis.proofs.Prelude.{in_given, items_of, first_assoc, first_of_append, Environment, Site, in_term, in_arguments, parameters_of, RangeBreach, first, first_of, Term}
use Rattle.prem_analysis.proofs.Prelude.{parameter_of, Param, Place, term_of, loops_of, routines_of, Routine as RoutineTree, drop_more, option_map, slice_get}
use Rattle.prem_tree.specs.declared.resolve.resolved.Term.{Term as TermTree}
use Rattle.std.specs.Prelude.{Some, None}

-- the parameters from a number on
given_at : (at : Place) (site : Site) (env : Environment) (t : Term) (ts : List Term) (ps : List Param) (i : ℕ) →
    in_arguments at site env (t ∷ ts) (map parameter_of (drop i ps)) ≡ in_given at env t (option_map parameter_of (slice_get ps i))
    ++ in_term site env t ++ in_arguments at site env ts (map parameter_of (drop (suc i) ps))
given_at at site env t ts [] zero = refl
given_at at site env t ts [] (suc i) = refl
given_at at site env t ts (p ∷ ps) zero = refl
given_at at site env t ts (p ∷ ps) (suc i) = given_at at site env t ts ps i

given_next : (at : Place) (site : Site) (env : Environment) (t : Term) (ts : List Term) (ps : List Param) (i : ℕ) →
    in_arguments at site env (t ∷ ts) (map parameter_of (drop i ps)) ≡ in_given at env t (option_map parameter_of (slice_get ps i))
    ++ in_term site env t ++ in_arguments at site env ts (map parameter_of (drop (i + 1) ps))
given_next at site env t ts ps i = let n : suc i ≡ i + 1 = omega arith in given_at at site env t ts ps i
    ∙ ap (λ k. in_given at env t (option_map parameter_of (slice_get ps i)) ++ in_term site env t
    ++ in_arguments at site env ts (map parameter_of (drop k ps))) n

three : (o : Option RangeBreach) (a b c : List RangeBreach) → first (first (first o (first_of a)) (first_of b)) (first_of c) ≡ first o (first_of (a ++ b ++ c))
three o a b c =
    first_assoc (first o (first_of a)) (first_of b) (first_of c) ∙ first_assoc o (first_of a) (first (first_of b) (first_of c))
    ∙ ap (first o) (sym (first_assoc (first_of a) (first_of b) (first_of c)) ∙ ap (λ x. first x (first_of c)) (sym (first_of_append a b)) ∙ sym (first_of_append (a ++ b) c))

pub next_argument : (at : Place) (site : Site) (env : Environment) (es : List TermTree) (ps : List Param) (i : ℕ) (e : TermTree) (o : Option RangeBreach) → i < length es → e ≡ get_or es i e →
    first (first (first o (first_of (in_given at env (term_of e) (option_map parameter_of (slice_get ps i)))))
    (first_of (in_term site env (term_of e)))) (first_of (in_arguments at site env (map term_of (drop (i + 1) es)) (map parameter_of (drop (i + 1) ps))))
    ≡ first o (first_of (in_arguments at site env (map term_of (drop i es)) (map parameter_of (drop i ps))))
next_argument at site env es ps i e o inside is =
    let all : drop i es ≡ e ∷ drop (i + 1) es = drop_more es i e inside ∙ ap (λ x. x ∷ drop (i + 1) es) (sym is) in
    three o (in_given at env (term_of e) (option_map parameter_of (slice_get ps i))) (in_term site env (term_of e))
    (in_arguments at site env (map term_of (drop (i + 1) es)) (map parameter_of (drop (i + 1) ps)))
    ∙ ap (λ l. first o (first_of l)) (sym (given_next at site env (term_of e) (map term_of (drop (i + 1) es)) ps i))
    ∙ ap (λ (l : List TermTree). first o (first_of (in_arguments at site env (map term_of l) (map parameter_of (drop i ps))))) (sym all)

-- the parameters of a routine in memory
pub parameters_some : (t : ℕ → ℕ) (n : ℕ) (rs : List RoutineTree) (f : ℕ) (r : RoutineTree) → slice_get rs f ≡ Some r →
    map parameter_of (items_of r.text.now.params) ≡ parameters_of (slice_get (routines_of t n rs) f)
parameters_some t n [] f r is = cc
parameters_some t n (q ∷ qs) zero r is = let same : q ≡ r = cc in ap (λ (x : RoutineTree). map parameter_of (items_of x.text.now.params)) (sym same)
parameters_some t n (q ∷ qs) (suc f) r is = parameters_some t (n + loops_of q.body) qs f r is

pub parameters_none : (t : ℕ → ℕ) (n : ℕ) (rs : List RoutineTree) (f : ℕ) → slice_get rs f ≡ None → parameters_of (slice_get (routines_of t n rs) f) ≡ []
parameters_none t n [] f is = refl
parameters_none t n (q ∷ qs) zero is = cc
parameters_none t n (q ∷ qs) (suc f) is = parameters_none t (n + loops_of q.body) qs f is

-- what `get` gives of a list
pub got_some : {A : Type 0} (l : List A) (i : ℕ) (x : A) → i < length l → x ≡ get_or l i x → slice_get l i ≡ Some x
got_some [] i x inside is = absurd (omega arith)
got_some (y ∷ ys) zero x inside is = ap Some (sym is)
got_some (y ∷ ys) (suc i) x inside is = got_some ys i x (omega arith) is

pub got_none : {A : Type 0} (l : List A) (i : ℕ) → length l ≤ i → slice_get l i ≡ None
got_none [] i past = refl
got_none (y ∷ ys) zero past = absurd (omega arith)
got_none (y ∷ ys) (suc i) past = got_none ys i (omega arith)
