-- What is seen behind steps, from what is seen behind their parts.
use Rattle.std.proofs.Common.{nat_lt, ◌≡◌, ℕ, ◌+◌, ◌*◌, ◌^◌, List, [], ◌∷◌, ◌++◌, Option, None, refl, ap, sym, ◌∙◌, drop, length, get_or, ◌<◌, arith, Bool, true, false, zero, suc, map}
use Rattle.std.proofs.Common.{subst}
use Rattle.prem_analysis.proofs.Prelude.{capped, at_term, at_counting, at_while, bound_of, behind_routine, plain_before, plain, plain_list, Seen, noted, behind, looked, first_none}
use Rattle.prem_analysis.proofs.Prelude.{first_assoc, first_of_append, loop_end, in_counting, in_body, in_while, after, bounds, stated_or_whole, known_parameter, known_local, declared}
use Rattle.prem_analysis.proofs.Prelude.{at_body, Environment, Site, in_term, in_range_of_int, in_turns, in_counting_loop, in_steps, in_locals, in_result, refined, RangeBreach, first}
use Rattle.prem_analysis.proofs.Prelude.{first_of, Ranged, next_ranged, promoted, Term, Steps, Done, If, For, While, LocalVariable, parameter_of, local_of, Local, Param, Place, term_of}
use Rattle.prem_analysis.proofs.Prelude.{Step, IsRange, append-nil, append_assoc, drop_more, ℤ}
use Rattle.prem_analysis.proofs.RangingLemmas.Sequences.{after-step, bounds-step, first-step}
use Rattle.prem_ranges.proofs.Capped.{capped as capped_same, in_steps-sized}
use Rattle.prem_syntax.specs.Resolved.{Routine}
use Rattle.prem_tree.specs.declared.resolve.resolved.Term.{Term as TermTree}

abbrev pub seen : List ℕ → Option RangeBreach → Seen
seen bs o = record { bounds = bs; found = o }

pub same_seen : (bs cs : List ℕ) (o p : Option RangeBreach) → bs ≡ cs → o ≡ p → seen bs o ≡ seen cs p
same_seen bs cs o p one two = ap (λ x. seen x o) one ∙ ap (seen cs) two

-- the first breach of lists behind what was found before
more : (o : Option RangeBreach) (xs ys : List RangeBreach) → first (first o (first_of xs)) (first_of ys) ≡ first o (first_of (xs ++ ys))
more o xs ys = first_assoc o (first_of xs) (first_of ys) ∙ ap (first o) (sym (first_of_append xs ys))

ended : (o : Option RangeBreach) (xs : List RangeBreach) → first o (first_of xs) ≡ first o (first_of (xs ++ []))
ended o xs = ap (λ l. first o (first_of l)) (sym (append-nil xs))

pub looked_one : (a : List RangeBreach) (s : Seen) → noted (first_of a) s ≡ looked a s
looked_one a s = same_seen _ _ _ _ (sym (append-nil s.bounds)) (ended s.found a)

pub looked_two : (a b : List RangeBreach) (s : Seen) → noted (first_of b) (noted (first_of a) s) ≡ looked (a ++ b) s
looked_two a b s = same_seen _ _ _ _ (sym (append-nil s.bounds)) (more s.found a b ∙ ended s.found (a ++ b))

pub looked_three : (a b c : List RangeBreach) (s : Seen) → noted (first_of c) (noted (first_of b) (noted (first_of a) s)) ≡ looked (a ++ b ++ c) s
looked_three a b c s = same_seen _ _ _ _ (sym (append-nil s.bounds)) (ap (λ o. first o (first_of c)) (more s.found a b) ∙ more s.found (a ++ b) c ∙ ended s.found (a ++ b ++ c))

pub behind_step : (site : Site) (around : ℕ) (env : Environment) (step : Step) (rest : Steps) (s : Seen) →
    behind site around (after env (plain step)) rest (behind site around env (plain step) s) ≡ behind site around env (plain_before step rest) s
behind_step site around env step rest s =
    same_seen _ _ _ _ (append_assoc s.bounds (bounds env (plain step)) (bounds (after env (plain step)) rest) ∙ ap (λ l. s.bounds ++ l) (sym (bounds-step env step rest)))
    (first_assoc s.found (first_of (in_steps site around env (plain step))) (first_of (in_steps site around (after env (plain step)) rest))
    ∙ ap (first s.found) (sym (first-step site around env step rest)))

-- ---- the arms of `if`

behind_if : (site : Site) (around : ℕ) (env : Environment) (at : Place) (c : Term) (taken other : Steps) (s : Seen) →
    behind site around (refined false env c) other (behind site around (refined true env c) taken (at_term site env c s)) ≡ behind site around env (If at c taken other Done) s
behind_if site around env at c taken other s =
    let t = in_steps site around (refined true env c) taken in let o = in_steps site around (refined false env c) other in let i = in_term site env c in
    same_seen _ _ _ _ (append_assoc s.bounds (bounds (refined true env c) taken) (bounds (refined false env c) other)
    ∙ ap (λ l. s.bounds ++ l) (sym (append-nil (bounds (refined true env c) taken ++ bounds (refined false env c) other))))
    (ap (λ f. first f (first_of o)) (more s.found i t) ∙ more s.found (i ++ t) o ∙ ended s.found (i ++ t ++ o))

-- ---- loops

turns_capped : (at : Place) (around turns : ℕ) → in_turns at (capped around turns) ≡ in_turns at (around * turns)
turns_capped at around turns = by (capped around turns * 1) (around * turns * 1) ((capped_same (around * turns)).same 1) (omega arith) (omega arith)
  where
    by : (a b : ℕ) → nat_lt (2 ^ 40) a ≡ nat_lt (2 ^ 40) b → a ≡ capped around turns → b ≡ around * turns → in_turns at (capped around turns) ≡ in_turns at (around * turns)
    by a b h one two = rw (← one, ← two, h)

body_capped : (site : Site) (around turns : ℕ) (env : Environment) (steps : Steps) → in_steps site (capped around turns) env steps ≡ in_steps site (around * turns) env steps
body_capped site around turns env steps = in_steps-sized site (capped around turns) (around * turns) (capped_same (around * turns)) env steps

behind_while : (site : Site) (around : ℕ) (env : Environment) (at : Place) (most : ℕ) (c : Term) (body : Steps) (s : Seen) →
    behind site (capped around most) (refined true (in_while body env) c) body (at_while site around env at most c body s) ≡ behind site around env (While at most c body Done) s
behind_while site around env at most c body s =
    let e = in_while body env in let t = in_turns at (around * most) in let i = in_term site e c in let b = in_steps site (around * most) (refined true e c) body in
    same_seen _ _ _ _ (ap (λ l. s.bounds ++ l) (sym (append-nil (bounds (refined true e c) body))))
    (ap (λ l. first (first (first s.found (first_of l)) (first_of i)) (first_of (in_steps site (capped around most) (refined true e c) body))) (turns_capped at around most)
    ∙ ap (λ l. first (first (first s.found (first_of t)) (first_of i)) (first_of l)) (body_capped site around most (refined true e c) body)
    ∙ ap (λ f. first f (first_of b)) (more s.found t i) ∙ more s.found (t ++ i) b ∙ ended s.found (t ++ i ++ b))

counting_capped : (at : Place) (end : ℤ) (step around turns : ℕ) → in_counting_loop at end step (capped around turns) ≡ in_counting_loop at end step (around * turns)
counting_capped at end step around turns = ap (λ l. in_range_of_int at end step ++ l) (turns_capped at around turns)

behind_for : (site : Site) (around : ℕ) (env : Environment) (at : Place) (k : ℕ) (low : Term) (closed : Bool) (high : Term) (step turns : ℕ) (body : Steps) (s : Seen) →
    behind site (capped around (bound_of env k low closed high step body)) (in_body env k low (loop_end env k closed high body) body) body
    (at_counting site around env at k low high (loop_end env k closed high body) step (bound_of env k low closed high step body) body s)
    ≡ behind site around env (For at k low closed high step turns body Done) s
behind_for site around env at k low closed high step turns body s =
    let end = loop_end env k closed high body in let bound = bound_of env k low closed high step body in let e = in_body env k low end body in
    let t = in_counting_loop at end step (around * bound) in let i = in_term site env low in let j = in_term site (in_counting k body env) high in let b = in_steps site (around * bound) e body in
    same_seen _ _ _ _ (append_assoc s.bounds (bound ∷ []) (bounds e body) ∙ ap (λ l. s.bounds ++ l) (sym (append-nil (bound ∷ bounds e body))))
    (ap (λ l. first (first (first (first s.found (first_of l)) (first_of i)) (first_of j)) (first_of (in_steps site (capped around bound) e body))) (counting_capped at end step around bound)
    ∙ ap (λ l. first (first (first (first s.found (first_of t)) (first_of i)) (first_of j)) (first_of l)) (body_capped site around bound e body)
    ∙ ap (λ f. first (first f (first_of j)) (first_of b)) (more s.found t i) ∙ ap (λ f. first f (first_of b)) (more s.found (t ++ i) j)
    ∙ more s.found (t ++ i ++ j) b ∙ ended s.found (t ++ i ++ j ++ b))

-- ---- steps of a list, one after the other: what is left leads where all led

pub record Walking (site : Site) (around : ℕ) (steps left : List Step) (env env0 : Environment) (s s0 : Seen) : Type 0 where
  pub known : after env (plain_list left) ≡ after env0 (plain_list steps)
  pub seen_is : behind site around env (plain_list left) s ≡ behind site around env0 (plain_list steps) s0

pub walked_on : (site : Site) (around : ℕ) (steps : List Step) (i : ℕ) (step : Step) (env env' env0 : Environment) (s s' s0 : Seen) → i < length steps → step ≡ get_or steps i step →
    Walking site around steps (drop i steps) env env0 s s0 → env' ≡ after env (plain step) → s' ≡ behind site around env (plain step) s → Walking site around steps (drop (i + 1) steps) env' env0 s' s0
walked_on site around steps i step env env' env0 s s' s0 inside is w new_env new_seen =
    let all : drop i steps ≡ step ∷ drop (i + 1) steps = drop_more steps i step inside ∙ ap (λ x. x ∷ drop (i + 1) steps) (sym is) in
    let rest = plain_list (drop (i + 1) steps) in
    record {
      known = ap (λ e. after e rest) new_env ∙ sym (after-step env step rest) ∙ ap (λ (l : List Step). after env (plain_list l)) (sym all) ∙ w.known;
      seen_is = ap (λ e. behind site around e rest s') new_env ∙ ap (λ t. behind site around (after env (plain step)) rest t) new_seen ∙ behind_step site around env step rest s
          ∙ ap (λ (l : List Step). behind site around env (plain_list l) s) (sym all) ∙ w.seen_is;
    }

-- ---- an arm of the walk, from what its calls give

pub if_arm : (site : Site) (around : ℕ) (env right inner : Environment) (at : Place) (c : Term) (taken other t o : Step) (s1 s2 s3 s : Seen) →
    right ≡ refined false env c → inner ≡ refined true env c → s1 ≡ at_term site env c s → t ≡ taken → o ≡ other →
    s2 ≡ behind site around inner (plain t) s1 → s3 ≡ behind site around right (plain o) s2 → s3 ≡ behind site around env (If at c (plain taken) (plain other) Done) s
if_arm site around env right inner at c taken other t o s1 s2 s3 s e1 e2 e3 e4 e5 e6 e7 =
    e7 ∙ ap (λ r. behind site around r (plain o) s2) e1 ∙ ap (λ (x : Step). behind site around (refined false env c) (plain x) s2) e5
    ∙ ap (behind site around (refined false env c) (plain other))
    (e6 ∙ ap (λ r. behind site around r (plain t) s1) e2 ∙ ap (λ (x : Step). behind site around (refined true env c) (plain x) s1) e4
    ∙ ap (behind site around (refined true env c) (plain taken)) e3)
    ∙ behind_if site around env at c (plain taken) (plain other) s

-- a loop's body is walked over in what is known there
in_loop : (site : Site) (a a' : ℕ) (e e' : Environment) (b body : Step) (s1 s2 s3 : Seen) → s3 ≡ behind site a e (plain b) s1 → a ≡ a' → e ≡ e' →
    b ≡ body → s1 ≡ s2 → s3 ≡ behind site a' e' (plain body) s2
in_loop site a a' e e' b body s1 s2 s3 h one two three four =
    h ∙ ap (λ x. behind site x e (plain b) s1) one ∙ ap (λ x. behind site a' x (plain b) s1) two ∙ ap (λ (x : Step). behind site a' e' (plain x) s1) three ∙ ap (behind site a' e' (plain body)) four

pub for_arm : (site : Site) (around a : ℕ) (env e : Environment) (at : Place) (k : ℕ) (low : Term) (closed : Bool) (high : Term) (step : ℕ) (first_body second_body body : Step) (s1 s3 s : Seen) →
    a ≡ capped around (bound_of env k low closed high step (plain first_body)) → e ≡ in_body env k low (loop_end env k closed high (plain first_body)) (plain first_body) →
    s1 ≡ at_counting site around env at k low high (loop_end env k closed high (plain first_body)) step (bound_of env k low closed high step (plain first_body)) (plain first_body) s →
    s3 ≡ behind site a e (plain second_body) s1 → first_body ≡ body → second_body ≡ body → s3 ≡ behind site around env (For at k low closed high step 0 (plain body) Done) s
for_arm site around a env e at k low closed high step first_body second_body body s1 s3 s one two three h f g =
    in_loop site a _ e _ second_body first_body s1 _ s3 h one two (g ∙ sym f) three ∙ behind_for site around env at k low closed high step 0 (plain first_body) s
    ∙ ap (λ (x : Step). behind site around env (For at k low closed high step 0 (plain x) Done) s) f

pub while_arm : (site : Site) (around a : ℕ) (env e : Environment) (at : Place) (most : ℕ) (c : Term) (first_body second_body body : Step) (s1 s3 s : Seen) →
    a ≡ capped around most → e ≡ refined true (in_while (plain first_body) env) c → s1 ≡ at_while site around env at most c (plain first_body) s →
    s3 ≡ behind site a e (plain second_body) s1 → first_body ≡ body → second_body ≡ body → s3 ≡ behind site around env (While at most c (plain body) Done) s
while_arm site around a env e at most c first_body second_body body s1 s3 s one two three h f g =
    in_loop site a _ e _ second_body first_body s1 _ s3 h one two (g ∙ sym f) three ∙ behind_while site around env at most c (plain first_body) s
    ∙ ap (λ (x : Step). behind site around env (While at most c (plain x) Done) s) f

-- ---- functions

-- locals with their initialisers: what is left leads where all led
pub record Declaring (site : Site) (ls left_ls : List LocalVariable) (es left_es : List Term) (env env0 : Environment) (s s0 : Seen) : Type 0 where
  pub known : declared env left_ls left_es ≡ declared env0 ls es
  pub seen_is : noted (first_of (in_locals site env left_ls left_es)) s ≡ noted (first_of (in_locals site env0 ls es)) s0

pub declared_on : (site : Site) (all : List LocalVariable) (all_es : List Term) (l : LocalVariable) (ls : List LocalVariable) (e : Term)
    (es : List Term) (env env' env0 : Environment) (s s' s0 : Seen) →
    Declaring site all (l ∷ ls) all_es (e ∷ es) env env0 s s0 → env' ≡ env ++ known_local env l e ∷ [] → s' ≡ at_term site env e s → Declaring site all ls all_es es env' env0 s' s0
declared_on site all all_es l ls e es env env' env0 s s' s0 d new_env new_seen =
    let next = env ++ known_local env l e ∷ [] in
    record {
      known = ap (λ v. declared v ls es) new_env ∙ d.known;
      seen_is = ap (λ v. noted (first_of (in_locals site v ls es)) s') new_env ∙ ap (noted (first_of (in_locals site next ls es))) new_seen
          ∙ same_seen _ _ _ _ refl (more s.found (in_term site env e) (in_locals site next ls es)) ∙ d.seen_is;
    }

declared_none : (env : Environment) (ls : List LocalVariable) → declared env ls [] ≡ env
declared_none env [] = refl
declared_none env (l ∷ ls) = refl

locals_none : (site : Site) (env : Environment) (ls : List LocalVariable) → in_locals site env ls [] ≡ []
locals_none site env [] = refl
locals_none site env (l ∷ ls) = refl

noted_none : (s : Seen) → s ≡ noted None s
noted_none s = same_seen _ _ _ _ refl (sym (first_none s.found))

pub no_terms : (site : Site) (all ls : List LocalVariable) (all_es es : List Term) (env env0 : Environment) (s s0 : Seen) → es ≡ [] → Declaring site all ls all_es es env env0 s s0 →
    (env ≡ declared env0 all all_es) × (s ≡ noted (first_of (in_locals site env0 all all_es)) s0)
no_terms site all ls all_es es env env0 s s0 none d = (
  sym (ap (declared env ls) none ∙ declared_none env ls) ∙ d.known,
  noted_none s ∙ sym (ap (λ l. noted (first_of l) s) (ap (in_locals site env ls) none ∙ locals_none site env ls)) ∙ d.seen_is,
)

pub behind_function : (site : Site) (f : Routine) (s : Seen) →
    noted (first_of (in_result site (after (at_body f) f.body) f.result))
    (behind site 1 (at_body f) f.body (noted (first_of (in_locals site (map known_parameter f.text.params) f.text.locals f.locals)) s))
    ≡ behind_routine site f s
behind_function site f s =
    let a = in_locals site (map known_parameter f.text.params) f.text.locals f.locals in let b = in_steps site 1 (at_body f) f.body in let c = in_result site (after (at_body f) f.body) f.result in
    same_seen _ _ _ _ refl (ap (λ o. first o (first_of c)) (more s.found a b) ∙ more s.found (a ++ b) c)

-- a parameter among others
pub ranged_item : (ps : List Param) (i : ℕ) (p : Param) → Ranged (map known_parameter (map parameter_of ps)) → i < length ps → p ≡ get_or ps i p →
    IsRange (promoted p.ty) (stated_or_whole (promoted p.ty) p.range)
ranged_item [] i p r inside is = absurd (omega arith)
ranged_item (q ∷ qs) zero p (next_ranged r rest) inside is = subst (λ (x : Param). IsRange (promoted x.ty) (stated_or_whole (promoted x.ty) x.range)) (sym is) r
ranged_item (q ∷ qs) (suc i) p (next_ranged r rest) inside is = ranged_item qs i p rest (omega arith) is

pub declared_next : (site : Site) (ls : List Local) (es : List TermTree) (i : ℕ) (l : Local) (e : TermTree) (env env' env0 : Environment)
    (s s' s0 : Seen) → i < length ls → i < length es → l ≡ get_or ls i l → e ≡ get_or es i e →
    Declaring site (map local_of ls) (map local_of (drop i ls)) (map term_of es) (map term_of (drop i es)) env env0 s s0 →
    env' ≡ env ++ known_local env (local_of l) (term_of e) ∷ [] → s' ≡ at_term site env (term_of e) s →
    Declaring site (map local_of ls) (map local_of (drop (i + 1) ls)) (map term_of es) (map term_of (drop (i + 1) es)) env' env0 s' s0
declared_next site ls es i l e env env' env0 s s' s0 in_ls in_es is_l is_e d new_env new_seen =
    let all_ls : drop i ls ≡ l ∷ drop (i + 1) ls = drop_more ls i l in_ls ∙ ap (λ x. x ∷ drop (i + 1) ls) (sym is_l) in
    let all_es : drop i es ≡ e ∷ drop (i + 1) es = drop_more es i e in_es ∙ ap (λ x. x ∷ drop (i + 1) es) (sym is_e) in
    let one = subst (λ (x : List Local). Declaring site (map local_of ls) (map local_of x) (map term_of es) (map term_of (drop i es)) env env0 s s0) all_ls d in
    let two = subst (λ (x : List TermTree). Declaring site (map local_of ls) (map local_of (l ∷ drop (i + 1) ls)) (map term_of es) (map term_of x) env env0 s s0) all_es one in
    declared_on site (map local_of ls) (map term_of es) (local_of l) (map local_of (drop (i + 1) ls)) (term_of e) (map term_of (drop (i + 1) es)) env env' env0 s s' s0 two new_env new_seen

pub routine_arm : (site : Site) (f : Routine) (ls : List LocalVariable) (es : List Term) (e0 e1 e2 e3 : Environment) (s0 s1 s2 s3 : Seen) →
    e0 ≡ map known_parameter f.text.params → ls ≡ f.text.locals → es ≡ f.locals → e1 ≡ declared e0 ls es → s1 ≡ noted (first_of (in_locals site e0 ls es)) s0 →
    e2 ≡ after e1 f.body → s2 ≡ behind site 1 e1 f.body s1 → e3 ≡ e2 → s3 ≡ noted (first_of (in_result site e3 f.result)) s2 → s3 ≡ behind_routine site f s0
routine_arm site f ls es e0 e1 e2 e3 s0 s1 s2 s3 h0 hl he h1 g1 h2 g2 h3 g3 =
    let start = map known_parameter f.text.params in
    let body : e1 ≡ at_body f = h1 ∙ ap (λ e. declared e ls es) h0 ∙ ap (λ l. declared start l es) hl ∙ ap (declared start f.text.locals) he in
    let first_seen : s1 ≡ noted (first_of (in_locals site start f.text.locals f.locals)) s0 =
    g1 ∙ ap (λ e. noted (first_of (in_locals site e ls es)) s0) h0 ∙ ap (λ l. noted (first_of (in_locals site start l es)) s0) hl
    ∙ ap (λ l. noted (first_of (in_locals site start f.text.locals l)) s0) he in
    g3 ∙ ap (λ e. noted (first_of (in_result site e f.result)) s2) (h3 ∙ h2 ∙ ap (λ e. after e f.body) body)
    ∙ ap (noted (first_of (in_result site (after (at_body f) f.body) f.result))) (g2 ∙ ap (λ e. behind site 1 e f.body s1) body ∙ ap (behind site 1 (at_body f) f.body) first_seen)
    ∙ behind_function site f s0
