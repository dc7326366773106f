-- An arm of the walk, a loop's head and a function, from what their calls give.
use Rattle.std.proofs.Common.{◌≡◌, ℕ, ◌+◌, ◌<◌, Bool, true, false, List, [], ◌∷◌, ◌++◌, length, map, drop, get_or, refl, ap, sym, ◌∙◌, subst}
use Rattle.prem_annotate.proofs.Prelude.{plain, Sight, touched, passed, behind, begun, seen_with, touched_by, touched_in, touched_by_locals, touched_by_result, calls_in, loop_end}
use Rattle.prem_annotate.proofs.Prelude.{in_counting, in_body, in_while, known_local, declared, after, Environment, refined, Term, Steps, Done, If, For, While, Routine, LocalVariable}
use Rattle.prem_annotate.proofs.Prelude.{local_of, Local, Place, term_of, Step, append-nil, append_assoc, drop_more}
use Rattle.prem_annotate.proofs.Sights.{sight, same_sight, touched_none, touched_more, passed-append}
use Rattle.prem_tree.specs.declared.resolve.resolved.Term.{Term as TermTree}

-- ---- lists behind others

two_behind : {A : Type 0} (x a b : List A) → x ++ a ++ b ≡ x ++ (a ++ b ++ [])
two_behind x a b = append_assoc x a b ∙ ap (λ l. x ++ l) (sym (append-nil (a ++ b)))

three_behind : {A : Type 0} (x a b c : List A) → x ++ a ++ b ++ c ≡ x ++ (a ++ b ++ c ++ [])
three_behind x a b c = ap (λ l. l ++ c) (append_assoc x a b) ∙ two_behind x (a ++ b) c

-- ---- the arms of `if`

behind_if : (env : Environment) (at : Place) (c : Term) (taken other : Steps) (s : Sight) →
    behind (refined false env c) other (behind (refined true env c) taken (touched (touched_by env c) s)) ≡ behind env (If at c taken other Done) s
behind_if env at c taken other s =
    let one = calls_in (refined true env c) taken in let two = calls_in (refined false env c) other in
    same_sight _ _ _ _ (three_behind s.touches (touched_by env c) (touched_in (refined true env c) taken) (touched_in (refined false env c) other))
    (append_assoc s.arguments (passed one) (passed two) ∙ ap (λ l. s.arguments ++ l) (sym (ap passed (append-nil (one ++ two)) ∙ passed-append one two)))

pub if_arm : (env right inner : Environment) (at : Place) (c : Term) (taken other t o : Step) (s1 s2 s3 s : Sight) →
    right ≡ refined false env c → inner ≡ refined true env c → s1 ≡ touched (touched_by env c) s → t ≡ taken → o ≡ other →
    s2 ≡ behind inner (plain t) s1 → s3 ≡ behind right (plain o) s2 → s3 ≡ behind env (If at c (plain taken) (plain other) Done) s
if_arm env right inner at c taken other t o s1 s2 s3 s e1 e2 e3 e4 e5 e6 e7 =
    e7 ∙ ap (λ r. behind r (plain o) s2) e1 ∙ ap (λ (x : Step). behind (refined false env c) (plain x) s2) e5
    ∙ ap (behind (refined false env c) (plain other))
    (e6 ∙ ap (λ r. behind r (plain t) s1) e2 ∙ ap (λ (x : Step). behind (refined true env c) (plain x) s1) e4
    ∙ ap (behind (refined true env c) (plain taken)) e3)
    ∙ behind_if env at c (plain taken) (plain other) s

-- ---- loops

-- a loop's body is walked over in what is known there
in_loop : (e e' : Environment) (b body : Step) (s1 s2 s3 : Sight) → s3 ≡ behind e (plain b) s1 → e ≡ e' → b ≡ body → s1 ≡ s2 → s3 ≡ behind e' (plain body) s2
in_loop e e' b body s1 s2 s3 h two three four = h ∙ ap (λ x. behind x (plain b) s1) two ∙ ap (λ (x : Step). behind e' (plain x) s1) three ∙ ap (behind e' (plain body)) four

abbrev pub at_counting : Environment → ℕ → Term → Term → Steps → Sight → Sight
at_counting env k low high body s = touched (touched_by env low ++ touched_by (in_counting k body env) high) s

abbrev pub at_while : Environment → Term → Steps → Sight → Sight
at_while env c body s = touched (touched_by (in_while body env) c) s

behind_for : (env : Environment) (at : Place) (k : ℕ) (low : Term) (closed : Bool) (high : Term) (step turns : ℕ) (body : Steps) (s : Sight) →
    behind (in_body env k low (loop_end env k closed high body) body) body (at_counting env k low high body s) ≡ behind env (For at k low closed high step turns body Done) s
behind_for env at k low closed high step turns body s =
    let e = in_body env k low (loop_end env k closed high body) body in
    same_sight _ _ _ _ (two_behind s.touches (touched_by env low ++ touched_by (in_counting k body env) high) (touched_in e body))
    (ap (λ l. s.arguments ++ passed l) (sym (append-nil (calls_in e body))))

behind_while : (env : Environment) (at : Place) (most : ℕ) (c : Term) (body : Steps) (s : Sight) →
    behind (refined true (in_while body env) c) body (at_while env c body s) ≡ behind env (While at most c body Done) s
behind_while env at most c body s =
    let e = refined true (in_while body env) c in
    same_sight _ _ _ _ (two_behind s.touches (touched_by (in_while body env) c) (touched_in e body)) (ap (λ l. s.arguments ++ passed l) (sym (append-nil (calls_in e body))))

pub for_arm : (env e : Environment) (at : Place) (k : ℕ) (low : Term) (closed : Bool) (high : Term) (step : ℕ) (first_body second_body body : Step) (s1 s3 s : Sight) →
    e ≡ in_body env k low (loop_end env k closed high (plain first_body)) (plain first_body) → s1 ≡ at_counting env k low high (plain first_body) s →
    s3 ≡ behind e (plain second_body) s1 → first_body ≡ body → second_body ≡ body → s3 ≡ behind env (For at k low closed high step 0 (plain body) Done) s
for_arm env e at k low closed high step first_body second_body body s1 s3 s two three h f g =
    in_loop e _ second_body first_body s1 _ s3 h two (g ∙ sym f) three ∙ behind_for env at k low closed high step 0 (plain first_body) s
    ∙ ap (λ (x : Step). behind env (For at k low closed high step 0 (plain x) Done) s) f

pub while_arm : (env e : Environment) (at : Place) (most : ℕ) (c : Term) (first_body second_body body : Step) (s1 s3 s : Sight) →
    e ≡ refined true (in_while (plain first_body) env) c → s1 ≡ at_while env c (plain first_body) s →
    s3 ≡ behind e (plain second_body) s1 → first_body ≡ body → second_body ≡ body → s3 ≡ behind env (While at most c (plain body) Done) s
while_arm env e at most c first_body second_body body s1 s3 s two three h f g =
    in_loop e _ second_body first_body s1 _ s3 h two (g ∙ sym f) three ∙ behind_while env at most c (plain first_body) s
    ∙ ap (λ (x : Step). behind env (While at most c (plain x) Done) s) f

-- the head of a counting loop
pub head_sight : (env e1 e2 : Environment) (k : ℕ) (low high : Term) (body : Steps) (s s1 s2 : Sight) → e1 ≡ env → e2 ≡ in_counting k body e1 →
    s1 ≡ touched (touched_by env low) s → s2 ≡ touched (touched_by e2 high) s1 →
    s2 ≡ at_counting env k low high body s
head_sight env e1 e2 k low high body s s1 s2 is1 is2 one two =
    two ∙ ap (λ e. touched (touched_by e high) s1) (is2 ∙ ap (in_counting k body) is1) ∙ ap (touched (touched_by (in_counting k body env) high)) one
    ∙ touched_more (touched_by env low) (touched_by (in_counting k body env) high) s

-- ---- functions

-- locals with their initialisers: what is left leads where all led
pub record Declaring (ls left_ls : List LocalVariable) (es left_es : List Term) (env env0 : Environment) (s s0 : Sight) : Type 0 where
  pub known : declared env left_ls left_es ≡ declared env0 ls es
  pub sight_is : touched (touched_by_locals env left_ls left_es) s ≡ touched (touched_by_locals env0 ls es) s0

declared_on : (all : List LocalVariable) (all_es : List Term) (l : LocalVariable) (ls : List LocalVariable) (e : Term) (es : List Term) (env env' env0 : Environment) (s s' s0 : Sight) →
    Declaring all (l ∷ ls) all_es (e ∷ es) env env0 s s0 → env' ≡ env ++ known_local env l e ∷ [] → s' ≡ touched (touched_by env e) s → Declaring all ls all_es es env' env0 s' s0
declared_on all all_es l ls e es env env' env0 s s' s0 d new_env new_sight =
    let next = env ++ known_local env l e ∷ [] in
    record {
      known = ap (λ v. declared v ls es) new_env ∙ d.known;
      sight_is = ap (λ v. touched (touched_by_locals v ls es) s') new_env ∙ ap (touched (touched_by_locals next ls es)) new_sight
          ∙ touched_more (touched_by env e) (touched_by_locals next ls es) s ∙ d.sight_is;
    }

pub declared_next : (ls : List Local) (es : List TermTree) (i : ℕ) (l : Local) (e : TermTree) (env env' env0 : Environment) (s s' s0 : Sight) →
    i < length ls → i < length es → l ≡ get_or ls i l → e ≡ get_or es i e →
    Declaring (map local_of ls) (map local_of (drop i ls)) (map term_of es) (map term_of (drop i es)) env env0 s s0 →
    env' ≡ env ++ known_local env (local_of l) (term_of e) ∷ [] → s' ≡ touched (touched_by env (term_of e)) s →
    Declaring (map local_of ls) (map local_of (drop (i + 1) ls)) (map term_of es) (map term_of (drop (i + 1) es)) env' env0 s' s0
declared_next ls es i l e env env' env0 s s' s0 in_ls in_es is_l is_e d new_env new_sight =
    let all_ls : drop i ls ≡ l ∷ drop (i + 1) ls = drop_more ls i l in_ls ∙ ap (λ x. x ∷ drop (i + 1) ls) (sym is_l) in
    let all_es : drop i es ≡ e ∷ drop (i + 1) es = drop_more es i e in_es ∙ ap (λ x. x ∷ drop (i + 1) es) (sym is_e) in
    let one = subst (λ (x : List Local). Declaring (map local_of ls) (map local_of x) (map term_of es) (map term_of (drop i es)) env env0 s s0) all_ls d in
    let two = subst (λ (x : List TermTree). Declaring (map local_of ls) (map local_of (l ∷ drop (i + 1) ls)) (map term_of es) (map term_of x) env env0 s s0) all_es one in
    declared_on (map local_of ls) (map term_of es) (local_of l) (map local_of (drop (i + 1) ls)) (term_of e) (map term_of (drop (i + 1) es)) env env' env0 s s' s0 two new_env new_sight

declared_none : (env : Environment) (ls : List LocalVariable) → declared env ls [] ≡ env
declared_none env [] = refl
declared_none env (l ∷ ls) = refl

locals_none : (env : Environment) (ls : List LocalVariable) → touched_by_locals env ls [] ≡ []
locals_none env [] = refl
locals_none env (l ∷ ls) = refl

pub no_terms : (all ls : List LocalVariable) (all_es es : List Term) (env env0 : Environment) (s s0 : Sight) → es ≡ [] → Declaring all ls all_es es env env0 s s0 →
    (env ≡ declared env0 all all_es) × (s ≡ touched (touched_by_locals env0 all all_es) s0)
no_terms all ls all_es es env env0 s s0 none d = (
  sym (ap (declared env ls) none ∙ declared_none env ls) ∙ d.known,
  touched_none s ∙ sym (ap (λ l. touched l s) (ap (touched_by_locals env ls) none ∙ locals_none env ls)) ∙ d.sight_is,
)

pub routine_arm : (env0 : Environment) (f : Routine) (ls : List LocalVariable) (es : List Term) (e1 e2 : Environment) (s0 s1 s2 s3 : Sight) →
    ls ≡ f.text.locals → es ≡ f.locals → s0 ≡ sight [] [] → e1 ≡ declared env0 ls es → s1 ≡ touched (touched_by_locals env0 ls es) s0 →
    e2 ≡ after e1 f.body → s2 ≡ behind e1 f.body s1 → s3 ≡ touched (touched_by_result e2 f.result) s2 → s3 ≡ seen_with env0 f
routine_arm env0 f ls es e1 e2 s0 s1 s2 s3 hl he h0 h1 g1 h2 g2 g3 =
    let body : e1 ≡ begun env0 f = h1 ∙ ap (λ l. declared env0 l es) hl ∙ ap (declared env0 f.text.locals) he in
    let first_seen : s1 ≡ touched (touched_by_locals env0 f.text.locals f.locals) (sight [] []) =
    g1 ∙ ap (touched (touched_by_locals env0 ls es)) h0 ∙ ap (λ l. touched (touched_by_locals env0 l es) (sight [] [])) hl
    ∙ ap (λ l. touched (touched_by_locals env0 f.text.locals l) (sight [] [])) he in
    g3 ∙ ap (λ e. touched (touched_by_result e f.result) s2) (h2 ∙ ap (λ e. after e f.body) body)
    ∙ ap (touched (touched_by_result (after (begun env0 f) f.body) f.result)) (g2 ∙ ap (λ e. behind e f.body s1) body ∙ ap (behind (begun env0 f) f.body) first_seen)
