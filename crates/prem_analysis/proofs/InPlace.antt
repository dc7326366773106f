-- What is known behind `if`s and loops that are walked over in place.
use Rattle.std.proofs.Common.{◌≡◌, ℕ, Bool, true, false, eqb, List, [], ◌∷◌, ◌++◌, length, refl, ap, sym, ◌∙◌, zero, suc}
use Rattle.prem_analysis.proofs.Prelude.{plain, targets, env_of, Known as KnownTree, HasNamed, HasAssigned, restored_few, differs_at, differs_where, differs_after, back_from_taken}
use Rattle.prem_analysis.proofs.Prelude.{merged_arms, among, among-append, in_counting, in_while, loop_end, body_range, range_behind, in_body, behind_loop, after, with_range, Environment}
use Rattle.prem_analysis.proofs.Prelude.{at_local, range_of, refined, named, few_or_all, Saved, saved, saved_few, restored, merged, Term, Done, If, For, While, Place, Step, Span, or_parts}
use Rattle.prem_analysis.proofs.RangingLemmas.Targeted.{has_targets}

-- ---- locals that differ

neither : (j : ℕ) (ks ms : List ℕ) → among j (ks ++ ms) ≡ false → (among j ks ≡ false) × (among j ms ≡ false)
neither j ks ms out = or_parts (among j ks) (among j ms) (sym (among-append j ks ms) ∙ out)

abbrev pub in_if : Term → Step → Step → List ℕ
in_if c taken other = named c ++ targets taken ++ targets other

if_named : (c : Term) (taken other : Step) → HasNamed (in_if c taken other) c
if_named c taken other = record { covered = λ j out. (neither j (named c) (targets taken) (neither j (named c ++ targets taken) (targets other) out).0).0 }

if_taken : (c : Term) (taken other : Step) → HasAssigned (in_if c taken other) (plain taken)
if_taken c taken other = record { covered = λ j out. (has_targets taken).covered j (neither j (named c) (targets taken) (neither j (named c ++ targets taken) (targets other) out).0).1 }

if_other : (c : Term) (taken other : Step) → HasAssigned (in_if c taken other) (plain other)
if_other c taken other = record { covered = λ j out. (has_targets other).covered j (neither j (named c ++ targets taken) (targets other) out).1 }

while_named : (c : Term) (body : Step) → HasNamed (named c ++ targets body) c
while_named c body = record { covered = λ j out. (neither j (named c) (targets body) out).0 }

while_body : (c : Term) (body : Step) → HasAssigned (named c ++ targets body) (plain body)
while_body c body = record { covered = λ j out. (has_targets body).covered j (neither j (named c) (targets body) out).1 }

for_body : (k : ℕ) (body : Step) → HasAssigned (k ∷ targets body) (plain body)
for_body k body = record { covered = λ j out. (has_targets body).covered j (or_parts (eqb k j) (among j (targets body)) out).1 }

-- ---- what is known again

pub env_length : (ls : List KnownTree) → length (env_of ls) ≡ length ls
env_length [] = refl
env_length (l ∷ ls) = ap suc (env_length ls)

-- a range that is set again
pub set_again : (k : ℕ) (r q : Span) (env : Environment) → at_local k (with_range r) (at_local k (with_range q) env) ≡ at_local k (with_range r) env
set_again k r q [] = refl
set_again zero r q (l ∷ ls) = refl
set_again (suc k) r q (l ∷ ls) = ap (λ e. l ∷ e) (set_again k r q ls)

while_back : (env : Environment) (c : Term) (body : Step) → restored (saved_few env (named c ++ targets body)) (after (refined true env c) (plain body)) ≡ env
while_back env c body =
    let ks = named c ++ targets body in
    restored_few ks (after (refined true env c) (plain body)) env (differs_after ks (refined true env c) env (plain body) (differs_where ks true env c (while_named c body)) (while_body c body))

for_back : (env : Environment) (k : ℕ) (r q : Span) (body : Step) →
    restored (saved_few (at_local k (with_range q) env) (k ∷ targets body)) (after (at_local k (with_range r) env) (plain body)) ≡ at_local k (with_range q) env
for_back env k r q body =
    let ks = k ∷ targets body in let from = at_local k (with_range q) env in
    ap (λ e. restored (saved_few from ks) (after e (plain body))) (sym (set_again k r q env))
    ∙ restored_few ks (after (at_local k (with_range r) from) (plain body)) from
    (differs_after ks (at_local k (with_range r) from) from (plain body)
    (differs_at ks k (with_range r) from (λ l. refl) (λ j out. (or_parts (eqb k j) (among j (targets body)) out).0)) (for_body k body))

-- ---- an arm of the walk, from what its calls give

-- what is known in the other arm of an `if`
pub if_other_known : (env e1 e2 e3 : Environment) (c : Term) (taken other t1 o1 t2 : Step) (before : List Saved) →
    before ≡ saved_few env (in_if c t1 o1) → e1 ≡ refined true env c → e2 ≡ after e1 (plain t2) → e3 ≡ refined false (restored before e2) c →
    t1 ≡ taken → o1 ≡ other → t2 ≡ taken → e3 ≡ refined false env c
if_other_known env e1 e2 e3 c taken other t1 o1 t2 before is_before is1 is2 is3 t1_is o1_is t2_is =
    is3 ∙ ap (λ b. refined false (restored b e2) c) (is_before ∙ ap (λ (x : Step). saved_few env (in_if c x o1)) t1_is ∙ ap (λ (x : Step). saved_few env (in_if c taken x)) o1_is)
    ∙ ap (λ e. refined false (restored (saved_few env (in_if c taken other)) e) c) (is2 ∙ ap (λ e. after e (plain t2)) is1 ∙ ap (λ (x : Step). after (refined true env c) (plain x)) t2_is)
    ∙ ap (λ e. refined false e c) (back_from_taken (in_if c taken other) env c (plain taken) (if_named c taken other) (if_taken c taken other))

-- and behind it
pub if_known : (env e1 e2 e3 e4 e5 : Environment) (at : Place) (c : Term) (taken other t1 o1 t2 o2 : Step) (ks : List ℕ) (behind : List Saved) →
    ks ≡ few_or_all (length env) (in_if c t1 o1) → e1 ≡ refined true env c → e2 ≡ after e1 (plain t2) → behind ≡ saved e2 ks →
    e3 ≡ refined false env c → e4 ≡ after e3 (plain o2) → e5 ≡ merged behind e4 →
    t1 ≡ taken → o1 ≡ other → t2 ≡ taken → o2 ≡ other → e5 ≡ after env (If at c (plain taken) (plain other) Done)
if_known env e1 e2 e3 e4 e5 at c taken other t1 o1 t2 o2 ks behind is_ks is1 is2 is_behind is3 is4 is5 t1_is o1_is t2_is o2_is =
    let few = few_or_all (length env) (in_if c taken other) in
    let locals : ks ≡ few = is_ks ∙ ap (λ (x : Step). few_or_all (length env) (in_if c x o1)) t1_is ∙ ap (λ (x : Step). few_or_all (length env) (in_if c taken x)) o1_is in
    let one : e2 ≡ after (refined true env c) (plain taken) = is2 ∙ ap (λ e. after e (plain t2)) is1 ∙ ap (λ (x : Step). after (refined true env c) (plain x)) t2_is in
    let two : e4 ≡ after (refined false env c) (plain other) = is4 ∙ ap (λ e. after e (plain o2)) is3 ∙ ap (λ (x : Step). after (refined false env c) (plain x)) o2_is in
    is5 ∙ ap (λ b. merged b e4) (is_behind ∙ ap (saved e2) locals ∙ ap (λ e. saved e few) one) ∙ ap (merged (saved (after (refined true env c) (plain taken)) few)) two
    ∙ merged_arms (in_if c taken other) env c (plain taken) (plain other) (if_named c taken other) (if_taken c taken other) (if_other c taken other)

-- behind a counting loop
pub for_known : (env e1 e2 e3 : Environment) (at : Place) (k : ℕ) (low : Term) (closed : Bool) (high : Term) (step : ℕ) (body b1 b2 : Step) (behind : List Saved) →
    behind ≡ saved_few (behind_loop env k low (loop_end env k closed high (plain b1)) step (plain b1)) (k ∷ targets b1) → e1 ≡ in_body env k low (loop_end env k closed high (plain b1)) (plain b1) →
    e2 ≡ after e1 (plain b2) → e3 ≡ restored behind e2 → b1 ≡ body → b2 ≡ body → e3 ≡ after env (For at k low closed high step 0 (plain body) Done)
for_known env e1 e2 e3 at k low closed high step body b1 b2 behind is_behind is1 is2 is3 b1_is b2_is =
    let end = loop_end env k closed high (plain b1) in
    let from = behind_loop env k low end step (plain b1) in
    is3 ∙ ap (λ b. restored b e2) is_behind
    ∙ ap (restored (saved_few from (k ∷ targets b1))) (is2 ∙ ap (λ e. after e (plain b2)) is1 ∙ ap (λ (x : Step). after (in_body env k low end (plain b1)) (plain x)) (b2_is ∙ sym b1_is))
    ∙ for_back (in_counting k (plain b1) env) k (body_range (range_of env low) end) (range_behind (range_of env low) end step) b1
    ∙ ap (λ (x : Step). behind_loop env k low (loop_end env k closed high (plain x)) step (plain x)) b1_is

-- behind a `while`
pub while_known : (env e1 e2 e3 : Environment) (at : Place) (most : ℕ) (c : Term) (body b1 b2 : Step) (behind : List Saved) →
    behind ≡ saved_few (in_while (plain b1) env) (named c ++ targets b1) → e1 ≡ refined true (in_while (plain b1) env) c →
    e2 ≡ after e1 (plain b2) → e3 ≡ restored behind e2 → b1 ≡ body → b2 ≡ body → e3 ≡ after env (While at most c (plain body) Done)
while_known env e1 e2 e3 at most c body b1 b2 behind is_behind is1 is2 is3 b1_is b2_is =
    let from = in_while (plain b1) env in
    is3 ∙ ap (λ b. restored b e2) is_behind
    ∙ ap (restored (saved_few from (named c ++ targets b1))) (is2 ∙ ap (λ e. after e (plain b2)) is1 ∙ ap (λ (x : Step). after (refined true from c) (plain x)) (b2_is ∙ sym b1_is))
    ∙ while_back from c b1 ∙ ap (λ (x : Step). in_while (plain x) env) b1_is
