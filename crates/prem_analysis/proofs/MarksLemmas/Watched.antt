-- The marked functions in memory are those that watch over each function.
use Rattle.std.proofs.Common.{◌≡◌, ℕ, zero, suc, ◌+◌, ◌<◌, ◌≤◌, Bool, true, false, cond, List, [], ◌∷◌, ◌++◌, length, map, drop, get_or, refl, ap, sym, ◌∙◌, arith, Option, Some, None}
use Rattle.std.proofs.Common.{Result, Ok, Err, IfOk}
use Rattle.prem_analysis.proofs.Prelude.{called, Entry, entry_of, entry, entry_if, entries_from, watch_of, watch_where, watches_at, AreWatched, Marked, items_of, Watch, watch_if}
use Rattle.prem_analysis.proofs.Prelude.{watches_from, is_in, reach_set, callee_table, unlimited, MarkText, GlobalVariable, global_of, mark_of, Global, loops_of, routines_of, resolved_of}
use Rattle.prem_analysis.proofs.Prelude.{Routine as RoutineTree, append_assoc, Bor, option_map}
use Rattle.prem_analysis.proofs.MarksLemmas.CalledTrees.{tables_same}
use Rattle.prem_syntax.specs.Resolved.{Routine}
use Rattle.prem_tree.specs.declared.resolve.resolved.Resolved.{Resolved as ResolvedTree}

-- the entries that watch over function f
abbrev watching : ℕ → List Entry → List Watch
watching f [] = []
watching f (e ∷ es) = cond (is_in e.reached f) (e.watch ∷ watching f es) (watching f es)

in_memory : (f : ℕ) (ms : List Marked) → watches_at f ms ≡ watching f (map entry_of ms)
in_memory f [] = refl
in_memory f (m ∷ ms) = by (is_in m.reached.items f) (in_memory f ms)
  where
    by : (b : Bool) → watches_at f ms ≡ watching f (map entry_of ms) → watch_where b m (watches_at f ms) ≡ cond b (watch_of m ∷ watching f (map entry_of ms)) (watching f (map entry_of ms))
    by true rest = ap (λ ws. watch_of m ∷ ws) rest
    by false rest = rest

watches_stand : (gs : List GlobalVariable) (fs : List Routine) (f n : ℕ) (rest : List Routine) → watching f (entries_from gs (callee_table fs) n rest) ≡ watches_from gs fs f n rest
watches_stand gs fs f n [] = refl
watches_stand gs fs f n (m ∷ rest) = by m.text.mark (watches_stand gs fs f (n + 1) rest)
  where
    here : (mark : MarkText) (b : Bool) → watching f (entries_from gs (callee_table fs) (n + 1) rest) ≡ watches_from gs fs f (n + 1) rest →
        cond b ((entry gs (callee_table fs) n mark).watch ∷ watching f (entries_from gs (callee_table fs) (n + 1) rest))
        (watching f (entries_from gs (callee_table fs) (n + 1) rest)) ≡ watch_if b gs n (Some mark) ++ watches_from gs fs f (n + 1) rest
    here mark true more = ap (λ ws. (entry gs (callee_table fs) n mark).watch ∷ ws) more
    here mark false more = more

    by : (mark : Option MarkText) → watching f (entries_from gs (callee_table fs) (n + 1) rest) ≡ watches_from gs fs f (n + 1) rest →
        watching f (entry_if gs (callee_table fs) n mark ++ entries_from gs (callee_table fs) (n + 1) rest)
        ≡ watch_if (is_in (reach_set (callee_table fs) n) f) gs n mark ++ watches_from gs fs f (n + 1) rest
    by None more = more
    by (Some mark) more = here mark (is_in (reach_set (callee_table fs) n) f) more

are_watched : (r : ResolvedTree) (ms : List Marked) (table : List (List ℕ)) → table ≡ map (λ (f : RoutineTree). called f.body) (items_of r.routines) →
    map entry_of ms ≡ entries_from (map (λ g. global_of g.now) r.globals.items) table 0 (routines_of unlimited.turns 0 (items_of r.routines)) → AreWatched r ms
are_watched r ms table are is = record {
  each = λ f below.
      let p = resolved_of unlimited.turns r in
      in_memory f ms ∙ ap (watching f)
      (is ∙ ap (λ t. entries_from p.globals t 0 p.routines) (are ∙ tables_same unlimited.turns 0 (items_of r.routines)))
      ∙ watches_stand p.globals p.routines f 0 p.routines;
}

-- the entries from a function on, and behind it
entries_next : (gs : List GlobalVariable) (table : List (List ℕ)) (t : ℕ → ℕ) (n : ℕ) (rs : List RoutineTree) (i : ℕ) (r : RoutineTree) (k : ℕ) → i < length rs → r ≡ get_or rs i r →
    entries_from gs table k (drop i (routines_of t n rs)) ≡ entry_if gs table k (option_map mark_of r.text.now.mark) ++ entries_from gs table (k + 1) (drop (suc i) (routines_of t n rs))
entries_next gs table t n [] i r k below is = absurd (omega arith)
entries_next gs table t n (q ∷ qs) zero r k below is =
    ap (λ (x : RoutineTree). entry_if gs table k (option_map mark_of x.text.now.mark) ++ entries_from gs table (k + 1) (routines_of t (n + loops_of q.body) qs)) (sym is)
entries_next gs table t n (q ∷ qs) (suc i) r k below is = entries_next gs table t (n + loops_of q.body) qs i r k (omega arith) is

pub none_left_over : (gs : List GlobalVariable) (table : List (List ℕ)) (t : ℕ → ℕ) (n : ℕ) (rs : List RoutineTree) (i k : ℕ) → length rs ≤ i →
    entries_from gs table k (drop i (routines_of t n rs)) ≡ []
none_left_over gs table t n [] zero k past = refl
none_left_over gs table t n [] (suc i) k past = refl
none_left_over gs table t n (r ∷ rs) zero k past = absurd (omega arith)
none_left_over gs table t n (r ∷ rs) (suc i) k past = none_left_over gs table t (n + loops_of r.body) rs i k (omega arith)

-- one more function
pub one_more : (gs : List GlobalVariable) (table : List (List ℕ)) (t : ℕ → ℕ) (n : ℕ) (rs : List RoutineTree) (i : ℕ) (r : RoutineTree) (old new : List Entry) → i < length rs → r ≡ get_or rs i r →
    new ≡ old ++ entry_if gs table i (option_map mark_of r.text.now.mark) →
    new ++ entries_from gs table (i + 1) (drop (i + 1) (routines_of t n rs)) ≡ old ++ entries_from gs table i (drop i (routines_of t n rs))
one_more gs table t n rs i r old new below is more =
    let here = entry_if gs table i (option_map mark_of r.text.now.mark) in
    let next : i + 1 ≡ suc i = omega arith in
    let rest = entries_from gs table (i + 1) (drop (suc i) (routines_of t n rs)) in
    ap (λ j. new ++ entries_from gs table (i + 1) (drop j (routines_of t n rs))) next ∙ ap (λ (x : List Entry). x ++ rest) more
    ∙ append_assoc old here rest ∙ ap (λ (x : List Entry). old ++ x) (sym (entries_next gs table t n rs i r i below is))

-- what is made of the table of callees
pub if_watched : {A E : Type 0} (listed : A → List Marked) (r : ResolvedTree) (table : List (List ℕ)) (gs : List (Bor Global)) (fs : List RoutineTree)
    (o : Result A E) → table ≡ map (λ (f : RoutineTree). called f.body) (items_of r.routines) →
    gs ≡ r.globals.items → fs ≡ items_of r.routines →
    IfOk o (λ all. map entry_of (listed all) ≡ entries_from (map (λ g. global_of g.now) gs) table 0 (routines_of unlimited.turns 0 fs)) →
    IfOk o (λ all. AreWatched r (listed all))
if_watched listed r table gs fs (Ok all) are same_gs same_fs h =
    are_watched r (listed all) table are (h ∙ ap (λ (x : List (Bor Global)). entries_from (map (λ g. global_of g.now) x) table 0 (routines_of unlimited.turns 0 fs)) same_gs
    ∙ ap (λ (x : List RoutineTree). entries_from (map (λ g. global_of g.now) r.globals.items) table 0 (routines_of unlimited.turns 0 x)) same_fs)
if_watched listed r table gs fs (Err e) are same_gs same_fs h = tt
