-- What is seen of all functions is what the rules on ranges say of the program.
use Rattle.std.proofs.Common.{◌≡◌, ℕ, zero, suc, ◌+◌, ◌<◌, List, [], ◌∷◌, ◌++◌, map, length, refl, ap, sym, ◌∙◌, arith, None, Some, subst}
use Rattle.prem_analysis.proofs.Prelude.{AllRanged, site_at, plain_routine, behind_routine, behind_routines, AreWatched, Seen, Marked, items_of, first_none, first_assoc, first_of_append}
use Rattle.prem_analysis.proofs.Prelude.{well_formed_is_typed, known_parameter, bounds_in, range_breaches, Site, in_routine, in_routines, first, first_of, first_range_breach, turn_bounds}
use Rattle.prem_analysis.proofs.Prelude.{Watch, Ranged, AlikeRoutine, alike_done, ProgramHasWords, IsWellFormed, Resolved, unlimited, FunctionText, ProgramText, function_of, loops_of}
use Rattle.prem_analysis.proofs.Prelude.{routine_of, routines_of, IsResolved, resolved_of, Routine as RoutineTree, append-nil, append_assoc, slice_get}
use Rattle.prem_analysis.proofs.Behind.{seen, same_seen}
use Rattle.prem_analysis.proofs.RangingLemmas.PlainSteps.{plain-alike}
use Rattle.prem_ranges.proofs.Alike.{SameSite, in_routine-alike, bounds_in-alike}
use Rattle.prem_ranges.specs.RangeBreaches.{site_of}
use Rattle.prem_syntax.specs.Resolved.{Routine}
use Rattle.prem_tree.specs.declared.resolve.resolved.Resolved.{Resolved as ResolvedTree}
use Rattle.std.specs.List.{flat_map}

-- a function with no turns is the function with any turns, but for these
routine-alike : (t : ℕ → ℕ) (n : ℕ) (r : RoutineTree) → AlikeRoutine (λ _ _. ℕ) (plain_routine r) (routine_of t n r)
routine-alike t n r = record { text = refl; locals = refl; result = refl; body = plain-alike t n r.body alike_done }

abbrev with_watches : Resolved → List Watch → Site
with_watches p w = record { globals = p.globals; routines = p.routines; watches = w }

same_site : (site : Site) → SameSite site site
same_site site = record { globals = refl; watches = refl; parameters = λ f. refl }

turns_aside : (site : Site) (t : ℕ → ℕ) (n : ℕ) (r : RoutineTree) (s : Seen) → behind_routine site (plain_routine r) s ≡ behind_routine site (routine_of t n r) s
turns_aside site t n r s =
    same_seen _ _ _ _ (ap (λ l. s.bounds ++ l) (bounds_in-alike (routine-alike t n r))) (ap (λ l. first s.found (first_of l)) (in_routine-alike (routine-alike t n r) site site (same_site site)))

-- the functions from number n on
pub all_seen : (at : ℕ → Site) (p : Resolved) (t : ℕ → ℕ) (m n : ℕ) (rs : List RoutineTree) (s : Seen) → ((k : ℕ) → k < n + length rs → at k ≡ site_of p k) →
    behind_routines at n rs s ≡ seen (s.bounds ++ flat_map bounds_in (routines_of t m rs)) (first s.found (first_of (in_routines p n (routines_of t m rs))))
all_seen at p t m n [] s same = same_seen _ _ _ _ (sym (append-nil s.bounds)) (sym (first_none s.found))
all_seen at p t m n (r ∷ rs) s same =
    let f = routine_of t m r in let fs = routines_of t (m + loops_of r.body) rs in
    let s' = behind_routine (site_of p n) f s in
    ap (λ x. behind_routines at (n + 1) rs (behind_routine x (plain_routine r) s)) (same n (omega arith))
    ∙ ap (behind_routines at (n + 1) rs) (turns_aside (site_of p n) t m r s)
    ∙ all_seen at p t (m + loops_of r.body) (n + 1) rs s' (λ k below. same k (omega arith))
    ∙ same_seen _ _ _ _ (append_assoc s.bounds (bounds_in f) (flat_map bounds_in fs))
    (first_assoc s.found (first_of (in_routine (site_of p n) f)) (first_of (in_routines p (n + 1) fs))
    ∙ ap (first s.found) (sym (first_of_append (in_routine (site_of p n) f) (in_routines p (n + 1) fs))))

pub program_seen : (r : ResolvedTree) (marked : List Marked) → AreWatched r marked →
    behind_routines (site_at r.globals.items (items_of r.routines) marked) 0 (items_of r.routines) (seen [] None)
    ≡ seen (flat_map bounds_in (resolved_of unlimited.turns r).routines) (first_of (range_breaches (resolved_of unlimited.turns r)))
program_seen r marked watched =
    let p = resolved_of unlimited.turns r in
    all_seen (site_at r.globals.items (items_of r.routines) marked) p unlimited.turns 0 0 (items_of r.routines) (seen [] None)
    (λ k below. ap (λ (w : List Watch). with_watches p w) (watched.each k (omega arith)))

-- ---- well-formed programs

record Numbered (t : ℕ → ℕ) (m : ℕ) (rs : List RoutineTree) (n : ℕ) (r : RoutineTree) : Type 0 where
  pub routine : Routine
  pub there : slice_get (routines_of t m rs) n ≡ Some routine
  pub text : routine.text ≡ function_of r.text.now

numbered : (t : ℕ → ℕ) (m : ℕ) (rs : List RoutineTree) (n : ℕ) (r : RoutineTree) → slice_get rs n ≡ Some r → Numbered t m rs n r
numbered t m [] n r is = cc
numbered t m (q ∷ qs) zero r is = let same : q ≡ r = cc in record { routine = routine_of t m q; there = refl; text = ap (λ (x : RoutineTree). function_of x.text.now) same }
numbered t m (q ∷ qs) (suc n) r is = let k = numbered t (m + loops_of q.body) qs n r is in record { routine = k.routine; there = k.there; text = k.text }

-- the parameters of a well-formed program have ranges of their kinds
pub all_ranged : (r : ResolvedTree) (p : ProgramText) → IsResolved r p → IsWellFormed p → ProgramHasWords p → AllRanged (items_of r.routines)
all_ranged r p is formed words = record {
  each = λ n q there.
      let k = numbered unlimited.turns 0 (items_of r.routines) n q there in
      let in_program = sym (ap (λ (x : Resolved). slice_get x.routines n) (is.same unlimited.turns)) ∙ k.there in
      subst (λ (f : FunctionText). Ranged (map known_parameter f.params)) k.text ((well_formed_is_typed p formed words unlimited.turns).each n k.routine in_program).parameters;
}

-- the first breach and the turn bounds of a tree are those of its program
pub is_first_range_breach : (r : ResolvedTree) (p : ProgramText) → IsResolved r p → first_of (range_breaches (resolved_of unlimited.turns r)) ≡ first_range_breach p
unfolding first_range_breach
is_first_range_breach r p is = ap (λ (x : Resolved). first_of (range_breaches x)) (is.same unlimited.turns)

pub are_turn_bounds : (r : ResolvedTree) (p : ProgramText) → IsResolved r p → flat_map bounds_in (resolved_of unlimited.turns r).routines ≡ turn_bounds p
unfolding turn_bounds
are_turn_bounds r p is = ap (λ (x : Resolved). flat_map bounds_in x.routines) (is.same unlimited.turns)
