-- Scenes whose facts are alike: outlines with marked calls count alike.
use Rattle.std.proofs.Common.{◌≡◌, ℕ, ◌+◌, ◌*◌, Bool, true, false, cond, ◌||◌, List, ◌++◌, map, refl, ap, subst, ◌∙◌}
use Rattle.std.specs.List.{list_any}
use Rattle.prem_asm.specs.Pieces.{size_of, branch_of}
use Rattle.prem_layout.specs.Template.Steps.{Parts}
use Rattle.prem_layout.specs.Template.Terms.{nonzero}
use Rattle.prem_layout.specs.Footprint.{lines_of}
use Rattle.prem_layout.specs.Plans.{Plan}
use Rattle.prem_layout.specs.Bounds.{job_weight}
use Rattle.prem_layout.specs.Stretch.Sums.{taking}
use Rattle.prem_bounds.specs.Scale.{clipped}
use Rattle.prem_bounds.proofs.AlikeSums.{chained_alike, among_alike, turned_alike}
use Rattle.prem_wcet_laws.specs.Counts.{PathCount, quiet, then_count, either_count, turned_count, marked_count}
use Rattle.prem_wcet_laws.specs.Scopes.{Fact, Scene, Span, fact_of, code_ranges, data_ranges, charge_with}
use Rattle.prem_wcet_laws.specs.Least.{own, own_jump}
use Rattle.prem_wcet_laws.specs.Parted.{cuts, by_cut, Edge, no_edge, bottom_of, called_parted, turn_count}
use Rattle.prem_wcet.specs.Same.{AreSame}
use Rattle.prem_wcet.specs.Alike.{AreAlike, FactsAlike}
use Rattle.prem_wcet.specs.Outlines.{Outline, ended, plain, calling, choice, turning, cut_in, front_in, edge_in, landing_in, between, data_between, below_in, callees_of}
use Rattle.prem_wcet.specs.Outlines.{passage_in, choice_parted, first_place, second_place, inner_place, closed_in, parted_in, least_in}
use Rattle.prem_wcet.proofs.SameRanges.{same_append, same_lines}
use Rattle.prem_wcet.proofs.AlikeScopes.{Alike, alike_sum, alike_min, alike_max, alike_product, other_scene, code_same, data_same, with_same, least_alike}

-- ---- counts

quiet_alike : (a b : ℕ) → Alike a b → AreAlike (quiet a) (quiet b)
quiet_alike a b f = record { total = f; sums = ap taking f }

pub then_alike : (a b c d : PathCount) → AreAlike a b → AreAlike c d → AreAlike (then_count a c) (then_count b d)
then_alike a b c d f g = record { total = alike_sum a.total b.total c.total d.total f.total g.total; sums = chained_alike a.sums c.sums b.sums d.sums f.sums g.sums }

pub either_alike : (a b c d : PathCount) → AreAlike a b → AreAlike c d → AreAlike (either_count a c) (either_count b d)
either_alike a b c d f g = record { total = alike_max a.total b.total c.total d.total f.total g.total; sums = among_alike a.sums c.sums b.sums d.sums f.sums g.sums }

turned_count_alike : (turns : ℕ) (a b c d : PathCount) → AreAlike a b → AreAlike c d → AreAlike (turned_count turns a c) (turned_count turns b d)
turned_count_alike turns a b c d f g = record {
  total = alike_sum (turns * a.total) (turns * b.total) c.total d.total (alike_product turns a.total b.total f.total) g.total;
  sums = turned_alike turns a.sums c.sums b.sums d.sums f.sums g.sums;
}

same_count : (a : PathCount) → AreAlike a a
same_count a = record { total = refl; sums = refl }

module _ (e : Scene) (parts : Parts) (plans : List Plan) (stub : ℕ → ℕ) (facts : List Fact)
    (same : (f : ℕ) → FactsAlike (fact_of e f) (fact_of (other_scene e parts plans stub facts) f)) (pieces : map (λ (f : Fact). f.pieces) e.facts ≡ map (λ (f : Fact). f.pieces) facts)
    (frame : (f : ℕ) → e.parts.frame f ≡ parts.frame f) (marks : (f : ℕ) → e.marked f ≡ true → marked_count e.plant e.plans (e.stub f) ≡ marked_count e.plant plans (stub f)) where
  abbrev v : Scene
  v = other_scene e parts plans stub facts

  cuts_same : cuts e ≡ cuts v
  cuts_same = λ i f. e.marked f || (same f).cuts i

  cut_same : (o : Outline) → cut_in e o ≡ cut_in v o
  cut_same o = λ i. list_any (cuts_same i) (callees_of o)

  front_same : (o : Outline) → front_in e o ≡ front_in v o
  front_same ended = refl
  front_same (plain code names rest) = ap (plain code names) (front_same rest)
  front_same (calling code names arguments count callee landing rest) =
      λ i. by_cut (cut_same (calling code names arguments count callee landing ended) i) ended (calling code names arguments count callee landing (front_same rest i))
  front_same (choice code names condition skips taken other rest) =
      λ i. by_cut (cut_same (choice code names condition skips taken other ended) i) ended (choice code names condition skips taken other (front_same rest i))
  front_same (turning code names first turns head before body behind rest) =
      λ i. by_cut (cut_same (turning code names first turns head before body behind ended) i) ended (turning code names first turns head before body behind (front_same rest i))

  edge_same : (last : Edge) (o : Outline) → edge_in e last o ≡ edge_in v last o
  edge_same last ended = refl
  edge_same last (plain code names rest) = edge_same last rest
  edge_same last (calling code names arguments count callee landing rest) =
      λ i. by_cut (cut_same (calling code names arguments count callee landing ended) i)
      (record { pieces = arguments; globals = names; below = below_in (bottom_of e.stack) (frame callee i) count }) (edge_same last rest i)
  edge_same last (choice code names condition skips taken other rest) =
      λ i. by_cut (cut_same (choice code names condition skips taken other ended) i) no_edge (edge_same last rest i)
  edge_same last (turning code names first turns head before body behind rest) =
      λ i. by_cut (cut_same (turning code names first turns head before body behind ended) i) no_edge (edge_same last rest i)

  between_same : (before : Edge) (o : Outline) (last : Edge) → AreSame (data_between e before o last) (data_between v before o last)
  between_same before o last =
      same_append (data_ranges e (between before o last)) (data_ranges v (between before o last)) (before.below ++ last.below) (before.below ++ last.below)
      (data_same e parts plans stub facts same pieces (between before o last)) (λ p. refl)

  passage_alike : (at : ℕ) (before : Edge) (o : Outline) (last : Edge) → Alike (passage_in e at before o last) (passage_in v at before o last)
  passage_alike at before o last =
      let s : Span = between before o last in
      let held = same_lines e.plant.line (data_between e before o last) (data_between v before o last) (between_same before o last) in
      let lines = same_lines e.plant.line (code_ranges e at s ++ data_between e before o last) (code_ranges v at s ++ data_between v before o last)
      (same_append (code_ranges e at s) (code_ranges v at s) (data_between e before o last) (data_between v before o last)
      (code_same e parts plans stub facts same pieces at s) (between_same before o last)) in
      alike_min _ _ _ _
      (ap clipped (with_same e parts plans stub facts same pieces at s (lines_of e.plant.line (code_ranges e at s ++ data_between e before o last))
      (lines_of e.plant.line (data_between e before o last))
      ∙ (λ i. charge_with v at s (lines i) (held i))))
      (alike_sum (own e before.pieces + least_in e (at + size_of before.pieces) o) (own e before.pieces + least_in v (at + size_of before.pieces) o) (own e last.pieces) (own e last.pieces)
      (alike_sum (own e before.pieces) (own e before.pieces) _ _ refl (least_alike e parts plans stub facts same pieces (at + size_of before.pieces) o)) refl)

  -- the first passage of some statements
  opening_alike : (at : ℕ) (edge last : Edge) (o : Outline) → AreAlike (quiet (passage_in e at edge (front_in e o) (edge_in e last o))) (quiet (passage_in v at edge (front_in v o) (edge_in v last o)))
  opening_alike at edge last o =
      quiet_alike _ _ (passage_alike at edge (front_in e o) (edge_in e last o) ∙ ap clipped (λ i. passage_in v at edge (front_same o i) (edge_same last o i)))

  called_alike : (f : ℕ) → AreAlike (called_parted e f) (called_parted v f)
  called_alike f = by_mark (e.marked f) refl where
    by_mark : (b : Bool) → e.marked f ≡ b → AreAlike (cond b (marked_count e.plant e.plans (e.stub f)) (fact_of e f).parted) (cond b (marked_count e.plant plans (stub f)) (fact_of v f).parted)
    by_mark true is = subst (AreAlike (marked_count e.plant e.plans (e.stub f))) (marks f is) (same_count (marked_count e.plant e.plans (e.stub f)))
    by_mark false is = (same f).parted

  choice_alike : (skips : ℕ) (a b c d : PathCount) → AreAlike a b → AreAlike c d → AreAlike (choice_parted e skips a c) (choice_parted v skips b d)
  choice_alike skips a b c d f g =
      then_alike _ _ _ _ (same_count (quiet (job_weight e.plant (branch_of (nonzero 10)))))
      (either_alike _ _ _ _ (then_alike a b _ _ f (same_count (quiet (skips * own_jump e)))) (then_alike _ _ c d (same_count (quiet (own_jump e))) g))

  turn_alike : (turns h : ℕ) (a b : PathCount) → AreAlike a b → AreAlike (turn_count e turns (nonzero 10) h a) (turn_count v turns (nonzero 10) h b)
  turn_alike turns h a b f =
      let w : ℕ = job_weight e.plant (branch_of (nonzero 10)) in
      turned_count_alike turns _ _ _ _ (then_alike _ _ _ _ (same_count (quiet (h + w))) (then_alike a b _ _ f (same_count (quiet (own_jump e))))) (same_count (quiet (h + w + own_jump e)))

  by_cut_alike : (o : Outline) (a b c d : PathCount) → AreAlike a b → AreAlike c d → AreAlike (by_cut (cut_in e o) a c) (by_cut (cut_in v o) b d)
  by_cut_alike o a b c d f g = subst (λ x. AreAlike (by_cut (cut_in e o) a c) (by_cut x b d)) (cut_same o) (by_bool (cut_in e o)) where
    by_bool : (x : Bool) → AreAlike (by_cut x a c) (by_cut x b d)
    by_bool true = f
    by_bool false = g

  closed_alike : (last : Edge) (at : ℕ) (o : Outline) → AreAlike (closed_in e last at o) (closed_in v last at o)
  closed_alike last at ended = same_count (quiet 0)
  closed_alike last at (plain code names rest) = closed_alike last (at + size_of code) rest
  closed_alike last at (calling code names arguments count callee landing rest) =
      let there : ℕ = at + size_of code in
      by_cut_alike (calling code names arguments count callee landing ended) _ _ _ _
      (then_alike _ _ _ _ (then_alike _ _ _ _ (same_count (quiet (own_jump e))) (called_alike callee))
      (then_alike _ _ _ _ (opening_alike (at + size_of arguments + 4) (landing_in landing) last rest) (closed_alike last there rest)))
      (closed_alike last there rest)
  closed_alike last at (choice code names condition skips taken other rest) =
      let one : ℕ = first_place at condition in
      let two : ℕ = second_place at condition taken skips in
      let there : ℕ = at + size_of code in
      by_cut_alike (choice code names condition skips taken other ended) _ _ _ _
      (then_alike _ _ _ _
      (then_alike _ _ _ _ (same_count (quiet (own e condition)))
      (choice_alike skips _ _ _ _ (then_alike _ _ _ _ (opening_alike one no_edge no_edge taken) (closed_alike no_edge one taken))
      (then_alike _ _ _ _ (opening_alike two no_edge no_edge other) (closed_alike no_edge two other))))
      (then_alike _ _ _ _ (opening_alike there no_edge last rest) (closed_alike last there rest)))
      (closed_alike last there rest)
  closed_alike last at (turning code names first turns head before body behind rest) =
      let one : ℕ = inner_place at first head before in
      let there : ℕ = at + size_of code in
      by_cut_alike (turning code names first turns head before body behind ended) _ _ _ _
      (then_alike _ _ _ _
      (then_alike _ _ _ _ (same_count (quiet (own e first)))
      (turn_alike turns (own e head) _ _
      (then_alike _ _ _ _ (same_count (quiet (own e before)))
      (then_alike _ _ _ _ (then_alike _ _ _ _ (opening_alike one no_edge no_edge body) (closed_alike no_edge one body)) (same_count (quiet (own e behind)))))))
      (then_alike _ _ _ _ (opening_alike there no_edge last rest) (closed_alike last there rest)))
      (closed_alike last there rest)

  pub parted_alike : (at : ℕ) (before last : Edge) (o : Outline) → AreAlike (parted_in e at before last o) (parted_in v at before last o)
  parted_alike at before last o = then_alike _ _ _ _ (opening_alike at before last o) (closed_alike last (at + size_of before.pieces) o)
