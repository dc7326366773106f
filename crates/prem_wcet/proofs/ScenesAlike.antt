-- A scene in memory stands for one of the definitions': what it tells of functions is alike.
use Rattle.std.proofs.Common.{◌≡◌, ℕ, ◌+◌, ◌||◌, min, true, [], ◌∷◌, ◌++◌, map, ap, subst, ◌∙◌, arith}
use Rattle.std.specs.List.{list_any}
use Rattle.prem_list.specs.Sequence.{items_of}
use Rattle.prem_syntax.specs.Resolved.{Routine}
use Rattle.prem_asm.specs.Pieces.{Pieces, straight, size_of}
use Rattle.prem_asm.specs.PiecesOf.{pieces_of}
use Rattle.prem_layout.specs.Template.Frames.{frame_of, locals_of}
use Rattle.prem_layout.specs.Template.Steps.{closing, function_code, opening, result_code}
use Rattle.prem_layout.specs.Template.Terms.{only}
use Rattle.prem_layout.specs.Bounds.{job_weight}
use Rattle.prem_bounds.specs.Scale.{clipped}
use Rattle.prem_wcet_laws.specs.Counts.{PathCount, marked_count}
use Rattle.prem_wcet_laws.specs.Scopes.{Span, Scene, Fact, fact_of, code_ranges, data_ranges, charge, function_span}
use Rattle.prem_wcet_laws.specs.Least.{own, own_around, body_at, declared, least, least_function}
use Rattle.prem_wcet_laws.specs.Parted.{cuts, has_cut, parted_function}
use Rattle.prem_wcet_laws.specs.Wcet.{fact_at}
use Rattle.prem_wcet_laws.proofs.Ordered.{weighted-followed}
use Rattle.prem_wcet.specs.Alike.{AreAlike, FactsAlike}
use Rattle.prem_wcet.specs.CountOf.{count_in}
use Rattle.prem_wcet.specs.Cut.{IsFunction}
use Rattle.prem_wcet.specs.EdgesOf.{entry_of, leaving_of, function_parted}
use Rattle.prem_wcet.specs.Functions.{function_least, function_span_in}
use Rattle.prem_wcet.specs.KnownOf.{IsFact}
use Rattle.prem_wcet.specs.Outlines.{Outline, callees_of, cut_in, least_in, names_of, parted_in}
use Rattle.prem_wcet.specs.PartsOf.{parts_of}
use Rattle.prem_wcet.specs.Same.{AreSame}
use Rattle.prem_wcet.specs.SceneOf.{fact_in}
use Rattle.prem_wcet.specs.declared.outline.Outline.{Outline as OutlineTree}
use Rattle.prem_wcet.specs.declared.scene.Fact.{Fact as FactTree}
use Rattle.prem_wcet.proofs.AlikeParted.{parted_alike}
use Rattle.prem_wcet.proofs.AlikeScopes.{Alike, alike_min, alike_sum, other_scene, charge_same, code_same, data_same, least_alike}
use Rattle.prem_wcet.proofs.FunctionFits.{function_counts}
use Rattle.prem_wcet.proofs.OnceSame.{edges_same, code_same as once_code}
use Rattle.prem_wcet.proofs.OutlineCode.{callees_are, names_are}
use Rattle.prem_wcet.proofs.OutlineLeast.{least_is}

-- the same but for how marked calls are told, with facts that are alike
pub record StandsFor (e v : Scene) : Type 0 where
  pub same : other_scene e v.parts v.plans v.stub v.facts ≡ v
  pub each : (f : ℕ) → FactsAlike (fact_of e f) (fact_of v f)
  pub pieces : map (λ (f : Fact). f.pieces) e.facts ≡ map (λ (f : Fact). f.pieces) v.facts
  pub frame : (f : ℕ) → e.parts.frame f ≡ v.parts.frame f
  pub marks : (f : ℕ) → e.marked f ≡ true → marked_count e.plant e.plans (e.stub f) ≡ marked_count e.plant v.plans (v.stub f)

pub alike_trans : (a b c : PathCount) → AreAlike a b → AreAlike b c → AreAlike a c
alike_trans a b c f g = record { total = f.total ∙ g.total; sums = f.sums ∙ g.sums }

module _ (e v : Scene) (s : StandsFor e v) where
  pub charges : (at : ℕ) (x : Span) → charge e at x ≡ charge v at x
  charges at x = charge_same e v.parts v.plans v.stub v.facts s.each s.pieces at x ∙ ap (λ z. charge z at x) s.same

  pub leasts : (at : ℕ) (o : Outline) → Alike (least_in e at o) (least_in v at o)
  leasts at o = least_alike e v.parts v.plans v.stub v.facts s.each s.pieces at o ∙ ap (λ z. clipped (least_in z at o)) s.same

  pub owns : (ps : Pieces) → own e ps ≡ own v ps
  owns ps = ap (λ z. own z ps) s.same

  codes : (at : ℕ) (x : Span) → AreSame (code_ranges e at x) (code_ranges v at x)
  codes at x = subst (λ z. AreSame (code_ranges e at x) (code_ranges z at x)) s.same (code_same e v.parts v.plans v.stub v.facts s.each s.pieces at x)

  datas : (x : Span) → AreSame (data_ranges e x) (data_ranges v x)
  datas x = subst (λ z. AreSame (data_ranges e x) (data_ranges z x)) s.same (data_same e v.parts v.plans v.stub v.facts s.each s.pieces x)

  cutting : cuts e ≡ cuts v
  cutting = (λ i f. e.marked f || (s.each f).cuts i) ∙ ap cuts s.same

  -- ---- a function

  module _ (f : Routine) (at : ℕ) (ps : Pieces) (o : OutlineTree) (code : ps ≡ function_code v.parts f) (is : IsFunction v f o) where
    abbrev body : Outline
    body = parts_of (items_of o.body)

    span_is : function_span_in ps o ≡ function_span v f
    span_is = λ i. record {
      pieces = code i;
      globals = is.entry_names i ++ ((ap names_of is.body ∙ names_are v (locals_of f) f.body) i ++ is.leaving_names i);
      callees = (ap callees_of is.body ∙ callees_are v (locals_of f) f.body) i;
    }

    cut_is : cut_in e body ≡ has_cut v f.body
    cut_is = (λ i. list_any (cutting i) ((ap callees_of is.body ∙ callees_are v (locals_of f) f.body) i))

    -- at the rule's weights, what stands around its statements
    around_is : own v (pieces_of o.entry.now) + own v (pieces_of o.leaving.now) ≡ own_around v f
    around_is =
        let last : Pieces = only (closing (frame_of f)) in
        let result : Pieces = result_code v.parts.target v.parts.global f.result in
        sum _ _ _ _ _ _ _ (ap (own v) is.entry) (ap (own v) is.leaving) (weighted-followed (job_weight v.plant) (λ part. 0) result last)
      where
        sum : (a b o d r c l : ℕ) → a ≡ o + d → b ≡ l → l ≡ r + c → a + b ≡ ((o + 0) + d) + (r + c)
        sum a b o d r c l x y z = omega (arith, x, y, z)

    least_at : least_in v (at + size_of (pieces_of o.entry.now)) body ≡ least v (locals_of f) (body_at v f at) f.body
    least_at =
        let there : at + size_of (pieces_of o.entry.now) ≡ body_at v f at = ap (λ k. at + size_of k) is.entry ∙ place in
        (λ i. least_in v (there i) (is.body i)) ∙ least_is v (locals_of f) (body_at v f at) f.body
      where
        place : at + size_of (straight (opening (frame_of f)) (declared v f)) ≡ body_at v f at
        place = omega arith

    function_least_is : function_least v at ps o ≡ least_function v f at
    function_least_is = λ i. min (charge v at (span_is i)) (around_is i + least_at i)

    function_least_alike : Alike (function_least e at ps o) (least_function v f at)
    function_least_alike =
        alike_min (charge e at (function_span_in ps o)) (charge v at (function_span_in ps o)) _ _ (ap clipped (charges at (function_span_in ps o)))
        (alike_sum (own e (pieces_of o.entry.now) + own e (pieces_of o.leaving.now)) (own v (pieces_of o.entry.now) + own v (pieces_of o.leaving.now)) _ _
        (ap clipped (λ i. owns (pieces_of o.entry.now) i + owns (pieces_of o.leaving.now) i)) (leasts (at + size_of (pieces_of o.entry.now)) body))
        ∙ ap clipped function_least_is

    function_parted_alike : AreAlike (function_parted e at o) (parted_function v f at)
    function_parted_alike =
        subst (AreAlike (function_parted e at o)) (ap (λ z. parted_in z at (entry_of o) (leaving_of o) body) s.same ∙ function_counts v f o at is)
        (parted_alike e v.parts v.plans v.stub v.facts s.each s.pieces s.frame s.marks at (entry_of o) (leaving_of o) body)

    clipped_alike : (n m : ℕ) → n ≡ clipped m → Alike n m
    clipped_alike n m e = omega (arith, e)

    -- what is told of it is alike
    pub fact_alike : (fact : FactTree) → IsFact e at ps o fact → FactsAlike (fact_in fact ps) (fact_at v f at)
    fact_alike fact told =
        let x : Span = function_span_in ps o in
        record {
          pieces = code;
          code = λ p. ap (list_any p) told.code ∙ once_code e ((at, at + size_of ps) ∷ []) body p ∙ codes at x p ∙ ap (λ y. list_any p (code_ranges v at y)) span_is;
          touched = λ p.
              ap (list_any p) told.touched ∙ edges_same e e.stack body (items_of o.entry_names) (items_of o.leaving_names) p ∙ datas x p ∙ ap (λ y. list_any p (data_ranges v y)) span_is;
          cuts = told.cuts ∙ cut_is;
          least = clipped_alike fact.least (function_least e at ps o) told.least ∙ function_least_alike;
          parted = alike_trans (count_in fact.parted) (function_parted e at o) (parted_function v f at) told.parted function_parted_alike;
        }
