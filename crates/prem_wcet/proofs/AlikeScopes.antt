-- Scenes whose facts are alike: scopes have the same charges, and outlines count alike.
use Rattle.std.proofs.Common.{◌≡◌, ℕ, ◌+◌, ◌*◌, ◌^◌, min, max, Bool, true, false, cond, List, [], ◌∷◌, ◌++◌, length, map, refl, ap, sym, ◌∙◌, arith}
use Rattle.std.specs.List.{list_all}
use Rattle.prem_asm.specs.Pieces.{Pieces, size_of, branch_of}
use Rattle.prem_layout.specs.Template.Steps.{Parts}
use Rattle.prem_layout.specs.Template.Terms.{nonzero}
use Rattle.prem_layout.specs.Plans.{Plan}
use Rattle.prem_layout.specs.Parts.{code_part}
use Rattle.prem_layout.specs.Bounds.{job_weight, line_cost, part_weight, weight_at}
use Rattle.prem_bounds.specs.Scale.{clipped}
use Rattle.prem_bounds.proofs.Sums.{clipped_times}
use Rattle.prem_wcet_laws.specs.Weights.{PlaceWeight, weighted_from}
use Rattle.prem_wcet_laws.specs.Scopes.{Fact, Scene, Span, fact_of, code_ranges, data_ranges, data_lines, lines_in, places_behind, roomy_lines, is_roomy, scope_weight, charge_with, charge}
use Rattle.prem_wcet_laws.specs.Least.{own, own_jump, own_turns, called_least}
use Rattle.prem_wcet.specs.Same.{AreSame}
use Rattle.prem_wcet.specs.Alike.{FactsAlike}
use Rattle.prem_wcet.specs.Outlines.{Outline, ended, plain, calling, choice, turning, coded_span, span_in, choice_by, first_place, second_place, inner_place, apart_in, least_in}
use Rattle.prem_wcet.proofs.SameRanges.{same_append, same_flat, same_lines}

-- ---- numbers that are told alike

abbrev pub Alike : ℕ → ℕ → Type 0
Alike a b = clipped a ≡ clipped b

pub alike_sum : (a b c d : ℕ) → Alike a b → Alike c d → Alike (a + c) (b + d)
alike_sum a b c d e f = omega arith

pub alike_min : (a b c d : ℕ) → Alike a b → Alike c d → Alike (min a c) (min b d)
alike_min a b c d e f = omega arith

pub alike_max : (a b c d : ℕ) → Alike a b → Alike c d → Alike (max a c) (max b d)
alike_max a b c d e f = omega arith

pub alike_product : (n a b : ℕ) → Alike a b → Alike (n * a) (n * b)
alike_product n a b e = sym (clipped_times n a (2 ^ 41)) ∙ ap (λ k. clipped (n * k)) e ∙ clipped_times n b (2 ^ 41)

-- ---- the weights of functions go by their pieces

abbrev behind_pieces : PlaceWeight → (functions : ℕ) → (places : ℕ → ℕ) → List ℕ → List Pieces → List ℕ
behind_pieces w functions places known [] = known
behind_pieces w functions places known (ps ∷ pss) =
    behind_pieces w functions places (known ++ weighted_from w (part_weight functions (weight_at known) (λ k. 0)) (places (code_part (length known))) ps ∷ []) pss

by_pieces : (w : PlaceWeight) (functions : ℕ) (places : ℕ → ℕ) (fs : List Fact) (known : List ℕ) →
    places_behind w functions places known fs ≡ behind_pieces w functions places known (map (λ (f : Fact). f.pieces) fs)
by_pieces w functions places [] known = refl
by_pieces w functions places (f ∷ fs) known =
    by_pieces w functions places fs (known ++ weighted_from w (part_weight functions (weight_at known) (λ k. 0)) (places (code_part (length known))) f.pieces ∷ [])

-- ---- two scenes

-- the same but for the facts, and for how marked calls are told
abbrev pub other_scene : Scene → Parts → List Plan → (ℕ → ℕ) → List Fact → Scene
other_scene e parts plans stub facts = record e { parts = parts; plans = plans; stub = stub; facts = facts }

module _ (e : Scene) (parts : Parts) (plans : List Plan) (stub : ℕ → ℕ) (facts : List Fact)
    (same : (f : ℕ) → FactsAlike (fact_of e f) (fact_of (other_scene e parts plans stub facts) f)) (pieces : map (λ (f : Fact). f.pieces) e.facts ≡ map (λ (f : Fact). f.pieces) facts) where
  abbrev v : Scene
  v = other_scene e parts plans stub facts

  pub code_same : (at : ℕ) (s : Span) → AreSame (code_ranges e at s) (code_ranges v at s)
  code_same at s = same_append ((at, at + size_of s.pieces) ∷ []) ((at, at + size_of s.pieces) ∷ []) _ _ (λ p. refl)
      (same_flat (λ f. (fact_of e f).code) (λ f. (fact_of v f).code) (λ f. (same f).code) s.callees)

  pub data_same : (s : Span) → AreSame (data_ranges e s) (data_ranges v s)
  data_same s =
      same_append e.stack e.stack _ _ (λ p. refl)
      (same_append (map e.global s.globals) (map e.global s.globals) _ _ (λ p. refl) (same_flat (λ f. (fact_of e f).touched) (λ f. (fact_of v f).touched) (λ f. (same f).touched) s.callees))

  pub with_same : (at : ℕ) (s : Span) (lines held : List ℕ) → charge_with e at s lines held ≡ charge_with v at s lines held
  with_same at s lines held =
      let w : PlaceWeight = scope_weight e.plant lines (list_all (is_roomy e.plant lines) held) in
      let known : places_behind w e.functions e.places [] e.facts ≡ places_behind w e.functions e.places [] facts =
      by_pieces w e.functions e.places e.facts [] ∙ ap (behind_pieces w e.functions e.places []) pieces ∙ sym (by_pieces w e.functions e.places facts []) in
      ap (λ ws. length (roomy_lines e.plant lines) * line_cost e.plant + weighted_from w (part_weight e.functions (weight_at ws) (λ k. 0)) at s.pieces) known

  pub charge_same : (at : ℕ) (s : Span) → charge e at s ≡ charge v at s
  charge_same at s =
      with_same at s (lines_in e at s) (data_lines e s)
      ∙ (λ i. charge_with v at s
      (same_lines e.plant.line (code_ranges e at s ++ data_ranges e s) (code_ranges v at s ++ data_ranges v s)
      (same_append (code_ranges e at s) (code_ranges v at s) (data_ranges e s) (data_ranges v s) (code_same at s) (data_same s)) i)
      (same_lines e.plant.line (data_ranges e s) (data_ranges v s) (data_same s) i))

  -- ---- least charges

  called_alike : (f : ℕ) → Alike (called_least e f) (called_least v f)
  called_alike f = by_mark (e.marked f) where
    by_mark : (b : Bool) → Alike (cond b 0 (fact_of e f).least) (cond b 0 (fact_of v f).least)
    by_mark true = refl
    by_mark false = (same f).least

  choice_alike : (skips a b c d : ℕ) → Alike a b → Alike c d → Alike (choice_by e skips a c) (choice_by v skips b d)
  choice_alike skips a b c d f g =
      alike_sum _ _ _ _ refl (alike_max (a + skips * own_jump e) (b + skips * own_jump e) (own_jump e + c) (own_jump e + d) (alike_sum a b _ _ f refl) (alike_sum _ _ c d refl g))

  turns_alike : (turns h a b : ℕ) → Alike a b → Alike (own_turns e turns (nonzero 10) h a) (own_turns v turns (nonzero 10) h b)
  turns_alike turns h a b f =
      let w : ℕ = job_weight e.plant (branch_of (nonzero 10)) in
      alike_sum (turns * (h + w + a + own_jump e)) (turns * (h + w + b + own_jump e)) _ _
      (alike_product turns (h + w + a + own_jump e) (h + w + b + own_jump e)
      (alike_sum (h + w + a) (h + w + b) _ _ (alike_sum (h + w) (h + w) a b refl f) refl)) refl

  pub apart_alike : (at : ℕ) (o : Outline) → Alike (apart_in e at o) (apart_in v at o)
  apart_alike at ended = refl
  apart_alike at (plain code names rest) =
      alike_sum _ _ _ _ (alike_min _ _ _ _ (ap clipped (charge_same at (coded_span code (plain code names ended)))) refl) (apart_alike (at + size_of code) rest)
  apart_alike at (calling code names arguments count callee landing rest) =
      alike_sum _ _ _ _
      (alike_min _ _ _ _ (ap clipped (charge_same at (coded_span code (calling code names arguments count callee landing ended))))
      (alike_sum (own e arguments + own_jump e + called_least e callee) (own e arguments + own_jump e + called_least v callee) _ _
      (alike_sum (own e arguments + own_jump e) (own e arguments + own_jump e) _ _ refl (called_alike callee)) refl))
      (apart_alike (at + size_of code) rest)
  apart_alike at (choice code names condition skips taken other rest) =
      let one : ℕ = first_place at condition in
      let two : ℕ = second_place at condition taken skips in
      alike_sum _ _ _ _
      (alike_min _ _ _ _ (ap clipped (charge_same at (coded_span code (choice code names condition skips taken other ended))))
      (alike_sum (own e condition) (own e condition) _ _ refl
      (choice_alike skips _ _ _ _ (alike_min _ _ _ _ (ap clipped (charge_same one (span_in taken))) (apart_alike one taken))
      (alike_min _ _ _ _ (ap clipped (charge_same two (span_in other))) (apart_alike two other)))))
      (apart_alike (at + size_of code) rest)
  apart_alike at (turning code names first turns head before body behind rest) =
      let one : ℕ = inner_place at first head before in
      alike_sum _ _ _ _
      (alike_min _ _ _ _ (ap clipped (charge_same at (coded_span code (turning code names first turns head before body behind ended))))
      (alike_sum (own e first) (own e first) _ _ refl
      (turns_alike turns (own e head) _ _
      (alike_sum (own e before + least_in e one body) (own e before + least_in v one body) (own e behind) (own e behind)
      (alike_sum (own e before) (own e before) _ _ refl (alike_min _ _ _ _ (ap clipped (charge_same one (span_in body))) (apart_alike one body))) refl))))
      (apart_alike (at + size_of code) rest)

  pub least_alike : (at : ℕ) (o : Outline) → Alike (least_in e at o) (least_in v at o)
  least_alike at o = alike_min _ _ _ _ (ap clipped (charge_same at (span_in o))) (apart_alike at o)
