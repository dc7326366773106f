-- Scenes whose facts are alike have the same bills.
use Rattle.std.proofs.Common.{◌≡◌, ℕ, ◌+◌, ◌||◌, Bool, true, false, cond, List, [], ◌∷◌, ◌++◌, length, map, refl, ap, sym, ◌∙◌}
use Rattle.std.specs.List.{list_all, list_any}
use Rattle.prem_asm.specs.Pieces.{Pieces, size_of}
use Rattle.prem_layout.specs.Template.Steps.{Parts}
use Rattle.prem_layout.specs.Footprint.{lines_of}
use Rattle.prem_layout.specs.Plans.{Plan}
use Rattle.prem_layout.specs.Parts.{code_part}
use Rattle.prem_wcet_laws.specs.Scopes.{Fact, Scene, Span, fact_of, code_ranges, data_ranges, data_lines, lines_in, roomy_lines, is_roomy}
use Rattle.prem_wcet_laws.specs.Parted.{cuts, by_cut, Edge, no_edge, bottom_of}
use Rattle.prem_wcet.specs.Same.{AreSame}
use Rattle.prem_wcet.specs.Alike.{FactsAlike}
use Rattle.prem_wcet.specs.Outlines.{Outline, ended, plain, calling, choice, turning, between, below_in, callees_of, code_of, coded_span, cut_in, data_between, edge_in, first_place, front_in}
use Rattle.prem_wcet.specs.Outlines.{inner_place, landing_in, second_place, span_in}
use Rattle.prem_wcet.proofs.SameRanges.{same_append, same_lines}
use Rattle.prem_wcet.proofs.AlikeScopes.{other_scene, code_same, data_same}
use Rattle.prem_profile.specs.Bound.Bills.{Bill, cheaper}
use Rattle.prem_profile.specs.Bound.Pieces.{PlaceCost, bill_from, part_bill}
use Rattle.prem_profile.specs.Bound.Scopes.{bills_behind, cycles_of, lines_item, own_bill, own_jump_item, path_with, scope_bill, scope_bill_with, scope_cost}
use Rattle.prem_profile.specs.Bound.Statements.{CallBill, apart_bill, call_at, called_bill, choice_bill, head_end, inner_end, least_bill, over_place, turns_bill}
use Rattle.prem_profile.specs.Bound.Passages.{Stubs, closed_bill, cut_bill, first_passage, marked_bill, parted_bill, passage_bill}

-- ---- the bills of functions go by their pieces

abbrev pub pieces_behind : PlaceCost → (functions : ℕ) → (places : ℕ → ℕ) → List Bill → List Pieces → List Bill
pieces_behind c functions places known [] = known
pieces_behind c functions places known (ps ∷ pss) =
    pieces_behind c functions places (known ++ bill_from c (part_bill functions (cycles_of known)) (places (code_part (length known))) ps ∷ []) pss

pub by_pieces : (c : PlaceCost) (functions : ℕ) (places : ℕ → ℕ) (fs : List Fact) (known : List Bill) →
    bills_behind c functions places known fs ≡ pieces_behind c functions places known (map (λ (f : Fact). f.pieces) fs)
by_pieces c functions places [] known = refl
by_pieces c functions places (f ∷ fs) known =
    by_pieces c functions places fs (known ++ bill_from c (part_bill functions (cycles_of known)) (places (code_part (length known))) f.pieces ∷ [])

module _ (e : Scene) (parts : Parts) (plans : List Plan) (stub : ℕ → ℕ) (facts : List Fact)
    (same : (f : ℕ) → FactsAlike (fact_of e f) (fact_of (other_scene e parts plans stub facts) f)) (pieces : map (λ (f : Fact). f.pieces) e.facts ≡ map (λ (f : Fact). f.pieces) facts)
    (frame : (f : ℕ) → e.parts.frame f ≡ parts.frame f) where
  abbrev v : Scene
  v = other_scene e parts plans stub facts

  -- ---- scopes

  with_same : (at : ℕ) (s : Span) (lines held : List ℕ) → scope_bill_with e at s lines held ≡ scope_bill_with v at s lines held
  with_same at s lines held =
      let c : PlaceCost = scope_cost e.plant lines (list_all (is_roomy e.plant lines) held) in
      let known : bills_behind c e.functions e.places [] e.facts ≡ bills_behind c e.functions e.places [] facts =
      by_pieces c e.functions e.places e.facts [] ∙ ap (pieces_behind c e.functions e.places []) pieces ∙ sym (by_pieces c e.functions e.places facts []) in
      ap (λ bills. lines_item e.plant at (length (roomy_lines e.plant lines)) ∷ path_with c e.functions bills at s.pieces) known

  pub scope_same : (at : ℕ) (s : Span) → scope_bill e at s ≡ scope_bill v at s
  scope_same at s =
      with_same at s (lines_in e at s) (data_lines e s)
      ∙ (λ i. scope_bill_with v at s
      (same_lines e.plant.line (code_ranges e at s ++ data_ranges e s) (code_ranges v at s ++ data_ranges v s)
      (same_append (code_ranges e at s) (code_ranges v at s) (data_ranges e s) (data_ranges v s) (code_same e parts plans stub facts same pieces at s) (data_same e parts plans stub facts same pieces s)) i)
      (same_lines e.plant.line (data_ranges e s) (data_ranges v s) (data_same e parts plans stub facts same pieces s) i))

  module _ (known : List CallBill) where
    -- ---- least charges

    apart_same : (at : ℕ) (o : Outline) → apart_bill e known at o ≡ apart_bill v known at o
    apart_same at ended = refl
    apart_same at (plain code names rest) = λ i. cheaper (scope_same at (coded_span code (plain code names ended)) i) (own_bill e at code) ++ apart_same (at + size_of code) rest i
    apart_same at (calling code names arguments count callee landing rest) =
        λ i.
        cheaper (scope_same at (coded_span code (calling code names arguments count callee landing ended)) i)
        (own_bill e at arguments ++ (own_jump_item e (at + size_of arguments) ∷ (called_bill e known callee ++ own_bill e (at + size_of arguments + 4) landing)))
        ++ apart_same (at + size_of code) rest i
    apart_same at (choice code names condition skips taken other rest) =
        λ i.
        cheaper (scope_same at (coded_span code (choice code names condition skips taken other ended)) i)
        (own_bill e at condition
        ++ choice_bill e (at + size_of condition) (over_place at condition taken) skips
        (cheaper (scope_same (first_place at condition) (span_in taken) i) (apart_same (first_place at condition) taken i))
        (cheaper (scope_same (second_place at condition taken skips) (span_in other) i) (apart_same (second_place at condition taken skips) other i)))
        ++ apart_same (at + size_of code) rest i
    apart_same at (turning code names first turns head before body behind rest) =
        λ i.
        cheaper (scope_same at (coded_span code (turning code names first turns head before body behind ended)) i)
        (own_bill e at first
        ++ turns_bill e (head_end at first head) (inner_end at first head before body + size_of behind) turns (own_bill e (at + size_of first) head)
        (own_bill e (head_end at first head + 8) before
        ++ (cheaper (scope_same (inner_place at first head before) (span_in body) i) (apart_same (inner_place at first head before) body i)
        ++ own_bill e (inner_end at first head before body) behind)))
        ++ apart_same (at + size_of code) rest i

    pub least_same : (at : ℕ) (o : Outline) → least_bill e known at o ≡ least_bill v known at o
    least_same at o = λ i. cheaper (scope_same at (span_in o) i) (apart_same at o i)

    -- ---- with marked calls

    cuts_same : cuts e ≡ cuts v
    cuts_same = λ i f. e.marked f || (same f).cuts i

    cut_same : (o : Outline) → cut_in e o ≡ cut_in v o
    cut_same o = λ i. list_any (cuts_same i) (callees_of o)

    front_same : (o : Outline) → front_in e o ≡ front_in v o
    front_same ended = refl
    front_same (plain code names rest) = ap (plain code names) (front_same rest)
    front_same (calling code names arguments count callee landing rest) =
        λ i. by_cut (cut_same (calling code names arguments count callee landing ended) i) ended (calling code names arguments count callee landing (front_same rest i))
    front_same (choice code names condition skips taken other rest) =
        λ i. by_cut (cut_same (choice code names condition skips taken other ended) i) ended (choice code names condition skips taken other (front_same rest i))
    front_same (turning code names first turns head before body behind rest) =
        λ i. by_cut (cut_same (turning code names first turns head before body behind ended) i) ended (turning code names first turns head before body behind (front_same rest i))

    edge_same : (last : Edge) (o : Outline) → edge_in e last o ≡ edge_in v last o
    edge_same last ended = refl
    edge_same last (plain code names rest) = edge_same last rest
    edge_same last (calling code names arguments count callee landing rest) =
        λ i. by_cut (cut_same (calling code names arguments count callee landing ended) i)
        (record { pieces = arguments; globals = names; below = below_in (bottom_of e.stack) (frame callee i) count }) (edge_same last rest i)
    edge_same last (choice code names condition skips taken other rest) =
        λ i. by_cut (cut_same (choice code names condition skips taken other ended) i) no_edge (edge_same last rest i)
    edge_same last (turning code names first turns head before body behind rest) =
        λ i. by_cut (cut_same (turning code names first turns head before body behind ended) i) no_edge (edge_same last rest i)

    between_same : (before : Edge) (o : Outline) (last : Edge) → AreSame (data_between e before o last) (data_between v before o last)
    between_same before o last =
        same_append (data_ranges e (between before o last)) (data_ranges v (between before o last)) (before.below ++ last.below) (before.below ++ last.below)
        (data_same e parts plans stub facts same pieces (between before o last)) (λ p. refl)

    whole_same : (at : ℕ) (before : Edge) (o : Outline) (last : Edge) →
        scope_bill_with e at (between before o last) (lines_of e.plant.line (code_ranges e at (between before o last) ++ data_between e before o last)) (lines_of e.plant.line (data_between e before o last))
        ≡ scope_bill_with v at (between before o last) (lines_of e.plant.line (code_ranges v at (between before o last) ++ data_between v before o last)) (lines_of e.plant.line (data_between v before o last))
    whole_same at before o last =
        let s : Span = between before o last in
        let held = same_lines e.plant.line (data_between e before o last) (data_between v before o last) (between_same before o last) in
        let lines = same_lines e.plant.line (code_ranges e at s ++ data_between e before o last) (code_ranges v at s ++ data_between v before o last)
        (same_append (code_ranges e at s) (code_ranges v at s) (data_between e before o last) (data_between v before o last)
        (code_same e parts plans stub facts same pieces at s) (between_same before o last)) in
        with_same at s (lines_of e.plant.line (code_ranges e at s ++ data_between e before o last)) (lines_of e.plant.line (data_between e before o last))
        ∙ (λ i. scope_bill_with v at s (lines i) (held i))

    passage_same : (at : ℕ) (before : Edge) (o : Outline) (last : Edge) → passage_bill e known at before o last ≡ passage_bill v known at before o last
    passage_same at before o last =
        λ i.
        cheaper (whole_same at before o last i)
        (own_bill e at before.pieces ++ (least_same (at + size_of before.pieces) o i ++ own_bill e (at + size_of before.pieces + size_of (code_of o)) last.pieces))

    first_same : (at : ℕ) (before last : Edge) (o : Outline) → first_passage e known at before last o ≡ first_passage v known at before last o
    first_same at before last o = passage_same at before (front_in e o) (edge_in e last o) ∙ (λ i. passage_bill v known at before (front_same o i) (edge_same last o i))

    module _ (a b : Stubs) (marks : (f : ℕ) → e.marked f ≡ true →
        marked_bill e.plant a.task (a.places (e.stub f)) e.plans (e.stub f) ≡ marked_bill e.plant b.task (b.places (stub f)) plans (stub f)) where
      called_same : (f : ℕ) → cut_bill e a known f ≡ cut_bill v b known f
      called_same f = by_mark (e.marked f) refl where
        by_mark : (t : Bool) → e.marked f ≡ t → cond t (marked_bill e.plant a.task (a.places (e.stub f)) e.plans (e.stub f)) (call_at known f).parted
            ≡ cond t (marked_bill e.plant b.task (b.places (stub f)) plans (stub f)) (call_at known f).parted
        by_mark true is = marks f is
        by_mark false is = refl

      closed_same : (last : Edge) (at : ℕ) (o : Outline) → closed_bill e a known last at o ≡ closed_bill v b known last at o
      closed_same last at ended = refl
      closed_same last at (plain code names rest) = closed_same last (at + size_of code) rest
      closed_same last at (calling code names arguments count callee landing rest) =
          λ i.
          by_cut (cut_same (calling code names arguments count callee landing ended) i)
          (own_jump_item e (at + size_of arguments) ∷ (called_same callee i ++ first_same (at + size_of arguments + 4) (landing_in landing) last rest i)) []
          ++ closed_same last (at + size_of code) rest i
      closed_same last at (choice code names condition skips taken other rest) =
          let one : ℕ = first_place at condition in
          let two : ℕ = second_place at condition taken skips in
          λ i.
          by_cut (cut_same (choice code names condition skips taken other ended) i)
          ((own_bill e at condition
          ++ choice_bill e (at + size_of condition) (over_place at condition taken) skips (first_same one no_edge no_edge taken i ++ closed_same no_edge one taken i)
          (first_same two no_edge no_edge other i ++ closed_same no_edge two other i))
          ++ first_same (at + size_of code) no_edge last rest i)
          []
          ++ closed_same last (at + size_of code) rest i
      closed_same last at (turning code names first turns head before body behind rest) =
          let one : ℕ = inner_place at first head before in
          λ i.
          by_cut (cut_same (turning code names first turns head before body behind ended) i)
          ((own_bill e at first
          ++ turns_bill e (head_end at first head) (inner_end at first head before body + size_of behind) turns (own_bill e (at + size_of first) head)
          (own_bill e (head_end at first head + 8) before
          ++ ((first_same one no_edge no_edge body i ++ closed_same no_edge one body i) ++ own_bill e (inner_end at first head before body) behind)))
          ++ first_same (at + size_of code) no_edge last rest i)
          []
          ++ closed_same last (at + size_of code) rest i

      pub parted_same : (at : ℕ) (before last : Edge) (o : Outline) → parted_bill e a known at before last o ≡ parted_bill v b known at before last o
      parted_same at before last o = λ i. first_same at before last o i ++ closed_same last (at + size_of before.pieces) o i
