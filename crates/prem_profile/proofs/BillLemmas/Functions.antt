-- The bill of a function by its outline in memory is the definitions'.
use Rattle.std.proofs.Common.{◌≡◌, ℕ, ◌+◌, true, List, ◌++◌, [], ap, ◌∙◌}
use Rattle.prem_list.specs.Sequence.{items_of}
use Rattle.prem_syntax.specs.Resolved.{Routine}
use Rattle.prem_asm.specs.Pieces.{Pieces, size_of}
use Rattle.prem_asm.specs.PiecesOf.{pieces_of}
use Rattle.prem_layout.specs.Template.Frames.{locals_of}
use Rattle.prem_layout.specs.Template.Steps.{function_code, steps_code}
use Rattle.prem_wcet_laws.specs.Scopes.{Scene, function_span}
use Rattle.prem_wcet.specs.declared.outline.Outline.{Outline as OutlineTree}
use Rattle.prem_wcet.specs.Cut.{IsFunction}
use Rattle.prem_wcet.specs.EdgesOf.{entry_of, leaving_of}
use Rattle.prem_wcet.specs.Functions.{function_span_in}
use Rattle.prem_wcet.specs.Outlines.{Outline, callees_of, code_of, names_of}
use Rattle.prem_wcet.specs.PartsOf.{parts_of}
use Rattle.prem_wcet.proofs.OutlineCode.{callees_are, code_is, names_are}
use Rattle.prem_wcet.proofs.ScenesAlike.{StandsFor}
use Rattle.prem_profile.specs.Bound.Bills.{cheaper, gathered}
use Rattle.prem_profile.specs.Bound.Scopes.{own_bill, scope_bill}
use Rattle.prem_profile.specs.Bound.Statements.{CallBill, least_bill}
use Rattle.prem_profile.specs.Bound.Passages.{Stubs, marked_bill, parted_bill}
use Rattle.prem_profile.specs.Bound.Tasks.{function_bill}
use Rattle.prem_profile.specs.Bound.Memory.{function_calls, function_least_bill, function_parted_bill}
use Rattle.prem_profile.proofs.BillLemmas.Alike.{least_same, parted_same, scope_same}

module _ (v : Scene) (f : Routine) (at : ℕ) (ps : Pieces) (o : OutlineTree) (code : ps ≡ function_code v.parts f) (is : IsFunction v f o) (known : List CallBill) where
  abbrev body : Outline
  body = parts_of (items_of o.body)

  span_is : function_span_in ps o ≡ function_span v f
  span_is = λ i. record {
    pieces = code i;
    globals = is.entry_names i ++ ((ap names_of is.body ∙ names_are v (locals_of f) f.body) i ++ is.leaving_names i);
    callees = (ap callees_of is.body ∙ callees_are v (locals_of f) f.body) i;
  }

  size_is : size_of (code_of body) ≡ size_of (steps_code v.parts (locals_of f) f.body)
  size_is = ap (λ p. size_of (code_of p)) is.body ∙ ap size_of (code_is v (locals_of f) f.body)

  least_is : gathered (function_least_bill v known at ps o) ≡ (function_bill v (record { task = 0; places = λ k. 0 }) known f at).least
  least_is =
      λ i.
      gathered (cheaper (scope_bill v at (span_is i))
      (own_bill v at (is.entry i)
      ++ (least_bill v known (at + size_of (is.entry i)) (is.body i) ++ own_bill v (at + size_of (is.entry i) + size_is i) (is.leaving i))))

  parted_is : (stubs : Stubs) → gathered (function_parted_bill v stubs known at o) ≡ (function_bill v stubs known f at).parted
  parted_is stubs =
      λ i.
      gathered (parted_bill v stubs known at (record { pieces = is.entry i; globals = is.entry_names i; below = [] })
      (record { pieces = is.leaving i; globals = is.leaving_names i; below = [] }) (is.body i))

  pub function_is : (stubs : Stubs) → function_calls v stubs known at ps o ≡ function_bill v stubs known f at
  function_is stubs = λ i. record { least = least_is i; parted = parted_is stubs i }

-- in a scene that stands for another one
module _ (e v : Scene) (s : StandsFor e v) (a b : Stubs) (marks : (f : ℕ) → e.marked f ≡ true →
    marked_bill e.plant a.task (a.places (e.stub f)) e.plans (e.stub f) ≡ marked_bill e.plant b.task (b.places (v.stub f)) v.plans (v.stub f)) where
  least_stands : (known : List CallBill) (at : ℕ) (ps : Pieces) (o : OutlineTree) → function_least_bill e known at ps o ≡ function_least_bill v known at ps o
  least_stands known at ps o =
      let there : ℕ = at + size_of (pieces_of o.entry.now) in
      let body : Outline = parts_of (items_of o.body) in
      (λ i.
      cheaper (scope_same e v.parts v.plans v.stub v.facts s.each s.pieces s.frame at (function_span_in ps o) i)
      (own_bill e at (pieces_of o.entry.now)
      ++ (least_same e v.parts v.plans v.stub v.facts s.each s.pieces s.frame known there body i ++ own_bill e (there + size_of (code_of body)) (pieces_of o.leaving.now))))
      ∙ ap (λ (z : Scene). function_least_bill z known at ps o) s.same

  parted_stands : (known : List CallBill) (at : ℕ) (o : OutlineTree) → function_parted_bill e a known at o ≡ function_parted_bill v b known at o
  parted_stands known at o =
      parted_same e v.parts v.plans v.stub v.facts s.each s.pieces s.frame known a b marks at (entry_of o) (leaving_of o) (parts_of (items_of o.body))
      ∙ ap (λ (z : Scene). function_parted_bill z b known at o) s.same

  pub function_stands : (known : List CallBill) (f : Routine) (at : ℕ) (ps : Pieces) (o : OutlineTree) → ps ≡ function_code v.parts f → IsFunction v f o →
      function_calls e a known at ps o ≡ function_bill v b known f at
  function_stands known f at ps o code is =
      (λ i. record { least = gathered (least_stands known at ps o i); parted = gathered (parted_stands known at o i) }) ∙ function_is v f at ps o code is known b
