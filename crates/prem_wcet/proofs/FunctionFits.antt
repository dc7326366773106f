-- The outline of a function in memory fits where its code does, and counts what the function counts.
use Rattle.std.proofs.Common.{◌≡◌, ℕ, ◌+◌, ◌<◌, ◌^◌, [], ap, sym, subst, ◌∙◌, arith}
use Rattle.prem_list.specs.Sequence.{items_of}
use Rattle.prem_syntax.specs.Resolved.{Routine}
use Rattle.prem_asm.specs.Pieces.{Pieces, followed, size_of}
use Rattle.prem_asm.specs.PiecesOf.{pieces_of}
use Rattle.prem_layout.specs.Template.Frames.{frame_of, locals_of}
use Rattle.prem_layout.specs.Template.Steps.{closing, function_code, result_code, steps_code}
use Rattle.prem_layout.specs.Template.Terms.{only}
use Rattle.prem_wcet_laws.specs.Least.{declared}
use Rattle.prem_wcet_laws.specs.Parted.{bottom_of, entry, leaving, parted_function}
use Rattle.prem_wcet_laws.specs.Scopes.{Scene}
use Rattle.prem_wcet.specs.declared.outline.Outline.{Outline as OutlineTree}
use Rattle.prem_wcet.specs.Cut.{IsFunction}
use Rattle.prem_wcet.specs.EdgesOf.{BelowFits, entry_of, function_parted, leaving_of}
use Rattle.prem_wcet.specs.Fitting.{FitsAt}
use Rattle.prem_wcet.specs.Outlines.{code_of, parted_in}
use Rattle.prem_wcet.specs.PartsOf.{parts_of}
use Rattle.prem_wcet.proofs.OutlineCode.{code_is}
use Rattle.prem_wcet.proofs.OutlineFits.{below_outline, fits_outline}
use Rattle.prem_wcet.proofs.OutlineParted.{outlines_count}
use Rattle.prem_wcet.proofs.PlaceWeights.{size_followed}

module _ (e : Scene) (f : Routine) where
  -- its code is what stands before its statements, these, and what stands behind them
  parts_size : size_of (function_code e.parts f) ≡ size_of (entry e f).pieces + size_of (steps_code e.parts (locals_of f) f.body) + size_of (leaving e f).pieces
  parts_size =
      let result : Pieces = result_code e.parts.target e.parts.global f.result in
      let end : Pieces = followed result (only (closing (frame_of f))) in
      let body : Pieces = steps_code e.parts (locals_of f) f.body in
      let inner = size_followed body end in
      let all = size_followed (declared e f) (followed body end) in
      omega (arith, inner, all)

  pub function_size : (o : OutlineTree) → IsFunction e f o →
      size_of (pieces_of o.entry.now) + size_of (code_of (parts_of (items_of o.body))) + size_of (pieces_of o.leaving.now) ≡ size_of (function_code e.parts f)
  function_size o is =
      let first = ap size_of is.entry in
      let last = ap size_of is.leaving in
      let body = ap (λ p. size_of (code_of p)) is.body ∙ ap size_of (code_is e (locals_of f) f.body) in
      omega (arith, first, last, body, parts_size)

  pub function_fits : (o : OutlineTree) (at : ℕ) → IsFunction e f o → at + size_of (function_code e.parts f) < 2 ^ 32 → FitsAt (at + size_of (pieces_of o.entry.now)) (parts_of (items_of o.body))
  function_fits o at is h =
      let first = ap size_of is.entry in
      subst (FitsAt (at + size_of (pieces_of o.entry.now))) (sym is.body) (fits_outline e (locals_of f) (at + size_of (pieces_of o.entry.now)) f.body (omega (arith, h, first, parts_size)))

  -- the arguments of its calls, in a scene with as much room
  pub function_below : (s : Scene) (o : OutlineTree) → IsFunction e f o → bottom_of s.stack + 4 + size_of (function_code e.parts f) < 2 ^ 32 → BelowFits s (parts_of (items_of o.body))
  function_below s o is h = subst (BelowFits s) (sym is.body) (below_outline s e (locals_of f) f.body (omega (arith, h, parts_size)))

  pub function_counts : (o : OutlineTree) (at : ℕ) → IsFunction e f o → function_parted e at o ≡ parted_function e f at
  function_counts o at is =
      let before : entry_of o ≡ entry e f = λ i. record { pieces = is.entry i; globals = is.entry_names i; below = [] } in
      let last : leaving_of o ≡ leaving e f = λ i. record { pieces = is.leaving i; globals = is.leaving_names i; below = [] } in
      (λ i. parted_in e at (before i) (last i) (is.body i)) ∙ outlines_count.parted_is e (entry e f) (leaving e f) (locals_of f) at f.body
