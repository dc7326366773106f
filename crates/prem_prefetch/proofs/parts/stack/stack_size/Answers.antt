use Rattle.std.proofs.Common.{◌≡◌, ◌∙◌, [], ap, arith, List, map, slice_index, slice_index_or, ℕ, Vec, Global}
use Rattle.prem_list.specs.Sequence.{items_of}
use Rattle.prem_tree.specs.declared.resolve.resolved.Routine.{Routine}
use Rattle.prem_split.specs.Tables.{greatest}
use Rattle.prem_split.specs.PlansWith.{calls_of, known_of, marks_of}
use Rattle.prem_prefetch.specs.Parts.Parts.{most_marked}
use Rattle.prem_prefetch.proofs.SizesLemmas.StackBound.{stack_within}
use Rattle.prem_prefetch.proofs.parts.stack.stack_size.Goals as goal

-- at most the frames of `job` and of 256 functions
pub overflow_add-result : goal.overflow_add-result
overflow_add-result c =
    let r = c.args.r.now in
    let facts = c.requires.facts in
    let known : List ℕ = (known_of r).depths in
    let items : List (Vec ℕ Global) → List (List ℕ) = map (λ cs. cs.items) in
    let marked : c.most_marked-marked.result ≡ most_marked known 0 (marks_of (items_of r.routines)) =
    c.most_marked-marked.ensures
    ∙ ap (λ ds. most_marked ds 0 (marks_of c.items.result.now)) (c.deref.ensures.value ∙ facts.depths)
    ∙ ap (λ (gs : List Routine). most_marked known 0 (marks_of gs)) c.items.ensures in
    let called : c.called.result ≡ greatest known (slice_index_or (calls_of (items_of r.routines)) r.job []) =
    c.called.ensures
    ∙ ap (λ ds. greatest ds (slice_index_or (items c.deref-3.result.now) r.job [])) (c.deref-2.ensures.value ∙ facts.depths)
    ∙ ap (λ css. greatest known (slice_index_or css r.job [])) (ap items c.deref-3.ensures.value ∙ facts.calls) in
    let base : c.value_at.result ≡ (known_of r).base = c.value_at.ensures ∙ ap (λ ns. slice_index ns r.job) (c.deref-4.ensures.value ∙ facts.frames) in
    let greater = c.max-below.ensures in
    let most = stack_within r c.requires.may in
    omega (arith, marked, called, base, greater, most)

pub returns : goal.returns
returns c =
    let r = c.args.r.now in
    let facts = c.requires.facts in
    let known : List ℕ = (known_of r).depths in
    let items : List (Vec ℕ Global) → List (List ℕ) = map (λ cs. cs.items) in
    let marked : c.most_marked-marked.result ≡ most_marked known 0 (marks_of (items_of r.routines)) =
    c.most_marked-marked.ensures
    ∙ ap (λ ds. most_marked ds 0 (marks_of c.items.result.now)) (c.deref.ensures.value ∙ facts.depths)
    ∙ ap (λ (gs : List Routine). most_marked known 0 (marks_of gs)) c.items.ensures in
    let called : c.called.result ≡ greatest known (slice_index_or (calls_of (items_of r.routines)) r.job []) =
    c.called.ensures
    ∙ ap (λ ds. greatest ds (slice_index_or (items c.deref-3.result.now) r.job [])) (c.deref-2.ensures.value ∙ facts.depths)
    ∙ ap (λ css. greatest known (slice_index_or css r.job [])) (ap items c.deref-3.ensures.value ∙ facts.calls) in
    let base : c.value_at.result ≡ (known_of r).base = c.value_at.ensures ∙ ap (λ ns. slice_index ns r.job) (c.deref-4.ensures.value ∙ facts.frames) in
    let greater = c.max-below.ensures in
    omega (arith, marked, called, base, greater)
