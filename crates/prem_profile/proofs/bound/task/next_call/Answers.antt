use Rattle.std.proofs.Common.{◌≡◌, ◌∷◌, [], ◌<◌, ◌==◌, length, get_or, ap, ◌∙◌, arith}
use Rattle.prem_list.specs.Sequence.{items_of}
use Rattle.prem_asm.specs.PiecesOf.{pieces_of}
use Rattle.prem_wcet.specs.KnownOf.{memory_scene, stack_by}
use Rattle.prem_wcet.specs.SceneOf.{face_at}
use Rattle.prem_wcet.proofs.NextFacts.{all_ends, body_below, body_fits, code_ends, item_there, pieces_there, routines_count}
use Rattle.prem_wcet.proofs.Outcomes.{if_more}
use Rattle.prem_profile.specs.Bound.Memory.{IsNextCall, calls_of}
use Rattle.prem_profile.proofs.BillLemmas.Known.{body_ends, next_called}
use Rattle.prem_profile.proofs.bound.task.next_call.Goals as goal

pub bounds-routines-n : goal.bounds-routines-n
bounds-routines-n c =
    let n_is : c.len-n.result ≡ length c.args.billed.now.known.facts.items = c.len-n.ensures ∙ c.args.billed.now.known.facts.ok.0 in
    omega (arith, n_is, c.requires.there, routines_count c.args.p.now c.args.t.now c.requires.whole, ap length c.items-routines.ensures)

pub function_calls-requires-clause-place : goal.function_calls-requires-clause-place
function_calls-requires-clause-place c =
    let t = c.args.t.now in
    let n = c.len-n.result in
    let n_is : n ≡ length c.args.billed.now.known.facts.items = c.len-n.ensures ∙ c.args.billed.now.known.facts.ok.0 in
    let lt : n < length (items_of t.table.code) = omega (arith, n_is, c.requires.there) in
    let r = c.index-routines-n.result in
    code_ends c.args.p.now t c.requires.whole n r c.in_ok-outline.outline (pieces_of c.items-pieces.result.now) c.place.result.0 lt
    (c.index-routines-n.is ∙ ap (λ xs. get_or xs n r) c.items-routines.ensures)
    (pieces_there t n c.items-code.result.now c.index-code-n.result c.items-pieces.result.now lt c.items-code.ensures c.index-code-n.is
    c.items-pieces.ensures) (λ i. (c.place.ensures i).0) c.in_ok-outline.ensures

pub function_calls-requires-clause-ends : goal.function_calls-requires-clause-ends
function_calls-requires-clause-ends c =
    let t = c.args.t.now in
    let n = c.len-n.result in
    let n_is : n ≡ length c.args.billed.now.known.facts.items = c.len-n.ensures ∙ c.args.billed.now.known.facts.ok.0 in
    let lt : n < length (items_of t.table.code) = omega (arith, n_is, c.requires.there) in
    let r = c.index-routines-n.result in
    all_ends c.args.p.now t c.requires.whole n r c.in_ok-outline.outline (pieces_of c.items-pieces.result.now) c.place.result.0 lt
    (c.index-routines-n.is ∙ ap (λ xs. get_or xs n r) c.items-routines.ensures)
    (pieces_there t n c.items-code.result.now c.index-code-n.result c.items-pieces.result.now lt c.items-code.ensures c.index-code-n.is
    c.items-pieces.ensures) (λ i. (c.place.ensures i).0) c.in_ok-outline.ensures

pub function_calls-requires-clause-fits : goal.function_calls-requires-clause-fits
function_calls-requires-clause-fits c =
    let t = c.args.t.now in
    let n = c.len-n.result in
    let n_is : n ≡ length c.args.billed.now.known.facts.items = c.len-n.ensures ∙ c.args.billed.now.known.facts.ok.0 in
    let lt : n < length (items_of t.table.code) = omega (arith, n_is, c.requires.there) in
    let r = c.index-routines-n.result in
    body_fits c.args.p.now t c.requires.whole n r c.in_ok-outline.outline (pieces_of c.items-pieces.result.now) c.place.result.0 lt
    (c.index-routines-n.is ∙ ap (λ xs. get_or xs n r) c.items-routines.ensures)
    (pieces_there t n c.items-code.result.now c.index-code-n.result c.items-pieces.result.now lt c.items-code.ensures c.index-code-n.is
    c.items-pieces.ensures) (λ i. (c.place.ensures i).0) c.in_ok-outline.ensures

pub function_calls-requires-clause-turns : goal.function_calls-requires-clause-turns
function_calls-requires-clause-turns c =
    let t = c.args.t.now in
    let n = c.len-n.result in
    let n_is : n ≡ length c.args.billed.now.known.facts.items = c.len-n.ensures ∙ c.args.billed.now.known.facts.ok.0 in
    let lt : n < length (items_of t.table.code) = omega (arith, n_is, c.requires.there) in
    let r = c.index-routines-n.result in
    body_ends c.args.p.now t c.requires.whole n r c.in_ok-outline.outline (pieces_of c.items-pieces.result.now) c.place.result.0 lt
    (c.index-routines-n.is ∙ ap (λ xs. get_or xs n r) c.items-routines.ensures)
    (pieces_there t n c.items-code.result.now c.index-code-n.result c.items-pieces.result.now lt c.items-code.ensures c.index-code-n.is
    c.items-pieces.ensures) (λ i. (c.place.ensures i).0) c.in_ok-outline.ensures

pub function_calls-requires-clause-below : goal.function_calls-requires-clause-below
function_calls-requires-clause-below c =
    let t = c.args.t.now in
    let n = c.len-n.result in
    let n_is : n ≡ length c.args.billed.now.known.facts.items = c.len-n.ensures ∙ c.args.billed.now.known.facts.ok.0 in
    let lt : n < length (items_of t.table.code) = omega (arith, n_is, c.requires.there) in
    let r = c.index-routines-n.result in
    body_below c.args.p.now t c.requires.whole n r c.in_ok-outline.outline (pieces_of c.items-pieces.result.now) c.place.result.0 lt
    (c.index-routines-n.is ∙ ap (λ xs. get_or xs n r) c.items-routines.ensures)
    (pieces_there t n c.items-code.result.now c.index-code-n.result c.items-pieces.result.now lt c.items-code.ensures c.index-code-n.is
    c.items-pieces.ensures) (λ i. (c.place.ensures i).0) c.in_ok-outline.ensures
    (memory_scene c.args.p.now t.places c.items-code.result.now c.deref-2.result.now c.stack_of.result c.deref-3.result.now) c.frame_at-base.result
    (n == t.program.job) (ap (λ x. x ∷ []) c.stack_of.ensures)

pub returns : goal.returns
returns c =
    let t = c.args.t.now in
    let n = c.len-n.result in
    let job = t.program.job in
    let faces = c.args.billed.now.known.faces.items in
    let n_is : n ≡ length c.args.billed.now.known.facts.items = c.len-n.ensures ∙ c.args.billed.now.known.facts.ok.0 in
    let lt : n < length (items_of t.table.code) = omega (arith, n_is, c.requires.there) in
    let r = c.index-routines-n.result in
    let base_is : c.frame_at-base.result ≡ (face_at faces job).frame = c.frame_at-base.ensures ∙ ap (λ fs. (face_at fs job).frame) c.deref.ensures.value in
    if_more {Q = IsNextCall c.args.p.now t c.args.task faces c.args.billed.now.known.facts.items (calls_of c.args.billed.now.calls.items)} c.function_calls.result
    (λ call told. next_called c.args.p.now t c.args.task faces c.deref-2.result.now c.args.billed.now.known.facts.items c.deref-3.result.now c.items-code.result.now
    c.stack_of.result n c.place.result.0 r (pieces_of c.items-pieces.result.now) c.in_ok-outline.outline (calls_of c.args.billed.now.calls.items) (calls_of c.deref-4.result.now) call
    n_is (item_there (items_of t.program.routines) n r (omega (arith, lt, routines_count c.args.p.now t c.requires.whole))
    (c.index-routines-n.is ∙ ap (λ xs. get_or xs n r) c.items-routines.ensures))
    c.items-code.ensures c.deref-2.ensures.value c.deref-3.ensures.value (c.stack_of.ensures ∙ (λ i. stack_by t.places (base_is i) (n_is i == job))) (λ i. (c.place.ensures i).0)
    (pieces_there t n c.items-code.result.now c.index-code-n.result c.items-pieces.result.now lt c.items-code.ensures c.index-code-n.is c.items-pieces.ensures) (ap calls_of c.deref-4.ensures.value)
    c.in_ok-outline.ensures told)
    c.function_calls.ensures
