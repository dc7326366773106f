use Rattle.std.proofs.Common.{◌≡◌, ◌∙◌, ◌+◌, ◌≤◌, true, Bool, List, [], ◌∷◌, ◌++◌, length, ap, sym, arith}
use Rattle.prem_tiling.proofs.Prelude.{undone, length-set, with_items_is, slice_set}
use Rattle.prem_tiling.proofs.CopiesLemmas.Trail.{walk_with, undone_last}
use Rattle.std.specs.Vec.{with_items}
use Rattle.prem_tiling.proofs.copies.stale.Stale.undo.Goals as goal

pub trail-preserved-in-Some : goal.trail-preserved-in-Some
trail-preserved-in-Some c =
    let old = c.trail.self in
    let k = c.in-Some.k in
    let rest = c.pop.new.self.items in
    let lent = c.deref_mut.result.now in
    let long = ap length c.set_flag.ensures ∙ length-set lent k true ∙ c.deref_mut.ensures.len in
    let flags : (with_items old.flags c.set_flag.new.flags).items ≡ slice_set old.flags.items k true =
    with_items_is old.flags c.set_flag.new.flags long ∙ c.set_flag.ensures ∙ ap (λ (f : List Bool). slice_set f k true) c.deref_mut.ensures.value in
    let whole : old.trail.items ≡ (rest ++ k ∷ []) = c.in-Some.ensures.items in
    let le : c.args.mark ≤ length rest = omega (arith, c.trail-test.true, c.len.ensures, c.in-Some.ensures.cases, c.pop.new.self.ok.0) in
    (λ i. undone c.args.mark (walk_with (flags i) rest old.line)) ∙ undone_last c.args.mark k rest old.flags.items old.line le
    ∙ (λ i. undone c.args.mark (walk_with old.flags.items (sym whole i) old.line)) ∙ c.trail.invariant
