use Rattle.std.specs.List.{AllByRecursion}
use Rattle.std.proofs.Common.{ℕ, ◌≡◌, ◌≤◌, ◌∙◌, ap, sym, subst, arith, List, map, length, slice_index, Vec, Global}
use Rattle.std.proofs.lemmas.List.{length-map}
use Rattle.prem_list.specs.Sequence.{items_of}
use Rattle.prem_tree.specs.declared.resolve.resolved.Routine.{Routine}
use Rattle.prem_split.specs.Walk.{HasFrame, frame_of}
use Rattle.prem_split.specs.Tables.{depths_of}
use Rattle.prem_split.specs.PlansWith.{calls_of}
use Rattle.prem_split.proofs.PlanLaws.{frames_small}
use Rattle.prem_split.proofs.facts.facts_of.Goals as goal

pub depths-requires-clause-frames : goal.depths-requires-clause-frames
depths-requires-clause-frames c = λ k.
    let e : c.deref.result.now ≡ map frame_of c.items-fs.result.now = c.deref.ensures.value ∙ c.in_ok-frames.ensures in
    let small = subst (AllByRecursion HasFrame) (sym c.items-fs.ensures) c.requires.frames in
    subst (λ ns. slice_index ns k ≤ 2032) (sym e) (frames_small c.items-fs.result.now small k)

pub returns : goal.returns
returns c =
    let r = c.args.r.now in
    let fs = c.items-fs.result.now in
    let same : fs ≡ items_of r.routines = c.items-fs.ensures in
    let items : List (Vec ℕ Global) → List (List ℕ) = map (λ cs. cs.items) in
    let frames : c.in_ok-frames.frames.items ≡ map frame_of (items_of r.routines) = c.in_ok-frames.ensures ∙ ap (λ (gs : List Routine). map frame_of gs) same in
    let calls : items c.in_ok-calls.calls.items ≡ calls_of (items_of r.routines) = c.in_ok-calls.ensures ∙ ap calls_of same in
    let a = ap length c.deref.ensures.value in
    let b = ap length frames in
    record {
      frames = frames;
      calls = calls;
      depths = c.in_ok-depths.ensures.depths
          ∙ ap (λ ns. depths_of ns (items c.deref-2.result.now)) (c.deref.ensures.value ∙ frames)
          ∙ ap (depths_of (map frame_of (items_of r.routines))) (ap items c.deref-2.ensures.value ∙ calls);
      long = omega (arith, a, b, c.in_ok-depths.ensures.long, length-map (items_of r.routines) frame_of);
    }
