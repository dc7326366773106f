use Rattle.std.specs.Prelude.{slice_get}
use Rattle.std.proofs.Common.{◌≡◌, ◌+◌, ap, ◌∙◌, arith}
use Rattle.prem_foot.proofs.PlaceLaws.{place_more}
use Rattle.prem_compile.proofs.compiler.places_in.Goals as goal

pub loop-n-preserved : goal.loop-n-preserved
loop-n-preserved c =
    let n = c.loop-n.n in
    let at : n ≡ 0 + n = omega arith in
    place_more c.args.l.now c.loop-n.places.items c.push_place.new.places.items 0 n c.part.result c.loop-n.invariant (c.part.ensures.place ∙ ap (slice_get c.args.l.now) at) c.in_ok-push_place.ensures
