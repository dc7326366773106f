use Rattle.std.proofs.Common.{◌+◌, ◌≤◌, ap, subst, ◌∙◌}
use Rattle.prem_machine.proofs.Prelude.{view_of, Finds, number_at}
use Rattle.std.specs.Prelude.{◌/◌}
use Rattle.prem_machine.proofs.hits.settled.hit_settled.Goals as goal

pub hit_word-requires-clause-word : goal.hit_word-requires-clause-word
hit_word-requires-clause-word g c =
    c.in-Some.ensures.number c.args.mem.now ∙ ap (λ n. number_at (view_of c.args.cache.now c.args.mem.now) n 4) c.pc-pc.ensures.same

pub hit_word-requires-clause-place : goal.hit_word-requires-clause-place
hit_word-requires-clause-place g c = subst (λ n. n + 4 ≤ c.args.cache.now.plant.memory) c.pc-pc.ensures.same c.in-Some.ensures.within

pub hit_word-requires-clause-finds : goal.hit_word-requires-clause-finds
hit_word-requires-clause-finds g c =
    let x = c.args.cache.now in
    subst (λ n. Finds x (n / x.plant.line) c.args.mem.now x) c.pc-pc.ensures.same (c.in-Some.ensures.touched c.args.mem.now)
