use Rattle.std.proofs.Common.{◌≡◌, ◌∙◌, ◌+◌, ◌*◌, ◌<◌, ap, sym, subst, length, get_or}
use Rattle.prem_lru.proofs.Prelude.{Orders, eqb-true, get_or_default}
use Rattle.prem_lru.proofs.AgeSets.{slots_there, youngest_stays}
use Rattle.prem_lru.proofs.lru.LruPolicy.is_settled.Goals as goal

pub returns : goal.returns
returns c = λ t set way at lt wl.
    let x = c.self.inside in
    let room : x.«ways» ≡ c.args.self.now.room = ap (λ (o : Orders). o.room) c.self.view_is in
    let there : c.args.slot < length x.ages.items = slots_there x.«ways» c.args.slot x.ages.items c.args.self.now c.self.view_is c.self.invariant c.requires in
    let zero_is : c.index.result.now ≡ 0 = eqb-true c.index.result.now 0 t in
    let here : get_or x.ages.items c.args.slot 0 ≡ 0 = sym (c.index.ensures ∙ get_or_default x.ages.items c.args.slot c.index.result.now 0 there) ∙ zero_is in
    youngest_stays x.«ways» set way c.args.slot x.ages.items c.args.self.now c.self.view_is c.self.invariant lt (subst (λ n. way < n) (sym room) wl)
    (subst (λ n. set * n + way ≡ c.args.slot) (sym room) at) here
