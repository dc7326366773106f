use Rattle.std.proofs.Common.{◌∙◌, ◌+◌, ◌/◌, ◌%◌, ◌≤◌, refl, ap, sym, subst, arith}
use Rattle.prem_lru.proofs.Prelude.{CacheState, view_of, slot_entry, slot_of, number_at, slice_index}
use Rattle.prem_lru.proofs.Caches.{access_within}
use Rattle.prem_lru.proofs.FlatCaches.{near_way, load_is, small_line}
use Rattle.prem_lru.proofs.cache.Cache.peek_near.Goals as goal

pub load-requires-clause-within : goal.load-requires-clause-within
load-requires-clause-within g c =
    let x = c.self.inside in
    subst (λ k. k + c.args.size ≤ x.plant.line) (sym c.place_at-at.ensures) (access_within x.plant c.args.address c.args.size c.self.invariant.plant c.requires.size c.requires.aligned)

pub returns-then-holds-clause-number : goal.returns-then-holds-clause-number
returns-then-holds-clause-number g c =
    let x = c.self.inside in
    let o = g.P.Policy.orders x.policy in
    let at = slot_entry x.plant.line x.slots in
    let line = c.args.address / x.plant.line in
    let there = near_way g.P.Policy.kind_of x.plant x.shift o x.slots c.self.invariant c.args.near line (c.if-holds.ensures refl).0 ((c.if-holds.ensures refl).1 ∙ c.line_at-line.ensures)
    (small_line x.plant c.args.address c.self.invariant.plant (omega (arith, c.ranges.address.fits))) in
    load_is g.P.Policy.kind_of x.plant x.shift o x.slots c.self.invariant c.args.address c.args.size c.args.mem.now (c.args.near % x.plant.«ways») c.load.result (omega (arith, c.ranges.address.fits))
    c.requires.size c.requires.aligned there.0
    (c.load.ensures.number ∙ ap (λ k. number_at (slice_index (at k).bytes) c.place_at-at.result c.args.size) (sym there.1)
    ∙ ap (λ k. number_at (slice_index (at (slot_of x.plant line (c.args.near % x.plant.«ways»))).bytes) k c.args.size) c.place_at-at.ensures)
    ∙ ap (λ (s : CacheState). number_at (view_of s c.args.mem.now) c.args.address c.args.size) c.self.view_is
