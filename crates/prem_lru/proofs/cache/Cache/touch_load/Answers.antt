use Rattle.std.proofs.Common.{◌≡◌, ◌∙◌, ◌+◌, ◌*◌, ◌/◌, ◌%◌, ◌<◌, ◌≤◌, ap, sym, subst, length, true, false, arith}
use Rattle.prem_lru.proofs.Prelude.{IsWhole, cache_state, CacheState, touch_of, slot_entry, slot_of, rule_of, after_hit_of, number_at, slice_index}
use Rattle.prem_lru.proofs.Caches.{access_within, line_within}
use Rattle.prem_lru.proofs.FlatCaches.{way_at, slot_at, small_line, hit_whole, load_is}
use Rattle.prem_lru.proofs.cache.Cache.touch_load.Goals as goal

pub load-number-requires-clause-within : goal.load-number-requires-clause-within
load-number-requires-clause-within g c =
    let x = c.self.inside in
    subst (λ k. k + c.args.size ≤ x.plant.line) (sym c.place_at-at.ensures) (access_within x.plant c.args.address c.args.size c.self.invariant.plant c.requires.size c.requires.aligned)

-- the touch hits, and leaves the cache whole
touched : (g : _) (c : goal.After-load-number g)
    → IsWhole g.P.Policy.kind_of c.self.inside.plant c.self.inside.shift (g.P.Policy.orders c.hit.new.self) c.self.inside.slots
    × (touch_of (rule_of c.self.inside.plant.policy) (cache_state c.self.inside.plant (g.P.Policy.orders c.self.inside.policy) c.self.inside.slots)
    (c.args.address / c.self.inside.plant.line) c.args.mem.now
    ≡ record { cache = cache_state c.self.inside.plant (g.P.Policy.orders c.hit.new.self) c.self.inside.slots; memory = c.args.mem.now; hit = true; back = false })
touched g c =
    let x = c.self.inside in
    let o = g.P.Policy.orders x.policy in
    let at = slot_entry x.plant.line x.slots in
    let line = c.args.address / x.plant.line in
    let within : c.args.address < x.plant.memory = subst (λ (s : CacheState). c.args.address < s.plant.memory) (sym c.self.view_is) c.requires.within in
    let len : length c.args.mem.now ≡ x.plant.memory = c.requires.memory ∙ sym (ap (λ (s : CacheState). s.plant.memory) c.self.view_is) in
    hit_whole g.P.Policy.kind_of x.plant x.shift o x.slots c.self.invariant g.P.Policy.after_hit g.P.Policy.passes_of line c.in-Some.way
    (g.P.Policy.orders c.hit.new.self) c.args.mem.now g.met.P.Policy.of_kind
    (way_at x.plant at line c.line_at-line.result c.set_of-set.result c.in-Some.way c.line_at-line.ensures c.set_of-set.ensures c.in-Some.ensures)
    (line_within x.plant c.args.address c.self.invariant.plant within) len (small_line x.plant c.args.address c.self.invariant.plant (omega (arith, c.ranges.address.fits)))
    (c.hit.ensures ∙ ap (λ i. after_hit_of g.P.Policy.after_hit i c.in-Some.way o) (c.set_of-set.ensures ∙ ap (λ n. n % x.plant.sets) c.line_at-line.ensures))

pub invariant_of-self : goal.invariant_of-self
invariant_of-self g c = (touched g c).0

pub returns-in-Some-clause-touched : goal.returns-in-Some-clause-touched
returns-in-Some-clause-touched g c =
    ap (λ (s : CacheState). touch_of (rule_of s.plant.policy) s (c.args.address / s.plant.line) c.args.mem.now) (sym c.self.view_is) ∙ (touched g c).1

pub returns-in-Some-clause-number : goal.returns-in-Some-clause-number
returns-in-Some-clause-number g c =
    let x = c.self.inside in
    let at = slot_entry x.plant.line x.slots in
    let line = c.args.address / x.plant.line in
    let w = c.in-Some.way in
    let slot : c.set_of-set.result * x.plant.«ways» + w ≡ slot_of x.plant line w = slot_at x.plant line c.line_at-line.result c.set_of-set.result w c.line_at-line.ensures c.set_of-set.ensures in
    load_is g.P.Policy.kind_of x.plant x.shift (g.P.Policy.orders c.hit.new.self) x.slots
    (touched g c).0 c.args.address c.args.size c.args.mem.now w c.load-number.result (omega (arith, c.ranges.address.fits))
    c.requires.size c.requires.aligned (way_at x.plant at line c.line_at-line.result c.set_of-set.result w c.line_at-line.ensures c.set_of-set.ensures c.in-Some.ensures)
    (c.load-number.ensures.number ∙ ap (λ k. number_at (slice_index (at k).bytes) c.place_at-at.result c.args.size) slot
    ∙ ap (λ k. number_at (slice_index (at (slot_of x.plant line w)).bytes) k c.args.size) c.place_at-at.ensures)
