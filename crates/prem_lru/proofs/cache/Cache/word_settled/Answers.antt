use Rattle.std.proofs.Common.{◌≡◌, ◌≢◌, ◌∙◌, ◌+◌, ◌*◌, ◌/◌, ◌%◌, ◌<◌, ◌≤◌, true, false, refl, ap, sym, subst, arith, inr}
use Rattle.prem_lru.proofs.Prelude.{CacheState, touch_of, view_of, IsWayOf, no_line, slot_entry, slot_of, rule_of, number_at, slice_index}
use Rattle.prem_lru.proofs.Caches.{access_within}
use Rattle.prem_lru.proofs.FlatCaches.{near_way, load_is, settled_way, small_line, word_within}
use Rattle.prem_lru.proofs.FlatTouches.{set_below}
use Rattle.prem_lru.proofs.cache.Cache.word_settled.Goals as goal

pub load-requires-clause-within : goal.load-requires-clause-within
load-requires-clause-within g c =
    let x = c.self.inside in
    subst (λ k. k + 4 ≤ x.plant.line) (sym c.place_at-at.ensures) (access_within x.plant c.args.address 4 c.self.invariant.plant (inr (inr refl)) c.requires.aligned)

-- the line isn't the number of a slot that isn't in use
line_is : (g : _) (c : goal.After-load g) → c.args.address / c.self.inside.plant.line ≢ no_line
line_is g c = small_line c.self.inside.plant c.args.address c.self.invariant.plant (omega (arith, c.ranges.address.fits))

-- the way of the line
way : (g : _) (c : goal.After-load g)
    → IsWayOf c.self.inside.plant (slot_entry c.self.inside.plant.line c.self.inside.slots) (c.args.address / c.self.inside.plant.line) (c.in-Some.slot % c.self.inside.plant.«ways»)
    × (slot_of c.self.inside.plant (c.args.address / c.self.inside.plant.line) (c.in-Some.slot % c.self.inside.plant.«ways») ≡ c.in-Some.slot)
way g c =
    let x = c.self.inside in
    near_way g.P.Policy.kind_of x.plant x.shift (g.P.Policy.orders x.policy) x.slots c.self.invariant c.in-Some.slot (c.args.address / x.plant.line) c.in-Some.ensures.found.0
    (c.in-Some.ensures.found.1 ∙ c.line_at-line.ensures) (line_is g c)

pub returns-clause-number : goal.returns-clause-number
returns-clause-number g c = λ memory.
    let x = c.self.inside in
    let o = g.P.Policy.orders x.policy in
    let at = slot_entry x.plant.line x.slots in
    let line = c.args.address / x.plant.line in
    let there = way g c in
    load_is g.P.Policy.kind_of x.plant x.shift o x.slots c.self.invariant c.args.address 4 memory (c.in-Some.slot % x.plant.«ways») c.load.result (omega (arith, c.ranges.address.fits))
    (inr (inr refl)) c.requires.aligned there.0
    (c.load.ensures.number ∙ ap (λ k. number_at (slice_index (at k).bytes) c.place_at-at.result 4) (sym there.1)
    ∙ ap (λ k. number_at (slice_index (at (slot_of x.plant line (c.in-Some.slot % x.plant.«ways»))).bytes) k 4) c.place_at-at.ensures)
    ∙ ap (λ (s : CacheState). number_at (view_of s memory) c.args.address 4) c.self.view_is

pub returns-clause-touched : goal.returns-clause-touched
returns-clause-touched g c = λ memory.
    let x = c.self.inside in
    let o = g.P.Policy.orders x.policy in
    let line = c.args.address / x.plant.line in
    let w = c.in-Some.slot % x.plant.«ways» in
    let set = line % x.plant.sets in
    let there = way g c in
    let flat = c.self.invariant.flat in
    let below : set < o.sets = subst (λ n. set < n) (sym flat.sets) (set_below x.plant o (slot_entry x.plant.line x.slots) flat line) in
    let few : w < o.room = subst (λ n. w < n) (sym flat.room) there.0.0 in
    let stays = c.is_settled.ensures c.if-not-is_settled.false set w (ap (λ n. set * n + w) flat.room ∙ there.1) below few in
    subst (λ (s : CacheState). touch_of (rule_of s.plant.policy) s (c.args.address / s.plant.line) memory ≡ record { cache = s; memory = memory; hit = true; back = false }) c.self.view_is
    (settled_way g.P.Policy.kind_of x.plant x.shift o x.slots c.self.invariant g.P.Policy.after_hit g.P.Policy.passes_of line w memory g.met.P.Policy.of_kind there.0 (line_is g c) stays)

pub returns-clause-within : goal.returns-clause-within
returns-clause-within g c =
    let x = c.self.inside in
    let o = g.P.Policy.orders x.policy in
    subst (λ (s : CacheState). c.args.address + 4 ≤ s.plant.memory) c.self.view_is
    (word_within g.P.Policy.kind_of x.plant x.shift o x.slots c.self.invariant c.args.address (c.in-Some.slot % x.plant.«ways») (omega (arith, c.ranges.address.fits)) c.requires.aligned (way g c).0)
