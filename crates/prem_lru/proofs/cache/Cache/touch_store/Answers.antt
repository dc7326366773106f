use Rattle.std.proofs.Common.{◌≡◌, ◌≢◌, ◌∙◌, ◌+◌, ◌*◌, ◌/◌, ◌%◌, ◌<◌, ◌≤◌, ℕ, ap, sym, subst, length, true, false, arith}
use Rattle.prem_lru.proofs.Prelude.{IsWhole, cache_state, CacheState, Touched, touch_of, store_of, written, slot_entry, slot_of, rule_of, bytes_of, after_hit_of}
use Rattle.prem_lru.proofs.Caches.{access_within, line_within}
use Rattle.prem_lru.proofs.FlatCaches.{way_at, slot_at, small_line, hit_whole, store_is, store_whole}
use Rattle.prem_lru.proofs.cache.Cache.touch_store.Goals as goal

pub store-requires-clause-within : goal.store-requires-clause-within
store-requires-clause-within g c =
    let x = c.self.inside in
    subst (λ k. k + c.args.size ≤ x.plant.line) (sym c.place_at-at.ensures) (access_within x.plant c.args.address c.args.size c.self.invariant.plant c.requires.size c.requires.aligned)

-- the touch hits, and leaves the cache whole
touched : (g : _) (c : goal.After-store g)
    → IsWhole g.P.Policy.kind_of c.self.inside.plant c.self.inside.shift (g.P.Policy.orders c.hit.new.self) c.self.inside.slots
    × (touch_of (rule_of c.self.inside.plant.policy) (cache_state c.self.inside.plant (g.P.Policy.orders c.self.inside.policy) c.self.inside.slots)
    (c.args.address / c.self.inside.plant.line) c.args.mem.now
    ≡ record { cache = cache_state c.self.inside.plant (g.P.Policy.orders c.hit.new.self) c.self.inside.slots; memory = c.args.mem.now; hit = true; back = false })
touched g c =
    let x = c.self.inside in
    let o = g.P.Policy.orders x.policy in
    let at = slot_entry x.plant.line x.slots in
    let line = c.args.address / x.plant.line in
    let within : c.args.address < x.plant.memory = subst (λ (s : CacheState). c.args.address < s.plant.memory) (sym c.self.view_is) c.requires.within in
    let len : length c.args.mem.now ≡ x.plant.memory = c.requires.memory ∙ sym (ap (λ (s : CacheState). s.plant.memory) c.self.view_is) in
    hit_whole g.P.Policy.kind_of x.plant x.shift o x.slots c.self.invariant g.P.Policy.after_hit g.P.Policy.passes_of line c.in-Some.way
    (g.P.Policy.orders c.hit.new.self) c.args.mem.now g.met.P.Policy.of_kind
    (way_at x.plant at line c.line_at-line.result c.set_of-set.result c.in-Some.way c.line_at-line.ensures c.set_of-set.ensures c.in-Some.ensures)
    (line_within x.plant c.args.address c.self.invariant.plant within) len (small_line x.plant c.args.address c.self.invariant.plant (omega (arith, c.ranges.address.fits)))
    (c.hit.ensures ∙ ap (λ i. after_hit_of g.P.Policy.after_hit i c.in-Some.way o) (c.set_of-set.ensures ∙ ap (λ n. n % x.plant.sets) c.line_at-line.ensures))

-- the same from the cache as it was seen
seen : (g : _) (c : goal.After-store g)
    → touch_of (rule_of c.args.self.now.plant.policy) c.args.self.now (c.args.address / c.args.self.now.plant.line) c.args.mem.now
    ≡ record { cache = cache_state c.self.inside.plant (g.P.Policy.orders c.hit.new.self) c.self.inside.slots; memory = c.args.mem.now; hit = true; back = false }
seen g c = ap (λ (s : CacheState). touch_of (rule_of s.plant.policy) s (c.args.address / s.plant.line) c.args.mem.now) (sym c.self.view_is) ∙ (touched g c).1

pub invariant_of-self : goal.invariant_of-self
invariant_of-self g c =
    let x = c.self.inside in
    let at = slot_entry x.plant.line x.slots in
    let line = c.args.address / x.plant.line in
    let w = c.in-Some.way in
    let k = slot_of x.plant line w in
    let is = way_at x.plant at line c.line_at-line.result c.set_of-set.result w c.line_at-line.ensures c.set_of-set.ensures c.in-Some.ensures in
    let slot : c.set_of-set.result * x.plant.«ways» + w ≡ k = slot_at x.plant line c.line_at-line.result c.set_of-set.result w c.line_at-line.ensures c.set_of-set.ensures in
    let others : (j : ℕ) → j ≢ k → slot_entry x.plant.line c.store.new.self j ≡ at j = λ j ne. c.store.ensures.others j (λ q. ne (q ∙ slot)) in
    let here : slot_entry x.plant.line c.store.new.self k ≡ written (c.args.address % x.plant.line) (bytes_of c.args.size c.args.value) (at k) =
    ap (slot_entry x.plant.line c.store.new.self) (sym slot) ∙ c.store.ensures.here ∙ ap (λ j. written c.place_at-at.result (bytes_of c.args.size c.args.value) (at j)) slot
    ∙ ap (λ j. written j (bytes_of c.args.size c.args.value) (at k)) c.place_at-at.ensures in
    store_whole g.P.Policy.kind_of x.plant x.shift (g.P.Policy.orders c.hit.new.self) x.slots (touched g c).0 c.args.address c.args.size c.args.value w c.store.new.self
    (omega (arith, c.ranges.address.fits)) c.requires.size c.requires.aligned is others here (c.store.ensures.slots (x.plant.sets * x.plant.«ways») c.self.invariant.slots)

pub returns-in-Some-clause-cache : goal.returns-in-Some-clause-cache
returns-in-Some-clause-cache g c =
    let x = c.self.inside in
    let at = slot_entry x.plant.line x.slots in
    let line = c.args.address / x.plant.line in
    let w = c.in-Some.way in
    let k = slot_of x.plant line w in
    let is = way_at x.plant at line c.line_at-line.result c.set_of-set.result w c.line_at-line.ensures c.set_of-set.ensures c.in-Some.ensures in
    let slot : c.set_of-set.result * x.plant.«ways» + w ≡ k = slot_at x.plant line c.line_at-line.result c.set_of-set.result w c.line_at-line.ensures c.set_of-set.ensures in
    let others : (j : ℕ) → j ≢ k → slot_entry x.plant.line c.store.new.self j ≡ at j = λ j ne. c.store.ensures.others j (λ q. ne (q ∙ slot)) in
    let here : slot_entry x.plant.line c.store.new.self k ≡ written (c.args.address % x.plant.line) (bytes_of c.args.size c.args.value) (at k) =
    ap (slot_entry x.plant.line c.store.new.self) (sym slot) ∙ c.store.ensures.here ∙ ap (λ j. written c.place_at-at.result (bytes_of c.args.size c.args.value) (at j)) slot
    ∙ ap (λ j. written j (bytes_of c.args.size c.args.value) (at k)) c.place_at-at.ensures in
    sym (store_is g.P.Policy.kind_of x.plant x.shift (g.P.Policy.orders c.hit.new.self) x.slots (touched g c).0 c.args.address c.args.size c.args.value w c.store.new.self
    (omega (arith, c.ranges.address.fits)) c.requires.size c.requires.aligned is others here)
    ∙ ap (λ (t : Touched). store_of t.cache c.args.address c.args.size c.args.value) (sym (seen g c))

pub returns-in-Some-clause-memory : goal.returns-in-Some-clause-memory
returns-in-Some-clause-memory g c = ap (λ (t : Touched). t.memory) (sym (seen g c))

pub returns-in-Some-clause-hit : goal.returns-in-Some-clause-hit
returns-in-Some-clause-hit g c = ap (λ (t : Touched). t.hit) (sym (seen g c))

pub returns-in-Some-clause-back : goal.returns-in-Some-clause-back
returns-in-Some-clause-back g c = ap (λ (t : Touched). t.back) (sym (seen g c))
