-- A line that was just touched is settled: its next touch hits and changes nothing.
use Rattle.std.proofs.Common.{◌≡◌, ◌≢◌, ℕ, ◌-◌, ◌%◌, ◌<◌, refl, ap, ◌∙◌, sym, subst, cond, ltb, Some, true, false, List, [], ◌∷◌, length, take, get_or}
use Rattle.prem_lru.proofs.Prelude.{CacheState, set_of, with_set, touched_by, touch_of, IsCache, Entry, ReplacementRule, SetTouch, find_line, has_line, without_line, filled, written_back}
use Rattle.prem_lru.proofs.Prelude.{last_entry, hit_in, brought_in, replaced, touch_set, to_front, rule_of, IsSettled, Replacement, Lru, Fifo, cond_both, eq-eqb, get_or-set_same}
use Rattle.prem_lru.proofs.Prelude.{get_or-set_other, length-set, set-get_or, mod_below, slice_set}
use Rattle.prem_lru.proofs.Lookup.{some_of, found_line, find_head, to_front_is}
use Rattle.prem_lru.proofs.RuleKinds.{kind_rule}
use Rattle.prem_lru.proofs.Touches.{some_sets, touch_resident}

-- ---- one set

-- the first line comes to the front
front_stays : (line : ℕ) (e : Entry) (es : List Entry) → e.line ≡ line → to_front line (e ∷ es) ≡ e ∷ es
front_stays line e es is =
    to_front_is line (e ∷ es) e (find_head line e es is)
    ∙ ap (λ b. e ∷ cond b es (e ∷ without_line line es)) (eq-eqb e.line line is)

touched_stays : (size room line : ℕ) (es : List Entry) (memory : List ℕ) → to_front line (touch_set to_front size room line es memory).entries ≡ (touch_set to_front size room line es memory).entries
touched_stays size room line es memory =
    let P : SetTouch → Type 0 = λ t. to_front line t.entries ≡ t.entries in
    cond_both (has_line line es) (hit_in to_front line es memory)
    (cond (ltb (length es) room) (brought_in size line es memory) (replaced size line (take (length es - 1) es) (last_entry es) memory)) P
    (λ t.
    let s : (e : Entry) × (find_line line es ≡ Some e) = some_of (find_line line es) t in
    subst (λ xs. to_front line xs ≡ xs) (sym (to_front_is line es s.0 s.1)) (front_stays line s.0 (without_line line es) (found_line line es s.0 s.1)))
    (λ _. cond_both (ltb (length es) room) (brought_in size line es memory) (replaced size line (take (length es - 1) es) (last_entry es) memory) P
    (λ _. front_stays line (filled size line memory) es refl)
    (λ _. front_stays line (filled size line (written_back size (last_entry es) memory)) (take (length es - 1) es) refl))

kind_stays : (kind : Replacement) (size room line : ℕ) (es : List Entry) (memory : List ℕ) →
    rule_of kind line (touch_set (rule_of kind) size room line es memory).entries ≡ (touch_set (rule_of kind) size room line es memory).entries
kind_stays Lru size room line es memory = touched_stays size room line es memory
kind_stays Fifo size room line es memory = refl

-- ---- the whole cache

set_with : (c : CacheState) (line : ℕ) (es : List Entry) → 0 < length c.sets → set_of (with_set c line es) line ≡ es
set_with c line es pos =
    ap (λ n. get_or (slice_set c.sets (line % length c.sets) es) (line % n) []) (length-set c.sets (line % length c.sets) es)
    ∙ get_or-set_same c.sets (line % length c.sets) es [] (mod_below line (length c.sets) pos)

-- a touch settles its line
pub touch_settles : (kind : Replacement) (c : CacheState) (line : ℕ) (memory : List ℕ) → IsCache c → IsSettled (rule_of kind) (touch_of (rule_of kind) c line memory).cache line
touch_settles kind c line memory h =
    let es : List Entry = (touch_set (rule_of kind) c.plant.line c.plant.ways line (set_of c line) memory).entries in
    record {
      resident = touch_resident (rule_of kind) c line memory (kind_rule kind) h;
      stays = subst (λ xs. rule_of kind line xs ≡ xs) (sym (set_with c line es (some_sets c h))) (kind_stays kind c.plant.line c.plant.ways line (set_of c line) memory);
    }

-- a touch of a settled line hits and changes nothing
pub settled_touch : (rule : ReplacementRule) (c : CacheState) (line : ℕ) (memory : List ℕ) → IsSettled rule c line →
    touch_of rule c line memory ≡ record { cache = c; memory = memory; hit = true; back = false }
settled_touch rule c line memory h =
    let es : List Entry = set_of c line in
    ap (λ b. touched_by c line (cond b (hit_in rule line es memory)
    (cond (ltb (length es) c.plant.ways) (brought_in c.plant.line line es memory) (replaced c.plant.line line (take (length es - 1) es) (last_entry es) memory)))) h.resident
    ∙ ap (λ xs. touched_by c line (hit_in (λ l ys. xs) line es memory)) h.stays
    ∙ ap (λ (xs : List (List Entry)). record { cache = record c { sets = xs }; memory = memory; hit = true; back = false }) (set-get_or c.sets (line % length c.sets) [])

-- what happens to another set leaves it settled
pub settled_beside : (rule : ReplacementRule) (c : CacheState) (line q : ℕ) (es : List Entry) → line % length c.sets ≢ q % length c.sets → IsSettled rule c line → IsSettled rule (with_set c q es) line
settled_beside rule c line q es ne h =
    let same : set_of (with_set c q es) line ≡ set_of c line =
    ap (λ n. get_or (slice_set c.sets (q % length c.sets) es) (line % n) []) (length-set c.sets (q % length c.sets) es)
    ∙ get_or-set_other c.sets (q % length c.sets) (line % length c.sets) es [] ne in
    record {
      resident = subst (λ xs. has_line line xs ≡ true) (sym same) h.resident;
      stays = subst (λ xs. rule line xs ≡ xs) (sym same) h.stays;
    }
