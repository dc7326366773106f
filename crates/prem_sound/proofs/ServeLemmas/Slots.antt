-- The first words of the devices' lines in memory: apart from each other, and under no resident line.
use Rattle.std.proofs.Common.{◌≡◌, ℕ, ◌+◌, ◌*◌, ◌/◌, ◌%◌, ◌<◌, ◌≤◌, ap, ◌∙◌, sym, subst, arith, Some, true, false, List, length, map, ⊎_elim}
use Rattle.prem_sound.proofs.Prelude.{IsLine, IsKept, kept_plant, no_device, device_of, Setup, area_of, IsPlaced, absent_view, CacheState, is_resident, view_of, AreApart, Plant, number_at}
use Rattle.prem_sound.proofs.Prelude.{cases_Bool, mod-mul-add, div-mul-add, div-add-mod', mul-le, slice_get-map, slice_get-get_or, All, slice_get, slice_index, option_map}

-- the first byte of a line of a device
abbrev pub slot : Setup → ℕ → ℕ → ℕ
slot p d j = (device_of p d).area + j * p.plant.line

pub record SlotFits (p : Setup) (at : ℕ) : Type 0 where
  pub begins : at % p.plant.line ≡ 0
  pub within : at + p.plant.line ≤ p.plant.memory

slot_begins : (area line size : ℕ) → 0 < size → area % size ≡ 0 → (area + line * size) % size ≡ 0
slot_begins area line size some begins =
    let e : area + line * size ≡ (area / size + line) * size + 0 = omega (arith, div-add-mod' area size) in
    ap (λ n. n % size) e ∙ mod-mul-add (area / size + line) size 0 some

slot_within : (area line lines size memory : ℕ) → line < lines → area + lines * size ≤ memory → area + line * size + size ≤ memory
slot_within area line lines size memory lt le =
    let m : (line + 1) * size ≤ lines * size = mul-le (line + 1) size lines size (omega arith) (omega arith) in
    omega arith

pub slot_fits : (p : Setup) (d j : ℕ) → 16 ≤ p.plant.line → All (IsPlaced p.plant.line p.plant.memory) p.devices → IsLine p d j → SlotFits p (slot p d j)
slot_fits p d j low placed l =
    let is : IsPlaced p.plant.line p.plant.memory (device_of p d) = placed d no_device l.there in
    record {
      begins = slot_begins (device_of p d).area j p.plant.line (omega arith) is.aligned;
      within = slot_within (device_of p d).area j (device_of p d).device.lines p.plant.line p.plant.memory l.within is.within;
    }

-- a byte of it lies in its line
pub slot_line : (size at i : ℕ) → at % size ≡ 0 → i < size → (at + i) / size ≡ at / size
slot_line size at i begins lt =
    let e : at + i ≡ at / size * size + i = omega (arith, div-add-mod' at size) in
    ap (λ n. n / size) e ∙ div-mul-add (at / size) size i lt

-- ---- two of them

same_times : (i j size : ℕ) → 0 < size → i * size ≡ j * size → i ≡ j
same_times i j size some e =
    let a : (i * size + 0) / size ≡ i = div-mul-add i size 0 some in
    let b : (j * size + 0) / size ≡ j = div-mul-add j size 0 some in
    let c : i * size + 0 ≡ j * size + 0 = omega (arith, e) in
    sym a ∙ ap (λ n. n / size) c ∙ b

area_get : (p : Setup) (d : ℕ) → d < length p.devices → slice_get (map (area_of p.plant.line) p.devices) d ≡ Some (area_of p.plant.line (device_of p d))
area_get p d lt = slice_get-map (area_of p.plant.line) p.devices d ∙ ap (option_map (area_of p.plant.line)) (slice_get-get_or p.devices d no_device lt)

-- in one line there is one of them
pub slots_apart : (p : Setup) (d j e i : ℕ) → 16 ≤ p.plant.line → All (IsPlaced p.plant.line p.plant.memory) p.devices →
    AreApart (map (area_of p.plant.line) p.devices) → IsLine p d j → IsLine p e i → slot p d j / p.plant.line ≡ slot p e i / p.plant.line → (d ≡ e) × (j ≡ i)
slots_apart p d j e i low placed apart l m same =
    let size : ℕ = p.plant.line in
    let a : ℕ = slot p d j in
    let b : ℕ = slot p e i in
    let fa : SlotFits p a = slot_fits p d j low placed l in
    let fb : SlotFits p b = slot_fits p e i low placed m in
    let ea : a ≡ a / size * size = omega (arith, div-add-mod' a size, fa.begins) in
    let eb : b ≡ b / size * size = omega (arith, div-add-mod' b size, fb.begins) in
    let ab : a ≡ b = ea ∙ ap (λ n. n * size) same ∙ sym eb in
    let da : (device_of p d).area + j * size + size ≤ (device_of p d).area + (device_of p d).device.lines * size =
    slot_within (device_of p d).area j (device_of p d).device.lines size _ l.within (omega arith) in
    let db : (device_of p e).area + i * size + size ≤ (device_of p e).area + (device_of p e).device.lines * size =
    slot_within (device_of p e).area i (device_of p e).device.lines size _ m.within (omega arith) in
    let one : d ≡ e =
    apart.disjoint d e a (area_of size (device_of p d)) (area_of size (device_of p e)) (area_get p d l.there) (area_get p e m.there)
    (omega arith, omega arith) (omega (arith, ab), omega (arith, ab, db)) in
    let times : j * size ≡ i * size = let s : (device_of p d).area ≡ (device_of p e).area = ap (λ n. (device_of p n).area) one in omega (arith, ab, s) in
    (one, same_times j i size (omega arith) times)

-- ---- the cache

pub record SlotOut (p : Setup) (c : CacheState) (at : ℕ) : Type 0 where
  pub out : is_resident c (at / c.plant.line) ≡ false
  pub fits : at % c.plant.line + 4 ≤ c.plant.line
  pub line : c.plant.line ≡ p.plant.line

pub slot_out : (p : Setup) (c : CacheState) (memory : List ℕ) (d j : ℕ) → IsKept p c memory → All (IsPlaced p.plant.line p.plant.memory) p.devices → IsLine p d j → SlotOut p c (slot p d j)
slot_out p c memory d j h placed l =
    let same : c.plant.line ≡ p.plant.line = ap (λ (q : Plant). q.line) h.plant in
    let low : 16 ≤ p.plant.line = (kept_plant p c memory h).line.0 in
    let f : SlotFits p (slot p d j) = slot_fits p d j low placed l in
    record {
      out =
          ⊎_elim (λ (t : is_resident c (slot p d j / c.plant.line) ≡ true). absurd (h.free (slot p d j / c.plant.line) t d j l.there l.within (ap (λ n. slot p d j / n) same)))
          (λ (f : is_resident c (slot p d j / c.plant.line) ≡ false). f) (cases_Bool (is_resident c (slot p d j / c.plant.line)));
      fits = subst (λ n. slot p d j % n + 4 ≤ n) (sym same) (omega (arith, f.begins));
      line = same;
    }

-- the core sees memory's word there
pub slot_seen : (p : Setup) (c : CacheState) (memory : List ℕ) (at : ℕ) → IsKept p c memory → SlotOut p c at → number_at (view_of c memory) at 4 ≡ number_at (slice_index memory) at 4
slot_seen p c memory at h o = absent_view c at 4 memory h.cache o.out o.fits
