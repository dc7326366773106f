-- The word at a line of a device is that of the last put there.
use Rattle.std.proofs.Common.{◌≡◌, ℕ, ◌+◌, ◌*◌, ◌/◌, ◌^◌, ◌<◌, ◌≤◌, refl, ap, ◌∙◌, sym, subst, arith, eqb, leb, Some, None, Option, true, false, Bool, List, [], ◌∷◌, ◌++◌, length, map}
use Rattle.std.proofs.Common.{IfSome, ◌⊎◌, inl, inr, ⊎_elim}
use Rattle.std.specs.Prelude.{All, slice_index, ◌&&◌}
use Rattle.prem_sound.proofs.Prelude.{IsLine, AreGates, stored_out, IsKept, kept_plant, Issue, AllOwn, device_of, IsFree, Setup, Task, Work, startable_is, GateState, GatesState, Turned}
use Rattle.prem_sound.proofs.Prelude.{gate_at, no_gate, startable, without_head, taken, slot_of, memory_after, value_of, transfer_of, carries, wants, starts, bus_free, bus_with, bus_turn}
use Rattle.prem_sound.proofs.Prelude.{IsStart, Carried, CoreWant, No, New, Held, Transfer, Window, Request, area_of, IsPlaced, with_last, Stored, apart_bytes, CacheState, view_of, bytes_of}
use Rattle.prem_sound.proofs.Prelude.{spliced, AreApart, word_by, word_after, GetsLastPuts, number_at-agrees, number_at-put_number, number_at, put_number, cases_eq, cond_both, eq-eqb}
use Rattle.prem_sound.proofs.Prelude.{ne_eqb, get_or-set_same}
use Rattle.prem_gate.specs.Gates.{ends, goes_on}
use Rattle.prem_lru.proofs.Words.{word_view}
use Rattle.prem_sound.proofs.ServeLemmas.Puts.{HoldAll, head_all}
use Rattle.prem_sound.proofs.ServeLemmas.Queues.{queue_at}
use Rattle.prem_sound.proofs.ServeLemmas.Slots.{slot, SlotFits, slot_fits, slot_line, slots_apart, SlotOut, slot_out, slot_seen}

-- ---- one more transfer

word_after-last : (d j : ℕ) (xs : List Transfer) (t : Transfer) (word : ℕ) →
    word_after d j (xs ++ t ∷ []) word ≡ word_by (eqb t.device d && eqb t.request.line j) t.request.put (word_after d j xs word)
word_after-last d j [] t word = refl
word_after-last d j (x ∷ xs) t word = word_after-last d j xs t (word_by (eqb x.device d && eqb x.request.line j) x.request.put word)

-- it is the last one, or one of the others
abbrev LastOrBefore : List Transfer → Transfer → List Transfer → Transfer → Type 0
LastOrBefore xs u before t = ((before ≡ xs) × (u ≡ t)) ⊎ ((after : List Transfer) × (xs ≡ before ++ t ∷ after))

no_tail : (bs after : List Transfer) (t : Transfer) → [] ≡ bs ++ t ∷ after → ⊥
no_tail [] after t e = let x : [] ≡ t ∷ after = e in cc
no_tail (b ∷ bs) after t e = let x : [] ≡ b ∷ (bs ++ t ∷ after) = e in cc

last_or_before : (xs before after : List Transfer) (u t : Transfer) → xs ++ u ∷ [] ≡ before ++ t ∷ after → LastOrBefore xs u before t
last_or_before [] [] after u t e = let x : u ∷ [] ≡ t ∷ after = e in inl (refl, cc)
last_or_before [] (b ∷ bs) after u t e =
    let x : u ∷ [] ≡ b ∷ (bs ++ t ∷ after) = e in
    let y : [] ≡ bs ++ t ∷ after = cc in
    absurd (no_tail bs after t y)
last_or_before (x ∷ xs) [] after u t e =
    let y : x ∷ (xs ++ u ∷ []) ≡ t ∷ after = e in
    let same : x ≡ t = cc in
    inr (xs, ap (λ z. z ∷ xs) same)
last_or_before (x ∷ xs) (b ∷ bs) after u t e =
    let y : x ∷ (xs ++ u ∷ []) ≡ b ∷ (bs ++ t ∷ after) = e in
    let same : x ≡ b = cc in
    let rest : xs ++ u ∷ [] ≡ bs ++ t ∷ after = cc in
    ⊎_elim (λ (l : (bs ≡ xs) × (u ≡ t)). inl (ap (λ z. z ∷ bs) (sym same) ∙ ap (λ zs. x ∷ zs) l.0, l.1))
    (λ (r : (after : List Transfer) × (xs ≡ bs ++ t ∷ after)). inr (r.0, ap (λ z. z ∷ xs) same ∙ ap (λ zs. b ∷ zs) r.1))
    (last_or_before xs bs after u t rest)

gets_more : (xs : List Transfer) (u : Transfer) → GetsLastPuts xs → (u.request.put ≡ None → u.value ≡ word_after u.device u.request.line xs 0) → GetsLastPuts (xs ++ u ∷ [])
gets_more xs u h k before after t e none =
    ⊎_elim (λ (l : (before ≡ xs) × (u ≡ t)).
    ap (λ (z : Transfer). z.value) (sym l.1) ∙ k (ap (λ (z : Transfer). z.request.put) l.1 ∙ none)
    ∙ ap (λ (z : Transfer). word_after z.device z.request.line xs 0) l.1 ∙ ap (λ zs. word_after t.device t.request.line zs 0) (sym l.0))
    (λ (r : (after : List Transfer) × (xs ≡ before ++ t ∷ after)). h before r.0 t r.1 none)
    (last_or_before xs before after u t e)

-- ---- the words

-- as the core sees them, and as the transfers have left them
pub record AreWords (p : Setup) (c : CacheState) (memory : List ℕ) (transfers : List Transfer) : Type 0 where
  pub words : (d j : ℕ) → IsLine p d j → number_at (view_of c memory) (slot p d j) 4 ≡ word_after d j transfers 0
  pub gets : GetsLastPuts transfers

-- the value that is put is a word
abbrev pub PutsWord : Request → Type 0
PutsWord r = IfSome r.put (λ value. value < 2 ^ 32)

by_none : (b : Bool) (word : ℕ) → word_by b None word ≡ word
by_none true word = refl
by_none false word = refl

not_both : (x d y j : ℕ) → ((d ≡ x) × (j ≡ y) → ⊥) → (eqb x d && eqb y j) ≡ false
not_both x d y j ne =
    ⊎_elim (λ (e : x ≡ d).
    ⊎_elim (λ (f : y ≡ j). absurd (ne (sym e, sym f)))
    (λ (g : y ≡ j → ⊥). ap (λ b. b && eqb y j) (eq-eqb x d e) ∙ ne_eqb y j g) (cases_eq y j))
    (λ (g : x ≡ d → ⊥). ap (λ b. b && eqb y j) (ne_eqb x d g)) (cases_eq x d)

module _ (p : Setup) (placed : All (IsPlaced p.plant.line p.plant.memory) p.devices) (apart : AreApart (map (area_of p.plant.line) p.devices)) where
  -- a get
  got : (c : CacheState) (memory : List ℕ) (transfers : List Transfer) (s : GatesState) (t : Carried) → IsKept p c memory →
      IsLine p t.device t.request.line → slot_of s t ≡ slot p t.device t.request.line → t.request.put ≡ None → AreWords p c memory transfers →
      AreWords p c memory (transfers ++ transfer_of s t memory ∷ [])
  got c memory transfers s t k l at none h =
      let u : Transfer = transfer_of s t memory in
      record {
        words = λ d j m.
            h.words d j m ∙ sym (word_after-last d j transfers u 0
            ∙ ap (λ o. word_by (eqb u.device d && eqb u.request.line j) o (word_after d j transfers 0)) none
            ∙ by_none (eqb u.device d && eqb u.request.line j) (word_after d j transfers 0));
        gets = gets_more transfers u h.gets (λ _.
            ap (λ o. value_of (slot_of s t) o memory) none ∙ ap (λ n. number_at (slice_index memory) n 4) at
            ∙ sym (slot_seen p c memory (slot p t.device t.request.line) k (slot_out p c memory t.device t.request.line k placed l))
            ∙ h.words t.device t.request.line l);
      }

  -- a put
  stays_put : (c : CacheState) (memory : List ℕ) (d j e i value : ℕ) → IsKept p c memory → IsLine p d j → IsLine p e i → ((d ≡ e) × (j ≡ i) → ⊥) →
      number_at (view_of c (spliced memory (slot p e i) (bytes_of 4 value))) (slot p d j) 4 ≡ number_at (view_of c memory) (slot p d j) 4
  stays_put c memory d j e i value k l m ne =
      let low : 16 ≤ p.plant.line = (kept_plant p c memory k).line.0 in
      let o : SlotOut p c (slot p e i) = slot_out p c memory e i k placed m in
      let f : SlotFits p (slot p d j) = slot_fits p d j low placed l in
      let g : SlotFits p (slot p e i) = slot_fits p e i low placed m in
      let inside : slot p e i + 4 ≤ length memory = omega (arith, g.within, k.size) in
      number_at-agrees (view_of c (spliced memory (slot p e i) (bytes_of 4 value))) (view_of c memory) (slot p d j) 4 (λ q lt.
      word_view c memory (slot p e i) 4 value (slot p d j + q) k.cache o.out o.fits inside
      ∙ apart_bytes c.plant.line (slot p e i) 4 value (slot p d j + q) (view_of c memory) o.fits
      (λ x. ne (slots_apart p d j e i low placed apart l m (sym (slot_line p.plant.line (slot p d j) q f.begins (omega arith)) ∙ subst (λ n. (slot p d j + q) / n ≡ slot p e i / n) o.line x)))
      (omega (arith, o.line, low)))

  put : (c : CacheState) (memory : List ℕ) (transfers : List Transfer) (s : GatesState) (t : Carried) (value : ℕ) → IsKept p c memory →
      IsLine p t.device t.request.line → slot_of s t ≡ slot p t.device t.request.line → t.request.put ≡ Some value → value < 2 ^ 32 →
      AreWords p c memory transfers → AreWords p c (spliced memory (slot_of s t) (bytes_of 4 value)) (transfers ++ transfer_of s t memory ∷ [])
  put c memory transfers s t value k l at some small h =
      let u : Transfer = transfer_of s t memory in
      let e : ℕ = t.device in
      let i : ℕ = t.request.line in
      let low : 16 ≤ p.plant.line = (kept_plant p c memory k).line.0 in
      let o : SlotOut p c (slot p e i) = slot_out p c memory e i k placed l in
      let g : SlotFits p (slot p e i) = slot_fits p e i low placed l in
      let inside : slot p e i + 4 ≤ length memory = omega (arith, g.within, k.size) in
      let here : number_at (view_of c (spliced memory (slot p e i) (bytes_of 4 value))) (slot p e i) 4 ≡ value =
      number_at-agrees (view_of c (spliced memory (slot p e i) (bytes_of 4 value))) (put_number 4 (slot p e i) value (view_of c memory)) (slot p e i)
      4 (λ q lt. word_view c memory (slot p e i) 4 value (slot p e i + q) k.cache o.out o.fits inside)
      ∙ number_at-put_number 4 (slot p e i) value (view_of c memory) ∙ omega (arith, small) in
      let after : (d j : ℕ) → word_after d j (transfers ++ u ∷ []) 0 ≡ word_by (eqb e d && eqb i j) (Some value) (word_after d j transfers 0) =
      (λ d j. word_after-last d j transfers u 0 ∙ ap (λ x. word_by (eqb e d && eqb i j) x (word_after d j transfers 0)) some) in
      subst (λ n. AreWords p c (spliced memory n (bytes_of 4 value)) (transfers ++ u ∷ [])) (sym at) (record {
        words = λ d j m.
            ⊎_elim (λ (x : d ≡ e).
            ⊎_elim (λ (y : j ≡ i).
            ap (λ n. number_at (view_of c (spliced memory (slot p e i) (bytes_of 4 value))) n 4) (ap (λ n. slot p n j) x ∙ ap (slot p e) y) ∙ here
            ∙ sym (after d j ∙ ap (λ b. word_by (b && eqb i j) (Some value) (word_after d j transfers 0)) (eq-eqb e d (sym x))
            ∙ ap (λ b. word_by b (Some value) (word_after d j transfers 0)) (eq-eqb i j (sym y))))
            (λ (ne : j ≡ i → ⊥). apart_word c memory transfers d j e i value u k m l after (λ z. ne z.1) h) (cases_eq j i))
            (λ (ne : d ≡ e → ⊥). apart_word c memory transfers d j e i value u k m l after (λ z. ne z.0) h) (cases_eq d e);
        gets = gets_more transfers u h.gets (λ none. let z : None ≡ Some value = sym none ∙ some in absurd cc);
      }) where
        apart_word : (c : CacheState) (memory : List ℕ) (transfers : List Transfer) (d j e i value : ℕ) (u : Transfer) → IsKept p c memory →
            IsLine p d j → IsLine p e i → ((d j : ℕ) →
            word_after d j (transfers ++ u ∷ []) 0 ≡ word_by (eqb e d && eqb i j) (Some value) (word_after d j transfers 0)) →
            ((d ≡ e) × (j ≡ i) → ⊥) → AreWords p c memory transfers →
            number_at (view_of c (spliced memory (slot p e i) (bytes_of 4 value))) (slot p d j) 4 ≡ word_after d j (transfers ++ u ∷ []) 0
        apart_word c memory transfers d j e i value u k m l after ne h =
            stays_put c memory d j e i value k m l ne ∙ h.words d j m
            ∙ sym (after d j ∙ ap (λ b. word_by b (Some value) (word_after d j transfers 0)) (not_both e d i j ne))

  ended_words : (c : CacheState) (memory : List ℕ) (transfers : List Transfer) (s : GatesState) (t : Carried) (o : Option ℕ) → IsKept p c memory →
      IsLine p t.device t.request.line → slot_of s t ≡ slot p t.device t.request.line → t.request.put ≡ o → IfSome o (λ value. value < 2 ^ 32) →
      AreWords p c memory transfers → AreWords p c (memory_after (slot_of s t) o memory) (transfers ++ transfer_of s t memory ∷ [])
  ended_words c memory transfers s t None k l at e small h = got c memory transfers s t k l at e h
  ended_words c memory transfers s t (Some value) k l at e small h = put c memory transfers s t value k l at e small h

  -- ---- the bus

  abbrev TurnWords : CacheState → List Transfer → Turned → Type 0
  TurnWords c transfers t = AreWords p c t.memory (with_last t.turn.ended transfers)

  carries_words : (c : CacheState) (memory : List ℕ) (transfers : List Transfer) (clash : Bool) (t : Carried) (s : GatesState) → IsKept p c memory →
      IsLine p t.device t.request.line → slot_of s t ≡ slot p t.device t.request.line → PutsWord t.request → AreWords p c memory transfers →
      TurnWords c transfers (carries clash t s memory)
  carries_words c memory transfers clash t s k l at w h =
      cond_both (leb t.left 1) (ends clash t s memory) (goes_on clash t s memory) (TurnWords c transfers)
      (λ _. ended_words c memory transfers s t t.request.put k l at refl w h) (λ _. h)

  slot_is : (s : GatesState) (t : Carried) → AreGates p s → IsLine p t.device t.request.line → slot_of s t ≡ slot p t.device t.request.line
  slot_is s t g l =
      ap (λ a. a + t.request.line * s.line) (g.each t.device l.there).area ∙ ap (λ n. (device_of p t.device).area + t.request.line * n) g.line

  taken_slot : (s : GatesState) (t : Carried) → t.device < length s.gates → slot_of (taken t.device s) t ≡ slot_of s t
  taken_slot s t lt = ap (λ (g : GateState). g.area + t.request.line * s.line) (get_or-set_same s.gates t.device (without_head (gate_at s.gates t.device)) no_gate lt)

  starts_words : (now : ℕ) (v : Window) (c : CacheState) (memory : List ℕ) (transfers : List Transfer) (core : Bool) (start : Option Carried)
      (s : GatesState) → IsKept p c memory → AreGates p s → HoldAll PutsWord s → startable now v s ≡ start → AreWords p c memory transfers →
      TurnWords c transfers (starts core start s memory)
  starts_words now v c memory transfers core None s k g a is h = h
  starts_words now v c memory transfers core (Some t) s k g a is h =
      let x : IsStart now v s.gates t = startable_is now v s t is in
      let lt : t.device < length p.devices = omega (arith, x.there, g.count) in
      let l : IsLine p t.device t.request.line =
      record {
        there = lt;
        within = head_all (λ (r : Request). r.line < (device_of p t.device).device.lines) (queue_at s t.device)
            t.request x.head (g.each t.device lt).queue;
      } in
      carries_words c memory transfers core t (taken t.device s) k l (taken_slot s t x.there ∙ slot_is s t g l) (head_all PutsWord (queue_at s t.device) t.request x.head (a.queues t.device)) h

  free_words : (now : ℕ) (v : Window) (c : CacheState) (memory : List ℕ) (transfers : List Transfer) (core : CoreWant) (start : Option Carried)
      (s : GatesState) → IsKept p c memory → AreGates p s → HoldAll PutsWord s → startable now v s ≡ start → AreWords p c memory transfers →
      TurnWords c transfers (bus_free core start s memory)
  free_words now v c memory transfers No start s k g a is h = starts_words now v c memory transfers false start s k g a is h
  free_words now v c memory transfers New start s k g a is h = starts_words now v c memory transfers true start s k g a is h
  free_words now v c memory transfers Held start s k g a is h = h

  with_words : (now : ℕ) (v : Window) (c : CacheState) (memory : List ℕ) (transfers : List Transfer) (core : CoreWant) (carried : Option Carried)
      (s : GatesState) → IsKept p c memory → AreGates p s → HoldAll PutsWord s → IfSome carried (λ t. IsLine p t.device t.request.line) →
      IfSome carried (λ t. PutsWord t.request) → AreWords p c memory transfers → TurnWords c transfers (bus_with core carried (startable now v s) s memory)
  with_words now v c memory transfers core (Some t) s k g a l w h = carries_words c memory transfers (wants core) t s k l (slot_is s t g l) w h
  with_words now v c memory transfers core None s k g a l w h = free_words now v c memory transfers core (startable now v s) s k g a refl h

  pub turn_words : (now : ℕ) (v : Window) (c : CacheState) (memory : List ℕ) (transfers : List Transfer) (core : CoreWant) (s : GatesState) →
      IsKept p c memory → AreGates p s → HoldAll PutsWord s → AreWords p c memory transfers → TurnWords c transfers (bus_turn now v core s memory)
  turn_words now v c memory transfers core s k g a h = with_words now v c memory transfers core s.carried s k g a g.carried a.carried h

  -- ---- an instruction

  -- an own byte lies in no line of a device
  not_own : (own : ℕ → Bool) (d j q : ℕ) → 16 ≤ p.plant.line → ((a : ℕ) → own a ≡ true → IsFree p (a / p.plant.line)) → IsLine p d j → q < 4 → own (slot p d j + q) ≡ true → ⊥
  not_own own d j q low free l lt o =
      let f : SlotFits p (slot p d j) = slot_fits p d j low placed l in
      free (slot p d j + q) o d j l.there l.within (slot_line p.plant.line (slot p d j) q f.begins (omega arith))

  pub issue_words : (own : ℕ → Bool) (tasks : List Task) (stored : Option Stored) (w w' : Work) (transfers : List Transfer) →
      IsKept p w.cache w.memory → ((a : ℕ) → own a ≡ true → IsFree p (a / p.plant.line)) → IfSome stored (λ s. AllOwn own s.address s.size) →
      Issue p tasks stored (view_of w.cache w.memory) w' → AreWords p w.cache w.memory transfers → AreWords p w'.cache w'.memory transfers
  issue_words own tasks stored w w' transfers k free stores f h =
      record {
        words = λ d j l.
            number_at-agrees (view_of w'.cache w'.memory) (view_of w.cache w.memory) (slot p d j) 4 (λ q lt.
            f.sees (slot p d j + q) ∙ stored_out own stored (view_of w.cache w.memory) (slot p d j + q) stores (not_own own d j q (kept_plant p w.cache w.memory k).line.0 free l lt))
            ∙ h.words d j l;
        gets = h.gets;
      }
