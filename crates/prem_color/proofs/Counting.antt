-- Lines that are counted one by one, and room in the cache.
use Rattle.std.specs.Prelude.{◌==◌, nat_lt, count_by, filter, is_none}
use Rattle.std.specs.Option.{option_and_then}
use Rattle.std.proofs.Common.{◌≡◌, ℕ, zero, suc, ◌+◌, ◌%◌, ◌<◌, ◌≤◌, Bool, true, false, cond, List, [], ◌∷◌, ◌++◌, Option, None, Some, refl, ap, sym, ◌∙◌, subst, arith, ⊎_elim}
use Rattle.std.proofs.Common.{append_assoc, append-nil, length, slice_index, slice_set}
use Rattle.std.proofs.lemmas.Bool.{eq-eqb, ne_eqb, cases_eq, cases_lt, lt-ltb, le-ltb, ltb-false}
use Rattle.std.proofs.lemmas.Nat.{mod_below}
use Rattle.std.proofs.lemmas.List.{get_or-set_same, get_or-set_other, length-set}
use Rattle.std.proofs.lemmas.List.Sums.{length-filter}
use Rattle.std.proofs.lemmas.List.Elements.{filter-append}
use Rattle.std.proofs.lemmas.List.{length-append}
use Rattle.prem_layout.specs.Footprint.{Conflict, count_in, conflict_or, conflict_from, conflict_of}
use Rattle.prem_color.specs.Rooms.{with_line, with_lines}

-- ---- counts of lines

pub record Counted (sets «ways» : ℕ) (lines counts : List ℕ) : Type 0 where
  pub long : length counts ≡ 1024
  pub each : (s : ℕ) → s < sets → slice_index counts s ≡ count_in sets lines s
  pub few : (s : ℕ) → s < sets → count_in sets lines s ≤ «ways»

-- a set that has too many
pub record IsOver (sets «ways» : ℕ) (lines : List ℕ) : Type 0 where
  pub set : ℕ
  pub there : set < sets
  pub over : «ways» < count_in sets lines set

abbrev pub Ends : ℕ → ℕ → List ℕ → Option (List ℕ) → Type 0
Ends sets «ways» lines None = IsOver sets «ways» lines
Ends sets «ways» lines (Some counts) = Counted sets «ways» lines counts

count_by-append : (p : ℕ → Bool) (xs ys : List ℕ) → count_by p (xs ++ ys) ≡ count_by p xs + count_by p ys
count_by-append p xs ys =
    let a = length-filter p (xs ++ ys) in
    let b = length-filter p xs in
    let d = length-filter p ys in
    let e : length (filter p (xs ++ ys)) ≡ length (filter p xs ++ filter p ys) = ap length (filter-append p xs ys) in
    let f = length-append (filter p xs) (filter p ys) in
    omega (arith, a, b, d, e, f)

count_one : (p : ℕ → Bool) (n : ℕ) (b : Bool) → p n ≡ b → count_by p (n ∷ []) ≡ length (cond b (n ∷ []) [])
count_one p n b e = sym (length-filter p (n ∷ [])) ∙ ap (λ c. length (cond c (n ∷ []) [])) e

one_here : (sets n s : ℕ) → n % sets ≡ s → count_in sets (n ∷ []) s ≡ 1
one_here sets n s e = count_one (λ k. k % sets == s) n true (eq-eqb _ _ e)

none_here : (sets n s : ℕ) → (n % sets ≡ s → ⊥) → count_in sets (n ∷ []) s ≡ 0
none_here sets n s e = count_one (λ k. k % sets == s) n false (ne_eqb _ _ e)

more : (sets : ℕ) (lines : List ℕ) (n s : ℕ) → count_in sets (lines ++ n ∷ []) s ≡ count_in sets lines s + count_in sets (n ∷ []) s
more sets lines n s = count_by-append (λ k. k % sets == s) lines (n ∷ [])

line_goes : (sets «ways» : ℕ) (lines counts : List ℕ) (n : ℕ) → 1 ≤ sets → sets ≤ 1024 → Counted sets «ways» lines counts → Ends sets «ways» (lines ++ n ∷ []) (with_line sets «ways» n counts)
line_goes sets «ways» lines counts n some most h =
    let k : ℕ = n % sets in
    let inside : k < sets = mod_below n sets (omega (arith, some)) in
    ⊎_elim (λ (lt : slice_index counts k < «ways»).
    subst (λ b. Ends sets «ways» (lines ++ n ∷ []) (cond b (Some (slice_set counts k (slice_index counts k + 1))) None)) (sym (lt-ltb _ _ lt)) (room inside lt))
    (λ (le : «ways» ≤ slice_index counts k).
    subst (λ b. Ends sets «ways» (lines ++ n ∷ []) (cond b (Some (slice_set counts k (slice_index counts k + 1))) None)) (sym (le-ltb _ _ le)) (full inside le))
    (cases_lt (slice_index counts k) «ways»)
  where
    full : n % sets < sets → «ways» ≤ slice_index counts (n % sets) → IsOver sets «ways» (lines ++ n ∷ [])
    full inside le =
        let a : slice_index counts (n % sets) ≡ count_in sets lines (n % sets) = h.each (n % sets) inside in
        let b : count_in sets (lines ++ n ∷ []) (n % sets) ≡ count_in sets lines (n % sets) + count_in sets (n ∷ []) (n % sets) = more sets lines n (n % sets) in
        let c : count_in sets (n ∷ []) (n % sets) ≡ 1 = one_here sets n (n % sets) refl in
        record { set = n % sets; there = inside; over = omega (arith, le, a, b, c) }

    room : n % sets < sets → slice_index counts (n % sets) < «ways» → Counted sets «ways» (lines ++ n ∷ []) (slice_set counts (n % sets) (slice_index counts (n % sets) + 1))
    room inside lt =
        let long : length counts ≡ 1024 = h.long in
        let within : n % sets < length counts = omega (arith, inside, most, long) in
        record {
          long = length-set counts (n % sets) (slice_index counts (n % sets) + 1) ∙ long;
          each = λ s there. ⊎_elim (λ (e : n % sets ≡ s). here s e) (λ (e : n % sets ≡ s → ⊥). other s there e) (cases_eq (n % sets) s);
          few = λ s there. ⊎_elim (λ (e : n % sets ≡ s). (let a : slice_index counts (n % sets) ≡ count_in sets lines (n % sets) = h.each (n % sets) inside in
              let a2 : count_in sets lines (n % sets) ≡ count_in sets lines s = ap (count_in sets lines) e in
              let b : count_in sets (lines ++ n ∷ []) s ≡ count_in sets lines s + count_in sets (n ∷ []) s = more sets lines n s in
              let c : count_in sets (n ∷ []) s ≡ 1 = one_here sets n s e in
              omega (arith, lt, a, a2, b, c)))
              (λ (e : n % sets ≡ s → ⊥). (let f : count_in sets lines s ≤ «ways» = h.few s there in
              let b : count_in sets (lines ++ n ∷ []) s ≡ count_in sets lines s + count_in sets (n ∷ []) s = more sets lines n s in
              let c : count_in sets (n ∷ []) s ≡ 0 = none_here sets n s e in
              omega (arith, f, b, c)))
              (cases_eq (n % sets) s);
        }
      where
        here : (s : ℕ) → n % sets ≡ s → slice_index (slice_set counts (n % sets) (slice_index counts (n % sets) + 1)) s ≡ count_in sets (lines ++ n ∷ []) s
        here s e =
            let lengthy : n % sets < length counts = (let long : length counts ≡ 1024 = h.long in omega (arith, inside, most, long)) in
            ap (λ j. slice_index (slice_set counts (n % sets) (slice_index counts (n % sets) + 1)) j) (sym e)
            ∙ get_or-set_same counts (n % sets) (slice_index counts (n % sets) + 1) 0 lengthy
            ∙ ap (λ m. m + 1) (h.each (n % sets) inside) ∙ ap (λ j. count_in sets lines j + 1) e
            ∙ ap (λ m. count_in sets lines s + m) (sym (one_here sets n s e)) ∙ sym (more sets lines n s)

        other : (s : ℕ) → s < sets → (n % sets ≡ s → ⊥) → slice_index (slice_set counts (n % sets) (slice_index counts (n % sets) + 1)) s ≡ count_in sets (lines ++ n ∷ []) s
        other s there e =
            let z : count_in sets lines s ≡ count_in sets lines s + 0 = omega arith in
            get_or-set_other counts (n % sets) s (slice_index counts (n % sets) + 1) 0 (λ q. e (sym q)) ∙ h.each s there ∙ z
            ∙ ap (λ m. count_in sets lines s + m) (sym (none_here sets n s e)) ∙ sym (more sets lines n s)

over_more : (sets «ways» : ℕ) (lines ns : List ℕ) → IsOver sets «ways» lines → IsOver sets «ways» (lines ++ ns)
over_more sets «ways» lines ns o =
    let e : count_in sets (lines ++ ns) o.set ≡ count_in sets lines o.set + count_in sets ns o.set = count_by-append (λ k. k % sets == o.set) lines ns in
    let over = o.over in
    record { set = o.set; there = o.there; over = omega (arith, over, e) }

pub lines_go : (sets «ways» : ℕ) (ns lines counts : List ℕ) → 1 ≤ sets → sets ≤ 1024 → Counted sets «ways» lines counts → Ends sets «ways» (lines ++ ns) (with_lines sets «ways» ns counts)
lines_go sets «ways» [] lines counts some most h = subst (λ ls. Counted sets «ways» ls counts) (sym (append-nil lines)) h
lines_go sets «ways» (n ∷ ns) lines counts some most h =
    by (with_line sets «ways» n counts) (line_goes sets «ways» lines counts n some most h) (λ next counted. lines_go sets «ways» ns (lines ++ n ∷ []) next some most counted)
  where
    by : (o : Option (List ℕ)) → Ends sets «ways» (lines ++ n ∷ []) o →
        ((next : List ℕ) → Counted sets «ways» (lines ++ n ∷ []) next → Ends sets «ways» ((lines ++ n ∷ []) ++ ns) (with_lines sets «ways» ns next)) →
        Ends sets «ways» (lines ++ n ∷ ns) (option_and_then (λ next. with_lines sets «ways» ns next) o)
    by None over go = subst (IsOver sets «ways») (append_assoc lines (n ∷ []) ns) (over_more sets «ways» (lines ++ n ∷ []) ns over)
    by (Some next) counted go = subst (λ ls. Ends sets «ways» ls (with_lines sets «ways» ns next)) (append_assoc lines (n ∷ []) ns) (go next counted)

-- ---- room in the cache

room_from : (sets «ways» : ℕ) (lines : List ℕ) (s left : ℕ) → ((k : ℕ) → s ≤ k → k < s + left → count_in sets lines k ≤ «ways») → conflict_from sets «ways» lines s left ≡ None
room_from sets «ways» lines s zero h = refl
room_from sets «ways» lines s (suc left) h =
    ap (λ b. conflict_or b (record { set = s; lines = count_in sets lines s }) (conflict_from sets «ways» lines (s + 1) left)) (le-ltb «ways» (count_in sets lines s) (h s (omega arith) (omega arith)))
    ∙ room_from sets «ways» lines (s + 1) left (λ k low high. h k (omega (arith, low)) (omega (arith, high)))

no_room_from : (sets «ways» : ℕ) (lines : List ℕ) (s left k : ℕ) → s ≤ k → k < s + left → «ways» < count_in sets lines k → is_none (conflict_from sets «ways» lines s left) ≡ false
no_room_from sets «ways» lines s zero k low high over = absurd (omega (arith, low, high))
no_room_from sets «ways» lines s (suc left) k low high over =
    by (nat_lt «ways» (count_in sets lines s)) refl (λ (other : s ≡ k → ⊥). no_room_from sets «ways» lines (s + 1) left k (omega (arith, low, other)) (omega (arith, high)) over)
  where
    by : (b : Bool) → nat_lt «ways» (count_in sets lines s) ≡ b → ((s ≡ k → ⊥) → is_none (conflict_from sets «ways» lines (s + 1) left) ≡ false) →
        is_none (conflict_or b (record { set = s; lines = count_in sets lines s }) (conflict_from sets «ways» lines (s + 1) left)) ≡ false
    by true e go = refl
    by false e go =
        let le : count_in sets lines s ≤ «ways» = ltb-false _ _ e in
        ⊎_elim (λ (same : s ≡ k). absurd (let x : count_in sets lines s ≡ count_in sets lines k = ap (count_in sets lines) same in omega (arith, le, over, x)))
        (λ (other : s ≡ k → ⊥). go other)
        (cases_eq s k)

pub has_room_where : (sets «ways» : ℕ) (lines : List ℕ) → ((s : ℕ) → s < sets → count_in sets lines s ≤ «ways») → is_none (conflict_of sets «ways» lines) ≡ true
has_room_where sets «ways» lines h = ap (λ (o : Option Conflict). is_none o) (room_from sets «ways» lines 0 sets (λ k low high. h k (omega (arith, high))))

pub no_room_where : (sets «ways» : ℕ) (lines : List ℕ) → IsOver sets «ways» lines → is_none (conflict_of sets «ways» lines) ≡ false
no_room_where sets «ways» lines o = no_room_from sets «ways» lines 0 sets o.set (omega arith) (let there = o.there in omega (arith, there)) o.over
