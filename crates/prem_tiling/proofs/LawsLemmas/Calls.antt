-- Calls by number: those of a program, and those of the one with tiles.
use Rattle.std.proofs.Common.{◌≡◌, ℕ, zero, suc, ◌+◌, ◌-◌, ◌<◌, ◌≤◌, Bool, true, false, cond, List, [], ◌∷◌, length, refl, ap, sym, ◌∙◌, subst, arith, Option, None, Some, Err, ◌⊎◌, inl, inr}
use Rattle.std.proofs.Common.{⊎_elim}
use Rattle.prem_tiling.proofs.Prelude.{and_then, Routine, access_of, enter_if_there, this_or, calls_below, everywhere, unlimited, ProgramState, Calls, is_marked, enter, renumbered, cases_lt}
use Rattle.prem_tiling.proofs.Prelude.{cases_eq, eq-eqb, ne_eqb, lt-ltb, le-ltb, slice_get}
use Rattle.prem_tiling.proofs.LawsLemmas.Alike.{Alike, calls_all, CallsAlike}
use Rattle.prem_tiling.proofs.LawsLemmas.Joint.{Joint, wrong}

pub slice_get_there : {A : Type 0} (xs : List A) (n : ℕ) → n < length xs → (x : A) × (slice_get xs n ≡ Some x)
slice_get_there [] n lt = absurd (omega arith)
slice_get_there (x ∷ xs) zero lt = (x, refl)
slice_get_there (x ∷ xs) (suc n) lt = slice_get_there xs n (omega arith)

-- nothing is refused
access_is : (r : Routine) (n : ℕ) → access_of unlimited r n everywhere ≡ everywhere
access_is r n = by (is_marked r)
  where
    by : (b : Bool) → cond b everywhere everywhere ≡ everywhere
    by true = refl
    by false = refl

-- ---- a call by its number

pub call_of : (rs : List Routine) (n : ℕ) (r : Routine) → slice_get rs n ≡ Some r → (ws : List ℕ) (s : ProgramState) →
    calls_below unlimited rs (suc n) everywhere n ws s ≡ enter (calls_below unlimited rs n) everywhere r n ws s
call_of rs n r is ws s =
    ap (λ b. this_or b (enter_if_there unlimited (calls_below unlimited rs n) (slice_get rs n) n) (calls_below unlimited rs n) everywhere n ws s) (eq-eqb n n refl)
    ∙ ap (λ o. enter_if_there unlimited (calls_below unlimited rs n) o n everywhere n ws s) is
    ∙ ap (λ may. enter (calls_below unlimited rs n) may r n ws s) (access_is r n)

pub call_before : (rs : List Routine) (n g : ℕ) → (g ≡ n → ⊥) → (ws : List ℕ) (s : ProgramState) → calls_below unlimited rs (suc n) everywhere g ws s ≡ calls_below unlimited rs n everywhere g ws s
call_before rs n g other ws s = ap (λ b. this_or b (enter_if_there unlimited (calls_below unlimited rs n) (slice_get rs n) n) (calls_below unlimited rs n) everywhere g ws s) (ne_eqb g n other)

-- a number that is none of the last ones
call_skips : (rs : List Routine) (a r g : ℕ) → (g < a) ⊎ (a + r ≤ g) → (ws : List ℕ) (s : ProgramState) →
    calls_below unlimited rs (a + r) everywhere g ws s ≡ calls_below unlimited rs a everywhere g ws s
call_skips rs a zero g h ws s = let e : a + 0 ≡ a = omega arith in ap (λ n. calls_below unlimited rs n everywhere g ws s) e
call_skips rs a (suc r) g h ws s =
    let e : a + suc r ≡ suc (a + r) = omega arith in
    ap (λ n. calls_below unlimited rs n everywhere g ws s) e ∙ call_before rs (a + r) g (λ same. ⊎_elim (λ (lt : g < a). omega arith) (λ (le : a + suc r ≤ g). omega arith) h) ws s
    ∙ call_skips rs a r g (⊎_elim (λ (lt : g < a). inl lt) (λ (le : a + suc r ≤ g). inr (omega arith)) h) ws s

-- a number among the last ones
call_among : (rs : List Routine) (a r t : ℕ) (q : Routine) → t < r → slice_get rs (a + t) ≡ Some q → (ws : List ℕ) (s : ProgramState) →
    calls_below unlimited rs (a + r) everywhere (a + t) ws s ≡ enter (calls_below unlimited rs (a + t)) everywhere q (a + t) ws s
call_among rs a r t q lt is ws s =
    let e : a + r ≡ suc (a + t) + (r - suc t) = omega arith in
    ap (λ n. calls_below unlimited rs n everywhere (a + t) ws s) e ∙ call_skips rs (suc (a + t)) (r - suc t) (a + t) (inl (omega arith)) ws s ∙ call_of rs (a + t) q is ws s

calls_all_same : (c c' : Calls) (first m t : ℕ) (s : ProgramState) →
    ((j : ℕ) (s : ProgramState) → t ≤ j → j < t + m → c everywhere (first + j) [] s ≡ c' everywhere (first + j) [] s) →
    calls_all c first m t s ≡ calls_all c' first m t s
calls_all_same c c' first zero t s same = refl
calls_all_same c c' first (suc m) t s same =
    ap (λ o. and_then o (λ (x : ℕ × ProgramState). calls_all c first m (t + 1) x.1)) (same t s (omega arith) (omega arith))
    ∙ ap (and_then (c' everywhere (first + t) [] s)) (λ i x. calls_all_same c c' first m (t + 1) x.1 (λ j u low high. same j u (omega arith) (omega arith)) i)

-- ---- numbers

pub renumbered_below : (first tiles n : ℕ) → n ≤ first → renumbered first tiles n ≡ n
renumbered_below first tiles n le = ap (λ b. cond b (n - 1 + tiles) n) (le-ltb first n le)

pub renumbered_above : (first tiles n : ℕ) → first < n → renumbered first tiles n ≡ n - 1 + tiles
renumbered_above first tiles n lt = ap (λ b. cond b (n - 1 + tiles) n) (lt-ltb first n lt)

pub renumbered_suc : (first tiles n : ℕ) → 0 < tiles → (n ≡ first → ⊥) → renumbered first tiles (suc n) ≡ suc (renumbered first tiles n)
renumbered_suc first tiles n some other = by (cases_lt n first)
  where
    by : (n < first) ⊎ (first ≤ n) → renumbered first tiles (suc n) ≡ suc (renumbered first tiles n)
    by (inl lt) = renumbered_below first tiles (suc n) (omega arith) ∙ ap suc (sym (renumbered_below first tiles n (omega arith)))
    by (inr le) =
        let above : first < n = ⊎_elim (λ (lt : first < n). lt) (λ (ge : n ≤ first). absurd (other (omega arith))) (cases_lt first n) in
        renumbered_above first tiles (suc n) (omega arith) ∙ (let e : suc n - 1 + tiles ≡ suc (n - 1 + tiles) = omega arith in e) ∙ ap suc (sym (renumbered_above first tiles n above))

pub above_first : (first m : ℕ) → (m ≡ first → ⊥) → first ≤ m → first < m
above_first first m other le = ⊎_elim (λ (lt : first < m). lt) (λ (ge : m ≤ first). absurd (other (omega arith))) (cases_lt first m)

-- other functions keep apart
pub renumbered_apart : (first tiles g n : ℕ) → 0 < tiles → (g ≡ first → ⊥) → (n ≡ first → ⊥) → (g ≡ n → ⊥) → renumbered first tiles g ≡ renumbered first tiles n → ⊥
renumbered_apart first tiles g n some other other_n apart same = by (cases_lt g first) (cases_lt n first)
  where
    by : (g < first) ⊎ (first ≤ g) → (n < first) ⊎ (first ≤ n) → ⊥
    by (inl a) (inl b) = apart (sym (renumbered_below first tiles g (omega arith)) ∙ same ∙ renumbered_below first tiles n (omega arith))
    by (inl a) (inr b) = let x = renumbered_below first tiles g (omega arith) in let y = renumbered_above first tiles n (above_first first n other_n b) in omega arith
    by (inr a) (inl b) = let x = renumbered_below first tiles n (omega arith) in let y = renumbered_above first tiles g (above_first first g other a) in omega arith
    by (inr a) (inr b) = let x = renumbered_above first tiles g (above_first first g other a) in let y =
        renumbered_above first tiles n (above_first first n other_n b) in let p = above_first first g other a in let q =
        above_first first n other_n b in apart (omega arith)

-- a renumbered function is no tile
pub renumbered_no_tile : (first tiles g : ℕ) → (g ≡ first → ⊥) → (renumbered first tiles g < first) ⊎ (first + tiles ≤ renumbered first tiles g)
renumbered_no_tile first tiles g other = by (cases_lt g first)
  where
    by : (g < first) ⊎ (first ≤ g) → (renumbered first tiles g < first) ⊎ (first + tiles ≤ renumbered first tiles g)
    by (inl lt) = inl (let e = renumbered_below first tiles g (omega arith) in omega arith)
    by (inr le) = inr (
        let lt : first < g = ⊎_elim (λ (lt : first < g). lt) (λ (ge : g ≤ first). absurd (other (omega arith))) (cases_lt first g) in
        let e = renumbered_above first tiles g lt in
        omega arith)

-- ---- all calls

-- the routines of both programs
pub record AreCut (first tiles : ℕ) (ps qs : List Routine) : Type 0 where
  pub some : 0 < tiles
  pub function : Routine
  pub function_is : slice_get ps first ≡ Some function
  pub tile : ℕ → Routine
  pub tile_is : (t : ℕ) → t < tiles → slice_get qs (first + t) ≡ Some (tile t)
  pub other : ℕ → Routine → Routine
  pub other_is : (g : ℕ) (r : Routine) → (g ≡ first → ⊥) → slice_get ps g ≡ Some r → slice_get qs (renumbered first tiles g) ≡ Some (other g r)
  pub others_enter : (g : ℕ) (r : Routine) (calls calls' : Calls) (ws : List ℕ) (u v : ProgramState) → (g ≡ first → ⊥) → slice_get ps g ≡ Some r →
      CallsAlike first tiles calls calls' → Alike first tiles u v →
      Joint (λ (a b : ℕ × ProgramState). (a.0 ≡ b.0) × Alike first tiles a.1 b.1) (enter calls everywhere r g ws u) (enter calls' everywhere (other g r) (renumbered first tiles g) ws v)
  pub function_enters : (calls : Calls) (callees : ℕ → Calls) (calls' : Calls) →
      ((t : ℕ) → t < tiles → (s : ProgramState) → calls' everywhere (first + t) [] s ≡ enter (callees t) everywhere (tile t) (first + t) [] s) →
      (u v : ProgramState) → Alike first tiles u v →
      Joint (λ (a : ℕ × ProgramState) (b : ProgramState). Alike first tiles a.1 b) (enter calls everywhere function first [] u)
      (calls_all calls' first tiles 0 v)

module _ (first tiles : ℕ) (ps qs : List Routine) (cut : AreCut first tiles ps qs) where
  abbrev C : ℕ → Type 0
  C n = CallsAlike first tiles (calls_below unlimited ps n) (calls_below unlimited qs (renumbered first tiles n))

  no_calls : C 0
  no_calls =
      let z : renumbered first tiles 0 ≡ 0 = renumbered_below first tiles 0 (omega arith) in
      subst (λ m. CallsAlike first tiles (calls_below unlimited ps 0) (calls_below unlimited qs m)) (sym z) (record { other = λ g ws u v other a. wrong 0; function = λ u v a. by tiles cut.some v })
    where
      by : (m : ℕ) → 0 < m → (v : ProgramState) → Joint (λ (a : ℕ × ProgramState) (b : ProgramState). Alike first tiles a.1 b) (Err 0) (calls_all (calls_below unlimited qs 0) first m 0 v)
      by zero some v = absurd (omega arith)
      by (suc m) some v = wrong 0

  -- one function more, which isn't cut
  more_calls : (n : ℕ) (r : Routine) → (n ≡ first → ⊥) → slice_get ps n ≡ Some r → C n → C (suc n)
  more_calls n r other is c =
      subst (λ m. CallsAlike first tiles (calls_below unlimited ps (suc n)) (calls_below unlimited qs m)) (sym (renumbered_suc first tiles n cut.some other)) (record {
        other = λ g ws u v unlike a. by g ws u v unlike a (cases_eq g n);
        function = λ u v a.
            subst (λ o. Joint (λ (a : ℕ × ProgramState) (b : ProgramState). Alike first tiles a.1 b) o
            (calls_all (calls_below unlimited qs (suc m)) first tiles 0 v)) (sym (call_before ps n first (λ same. other (sym same)) [] u))
            (subst (λ o. Joint (λ (a : ℕ × ProgramState) (b : ProgramState). Alike first tiles a.1 b) (calls_below unlimited ps n everywhere first [] u) o)
            (sym (calls_all_same (calls_below unlimited qs (suc m)) (calls_below unlimited qs m) first tiles 0 v
            (λ j s low high. call_before qs m (first + j)
            (λ same. ⊎_elim (λ (lt : m < first). omega arith) (λ (le : first + tiles ≤ m). omega arith) (renumbered_no_tile first tiles n other)) [] s)))
            (c.function u v a));
      })
    where
      m : ℕ
      m = renumbered first tiles n

      by : (g : ℕ) (ws : List ℕ) (u v : ProgramState) → (g ≡ first → ⊥) → Alike first tiles u v → (g ≡ n) ⊎ (g ≡ n → ⊥) →
          Joint (λ (a b : ℕ × ProgramState). (a.0 ≡ b.0) × Alike first tiles a.1 b.1) (calls_below unlimited ps (suc n) everywhere g ws u)
          (calls_below unlimited qs (suc (renumbered first tiles n)) everywhere (renumbered first tiles g) ws v)
      by g ws u v unlike a (inl same) =
          subst (λ k. Joint (λ (a b : ℕ × ProgramState). (a.0 ≡ b.0) × Alike first tiles a.1 b.1) (calls_below unlimited ps (suc n) everywhere k ws u)
          (calls_below unlimited qs (suc (renumbered first tiles n)) everywhere (renumbered first tiles k) ws v)) (sym same)
          (subst (λ o. Joint (λ (a b : ℕ × ProgramState). (a.0 ≡ b.0) × Alike first tiles a.1 b.1) o
          (calls_below unlimited qs (suc (renumbered first tiles n)) everywhere (renumbered first tiles n) ws v)) (sym (call_of ps n r is ws u))
          (subst (λ o. Joint (λ (a b : ℕ × ProgramState). (a.0 ≡ b.0) × Alike first tiles a.1 b.1)
          (enter (calls_below unlimited ps n) everywhere r n ws u) o)
          (sym (call_of qs (renumbered first tiles n) (cut.other n r) (cut.other_is n r other is) ws v))
          (cut.others_enter n r (calls_below unlimited ps n) (calls_below unlimited qs (renumbered first tiles n)) ws u v other is c a)))
      by g ws u v unlike a (inr apart) =
          subst (λ o. Joint (λ (a b : ℕ × ProgramState). (a.0 ≡ b.0) × Alike first tiles a.1 b.1) o
          (calls_below unlimited qs (suc (renumbered first tiles n)) everywhere (renumbered first tiles g) ws v)) (sym (call_before ps n g apart ws u))
          (subst (λ o. Joint (λ (a b : ℕ × ProgramState). (a.0 ≡ b.0) × Alike first tiles a.1 b.1) (calls_below unlimited ps n everywhere g ws u) o)
          (sym (call_before qs (renumbered first tiles n) (renumbered first tiles g) (renumbered_apart first tiles g n cut.some unlike other apart) ws v)) (c.other g ws u v unlike a))

  -- the function that is cut
  cut_calls : C first → C (suc first)
  cut_calls before =
      let above : renumbered first tiles (suc first) ≡ first + tiles = renumbered_above first tiles (suc first) (omega arith) ∙ (let e : suc first - 1 + tiles ≡ first + tiles = omega arith in e) in
      let here : renumbered first tiles first ≡ first = renumbered_below first tiles first (omega arith) in
      let c : CallsAlike first tiles (calls_below unlimited ps first) (calls_below unlimited qs first) =
      subst (λ m. CallsAlike first tiles (calls_below unlimited ps first) (calls_below unlimited qs m)) here before in
      subst (λ m. CallsAlike first tiles (calls_below unlimited ps (suc first)) (calls_below unlimited qs m)) (sym above) (record {
        other = λ g ws u v unlike a.
            subst (λ o. Joint (λ (a b : ℕ × ProgramState). (a.0 ≡ b.0) × Alike first tiles a.1 b.1) o
            (calls_below unlimited qs (first + tiles) everywhere (renumbered first tiles g) ws v)) (sym (call_before ps first g unlike ws u))
            (subst (λ o. Joint (λ (a b : ℕ × ProgramState). (a.0 ≡ b.0) × Alike first tiles a.1 b.1) (calls_below unlimited ps first everywhere g ws u) o)
            (sym (call_skips qs first tiles (renumbered first tiles g) (renumbered_no_tile first tiles g unlike) ws v)) (c.other g ws u v unlike a));
        function = λ u v a.
            subst (λ o. Joint (λ (a : ℕ × ProgramState) (b : ProgramState). Alike first tiles a.1 b) o
            (calls_all (calls_below unlimited qs (first + tiles)) first tiles 0 v)) (sym (call_of ps first cut.function cut.function_is [] u))
            (cut.function_enters (calls_below unlimited ps first) (λ t. calls_below unlimited qs (first + t))
            (calls_below unlimited qs (first + tiles)) (λ t lt s. call_among qs first tiles t (cut.tile t) lt (cut.tile_is t lt) [] s) u v a);
      })

  pub all_calls : (n : ℕ) → n ≤ length ps → C n
  all_calls zero le = no_calls
  all_calls (suc n) le = by (cases_eq n first) (all_calls n (omega arith))
    where
      by : (n ≡ first) ⊎ (n ≡ first → ⊥) → C n → C (suc n)
      by (inl same) c = subst (λ k. C (suc k)) (sym same) (cut_calls (subst C same c))
      by (inr other) c = there (slice_get ps n) refl
        where
          there : (o : Option Routine) → slice_get ps n ≡ o → C (suc n)
          there (Some r) is = more_calls n r other is c
          there None is = absurd (missing is)
            where
              missing : slice_get ps n ≡ None → ⊥
              missing e = let (r, h) = slice_get_there ps n (omega arith) in cc
