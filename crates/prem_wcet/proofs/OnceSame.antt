-- Ranges that are each kept once are the same as all that were put behind each other.
use Rattle.std.proofs.Common.{◌≡◌, ℕ, Bool, true, false, ◌||◌, cond, List, [], ◌∷◌, ◌++◌, map, refl, ap, sym, ◌∙◌}
use Rattle.std.proofs.lemmas.Bool.{eqb-true, and_parts}
use Rattle.std.proofs.lemmas.List.Folds.{list_any-append}
use Rattle.std.specs.List.{list_any, flat_map}
use Rattle.prem_plant.specs.Places.{Extent}
use Rattle.prem_wcet_laws.specs.Scopes.{Scene, fact_of}
use Rattle.prem_wcet.specs.Same.{AreSame}
use Rattle.prem_wcet.specs.Once.{is_range, with_range, with_ranges, with_names, with_code, with_touched}
use Rattle.prem_wcet.specs.Outlines.{Outline, ended, plain, calling, choice, turning, names_of, callees_of}

or_true : (b : Bool) → b || true ≡ true
or_true true = refl
or_true false = refl

or_false : (b : Bool) → b || false ≡ b
or_false true = refl
or_false false = refl

or_assoc : (a b c : Bool) → (a || b) || c ≡ a || (b || c)
or_assoc true b c = refl
or_assoc false b c = refl

or_twice : (a b : Bool) → a || b ≡ (a || b) || a
or_twice true b = refl
or_twice false true = refl
or_twice false false = refl

false_true : false ≡ true → ⊥
false_true e = cc

-- ---- one range

is_it : (r x : Extent) → is_range r x ≡ true → x ≡ r
is_it r x is = λ i. (eqb-true x.0 r.0 (and_parts _ _ is).0 i, eqb-true x.1 r.1 (and_parts _ _ is).1 i)

found : (p : Extent → Bool) (r : Extent) (rs : List Extent) → list_any (is_range r) rs ≡ true → list_any p rs ≡ list_any p rs || p r
found p r [] is = absurd (false_true is)
found p r (x ∷ xs) is = by_first (is_range r x) refl is (found p r xs) where
  by_first : (b : Bool) → is_range r x ≡ b → (b || list_any (is_range r) xs) ≡ true →
      (list_any (is_range r) xs ≡ true → list_any p xs ≡ list_any p xs || p r) → p x || list_any p xs ≡ (p x || list_any p xs) || p r
  by_first true same e rest = ap (λ y. p y || list_any p xs) (is_it r x same) ∙ or_twice (p r) (list_any p xs) ∙ ap (λ y. (p y || list_any p xs) || p r) (sym (is_it r x same))
  by_first false same e rest = ap (λ b. p x || b) (rest e) ∙ sym (or_assoc (p x) (list_any p xs) (p r))

pub range_same : (rs : List Extent) (r : Extent) (p : Extent → Bool) → list_any p (with_range rs r) ≡ list_any p rs || p r
range_same rs r p = by_test (list_any (is_range r) rs) refl where
  by_test : (b : Bool) → list_any (is_range r) rs ≡ b → list_any p (cond b rs (rs ++ r ∷ [])) ≡ list_any p rs || p r
  by_test true is = found p r rs is
  by_test false is = list_any-append p rs (r ∷ []) ∙ ap (λ b. list_any p rs || b) (or_false (p r))

pub ranges_same : (rs more : List Extent) (p : Extent → Bool) → list_any p (with_ranges rs more) ≡ list_any p rs || list_any p more
ranges_same rs [] p = sym (or_false (list_any p rs))
ranges_same rs (r ∷ more) p = ranges_same (with_range rs r) more p ∙ ap (λ b. b || list_any p more) (range_same rs r p) ∙ or_assoc (list_any p rs) (p r) (list_any p more)

-- ---- what statements put behind others

three : (r t o s : Bool) → ((r || t) || o) || s ≡ r || (t || (o || s))
three true t o s = refl
three false t o s = or_assoc t o s

one : (r n m c : Bool) → (r || n) || (m || c) ≡ r || ((n || m) || c)
one true n m c = refl
one false n m c = sym (or_assoc n m c)

two : (r n t m c : Bool) → ((r || n) || t) || (m || c) ≡ r || ((n || m) || (t || c))
two true n t m c = refl
two false true t m c = refl
two false false true m c = sym (or_true m)
two false false false m c = refl

inside : (r n m t u c : Bool) → ((r || n) || (m || t)) || (u || c) ≡ r || ((n || (m || u)) || (t || c))
inside true n m t u c = refl
inside false true m t u c = refl
inside false false true t u c = refl
inside false false false true u c = sym (or_true u)
inside false false false false u c = refl

sides : (r n m t k s u c : Bool) → (((r || n) || (m || t)) || (k || s)) || (u || c) ≡ r || ((n || (m || (k || u))) || (t || (s || c)))
sides true n m t k s u c = refl
sides false true m t k s u c = refl
sides false false true t k s u c = refl
sides false false false true k s u c = sym (or_true (k || u))
sides false false false false true s u c = refl
sides false false false false false true u c = sym (or_true u)
sides false false false false false false u c = refl

edges : (s n c a b : Bool) → ((s || (n || c)) || a) || b ≡ s || ((a || (n || b)) || c)
edges true n c a b = refl
edges false n c true b = ap (λ x. x || b) (or_true (n || c))
edges false true c false b = refl
edges false false true false b = sym (or_true b)
edges false false false false b = sym (or_false b)

module _ (e : Scene) (p : Extent → Bool) where
  abbrev run : ℕ → List Extent
  run f = (fact_of e f).code

  abbrev touch : ℕ → List Extent
  touch f = (fact_of e f).touched

  abbrev R : List ℕ → Bool
  R fs = list_any p (flat_map run fs)

  abbrev C : List ℕ → Bool
  C fs = list_any p (flat_map touch fs)

  abbrev N : List ℕ → Bool
  N gs = list_any p (map e.global gs)

  R_append : (fs gs : List ℕ) → R (fs ++ gs) ≡ R fs || R gs
  R_append [] gs = refl
  R_append (f ∷ fs) gs =
      list_any-append p (run f) (flat_map run (fs ++ gs)) ∙ ap (λ b. list_any p (run f) || b) (R_append fs gs) ∙ sym (or_assoc (list_any p (run f)) (R fs) (R gs))
      ∙ ap (λ b. b || R gs) (sym (list_any-append p (run f) (flat_map run fs)))

  C_append : (fs gs : List ℕ) → C (fs ++ gs) ≡ C fs || C gs
  C_append [] gs = refl
  C_append (f ∷ fs) gs =
      list_any-append p (touch f) (flat_map touch (fs ++ gs)) ∙ ap (λ b. list_any p (touch f) || b) (C_append fs gs) ∙ sym (or_assoc (list_any p (touch f)) (C fs) (C gs))
      ∙ ap (λ b. b || C gs) (sym (list_any-append p (touch f) (flat_map touch fs)))

  N_append : (xs ys : List ℕ) → N (xs ++ ys) ≡ N xs || N ys
  N_append [] ys = refl
  N_append (x ∷ xs) ys = ap (λ b. p (e.global x) || b) (N_append xs ys) ∙ sym (or_assoc (p (e.global x)) (N xs) (N ys))

  N_more : (xs ys : List ℕ) (b : Bool) → N ys ≡ b → N (xs ++ ys) ≡ N xs || b
  N_more xs ys b is = N_append xs ys ∙ ap (λ c. N xs || c) is

  C_more : (xs ys : List ℕ) (b : Bool) → C ys ≡ b → C (xs ++ ys) ≡ C xs || b
  C_more xs ys b is = C_append xs ys ∙ ap (λ c. C xs || c) is

  names_any : (rs : List Extent) (names : List ℕ) → list_any p (with_names e rs names) ≡ list_any p rs || N names
  names_any rs names = ranges_same rs (map e.global names) p

  code_any : (rs : List Extent) (o : Outline) → list_any p (with_code e rs o) ≡ list_any p rs || R (callees_of o)
  code_any rs ended = sym (or_false (list_any p rs))
  code_any rs (plain code names rest) = code_any rs rest
  code_any rs (calling code names arguments count callee landing rest) =
      code_any (with_ranges rs (run callee)) rest ∙ ap (λ b. b || R (callees_of rest)) (ranges_same rs (run callee) p)
      ∙ or_assoc (list_any p rs) (list_any p (run callee)) (R (callees_of rest))
      ∙ ap (λ b. list_any p rs || b) (sym (list_any-append p (run callee) (flat_map run (callees_of rest))))
  code_any rs (choice code names condition skips taken other rest) =
      code_any (with_code e (with_code e rs taken) other) rest
      ∙ ap (λ b. b || R (callees_of rest)) (code_any (with_code e rs taken) other ∙ ap (λ b. b || R (callees_of other)) (code_any rs taken))
      ∙ three (list_any p rs) (R (callees_of taken)) (R (callees_of other)) (R (callees_of rest))
      ∙ ap (λ b. list_any p rs || b) (sym (R_append (callees_of taken) (callees_of other ++ callees_of rest) ∙ ap (λ b. R (callees_of taken) || b) (R_append (callees_of other) (callees_of rest))))
  code_any rs (turning code names first turns head before body behind rest) =
      code_any (with_code e rs body) rest ∙ ap (λ b. b || R (callees_of rest)) (code_any rs body) ∙ or_assoc (list_any p rs) (R (callees_of body)) (R (callees_of rest))
      ∙ ap (λ b. list_any p rs || b) (sym (R_append (callees_of body) (callees_of rest)))

  touched_any : (rs : List Extent) (o : Outline) → list_any p (with_touched e rs o) ≡ list_any p rs || (N (names_of o) || C (callees_of o))
  touched_any rs ended = sym (or_false (list_any p rs))
  touched_any rs (plain code names rest) =
      touched_any (with_names e rs names) rest ∙ ap (λ b. b || (N (names_of rest) || C (callees_of rest))) (names_any rs names)
      ∙ one (list_any p rs) (N names) (N (names_of rest)) (C (callees_of rest)) ∙ ap (λ b. list_any p rs || (b || C (callees_of rest))) (sym (N_append names (names_of rest)))
  touched_any rs (calling code names arguments count callee landing rest) =
      touched_any (with_ranges (with_names e rs names) (touch callee)) rest
      ∙ ap (λ b. b || (N (names_of rest) || C (callees_of rest))) (ranges_same (with_names e rs names) (touch callee) p ∙ ap (λ b. b || list_any p (touch callee)) (names_any rs names))
      ∙ two (list_any p rs) (N names) (list_any p (touch callee)) (N (names_of rest)) (C (callees_of rest))
      ∙ (λ i. list_any p rs || (sym (N_append names (names_of rest)) i || sym (list_any-append p (touch callee) (flat_map touch (callees_of rest))) i))
  touched_any rs (choice code names condition skips taken other rest) =
      touched_any (with_touched e (with_touched e (with_names e rs names) taken) other) rest
      ∙ ap (λ b. b || (N (names_of rest) || C (callees_of rest)))
      (touched_any (with_touched e (with_names e rs names) taken) other
      ∙ ap (λ b. b || (N (names_of other) || C (callees_of other))) (touched_any (with_names e rs names) taken ∙ ap (λ b. b || (N (names_of taken) || C (callees_of taken))) (names_any rs names)))
      ∙ sides (list_any p rs) (N names) (N (names_of taken)) (C (callees_of taken)) (N (names_of other)) (C (callees_of other)) (N (names_of rest)) (C (callees_of rest))
      ∙ (λ i. list_any p rs
      || (sym (N_more names (names_of taken ++ (names_of other ++ names_of rest)) (N (names_of taken) || (N (names_of other) || N (names_of rest)))
      (N_more (names_of taken) (names_of other ++ names_of rest) (N (names_of other) || N (names_of rest)) (N_append (names_of other) (names_of rest)))) i
      || sym (C_more (callees_of taken) (callees_of other ++ callees_of rest) (C (callees_of other) || C (callees_of rest)) (C_append (callees_of other) (callees_of rest))) i))
  touched_any rs (turning code names first turns head before body behind rest) =
      touched_any (with_touched e (with_names e rs names) body) rest
      ∙ ap (λ b. b || (N (names_of rest) || C (callees_of rest))) (touched_any (with_names e rs names) body ∙ ap (λ b. b || (N (names_of body) || C (callees_of body))) (names_any rs names))
      ∙ inside (list_any p rs) (N names) (N (names_of body)) (C (callees_of body)) (N (names_of rest)) (C (callees_of rest))
      ∙ (λ i. list_any p rs
      || (sym (N_more names (names_of body ++ names_of rest) (N (names_of body) || N (names_of rest)) (N_append (names_of body) (names_of rest)))
      i || sym (C_append (callees_of body) (callees_of rest)) i))

pub code_same : (e : Scene) (rs : List Extent) (o : Outline) → AreSame (with_code e rs o) (rs ++ flat_map (λ f. (fact_of e f).code) (callees_of o))
code_same e rs o = λ p. code_any e p rs o ∙ sym (list_any-append p rs (flat_map (λ f. (fact_of e f).code) (callees_of o)))

pub touched_same : (e : Scene) (rs : List Extent) (o : Outline) → AreSame (with_touched e rs o) (rs ++ (map e.global (names_of o) ++ flat_map (λ f. (fact_of e f).touched) (callees_of o)))
touched_same e rs o = λ p.
    touched_any e p rs o
    ∙ ap (λ b. list_any p rs || b) (sym (list_any-append p (map e.global (names_of o)) (flat_map (λ f. (fact_of e f).touched) (callees_of o))))
    ∙ sym (list_any-append p rs (map e.global (names_of o) ++ flat_map (λ f. (fact_of e f).touched) (callees_of o)))

pub names_same : (e : Scene) (rs : List Extent) (names : List ℕ) → AreSame (with_names e rs names) (rs ++ map e.global names)
names_same e rs names = λ p. ranges_same rs (map e.global names) p ∙ sym (list_any-append p rs (map e.global names))

-- the edges of code before and behind statements
pub edges_same : (e : Scene) (rs : List Extent) (o : Outline) (before behind : List ℕ) →
    AreSame (with_names e (with_names e (with_touched e rs o) before) behind) (rs ++ (map e.global (before ++ (names_of o ++ behind)) ++ flat_map (λ f. (fact_of e f).touched) (callees_of o)))
edges_same e rs o before behind = λ p.
    names_any e p (with_names e (with_touched e rs o) before) behind
    ∙ ap (λ b. b || N e p behind) (names_any e p (with_touched e rs o) before ∙ ap (λ b. b || N e p before) (touched_any e p rs o))
    ∙ edges (list_any p rs) (N e p (names_of o)) (C e p (callees_of o)) (N e p before) (N e p behind)
    ∙ ap (λ b. list_any p rs || (b || C e p (callees_of o))) (sym (N_more e p before (names_of o ++ behind) (N e p (names_of o) || N e p behind) (N_append e p (names_of o) behind)))
    ∙ ap (λ b. list_any p rs || b) (sym (list_any-append p (map e.global (before ++ (names_of o ++ behind))) (flat_map (λ f. (fact_of e f).touched) (callees_of o))))
    ∙ sym (list_any-append p rs (map e.global (before ++ (names_of o ++ behind)) ++ flat_map (λ f. (fact_of e f).touched) (callees_of o)))
