-- Divisions of steps go together.
use Rattle.std.proofs.Common.{◌≡◌, ℕ, ◌+◌, ◌≤◌, refl, ap, ◌∙◌, sym, arith, List, [], ◌∷◌, ◌++◌, append_assoc, append-nil}
use Rattle.prem_wcet_laws.proofs.Prelude.{Ending, Falls, Returns, Stuck, with_trace, total, AllSteps, Did, Plant, lone_charge, Division, ends, alone, together, section, joined, steps_of}
use Rattle.prem_wcet_laws.proofs.Prelude.{charge_of, StaysOn, AreLoose, IsDivision, KeepsTo, scope_charge, Divides, RunDivides}

module _ (p : Plant) where
  pub joined_steps : (x y : Division) → steps_of (joined x y) ≡ steps_of x ++ steps_of y
  joined_steps ends y = refl
  joined_steps (alone d rest) y = ap (λ ds. d ∷ ds) (joined_steps rest y)
  joined_steps (section steps weight rest) y = ap (λ ds. steps ++ ds) (joined_steps rest y) ∙ sym (append_assoc steps (steps_of rest) (steps_of y))
  joined_steps (together lines steps rest) y = ap (λ ds. steps ++ ds) (joined_steps rest y) ∙ sym (append_assoc steps (steps_of rest) (steps_of y))

  pub joined_charge : (x y : Division) → charge_of p (joined x y) ≡ charge_of p x + charge_of p y
  joined_charge ends y = omega arith
  joined_charge (alone d rest) y = omega (arith, joined_charge rest y)
  joined_charge (together lines steps rest) y = omega (arith, joined_charge rest y)
  joined_charge (section steps weight rest) y = omega (arith, joined_charge rest y)

  joined_keeps : (x y : Division) → IsDivision p.line x → IsDivision p.line y → IsDivision p.line (joined x y)
  joined_keeps ends y h k = k
  joined_keeps (alone d rest) y h k = joined_keeps rest y h k
  joined_keeps (together lines steps rest) y h k = (h.0, joined_keeps rest y h.1 k)
  joined_keeps (section steps weight rest) y h k = absurd h

  pub joined_loose : (x y : Division) → AreLoose x → AreLoose y → AreLoose (joined x y)
  joined_loose ends y h k = k
  joined_loose (alone d rest) y h k = (h.0, joined_loose rest y h.1 k)
  joined_loose (together lines steps rest) y h k = (h.0, joined_loose rest y h.1 k)
  joined_loose (section steps weight rest) y h k = joined_loose rest y h k

  less_sum : (a b c m n : ℕ) → a ≡ b + c → b ≤ m → c ≤ n → a ≤ m + n
  less_sum a b c m n e h k = omega (arith, e, h, k)

  pub divides_join : (m n : ℕ) (xs ys : List Did) → Divides p m xs → Divides p n ys → Divides p (m + n) (xs ++ ys)
  divides_join m n xs ys h k = record {
    division = joined h.division k.division;
    keeps = joined_keeps h.division k.division h.keeps k.keeps;
    steps_are = ap (λ z. z ++ ys) h.steps_are ∙ ap (λ z. steps_of h.division ++ z) k.steps_are ∙ sym (joined_steps h.division k.division);
    loose = joined_loose h.division k.division h.loose k.loose;
    charged = less_sum _ _ _ m n (joined_charge h.division k.division) h.charged k.charged;
  }

  pub divides_more : (m n : ℕ) (xs : List Did) → m ≤ n → Divides p m xs → Divides p n xs
  divides_more m n xs le h = record { division = h.division; keeps = h.keeps; steps_are = h.steps_are; loose = h.loose; charged = further _ m n h.charged le } where
    further : (a b c : ℕ) → a ≤ b → b ≤ c → a ≤ c
    further a b c h k = omega (arith, h, k)

  pub divides_none : Divides p 0 []
  divides_none = record { division = ends; keeps = tt; steps_are = refl; loose = tt; charged = omega arith }

  -- steps that stand alone
  lone : List Did → Division
  lone [] = ends
  lone (d ∷ ds) = alone d (lone ds)

  lone_steps : (ds : List Did) → ds ≡ steps_of (lone ds)
  unfolding lone
  lone_steps [] = refl
  lone_steps (d ∷ ds) = ap (λ z. d ∷ z) (lone_steps ds)

  lone_keeps : (ds : List Did) → IsDivision p.line (lone ds)
  unfolding lone
  lone_keeps [] = tt
  lone_keeps (d ∷ ds) = lone_keeps ds

  lone_loose : (ds : List Did) → AllSteps StaysOn ds → AreLoose (lone ds)
  unfolding lone
  lone_loose [] h = tt
  lone_loose (d ∷ ds) h = (h.0, lone_loose ds h.1)

  lone_charged : (ds : List Did) → charge_of p (lone ds) ≡ total (lone_charge p) ds
  unfolding lone
  lone_charged [] = refl
  lone_charged (d ∷ ds) = ap (λ n. lone_charge p d + n) (lone_charged ds)

  pub divides_alone : (n : ℕ) (ds : List Did) → AllSteps StaysOn ds → total (lone_charge p) ds ≤ n → Divides p n ds
  divides_alone n ds stays le = record { division = lone ds; keeps = lone_keeps ds; steps_are = lone_steps ds; loose = lone_loose ds stays; charged = same _ _ n (lone_charged ds) le } where
    same : (a b c : ℕ) → a ≡ b → b ≤ c → a ≤ c
    same a b c e h = omega (arith, e, h)

  -- steps of one scope
  pub divides_together : (n : ℕ) (lines : List ℕ) (ds : List Did) → AllSteps (KeepsTo p.line lines) ds → AllSteps StaysOn ds → scope_charge p lines ds ≤ n → Divides p n ds
  divides_together n lines ds h stays le = record {
    loose = (stays, tt);
    division = together lines ds ends;
    keeps = (h, tt);
    steps_are = sym (append-nil ds);
    charged = none _ n le;
  } where
    none : (a b : ℕ) → a ≤ b → a + 0 ≤ b
    none a b h = omega (arith, h)

  -- ---- runs

  pub run_more : (m n : ℕ) (o : Ending) → m ≤ n → RunDivides p m o → RunDivides p n o
  run_more m n (Falls t trace) le h = divides_more m n trace le h
  run_more m n (Returns back t trace) le h = divides_more m n trace le h
  run_more m n Stuck le h = tt

  pub run_with : (m n : ℕ) (steps : List Did) (o : Ending) → Divides p m steps → RunDivides p n o → RunDivides p (m + n) (with_trace steps o)
  run_with m n steps (Falls t trace) h k = divides_join m n steps trace h k
  run_with m n steps (Returns back t trace) h k = divides_join m n steps trace h k
  run_with m n steps Stuck h k = tt
