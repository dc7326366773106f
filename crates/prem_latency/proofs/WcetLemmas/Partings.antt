-- Divisions of steps are partings into scopes.
use Rattle.std.specs.Prelude.{All, sum_by, filter}
use Rattle.std.proofs.Common.{◌≡◌, ℕ, ◌+◌, ◌*◌, ◌/◌, ◌%◌, ◌≤◌, inl, inr, refl, ap, ◌∙◌, sym, subst, arith, cond, true, Bool, List, [], ◌∷◌, ◌++◌, length, Option, None, Some}
use Rattle.std.proofs.lemmas.List.Sums.{sum_by-cons}
use Rattle.std.proofs.lemmas.List.Elements.{All-nil, All-cons}
use Rattle.prem_plant.specs.declared.plant.Plant.{Plant}
use Rattle.prem_plant.specs.Order.Order.{is_in, AllIn}
use Rattle.prem_plant.proofs.OrderLemmas.Members.{in_head, in_tail}
use Rattle.prem_isa.specs.declared.effect.Access.{Access}
use Rattle.prem_isa.specs.Decode.{cost_of}
use Rattle.prem_isa.specs.Plain.{Did}
use Rattle.prem_cycle.specs.Runs.Position.Finish.{data_accesses}
use Rattle.prem_sound.specs.Script.Script.{lines_of_did, lines_of_dids, access_lines as data_line}
use Rattle.prem_syntax.specs.Reach.{IsAmong}
use Rattle.prem_asm.specs.Steps.{AllSteps, total}
use Rattle.prem_layout.specs.Bounds.{line_cost}
use Rattle.prem_sound.specs.Scopes.Lines.{roomy_of}
use Rattle.prem_sound.specs.Scopes.Scopes.{Scope, KeepsToLines, dids_of, charges_of, single}
use Rattle.prem_sound.specs.Scopes.Charged.{charge_with, crowd_cost as touch_cost, access_cost}
use Rattle.prem_sound.proofs.ScopesLemmas.StrandLaws.{charges_by_access, scopes_sum_up}
use Rattle.prem_sound.proofs.ScopesLemmas.Alone.{singles_are_due}
use Rattle.prem_sets_sound.proofs.StubLawsLemmas.ChargesLemmas.Singles.{room_is_counted}
use Rattle.prem_wcet_laws.specs.Scopes.{is_roomy, roomy_lines, crowd_cost}
use Rattle.prem_wcet_laws.specs.Divided.{access_lines, AreAmong, KeepsTo, crowd_costs, step_charge, lone_charge, scope_charge, Division, ends, alone, together, section, steps_of, IsDivision}
use Rattle.prem_wcet_laws.specs.Divided.{charge_of as division_charge}
use Rattle.prem_latency.specs.Wcet.Partings.{ScopesAgree, LonesAgree, DivisionsArePartings}

-- ---- charges

module _ (p : Plant) (lines : List ℕ) where
  touches_agree : (n : ℕ) → touch_cost p lines n ≡ crowd_cost p (is_roomy p lines n)
  touches_agree n = ap (λ b. cond b 0 (line_cost p)) (room_is_counted p lines (n % p.sets))

  steps_agree : (d : Did) → charge_with p None lines d ≡ step_charge p lines d
  steps_agree d = charges_by_access p lines d ∙ by d.access where
    fetched : (c a b : ℕ) → a ≡ b → c + a + 0 ≡ c + (b + 0)
    fetched c a b e = omega (arith, e)

    accessed : (c a b x y : ℕ) → a ≡ b → x ≡ y → c + a + x ≡ c + (b + (y + 0))
    accessed c a b x y e f = omega (arith, e, f)

    by : (o : Option Access) → cost_of d.instr + touch_cost p lines (d.pc / p.line) + access_cost p lines o ≡ cost_of d.instr + crowd_costs p lines (d.pc / p.line ∷ access_lines p.line o)
    by None = fetched (cost_of d.instr) (touch_cost p lines (d.pc / p.line)) (crowd_cost p (is_roomy p lines (d.pc / p.line))) (touches_agree (d.pc / p.line))
    by (Some a) =
        accessed (cost_of d.instr) (touch_cost p lines (d.pc / p.line)) (crowd_cost p (is_roomy p lines (d.pc / p.line)))
        (touch_cost p lines (a.address / p.line)) (crowd_cost p (is_roomy p lines (a.address / p.line)))
        (touches_agree (d.pc / p.line)) (touches_agree (a.address / p.line))

  sums_agree : (ds : List Did) → sum_by (λ (d : Did). charge_with p None lines d) ds ≡ total (step_charge p lines) ds
  sums_agree [] = refl
  sums_agree (d ∷ ds) =
      sum_by-cons (λ (d : Did). charge_with p None lines d) d ds ∙ ap (λ n. n + sum_by (λ (d : Did). charge_with p None lines d) ds) (steps_agree d)
      ∙ ap (λ n. step_charge p lines d + n) (sums_agree ds)

  rooms_agree : roomy_of p lines lines ≡ roomy_lines p lines
  rooms_agree = ap (λ (f : ℕ → Bool). filter f lines) (λ i n. room_is_counted p lines (n % p.sets) i)

pub scopes_agree : ScopesAgree
scopes_agree p lines ds =
    scopes_sum_up p (record { lines = lines; dids = ds }) ∙ ap (λ (xs : List ℕ). length xs * line_cost p + sum_by (λ (d : Did). charge_with p None lines d) ds) (rooms_agree p lines)
    ∙ ap (λ n. length (roomy_lines p lines) * line_cost p + n) (sums_agree p lines ds)

pub lones_agree : LonesAgree
lones_agree p d = by d.access where
  by : (o : Option Access) → cost_of d.instr + (1 + data_accesses o) * (p.fill + p.back) ≡ cost_of d.instr + length (d.pc / p.line ∷ access_lines p.line o) * line_cost p
  by None = refl
  by (Some a) = refl

-- ---- lines

among_in : (n : ℕ) (ms : List ℕ) → IsAmong n ms → is_in n ms ≡ true
among_in n [] h = absurd h
among_in n (m ∷ ms) (inl e) = in_head n m ms e
among_in n (m ∷ ms) (inr h) = in_tail n m ms (among_in n ms h)

both_in : (c xs ys : List ℕ) → AllIn c xs → AllIn c ys → AllIn c (xs ++ ys)
both_in c [] ys h k = k
both_in c (x ∷ xs) ys h k = (h.0, both_in c xs ys h.1 k)

step_in : (line : ℕ) (lines : List ℕ) (d : Did) → KeepsTo line lines d → AllIn lines (lines_of_did line d)
step_in line lines d h = by d.access h where
  by : (o : Option Access) → AreAmong lines (d.pc / line ∷ access_lines line o) → AllIn lines (d.pc / line ∷ data_line line o)
  by None h = (among_in _ lines h.0, tt)
  by (Some a) h = (among_in _ lines h.0, (among_in _ lines h.1.0, tt))

pub steps_in : (line : ℕ) (lines : List ℕ) (ds : List Did) → AllSteps (KeepsTo line lines) ds → AllIn lines (lines_of_dids line ds)
steps_in line lines [] h = tt
steps_in line lines (d ∷ ds) h = both_in lines (lines_of_did line d) (lines_of_dids line ds) (step_in line lines d h.0) (steps_in line lines ds h.1)

-- ---- divisions

module _ (p : Plant) where
  abbrev scopes_of : Division → List Scope
  scopes_of ends = []
  scopes_of (alone d rest) = single p d ∷ scopes_of rest
  scopes_of (together lines steps rest) = record { lines = lines; dids = steps } ∷ scopes_of rest
  scopes_of (section steps weight rest) = scopes_of rest

  same_dids : (v : Division) → IsDivision p.line v → dids_of (scopes_of v) ≡ steps_of v
  same_dids ends h = refl
  same_dids (alone d rest) h = ap (λ ds. d ∷ ds) (same_dids rest h)
  same_dids (together lines steps rest) h = ap (λ ds. steps ++ ds) (same_dids rest h.1)
  same_dids (section steps weight rest) h = absurd h

  all_within : (v : Division) → IsDivision p.line v → All (KeepsToLines p) (scopes_of v)
  all_within ends h = All-nil (KeepsToLines p)
  all_within (alone d rest) h = All-cons (KeepsToLines p) (single p d) (scopes_of rest) (singles_are_due p d).0 (all_within rest h)
  all_within (together lines steps rest) h = All-cons (KeepsToLines p) (record { lines = lines; dids = steps }) (scopes_of rest) (steps_in p.line lines steps h.0) (all_within rest h.1)
  all_within (section steps weight rest) h = absurd h

  same_charge : (v : Division) → IsDivision p.line v → charges_of p (scopes_of v) ≡ division_charge p v
  same_charge ends h = refl
  same_charge (alone d rest) h = ap (λ n. n + charges_of p (scopes_of rest)) ((singles_are_due p d).1 ∙ lones_agree p d) ∙ ap (λ n. lone_charge p d + n) (same_charge rest h)
  same_charge (together lines steps rest) h = ap (λ n. n + charges_of p (scopes_of rest)) (scopes_agree p lines steps) ∙ ap (λ n. scope_charge p lines steps + n) (same_charge rest h.1)
  same_charge (section steps weight rest) h = absurd h

pub divisions_are_partings : DivisionsArePartings
divisions_are_partings p most steps h = record {
  scopes = scopes_of p h.division;
  dids_are = same_dids p h.division h.keeps ∙ sym h.steps_are;
  within = all_within p h.division h.keeps;
  charged = subst (λ n. n ≤ most) (sym (same_charge p h.division h.keeps)) h.charged;
}
