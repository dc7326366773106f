-- Instructions parted into scopes, and the strands that they give.
use Rattle.std.proofs.Common.{◌≡◌, ℕ, suc, ◌+◌, ◌*◌, ◌≤◌, refl, ap, ◌∙◌, sym, subst, arith, List, [], ◌∷◌, ◌++◌, append_assoc, append-nil}
use Rattle.prem_sound.proofs.Prelude.{due_of, Did, Change, Stay, Memory, Execute, End, Job, Plant, within_stretch, Scope, KeepsToLines, charge_of, dids_of, charges_of, single, Strand, ends}
use Rattle.prem_sound.proofs.Prelude.{runs, calls, dids_along, GoesTo, IsWithinInterval, IsStrand, change_behind, last_change, calls_begun, scope_due, begun_along, charges_along, EndsNoJob}
use Rattle.prem_sound.proofs.Prelude.{StretchesWithin, change_due, call_at, Script, All-nil, All-cons, All-append, sum_by-cons, All, sum_by}
use Rattle.prem_sound.proofs.ScopesLemmas.Alone.{singles_are_due}
use Rattle.prem_sound.specs.Scopes.Parted.{IsQuiet, strand_of, stretch_along, OneIsParted, EachIsParted, PartsJoin, PartsGrow, PartsAreStrands, CallsAreStrands, JobsEndDue, StrandsSumUp}
use Rattle.prem_sound.specs.Scopes.Parted.{StretchesShrink}
use Rattle.prem_sound.specs.Scopes.Strands.{joined}

-- ---- parts

pub one_is_parted : OneIsParted
one_is_parted plant lines ds h = record {
  scopes = record { lines = lines; dids = ds } ∷ [];
  dids_are = append-nil ds;
  within = All-cons (KeepsToLines plant) (record { lines = lines; dids = ds }) [] h (All-nil (KeepsToLines plant));
  charged = omega arith;
}

each_scope : Plant → List Did → List Scope
each_scope plant [] = []
each_scope plant (d ∷ ds) = single plant d ∷ each_scope plant ds

each_dids : (plant : Plant) (ds : List Did) → dids_of (each_scope plant ds) ≡ ds
unfolding each_scope
each_dids plant [] = refl
each_dids plant (d ∷ ds) = ap (λ xs. d ∷ xs) (each_dids plant ds)

each_within : (plant : Plant) (ds : List Did) → All (KeepsToLines plant) (each_scope plant ds)
unfolding each_scope
each_within plant [] = All-nil (KeepsToLines plant)
each_within plant (d ∷ ds) = All-cons (KeepsToLines plant) (single plant d) (each_scope plant ds) (singles_are_due plant d).0 (each_within plant ds)

each_charge : (plant : Plant) (ds : List Did) → charges_of plant (each_scope plant ds) ≡ sum_by (due_of plant) ds
unfolding each_scope
each_charge plant [] = refl
each_charge plant (d ∷ ds) =
    ap (λ n. n + charges_of plant (each_scope plant ds)) (singles_are_due plant d).1
    ∙ ap (λ n. due_of plant d + n) (each_charge plant ds)
    ∙ sym (sum_by-cons (due_of plant) d ds)

pub each_is_parted : EachIsParted
each_is_parted plant ds = record { scopes = each_scope plant ds; dids_are = each_dids plant ds; within = each_within plant ds; charged = omega (arith, each_charge plant ds) }

dids-append : (xs ys : List Scope) → dids_of (xs ++ ys) ≡ dids_of xs ++ dids_of ys
dids-append [] ys = refl
dids-append (x ∷ xs) ys = ap (λ ds. x.dids ++ ds) (dids-append xs ys) ∙ sym (append_assoc x.dids (dids_of xs) (dids_of ys))

charges-append : (plant : Plant) (xs ys : List Scope) → charges_of plant (xs ++ ys) ≡ charges_of plant xs + charges_of plant ys
charges-append plant [] ys = omega arith
charges-append plant (x ∷ xs) ys = let r : charges_of plant (xs ++ ys) ≡ charges_of plant xs + charges_of plant ys = charges-append plant xs ys in omega (arith, r)

pub parts_join : PartsJoin
parts_join plant xs ys a b p q = record {
  scopes = p.scopes ++ q.scopes;
  dids_are = dids-append p.scopes q.scopes ∙ ap (λ ds. ds ++ dids_of q.scopes) p.dids_are ∙ ap (λ ds. xs ++ ds) q.dids_are;
  within = All-append (KeepsToLines plant) p.scopes q.scopes p.within q.within;
  charged = omega (arith, charges-append plant p.scopes q.scopes, p.charged, q.charged);
}

pub parts_grow : PartsGrow
parts_grow plant ds a b le p = record { scopes = p.scopes; dids_are = p.dids_are; within = p.within; charged = omega (arith, le, p.charged) }

-- ---- quiet strands

quiet_change : (ds : List Did) (c : Change) → c ≡ Stay → All IsQuiet ds → change_behind c ds ≡ Stay
quiet_change [] c e h = e
quiet_change (d ∷ ds) c e h = quiet_change ds d.change (h 0 d (omega arith)).goes_on (λ k x lt. h (suc k) x (omega (arith, lt)))

quiet_interval : (ds : List Did) → All IsQuiet ds → IsWithinInterval ds
quiet_interval [] h = tt
quiet_interval (d ∷ ds) h =
    let q : IsQuiet d = h 0 d (omega arith) in
    (q.phase, subst (λ c. GoesTo c ds) (sym q.goes_on) tt, quiet_interval ds (λ k x lt. h (suc k) x (omega (arith, lt))))

left_quiet : (xs ys : List Did) → All IsQuiet (xs ++ ys) → All IsQuiet xs
left_quiet [] ys h = All-nil IsQuiet
left_quiet (x ∷ xs) ys h = All-cons IsQuiet x xs (h 0 x (omega arith)) (left_quiet xs ys (λ k d lt. h (suc k) d (omega (arith, lt))))

right_quiet : (xs ys : List Did) → All IsQuiet (xs ++ ys) → All IsQuiet ys
right_quiet [] ys h = h
right_quiet (x ∷ xs) ys h = right_quiet xs ys (λ k d lt. h (suc k) d (omega (arith, lt)))

module _ (plant : Plant) where
  stay_due : (s : Script) (begun : ℕ) (x : Scope) → last_change x.dids ≡ Stay → scope_due plant s begun x ≡ charge_of plant x
  stay_due s begun x e = let z : change_due plant (call_at s begun).stated (last_change x.dids) ≡ 0 = ap (change_due plant (call_at s begun).stated) e in omega (arith, z)

  -- what the rest of it keeps
  record Rest (scopes : List Scope) : Type 0 where
    strand : IsStrand plant (strand_of scopes)
    no_job : EndsNoJob (strand_of scopes)
    no_call : (begun : ℕ) → begun_along begun (strand_of scopes) ≡ begun
    charged : (s : Script) (begun : ℕ) → charges_along plant s begun (strand_of scopes) ≡ charges_of plant scopes
    stretch : (stretch : ℕ) → stretch_along plant stretch (strand_of scopes) ≡ stretch + charges_of plant scopes
    within : (longest stretch : ℕ) → stretch + charges_of plant scopes ≤ longest → StretchesWithin plant longest stretch (strand_of scopes)

  strand_dids : (scopes : List Scope) → dids_along (strand_of scopes) ≡ dids_of scopes
  strand_dids [] = refl
  strand_dids (x ∷ xs) = ap (λ ds. x.dids ++ ds) (strand_dids xs)

  quiet_rest : (scopes : List Scope) → All (KeepsToLines plant) scopes → All IsQuiet (dids_of scopes) → Rest scopes
  quiet_rest [] w h = record { strand = tt; no_job = tt; no_call = λ begun. refl; charged = λ s begun. refl; stretch = λ stretch. omega arith; within = λ longest stretch le. tt }
  quiet_rest (x ∷ xs) w h =
      let here : All IsQuiet x.dids = left_quiet x.dids (dids_of xs) h in
      let r : Rest xs = quiet_rest xs (λ k d lt. w (suc k) d (omega (arith, lt))) (right_quiet x.dids (dids_of xs) h) in
      let e : last_change x.dids ≡ Stay = quiet_change x.dids Stay refl here in
      let count : (begun : ℕ) → begun + calls_begun (last_change x.dids) ≡ begun = (λ begun. let z : calls_begun (last_change x.dids) ≡ 0 = ap calls_begun e in omega (arith, z)) in
      let on : (n : ℕ) → within_stretch (last_change x.dids) n ≡ n = (λ n. ap (λ c. within_stretch c n) e) in
      record {
        strand = (quiet_interval x.dids here, w 0 x (omega arith), r.strand);
        no_job = (λ j. let z : Stay ≡ Job = sym e ∙ j in cc, r.no_job);
        no_call = λ begun. ap (λ n. begun_along n (strand_of xs)) (count begun) ∙ r.no_call begun;
        charged = λ s begun.
            let a : charges_along plant s (begun + calls_begun (last_change x.dids)) (strand_of xs) ≡ charges_of plant xs = r.charged s (begun + calls_begun (last_change x.dids)) in
            omega (arith, a, stay_due s begun x e);
        stretch = λ stretch.
            let a : stretch_along plant (within_stretch (last_change x.dids) (stretch + charge_of plant x)) (strand_of xs)
            ≡ within_stretch (last_change x.dids) (stretch + charge_of plant x) + charges_of plant xs =
            r.stretch (within_stretch (last_change x.dids) (stretch + charge_of plant x)) in
            omega (arith, a, on (stretch + charge_of plant x));
        within = λ longest stretch le. (omega (arith, le), r.within longest (within_stretch (last_change x.dids) (stretch + charge_of plant x)) (omega (arith, on (stretch + charge_of plant x), le)));
      }

pub parts_are_strands : PartsAreStrands
parts_are_strands plant ds most p h =
    let r : Rest plant p.scopes = quiet_rest plant p.scopes p.within (subst (All IsQuiet) (sym p.dids_are) h) in
    record {
      dids_are = strand_dids plant p.scopes ∙ p.dids_are;
      strand = r.strand;
      no_job = r.no_job;
      no_call = r.no_call;
      charged = λ s begun. omega (arith, r.charged s begun, p.charged);
      stretch = λ stretch. omega (arith, r.stretch stretch, p.charged);
      within = λ longest stretch le. r.within longest stretch (omega (arith, le, p.charged));
    }

-- ---- a marked call, and the end of a job

pub calls_are_strands : CallsAreStrands
calls_are_strands plant d ds ph ch h =
    let is : KeepsToLines plant (single plant d) × (charge_of plant (single plant d) ≡ due_of plant d) = singles_are_due plant d in
    record {
      strand = ((ph, subst (λ c. GoesTo c []) (sym ch) refl, tt), is.0, (h, tt));
      no_job = (λ j. let z : Memory ≡ Job = sym ch ∙ j in cc, tt);
      one_call = λ begun. ap (λ c. begun + calls_begun c) ch;
      charged = λ s begun.
          let z : change_due plant (call_at s begun).stated d.change ≡ 2 * plant.switch + (call_at s begun).stated = ap (change_due plant (call_at s begun).stated) ch in
          omega (arith, is.1, z);
      stretch = λ stretch. ap (λ c. within_stretch c (stretch + charge_of plant (single plant d))) ch;
      within = λ longest stretch le. (omega (arith, is.1, le), tt);
    }

pub jobs_end_due : JobsEndDue
jobs_end_due plant s begun d ph ch =
    let is : KeepsToLines plant (single plant d) × (charge_of plant (single plant d) ≡ due_of plant d) = singles_are_due plant d in
    let z : change_due plant (call_at s begun).stated d.change ≡ plant.switch = ap (change_due plant (call_at s begun).stated) ch in
    (((ph, subst (λ c. GoesTo c []) (sym ch) refl, tt), is.0, tt), ch, omega (arith, is.1, z))

-- ---- one behind another

module _ (plant : Plant) (s : Script) where
  sum_charges : (w v : Strand) (begun : ℕ) → charges_along plant s begun (joined w v) ≡ charges_along plant s begun w + charges_along plant s (begun_along begun w) v
  sum_charges ends v begun = omega arith
  sum_charges (runs x rest) v begun =
      let r : charges_along plant s (begun + calls_begun (last_change x.dids)) (joined rest v)
      ≡ charges_along plant s (begun + calls_begun (last_change x.dids)) rest + charges_along plant s
      (begun_along (begun + calls_begun (last_change x.dids)) rest) v = sum_charges rest v (begun + calls_begun (last_change x.dids)) in omega (arith, r)
  sum_charges (calls ds rest) v begun = sum_charges rest v begun

  sum_begun : (w v : Strand) (begun : ℕ) → begun_along begun (joined w v) ≡ begun_along (begun_along begun w) v
  sum_begun ends v begun = refl
  sum_begun (runs x rest) v begun = sum_begun rest v (begun + calls_begun (last_change x.dids))
  sum_begun (calls ds rest) v begun = sum_begun rest v begun

  both_free : (w v : Strand) → EndsNoJob w → EndsNoJob v → EndsNoJob (joined w v)
  both_free ends v h g = g
  both_free (runs x rest) v h g = (h.0, both_free rest v h.1 g)
  both_free (calls ds rest) v h g = both_free rest v h g

  both_within : (w v : Strand) (longest stretch : ℕ) → StretchesWithin plant longest stretch w →
      StretchesWithin plant longest (stretch_along plant stretch w) v → StretchesWithin plant longest stretch (joined w v)
  both_within ends v longest stretch h g = g
  both_within (runs x rest) v longest stretch h g = (h.0, both_within rest v longest (within_stretch (last_change x.dids) (stretch + charge_of plant x)) h.1 g)
  both_within (calls ds rest) v longest stretch h g = both_within rest v longest stretch h g

pub strands_sum_up : StrandsSumUp
strands_sum_up plant s begun w v = (sum_charges plant s w v begun, sum_begun plant s w v begun, both_free plant s w v, both_within plant s w v)

less_stretch : (c : Change) (a b : ℕ) → a ≤ b → within_stretch c a ≤ within_stretch c b
less_stretch Stay a b le = le
less_stretch Memory a b le = omega arith
less_stretch (Execute stated) a b le = le
less_stretch End a b le = omega arith
less_stretch Job a b le = omega arith

pub stretches_shrink : StretchesShrink
stretches_shrink plant longest less more ends le h = tt
stretches_shrink plant longest less more (runs x rest) le h = (
  omega (arith, le, h.0),
  stretches_shrink plant longest (within_stretch (last_change x.dids) (less + charge_of plant x))
      (within_stretch (last_change x.dids) (more + charge_of plant x)) rest
      (less_stretch (last_change x.dids) (less + charge_of plant x) (more + charge_of plant x) (omega (arith, le))) h.1,
)
stretches_shrink plant longest less more (calls ds rest) le h = stretches_shrink plant longest less more rest le h
