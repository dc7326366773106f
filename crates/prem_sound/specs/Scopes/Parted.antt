-- Instructions without marked calls, parted into scopes that are charged at most so much: what code has to show, part by part.
use Rattle.std.specs.Prelude.{◌≡◌, ℕ, ◌+◌, ◌*◌, ◌≤◌, true, All, List, [], ◌∷◌, ◌++◌, sum_by}
use Rattle.prem_sound.specs.Prelude.{is_predictable, due_of, Did, Stay, Memory, Job, Compatible, AllIn, Plant}
use Rattle.prem_sound.specs.Paced.Paced.{within_stretch}
use Rattle.prem_sound.specs.Scopes.Scopes.{Scope, KeepsToLines, charge_of, dids_of, charges_of, single}
use Rattle.prem_sound.specs.Scopes.Strands.{Strand, ends, runs, calls, dids_along, IsStrand, last_change, scope_due, joined, begun_along, charges_along, EndsNoJob, StretchesWithin}
use Rattle.prem_sound.specs.Script.Script.{lines_of_dids, call_at, Script}

-- some instructions are those of some scopes, one after another, each of which keeps to its lines, and which are charged at most so much
pub record IsParted (plant : Plant) (dids : List Did) (most : ℕ) : Type 0 where
  pub scopes : List Scope
  pub dids_are : dids_of scopes ≡ dids
  pub within : All (KeepsToLines plant) scopes
  pub charged : charges_of plant scopes ≤ most

-- an instruction of a compatible interval that goes on
pub record IsQuiet (d : Did) : Type 0 where
  pub phase : d.phase ≡ Compatible
  pub goes_on : d.change ≡ Stay

abbrev pub strand_of : List Scope → Strand
strand_of [] = ends
strand_of (s ∷ scopes) = runs s (strand_of scopes)

-- the cycles of the stretch that isn't over behind a strand
abbrev pub stretch_along : Plant → (stretch : ℕ) → Strand → ℕ
stretch_along plant stretch ends = stretch
stretch_along plant stretch (runs x rest) = stretch_along plant (within_stretch (last_change x.dids) (stretch + charge_of plant x)) rest
stretch_along plant stretch (calls ds rest) = stretch_along plant stretch rest

-- ---- the laws

-- instructions as one scope, and one by one; some behind others; and with more
abbrev pub OneIsParted : Type 0
OneIsParted = (plant : Plant) (lines : List ℕ) (ds : List Did) → AllIn lines (lines_of_dids plant.line ds) → IsParted plant ds (charge_of plant (record { lines = lines; dids = ds }))

abbrev pub EachIsParted : Type 0
EachIsParted = (plant : Plant) (ds : List Did) → IsParted plant ds (sum_by (due_of plant) ds)

abbrev pub PartsJoin : Type 0
PartsJoin = (plant : Plant) (xs ys : List Did) (a b : ℕ) → IsParted plant xs a → IsParted plant ys b → IsParted plant (xs ++ ys) (a + b)

abbrev pub PartsGrow : Type 0
PartsGrow = (plant : Plant) (ds : List Did) (a b : ℕ) → a ≤ b → IsParted plant ds a → IsParted plant ds b

-- a strand that is charged at most so much, and so are its stretches
pub record IsQuietStrand (plant : Plant) (ds : List Did) (most : ℕ) (w : Strand) : Type 0 where
  pub dids_are : dids_along w ≡ ds
  pub strand : IsStrand plant w
  pub no_job : EndsNoJob w
  pub no_call : (begun : ℕ) → begun_along begun w ≡ begun
  pub charged : (s : Script) (begun : ℕ) → charges_along plant s begun w ≤ most
  pub stretch : (stretch : ℕ) → stretch_along plant stretch w ≤ stretch + most
  pub within : (longest stretch : ℕ) → stretch + most ≤ longest → StretchesWithin plant longest stretch w

-- quiet instructions that are parted give one
abbrev pub PartsAreStrands : Type 0
PartsAreStrands = (plant : Plant) (ds : List Did) (most : ℕ) → (p : IsParted plant ds most) → All IsQuiet ds → IsQuietStrand plant ds most (strand_of p.scopes)

-- a marked call: its `pm.mem` by itself, and the instructions behind it
abbrev pub call_strand : Plant → Did → List Did → Strand
call_strand plant d ds = runs (single plant d) (calls ds ends)

pub record IsCallStrand (plant : Plant) (d : Did) (w : Strand) : Type 0 where
  pub strand : IsStrand plant w
  pub no_job : EndsNoJob w
  pub one_call : (begun : ℕ) → begun_along begun w ≡ begun + 1
  pub charged : (s : Script) (begun : ℕ) → charges_along plant s begun w ≡ due_of plant d + (2 * plant.switch + (call_at s begun).stated)
  pub stretch : (stretch : ℕ) → stretch_along plant stretch w ≡ 0
  pub within : (longest stretch : ℕ) → stretch + due_of plant d ≤ longest → StretchesWithin plant longest stretch w

abbrev pub CallsAreStrands : Type 0
CallsAreStrands =
    (plant : Plant) (d : Did) (ds : List Did) → d.phase ≡ Compatible → d.change ≡ Memory → All (λ (e : Did). is_predictable e.phase ≡ true) ds → IsCallStrand plant d (call_strand plant d ds)

-- and the instruction that ends a job, by itself, is due with a switch
abbrev pub JobsEndDue : Type 0
JobsEndDue =
    (plant : Plant) (s : Script) (begun : ℕ) (d : Did) → d.phase ≡ Compatible → d.change ≡ Job →
    IsStrand plant (runs (single plant d) ends) × (last_change (single plant d).dids ≡ Job) × (scope_due plant s begun (single plant d) ≡ due_of plant d + plant.switch)

-- what one strand behind another is charged, and their stretches
abbrev pub StrandsSumUp : Type 0
StrandsSumUp =
    (plant : Plant) (s : Script) (begun : ℕ) (w v : Strand) →
    (charges_along plant s begun (joined w v) ≡ charges_along plant s begun w + charges_along plant s (begun_along begun w) v)
    × (begun_along begun (joined w v) ≡ begun_along (begun_along begun w) v)
    × (EndsNoJob w → EndsNoJob v → EndsNoJob (joined w v))
    × ((longest stretch : ℕ) → StretchesWithin plant longest stretch w → StretchesWithin plant longest (stretch_along plant stretch w) v → StretchesWithin plant longest stretch (joined w v))

-- a stretch that has taken less is within the same
abbrev pub StretchesShrink : Type 0
StretchesShrink = (plant : Plant) (longest less more : ℕ) (w : Strand) → less ≤ more → StretchesWithin plant longest more w → StretchesWithin plant longest less w
