-- Conditions on strands as tests that are computed.
use Rattle.std.proofs.Common.{◌≡◌, ℕ, ◌+◌, leb, refl, true, false, Bool, List, [], ◌∷◌}
use Rattle.std.specs.Prelude.{All, ◌&&◌}
use Rattle.prem_sound.proofs.Prelude.{is_predictable, Did, Change, Stay, Memory, Execute, End, Job, Phase, Compatible, Execution, is_in, AllIn, Plant, within_job, within_stretch, charge_of}
use Rattle.prem_sound.proofs.Prelude.{Strand, ends, runs, calls, GoesTo, IsWithinInterval, IsStrand, last_change, calls_begun, scope_due, ChargedFrom, lines_of_dids, Script, and_parts}
use Rattle.prem_sound.proofs.Prelude.{leb-true, All-nil, All-cons}
use Rattle.prem_isa.specs.declared.effect.Phase.TheVariants.{Memory as MemoryPhase}

abbrev all_inside : List ℕ → List ℕ → Bool
all_inside c [] = true
all_inside c (x ∷ xs) = is_in x c && all_inside c xs

inside_all : (c xs : List ℕ) → all_inside c xs ≡ true → AllIn c xs
inside_all c [] h = tt
inside_all c (x ∷ xs) h =
    let a : (is_in x c ≡ true) × (all_inside c xs ≡ true) = and_parts (is_in x c) (all_inside c xs) h in (a.0, inside_all c xs a.1)

abbrev goes_test : Change → List Did → Bool
goes_test Stay ds = true
goes_test Memory [] = true
goes_test Memory (d ∷ ds) = false
goes_test (Execute stated) ds = false
goes_test End ds = false
goes_test Job [] = true
goes_test Job (d ∷ ds) = false

goes_by : (c : Change) (ds : List Did) → goes_test c ds ≡ true → GoesTo c ds
goes_by Stay ds h = tt
goes_by Memory [] h = refl
goes_by Memory (d ∷ ds) h = absurd (let x : false ≡ true = h in cc)
goes_by (Execute stated) ds h = absurd (let x : false ≡ true = h in cc)
goes_by End ds h = absurd (let x : false ≡ true = h in cc)
goes_by Job [] h = refl
goes_by Job (d ∷ ds) h = absurd (let x : false ≡ true = h in cc)

abbrev is_calm : Phase → Bool
is_calm Compatible = true
is_calm MemoryPhase = false
is_calm Execution = false

calm_by : (ph : Phase) → is_calm ph ≡ true → ph ≡ Compatible
calm_by Compatible h = refl
calm_by MemoryPhase h = absurd (let x : false ≡ true = h in cc)
calm_by Execution h = absurd (let x : false ≡ true = h in cc)

abbrev interval_test : List Did → Bool
interval_test [] = true
interval_test (d ∷ ds) = is_calm d.phase && (goes_test d.change ds && interval_test ds)

interval_by : (ds : List Did) → interval_test ds ≡ true → IsWithinInterval ds
interval_by [] h = tt
interval_by (d ∷ ds) h =
    let a = and_parts (is_calm d.phase) (goes_test d.change ds && interval_test ds) h in
    let b = and_parts (goes_test d.change ds) (interval_test ds) a.1 in
    (calm_by d.phase a.0, goes_by d.change ds b.0, interval_by ds b.1)

abbrev call_test : List Did → Bool
call_test [] = true
call_test (d ∷ ds) = is_predictable d.phase && call_test ds

call_by : (ds : List Did) → call_test ds ≡ true → All (λ (d : Did). is_predictable d.phase ≡ true) ds
call_by [] h = All-nil (λ (d : Did). is_predictable d.phase ≡ true)
call_by (d ∷ ds) h =
    let a = and_parts (is_predictable d.phase) (call_test ds) h in
    All-cons (λ (d : Did). is_predictable d.phase ≡ true) d ds a.0 (call_by ds a.1)

abbrev pub strand_test : Plant → Strand → Bool
strand_test p ends = true
strand_test p (runs x rest) = interval_test x.dids && (all_inside x.lines (lines_of_dids p.line x.dids) && strand_test p rest)
strand_test p (calls ds rest) = call_test ds && strand_test p rest

pub strand_by : (p : Plant) (w : Strand) → strand_test p w ≡ true → IsStrand p w
strand_by p ends h = tt
strand_by p (runs x rest) h =
    let a = and_parts (interval_test x.dids) (all_inside x.lines (lines_of_dids p.line x.dids) && strand_test p rest) h in
    let b = and_parts (all_inside x.lines (lines_of_dids p.line x.dids)) (strand_test p rest) a.1 in
    (interval_by x.dids a.0, inside_all x.lines (lines_of_dids p.line x.dids) b.0, strand_by p rest b.1)
strand_by p (calls ds rest) h =
    let a = and_parts (call_test ds) (strand_test p rest) h in (call_by ds a.0, strand_by p rest a.1)

abbrev pub charged_test : Plant → Script → (cost most begun job stretch : ℕ) → Strand → Bool
charged_test p s cost most begun job stretch ends = true
charged_test p s cost most begun job stretch (runs x rest) =
    leb (job + scope_due p s begun x) cost && (leb (stretch + charge_of p x) most
    && charged_test p s cost most (begun + calls_begun (last_change x.dids)) (within_job (last_change x.dids) (job + scope_due p s begun x))
    (within_stretch (last_change x.dids) (stretch + charge_of p x)) rest)
charged_test p s cost most begun job stretch (calls ds rest) = charged_test p s cost most begun job stretch rest

pub charged_by : (p : Plant) (s : Script) (cost most begun job stretch : ℕ) (w : Strand) → charged_test p s cost most begun job stretch w ≡ true → ChargedFrom p s cost most begun job stretch w
charged_by p s cost most begun job stretch ends h = tt
charged_by p s cost most begun job stretch (runs x rest) h =
    let more : Bool = charged_test p s cost most (begun + calls_begun (last_change x.dids))
    (within_job (last_change x.dids) (job + scope_due p s begun x)) (within_stretch (last_change x.dids) (stretch + charge_of p x)) rest in
    let a : (leb (job + scope_due p s begun x) cost ≡ true) × ((leb (stretch + charge_of p x) most && more) ≡ true) =
    and_parts (leb (job + scope_due p s begun x) cost) (leb (stretch + charge_of p x) most && more) h in
    let b : (leb (stretch + charge_of p x) most ≡ true) × (more ≡ true) = and_parts (leb (stretch + charge_of p x) most) more a.1 in (
      leb-true (job + scope_due p s begun x) cost a.0,
      leb-true (stretch + charge_of p x) most b.0,
      charged_by p s cost most (begun + calls_begun (last_change x.dids)) (within_job (last_change x.dids) (job + scope_due p s begun x))
          (within_stretch (last_change x.dids) (stretch + charge_of p x)) rest b.1,
    )
charged_by p s cost most begun job stretch (calls ds rest) h = charged_by p s cost most begun job stretch rest h
