-- When the calls of a run open, told by the list of its instructions.
use Rattle.std.proofs.Common.{◌≡◌, ℕ, zero, suc, ◌+◌, ◌-◌, ◌*◌, ◌<◌, ◌≤◌, refl, ap, ◌∙◌, sym, subst, arith, false, Some, None, List, [], ◌∷◌, length, ⊎_elim}
use Rattle.std.proofs.lemmas.Bool.{cases_lt}
use Rattle.prem_plant.specs.declared.plant.Plant.{Plant}
use Rattle.prem_isa.specs.declared.effect.Change.TheVariants.{Execute}
use Rattle.prem_isa.specs.Plain.{TaskRun, Did, is_running, plain_did, plain_run, plain_trace}
use Rattle.prem_sound.specs.Script.Script.{cost_of_dids, Begun, none_begun, begun_after, begun_with, begun_by, Script, call_of}
use Rattle.prem_sound.proofs.ScriptLemmas.Begins.{begun_by-next}
use Rattle.prem_sound.proofs.CallRuns.{none_did}
use Rattle.prem_sound.proofs.Ends.{not_running, behind_end}
use Rattle.prem_sound.proofs.ScopesLemmas.StrandRuns.{ListGoes, list_goes, first_state, strands_are_charged}
use Rattle.prem_latency.specs.Opened.{OpensAlong, TracesOpen, OpeningsJoin, StrandsClose}
use Rattle.prem_latency.proofs.Closes.{shorter_calls_close}

first_begun : (run : TaskRun) → begun_by run 0 ≡ none_begun
unfolding begun_by
first_begun run = refl

module _ (plant : Plant) (run : TaskRun) (s : Script) (opens : ℕ → ℕ) where
  abbrev OpensIn : Begun → Type 0
  OpensIn b = cost_of_dids b.steps + length (call_of s b).members * (plant.fill + plant.back) ≤ opens (b.calls - 1)

  abbrev OpensAt : ℕ → Type 0
  OpensAt n = (stated : ℕ) (d : Did) → plain_did run (plain_run run n) ≡ Some d → d.change ≡ Execute stated → OpensIn (begun_by run n)

  opens_one : (n : ℕ) (b : Begun) (d : Did) → begun_by run n ≡ b → plain_did run (plain_run run n) ≡ Some d → ((stated : ℕ) → d.change ≡ Execute stated → OpensIn b) → OpensAt n
  opens_one n b d same is h stated x e c =
      let z : Some d ≡ Some x = sym is ∙ e in
      let y : d ≡ x = cc in
      subst OpensIn (sym same) (h stated (ap (λ (f : Did). f.change) y ∙ c))

  opens_along : (ds : List Did) (n : ℕ) (b : Begun) → begun_by run n ≡ b → ListGoes run n ds → OpensAlong plant s opens b ds → (m : ℕ) → m < length ds → OpensAt (n + m)
  opens_along [] n b same g h m lt = absurd (omega (arith, lt))
  opens_along (d ∷ ds) n b same g h zero lt = let e : n ≡ n + 0 = omega arith in subst OpensAt e (opens_one n b d same g.0 h.0)
  opens_along (d ∷ ds) n b same g h (suc m) lt =
      let e : n + 1 + m ≡ n + suc m = omega arith in
      subst OpensAt e
      (opens_along ds (n + 1) (begun_after d.change d b) (begun_by-next run n ∙ ap (λ o. begun_with o (begun_by run n)) g.0 ∙ ap (begun_after d.change d) same) g.1 h.1 m (omega (arith, lt)))

pub traces_open : TracesOpen
traces_open plant run s opens dids trace done h =
    let n : ℕ = length dids in
    let g : ListGoes run 0 dids = list_goes run dids 0 (ap (plain_trace run n) (sym (first_state run)) ∙ trace) in
    let last : run.jobs ≤ (plain_run run n).ended = omega (arith, done) in
    record {
      calls = λ m stated d is c.
          ⊎_elim (λ (lt : m < n). let e : 0 + m ≡ m = omega arith in subst (OpensAt plant run s opens) e (opens_along plant run s opens dids 0 none_begun (first_begun run) g h m lt) stated d is c)
          (λ (late : n ≤ m).
          let over : is_running run (plain_run run m) ≡ false = ap (is_running run) (behind_end run n m last late) ∙ not_running run (plain_run run n) last in
          absurd (let x : None ≡ Some d = sym (none_did run (plain_run run m) over) ∙ is in cc))
          (cases_lt m n);
    }

pub openings_join : OpeningsJoin
openings_join plant s opens b [] ys h k = k
openings_join plant s opens b (x ∷ xs) ys h k = (h.0, openings_join plant s opens (begun_after x.change x b) xs ys h.1 k)

pub strands_close : StrandsClose
strands_close plant run s short w cost most longest trace done is charged le stated less =
    let c = strands_are_charged plant run s w cost most longest trace done is charged le stated in
    (c.0, shorter_calls_close plant run s short _ cost longest less c.1)
