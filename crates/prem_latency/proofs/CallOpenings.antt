-- When a marked call opens, told by its own instructions.
use Rattle.std.specs.Prelude.{All}
use Rattle.std.proofs.Common.{◌≡◌, ℕ, suc, ◌+◌, ◌-◌, ◌*◌, ◌≤◌, refl, ap, ◌∙◌, sym, subst, arith, List, [], ◌∷◌, ◌++◌, append-nil, append_assoc, length}
use Rattle.prem_plant.specs.declared.plant.Plant.{Plant}
use Rattle.prem_isa.specs.declared.effect.Phase.{Phase}
use Rattle.prem_isa.specs.declared.effect.Phase.TheVariants.{Memory as MemoryPhase}
use Rattle.prem_isa.specs.declared.effect.Change.{Change}
use Rattle.prem_isa.specs.declared.effect.Change.TheVariants.{Stay, Memory, Execute, End, Job}
use Rattle.prem_isa.specs.Plain.{Did}
use Rattle.prem_sound.specs.Script.Script.{cost_of_dids, steps_after, Begun, begun_after, Script, call_at}
use Rattle.prem_sound.specs.Script.Conforms.{GoesOrEnds}
use Rattle.prem_latency.specs.Opened.{OpensAlong, QuietListsOpen, CallsOpen}

pub quiet_lists_open : QuietListsOpen
quiet_lists_open plant s opens b [] h = tt
quiet_lists_open plant s opens b (d ∷ ds) h = (
  λ stated c. absurd (h 0 d (omega arith) stated c),
  quiet_lists_open plant s opens (begun_after d.change d b) ds (λ k e lt. h (suc k) e (omega (arith, lt))),
)

no_exec : (c : Change) (stated : ℕ) → GoesOrEnds c → c ≡ Execute stated → ⊥
no_exec c stated h e = subst GoesOrEnds e h

behind_did : (c : Change) (ph : Phase) (d : Did) (n : ℕ) (done : List Did) → GoesOrEnds c → ph ≡ MemoryPhase → d.phase ≡ ph →
    begun_after c d (record { calls = n; steps = done }) ≡ record { calls = n; steps = done ++ d ∷ [] }
behind_did Stay ph d n done g e f = ap (λ (q : Phase). begun n (steps_after q d done)) (f ∙ e) where
  begun : ℕ → List Did → Begun
  begun n xs = record { calls = n; steps = xs }
behind_did Memory ph d n done g e f = absurd g
behind_did (Execute l) ph d n done g e f = absurd g
behind_did End ph d n done g e f = ap (λ (q : Phase). begun n (steps_after q d done)) (f ∙ e) where
  begun : ℕ → List Did → Begun
  begun n xs = record { calls = n; steps = xs }
behind_did Job ph d n done g e f = absurd g

module _ (plant : Plant) (passes : ℕ → ℕ) (s : Script) (opens : ℕ → ℕ) (n : ℕ) where
  abbrev OpensBy : List Did → Type 0
  OpensBy ds = cost_of_dids ds + length (call_at s n).members * (plant.fill + plant.back) ≤ opens n

  walk : (before done : List Did) (exec : Did) (rest : List Did) → All (λ (d : Did). (d.phase ≡ MemoryPhase) × GoesOrEnds d.change) before →
      All (λ (d : Did). (stated : ℕ) → d.change ≡ Execute stated → ⊥) rest → OpensBy (done ++ before) →
      OpensAlong plant s opens (record { calls = n + 1; steps = done }) (before ++ exec ∷ rest)
  walk [] done exec rest h k le = (
    λ stated c.
        let e : n + 1 - 1 ≡ n = omega arith in
        subst (λ i. cost_of_dids done + length (call_at s i).members * (plant.fill + plant.back) ≤ opens i) (sym e) (subst OpensBy (append-nil done) le),
    quiet_lists_open plant s opens (begun_after exec.change exec (record { calls = n + 1; steps = done })) rest k,
  )
  walk (d ∷ ds) done exec rest h k le =
      let a : (d.phase ≡ MemoryPhase) × GoesOrEnds d.change = h 0 d (omega arith) in (
        λ stated c. absurd (no_exec d.change stated a.1 c),
        subst (λ b. OpensAlong plant s opens b (ds ++ exec ∷ rest)) (sym (behind_did d.change d.phase d (n + 1) done a.1 a.0 refl))
            (walk ds (done ++ d ∷ []) exec rest (λ i e lt. h (suc i) e (omega (arith, lt))) k (subst OpensBy (sym (append_assoc done (d ∷ []) ds)) le)),
      )

pub calls_open : CallsOpen
calls_open plant passes s opens n before exec rest call le =
    walk plant passes s opens n before [] exec rest (λ i e lt. let y = call.fetching i e lt in (y.0, y.1)) (λ i e lt stated c. let y = call.running i e lt in no_exec _ stated y.1 c) le
