-- Facts in memory by their numbers.
use Rattle.std.proofs.Common.{◌≡◌, ℕ, zero, suc, ◌<◌, ◌≤◌, List, [], ◌∷◌, refl, ap, ◌∙◌, sym, arith, length, get_or, slice_index_or}
use Rattle.prem_list.specs.declared.Sequence.{Sequence}
use Rattle.prem_asm.specs.declared.piece.Piece.{Piece}
use Rattle.prem_asm.specs.Pieces.{Pieces}
use Rattle.prem_wcet_laws.specs.Scopes.{Fact, no_fact}
use Rattle.prem_wcet.specs.declared.scene.Fact.{Fact as FactTree}
use Rattle.prem_wcet.specs.SceneOf.{fact_in, facts_in}

-- what a fact tells whatever its pieces are
pub fact_there : {A : Type 0} (g : Fact → A) (y : FactTree → A) → ((x : FactTree) (ps : Pieces) → g (fact_in x ps) ≡ y x) →
    (fs : List FactTree) (code : List (Sequence Piece)) (f : ℕ) (x : FactTree) → length fs ≤ length code → f < length fs → x ≡ get_or fs f x → y x ≡ g (slice_index_or (facts_in fs code) f no_fact)
fact_there g y told [] code f x le lt is = absurd (omega arith)
fact_there g y told (a ∷ xs) [] f x le lt is = absurd (omega arith)
fact_there g y told (a ∷ xs) (p ∷ ps) zero x le lt is = ap y is ∙ sym (told a _)
fact_there g y told (a ∷ xs) (p ∷ ps) (suc f) x le lt is = fact_there g y told xs ps f x (omega arith) (omega arith) is

pub fact_none : (fs : List FactTree) (code : List (Sequence Piece)) (f : ℕ) → length fs ≤ f → slice_index_or (facts_in fs code) f no_fact ≡ no_fact
fact_none [] code f le = refl
fact_none (a ∷ xs) [] f le = refl
fact_none (a ∷ xs) (p ∷ ps) zero le = absurd (omega arith)
fact_none (a ∷ xs) (p ∷ ps) (suc f) le = fact_none xs ps f (omega arith)
