-- What marked calls count, by the faces of functions.
use Rattle.std.specs.Prelude.{is_some}
use Rattle.std.proofs.Common.{◌≡◌, ℕ, zero, suc, if◌then◌else◌, Option, None, Some, unwrap_or, List, [], ◌∷◌, map, refl, ap, sym, ◌∙◌}
use Rattle.prem_plant.specs.declared.plant.Plant.{Plant}
use Rattle.prem_wcet_laws.specs.Counts.{PathCount, marked_count}
use Rattle.prem_wcet.specs.declared.scene.Face.{Face}
use Rattle.prem_wcet.specs.CountOf.{marked_by}
use Rattle.prem_wcet.specs.SceneOf.{face_at, plan_stating}

none_some : (n : ℕ) (o : Option ℕ) → o ≡ None → o ≡ Some n → ⊥
none_some n o e f = cc

marked_at : (p : Plant) (faces : List Face) (f n : ℕ) → (face_at faces f).stated ≡ Some n → marked_count p (map plan_stating faces) f ≡ marked_by p n
marked_at p [] f n is = absurd (none_some n None refl is)
marked_at p (a ∷ xs) zero n is = ap (λ o. marked_by p (unwrap_or o 0)) is
marked_at p (a ∷ xs) (suc f) n is = marked_at p xs f n is

pub called_marked : (p : Plant) (faces : List Face) (f n : ℕ) (other : PathCount) → (face_at faces f).stated ≡ Some n →
    marked_by p n ≡ (if is_some (face_at faces f).stated then marked_count p (map plan_stating faces) f else other)
called_marked p faces f n other is = sym (marked_at p faces f n is) ∙ ap (λ o. if is_some o then marked_count p (map plan_stating faces) f else other) (sym is)

pub called_other : (p : Plant) (faces : List Face) (f : ℕ) (other : PathCount) → (face_at faces f).stated ≡ None →
    other ≡ (if is_some (face_at faces f).stated then marked_count p (map plan_stating faces) f else other)
called_other p faces f other is = ap (λ o. if is_some o then marked_count p (map plan_stating faces) f else other) (sym is)
