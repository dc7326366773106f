-- The registers that a term needs.
use Rattle.std.proofs.Common.{◌≡◌, ℕ, ◌+◌, ◌<◌, refl, cond, ltb, true, false, Bool, Option, None, Some}
use Rattle.prem_layout.proofs.Prelude.{first_of, first_place, too_deep, Term, Constant, Local, Scalar, Element, Unary, Binary, ltb-true}
use Rattle.prem_syntax.specs.Resolved.{AndAlso, OrElse}
use Rattle.prem_syntax.specs.declared.tree.Place.{Place}

pub first_none : (a b : Option Place) → first_of a b ≡ None → (a ≡ None) × (b ≡ None)
first_none None b e = (refl, e)
first_none (Some x) b e = cc

pub unless_deep : (b : Bool) (o : Option Place) (at : Place) → cond b o (Some at) ≡ None → (b ≡ true) × (o ≡ None)
unless_deep true o at e = (refl, e)
unless_deep false o at e = cc

pub depth_bound : (r : ℕ) (e : Term) → too_deep r e ≡ None → r < 22
depth_bound r (Constant at word kind) h = ltb-true r 22 (unless_deep (ltb r 22) None at h).0
depth_bound r (Local at number kind) h = ltb-true r 22 (unless_deep (ltb r 22) None at h).0
depth_bound r (Scalar at global ty) h = ltb-true r 22 (unless_deep (ltb r 22) None at h).0
depth_bound r (Element at global ty index) h = ltb-true r 22 (unless_deep (ltb r 22) (too_deep r index) at h).0
depth_bound r (Unary at op operand) h = ltb-true r 22 (unless_deep (ltb r 22) (too_deep r operand) at h).0
depth_bound r (Binary at op kind left right) h = ltb-true r 22 (unless_deep (ltb r 22) (first_of (too_deep r left) (too_deep (r + 1) right)) (first_place left) h).0
depth_bound r (AndAlso at left right) h = ltb-true r 22 (unless_deep (ltb r 22) (first_of (too_deep r left) (too_deep r right)) (first_place left) h).0
depth_bound r (OrElse at left right) h = ltb-true r 22 (unless_deep (ltb r 22) (first_of (too_deep r left) (too_deep r right)) (first_place left) h).0
