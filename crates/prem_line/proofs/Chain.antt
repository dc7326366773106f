-- What an answer that isn't refused went through.
use Rattle.std.proofs.Common.{◌≡◌, Bool, true, false, Option, None, Some, Result, Ok, Err, refl, sym, ap, subst}
use Rattle.prem_line.specs.Chain.{◌>>=◌, wanted, holds}

abbrev value_or : {A E : Type 0} → A → Result A E → A
value_or d (Ok x) = x
value_or d (Err e) = d

pub same_Ok : {A E : Type 0} (x y : A) → ◌≡◌ {A = Result A E} (Ok x) (Ok y) → x ≡ y
same_Ok x y is = ap (value_or x) is

abbrev IsValue : {A E : Type 0} → Result A E → Type 0
IsValue (Ok x) = Unit {0}
IsValue (Err e) = ⊥

pub no_value : {A E : Type 0} (e : E) (y : A) → ◌≡◌ {A = Result A E} (Err e) (Ok y) → ⊥
no_value e y is = subst IsValue (sym is) tt

-- a step, and what is behind it
pub bound : {A B E P : Type 0} (r : Result A E) (f : A → Result B E) (y : B) → (r >>= f) ≡ Ok y → ((x : A) → r ≡ Ok x → f x ≡ Ok y → P) → P
bound (Ok x) f y is go = go x refl is
bound (Err e) f y is go = absurd (no_value e y is)

pub held : {A E : Type 0} (e : E) (b : Bool) (x y : A) → holds e b x ≡ Ok y → (b ≡ true) × (x ≡ y)
held e true x y is = (refl, same_Ok x y is)
held e false x y is = absurd (no_value e y is)

pub found : {A E : Type 0} (e : E) (o : Option A) (x : A) → wanted e o ≡ Ok x → o ≡ Some x
found e None x is = absurd (no_value e x is)
found e (Some z) x is = ap Some (same_Ok z x is)
