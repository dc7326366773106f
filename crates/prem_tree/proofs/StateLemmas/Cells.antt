-- Words in lists, and stores to them.
use Rattle.std.specs.Prelude.{slice_get, slice_set}
use Rattle.std.proofs.Common.{◌≡◌, ℕ, zero, suc, ◌<◌, ◌≤◌, List, [], ◌∷◌, length, get_or, map, refl, ap, sym, arith, None, Some, Ok}
use Rattle.prem_syntax.specs.declared.tree.Ty.{Ty}
use Rattle.prem_syntax.specs.Statements.{ProgramState, store, stored}
use Rattle.prem_syntax.specs.Source.{everywhere}

-- an element that is there
pub slice_get-map : {X Y : Type 0} (f : X → Y) (xs : List X) (i : ℕ) (x : X) → i < length xs → x ≡ get_or xs i x → slice_get (map f xs) i ≡ Some (f x)
slice_get-map f [] i x inside is = absurd (omega arith)
slice_get-map f (y ∷ ys) zero x inside is = ap (λ z. Some (f z)) (sym is)
slice_get-map f (y ∷ ys) (suc i) x inside is = slice_get-map f ys i x (omega arith) is

pub slice_get-at : {X : Type 0} (xs : List X) (i : ℕ) (x : X) → i < length xs → x ≡ get_or xs i x → slice_get xs i ≡ Some x
slice_get-at [] i x inside is = absurd (omega arith)
slice_get-at (y ∷ ys) zero x inside is = ap Some (sym is)
slice_get-at (y ∷ ys) (suc i) x inside is = slice_get-at ys i x (omega arith) is

pub slice_get_past : {X : Type 0} (xs : List X) (i : ℕ) → length xs ≤ i → slice_get xs i ≡ None
slice_get_past [] i past = refl
slice_get_past (y ∷ ys) zero past = absurd (omega arith)
slice_get_past (y ∷ ys) (suc i) past = slice_get_past ys i (omega arith)

-- a store to an element that is there
pub store_at : (line g j w old : ℕ) (ty : Ty) (s : ProgramState) (words : List ℕ) (globals : List (List ℕ)) → slice_get s.globals g ≡ Some words → slice_get words j ≡ Some old →
    globals ≡ slice_set s.globals g (slice_set words j (stored ty w)) → store everywhere line ty g j w s ≡ Ok (record s { globals = globals })
store_at line g j w old ty s words globals here there is = rw (here, there, is)
