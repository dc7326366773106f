-- Names that are taken, and one more.
use Rattle.std.specs.Str.{bytes_eq}
use Rattle.std.proofs.Common.{◌≡◌, ℕ, ◌+◌, ◌<◌, length, take, get_or, List, [], ◌∷◌, ◌++◌, ◌||◌, map, refl, ap, ◌∙◌, sym, append_assoc}
use Rattle.std.proofs.lemmas.List.{take_more}
use Rattle.prem_syntax.specs.declared.tree.Ty.{Ty}
use Rattle.prem_syntax.specs.Syntax.{Text, Parameter}
use Rattle.prem_syntax.specs.Resolve.{Scope, parameter_names}
use Rattle.prem_syntax.specs.Breaches.{has_name, parameter_texts}
use Rattle.prem_names.specs.Scopes.{with_locals, local_texts}
use Rattle.prem_names.proofs.ReachLemmas.Sets.{grouped}
use Rattle.prem_check.specs.Taken.{taken_of}

pub has_name_append : (xs ys : List Text) (name : Text) → has_name (xs ++ ys) name ≡ (has_name xs name || has_name ys name)
has_name_append [] ys name = refl
has_name_append (x ∷ xs) ys name =
    ap (λ t. bytes_eq x name || t) (has_name_append xs ys name) ∙ grouped (bytes_eq x name) (has_name xs name) (has_name ys name)

texts_append : (ls : List (Text × Ty)) (name : Text) (ty : Ty) → map (λ (l : Text × Ty). l.0) (ls ++ (name, ty) ∷ []) ≡ map (λ (l : Text × Ty). l.0) ls ++ name ∷ []
texts_append [] name ty = refl
texts_append (l ∷ ls) name ty = ap (λ xs. l.0 ∷ xs) (texts_append ls name ty)

-- with one more local
pub taken_more : (items : List Text) (scope : Scope) (name : Text) (ty : Ty) →
    taken_of items (with_locals scope ((name, ty) ∷ [])) ≡ taken_of items scope ++ name ∷ []
taken_more items scope name ty = ap (λ xs. items ++ xs) (texts_append scope.locals name ty) ∙ sym (append_assoc items (local_texts scope) (name ∷ []))

pub with_locals_twice : (scope : Scope) (xs ys : List (Text × Ty)) → with_locals (with_locals scope xs) ys ≡ with_locals scope (xs ++ ys)
with_locals_twice scope xs ys = ap (λ ls. record scope { locals = ls }) (append_assoc scope.locals xs ys)

mapped_append : {A B C : Type 0} (f : A → B) (g : B → C) (xs : List A) (x : A) → map g (map f (xs ++ x ∷ [])) ≡ map g (map f xs) ++ g (f x) ∷ []
mapped_append f g [] x = refl
mapped_append f g (y ∷ ys) x = ap (λ zs. g (f y) ∷ zs) (mapped_append f g ys x)

-- the first things of a list, and one more
pub mapped_more : {A B C : Type 0} (f : A → B) (g : B → C) (xs : List A) (i : ℕ) (x : A) → i < length xs → x ≡ get_or xs i x →
    map g (map f (take i xs)) ++ g (f x) ∷ [] ≡ map g (map f (take (i + 1) xs))
mapped_more f g xs i x inside is =
    sym (mapped_append f g (take i xs) x) ∙ ap (λ ys. map g (map f ys)) (ap (λ y. take i xs ++ y ∷ []) is ∙ sym (take_more xs i x inside))

-- what is taken behind the parameters
pub parameters_taken : (taken : List Text) (ps : List Parameter) → taken ++ map (λ (l : Text × Ty). l.0) (parameter_names ps) ≡ taken ++ parameter_texts ps
parameters_taken taken ps = ap (λ xs. taken ++ xs) (texts_are ps) where
  texts_are : (qs : List Parameter) → map (λ (l : Text × Ty). l.0) (parameter_names qs) ≡ parameter_texts qs
  texts_are [] = refl
  texts_are (q ∷ qs) = ap (λ xs. q.name ∷ xs) (texts_are qs)
