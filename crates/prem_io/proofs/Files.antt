-- Lemmas on files by name.
use Rattle.std.specs.List.{All}
use Rattle.std.specs.Str.{bytes_eq}
use Rattle.std.proofs.Common.{◌≡◌, ◌≢◌, ℕ, List, [], ◌∷◌, ◌++◌, None, Some, Bool, true, false, cond, sym, ◌∙◌, refl}
use Rattle.std.proofs.lemmas.Bool.{false≢true}
use Rattle.std.proofs.lemmas.List.Elements.{All-nil, All-cons}
use Rattle.std.proofs.lemmas.List.Quantifiers.{all_pairs_push}
use Rattle.std.proofs.lemmas.Slice.Eq.{bytes_eq-Decides}
use Rattle.prem_io.specs.Files.{Files, stored, HasDistinctNames}

-- the first file doesn't have a name that no file has
first_apart : (same : Bool) (file : List ℕ × List ℕ) (files : Files) (name : List ℕ) → bytes_eq file.0 name ≡ same
    → cond same (Some file.1) (stored files name) ≡ None → (file.0 ≢ name) × (stored files name ≡ None)
first_apart true file files name test absent = cc
first_apart false file files name test absent = (λ e. false≢true (sym test ∙ (bytes_eq-Decides file.0 name).1 e), absent)

-- no file has a name for which none is stored
all_apart : (files : Files) (name : List ℕ) → stored files name ≡ None → All (λ file. file.0 ≢ name) files
all_apart [] name absent = All-nil (λ file. file.0 ≢ name)
all_apart (file ∷ files) name absent =
    let apart = first_apart (bytes_eq file.0 name) file files name refl absent in
    All-cons (λ f. f.0 ≢ name) file files apart.0 (all_apart files name apart.1)

-- names stay distinct where a file with a new one comes behind the others
pub HasDistinctNames-push : (files : Files) (name bytes : List ℕ) (all : Files) → HasDistinctNames files → stored files name ≡ None
    → all ≡ files ++ (name, bytes) ∷ [] → HasDistinctNames all
HasDistinctNames-push files name bytes all distinct absent is =
    rw is (all_pairs_push (λ a b. a.0 ≢ b.0) files (name, bytes) distinct (all_apart files name absent))
