-- Files by name.
use Rattle.std.specs.Prelude.{◌≢◌, ℕ, List, [], ◌∷◌, Option, None, Some, AllPairs, if◌then◌else◌}
use Rattle.std.specs.Str.{bytes_eq}

-- names and bytes, in the order in which the files were added
abbrev pub Files : Type 0
Files = List (List ℕ × List ℕ)

-- the bytes of the file of this name
abbrev pub stored : Files → List ℕ → Option (List ℕ)
stored [] name = None
stored (file ∷ files) name = if bytes_eq file.0 name then Some file.1 else stored files name

-- no two files have one name
abbrev pub HasDistinctNames : Files → Type 0
HasDistinctNames files = AllPairs (λ a b. a.0 ≢ b.0) files
