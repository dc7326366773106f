-- The numbers of names in a list.
use Rattle.std.specs.Prelude.{◌≡◌, ℕ, suc, List, [], ◌∷◌, ◌++◌, map, is_none, Option, None, Some, option_map, if◌then◌else◌}
use Rattle.std.specs.Borrow.{Bor}
use Rattle.std.specs.Str.{bytes_eq}
use Rattle.std.specs.Map.{lookup}
use Rattle.prem_syntax.specs.Syntax.{Text}

-- the number of the first name of a spelling, from 0
abbrev pub number_of : List Text → Text → Option ℕ
number_of [] spelling = None
number_of (name ∷ names) spelling = if bytes_eq name spelling then Some 0 else option_map suc (number_of names spelling)

-- names in memory
abbrev pub texts_in : List (Bor Text) → List Text
texts_in names = map (λ n. n.now) names

-- entries with the number of a name, which counts only where there is none of its spelling
abbrev pub with_first : List (Bor Text × ℕ) → Bor Text → ℕ → List (Bor Text × ℕ)
with_first entries name number = if is_none (lookup (λ n. bytes_eq name.now n.now) entries) then entries ++ (name, number) ∷ [] else entries

-- entries hold the number of the first name of each spelling
abbrev pub AreFirsts : List (Bor Text × ℕ) → List Text → Type 0
AreFirsts entries names = (spelling : Text) → lookup (λ n. bytes_eq spelling n.now) entries ≡ number_of names spelling
