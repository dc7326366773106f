-- The grammar of profiles in callgrind's format, version 1 ("Callgrind Format Specification" in Valgrind's documentation), as far as profiles of
-- runs need it: one part, positions by line, calls of functions of the same object and file, no jumps. A relation on texts: none of it says how one is made.
use Rattle.std.specs.Prelude.{◌≡◌, ℕ, ◌==◌, ◌||◌, not, Bool, true, List, [], ◌∷◌, ◌++◌, Option, None, Some, codes, decimal}
use Rattle.std.specs.List.{list_all}
use Rattle.prem_profile.specs.declared.cost.Cost.{Cost}

-- ---- names, which end with their line

-- of a name with a number before it, by which it may be told again
abbrev pub is_in_line : ℕ → Bool
is_in_line b = not (b == 10)

-- of a name without one: with `(` a number would begin
abbrev pub is_in_name : ℕ → Bool
is_in_name b = not (b == 10 || b == 40)

-- ---- lines

-- to which costs belong: an object, a file and a function
pub record Position : Type 0 where
  pub object : List ℕ
  pub file : List ℕ
  pub function : List ℕ

abbrev pub nowhere : Position
nowhere = record { object = []; file = []; function = [] }

-- a function that is called so often, and the line at which it begins
pub record Callee : Type 0 where
  pub function : List ℕ
  pub count : ℕ
  pub line : ℕ

-- what is spent at a line of a function: by itself, or in calls of another function
pub record Entry : Type 0 where
  pub callee : Option Callee
  pub position : Position
  pub line : ℕ
  pub cost : Cost

-- the numbers of a cost, in the order of its events
abbrev pub cost_text : Cost → List ℕ
cost_text c = decimal c.instructions ++ (codes " " ++ (decimal c.cycles ++ (codes " " ++ (decimal c.misses ++ (codes " " ++ decimal c.backs)))))

-- lines behind a position tell these entries; a number stands for one file in all of them
pub data Tells : (files : ℕ → List ℕ) → Position → List Entry → List ℕ → Type 0 where
  nothing : {files : ℕ → List ℕ} {at : Position} → Tells files at [] []
  empty : {files : ℕ → List ℕ} {at : Position} {entries : List Entry} {rest : List ℕ} → Tells files at entries rest → Tells files at entries (codes "\n" ++ rest)
  object : {files : ℕ → List ℕ} {at : Position} {entries : List Entry} {rest : List ℕ} (name : List ℕ) → list_all is_in_name name ≡ true →
      Tells files (record { object = name; file = at.file; function = at.function }) entries rest →
      Tells files at entries (codes "ob=" ++ (name ++ (codes "\n" ++ rest)))
  file : {files : ℕ → List ℕ} {at : Position} {entries : List Entry} {rest : List ℕ} (n : ℕ) → list_all is_in_line (files n) ≡ true →
      Tells files (record { object = at.object; file = files n; function = at.function }) entries rest →
      Tells files at entries (codes "fl=(" ++ (decimal n ++ (codes ") " ++ (files n ++ (codes "\n" ++ rest)))))
  function : {files : ℕ → List ℕ} {at : Position} {entries : List Entry} {rest : List ℕ} (name : List ℕ) → list_all is_in_name name ≡ true →
      Tells files (record { object = at.object; file = at.file; function = name }) entries rest →
      Tells files at entries (codes "fn=" ++ (name ++ (codes "\n" ++ rest)))
  cost : {files : ℕ → List ℕ} {at : Position} {entries : List Entry} {rest : List ℕ} (line : ℕ) (c : Cost) → Tells files at entries rest →
      Tells files at (record { callee = None; position = at; line = line; cost = c } ∷ entries) (decimal line ++ (codes " " ++ (cost_text c ++ (codes "\n" ++ rest))))
  calls : {files : ℕ → List ℕ} {at : Position} {entries : List Entry} {rest : List ℕ} (callee : Callee) (line : ℕ) (c : Cost) → list_all is_in_name callee.function ≡ true →
      Tells files at entries rest →
      Tells files at (record { callee = Some callee; position = at; line = line; cost = c } ∷ entries)
      (codes "cfn=" ++ (callee.function ++ (codes "\ncalls=" ++ (decimal callee.count ++ (codes " " ++ (decimal callee.line ++ (codes "\n" ++ (decimal line ++ (codes " " ++ (cost_text c ++ (codes "\n" ++ rest)))))))))))

-- ---- profiles

-- a header with the sums of all events, lines that tell these entries, and the sums once more
pub record IsProfile (text : List ℕ) (entries : List Entry) (total : Cost) : Type 0 where
  pub files : ℕ → List ℕ
  pub body : List ℕ
  pub tells : Tells files nowhere entries body
  pub is : text
      ≡ codes "# callgrind format\nversion: 1\ncreator: prem_profile\npositions: line\nevents: Instructions Cycles Misses WriteBacks\nsummary: "
      ++ (cost_text total ++ (codes "\n" ++ (body ++ (codes "totals: " ++ (cost_text total ++ codes "\n")))))
