-- Run files are read back.
use Rattle.std.specs.Prelude.{◌≡◌, ℕ, ◌^◌, ◌<◌, ◌≤◌, Bool, false, not, All, List, [], ◌∷◌, ◌++◌, filter, length, map, Option, None, Some, IfSome, Ok, codes}
use Rattle.std.specs.Str.{bytes_eq}
use Rattle.prem_line.specs.Lines.{lines_of, words_of, first_of}
use Rattle.prem_plant.specs.Label.{IsName, AreDistinct}
use Rattle.prem_gate.specs.declared.request.Request.{Request}
use Rattle.prem_set.specs.Run.Names.{KnownNames}
use Rattle.prem_set.specs.Run.Lawful.{IsLawful}
use Rattle.prem_set.specs.Run.Run.{Gathered, with_words, run_of}
use Rattle.prem_set.specs.SetFile.{SetData, set_of, names_in}
use Rattle.prem_set.specs.Run.Text.{lists_text, run_text}

-- the names of a set: distinct ones, and numbers of lines of 32 bits
pub record AreNames (names : KnownNames) : Type 0 where
  pub tasks : All IsName names.tasks
  pub distinct_tasks : AreDistinct names.tasks
  pub devices : All (λ (d : List ℕ × ℕ). IsName d.0 × (d.1 < 2 ^ 32)) names.devices
  pub distinct_devices : AreDistinct (map (λ (d : List ℕ × ℕ). d.0) names.devices)

-- each set file that is read gives such names
abbrev pub SetsGiveNames : Type 0
SetsGiveNames = (bytes : List ℕ) (set : SetData) → set_of bytes ≡ Ok set → AreNames (names_in set)

-- lists of words of 32 bits
abbrev pub AreWords : List (List ℕ) → Type 0
AreWords lists = All (λ list. All (λ v. v < 2 ^ 32) list) lists

-- what is put is such a word
abbrev pub PutWords : List Request → Type 0
PutWords requests = All (λ (r : Request). IfSome r.put (λ v. v < 2 ^ 32)) requests

-- the cycle of the last request, or this one where there is none
abbrev pub last_from : ℕ → List Request → ℕ
last_from cycle [] = cycle
last_from cycle (r ∷ rs) = last_from r.cycle rs

-- the text of lawful words and requests is a run file, which gives these
abbrev pub RunsAreReadBack : Type 0
RunsAreReadBack =
    (names : KnownNames) (words : List (List ℕ)) (requests : List Request) → AreNames names → IsLawful names words requests → AreWords words → PutWords requests →
    run_of (run_text names words requests) names ≡ Ok (record { words = words; requests = requests; last = last_from 0 requests })

-- and so is the text of what any run file gives
abbrev pub RunsAreSpelledAgain : Type 0
RunsAreSpelledAgain =
    (names : KnownNames) (bytes : List ℕ) (g : Gathered) → AreNames names → run_of bytes names ≡ Ok g → run_of (run_text names g.words g.requests) names ≡ Ok g

-- ---- a run file with other input words

-- whether a line begins with the word `in`
abbrev pub begins_in : Option (List ℕ × List (List ℕ)) → Bool
begins_in None = false
begins_in (Some w) = bytes_eq w.0 (codes "in")

abbrev pub gives_words : List ℕ → Bool
gives_words line = begins_in (first_of (words_of line))

-- the lines that give no input words
abbrev pub other_lines : List (List ℕ) → List (List ℕ)
other_lines lines = filter (λ line. not (gives_words line)) lines

-- the lines of lists of words before those of a run file that give none are a run file, which gives these lists and the requests of that one
abbrev pub ListsReplaceWords : Type 0
ListsReplaceWords =
    (names : KnownNames) (bytes rest : List ℕ) (g : Gathered) (lists : List (List ℕ)) → AreNames names → length lists ≡ length names.tasks → All (λ list. length list ≤ 100000) lists → AreWords lists →
    run_of bytes names ≡ Ok g → lines_of rest ≡ other_lines (lines_of bytes) →
    run_of (lists_text names.tasks lists ++ rest) names ≡ Ok (with_words g lists)
