-- The words of the command line: a picture, and of some devices how far apart their requests are at least.
use Rattle.std.specs.Prelude.{Bool, true, false, if◌then◌else◌, List, [], ◌∷◌, ◌++◌, Option, None, Some, codes}
use Rattle.std.specs.Str.{bytes_eq}
use Rattle.prem_syntax.specs.Syntax.{Text}
use Rattle.prem_command.specs.Chart.{ChartAsked, chart_of}
use Rattle.prem_time.specs.Words.{Distance, distances_behind}

pub record Asked : Type 0 where
  pub chart : ChartAsked
  pub distances : List Distance

-- ---- the words that stand behind a word `--every`, and all others

-- with whether the last word is an `--every`, with none behind it
pub record Parted : Type 0 where
  pub plain : List Text
  pub every : List Text
  pub behind : Bool

abbrev pub is_every : Text → Bool
is_every word = bytes_eq word (codes "--every")

-- with one more word
abbrev pub with_word : Parted → Text → Parted
with_word p word =
    if p.behind then record { plain = p.plain; every = p.every ++ word ∷ []; behind = false }
    else if is_every word then record { plain = p.plain; every = p.every; behind = true }
    else record { plain = p.plain ++ word ∷ []; every = p.every; behind = false }

abbrev pub parted_from : Parted → List Text → Parted
parted_from p [] = p
parted_from p (word ∷ words) = parted_from (with_word p word) words

abbrev pub start : Parted
start = record { plain = []; every = []; behind = false }

-- ---- what they ask for

abbrev pub with_distances : ChartAsked → Option (List Distance) → Option Asked
with_distances chart None = None
with_distances chart (Some ds) = Some (record { chart = chart; distances = ds })

abbrev pub with_chart : Option ChartAsked → Option (List Distance) → Option Asked
with_chart None distances = None
with_chart (Some chart) distances = with_distances chart distances

-- SET RUN [--from N] [--to N], and DEVICE=CYCLES behind each `--every`
abbrev pub asked_by : (plain every : List Text) → (behind : Bool) → Option Asked
asked_by plain every behind = if behind then None else with_chart (chart_of plain) (distances_behind every [])

abbrev pub asked_parted : Parted → Option Asked
asked_parted p = asked_by p.plain p.every p.behind

-- SET RUN [--from N] [--to N] [--every DEVICE=CYCLES ..]
abbrev pub asked_of : List Text → Option Asked
asked_of words = asked_parted (parted_from start words)
