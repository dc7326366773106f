-- What the words of the command line say: two sets, a run file for each, and how far and what is told.
use Rattle.std.specs.Prelude.{ℕ, ◌^◌, ◌&&◌, Bool, true, false, if◌then◌else◌, List, [], ◌∷◌, Option, None, Some, option_map, codes}
use Rattle.std.specs.Str.{bytes_eq}
use Rattle.prem_line.specs.Numbers.{number_of, up_to}
use Rattle.prem_answer.specs.Tool.{is_file}
use Rattle.prem_pair_top.specs.declared.words.Options.{Options}
use Rattle.prem_pair_top.specs.declared.words.PairWords.{PairWords}

-- [--intervals]
abbrev pub flag_of : List (List ℕ) → Option Bool
flag_of [] = Some false
flag_of (w ∷ []) = if bytes_eq w (codes "--intervals") then Some true else None
flag_of (w ∷ v ∷ words) = None

-- a limit of cycles, and whether intervals are told
abbrev pub limited : Option ℕ → Option Bool → Option Options
limited None flag = None
limited (Some n) flag = option_map (λ intervals. record { cycles = Some n; intervals = intervals }) flag

abbrev pub unlimited : Option Bool → Option Options
unlimited flag = option_map (λ intervals. record { cycles = None; intervals = intervals }) flag

-- [--cycles N] [--intervals], with N at most 2 ^ 50
abbrev pub options_of : List (List ℕ) → Option Options
options_of [] = unlimited (flag_of [])
options_of (w ∷ []) = unlimited (flag_of (w ∷ []))
options_of (w ∷ n ∷ words) = if bytes_eq w (codes "--cycles") then limited (up_to (2 ^ 50) (number_of n)) (flag_of words) else None

pub record PairAsked : Type 0 where
  pub set : List ℕ
  pub other_set : List ℕ
  pub run : List ℕ
  pub other_run : List ℕ
  pub options : Options

abbrev pub are_files : (a b c d : List ℕ) → Bool
are_files a b c d = is_file a && (is_file b && (is_file c && is_file d))

-- SET SET2 RUN RUN2 [--cycles N] [--intervals]
abbrev pub asked_of : List (List ℕ) → Option PairAsked
asked_of [] = None
asked_of (a ∷ []) = None
asked_of (a ∷ b ∷ []) = None
asked_of (a ∷ b ∷ c ∷ []) = None
asked_of (a ∷ b ∷ c ∷ d ∷ words) =
    if are_files a b c d then option_map (λ o. record { set = a; other_set = b; run = c; other_run = d; options = o }) (options_of words) else None

-- as the code holds them
abbrev pub pair_asked : PairWords → PairAsked
pair_asked w = record { set = w.set.now; other_set = w.other_set.now; run = w.run.now; other_run = w.other_run.now; options = w.options }
