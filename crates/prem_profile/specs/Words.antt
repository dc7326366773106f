-- What the words of the command line ask for.
use Rattle.std.specs.Prelude.{ℕ, ◌^◌, ◌&&◌, Bool, if◌then◌else◌, List, [], ◌∷◌, Option, None, Some, option_map, codes}
use Rattle.std.specs.Str.{bytes_eq}
use Rattle.prem_line.specs.Numbers.{number_of, up_to}
use Rattle.prem_answer.specs.Tool.{is_file}
use Rattle.prem_profile.specs.declared.words.RunWords.{RunWords}
use Rattle.prem_profile.specs.declared.words.ProfileWords.{ProfileWords}
use Rattle.prem_profile.specs.declared.words.ProfileWords.TheVariants.{Bound, Run}

-- a run: the files of the set and of the run, and the cycle in which it stops, where one is told
pub record RunAsked : Type 0 where
  pub set : List ℕ
  pub run : List ℕ
  pub cycles : Option ℕ

-- what is profiled
pub data ProfileAsked : Type 0 where
  of_run : RunAsked → ProfileAsked
  of_bound : (set : List ℕ) → ProfileAsked

abbrev pub limited : Option ℕ → Option (Option ℕ)
limited cycles = option_map (λ n. Some n) cycles

-- [--cycles N], with N at most 2 ^ 50
abbrev pub cycles_of : List (List ℕ) → Option (Option ℕ)
cycles_of [] = Some None
cycles_of (w ∷ []) = None
cycles_of (w ∷ n ∷ []) = if bytes_eq w (codes "--cycles") then limited (up_to (2 ^ 50) (number_of n)) else None
cycles_of (w ∷ n ∷ x ∷ words) = None

abbrev pub are_files : (set run : List ℕ) → Bool
are_files set run = is_file set && is_file run

abbrev pub files_asked : (set run : List ℕ) → Option (Option ℕ) → Option ProfileAsked
files_asked set run None = None
files_asked set run (Some cycles) = Some (of_run (record { set = set; run = run; cycles = cycles }))

-- SET RUN [--cycles N]
abbrev pub run_of : List (List ℕ) → Option ProfileAsked
run_of [] = None
run_of (a ∷ []) = None
run_of (a ∷ b ∷ words) = if are_files a b then files_asked a b (cycles_of words) else None

-- behind --bound: SET
abbrev pub bound_of : List (List ℕ) → Option ProfileAsked
bound_of [] = None
bound_of (a ∷ []) = if is_file a then Some (of_bound a) else None
bound_of (a ∷ b ∷ words) = None

-- SET RUN [--cycles N], or --bound SET
abbrev pub asked_of : List (List ℕ) → Option ProfileAsked
asked_of [] = None
asked_of (a ∷ words) = if bytes_eq a (codes "--bound") then bound_of words else run_of (a ∷ words)

-- as the code holds them
abbrev pub run_asked : RunWords → RunAsked
run_asked w = record { set = w.set.now; run = w.run.now; cycles = w.cycles }

abbrev pub profile_asked : ProfileWords → ProfileAsked
profile_asked (Run words) = of_run (run_asked words)
profile_asked (Bound set) = of_bound set.now
