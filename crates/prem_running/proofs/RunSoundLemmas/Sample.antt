-- A set of one task and a device, and a run file, computed: the laws speak of them.
use Rattle.std.specs.Prelude.{codes}
use Rattle.std.proofs.Common.{◌≡◌, ℕ, ◌≤◌, List, [], ◌∷◌, refl, None, Some, Ok, arith}
use Rattle.std.proofs.lemmas.List.Elements.{All-from_recursion}
use Rattle.prem_plant.specs.Label.{IsName}
use Rattle.prem_plant.specs.Ranges.{IsDevice, default_plant}
use Rattle.prem_plant.proofs.Powers.{default_is_plant}
use Rattle.prem_lru.specs.Rules.{rule_of}
use Rattle.prem_cycle.specs.declared.state.Stop.TheVariants.{Finished}
use Rattle.prem_cycle.specs.Run.{run_of}
use Rattle.prem_sound.specs.Good.{Good}
use Rattle.prem_syntax.specs.ProgramRules.{first_breach}
use Rattle.prem_text.specs.Lexing.Tokens.{tokens_of, lex, step, start, first_token}
use Rattle.prem_text.specs.Lexing.Spelling.{reserved_word, used_word, is_unused, longest_mark}
use Rattle.prem_text.specs.Lexing.Literal.{literal_word}
use Rattle.prem_ranges.specs.RangesKept.{first_range_breach}
use Rattle.prem_tasks.specs.Broken.{TaskText, TaskSet, broken}
use Rattle.prem_tasks.specs.Compiled.{compiled}
use Rattle.prem_sets_sound.specs.ImagePremises.Accepted.{HasTextValues, HasValues, setup_in}
use Rattle.prem_sets_sound.specs.Meant.{promises_in}
use Rattle.prem_sets_sound.proofs.ImagePremisesLemmas.Sample.{one_name, net_is, net}
use Rattle.prem_set.specs.Run.Run.{Gathered, inputs_of, request_words, request_of, in_words, req_words, line_read, lines_read, run_of as lines_of_run}
use Rattle.prem_exec.specs.Exec.{stop_at}
use Rattle.prem_exec.specs.Sources.Sources.{names_of}
use Rattle.prem_running.specs.RunSound.Runs.{SuitsRun}
use Rattle.prem_running.proofs.RunSoundLemmas.SetRuns.{inputs_are_lawful, set_runs_are_good, set_reports_end}

-- ---- the set

abbrev echo : TaskText
echo = record { name = codes "echo"; text = codes "void job(void){ int x = 0; x = in(); out(x); }"; period = 20000; jobs = 2 }

abbrev pub echoing : TaskSet
echoing = record { plant = default_plant; devices = net ∷ []; tasks = echo ∷ [] }

pub echoing_breaks_nothing : broken echoing ≡ None
unfolding tokens_of lex step start first_token reserved_word used_word is_unused longest_mark literal_word first_breach first_range_breach
echoing_breaks_nothing = refl

echo_name : IsName (codes "echo")
echo_name = record { some = omega arith; short = omega arith; each = refl }

pub echoing_values : HasValues echoing
echoing_values = record {
  plant_is = default_is_plant;
  devices_are = record { count = omega arith; each = All-from_recursion IsDevice (net ∷ []) (net_is, tt); names = one_name (codes "net") };
  count = (omega arith, omega arith);
  each = All-from_recursion HasTextValues (echo ∷ []) (record { name = echo_name; period = (omega arith, omega arith); jobs = (omega arith, omega arith) }, tt);
  names = one_name (codes "echo");
}

-- ---- the run file

abbrev pub run_text : List ℕ
run_text = codes "# a word below 0, and a request of each kind\nin echo 7 -1\nreq 100 net put 1 5\nreq 900 net get 1\n"

abbrev pub read : Gathered
read = record {
  words = (7 ∷ 4294967295 ∷ []) ∷ [];
  requests = record { cycle = 100; device = 0; line = 1; put = Some 5 } ∷ record { cycle = 900; device = 0; line = 1; put = None } ∷ [];
  last = 900;
}

pub run_is_read : lines_of_run run_text (names_of echoing) ≡ Ok read
unfolding lines_read line_read in_words req_words inputs_of request_of request_words
run_is_read = refl

-- ---- what the laws say of them

read_suits : SuitsRun (setup_in echoing) read.words read.requests
read_suits = inputs_are_lawful echoing run_text read echoing_breaks_nothing run_is_read

echoing_is_good : (n : ℕ) → Good (rule_of echoing.plant.policy) (setup_in echoing) (compiled echoing).image.content read.words read.requests (promises_in echoing read.words) n
echoing_is_good n = set_runs_are_good echoing run_text read n echoing_values echoing_breaks_nothing run_is_read

echoing_finishes : (n : ℕ) → (compiled echoing).limit ≤ n → stop_at n (run_of (rule_of echoing.plant.policy) (setup_in echoing) (compiled echoing).image.content read.words read.requests n) ≡ Finished
echoing_finishes n le = (set_reports_end echoing run_text read n echoing_values echoing_breaks_nothing run_is_read).finishes le
