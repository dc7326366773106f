-- The task set of a sample, and the words and requests that come to its run.
use Rattle.std.specs.Prelude.{ℕ, zero, suc, ◌+◌, ◌++◌, List, [], ◌∷◌, Some, codes, decimal}
use Rattle.std.specs.List.{flat_map, join_by}
use Rattle.prem_plant.specs.declared.plant.Device.{Device}
use Rattle.prem_plant.specs.Ranges.{default_plant}
use Rattle.prem_gate.specs.declared.request.Request.{Request}
use Rattle.prem_syntax.specs.Syntax.{Text}
use Rattle.prem_tasks.specs.Broken.{TaskText, TaskSet}
use Rattle.prem_exec.specs.Forms.{RunText}
use Rattle.prem_running.specs.Sample.Draws.{next, drawn, after, numbers}

-- ---- the program of a task: a filter with 16 coefficients

-- behind the coefficients
abbrev pub filter_lines : List ℕ
filter_lines =
    flat_map (λ line. codes line ++ codes "\n")
    ("short sample[80];"
    ∷ "int result[64];"
    ∷ "PREDICTABLE(500000) REGION(coef, 0, 15) REGION(sample, 0, 79) REGION(result, 0, 63)"
    ∷ "void fir(void) {"
    ∷ "  int i = 0;"
    ∷ "  int j = 0;"
    ∷ "  int s = 0;"
    ∷ "  for (i = 0; i < 64; i++) {"
    ∷ "    s = 0;"
    ∷ "    for (j = 0; j < 16; j++) { s += coef[j] * sample[i + j]; }"
    ∷ "    result[i] = s;"
    ∷ "  }"
    ∷ "}"
    ∷ "void job(void) {"
    ∷ "  int i = 0;"
    ∷ "  int x = 0;"
    ∷ "  for (i = 0; i < 80; i++) { x = in(); sample[i] = x; }"
    ∷ "  fir();"
    ∷ "  for (i = 0; i < 64; i++) { out(result[i]); }"
    ∷ "}"
    ∷ [])

abbrev pub program_text : List ℕ → List ℕ
program_text coefficients =
    codes "short coef[16] = {" ++ (join_by decimal (codes ", ") coefficients ++ codes "};\n") ++ filter_lines

-- ---- the tasks, each with 16 draws for its coefficients and 160 for its input words

abbrev pub task_names : List Text
task_names = codes "t0" ∷ codes "t1" ∷ codes "t2" ∷ codes "t3" ∷ []

-- the state behind the draws of a task
abbrev pub behind_task : ℕ → ℕ
behind_task x = after 160 (after 16 x)

abbrev pub task_at : Text → ℕ → TaskText
task_at name x = record { name = name; text = program_text (numbers 100 16 x); period = 2100000; jobs = 2 }

abbrev pub tasks_from : List Text → ℕ → List TaskText
tasks_from [] x = []
tasks_from (name ∷ names) x = task_at name x ∷ tasks_from names (behind_task x)

abbrev pub words_from : List Text → ℕ → List (List ℕ)
words_from [] x = []
words_from (name ∷ names) x = numbers 200 160 (after 16 x) ∷ words_from names (behind_task x)

abbrev pub behind_tasks : List Text → ℕ → ℕ
behind_tasks [] x = x
behind_tasks (name ∷ names) x = behind_tasks names (behind_task x)

-- ---- the requests, each with four draws

-- behind a request that came in this cycle
abbrev pub request_at : ℕ → ℕ → Request
request_at before x = record {
  cycle = before + drawn 4000 (next x);
  device = drawn 2 (next (next x));
  line = drawn 4 (next (next (next x)));
  put = Some (drawn 65536 (next (next (next (next x)))));
}

unfoldable pub requests_from : ℕ → ℕ → ℕ → List Request
requests_from zero before x = []
requests_from (suc n) before x = request_at before x ∷ requests_from n (request_at before x).cycle (next (next (next (next x))))

-- ---- the whole, by the seed

abbrev pub device_named : Text → ℕ → Device
device_named name cost = record { name = name; queue = 16; cost = cost; lines = 4 }

abbrev pub sample_devices : List Device
sample_devices = device_named (codes "dma") 40 ∷ device_named (codes "nic") 60 ∷ []

abbrev pub sample_set : ℕ → TaskSet
sample_set seed = record { plant = default_plant; devices = sample_devices; tasks = tasks_from task_names seed }

abbrev pub sample_run : ℕ → RunText
sample_run seed = record { words = words_from task_names seed; requests = requests_from 1000 0 (behind_tasks task_names seed) }
