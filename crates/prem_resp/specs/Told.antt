-- What is told of a compiled set in memory: loads, and a text.
use Rattle.std.specs.Prelude.{◌≡◌, ◌≤◌, ℕ, All, List, [], ◌∷◌, length, map}
use Rattle.prem_list.specs.Sequence.{items_of}
use Rattle.prem_image.specs.declared.image.TaskRecord.{TaskRecord}
use Rattle.prem_compile.specs.declared.compiled.Compiled.{Compiled}
use Rattle.prem_resp.specs.declared.busy.load.Load.{Load}
use Rattle.prem_resp.specs.Busy.Busy.{IsLoad}
use Rattle.prem_resp.specs.Lines.{fit_text}
use Rattle.prem_resp.specs.Fits.{found_in}

abbrev pub names_of : List TaskRecord → List (List ℕ)
names_of tasks = map (λ (t : TaskRecord). t.name) tasks

-- of each task its period, what a job takes at most, and its longest interval
abbrev pub loads_told : List TaskRecord → (jobs longest : List ℕ) → List Load
loads_told [] jobs longest = []
loads_told (t ∷ ts) [] longest = []
loads_told (t ∷ ts) (cost ∷ jobs) [] = []
loads_told (t ∷ ts) (cost ∷ jobs) (n ∷ longest) = record { period = t.period; cost = cost; longest = n } ∷ loads_told ts jobs longest

abbrev pub loads_by : Compiled → List Load
loads_by c = loads_told (items_of c.image.tasks) (items_of c.jobs) (items_of c.longest)

abbrev pub text_by : Compiled → List ℕ
text_by c = fit_text (names_of (items_of c.image.tasks)) (loads_by c) (found_in (loads_by c))

-- there is a load for each task, of which a busy period can be found
pub record HasLoads (c : Compiled) : Type 0 where
  pub jobs : length (items_of c.jobs) ≡ length (items_of c.image.tasks)
  pub longest : length (items_of c.longest) ≡ length (items_of c.image.tasks)
  pub loads : All IsLoad (loads_by c)
  pub count : length (items_of c.image.tasks) ≤ 16
