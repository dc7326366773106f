-- A run's instructions part into scopes, one behind another, and such that stand alone.
use Rattle.std.specs.Prelude.{◌≡◌, ◌≤◌, ℕ, ℤ, pos, ◌+◌, ◌*◌, ◌/◌, List, [], ◌∷◌, ◌++◌, length, Option, None, Some}
use Rattle.prem_wcet_laws.specs.Prelude.{Pieces, Setting, Calls, Ending, Falls, Returns, Stuck, run, total, Within, AllSteps, cost_of, TaskState, Did, Stay, Add, Lui, Jal, Jalr, OpImm}
use Rattle.prem_wcet_laws.specs.Prelude.{PmMem, line_cost, job_weight, Path, Takes, Cuts, sums_of_path, Plant, IsAmong}
use Rattle.prem_isa.specs.declared.effect.Access.{Access}
use Rattle.prem_wcet_laws.specs.Counts.{PathCount, IsNoMore}
use Rattle.prem_wcet_laws.specs.Scopes.{is_roomy, roomy_lines, crowd_cost}
use Rattle.prem_wcet_laws.specs.Weights.{PlaceWeight, weighted_from}

-- ---- weights of steps

-- what the registers and offsets of jumps and addresses don't raise
pub record Weighs (w : PlaceWeight) : Type 0 where
  pub jump : (at rd : ℕ) (offset : ℤ) → w at (Jal rd offset) ≤ w at (Jal 0 (pos 0))
  pub upper : (at rd n : ℕ) → w at (Lui rd n) ≤ w at (Lui 0 0)
  pub lower : (at rd rs1 : ℕ) (n : ℤ) → w at (OpImm Add rd rs1 n) ≤ w at (OpImm Add 0 0 (pos 0))

abbrev pub weight_of : PlaceWeight → Did → ℕ
weight_of w d = w d.pc d.instr

-- a run weighs at most the greatest weight over paths, if each called part does
abbrev pub WithinPlaceWeights : Type 0
WithinPlaceWeights =
    (w : PlaceWeight) → Weighs w → (s : Setting) (calls : Calls) (costs : ℕ → ℕ) → ((part : ℕ) (t : TaskState) → Within (weight_of w) (costs part) (calls part t)) →
    (ps : Pieces) (at : ℕ) (t : TaskState) → Within (weight_of w) (weighted_from w costs at ps) (run s calls at ps t)

-- ---- scopes

abbrev pub access_lines : ℕ → Option Access → List ℕ
access_lines line None = []
access_lines line (Some a) = a.address / line ∷ []

-- the lines that a step touches, that of its fetch first
abbrev pub lines_of_step : ℕ → Did → List ℕ
lines_of_step line d = d.pc / line ∷ access_lines line d.access

abbrev pub AreAmong : List ℕ → List ℕ → Type 0
AreAmong lines [] = Unit {0}
AreAmong lines (n ∷ ns) = IsAmong n lines × AreAmong lines ns

-- it touches lines of a collection alone
abbrev pub KeepsTo : ℕ → List ℕ → Did → Type 0
KeepsTo line lines d = AreAmong lines (lines_of_step line d)

-- what touches of lines cost whose sets have no room for the collection
abbrev pub crowd_costs : Plant → (lines touches : List ℕ) → ℕ
crowd_costs p lines [] = 0
crowd_costs p lines (n ∷ ns) = crowd_cost p (is_roomy p lines n) + crowd_costs p lines ns

-- what a step is charged within a scope, and alone
abbrev pub step_charge : Plant → (lines : List ℕ) → Did → ℕ
step_charge p lines d = cost_of d.instr + crowd_costs p lines (lines_of_step p.line d)

abbrev pub lone_charge : Plant → Did → ℕ
lone_charge p d = cost_of d.instr + length (lines_of_step p.line d) * line_cost p

-- the steps of a scope: each line once whose set has room
abbrev pub scope_charge : Plant → (lines : List ℕ) → List Did → ℕ
scope_charge p lines steps = length (roomy_lines p lines) * line_cost p + total (step_charge p lines) steps

-- a step changes no phase, and ends no job
abbrev pub StaysOn : Did → Type 0
StaysOn d = d.change ≡ Stay

pub data Division : Type 0 where
  ends : Division
  alone : (d : Did) (rest : Division) → Division
  together : (lines : List ℕ) (steps : List Did) (rest : Division) → Division
  section : (steps : List Did) (weight : ℕ) (rest : Division) → Division  -- a marked call, which counts so much

abbrev pub joined : Division → Division → Division
joined ends x = x
joined (alone d rest) x = alone d (joined rest x)
joined (together lines steps rest) x = together lines steps (joined rest x)
joined (section steps weight rest) x = section steps weight (joined rest x)

abbrev pub steps_of : Division → List Did
steps_of ends = []
steps_of (alone d rest) = d ∷ steps_of rest
steps_of (together lines steps rest) = steps ++ steps_of rest
steps_of (section steps weight rest) = steps ++ steps_of rest

abbrev pub charge_of : Plant → Division → ℕ
charge_of p ends = 0
charge_of p (alone d rest) = lone_charge p d + charge_of p rest
charge_of p (together lines steps rest) = scope_charge p lines steps + charge_of p rest
charge_of p (section steps weight rest) = weight + charge_of p rest

-- no step outside of marked calls changes a phase
abbrev pub AreLoose : Division → Type 0
AreLoose ends = Unit {0}
AreLoose (alone d rest) = StaysOn d × AreLoose rest
AreLoose (together lines steps rest) = AllSteps StaysOn steps × AreLoose rest
AreLoose (section steps weight rest) = AreLoose rest

-- its path from marked call to marked call
abbrev pub path_of : Plant → Division → Path
path_of p ends = []
path_of p (alone d rest) = Takes (lone_charge p d) ∷ path_of p rest
path_of p (together lines steps rest) = Takes (scope_charge p lines steps) ∷ path_of p rest
path_of p (section steps weight rest) = Takes (job_weight p PmMem) ∷ Cuts ∷ Takes (job_weight p (Jalr 0 4 (pos 0))) ∷ path_of p rest

abbrev pub count_of : Plant → Division → PathCount
count_of p v = record { total = charge_of p v; sums = sums_of_path (path_of p v) }

-- each scope keeps to its collection, and there is no marked call
abbrev pub IsDivision : ℕ → Division → Type 0
IsDivision line ends = Unit {0}
IsDivision line (alone d rest) = IsDivision line rest
IsDivision line (together lines steps rest) = AllSteps (KeepsTo line lines) steps × IsDivision line rest
IsDivision line (section steps weight rest) = ⊥

-- steps part into scopes that are charged at most so much
pub record Divides (p : Plant) (most : ℕ) (steps : List Did) : Type 0 where
  pub division : Division
  pub keeps : IsDivision p.line division
  pub steps_are : steps ≡ steps_of division
  pub loose : AreLoose division
  pub charged : charge_of p division ≤ most

-- so do those of a run
abbrev pub RunDivides : Plant → ℕ → Ending → Type 0
RunDivides p most (Falls t trace) = Divides p most trace
RunDivides p most (Returns back t trace) = Divides p most trace
RunDivides p most Stuck = Unit {0}

-- ---- with marked calls

-- the same, where it is told which steps are those of a marked call that counts so much
abbrev pub IsCourse : (List Did → ℕ → Type 0) → ℕ → Division → Type 0
IsCourse Marked line ends = Unit {0}
IsCourse Marked line (alone d rest) = IsCourse Marked line rest
IsCourse Marked line (together lines steps rest) = AllSteps (KeepsTo line lines) steps × IsCourse Marked line rest
IsCourse Marked line (section steps weight rest) = Marked steps weight × IsCourse Marked line rest

pub record Courses (p : Plant) (Marked : List Did → ℕ → Type 0) (most : PathCount) (steps : List Did) : Type 0 where
  pub division : Division
  pub keeps : IsCourse Marked p.line division
  pub steps_are : steps ≡ steps_of division
  pub loose : AreLoose division
  pub counted : IsNoMore (count_of p division) most

abbrev pub RunCourses : Plant → (List Did → ℕ → Type 0) → PathCount → Ending → Type 0
RunCourses p Marked most (Falls t trace) = Courses p Marked most trace
RunCourses p Marked most (Returns back t trace) = Courses p Marked most trace
RunCourses p Marked most Stuck = Unit {0}
