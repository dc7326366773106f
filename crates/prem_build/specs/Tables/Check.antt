-- What is written of the bounds of a compiled set.
use Rattle.std.specs.Prelude.{ℕ, ◌==◌, if◌then◌else◌, List, [], ◌∷◌, ◌++◌, slice_index_or, codes, decimal}
use Rattle.std.specs.List.{flat_map}
use Rattle.prem_plant.specs.declared.layout.PartKind.{PartKind}
use Rattle.prem_plant.specs.declared.layout.PartKind.TheVariants.{Start, Code, Stub, Global, Stack, Area}
use Rattle.prem_plant.specs.declared.layout.PartSize.{PartSize}
use Rattle.prem_syntax.specs.Syntax.{Text}
use Rattle.prem_layout.specs.Facts.{IntervalFact}
use Rattle.prem_tasks.specs.Compiled.{TaskFact, CompiledText}
use Rattle.prem_build.specs.Tables.Names.{first_name, rest_names}

-- a task and the bound of its jobs
abbrev pub bound_line : Text → ℕ → List ℕ
bound_line name bound = codes "task " ++ (name ++ (codes " bound " ++ (decimal bound ++ codes "\n")))

-- behind the name of a marked function
abbrev pub fact_text : IntervalFact → List ℕ
fact_text f =
    codes " lines " ++ (decimal f.lines ++ (codes " most " ++ (decimal f.most ++ (codes " bound "
    ++ (decimal f.bound ++ (codes " stated " ++ (decimal f.stated ++ codes "\n")))))))

abbrev pub interval_line : Text → IntervalFact → List ℕ
interval_line name f = codes "interval " ++ (name ++ fact_text f)

-- a marked function, where it is one of task n, whose functions have these names
abbrev pub interval_text : ℕ → List Text → TaskFact → List ℕ
interval_text n functions fact =
    if fact.0 == n then interval_line (slice_index_or functions fact.1.function []) fact.1 else []

-- task n with its marked functions
abbrev pub task_text : List ℕ → List TaskFact → ℕ → Text → List Text → List ℕ
task_text jobs intervals n name functions = bound_line name (slice_index_or jobs n 0) ++ flat_map (interval_text n functions) intervals

-- a task is told where it starts: behind its start stand its functions, in the order of its text
abbrev pub part_text : List ℕ → List TaskFact → ℕ → PartKind → Text → List Text → List ℕ
part_text jobs intervals n Start name behind = task_text jobs intervals n name behind
part_text jobs intervals n (Code f) name behind = []
part_text jobs intervals n (Stub f) name behind = []
part_text jobs intervals n (Global g) name behind = []
part_text jobs intervals n Stack name behind = []
part_text jobs intervals n (Area d) name behind = []

abbrev pub parts_text : List ℕ → List TaskFact → List PartSize → List Text → List ℕ
parts_text jobs intervals [] names = []
parts_text jobs intervals (part ∷ parts) names =
    part_text jobs intervals part.task part.kind (first_name names) (rest_names names) ++ parts_text jobs intervals parts (rest_names names)

abbrev pub limit_line : ℕ → List ℕ
limit_line limit = codes "limit " ++ (decimal limit ++ codes "\n")

-- each task with the bound of its jobs, its marked functions, and last the cycle by which all jobs have ended
abbrev pub check_text : CompiledText → List ℕ
check_text c = parts_text c.jobs c.intervals c.parts c.names ++ limit_line c.limit
