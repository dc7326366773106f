-- The ranges of bytes of marked functions, by the parts of a set.
use Rattle.std.specs.Prelude.{ℕ, ◌+◌, ◌-◌, ◌*◌, List, [], ◌∷◌, ◌++◌, length, map, slice_index, slice_index_or}
use Rattle.prem_plant.specs.declared.layout.PartKind.TheVariants.{Start}
use Rattle.prem_plant.specs.declared.layout.PartSize.{PartSize}
use Rattle.prem_syntax.specs.Resolved.{Resolved}
use Rattle.prem_layout.specs.Plans.{Region, Plan, plans_of}
use Rattle.prem_layout.specs.Parts.{element_size, part, part_count}
use Rattle.prem_layout.specs.Footprint.{index_of}
use Rattle.prem_layout.specs.Placed.{Coded}
use Rattle.prem_color.specs.Offsets.{PartRange}

-- a marked function by its number in a task, and its ranges
pub record Want : Type 0 where
  pub task : ℕ
  pub function : ℕ
  pub ranges : List PartRange

-- ---- parts by number

abbrev pub size_at : List PartSize → ℕ → ℕ
size_at parts n = (slice_index_or parts n (part 0 Start 0 1)).size

-- all bytes of a part
abbrev pub whole : List PartSize → ℕ → PartRange
whole parts n = (n, 0, size_at parts n)

-- what has to be known of a task to number its parts: how many functions it has, the marked ones, and the bytes of an element of each global
pub record Shape : Type 0 where
  pub functions : ℕ
  pub marked : List ℕ
  pub elements : List ℕ

abbrev pub shape_of : Resolved → Shape
shape_of p = record {
  functions = length p.routines;
  marked = map (λ (plan : Plan). plan.function) (plans_of p);
  elements = map (λ g. element_size g.ty) p.globals;
}

-- in a task whose start has number `first`
abbrev pub code_number : ℕ → ℕ → ℕ
code_number first f = first + (1 + f)

abbrev pub stub_number : Shape → ℕ → ℕ → ℕ
stub_number s first f = first + (1 + s.functions + index_of f s.marked)

abbrev pub global_number : Shape → ℕ → ℕ → ℕ
global_number s first g = first + (1 + s.functions + length s.marked + g)

abbrev pub stack_number : Shape → ℕ → ℕ
stack_number s first = first + (1 + s.functions + length s.marked + length s.elements)

-- ---- ranges

-- so many bytes, below a frame of so many at the end of the stack
abbrev pub stack_want : List PartSize → ℕ → Plan → PartRange
stack_want parts n plan = (n, size_at parts n - plan.base - plan.depth, size_at parts n - plan.base)

abbrev pub element_at : Shape → ℕ → ℕ
element_at s g = slice_index s.elements g

abbrev pub region_want : Shape → ℕ → Region → PartRange
region_want s first r = (global_number s first r.0, r.1 * element_at s r.0, (r.2 + 1) * element_at s r.0)

-- in the order in which a stub prefetches them: the stub, code, the stack range, regions
abbrev pub plan_ranges : List PartSize → Shape → ℕ → Plan → List PartRange
plan_ranges parts s first plan =
    whole parts (stub_number s first plan.function)
    ∷ (map (λ f. whole parts (code_number first f)) plan.reach
    ++ (stack_want parts (stack_number s first) plan ∷ map (region_want s first) plan.regions))

-- ---- of all tasks

abbrev pub plan_want : List PartSize → Shape → ℕ → ℕ → Plan → Want
plan_want parts s task first plan = record { task = task; function = plan.function; ranges = plan_ranges parts s first plan }

abbrev pub task_wants : List PartSize → ℕ → ℕ → Resolved → List Want
task_wants parts task first p = map (plan_want parts (shape_of p) task first) (plans_of p)

-- of the tasks from number n on, the first of which has its start at a number
abbrev pub wants_from : List PartSize → ℕ → ℕ → List Coded → List Want
wants_from parts n first [] = []
wants_from parts n first (c ∷ cs) = task_wants parts n first c.program ++ wants_from parts (n + 1) (first + part_count c.program) cs

-- in the order of tasks, and of each in that of its text
abbrev pub wants_of : List PartSize → List Coded → List Want
wants_of parts tasks = wants_from parts 0 0 tasks

abbrev pub ranges_of : List Want → List (List PartRange)
ranges_of wants = map (λ (w : Want). w.ranges) wants
