use Rattle.std.specs.Borrow.{Bor}
use Rattle.std.specs.List.{AllByRecursion}
use Rattle.std.proofs.Common.{◌≤◌, List, length, map, sym, subst}
use Rattle.prem_list.specs.declared.Sequence.{Sequence}
use Rattle.prem_syntax.specs.declared.tree.Global.{Global}
use Rattle.prem_syntax.specs.SyntaxOf.{global_of}
use Rattle.prem_asm.specs.declared.piece.Piece.{Piece}
use Rattle.prem_split.specs.declared.plan.IntervalPlan.{IntervalPlan}
use Rattle.prem_split.specs.PlanOf.{plan_of}
use Rattle.prem_prefetch.specs.Parts.Parts.{sizes_of, IsShortGlobal, IsShortPlan, IsWordSize}
use Rattle.prem_prefetch.proofs.sizes.sizes.push_coded.Goals as goal

pub push_task-requires-clause-functions : goal.push_task-requires-clause-functions
push_task-requires-clause-functions c = subst (λ (code : List (Sequence Piece)). length code ≤ 256) (sym c.items.ensures) c.requires.codes

pub push_task-requires-clause-small : goal.push_task-requires-clause-small
push_task-requires-clause-small c = subst (λ (code : List (Sequence Piece)). AllByRecursion IsWordSize (sizes_of code)) (sym c.items.ensures) c.requires.small

pub push_task-requires-clause-plans : goal.push_task-requires-clause-plans
push_task-requires-clause-plans c = subst (λ (plans : List IntervalPlan). AllByRecursion IsShortPlan (map plan_of plans)) (sym c.items-2.ensures) c.requires.plans

pub push_task-requires-clause-few : goal.push_task-requires-clause-few
push_task-requires-clause-few c = subst (λ (globals : List (Bor Global)). length globals ≤ 256) (sym c.deref.ensures.value) c.requires.program.globals

pub push_task-requires-clause-short : goal.push_task-requires-clause-short
push_task-requires-clause-short c =
    subst (λ (globals : List (Bor Global)). AllByRecursion IsShortGlobal (map (λ (g : Bor Global). global_of g.now) globals)) (sym c.deref.ensures.value) c.requires.globals
