-- Small numbers in terms as plain data.
use Rattle.std.specs.Prelude.{◌≡◌, ◌≤◌, ◌^◌, ⊤, length}
use Rattle.prem_syntax.specs.Syntax.{Expression}
use Rattle.prem_syntax.specs.Resolve.{Scope, resolve_term}
use Rattle.prem_syntax.specs.Resolved.{Term, Constant, Local, Scalar, Element, Unary, Binary, AndAlso, OrElse}
use Rattle.prem_tree.specs.declared.resolve.resolved.Term.{Term as TermTree}
use Rattle.prem_tree.specs.Resolve.ResolvedOf.{term_of}
use Rattle.prem_gen.specs.Term.Numbers.{IsSmall, HasSmall}

abbrev pub TermSmall : Term → Type 0
TermSmall (Constant at word kind) = ⊤
TermSmall (Local at number kind) = IsSmall number
TermSmall (Scalar at g ty) = IsSmall g
TermSmall (Element at g ty index) = IsSmall g × TermSmall index
TermSmall (Unary at op operand) = TermSmall operand
TermSmall (Binary at op kind left right) = TermSmall left × TermSmall right
TermSmall (AndAlso at left right) = TermSmall left × TermSmall right
TermSmall (OrElse at left right) = TermSmall left × TermSmall right

-- few locals and globals
pub record FewNames (scope : Scope) : Type 0 where
  pub few_locals : length scope.locals ≤ 2 ^ 16
  pub few_globals : length scope.globals ≤ 2 ^ 16

abbrev pub ResolvedAreSmall : Type 0
ResolvedAreSmall = (scope : Scope) → FewNames scope → (e : Expression) (t : TermTree) → term_of t ≡ resolve_term scope e → HasSmall t
