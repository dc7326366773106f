-- The outline of statements, cut out of their code.
use Rattle.std.specs.Prelude.{◌≡◌, ℕ, zero, suc, ◌-◌, List, [], ◌∷◌, ◌++◌, length, Option, None, Some}
use Rattle.prem_plant.specs.declared.plant.Target.{Target}
use Rattle.prem_plant.specs.declared.plant.Target.TheVariants.{Rv32i, Rv32im}
use Rattle.prem_word.specs.declared.kind.BinOp.{BinOp}
use Rattle.prem_word.specs.declared.kind.BinOp.TheVariants.{Mul, Div, Rem, AndAlso as AndAlsoOp, OrElse as OrElseOp}
use Rattle.prem_syntax.specs.Resolved.{Term, Constant, Local, Scalar, Element, Unary, Binary, AndAlso, OrElse, Steps, Done, SetLocal, SetScalar, SetElement, Output, Input, If, For, While, Call}
use Rattle.prem_asm.specs.Pieces.{Pieces, no_pieces, straight, address_of, either, repeat, call_to, followed, skip_words}
use Rattle.prem_layout.specs.Template.Steps.{steps_code}
use Rattle.prem_wcet_laws.specs.Scopes.{Scene, globals_in_term, globals_in_terms}
use Rattle.prem_wcet.specs.Outlines.{Outline, ended, plain, calling, choice, turning}
use Rattle.prem_wcet.specs.Outlined.{outline_of}

-- ---- pieces one behind another

-- behind the first piece
abbrev pub tail_of : Pieces → Pieces
tail_of no_pieces = no_pieces
tail_of (straight code rest) = rest
tail_of (address_of rd part more rest) = rest
tail_of (either test taken other rest) = rest
tail_of (repeat turns head test body rest) = rest
tail_of (call_to link part rest) = rest

-- behind so many
abbrev pub behind_pieces : ℕ → Pieces → Pieces
behind_pieces zero ps = ps
behind_pieces (suc n) ps = behind_pieces n (tail_of ps)

-- how many there are, those within others aside
abbrev pub spine : Pieces → ℕ
spine no_pieces = 0
spine (straight code rest) = suc (spine rest)
spine (address_of rd part more rest) = suc (spine rest)
spine (either test taken other rest) = suc (spine rest)
spine (repeat turns head test body rest) = suc (spine rest)
spine (call_to link part rest) = suc (spine rest)

-- the first so many
abbrev pub first_pieces : ℕ → Pieces → Pieces
first_pieces zero ps = no_pieces
first_pieces (suc n) no_pieces = no_pieces
first_pieces (suc n) (straight code rest) = straight code (first_pieces n rest)
first_pieces (suc n) (address_of rd part more rest) = address_of rd part more (first_pieces n rest)
first_pieces (suc n) (either test taken other rest) = either test taken other (first_pieces n rest)
first_pieces (suc n) (repeat turns head test body rest) = repeat turns head test body (first_pieces n rest)
first_pieces (suc n) (call_to link part rest) = call_to link part (first_pieces n rest)

-- those before others that are the last ones
abbrev pub before_pieces : (all last : Pieces) → Pieces
before_pieces all last = first_pieces (spine all - spine last) all

-- ---- within the first piece

-- both sides of a choice
abbrev pub first_side : Pieces → Pieces
first_side (either test taken other rest) = taken
first_side _ = no_pieces

abbrev pub second_side : Pieces → Pieces
second_side (either test taken other rest) = other
second_side _ = no_pieces

-- the turns, the head and the body of a loop
abbrev pub turns_in : Pieces → ℕ
turns_in (repeat turns head test body rest) = turns
turns_in _ = 0

abbrev pub head_in : Pieces → Pieces
head_in (repeat turns head test body rest) = head
head_in _ = no_pieces

abbrev pub body_in : Pieces → Pieces
body_in (repeat turns head test body rest) = body
body_in _ = no_pieces

-- ---- behind the code of terms

abbrev pub by_kind : Target → ℕ → ℕ
by_kind Rv32i n = n
by_kind Rv32im n = 1

-- how many pieces an operator has
abbrev pub operator_pieces : Target → BinOp → ℕ
operator_pieces target Mul = by_kind target 3
operator_pieces target Div = by_kind target 4
operator_pieces target Rem = by_kind target 4
operator_pieces target AndAlsoOp = 0
operator_pieces target OrElseOp = 0
operator_pieces target _ = 1

abbrev pub behind_term : Target → Term → Pieces → Pieces
behind_term target (Constant at word kind) ps = tail_of ps
behind_term target (Local at number kind) ps = tail_of ps
behind_term target (Scalar at global ty) ps = behind_pieces 2 ps
behind_term target (Element at global ty index) ps = behind_pieces 3 (behind_term target index ps)
behind_term target (Unary at op operand) ps = tail_of (behind_term target operand ps)
behind_term target (Binary at op kind left right) ps = behind_pieces (operator_pieces target op) (behind_term target right (behind_term target left ps))
behind_term target (AndAlso at left right) ps = tail_of (behind_term target left ps)
behind_term target (OrElse at left right) ps = tail_of (behind_term target left ps)

-- each with a piece behind it
abbrev pub behind_terms : Target → List Term → Pieces → Pieces
behind_terms target [] ps = ps
behind_terms target (x ∷ xs) ps = behind_terms target xs (tail_of (behind_term target x ps))

abbrev pub behind_target : Option ℕ → Pieces → Pieces
behind_target None ps = ps
behind_target (Some k) ps = tail_of ps

-- ---- statements

abbrev pub behind_steps : Target → Steps → Pieces → Pieces
behind_steps target Done ps = ps
behind_steps target (SetLocal pl k value rest) ps = behind_steps target rest (tail_of (behind_term target value ps))
behind_steps target (SetScalar pl g ty value rest) ps = behind_steps target rest (behind_pieces 2 (behind_term target value ps))
behind_steps target (SetElement pl g ty index value rest) ps = behind_steps target rest (behind_pieces 3 (behind_term target index (behind_term target value ps)))
behind_steps target (Output pl value rest) ps = behind_steps target rest (tail_of (behind_term target value ps))
behind_steps target (Input pl k rest) ps = behind_steps target rest (tail_of ps)
behind_steps target (If pl condition taken other rest) ps = behind_steps target rest (tail_of (behind_term target condition ps))
behind_steps target (For pl k low closed high step turns body rest) ps = behind_steps target rest (behind_pieces 2 (behind_term target low ps))
behind_steps target (While pl turns condition body rest) ps = behind_steps target rest (behind_pieces 3 ps)
behind_steps target (Call pl to f arguments rest) ps = behind_steps target rest (behind_target to (tail_of (behind_terms target arguments ps)))

abbrev pub sliced : Target → Steps → Pieces → Outline
sliced target Done ps = ended
sliced target (SetLocal pl k value rest) ps =
    plain (before_pieces ps (tail_of (behind_term target value ps))) (globals_in_term value) (sliced target rest (tail_of (behind_term target value ps)))
sliced target (SetScalar pl g ty value rest) ps =
    plain (before_pieces ps (behind_pieces 2 (behind_term target value ps))) (g ∷ globals_in_term value) (sliced target rest (behind_pieces 2 (behind_term target value ps)))
sliced target (SetElement pl g ty index value rest) ps =
    plain (before_pieces ps (behind_pieces 3 (behind_term target index (behind_term target value ps)))) (g ∷ (globals_in_term index ++ globals_in_term value))
    (sliced target rest (behind_pieces 3 (behind_term target index (behind_term target value ps))))
sliced target (Output pl value rest) ps =
    plain (before_pieces ps (tail_of (behind_term target value ps))) (globals_in_term value) (sliced target rest (tail_of (behind_term target value ps)))
sliced target (Input pl k rest) ps = plain (before_pieces ps (tail_of ps)) [] (sliced target rest (tail_of ps))
sliced target (If pl condition taken other rest) ps =
    choice (before_pieces ps (tail_of (behind_term target condition ps))) (globals_in_term condition)
    (before_pieces ps (behind_term target condition ps)) (skip_words (second_side (behind_term target condition ps)))
    (sliced target taken (first_side (behind_term target condition ps))) (sliced target other (second_side (behind_term target condition ps)))
    (sliced target rest (tail_of (behind_term target condition ps)))
sliced target (For pl k low closed high step turns body rest) ps =
    turning (before_pieces ps (behind_pieces 2 (behind_term target low ps))) (globals_in_term low ++ globals_in_term high) (before_pieces ps (tail_of (behind_term target low ps)))
    (turns_in (tail_of (behind_term target low ps))) (head_in (tail_of (behind_term target low ps)))
    (before_pieces (body_in (tail_of (behind_term target low ps))) (body_in (tail_of (behind_term target low ps))))
    (sliced target body (body_in (tail_of (behind_term target low ps)))) (behind_steps target body (body_in (tail_of (behind_term target low ps))))
    (sliced target rest (behind_pieces 2 (behind_term target low ps)))
sliced target (While pl turns condition body rest) ps =
    turning (before_pieces ps (behind_pieces 3 ps)) (globals_in_term condition) (before_pieces ps (behind_pieces 2 ps)) (turns_in (behind_pieces 2 ps)) (head_in (behind_pieces 2 ps))
    (before_pieces (body_in (behind_pieces 2 ps)) (tail_of (body_in (behind_pieces 2 ps))))
    (sliced target body (tail_of (body_in (behind_pieces 2 ps)))) (behind_steps target body (tail_of (body_in (behind_pieces 2 ps))))
    (sliced target rest (behind_pieces 3 ps))
sliced target (Call pl to f arguments rest) ps =
    calling (before_pieces ps (behind_target to (tail_of (behind_terms target arguments ps)))) (globals_in_terms arguments) (before_pieces ps (behind_terms target arguments ps)) (length arguments) f
    (before_pieces (tail_of (behind_terms target arguments ps)) (behind_target to (tail_of (behind_terms target arguments ps))))
    (sliced target rest (behind_target to (tail_of (behind_terms target arguments ps))))

-- it is that of the statements, whose code begins these pieces
abbrev pub SlicesAreOutlines : Type 0
SlicesAreOutlines = (e : Scene) (n : ℕ) (steps : Steps) (last : Pieces) → sliced e.parts.target steps (followed (steps_code e.parts n steps) last) ≡ outline_of e n steps
