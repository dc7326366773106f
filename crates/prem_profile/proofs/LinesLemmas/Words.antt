-- Line tables are as long as the code.
use Rattle.std.specs.Prelude.{pos, if◌then◌else◌}
use Rattle.std.proofs.Common.{◌≡◌, ℕ, zero, suc, ◌+◌, Bool, true, false, List, [], ◌∷◌, ◌++◌, length, length-append, Option, None, Some, refl, sym, arith}
use Rattle.std.proofs.lemmas.List.{length-replicate}
use Rattle.prem_word.specs.declared.kind.Kind.{Kind}
use Rattle.prem_word.specs.declared.kind.Kind.TheVariants.{Int, Unsigned}
use Rattle.prem_word.specs.declared.kind.BinOp.{BinOp}
use Rattle.prem_word.specs.declared.kind.BinOp.TheVariants.{Add as Plus, Sub as Minus, Mul, Div, Rem, Shl, Shr, Lt, Le, Gt, Ge, Eq, Ne, And as BitAnd, Xor as BitXor, Or as BitOr}
use Rattle.prem_word.specs.declared.kind.BinOp.TheVariants.{AndAlso as AndAlsoOp, OrElse as OrElseOp}
use Rattle.prem_plant.specs.declared.plant.Target.{Target}
use Rattle.prem_plant.specs.declared.plant.Target.TheVariants.{Rv32i, Rv32im}
use Rattle.prem_isa.specs.declared.instr.Instr.{Instr}
use Rattle.prem_isa.specs.declared.instr.Instr.TheVariants.{OpImm, PmOut}
use Rattle.prem_isa.specs.declared.instr.AluOp.TheVariants.{Add}
use Rattle.prem_syntax.specs.declared.tree.UnOp.{UnOp}
use Rattle.prem_syntax.specs.declared.tree.UnOp.TheVariants.{Neg, Flip, Not}
use Rattle.prem_syntax.specs.Syntax.{LocalVariable}
use Rattle.prem_syntax.specs.Resolved.{Term, Constant, Local, Scalar, Element, Unary, Binary, AndAlso, OrElse, Steps, Done as NoSteps, SetLocal, SetScalar, SetElement, Output}
use Rattle.prem_syntax.specs.Resolved.{Input, If, For, While, Call, Routine}
use Rattle.prem_asm.specs.Pieces.{Pieces, no_pieces, straight, address_of, either, repeat, call_to, followed, skip_words, words, address_code, lower}
use Rattle.prem_asm.proofs.Rows.{words-followed}
use Rattle.prem_layout.specs.Template.Terms.{only, is_short, constant, scale, shift_of, nonzero, unary_code, multiply_code, quotient_code, remainder_code, by_target, binary_code}
use Rattle.prem_layout.specs.Template.Terms.{truth_code, element_code, term_code}
use Rattle.prem_layout.specs.Template.Frames.{counters_in, locals_of, frame_of}
use Rattle.prem_layout.specs.Template.Limits.{first_place}
use Rattle.prem_layout.specs.Template.Steps.{Parts, load_slot, store_slot, scalar_store, element_store, bound_test, step_code, turn_code, store_argument, argument_code}
use Rattle.prem_layout.specs.Template.Steps.{target_code, steps_code, closing, declare_code, result_code, function_code}
use Rattle.prem_profile.specs.Lines.Table.{argument_lines, at_line, begins, constant_words, function_lines, jump_words, local_line, local_lines, locals_behind, result_lines}
use Rattle.prem_profile.specs.Lines.Table.{scale_words, steps_lines, target_words, term_lines}
use Rattle.prem_profile.specs.Lines.Laws.{LinesAreForWords}

pub at_line_long : (line n : ℕ) → length (at_line line n) ≡ n
at_line_long line n = length-replicate {A = ℕ} n line

-- ---- parts of templates, which no register changes

constant_same : (r c : ℕ) → length (constant r c) ≡ constant_words c
constant_same r c = by (is_short c)
  where
    by : (b : Bool) → length (if b then OpImm Add r 0 (lower c) ∷ [] else address_code r c) ≡ length (if b then OpImm Add 10 0 (lower c) ∷ [] else address_code 10 c)
    by true = refl
    by false = refl

scale_same : (r n : ℕ) → length (scale r n) ≡ length (scale 10 n)
scale_same r zero = refl
scale_same r (suc n) = refl

unary_one : (op : UnOp) (r : ℕ) → length (unary_code op r) ≡ 1
unary_one Neg r = refl
unary_one Flip r = refl
unary_one Not r = refl

by_same : (target : Target) (code code' : Pieces) (one one' : Instr) → words code ≡ words code' → words (by_target target code one) ≡ words (by_target target code' one')
by_same Rv32i code code' one one' h = h
by_same Rv32im code code' one one' h = refl

quotient_same : (k : Kind) (r s : ℕ) → words (quotient_code k r s) ≡ words (quotient_code k 10 11)
quotient_same Int r s = refl
quotient_same Unsigned r s = refl

remainder_same : (k : Kind) (r s : ℕ) → words (remainder_code k r s) ≡ words (remainder_code k 10 11)
remainder_same Int r s = refl
remainder_same Unsigned r s = refl

binary_same : (target : Target) (op : BinOp) (k : Kind) (r s : ℕ) → words (binary_code target op k r s) ≡ words (binary_code target op k 10 11)
binary_same target Plus k r s = refl
binary_same target Minus k r s = refl
binary_same target Mul k r s = by_same target (multiply_code r s) (multiply_code 10 11) _ _ refl
binary_same target Div k r s = by_same target (quotient_code k r s) (quotient_code k 10 11) _ _ (quotient_same k r s)
binary_same target Rem k r s = by_same target (remainder_code k r s) (remainder_code k 10 11) _ _ (remainder_same k r s)
binary_same target Shl k r s = refl
binary_same target Shr k r s = refl
binary_same target Lt k r s = refl
binary_same target Le k r s = refl
binary_same target Gt k r s = refl
binary_same target Ge k r s = refl
binary_same target Eq k r s = refl
binary_same target Ne k r s = refl
binary_same target BitAnd k r s = refl
binary_same target BitXor k r s = refl
binary_same target BitOr k r s = refl
binary_same target AndAlsoOp k r s = refl
binary_same target OrElseOp k r s = refl

-- where something follows, a jump goes over it
skip_followed : (p q : Pieces) → skip_words q ≡ 1 → skip_words (followed p q) ≡ 1
skip_followed no_pieces q h = h
skip_followed (straight code rest) q h = refl
skip_followed (address_of rd part more rest) q h = refl
skip_followed (either test taken other rest) q h = refl
skip_followed (repeat turns head test body rest) q h = refl
skip_followed (call_to link part rest) q h = refl

-- ---- terms

term_long : (target : Target) (parts : ℕ → ℕ) (r line : ℕ) (e : Term) → length (term_lines target line e) ≡ words (term_code target parts r e)
term_long target parts r line (Constant at word kind) = omega (arith, at_line_long line (constant_words word), constant_same r word)
term_long target parts r line (Local at number kind) = refl
term_long target parts r line (Scalar at global ty) = refl
term_long target parts r line (Element at global ty index) =
    omega (
      arith,
      term_long target parts r line index,
      scale_same r (shift_of ty),
      words-followed (term_code target parts r index) (element_code (parts global) ty r),
      length-append (term_lines target line index) (at_line line (scale_words ty + 4)),
      at_line_long line (scale_words ty + 4),
    )
term_long target parts r line (Unary at op operand) =
    omega (
      arith,
      term_long target parts r line operand,
      unary_one op r,
      words-followed (term_code target parts r operand) (only (unary_code op r)),
      length-append (term_lines target line operand) (at_line line 1),
    )
term_long target parts r line (Binary at op kind left right) =
    let b : Pieces = binary_code target op kind r (r + 1) in
    let n : ℕ = words (binary_code target op kind 10 11) in
    omega (
      arith,
      term_long target parts r line left,
      term_long target parts (r + 1) line right,
      binary_same target op kind r (r + 1),
      words-followed (term_code target parts (r + 1) right) b,
      words-followed (term_code target parts r left) (followed (term_code target parts (r + 1) right) b),
      length-append (term_lines target line left) (term_lines target line right ++ at_line line n),
      length-append (term_lines target line right) (at_line line n),
      at_line_long line n,
    )
term_long target parts r line (AndAlso at left right) =
    let b : Pieces = followed (term_code target parts r right) (only (truth_code r)) in
    omega (
      arith,
      term_long target parts r line left,
      term_long target parts r line right,
      words-followed (term_code target parts r right) (only (truth_code r)),
      words-followed (term_code target parts r left) (either (nonzero r) b no_pieces no_pieces),
      length-append (term_lines target line left) (at_line line 2 ++ (term_lines target line right ++ at_line line 1)),
      length-append (term_lines target line right) (at_line line 1),
    )
term_long target parts r line (OrElse at left right) =
    let b : Pieces = followed (term_code target parts r right) (only (truth_code r)) in
    let one : Pieces = only (OpImm Add r 0 (pos 1) ∷ []) in
    omega (
      arith,
      term_long target parts r line left,
      term_long target parts r line right,
      skip_followed (term_code target parts r right) (only (truth_code r)) refl,
      words-followed (term_code target parts r right) (only (truth_code r)),
      words-followed (term_code target parts r left) (either (nonzero r) one b no_pieces),
      length-append (term_lines target line left) (at_line line 4 ++ (term_lines target line right ++ at_line line 1)),
      length-append (term_lines target line right) (at_line line 1),
    )

-- ---- steps

argument_long : (target : Target) (parts : ℕ → ℕ) (frame j line : ℕ) (es : List Term) → length (argument_lines target line es) ≡ words (argument_code target parts frame j es)
argument_long target parts frame j line [] = refl
argument_long target parts frame j line (e ∷ es) =
    omega (
      arith,
      term_long target parts 10 line e,
      argument_long target parts frame (j + 1) line es,
      words-followed (term_code target parts 10 e) (straight (store_argument frame j ∷ []) (argument_code target parts frame (j + 1) es)),
      length-append (term_lines target line e) (at_line line 1 ++ argument_lines target line es),
    )

target_long : (target : Option ℕ) (rest : Pieces) → words (target_code target rest) ≡ target_words target + words rest
target_long None rest = omega arith
target_long (Some k) rest = omega arith

turn_long : (target : Target) (parts : ℕ → ℕ) (n line : ℕ) (condition : Term) → words (turn_code target parts n condition) ≡ length (term_lines target line condition) + 4
turn_long target parts n line condition = omega (arith, term_long target parts 10 line condition, words-followed (term_code target parts 10 condition) (only (truth_code 10)))

jump_is : (parts : Parts) (n : ℕ) (s : Steps) → jump_words (begins s) ≡ skip_words (steps_code parts n s)
jump_is parts n NoSteps = refl
jump_is parts n (SetLocal at k value rest) = sym (skip_followed (term_code parts.target parts.global 10 value) _ refl)
jump_is parts n (SetScalar at g ty value rest) = sym (skip_followed (term_code parts.target parts.global 10 value) _ refl)
jump_is parts n (SetElement at g ty index value rest) =
    sym (skip_followed (term_code parts.target parts.global 10 value) _
    (skip_followed (term_code parts.target parts.global 11 index) (element_store (parts.global g) ty (steps_code parts n rest)) refl))
jump_is parts n (Output at value rest) = sym (skip_followed (term_code parts.target parts.global 10 value) _ refl)
jump_is parts n (Input at k rest) = refl
jump_is parts n (If at condition taken other rest) = sym (skip_followed (term_code parts.target parts.global 10 condition) _ refl)
jump_is parts n (For at k low closed high step turns body rest) = sym (skip_followed (term_code parts.target parts.global 10 low) _ refl)
jump_is parts n (While at turns condition body rest) = refl
jump_is parts n (Call at target f arguments rest) = sym (skip_followed (argument_code parts.target parts.global (parts.frame f) 0 arguments) _ refl)

steps_long : (parts : Parts) (n : ℕ) (s : Steps) → length (steps_lines parts.target s) ≡ words (steps_code parts n s)
steps_long parts n NoSteps = refl
steps_long parts n (SetLocal at k value rest) =
    let q : Pieces = steps_code parts n rest in
    omega (
      arith,
      term_long parts.target parts.global 10 at.line value,
      steps_long parts n rest,
      words-followed (term_code parts.target parts.global 10 value) (straight (store_slot k ∷ []) q),
      length-append (term_lines parts.target at.line value) (at_line at.line 1 ++ steps_lines parts.target rest),
    )
steps_long parts n (SetScalar at g ty value rest) =
    let q : Pieces = steps_code parts n rest in
    omega (
      arith,
      term_long parts.target parts.global 10 at.line value,
      steps_long parts n rest,
      words-followed (term_code parts.target parts.global 10 value) (scalar_store (parts.global g) ty q),
      length-append (term_lines parts.target at.line value) (at_line at.line 3 ++ steps_lines parts.target rest),
    )
steps_long parts n (SetElement at g ty index value rest) =
    let q : Pieces = element_store (parts.global g) ty (steps_code parts n rest) in
    let m : ℕ = scale_words ty + 4 in
    let more : List ℕ = steps_lines parts.target rest in
    omega (
      arith,
      term_long parts.target parts.global 10 at.line value,
      term_long parts.target parts.global 11 at.line index,
      steps_long parts n rest,
      scale_same 11 (shift_of ty),
      words-followed (term_code parts.target parts.global 11 index) q,
      words-followed (term_code parts.target parts.global 10 value) (followed (term_code parts.target parts.global 11 index) q),
      length-append (term_lines parts.target at.line value) (term_lines parts.target at.line index ++ (at_line at.line m ++ more)),
      length-append (term_lines parts.target at.line index) (at_line at.line m ++ more),
      length-append (at_line at.line m) more,
      at_line_long at.line m,
    )
steps_long parts n (Output at value rest) =
    let q : Pieces = steps_code parts n rest in
    omega (
      arith,
      term_long parts.target parts.global 10 at.line value,
      steps_long parts n rest,
      words-followed (term_code parts.target parts.global 10 value) (straight (PmOut 10 ∷ []) q),
      length-append (term_lines parts.target at.line value) (at_line at.line 1 ++ steps_lines parts.target rest),
    )
steps_long parts n (Input at k rest) = omega (arith, steps_long parts n rest)
steps_long parts n (If at condition taken other rest) =
    let a : Pieces = steps_code parts n taken in
    let b : Pieces = steps_code parts (n + counters_in taken) other in
    let q : Pieces = steps_code parts (n + counters_in taken + counters_in other) rest in
    let t : Target = parts.target in
    let j : ℕ = jump_words (begins other) in
    let last : List ℕ = steps_lines t other ++ steps_lines t rest in
    omega (
      arith,
      term_long t parts.global 10 at.line condition,
      steps_long parts n taken,
      steps_long parts (n + counters_in taken) other,
      steps_long parts (n + counters_in taken + counters_in other) rest,
      jump_is parts (n + counters_in taken) other,
      words-followed (term_code t parts.global 10 condition) (either (nonzero 10) a b q),
      length-append (term_lines t at.line condition) (at_line at.line 2 ++ (steps_lines t taken ++ (at_line at.line j ++ last))),
      length-append (steps_lines t taken) (at_line at.line j ++ last),
      length-append (at_line at.line j) last,
      at_line_long at.line j,
      length-append (steps_lines t other) (steps_lines t rest),
    )
steps_long parts n (For at k low closed high step turns body rest) =
    let t : Target = parts.target in
    let head : Pieces = straight (load_slot k ∷ []) (term_code t parts.global 11 high) in
    let turn : Pieces = followed (steps_code parts n body) (only (step_code k step)) in
    let q : Pieces = steps_code parts (n + counters_in body) rest in
    let last : List ℕ = steps_lines t body ++ (at_line at.line 4 ++ steps_lines t rest) in
    omega (
      arith,
      term_long t parts.global 10 at.line low,
      term_long t parts.global 11 at.line high,
      steps_long parts n body,
      steps_long parts (n + counters_in body) rest,
      words-followed (steps_code parts n body) (only (step_code k step)),
      words-followed (term_code t parts.global 10 low) (straight (store_slot k ∷ []) (repeat turns head (bound_test closed) turn q)),
      length-append (term_lines t at.line low) (at_line at.line 2 ++ (term_lines t at.line high ++ (at_line at.line 2 ++ last))),
      length-append (term_lines t at.line high) (at_line at.line 2 ++ last),
      length-append (steps_lines t body) (at_line at.line 4 ++ steps_lines t rest),
    )
steps_long parts n (While at turns condition body rest) =
    let t : Target = parts.target in
    let m : ℕ = constant_words turns + 4 in
    let last : List ℕ = steps_lines t body ++ (at_line at.line 1 ++ steps_lines t rest) in
    omega (
      arith,
      constant_same 10 turns,
      turn_long t parts.global n at.line condition,
      steps_long parts (n + 1) body,
      steps_long parts (n + 1 + counters_in body) rest,
      length-append (at_line at.line m) (term_lines t at.line condition ++ (at_line at.line 6 ++ last)),
      at_line_long at.line m,
      length-append (term_lines t at.line condition) (at_line at.line 6 ++ last),
      length-append (steps_lines t body) (at_line at.line 1 ++ steps_lines t rest),
    )
steps_long parts n (Call at target f arguments rest) =
    let t : Target = parts.target in
    let q : Pieces = steps_code parts n rest in
    let m : ℕ = 1 + target_words target in
    omega (
      arith,
      argument_long t parts.global (parts.frame f) 0 at.line arguments,
      steps_long parts n rest,
      target_long target q,
      words-followed (argument_code t parts.global (parts.frame f) 0 arguments) (call_to (parts.link f) (parts.callee f) (target_code target q)),
      length-append (argument_lines t at.line arguments) (at_line at.line m ++ steps_lines t rest),
      length-append (at_line at.line m) (steps_lines t rest),
      at_line_long at.line m,
    )

-- ---- functions

declare_long : (target : Target) (parts : ℕ → ℕ) (k line : ℕ) (vs : List LocalVariable) (es : List Term) → length (local_lines target line vs es) ≡ words (declare_code target parts k es)
declare_long target parts k line vs [] = refl
declare_long target parts k line vs (e ∷ es) =
    let at : ℕ = local_line line vs in
    omega (
      arith,
      term_long target parts 10 at e,
      declare_long target parts (k + 1) line (locals_behind vs) es,
      words-followed (term_code target parts 10 e) (straight (store_slot k ∷ []) (declare_code target parts (k + 1) es)),
      length-append (term_lines target at e) (at_line at 1 ++ local_lines target line (locals_behind vs) es),
    )

result_long : (target : Target) (parts : ℕ → ℕ) (e : Option Term) → length (result_lines target e) ≡ words (result_code target parts e)
result_long target parts None = refl
result_long target parts (Some e) = term_long target parts 10 (first_place e).line e

function_long : (parts : Parts) (f : Routine) → length (function_lines parts.target f) ≡ words (function_code parts f)
function_long parts f =
    let t : Target = parts.target in
    let line : ℕ = f.text.at.line in
    let locals : Pieces = declare_code t parts.global (length f.text.params) f.locals in
    let body : Pieces = steps_code parts (locals_of f) f.body in
    let result : Pieces = result_code t parts.global f.result in
    let end : Pieces = only (closing (frame_of f)) in
    let last : List ℕ = result_lines t f.result ++ at_line line 3 in
    omega (
      arith,
      declare_long t parts.global (length f.text.params) line f.text.locals f.locals,
      steps_long parts (locals_of f) f.body,
      result_long t parts.global f.result,
      words-followed result end,
      words-followed body (followed result end),
      words-followed locals (followed body (followed result end)),
      length-append (local_lines t line f.text.locals f.locals) (steps_lines t f.body ++ last),
      length-append (steps_lines t f.body) last,
      length-append (result_lines t f.result) (at_line line 3),
    )

pub lines_are_for_words : LinesAreForWords
lines_are_for_words = record {
  terms = λ parts r line e. term_long parts.target parts.global r line e;
  steps = steps_long;
  functions = function_long;
}
