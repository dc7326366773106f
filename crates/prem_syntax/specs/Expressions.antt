-- What expressions evaluate to.
use Rattle.std.specs.Prelude.{ℕ, ◌==◌, pos, ◌-ℤ◌, Bool, not, if◌then◌else◌, List, [], ◌∷◌, slice_get, slice_index, unwrap_or, Option, None, Some, Result, Ok, Err}
use Rattle.std.specs.Int.{w32, bit_not}
use Rattle.prem_word.specs.declared.kind.Kind.{Kind}
use Rattle.prem_word.specs.declared.kind.BinOp.{BinOp}
use Rattle.prem_word.specs.declared.kind.BinOp.TheVariants.{Div, Rem}
use Rattle.prem_word.specs.Words.{word_of, truth, apply_op}
use Rattle.prem_syntax.specs.declared.tree.UnOp.{UnOp}
use Rattle.prem_syntax.specs.declared.tree.UnOp.TheVariants.{Neg, Flip, Not}
use Rattle.prem_syntax.specs.Resolved.{Term, Constant, Local, Scalar, Element, Unary, Binary, AndAlso, OrElse}

-- an outcome, or wrong at a line of the text
abbrev pub Outcome : Type 0 → Type 0
Outcome A = Result A ℕ

abbrev pub and_then : {A B : Type 0} → Outcome A → (A → Outcome B) → Outcome B
and_then (Ok x) go = go x
and_then (Err line) go = Err line

-- whether a run may access element j of global g
abbrev pub Access : Type 0
Access = ℕ → ℕ → Bool

-- the words of a global; those of a narrow one are promoted
abbrev pub words_of : List (List ℕ) → ℕ → List ℕ
words_of globals g = unwrap_or (slice_get globals g) []

-- the word of element j of global g, where there is one that may be accessed
abbrev pub cell : Access → List (List ℕ) → ℕ → ℕ → Option ℕ
cell may globals g j = if may g j then slice_get (words_of globals g) j else None

abbrev pub or_wrong : {A : Type 0} → ℕ → Option A → Outcome A
or_wrong line None = Err line
or_wrong line (Some x) = Ok x

abbrev pub unary_word : UnOp → ℕ → ℕ
unary_word Neg a = word_of (pos 0 -ℤ pos a)
unary_word Flip a = bit_not w32 a
unary_word Not a = truth (a == 0)

-- an operator on two words; a quotient or remainder by 0 is wrong
abbrev pub divide : ℕ → BinOp → Kind → ℕ → ℕ → Outcome ℕ
divide line op kind a b = if b == 0 then Err line else Ok (apply_op op kind a b)

abbrev pub operate : ℕ → BinOp → Kind → ℕ → ℕ → Outcome ℕ
operate line Div kind a b = divide line Div kind a b
operate line Rem kind a b = divide line Rem kind a b
operate line op kind a b = Ok (apply_op op kind a b)

abbrev pub truth_of : Outcome ℕ → Outcome ℕ
truth_of r = and_then r (λ b. Ok (truth (not (b == 0))))

-- The left side comes first; && and || may stop behind it. A negative index is past the end of every array.
abbrev pub eval : Access → List (List ℕ) → List ℕ → Term → Outcome ℕ
eval may globals locals (Constant at word kind) = Ok word
eval may globals locals (Local at number kind) = Ok (slice_index locals number)
eval may globals locals (Scalar at g ty) = or_wrong at.line (cell may globals g 0)
eval may globals locals (Element at g ty index) =
    and_then (eval may globals locals index) (λ j. or_wrong at.line (cell may globals g j))
eval may globals locals (Unary at op operand) = and_then (eval may globals locals operand) (λ a. Ok (unary_word op a))
eval may globals locals (Binary at op kind left right) =
    and_then (eval may globals locals left) (λ a. and_then (eval may globals locals right) (λ b. operate at.line op kind a b))
eval may globals locals (AndAlso at left right) =
    and_then (eval may globals locals left) (λ a. if a == 0 then Ok 0 else truth_of (eval may globals locals right))
eval may globals locals (OrElse at left right) =
    and_then (eval may globals locals left) (λ a. if a == 0 then truth_of (eval may globals locals right) else Ok 1)

-- the values of terms, from the left
abbrev pub eval_all : Access → List (List ℕ) → List ℕ → List Term → Outcome (List ℕ)
eval_all may globals locals [] = Ok []
eval_all may globals locals (e ∷ es) = and_then (eval may globals locals e) (λ w. and_then (eval_all may globals locals es) (λ ws. Ok (w ∷ ws)))
