-- How an expression's tokens are read, one after the other.
use Rattle.std.proofs.Common.{◌≡◌, ◌≤◌, ◌<◌, ℕ, List, [], ◌∷◌, ◌++◌, Bool, Option, None, Some, true, false, refl, arith, nat_le}
use Rattle.prem_text.proofs.Prelude.{Expression, Place, UnOp, infix_of, prefix_of, level_of, Open, bottom, under, right_of, bracket, index_of, bind, State, wants, goes, move, Lexeme, mark}
use Rattle.prem_text.proofs.Prelude.{Seen, Mark, BinOp, Add, nat_tests}
use Rattle.prem_text.specs.declared.lexing.token.token.Mark.TheVariants as m

-- a state reads all of these tokens
pub data Goes (least : ℕ) : State → List Seen → State → Type 0 where
  done : (s : State) → Goes least s [] s
  more : (s mid end : State) (t : Seen) (ts : List Seen) → move least s t ≡ goes mid → Goes least mid ts end → Goes least s (t ∷ ts) end

pub goes_append : (least : ℕ) (s mid end : State) (xs ys : List Seen) → Goes least s xs mid → Goes least mid ys end → Goes least s (xs ++ ys) end
goes_append least s mid end xs ys (done _) q = q
goes_append least s mid end xs ys (more _ next _ t ts e p) q = more s next end t (ts ++ ys) e (goes_append least next mid end ts ys p q)

-- what is open around a phrase of a level lets it be whole
abbrev pub Loose : ℕ → ℕ → Open → Type 0
Loose least k bottom = least ≤ k
Loose least k (under at op around) = 11 ≤ k
Loose least k (right_of left at op around) = level_of op < k
Loose least k _ = Unit {0}

-- what an option of an operator asks of a level
abbrev pub AtMost : Option BinOp → ℕ → Type 0
AtMost (Some op) k = level_of op ≤ k
AtMost None k = Unit {0}

abbrev pub is_index : Mark → Bool
is_index m.OpenBracket = true
is_index _ = false

-- a token that doesn't bind a phrase of a level away
abbrev pub Waits : ℕ → Lexeme → Type 0
Waits k (mark x) = (is_index x ≡ false) × AtMost (infix_of x) k
Waits k _ = Unit {0}

abbrev pub Same : ℕ → ℕ → State → State → Type 0
Same least k s s' = (t : Lexeme) (at : Place) → Waits k t → move least s (t, at) ≡ move least s' (t, at)

pub level_small : (op : BinOp) → level_of op ≤ 10
level_small Add = omega arith
level_small _ = omega arith

pub level_some : (op : BinOp) → 0 < level_of op
level_some Add = omega arith
level_some _ = omega arith

at_most_more : (k l : ℕ) (o : Option BinOp) → k ≤ l → AtMost o k → AtMost o l
at_most_more k l (Some op) le w = omega arith
at_most_more k l None le w = tt

-- the waiting token is no less waiting at a tighter level
pub waits_more : (k l : ℕ) (t : Lexeme) → k ≤ l → Waits k t → Waits l t
waits_more k l (mark x) le w = (w.0, at_most_more k l (infix_of x) le w.1)
waits_more k l _ le w = tt

infix_is_no_index : (sign : Mark) (op : BinOp) → infix_of sign ≡ Some op → is_index sign ≡ false
infix_is_no_index m.OpenBracket op is = cc
infix_is_no_index _ op is = refl

pub waits_sign : (k : ℕ) (sign : Mark) (op : BinOp) → infix_of sign ≡ Some op → level_of op ≤ k → Waits k (mark sign)
waits_sign k sign op is le = (infix_is_no_index sign op is, rw is le)

-- a prefix before an operand
pub prefix_moves : (least : ℕ) (around : Open) (sign : Mark) (op : UnOp) (at : Place) → prefix_of sign ≡ Some op → move least (wants around) (mark sign, at) ≡ goes (wants (under at op around))
prefix_moves least around m.OpenParenthesis op at is = cc
prefix_moves least around _ op at is = cc

-- around a phrase that stands whole nothing is bound by a looser operator
pub bind_stays : (least k : ℕ) (e : Expression) (around : Open) → Loose least k around → k ≤ 10 → bind k e around ≡ (e, around)
bind_stays least k e bottom loose le = refl
bind_stays least k e (under at op around) loose le = absurd (omega arith)
bind_stays least k e (right_of left at op around) loose le = let not_yet : nat_le k (level_of op) ≡ false = grind (arith, nat_tests) in rw not_yet refl
bind_stays least k e (bracket around) loose le = refl
bind_stays least k e (index_of at text around) loose le = refl
