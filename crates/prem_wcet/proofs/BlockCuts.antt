-- A block in memory is cut as the list of its steps, and what is put behind parts.
use Rattle.std.proofs.Common.{◌≡◌, ℕ, ◌+◌, ◌<◌, ◌≤◌, List, [], ◌∷◌, ◌++◌, refl, ap, ◌∙◌, sym, length, drop, get_or, Bor}
use Rattle.std.proofs.lemmas.List.{drop_all, drop_more}
use Rattle.prem_list.specs.declared.Sequence.{Sequence}
use Rattle.prem_list.specs.Sequence.{items_of}
use Rattle.prem_plant.specs.declared.plant.Target.{Target}
use Rattle.prem_asm.specs.declared.piece.Piece.{Piece}
use Rattle.prem_asm.specs.Pieces.{Pieces}
use Rattle.prem_asm.specs.PiecesOf.{pieces_of}
use Rattle.prem_tree.specs.declared.resolve.resolved.Step.{Step, Block, Row_of-Step, end_of-Step, more_of-Step, items-the_row-Step, items_hidden-the_row-Step-0}
use Rattle.prem_tree.specs.declared.resolve.resolved.Step.TheBlock.{hidden-the_row-Step-0}
use Rattle.prem_wcet.specs.declared.outline.Part.{Part, Plain as plain_part, Calling as calling_part, Choice, Turning, Row_of-Part, end_of-Part, more_of-Part, items-the_row-Part}
use Rattle.prem_wcet.specs.declared.outline.Part.{items_hidden-the_row-Part-0}
use Rattle.prem_wcet.specs.declared.outline.Part.TheBlock.{hidden-the_row-Part-0}
use Rattle.prem_wcet.specs.declared.outline.Part.TheVariants.{Plain, Calling, Choice', Turning'}
use Rattle.prem_wcet.specs.Outlines.{Outline, ended, plain, calling, choice, turning}
use Rattle.prem_wcet.specs.PartsOf.{part_before, row_before, parts_before, parts_of, joined, behind_step, behind_row, behind_list, cut_step, cut_row, cut_list}

row_listed-behind : {l : _} (target : Target) (row : Row_of-Step l) (ps : Pieces) → behind_row target row ps ≡ behind_list target (items-the_row-Step l row) ps
row_listed-behind target end_of-Step ps = refl
row_listed-behind target (more_of-Step first rest) ps = row_listed-behind target rest (behind_step target first ps)

row_listed-cut : {l : _} (target : Target) (row : Row_of-Step l) (ps : Pieces) → cut_row target row ps ≡ cut_list target (items-the_row-Step l row) ps
row_listed-cut target end_of-Step ps = refl
row_listed-cut target (more_of-Step first rest) ps = ap (joined (cut_step target first ps)) (row_listed-cut target rest (behind_step target first ps))

pub block_behind : (target : Target) (ps : Pieces) (s : Step) (body : Sequence Step) (xs : List Step) → s ≡ Block body → xs ≡ items_of body → behind_step target s ps ≡ behind_list target xs ps
block_behind target ps s body xs is ex =
    ap (λ x. behind_step target x ps) is ∙ row_listed-behind target (hidden-the_row-Step-0 body.all) ps
    ∙ ap (λ ys. behind_list target ys ps) (items_hidden-the_row-Step-0 body.all) ∙ ap (λ ys. behind_list target ys ps) (sym ex)

pub block_cut : (target : Target) (ps : Pieces) (s : Step) (body : Sequence Step) (xs : List Step) → s ≡ Block body → xs ≡ items_of body → cut_step target s ps ≡ cut_list target xs ps
block_cut target ps s body xs is ex =
    ap (λ x. cut_step target x ps) is ∙ row_listed-cut target (hidden-the_row-Step-0 body.all) ps
    ∙ ap (λ ys. cut_list target ys ps) (items_hidden-the_row-Step-0 body.all) ∙ ap (λ ys. cut_list target ys ps) (sym ex)

pub steps_drop : (ss : List Step) (i : ℕ) (s : Step) → i < length ss → s ≡ get_or ss i s → drop i ss ≡ s ∷ drop (i + 1) ss
steps_drop ss i s h is = drop_more ss i s h ∙ ap (λ x. x ∷ drop (i + 1) ss) (sym is)

parts_joined : (xs ys : List Part) → parts_of (xs ++ ys) ≡ joined (parts_of xs) (parts_of ys)
parts_joined [] ys = refl
parts_joined (x ∷ xs) ys = ap (part_before x) (parts_joined xs ys) ∙ before_joined x (parts_of xs) (parts_of ys) where
  before_joined : (p : Part) (a b : Outline) → part_before p (joined a b) ≡ joined (part_before p a) b
  before_joined (Plain code names) a b = refl
  before_joined (Calling code names arguments count callee landing) a b = refl
  before_joined (Choice' code names condition skips p taken q other) a b = refl
  before_joined (Turning' code names first turns head before p body behind) a b = refl

-- one more part
part_put : (xs ys : List Part) (p : Part) (o : Outline) → ys ≡ xs ++ p ∷ [] → part_before p ended ≡ o → parts_of ys ≡ joined (parts_of xs) o
part_put xs ys p o is one = ap parts_of is ∙ parts_joined xs (p ∷ []) ∙ ap (joined (parts_of xs)) one

row_listed : {l : _} (row : Row_of-Part l) (rest : Outline) → row_before row rest ≡ parts_before (items-the_row-Part l row) rest
row_listed end_of-Part rest = refl
row_listed (more_of-Part first others) rest = ap (part_before first) (row_listed others rest)

sequence_listed : (s : Sequence Part) → row_before (hidden-the_row-Part-0 s.all) ended ≡ parts_of (items_of s)
sequence_listed s = row_listed (hidden-the_row-Part-0 s.all) ended ∙ ap parts_of (items_hidden-the_row-Part-0 s.all)

pub choice_put : (xs ys : List Part) (code : Bor (List Piece)) (names : Sequence ℕ) (condition : Bor (List Piece)) (skips : ℕ) (taken other : Sequence Part) →
    ys ≡ xs ++ Choice code names condition skips taken other ∷ [] →
    parts_of ys ≡ joined (parts_of xs) (choice (pieces_of code.now) (items_of names) (pieces_of condition.now) skips (parts_of (items_of taken)) (parts_of (items_of other)) ended)
choice_put xs ys code names condition skips taken other is =
    part_put xs ys (Choice code names condition skips taken other) _ is
    (ap (λ p. choice (pieces_of code.now) (items_of names) (pieces_of condition.now) skips p (row_before (hidden-the_row-Part-0 other.all) ended) ended) (sequence_listed taken)
    ∙ ap (λ q. choice (pieces_of code.now) (items_of names) (pieces_of condition.now) skips (parts_of (items_of taken)) q ended) (sequence_listed other))

pub turning_put : (xs ys : List Part) (code : Bor (List Piece)) (names : Sequence ℕ) (first : Bor (List Piece)) (turns : ℕ)
    (head before : Bor (List Piece)) (body : Sequence Part) (behind : Bor (List Piece)) →
    ys ≡ xs ++ Turning code names first turns head before body behind ∷ [] →
    parts_of ys ≡ joined (parts_of xs)
    (turning (pieces_of code.now) (items_of names) (pieces_of first.now) turns (pieces_of head.now) (pieces_of before.now)
    (parts_of (items_of body)) (pieces_of behind.now) ended)
turning_put xs ys code names first turns head before body behind is =
    part_put xs ys (Turning code names first turns head before body behind) _ is
    (ap (λ p. turning (pieces_of code.now) (items_of names) (pieces_of first.now) turns (pieces_of head.now) (pieces_of before.now) p (pieces_of behind.now) ended) (sequence_listed body))

pub plain_put : (xs ys : List Part) (code : Bor (List Piece)) (names : Sequence ℕ) → ys ≡ xs ++ plain_part code names ∷ [] →
    parts_of ys ≡ joined (parts_of xs) (plain (pieces_of code.now) (items_of names) ended)
plain_put xs ys code names is = part_put xs ys (plain_part code names) _ is refl

pub calling_put : (xs ys : List Part) (code : Bor (List Piece)) (names : Sequence ℕ) (arguments : Bor (List Piece)) (count callee : ℕ) (landing : Bor (List Piece)) →
    ys ≡ xs ++ calling_part code names arguments count callee landing ∷ [] →
    parts_of ys ≡ joined (parts_of xs) (calling (pieces_of code.now) (items_of names) (pieces_of arguments.now) count callee (pieces_of landing.now) ended)
calling_put xs ys code names arguments count callee landing is = part_put xs ys (calling_part code names arguments count callee landing) _ is refl

-- ---- outlines one behind another

pub joined_none : (o : Outline) → joined o ended ≡ o
joined_none ended = refl
joined_none (plain code names rest) = ap (plain code names) (joined_none rest)
joined_none (calling code names arguments count callee landing rest) = ap (calling code names arguments count callee landing) (joined_none rest)
joined_none (choice code names condition skips taken other rest) = ap (choice code names condition skips taken other) (joined_none rest)
joined_none (turning code names first turns head before body behind rest) = ap (turning code names first turns head before body behind) (joined_none rest)

pub joined_append : (a b c : Outline) → joined (joined a b) c ≡ joined a (joined b c)
joined_append ended b c = refl
joined_append (plain code names rest) b c = ap (plain code names) (joined_append rest b c)
joined_append (calling code names arguments count callee landing rest) b c = ap (calling code names arguments count callee landing) (joined_append rest b c)
joined_append (choice code names condition skips taken other rest) b c = ap (choice code names condition skips taken other) (joined_append rest b c)
joined_append (turning code names first turns head before body behind rest) b c = ap (turning code names first turns head before body behind) (joined_append rest b c)

-- a turn of the loop over steps, and its end
pub cut_put : (target : Target) (ss : List Step) (i : ℕ) (s : Step) (rest there : Pieces) (a b all : Outline) → i < length ss → s ≡ get_or ss i s →
    b ≡ joined a (cut_step target s rest) → there ≡ behind_step target s rest → joined a (cut_list target (drop i ss) rest) ≡ all → joined b (cut_list target (drop (i + 1) ss) there) ≡ all
cut_put target ss i s rest there a b all h is put behind before =
    ap (λ x. joined x (cut_list target (drop (i + 1) ss) there)) put
    ∙ ap (λ ps. joined (joined a (cut_step target s rest)) (cut_list target (drop (i + 1) ss) ps)) behind
    ∙ joined_append a (cut_step target s rest) (cut_list target (drop (i + 1) ss) (behind_step target s rest))
    ∙ ap (λ xs. joined a (cut_list target xs rest)) (sym (steps_drop ss i s h is))
    ∙ before

pub cut_end : (target : Target) (ss : List Step) (i : ℕ) (rest : Pieces) (a all : Outline) → length ss ≤ i → joined a (cut_list target (drop i ss) rest) ≡ all → a ≡ all
cut_end target ss i rest a all h before = sym (joined_none a) ∙ ap (λ xs. joined a (cut_list target xs rest)) (sym (drop_all i ss h)) ∙ before
