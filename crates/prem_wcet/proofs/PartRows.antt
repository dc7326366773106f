-- Statements in memory as the code goes through them: how many they are, by which recursions end, and what they put behind others.
use Rattle.std.proofs.Common.{◌≡◌, ℕ, zero, suc, ◌+◌, ◌<◌, ◌≤◌, ◌||◌, List, [], ◌∷◌, ◌++◌, refl, ap, ◌∙◌, sym, arith, length, drop, get_or, append_assoc, append-nil}
use Rattle.std.proofs.lemmas.List.{drop_more}
use Rattle.std.proofs.lemmas.List.Folds.{list_any-append}
use Rattle.std.specs.List.{list_any}
use Rattle.prem_list.specs.declared.Sequence.{Sequence}
use Rattle.prem_list.specs.Sequence.{items_of}
use Rattle.prem_plant.specs.Places.{Extent}
use Rattle.prem_asm.specs.Pieces.{followed}
use Rattle.prem_asm.specs.PiecesOf.{pieces_of}
use Rattle.prem_wcet_laws.specs.Scopes.{Scene}
use Rattle.prem_wcet_laws.specs.Parted.{cuts}
use Rattle.prem_wcet.specs.declared.outline.Part.{Part, Choice, Choice', Turning, Turning', Row_of-Part, end_of-Part, more_of-Part, items-the_row-Part, items_hidden-the_row-Part-0}
use Rattle.prem_wcet.specs.declared.outline.Part.TheBlock.{hidden-the_row-Part-0}
use Rattle.prem_wcet.specs.declared.outline.Part.TheVariants.{Plain, Calling}
use Rattle.prem_wcet.specs.Outlines.{Outline, ended, plain, calling, choice, turning, callees_of, cut_in, code_of}
use Rattle.prem_wcet.specs.Once.{with_code, with_touched}
use Rattle.prem_wcet.specs.PartsOf.{part_before, row_before, parts_before, parts_of, part_of, part_code}

abbrev pub count : Outline → ℕ
count ended = 0
count (plain code names rest) = 1 + count rest
count (calling code names arguments n callee landing rest) = 1 + count rest
count (choice code names condition skips taken other rest) = 1 + (count taken + count other) + count rest
count (turning code names first turns head before body behind rest) = 1 + count body + count rest

-- ---- rows as lists

row_listed : {m : _} (row : Row_of-Part m) (rest : Outline) → row_before row rest ≡ parts_before (items-the_row-Part m row) rest
row_listed end_of-Part rest = refl
row_listed (more_of-Part first others) rest = ap (part_before first) (row_listed others rest)

sequence_listed : (s : Sequence Part) → row_before (hidden-the_row-Part-0 s.all) ended ≡ parts_of (items_of s)
sequence_listed s = row_listed (hidden-the_row-Part-0 s.all) ended ∙ ap parts_of (items_hidden-the_row-Part-0 s.all)

-- ---- a part before others

pub count_before : (p : Part) (rest : Outline) → count (part_before p rest) ≡ count (part_of p) + count rest
count_before (Plain code names) rest = omega arith
count_before (Calling code names arguments n callee landing) rest = omega arith
count_before (Choice' code names condition skips p taken q other) rest = omega arith
count_before (Turning' code names first turns head before p body behind) rest = omega arith

pub code_before : (e : Scene) (rs : List Extent) (p : Part) (rest : Outline) → with_code e rs (part_before p rest) ≡ with_code e (with_code e rs (part_of p)) rest
code_before e rs (Plain code names) rest = refl
code_before e rs (Calling code names arguments n callee landing) rest = refl
code_before e rs (Choice' code names condition skips p taken q other) rest = refl
code_before e rs (Turning' code names first turns head before p body behind) rest = refl

pub touched_before : (e : Scene) (rs : List Extent) (p : Part) (rest : Outline) → with_touched e rs (part_before p rest) ≡ with_touched e (with_touched e rs (part_of p)) rest
touched_before e rs (Plain code names) rest = refl
touched_before e rs (Calling code names arguments n callee landing) rest = refl
touched_before e rs (Choice' code names condition skips p taken q other) rest = refl
touched_before e rs (Turning' code names first turns head before p body behind) rest = refl

callees_before : (p : Part) (rest : Outline) → callees_of (part_before p rest) ≡ callees_of (part_of p) ++ callees_of rest
callees_before (Plain code names) rest = refl
callees_before (Calling code names arguments n callee landing) rest = refl
callees_before (Choice' code names condition skips p taken q other) rest =
    append_three (callees_of (row_before taken ended)) (callees_of (row_before other ended)) (callees_of rest) where
      append_three : (xs ys zs : List ℕ) → xs ++ (ys ++ zs) ≡ (xs ++ (ys ++ [])) ++ zs
      append_three xs ys zs = sym (ap (λ us. (xs ++ us) ++ zs) (append-nil ys) ∙ append_assoc xs ys zs)
callees_before (Turning' code names first turns head before p body behind) rest =
    append_two (callees_of (row_before body ended)) (callees_of rest) where
      append_two : (xs zs : List ℕ) → xs ++ zs ≡ (xs ++ []) ++ zs
      append_two xs zs = ap (λ ys. ys ++ zs) (sym (append-nil xs))

pub cut_before : (e : Scene) (p : Part) (rest : Outline) → cut_in e (part_before p rest) ≡ (cut_in e (part_of p) || cut_in e rest)
cut_before e p rest = ap (list_any (cuts e)) (callees_before p rest) ∙ list_any-append (cuts e) (callees_of (part_of p)) (callees_of rest)

-- ---- what a match finds

pub is_choice : (p : Part) (code : _) (names : Sequence ℕ) (condition : _) (skips : ℕ) (taken other : Sequence Part) (xs ys : List Part) →
    p ≡ Choice code names condition skips taken other → xs ≡ items_of taken → ys ≡ items_of other →
    part_of p ≡ choice (pieces_of code.now) (items_of names) (pieces_of condition.now) skips (parts_of xs) (parts_of ys) ended
is_choice p code names condition skips taken other xs ys is ex ey =
    ap part_of is
    ∙ (λ i. choice (pieces_of code.now) (items_of names) (pieces_of condition.now) skips ((sequence_listed taken ∙ ap parts_of (sym ex)) i) ((sequence_listed other ∙ ap parts_of (sym ey)) i) ended)

-- ---- the part at a place, and those behind it

pub drop_part : (ps : List Part) (i : ℕ) (p : Part) → i < length ps → p ≡ get_or ps i p → parts_of (drop i ps) ≡ part_before p (parts_of (drop (i + 1) ps))
drop_part ps i p h is = ap parts_of (drop_more ps i p h) ∙ ap (λ q. part_before q (parts_of (drop (i + 1) ps))) (sym is)

pub count_item : (ps : List Part) (i : ℕ) (p : Part) → i < length ps → p ≡ get_or ps i p → count (part_of p) ≤ count (parts_of ps)
count_item [] i p h is = absurd (omega arith)
count_item (x ∷ xs) zero p h is = let e = ap (λ q. count (part_of q)) is in omega (arith, e, count_before x (parts_of xs))
count_item (x ∷ xs) (suc i) p h is = omega (arith, count_item xs i p (omega arith) is, count_before x (parts_of xs))

pub is_turning : (p : Part) (code : _) (names : Sequence ℕ) (first : _) (turns : ℕ) (head before : _) (body : Sequence Part) (behind : _) (xs : List Part) →
    p ≡ Turning code names first turns head before body behind → xs ≡ items_of body →
    part_of p ≡ turning (pieces_of code.now) (items_of names) (pieces_of first.now) turns (pieces_of head.now) (pieces_of before.now) (parts_of xs) (pieces_of behind.now) ended
is_turning p code names first turns head before body behind xs is ex =
    ap part_of is
    ∙ (λ i. turning (pieces_of code.now) (items_of names) (pieces_of first.now) turns (pieces_of head.now) (pieces_of before.now)
    ((sequence_listed body ∙ ap parts_of (sym ex)) i) (pieces_of behind.now) ended)

-- ---- marked calls within

pub choice_cut : (e : Scene) (taken other : Outline) → list_any (cuts e) (callees_of taken ++ (callees_of other ++ [])) ≡ (cut_in e taken || cut_in e other)
choice_cut e taken other = ap (λ fs. list_any (cuts e) (callees_of taken ++ fs)) (append-nil (callees_of other)) ∙ list_any-append (cuts e) (callees_of taken) (callees_of other)

pub turn_cut : (e : Scene) (body : Outline) → list_any (cuts e) (callees_of body ++ []) ≡ cut_in e body
turn_cut e body = ap (list_any (cuts e)) (append-nil (callees_of body))

-- ---- code

code_of_before : (p : Part) (rest : Outline) → code_of (part_before p rest) ≡ followed (part_code p) (code_of rest)
code_of_before (Plain code names) rest = refl
code_of_before (Calling code names arguments n callee landing) rest = refl
code_of_before (Choice' code names condition skips p taken q other) rest = refl
code_of_before (Turning' code names first turns head before p body behind) rest = refl

pub code_drop : (ps : List Part) (i : ℕ) (p : Part) → i < length ps → p ≡ get_or ps i p → code_of (parts_of (drop i ps)) ≡ followed (part_code p) (code_of (parts_of (drop (i + 1) ps)))
code_drop ps i p h is = ap code_of (drop_part ps i p h is) ∙ code_of_before p (parts_of (drop (i + 1) ps))
