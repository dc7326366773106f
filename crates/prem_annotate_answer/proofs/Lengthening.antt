-- Lengths that are put function by function, and program by program.
use Rattle.std.proofs.Common.{◌≡◌, ℕ, zero, suc, ◌+◌, ◌-◌, ◌<◌, ◌≤◌, List, [], ◌∷◌, ◌++◌, map, refl, ap, sym, ◌∙◌, length, get_or, arith}
use Rattle.std.proofs.lemmas.List.{append_assoc}
use Rattle.prem_syntax.specs.Syntax.{ProgramText}
use Rattle.prem_layout.specs.Facts.{IntervalFact}
use Rattle.prem_place.specs.Verdict.Told.{bounds_of, numbered}
use Rattle.prem_place.specs.declared.verdict.told.TaskBounds.{TaskBounds}
use Rattle.prem_annotate.specs.Notes.{Notes, no_lengths, program_notes, lengthened_notes, lengthened, length_at}
use Rattle.prem_annotate.proofs.Lengthened.{lengths_are_put}
use Rattle.prem_annotate_answer.specs.Written.{facts_told, length_in}
use Rattle.prem_annotate_answer.specs.Steps.{programs_notes, all_lengthened, lengths_from}

length_there : (facts : List (ℕ × IntervalFact)) (m count n : ℕ) → n < count → length_at (lengths_from facts m count) n ≡ length_in facts (m + n)
length_there facts m zero n lt = absurd (omega (arith, lt))
length_there facts m (suc count) zero lt = let same : m ≡ m + 0 = omega arith in ap (λ (k : ℕ). length_in facts k) same
length_there facts m (suc count) (suc n) lt =
    let same : m + 1 + n ≡ m + suc n = omega arith in
    length_there facts (m + 1) count n (omega (arith, lt)) ∙ ap (λ (k : ℕ). length_in facts k) same

put_alike : (f g : ℕ → ℕ) (n : ℕ) (xs : List Notes) → ((k : ℕ) → k < length xs → f (n + k) ≡ g (n + k)) → lengthened f n xs ≡ lengthened g n xs
put_alike f g n [] same = refl
put_alike f g n (x ∷ xs) same =
    let here : n ≡ n + 0 = omega arith in
    let first : f n ≡ g n = ap f here ∙ same 0 (omega arith) ∙ ap g (sym here) in
    let rest : (k : ℕ) → k < length xs → f (n + 1 + k) ≡ g (n + 1 + k) = λ k lt. let there : n + 1 + k ≡ n + suc k = omega arith in ap f there ∙ same (suc k) (omega (arith, lt)) ∙ ap g (sym there) in
    ap (λ (l : ℕ). lengthened_notes l x ∷ lengthened f (n + 1) xs) first ∙ ap (λ (ys : List Notes). lengthened_notes (g n) x ∷ ys) (put_alike f g (n + 1) xs rest)

-- a list of as many lengths as there are functions
pub listed_lengths : (facts : List (ℕ × IntervalFact)) (lengths : List ℕ) (count : ℕ) (xs new : List Notes) → lengths ≡ lengths_from facts 0 count →
    count ≡ length xs → new ≡ lengthened (length_at lengths) 0 xs → new ≡ lengthened (length_in facts) 0 xs
listed_lengths facts lengths count xs new are size is =
    is ∙ ap (λ (ls : List ℕ). lengthened (length_at ls) 0 xs) are
    ∙ put_alike (length_at (lengths_from facts 0 count)) (length_in facts) 0 xs
    (λ k lt. let same : 0 + (0 + k) ≡ 0 + k = omega arith in length_there facts 0 count (0 + k) (omega (arith, size, lt))
    ∙ ap (λ (j : ℕ). length_in facts j) same)

-- ---- program by program

pub same_notes : (k : ℕ) (ps : List ProgramText) → programs_notes (λ k. no_lengths) k ps ≡ map (program_notes no_lengths) ps
same_notes k [] = refl
same_notes k (p ∷ ps) = ap (λ (rest : List (List Notes)). program_notes no_lengths p ∷ rest) (same_notes (k + 1) ps)

pub lengths_are_in : (lengths : ℕ → ℕ → ℕ) (k : ℕ) (ps : List ProgramText) → all_lengthened lengths k (map (program_notes no_lengths) ps) ≡ programs_notes lengths k ps
lengths_are_in lengths k [] = refl
lengths_are_in lengths k (p ∷ ps) =
    ap (λ (ns : List Notes). ns ∷ all_lengthened lengths (k + 1) (map (program_notes no_lengths) ps)) (lengths_are_put (lengths k) p)
    ∙ ap (λ (rest : List (List Notes)). program_notes (lengths k) p ∷ rest) (lengths_are_in lengths (k + 1) ps)

pub all_count : (lengths : ℕ → ℕ → ℕ) (k : ℕ) (xs : List (List Notes)) → length (all_lengthened lengths k xs) ≡ length xs
all_count lengths k [] = refl
all_count lengths k (ns ∷ xs) = ap suc (all_count lengths (k + 1) xs)

-- ---- step by step

pub one_more : (facts : List (ℕ × IntervalFact)) (old new : List ℕ) (n count length : ℕ) (whole : List ℕ) → n < count →
    old ++ lengths_from facts n (count - n) ≡ whole → new ≡ old ++ length ∷ [] → length ≡ length_in facts n →
    new ++ lengths_from facts (n + 1) (count - (n + 1)) ≡ whole
one_more facts old new n count length whole lt so_far is of =
    let rest = lengths_from facts (n + 1) (count - (n + 1)) in
    let more : count - n ≡ suc (count - (n + 1)) = omega (arith, lt) in
    let joined : (old ++ length ∷ []) ++ rest ≡ old ++ length ∷ rest = append_assoc old (length ∷ []) rest in
    ap (λ (xs : List ℕ). xs ++ rest) is ∙ joined ∙ ap (λ (x : ℕ). old ++ x ∷ rest) of ∙ ap (λ (m : ℕ). old ++ lengths_from facts n m) (sym more) ∙ so_far

-- what is told of the task with a number
pub facts_there : (bounds : List TaskBounds) (n : ℕ) (b : TaskBounds) → n < length bounds → b ≡ get_or bounds n b → map numbered b.facts.items ≡ facts_told (map bounds_of bounds) n
facts_there [] n b lt is = absurd (omega (arith, lt))
facts_there (x ∷ bounds) zero b lt is = ap (λ (t : TaskBounds). map numbered t.facts.items) is
facts_there (x ∷ bounds) (suc n) b lt is = facts_there bounds n b (omega (arith, lt)) is

pub facts_past : (bounds : List TaskBounds) (n : ℕ) → length bounds ≤ n → [] ≡ facts_told (map bounds_of bounds) n
facts_past [] n past = refl
facts_past (x ∷ bounds) zero past = absurd (omega (arith, past))
facts_past (x ∷ bounds) (suc n) past = facts_past bounds n (omega (arith, past))
