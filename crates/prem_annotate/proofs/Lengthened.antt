-- Annotations with greater lengths are those of the program with these lengths.
use Rattle.std.proofs.Common.{◌≡◌, ℕ, ◌+◌, List, [], ◌∷◌, map, refl, arith, Option, None, Some}
use Rattle.prem_annotate.proofs.Prelude.{notes, no_lengths, lengthened_mark, lengthened, LengthsArePut, ranges_of, annotated_mark, marked_routines, texts_of, regions_reached, resolved}
use Rattle.prem_annotate.proofs.Prelude.{Routine, RegionText, MarkText, GlobalVariable, option_map, max}
use Rattle.prem_annotating.specs.Annotated.{all_ranged}

greater_twice : (a b : ℕ) → max (max a 0) b ≡ max a b
greater_twice a b = grind arith

mark_lengthened : (rs : List RegionText) (length : ℕ) (m : Option MarkText) → option_map (lengthened_mark length) (option_map (annotated_mark rs 0) m) ≡ option_map (annotated_mark rs length) m
mark_lengthened rs length None = refl
mark_lengthened rs length (Some m) = λ i. Some (record { stated = greater_twice m.stated length i; regions = rs })

marks_lengthened : (lengths : ℕ → ℕ) (gs : List GlobalVariable) (all : List Routine) (n : ℕ) (fs : List Routine) →
    lengthened lengths n (map notes (texts_of (marked_routines no_lengths gs all n fs))) ≡ map notes (texts_of (marked_routines lengths gs all n fs))
marks_lengthened lengths gs all n [] = refl
marks_lengthened lengths gs all n (f ∷ fs) =
    λ i. record { ranges = ranges_of f.text.params; mark = mark_lengthened (regions_reached f.text.at gs all n) (lengths n) f.text.mark i } ∷ marks_lengthened lengths gs all (n + 1) fs i

pub lengths_are_put : LengthsArePut
lengths_are_put lengths p = marks_lengthened lengths (resolved p).globals (all_ranged p) 0 (all_ranged p)
