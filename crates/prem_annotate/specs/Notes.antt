-- The annotations of functions: the RANGEs of parameters, and the marks of those that are marked.
use Rattle.std.specs.Prelude.{◌≡◌, ℕ, ◌+◌, ℤ, max, slice_index_or, List, [], ◌∷◌, map, Option}
use Rattle.prem_annotate.specs.Prelude.{marked_routines, texts_of, all_annotated, ranged_routines, Resolved, MarkText, GlobalVariable, FunctionText, ProgramText, Place, option_map}
use Rattle.prem_annotate.specs.Ranges.Outlook.{Outlook, ranges_of}
use Rattle.prem_annotate.specs.Regions.Found.{regions_found}
use Rattle.prem_annotate.specs.declared.notes.FunctionNotes.{FunctionNotes}
use Rattle.prem_syntax.specs.SyntaxOf.{mark_of}

pub record Notes : Type 0 where
  pub ranges : List (Option (ℤ × ℤ))
  pub mark : Option MarkText

abbrev pub notes_of : FunctionNotes → Notes
notes_of n = record { ranges = n.ranges.items; mark = option_map mark_of n.mark }

-- no length is asked for
abbrev pub no_lengths : ℕ → ℕ
no_lengths n = 0

-- ---- of functions that have their annotations

abbrev pub notes : FunctionText → Notes
notes f = record { ranges = ranges_of f.params; mark = f.mark }

-- those of all functions of a program whose names are resolved, with the lengths that are stated
abbrev pub resolved_notes : Resolved → List Notes
resolved_notes r = map notes (texts_of (marked_routines no_lengths r.globals (ranged_routines 0 r.routines) 0 (ranged_routines 0 r.routines)))

-- those that a program needs, with lengths that are at least the given ones
abbrev pub program_notes : (ℕ → ℕ) → ProgramText → List Notes
program_notes lengths p = map notes (texts_of (all_annotated lengths p))

-- ---- by what is found of all functions

abbrev pub mark_found : Place → List GlobalVariable → List (List ℕ) → List Outlook → ℕ → MarkText → MarkText
mark_found at gs table os n m = record { stated = m.stated; regions = regions_found at gs table os n }

abbrev pub notes_found : List GlobalVariable → List (List ℕ) → List Outlook → ℕ → FunctionText → Outlook → Notes
notes_found gs table os n f o = record { ranges = o.ranges; mark = option_map (mark_found f.at gs table os n) f.mark }

-- of the functions from number n on
abbrev pub all_notes_found : List GlobalVariable → List (List ℕ) → List Outlook → ℕ → List FunctionText → List Outlook → List Notes
all_notes_found gs table os n [] rest = []
all_notes_found gs table os n (f ∷ fs) [] = []
all_notes_found gs table os n (f ∷ fs) (o ∷ rest) = notes_found gs table os n f o ∷ all_notes_found gs table os (n + 1) fs rest

-- ---- with lengths

abbrev pub lengthened_mark : ℕ → MarkText → MarkText
lengthened_mark length m = record m { stated = max m.stated length }

abbrev pub lengthened_notes : ℕ → Notes → Notes
lengthened_notes length x = record x { mark = option_map (lengthened_mark length) x.mark }

-- of the functions from number n on
abbrev pub lengthened : (ℕ → ℕ) → ℕ → List Notes → List Notes
lengthened lengths n [] = []
lengthened lengths n (x ∷ xs) = lengthened_notes (lengths n) x ∷ lengthened lengths (n + 1) xs

-- a list of lengths by the numbers of functions
abbrev pub length_at : List ℕ → ℕ → ℕ
length_at lengths n = slice_index_or lengths n 0

-- the annotations that a program needs, with greater lengths, are those that it needs with these lengths
abbrev pub LengthsArePut : Type 0
LengthsArePut = (lengths : ℕ → ℕ) (p : ProgramText) → lengthened lengths 0 (program_notes no_lengths p) ≡ program_notes lengths p
