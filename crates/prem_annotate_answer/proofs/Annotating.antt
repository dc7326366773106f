-- Annotated programs differ by the lengths that are put in these alone.
use Rattle.std.specs.Option.{option_map}
use Rattle.std.proofs.Common.{◌≡◌, ℕ, ◌+◌, List, [], ◌∷◌, map, refl, ap, sym, ◌∙◌, Option, None, Some}
use Rattle.prem_syntax.specs.Syntax.{RegionText, MarkText, GlobalVariable, FunctionText, ProgramText, global_item, function_item}
use Rattle.prem_syntax.specs.Resolved.{Routine}
use Rattle.prem_ranges.specs.RangesKept.{resolved}
use Rattle.prem_annotating.specs.Reached.{regions_reached}
use Rattle.prem_annotating.specs.Annotated.{annotated_mark, marked_routines, with_texts, texts_of, all_ranged, annotated}
use Rattle.prem_annotate_answer.specs.Lengths.{unstated_mark, unstated_text, unstated, all_annotated, AnnotatedBoundsStay}
use Rattle.prem_annotate_answer.proofs.Stated.{lengths_unstated}

-- items with the functions' texts unstated
abbrev bare_items : ProgramText → ProgramText
bare_items [] = []
bare_items (global_item g ∷ items) = global_item g ∷ bare_items items
bare_items (function_item f ∷ items) = function_item (unstated_text f) ∷ bare_items items

unstated_is : (p : ProgramText) → unstated p ≡ bare_items p
unstated_is [] = refl
unstated_is (global_item g ∷ items) = ap (λ l. global_item g ∷ l) (unstated_is items)
unstated_is (function_item f ∷ items) = ap (λ l. function_item (unstated_text f) ∷ l) (unstated_is items)

bare_with : (ts : List FunctionText) (p : ProgramText) → bare_items (with_texts ts p) ≡ with_texts (map unstated_text ts) (bare_items p)
bare_with ts [] = refl
bare_with ts (global_item g ∷ items) = ap (λ l. global_item g ∷ l) (bare_with ts items)
bare_with [] (function_item f ∷ items) = ap (λ l. function_item (unstated_text f) ∷ l) (bare_with [] items)
bare_with (t ∷ ts) (function_item f ∷ items) = ap (λ l. function_item (unstated_text t) ∷ l) (bare_with ts items)

mark_unstated : (rs : List RegionText) (n k : ℕ) (m : Option MarkText) → option_map unstated_mark (option_map (annotated_mark rs n) m) ≡ option_map unstated_mark (option_map (annotated_mark rs k) m)
mark_unstated rs n k None = refl
mark_unstated rs n k (Some m) = refl

texts_unstated : (before behind : ℕ → ℕ) (gs : List GlobalVariable) (all : List Routine) (n : ℕ) (fs : List Routine) →
    map unstated_text (texts_of (marked_routines before gs all n fs)) ≡ map unstated_text (texts_of (marked_routines behind gs all n fs))
texts_unstated before behind gs all n [] = refl
texts_unstated before behind gs all n (f ∷ fs) =
    λ i. record f.text { mark = mark_unstated (regions_reached f.text.at gs all n) (before n) (behind n) f.text.mark i } ∷ texts_unstated before behind gs all (n + 1) fs i

annotated_unstated : (before behind : ℕ → ℕ) (p : ProgramText) → unstated (annotated before p) ≡ unstated (annotated behind p)
annotated_unstated before behind p =
    let gs = (resolved p).globals in
    let fs = all_ranged p in
    let texts : (ℕ → ℕ) → List FunctionText = λ lengths. texts_of (marked_routines lengths gs fs 0 fs) in
    unstated_is (annotated before p) ∙ bare_with (texts before) p
    ∙ ap (λ (ts : List FunctionText). with_texts ts (bare_items p)) (texts_unstated before behind gs fs 0 fs)
    ∙ sym (unstated_is (annotated behind p) ∙ bare_with (texts behind) p)

pub all_unstated : (before behind : ℕ → ℕ → ℕ) (k : ℕ) (ps : List ProgramText) → map unstated (all_annotated before k ps) ≡ map unstated (all_annotated behind k ps)
all_unstated before behind k [] = refl
all_unstated before behind k (p ∷ ps) = λ i. annotated_unstated (before k) (behind k) p i ∷ all_unstated before behind (k + 1) ps i

pub annotated_bounds_stay : AnnotatedBoundsStay
annotated_bounds_stay p devices tasks ps before behind =
    lengths_unstated p devices tasks (all_annotated before 0 ps) (all_annotated behind 0 ps) (all_unstated before behind 0 ps)
