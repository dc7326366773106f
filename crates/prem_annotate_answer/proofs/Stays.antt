-- A set that is annotated once more stays as it is.
use Rattle.std.specs.Prelude.{max}
use Rattle.std.specs.Option.{option_map}
use Rattle.std.proofs.Common.{◌≡◌, ℕ, ◌+◌, ◌≤◌, List, [], ◌∷◌, length, map, refl, ap, sym, ◌∙◌, Option, None, Some, Result, Ok, arith}
use Rattle.std.proofs.lemmas.List.{length-map}
use Rattle.prem_syntax.specs.Syntax.{Parameter, RegionText, MarkText, GlobalVariable, FunctionText, global_item, function_item, ProgramText}
use Rattle.prem_syntax.specs.Resolved.{Routine, Resolved}
use Rattle.prem_syntax.specs.Resolve.{functions_of}
use Rattle.prem_syntax.specs.Source.{unlimited}
use Rattle.prem_ranges.specs.RangeRules.{RangeBreach, first_of}
use Rattle.prem_ranges.specs.RangeBreaches.{range_breaches}
use Rattle.prem_ranges.specs.RangesKept.{resolved, first_range_breach as in_range}
use Rattle.prem_ranges.proofs.Basics.{none_first}
use Rattle.prem_text.specs.declared.lexing.token.fail.FrontFail.{FrontFail}
use Rattle.prem_text.specs.Texts.{reads}
use Rattle.prem_text.specs.Canonical.Unplaced.{unplaced_mark, unplaced_parameter, unplaced_function, unplaced}
use Rattle.prem_text.proofs.Whole.{text_sound}
use Rattle.prem_annotating.specs.Seen.{KnownCall, calls_of_all}
use Rattle.prem_annotating.specs.Inferred.{ranged_parameter, ranged_parameters, with_parameters, ranged_routine, ranged_routines}
use Rattle.prem_annotating.specs.Reached.{regions_reached}
use Rattle.prem_annotating.specs.Annotated.{annotated_mark, with_mark, marked_routine, marked_routines, with_texts, texts_of, with_routines, all_ranged, all_annotated, ranged}
use Rattle.prem_annotating.specs.Annotated.{annotated, but_regions, other_breaches, first_other}
use Rattle.prem_annotating.specs.Editing.Orders.{annotations, unplaced_wanted}
use Rattle.prem_annotating.proofs.Kept.{length-kept}
use Rattle.prem_annotating.proofs.Transformed.{all_annotated_kept, resolved_annotated, annotated_twice}
use Rattle.prem_annotating.proofs.Annotates.{texts_resolved}
use Rattle.prem_annotating.proofs.EditingLemmas.Unchanged.{stays_where_same}
use Rattle.prem_layout.specs.Rules.{LateRule, Refusal, or_else, refused_by, first_among, over_tasks, memory_rules, reach_rules, conflict_rules, bound_rules, length_rules, log_rules}
use Rattle.prem_tasks.specs.Told.{Told, of_ranges}
use Rattle.prem_tasks.specs.Broken.{TaskText, TaskSet, text_rules, program_rules, range_told, range_rules, program_before, programs_of, late_refusal, broken}
use Rattle.prem_tasks.specs.Compiled.{coded_in, places_in}
use Rattle.prem_tasks.specs.At.{code_broken, placed_by}
use Rattle.prem_compile.specs.Bounding.{unbounded, bounds_told}
use Rattle.prem_annotate.specs.Notes.{notes, no_lengths, program_notes}
use Rattle.prem_annotate.specs.Writing.Text.{wanted, annotated_text}
use Rattle.prem_annotate_answer.specs.Written.{written_by, with_text, written_task, written_tasks, with_tasks, unlengthened, length_told, lengths_of, written, other_ranges}
use Rattle.prem_annotate_answer.specs.Kept.{IsAnnotatedTask, AreAnnotatedTasks, IsAnnotatedSet, AnnotatedSetsStay}
use Rattle.prem_annotate_answer.proofs.UnplacedNames.{functions_same}
use Rattle.prem_annotate_answer.proofs.UnplacedSeen.{annotated_unplaced}
use Rattle.prem_annotate_answer.proofs.Annotated.{first_none, then_none}
use Rattle.prem_annotate_answer.proofs.Kept.{told_none, mapped_none, sets_are_annotated}

-- ---- annotations, places aside

ranges_bare : (ps : List Parameter) → map (λ (q : Parameter). q.range) (map unplaced_parameter ps) ≡ map (λ (q : Parameter). q.range) ps
ranges_bare [] = refl
ranges_bare (p ∷ ps) = ap (λ rs. p.range ∷ rs) (ranges_bare ps)

annotations_bare : (fs : List FunctionText) → map annotations (map unplaced_function fs) ≡ map unplaced_wanted (map annotations fs)
annotations_bare [] = refl
annotations_bare (f ∷ fs) = λ i. (option_map unplaced_mark f.mark, ranges_bare f.params i) ∷ annotations_bare fs i

same_annotations : (p q : ProgramText) → unplaced p ≡ unplaced q → map unplaced_wanted (map annotations (functions_of p)) ≡ map unplaced_wanted (map annotations (functions_of q))
same_annotations p q same =
    sym (annotations_bare (functions_of p)) ∙ ap (map annotations) (sym (functions_same p)) ∙ ap (λ (x : ProgramText). map annotations (functions_of x)) same
    ∙ ap (map annotations) (functions_same q) ∙ annotations_bare (functions_of q)

-- ---- the functions of the annotated program

texts_put : (ts : List FunctionText) (p : ProgramText) → length ts ≡ length (functions_of p) → functions_of (with_texts ts p) ≡ ts
texts_put [] [] e = refl
texts_put (t ∷ ts) [] e = absurd (omega (arith, e))
texts_put ts (global_item g ∷ items) e = texts_put ts items e
texts_put [] (function_item f ∷ items) e = absurd (omega (arith, e))
texts_put (t ∷ ts) (function_item f ∷ items) e = ap (λ xs. t ∷ xs) (texts_put ts items (omega (arith, e)))

annotated_functions : (lengths : ℕ → ℕ) (p : ProgramText) → functions_of (annotated lengths p) ≡ texts_of (all_annotated lengths p)
annotated_functions lengths p =
    let fs = all_annotated lengths p in
    texts_put (texts_of fs) p (length-map fs (λ (f : Routine). f.text) ∙ sym (length-kept (all_annotated_kept lengths p))
    ∙ sym (length-map (resolved p).routines (λ (f : Routine). f.text)) ∙ ap length (texts_resolved (functions_of p) unlimited.turns 0 [] p))

wanted_are : (fs : List FunctionText) → map wanted (map notes fs) ≡ map annotations fs
wanted_are [] = refl
wanted_are (f ∷ fs) = ap (λ l. annotations f ∷ l) (wanted_are fs)

-- a text stays whose program has its annotations, places aside
text_stays : (lengths : ℕ → ℕ) (text : List ℕ) (q : ProgramText) → reads text ≡ Ok q → unplaced (annotated lengths q) ≡ unplaced q → annotated_text (program_notes lengths q) text ≡ text
text_stays lengths text q is same =
    stays_where_same text q (map wanted (program_notes lengths q)) (text_sound text q is)
    (same_annotations q (annotated lengths q) (sym same) ∙ ap (λ fs. map unplaced_wanted (map annotations fs)) (annotated_functions lengths q)
    ∙ ap (map unplaced_wanted) (sym (wanted_are (texts_of (all_annotated lengths q)))))

-- ---- once more, with lengths that aren't greater

same_most : (a b c : ℕ) → c ≤ b → max (max a b) c ≡ max (max a b) b
same_most a b c h = grind (arith, h)

mark_less : (rs qs : List RegionText) (more less : ℕ) (m : Option MarkText) → less ≤ more →
    option_map (annotated_mark rs less) (option_map (annotated_mark qs more) m) ≡ option_map (annotated_mark rs more) (option_map (annotated_mark qs more) m)
mark_less rs qs more less None h = refl
mark_less rs qs more less (Some m) h = λ i. Some (record { stated = same_most m.stated more less h i; regions = rs })

marked_less : (before behind : ℕ → ℕ) → ((n : ℕ) → behind n ≤ before n) → (gs hs : List GlobalVariable) (all some : List Routine) (n k : ℕ) (rest : List Routine) →
    marked_routines behind gs all n (ranged_routines k (marked_routines before hs some n rest)) ≡ marked_routines before gs all n (ranged_routines k (marked_routines before hs some n rest))
marked_less before behind h gs hs all some n k [] = refl
marked_less before behind h gs hs all some n k (f ∷ rest) =
    let later = ranged_routines (k + 1) (marked_routines before hs some (n + 1) rest) in
    let head = ranged_routine (calls_of_all later) k (marked_routine before hs some n f) in
    let mark = mark_less (regions_reached f.text.at gs all n) (regions_reached f.text.at hs some n) (before n) (behind n) f.text.mark (h n) in
    λ i. with_mark (mark i) head ∷ marked_less before behind h gs hs all some (n + 1) (k + 1) rest i

-- an annotated program stays as it is
annotated_less : (before behind : ℕ → ℕ) → ((n : ℕ) → behind n ≤ before n) → (p : ProgramText) → annotated behind (annotated before p) ≡ annotated before p
annotated_less before behind h p =
    let gs = (resolved p).globals in
    let fs = all_ranged p in
    let x = annotated before p in
    let rs = all_annotated before p in
    let at = resolved_annotated before p in
    let same : all_annotated behind x ≡ all_annotated before x =
    ap (λ (q : Resolved). marked_routines behind q.globals (ranged_routines 0 q.routines) 0 (ranged_routines 0 q.routines)) at
    ∙ marked_less before behind h gs gs (ranged_routines 0 rs) fs 0 0 fs
    ∙ sym (ap (λ (q : Resolved). marked_routines before q.globals (ranged_routines 0 q.routines) 0 (ranged_routines 0 q.routines)) at) in
    ap (λ (l : List Routine). with_routines l x) same ∙ annotated_twice before p

-- so does one that is the same, places aside
read_stays : (before behind : ℕ → ℕ) → ((n : ℕ) → behind n ≤ before n) → (p q : ProgramText) → unplaced q ≡ unplaced (annotated before p) → unplaced (annotated behind q) ≡ unplaced q
read_stays before behind h p q same =
    sym (annotated_unplaced behind q) ∙ ap (annotated behind) same ∙ annotated_unplaced behind (annotated before p) ∙ ap unplaced (annotated_less before behind h p) ∙ sym same

-- ---- tasks

task_stays : (before behind : ℕ → ℕ) → ((n : ℕ) → behind n ≤ before n) → (t u : TaskText) → IsAnnotatedTask before t u → written_task annotated_text behind u ≡ u
task_stays before behind h t u is =
    let by_read : written_by annotated_text behind u.text (reads u.text) ≡ annotated_text (program_notes behind is.read) u.text =
    ap (λ (r : Result ProgramText FrontFail). written_by annotated_text behind u.text r) is.is_read in
    ap (λ (text : List ℕ). with_text text u) (by_read ∙ text_stays behind u.text is.read is.is_read (read_stays before behind h is.program is.read is.tree_is))

tasks_stay : (before behind : ℕ → ℕ → ℕ) → ((k n : ℕ) → behind k n ≤ before k n) → (k : ℕ) (ts us : List TaskText) → AreAnnotatedTasks before k ts us → written_tasks annotated_text behind k us ≡ us
tasks_stay before behind h k [] [] are = refl
tasks_stay before behind h k [] (u ∷ us) are = absurd are
tasks_stay before behind h k (t ∷ ts) [] are = refl
tasks_stay before behind h k (t ∷ ts) (u ∷ us) are = λ i. task_stays (before k) (behind k) (h k) t u are.0 i ∷ tasks_stay before behind h (k + 1) ts us are.1 i

-- ---- sets

equal_is_less : (a b : ℕ) → a ≡ b → a ≤ b
equal_is_less a b e = omega (arith, e)

nothing_is_less : (n : ℕ) → 0 ≤ n
nothing_is_less n = omega arith

first_stays : (set new_set : TaskSet) → IsAnnotatedSet set new_set → unlengthened annotated_text new_set ≡ new_set
first_stays set new_set kept =
    let lengths = lengths_of annotated_text set in
    ap (λ (ts : List TaskText). with_tasks ts new_set) (tasks_stay lengths (λ k. no_lengths) (λ k n. nothing_is_less (lengths k n)) 0 set.tasks new_set.tasks kept.tasks)

last_stays : (set new_set : TaskSet) → IsAnnotatedSet set new_set → written annotated_text new_set ≡ new_set
last_stays set new_set kept =
    let lengths = lengths_of annotated_text set in
    let same : (k n : ℕ) → lengths_of annotated_text new_set k n ≡ lengths k n = λ k n. ap (λ (s : TaskSet). length_told (bounds_told s) k n) (first_stays set new_set kept) ∙ sym (kept.bounds k n) in
    ap (λ (ts : List TaskText). with_tasks ts new_set)
    (tasks_stay lengths (lengths_of annotated_text new_set) (λ k n. equal_is_less (lengths_of annotated_text new_set k n) (lengths k n) (same k n)) 0 set.tasks new_set.tasks kept.tasks)

-- ---- ranges of a program that has its annotations

parameters_back : (calls : List KnownCall) (f k : ℕ) (ps : List Parameter) → map unplaced_parameter (ranged_parameters calls f k ps) ≡ map unplaced_parameter ps → ranged_parameters calls f k ps ≡ ps
parameters_back calls f k [] e = refl
parameters_back calls f k (p ∷ ps) e =
    let head : unplaced_parameter (ranged_parameter calls f k p) ≡ unplaced_parameter p = cc in
    let tail : map unplaced_parameter (ranged_parameters calls f (k + 1) ps) ≡ map unplaced_parameter ps = cc in
    let range : (ranged_parameter calls f k p).range ≡ p.range = ap (λ (q : Parameter). q.range) head in
    let rest = parameters_back calls f (k + 1) ps tail in
    λ i. record p { range = range i } ∷ rest i

routines_back : (lengths : ℕ → ℕ) (gs : List GlobalVariable) (all : List Routine) (n : ℕ) (rs : List Routine) →
    map unplaced_function (texts_of (marked_routines lengths gs all n (ranged_routines n rs))) ≡ map unplaced_function (texts_of rs) → ranged_routines n rs ≡ rs
routines_back lengths gs all n [] e = refl
routines_back lengths gs all n (f ∷ rs) e =
    let later = ranged_routines (n + 1) rs in
    let calls = calls_of_all later in
    let head : unplaced_function (marked_routine lengths gs all n (ranged_routine calls n f)).text ≡ unplaced_function f.text = cc in
    let tail : map unplaced_function (texts_of (marked_routines lengths gs all (n + 1) later)) ≡ map unplaced_function (texts_of rs) = cc in
    let params : map unplaced_parameter (ranged_parameters calls n 0 f.text.params) ≡ map unplaced_parameter f.text.params = ap (λ (t : FunctionText). t.params) head in
    let same = parameters_back calls n 0 f.text.params params in
    let rest = routines_back lengths gs all (n + 1) rs tail in
    λ i. with_parameters (same i) f ∷ rest i

texts_themselves : (p : ProgramText) → with_texts (functions_of p) p ≡ p
texts_themselves [] = refl
texts_themselves (global_item g ∷ items) = ap (λ l. global_item g ∷ l) (texts_themselves items)
texts_themselves (function_item f ∷ items) = ap (λ l. function_item f ∷ l) (texts_themselves items)

ranged_back : (lengths : ℕ → ℕ) (q : ProgramText) → unplaced (annotated lengths q) ≡ unplaced q → ranged q ≡ q
ranged_back lengths q same =
    let rs = (resolved q).routines in
    let texts : texts_of rs ≡ functions_of q = texts_resolved (functions_of q) unlimited.turns 0 [] q in
    let alike : map unplaced_function (texts_of (all_annotated lengths q)) ≡ map unplaced_function (texts_of rs) =
    ap (map unplaced_function) (sym (annotated_functions lengths q)) ∙ sym (functions_same (annotated lengths q)) ∙ ap functions_of same ∙ functions_same q ∙ ap (map unplaced_function) (sym texts) in
    let back : all_ranged q ≡ rs = routines_back lengths (resolved q).globals (all_ranged q) 0 rs alike in
    ap (λ (l : List Routine). with_routines l q) back ∙ ap (λ (ts : List FunctionText). with_texts ts q) texts ∙ texts_themselves q

none_other : (q : ProgramText) → ranged q ≡ q → range_rules q ≡ None → other_ranges q ≡ None
unfolding first_other in_range
none_other q same none =
    let broken : in_range q ≡ None = mapped_none _ (in_range q) none in
    let nothing : range_breaches (resolved q) ≡ [] = none_first (range_breaches (resolved q)) broken in
    let others : other_breaches q ≡ [] = ap (λ (x : ProgramText). but_regions (range_breaches (resolved x))) same ∙ ap but_regions nothing in
    ap (λ (bs : List RangeBreach). option_map (λ (b : RangeBreach). of_ranges (range_told (resolved q) b.at.line b.rule)) (first_of bs)) others

others_stay : (lengths : ℕ → ℕ → ℕ) (k j : ℕ) (ts us : List TaskText) → AreAnnotatedTasks lengths k ts us →
    first_among range_rules j (programs_of us) ≡ None → first_among other_ranges j (programs_of us) ≡ None
others_stay lengths k j [] [] are none = refl
others_stay lengths k j [] (u ∷ us) are none = absurd are
others_stay lengths k j (t ∷ ts) [] are none = refl
others_stay lengths k j (t ∷ ts) (u ∷ us) are none =
    let one = are.0 in
    let q = one.read in
    let all : programs_of (u ∷ us) ≡ q ∷ programs_of us = ap (λ (r : Result ProgramText FrontFail). program_before r (programs_of us)) one.is_read in
    let none' : first_among range_rules j (q ∷ programs_of us) ≡ None = ap (λ (ps : List ProgramText). first_among range_rules j ps) (sym all) ∙ none in
    let head = none_other q (ranged_back (λ n. 0) q (read_stays (lengths k) (λ n. 0) (λ n. nothing_is_less (lengths k n)) one.program q one.tree_is))
    (told_none (Some j) (range_rules q) (first_none (refused_by (Some j) (range_rules q)) (first_among range_rules (j + 1) (programs_of us)) none')) in
    let rest = others_stay lengths (k + 1) (j + 1) ts us are.1 (then_none (refused_by (Some j) (range_rules q)) (first_among range_rules (j + 1) (programs_of us)) none') in
    ap (λ (ps : List ProgramText). first_among other_ranges j ps) all ∙ ap (λ (o : Option Told). or_else (refused_by (Some j) o) (first_among other_ranges (j + 1) (programs_of us))) head ∙ rest

-- ---- a lawful set has bounds

late_none : (o : Option (Refusal LateRule)) → late_refusal o ≡ None → o ≡ None
late_none None e = refl
late_none (Some r) e = absurd cc

record Ways (set : TaskSet) : Type 0 where
  one : over_tasks text_rules set.tasks ≡ None
  two : over_tasks program_rules (programs_of set.tasks) ≡ None
  three : over_tasks range_rules (programs_of set.tasks) ≡ None
  bounded_at : unbounded set ≡ None

lawful_ways : (set : TaskSet) → broken set ≡ None → Ways set
lawful_ways set none =
    let places = places_in set in
    let placed = placed_by set places in
    let g1 = over_tasks text_rules set.tasks in
    let g2 = over_tasks program_rules (programs_of set.tasks) in
    let g3 = over_tasks range_rules (programs_of set.tasks) in
    let g4 = code_broken set in
    let g5 = refused_by None (memory_rules set.plant places) in
    let g6 = over_tasks reach_rules placed in
    let g7 = over_tasks (conflict_rules set.plant) placed in
    let g8 = over_tasks (bound_rules set.plant) placed in
    let late = or_else (over_tasks (length_rules set.plant) placed) (refused_by None (log_rules (coded_in set))) in
    let from_eight = or_else g8 late in
    let from_seven = or_else g7 from_eight in
    let from_six = or_else g6 from_seven in
    let from_five = or_else g5 from_six in
    let from_four = or_else g4 from_five in
    let from_three = or_else g3 (late_refusal from_four) in
    let from_two = or_else g2 from_three in
    let none2 = then_none g1 from_two none in
    let none3 = then_none g2 from_three none2 in
    let none4 = late_none from_four (then_none g3 (late_refusal from_four) none3) in
    let none5 = then_none g4 from_five none4 in
    let none6 = then_none g5 from_six none5 in
    let none7 = then_none g6 from_seven none6 in
    let none8 = then_none g7 from_eight none7 in
    let one = first_none g1 from_two none in
    let two = first_none g2 from_three none2 in
    let three = first_none g3 (late_refusal from_four) none3 in
    let four = first_none g4 from_five none4 in
    let five = first_none g5 from_six none5 in
    let six = first_none g6 from_seven none6 in
    let seven = first_none g7 from_eight none7 in
    let eight = first_none g8 late none8 in
    record {
      one = one;
      two = two;
      three = three;
      bounded_at = λ i. or_else (or_else (one i) (or_else (two i) (or_else (three i) (late_refusal (four i)))))
          (or_else (late_refusal (five i)) (late_refusal (or_else (six i) (or_else (seven i) (eight i)))));
    }

-- ---- annotated once more

pub annotated_sets_stay : AnnotatedSetsStay
annotated_sets_stay set new_set is =
    let kept = sets_are_annotated set new_set is in
    let ways = lawful_ways new_set kept.lawful in
    record {
      texts_are_read = ways.one;
      programs_are_formed = ways.two;
      ranges_are_kept = others_stay (lengths_of annotated_text set) 0 0 set.tasks new_set.tasks kept.tasks ways.three;
      has_bounds = ap unbounded (first_stays set new_set kept) ∙ ways.bounded_at;
      written_is = sym (last_stays set new_set kept);
      lawful = kept.lawful;
    }
