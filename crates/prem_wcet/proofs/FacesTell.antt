-- What functions are to their callers, by their frames and marks, and by the lengths of marked ones.
use Rattle.std.specs.Prelude.{is_some}
use Rattle.std.proofs.Common.{◌≡◌, ℕ, zero, suc, ◌+◌, Bool, true, false, cond, List, [], ◌∷◌, length, map, refl, ap, sym, ◌∙◌, arith}
use Rattle.prem_plant.specs.declared.plant.Plant.{Plant}
use Rattle.prem_syntax.specs.Resolved.{Routine}
use Rattle.prem_tree.specs.declared.resolve.resolved.Routine.{Routine as RoutineTree}
use Rattle.prem_tree.specs.Resolve.ResolvedOf.{loops_of, routines_of}
use Rattle.prem_layout.specs.Template.Frames.{frame_at}
use Rattle.prem_layout.specs.Template.Parts.{is_marked_at, marked_before, marked_count as count_marked}
use Rattle.prem_layout.specs.Plans.{Plan}
use Rattle.prem_split.specs.Walk.{frame_of as frame_of_tree}
use Rattle.prem_split.proofs.PlansAre.{frame_same}
use Rattle.prem_wcet_laws.specs.Counts.{marked_count}
use Rattle.prem_wcet.specs.KnownOf.{TellFaces, face_if, faces_in, has_mark, lengths_behind}
use Rattle.prem_wcet.specs.Lengths.{with_lengths}
use Rattle.prem_wcet.specs.SceneOf.{face_at, plan_stating}

frame_kept : (b : Bool) (frame : ℕ) (lengths : List ℕ) → (face_if b frame lengths).frame ≡ frame
frame_kept true frame lengths = refl
frame_kept false frame lengths = refl

mark_kept : (b : Bool) (frame : ℕ) (lengths : List ℕ) → is_some (face_if b frame lengths).stated ≡ b
mark_kept true frame lengths = refl
mark_kept false frame lengths = refl

frames_told : (turns : ℕ → ℕ) (loops : ℕ) (rs : List RoutineTree) (lengths : List ℕ) (f : ℕ) → (face_at (faces_in rs lengths) f).frame ≡ frame_at (routines_of turns loops rs) f
frames_told turns loops [] lengths f = refl
frames_told turns loops (r ∷ rs) lengths zero = frame_kept (has_mark r) (frame_of_tree r) lengths ∙ frame_same turns loops r
frames_told turns loops (r ∷ rs) lengths (suc f) = frames_told turns (loops + loops_of r.body) rs (lengths_behind (has_mark r) lengths) f

marks_told : (turns : ℕ → ℕ) (loops : ℕ) (rs : List RoutineTree) (lengths : List ℕ) (f : ℕ) → is_some (face_at (faces_in rs lengths) f).stated ≡ is_marked_at (routines_of turns loops rs) f
marks_told turns loops [] lengths f = refl
marks_told turns loops (r ∷ rs) lengths zero = mark_kept (has_mark r) (frame_of_tree r) lengths
marks_told turns loops (r ∷ rs) lengths (suc f) = marks_told turns (loops + loops_of r.body) rs (lengths_behind (has_mark r) lengths) f

false_true : false ≡ true → ⊥
false_true e = cc

-- ---- a marked call counts by the plan of its number

first_told : (p : Plant) (b : Bool) (frame : ℕ) (lengths : List ℕ) (plans rest : List Plan) (others : ℕ) → length lengths ≡ length plans →
    length plans ≡ cond b 1 0 + others → is_some (face_if b frame lengths).stated ≡ true →
    marked_count p (plan_stating (face_if b frame lengths) ∷ rest) 0 ≡ marked_count p (with_lengths lengths plans) 0
first_told p false frame lengths plans rest others long count is = absurd (false_true is)
first_told p true frame [] [] rest others long count is = absurd (omega (arith, count))
first_told p true frame [] (q ∷ qs) rest others long count is = absurd (omega (arith, long))
first_told p true frame (n ∷ ns) [] rest others long count is = absurd (omega (arith, long))
first_told p true frame (n ∷ ns) (q ∷ qs) rest others long count is = refl

later_told : (p : Plant) (b : Bool) (rs : List RoutineTree) (others : List Routine) (lengths : List ℕ) (plans : List Plan) (f : ℕ) →
    ((ms : List ℕ) (qs : List Plan) → length ms ≡ length qs → length qs ≡ count_marked others → is_some (face_at (faces_in rs ms) f).stated ≡ true →
    marked_count p (map plan_stating (faces_in rs ms)) f ≡ marked_count p (with_lengths ms qs) (marked_before f others)) →
    length lengths ≡ length plans → length plans ≡ cond b 1 0 + count_marked others → is_some (face_at (faces_in rs (lengths_behind b lengths)) f).stated ≡ true →
    marked_count p (map plan_stating (faces_in rs (lengths_behind b lengths))) f ≡ marked_count p (with_lengths lengths plans) (cond b 1 0 + marked_before f others)
later_told p false rs others lengths plans f each long count is =
    let none : count_marked others ≡ 0 + count_marked others = omega arith in
    let same : marked_before f others ≡ 0 + marked_before f others = omega arith in
    each lengths plans long (count ∙ sym none) is ∙ ap (marked_count p (with_lengths lengths plans)) same
later_told p true rs others [] [] f each long count is = absurd (omega (arith, count))
later_told p true rs others [] (q ∷ qs) f each long count is = absurd (omega (arith, long))
later_told p true rs others (n ∷ ns) [] f each long count is = absurd (omega (arith, long))
later_told p true rs others (n ∷ ns) (q ∷ qs) f each long count is =
    let one : suc (marked_before f others) ≡ 1 + marked_before f others = omega arith in
    each ns qs (omega (arith, long)) (omega (arith, count)) is ∙ ap (marked_count p (with_lengths (n ∷ ns) (q ∷ qs))) one

stated_told : (p : Plant) (turns : ℕ → ℕ) (loops : ℕ) (rs : List RoutineTree) (lengths : List ℕ) (plans : List Plan) (f : ℕ) →
    length lengths ≡ length plans → length plans ≡ count_marked (routines_of turns loops rs) →
    is_some (face_at (faces_in rs lengths) f).stated ≡ true →
    marked_count p (map plan_stating (faces_in rs lengths)) f ≡ marked_count p (with_lengths lengths plans) (marked_before f (routines_of turns loops rs))
stated_told p turns loops [] lengths plans f long count is = absurd (false_true is)
stated_told p turns loops (r ∷ rs) lengths plans zero long count is =
    first_told p (has_mark r) (frame_of_tree r) lengths plans (map plan_stating (faces_in rs (lengths_behind (has_mark r) lengths)))
    (count_marked (routines_of turns (loops + loops_of r.body) rs)) long count is
stated_told p turns loops (r ∷ rs) lengths plans (suc f) long count is =
    later_told p (has_mark r) rs (routines_of turns (loops + loops_of r.body) rs) lengths plans f (λ ms qs a b c. stated_told p turns (loops + loops_of r.body) rs ms qs f a b c) long count is

pub faces_tell : (p : Plant) (turns : ℕ → ℕ) (rs : List RoutineTree) (lengths : List ℕ) (plans : List Plan) → length lengths ≡ length plans → length plans ≡ count_marked (routines_of turns 0 rs) →
    TellFaces p (with_lengths lengths plans) (routines_of turns 0 rs) (faces_in rs lengths)
faces_tell p turns rs lengths plans long count = record {
  frame = frames_told turns 0 rs lengths;
  marked = marks_told turns 0 rs lengths;
  marks = λ f. stated_told p turns 0 rs lengths plans f long count;
}
