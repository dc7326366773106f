-- The bills of marked calls, by the faces of functions.
use Rattle.std.specs.Prelude.{is_some, take}
use Rattle.std.proofs.Common.{◌≡◌, ℕ, zero, suc, ◌+◌, Bool, true, false, cond, if◌then◌else◌, Option, None, Some, List, [], ◌∷◌, length, map, min, refl, ap, sym, ◌∙◌, arith}
use Rattle.prem_plant.specs.declared.plant.Plant.{Plant}
use Rattle.prem_syntax.specs.Resolved.{Routine}
use Rattle.prem_tree.specs.declared.resolve.resolved.Routine.{Routine as RoutineTree}
use Rattle.prem_tree.specs.Resolve.ResolvedOf.{loops_of, routines_of}
use Rattle.prem_layout.specs.Template.Parts.{marked_before, marked_count as count_marked}
use Rattle.prem_layout.specs.Plans.{Plan}
use Rattle.prem_split.specs.Walk.{frame_of as frame_of_tree}
use Rattle.prem_wcet.specs.declared.scene.Face.{Face}
use Rattle.prem_wcet.specs.KnownOf.{face_if, faces_in, has_mark, lengths_behind}
use Rattle.prem_wcet.specs.Lengths.{with_lengths}
use Rattle.prem_wcet.specs.SceneOf.{face_at, plan_stating}
use Rattle.prem_profile.specs.Bound.Bills.{Bill}
use Rattle.prem_profile.specs.Bound.Passages.{marked_bill, marked_call}
use Rattle.prem_profile.specs.Bound.Memory.{marked_faces}

abbrev stating : Option ℕ → Plan
stating o = plan_stating (record { frame = 0; stated = o })

none_some : (n : ℕ) (o : Option ℕ) → o ≡ None → o ≡ Some n → ⊥
none_some n o e f = cc

module _ (p : Plant) (task at : ℕ) where
  marked_at : (faces : List Face) (f n : ℕ) → (face_at faces f).stated ≡ Some n → marked_bill p task at (map plan_stating faces) f ≡ marked_call p task at (stating (Some n))
  marked_at [] f n is = absurd (none_some n None refl is)
  marked_at (a ∷ xs) zero n is = ap (λ o. marked_call p task at (stating o)) is
  marked_at (a ∷ xs) (suc f) n is = marked_at xs f n is

  pub called_marked : (faces : List Face) (f n : ℕ) (other : Bill) → (face_at faces f).stated ≡ Some n →
      marked_call p task at (stating (Some n)) ≡ (if is_some (face_at faces f).stated then marked_bill p task at (map plan_stating faces) f else other)
  called_marked faces f n other is = sym (marked_at faces f n is) ∙ ap (λ o. if is_some o then marked_bill p task at (map plan_stating faces) f else other) (sym is)

  pub called_other : (faces : List Face) (f : ℕ) (other : Bill) → (face_at faces f).stated ≡ None →
      other ≡ (if is_some (face_at faces f).stated then marked_bill p task at (map plan_stating faces) f else other)
  called_other faces f other is = ap (λ o. if is_some o then marked_bill p task at (map plan_stating faces) f else other) (sym is)

  -- ---- by the plan of its number

  false_true : false ≡ true → ⊥
  false_true e = cc

  first_told : (b : Bool) (frame : ℕ) (lengths : List ℕ) (plans rest : List Plan) (others : ℕ) → length lengths ≡ length plans →
      length plans ≡ cond b 1 0 + others → is_some (face_if b frame lengths).stated ≡ true →
      marked_bill p task at (plan_stating (face_if b frame lengths) ∷ rest) 0 ≡ marked_bill p task at (with_lengths lengths plans) 0
  first_told false frame lengths plans rest others long count is = absurd (false_true is)
  first_told true frame [] [] rest others long count is = absurd (omega (arith, count))
  first_told true frame [] (q ∷ qs) rest others long count is = absurd (omega (arith, long))
  first_told true frame (n ∷ ns) [] rest others long count is = absurd (omega (arith, long))
  first_told true frame (n ∷ ns) (q ∷ qs) rest others long count is = refl

  later_told : (b : Bool) (rs : List RoutineTree) (others : List Routine) (lengths : List ℕ) (plans : List Plan) (f : ℕ) →
      ((ms : List ℕ) (qs : List Plan) → length ms ≡ length qs → length qs ≡ count_marked others → is_some (face_at (faces_in rs ms) f).stated ≡ true →
      marked_bill p task at (map plan_stating (faces_in rs ms)) f ≡ marked_bill p task at (with_lengths ms qs) (marked_before f others)) →
      length lengths ≡ length plans → length plans ≡ cond b 1 0 + count_marked others → is_some (face_at (faces_in rs (lengths_behind b lengths)) f).stated ≡ true →
      marked_bill p task at (map plan_stating (faces_in rs (lengths_behind b lengths))) f ≡ marked_bill p task at (with_lengths lengths plans) (cond b 1 0 + marked_before f others)
  later_told false rs others lengths plans f each long count is =
      let none : count_marked others ≡ 0 + count_marked others = omega arith in
      let same : marked_before f others ≡ 0 + marked_before f others = omega arith in
      each lengths plans long (count ∙ sym none) is ∙ ap (marked_bill p task at (with_lengths lengths plans)) same
  later_told true rs others [] [] f each long count is = absurd (omega (arith, count))
  later_told true rs others [] (q ∷ qs) f each long count is = absurd (omega (arith, long))
  later_told true rs others (n ∷ ns) [] f each long count is = absurd (omega (arith, long))
  later_told true rs others (n ∷ ns) (q ∷ qs) f each long count is =
      let one : suc (marked_before f others) ≡ 1 + marked_before f others = omega arith in
      each ns qs (omega (arith, long)) (omega (arith, count)) is ∙ ap (marked_bill p task at (with_lengths (n ∷ ns) (q ∷ qs))) one

  pub stated_told : (turns : ℕ → ℕ) (loops : ℕ) (rs : List RoutineTree) (lengths : List ℕ) (plans : List Plan) (f : ℕ) →
      length lengths ≡ length plans → length plans ≡ count_marked (routines_of turns loops rs) →
      is_some (face_at (faces_in rs lengths) f).stated ≡ true →
      marked_bill p task at (map plan_stating (faces_in rs lengths)) f ≡ marked_bill p task at (with_lengths lengths plans) (marked_before f (routines_of turns loops rs))
  stated_told turns loops [] lengths plans f long count is = absurd (false_true is)
  stated_told turns loops (r ∷ rs) lengths plans zero long count is =
      first_told (has_mark r) (frame_of_tree r) lengths plans (map plan_stating (faces_in rs (lengths_behind (has_mark r) lengths)))
      (count_marked (routines_of turns (loops + loops_of r.body) rs)) long count is
  stated_told turns loops (r ∷ rs) lengths plans (suc f) long count is =
      later_told (has_mark r) rs (routines_of turns (loops + loops_of r.body) rs) lengths plans f (λ ms qs a b c. stated_told turns (loops + loops_of r.body) rs ms qs f a b c) long count is

-- as many functions before one are marked
mark_kept : (b : Bool) (frame : ℕ) (lengths : List ℕ) → is_some (face_if b frame lengths).stated ≡ b
mark_kept true frame lengths = refl
mark_kept false frame lengths = refl

pub faces_before : (turns : ℕ → ℕ) (loops : ℕ) (rs : List RoutineTree) (lengths : List ℕ) (f : ℕ) → marked_faces (faces_in rs lengths) f ≡ marked_before f (routines_of turns loops rs)
faces_before turns loops [] lengths zero = refl
faces_before turns loops [] lengths (suc f) = refl
faces_before turns loops (r ∷ rs) lengths zero = refl
faces_before turns loops (r ∷ rs) lengths (suc f) =
    λ i.
    (if mark_kept (has_mark r) (frame_of_tree r) lengths i then 1 else 0) + faces_before turns (loops + loops_of r.body) rs (lengths_behind (has_mark r) lengths) f i

pub take_min : (faces : List Face) (n : ℕ) → take (min n (length faces)) faces ≡ take n faces
take_min [] zero = refl
take_min [] (suc n) = let none : min (suc n) 0 ≡ 0 = omega arith in ap (λ k. take {A = Face} k []) none
take_min (x ∷ xs) zero = let none : min 0 (length (x ∷ xs)) ≡ 0 = omega arith in ap (λ k. take k (x ∷ xs)) none
take_min (x ∷ xs) (suc n) = let next : min (suc n) (length (x ∷ xs)) ≡ suc (min n (length xs)) = omega arith in ap (λ k. take k (x ∷ xs)) next ∙ ap (λ ys. x ∷ ys) (take_min xs n)
