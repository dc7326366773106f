-- The table tells of each function what its part and register are.
use Rattle.std.specs.Prelude.{slice_get, slice_index_or, option_map, is_some, if◌then◌else◌}
use Rattle.std.proofs.Common.{◌≡◌, ◌≤◌, ℕ, zero, suc, ◌+◌, Bool, false, List, [], ◌∷◌, length, Option, None, Some, refl, ap, ◌∙◌, sym, subst, arith, min}
use Rattle.prem_syntax.specs.declared.tree.Mark.{Mark}
use Rattle.prem_syntax.specs.SyntaxOf.{mark_of}
use Rattle.prem_tree.specs.declared.resolve.resolved.Routine.{Routine}
use Rattle.prem_tree.specs.Resolve.ResolvedOf.{routines_of, loops_of}
use Rattle.prem_layout.specs.Template.Frames.{frame_at}
use Rattle.prem_layout.specs.Template.Limits.{greatest_frame}
use Rattle.prem_layout.specs.Template.Parts.{is_marked_at, marked_before, marked_count, stub_part}
use Rattle.prem_gen.specs.Frame.FrameOf.{most, frame_bytes}
use Rattle.prem_gen.specs.Routine.FrameOf.{slots_in}
use Rattle.prem_gen.specs.declared.routine.task.Callee.{Callee}
use Rattle.prem_gen.specs.Routine.Parts.{absent, callee_at}
use Rattle.prem_gen.specs.Table.Table.{marks, marks_in, all_marks, callee_by, callee_of, callees_from, TableTells, StubsAreCounted}
use Rattle.prem_gen.proofs.RoutineLemmas.Whole.{frame_is}

abbrev marks_before : ℕ → List Routine → ℕ
marks_before zero rs = 0
marks_before (suc f) [] = 0
marks_before (suc f) (r ∷ rs) = marks r + marks_before f rs

abbrev entry : Callee → (stub n : ℕ) → Option Routine → Callee
entry d stub n None = d
entry d stub n (Some r) = callee_of stub n r

entry_same : (d : Callee) (a b c e : ℕ) (o : Option Routine) → a ≡ b → c ≡ e → entry d a c o ≡ entry d b e o
entry_same d a b c e o p q = ap (λ k. entry d k c o) p ∙ ap (λ k. entry d b k o) q

found : (d : Callee) (stub n : ℕ) (rs : List Routine) (f : ℕ) →
    slice_index_or (callees_from stub n rs) f d ≡ entry d (stub + marks_before f rs) (n + f) (slice_get rs f)
found d stub n [] zero = refl
found d stub n [] (suc f) = refl
found d stub n (r ∷ rs) zero = entry_same d stub (stub + 0) n (n + 0) (Some r) (omega arith) (omega arith)
found d stub n (r ∷ rs) (suc f) =
    found d (stub + marks r) (n + 1) rs f
    ∙ entry_same d (stub + marks r + marks_before f rs) (stub + (marks r + marks_before f rs)) (n + 1 + f) (n + suc f) (slice_get rs f) (omega arith) (omega arith)

-- ---- the functions for which they stand

mark_counts : (o : Option Mark) → (if is_some (option_map mark_of o) then 1 else 0) ≡ marks_in o
mark_counts None = refl
mark_counts (Some m) = refl

before_same : (turns : ℕ → ℕ) (m : ℕ) (rs : List Routine) (f : ℕ) → marked_before f (routines_of turns m rs) ≡ marks_before f rs
before_same turns m [] zero = refl
before_same turns m [] (suc f) = refl
before_same turns m (r ∷ rs) zero = refl
before_same turns m (r ∷ rs) (suc f) =
    ap (λ k. k + marked_before f (routines_of turns (m + loops_of r.body) rs)) (mark_counts r.text.now.mark)
    ∙ ap (λ k. marks r + k) (before_same turns (m + loops_of r.body) rs f)

pub length_same : (turns : ℕ → ℕ) (m : ℕ) (rs : List Routine) → length (routines_of turns m rs) ≡ length rs
length_same turns m [] = refl
length_same turns m (r ∷ rs) = omega (arith, length_same turns (m + loops_of r.body) rs)

abbrev marked_one : Option Routine → Bool
marked_one None = false
marked_one (Some r) = is_some r.text.now.mark

mark_kept : (o : Option Mark) → is_some (option_map mark_of o) ≡ is_some o
mark_kept None = refl
mark_kept (Some m) = refl

marked_same : (turns : ℕ → ℕ) (m : ℕ) (rs : List Routine) (f : ℕ) → is_marked_at (routines_of turns m rs) f ≡ marked_one (slice_get rs f)
marked_same turns m [] zero = refl
marked_same turns m [] (suc f) = refl
marked_same turns m (r ∷ rs) zero = mark_kept r.text.now.mark
marked_same turns m (r ∷ rs) (suc f) = marked_same turns (m + loops_of r.body) rs f

-- ---- registers and parts

link_by : (o : Option Mark) (frame stub n : ℕ) → (callee_by o frame stub n).link ≡ (if is_some o then 4 else 1)
link_by None frame stub n = refl
link_by (Some m) frame stub n = refl

part_by : (o : Option Mark) (frame stub n : ℕ) → (callee_by o frame stub n).part ≡ (if is_some o then stub else 1 + n)
part_by None frame stub n = refl
part_by (Some m) frame stub n = refl

entry_link : (f stub n : ℕ) (o : Option Routine) → (entry (absent f) stub n o).link ≡ (if marked_one o then 4 else 1)
entry_link f stub n None = refl
entry_link f stub n (Some r) = link_by r.text.now.mark _ stub n

entry_part : (f stub : ℕ) (o : Option Routine) → (entry (absent f) stub f o).part ≡ (if marked_one o then stub else 1 + f)
entry_part f stub None = refl
entry_part f stub (Some r) = part_by r.text.now.mark _ stub f

-- ---- frames

abbrev bytes_of : Option Routine → ℕ
bytes_of None = 0
bytes_of (Some r) = frame_bytes (slots_in r)

frames_same : (turns : ℕ → ℕ) (m : ℕ) (rs : List Routine) (f : ℕ) → frame_at (routines_of turns m rs) f ≡ bytes_of (slice_get rs f)
frames_same turns m [] zero = refl
frames_same turns m [] (suc f) = refl
frames_same turns m (r ∷ rs) zero = frame_is turns m r
frames_same turns m (r ∷ rs) (suc f) = frames_same turns (m + loops_of r.body) rs f

frame_by : (o : Option Mark) (frame stub n : ℕ) → (callee_by o frame stub n).frame ≡ frame
frame_by None frame stub n = refl
frame_by (Some m) frame stub n = refl

few_slots : (s : ℕ) → frame_bytes s ≤ greatest_frame → frame_bytes (min s most) ≡ frame_bytes s
few_slots s h = let same : min s most ≡ s = omega (arith, h) in ap frame_bytes same

entry_frame : (f stub n : ℕ) (o : Option Routine) → bytes_of o ≤ greatest_frame → (entry (absent f) stub n o).frame ≡ bytes_of o
entry_frame f stub n None h = refl
entry_frame f stub n (Some r) h = frame_by r.text.now.mark (frame_bytes (min (slots_in r) most)) stub n ∙ few_slots (slots_in r) h

-- ---- all

pub table_tells : TableTells
table_tells target turns m rs f =
    let at : callee_at (callees_from (1 + length rs) 0 rs) f ≡ entry (absent f) (1 + length rs + marks_before f rs) f (slice_get rs f) =
    found (absent f) (1 + length rs) 0 rs f ∙ entry_same (absent f) (1 + length rs + marks_before f rs) (1 + length rs + marks_before f rs) (0 + f) f (slice_get rs f) refl (omega arith) in
    let stub : stub_part (routines_of turns m rs) f ≡ 1 + length rs + marks_before f rs = omega (arith, length_same turns m rs, before_same turns m rs f) in
    record {
      frame_is = λ fits. ap (λ (c : Callee). c.frame) at
          ∙ entry_frame f (1 + length rs + marks_before f rs) f (slice_get rs f) (subst (λ k. k ≤ greatest_frame) (frames_same turns m rs f) fits)
          ∙ sym (frames_same turns m rs f);
      link_is = ap (λ (c : Callee). c.link) at ∙ entry_link f (1 + length rs + marks_before f rs) f (slice_get rs f)
          ∙ ap (λ b. if b then 4 else 1) (sym (marked_same turns m rs f));
      part_is = ap (λ (c : Callee). c.part) at ∙ entry_part f (1 + length rs + marks_before f rs) (slice_get rs f)
          ∙ ap (λ b. if b then 1 + length rs + marks_before f rs else 1 + f) (sym (marked_same turns m rs f))
          ∙ ap (λ k. if is_marked_at (routines_of turns m rs) f then k else 1 + f) (sym stub);
    }

count_same : (turns : ℕ → ℕ) (m : ℕ) (rs : List Routine) → marked_count (routines_of turns m rs) ≡ all_marks rs
count_same turns m [] = refl
count_same turns m (r ∷ rs) =
    ap (λ k. k + marked_count (routines_of turns (m + loops_of r.body) rs)) (mark_counts r.text.now.mark)
    ∙ ap (λ k. marks r + k) (count_same turns (m + loops_of r.body) rs)

pub stubs_are_counted : StubsAreCounted
stubs_are_counted turns m rs = omega (arith, length_same turns m rs, count_same turns m rs)
