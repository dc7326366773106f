-- The stack of a program whose frames may be compiled is small.
use Rattle.std.specs.Prelude.{is_some, slice_index_or}
use Rattle.std.proofs.Common.{◌≡◌, ℕ, zero, suc, ◌+◌, ◌*◌, ◌≤◌, max, cond, Bool, true, false, List, [], ◌∷◌, ◌++◌, arith, length, map, slice_index, Option}
use Rattle.std.proofs.lemmas.List.{length-map}
use Rattle.prem_list.specs.Sequence.{items_of}
use Rattle.prem_syntax.specs.Syntax.{MarkText}
use Rattle.prem_tree.specs.declared.resolve.resolved.Routine.{Routine as RoutineTree}
use Rattle.prem_tree.specs.declared.resolve.resolved.Resolved.{Resolved as ResolvedTree}
use Rattle.prem_split.specs.Walk.{frame_of}
use Rattle.prem_split.specs.Tables.{greatest, depths_behind, depths_of}
use Rattle.prem_split.specs.PlansWith.{MayHavePlans, calls_of, marks_of}
use Rattle.prem_split.proofs.TableLaws.{greatest_within, pushed_within}
use Rattle.prem_split.proofs.PlanLaws.{frames_small}
use Rattle.prem_prefetch.specs.Parts.Parts.{most_marked, stack_in}

behind_within : (known frames : List ℕ) (table : List (List ℕ)) (n : ℕ) → ((k : ℕ) → slice_index known k ≤ 2032 * n) → ((k : ℕ) → slice_index frames k ≤ 2032) →
    (k : ℕ) → slice_index (depths_behind known frames table) k ≤ 2032 * (n + length frames)
behind_within known [] table n h f k = omega (arith, h k)
behind_within known (frame ∷ frames) [] n h f k = omega (arith, h k)
behind_within known (frame ∷ frames) (cs ∷ css) n h f k =
    let depth : ℕ = frame + greatest known cs in
    let most = greatest_within known cs (2032 * n) h in
    let here = f 0 in
    let small : depth ≤ 2032 * (n + 1) = omega (arith, most, here) in
    let more : 2032 * n ≤ 2032 * (n + 1) = omega arith in
    let rest = behind_within (known ++ depth ∷ []) frames css (n + 1) (λ j. pushed_within known depth (2032 * n) (2032 * (n + 1)) j h more small) (λ j. f (suc j)) k in
    omega (arith, rest)

none_known : (k : ℕ) → slice_index [] k ≤ 2032 * 0
none_known zero = omega arith
none_known (suc k) = omega arith

marked_within : (depths : List ℕ) (most n : ℕ) (marks : List (Option MarkText)) → ((k : ℕ) → slice_index depths k ≤ most) → most_marked depths n marks ≤ most
marked_within depths most n [] h = omega arith
marked_within depths most n (mark ∷ marks) h =
    let rest = marked_within depths most (n + 1) marks h in
    by (is_some mark) rest
  where
    by : (b : Bool) → most_marked depths (n + 1) marks ≤ most → max (cond b (slice_index depths n) 0) (most_marked depths (n + 1) marks) ≤ most
    by true rest = omega (arith, h n, rest)
    by false rest = omega (arith, rest)

pub stack_within : (r : ResolvedTree) → MayHavePlans r → stack_in r ≤ 2032 * 257
stack_within r may =
    let fs : List RoutineTree = items_of r.routines in
    let frames : List ℕ = map frame_of fs in
    let depths : List ℕ = depths_of frames (calls_of fs) in
    let small : (k : ℕ) → slice_index frames k ≤ 2032 = frames_small fs may.frames in
    let long : length frames ≡ length fs = length-map fs frame_of in
    let few = may.functions in
    let within : (k : ℕ) → slice_index depths k ≤ 2032 * 256 = λ k. omega (arith, behind_within [] frames (calls_of fs) 0 none_known small k, long, few) in
    omega (arith, small r.job, greatest_within depths (slice_index_or (calls_of fs) r.job []) (2032 * 256) within, marked_within depths (2032 * 256) 0 (marks_of fs) within)
