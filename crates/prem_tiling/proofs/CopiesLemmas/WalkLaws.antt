-- A walk of a turn finds the first read of a stale local, and which locals are stale behind a statement.
use Rattle.std.proofs.Common.{◌≡◌, ℕ, Bool, true, false, not, ◌&&◌, ◌||◌, List, [], ◌∷◌, ◌++◌, length, take, drop, set, replicate, refl, ap, sym, ◌∙◌, subst, Option, None, Some, eqb}
use Rattle.std.proofs.Common.{true≢false}
use Rattle.prem_tiling.proofs.Prelude.{number_of, Text, Expression, Statement, block, if_then, if_else, bounded_while, counting_for, assign, output, input, call, Statements, no_statements}
use Rattle.prem_tiling.proofs.Prelude.{next_statement, Place, flag_at, read_by, read_by_option, Walk, reading, reading_option, reading_all, lowered_if, lowered, lowered_all, raised, undone}
use Rattle.prem_tiling.proofs.Prelude.{unflagged_before, unflagged, walked, all_walked, started, LocalSet, without, behind, behind_all, first_line, read_of, read_in, read_within, carried_in}
use Rattle.prem_tiling.proofs.Prelude.{eqb-true, append-nil, set-set, set-get_or, slice_set}
use Rattle.prem_tiling.proofs.CopiesLemmas.FlagLaws.{Set, cleared_at, no_more, either_last, read_is, reads_are, started_is}
use Rattle.std.proofs.Math.Seq.{drop-append_seam, take-append_seam}
use Rattle.std.proofs.lemmas.List.{append_assoc}

-- ---- lists of numbers

abbrev has : ℕ → List ℕ → Bool
has k [] = false
has k (j ∷ js) = eqb j k || has k js

has_append : (k : ℕ) (xs ys : List ℕ) → has k (xs ++ ys) ≡ (has k xs || has k ys)
has_append k [] ys = refl
has_append k (x ∷ xs) ys = ap (λ b. eqb x k || b) (has_append k xs ys) ∙ sym (either_last (eqb x k) (has k xs) (has k ys))

raised_append : (xs ys : List ℕ) (flags : List Bool) → raised (xs ++ ys) flags ≡ raised xs (raised ys flags)
raised_append [] ys flags = refl
raised_append (x ∷ xs) ys flags = ap (λ (f : List Bool). slice_set f x true) (raised_append xs ys flags)

-- ---- what a walk has assigned

record Lowered (flags after : List Bool) (trail longer : List ℕ) : Type 0 where
  taken : List ℕ
  trail_is : longer ≡ (trail ++ taken)
  back : raised taken after ≡ flags
  at : (k : ℕ) → flag_at flags k ≡ (flag_at after k || has k taken)
  low : (k : ℕ) → has k taken ≡ true → flag_at after k ≡ false

stays : (flags : List Bool) (trail : List ℕ) → Lowered flags flags trail trail
stays flags trail = record { taken = []; trail_is = sym (append-nil trail); back = refl; at = λ k. no_more (flag_at flags k); low = λ k h. absurd (true≢false (sym h)) }

same_lowered : (flags after : List Bool) (trail longer : List ℕ) → after ≡ flags → longer ≡ trail → Lowered flags after trail longer
same_lowered flags after trail longer f t = subst (λ (x : List ℕ). Lowered flags after trail x) (sym t) (subst (λ (x : List Bool). Lowered flags x trail trail) (sym f) (stays flags trail))

swapped : (x y z : Bool) → ((x || y) || z) ≡ (x || (z || y))
swapped true y z = refl
swapped false true true = refl
swapped false true false = refl
swapped false false true = refl
swapped false false false = refl

left_true : (x y : Bool) → (x || y) ≡ true → y ≡ false → x ≡ true
left_true true y both none = refl
left_true false y both none = absurd (true≢false (sym both ∙ none))

then_lowered : (f g h : List Bool) (t u v : List ℕ) → Lowered f g t u → Lowered g h u v → Lowered f h t v
then_lowered f g h t u v a b = record {
  taken = a.taken ++ b.taken;
  trail_is = b.trail_is ∙ ap (λ (x : List ℕ). x ++ b.taken) a.trail_is ∙ append_assoc t a.taken b.taken;
  back = raised_append a.taken b.taken h ∙ ap (raised a.taken) b.back ∙ a.back;
  at = λ k.
      a.at k ∙ ap (λ x. x || has k a.taken) (b.at k) ∙ swapped (flag_at h k) (has k b.taken) (has k a.taken)
      ∙ ap (λ x. flag_at h k || x) (sym (has_append k a.taken b.taken));
  low = λ k is. by k (sym (has_append k a.taken b.taken) ∙ is) (has k b.taken) refl;
}
  where
    by : (k : ℕ) → (has k a.taken || has k b.taken) ≡ true → (later : Bool) → has k b.taken ≡ later → flag_at h k ≡ false
    by k both true e = b.low k e
    by k both false e = no_more (flag_at h k) ∙ ap (λ x. flag_at h k || x) (sym e) ∙ sym (b.at k) ∙ a.low k (left_true (has k a.taken) (has k b.taken) both e)

-- nothing is flagged behind it that wasn't before
still : (f g : List Bool) (t u : List ℕ) → Lowered f g t u → (k : ℕ) → (flag_at f k || flag_at g k) ≡ flag_at f k
still f g t u a k = ap (λ x. x || flag_at g k) (a.at k) ∙ more (flag_at g k) (has k a.taken) ∙ sym (a.at k)
  where
    more : (x y : Bool) → ((x || y) || x) ≡ (x || y)
    more true y = refl
    more false true = refl
    more false false = refl

-- ---- one local

lowers_if : (w : Walk) (k : ℕ) (b : Bool) → flag_at w.flags k ≡ b → Lowered w.flags (lowered_if b k w).flags w.trail (lowered_if b k w).trail
lowers_if w k false is = stays w.flags w.trail
lowers_if w k true is = record {
  taken = k ∷ [];
  trail_is = refl;
  back = set-set w.flags k false true ∙ ap (set w.flags k) (sym is) ∙ set-get_or w.flags k false;
  at = λ j. fact (eqb k j) (flag_at w.flags j) (λ e. ap (flag_at w.flags) (sym (eqb-true k j e)) ∙ is) ∙ ap (λ x. x || (eqb k j || false)) (sym (cleared_at w.flags k j));
  low = λ j h. cleared_at w.flags k j ∙ none (eqb k j) (flag_at w.flags j) h;
}
  where
    fact : (b x : Bool) → (b ≡ true → x ≡ true) → x ≡ ((not b && x) || (b || false))
    fact true x h = h refl
    fact false x h = no_more x

    none : (b x : Bool) → (b || false) ≡ true → (not b && x) ≡ false
    none true x h = refl
    none false x h = absurd (true≢false (sym h))

lowers : (w : Walk) (o : Option ℕ) → Lowered w.flags (lowered o w).flags w.trail (lowered o w).trail
lowers w None = stays w.flags w.trail
lowers w (Some k) = lowers_if w k (flag_at w.flags k) refl

lowered_set : (w : Walk) (o : Option ℕ) (j : ℕ) → flag_at (lowered o w).flags j ≡ without o (Set w.flags) j
lowered_set w None j = refl
lowered_set w (Some k) j = by (flag_at w.flags k) refl
  where
    keep : (b x : Bool) → (b ≡ true → x ≡ false) → x ≡ (not b && x)
    keep true x h = h refl
    keep false x h = refl

    by : (b : Bool) → flag_at w.flags k ≡ b → flag_at (lowered_if b k w).flags j ≡ (not (eqb k j) && flag_at w.flags j)
    by true is = cleared_at w.flags k j
    by false is = keep (eqb k j) (flag_at w.flags j) (λ e. ap (flag_at w.flags) (sym (eqb-true k j e)) ∙ is)

lowered_line : (w : Walk) (o : Option ℕ) → (lowered o w).line ≡ w.line
lowered_line w None = refl
lowered_line w (Some k) = by (flag_at w.flags k)
  where
    by : (b : Bool) → (lowered_if b k w).line ≡ w.line
    by true = refl
    by false = refl

-- ---- many locals

lowers_all : (ks : List ℕ) (w : Walk) → Lowered w.flags (lowered_all ks w).flags w.trail (lowered_all ks w).trail
lowers_all [] w = stays w.flags w.trail
lowers_all (k ∷ ks) w =
    let next = lowered (Some k) w in
    then_lowered w.flags next.flags (lowered_all ks next).flags w.trail next.trail (lowered_all ks next).trail (lowers w (Some k)) (lowers_all ks next)

all_lines : (ks : List ℕ) (w : Walk) → (lowered_all ks w).line ≡ w.line
all_lines [] w = refl
all_lines (k ∷ ks) w = all_lines ks (lowered (Some k) w) ∙ lowered_line w (Some k)

all_flags : (ks : List ℕ) (w : Walk) (j : ℕ) → flag_at (lowered_all ks w).flags j ≡ (flag_at w.flags j && not (has j ks))
all_flags [] w j = same (flag_at w.flags j)
  where
    same : (x : Bool) → x ≡ (x && true)
    same true = refl
    same false = refl
all_flags (k ∷ ks) w j = all_flags ks (lowered (Some k) w) j ∙ ap (λ x. x && not (has j ks)) (lowered_set w (Some k) j) ∙ same (eqb k j) (flag_at w.flags j) (has j ks)
  where
    same : (b x h : Bool) → ((not b && x) && not h) ≡ (x && not (b || h))
    same true true h = refl
    same true false h = refl
    same false x h = refl

has_unflagged : (flags : List Bool) (ks : List ℕ) (j : ℕ) → has j (unflagged flags ks) ≡ (has j ks && not (flag_at flags j))
has_unflagged flags [] j = refl
has_unflagged flags (k ∷ ks) j = by (flag_at flags k) refl (has_unflagged flags ks j)
  where
    and_false : (h : Bool) → (h && false) ≡ false
    and_false true = refl
    and_false false = refl

    drops : (b h x : Bool) → (b ≡ true → x ≡ true) → (h && not x) ≡ ((b || h) && not x)
    drops true h x l = ap (λ y. h && not y) (l refl) ∙ and_false h ∙ sym (ap not (l refl))
    drops false h x l = refl

    keeps : (b h x : Bool) → (b ≡ true → x ≡ false) → (b || (h && not x)) ≡ ((b || h) && not x)
    keeps true h x l = sym (ap not (l refl))
    keeps false h x l = refl

    at_k : (b : Bool) → flag_at flags k ≡ b → eqb k j ≡ true → flag_at flags j ≡ b
    at_k b is e = ap (flag_at flags) (sym (eqb-true k j e)) ∙ is

    by : (b : Bool) → flag_at flags k ≡ b → has j (unflagged flags ks) ≡ (has j ks && not (flag_at flags j)) →
        has j (unflagged_before b k (unflagged flags ks)) ≡ ((eqb k j || has j ks) && not (flag_at flags j))
    by true is rest = rest ∙ drops (eqb k j) (has j ks) (flag_at flags j) (at_k true is)
    by false is rest = ap (λ x. eqb k j || x) rest ∙ keeps (eqb k j) (has j ks) (flag_at flags j) (at_k false is)

-- ---- taking back

undone_flags : (w : Walk) (flags : List Bool) (trail : List ℕ) → Lowered flags w.flags trail w.trail → (undone (length trail) w).flags ≡ flags
undone_flags w flags trail h =
    ap (λ (t : List ℕ). raised (drop (length trail) t) w.flags) h.trail_is ∙ ap (λ (t : List ℕ). raised t w.flags) (drop-append_seam trail h.taken) ∙ h.back

undone_trail : (w : Walk) (flags : List Bool) (trail : List ℕ) → Lowered flags w.flags trail w.trail → (undone (length trail) w).trail ≡ trail
undone_trail w flags trail h = ap (take (length trail)) h.trail_is ∙ take-append_seam trail h.taken

undone_lowered : (w : Walk) (flags : List Bool) (trail : List ℕ) → Lowered flags w.flags trail w.trail →
    Lowered flags (undone (length trail) w).flags trail (undone (length trail) w).trail
undone_lowered w flags trail h =
    same_lowered flags (undone (length trail) w).flags trail (undone (length trail) w).trail (undone_flags w flags trail h) (undone_trail w flags trail h)

-- ---- lines

line_then : (a b c : Option ℕ) → first_line (first_line a b) c ≡ first_line a (first_line b c)
line_then None b c = refl
line_then (Some line) b c = refl

line_then_two : (a b c d : Option ℕ) → first_line (first_line (first_line a b) c) d ≡ first_line a (first_line b (first_line c d))
line_then_two None b c d = line_then b c d
line_then_two (Some line) b c d = refl

line_none : (a : Option ℕ) → a ≡ first_line a None
line_none None = refl
line_none (Some line) = refl

-- ---- two arms

-- flags before, behind the first arm, behind the second; whether the first one assigned it
both_assigned : (f g h t : Bool) → f ≡ (g || t) → (t ≡ true → g ≡ false) → (f || h) ≡ f → (f && not (t && not h)) ≡ (g || h)
both_assigned f true h true at low more = absurd (true≢false (low refl))
both_assigned f false true true at low more = ap (λ x. x && true) at
both_assigned f false false true at low more = ap (λ x. x && false) at
both_assigned f true h false at low more = ap (λ x. x && true) at
both_assigned f false h false at low more = ap (λ x. x && true) at ∙ sym (sym (ap (λ x. x || h) at) ∙ more ∙ at)

-- ---- statements

record Walks (locals : List Text) (w : Walk) (s : Statement) (v : Walk) : Type 0 where
  lowers : Lowered w.flags v.flags w.trail v.trail
  stale : Set v.flags ≡ behind locals (Set w.flags) s
  read : v.line ≡ first_line w.line (read_in locals (Set w.flags) s)

record AllWalk (locals : List Text) (w : Walk) (ss : Statements) (v : Walk) : Type 0 where
  lowers : Lowered w.flags v.flags w.trail v.trail
  stale : Set v.flags ≡ behind_all locals (Set w.flags) ss
  read : v.line ≡ first_line w.line (read_within locals (Set w.flags) ss)

-- behind a condition, and a body behind which is stale what was so before
conditional : (locals : List Text) (w : Walk) (condition : Expression) (s : Statement) (v : Walk) → Walks locals (reading locals w condition) s v →
    (undone (length w.trail) v).line ≡ first_line w.line (first_line (read_of locals (Set w.flags) condition) (read_in locals (Set w.flags) s))
conditional locals w condition s v a =
    a.read ∙ line_then w.line (read_by locals w.flags condition) (read_in locals (Set w.flags) s)
    ∙ ap (λ (x : Option ℕ). first_line w.line (first_line x (read_in locals (Set w.flags) s))) (read_is locals w.flags condition)

module _ (locals : List Text) (w : Walk) (condition_at : Place) (condition : Expression) (taken other : Statement) (v x : Walk)
    (first : Walks locals (reading locals w condition) taken v) (second : Walks locals (undone (length w.trail) v) other x) where
  abbrev u : Walk
  u = undone (length w.trail) v

  abbrev seen : List ℕ
  seen = drop (length w.trail) v.trail

  abbrev both : List ℕ
  both = unflagged x.flags seen

  abbrev end : Walk
  end = lowered_all both (undone (length w.trail) x)

  back : u.flags ≡ w.flags
  back = undone_flags v w.flags w.trail first.lowers

  from_w : Lowered w.flags x.flags w.trail x.trail
  from_w =
      subst (λ (f : List Bool). Lowered f x.flags w.trail x.trail) back
      (subst (λ (t : List ℕ). Lowered u.flags x.flags t x.trail) (undone_trail v w.flags w.trail first.lowers) second.lowers)

  seen_is : seen ≡ first.lowers.taken
  seen_is = ap (drop (length w.trail)) first.lowers.trail_is ∙ drop-append_seam w.trail first.lowers.taken

  both_has : (k : ℕ) → has k both ≡ (has k first.lowers.taken && not (flag_at x.flags k))
  both_has k = has_unflagged x.flags seen k ∙ ap (λ (t : List ℕ). has k t && not (flag_at x.flags k)) seen_is

  arms : (k : ℕ) → flag_at end.flags k ≡ (flag_at v.flags k || flag_at x.flags k)
  arms k =
      all_flags both (undone (length w.trail) x) k ∙ (λ i. flag_at (undone_flags x w.flags w.trail from_w i) k && not (both_has k i))
      ∙ both_assigned (flag_at w.flags k) (flag_at v.flags k) (flag_at x.flags k) (has k first.lowers.taken) (first.lowers.at k) (first.lowers.low k)
      (still w.flags x.flags w.trail x.trail from_w k)

  other_stale : Set x.flags ≡ behind locals (Set w.flags) other
  other_stale = second.stale ∙ ap (λ (s : LocalSet). behind locals s other) (λ i k. flag_at (back i) k)

  either_walk : Walks locals w (if_else condition_at condition taken other) end
  either_walk = record {
    lowers =
        then_lowered w.flags (undone (length w.trail) x).flags end.flags w.trail (undone (length w.trail) x).trail end.trail (undone_lowered x w.flags w.trail from_w)
        (lowers_all both (undone (length w.trail) x));
    stale = (λ i k. arms k i) ∙ (λ i k. first.stale i k || other_stale i k);
    read =
        all_lines both (undone (length w.trail) x) ∙ second.read ∙ (λ i. first_line (first.read i) (read_in locals (λ k. flag_at (back i) k) other))
        ∙ line_then_two w.line (read_by locals w.flags condition) (read_in locals (Set w.flags) taken) (read_in locals (Set w.flags) other)
        ∙ ap (λ (l : Option ℕ). first_line w.line (first_line l (first_line (read_in locals (Set w.flags) taken) (read_in locals (Set w.flags) other))))
        (read_is locals w.flags condition);
  }

mutual
  walk_is : (locals : List Text) (w : Walk) (s : Statement) → Walks locals w s (walked locals w s)
  walk_is locals w (block at body) = let a = all_walk_is locals w body in record { lowers = a.lowers; stale = a.stale; read = a.read }
  walk_is locals w (if_then at condition taken) =
      let v = walked locals (reading locals w condition) taken in
      let a = walk_is locals (reading locals w condition) taken in
      let back = undone_flags v w.flags w.trail a.lowers in
      record {
        lowers = undone_lowered v w.flags w.trail a.lowers;
        stale = (λ i k. flag_at (back i) k) ∙ (λ i k. sym (still w.flags v.flags w.trail v.trail a.lowers k) i) ∙ (λ i k. flag_at w.flags k || a.stale i k);
        read = conditional locals w condition taken v a;
      }
  walk_is locals w (if_else at condition taken other) =
      let v = walked locals (reading locals w condition) taken in
      let a = walk_is locals (reading locals w condition) taken in
      let u = undone (length w.trail) v in
      either_walk locals w at condition taken other v (walked locals u other) a (walk_is locals u other)
  walk_is locals w (bounded_while at turns condition body) =
      let v = walked locals (reading locals w condition) body in
      let a = walk_is locals (reading locals w condition) body in
      let back = undone_flags v w.flags w.trail a.lowers in
      record { lowers = undone_lowered v w.flags w.trail a.lowers; stale = λ i k. flag_at (back i) k; read = conditional locals w condition body v a }
  walk_is locals w (counting_for at names low closed high step body) =
      let o = number_of locals names.first in
      let first = reading locals w low in
      let next = lowered o first in
      let v = walked locals (reading locals next high) body in
      let a = walk_is locals (reading locals next high) body in
      let back = undone_flags v next.flags next.trail a.lowers in
      let end = undone (length next.trail) v in
      let old : LocalSet = Set w.flags in
      let line : next.line ≡ first_line w.line (read_of locals old low) = lowered_line first o ∙ ap (first_line w.line) (read_is locals w.flags low) in
      let high_is = read_is locals next.flags high in
      record {
        lowers = then_lowered w.flags next.flags end.flags w.trail next.trail end.trail (lowers first o) (undone_lowered v next.flags next.trail a.lowers);
        stale = (λ i k. flag_at (back i) k) ∙ (λ i k. lowered_set first o k i);
        read =
            a.read ∙ (λ i. first_line (first_line (line i) (high_is i)) (read_in locals (Set next.flags) body))
            ∙ line_then_two w.line (read_of locals old low) (read_of locals (Set next.flags) high) (read_in locals (Set next.flags) body)
            ∙ ap (λ (s : LocalSet). first_line w.line (first_line (read_of locals old low) (first_line (read_of locals s high) (read_in locals s body))))
            (λ i k. lowered_set first o k i);
      }
  walk_is locals w (assign at name None value) =
      let o = number_of locals name in
      let first = reading locals (reading_option locals w None) value in
      record {
        lowers = lowers first o;
        stale = λ i k. lowered_set first o k i;
        read =
            lowered_line first o ∙ line_then w.line (read_by_option locals w.flags None) (read_by locals w.flags value)
            ∙ ap (first_line w.line) (read_is locals w.flags value);
      }
  walk_is locals w (assign at name (Some index) value) = record {
    lowers = stays w.flags w.trail;
    stale = refl;
    read =
        line_then w.line (read_by locals w.flags index) (read_by locals w.flags value)
        ∙ (λ i. first_line w.line (first_line (read_is locals w.flags index i) (read_is locals w.flags value i)));
  }
  walk_is locals w (output at value) = record { lowers = stays w.flags w.trail; stale = refl; read = ap (first_line w.line) (read_is locals w.flags value) }
  walk_is locals w (input at name) =
      let o = number_of locals name in
      record { lowers = lowers w o; stale = λ i k. lowered_set w o k i; read = lowered_line w o ∙ line_none w.line }
  walk_is locals w (call at None callee arguments) =
      record { lowers = stays w.flags w.trail; stale = refl; read = ap (first_line w.line) (reads_are locals w.flags arguments) }
  walk_is locals w (call at (Some name) callee arguments) =
      let o = number_of locals name in
      let first = reading_all locals w arguments in
      record {
        lowers = lowers first o;
        stale = λ i k. lowered_set first o k i;
        read = lowered_line first o ∙ ap (first_line w.line) (reads_are locals w.flags arguments);
      }

  all_walk_is : (locals : List Text) (w : Walk) (ss : Statements) → AllWalk locals w ss (all_walked locals w ss)
  all_walk_is locals w no_statements = record { lowers = stays w.flags w.trail; stale = refl; read = line_none w.line }
  all_walk_is locals w (next_statement first rest) =
      let v = walked locals w first in
      let a = walk_is locals w first in
      let b = all_walk_is locals v rest in
      let end = all_walked locals v rest in
      record {
        lowers = then_lowered w.flags v.flags end.flags w.trail v.trail end.trail a.lowers b.lowers;
        stale = b.stale ∙ ap (λ (s : LocalSet). behind_all locals s rest) a.stale;
        read =
            b.read ∙ (λ i. first_line (a.read i) (read_within locals (a.stale i) rest))
            ∙ line_then w.line (read_in locals (Set w.flags) first) (read_within locals (behind locals (Set w.flags) first) rest);
      }

-- ---- the body of a loop

-- the first read of a carried local is found by a walk
pub carried_is : (names locals : List Text) (w : Walk) (n : ℕ) (body : Statement) → names ≡ locals → w.flags ≡ replicate n false → n ≡ length locals → w.line ≡ None →
    (walked names (started names w body) body).line ≡ carried_in locals body
carried_is names locals w n body same none count line =
    (λ i. (walked (same i) (started (same i) w body) body).line) ∙ (walk_is locals (started locals w body) body).read
    ∙ (λ i. first_line (line i) (read_in locals (started_is locals w.flags body (none ∙ ap (λ m. replicate m false) count) i) body))
