-- A counting loop is so many turns, one behind the other; so are its tiles, each of which begins with new locals.
use Rattle.std.proofs.Common.{◌≡◌, ℕ, zero, suc, ◌+◌, ◌*◌, ◌<◌, ◌≤◌, Bool, true, false, cond, ◌||◌, List, [], length, refl, ap, sym, ◌∙◌, subst, arith, None, Ok, Err, eqb, ltb}
use Rattle.std.specs.Prelude.{ℤ, pos, ◌+ℤ◌, ◌≤ℤ◌, int_lt, slice_index}
use Rattle.prem_tiling.proofs.Prelude.{Around, in_statement, Outcome, and_then, Access, resolve_statement, Steps, Done, ProgramState, MarkedCall, Calls, choose, with_local, int_local}
use Rattle.prem_tiling.proofs.Prelude.{loop_step, counting, run, Text, Statement, assigns, LocalSet, stale_first, behind, carried_in, has_call, value_in, word_of, Int, lt-ltb, le-ltb, ints}
use Rattle.prem_tiling.proofs.Prelude.{length-set, get_or-set_same}
use Rattle.prem_tiling.proofs.LawsLemmas.Joint.{Joint, fine, wrong, joint_then, joint_mapped}
use Rattle.prem_tiling.proofs.LawsLemmas.Numbers.{small_is_itself, word_is_itself, next_value}
use Rattle.prem_tiling.proofs.LawsLemmas.Tied.{neither_left, neither_right, index-set_other, set_alike, Numbered, bare, Tied}
use Rattle.prem_tiling.proofs.LawsLemmas.Turn.{behind_less, statement_tied}

-- ---- so many turns

abbrev pub laps : ℕ → (ProgramState → Outcome ProgramState) → ProgramState → Outcome ProgramState
laps zero turn s = Ok s
laps (suc m) turn s = and_then (turn s) (laps m turn)

then_assoc : {A B C : Type 0} (o : Outcome A) (f : A → Outcome B) (g : B → Outcome C) → and_then o (λ x. and_then (f x) g) ≡ and_then (and_then o f) g
then_assoc (Ok x) f g = refl
then_assoc (Err line) f g = refl

pub laps_add : (m n : ℕ) (turn : ProgramState → Outcome ProgramState) (s : ProgramState) → laps (m + n) turn s ≡ and_then (laps m turn s) (laps n turn)
laps_add zero n turn s = let e : 0 + n ≡ n = omega arith in ap (λ k. laps k turn s) e
laps_add (suc m) n turn s =
    let e : suc m + n ≡ suc (m + n) = omega arith in
    ap (λ k. laps k turn s) e ∙ ap (and_then (turn s)) (λ i u. laps_add m n turn u i) ∙ then_assoc (turn s) (laps m turn) (laps n turn)

-- a counting loop with turns enough does those in which its test holds; what holds before turn j is told by j
pub counting_laps : (I : ℕ → ProgramState → Type 0) (test : ProgramState → Outcome Bool) (turn : ProgramState → Outcome ProgramState) (end : ℕ) →
    ((j : ℕ) (u : ProgramState) → I j u → test u ≡ Ok (ltb j end)) → ((j : ℕ) (u v : ProgramState) → I j u → turn u ≡ Ok v → I (j + 1) v) →
    (line most m j : ℕ) (u : ProgramState) → m ≤ most → j + m ≡ end → I j u → counting line most test turn u ≡ laps m turn u
unfolding counting
counting_laps I test turn end tests turns line most zero j u enough ends i = by most
  where
    no : test u ≡ Ok false
    no = tests j u i ∙ ap Ok (le-ltb j end (omega arith))

    by : (most : ℕ) → counting line most test turn u ≡ Ok u
    by zero = ap (λ r. and_then r (λ go. choose go (λ t. Err line) Ok u)) no
    by (suc most) = ap (λ r. and_then r (λ go. choose go (λ t. and_then (turn t) (counting line most test turn)) Ok u)) no
counting_laps I test turn end tests turns line zero (suc m) j u enough ends i = absurd (omega arith)
counting_laps I test turn end tests turns line (suc most) (suc m) j u enough ends i =
    ap (λ r. and_then r (λ go. choose go (λ t. and_then (turn t) (counting line most test turn)) Ok u)) (tests j u i ∙ ap Ok (lt-ltb j end (omega arith)))
    ∙ by (turn u) (λ v is. counting_laps I test turn end tests turns line most m (j + 1) v (omega arith) (omega arith) (turns j u v i is))
  where
    by : (o : Outcome ProgramState) → ((v : ProgramState) → o ≡ Ok v → counting line most test turn v ≡ laps m turn v) → and_then o (counting line most test turn) ≡ and_then o (laps m turn)
    by (Err l) next = refl
    by (Ok v) next = next v refl

pub laps_joint : (R : ℕ → ProgramState → ProgramState → Type 0) (turn turn' : ProgramState → Outcome ProgramState) → ((j : ℕ) (u v : ProgramState) → R j u v → Joint (R (j + 1)) (turn u) (turn' v)) →
    (m j : ℕ) (u v : ProgramState) → R j u v → Joint (R (j + m)) (laps m turn u) (laps m turn' v)
laps_joint R turn turn' one zero j u v r = fine (let e : j ≡ j + 0 = omega arith in subst (λ k. R k u v) e r)
laps_joint R turn turn' one (suc m) j u v r =
    joint_then (laps m turn) (laps m turn') (one j u v r)
    (λ x y s. let e : j + 1 + m ≡ j + suc m = omega arith in joint_mapped (laps_joint R turn turn' one m (j + 1) x y s) (λ a b t. subst (λ k. R k a b) e t))

-- ---- the loop of a function that has tiles

-- its body breaks no rule, calls nothing and carries no local; its variable is a local that the body leaves alone
pub record Cuttable (around : Around) (locals : List Text) (body : Statement) (k step : ℕ) (base : List ℕ) : Type 0 where
  pub numbered : Numbered around.scope locals
  pub uncalled : has_call body ≡ false
  pub formed : in_statement around body ≡ []
  pub uncarried : carried_in locals body ≡ None
  pub alone : assigns locals k body ≡ false
  pub there : k < length base

module _ (around : Around) (locals : List Text) (body : Statement) (k step low : ℕ) (base : List ℕ)
    (cuttable : Cuttable around locals body k step base) (turns : ℕ → ℕ) (n line : ℕ) (may : Access) (calls calls' : Calls) where
  abbrev pub body_steps : Steps
  body_steps = resolve_statement around.scope turns n body Done

  abbrev pub turn_by : Calls → ProgramState → Outcome ProgramState
  turn_by c u = and_then (run may c body_steps u) (loop_step line k step)

  -- the locals that the body assigns
  abbrev own : LocalSet
  own = stale_first locals body

  -- before turn j: two states differ in what the body assigns alone; of the first one's locals the others, but for the variable, are as in a list
  pub record Lap (ms ns : List MarkedCall) (j : ℕ) (u v : ProgramState) : Type 0 where
    pub same : bare u ≡ bare v
    pub left : u.marks ≡ ms
    pub right : v.marks ≡ ns
    pub long : length u.locals ≡ length v.locals
    pub size : length u.locals ≡ length base
    pub alike : (i : ℕ) → own i ≡ false → slice_index u.locals i ≡ slice_index v.locals i
    pub kept : (i : ℕ) → (eqb k i || own i) ≡ false → slice_index u.locals i ≡ slice_index base i
    pub at : slice_index u.locals k ≡ low + step * j
    pub small : low + step * j ≤ 2147483647

  abbrev stepped_to : ℤ → ProgramState → Outcome ProgramState
  stepped_to z s = cond (int_lt (pos 2147483647) z) (Err line) (Ok (with_local k (word_of z) s))

  abbrev Behind : (ms ns : List MarkedCall) → ProgramState → ProgramState → ProgramState → Type 0
  Behind ms ns u x y = Tied u.locals own ms ns (behind locals own body) x y

  next_lap : (ms ns : List MarkedCall) (j : ℕ) (u v x y : ProgramState) → Lap ms ns j u v → Behind ms ns u x y → (z : ℤ) → z ≡ pos (low + step * (j + 1)) → low + step * (j + 1) ≤ 2147483647 →
      Lap ms ns (j + 1) (with_local k (word_of z) x) (with_local k (word_of z) y)
  next_lap ms ns j u v x y lap t z is most =
      let w = word_of z in
      let size : length x.locals ≡ length base = t.size ∙ lap.size in
      let there = cuttable.there in
      record {
        same = t.same;
        left = t.left;
        right = t.right;
        long = length-set x.locals k w ∙ t.long ∙ sym (length-set y.locals k w);
        size = length-set x.locals k w ∙ size;
        alike = λ i e. set_alike x.locals y.locals k i w t.long (λ other. t.alike i (behind_less locals body own i e));
        kept = λ i e. index-set_other x.locals k i w (neither_left (eqb k i) (own i) e) ∙ t.kept i (neither_right (eqb k i) (own i) e) ∙ lap.kept i e;
        at = get_or-set_same x.locals k w 0 (omega arith) ∙ ap word_of is ∙ word_is_itself (low + step * (j + 1)) most;
        small = most;
      }

  turn_stepped : (ms ns : List MarkedCall) (j : ℕ) (u v x y : ProgramState) → Lap ms ns j u v → Behind ms ns u x y → Joint (Lap ms ns (j + 1)) (loop_step line k step x) (loop_step line k step y)
  turn_stepped ms ns j u v x y lap t =
      let z = int_local k x +ℤ pos step in
      let is : z ≡ pos (low + step * (j + 1)) = ap (λ i. i +ℤ pos step) (ap (value_in Int) (t.kept k cuttable.alone ∙ lap.at) ∙ small_is_itself (low + step * j) lap.small) ∙ next_value low step j in
      let other : z ≡ (int_local k y +ℤ pos step) = ap (λ w. value_in Int w +ℤ pos step) (t.alike k (behind_less locals body own k cuttable.alone)) in
      subst (λ (b : ℤ). Joint (Lap ms ns (j + 1)) (stepped_to z x) (stepped_to b y)) other (by (int_lt (pos 2147483647) z) refl is)
    where
      by : {z : ℤ} (b : Bool) → int_lt (pos 2147483647) z ≡ b → z ≡ pos (low + step * (j + 1)) →
          Joint (Lap ms ns (j + 1)) (cond b (Err line) (Ok (with_local k (word_of z) x))) (cond b (Err line) (Ok (with_local k (word_of z) y)))
      by true past is = wrong line
      by {z} false past is = fine (next_lap ms ns j u v x y lap t z is
          (let most : pos (low + step * (j + 1)) ≤ℤ pos 2147483647 = subst (λ x. x ≤ℤ pos 2147483647) is (omega (arith, ints, past)) in omega (arith, ints)))

  pub turn_lap : (ms ns : List MarkedCall) (j : ℕ) (u v : ProgramState) → Lap ms ns j u v → Joint (Lap ms ns (j + 1)) (turn_by calls u) (turn_by calls' v)
  turn_lap ms ns j u v lap =
      joint_then (loop_step line k step) (loop_step line k step)
      (statement_tied around locals cuttable.numbered turns may calls calls' u.locals own ms ns (Behind ms ns u) body n Done own
      (record { alone = cuttable.uncalled; formed = cuttable.formed; unread = cuttable.uncarried; moves = λ i e. e }) (λ a b t. fine t) u v
      (record { same = lap.same; left = lap.left; right = lap.right; long = lap.long; size = refl; alike = lap.alike; kept = λ i e. refl }))
      (λ x y t. turn_stepped ms ns j u v x y lap t)
