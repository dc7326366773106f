-- Courses of runs, with marked calls, go together as divisions do.
use Rattle.std.proofs.Common.{pos, ◌≡◌, ℕ, zero, suc, ◌+◌, refl, ap, ◌∙◌, sym, subst, arith, true, List, [], ◌∷◌, ◌++◌, append-nil}
use Rattle.prem_wcet_laws.proofs.Prelude.{run-followed, choose_both, Pieces, followed, size_of, Setting, Calls, Ending, Falls, Returns, Stuck, with_trace, then_run, Loop, left_loop}
use Rattle.prem_wcet_laws.proofs.Prelude.{run_turns, run, TaskState, Did, Jalr, PmMem, taken, path_joined, job_weight, Takes, Cuts, chained, taking, sums_of_path, Plant, PathCount, quiet}
use Rattle.prem_wcet_laws.proofs.Prelude.{then_count, turned_count, IsNoMore, Division, ends, alone, together, section, joined, steps_of, charge_of, path_of, count_of, lone_charge}
use Rattle.prem_wcet_laws.proofs.Prelude.{scope_charge, IsDivision, IsCourse, Divides, RunDivides, Courses, RunCourses}
use Rattle.prem_asm.specs.Runs.{choose}
use Rattle.prem_wcet_laws.proofs.Counting.{same_count, no_more_then, quiet_more, then_no_more, count_is, then_assoc, quiet_then, by_same, grows, turned_out, turned_next}
use Rattle.prem_wcet_laws.proofs.Divide.{joined_steps, joined_charge, joined_loose}

module _ (p : Plant) (Marked : List Did → ℕ → Type 0) where
  course_keeps : (x y : Division) → IsCourse Marked p.line x → IsCourse Marked p.line y → IsCourse Marked p.line (joined x y)
  course_keeps ends y h k = k
  course_keeps (alone d rest) y h k = course_keeps rest y h k
  course_keeps (together lines steps rest) y h k = (h.0, course_keeps rest y h.1 k)
  course_keeps (section steps weight rest) y h k = (h.0, course_keeps rest y h.1 k)

  -- a division is a course
  pub is_course : (x : Division) → IsDivision p.line x → IsCourse Marked p.line x
  is_course ends h = tt
  is_course (alone d rest) h = is_course rest h
  is_course (together lines steps rest) h = (h.0, is_course rest h.1)
  is_course (section steps weight rest) h = absurd h

  -- what it counts without marked calls, and one behind another
  quiet_path : (x : Division) → IsDivision p.line x → sums_of_path (path_of p x) ≡ taking (charge_of p x)
  quiet_path ends h = refl
  quiet_path (alone d rest) h = ap (chained (taking (lone_charge p d))) (quiet_path rest h) ∙ taken (lone_charge p d) (charge_of p rest)
  quiet_path (together lines steps rest) h = ap (chained (taking (scope_charge p lines steps))) (quiet_path rest h.1) ∙ taken (scope_charge p lines steps) (charge_of p rest)
  quiet_path (section steps weight rest) h = absurd h

  joined_path : (x y : Division) → path_of p (joined x y) ≡ path_of p x ++ path_of p y
  joined_path ends y = refl
  joined_path (alone d rest) y = ap (λ es. Takes (lone_charge p d) ∷ es) (joined_path rest y)
  joined_path (together lines steps rest) y = ap (λ es. Takes (scope_charge p lines steps) ∷ es) (joined_path rest y)
  joined_path (section steps weight rest) y = ap (λ es. Takes (job_weight p PmMem) ∷ Cuts ∷ Takes (job_weight p (Jalr 0 4 (pos 0))) ∷ es) (joined_path rest y)

  joined_count : (x y : Division) → count_of p (joined x y) ≡ then_count (count_of p x) (count_of p y)
  joined_count x y = count_is _ _ (joined_charge p x y) (ap sums_of_path (joined_path x y) ∙ path_joined (path_of p x) (path_of p y))

  pub course_of : (m : ℕ) (steps : List Did) → Divides p m steps → Courses p Marked (quiet m) steps
  course_of m steps h = record {
    division = h.division;
    keeps = is_course h.division h.keeps;
    steps_are = h.steps_are;
    loose = h.loose;
    counted = no_more_then _ (quiet (charge_of p h.division)) (quiet m)
        (by_same (count_is (count_of p h.division) (quiet (charge_of p h.division)) refl (quiet_path h.division h.keeps)))
        (quiet_more (charge_of p h.division) m h.charged);
  }

  pub run_course : (m : ℕ) (o : Ending) → RunDivides p m o → RunCourses p Marked (quiet m) o
  run_course m (Falls t trace) h = course_of m trace h
  run_course m (Returns back t trace) h = course_of m trace h
  run_course m Stuck h = tt

  pub courses_join : (m n : PathCount) (xs ys : List Did) → Courses p Marked m xs → Courses p Marked n ys → Courses p Marked (then_count m n) (xs ++ ys)
  courses_join m n xs ys h k = record {
    division = joined h.division k.division;
    keeps = course_keeps h.division k.division h.keeps k.keeps;
    steps_are = ap (λ z. z ++ ys) h.steps_are ∙ ap (λ z. steps_of h.division ++ z) k.steps_are ∙ sym (joined_steps p h.division k.division);
    loose = joined_loose p h.division k.division h.loose k.loose;
    counted = no_more_then _ (then_count (count_of p h.division) (count_of p k.division)) (then_count m n) (by_same (joined_count h.division k.division)) (then_no_more _ _ m n h.counted k.counted);
  }

  pub courses_more : (m n : PathCount) (xs : List Did) → IsNoMore m n → Courses p Marked m xs → Courses p Marked n xs
  courses_more m n xs le h = record { division = h.division; keeps = h.keeps; steps_are = h.steps_are; loose = h.loose; counted = no_more_then _ m n h.counted le }

  pub courses_none : Courses p Marked (quiet 0) []
  courses_none = record { division = ends; keeps = tt; steps_are = refl; loose = tt; counted = same_count (quiet 0) }

  -- ---- runs

  pub run_more : (m n : PathCount) (o : Ending) → IsNoMore m n → RunCourses p Marked m o → RunCourses p Marked n o
  run_more m n (Falls t trace) le h = courses_more m n trace le h
  run_more m n (Returns back t trace) le h = courses_more m n trace le h
  run_more m n Stuck le h = tt

  pub run_with : (m n : PathCount) (steps : List Did) (o : Ending) → Courses p Marked m steps → RunCourses p Marked n o → RunCourses p Marked (then_count m n) (with_trace steps o)
  run_with m n steps (Falls t trace) h k = courses_join m n steps trace h k
  run_with m n steps (Returns back t trace) h k = courses_join m n steps trace h k
  run_with m n steps Stuck h k = tt

  -- the run falls through, and what follows divides too
  pub falls_then : (a b : PathCount) (o : Ending) (next : TaskState → Ending) (u : TaskState) (trace : List Did) → o ≡ Falls u trace →
      RunCourses p Marked a o → RunCourses p Marked b (next u) → RunCourses p Marked (then_count a b) (then_run o next)
  falls_then a b o next u trace goes h k =
      subst (λ x. RunCourses p Marked (then_count a b) (then_run x next)) (sym goes) (run_with a b trace (next u) (subst (RunCourses p Marked a) goes h) k)

  -- whatever it does, quiet steps follow
  pub any_then : (a : PathCount) (n : ℕ) (o : Ending) (next : TaskState → Ending) → RunCourses p Marked a o →
      ((u : TaskState) → RunCourses p Marked (quiet n) (next u)) → RunCourses p Marked (then_count a (quiet n)) (then_run o next)
  any_then a n (Falls u trace) next h k = run_with a (quiet n) trace (next u) h (k u)
  any_then a n (Returns back u trace) next h k = courses_more a (then_count a (quiet n)) trace (grows a n) h
  any_then a n Stuck next h k = tt

  -- nothing follows
  pub nothing_then : (a : PathCount) (o : Ending) → RunCourses p Marked a o → RunCourses p Marked a (then_run o (λ u. Falls u []))
  nothing_then a (Falls u trace) h = subst (λ x. Courses p Marked a x) (sym (append-nil trace)) h
  nothing_then a (Returns back u trace) h = h
  nothing_then a Stuck h = tt

  -- two pieces
  pub seq : (s : Setting) (calls : Calls) (a b : PathCount) (whole first rest : Pieces) → whole ≡ followed first rest →
      (at : ℕ) (t u : TaskState) (trace : List Did) → run s calls at first t ≡ Falls u trace →
      RunCourses p Marked a (run s calls at first t) → RunCourses p Marked b (run s calls (at + size_of first) rest u) → RunCourses p Marked (then_count a b) (run s calls at whole t)
  seq s calls a b whole first rest is at t u trace goes h k =
      subst (λ q. RunCourses p Marked (then_count a b) (run s calls at q t)) (sym is)
      (subst (RunCourses p Marked (then_count a b)) (sym (run-followed s calls first rest at t))
      (falls_then a b (run s calls at first t) (run s calls (at + size_of first) rest) u trace goes h k))

  -- ---- loops

  -- behind a part of a loop: where the run falls to, with what holds there
  pub record Part (a : PathCount) (o : Ending) (Next : TaskState → Type 0) : Type 0 where
    pub to : TaskState
    pub trace : List Did
    pub goes : o ≡ Falls to trace
    pub courses : Courses p Marked a trace
    pub next : Next to

  -- a turn counts so much, and the way out
  abbrev pub turn_of : (h b j : ℕ) (y : PathCount) → PathCount
  turn_of h b j y = then_count (quiet (h + b)) (then_count y (quiet j))

  abbrev pub out_of : (h b j : ℕ) → PathCount
  out_of h b j = quiet (h + b + j)

  leaves_less : (h b j : ℕ) (y : PathCount) (r : ℕ) → IsNoMore (then_count (quiet h) (then_count (quiet b) (quiet j))) (turned_count r (turn_of h b j y) (out_of h b j))
  leaves_less h b j y r =
      no_more_then _ (out_of h b j) _
      (by_same (ap (then_count (quiet h)) (quiet_then b j) ∙ quiet_then h (b + j) ∙ ap quiet (sums h b j)))
      (turned_out r (turn_of h b j y) (out_of h b j)) where
        sums : (h b j : ℕ) → h + (b + j) ≡ h + b + j
        sums h b j = omega arith

  turns_less : (h b j : ℕ) (y : PathCount) (r : ℕ) →
      IsNoMore (then_count (quiet h) (then_count (quiet b) (then_count y (then_count (quiet j) (turned_count r (turn_of h b j y) (out_of h b j))))))
      (turned_count (suc r) (turn_of h b j y) (out_of h b j))
  turns_less h b j y r =
      let n = turned_count r (turn_of h b j y) (out_of h b j) in
      no_more_then _ (then_count (turn_of h b j y) n) _
      (by_same (sym (then_assoc (quiet h) (quiet b) (then_count y (then_count (quiet j) n))) ∙ ap (λ z. then_count z (then_count y (then_count (quiet j) n))) (quiet_then h b)
      ∙ ap (then_count (quiet (h + b))) (sym (then_assoc y (quiet j) n)) ∙ sym (then_assoc (quiet (h + b)) (then_count y (quiet j)) n)))
      (turned_next r (turn_of h b j y) (out_of h b j))

  pub turns_course : (h b : ℕ) (y : PathCount) (j : ℕ) (l : Loop) (I M : ℕ → TaskState → Type 0) →
      ((r : ℕ) (t : TaskState) → I r t → Part (quiet h) (l.head t) (M r)) → ((t : TaskState) → Courses p Marked (quiet b) (l.enters t)) →
      ((t : TaskState) → Courses p Marked (then_count (quiet b) (quiet j)) (l.leaves t)) →
      ((r : ℕ) (u : TaskState) → M (suc r) u → l.test u ≡ true → Part y (l.body u) (I r)) → ((t : TaskState) → Courses p Marked (quiet j) (l.back t)) →
      (r : ℕ) (t : TaskState) → I r t → RunCourses p Marked (turned_count r (turn_of h b j y) (out_of h b j)) (run_turns r l t)
  unfolding run_turns
  turns_course h b y j l I M heads enters leaves bodies back zero t i =
      let x = heads zero t i in
      let n = turned_count zero (turn_of h b j y) (out_of h b j) in
      subst (λ o. RunCourses p Marked n (then_run o (λ t. choose (l.test t) (λ t. Stuck) (left_loop l) t))) (sym x.goes)
      (choose_both (l.test x.to) (λ t. Stuck) (left_loop l) x.to (λ o. RunCourses p Marked n (with_trace x.trace o))
      (λ e. tt)
      (λ e. run_more _ n (with_trace x.trace (left_loop l x.to)) (leaves_less h b j y zero) (run_with (quiet h) (then_count (quiet b) (quiet j)) x.trace (left_loop l x.to) x.courses (leaves x.to))))
  turns_course h b y j l I M heads enters leaves bodies back (suc r) t i =
      let x = heads (suc r) t i in
      let n = turned_count r (turn_of h b j y) (out_of h b j) in
      let all = turned_count (suc r) (turn_of h b j y) (out_of h b j) in
      subst (λ o. RunCourses p Marked all
      (then_run o (λ t. choose (l.test t) (λ t. with_trace (l.enters t) (then_run (l.body t) (λ t. with_trace (l.back t) (run_turns r l t))))
      (left_loop l) t))) (sym x.goes)
      (choose_both (l.test x.to) (λ t. with_trace (l.enters t) (then_run (l.body t) (λ t. with_trace (l.back t) (run_turns r l t)))) (left_loop l)
      x.to (λ o. RunCourses p Marked all (with_trace x.trace o))
      (λ e. let z = bodies r x.to x.next e in
      run_more _ all (with_trace x.trace (with_trace (l.enters x.to) (then_run (l.body x.to) (λ t. with_trace (l.back t) (run_turns r l t))))) (turns_less h b j y r)
      (run_with (quiet h) (then_count (quiet b) (then_count y (then_count (quiet j) n))) x.trace _ x.courses
      (run_with (quiet b) (then_count y (then_count (quiet j) n)) (l.enters x.to) _ (enters x.to)
      (subst (λ o. RunCourses p Marked (then_count y (then_count (quiet j) n)) (then_run o (λ t. with_trace (l.back t) (run_turns r l t)))) (sym z.goes)
      (run_with y (then_count (quiet j) n) z.trace _ z.courses
      (run_with (quiet j) n (l.back z.to) _ (back z.to) (turns_course h b y j l I M heads enters leaves bodies back r z.to z.next)))))))
      (λ e. run_more _ all (with_trace x.trace (left_loop l x.to)) (leaves_less h b j y (suc r))
      (run_with (quiet h) (then_count (quiet b) (quiet j)) x.trace (left_loop l x.to) x.courses (leaves x.to))))
