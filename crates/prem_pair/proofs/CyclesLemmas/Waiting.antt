-- A core that rests with the token or without it.
use Rattle.std.proofs.Common.{◌≡◌, ℕ, suc, ◌+◌, ◌≤◌, Bool, true, false, cond, List, Option, Some, None, refl, ap, sym, ◌∙◌, subst, arith, All}
use Rattle.std.specs.Prelude.{◌||◌, ◌&&◌, nat_lt, ◌==◌, if◌then◌else◌}
use Rattle.prem_pair.proofs.Prelude.{move_next, passed_by, passed_is, settle_stays, want_passed, move_free, move_wants, not_empty, unpaid, zero_by, finished_none, is_empty, want_of}
use Rattle.prem_pair.proofs.Prelude.{core_pay, Passes, move_chosen, move_in, move_of, at_point, close_interval, ends_before, is_finish, is_finished, is_finished_in, settle, Within}
use Rattle.prem_pair.proofs.Prelude.{core_passed, core_rest, mode_passed, mode_rest, Setup, Work, CoreState, MachineState, Mode, Point, Switching, Running, Idle, is_held, wants, CoreWant}
use Rattle.prem_pair.proofs.Prelude.{No, New, Held, Change, mode_after, core_passed_with, rest_with, waiting_rest, asks, asks_in, frees, frees_in, is_run, move_had, IsReady, choice}
use Rattle.prem_pair.proofs.Prelude.{first_ready, least_release, rest, run_or, TaskJobs, nat_tests}
use Rattle.prem_cycle.specs.Runs.Dull.Dull.{with_switch}
use Rattle.prem_sched.proofs.Choices.{choice_done, first_found, least_none, none_found}
use Rattle.prem_sched.specs.declared.sched.Choice.TheVariants.{Finished}

-- ---- choices at other times

no_run : (l : Option ℕ) → is_run (rest l) ≡ false
no_run None = refl
no_run (Some u) = refl

runs_by : (u : ℕ) (sched : List TaskJobs) (k : ℕ) (o : Option ℕ) → first_ready u 0 sched ≡ o → IsReady u sched k → is_run (run_or o (rest (least_release u sched))) ≡ true
runs_by u sched k (Some j) e r = refl
runs_by u sched k None e r = absurd (none_found u 0 sched e k r)

run_by : (t u : ℕ) (sched : List TaskJobs) (o : Option ℕ) → All (λ j. 1 ≤ j.period) sched → t ≤ u → first_ready t 0 sched ≡ o →
    is_run (run_or o (rest (least_release t sched))) ≡ true → is_run (choice u sched) ≡ true
run_by t u sched (Some j) periods le e r =
    let f = first_found t 0 sched j e in
    runs_by u sched f.place (first_ready u 0 sched) refl (mode_after t u sched (Running f.place) periods le f.ready)
run_by t u sched None periods le e r = absurd (let x : true ≡ false = sym r ∙ no_run (least_release t sched) in cc)

-- where a task is ready, one is ready later
run_later : (t u : ℕ) (sched : List TaskJobs) → All (λ j. 1 ≤ j.period) sched → t ≤ u → is_run (choice t sched) ≡ true → is_run (choice u sched) ≡ true
run_later t u sched periods le r = run_by t u sched (first_ready t 0 sched) periods le refl r

-- all jobs have ended at one time as at another
finish_at : (t u : ℕ) (sched : List TaskJobs) → is_finish (choice t sched) ≡ true → choice u sched ≡ Finished
finish_at t u sched e = choice_done u sched (least_none t sched (finished_none (first_ready t 0 sched) (least_release t sched) e))

same_finish : (t u : ℕ) (sched : List TaskJobs) (a b : Bool) → is_finish (choice t sched) ≡ a → is_finish (choice u sched) ≡ b → b ≡ a
same_finish t u sched true b ea eb = sym eb ∙ ap is_finish (finish_at t u sched ea)
same_finish t u sched false true ea eb = absurd (let x : true ≡ false = sym (ap is_finish (finish_at u t sched eb)) ∙ ea in cc)
same_finish t u sched false false ea eb = refl

same_finished : (t u : ℕ) (sched : List TaskJobs) (mode : Mode) → is_finished_in u sched mode ≡ is_finished_in t sched mode
same_finished t u sched Point = same_finish t u sched (is_finish (choice t sched)) (is_finish (choice u sched)) refl refl
same_finished t u sched (Switching k left) = refl
same_finished t u sched (Running k) = refl
same_finished t u sched (Idle until) = refl

-- ---- what cycles of rest keep

-- a mode, whatever is left of a switch
abbrev kind : Mode → Mode
kind m = with_switch 0 m

asks_kind : (t : ℕ) (sched : List TaskJobs) (m : Mode) → asks_in t sched m ≡ asks_in t sched (kind m)
asks_kind t sched Point = refl
asks_kind t sched (Switching k left) = refl
asks_kind t sched (Running k) = refl
asks_kind t sched (Idle until) = refl

finished_kind : (t : ℕ) (sched : List TaskJobs) (m : Mode) → is_finished_in t sched m ≡ is_finished_in t sched (kind m)
finished_kind t sched Point = refl
finished_kind t sched (Switching k left) = refl
finished_kind t sched (Running k) = refl
finished_kind t sched (Idle until) = refl

frees_kind : (m : Mode) (mark : Change) → frees_in m mark ≡ frees_in (kind m) mark
frees_kind Point mark = refl
frees_kind (Switching k left) mark = refl
frees_kind (Running k) mark = refl
frees_kind (Idle until) mark = refl

record KeepsCore (c d : CoreState) : Type 0 where
  same_kind : kind d.mode ≡ kind c.mode
  want : want_of d.debt ≡ want_of c.debt
  mark : d.mark ≡ c.mark

keeps_mode : (n : ℕ) (c : CoreState) (mode : Mode) → c.mode ≡ mode → KeepsCore c (mode_passed n c mode)
keeps_mode n c Point is = record { same_kind = refl; want = refl; mark = refl }
keeps_mode n c (Switching k left) is = record { same_kind = sym (ap kind is); want = refl; mark = refl }
keeps_mode n c (Running k) is = record { same_kind = refl; want = refl; mark = refl }
keeps_mode n c (Idle until) is = record { same_kind = refl; want = refl; mark = refl }

keeps_by : (b : Bool) (n : ℕ) (c : CoreState) → want_of (passed_by b n c).debt ≡ want_of c.debt → KeepsCore c (passed_by b n c)
keeps_by true n c e = record { same_kind = refl; want = e; mark = refl }
keeps_by false n c e = keeps_mode n c c.mode refl

keeps_passed : (n : ℕ) (c : CoreState) → KeepsCore c (core_passed n c)
keeps_passed n c =
    let b = wants (want_of c.debt) in
    let is = passed_is b n c refl in
    subst (KeepsCore c) (sym is) (keeps_by b n c (sym (ap (λ (x : CoreState). want_of x.debt) is) ∙ want_passed n c))

keeps_if : (b : Bool) (n : ℕ) (c : CoreState) → KeepsCore c (if b then c else core_passed n c)
keeps_if true n c = record { same_kind = refl; want = refl; mark = refl }
keeps_if false n c = keeps_passed n c

keeps_with : (holds : Bool) (n : ℕ) (c : CoreState) → KeepsCore c (core_passed_with holds n c)
keeps_with true n c = keeps_passed n c
keeps_with false n c = keeps_if (wants (want_of c.debt)) n c

pub want_kept : (holds : Bool) (n : ℕ) (c : CoreState) → want_of (core_passed_with holds n c).debt ≡ want_of c.debt
want_kept holds n c = (keeps_with holds n c).want

pub frees_kept : (holds : Bool) (n : ℕ) (c : CoreState) → frees (core_passed_with holds n c) ≡ frees c
frees_kept holds n c =
    let d = core_passed_with holds n c in
    let k = keeps_with holds n c in
    frees_kind d.mode d.mark ∙ ap (λ m. frees_in m d.mark) k.same_kind ∙ sym (frees_kind c.mode d.mark) ∙ ap (frees_in c.mode) k.mark

-- whether it has finished doesn't change
pub finished_kept : (holds : Bool) (n : ℕ) (s : MachineState) → is_finished_in (s.now + n) s.sched (core_passed_with holds n s.core).mode ≡ is_finished s
finished_kept holds n s =
    let d = core_passed_with holds n s.core in
    finished_kind (s.now + n) s.sched d.mode ∙ ap (is_finished_in (s.now + n) s.sched) (keeps_with holds n s.core).same_kind
    ∙ sym (finished_kind (s.now + n) s.sched s.core.mode) ∙ same_finished s.now (s.now + n) s.sched s.core.mode

-- ---- a core without the token

pub data Calm (n : ℕ) (s : MachineState) : Type 0 where
  asking : s.core.mode ≡ Point → is_run (choice s.now s.sched) ≡ true → Calm n s
  done : s.core.mode ≡ Point → is_finish (choice s.now s.sched) ≡ true → Calm n s
  owing : wants (want_of s.core.debt) ≡ true → Within n (waiting_rest s.now s.core.mode) → Calm n s
  alone : wants (want_of s.core.debt) ≡ false → Within n (core_rest s.now s.core) → Calm n s

asks_point : (now : ℕ) (sched : List TaskJobs) (mode : Mode) → asks_in now sched mode ≡ true → (mode ≡ Point) × (is_run (choice now sched) ≡ true)
asks_point now sched Point e = (refl, e)
asks_point now sched (Switching k left) e = absurd (cc)
asks_point now sched (Running k) e = absurd (cc)
asks_point now sched (Idle until) e = absurd (cc)

finished_point : (now : ℕ) (sched : List TaskJobs) (mode : Mode) → is_finished_in now sched mode ≡ true → (mode ≡ Point) × (is_finish (choice now sched) ≡ true)
finished_point now sched Point e = (refl, e)
finished_point now sched (Switching k left) e = absurd (cc)
finished_point now sched (Running k) e = absurd (cc)
finished_point now sched (Idle until) e = absurd (cc)

calm_by : (n : ℕ) (s : MachineState) (a f w : Bool) → asks s ≡ a → is_finished s ≡ f → wants (want_of s.core.debt) ≡ w →
    Within n (if a || f then None else if w then waiting_rest s.now s.core.mode else core_rest s.now s.core) → Calm n s
calm_by n s true f w ea ef ew h = let e = asks_point s.now s.sched s.core.mode ea in asking e.0 e.1
calm_by n s false true w ea ef ew h = let e = finished_point s.now s.sched s.core.mode ef in done e.0 e.1
calm_by n s false false true ea ef ew h = owing ew h
calm_by n s false false false ea ef ew h = alone ew h

calm : (n : ℕ) (s : MachineState) → Within n (rest_with false s) → Calm n s
calm n s h = calm_by n s (asks s) (is_finished s) (wants (want_of s.core.debt)) refl refl refl h

-- ---- its state behind so many cycles

point_by : (b : Bool) (n : ℕ) (c : CoreState) → wants (want_of c.debt) ≡ b → c.mode ≡ Point → (if b then c else core_passed n c) ≡ c
point_by true n c w m = refl
point_by false n c w m = passed_is false n c w ∙ ap (mode_passed n c) m

point_same : (n : ℕ) (c : CoreState) → c.mode ≡ Point → core_passed_with false n c ≡ c
point_same n c m = point_by (wants (want_of c.debt)) n c refl m

owing_same : (n : ℕ) (c : CoreState) → wants (want_of c.debt) ≡ true → core_passed_with false n c ≡ c
owing_same n c w = rw w refl

alone_same : (n : ℕ) (c : CoreState) → wants (want_of c.debt) ≡ false → core_passed_with false n c ≡ core_passed n c
alone_same n c w = rw w refl

-- ---- its move

kept_waiting : (p : Setup) (t : ℕ) (had : Bool) (sched : List TaskJobs) (w : Work) (c : CoreState) (a : Bool) → asks_in t sched c.mode ≡ a →
    move_had false had p t sched w c ≡ cond a (Passes c) (move_of p t had sched w c)
kept_waiting p t had sched w c a e = ap (λ b. cond b (Passes c) (move_of p t had sched w c)) e

denied : (p : Setup) (t : ℕ) (had : Bool) (sched : List TaskJobs) (w : Work) (c : CoreState) (a : Bool) → had ≡ false → wants (want_of c.debt) ≡ true → asks_in t sched c.mode ≡ a →
    move_had false had p t sched w c ≡ Passes c
denied p t had sched w c true e is ea = kept_waiting p t had sched w c true ea
denied p t had sched w c false e is ea =
    kept_waiting p t had sched w c false ea ∙ move_wants p t had sched w c is ∙ ap (λ b. Passes (core_pay b c)) e

done_by : (p : Setup) (t : ℕ) (had : Bool) (sched : List TaskJobs) (w : Work) (c : CoreState) (b : Bool) → had ≡ false → c.mode ≡ Point → choice t sched ≡ Finished → wants (want_of c.debt) ≡ b →
    move_of p t had sched w c ≡ Passes c
done_by p t had sched w c true e m f is = move_wants p t had sched w c is ∙ ap (λ b. Passes (core_pay b c)) e
done_by p t had sched w c false e m f is =
    move_free p t had sched w c is ∙ ap (move_in p t sched w c) m ∙ ap (move_chosen p.plant.switch t w c) f

done_move : (p : Setup) (t : ℕ) (had : Bool) (sched : List TaskJobs) (w : Work) (c : CoreState) → had ≡ false → c.mode ≡ Point → choice t sched ≡ Finished →
    move_had false had p t sched w c ≡ Passes c
done_move p t had sched w c e m f =
    let none : asks_in t sched c.mode ≡ false = ap (asks_in t sched) m ∙ ap is_run f in
    kept_waiting p t had sched w c false none ∙ done_by p t had sched w c (wants (want_of c.debt)) e m f refl

not_asking : (t : ℕ) (sched : List TaskJobs) (mode : Mode) → (mode ≡ Point → ⊥) → asks_in t sched mode ≡ false
not_asking t sched Point f = absurd (f refl)
not_asking t sched (Switching k left) f = refl
not_asking t sched (Running k) f = refl
not_asking t sched (Idle until) f = refl

alone_elsewhere : (n now : ℕ) (c : CoreState) → wants (want_of c.debt) ≡ false → Within (suc n) (core_rest now c) → c.mode ≡ Point → ⊥
alone_elsewhere n now c w h m =
    let in_mode : Within (suc n) (mode_rest now c c.mode) = rw w at h in
    let P : Mode → Type 0 = λ x. Within (suc n) (mode_rest now c x) in
    let none : suc n ≤ 0 = subst P m in_mode in
    omega (arith, none)

owing_elsewhere : (n now : ℕ) (mode : Mode) → Within (suc n) (waiting_rest now mode) → mode ≡ Point → ⊥
owing_elsewhere n now mode h m =
    let P : Mode → Type 0 = λ x. Within (suc n) (waiting_rest now x) in
    let none : suc n ≤ 0 = subst P m h in
    omega (arith, none)

asks_passed : (holds : Bool) (t n : ℕ) (sched : List TaskJobs) (c : CoreState) → asks_in t sched (core_passed_with holds n c).mode ≡ asks_in t sched c.mode
asks_passed holds t n sched c =
    asks_kind t sched (core_passed_with holds n c).mode ∙ ap (asks_in t sched) (keeps_with holds n c).same_kind ∙ sym (asks_kind t sched c.mode)

unheld : (k : CoreWant) → wants k ≡ false → is_held k ≡ false
unheld No e = refl
unheld New e = absurd (cc)
unheld Held e = absurd (cc)

calm_move : (p : Setup) (had : Bool) (n : ℕ) (w : Work) (s : MachineState) → All (λ j. 1 ≤ j.period) s.sched → had ≡ false → Calm (suc n) s →
    move_had false had p (s.now + n) s.sched w (core_passed_with false n s.core) ≡ Passes (core_passed_with false (suc n) s.core)
calm_move p had n w s periods e (asking m r) =
    let later : asks_in (s.now + n) s.sched s.core.mode ≡ true =
    ap (asks_in (s.now + n) s.sched) m ∙ run_later s.now (s.now + n) s.sched periods (omega arith) r in
    ap (move_had false had p (s.now + n) s.sched w) (point_same n s.core m) ∙ kept_waiting p (s.now + n) had s.sched w s.core true later
    ∙ ap Passes (sym (point_same (suc n) s.core m))
calm_move p had n w s periods e (done m f) =
    ap (move_had false had p (s.now + n) s.sched w) (point_same n s.core m) ∙ done_move p (s.now + n) had s.sched w s.core e m (finish_at s.now (s.now + n) s.sched f)
    ∙ ap Passes (sym (point_same (suc n) s.core m))
calm_move p had n w s periods e (owing is h) =
    ap (move_had false had p (s.now + n) s.sched w) (owing_same n s.core is) ∙ denied p (s.now + n) had s.sched w s.core (asks_in (s.now + n) s.sched s.core.mode) e is refl
    ∙ ap Passes (sym (owing_same (suc n) s.core is))
calm_move p had n w s periods e (alone is h) =
    let none : asks_in (s.now + n) s.sched (core_passed_with false n s.core).mode ≡ false =
    asks_passed false (s.now + n) n s.sched s.core ∙ not_asking (s.now + n) s.sched s.core.mode (alone_elsewhere n s.now s.core is h) in
    kept_waiting p (s.now + n) had s.sched w (core_passed_with false n s.core) false none ∙ ap (move_of p (s.now + n) had s.sched w) (alone_same n s.core is)
    ∙ move_next p s.now n had s.sched w s.core (e ∙ sym (unheld (want_of s.core.debt) is)) h ∙ ap Passes (sym (alone_same (suc n) s.core is))

-- the core's part of one more cycle
pub rest_move : (p : Setup) (holds had : Bool) (n : ℕ) (w : Work) (s : MachineState) → All (λ j. 1 ≤ j.period) s.sched →
    had ≡ (holds && is_held (want_of s.core.debt)) → Within (suc n) (rest_with holds s) →
    move_had holds had p (s.now + n) s.sched w (core_passed_with holds n s.core) ≡ Passes (core_passed_with holds (suc n) s.core)
rest_move p true had n w s periods e h = move_next p s.now n had s.sched w s.core e h
rest_move p false had n w s periods e h = calm_move p had n w s periods e (calm (suc n) s h)

-- ---- nothing is over with it

owing_stays : (now n : ℕ) (x : MachineState) (mode : Mode) → wants (want_of x.core.debt) ≡ true → Within (suc n) (waiting_rest now mode) → x.now ≡ now + suc n → settle mode x ≡ x
owing_stays now n x Point w h t = refl
owing_stays now n x (Switching k left) w h t = refl
owing_stays now n x (Running k) w h t =
    ap (λ b. cond b (close_interval k x) x)
    (unpaid (is_empty x.core.debt.transactions) (x.core.debt.cost == 0) (ends_before x.now x.core.interval x.core.mark) (not_empty x.core.debt.begun x.core.debt.transactions w))
owing_stays now n x (Idle until) w h t =
    let e : nat_lt x.now until ≡ true = grind (arith, nat_tests) in
    ap (λ b. cond b x (record x { core = at_point x.core })) e

calm_stays : (n : ℕ) (s x : MachineState) → Calm (suc n) s → x.core ≡ core_passed_with false (suc n) s.core → x.now ≡ s.now + suc n → settle x.core.mode x ≡ x
calm_stays n s x (asking m r) e t = ap (λ (c : CoreState). settle c.mode x) (e ∙ point_same (suc n) s.core m) ∙ ap (λ k. settle k x) m
calm_stays n s x (done m f) e t = ap (λ (c : CoreState). settle c.mode x) (e ∙ point_same (suc n) s.core m) ∙ ap (λ k. settle k x) m
calm_stays n s x (owing is h) e t =
    let same : x.core ≡ s.core = e ∙ owing_same (suc n) s.core is in
    ap (λ (c : CoreState). settle c.mode x) same
    ∙ owing_stays s.now n x s.core.mode (ap (λ (c : CoreState). wants (want_of c.debt)) same ∙ is) h t
calm_stays n s x (alone is h) e t = settle_stays s.now n s.core x h (e ∙ alone_same (suc n) s.core is) t

pub rest_stays : (holds : Bool) (n : ℕ) (s x : MachineState) → Within (suc n) (rest_with holds s) → x.core ≡ core_passed_with holds (suc n) s.core → x.now ≡ s.now + suc n → settle x.core.mode x ≡ x
rest_stays true n s x h e t = settle_stays s.now n s.core x h e t
rest_stays false n s x h e t = calm_stays n s x (calm (suc n) s h) e t

-- ---- whether it asks doesn't change

calm_asks : (n m : ℕ) (s : MachineState) → All (λ j. 1 ≤ j.period) s.sched → Calm (suc n) s → asks_in (s.now + m) s.sched s.core.mode ≡ asks s
calm_asks n m s periods (asking is r) =
    let now : asks s ≡ true = ap (asks_in s.now s.sched) is ∙ r in
    let later : asks_in (s.now + m) s.sched s.core.mode ≡ true = ap (asks_in (s.now + m) s.sched) is ∙ run_later s.now (s.now + m) s.sched periods (omega arith) r in
    later ∙ sym now
calm_asks n m s periods (done is f) =
    let now : asks s ≡ false = ap (asks_in s.now s.sched) is ∙ ap is_run (finish_at s.now s.now s.sched f) in
    let later : asks_in (s.now + m) s.sched s.core.mode ≡ false = ap (asks_in (s.now + m) s.sched) is ∙ ap is_run (finish_at s.now (s.now + m) s.sched f) in
    later ∙ sym now
calm_asks n m s periods (owing is h) =
    let elsewhere = owing_elsewhere n s.now s.core.mode h in
    not_asking (s.now + m) s.sched s.core.mode elsewhere ∙ sym (not_asking s.now s.sched s.core.mode elsewhere)
calm_asks n m s periods (alone is h) =
    let elsewhere = alone_elsewhere n s.now s.core is h in
    not_asking (s.now + m) s.sched s.core.mode elsewhere ∙ sym (not_asking s.now s.sched s.core.mode elsewhere)

pub asks_kept : (holds : Bool) (n m : ℕ) (s : MachineState) → All (λ j. 1 ≤ j.period) s.sched → holds ≡ false → Within (suc n) (rest_with holds s) →
    asks_in (s.now + m) s.sched (core_passed_with holds m s.core).mode ≡ asks s
asks_kept true n m s periods e h = absurd (cc)
asks_kept false n m s periods e h = asks_passed false (s.now + m) m s.sched s.core ∙ calm_asks n m s periods (calm (suc n) s h)

-- ---- no cycle

zero_passed : (c : CoreState) → core_passed 0 c ≡ c
zero_passed c = let b = wants (want_of c.debt) in passed_is b 0 c refl ∙ zero_by c b

zero_if : (b : Bool) (c : CoreState) → (if b then c else core_passed 0 c) ≡ c
zero_if true c = refl
zero_if false c = zero_passed c

pub zero_with : (holds : Bool) (c : CoreState) → core_passed_with holds 0 c ≡ c
zero_with true c = zero_passed c
zero_with false c = zero_if (wants (want_of c.debt)) c
