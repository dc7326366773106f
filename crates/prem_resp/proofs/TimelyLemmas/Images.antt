-- Compiled tasks at lawful places meet their deadlines.
use Rattle.std.proofs.Common.{◌≡◌, ℕ, zero, suc, ◌+◌, ◌<◌, refl, ap, ◌∙◌, sym, arith, List, [], ◌∷◌, length, map, get_or}
use Rattle.std.proofs.lemmas.List.{length-map}
use Rattle.prem_layout.specs.Image.{task_record}
use Rattle.prem_layout.specs.Placed.{Placed, placed_from}
use Rattle.prem_sets_sound.specs.StubLaws.Own.Owned.{own_of, setup_of}
use Rattle.prem_sets_sound.specs.StubLaws.Initial.Initial.{content_of}
use Rattle.prem_sets_sound.specs.StubLaws.JoinedRuns.Joined.{JobLimits}
use Rattle.prem_sets_sound.specs.TaskLaws.TaskFrame.Limits.{task_limits}
use Rattle.prem_sets_sound.specs.ImagePremises.Accepted.{limits_at, no_limits}
use Rattle.prem_sets_sound.specs.TaskRuns.Joins.{task_longest}
use Rattle.prem_sets_sound.proofs.ImagePremisesLemmas.Whole.{laid_out_images_join}
use Rattle.prem_resp.specs.declared.busy.load.Load.{Load}
use Rattle.prem_resp.specs.Busy.Busy.{no_load}
use Rattle.prem_resp.specs.Timely.Timely.{load_of, loads_of, longest_at, LaidOutSetsMeetDeadlines}
use Rattle.prem_resp.proofs.TimedLemmas.Images.{joined_images_meet_deadlines}

-- ---- tasks at their places

pub get_mapped : {A B : Type 0} (f : A → B) (xs : List A) (k : ℕ) (x : A) (z : B) → k < length xs → get_or (map f xs) k z ≡ f (get_or xs k x)
get_mapped f [] k x z lt = absurd (omega (arith, lt))
get_mapped f (y ∷ ys) zero x z lt = refl
get_mapped f (y ∷ ys) (suc k) x z lt = get_mapped f ys k x z (omega (arith, lt))

pub one_of : {A : Type 0} (xs : List A) (k : ℕ) → k < length xs → A
one_of [] k lt = absurd (omega (arith, lt))
one_of (x ∷ xs) k lt = x

pub laid_out_sets_meet_deadlines : LaidOutSetsMeetDeadlines
laid_out_sets_meet_deadlines rule order passes p devices tasks places promises policy laid each =
    let placed : List Placed = placed_from p places tasks in
    let joined = laid_out_images_join passes p devices tasks places promises laid (λ inputs i k lt. (each inputs i k lt).joins) in
    let long : length (map task_record (placed_from p places tasks)) ≡ length (placed_from p places tasks) = length-map (placed_from p places tasks) task_record in
    let same : length (loads_of p (placed_from p places tasks)) ≡ length (placed_from p places tasks) = length-map (placed_from p places tasks) (load_of p) in
    joined_images_meet_deadlines rule order passes (setup_of p devices places tasks) (content_of p places tasks) (own_of tasks places)
    (limits_at p (placed_from p places tasks)) (longest_at p (placed_from p places tasks)) promises _ (loads_of p (placed_from p places tasks))
    policy joined each
    (record {
      count = same ∙ sym long;
      period = λ k lt.
          let lk : k < length (placed_from p places tasks) = less k _ _ lt long in
          let t : Placed = one_of (placed_from p places tasks) k lk in
          ap (λ (x : Load). x.period) (get_mapped (load_of p) (placed_from p places tasks) k t no_load lk) ∙ sym (ap (λ x. x.period) (get_mapped task_record (placed_from p places tasks) k t _ lk));
      cost = λ k lt.
          let lk : k < length (placed_from p places tasks) = less k _ _ lt long in
          let t : Placed = one_of (placed_from p places tasks) k lk in
          ap (λ (x : Load). x.cost) (get_mapped (load_of p) (placed_from p places tasks) k t no_load lk)
          ∙ sym (ap (λ (x : JobLimits). x.cycles) (get_mapped (task_limits p) (placed_from p places tasks) k t no_limits lk));
      longest_is = λ k lt.
          let lk : k < length (placed_from p places tasks) = less k _ _ lt long in
          let t : Placed = one_of (placed_from p places tasks) k lk in
          ap (λ (x : Load). x.longest) (get_mapped (load_of p) (placed_from p places tasks) k t no_load lk)
          ∙ ap (λ n. p.switch + n) (sym (get_mapped (task_longest p) (placed_from p places tasks) k t 0 lk));
    }) where
      less : (k n m : ℕ) → k < n → n ≡ m → k < m
      less k n m lt e = omega (arith, lt, e)
