-- Every answer keeps what it promises.
use Rattle.std.specs.Prelude.{◌&&◌}
use Rattle.std.proofs.Common.{◌≡◌, ◌⊎◌, ℕ, zero, suc, ◌<◌, ◌≤◌, Bool, true, false, List, [], ◌∷◌, ◌++◌, length, map, Option, None, Some, slice_get, Result, Ok, Err, inl, inr, refl}
use Rattle.std.proofs.Common.{ap, ◌∙◌, sym, subst, arith}
use Rattle.std.proofs.lemmas.Bool.{leb-true}
use Rattle.std.proofs.lemmas.List.{length-map}
use Rattle.prem_line.specs.Spelled.{ended}
use Rattle.prem_line.proofs.Chain.{same_Ok}
use Rattle.prem_set.specs.Lawful.{IsSet}
use Rattle.prem_set.specs.declared.fault.SetFail.{SetFail}
use Rattle.prem_set.specs.SetFile.{SetData, set_of as set_of_text}
use Rattle.prem_set.proofs.Lawful.{set_is_lawful}
use Rattle.prem_layout.specs.Image.{task_record}
use Rattle.prem_layout.specs.Rules.{Refusal}
use Rattle.prem_tasks.specs.Told.{Told}
use Rattle.prem_tasks.specs.Broken.{TaskSet, broken}
use Rattle.prem_tasks.specs.Compiled.{placed_in}
use Rattle.prem_sets_sound.specs.ImagePremises.Accepted.{HasValues, setup_in}
use Rattle.prem_answer.specs.declared.answer.Telling.TheVariants.{Whole}
use Rattle.prem_answer.specs.Statuses.{plain_status}
use Rattle.prem_answer.specs.Stages.{Reply, Reads, Stage, reading, replied}
use Rattle.prem_answer.specs.Refusal.Texts.{refusal_line}
use Rattle.prem_exec.specs.Sources.Sources.{reading_set, reading_sources, set_in, set_limit, set_of_bytes}
use Rattle.prem_exec.proofs.SourcesLemmas.Reading.{anything, chain, done_judged, file_outcome, is_judged, refused_judged, set_formed, sources_outcome, IsRight, IsRightFile, Outcome}
use Rattle.prem_answer.specs.declared.status.PlainStatus.TheVariants.{Done, Refused}
use Rattle.prem_resp.specs.declared.busy.length.Busy.{Busy}
use Rattle.prem_resp.specs.declared.busy.length.Busy.TheVariants.{Within, Past}
use Rattle.prem_resp.specs.Lines.{all_within}
use Rattle.prem_resp.specs.Fits.{found_in}
use Rattle.prem_resp.specs.Headline.{SaysFits}
use Rattle.prem_resp.proofs.Endings.{late_is_other}
use Rattle.prem_sets_sound.proofs.Sound.{there}
use Rattle.prem_latency.specs.Wait.{requests_in}
use Rattle.prem_time.specs.declared.devices.Named.{Named}
use Rattle.prem_time.specs.Words.{AreDistances, Asked, Distance}
use Rattle.prem_time.specs.Times.{limit_in, loads_in, told_of, tolds_in}
use Rattle.prem_time.specs.Devices.{DeviceTold, all_held, device_at, device_in, device_told, devices_in, is_held, named_in, unknown_in, wait_in}
use Rattle.prem_time.specs.Lines.{HasLine, device_line, last_line, limit_line, tasks_text}
use Rattle.prem_time.specs.Fits.{IsNamedAt, ServesInTime}
use Rattle.prem_time.specs.Stages.{all_fits, found_reply, judged_reply, set_text, time_reply, time_stages, unknown_line}
use Rattle.prem_time.specs.Headline.{EndsAsTold, IsDeviceTold, IsFirstBroken, IsRead, IsServedAsTold, IsTimely, IsToldAs, IsToldLate, IsToldPast, Keeps, NamesNone, SaysLate, TellsDevice}
use Rattle.prem_time.proofs.Fits.{fitting_sets_end_in_time, late_sets_have_past, one_found, sets_keep_times}
use Rattle.prem_time.proofs.Serving.{late_devices_have_cause, sets_serve_named}
use Rattle.prem_time.proofs.Rows.{device_told as line_of_device, limit_told, task_told}

-- ---- what is read

-- the set is read, and the answer is that to what was read
record SetRead (reads : Reads) (asked : Asked) (given : Reply) : Type 0 where
  set : TaskSet
  read : IsRead reads asked.set set
  goes : time_reply asked.distances set ≡ given

abbrev pub behind_set : List Distance → TaskSet → Stage Reply
behind_set ds set reads = Ok (time_reply ds set)

set_lawful : (name bytes : List ℕ) (r : Result SetData SetFail) → set_of_text bytes ≡ r → (s : SetData) → set_in name r ≡ Ok s → IsSet s
set_lawful name bytes (Ok x) read s is = set_is_lawful bytes s (read ∙ ap Ok (same_Ok x s is))
set_lawful name bytes (Err fail) read s is = absurd cc

set_outcome : (name : List ℕ) (reads : Reads) → Outcome (reading_set name) reads (IsRight anything)
set_outcome name reads =
    chain (reading set_limit name (set_of_bytes name)) (λ s. reading_sources Whole s) reads (IsRightFile anything) (IsRight anything)
    (file_outcome Whole set_limit name (set_of_bytes name) (IsRightFile anything) (λ bytes reply. set_formed Whole name (set_of_text bytes) reply)
    (λ bytes s is. (set_lawful name bytes (set_of_text bytes) refl s is, tt)) reads)
    (sources_outcome Whole anything)

set_read : (asked : Asked) (given : Reply) (reads : Reads) → is_judged given.0 ≡ true → replied (time_stages asked reads) ≡ given → SetRead reads asked given
set_read asked given reads judged is = by (set_outcome asked.set reads) where
  by : Outcome (reading_set asked.set) reads (IsRight anything) → SetRead reads asked given
  by (inl goes) = record {
    set = goes.value;
    read = record { left = goes.left; gives = goes.gives; values = goes.holds.0 };
    goes = ap replied (sym (goes.gives (behind_set asked.distances))) ∙ is;
  }
  by (inr stop) =
      let same : stop.reply ≡ given = sym (ap replied (stop.stops (behind_set asked.distances))) ∙ is in
      let both : false ≡ true = sym stop.unjudged ∙ ap (λ (r : Reply). is_judged r.0) same ∙ judged in
      absurd cc

-- ---- by the first broken rule, and the first device that isn't there

-- it breaks no rule, has each device that is named, and is told
record IsToldSet (ds : List Distance) (set : TaskSet) (given : Reply) : Type 0 where
  unbroken : broken set ≡ None
  known : unknown_in ds set.devices ≡ None
  text_is : given.1 ≡ set_text ds set

record IsBrokenSet (set : TaskSet) (given : Reply) : Type 0 where
  refusal : Refusal Told
  is_first : broken set ≡ Some refusal
  text_is : given.1 ≡ refusal_line set.tasks refusal

record IsUnknownSet (ds : List Distance) (set : TaskSet) (given : Reply) : Type 0 where
  unbroken : broken set ≡ None
  name : List ℕ
  unknown : unknown_in ds set.devices ≡ Some name
  text_is : given.1 ≡ unknown_line name

record Judged (ds : List Distance) (set : TaskSet) (given : Reply) : Type 0 where
  on_done : plain_status given.0 ≡ Done → IsToldSet ds set given
  on_refused : plain_status given.0 ≡ Refused → IsBrokenSet set given ⊎ IsUnknownSet ds set given

known_by : (ds : List Distance) (set : TaskSet) (given : Reply) (unknown : Option (List ℕ)) → broken set ≡ None →
    unknown_in ds set.devices ≡ unknown → found_reply unknown (set_text ds set) ≡ given → Judged ds set given
known_by ds set given None none is goes = record {
  on_done = λ done. record { unbroken = none; known = is; text_is = sym (ap (λ (x : Reply). x.1) goes) };
  on_refused = λ refused. let no : Done ≡ Refused = ap (λ (r : Reply). plain_status r.0) goes ∙ refused in absurd cc;
}
known_by ds set given (Some name) none is goes = record {
  on_done = λ done. let no : Refused ≡ Done = ap (λ (x : Reply). plain_status x.0) goes ∙ done in absurd cc;
  on_refused = λ refused. inr (record { unbroken = none; name = name; unknown = is; text_is = sym (ap (λ (x : Reply). x.1) goes) });
}

judged_by : (ds : List Distance) (set : TaskSet) (given : Reply) (first : Option (Refusal Told)) → broken set ≡ first → judged_reply ds set first ≡ given → Judged ds set given
judged_by ds set given None is goes = known_by ds set given (unknown_in ds set.devices) is refl goes
judged_by ds set given (Some r) is goes = record {
  on_done = λ done. let no : Refused ≡ Done = ap (λ (x : Reply). plain_status x.0) goes ∙ done in absurd cc;
  on_refused = λ refused. inl (record { refusal = r; is_first = is; text_is = sym (ap (λ (x : Reply). x.1) goes) });
}

-- ---- what a text says

says_true : (front : List ℕ) (fits : Bool) → SaysFits (front ++ ended (last_line fits ∷ [])) → fits ≡ true
says_true front true says = refl
says_true front false says = absurd (late_is_other front says.lines says.is)

says_false : (front : List ℕ) (fits : Bool) → SaysLate (front ++ ended (last_line fits ∷ [])) → fits ≡ false
says_false front true says = absurd (late_is_other says.lines front (sym says.is))
says_false front false says = refl

-- ---- two tests

both_true : (a b : Bool) → (a && b) ≡ true → (a ≡ true) × (b ≡ true)
both_true true b e = (refl, e)
both_true false b e = absurd cc

one_false : (a b : Bool) → (a && b) ≡ false → (a ≡ false) ⊎ ((a ≡ true) × (b ≡ false))
one_false true b e = inr (refl, e)
one_false false b e = inl refl

-- ---- devices that are named

held_one : (f : Named → DeviceTold) (ns : List Named) (i : ℕ) (n : Named) → all_held (map f ns) ≡ true → slice_get ns i ≡ Some n → is_held (f n).every (f n).queue (f n).wait ≡ true
held_one f [] i n all e = absurd cc
held_one f (m ∷ ms) zero n all e = let same : m ≡ n = cc in
    subst (λ (x : Named). is_held (f x).every (f x).queue (f x).wait ≡ true) same
    (both_true (is_held (f m).every (f m).queue (f m).wait) (all_held (map f ms)) all).0
held_one f (m ∷ ms) (suc i) n all e = held_one f ms i n (both_true (is_held (f m).every (f m).queue (f m).wait) (all_held (map f ms)) all).1 e

-- one that isn't held
record IsFull (f : Named → DeviceTold) (ns : List Named) : Type 0 where
  number : ℕ
  device : Named
  there : slice_get ns number ≡ Some device
  late : is_held (f device).every (f device).queue (f device).wait ≡ false

one_full : (f : Named → DeviceTold) (ns : List Named) → all_held (map f ns) ≡ false → IsFull f ns
one_full f [] e = absurd cc
one_full f (m ∷ ms) e = by (one_false (is_held (f m).every (f m).queue (f m).wait) (all_held (map f ms)) e) (λ h. one_full f ms h) where
  by : (is_held (f m).every (f m).queue (f m).wait ≡ false) ⊎ ((is_held (f m).every (f m).queue (f m).wait ≡ true) × (all_held (map f ms) ≡ false)) →
      (all_held (map f ms) ≡ false → IsFull f ms) → IsFull f (m ∷ ms)
  by (inl late) rest = record { number = 0; device = m; there = refl; late = late }
  by (inr more) rest = let h = rest more.1 in record { number = suc h.number; device = h.device; there = h.there; late = h.late }

mapped_get : (f : Named → DeviceTold) (ns : List Named) (i : ℕ) (n : Named) → slice_get ns i ≡ Some n → slice_get (map f ns) i ≡ Some (f n)
mapped_get f [] i n e = absurd cc
mapped_get f (m ∷ ms) zero n e = let same : m ≡ n = cc in ap (λ (x : Named). Some (f x)) same
mapped_get f (m ∷ ms) (suc i) n e = mapped_get f ms i n e

-- a wait that the queue holds
record Held (every queue : ℕ) (o : Option ℕ) : Type 0 where
  wait : ℕ
  is : o ≡ Some wait
  held : requests_in every wait ≤ queue

held_is : (every queue : ℕ) (o : Option ℕ) → is_held every queue o ≡ true → Held every queue o
held_is every queue None e = absurd cc
held_is every queue (Some wait) e = record { wait = wait; is = refl; held = leb-true (requests_in every wait) queue e }

-- ---- a set that breaks no rule

abbrev front_text : List Distance → TaskSet → List ℕ
front_text ds set = (tasks_text (loads_in set) 0 (tolds_in set) (found_in (loads_in set)) ++ ended (map device_line (devices_in set ds))) ++ ended (limit_line (limit_in set) ∷ [])

module _ (set : TaskSet) (ds : List Distance) (text : List ℕ) (values : HasValues set) (none : broken set ≡ None) (are : AreDistances ds) (is : text ≡ set_text ds set) where
  as_many : (i : ℕ) → i < length (setup_in set).tasks → i < length (tolds_in set)
  as_many i lt =
      let long : length (map task_record (placed_in set)) ≡ length (placed_in set) = length-map (placed_in set) task_record in
      let same : length (map (told_of set.plant) (placed_in set)) ≡ length (placed_in set) = length-map (placed_in set) (told_of set.plant) in
      less _ _ _ lt long same where
        less : (n m l : ℕ) → i < n → n ≡ m → l ≡ m → i < l
        less n m l lt a b = omega (arith, lt, a, b)

  told_so : (i : ℕ) (busy : Busy) → i < length (setup_in set).tasks → slice_get (found_in (loads_in set)) i ≡ Some busy → IsToldAs set text i busy
  told_so i busy lt e =
      subst (λ t. IsToldAs set t i busy) (sym is)
      (record { found = e; line = task_told (tolds_in set) (loads_in set) (found_in (loads_in set)) (devices_in set ds) (limit_in set) (all_fits ds set) i busy (as_many i lt) e })

  device_so : (i : ℕ) (n : Named) (wait : Option ℕ) → IsNamedAt set ds i n → wait_in set ds n.number ≡ wait → IsDeviceTold set ds text i n wait
  device_so i n wait at e =
      subst (λ t. IsDeviceTold set ds t i n wait) (sym is)
      (record {
        named = at;
        wait_is = e;
        line = subst (λ o. HasLine (set_text ds set) (device_line (device_told set.devices n o))) e
            (line_of_device (tolds_in set) (loads_in set) (found_in (loads_in set)) (devices_in set ds) (limit_in set) (all_fits ds set) i
            (device_in set ds n) (mapped_get (device_in set ds) (named_in ds set.devices) i n at));
      })

  each_device : (i : ℕ) → i < length (named_in ds set.devices) → TellsDevice set ds text i
  each_device i lt =
      let n = there (named_in ds set.devices) i lt in
      record { device = n.0; wait = wait_in set ds n.0.number; told = device_so i n.0 (wait_in set ds n.0.number) n.1 refl }

  limit_so : HasLine text (limit_line (limit_in set))
  limit_so = subst (λ t. HasLine t (limit_line (limit_in set))) (sym is) (limit_told (tolds_in set) (loads_in set) (found_in (loads_in set)) (devices_in set ds) (limit_in set) (all_fits ds set))

  waits_so : (i : ℕ) (n : Named) (wait : ℕ) → IsDeviceTold set ds text i n (Some wait) → ServesInTime set ds n wait
  waits_so i n wait told = sets_serve_named set ds values none are i n told.named wait told.wait_is

  -- where it says that all fits
  fits_all : SaysFits text → (all_within (found_in (loads_in set)) ≡ true) × (all_held (devices_in set ds) ≡ true)
  fits_all says = both_true (all_within (found_in (loads_in set))) (all_held (devices_in set ds))
      (says_true (front_text ds set) (all_fits ds set) (record { lines = says.lines; is = sym is ∙ says.is }))

  in_time : SaysFits text → (i : ℕ) → i < length (setup_in set).tasks → EndsAsTold set text i
  in_time says i lt =
      let x = fitting_sets_end_in_time set values none (fits_all says).0 i lt in
      record { cycles = x.cycles; told = told_so i (Within x.cycles) lt x.found; ends = x.ends }

  served : SaysFits text → (i : ℕ) → i < length (named_in ds set.devices) → IsServedAsTold set ds text i
  served says i lt =
      let n = there (named_in ds set.devices) i lt in
      let h = held_is n.0.every (device_at set.devices n.0.number).queue (wait_in set ds n.0.number) (held_one (device_in set ds) (named_in ds set.devices) i n.0 (fits_all says).1 n.1) in
      record { device = n.0; wait = h.wait; told = device_so i n.0 (Some h.wait) n.1 h.is; held = h.held; serves = sets_serve_named set ds values none are i n.0 n.1 h.wait h.is }

  late : SaysLate text → IsToldPast set text ⊎ IsToldLate set ds text
  late says = by (one_false (all_within (found_in (loads_in set))) (all_held (devices_in set ds))
      (says_false (front_text ds set) (all_fits ds set) (record { lines = says.lines; is = sym is ∙ says.is }))) where
        by : (all_within (found_in (loads_in set)) ≡ false) ⊎ ((all_within (found_in (loads_in set)) ≡ true) × (all_held (devices_in set ds) ≡ false)) → IsToldPast set text ⊎ IsToldLate set ds text
        by (inl past) = let x = late_sets_have_past set past in inl (record { task = x.task; there = x.there; told = told_so x.task Past x.there x.found; past = x.past })
        by (inr full) =
            let x = one_full (device_in set ds) (named_in ds set.devices) full.1 in
            inr (record {
              number = x.number;
              device = x.device;
              wait = wait_in set ds x.device.number;
              told =
                  device_so x.number x.device (wait_in set ds x.device.number) x.there refl;
              why = late_devices_have_cause set ds full.0 x.device x.late;
            })

-- ---- the answers

timely : (set : TaskSet) (reads : Reads) (asked : Asked) (text : List ℕ) → AreDistances asked.distances → IsRead reads asked.set set →
    broken set ≡ None → unknown_in asked.distances set.devices ≡ None → text ≡ set_text asked.distances set →
    IsTimely reads asked text
timely set reads asked text are read none known is = record {
  set = set;
  read = read;
  unbroken = none;
  known = known;
  text_is = is;
  told = λ i lt. let b = one_found set i lt in (b.0, told_so set asked.distances text read.values none are is i b.0 lt b.1);
  devices = each_device set asked.distances text read.values none are is;
  limit = limit_so set asked.distances text read.values none are is;
  keeps = sets_keep_times set read.values none;
  waits = waits_so set asked.distances text read.values none are is;
  in_time = in_time set asked.distances text read.values none are is;
  served = served set asked.distances text read.values none are is;
  late = late set asked.distances text read.values none are is;
}

refused : (reads : Reads) (asked : Asked) (given : Reply) (r : SetRead reads asked given) →
    IsBrokenSet r.set given ⊎ IsUnknownSet asked.distances r.set given → IsFirstBroken reads asked given.1 ⊎ NamesNone reads asked given.1
refused reads asked given r (inl x) = inl (record { set = r.set; read = r.read; refusal = x.refusal; is_first = x.is_first; text_is = x.text_is })
refused reads asked given r (inr x) = inr (record { set = r.set; read = r.read; unbroken = x.unbroken; name = x.name; unknown = x.unknown; text_is = x.text_is })

pub times_keep : (asked : Asked) (reads : Reads) (given : Reply) → AreDistances asked.distances → replied (time_stages asked reads) ≡ given → Keeps reads asked given
times_keep asked reads given are is = record {
  on_done = λ done.
      let r = set_read asked given reads (done_judged given.0 done) is in
      let told = (judged_by asked.distances r.set given (broken r.set) refl r.goes).on_done done in
      timely r.set reads asked given.1 are r.read told.unbroken told.known told.text_is;
  on_refused = λ status.
      let r = set_read asked given reads (refused_judged given.0 status) is in
      refused reads asked given r ((judged_by asked.distances r.set given (broken r.set) refl r.goes).on_refused status);
}
