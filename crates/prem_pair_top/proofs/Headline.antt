-- Every answer keeps the headline.
use Rattle.std.proofs.Common.{◌≡◌, ℕ, true, false, List, Option, None, Some, Ok, inl, inr, refl, ap, ◌∙◌, sym}
use Rattle.prem_layout.specs.Rules.{Refusal}
use Rattle.prem_tasks.specs.Told.{Told}
use Rattle.prem_tasks.specs.Broken.{TaskSet, broken}
use Rattle.prem_tasks.specs.Compiled.{compiled}
use Rattle.prem_answer.specs.declared.answer.Telling.TheVariants.{Brief}
use Rattle.prem_answer.specs.declared.status.Status.TheVariants as status
use Rattle.prem_answer.specs.Stages.{Reply, Reads, Stage, replied}
use Rattle.prem_exec.specs.Forms.{RunText}
use Rattle.prem_exec.specs.Sources.Sources.{reading_run_by, reading_set_by}
use Rattle.prem_exec.proofs.SourcesLemmas.Reading.{done_judged, is_judged, refused_judged, IsRight, anything, Goes, Outcome, Stops, set_outcome}
use Rattle.prem_answer.specs.declared.status.PlainStatus.TheVariants.{Done, Refused}
use Rattle.prem_answer.specs.Statuses.{plain_status}
use Rattle.prem_pair_top.specs.Words.{PairAsked}
use Rattle.prem_pair_top.specs.Running.{cycles_in, limit_in}
use Rattle.prem_pair_top.specs.Stages.{compiled_text, judged_reply, pair_stages, reading_other, refused_text, sets_reply}
use Rattle.prem_pair_top.specs.Headline.{AreRead, Keeps, TellsBroken}
use Rattle.prem_pair_top.proofs.Reading.{none_there, SuitsSet, second_outcome, run_outcome}
use Rattle.prem_pair_top.proofs.Sets.{pair_reports_end, pairs_of_sets_are_sound}
use Rattle.prem_pair_top.proofs.Limits.{pair_limits_are_small}

-- ---- what is read

-- all four are read, and the answer is that to what was read
record AllRead (reads : Reads) (asked : PairAsked) (given : Reply) : Type 0 where
  one : TaskSet
  two : TaskSet
  input : RunText
  other : RunText
  read : AreRead reads asked one two input other
  suits : SuitsSet one input
  other_suits : SuitsSet two other
  goes : sets_reply asked one two input other ≡ given

unread : {A : Type 0} → (readings : (A → Stage Reply) → Stage Reply) (reads : Reads) (next : A → Stage Reply) (given : Reply) → Stops readings reads →
    is_judged given.0 ≡ true → replied (readings next reads) ≡ given → ⊥
unread readings reads next given stop judged is =
    let same : stop.reply ≡ given = sym (ap replied (stop.stops next)) ∙ is in
    let both : false ≡ true = sym stop.unjudged ∙ ap (λ (r : Reply). is_judged r.0) same ∙ judged in
    cc

module _ (asked : PairAsked) (given : Reply) (judged : is_judged given.0 ≡ true) (reads : Reads) where
  abbrev behind_other : TaskSet → TaskSet → RunText → RunText → Stage Reply
  behind_other one two input other rest = Ok (sets_reply asked one two input other)

  abbrev behind_input : TaskSet → TaskSet → RunText → Stage Reply
  behind_input one two input = reading_run_by Brief two asked.other_run (behind_other one two input)

  abbrev behind_two : TaskSet → TaskSet → Stage Reply
  behind_two one two = reading_run_by Brief one asked.run (behind_input one two)

  abbrev behind_one : TaskSet → Stage Reply
  behind_one one = reading_other asked.other_set (behind_two one)

  all_read : replied (pair_stages asked reads) ≡ given → AllRead reads asked given
  all_read is = first (set_outcome asked.set reads) where
    last : (a : Goes (reading_set_by Brief asked.set) reads (IsRight anything)) (b : Goes (reading_other asked.other_set) a.left (IsRight none_there))
        (c : Goes (reading_run_by Brief a.value asked.run) b.left (SuitsSet a.value)) →
        replied (behind_input a.value b.value c.value c.left) ≡ given → Outcome (reading_run_by Brief b.value asked.other_run) c.left (SuitsSet b.value) → AllRead reads asked given
    last a b c there (inr stop) = absurd (unread (reading_run_by Brief b.value asked.other_run) c.left (behind_other a.value b.value c.value) given stop judged there)
    last a b c there (inl d) = record {
      one = a.value;
      two = b.value;
      input = c.value;
      other = d.value;
      read = record {
        behind_one = a.left;
        behind_two = b.left;
        behind_input = c.left;
        behind_other = d.left;
        first = a.gives;
        second = b.gives;
        first_run = c.gives;
        second_run = d.gives;
        values = a.holds.0;
        other_values = b.holds.0;
        none = b.holds.1;
      };
      suits = c.holds;
      other_suits = d.holds;
      goes = ap replied (sym (d.gives (behind_other a.value b.value c.value))) ∙ there;
    }

    third : (a : Goes (reading_set_by Brief asked.set) reads (IsRight anything))
        (b : Goes (reading_other asked.other_set) a.left (IsRight none_there)) → replied (behind_two a.value b.value b.left) ≡ given →
        Outcome (reading_run_by Brief a.value asked.run) b.left (SuitsSet a.value) → AllRead reads asked given
    third a b there (inr stop) = absurd (unread (reading_run_by Brief a.value asked.run) b.left (behind_input a.value b.value) given stop judged there)
    third a b there (inl c) = last a b c (ap replied (sym (c.gives (behind_input a.value b.value))) ∙ there) (run_outcome b.value asked.other_run c.left)

    second : (a : Goes (reading_set_by Brief asked.set) reads (IsRight anything)) → replied (behind_one a.value a.left) ≡ given →
        Outcome (reading_other asked.other_set) a.left (IsRight none_there) → AllRead reads asked given
    second a there (inr stop) = absurd (unread (reading_other asked.other_set) a.left (behind_two a.value) given stop judged there)
    second a there (inl b) = third a b (ap replied (sym (b.gives (behind_two a.value))) ∙ there) (run_outcome a.value asked.run b.left)

    first : Outcome (reading_set_by Brief asked.set) reads (IsRight anything) → AllRead reads asked given
    first (inr stop) = absurd (unread (reading_set_by Brief asked.set) reads behind_one given stop judged is)
    first (inl a) = second a (ap replied (sym (a.gives behind_one)) ∙ is) (second_outcome asked.other_set a.left)

-- ---- by the first broken rules

record Judged (asked : PairAsked) (one two : TaskSet) (input other : RunText) (given : Reply) : Type 0 where
  on_done : plain_status given.0 ≡ Done → (broken one ≡ None) × ((broken two ≡ None) × (given.1 ≡ compiled_text asked input other (compiled one) (compiled two)))
  on_refused : plain_status given.0 ≡ Refused → TellsBroken one two given.1

refused_is_other : (text : List ℕ) (given : Reply) → (status.Refused, text) ≡ given → plain_status given.0 ≡ Done → ⊥
refused_is_other text given same done = let no : Refused ≡ Done = ap (λ (r : Reply). plain_status r.0) same ∙ done in absurd cc

done_is_other : (text : List ℕ) (given : Reply) → (status.Done, text) ≡ given → plain_status given.0 ≡ Refused → ⊥
done_is_other text given same refused = let no : Done ≡ Refused = ap (λ (r : Reply). plain_status r.0) same ∙ refused in absurd cc

judged_by : (asked : PairAsked) (one two : TaskSet) (input other : RunText) (given : Reply) (a b : Option (Refusal Told)) → broken one ≡ a → broken two ≡ b →
    judged_reply asked one two input other a b ≡ given → Judged asked one two input other given
judged_by asked one two input other given (Some r) b is other_is goes = record {
  on_done = λ done. absurd (refused_is_other (refused_text 0 one.tasks r) given goes done);
  on_refused = λ refused. inl (r, (is, sym (ap (λ (x : Reply). x.1) goes)));
}
judged_by asked one two input other given None (Some r) is other_is goes = record {
  on_done = λ done. absurd (refused_is_other (refused_text 1 two.tasks r) given goes done);
  on_refused = λ refused. inr (is, (r, (other_is, sym (ap (λ (x : Reply). x.1) goes))));
}
judged_by asked one two input other given None None is other_is goes = record {
  on_done = λ done. (is, (other_is, sym (ap (λ (x : Reply). x.1) goes)));
  on_refused = λ refused. absurd (done_is_other (compiled_text asked input other (compiled one) (compiled two)) given goes refused);
}

judged_all : (reads : Reads) (asked : PairAsked) (given : Reply) (r : AllRead reads asked given) → Judged asked r.one r.two r.input r.other given
judged_all reads asked given r = judged_by asked r.one r.two r.input r.other given (broken r.one) (broken r.two) refl refl r.goes

-- ---- the answers

pub pairs_keep : (asked : PairAsked) (reads : Reads) (given : Reply) → replied (pair_stages asked reads) ≡ given → Keeps reads asked given
pairs_keep asked reads given is = record {
  on_done = λ done.
      let r = all_read asked given (done_judged given.0 done) reads is in
      let told = (judged_all reads asked given r).on_done done in
      let sound = pairs_of_sets_are_sound r.one r.two r.read.values r.read.other_values told.0 told.1.0 r.read.none in
      let suits = (r.suits told.0).0 in
      let other_suits = (r.other_suits told.1.0).0 in
      record {
        one = r.one;
        two = r.two;
        input = r.input;
        other = r.other;
        read = r.read;
        unbroken = told.0;
        other_unbroken = told.1.0;
        sound = sound;
        suits = suits;
        other_suits = other_suits;
        reaches = pair_limits_are_small r.one r.two r.read.values r.read.other_values told.0 told.1.0 r.input (r.suits told.0).1;
        ends = pair_reports_end r.one r.two r.input r.other (cycles_in asked.options.cycles (limit_in (compiled r.one) (compiled r.two) r.input.requests)) sound suits other_suits;
        text_is = told.1.1;
      };
  on_refused = λ refused.
      let r = all_read asked given (refused_judged given.0 refused) reads is in
      record { one = r.one; two = r.two; input = r.input; other = r.other; read = r.read; tells = (judged_all reads asked given r).on_refused refused };
}
