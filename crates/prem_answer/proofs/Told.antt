-- What a call of a program gives is its answer.
use Rattle.std.proofs.Common.{◌≡◌, ◌≢◌, ℕ, List, Option, None, Some, Result, Ok, Err, IsTrue, ◌⊎◌, inl, inr, refl, ap, ◌∙◌, sym, subst}
use Rattle.prem_io.specs.Files.{Files}
use Rattle.prem_answer.specs.declared.status.Status.{Status}
use Rattle.prem_answer.specs.declared.status.Status.TheVariants.{Done, Refused, Usage, Form, ReadFault, WriteFault, OutOfMemory, Missing, Trap}
use Rattle.prem_answer.specs.declared.answer.Answer.{Answer}
use Rattle.prem_answer.specs.declared.answer.Halt.{Halt}
use Rattle.prem_answer.specs.Stages.{Reply, Reads, Stage, AreReads, Comes, IsGiven, IsFine, is_settled, replied, reply_of}
use Rattle.prem_answer.specs.Tool.{Answered, WordsKeep, Completes, Ends, IsComplete, IsSettled, IsTool, ToolMeaning, Words, asked_stages, usage_reply, words_stages}
use Rattle.prem_answer.proofs.Reading.{given_at_once, some_reads}

-- ---- by what the words ask for

pub asked_given : {A : Type 0} → (told : Option Files) (usage : List ℕ) (stages : A → Stage Reply) (words : Option A) (asked : A) (r : Result Answer Halt) → words ≡ Some asked →
    Comes reply_of (IsGiven told (stages asked)) r → Comes reply_of (IsGiven told (asked_stages usage stages words)) r
asked_given told usage stages words asked r is comes = subst (λ o. Comes reply_of (IsGiven told (asked_stages usage stages o)) r) (sym is) comes

pub usage_given : {A : Type 0} → (told : Option Files) (usage : List ℕ) (stages : A → Stage Reply) (words : Option A) (r : Result Answer Halt) → words ≡ None →
    Comes reply_of (λ given. given ≡ Ok (usage_reply usage)) r → Comes reply_of (IsGiven told (asked_stages usage stages words)) r
usage_given told usage stages words r is comes =
    subst (λ o. Comes reply_of (IsGiven told (asked_stages usage stages o)) r) (sym is) (given_at_once told (usage_reply usage) r comes)

-- ---- the answer

replied_fine : (r : Result Reply Reply) → IsFine IsSettled r → IsSettled (replied r)
replied_fine (Ok reply) h = h
replied_fine (Err reply) h = h

module _ (tool : ToolMeaning) (is_tool : IsTool tool) where
  asked_fine : (asked : Option tool.Asked) (reads : Reads) → IsFine IsSettled (asked_stages tool.usage tool.stages asked reads)
  asked_fine None reads = refl
  asked_fine (Some asked) reads = is_tool.settled asked reads

  asked_kept : (words : Words) (asked : Option tool.Asked) → tool.asked_of words ≡ asked → (reads : Reads) →
      WordsKeep tool.keeps asked reads (replied (asked_stages tool.usage tool.stages asked reads))
  asked_kept words None is reads = tt
  asked_kept words (Some asked) is reads = is_tool.kept words asked is reads

  pub given_is_settled : (words : Words) (told : Option Files) (given : Result Reply Reply) → IsGiven told (words_stages tool words) given → IsSettled (replied given)
  given_is_settled words told given (reads, (are, is)) =
      subst (λ r. IsSettled (replied r)) (sym is) (replied_fine (words_stages tool words reads) (asked_fine (tool.asked_of words) reads))

  pub given_is_answered : (words : Words) (told : Option Files) (given : Result Reply Reply) (old new : Option (List ℕ)) (status : Status) → IsGiven told (words_stages tool words) given →
      Ends (replied given) old new status → Answered tool words told old new status
  given_is_answered words told given old new status (reads, (are, is)) ends = record {
    given = replied given;
    answer = record { reads = reads; are_read = are; is = ap replied is };
    promise = subst (λ r. WordsKeep tool.keeps (tool.asked_of words) reads (replied r)) (sym is) (asked_kept words (tool.asked_of words) refl reads);
    ends = ends;
  }

  -- where the call stops before an answer, some answer would have come, and nothing is written
  stopped : (words : Words) (told : Option Files) (old new : Option (List ℕ)) (status : Status) → ((given : Reply) → Ends given old new status) → Answered tool words told old new status
  stopped words told old new status ends =
      let (reads, are) = some_reads told in
      given_is_answered words told (words_stages tool words reads) old new status (reads, (are, refl)) (ends (replied (words_stages tool words reads)))

  pub read_fault_is : (words : Words) (told : Option Files) (bytes : Option (List ℕ)) → Answered tool words told bytes bytes ReadFault
  read_fault_is words told bytes = stopped words told bytes bytes ReadFault (λ given. refl)

  pub no_memory_is : (words : Words) (told : Option Files) (bytes : Option (List ℕ)) → Answered tool words told bytes bytes OutOfMemory
  no_memory_is words told bytes = stopped words told bytes bytes OutOfMemory (λ given. refl)

-- ---- complete

by_status : (given : Reply) (old new : Option (List ℕ)) (status : Status) → status ≢ ReadFault → status ≢ WriteFault → Ends given old new status → Completes given old new status
by_status given old new ReadFault unread unwritten ends = absurd (unread refl)
by_status given old new WriteFault unread unwritten ends = absurd (unwritten refl)
by_status given old new OutOfMemory unread unwritten ends = inl (refl, ends)
by_status given old new Done unread unwritten ends = inr ends
by_status given old new Refused unread unwritten ends = inr ends
by_status given old new Usage unread unwritten ends = inr ends
by_status given old new Form unread unwritten ends = inr ends
by_status given old new Missing unread unwritten ends = inr ends
by_status given old new Trap unread unwritten ends = inr ends

-- a call without a fault completes what is asked for
pub complete_is : (tool : ToolMeaning) (is_tool : IsTool tool) (words : Words) (told : Option Files) (old new : Option (List ℕ)) (status : Status) → Answered tool words told old new status →
    status ≢ ReadFault → status ≢ WriteFault → IsComplete tool words told old new status
complete_is tool is_tool words told old new status answered unread unwritten files asked reply tells says does =
    let a = answered.answer in
    let are = subst (λ o. AreReads o a.reads) tells a.are_read in
    let is = a.is ∙ ap (λ o. replied (asked_stages tool.usage tool.stages o a.reads)) says ∙ ap replied (is_tool.complete files asked reply a.reads are does) in
    subst (λ r. Completes r old new status) is (by_status answered.given old new status unread unwritten answered.ends)

pub not_read_fault : (status : Status) → IsTrue (is_settled status) ⊎ (status ≡ WriteFault) → status ≢ ReadFault
not_read_fault status (inl settled) is = let no : IsTrue (is_settled ReadFault) = subst (λ s. IsTrue (is_settled s)) is settled in cc
not_read_fault status (inr wrote) is = cc
