-- What a program is: which words ask for what, what it answers and promises, and what a call of it leaves.
use Rattle.std.specs.Prelude.{◌≡◌, ◌⊎◌, ⊤, ℕ, ◌==◌, not, Bool, true, List, [], ◌∷◌, take, Option, None, Some, Ok, IsTrue}
use Rattle.std.specs.Io.KnownBytes.{append_known}
use Rattle.prem_io.specs.Files.{Files}
use Rattle.prem_answer.specs.declared.status.Status.{Status}
use Rattle.prem_answer.specs.declared.status.Status.TheVariants.{Usage, ReadFault, WriteFault, OutOfMemory}
use Rattle.prem_answer.specs.declared.status.PlainStatus.{PlainStatus}
use Rattle.prem_answer.specs.Statuses.{plain_status}
use Rattle.prem_answer.specs.Stages.{Reply, Reads, Stage, AreReads, IsFine, is_settled, replied}

-- the words of a command line
abbrev pub Words : Type 0
Words = List (List ℕ)

-- a file's name begins with no `-`
abbrev pub is_file : List ℕ → Bool
is_file [] = true
is_file (b ∷ bs) = not (b == 45)

-- ---- a program

-- what may be asked for, which words ask for it, the line that is written where words ask for nothing, the stages in which what is asked for is answered, what
-- the answer promises over what is read, and with which answer it succeeds over files
pub record ToolMeaning : Type 1 where
  pub Asked : Type 0
  pub asked_of : Words → Option Asked
  pub usage : List ℕ
  pub stages : Asked → Stage Reply
  pub keeps : Asked → Reads → Reply → Type 0
  pub succeeds : Files → Asked → Reply → Type 0

-- an answer that a call may give: it is no fault, and memory is there
abbrev pub IsSettled : Reply → Type 0
IsSettled reply = IsTrue (is_settled reply.0)

-- each answer may be given and keeps what it promises, and where what is asked for succeeds over files, its answer is the one with which it does
pub record IsTool (tool : ToolMeaning) : Type 0 where
  pub settled : (asked : tool.Asked) (reads : Reads) → IsFine IsSettled (tool.stages asked reads)
  pub kept : (words : Words) (asked : tool.Asked) → tool.asked_of words ≡ Some asked → (reads : Reads) → tool.keeps asked reads (replied (tool.stages asked reads))
  pub complete : (files : Files) (asked : tool.Asked) (reply : Reply) (reads : Reads) → AreReads (Some files) reads → tool.succeeds files asked reply → tool.stages asked reads ≡ Ok reply

-- ---- its answer

abbrev pub usage_reply : List ℕ → Reply
usage_reply line = (Usage, line)

-- to what the words ask for, or where they ask for nothing
abbrev pub asked_stages : {A : Type 0} → List ℕ → (A → Stage Reply) → Option A → Stage Reply
asked_stages usage stages None = λ reads. Ok (usage_reply usage)
asked_stages usage stages (Some asked) = stages asked

abbrev pub words_stages : ToolMeaning → Words → Stage Reply
words_stages tool words = asked_stages tool.usage tool.stages (tool.asked_of words)

-- what the answer promises, if anything is asked for
abbrev pub WordsKeep : {A : Type 0} → (A → Reads → Reply → Type 0) → Option A → Reads → Reply → Type 0
WordsKeep keeps None reads given = ⊤
WordsKeep keeps (Some asked) reads given = keeps asked reads given

-- a status and a text are the answer over the files that the store tells, or over some readings where it tells none
pub record IsAnswer (tool : ToolMeaning) (words : Words) (told : Option Files) (given : Reply) : Type 0 where
  pub reads : Reads
  pub are_read : AreReads told reads
  pub is : given ≡ replied (words_stages tool words reads)

-- ---- a call

-- what a call with this status wrote, where its answer is `given`, by what the sink tells before and after
abbrev pub Ends : Reply → Option (List ℕ) → Option (List ℕ) → Status → Type 0
Ends given old new WriteFault = (n : ℕ) × (new ≡ append_known old (take n given.1))
Ends given old new ReadFault = new ≡ old
Ends given old new OutOfMemory = new ≡ old
Ends given old new status = (status ≡ given.0) × (new ≡ append_known old given.1)

-- its status and what it wrote are those of the answer, a prefix of it behind a fault of the sink, or nothing; and the answer keeps what it promises, over
-- what is read
pub record Answered (tool : ToolMeaning) (words : Words) (told : Option Files) (old new : Option (List ℕ)) (status : Status) : Type 0 where
  pub given : Reply
  pub answer : IsAnswer tool words told given
  pub promise : WordsKeep tool.keeps (tool.asked_of words) answer.reads given
  pub ends : Ends given old new status

-- what a call wrote with this status: the whole text, or nothing for want of memory
abbrev pub Completes : Reply → Option (List ℕ) → Option (List ℕ) → Status → Type 0
Completes reply old new status =
    ((status ≡ OutOfMemory) × (new ≡ old)) ⊎ ((status ≡ reply.0) × (new ≡ append_known old reply.1))

-- with words that ask for this, over files that a store tells, what a call wrote completes what is asked for
abbrev pub IsComplete : ToolMeaning → Words → Option Files → Option (List ℕ) → Option (List ℕ) → Status → Type 0
IsComplete tool words told old new status =
    (files : Files) (asked : tool.Asked) (reply : Reply) → told ≡ Some files → tool.asked_of words ≡ Some asked → tool.succeeds files asked reply → Completes reply old new status

-- ---- a call of a program that tells of no trap

-- what holds of a status that is told so by such a program
abbrev pub Plainly : (Status → Type 0) → PlainStatus → Type 0
Plainly holds result = (status : Status) × ((result ≡ plain_status status) × holds status)

abbrev pub PlainlyAnswered : ToolMeaning → Words → Option Files → Option (List ℕ) → Option (List ℕ) → PlainStatus → Type 0
PlainlyAnswered tool words told old new result = Plainly (Answered tool words told old new) result

abbrev pub IsPlainlyComplete : ToolMeaning → Words → Option Files → Option (List ℕ) → Option (List ℕ) → PlainStatus → Type 0
IsPlainlyComplete tool words told old new result = Plainly (IsComplete tool words told old new) result
