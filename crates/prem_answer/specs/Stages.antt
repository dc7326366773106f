-- The stages of the work: each gives something to the next one, or the answer with which the work ends.
use Rattle.std.specs.Prelude.{◌≡◌, ℕ, suc, Bool, true, false, IsTrue, nat_le, if◌then◌else◌, List, ◌++◌, length, Option, None, Some, IfSome, Result, Ok, Err, codes}
use Rattle.prem_io.specs.Files.{Files, stored}
use Rattle.prem_answer.specs.declared.status.Status.{Status}
use Rattle.prem_answer.specs.declared.status.Status.TheVariants.{Done, Refused, Usage, Form, ReadFault, WriteFault, OutOfMemory, Missing, Trap}
use Rattle.prem_answer.specs.declared.answer.Answer.{Answer}
use Rattle.prem_answer.specs.declared.answer.Telling.{Telling}
use Rattle.prem_answer.specs.declared.answer.Telling.TheVariants.{Whole, Brief}
use Rattle.prem_answer.specs.declared.answer.Halt.{Halt}
use Rattle.prem_answer.specs.declared.answer.Halt.TheVariants as halt

-- the exit status
abbrev pub status_code : Status → ℕ
status_code Done = 0
status_code Refused = 1
status_code Usage = 2
status_code Form = 3
status_code ReadFault = 4
status_code WriteFault = 5
status_code OutOfMemory = 6
status_code Missing = 7
status_code Trap = 8

-- a status and a text
abbrev pub Reply : Type 0
Reply = Status × List ℕ

abbrev pub reply_of : Answer → Reply
reply_of a = (a.status, a.text.items)

-- a status that an answer may have: no fault, and memory is there
abbrev pub is_settled : Status → Bool
is_settled ReadFault = false
is_settled WriteFault = false
is_settled OutOfMemory = false
is_settled _ = true

-- ---- files

-- what is read of a name, at each reading from the first one on
abbrev pub Reads : Type 0
Reads = ℕ → List ℕ → Option (List ℕ)

-- the readings behind the first one
abbrev pub later_reads : Reads → Reads
later_reads reads n = reads (suc n)

abbrev pub missing_reply : List ℕ → Reply
missing_reply name = (Missing, codes "missing " ++ (name ++ codes "\n"))

-- a file that isn't in its form
abbrev pub form_reply : List ℕ → List ℕ → Reply
form_reply name why = (Form, codes "form " ++ (name ++ (codes " " ++ (why ++ codes "\n"))))

-- the same, with the reason or without it
abbrev pub form_by : Telling → List ℕ → List ℕ → Reply
form_by Whole name why = form_reply name why
form_by Brief name why = (Form, codes "form " ++ (name ++ codes "\n"))

-- the bytes of a file that is there and has at most so many
abbrev pub within_by : Telling → ℕ → List ℕ → Option (List ℕ) → Result (List ℕ) Reply
within_by how limit name None = Err (missing_reply name)
within_by how limit name (Some bytes) = if nat_le (length bytes) limit then Ok bytes else Err (form_by how name (codes "too-long"))

abbrev pub within_limit : ℕ → List ℕ → Option (List ℕ) → Result (List ℕ) Reply
within_limit limit name content = within_by Whole limit name content

-- ---- stages

abbrev pub Stage : Type 0 → Type 0
Stage A = Reads → Result A Reply

-- what one stage gives goes on into the next one
abbrev pub and_then : {A B : Type 0} → Result A Reply → (A → Result B Reply) → Result B Reply
and_then (Ok x) next = next x
and_then (Err reply) next = Err reply

-- a file of at most so many bytes is read and made into something, which goes on
abbrev pub reading_by : {A B : Type 0} → Telling → ℕ → List ℕ → (List ℕ → Result A Reply) → (A → Stage B) → Stage B
reading_by how limit name make next reads = and_then (and_then (within_by how limit name (reads 0 name)) make) (λ x. next x (later_reads reads))

abbrev pub reading : {A B : Type 0} → ℕ → List ℕ → (List ℕ → Result A Reply) → (A → Stage B) → Stage B
reading limit name make next reads = reading_by Whole limit name make next reads

-- the answer in which the stages end
abbrev pub replied : Result Reply Reply → Reply
replied (Ok reply) = reply
replied (Err reply) = reply

-- a stage ends in answers that may be given, and what it gives is right
abbrev pub IsFine : {A : Type 0} → (A → Type 0) → Result A Reply → Type 0
IsFine right (Ok x) = right x
IsFine right (Err reply) = IsTrue (is_settled reply.0)

-- ---- what the code gives

-- what holds of what a call gave, unless a fault or want of memory came in its place
abbrev pub Comes : {X Y : Type 0} → (X → Y) → (Result Y Reply → Type 0) → Result X Halt → Type 0
Comes view holds (Ok x) = holds (Ok (view x))
Comes view holds (Err (halt.Answered a)) = holds (Err (reply_of a))
Comes view holds (Err halt.ReadFault) = Unit {0}
Comes view holds (Err halt.OutOfMemory) = Unit {0}

-- one reading of the files that a store tells, or of something where it tells none
abbrev pub IsReadBy : Telling → Option Files → ℕ → List ℕ → Result (List ℕ) Reply → Type 0
IsReadBy how told limit name given =
    (content : Option (List ℕ)) × (IfSome told (λ files. stored files name ≡ content) × (given ≡ within_by how limit name content))

abbrev pub IsRead : Option Files → ℕ → List ℕ → Result (List ℕ) Reply → Type 0
IsRead told limit name given = IsReadBy Whole told limit name given

-- the same, made into something
abbrev pub IsReadAsBy : {A : Type 0} → Telling → Option Files → ℕ → List ℕ → (List ℕ → Result A Reply) → Result A Reply → Type 0
IsReadAsBy how told limit name make given = (read : Result (List ℕ) Reply) × (IsReadBy how told limit name read × (given ≡ and_then read make))

abbrev pub IsReadAs : {A : Type 0} → Option Files → ℕ → List ℕ → (List ℕ → Result A Reply) → Result A Reply → Type 0
IsReadAs told limit name make given = IsReadAsBy Whole told limit name make given

-- readings of the files that a store tells, or of something where it tells none
abbrev pub AreReads : Option Files → Reads → Type 0
AreReads None reads = Unit {0}
AreReads (Some files) reads = (n : ℕ) (name : List ℕ) → reads n name ≡ stored files name

-- what a stage gives over the files that a store tells, or over some readings where it tells none
abbrev pub IsGiven : {A : Type 0} → Option Files → Stage A → Result A Reply → Type 0
IsGiven told stage given = (reads : Reads) × (AreReads told reads × (given ≡ stage reads))
