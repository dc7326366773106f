-- Readings of files, one after another.
use Rattle.std.specs.Prelude.{if◌then◌else◌, replicate, codes}
use Rattle.std.proofs.Common.{◌≡◌, ◌≤◌, ◌<◌, ℕ, zero, suc, List, length, true, false, Bool, IsTrue, Option, None, Some, IfSome, IsSomeAnd, Result, Ok, Err, refl, ap, ◌∙◌, sym, arith, nat_le}
use Rattle.std.proofs.lemmas.Bool.{le-leb}
use Rattle.std.proofs.lemmas.Bool.Decides.{nat_tests}
use Rattle.std.proofs.lemmas.List.{length-replicate}
use Rattle.prem_io.specs.Files.{Files, stored}
use Rattle.prem_answer.specs.declared.answer.Telling.{Telling}
use Rattle.prem_answer.specs.declared.answer.Telling.TheVariants.{Whole, Brief}
use Rattle.prem_answer.specs.declared.answer.Answer.{Answer}
use Rattle.prem_answer.specs.declared.answer.Halt.{Halt}
use Rattle.prem_answer.specs.declared.answer.Halt.TheVariants.{Answered, ReadFault as HaltReadFault, OutOfMemory as HaltOutOfMemory}
use Rattle.prem_answer.specs.Stages.{Reply, reply_of, Comes, Reads, is_settled, IsFine, Stage, AreReads, IsReadBy, IsGiven, IsReadAs, IsReadAsBy, IsRead, within_by, form_by}
use Rattle.prem_answer.specs.Stages.{reading, reading_by, and_then, later_reads}

pub short_file : (how : Telling) (limit : ℕ) (name bytes : List ℕ) → length bytes ≤ limit → within_by how limit name (Some bytes) ≡ Ok bytes
short_file how limit name bytes short = ap (λ b. if b then Ok bytes else Err (form_by how name (codes "too-long"))) (le-leb (length bytes) limit short)

long_file : (how : Telling) (limit : ℕ) (name bytes : List ℕ) → limit < length bytes → within_by how limit name (Some bytes) ≡ Err (form_by how name (codes "too-long"))
long_file how limit name bytes long =
    let not_short : nat_le (length bytes) limit ≡ false = grind (arith, nat_tests) in
    ap (λ b. if b then Ok bytes else Err (form_by how name (codes "too-long"))) not_short

pub read_ok : (how : Telling) (told : Option Files) (limit : ℕ) (name bytes : List ℕ) → IfSome told (λ files. stored files name ≡ Some bytes) →
    length bytes ≤ limit → IsReadBy how told limit name (Ok bytes)
read_ok how told limit name bytes there short = (Some bytes, (there, sym (short_file how limit name bytes short)))

too_long : (how : Telling) (limit : ℕ) (name : List ℕ) (o : Option (List ℕ)) → IsSomeAnd o (λ bytes. limit < length bytes) → within_by how limit name o ≡ Err (form_by how name (codes "too-long"))
too_long how limit name None h = absurd h
too_long how limit name (Some bytes) h = long_file how limit name bytes h

-- where no file is told, one of zeros is too long
pub read_long : (how : Telling) (told : Option Files) (limit : ℕ) (name : List ℕ) (reply : Reply) →
    IfSome told (λ files. IsSomeAnd (stored files name) (λ bytes. limit < length bytes)) → reply ≡ form_by how name (codes "too-long") →
    IsReadBy how told limit name (Err reply)
read_long how None limit name reply long is =
    let zeros : List ℕ = replicate (suc limit) 0 in
    let size : length zeros ≡ suc limit = length-replicate (suc limit) 0 in
    (Some zeros, (tt, ap Err is ∙ sym (long_file how limit name zeros (omega (arith, size)))))
read_long how (Some files) limit name reply long is = (stored files name, (refl, ap Err is ∙ sym (too_long how limit name (stored files name) long)))

-- ---- one reading, and those behind it

-- what is read first, then these
abbrev first_read : Option (List ℕ) → Reads → Reads
first_read content reads zero name = content
first_read content reads (suc n) name = reads n name

-- what one reading gives, where the reads begin with it
made_first : {A : Type 0} → (how : Telling) (told : Option Files) (limit : ℕ) (name : List ℕ) (make : List ℕ → Result A Reply) (given : Result A Reply) (rest : Reads) →
    IsReadAsBy how told limit name make given → AreReads told rest →
    (reads : Reads) × (AreReads told reads × ((given ≡ and_then (within_by how limit name (reads 0 name)) make) × (later_reads reads ≡ rest)))
made_first how None limit name make given rest (read, ((content, (there, is)), made)) are =
    (first_read content rest, (tt, (made ∙ ap (λ r. and_then r make) is, refl)))
made_first how (Some files) limit name make given rest (read, ((content, (there, is)), made)) are =
    let told : Reads = λ n q. stored files q in
    (told, ((λ n q. refl), (made ∙ ap (λ r. and_then r make) (is ∙ ap (within_by how limit name) (sym there)), λ k n q. sym (are n q) k)))

-- a stage goes on with what was read
pub goes_on_by : {A B : Type 0} → (how : Telling) (told : Option Files) (limit : ℕ) (name : List ℕ) (make : List ℕ → Result A Reply) (next : A → Stage B) (x : A) (given : Result B Reply) →
    IsReadAsBy how told limit name make (Ok x) → IsGiven told (next x) given → IsGiven told (reading_by how limit name make next) given
goes_on_by how told limit name make next x given read (rest, (are, is)) =
    let (reads, (are_reads, (made, later))) = made_first how told limit name make (Ok x) rest read are in
    (reads, (are_reads, is ∙ ap (next x) (sym later) ∙ ap (λ r. and_then r (λ y. next y (later_reads reads))) made))

pub some_reads : (told : Option Files) → (reads : Reads) × AreReads told reads
some_reads None = (λ n name. None, tt)
some_reads (Some files) = (λ n name. stored files name, λ n name. refl)

-- a stage ends where nothing could be made of what was read
pub ends_there_by : {A B : Type 0} → (how : Telling) (told : Option Files) (limit : ℕ) (name : List ℕ) (make : List ℕ → Result A Reply) (next : A → Stage B) (reply : Reply) →
    IsReadAsBy how told limit name make (Err reply) → IsGiven told (reading_by how limit name make next) (Err reply)
ends_there_by how told limit name make next reply read =
    let (rest, are) = some_reads told in
    let (reads, (are_reads, (made, later))) = made_first how told limit name make (Err reply) rest read are in
    (reads, (are_reads, ap (λ r. and_then r (λ y. next y (later_reads reads))) made))

-- where no file is read any more
pub gives_at_once : {A : Type 0} → (told : Option Files) (given : Result A Reply) → IsGiven told (λ reads. given) given
gives_at_once told given = let (reads, are) = some_reads told in (reads, (are, refl))

pub given_at_once : (told : Option Files) (reply : Reply) (r : Result Answer Halt) → Comes reply_of (λ given. given ≡ Ok reply) r → Comes reply_of (IsGiven told (λ reads. Ok reply)) r
given_at_once told reply (Ok a) is = let (reads, are) = some_reads told in (reads, (are, is))
given_at_once told reply (Err (Answered a)) is = let (reads, are) = some_reads told in (reads, (are, is))
given_at_once told reply (Err HaltReadFault) is = tt
given_at_once told reply (Err HaltOutOfMemory) is = tt

-- ---- answers that may be given

abbrev anything : {A : Type 0} → A → Type 0
anything x = Unit {0}

chosen_fine : (b : Bool) (bytes : List ℕ) (reply : Reply) → IsTrue (is_settled reply.0) → IsFine anything (if b then Ok bytes else Err reply)
chosen_fine true bytes reply h = tt
chosen_fine false bytes reply h = h

pub form_fine : (how : Telling) (name why : List ℕ) → IsTrue (is_settled (form_by how name why).0)
form_fine Whole name why = refl
form_fine Brief name why = refl

within_fine : (how : Telling) (limit : ℕ) (name : List ℕ) (content : Option (List ℕ)) → IsFine anything (within_by how limit name content)
within_fine how limit name None = refl
within_fine how limit name (Some bytes) = chosen_fine (nat_le (length bytes) limit) bytes (form_by how name (codes "too-long")) (form_fine how name (codes "too-long"))

then_fine : {A B : Type 0} → (right : B → Type 0) (r : Result A Reply) (next : A → Result B Reply) → IsFine anything r → ((x : A) → IsFine right (next x)) → IsFine right (and_then r next)
then_fine right (Ok x) next h each = each x
then_fine right (Err reply) next h each = h

made_fine : {A B : Type 0} → (r : Result A Reply) (make : A → Result B Reply) → IsFine anything r → ((x : A) → IsFine anything (make x)) → IsFine anything (and_then r make)
made_fine r make h each = then_fine anything r make h each

-- a stage that reads a file ends well where what is made of it and what comes behind do
pub reading_fine_by : {A B : Type 0} → (right : B → Type 0) (how : Telling) (limit : ℕ) (name : List ℕ) (make : List ℕ → Result A Reply) (next : A → Stage B) →
    ((bytes : List ℕ) → IsFine (λ x. Unit {0}) (make bytes)) → ((x : A) (reads : Reads) → IsFine right (next x reads)) →
    (reads : Reads) → IsFine right (reading_by how limit name make next reads)
reading_fine_by right how limit name make next makes goes reads =
    then_fine right (and_then (within_by how limit name (reads 0 name)) make) (λ x. next x (later_reads reads))
    (made_fine (within_by how limit name (reads 0 name)) make (within_fine how limit name (reads 0 name)) makes) (λ x. goes x (later_reads reads))

-- ---- what the code gives

-- where nothing is given on, the same reply, fault or want of memory passes
pub halt_passes : {X Y V W : Type 0} → (view : X → Y) (other : V → W) (holds : Result Y Reply → Type 0) (also : Result W Reply → Type 0) (h : Halt) →
    ((reply : Reply) → holds (Err reply) → also (Err reply)) → Comes view holds (Err h) → Comes other also (Err h)
halt_passes view other holds also (Answered a) pass h = pass (reply_of a) h
halt_passes view other holds also HaltReadFault pass h = tt
halt_passes view other holds also HaltOutOfMemory pass h = tt

-- a file that was read is made into something, or into an answer
pub made_ok_by : {A : Type 0} → (how : Telling) (told : Option Files) (limit : ℕ) (name : List ℕ) (make : List ℕ → Result A Reply) (bytes : List ℕ) (given : Result A Reply) →
    IsReadBy how told limit name (Ok bytes) → make bytes ≡ given → IsReadAsBy how told limit name make given
made_ok_by how told limit name make bytes given read is = (Ok bytes, (read, sym is))

pub not_made_by : {A : Type 0} → (how : Telling) (told : Option Files) (limit : ℕ) (name : List ℕ) (make : List ℕ → Result A Reply) (reply : Reply) →
    IsReadBy how told limit name (Err reply) → IsReadAsBy how told limit name make (Err reply)
not_made_by how told limit name make reply read = (Err reply, (read, refl))

-- ---- where the reason is told too

pub reading_fine : {A B : Type 0} → (right : B → Type 0) (limit : ℕ) (name : List ℕ) (make : List ℕ → Result A Reply) (next : A → Stage B) →
    ((bytes : List ℕ) → IsFine (λ x. Unit {0}) (make bytes)) → ((x : A) (reads : Reads) → IsFine right (next x reads)) →
    (reads : Reads) → IsFine right (reading limit name make next reads)
reading_fine right = reading_fine_by right Whole

pub made_ok : {A : Type 0} → (told : Option Files) (limit : ℕ) (name : List ℕ) (make : List ℕ → Result A Reply) (bytes : List ℕ) (given : Result A Reply) →
    IsRead told limit name (Ok bytes) → make bytes ≡ given → IsReadAs told limit name make given
made_ok = made_ok_by Whole
