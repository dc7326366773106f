-- A mail file that is read is the feeds that it says, or the answer to its first wrong line.
use Rattle.std.proofs.Common.{◌≡◌, ℕ, List, Result, Ok, Err, ap, sym, ◌∙◌, refl}
use Rattle.prem_tasks.specs.Broken.{TaskSet}
use Rattle.prem_mail.specs.declared.feed.Feed.{Feed}
use Rattle.prem_mail.specs.declared.fail.MailWhich.{MailWhich}
use Rattle.prem_mail.specs.MailFile.{MailRefusal, feeds_of}
use Rattle.prem_answer.specs.Stages.{Reply, Reads, Stage, IsFine, form_reply}
use Rattle.prem_answer.proofs.Reading.{reading_fine}
use Rattle.prem_exec.specs.Sources.Sources.{names_of}
use Rattle.prem_running.specs.Mail.Files.{mail_limit, line_why, feeds_in, feeds_of_bytes, reading_mail}

pub mail_formed : (name : List ℕ) (read : Result (List Feed) MailRefusal) (feeds : List Feed) → read ≡ Ok feeds → feeds_in name read ≡ Ok feeds
mail_formed name read feeds is = ap (feeds_in name) is

pub mail_refused : (name : List ℕ) (read : Result (List Feed) MailRefusal) (n : ℕ) (which : MailWhich) (reply : Reply) → read ≡ Err (n, which) →
    reply ≡ form_reply name (line_why (n, which)) → feeds_in name read ≡ Err reply
mail_refused name read n which reply is line = ap (feeds_in name) is ∙ ap Err (sym line)

feeds_fine : (name : List ℕ) (read : Result (List Feed) MailRefusal) → IsFine (λ x. Unit {0}) (feeds_in name read)
feeds_fine name (Ok feeds) = tt
feeds_fine name (Err refusal) = refl

pub mail_fine : (right : Reply → Type 0) (set : TaskSet) (name : List ℕ) (next : List Feed → Stage Reply) →
    ((feeds : List Feed) (reads : Reads) → IsFine right (next feeds reads)) → (reads : Reads) → IsFine right (reading_mail set name next reads)
mail_fine right set name next each reads =
    reading_fine right mail_limit name (feeds_of_bytes set name) next (λ bytes. feeds_fine name (feeds_of bytes (names_of set))) each reads
