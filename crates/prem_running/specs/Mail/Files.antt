-- The mail file of a task set.
use Rattle.std.specs.Prelude.{ℕ, List, ◌++◌, Result, Ok, Err, codes, decimal}
use Rattle.prem_tasks.specs.Broken.{TaskSet}
use Rattle.prem_mail.specs.declared.feed.Feed.{Feed}
use Rattle.prem_mail.specs.declared.fail.MailWhich.{MailWhich}
use Rattle.prem_mail.specs.declared.fail.MailWhich.TheVariants as which
use Rattle.prem_mail.specs.MailFile.{MailRefusal, feeds_of}
use Rattle.prem_answer.specs.Stages.{Reply, Stage, form_reply, reading}
use Rattle.prem_exec.specs.Sources.Sources.{names_of}

-- the bytes that a mail file has at most
abbrev pub mail_limit : ℕ
mail_limit = 1048576

abbrev pub which_word : MailWhich → List ℕ
which_word which.Text = codes "text"
which_word which.Word = codes "word"
which_word which.Task = codes "task"
which_word which.Device = codes "device"
which_word which.Number = codes "number"
which_word which.Slot = codes "slot"
which_word which.Twice = codes "twice"
which_word which.Limit = codes "limit"

-- why a line is refused
abbrev pub line_why : MailRefusal → List ℕ
line_why refusal = codes "line " ++ (decimal refusal.0 ++ (codes " " ++ which_word refusal.1))

abbrev pub feeds_in : List ℕ → Result (List Feed) MailRefusal → Result (List Feed) Reply
feeds_in name (Ok feeds) = Ok feeds
feeds_in name (Err refusal) = Err (form_reply name (line_why refusal))

-- the feeds of a file's bytes, by the names of a set
abbrev pub feeds_of_bytes : TaskSet → List ℕ → List ℕ → Result (List Feed) Reply
feeds_of_bytes set name bytes = feeds_in name (feeds_of bytes (names_of set))

abbrev pub reading_mail : TaskSet → List ℕ → (List Feed → Stage Reply) → Stage Reply
reading_mail set name next = reading mail_limit name (feeds_of_bytes set name) next
