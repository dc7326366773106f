-- What a mail file gives, or the first line that is refused.
use Rattle.std.specs.Prelude.{ℕ, ◌+◌, ◌==◌, ◌&&◌, nat_lt, not, Bool, if◌then◌else◌, List, [], ◌∷◌, ◌++◌, length, Option, None, Some, Result, Ok, Err, codes}
use Rattle.std.specs.Option.{option_and_then}
use Rattle.std.specs.List.{list_any}
use Rattle.std.specs.Str.{bytes_eq}
use Rattle.prem_line.specs.Chain.{◌>>=◌, wanted, holds}
use Rattle.prem_line.specs.Lines.{lines_of, is_skipped, is_text, words_of, first_of}
use Rattle.prem_line.specs.Numbers.{number_of}
use Rattle.prem_set.specs.Run.Names.{KnownNames, task_of, device_of}
use Rattle.prem_mail.specs.declared.feed.Feed.{Feed}
use Rattle.prem_mail.specs.declared.fail.MailWhich.{MailWhich}
use Rattle.prem_mail.specs.declared.fail.MailWhich.TheVariants.{Text, Word, Task, Device, Number, Slot, Twice, Limit}

-- ---- a feed

-- the words of a feed behind `feed`
pub record FeedWords : Type 0 where
  pub device : List ℕ
  pub line : List ℕ
  pub task : List ℕ

-- the third word, where none is behind it
abbrev pub last_word : List ℕ → List ℕ → List ℕ → List (List ℕ) → Option FeedWords
last_word device line task [] = Some (record { device = device; line = line; task = task })
last_word device line task (more ∷ words) = None

-- DEVICE LINE TASK
unfoldable pub feed_words : List (List ℕ) → Option FeedWords
feed_words words =
    option_and_then (λ device. option_and_then (λ line. option_and_then (λ task. last_word device.0 line.0 task.0 task.1)
    (first_of line.1)) (first_of device.1)) (first_of words)

-- the feed is of this device and line
abbrev pub is_of : ℕ → ℕ → Feed → Bool
is_of device line f = (f.device == device) && (f.line == line)

-- one of the feeds is of this device and line
abbrev pub is_fed : List Feed → ℕ → ℕ → Bool
is_fed feeds device line = list_any (is_of device line) feeds

-- as many feeds as a mail file may have
abbrev pub feeds_size : ℕ
feeds_size = 8192

-- a feed behind these
unfoldable pub feed_of : KnownNames → List Feed → FeedWords → Result Feed MailWhich
feed_of names have words =
    wanted Task (task_of names words.task) >>= λ t.
    wanted Device (device_of names words.device) >>= λ d.
    wanted Number (number_of words.line) >>= λ line.
    holds Slot (nat_lt line d.1) line >>= λ line.
    holds Twice (not (is_fed have d.0 line)) line >>= λ line.
    holds Limit (nat_lt (length have) feeds_size) (record { device = d.0; line = line; task = t })

-- ---- lines

unfoldable pub fed_words : KnownNames → List Feed → List (List ℕ) → Result (List Feed) MailWhich
fed_words names have words =
    wanted Word (feed_words words) >>= λ w.
    feed_of names have w >>= λ f. Ok (have ++ f ∷ [])

-- a line's first word is `feed`
abbrev pub words_read : KnownNames → List Feed → List ℕ → List (List ℕ) → Result (List Feed) MailWhich
words_read names have first words = if bytes_eq first (codes "feed") then fed_words names have words else Err Word

unfoldable pub line_read : KnownNames → List Feed → List ℕ → Result (List Feed) MailWhich
line_read names have line =
    if is_skipped line then Ok have else
    if not (is_text line) then Err Text else
    wanted Word (first_of (words_of line)) >>= λ w. words_read names have w.0 w.1

-- ---- the file

-- the number of the line, and why it is refused
abbrev pub MailRefusal : Type 0
MailRefusal = ℕ × MailWhich

abbrev pub at_line : {A : Type 0} → ℕ → Result A MailWhich → (A → Result (List Feed) MailRefusal) → Result (List Feed) MailRefusal
at_line n (Ok x) go = go x
at_line n (Err which) go = Err (n, which)

-- the lines from the n-th on, behind these feeds
unfoldable pub lines_read : KnownNames → ℕ → List Feed → List (List ℕ) → Result (List Feed) MailRefusal
lines_read names n have [] = Ok have
lines_read names n have (line ∷ lines) = at_line n (line_read names have line) (λ next. lines_read names (n + 1) next lines)

-- one feed for each line that isn't skipped, in their order
abbrev pub feeds_of : List ℕ → KnownNames → Result (List Feed) MailRefusal
feeds_of bytes names = lines_read names 1 [] (lines_of bytes)
