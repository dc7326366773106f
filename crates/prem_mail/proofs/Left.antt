-- What is left of a mail file.
use Rattle.std.proofs.Common.{◌≡◌, ◌≤◌, ◌<◌, ◌+◌, ℕ, List, [], ◌∷◌, length, Ok, Err, refl, sym, ap, ◌∙◌, arith}
use Rattle.std.proofs.lemmas.List.{nil_from_length}
use Rattle.prem_line.specs.Lines.{lines_of}
use Rattle.prem_line.specs.declared.failing.Failing.{Failing}
use Rattle.prem_line.specs.declared.failing.Failing.TheVariants.{OutOfMemory, Refused}
use Rattle.prem_line.specs.Failing.{Fails}
use Rattle.prem_set.specs.Run.Names.{KnownNames}
use Rattle.prem_mail.specs.declared.feed.Feed.{Feed}
use Rattle.prem_mail.specs.declared.fail.MailWhich.{MailWhich}
use Rattle.prem_mail.specs.declared.fail.MailFail.{MailFail}
use Rattle.prem_mail.specs.MailFile.{line_read, lines_read, feeds_of}
use Rattle.prem_mail.specs.Views.{MailFails, line_fault}

-- the lines that are left give what all give, and the number of the next line is small
pub record Left (names : KnownNames) (bytes : List ℕ) (n : ℕ) (feeds : List Feed) (rest : List ℕ) : Type 0 where
  pub whole : lines_read names n feeds (lines_of rest) ≡ feeds_of bytes names
  pub number : n + length rest ≤ length bytes + 1

-- a line that is refused
pub failed : (names : KnownNames) (bytes : List ℕ) (n : ℕ) (feeds : List Feed) (rest line more : List ℕ) (fail : Failing MailWhich) (result : MailFail) → Left names bytes n feeds rest →
    lines_of rest ≡ line ∷ lines_of more → Fails fail (line_read names feeds line) → result ≡ line_fault n fail → MailFails result (feeds_of bytes names)
unfolding lines_read
failed names bytes n feeds rest line more OutOfMemory result left cut fails is = rw is tt
failed names bytes n feeds rest line more (Refused which) result left cut fails is =
    let here : lines_read names n feeds (lines_of rest) ≡ Err (n, which) = rw (cut, fails) refl in
    rw is (sym left.whole ∙ here)

-- a line that is read
pub went : (names : KnownNames) (bytes : List ℕ) (n : ℕ) (feeds next : List Feed) (rest line more : List ℕ) → Left names bytes n feeds rest →
    lines_of rest ≡ line ∷ lines_of more → length more < length rest → line_read names feeds line ≡ Ok next → Left names bytes (n + 1) next more
unfolding lines_read
went names bytes n feeds next rest line more left cut shorter read =
    let here : lines_read names n feeds (lines_of rest) ≡ lines_read names (n + 1) next (lines_of more) = rw (cut, read) refl in
    record { whole = sym here ∙ left.whole; number = omega (arith, left.number, shorter) }

-- no line is left
pub done : (names : KnownNames) (bytes : List ℕ) (n : ℕ) (feeds : List Feed) (rest : List ℕ) → Left names bytes n feeds rest → length rest ≡ 0 → feeds_of bytes names ≡ Ok feeds
unfolding lines_read
done names bytes n feeds rest left none =
    let empty : rest ≡ [] = nil_from_length rest none in
    sym left.whole ∙ ap (λ r. lines_read names n feeds (lines_of r)) empty
