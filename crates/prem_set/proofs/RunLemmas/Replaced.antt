-- A run file with other input words.
use Rattle.std.specs.List.{AllByRecursion, list_all}
use Rattle.std.specs.Str.{bytes_eq}
use Rattle.std.proofs.Common.{◌≡◌, ◌≤◌, ℕ, ◌+◌, ◌==◌, if◌then◌else◌, true, false, List, [], ◌∷◌, ◌++◌, length, Result, Ok, Err, codes, refl, ap, sym, ◌∙◌, inl, inr}
use Rattle.std.proofs.lemmas.Bool.{cases_Bool, and_parts, not-true}
use Rattle.std.proofs.lemmas.List.{append_assoc}
use Rattle.std.proofs.lemmas.List.Elements.{recursion_from_All}
use Rattle.prem_line.specs.Chain.{◌>>=◌, wanted}
use Rattle.prem_line.specs.Lines.{onto_first, lines_of, without_return, words_of, is_skipped, is_text, first_of}
use Rattle.prem_line.specs.Spelled.{joined}
use Rattle.prem_line.proofs.Chain.{same_Ok, no_value, bound, found}
use Rattle.prem_line.proofs.Cutting.{stays, not_before_end}
use Rattle.prem_plant.specs.Label.{IsName}
use Rattle.prem_set.specs.declared.run.fail.Which.{Which}
use Rattle.prem_set.specs.declared.run.fail.Which.TheVariants as which
use Rattle.prem_set.specs.Run.Names.{KnownNames}
use Rattle.prem_set.specs.Run.Run.{Gathered, inputs_of, request_words, request_of, with_request, with_words, in_words, req_words, words_read, line_read, lines_read, at_line, nothing_yet}
use Rattle.prem_set.specs.Run.Text.{lists_text, list_line}
use Rattle.prem_set.specs.Run.ReadBack.{begins_in, gives_words, other_lines, ListsReplaceWords}
use Rattle.prem_set.proofs.RunLemmas.SpelledLines.{joined_is_line}
use Rattle.prem_set.proofs.RunLemmas.ReadingBack.{in_words_of, in_lines, list_line_is, in_plain, AreSmall, lists_read, small_lists}

-- ---- lines before any text: as the lemmas of this name in prem_line's Spelled, which its law on whole texts alone needs

last_byte : (b : ℕ) (rest : List ℕ) → (b == 10) ≡ false → lines_of (b ∷ 10 ∷ rest) ≡ without_return (b ∷ []) ∷ lines_of rest
last_byte b rest other =
    elim (cases_Bool (b == 13)) [
      | inl return ↦ rw (other, return) refl
      | inr none ↦ rw (other, none) refl
    ]

more_bytes : (b c : ℕ) (text : List ℕ) (lines : List (List ℕ)) → (b == 10) ≡ false → (c == 10) ≡ false → lines_of (c ∷ text) ≡ lines → lines_of (b ∷ c ∷ text) ≡ onto_first b lines
more_bytes b c text lines other next is = rw (other, not_before_end b (c ∷ text) next) (ap (onto_first b) is)

line_then : (line rest : List ℕ) → list_all stays line ≡ true → lines_of (line ++ 10 ∷ rest) ≡ without_return line ∷ lines_of rest
line_then [] rest all = refl
line_then (b ∷ []) rest all = last_byte b rest (not-true (b == 10) (and_parts (stays b) true all).0)
line_then (b ∷ c ∷ cs) rest all =
    let (here, later) = and_parts (stays b) (list_all stays (c ∷ cs)) all in
    let (next, after) = and_parts (stays c) (list_all stays cs) later in
    more_bytes b c (cs ++ 10 ∷ rest) (without_return (c ∷ cs) ∷ lines_of rest) (not-true (b == 10) here) (not-true (c == 10) next) (line_then (c ∷ cs) rest later)

lists_then : (names lists : List (List ℕ)) (rest : List ℕ) → AllByRecursion IsName names → AreSmall lists → lines_of (lists_text names lists ++ rest) ≡ in_lines names lists ++ lines_of rest
lists_then [] lists rest are small = refl
lists_then (name ∷ names) [] rest are small = refl
lists_then (name ∷ names) (list ∷ lists) rest are small =
    let line = joined_is_line (in_words_of name list) (in_plain name list are.0 small.0) in
    ap lines_of (append_assoc (list_line name list) (lists_text names lists) rest ∙ list_line_is name list (lists_text names lists ++ rest))
    ∙ line_then (joined (in_words_of name list)) (lists_text names lists ++ rest) line.stays
    ∙ (λ i. line.whole i ∷ lists_then names lists rest are.1 small.1 i)

-- ---- what is read beside input words doesn't depend on them

abbrev with_others : List (List ℕ) → Gathered → Gathered
with_others lists g = record { words = lists; requests = g.requests; last = g.last }

-- a line with input words leaves all else
leaves : (names : KnownNames) (lists : List (List ℕ)) (g next : Gathered) (line : List ℕ) → gives_words line ≡ true → line_read names g line ≡ Ok next → with_others lists g ≡ with_others lists next
unfolding line_read in_words
leaves names lists g next line gives is =
    elim (cases_Bool (is_skipped line)) [
      | inl skipped ↦ ap (with_others lists) (same_Ok g next (rw skipped at is))
      | inr kept ↦ elim (cases_Bool (is_text line)) [
        | inl text ↦ bound (wanted which.Word (first_of (words_of line))) (λ w. words_read names g w.0 w.1) next (rw (kept, text) at is) (λ w first rest.
            let at_in : bytes_eq w.0 (codes "in") ≡ true = sym (ap begins_in (found which.Word (first_of (words_of line)) w first)) ∙ gives in
            bound (inputs_of names g.words w.1) (λ read. Ok (with_words g read)) next (rw at_in at rest) (λ read there more. ap (with_others lists) (same_Ok (with_words g read) next more)))
        | inr other ↦ absurd (no_value which.Text next (rw (kept, other) at is))
      ]
    ]

-- another line is read alike
alike : (names : KnownNames) (lists : List (List ℕ)) (g next : Gathered) (line : List ℕ) → gives_words line ≡ false → line_read names g line ≡ Ok next →
    line_read names (with_others lists g) line ≡ Ok (with_others lists next)
unfolding line_read req_words
alike names lists g next line gives is =
    elim (cases_Bool (is_skipped line)) [
      | inl skipped ↦ rw skipped (ap (λ x. Ok (with_others lists x)) (same_Ok g next (rw skipped at is)))
      | inr kept ↦ elim (cases_Bool (is_text line)) [
        | inl text ↦ bound (wanted which.Word (first_of (words_of line))) (λ w. words_read names g w.0 w.1) next (rw (kept, text) at is) (λ w first rest.
            let not_in : bytes_eq w.0 (codes "in") ≡ false = sym (ap begins_in (found which.Word (first_of (words_of line)) w first)) ∙ gives in
            rw (kept, text, first, not_in) (by w.0 w.1 (rw not_in at rest)))
        | inr other ↦ absurd (no_value which.Text next (rw (kept, other) at is))
      ]
    ]
  where
    requested : (words : List (List ℕ)) → req_words names g words ≡ Ok next → req_words names (with_others lists g) words ≡ Ok (with_others lists next)
    requested words is =
        bound (wanted which.Word (request_words words)) (λ w. request_of names g.last (length g.requests) w >>= λ r. Ok (with_request g r)) next is (λ w at_words rest.
        bound (request_of names g.last (length g.requests) w) (λ r. Ok (with_request g r)) next rest (λ r asked more.
        rw (at_words, asked) (ap (λ x. Ok (with_others lists x)) (same_Ok (with_request g r) next more))))

    by : (first : List ℕ) (words : List (List ℕ)) → (if bytes_eq first (codes "req") then req_words names g words else Err which.Word) ≡ Ok next →
        (if bytes_eq first (codes "req") then req_words names (with_others lists g) words else Err which.Word) ≡ Ok (with_others lists next)
    by first words is =
        elim (cases_Bool (bytes_eq first (codes "req"))) [
          | inl req ↦ rw req (requested words (rw req at is))
          | inr none ↦ absurd (no_value which.Word next (rw none at is))
        ]

-- ---- all lines

passed : {P : Type 0} (names : KnownNames) (n : ℕ) (last : Gathered) (r : Result Gathered Which) (lines : List (List ℕ)) → at_line n r (λ next. lines_read names (n + 1) next lines) ≡ Ok last →
    ((next : Gathered) → r ≡ Ok next → lines_read names (n + 1) next lines ≡ Ok last → P) → P
passed names n last (Ok next) lines is go = go next refl is
passed names n last (Err w) lines is go = absurd (no_value (n, w) last is)

others_read : (names : KnownNames) (lists : List (List ℕ)) (n m : ℕ) (g last : Gathered) (lines : List (List ℕ)) → lines_read names n g lines ≡ Ok last →
    lines_read names m (with_others lists g) (other_lines lines) ≡ Ok (with_others lists last)
unfolding lines_read
others_read names lists n m g last [] is = ap (λ x. Ok (with_others lists x)) (same_Ok g last is)
others_read names lists n m g last (line ∷ lines) is =
    passed names n last (line_read names g line) lines is (λ next read rest. elim (cases_Bool (gives_words line)) [
      | inl gives ↦ rw (gives, leaves names lists g next line gives read) (others_read names lists (n + 1) m next last lines rest)
      | inr none ↦ rw (none, alike names lists g next line none read) (others_read names lists (n + 1) (m + 1) next last lines rest)
    ])

pub lists_replace_words : ListsReplaceWords
lists_replace_words names bytes rest g lists are count short words read others =
    let tasks = recursion_from_All IsName names.tasks are.tasks in
    let small = small_lists lists words in
    ap (lines_read names 1 (nothing_yet names)) (lists_then names.tasks lists rest tasks small ∙ ap (λ ls. in_lines names.tasks lists ++ ls) others)
    ∙ lists_read names [] names.tasks [] lists (other_lines (lines_of bytes)) 1 (Ok (with_others lists g)) refl refl count are.distinct_tasks tasks
    (recursion_from_All (λ list. length list ≤ 100000) lists short) small (λ m. others_read names lists 1 m (nothing_yet names) g (lines_of bytes) read)
