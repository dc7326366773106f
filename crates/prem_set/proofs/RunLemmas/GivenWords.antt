-- The values that run files give are words, and their last request's cycle is the last one read.
use Rattle.std.specs.Str.{bytes_eq}
use Rattle.std.proofs.Common.{All, ap, ◌∙◌, ◌≡◌, ◌<◌, ◌≤◌, ◌^◌, ◌-◌, ◌%◌, ◌+◌, ◌==◌, ℕ, nat_lt, nat_le, List, [], ◌∷◌, ◌++◌, length, get_or, set, Option, None, Some, IfSome}
use Rattle.std.proofs.Common.{option_map, Result, Ok, Err, codes, refl, sym, subst, arith, inl, inr, ⊎_elim}
use Rattle.std.proofs.lemmas.Bool.{cases_Bool, cases_lt}
use Rattle.std.proofs.lemmas.List.{get_or_past}
use Rattle.std.proofs.lemmas.List.Elements.{All-nil, All-push, All-set, All-replicate}
use Rattle.std.proofs.lemmas.Option.{none-some, same_Some}
use Rattle.prem_line.specs.Chain.{◌>>=◌, wanted, holds}
use Rattle.prem_line.specs.Lines.{lines_of, words_of, is_skipped, is_text, first_of}
use Rattle.prem_line.specs.Numbers.{value_of, number_of, up_to}
use Rattle.prem_line.proofs.Chain.{same_Ok, no_value, bound, held, found}
use Rattle.prem_gate.specs.declared.request.Request.{Request}
use Rattle.prem_set.specs.declared.run.fail.Which.{Which}
use Rattle.prem_set.specs.declared.run.fail.Which.TheVariants as which
use Rattle.prem_set.specs.Run.Names.{KnownNames, task_of, device_of}
use Rattle.prem_set.specs.Run.Run.{Gathered, RequestWords, taken, taken_for, inputs_of, request_words, put_of, request_of, with_request, with_words, in_words, req_words}
use Rattle.prem_set.specs.Run.Run.{words_read, line_read, lines_read, at_line, nothing_yet, run_of}
use Rattle.prem_set.proofs.RunLemmas.Lawful.{limited, run_is_lawful}
use Rattle.prem_set.specs.Run.ReadBack.{AreWords, PutWords, last_from, RunsAreSpelledAgain}
use Rattle.prem_set.proofs.RunLemmas.ReadingBack.{runs_are_read_back}

-- ---- values

abbrev IsWord : ℕ → Type 0
IsWord value = value < 2 ^ 32

abbrev AreValues : List ℕ → Type 0
AreValues list = All IsWord list

-- a number below 0
lowered : (o : Option ℕ) (v : ℕ) → option_map (λ n. (2 ^ 32 - n) % 2 ^ 32) o ≡ Some v → IsWord v
lowered None v is = absurd (none-some v is)
lowered (Some n) v is =
    let small : (2 ^ 32 - n) % 2 ^ 32 < 2 ^ 32 = omega arith in
    subst IsWord (same_Some ((2 ^ 32 - n) % 2 ^ 32) v is) small

value_is_word : (word : List ℕ) (v : ℕ) → value_of word ≡ Some v → IsWord v
value_is_word [] v is = absurd (none-some v is)
value_is_word (b ∷ bs) v is =
    elim (cases_Bool (b == 45)) [
      | inl minus ↦ lowered (up_to (2 ^ 31) (number_of bs)) v (rw minus at is)
      | inr plain ↦ let small : v ≤ 4294967295 = limited 4294967295 (number_of (b ∷ bs)) v (rw plain at is) in omega (arith, small)
    ]

-- ---- inputs

taken_words : (have : List ℕ) (words : List (List ℕ)) (list : List ℕ) → taken have words ≡ Ok list → AreValues have → AreValues list
taken_words have [] list is h = subst AreValues (held which.Limit (nat_le (length have) 100000) have list is).1 h
taken_words have (word ∷ words) list is h =
    bound (wanted which.Number (value_of word)) (λ v. taken (have ++ v ∷ []) words) list is (λ v there rest.
    taken_words (have ++ v ∷ []) words list rest (All-push IsWord have v h (value_is_word word v (found which.Number (value_of word) v there))))

words_at : (lists : List (List ℕ)) (t : ℕ) → AreWords lists → AreValues (get_or lists t [])
words_at lists t h =
    ⊎_elim (λ (lt : t < length lists). h t [] lt)
    (λ (le : length lists ≤ t). subst AreValues (sym (get_or_past lists t [] le)) (All-nil IsWord)) (cases_lt t (length lists))

taken_for_words : (lists next : List (List ℕ)) (t : ℕ) (values : List (List ℕ)) → taken_for lists t values ≡ Ok next → AreWords lists → AreWords next
taken_for_words lists next t values is h =
    bound (taken (get_or lists t []) values) (λ list. Ok (set lists t list)) next is (λ list there rest.
    subst AreWords (same_Ok (set lists t list) next rest)
    (All-set AreValues lists t list (taken_words (get_or lists t []) values list there (words_at lists t h)) h))

inputs_words : (names : KnownNames) (lists next : List (List ℕ)) (words : List (List ℕ)) → inputs_of names lists words ≡ Ok next → AreWords lists → AreWords next
unfolding inputs_of
inputs_words names lists next words is h =
    bound (wanted which.Word (first_of words)) (λ w. wanted which.Task (task_of names w.0) >>= λ t. taken_for lists t w.1) next is (λ w first rest.
    bound (wanted which.Task (task_of names w.0)) (λ t. taken_for lists t w.1) next rest (λ t task more. taken_for_words lists next t w.1 more h))

-- ---- requests

abbrev IsPut : Option ℕ → Type 0
IsPut put = IfSome put (λ value. value < 2 ^ 32)

put_words : (o : Option (List ℕ)) (put : Option ℕ) → put_of o ≡ Ok put → IsPut put
put_words None put is = subst IsPut (same_Ok None put is) tt
put_words (Some word) put is =
    bound (wanted which.Number (value_of word)) (λ v. Ok (Some v)) put is (λ v there rest.
    subst IsPut (same_Ok (Some v) put rest) (value_is_word word v (found which.Number (value_of word) v there)))

asked_words : (last count line cycle : ℕ) (d : ℕ × ℕ) (put : Option ℕ) (r : Request) → IsPut put →
    (holds which.Slot (nat_lt line d.1) line >>= λ l. holds which.Order (nat_le last cycle) cycle >>= λ c.
    holds which.Limit (nat_lt count 100000) (record { cycle = c; device = d.0; line = l; put = put })) ≡ Ok r → IsPut r.put
asked_words last count line cycle d put r h is =
    bound (holds which.Slot (nat_lt line d.1) line)
    (λ l. holds which.Order (nat_le last cycle) cycle >>= λ c. holds which.Limit (nat_lt count 100000)
    (record { cycle = c; device = d.0; line = l; put = put })) r is (λ l slot rest.
    bound (holds which.Order (nat_le last cycle) cycle) (λ c. holds which.Limit (nat_lt count 100000) (record { cycle = c; device = d.0; line = l; put = put })) r rest (λ c order more.
    subst (λ (x : Request). IsPut x.put) (held which.Limit (nat_lt count 100000) (record { cycle = c; device = d.0; line = l; put = put }) r more).1 h))

request_puts : (names : KnownNames) (last count : ℕ) (words : RequestWords) (r : Request) → request_of names last count words ≡ Ok r → IsPut r.put
unfolding request_of
request_puts names last count words r is =
    bound (wanted which.Device (device_of names words.device))
    (λ d. wanted which.Number (up_to (2 ^ 50) (number_of words.cycle)) >>= λ cycle. wanted which.Number (number_of words.line)
    >>= λ line. put_of words.put >>= λ put.
    holds which.Slot (nat_lt line d.1) line >>= λ l. holds which.Order (nat_le last cycle) cycle >>= λ c. holds which.Limit (nat_lt count 100000)
    (record { cycle = c; device = d.0; line = l; put = put })) r is (λ d device rest1.
    bound (wanted which.Number (up_to (2 ^ 50) (number_of words.cycle))) (λ cycle. wanted which.Number (number_of words.line) >>= λ line. put_of words.put >>= λ put.
    holds which.Slot (nat_lt line d.1) line >>= λ l. holds which.Order (nat_le last cycle) cycle >>= λ c. holds which.Limit (nat_lt count 100000)
    (record { cycle = c; device = d.0; line = l; put = put })) r rest1 (λ cycle at_cycle rest2.
    bound (wanted which.Number (number_of words.line)) (λ line. put_of words.put >>= λ put.
    holds which.Slot (nat_lt line d.1) line >>= λ l. holds which.Order (nat_le last cycle) cycle >>= λ c. holds which.Limit (nat_lt count 100000)
    (record { cycle = c; device = d.0; line = l; put = put })) r rest2 (λ line at_line rest3.
    bound (put_of words.put) (λ put.
    holds which.Slot (nat_lt line d.1) line >>= λ l. holds which.Order (nat_le last cycle) cycle >>= λ c. holds which.Limit (nat_lt count 100000)
    (record { cycle = c; device = d.0; line = l; put = put })) r rest3 (λ put at_put rest4.
    asked_words last count line cycle d put r (put_words words.put put at_put) rest4))))

-- ---- lines

pub record HasWords (g : Gathered) : Type 0 where
  pub words : AreWords g.words
  pub puts : PutWords g.requests
  pub last : g.last ≡ last_from 0 g.requests

last_push : (cycle : ℕ) (rs : List Request) (r : Request) → last_from cycle (rs ++ r ∷ []) ≡ r.cycle
last_push cycle [] r = refl
last_push cycle (s ∷ rs) r = last_push s.cycle rs r

request_has : (g : Gathered) (r : Request) → IsPut r.put → HasWords g → HasWords (with_request g r)
request_has g r put h = record { words = h.words; puts = All-push (λ (x : Request). IfSome x.put (λ value. value < 2 ^ 32)) g.requests r h.puts put; last = sym (last_push 0 g.requests r) }

in_has : (names : KnownNames) (g next : Gathered) (words : List (List ℕ)) → in_words names g words ≡ Ok next → HasWords g → HasWords next
unfolding in_words
in_has names g next words is h =
    bound (inputs_of names g.words words) (λ lists. Ok (with_words g lists)) next is (λ lists put rest.
    subst HasWords (same_Ok (with_words g lists) next rest) (record { words = inputs_words names g.words lists words put h.words; puts = h.puts; last = h.last }))

req_has : (names : KnownNames) (g next : Gathered) (words : List (List ℕ)) → req_words names g words ≡ Ok next → HasWords g → HasWords next
unfolding req_words
req_has names g next words is h =
    bound (wanted which.Word (request_words words)) (λ w. request_of names g.last (length g.requests) w >>= λ r. Ok (with_request g r)) next is (λ w at_words rest.
    bound (request_of names g.last (length g.requests) w) (λ r. Ok (with_request g r)) next rest (λ r asked more.
    subst HasWords (same_Ok (with_request g r) next more) (request_has g r (request_puts names g.last (length g.requests) w r asked) h)))

words_read_has : (names : KnownNames) (g next : Gathered) (first : List ℕ) (words : List (List ℕ)) → words_read names g first words ≡ Ok next → HasWords g → HasWords next
words_read_has names g next first words is h =
    elim (cases_Bool (bytes_eq first (codes "in"))) [
      | inl in_first ↦ in_has names g next words (rw in_first at is) h
      | inr not_in ↦ elim (cases_Bool (bytes_eq first (codes "req"))) [
        | inl req_first ↦ req_has names g next words (rw (not_in, req_first) at is) h
        | inr not_req ↦ absurd (no_value which.Word next (rw (not_in, not_req) at is))
      ]
    ]

line_has : (names : KnownNames) (g next : Gathered) (line : List ℕ) → line_read names g line ≡ Ok next → HasWords g → HasWords next
unfolding line_read
line_has names g next line is h =
    elim (cases_Bool (is_skipped line)) [
      | inl skipped ↦ subst HasWords (same_Ok g next (rw skipped at is)) h
      | inr kept ↦ elim (cases_Bool (is_text line)) [
        | inl text ↦ bound (wanted which.Word (first_of (words_of line))) (λ w. words_read names g w.0 w.1) next (rw (kept, text) at is) (λ w first rest. words_read_has names g next w.0 w.1 rest h)
        | inr other ↦ absurd (no_value which.Text next (rw (kept, other) at is))
      ]
    ]

-- ---- the file

passed : {P : Type 0} (names : KnownNames) (n : ℕ) (last : Gathered) (r : Result Gathered Which) (lines : List (List ℕ)) → at_line n r (λ next. lines_read names (n + 1) next lines) ≡ Ok last →
    ((next : Gathered) → r ≡ Ok next → lines_read names (n + 1) next lines ≡ Ok last → P) → P
passed names n last (Ok next) lines is go = go next refl is
passed names n last (Err w) lines is go = absurd (no_value (n, w) last is)

lines_have : (names : KnownNames) (n : ℕ) (g last : Gathered) (lines : List (List ℕ)) → lines_read names n g lines ≡ Ok last → HasWords g → HasWords last
unfolding lines_read
lines_have names n g last [] is h = subst HasWords (same_Ok g last is) h
lines_have names n g last (line ∷ lines) is h =
    passed names n last (line_read names g line) lines is (λ next read rest. lines_have names (n + 1) next last lines rest (line_has names g next line read h))

pub run_has_words : (bytes : List ℕ) (names : KnownNames) (g : Gathered) → run_of bytes names ≡ Ok g → HasWords g
run_has_words bytes names g is =
    lines_have names 1 (nothing_yet names) g (lines_of bytes) is (record {
      words = All-replicate AreValues (length names.tasks) [] (All-nil IsWord);
      puts = All-nil (λ (x : Request). IfSome x.put (λ value. value < 2 ^ 32));
      last = refl;
    })

-- its words and requests, written as a run file, are read as the same
pub runs_are_spelled_again : RunsAreSpelledAgain
runs_are_spelled_again names bytes g are is =
    let has = run_has_words bytes names g is in
    runs_are_read_back names g.words g.requests are (run_is_lawful bytes names g is) has.words has.puts
    ∙ ap (λ (last : ℕ). Ok (record { words = g.words; requests = g.requests; last = last })) (sym has.last)
