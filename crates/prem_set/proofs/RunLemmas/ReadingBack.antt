-- Run files are read back.
use Rattle.std.specs.List.{AllByRecursion, flat_map, position_or_len}
use Rattle.std.specs.List.Sorted.{IsNonDecreasingBy}
use Rattle.std.specs.Option.{option_and_then}
use Rattle.std.specs.Str.{bytes_eq}
use Rattle.std.proofs.Common.{◌≡◌, ◌≢◌, ◌<◌, ◌≤◌, ◌^◌, ℕ, suc, ◌+◌, nat_lt, Bool, if◌then◌else◌, true, false, List, [], ◌∷◌, ◌++◌, length, map, All, get_or, set, slice_get}
use Rattle.std.proofs.Common.{replicate, Option, None, Some, IfSome, option_map, Result, Ok, codes, decimal, refl, ap, sym, subst, ◌∙◌, arith, inl, inr}
use Rattle.std.proofs.lemmas.Bool.{cases_Bool, le-leb, lt-ltb}
use Rattle.std.proofs.lemmas.List.{append_assoc, append-nil, length-append, length-map, get_or-map}
use Rattle.std.proofs.lemmas.List.Elements.{recursion_from_All}
use Rattle.std.proofs.lemmas.List.Sums.{position_or_len_is}
use Rattle.std.proofs.lemmas.Option.{slice_get-get_or}
use Rattle.std.proofs.lemmas.Slice.Eq.{bytes_eq-Decides}
use Rattle.std.proofs.Math.Seq.{get_or-append_seam, set-append_seam}
use Rattle.prem_line.specs.Chain.{◌>>=◌, wanted}
use Rattle.prem_line.specs.Lines.{lines_of, is_skipped}
use Rattle.prem_line.specs.Numbers.{number_of, up_to}
use Rattle.prem_line.specs.Spelled.{IsLine, ended, joined}
use Rattle.prem_line.proofs.Spelled.{lines_are_read_back}
use Rattle.prem_line.proofs.Decimals.{numbers_are_read_back, values_are_read_back}
use Rattle.prem_plant.specs.Label.{IsName, AreDistinct}
use Rattle.prem_gate.specs.declared.request.Request.{Request}
use Rattle.prem_set.specs.declared.run.fail.Which.{Which}
use Rattle.prem_set.specs.declared.run.fail.Which.TheVariants as which
use Rattle.prem_set.specs.Run.Names.{KnownNames, place_of, task_of, device_of}
use Rattle.prem_set.specs.Run.Lawful.{IsKnown}
use Rattle.prem_set.specs.Run.Run.{Gathered, LineRefusal, taken, taken_for, inputs_of, request_words, put_of, request_of, with_request, with_words, in_words, req_words, words_read}
use Rattle.prem_set.specs.Run.Run.{line_read, lines_read, nothing_yet, run_of}
use Rattle.prem_set.specs.Run.Text.{word_text, list_line, lists_text, device_name, way_text, request_line, run_text}
use Rattle.prem_set.specs.Run.ReadBack.{AreNames, AreWords, PutWords, last_from, RunsAreReadBack}
use Rattle.prem_set.proofs.RunLemmas.SpelledLines.{IsPlain, plain_name, plain_decimal, plain_values, joined_is_line, joined_is_text, words_back, joined_numbers}

-- ---- the lines of the text

-- their words
abbrev pub in_words_of : List ℕ → List ℕ → List (List ℕ)
in_words_of name list = codes "in" ∷ name ∷ map decimal list

abbrev way_words : ℕ → Option ℕ → List (List ℕ)
way_words line (Some v) = codes "put" ∷ decimal line ∷ decimal v ∷ []
way_words line None = codes "get" ∷ decimal line ∷ []

abbrev req_words_of : KnownNames → Request → List (List ℕ)
req_words_of names r = codes "req" ∷ decimal r.cycle ∷ device_name names r.device ∷ way_words r.line r.put

abbrev pub in_lines : List (List ℕ) → List (List ℕ) → List (List ℕ)
in_lines [] lists = []
in_lines (name ∷ names) [] = []
in_lines (name ∷ names) (list ∷ lists) = joined (in_words_of name list) ∷ in_lines names lists

abbrev req_lines : KnownNames → List Request → List (List ℕ)
req_lines names [] = []
req_lines names (r ∷ rs) = joined (req_words_of names r) ∷ req_lines names rs

pub list_line_is : (name list rest : List ℕ) → list_line name list ++ rest ≡ joined (in_words_of name list) ++ 10 ∷ rest
list_line_is name list rest =
    ap (λ (t : List ℕ). codes "in " ++ t) (regroup name (flat_map word_text list) rest ∙ sym (joined_numbers name list (10 ∷ rest)))
  where
    regroup : (a b c : List ℕ) → (a ++ (b ++ 10 ∷ [])) ++ c ≡ a ++ (b ++ 10 ∷ c)
    regroup a b c = simp (append_assoc) refl

way_is : (line : ℕ) (put : Option ℕ) (rest : List ℕ) → (way_text line put ++ codes "\n") ++ rest ≡ 32 ∷ joined (way_words line put) ++ 10 ∷ rest
way_is line None rest = ap (λ (t : List ℕ). codes " get " ++ t) (append_assoc (decimal line) (10 ∷ []) rest)
way_is line (Some v) rest = ap (λ (t : List ℕ). codes " put " ++ t) (append_assoc (decimal line ++ 32 ∷ decimal v) (10 ∷ []) rest)

device_then : (device : List ℕ) (line : ℕ) (put : Option ℕ) → joined (device ∷ way_words line put) ≡ device ++ 32 ∷ joined (way_words line put)
device_then device line None = refl
device_then device line (Some v) = refl

request_line_is : (names : KnownNames) (r : Request) (rest : List ℕ) → request_line names r ++ rest ≡ joined (req_words_of names r) ++ 10 ∷ rest
request_line_is names r rest = ap (λ (t : List ℕ). codes "req " ++ t) (by (decimal r.cycle) (device_name names r.device) r.line r.put rest)
  where
    by : (cycle device : List ℕ) (line : ℕ) (put : Option ℕ) (rest : List ℕ) →
        (cycle ++ 32 ∷ (device ++ (way_text line put ++ codes "\n"))) ++ rest ≡ (cycle ++ 32 ∷ joined (device ∷ way_words line put)) ++ 10 ∷ rest
    by cycle device line put rest =
        append_assoc cycle (32 ∷ (device ++ (way_text line put ++ codes "\n"))) rest
        ∙ ap (λ (t : List ℕ). cycle ++ 32 ∷ t)
        (append_assoc device (way_text line put ++ codes "\n") rest
        ∙ ap (λ (t : List ℕ). device ++ t) (way_is line put rest)
        ∙ sym (append_assoc device (32 ∷ joined (way_words line put)) (10 ∷ rest))
        ∙ ap (λ (t : List ℕ). t ++ 10 ∷ rest) (sym (device_then device line put)))
        ∙ sym (append_assoc cycle (32 ∷ joined (device ∷ way_words line put)) (10 ∷ rest))

lists_text_is : (names lists lines : List (List ℕ)) (rest : List ℕ) → rest ≡ ended lines → lists_text names lists ++ rest ≡ ended (in_lines names lists ++ lines)
lists_text_is [] lists lines rest is = is
lists_text_is (name ∷ names) [] lines rest is = is
lists_text_is (name ∷ names) (list ∷ lists) lines rest is =
    append_assoc (list_line name list) (lists_text names lists) rest
    ∙ list_line_is name list (lists_text names lists ++ rest)
    ∙ ap (λ (t : List ℕ). joined (in_words_of name list) ++ 10 ∷ t) (lists_text_is names lists lines rest is)

requests_text_is : (names : KnownNames) (rs : List Request) → flat_map (request_line names) rs ≡ ended (req_lines names rs)
requests_text_is names [] = refl
requests_text_is names (r ∷ rs) =
    request_line_is names r (flat_map (request_line names) rs) ∙ ap (λ (t : List ℕ). joined (req_words_of names r) ++ 10 ∷ t) (requests_text_is names rs)

-- ---- names

apart : (a b : List ℕ) → a ≢ b → bytes_eq a b ≡ false
apart a b differ =
    elim (cases_Bool (bytes_eq a b)) [
      | inl same ↦ absurd (differ ((bytes_eq-Decides a b).0 same))
      | inr other ↦ other
    ]

-- each of distinct names is found at its place
place_is : (names : List (List ℕ)) (i : ℕ) → AreDistinct names → i < length names → place_of names (get_or names i []) ≡ Some i
place_is names i distinct within =
    let name = get_or names i [] in
    let first : position_or_len (bytes_eq name) names ≡ i = position_or_len_is (bytes_eq name) names i [] (omega (arith, within)) earlier (λ _. (bytes_eq-Decides name name).1 refl) in
    ap (λ n. if nat_lt n (length names) then Some n else None) first ∙ found (nat_lt i (length names)) (lt-ltb i (length names) within)
  where
    earlier : (k : ℕ) → k < i → bytes_eq (get_or names i []) (get_or names k []) ≡ false
    earlier k before =
        apart (get_or names i []) (get_or names k []) (λ same. absurd (omega (arith, before, distinct i k within (omega (arith, within, before)) same)))

    found : (b : Bool) → b ≡ true → (if b then Some i else None) ≡ Some i
    found b is = rw is refl

-- ---- a request that may stand in a run file of a set with these names

abbrev lines_at : KnownNames → ℕ → ℕ
lines_at names d = (get_or names.devices d ([], 0)).1

record IsAsked (names : KnownNames) (r : Request) : Type 0 where
  name : IsName (device_name names r.device)
  device : device_of names (device_name names r.device) ≡ Some (r.device, lines_at names r.device)
  line : r.line < lines_at names r.device
  small : r.line < 2 ^ 64
  cycle : r.cycle ≤ 2 ^ 50
  put : IfSome r.put (λ v. v < 2 ^ 32)

device_is : (names : KnownNames) (d : ℕ) → AreDistinct (map (λ (x : List ℕ × ℕ). x.0) names.devices) → d < length names.devices →
    device_of names (device_name names d) ≡ Some (d, lines_at names d)
device_is names d distinct within =
    let name : List ℕ × ℕ → List ℕ = λ x. x.0 in
    let at : place_of (map name names.devices) (device_name names d) ≡ Some d =
    ap (place_of (map name names.devices)) (sym (get_or-map name names.devices d ([], 0) [] within))
    ∙ place_is (map name names.devices) d distinct (omega (arith, within, length-map names.devices name)) in
    ap (λ (o : Option ℕ). option_and_then (λ n. option_map (λ (x : List ℕ × ℕ). (n, x.1)) (slice_get names.devices n)) o) at
    ∙ ap (option_map (λ (x : List ℕ × ℕ). (d, x.1))) (slice_get-get_or names.devices d ([], 0) within)

asked : (names : KnownNames) (requests : List Request) → AreNames names → All (IsKnown names) requests → PutWords requests → AllByRecursion (IsAsked names) requests
asked names requests are known puts = recursion_from_All (IsAsked names) requests (λ k d within. one (get_or requests k d) (known k d within) (puts k d within))
  where
    one : (r : Request) → IsKnown names r → IfSome r.put (λ v. v < 2 ^ 32) → IsAsked names r
    one r is put =
        let there = are.devices r.device ([], 0) is.device in
        record {
          name = there.0;
          device = device_is names r.device are.distinct_devices is.device;
          line = is.line;
          small = omega (arith, is.line, there.1);
          cycle = is.cycle;
          put = put;
        }

-- ---- words of lines

pub in_plain : (name list : List ℕ) → IsName name → AllByRecursion (λ v. v < 2 ^ 32) list → AllByRecursion IsPlain (in_words_of name list)
in_plain name list is small = (record { some = omega arith; plain = refl }, (plain_name name is, plain_values list small))

way_plain : (line : ℕ) (put : Option ℕ) → line < 2 ^ 64 → IfSome put (λ v. v < 2 ^ 32) → AllByRecursion IsPlain (way_words line put)
way_plain line None small word = (record { some = omega arith; plain = refl }, (plain_decimal line small, tt))
way_plain line (Some v) small word = (record { some = omega arith; plain = refl }, (plain_decimal line small, (plain_decimal v (omega (arith, word)), tt)))

req_plain : (names : KnownNames) (r : Request) → IsAsked names r → AllByRecursion IsPlain (req_words_of names r)
req_plain names r is = (
  record { some = omega arith; plain = refl },
  (plain_decimal r.cycle (omega (arith, is.cycle)), (plain_name (device_name names r.device) is.name, way_plain r.line r.put is.small is.put)),
)

-- ---- each of them is a line

abbrev AreLines : List (List ℕ) → Type 0
AreLines lines = AllByRecursion IsLine lines

in_are_lines : (names lists more : List (List ℕ)) → AllByRecursion IsName names → AllByRecursion (AllByRecursion (λ v. v < 2 ^ 32)) lists → AreLines more → AreLines (in_lines names lists ++ more)
in_are_lines [] lists more is small all = all
in_are_lines (name ∷ names) [] more is small all = all
in_are_lines (name ∷ names) (list ∷ lists) more is small all =
    (joined_is_line (in_words_of name list) (in_plain name list is.0 small.0), in_are_lines names lists more is.1 small.1 all)

req_are_lines : (names : KnownNames) (rs : List Request) → AllByRecursion (IsAsked names) rs → AreLines (req_lines names rs)
req_are_lines names [] all = tt
req_are_lines names (r ∷ rs) all = (joined_is_line (req_words_of names r) (req_plain names r all.0), req_are_lines names rs all.1)

-- ---- a line is read

line_is : (names : KnownNames) (g : Gathered) (word : List ℕ) (words : List (List ℕ)) → AllByRecursion IsPlain (word ∷ words) → is_skipped (joined (word ∷ words)) ≡ false →
    line_read names g (joined (word ∷ words)) ≡ words_read names g word words
unfolding line_read
line_is names g word words all kept = rw (kept, joined_is_text (word ∷ words) all, words_back (word ∷ words) all) refl

taken_is : (have vs : List ℕ) → length (have ++ vs) ≤ 100000 → AllByRecursion (λ v. v < 2 ^ 32) vs → taken have (map decimal vs) ≡ Ok (have ++ vs)
taken_is have [] short small =
    let whole = append-nil have in
    let within : length have ≤ 100000 = subst (λ (l : List ℕ). length l ≤ 100000) whole short in
    rw (le-leb (length have) 100000 within) (ap Ok (sym whole))
taken_is have (v ∷ vs) short small =
    let whole = append_assoc have (v ∷ []) vs in
    ap (λ o. wanted which.Number o >>= λ n. taken (have ++ n ∷ []) (map decimal vs)) (values_are_read_back v small.0)
    ∙ taken_is (have ++ v ∷ []) vs (subst (λ (l : List ℕ). length l ≤ 100000) (sym whole) short) small.1
    ∙ ap Ok whole

in_read : (names : KnownNames) (g : Gathered) (t : ℕ) (name list : List ℕ) → task_of names name ≡ Some t → get_or g.words t [] ≡ [] → length list ≤ 100000 →
    AllByRecursion (λ v. v < 2 ^ 32) list → words_read names g (codes "in") (name ∷ map decimal list) ≡ Ok (with_words g (set g.words t list))
unfolding in_words inputs_of
in_read names g t name list found none short small =
    ap (λ o. wanted which.Task o >>= (λ k. taken_for g.words k (map decimal list)) >>= λ lists. Ok (with_words g lists)) found
    ∙ ap (λ (have : List ℕ). taken have (map decimal list) >>= (λ l. Ok (set g.words t l)) >>= λ lists. Ok (with_words g lists)) none
    ∙ ap (λ (r : Result (List ℕ) Which). r >>= (λ l. Ok (set g.words t l)) >>= λ lists. Ok (with_words g lists)) (taken_is [] list short small)

request_is : (names : KnownNames) (last count : ℕ) (r : Request) (put : Option (List ℕ)) → IsAsked names r → last ≤ r.cycle → count < 100000 → put_of put ≡ Ok r.put →
    request_of names last count (record { cycle = decimal r.cycle; device = device_name names r.device; line = decimal r.line; put = put }) ≡ Ok r
unfolding request_of
request_is names last count r put is later few word =
    let cycle : up_to (2 ^ 50) (number_of (decimal r.cycle)) ≡ Some r.cycle =
    ap (up_to (2 ^ 50)) (numbers_are_read_back r.cycle (omega (arith, is.cycle))) ∙ within r.cycle is.cycle in
    rw (is.device, cycle, numbers_are_read_back r.line is.small, word, lt-ltb r.line (lines_at names r.device) is.line, le-leb last r.cycle later, lt-ltb count 100000 few) refl
  where
    within : (n : ℕ) → n ≤ 2 ^ 50 → up_to (2 ^ 50) (Some n) ≡ Some n
    within n small = rw (le-leb n (2 ^ 50) small) refl

req_read : (names : KnownNames) (g : Gathered) (r : Request) → IsAsked names r → g.last ≤ r.cycle → length g.requests < 100000 →
    words_read names g (codes "req") (decimal r.cycle ∷ device_name names r.device ∷ way_words r.line r.put) ≡ Ok (with_request g r)
unfolding req_words request_words
req_read names g r is later few = by r.put refl
  where
    by : (put : Option ℕ) → r.put ≡ put → words_read names g (codes "req") (decimal r.cycle ∷ device_name names r.device ∷ way_words r.line put) ≡ Ok (with_request g r)
    by None this = ap (λ o. o >>= λ x. Ok (with_request g x)) (request_is names g.last (length g.requests) r None is later few (ap Ok (sym this)))
    by (Some v) this =
        let small : v < 2 ^ 32 = subst (λ o. IfSome o (λ v. v < 2 ^ 32)) this is.put in
        let word : put_of (Some (decimal v)) ≡ Ok r.put =
        ap (λ o. wanted which.Number o >>= λ n. Ok (Some n)) (values_are_read_back v small) ∙ ap Ok (sym this) in
        ap (λ o. o >>= λ x. Ok (with_request g x)) (request_is names g.last (length g.requests) r (Some (decimal v)) is later few word)

goes : (names : KnownNames) (n : ℕ) (g next : Gathered) (line : List ℕ) (lines : List (List ℕ)) → line_read names g line ≡ Ok next →
    lines_read names n g (line ∷ lines) ≡ lines_read names (n + 1) next lines
unfolding lines_read
goes names n g next line lines is = rw is refl

-- ---- all lines of lists

abbrev pub with_lists : List (List ℕ) → Gathered
with_lists words = record { words = words; requests = []; last = 0 }

abbrev pub AreShort : List (List ℕ) → Type 0
AreShort lists = AllByRecursion (λ list. length list ≤ 100000) lists

abbrev pub AreSmall : List (List ℕ) → Type 0
AreSmall lists = AllByRecursion (AllByRecursion (λ v. v < 2 ^ 32)) lists

pub lists_read : (names : KnownNames) (before after front rest lines : List (List ℕ)) (n : ℕ) (answer : Result Gathered LineRefusal) → names.tasks ≡ before ++ after → length before ≡ length front →
    length rest ≡ length after → AreDistinct names.tasks → AllByRecursion IsName after → AreShort rest → AreSmall rest → ((m : ℕ) → lines_read names m (with_lists (front ++ rest)) lines ≡ answer) →
    lines_read names n (with_lists (front ++ replicate (length after) [])) (in_lines after rest ++ lines) ≡ answer
lists_read names before [] front [] lines n answer tasks same count distinct are short small behind = behind n
lists_read names before [] front (list ∷ rest) lines n answer tasks same count distinct are short small behind = absurd (omega (arith, count))
lists_read names before (name ∷ after) front [] lines n answer tasks same count distinct are short small behind = absurd (omega (arith, count))
lists_read names before (name ∷ after) front (list ∷ rest) lines n answer tasks same count distinct are short small behind =
    let t = length front in
    let empty = replicate (length after) [] in
    let words = front ++ [] ∷ empty in
    let within : t < length names.tasks = let whole = ap length tasks in omega (arith, whole, same, length-append before (name ∷ after)) in
    let named : get_or names.tasks t [] ≡ name =
    ap (λ (l : List (List ℕ)). get_or l t []) tasks ∙ ap (λ k. get_or (before ++ name ∷ after) k []) (sym same) ∙ get_or-append_seam before name after [] in
    let found : task_of names name ≡ Some t = ap (place_of names.tasks) (sym named) ∙ place_is names.tasks t distinct within in
    let read : line_read names (with_lists words) (joined (in_words_of name list)) ≡ Ok (with_lists ((front ++ list ∷ []) ++ empty)) =
    line_is names (with_lists words) (codes "in") (name ∷ map decimal list) (in_plain name list are.0 small.0) refl
    ∙ in_read names (with_lists words) t name list found (get_or-append_seam front [] empty []) short.0 small.0
    ∙ ap (λ ws. Ok (with_lists ws)) (set-append_seam front [] empty list ∙ sym (append_assoc front (list ∷ []) empty)) in
    goes names n (with_lists words) (with_lists ((front ++ list ∷ []) ++ empty)) (joined (in_words_of name list)) (in_lines after rest ++ lines) read
    ∙ lists_read names (before ++ name ∷ []) after (front ++ list ∷ []) rest lines (n + 1) answer (tasks ∙ sym (append_assoc before (name ∷ []) after))
    (length-append before (name ∷ []) ∙ ap (λ k. k + 1) same ∙ sym (length-append front (list ∷ []))) (omega (arith, count)) distinct are.1 short.1 small.1
    (λ m. ap (λ ws. lines_read names m (with_lists ws) lines) (append_assoc front (list ∷ []) rest) ∙ behind m)

-- ---- all requests

abbrev Rises : ℕ → List Request → Type 0
Rises last [] = Unit {0}
Rises last (r ∷ rs) = (last ≤ r.cycle) × Rises r.cycle rs

rises_from : (r : Request) (rs : List Request) → IsNonDecreasingBy (λ (x : Request). x.cycle) (r ∷ rs) → Rises r.cycle rs
rises_from r [] ordered = tt
rises_from r (s ∷ ss) ordered =
    (ordered 0 1 r (omega arith) (omega arith), rises_from s ss (λ i j d le within. ordered (suc i) (suc j) d (omega (arith, le)) (omega (arith, within))))

rises : (rs : List Request) → IsNonDecreasingBy (λ (x : Request). x.cycle) rs → Rises 0 rs
rises [] ordered = tt
rises (r ∷ rs) ordered = (omega arith, rises_from r rs ordered)

requests_read : (names : KnownNames) (words : List (List ℕ)) (done todo : List Request) (n last : ℕ) → AllByRecursion (IsAsked names) todo → Rises last todo → length (done ++ todo) ≤ 100000 →
    lines_read names n (record { words = words; requests = done; last = last }) (req_lines names todo) ≡ Ok (record { words = words; requests = done ++ todo; last = last_from last todo })
unfolding lines_read
requests_read names words done [] n last are rise few = ap (λ rs. Ok (record { words = words; requests = rs; last = last })) (sym (append-nil done))
requests_read names words done (r ∷ rs) n last are rise few =
    let g : Gathered = record { words = words; requests = done; last = last } in
    let whole = append_assoc done (r ∷ []) rs in
    let read : line_read names g (joined (req_words_of names r)) ≡ Ok (with_request g r) =
    line_is names g (codes "req") (decimal r.cycle ∷ device_name names r.device ∷ way_words r.line r.put) (req_plain names r are.0) refl
    ∙ req_read names g r are.0 rise.0 (omega (arith, few, length-append done (r ∷ rs))) in
    goes names n g (with_request g r) (joined (req_words_of names r)) (req_lines names rs) read
    ∙ requests_read names words (done ++ r ∷ []) rs (n + 1) r.cycle are.1 rise.1 (subst (λ (l : List Request). length l ≤ 100000) (sym whole) few)
    ∙ ap (λ l. Ok (record { words = words; requests = l; last = last_from r.cycle rs })) whole

-- ---- the file

pub small_lists : (lists : List (List ℕ)) → AreWords lists → AreSmall lists
small_lists lists words =
    recursion_from_All (AllByRecursion (λ v. v < 2 ^ 32)) lists (λ k d within. recursion_from_All (λ v. v < 2 ^ 32) (get_or lists k d) (words k d within))

file_is : (names : KnownNames) (words : List (List ℕ)) (requests : List Request) → AreNames names → length words ≡ length names.tasks →
    AreShort words → AreSmall words → AllByRecursion (IsAsked names) requests →
    Rises 0 requests → length requests ≤ 100000 → run_of (run_text names words requests) names ≡ Ok (record { words = words; requests = requests; last = last_from 0 requests })
file_is names words requests are count short small asks rise few =
    let tasks = recursion_from_All IsName names.tasks are.tasks in
    let lines = in_lines names.tasks words ++ req_lines names requests in
    let text : run_text names words requests ≡ ended lines =
    lists_text_is names.tasks words (req_lines names requests) (flat_map (request_line names) requests) (requests_text_is names requests) in
    let back : lines_of (run_text names words requests) ≡ lines =
    ap lines_of text ∙ lines_are_read_back lines (in_are_lines names.tasks words (req_lines names requests) tasks small (req_are_lines names requests asks)) in
    ap (lines_read names 1 (nothing_yet names)) back
    ∙ lists_read names [] names.tasks [] words (req_lines names requests) 1
    (Ok (record { words = words; requests = requests; last = last_from 0 requests })) refl refl count are.distinct_tasks tasks short small
    (λ m. requests_read names words [] requests m 0 asks rise few)

pub runs_are_read_back : RunsAreReadBack
runs_are_read_back names words requests are lawful small puts =
    file_is names words requests are lawful.tasks (recursion_from_All (λ list. length list ≤ 100000) words lawful.each) (small_lists words small)
    (asked names requests are lawful.known puts) (rises requests lawful.ordered) lawful.count
