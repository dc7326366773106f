-- Texts that are made of lines of printed words: a reader finds these again. The text of a dump is one.
use Rattle.std.specs.Prelude.{◌*◌, ◌&&◌, ◌||◌, not, nat_le, codes, decimal, map}
use Rattle.std.specs.List.{list_all, AllByRecursion}
use Rattle.std.proofs.Common.{◌≡◌, ◌≤◌, ◌+◌, ◌==◌, ℕ, List, [], ◌∷◌, ◌++◌, Bool, true, false, Option, length, refl, ap, ap₂, sym, ◌∙◌, arith, append_assoc}
use Rattle.std.proofs.lemmas.Bool.{and_parts}
use Rattle.std.proofs.lemmas.Bool.Decides.{nat_tests}
use Rattle.std.proofs.lemmas.List.Folds.{list_all-append}
use Rattle.prem_line.specs.Lines.{is_blank, without_return, words_of}
use Rattle.prem_line.specs.Spelled.{IsLine, IsWord, ended, joined}
use Rattle.prem_line.proofs.Spelled.{lines_are_read_back, words_are_read_back}
use Rattle.prem_wave.specs.Dump.{Change, Moment, change_line, changes_text, moments_text, time_text, value_text}
use Rattle.prem_wave.specs.Grammar.{IsPrinted, IsValue, is_between, is_bit, is_in_identifier}
use Rattle.prem_wave.specs.Header.{bus_text, core_text, device_text, devices_text, header_end, header_text, line_end, name_text, preamble, scope_end, scope_start, scope_text, task_text, tasks_text, variable_text}
use Rattle.prem_wave.specs.Reading.{words_by_line}
use Rattle.prem_wave.proofs.Declared.{name_all}
use Rattle.prem_wave.proofs.Digits.{decimal_printed, wide_value}

-- ---- lines of printed words are read back

abbrev pub Words : Type 0
Words = List (List ℕ)

abbrev AllPrinted : Words → Type 0
AllPrinted words = AllByRecursion IsPrinted words

abbrev pub text_of : List Words → List ℕ
text_of lines = ended (map joined lines)

all_so : (p q : ℕ → Bool) → ((b : ℕ) → p b ≡ true → q b ≡ true) → (bytes : List ℕ) → list_all p bytes ≡ true → list_all q bytes ≡ true
all_so p q each [] h = refl
all_so p q each (b ∷ bytes) h =
    let (here, later) = and_parts (p b) (list_all p bytes) h in
    both (q b) (list_all q bytes) (each b here) (all_so p q each bytes later)
  where
    both : (x y : Bool) → x ≡ true → y ≡ true → (x && y) ≡ true
    both true y h k = k
    both false y h k = absurd (cc)

range : (low high b : ℕ) → is_between low high b ≡ true → (low ≤ b) × (b ≤ high)
range low high b h =
    let (one, two) = and_parts (nat_le low b) (nat_le b high) h in
    (grind (arith, nat_tests, one), grind (arith, nat_tests, two))

in_range : (low high b : ℕ) → low ≤ b → b ≤ high → is_between low high b ≡ true
in_range low high b h k =
    let one : nat_le low b ≡ true = grind (arith, nat_tests, h) in
    let two : nat_le b high ≡ true = grind (arith, nat_tests, k) in
    rw (one, two) refl

solid : (b : ℕ) → is_between 33 126 b ≡ true → not (is_blank b) ≡ true
solid b h =
    let r = range 33 126 b h in
    let space : (b == 32) ≡ false = grind (arith, nat_tests, r.0) in
    let tab : (b == 9) ≡ false = grind (arith, nat_tests, r.0) in
    rw (space, tab) refl

no_feed : (b : ℕ) → is_between 32 126 b ≡ true → not (b == 10) ≡ true
no_feed b h =
    let r = range 32 126 b h in
    let feed : (b == 10) ≡ false = grind (arith, nat_tests, r.0) in
    rw feed refl

no_return : (b : ℕ) → is_between 32 126 b ≡ true → (b == 13) ≡ false
no_return b h = let r = range 32 126 b h in grind (arith, nat_tests, r.0)

wider : (b : ℕ) → is_between 33 126 b ≡ true → is_between 32 126 b ≡ true
wider b h = let r = range 33 126 b h in in_range 32 126 b (omega (arith, r.0)) r.1

printed_all : (word : List ℕ) → IsPrinted word → list_all (is_between 33 126) word ≡ true
printed_all [] h = absurd h
printed_all (b ∷ bytes) h = rw (h.0, h.1) refl

is_word : (word : List ℕ) → IsPrinted word → IsWord word
is_word [] h = absurd h
is_word (b ∷ bytes) h = record { some = omega arith; solid = all_so (is_between 33 126) (λ c. not (is_blank c)) solid (b ∷ bytes) (printed_all (b ∷ bytes) h) }

all_append : (p : ℕ → Bool) (xs ys : List ℕ) → list_all p xs ≡ true → list_all p ys ≡ true → list_all p (xs ++ ys) ≡ true
all_append p xs ys h k = list_all-append p xs ys ∙ ap₂ (λ a b. a && b) h k

joined_plain : (words : Words) → AllPrinted words → list_all (is_between 32 126) (joined words) ≡ true
joined_plain [] h = refl
joined_plain (word ∷ []) h = all_so (is_between 33 126) (is_between 32 126) wider word (printed_all word h.0)
joined_plain (word ∷ next ∷ words) h =
    all_append (is_between 32 126) word (32 ∷ joined (next ∷ words)) (all_so (is_between 33 126) (is_between 32 126) wider word (printed_all word h.0)) (joined_plain (next ∷ words) h.1)

whole : (line : List ℕ) → list_all (is_between 32 126) line ≡ true → without_return line ≡ line
whole [] h = refl
whole (b ∷ []) h = let none = no_return b (and_parts (is_between 32 126 b) true h).0 in rw none refl
whole (b ∷ c ∷ bytes) h = ap (λ l. b ∷ l) (whole (c ∷ bytes) (and_parts (is_between 32 126 b) (list_all (is_between 32 126) (c ∷ bytes)) h).1)

is_line : (words : Words) → AllPrinted words → IsLine (joined words)
is_line words h =
    let plain = joined_plain words h in
    record { stays = all_so (is_between 32 126) (λ b. not (b == 10)) no_feed (joined words) plain; whole = whole (joined words) plain }

are_lines : (lines : List Words) → AllByRecursion AllPrinted lines → AllByRecursion IsLine (map joined lines)
are_lines [] h = tt
are_lines (words ∷ lines) h = (is_line words h.0, are_lines lines h.1)

are_words : (words : Words) → AllPrinted words → AllByRecursion IsWord words
are_words [] h = tt
are_words (word ∷ words) h = (is_word word h.0, are_words words h.1)

words_back : (lines : List Words) → AllByRecursion AllPrinted lines → map words_of (map joined lines) ≡ lines
words_back [] h = refl
words_back (words ∷ lines) h = ap₂ (λ x xs. x ∷ xs) (words_are_read_back words (are_words words h.0)) (words_back lines h.1)

pub read_back : (lines : List Words) → AllByRecursion AllPrinted lines → words_by_line (text_of lines) ≡ lines
read_back lines h = ap (map words_of) (lines_are_read_back (map joined lines) (are_lines lines h)) ∙ words_back lines h

-- ---- parts of such texts

text_append : (xs ys : List Words) → text_of (xs ++ ys) ≡ text_of xs ++ text_of ys
text_append [] ys = refl
text_append (x ∷ xs) ys = ap (λ t. joined x ++ 10 ∷ t) (text_append xs ys) ∙ sym (append_assoc (joined x) (10 ∷ text_of xs) (text_of ys))

printed_append : (xs ys : List Words) → AllByRecursion AllPrinted xs → AllByRecursion AllPrinted ys → AllByRecursion AllPrinted (xs ++ ys)
printed_append [] ys h k = k
printed_append (x ∷ xs) ys h k = (h.0, printed_append xs ys h.1 k)

-- a text is made of these lines
record Spells (text : List ℕ) (lines : List Words) : Type 0 where
  is : text ≡ text_of lines
  printed : AllByRecursion AllPrinted lines

nothing : Spells [] []
nothing = record { is = refl; printed = tt }

joins : {x y : List ℕ} {xs ys : List Words} → Spells x xs → Spells y ys → Spells (x ++ y) (xs ++ ys)
joins {x} {y} {xs} {ys} h k = record { is = ap₂ (λ a b. a ++ b) h.is k.is ∙ sym (text_append xs ys); printed = printed_append xs ys h.printed k.printed }

-- ---- value changes

abbrev pub change_words : ℕ → Option ℕ → Words
change_words k value = (98 ∷ value_text value) ∷ decimal k ∷ []

abbrev pub time_words : ℕ → Words
time_words n = (35 ∷ decimal n) ∷ []

abbrev pub changes_lines : List Change → List Words
changes_lines [] = []
changes_lines (c ∷ changes) = change_words c.signal c.value ∷ changes_lines changes

abbrev pub moments_lines : List Moment → List Words
moments_lines [] = []
moments_lines (m ∷ moments) = (time_words m.at ∷ changes_lines m.changes) ++ moments_lines moments

bit_printed : (b : ℕ) → is_bit b ≡ true → is_between 33 126 b ≡ true
bit_printed b h = by (b == 48) (b == 49) (b == 122) refl refl refl h
  where
    by : (x y z : Bool) → (b == 48) ≡ x → (b == 49) ≡ y → (b == 122) ≡ z → (x || y || z) ≡ true → is_between 33 126 b ≡ true
    by true y z e f g h = let is : b ≡ 48 = grind (arith, nat_tests, e) in in_range 33 126 b (omega (arith, is)) (omega (arith, is))
    by false true z e f g h = let is : b ≡ 49 = grind (arith, nat_tests, f) in in_range 33 126 b (omega (arith, is)) (omega (arith, is))
    by false false true e f g h = let is : b ≡ 122 = grind (arith, nat_tests, g) in in_range 33 126 b (omega (arith, is)) (omega (arith, is))
    by false false false e f g h = absurd (cc)

value_printed : (value : Option ℕ) → IsPrinted (98 ∷ value_text value)
value_printed value = (refl, by (value_text value) (wide_value value))
  where
    by : (bytes : List ℕ) → IsValue 64 bytes → list_all (is_between 33 126) bytes ≡ true
    by [] h = absurd h
    by (b ∷ bytes) h = all_so is_bit (is_between 33 126) bit_printed (b ∷ bytes) h.0

change_spells : (k : ℕ) (value : Option ℕ) → Spells (change_line k value) (change_words k value ∷ [])
change_spells k value =
    record { is = ap (λ t. 98 ∷ t) (sym (append_assoc (value_text value) (32 ∷ decimal k) (10 ∷ []))); printed = ((value_printed value, (decimal_printed k, tt)), tt) }

changes_spell : (changes : List Change) → Spells (changes_text changes) (changes_lines changes)
changes_spell [] = nothing
changes_spell (c ∷ changes) = joins (change_spells c.signal c.value) (changes_spell changes)

time_spells : (n : ℕ) → Spells (time_text n) (time_words n ∷ [])
time_spells n = record { is = refl; printed = (((refl, printed_all (decimal n) (decimal_printed n)), tt), tt) }

moments_spell : (moments : List Moment) → Spells (moments_text moments) (moments_lines moments)
moments_spell [] = nothing
moments_spell (m ∷ moments) = joins (joins (time_spells m.at) (changes_spell m.changes)) (moments_spell moments)

-- ---- names

identifier_printed : (b : ℕ) → is_in_identifier b ≡ true → is_between 33 126 b ≡ true
identifier_printed b h = by (is_between 97 122 b) (is_between 65 90 b) (is_between 48 57 b) (b == 95) refl refl refl refl h
  where
    by : (w x y z : Bool) → is_between 97 122 b ≡ w → is_between 65 90 b ≡ x → is_between 48 57 b ≡ y → (b == 95) ≡ z → (w || x || y || z) ≡ true → is_between 33 126 b ≡ true
    by true x y z d e f g h = let r = range 97 122 b d in in_range 33 126 b (omega (arith, r.0)) (omega (arith, r.1))
    by false true y z d e f g h = let r = range 65 90 b e in in_range 33 126 b (omega (arith, r.0)) (omega (arith, r.1))
    by false false true z d e f g h = let r = range 48 57 b f in in_range 33 126 b (omega (arith, r.0)) (omega (arith, r.1))
    by false false false true d e f g h = let is : b ≡ 95 = grind (arith, nat_tests, g) in in_range 33 126 b (omega (arith, is)) (omega (arith, is))
    by false false false false d e f g h = absurd (cc)

word_append : (xs ys : List ℕ) → IsPrinted xs → list_all (is_between 33 126) ys ≡ true → IsPrinted (xs ++ ys)
word_append [] ys h k = absurd h
word_append (x ∷ xs) ys h k = (h.0, all_append (is_between 33 126) xs ys h.1 k)

name_printed : (kind name : List ℕ) → IsPrinted kind → IsPrinted (kind ++ name_text name)
name_printed kind name h = word_append kind (name_text name) h (all_so is_in_identifier (is_between 33 126) identifier_printed (name_text name) (name_all name))

-- ---- declarations

abbrev pub variable_words : (bits k : ℕ) → List ℕ → Words
variable_words bits k name = codes "$var" ∷ codes "wire" ∷ decimal bits ∷ decimal k ∷ name ∷ codes "$end" ∷ []

abbrev pub scope_words : List ℕ → List ℕ → Words
scope_words kind name = codes "$scope" ∷ codes "module" ∷ (kind ++ name_text name) ∷ codes "$end" ∷ []

abbrev pub end_words : Words
end_words = codes "$upscope" ∷ codes "$end" ∷ []

variable_spells : (bits k : ℕ) (name : List ℕ) → IsPrinted name → Spells (variable_text bits k name) (variable_words bits k name ∷ [])
unfolding variable_text
variable_spells bits k name h =
    record { is = simp append_assoc; printed = (((refl, refl), ((refl, refl), (decimal_printed bits, (decimal_printed k, (h, ((refl, refl), tt)))))), tt) }

scope_spells : (kind name : List ℕ) → IsPrinted kind → Spells (scope_text kind name) (scope_words kind name ∷ [])
unfolding scope_text scope_start line_end
scope_spells kind name h =
    record { is = simp append_assoc; printed = (((refl, refl), ((refl, refl), (name_printed kind name h, ((refl, refl), tt)))), tt) }

end_spells : Spells scope_end (end_words ∷ [])
unfolding scope_end
end_spells = record { is = refl; printed = (((refl, refl), ((refl, refl), tt)), tt) }

abbrev pub core_lines : List Words
core_lines = scope_words (codes "core") [] ∷ variable_words 64 0 (codes "task") ∷ variable_words 1 1 (codes "window") ∷ end_words ∷ []

abbrev pub task_lines : ℕ → List ℕ → List Words
task_lines k name =
    scope_words (codes "task_") name ∷ variable_words 64 k (codes "state") ∷ variable_words 64 (k + 1) (codes "job") ∷ variable_words 64 (k + 2) (codes "call") ∷ end_words ∷ []

abbrev pub tasks_lines : ℕ → List (List ℕ) → List Words
tasks_lines k [] = []
tasks_lines k (name ∷ names) = task_lines k name ++ tasks_lines (k + 3) names

abbrev pub bus_lines : ℕ → List Words
bus_lines k =
    scope_words (codes "bus") [] ∷ variable_words 64 k (codes "holder") ∷ variable_words 1 (k + 1) (codes "miss") ∷ variable_words 1 (k + 2) (codes "back") ∷ end_words ∷ []

abbrev pub device_lines : ℕ → List ℕ → List Words
device_lines k name =
    scope_words (codes "device_") name ∷ variable_words 64 k (codes "queue") ∷ variable_words 64 (k + 1) (codes "line") ∷ variable_words 64 (k + 2) (codes "transfer") ∷ end_words ∷ []

abbrev pub devices_lines : ℕ → List (List ℕ) → List Words
devices_lines k [] = []
devices_lines k (name ∷ names) = device_lines k name ++ devices_lines (k + 3) names

abbrev pub preamble_lines : List Words
preamble_lines =
    (codes "$comment" ∷ codes "Words" ∷ codes "are" ∷ codes "bytes:" ∷ codes "show" ∷ codes "them" ∷ codes "as" ∷ codes "ASCII." ∷ codes "$end" ∷ [])
    ∷ (codes "$version" ∷ codes "prem_wave" ∷ codes "$end" ∷ []) ∷ (codes "$timescale" ∷ codes "1" ∷ codes "ns" ∷ codes "$end" ∷ []) ∷ []

abbrev pub last_lines : List Words
last_lines = (codes "$enddefinitions" ∷ codes "$end" ∷ []) ∷ []

abbrev pub header_lines : (tasks devices : List (List ℕ)) → List Words
header_lines tasks devices =
    preamble_lines
    ++ (core_lines ++ (tasks_lines 2 tasks ++ (bus_lines (2 + 3 * length tasks) ++ (devices_lines (2 + 3 * length tasks + 3) devices ++ last_lines))))

core_spells : Spells core_text core_lines
unfolding core_text
core_spells =
    joins (scope_spells (codes "core") [] (refl, refl)) (joins (variable_spells 64 0 (codes "task") (refl, refl)) (joins (variable_spells 1 1 (codes "window") (refl, refl)) end_spells))

task_spells : (k : ℕ) (name : List ℕ) → Spells (task_text k name) (task_lines k name)
unfolding task_text
task_spells k name =
    joins (scope_spells (codes "task_") name (refl, refl)) (joins (variable_spells 64 k (codes "state") (refl, refl))
    (joins (variable_spells 64 (k + 1) (codes "job") (refl, refl)) (joins (variable_spells 64 (k + 2) (codes "call") (refl, refl)) end_spells)))

bus_spells : (k : ℕ) → Spells (bus_text k) (bus_lines k)
unfolding bus_text
bus_spells k =
    joins (scope_spells (codes "bus") [] (refl, refl)) (joins (variable_spells 64 k (codes "holder") (refl, refl))
    (joins (variable_spells 1 (k + 1) (codes "miss") (refl, refl)) (joins (variable_spells 1 (k + 2) (codes "back") (refl, refl)) end_spells)))

device_spells : (k : ℕ) (name : List ℕ) → Spells (device_text k name) (device_lines k name)
unfolding device_text
device_spells k name =
    joins (scope_spells (codes "device_") name (refl, refl)) (joins (variable_spells 64 k (codes "queue") (refl, refl))
    (joins (variable_spells 64 (k + 1) (codes "line") (refl, refl)) (joins (variable_spells 64 (k + 2) (codes "transfer") (refl, refl)) end_spells)))

tasks_spell : (k : ℕ) (names : List (List ℕ)) → Spells (tasks_text k names) (tasks_lines k names)
tasks_spell k [] = nothing
tasks_spell k (name ∷ names) = joins (task_spells k name) (tasks_spell (k + 3) names)

devices_spell : (k : ℕ) (names : List (List ℕ)) → Spells (devices_text k names) (devices_lines k names)
devices_spell k [] = nothing
devices_spell k (name ∷ names) = joins (device_spells k name) (devices_spell (k + 3) names)

preamble_spells : Spells preamble preamble_lines
unfolding preamble
preamble_spells =
    record {
      is = refl;
      printed = (
        ((refl, refl), ((refl, refl), ((refl, refl), ((refl, refl), ((refl, refl), ((refl, refl), ((refl, refl), ((refl, refl), ((refl, refl), tt))))))))),
        (((refl, refl), ((refl, refl), ((refl, refl), tt))), (((refl, refl), ((refl, refl), ((refl, refl), ((refl, refl), tt)))), tt)),
      );
    }

last_spells : Spells header_end last_lines
unfolding header_end
last_spells = record { is = refl; printed = (((refl, refl), ((refl, refl), tt)), tt) }

header_spells : (tasks devices : List (List ℕ)) → Spells (header_text tasks devices) (header_lines tasks devices)
header_spells tasks devices =
    let k = 2 + 3 * length tasks in
    joins preamble_spells (joins core_spells (joins (tasks_spell 2 tasks) (joins (bus_spells k) (joins (devices_spell (k + 3) devices) last_spells))))

-- ---- dumps

abbrev pub dump_lines : (tasks devices : List (List ℕ)) → List Moment → (to : ℕ) → List Words
dump_lines tasks devices moments to = header_lines tasks devices ++ (moments_lines moments ++ (time_words to ∷ []))

pub dump_read : (tasks devices : List (List ℕ)) (moments : List Moment) (to : ℕ) →
    words_by_line (header_text tasks devices ++ (moments_text moments ++ time_text to)) ≡ dump_lines tasks devices moments to
dump_read tasks devices moments to =
    let spells = joins (header_spells tasks devices) (joins (moments_spell moments) (time_spells to)) in
    ap words_by_line spells.is ∙ read_back (dump_lines tasks devices moments to) spells.printed
