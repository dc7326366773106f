-- The text of a profile keeps to the grammar, and tells the costs of its rows.
use Rattle.std.specs.Prelude.{◌==◌, ◌||◌, ◌&&◌, not, decimal, codes, slice_index_or}
use Rattle.std.specs.Fmt.{digits}
use Rattle.std.specs.List.{list_all}
use Rattle.std.proofs.Common.{◌≡◌, ℕ, zero, suc, ◌+◌, List, [], ◌∷◌, ◌++◌, Option, Some, None, Bool, true, false, cond, length, map, take, drop, refl, ap, ap₂, sym, ◌∙◌, subst, arith, append_assoc, append-nil}
use Rattle.prem_profile.specs.declared.cost.Cost.{Cost}
use Rattle.prem_profile.specs.declared.callgrind.Source.{Source}
use Rattle.prem_profile.specs.Spent.{no_cost}
use Rattle.prem_profile.specs.Strips.{Strip, first_row}
use Rattle.prem_profile.specs.Grammar.{Entry, Position, Tells, calls, cost, cost_text, empty, file, function, is_in_line, is_in_name, nothing, nowhere, object}
use Rattle.prem_profile.specs.Callgrind.{CallsAt, callee_lines, calls_text, cost_line, file_byte, file_line, file_text, first_line, function_head, function_line, head_text, is_nothing, lines_behind, lines_text}
use Rattle.prem_profile.specs.Callgrind.{machine_head, machine_text, name_byte, name_text, nowhere_head, object_line, opening, row_text, source_at, strip_text, strips_text}
use Rattle.prem_profile.specs.Callgrind.{switch_line, switch_opening, switch_text, switches_text, total_text}
use Rattle.prem_profile.specs.Entries.{ProfilesAreRead, calls_entry, entries_at, entry_at, machine_entries, machine_position, row_entries, strip_position, strips_entries, switches_entries}

-- ---- names

all_mapped : (test : ℕ → Bool) (f : ℕ → ℕ) → ((b : ℕ) → test (f b) ≡ true) → (bytes : List ℕ) → list_all test (map f bytes) ≡ true
all_mapped test f each [] = refl
all_mapped test f each (b ∷ bytes) = ap (λ t. t && list_all test (map f bytes)) (each b) ∙ all_mapped test f each bytes

in_line : (b : ℕ) → is_in_line (file_byte b) ≡ true
in_line b = by (b == 10) refl
  where
    by : (t : Bool) → (b == 10) ≡ t → is_in_line (cond t 95 b) ≡ true
    by true e = refl
    by false e = ap not e

in_name : (b : ℕ) → is_in_name (name_byte b) ≡ true
in_name b = by (b == 40) (b == 10) refl refl
  where
    by : (s t : Bool) → (b == 40) ≡ s → (b == 10) ≡ t → is_in_name (cond s 95 (cond t 95 b)) ≡ true
    by true t es et = refl
    by false true es et = refl
    by false false es et = ap₂ (λ x y. not (x || y)) et es

in_lines : (bytes : List ℕ) → list_all is_in_line (file_text bytes) ≡ true
in_lines bytes = all_mapped is_in_line file_byte in_line bytes

in_names : (name : List ℕ) → list_all is_in_name (name_text name) ≡ true
in_names name = all_mapped is_in_name name_byte in_name name

-- ---- pieces of text

-- a piece tells these entries behind a position, and leaves another one
abbrev Adds : (ℕ → List ℕ) → Position → List ℕ → List Entry → Position → Type 0
Adds files at piece told after = (rest : List ℕ) (more : List Entry) → Tells files after more rest → Tells files at (told ++ more) (piece ++ rest)

adds_none : (files : ℕ → List ℕ) (at : Position) → Adds files at [] [] at
adds_none files at rest more t = t

adds_then : (files : ℕ → List ℕ) (at mid after : Position) (p q : List ℕ) (es fs : List Entry) →
    Adds files at p es mid → Adds files mid q fs after → Adds files at (p ++ q) (es ++ fs) after
adds_then files at mid after p q es fs a b rest more t =
    subst (λ (text : List ℕ). Tells files at ((es ++ fs) ++ more) text) (sym (append_assoc p q rest))
    (subst (λ (told : List Entry). Tells files at told (p ++ (q ++ rest))) (sym (append_assoc es fs more)) (a (q ++ rest) (fs ++ more) (b rest more t)))

four : (a b c d rest : List ℕ) → (a ++ (b ++ (c ++ d))) ++ rest ≡ a ++ (b ++ (c ++ (d ++ rest)))
four a b c d rest =
    append_assoc a (b ++ (c ++ d)) rest ∙ ap (λ l. a ++ l) (append_assoc b (c ++ d) rest ∙ ap (λ l. b ++ l) (append_assoc c d rest))

three : (a b c rest : List ℕ) → (a ++ (b ++ c)) ++ rest ≡ a ++ (b ++ (c ++ rest))
three a b c rest = append_assoc a (b ++ c) rest ∙ ap (λ l. a ++ l) (append_assoc b c rest)

cost_adds : (files : ℕ → List ℕ) (at : Position) (line : ℕ) (c : Cost) → Adds files at (cost_line line c) (entry_at at line c) at
cost_adds files at line c = by (is_nothing c)
  where
    by : (b : Bool) → Adds files at (cond b [] (decimal line ++ (codes " " ++ (cost_text c ++ codes "\n")))) (cond b [] (record { callee = None; position = at; line = line; cost = c } ∷ [])) at
    by true = adds_none files at
    by false = λ rest more t.
        subst (λ (text : List ℕ). Tells files at (record { callee = None; position = at; line = line; cost = c } ∷ more) text) (sym (four (decimal line) (codes " ") (cost_text c) (codes "\n") rest)) (cost line c t)

-- the lines of a call, with all that stands behind
called : (a n b c d e f l g k h rest : List ℕ) →
    ((a ++ (n ++ (b ++ (c ++ (d ++ (e ++ f)))))) ++ (l ++ (g ++ (k ++ h)))) ++ rest ≡ a ++ (n ++ (b ++ (c ++ (d ++ (e ++ (f ++ (l ++ (g ++ (k ++ (h ++ rest))))))))))
called a n b c d e f l g k h rest =
    append_assoc (a ++ (n ++ (b ++ (c ++ (d ++ (e ++ f)))))) (l ++ (g ++ (k ++ h))) rest ∙ ap (λ t. (a ++ (n ++ (b ++ (c ++ (d ++ (e ++ f)))))) ++ t) (four l g k h rest)
    ∙ append_assoc a (n ++ (b ++ (c ++ (d ++ (e ++ f))))) (l ++ (g ++ (k ++ (h ++ rest))))
    ∙ ap (λ t. a ++ t) (append_assoc n (b ++ (c ++ (d ++ (e ++ f)))) (l ++ (g ++ (k ++ (h ++ rest))))
    ∙ ap (λ t. n ++ t) (append_assoc b (c ++ (d ++ (e ++ f))) (l ++ (g ++ (k ++ (h ++ rest)))) ∙ ap (λ t. b ++ t) (four c d e f (l ++ (g ++ (k ++ (h ++ rest)))))))

calls_add : (files : ℕ → List ℕ) (at : Position) (line count : ℕ) (o : Option CallsAt) → Adds files at (calls_text line count o) (calls_entry at line count o) at
unfolding callee_lines
calls_add files at line count None = adds_none files at
calls_add files at line count (Some k) = λ rest more t.
    let name = name_text k.callee.name in
    let to = first_line k.callee.lines in
    subst (λ (text : List ℕ). Tells files at (calls_entry at line count (Some k) ++ more) text)
    (sym (called (codes "cfn=") name (codes "\ncalls=") (decimal count) (codes " ") (decimal to) (codes "\n") (decimal line) (codes " ") (cost_text k.cost) (codes "\n") rest))
    (calls (record { function = name; count = count; line = to }) line k.cost (in_names k.callee.name) t)

row_adds : (files : ℕ → List ℕ) (at : Position) (o : Option CallsAt) (line : ℕ) (c : Cost) → Adds files at (row_text o line c) (row_entries at o line c) at
row_adds files at o line c =
    adds_then files at at at (cost_line line c) (calls_text line c.instructions o) (entry_at at line c) (calls_entry at line c.instructions o) (cost_adds files at line c)
    (calls_add files at line c.instructions o)

lines_adds : (files : ℕ → List ℕ) (at : Position) (each : ℕ → Option CallsAt) (row : ℕ) (lines : List ℕ) (costs : List Cost) →
    Adds files at (lines_text each row lines costs) (entries_at at each row lines costs) at
lines_adds files at each row lines [] = adds_none files at
lines_adds files at each row lines (c ∷ costs) =
    adds_then files at at at (row_text (each row) (first_line lines) c) (lines_text each (row + 1) (lines_behind lines) costs) (row_entries at (each row) (first_line lines) c)
    (entries_at at each (row + 1) (lines_behind lines) costs)
    (row_adds files at (each row) (first_line lines) c) (lines_adds files at each (row + 1) (lines_behind lines) costs)

-- ---- functions

five : (a b c d e rest : List ℕ) → (a ++ (b ++ (c ++ (d ++ e)))) ++ rest ≡ a ++ (b ++ (c ++ (d ++ (e ++ rest))))
five a b c d e rest = append_assoc a (b ++ (c ++ (d ++ e))) rest ∙ ap (λ l. a ++ l) (four b c d e rest)

abbrev at_object : Position → List ℕ → Position
at_object at name = record { object = name; file = at.file; function = at.function }

abbrev at_file : Position → List ℕ → Position
at_file at name = record { object = at.object; file = name; function = at.function }

abbrev at_function : Position → List ℕ → Position
at_function at name = record { object = at.object; file = at.file; function = name }

object_adds : (files : ℕ → List ℕ) (at : Position) (name : List ℕ) → Adds files at (object_line name) [] (at_object at (name_text name))
unfolding object_line
object_adds files at name rest more t =
    subst (λ (text : List ℕ). Tells files at more text) (sym (three (codes "\nob=") (name_text name) (codes "\n") rest)) (empty (object (name_text name) (in_names name) t))

number_adds : (files : ℕ → List ℕ) (at : Position) (n : ℕ) → list_all is_in_line (files n) ≡ true →
    Adds files at (codes "fl=(" ++ (decimal n ++ (codes ") " ++ (files n ++ codes "\n")))) [] (at_file at (files n))
number_adds files at n there rest more t =
    subst (λ (text : List ℕ). Tells files at more text) (sym (five (codes "fl=(") (decimal n) (codes ") ") (files n) (codes "\n") rest)) (file n there t)

file_adds : (files : ℕ → List ℕ) (at : Position) (n : ℕ) (name : List ℕ) → files n ≡ file_text name → Adds files at (file_line n name) [] (at_file at (file_text name))
unfolding file_line
file_adds files at n name e =
    subst (λ (f : List ℕ). Adds files at (codes "fl=(" ++ (decimal n ++ (codes ") " ++ (f ++ codes "\n")))) [] (at_file at f)) e (number_adds files at n (ap (list_all is_in_line) e ∙ in_lines name))

function_adds : (files : ℕ → List ℕ) (at : Position) (name : List ℕ) → Adds files at (function_line name) [] (at_function at (name_text name))
unfolding function_line
function_adds files at name rest more t =
    subst (λ (text : List ℕ). Tells files at more text) (sym (three (codes "fn=") (name_text name) (codes "\n") rest)) (function (name_text name) (in_names name) t)

abbrev at_names : (o f g : List ℕ) → Position
at_names o f g = record { object = o; file = f; function = g }

head_adds : (files : ℕ → List ℕ) (at : Position) (s : Source) (n : ℕ) (name : List ℕ) → files n ≡ file_text s.file →
    Adds files at (function_head s n name) [] (at_names (name_text s.name) (file_text s.file) (name_text name))
head_adds files at s n name e =
    let first = at_object at (name_text s.name) in
    let second = at_file first (file_text s.file) in
    let third = at_function second (name_text name) in
    adds_then files at first third (object_line s.name) (file_line n s.file ++ function_line name) [] [] (object_adds files at s.name)
    (adds_then files first second third (file_line n s.file) (function_line name) [] [] (file_adds files first n s.file e) (function_adds files second name))

-- the file of each number: those of the tasks behind the one of what has no line
abbrev files_of : List Source → ℕ → List ℕ
files_of sources zero = codes "???"
files_of sources (suc k) = file_text (source_at sources k).file

file_of : (sources : List Source) (k : ℕ) → files_of sources (k + 1) ≡ file_text (source_at sources k).file
file_of sources k = let e : k + 1 ≡ suc k = omega arith in ap (files_of sources) e

strip_adds : (sources : List Source) (each : ℕ → Option CallsAt) (row : ℕ) (at : Position) (s : Strip) (costs : List Cost) →
    Adds (files_of sources) at (strip_text sources each row s costs) (entries_at (strip_position sources s) each row s.lines costs) (strip_position sources s)
strip_adds sources each row at s costs =
    adds_then (files_of sources) at (strip_position sources s) (strip_position sources s) (function_head (source_at sources s.task) (s.task + 1) s.name) (lines_text each row s.lines costs) []
    (entries_at (strip_position sources s) each row s.lines costs) (head_adds (files_of sources) at (source_at sources s.task) (s.task + 1) s.name (file_of sources s.task))
    (lines_adds (files_of sources) (strip_position sources s) each row s.lines costs)

-- the position behind strips
abbrev last_strip : List Source → Position → List Strip → Position
last_strip sources at [] = at
last_strip sources at (s ∷ ss) = last_strip sources (strip_position sources s) ss

strips_add : (sources : List Source) (each : ℕ → Option CallsAt) (row : ℕ) (at : Position) (ss : List Strip) (costs : List Cost) →
    Adds (files_of sources) at (strips_text sources each row ss costs) (strips_entries sources each row ss costs) (last_strip sources at ss)
strips_add sources each row at [] costs = adds_none (files_of sources) at
strips_add sources each row at (s ∷ ss) costs =
    adds_then (files_of sources) at (strip_position sources s) (last_strip sources (strip_position sources s) ss) (strip_text sources each row s (take s.count costs))
    (strips_text sources each (row + s.count) ss (drop s.count costs)) (entries_at (strip_position sources s) each row s.lines (take s.count costs))
    (strips_entries sources each (row + s.count) ss (drop s.count costs))
    (strip_adds sources each row at s (take s.count costs)) (strips_add sources each (row + s.count) (strip_position sources s) ss (drop s.count costs))

-- ---- what has no line

abbrev switch_name : Source → List ℕ
switch_name s = codes "[switch] " ++ name_text s.name

named_adds : (files : ℕ → List ℕ) (f : List ℕ) (s : Source) → Adds files (machine_position f) (switch_line s.name) [] (machine_position (switch_name s))
unfolding switch_line switch_opening
named_adds files f s rest more t =
    subst (λ (text : List ℕ). Tells files (machine_position f) more text) (sym (three (codes "fn=[switch] ") (name_text s.name) (codes "\n") rest)) (function (switch_name s) (in_names s.name) t)

switch_adds : (files : ℕ → List ℕ) (f : List ℕ) (s : Source) (c : Cost) →
    Adds files (machine_position f) (switch_text s.name c) (entry_at (machine_position (switch_name s)) 0 c) (machine_position (switch_name s))
switch_adds files f s c =
    let at = machine_position (switch_name s) in
    adds_then files (machine_position f) at at (switch_line s.name) (cost_line 0 c) [] (entry_at at 0 c) (named_adds files f s) (cost_adds files at 0 c)

-- the function behind switches
abbrev last_switch : List ℕ → List Source → List Cost → List ℕ
last_switch f [] costs = f
last_switch f (s ∷ ss) [] = f
last_switch f (s ∷ ss) (c ∷ costs) = last_switch (switch_name s) ss costs

switches_add : (files : ℕ → List ℕ) (f : List ℕ) (ss : List Source) (costs : List Cost) →
    Adds files (machine_position f) (switches_text ss costs) (switches_entries ss costs) (machine_position (last_switch f ss costs))
switches_add files f [] costs = adds_none files (machine_position f)
switches_add files f (s ∷ ss) [] = adds_none files (machine_position f)
switches_add files f (s ∷ ss) (c ∷ costs) =
    adds_then files (machine_position f) (machine_position (switch_name s)) (machine_position (last_switch (switch_name s) ss costs)) (switch_text s.name c) (switches_text ss costs)
    (entry_at (machine_position (switch_name s)) 0 c) (switches_entries ss costs) (switch_adds files f s c) (switches_add files (switch_name s) ss costs)

idle_adds : (sources : List Source) → Adds (files_of sources) nowhere machine_head [] (machine_position (codes "[idle]"))
unfolding machine_head digits
idle_adds sources rest more t = empty (object (codes "[machine]") refl (file 0 refl (function (codes "[idle]") refl t)))

elsewhere_adds : (files : ℕ → List ℕ) → Adds files (machine_position (codes "[idle]")) nowhere_head [] (machine_position (codes "[elsewhere]"))
unfolding nowhere_head
elsewhere_adds files rest more t = function (codes "[elsewhere]") refl t

machine_adds : (sources : List Source) (costs : List Cost) →
    Adds (files_of sources) nowhere (machine_text sources costs) (machine_entries sources costs) (machine_position (last_switch (codes "[elsewhere]") sources (drop 2 costs)))
machine_adds sources costs =
    let files = files_of sources in
    let idle = machine_position (codes "[idle]") in
    let elsewhere = machine_position (codes "[elsewhere]") in
    let end = machine_position (last_switch (codes "[elsewhere]") sources (drop 2 costs)) in
    let one = slice_index_or costs 1 no_cost in
    let nowhere_cost = slice_index_or costs 0 no_cost in
    let switches = switches_text sources (drop 2 costs) in
    let told = switches_entries sources (drop 2 costs) in
    adds_then files nowhere idle end machine_head (cost_line 0 one ++ (nowhere_head ++ (cost_line 0 nowhere_cost ++ switches))) []
    (entry_at idle 0 one ++ (entry_at elsewhere 0 nowhere_cost ++ told)) (idle_adds sources)
    (adds_then files idle idle end (cost_line 0 one) (nowhere_head ++ (cost_line 0 nowhere_cost ++ switches)) (entry_at idle 0 one)
    (entry_at elsewhere 0 nowhere_cost ++ told) (cost_adds files idle 0 one)
    (adds_then files idle elsewhere end nowhere_head (cost_line 0 nowhere_cost ++ switches) [] (entry_at elsewhere 0 nowhere_cost ++ told) (elsewhere_adds files)
    (adds_then files elsewhere elsewhere end (cost_line 0 nowhere_cost) switches (entry_at elsewhere 0 nowhere_cost) told
    (cost_adds files elsewhere 0 nowhere_cost) (switches_add files (codes "[elsewhere]") sources (drop 2 costs)))))

-- ---- the whole

whole : (h c n m s y : List ℕ) → (h ++ (c ++ n)) ++ (m ++ (s ++ (n ++ y))) ≡ h ++ (c ++ (n ++ ((m ++ (s ++ n)) ++ y)))
whole h c n m s y = three h c n (m ++ (s ++ (n ++ y))) ∙ ap (λ l. h ++ (c ++ (n ++ l))) (sym (three m s n y))

head_is : (total : Cost) (body : List ℕ) → (m s : List ℕ) → body ≡ m ++ (s ++ codes "\n") →
    head_text total ++ (m ++ (s ++ total_text total))
    ≡ codes "# callgrind format\nversion: 1\ncreator: prem_profile\npositions: line\nevents: Instructions Cycles Misses WriteBacks\nsummary: "
    ++ (cost_text total ++ (codes "\n" ++ (body ++ (codes "totals: " ++ (cost_text total ++ codes "\n")))))
unfolding opening total_text
head_is total body m s e =
    let head : List ℕ = codes "# callgrind format\nversion: 1\ncreator: prem_profile\npositions: line\nevents: Instructions Cycles Misses WriteBacks\nsummary: " in
    let end : List ℕ = codes "totals: " ++ (cost_text total ++ codes "\n") in
    whole head (cost_text total) (codes "\n") m s end ∙ ap (λ b. head ++ (cost_text total ++ (codes "\n" ++ (b ++ end)))) (sym e)

pub profiles_are_read : ProfilesAreRead
profiles_are_read sources strips total costs each =
    let first = first_row (length sources) in
    let rows = drop (length sources) (drop 2 costs) in
    let between = machine_position (last_switch (codes "[elsewhere]") sources (drop 2 costs)) in
    let text = strips_text sources each first strips rows in
    let told = strips_entries sources each first strips rows in
    record {
      files = files_of sources;
      body = machine_text sources costs ++ (text ++ codes "\n");
      tells =
          machine_adds sources costs (text ++ codes "\n") told
          (subst (λ (entries : List Entry). Tells (files_of sources) between entries (text ++ codes "\n")) (append-nil told) (strips_add sources each first between strips rows (codes "\n") [] (empty nothing)));
      is = head_is total (machine_text sources costs ++ (text ++ codes "\n")) (machine_text sources costs) text refl;
    }
