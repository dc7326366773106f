-- The declarations of a dump keep to the grammar.
use Rattle.std.specs.Prelude.{◌&&◌, ◌*◌, codes, decimal}
use Rattle.std.specs.List.{list_all}
use Rattle.std.proofs.Common.{◌≡◌, ◌≤◌, ◌+◌, ℕ, List, [], ◌∷◌, ◌++◌, Bool, true, false, cond, length, refl, ap, ap₂, sym, ◌∙◌, subst, arith, append_assoc, append-nil}
use Rattle.prem_wave.specs.Grammar.{Declares, IsIdentifier, Variable, none, comment, version, timescale, scope, upscope, variable, is_in_identifier}
use Rattle.prem_wave.specs.Header.{bus_text, core_text, device_text, devices_bits, devices_text, header_end, header_text, is_in_name, line_end, name_byte, name_text, preamble}
use Rattle.prem_wave.specs.Header.{scope_end, scope_start, scope_text, signal_bits, task_text, tasks_bits, tasks_text, variable_text}
use Rattle.prem_wave.proofs.Digits.{decimal_printed}

-- ---- names

list_all-append : (p : ℕ → Bool) (xs ys : List ℕ) → list_all p xs ≡ true → list_all p ys ≡ true → list_all p (xs ++ ys) ≡ true
list_all-append p [] ys h k = k
list_all-append p (x ∷ xs) ys h k = both (p x) (list_all p xs) (list_all p (xs ++ ys)) h (λ rest. list_all-append p xs ys rest k)
  where
    both : (a b c : Bool) → (a && b) ≡ true → (b ≡ true → c ≡ true) → (a && c) ≡ true
    both true b c h f = f h
    both false b c h f = absurd (cc)

byte_by : (b : ℕ) (is : Bool) → is_in_name b ≡ is → list_all is_in_identifier (cond is (b ∷ []) (codes "_")) ≡ true
byte_by b true e = ap (λ x. x && true) e
byte_by b false e = refl

pub name_all : (name : List ℕ) → list_all is_in_identifier (name_text name) ≡ true
name_all [] = refl
name_all (b ∷ name) = list_all-append is_in_identifier (name_byte b) (name_text name) (byte_by b (is_in_name b) refl) (name_all name)

-- ---- texts that go on with declarations

-- a text with these declarations behind others: what scopes it opens, and what variables it has
abbrev Ext : (from to : ℕ) → List Variable → List ℕ → Type 0
Ext from to new added = (variables : List Variable) (text : List ℕ) → Declares from variables text → Declares to (variables ++ new) (text ++ added)

then_ext : (a b c : ℕ) (new more : List Variable) (first second : List ℕ) → Ext a b new first → Ext b c more second → Ext a c (new ++ more) (first ++ second)
then_ext a b c new more first second h k variables text d =
    subst (λ v. Declares c v (text ++ (first ++ second))) (append_assoc variables new more)
    (subst (λ t. Declares c ((variables ++ new) ++ more) t) (append_assoc text first second) (k (variables ++ new) (text ++ first) (h variables text d)))

-- a line without a variable
plain : (a b : ℕ) (line : List ℕ) → ((variables : List Variable) (text : List ℕ) → Declares a variables text → Declares b variables (text ++ line)) → Ext a b [] line
plain a b line h variables text d = subst (λ v. Declares b v (text ++ line)) (sym (append-nil variables)) (h variables text d)

abbrev numbered : ℕ → ℕ → Variable
numbered k bits = record { code = decimal k; bits = bits }

variable_ext : (depth bits k : ℕ) (name : List ℕ) → 1 ≤ bits → IsIdentifier name → Ext depth depth (numbered k bits ∷ []) (variable_text bits k name)
unfolding variable_text
variable_ext depth bits k name some is variables text d = variable (numbered k bits) name some (decimal_printed k) is d

end_ext : Ext 1 0 [] scope_end
unfolding scope_end
end_ext = plain 1 0 (codes "$upscope $end\n") (λ variables text d. upscope d)

core_ext : Ext 0 1 [] (scope_text (codes "core") [])
unfolding scope_text scope_start line_end
core_ext = plain 0 1 (codes "$scope module core $end\n") (λ variables text d. scope (codes "core") (refl, refl) d)

bus_scope : Ext 0 1 [] (scope_text (codes "bus") [])
unfolding scope_text scope_start line_end
bus_scope = plain 0 1 (codes "$scope module bus $end\n") (λ variables text d. scope (codes "bus") (refl, refl) d)

task_scope : (name : List ℕ) → Ext 0 1 [] (scope_text (codes "task_") name)
unfolding scope_text scope_start line_end
task_scope name =
    plain 0 1 (codes "$scope module " ++ (codes "task_" ++ (name_text name ++ codes " $end\n"))) (λ variables text d. scope (codes "task_" ++ name_text name) (refl, name_all name) d)

device_scope : (name : List ℕ) → Ext 0 1 [] (scope_text (codes "device_") name)
unfolding scope_text scope_start line_end
device_scope name =
    plain 0 1 (codes "$scope module " ++ (codes "device_" ++ (name_text name ++ codes " $end\n"))) (λ variables text d. scope (codes "device_" ++ name_text name) (refl, name_all name) d)

-- ---- parts

core_part : Ext 0 0 (numbered 0 64 ∷ numbered 1 1 ∷ []) core_text
unfolding core_text
core_part =
    then_ext 0 1 0 [] _ _ _ core_ext (then_ext 1 1 0 (numbered 0 64 ∷ []) _ _ _ (variable_ext 1 64 0 (codes "task") (omega arith) (refl, refl))
    (then_ext 1 1 0 (numbered 1 1 ∷ []) [] _ _ (variable_ext 1 1 1 (codes "window") (omega arith) (refl, refl)) end_ext))

bus_part : (k : ℕ) → Ext 0 0 (numbered k 64 ∷ numbered (k + 1) 1 ∷ numbered (k + 2) 1 ∷ []) (bus_text k)
unfolding bus_text
bus_part k =
    then_ext 0 1 0 [] _ _ _ bus_scope (then_ext 1 1 0 (numbered k 64 ∷ []) _ _ _ (variable_ext 1 64 k (codes "holder") (omega arith) (refl, refl))
    (then_ext 1 1 0 (numbered (k + 1) 1 ∷ []) _ _ _ (variable_ext 1 1 (k + 1) (codes "miss") (omega arith) (refl, refl))
    (then_ext 1 1 0 (numbered (k + 2) 1 ∷ []) [] _ _ (variable_ext 1 1 (k + 2) (codes "back") (omega arith) (refl, refl)) end_ext)))

task_part : (k : ℕ) (name : List ℕ) → Ext 0 0 (numbered k 64 ∷ numbered (k + 1) 64 ∷ numbered (k + 2) 64 ∷ []) (task_text k name)
unfolding task_text
task_part k name =
    then_ext 0 1 0 [] _ _ _ (task_scope name) (then_ext 1 1 0 (numbered k 64 ∷ []) _ _ _ (variable_ext 1 64 k (codes "state") (omega arith) (refl, refl))
    (then_ext 1 1 0 (numbered (k + 1) 64 ∷ []) _ _ _ (variable_ext 1 64 (k + 1) (codes "job") (omega arith) (refl, refl))
    (then_ext 1 1 0 (numbered (k + 2) 64 ∷ []) [] _ _ (variable_ext 1 64 (k + 2) (codes "call") (omega arith) (refl, refl)) end_ext)))

device_part : (k : ℕ) (name : List ℕ) → Ext 0 0 (numbered k 64 ∷ numbered (k + 1) 64 ∷ numbered (k + 2) 64 ∷ []) (device_text k name)
unfolding device_text
device_part k name =
    then_ext 0 1 0 [] _ _ _ (device_scope name) (then_ext 1 1 0 (numbered k 64 ∷ []) _ _ _ (variable_ext 1 64 k (codes "queue") (omega arith) (refl, refl))
    (then_ext 1 1 0 (numbered (k + 1) 64 ∷ []) _ _ _ (variable_ext 1 64 (k + 1) (codes "line") (omega arith) (refl, refl))
    (then_ext 1 1 0 (numbered (k + 2) 64 ∷ []) [] _ _ (variable_ext 1 64 (k + 2) (codes "transfer") (omega arith) (refl, refl)) end_ext)))

-- variables of these bits, numbered from k on
abbrev pub variables_from : ℕ → List ℕ → List Variable
variables_from k [] = []
variables_from k (bits ∷ more) = numbered k bits ∷ variables_from (k + 1) more

none_ext : Ext 0 0 [] []
none_ext variables text d = subst (λ v. Declares 0 v (text ++ [])) (sym (append-nil variables)) (subst (Declares 0 variables) (sym (append-nil text)) d)

tasks_part : (k : ℕ) (names : List (List ℕ)) → Ext 0 0 (variables_from k (tasks_bits names)) (tasks_text k names)
tasks_part k [] = none_ext
tasks_part k (name ∷ names) =
    let two : k + 2 ≡ (k + 1) + 1 = omega arith in
    let three : k + 3 ≡ ((k + 1) + 1) + 1 = omega arith in
    then_ext 0 0 0 (numbered k 64 ∷ numbered (k + 1) 64 ∷ numbered ((k + 1) + 1) 64 ∷ []) (variables_from (((k + 1) + 1) + 1) (tasks_bits names)) (task_text k name) (tasks_text (k + 3) names)
    (subst (λ n. Ext 0 0 (numbered k 64 ∷ numbered (k + 1) 64 ∷ numbered n 64 ∷ []) (task_text k name)) two (task_part k name))
    (subst (λ n. Ext 0 0 (variables_from n (tasks_bits names)) (tasks_text (k + 3) names)) three (tasks_part (k + 3) names))

devices_part : (k : ℕ) (names : List (List ℕ)) → Ext 0 0 (variables_from k (devices_bits names)) (devices_text k names)
devices_part k [] = none_ext
devices_part k (name ∷ names) =
    let two : k + 2 ≡ (k + 1) + 1 = omega arith in
    let three : k + 3 ≡ ((k + 1) + 1) + 1 = omega arith in
    then_ext 0 0 0 (numbered k 64 ∷ numbered (k + 1) 64 ∷ numbered ((k + 1) + 1) 64 ∷ []) (variables_from (((k + 1) + 1) + 1) (devices_bits names)) (device_text k name) (devices_text (k + 3) names)
    (subst (λ n. Ext 0 0 (numbered k 64 ∷ numbered (k + 1) 64 ∷ numbered n 64 ∷ []) (device_text k name)) two (device_part k name))
    (subst (λ n. Ext 0 0 (variables_from n (devices_bits names)) (devices_text (k + 3) names)) three (devices_part (k + 3) names))

preamble_part : Ext 0 0 [] preamble
unfolding preamble
preamble_part =
    plain 0 0 preamble (λ variables text d.
    subst (Declares 0 variables) (append_assoc (text ++ codes "$comment Words are bytes: show them as ASCII. $end\n") (codes "$version prem_wave $end\n") (codes "$timescale 1 ns $end\n")
    ∙ append_assoc text (codes "$comment Words are bytes: show them as ASCII. $end\n") (codes "$version prem_wave $end\n$timescale 1 ns $end\n"))
    (timescale (version (codes "prem_wave") refl (comment (codes "Words are bytes: show them as ASCII.") refl d))))

tasks_length : (names : List (List ℕ)) → length (tasks_bits names) ≡ 3 * length names
tasks_length [] = refl
tasks_length (name ∷ names) = let h = tasks_length names in omega (arith, h)

variables_append : (k : ℕ) (xs ys : List ℕ) → variables_from k (xs ++ ys) ≡ variables_from k xs ++ variables_from (k + length xs) ys
variables_append k [] ys = let e : k ≡ k + 0 = omega arith in ap (λ n. variables_from n ys) e
variables_append k (x ∷ xs) ys =
    let e : (k + 1) + length xs ≡ k + length (x ∷ xs) = omega arith in
    ap (λ v. numbered k x ∷ v) (variables_append (k + 1) xs ys ∙ ap (λ n. variables_from (k + 1) xs ++ variables_from n ys) e)

abbrev declared_text : (tasks devices : List (List ℕ)) → List ℕ
declared_text tasks devices = preamble ++ (core_text ++ (tasks_text 2 tasks ++ (bus_text (2 + 3 * length tasks) ++ devices_text (2 + 3 * length tasks + 3) devices)))

parts : (tasks devices : List (List ℕ)) →
    Ext 0 0 ((numbered 0 64 ∷ numbered 1 1 ∷ [])
    ++ (variables_from 2 (tasks_bits tasks)
    ++ ((numbered (2 + 3 * length tasks) 64 ∷ numbered (2 + 3 * length tasks + 1) 1 ∷ numbered (2 + 3 * length tasks + 2) 1 ∷ [])
    ++ variables_from (2 + 3 * length tasks + 3) (devices_bits devices))))
    (declared_text tasks devices)
parts tasks devices =
    let k = 2 + 3 * length tasks in
    then_ext 0 0 0 [] _ preamble _ preamble_part (then_ext 0 0 0 (numbered 0 64 ∷ numbered 1 1 ∷ []) _ core_text _ core_part
    (then_ext 0 0 0 (variables_from 2 (tasks_bits tasks)) _ (tasks_text 2 tasks) _ (tasks_part 2 tasks)
    (then_ext 0 0 0 (numbered k 64 ∷ numbered (k + 1) 1 ∷ numbered (k + 2) 1 ∷ []) (variables_from (k + 3) (devices_bits devices)) (bus_text k) (devices_text (k + 3) devices)
    (bus_part k) (devices_part (k + 3) devices))))

variables_are : (tasks devices : List (List ℕ)) →
    (numbered 0 64 ∷ numbered 1 1 ∷ [])
    ++ (variables_from 2 (tasks_bits tasks)
    ++ ((numbered (2 + 3 * length tasks) 64 ∷ numbered (2 + 3 * length tasks + 1) 1 ∷ numbered (2 + 3 * length tasks + 2) 1 ∷ [])
    ++ variables_from (2 + 3 * length tasks + 3) (devices_bits devices)))
    ≡ variables_from 0 (signal_bits tasks devices)
variables_are tasks devices =
    let l = tasks_length tasks in
    let k = 2 + 3 * length tasks in
    let e : k ≡ 2 + length (tasks_bits tasks) = omega (arith, l) in
    let two : k + 2 ≡ (k + 1) + 1 = omega arith in
    let three : k + 3 ≡ ((k + 1) + 1) + 1 = omega arith in
    ap (λ v. numbered 0 64 ∷ numbered 1 1 ∷ v)
    (ap₂ (λ m n. variables_from 2 (tasks_bits tasks) ++ (numbered k 64 ∷ numbered (k + 1) 1 ∷ numbered m 1 ∷ variables_from n (devices_bits devices))) two three
    ∙ ap (λ n. variables_from 2 (tasks_bits tasks) ++ variables_from n (64 ∷ 1 ∷ 1 ∷ devices_bits devices)) e
    ∙ sym (variables_append 2 (tasks_bits tasks) (64 ∷ 1 ∷ 1 ∷ devices_bits devices)))

pub declares : (tasks devices : List (List ℕ)) → Declares 0 (variables_from 0 (signal_bits tasks devices)) (declared_text tasks devices)
declares tasks devices = subst (λ v. Declares 0 v (declared_text tasks devices)) (variables_are tasks devices) (parts tasks devices [] [] none)

pub header_is : (tasks devices : List (List ℕ)) → header_text tasks devices ≡ declared_text tasks devices ++ codes "$enddefinitions $end\n"
unfolding header_end
header_is tasks devices =
    let k = 2 + 3 * length tasks in
    let e = header_end in
    sym (append_assoc preamble (core_text ++ (tasks_text 2 tasks ++ (bus_text k ++ devices_text (k + 3) devices))) e
    ∙ ap (λ x. preamble ++ x) (append_assoc core_text (tasks_text 2 tasks ++ (bus_text k ++ devices_text (k + 3) devices)) e
    ∙ ap (λ x. core_text ++ x) (append_assoc (tasks_text 2 tasks) (bus_text k ++ devices_text (k + 3) devices) e
    ∙ ap (λ x. tasks_text 2 tasks ++ x) (append_assoc (bus_text k) (devices_text (k + 3) devices) e))))
