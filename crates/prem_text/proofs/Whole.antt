-- Reading a text gives what the text is, or why it is none.
use Rattle.std.proofs.Common.{◌≡◌, ℕ, zero, suc, ◌+◌, Bool, true, false, List, [], ◌∷◌, ◌++◌, Some, Result, Ok, Err, refl, sym, ap, ◌∙◌, arith, nat_lt, append_assoc, lt-ltb}
use Rattle.prem_text.proofs.Prelude.{ItemText, ProgramText, Stage, outside, finished, ItemStep, ahead, made, refused, step, is_too_deep, stages, Begins, IsRow, items_tokens, program_tokens}
use Rattle.prem_text.proofs.Prelude.{program_tree, unless_deep, at_end, read_on, read, the_end, end_of_text, Seen, ◌>>=◌, too_deep, tokens_of, place_behind, Divides, up_to, gap, token}
use Rattle.prem_text.proofs.Prelude.{AreTokens, every, IsProgramText, IsNoProgram, not_divided, unexpected, FrontFail, NotText, Token, Syntax, TooLong, TooDeep, OutOfMemory, and_parts}
use Rattle.prem_text.proofs.Prelude.{and_from, nat_tests}
use Rattle.prem_text.proofs.GrammarLemmas.Program.{Reached, reached, read_by, stages_step, read_step, shallow, deep, program_stages, programs_read}
use Rattle.prem_text.proofs.GrammarLemmas.ProgramBegun.{begins_after}
use Rattle.prem_text.proofs.GrammarLemmas.ProgramRefused.{refused_for, unexpected_refused, past_refused}
use Rattle.prem_text.proofs.GrammarLemmas.ProgramSound.{programs_sound}
use Rattle.prem_text.proofs.Inner.{is_inner, items}
use Rattle.prem_text.proofs.SpellingLemmas.Bytes.{every_append}
use Rattle.prem_text.proofs.SpellingLemmas.Exact.{sound, complete, refusals_sound, refusals_complete}
use Rattle.prem_text.specs.Texts.{past}

-- ---- lines count from 1

abbrev has_line : Seen → Bool
has_line t = nat_lt 0 t.1.line

behind_line : (before : List ℕ) → nat_lt 0 (place_behind before).line ≡ true
behind_line before = positive _
  where
    positive : (k : ℕ) → nat_lt 0 (1 + k) ≡ true
    positive k = lt-ltb 0 (1 + k) (omega arith)

lines : (before text : List ℕ) (ts : List Seen) (rest : List ℕ) → Divides before text ts rest → every has_line ts ≡ true
lines _ _ _ _ (up_to before rest) = refl
lines _ _ _ _ (gap before bytes text ts rest g d) = lines (before ++ bytes) text ts rest d
lines _ _ _ _ (token before bytes text t ts rest tok d) = and_from (has_line (t, place_behind before)) (every has_line ts) (behind_line before) (lines (before ++ bytes) text ts rest d)

-- ---- tokens that are all taken

-- reading takes all of these tokens, and then wants more
record Short (before : List ItemText) (s : Stage) (ts : List Seen) (col : ℕ) : Type 0 where
  made_items : List ItemText
  stage : Stage
  went : stages before s ts ≡ Some (reached made_items stage)
  ends : at_end made_items stage ≡ Err (Syntax 0 col)

ahead_by : (b : Bool) (items : List ItemText) (next : Stage) (t : Seen) (ts : List Seen) (col : ℕ) → is_too_deep next ≡ b → unless_deep next t.1 (read_on items next ts) ≡ Err (Syntax 0 col) →
    (read_on items next ts ≡ Err (Syntax 0 col) → Short items next ts col) → Short items next ts col
ahead_by true items next t ts col is e rec = let off : too_deep t.1 ≡ Err (Syntax 0 col) = sym (deep next t.1 (read_on items next ts) is) ∙ e in absurd cc
ahead_by false items next t ts col is e rec = rec (sym (shallow next t.1 (read_on items next ts) is) ∙ e)

step_by : (x : ItemStep) (items : List ItemText) (s : Stage) (t : Seen) (ts : List Seen) (col : ℕ) → step s t ≡ x → has_line t ≡ true → read_by items t ts x ≡ Err (Syntax 0 col) →
    ((more : List ItemText) (next : Stage) → read_on more next ts ≡ Err (Syntax 0 col) → Short more next ts col) → Short items s (t ∷ ts) col
step_by (ahead next) items s t ts col is lined e rec =
    let r = ahead_by (is_too_deep next) items next t ts col refl e (rec items next) in
    record { made_items = r.made_items; stage = r.stage; went = stages_step items s t ts (ahead next) is ∙ r.went; ends = r.ends }
step_by (made item) items s t ts col is lined e rec =
    let r = rec (items ++ item ∷ []) outside e in
    record { made_items = r.made_items; stage = r.stage; went = stages_step items s t ts (made item) is ∙ r.went; ends = r.ends }
step_by refused items s t ts col is lined e rec = let zero_is : t.1.line ≡ 0 = cc in absurd (line_zero t.1.line lined zero_is)
  where
    line_zero : (k : ℕ) → nat_lt 0 k ≡ true → k ≡ 0 → ⊥
    line_zero k lt e = grind (arith, nat_tests)

short : (ts : List Seen) (items : List ItemText) (s : Stage) (col : ℕ) → every has_line ts ≡ true → read_on items s ts ≡ Err (Syntax 0 col) → Short items s ts col
short [] items s col lined e = record { made_items = items; stage = s; went = refl; ends = e }
short (t ∷ ts) items s col lined e =
    let parts = and_parts (has_line t) (every has_line ts) lined in
    step_by (step s t) items s t ts col refl parts.0 (sym (read_step items s t ts (step s t) refl) ∙ e) (λ more next is. short ts more next col parts.1 is)

-- ---- behind the end of the text stands nothing

empty_behind : (us : List Seen) (e : Seen) (more : List Seen) → [] ≡ us ++ e ∷ more → ⊥
empty_behind [] e more is = cc
empty_behind (u ∷ us) e more is = cc

last_end : (inner us : List Seen) (e x : Seen) (more : List Seen) → every is_inner inner ≡ true → is_inner e ≡ false → inner ++ x ∷ [] ≡ us ++ e ∷ more → more ≡ []
last_end [] [] e x more all ends is = cc
last_end [] (u ∷ us) e x more all ends is = let rest : [] ≡ us ++ e ∷ more = cc in absurd (empty_behind us e more rest)
last_end (i ∷ inner) [] e x more all ends is =
    let same : i ≡ e = cc in
    let clash : true ≡ false = sym (and_parts (is_inner i) (every is_inner inner) all).0 ∙ ap is_inner same ∙ ends in absurd cc
last_end (i ∷ inner) (u ∷ us) e x more all ends is =
    let rest : inner ++ x ∷ [] ≡ us ++ e ∷ more = cc in
    last_end inner us e x more (and_parts (is_inner i) (every is_inner inner) all).1 ends rest

no_more_by : (inner us end : List Seen) (e : Seen) (more : List Seen) → every is_inner inner ≡ true → is_inner e ≡ false → IsRow (the_end ∷ []) end → inner ++ end ≡ us ++ e ∷ more → more ≡ []
no_more_by inner us [] e more all ends fit is = absurd fit
no_more_by inner us (t ∷ u ∷ ts) e more all ends fit is = absurd fit.1
no_more_by inner us (t ∷ []) e more all ends fit is = last_end inner us e t more all ends is

-- a program that begins with all tokens of a text has no others
no_more : (text : List ℕ) (all : List Seen) (a : AreTokens text all) (b : Begins all) → b.more ≡ []
no_more text all a b =
    let e : Seen = (end_of_text, place_behind text) in
    let spelled : items_tokens b.phrase.items ++ b.phrase.end ≡ a.tokens ++ e ∷ b.more =
    b.tokens ∙ ap (λ (l : List Seen). l ++ b.more) a.is_all ∙ append_assoc a.tokens (e ∷ []) b.more in
    no_more_by (items_tokens b.phrase.items) a.tokens b.phrase.end e b.more (items b.phrase.items b.right.0).all refl b.right.1 spelled

nothing_behind : (xs : List Seen) → xs ++ [] ≡ xs
nothing_behind [] = refl
nothing_behind (x ∷ xs) = ap (λ (l : List Seen). x ∷ l) (nothing_behind xs)

-- the tokens of a text are never too few
not_short : (text : List ℕ) (all : List Seen) (col : ℕ) → AreTokens text all → Short [] outside all col → ⊥
not_short text all col a s =
    let b = begins_after all s.made_items s.stage s.went in
    let whole : program_tokens b.phrase ≡ all = b.tokens ∙ ap (λ (l : List Seen). all ++ l) (no_more text all a b) ∙ nothing_behind all in
    let went : Some (reached (program_tree b.phrase) finished) ≡ Some (reached s.made_items s.stage) =
    sym (program_stages b.phrase b.right).0 ∙ ap (stages [] outside) whole ∙ s.went in
    finished_ends (program_tree b.phrase) s.made_items s.stage col went s.ends
  where
    finished_ends : (items got : List ItemText) (stage : Stage) (col : ℕ) → Some (reached items finished) ≡ Some (reached got stage) → at_end got stage ≡ Err (Syntax 0 col) → ⊥
    finished_ends items got stage col went ends =
        let same : reached items finished ≡ reached got stage = cc in
        let off : Ok items ≡ Err (Syntax 0 col) = ap (λ (r : Reached). at_end r.0 r.1) same ∙ ends in cc

all_lines : (text : List ℕ) (all : List Seen) → AreTokens text all → every has_line all ≡ true
all_lines text all a =
    ap (every has_line) a.is_all ∙ every_append has_line a.tokens ((end_of_text, place_behind text) ∷ []) (lines [] text a.tokens [] a.divides)
    (and_from (has_line (end_of_text, place_behind text)) true (behind_line text) refl)

-- ---- whole texts

pub text_read : (text : List ℕ) (items : ProgramText) → IsProgramText text items → (tokens_of text >>= read) ≡ Ok items
text_read text items p =
    ap (λ (r : Result (List Seen) FrontFail). r >>= read) (complete text p.all p.tokens)
    ∙ ap read (sym p.spelled) ∙ programs_read p.phrase p.right p.within ∙ ap (λ (t : ProgramText). Ok t) p.tree

sound_by : (r : Result (List Seen) FrontFail) (text : List ℕ) (items : ProgramText) → tokens_of text ≡ r → (r >>= read) ≡ Ok items → IsProgramText text items
sound_by (Err fail) text items tokens is = absurd cc
sound_by (Ok all) text items tokens is =
    let p = programs_sound all items is in
    record { all = all; tokens = sound text all tokens; phrase = p.0; right = p.1; spelled = p.2; within = p.4; tree = p.3 }

pub text_sound : (text : List ℕ) (items : ProgramText) → (tokens_of text >>= read) ≡ Ok items → IsProgramText text items
text_sound text items is = sound_by (tokens_of text) text items refl is

wrong_by : (fail : FrontFail) (text : List ℕ) (all : List Seen) → AreTokens text all → read all ≡ Err fail → IsNoProgram text fail
wrong_by (Syntax zero col) text all a is = absurd (not_short text all col a (short all [] outside col (all_lines text all a) is))
wrong_by (Syntax (suc line) col) text all a is = unexpected all (suc line) col a (refused_for all (Syntax (suc line) col) is (omega arith))
wrong_by (TooDeep line) text all a is = past all line a (refused_for all (TooDeep line) is)
wrong_by (NotText n) text all a is = absurd (refused_for all (NotText n) is)
wrong_by (Token line col) text all a is = absurd (refused_for all (Token line col) is)
wrong_by TooLong text all a is = absurd (refused_for all TooLong is)
wrong_by OutOfMemory text all a is = absurd (refused_for all OutOfMemory is)

refused_by : (r : Result (List Seen) FrontFail) (text : List ℕ) (fail : FrontFail) → tokens_of text ≡ r → (r >>= read) ≡ Err fail → IsNoProgram text fail
refused_by (Err other) text fail tokens is =
    let same : other ≡ fail = cc in
    not_divided fail (refusals_sound text fail (tokens ∙ ap (λ (f : FrontFail). Err f) same))
refused_by (Ok all) text fail tokens is = wrong_by fail text all (sound text all tokens) is

pub text_refused : (text : List ℕ) (fail : FrontFail) → (tokens_of text >>= read) ≡ Err fail → IsNoProgram text fail
text_refused text fail is = refused_by (tokens_of text) text fail refl is

tokens_read : (text : List ℕ) (all : List Seen) → AreTokens text all → (tokens_of text >>= read) ≡ read all
tokens_read text all a = ap (λ (r : Result (List Seen) FrontFail). r >>= read) (complete text all a)

pub no_program_refused : (text : List ℕ) (fail : FrontFail) → IsNoProgram text fail → (tokens_of text >>= read) ≡ Err fail
no_program_refused text _ (not_divided fail r) = ap (λ (x : Result (List Seen) FrontFail). x >>= read) (refusals_complete text fail r)
no_program_refused text _ (unexpected all line col a u) = tokens_read text all a ∙ unexpected_refused all line col u
no_program_refused text _ (past all line a p) = tokens_read text all a ∙ past_refused all line p
