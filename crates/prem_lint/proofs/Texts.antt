-- Places that are found by a program are those in its text.
use Rattle.std.proofs.Common.{◌≡◌, ℕ, zero, suc, ◌+◌, List, [], ◌∷◌, Option, None, Some, Result, Ok, Err, map, refl, ap, sym, ◌∙◌, subst}
use Rattle.std.specs.Prelude.{slice_get}
use Rattle.prem_syntax.specs.Syntax.{ProgramText}
use Rattle.prem_text.specs.declared.lexing.token.fail.FrontFail.{FrontFail}
use Rattle.prem_syntax.specs.ProgramRules.{first_breach}
use Rattle.prem_text.specs.Lexing.Tokens.{lex, tokens_of}
use Rattle.prem_text.specs.Texts.{reads}
use Rattle.prem_tree.specs.declared.checked.Checked.{Checked}
use Rattle.prem_layout.specs.Rules.{or_else, refused_by, first_among}
use Rattle.prem_tasks.specs.Broken.{TaskText, TaskSet, unread, text_rules, program_before, programs_of}
use Rattle.prem_tasks.specs.Told.{Told, of_text, of_program, of_ranges, of_code}
use Rattle.prem_stages.specs.Stages.{checked_text}
use Rattle.prem_stages.specs.Coded.{AreFormed}
use Rattle.prem_lint.specs.Places.{beside, function_spot, function_spot_in, program_place, range_place, range_place_in, range_spot}
use Rattle.prem_lint.specs.Programs.{HasProgram, IsProgramOf, function_spot_of, program_at, range_spot_of}
use Rattle.prem_lint.specs.Answers.{source_of}

-- ---- places

-- where there is no text there is no item
no_items : reads [] ≡ Ok []
unfolding tokens_of lex
no_items = refl

no_breach : program_place [] ≡ None
unfolding program_place first_breach
no_breach = refl

pub function_there : (name text : List ℕ) (program : Option ProgramText) → IsProgramOf text program → function_spot_of name program ≡ function_spot name text
unfolding function_spot
function_there name text None is = sym (ap (λ (t : List ℕ). function_spot_in name (reads t)) is ∙ ap (function_spot_in name) no_items)
function_there name text (Some p) is = sym (ap (function_spot_in name) is)

pub range_there : (line : ℕ) (text : List ℕ) (program : Option ProgramText) → IsProgramOf text program → range_spot_of line program ≡ range_spot line text
unfolding range_spot range_place
range_there line text None is =
    sym (ap (λ (t : List ℕ). beside line (range_place_in (reads t))) is ∙ ap (λ r. beside line (range_place_in r)) no_items ∙ ap (beside line) no_breach)
range_there line text (Some p) is = sym (ap (λ r. beside line (range_place_in r)) is)

-- ---- the programs of a set's texts

text_at : (n k : ℕ) (ts : List TaskText) → first_among text_rules k ts ≡ None → IsProgramOf (source_of ts (Some n)) (slice_get (programs_of ts) n)
text_at n k [] none = refl
text_at n k (t ∷ ts) none = by n (reads t.text) refl none (λ m. text_at m (k + 1) ts)
  where
    by : (n : ℕ) (read : Result ProgramText FrontFail) → reads t.text ≡ read → or_else (refused_by (Some k) (unread read)) (first_among text_rules (k + 1) ts) ≡ None →
        ((m : ℕ) → first_among text_rules (k + 1) ts ≡ None → IsProgramOf (source_of ts (Some m)) (slice_get (programs_of ts) m)) →
        IsProgramOf (source_of (t ∷ ts) (Some n)) (slice_get (program_before read (programs_of ts)) n)
    by n (Err fail) is none more = absurd cc
    by zero (Ok p) is none more = is
    by (suc m) (Ok p) is none more = more m none

source_there : (set : TaskSet) (programs : List Checked) (task : Option ℕ) → AreFormed set programs →
    IsProgramOf (source_of set.tasks task) (program_at (map checked_text programs) task)
source_there set programs None formed = refl
source_there set programs (Some n) formed =
    subst (λ (ps : List ProgramText). IsProgramOf (source_of set.tasks (Some n)) (slice_get ps n)) (sym formed.programs_are) (text_at n 0 set.tasks formed.texts_are_read)

pub has_program : (set : TaskSet) (programs : List Checked) (rule : Told) (task : Option ℕ) (program : Option ProgramText) → AreFormed set programs →
    program ≡ program_at (map checked_text programs) task → HasProgram rule (source_of set.tasks task) program
has_program set programs (of_text fail) task program formed is = tt
has_program set programs (of_program told) task program formed is = tt
has_program set programs (of_ranges told) task program formed is = subst (λ (p : Option ProgramText). IsProgramOf (source_of set.tasks task) p) (sym is) (source_there set programs task formed)
has_program set programs (of_code rule) task program formed is = subst (λ (p : Option ProgramText). IsProgramOf (source_of set.tasks task) p) (sym is) (source_there set programs task formed)
