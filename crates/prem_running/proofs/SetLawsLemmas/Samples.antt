-- A set of one task with a device, computed: it breaks no rule, so that the laws speak of it.
use Rattle.std.specs.Prelude.{codes}
use Rattle.std.proofs.Common.{◌≡◌, ℕ, List, [], ◌∷◌, Option, None, Some, Result, Ok, refl, ap, ◌∙◌}
use Rattle.prem_word.specs.declared.kind.Kind.TheVariants.{Int}
use Rattle.prem_plant.specs.Ranges.{default_plant}
use Rattle.prem_syntax.specs.declared.tree.Place.{Place}
use Rattle.prem_syntax.specs.Syntax.{literal, ProgramText}
use Rattle.prem_syntax.specs.ProgramRules as meaning
use Rattle.prem_syntax.specs.Sums.{outputs, job_program}
use Rattle.prem_text.specs.declared.lexing.token.fail.FrontFail.{FrontFail}
use Rattle.prem_text.specs.Lexing.Spelling.{used_word, is_unused, reserved_word, longest_mark}
use Rattle.prem_text.specs.Lexing.Literal.{literal_word}
use Rattle.prem_text.specs.Lexing.Tokens.{first_token, start, step, lex, tokens_of}
use Rattle.prem_text.specs.Texts.{reads}
use Rattle.prem_ranges.specs.RangesKept as ranges
use Rattle.prem_layout.specs.Rules.{Refusal, or_else, refused_by}
use Rattle.prem_tasks.specs.Told.{Told}
use Rattle.prem_tasks.specs.Broken.{TaskSet, unread, program_before, broken_programs, broken}
use Rattle.prem_tasks.specs.Compiled.{compiled}
use Rattle.prem_report.specs.Fitting.Named.{names_for}
use Rattle.prem_running.proofs.SetLawsLemmas.Names.{names_are_kept}

abbrev five_text : List ℕ
five_text = codes "void job(void){out(5);}"

abbrev five_set : TaskSet
five_set = record {
  plant = default_plant;
  devices = record { name = codes "dma"; queue = 2; cost = 40; lines = 4 } ∷ [];
  tasks = record { name = codes "m"; text = five_text; period = 1000; jobs = 1 } ∷ [];
}

abbrev at : ℕ → Place
at col = record { line = 1; col = col }

abbrev five_program : ProgramText
five_program = job_program (at 6) (outputs ((at 16, literal (at 20) 5 Int) ∷ []))

five_is_read : reads five_text ≡ Ok five_program
unfolding tokens_of lex step start first_token reserved_word used_word is_unused longest_mark literal_word
five_is_read = refl

-- the first broken rule, by what is read of the text
abbrev judged : Result ProgramText FrontFail → Option (Refusal Told)
judged read = or_else (or_else (refused_by (Some 0) (unread read)) None) (broken_programs five_set (program_before read []))

five_is_kept : judged (Ok five_program) ≡ None
unfolding meaning.first_breach ranges.first_range_breach ranges.turn_bounds
five_is_kept = refl

five_is_unbroken : broken five_set ≡ None
five_is_unbroken = ap judged five_is_read ∙ five_is_kept

-- so run files speak of its image by the names `m` and `dma`
five_names : names_for (compiled five_set).image.tasks (compiled five_set).image.devices ≡ record { tasks = codes "m" ∷ []; devices = (codes "dma", 4) ∷ [] }
five_names = names_are_kept five_set five_is_unbroken
