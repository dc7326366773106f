-- A set whose text has none of the annotations that it needs, and what it is annotated to, computed: they meet what the laws on sets ask for. And two texts
-- whose programs are the same but for places and stated lengths.
use Rattle.std.specs.Prelude.{codes}
use Rattle.std.specs.Fmt.{digits}
use Rattle.std.specs.Option.{option_map}
use Rattle.std.proofs.Common.{◌≡◌, ℕ, List, [], ◌∷◌, None, Some, Result, Ok, Err, refl, map}
use Rattle.prem_plant.specs.Ranges.{default_plant}
use Rattle.prem_syntax.specs.Syntax.{ProgramText}
use Rattle.prem_syntax.specs.ProgramRules.{first_breach}
use Rattle.prem_syntax.specs.Statements.{ProgramState}
use Rattle.prem_syntax.specs.Source.{source}
use Rattle.prem_text.specs.declared.lexing.token.fail.FrontFail.{FrontFail}
use Rattle.prem_text.specs.Lexing.Tokens.{tokens_of, lex, step, start, first_token}
use Rattle.prem_text.specs.Lexing.Spelling.{reserved_word, used_word, is_unused, longest_mark}
use Rattle.prem_text.specs.Lexing.Literal.{literal_word}
use Rattle.prem_text.specs.Canonical.Unplaced.{unplaced}
use Rattle.prem_text.specs.Texts.{reads}
use Rattle.prem_ranges.specs.RangesKept.{first_range_breach, turn_bounds}
use Rattle.prem_layout.specs.Rules.{over_tasks}
use Rattle.prem_tasks.specs.Broken.{TaskText, TaskSet, text_rules, program_rules, programs_of, broken}
use Rattle.prem_compile.specs.Bounding.{unbounded}
use Rattle.prem_annotating.specs.Annotated.{first_other}
use Rattle.prem_annotating.specs.Editing.Orders.{constant_bytes}
use Rattle.prem_annotate.specs.Writing.Text.{annotated_text}
use Rattle.prem_annotate_answer.specs.Unplaced.{unlined}
use Rattle.prem_annotate_answer.specs.Lengths.{unstated, bounds_of}
use Rattle.prem_annotate_answer.specs.Written.{unlengthened, written, other_ranges, IsAnnotated}
use Rattle.prem_annotate_answer.specs.Kept.{IsAnnotatedSet}
use Rattle.prem_annotate_answer.proofs.Kept.{sets_are_annotated}
use Rattle.prem_annotate_answer.proofs.Stated.{lengths_unstated}
use Rattle.prem_annotate_answer.proofs.Stays.{annotated_sets_stay}
use Rattle.prem_annotate_answer.proofs.UnplacedRuns.{runs_follow_no_place}

-- ---- a set

abbrev task_with : List ℕ → TaskText
task_with text = record { name = codes "m"; text = text; period = 1000; jobs = 1 }

abbrev set_with : List ℕ → TaskSet
set_with text = record { plant = default_plant; devices = []; tasks = task_with text ∷ [] }

abbrev bare : TaskSet
bare = set_with (codes "int g; PREDICTABLE(1) void set(int x) { g = x; } void job(void) { set(7); out(g); }")

-- the range of the one argument, the global that is reached, and the least length
abbrev annotated_bare : TaskSet
annotated_bare = set_with (codes "int g; PREDICTABLE(491) REGION(g, 0, 0) void set(int x RANGE(7, 7)) { g = x; } void job(void) { set(7); out(g); }")

bare_is_read : over_tasks text_rules bare.tasks ≡ None
unfolding tokens_of lex step start first_token reserved_word used_word is_unused longest_mark literal_word
bare_is_read = refl

bare_is_formed : over_tasks program_rules (programs_of bare.tasks) ≡ None
unfolding tokens_of lex step start first_token reserved_word used_word is_unused longest_mark literal_word first_breach
bare_is_formed = refl

bare_is_ranged : over_tasks other_ranges (programs_of bare.tasks) ≡ None
unfolding tokens_of lex step start first_token reserved_word used_word is_unused longest_mark literal_word first_other
bare_is_ranged = refl

bare_has_bounds : unbounded (unlengthened annotated_text bare) ≡ None
unfolding digits constant_bytes tokens_of lex step start first_token reserved_word used_word is_unused longest_mark literal_word first_breach first_range_breach turn_bounds
bare_has_bounds = refl

bare_is_written : annotated_bare ≡ written annotated_text bare
unfolding digits constant_bytes tokens_of lex step start first_token reserved_word used_word is_unused longest_mark literal_word turn_bounds
bare_is_written = refl

annotated_is_lawful : broken annotated_bare ≡ None
unfolding tokens_of lex step start first_token reserved_word used_word is_unused longest_mark literal_word first_breach first_range_breach turn_bounds
annotated_is_lawful = refl

bare_is_annotated : IsAnnotated annotated_text bare annotated_bare
bare_is_annotated = record {
  texts_are_read = bare_is_read;
  programs_are_formed = bare_is_formed;
  ranges_are_kept = bare_is_ranged;
  has_bounds = bare_has_bounds;
  written_is = bare_is_written;
  lawful = annotated_is_lawful;
}

bare_is_kept : IsAnnotatedSet bare annotated_bare
bare_is_kept = sets_are_annotated bare annotated_bare bare_is_annotated

annotated_stays : IsAnnotated annotated_text annotated_bare annotated_bare
annotated_stays = annotated_sets_stay bare annotated_bare bare_is_annotated

-- ---- programs

abbrev or_none : Result ProgramText FrontFail → ProgramText
or_none (Ok p) = p
or_none (Err fail) = []

abbrev program_of : List ℕ → ProgramText
program_of text = or_none (reads text)

-- on one line, and on five
abbrev narrow : ProgramText
narrow = program_of (codes "void job(void){int x=0;x=in();out(8/x);}")

abbrev wide : ProgramText
wide = program_of (codes "void job(void) {\n  int x = 0;\n  x = in();\n  out(8 / x);\n}\n")

unplaced_alike : unplaced narrow ≡ unplaced wide
unfolding tokens_of lex step start first_token reserved_word used_word is_unused longest_mark literal_word
unplaced_alike = refl

run_alike : (inputs : List ℕ) (jobs : ℕ) → unlined (source narrow inputs jobs) ≡ unlined (source wide inputs jobs)
run_alike inputs jobs = runs_follow_no_place narrow wide unplaced_alike inputs jobs

-- they put out 2 where the input word is 4, and go wrong where there is none, which counts as 0
narrow_puts : option_map (λ (s : ProgramState). s.outputs) (unlined (source narrow (4 ∷ []) 1)) ≡ Some (2 ∷ [])
unfolding tokens_of lex step start first_token reserved_word used_word is_unused longest_mark literal_word
narrow_puts = refl

narrow_is_wrong : source narrow [] 1 ≡ Err 1
unfolding tokens_of lex step start first_token reserved_word used_word is_unused longest_mark literal_word
narrow_is_wrong = refl

wide_is_wrong : source wide [] 1 ≡ Err 4
unfolding tokens_of lex step start first_token reserved_word used_word is_unused longest_mark literal_word
wide_is_wrong = refl

-- ---- lengths

abbrev short : ProgramText
short = program_of (codes "int g; PREDICTABLE(491) REGION(g, 0, 0) void set(int x RANGE(7, 7)) { g = x; } void job(void) { set(7); out(g); }")

abbrev long : ProgramText
long = program_of (codes "int g; PREDICTABLE(600) REGION(g, 0, 0) void set(int x RANGE(7, 7)) { g = x; } void job(void) { set(7); out(g); }")

unstated_alike : map unstated (short ∷ []) ≡ map unstated (long ∷ [])
unfolding tokens_of lex step start first_token reserved_word used_word is_unused longest_mark literal_word
unstated_alike = refl

bounds_alike : bounds_of default_plant [] annotated_bare.tasks (short ∷ []) ≡ bounds_of default_plant [] annotated_bare.tasks (long ∷ [])
bounds_alike = lengths_unstated default_plant [] annotated_bare.tasks (short ∷ []) (long ∷ []) unstated_alike

short_bound : bounds_of default_plant [] annotated_bare.tasks (short ∷ []) ≡ (491 ∷ []) ∷ []
unfolding tokens_of lex step start first_token reserved_word used_word is_unused longest_mark literal_word turn_bounds
short_bound = refl
