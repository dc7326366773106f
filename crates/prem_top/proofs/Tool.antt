-- Each answer may be given and keeps the headline, and a command is done where it succeeds.
use Rattle.std.proofs.Common.{refl}
use Rattle.prem_command.specs.Words.{Asked, one, check, build, list, source, run, exec, sample, tile, color, mail}
use Rattle.prem_answer.specs.Stages.{Reads, IsFine, replied}
use Rattle.prem_answer.specs.Tool.{IsSettled, IsTool}
use Rattle.prem_exec.proofs.Stages.{exec_is_fine}
use Rattle.prem_build.specs.declared.sheet.Sheet.TheVariants.{Bounds, Image, Listing}
use Rattle.prem_build.proofs.Build.{sheet_is_fine}
use Rattle.prem_build.proofs.Moving.{color_is_fine}
use Rattle.prem_running.specs.Running.{run_tells}
use Rattle.prem_running.proofs.Tellings.{told_fine}
use Rattle.prem_running.proofs.SampleLemmas.Told.{sample_is_fine}
use Rattle.prem_running.proofs.MailLemmas.Stages.{mail_is_fine}
use Rattle.prem_top.specs.Answer.{asked_answer, prem_tool}
use Rattle.prem_top.specs.Source.Answer.{source_tells}
use Rattle.prem_top.proofs.OneLemmas.Stages.{one_is_fine}
use Rattle.prem_top.proofs.TileLemmas.Stages.{tile_is_fine}
use Rattle.prem_top.proofs.Headline.{asked_keeps}
use Rattle.prem_top.proofs.Ranges.{words_in_range}
use Rattle.prem_top.proofs.Complete.{succeeds}

asked_fine : (asked : Asked) (reads : Reads) → IsFine IsSettled (asked_answer asked reads)
asked_fine (one file) reads = one_is_fine file reads
asked_fine (exec asked) reads = exec_is_fine asked reads
asked_fine (check set) reads = sheet_is_fine Bounds set reads
asked_fine (build set) reads = sheet_is_fine Image set reads
asked_fine (list set) reads = sheet_is_fine Listing set reads
asked_fine (source set file) reads = told_fine source_tells set file (λ set input c. refl) reads
asked_fine (run asked) reads = told_fine (run_tells asked) asked.of asked.run (λ set input c. refl) reads
asked_fine (sample seed) reads = sample_is_fine seed reads
asked_fine (tile asked) reads = tile_is_fine asked reads
asked_fine (color set) reads = color_is_fine set reads
asked_fine (mail asked) reads = mail_is_fine asked reads

pub is_tool : IsTool prem_tool
is_tool = record {
  settled = asked_fine;
  kept = λ words asked is reads. asked_keeps asked (words_in_range words asked is) reads (replied (asked_answer asked reads)) refl;
  complete = succeeds;
}
