-- What the words of the command line of pictures say.
use Rattle.std.specs.Prelude.{ℕ, List, Option, Some, codes, option_map}
use Rattle.clap.specs.Words.{App, Row, Rule, Text, new_rule, with_rule}
use Rattle.prem_command.specs.declared.chart.ChartWords.{ChartWords}
use Rattle.prem_command.specs.Words.{with_limit, two_names, read_by, text_in, number_in}

-- `--from N`
abbrev pub from : Rule
from = with_limit 1125899906842623 (record (new_rule (codes "from")) { long = Some (codes "from") })

-- `--to N`
abbrev pub to : Rule
to = with_limit 1125899906842624 (record (new_rule (codes "to")) { long = Some (codes "to") })

-- FILE RUN [--from N] [--to N]
abbrev pub chart_words : App
chart_words = with_rule (with_rule two_names from) to

pub record ChartAsked : Type 0 where
  pub set : Text
  pub run : Text
  pub from_cycle : Option ℕ
  pub to_cycle : Option ℕ

abbrev pub chart_in : List Row → ChartAsked
chart_in rows = record {
  set = text_in (codes "FILE") rows;
  run = text_in (codes "RUN") rows;
  from_cycle = number_in (codes "from") rows;
  to_cycle = number_in (codes "to") rows;
}

-- what the words say, or none where they aren't in form
unfoldable pub chart_of : List Text → Option ChartAsked
chart_of words = option_map chart_in (read_by chart_words words)

abbrev pub chart_asked : ChartWords → ChartAsked
chart_asked w = record { set = w.set.now; run = w.run.now; from_cycle = w.from; to_cycle = w.to }
