-- What words ask for, in memory.
use Rattle.std.specs.Prelude.{map, string_bytes}
use Rattle.prem_command.specs.Chart.{chart_asked}
use Rattle.prem_time.specs.Asked.{distances_in}
use Rattle.prem_chart.specs.declared.words.PictureAsked.{PictureAsked as AskedIn}
use Rattle.prem_chart.specs.declared.words.Parted.{Parted as PartedIn}
use Rattle.prem_chart.specs.Words.{Asked, Parted}

abbrev pub asked_in : AskedIn → Asked
asked_in a = record { chart = chart_asked a.chart; distances = distances_in a.distances.items }

abbrev pub parted_in : PartedIn → Parted
parted_in p = record { plain = map string_bytes p.plain.items; every = map string_bytes p.every.items; behind = p.behind }
