use Rattle.std.proofs.Common.{◌≡◌, ◌++◌, take}
use Rattle.prem_chart.specs.Phases.{windows_text}
use Rattle.prem_chart.proofs.phases.push_windows.Given as goal

abbrev pub invariant-notes : goal.invariant-notes
invariant-notes l = l.text.items ≡ l.initial.text.items ++ windows_text l.sheet l.tasks (take l.note-index l.notes)
