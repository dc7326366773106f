-- The breaches that the code finds.
use Rattle.std.specs.Prelude.{Option, None, Some}
use Rattle.std.specs.Option.{option_map}
use Rattle.prem_syntax.specs.Name.{name_bytes}
use Rattle.prem_syntax.specs.Rules.{Rule, Limit, NoJob, Unknown, Twice, OfTypes, CallOrder, MarkedCall, SystemCall, LoopForm, Breach}
use Rattle.prem_check.specs.declared.found.Rule.{Rule as CodeRule}
use Rattle.prem_check.specs.declared.found.Rule.TheVariants as r
use Rattle.prem_check.specs.declared.found.Broken.{Broken}
use Rattle.prem_check.specs.declared.found.Broken.TheVariants as b

abbrev pub rule_of : CodeRule → Rule
rule_of (r.Unknown name) = Unknown (name_bytes name.now)
rule_of (r.Twice name) = Twice (name_bytes name.now)
rule_of (r.OfTypes rule) = OfTypes rule
rule_of r.CallOrder = CallOrder
rule_of r.MarkedCall = MarkedCall
rule_of r.SystemCall = SystemCall
rule_of r.LoopForm = LoopForm

abbrev pub breach_of : Broken → Breach
breach_of (b.Limit which) = record { at = None; rule = Limit which }
breach_of b.NoJob = record { at = None; rule = NoJob }
breach_of (b.At at rule) = record { at = Some at; rule = rule_of rule }

abbrev pub found_of : Option Broken → Option Breach
found_of found = option_map breach_of found
