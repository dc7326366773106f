-- Where a statement in memory stands.
use Rattle.prem_syntax.specs.Breaches.{Around}
use Rattle.prem_names.specs.Scopes.{scope_of}
use Rattle.prem_check.specs.declared.call.Around.{Around as CodeAround}

abbrev pub around_of : CodeAround → Around
around_of a = record { scope = scope_of a.names.now; number = a.number; is_job = a.is_job; is_within_marked = a.is_within_marked }
