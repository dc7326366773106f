-- Where statements stand, from its parts.
use Rattle.std.proofs.Common.{ℕ, Bool}
use Rattle.prem_syntax.specs.Resolve.{Scope}
use Rattle.prem_syntax.specs.Breaches.{Around}

abbrev pub standing : Scope → ℕ → Bool → Bool → Around
standing scope n is_job within = record { scope = scope; number = n; is_job = is_job; is_within_marked = within }
