-- Which locals steps assign, by number.
use Rattle.std.specs.Prelude.{ℕ, ◌==◌, Bool, false, ◌||◌, Option, None, Some}
use Rattle.prem_syntax.specs.Resolved.{Steps, Done, SetLocal, SetScalar, SetElement, Output, Input, If, For, While, Call}

abbrev pub is_target : ℕ → Option ℕ → Bool
is_target k None = false
is_target k (Some other) = other == k

-- whether steps assign a local
abbrev pub assigns : ℕ → Steps → Bool
assigns k Done = false
assigns k (SetLocal at other e rest) = other == k || assigns k rest
assigns k (SetScalar at g ty e rest) = assigns k rest
assigns k (SetElement at g ty index e rest) = assigns k rest
assigns k (Output at e rest) = assigns k rest
assigns k (Input at other rest) = other == k || assigns k rest
assigns k (If at condition taken other rest) = assigns k taken || assigns k other || assigns k rest
assigns k (For at other low closed high step turns body rest) = other == k || assigns k body || assigns k rest
assigns k (While at turns condition body rest) = assigns k body || assigns k rest
assigns k (Call at target f arguments rest) = is_target k target || assigns k rest
