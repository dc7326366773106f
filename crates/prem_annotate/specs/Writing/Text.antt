-- A program's text in which each function has its notes.
use Rattle.std.specs.Prelude.{ℕ, ◌+◌, List, [], ◌∷◌, ◌++◌, map, slice_get, Option, None, Some}
use Rattle.prem_annotate.specs.Prelude.{FunctionText}
use Rattle.prem_annotate.specs.Notes.{Notes}
use Rattle.prem_annotating.specs.Editing.Orders.{Wanted, function_orders, text_with}
use Rattle.prem_annotating.specs.Editing.Walk.{Order}

abbrev pub wanted : Notes → Wanted
wanted n = (n.mark, n.ranges)

-- what is no program stays
abbrev pub annotated_text : List Notes → List ℕ → List ℕ
annotated_text ns text = text_with (map wanted ns) text

-- ---- function by function

abbrev pub orders_with : FunctionText → Option Notes → List Order
orders_with f (Some n) = function_orders f n.mark n.ranges
orders_with f None = function_orders f None []

abbrev pub orders_at : FunctionText → List Notes → ℕ → List Order
orders_at f ns n = orders_with f (slice_get ns n)

-- of the functions from number n on
abbrev pub orders_from : ℕ → List FunctionText → List Notes → List Order
orders_from n [] ns = []
orders_from n (f ∷ fs) ns = orders_at f ns n ++ orders_from (n + 1) fs ns
