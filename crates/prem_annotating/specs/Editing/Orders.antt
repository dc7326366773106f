-- What differs between a program's annotations and those that are wanted, as orders.
use Rattle.std.specs.Prelude.{ℕ, ◌+◌, ℤ, slice_index_or, pos, int_lt, unsigned_abs, codes, ◌==◌, Bool, true, false, ◌&&◌, if◌then◌else◌, List, [], ◌∷◌, ◌++◌, length, map, Option, None, Some}
use Rattle.std.specs.Prelude.{Ok, Err, ◌≡◌}
use Rattle.prem_annotating.specs.Prelude.{functions_of, Parameter, RegionText, MarkText, FunctionText, ProgramText, number_lexeme, lexeme_bytes, unplaced_mark, tokens_of, reads}
use Rattle.prem_annotating.specs.Prelude.{IsProgramText, option_map}
use Rattle.prem_annotating.specs.Editing.Walk.{Order, leave, put, put_for, edited}
use Rattle.prem_annotating.specs.Pieces.{text_of, range_pieces, regions_pieces}
use Rattle.prem_annotating.specs.declared.editing.walk.Order.{Order as OrderTree}
use Rattle.std.specs.Str.{bytes_eq}
use Rattle.prem_annotating.specs.declared.editing.walk.Order.TheVariants as code

-- an order in memory
abbrev pub order_of : OrderTree → Order
order_of code.Leave = leave
order_of (code.Put bytes) = put bytes.items
order_of (code.PutFor regions bytes) = put_for regions bytes.items

-- ---- what is put, by its pieces and spelled out

abbrev pub length_bytes : ℕ → List ℕ
length_bytes n = lexeme_bytes (number_lexeme n)

abbrev pub regions_bytes : List RegionText → List ℕ
regions_bytes rs = text_of (regions_pieces rs)

abbrev pub range_bytes : ℤ × ℤ → List ℕ
range_bytes r = text_of (range_pieces r)

unfoldable pub constant_bytes : ℤ → List ℕ
constant_bytes z = if int_lt z (pos 0) then 45 ∷ length_bytes (unsigned_abs z) else length_bytes (unsigned_abs z)

abbrev pub range_spelled : ℤ × ℤ → List ℕ
range_spelled r = codes " RANGE(" ++ constant_bytes r.0 ++ codes ", " ++ constant_bytes r.1 ++ codes ")"

abbrev pub region_spelled : RegionText → List ℕ
region_spelled r = codes " REGION(" ++ r.name ++ codes ", " ++ length_bytes r.low ++ codes ", " ++ length_bytes r.high ++ codes ")"

abbrev pub regions_spelled : List RegionText → List ℕ
regions_spelled [] = []
regions_spelled (r ∷ rs) = region_spelled r ++ regions_spelled rs

-- ---- marks

-- regions that are the same, places aside
abbrev pub same_region : RegionText → RegionText → Bool
same_region a b = bytes_eq a.name b.name && ((a.low == b.low) && (a.high == b.high))

abbrev pub same_regions : List RegionText → List RegionText → Bool
same_regions [] [] = true
same_regions (a ∷ as_) (b ∷ bs) = same_region a b && same_regions as_ bs
same_regions _ _ = false

abbrev pub length_order : ℕ → ℕ → Order
length_order old wanted = if old == wanted then leave else put (length_bytes wanted)

abbrev pub regions_order : List RegionText → List RegionText → Order
regions_order old wanted = if same_regions old wanted then leave else put_for (length old) (regions_bytes wanted)

-- the orders of a mark, and the new one
abbrev pub mark_orders : Option MarkText → Option MarkText → List Order
mark_orders None wanted = []
mark_orders (Some k) None = leave ∷ leave ∷ []
mark_orders (Some k) (Some n) = length_order k.stated n.stated ∷ regions_order k.regions n.regions ∷ []

-- ---- parameters

-- a RANGE that stands stays
abbrev pub range_order : Option (ℤ × ℤ) → Option (ℤ × ℤ) → Order
range_order None (Some r) = put (range_spelled r)
range_order _ _ = leave

-- that of a parameter, or none past the end
abbrev pub range_at : List (Option (ℤ × ℤ)) → ℕ → Option (ℤ × ℤ)
range_at xs n = slice_index_or xs n None

-- of the parameters from number n on
abbrev pub orders_from : ℕ → List Parameter → List (Option (ℤ × ℤ)) → List Order
orders_from n [] xs = []
orders_from n (p ∷ ps) xs = range_order p.range (range_at xs n) ∷ orders_from (n + 1) ps xs

abbrev pub range_orders : List Parameter → List (Option (ℤ × ℤ)) → List Order
range_orders [] xs = []
range_orders (p ∷ ps) [] = leave ∷ range_orders ps []
range_orders (p ∷ ps) (x ∷ xs) = range_order p.range x ∷ range_orders ps xs

-- ---- functions

-- the orders of a function that is to have a mark and ranges
abbrev pub function_orders : FunctionText → Option MarkText → List (Option (ℤ × ℤ)) → List Order
function_orders f wanted ranges = mark_orders f.mark wanted ++ range_orders f.params ranges

-- what is wanted at a function: its mark, and the ranges of its parameters
abbrev pub Wanted : Type 0
Wanted = Option MarkText × List (Option (ℤ × ℤ))

-- the annotations of a function's text
abbrev pub annotations : FunctionText → Wanted
annotations t = (t.mark, map (λ (q : Parameter). q.range) t.params)

-- the orders of functions, one behind another; where nothing more is wanted, all stays
abbrev pub all_orders : List FunctionText → List Wanted → List Order
all_orders [] ws = []
all_orders (f ∷ fs) [] = function_orders f None [] ++ all_orders fs []
all_orders (f ∷ fs) (w ∷ ws) = function_orders f w.0 w.1 ++ all_orders fs ws

-- ---- texts

-- a text with orders carried out, if it has tokens
abbrev pub edited_text : List Order → List ℕ → List ℕ
edited_text os text = elim (tokens_of text) [ Ok ts ↦ edited os ts text | Err fail ↦ text ]

-- a program's text with other annotations; what is no program stays
abbrev pub text_with : List Wanted → List ℕ → List ℕ
text_with ws text = elim (reads text) [ Ok p ↦ edited_text (all_orders (functions_of p) ws) text | Err fail ↦ text ]

-- ---- where nothing differs

abbrev pub unplaced_wanted : Wanted → Wanted
unplaced_wanted w = (option_map unplaced_mark w.0, w.1)

-- a program's text stays where the annotations that are wanted stand, places aside
abbrev pub StaysWhereSame : Type 0
StaysWhereSame = (text : List ℕ) (p : ProgramText) (ws : List Wanted) → IsProgramText text p →
    map unplaced_wanted (map annotations (functions_of p)) ≡ map unplaced_wanted ws → text_with ws text ≡ text
