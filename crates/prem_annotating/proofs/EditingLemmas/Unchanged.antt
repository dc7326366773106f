-- A text stays where nothing differs.
use Rattle.std.proofs.Common.{ℤ, ◌≡◌, ℕ, Bool, true, false, List, [], ◌∷◌, ◌++◌, length, map, Option, None, Some, Result, Ok, Err, refl, sym, ap, subst, ◌∙◌, arith}
use Rattle.std.specs.Prelude.{◌==◌, if◌then◌else◌}
use Rattle.prem_annotating.proofs.Prelude.{length_bytes, regions_bytes, length_order, regions_order, mark_orders, range_order, range_orders, function_orders, Wanted, annotations}
use Rattle.prem_annotating.proofs.Prelude.{unplaced_wanted, all_orders, edited_text, text_with, StaysWhereSame, Order, leave, put, put_for, Marked, Step, is_type, is_predictable, is_range}
use Rattle.prem_annotating.proofs.Prelude.{is_open, is_close, type_or, elsewhere, behind_type, behind_name, in_range, at_literal, at_close, at_name, kept, in_mark, in_parameters, at_token}
use Rattle.prem_annotating.proofs.Prelude.{first_order, rest_if, walked, begins, tokens_behind, marked, behind, edited, Copying, TokenPlace, Elsewhere, BehindType, BehindName, InMark}
use Rattle.prem_annotating.proofs.Prelude.{AmongRegions, InParameters, InRange, functions_of, Parameter, RegionText, MarkText, FunctionText, ProgramText, Place, text_read, unplaced_region}
use Rattle.prem_annotating.proofs.Prelude.{unplaced_mark, Lexeme, name, number, word, mark, end_of_text, Seen, tokens_of, reads, FrontFail, Word, nat_tests, option_map}
use Rattle.prem_annotating.proofs.There.{same_regions_yes}

-- ---- one step

abbrev is_plain : TokenPlace → Bool
is_plain (AmongRegions more) = false
is_plain _ = true

-- the byte stays, and no region goes
record Plain (b : ℕ) (step : Step) : Type 0 where
  bytes : step.bytes ≡ b ∷ []
  mode : step.behind.mode ≡ Copying
  spot : is_plain step.behind.spot ≡ true

kept_plain : (b : ℕ) (s : TokenPlace) → is_plain s ≡ true → Plain b (kept b s)
kept_plain b s is = record { bytes = refl; mode = refl; spot = is }

either_plain : (x : Bool) (a b : TokenPlace) → is_plain a ≡ true → is_plain b ≡ true → is_plain (if x then a else b) ≡ true
either_plain true a b one two = one
either_plain false a b one two = two

type_plain : (k : Word) → is_plain (type_or k) ≡ true
type_plain k = either_plain (is_type k) BehindType Elsewhere refl refl

elsewhere_plain : (t : Lexeme) → is_plain (elsewhere t) ≡ true
elsewhere_plain (word k) = either_plain (is_predictable k) InMark (type_or k) refl (type_plain k)
elsewhere_plain (name x) = refl
elsewhere_plain (number v k) = refl
elsewhere_plain (mark k) = refl
elsewhere_plain end_of_text = refl

behind_type_plain : (t : Lexeme) → is_plain (behind_type t) ≡ true
behind_type_plain (word k) = type_plain k
behind_type_plain (name x) = refl
behind_type_plain (number v k) = refl
behind_type_plain (mark k) = refl
behind_type_plain end_of_text = refl

behind_name_plain : (t : Lexeme) → is_plain (behind_name t) ≡ true
behind_name_plain (mark k) = either_plain (is_open k) InParameters Elsewhere refl refl
behind_name_plain (name x) = refl
behind_name_plain (number v k) = refl
behind_name_plain (word k) = refl
behind_name_plain end_of_text = refl

in_range_plain : (t : Lexeme) → is_plain (in_range t) ≡ true
in_range_plain (mark k) = either_plain (is_close k) InParameters InRange refl refl
in_range_plain (name x) = refl
in_range_plain (number v k) = refl
in_range_plain (word k) = refl
in_range_plain end_of_text = refl

-- nothing is to be done
data Leaves : Option Order → Type 0 where
  no_order : Leaves None
  left_order : Leaves (Some leave)

close_plain : (b : ℕ) (o : Option Order) → Leaves o → (x : Bool) → Plain b (if x then at_close b o else kept b InMark)
close_plain b _ no_order true = record { bytes = refl; mode = refl; spot = refl }
close_plain b _ left_order true = record { bytes = refl; mode = refl; spot = refl }
close_plain b o l false = kept_plain b InMark refl

literal_plain : (b : ℕ) (o : Option Order) → Leaves o → Plain b (at_literal b o)
literal_plain b _ no_order = record { bytes = refl; mode = refl; spot = refl }
literal_plain b _ left_order = record { bytes = refl; mode = refl; spot = refl }

mark_plain : (b : ℕ) (o : Option Order) → Leaves o → (t : Lexeme) → Plain b (in_mark b o t)
mark_plain b o l (number v k) = literal_plain b o l
mark_plain b o l (mark k) = close_plain b o l (is_close k)
mark_plain b o l (name x) = kept_plain b InMark refl
mark_plain b o l (word k) = kept_plain b InMark refl
mark_plain b o l end_of_text = kept_plain b InMark refl

name_plain : (b : ℕ) (x : List ℕ) (o : Option Order) → Leaves o → Plain b (at_name b x o)
name_plain b x _ no_order = record { bytes = refl; mode = refl; spot = refl }
name_plain b x _ left_order = record { bytes = refl; mode = refl; spot = refl }

parameters_plain : (b : ℕ) (o : Option Order) → Leaves o → (t : Lexeme) → Plain b (in_parameters b o t)
parameters_plain b o l (name x) = name_plain b x o l
parameters_plain b o l (word k) = kept_plain b _ (either_plain (is_range k) InRange InParameters refl refl)
parameters_plain b o l (mark k) = kept_plain b _ (either_plain (is_close k) Elsewhere InParameters refl refl)
parameters_plain b o l (number v k) = kept_plain b InParameters refl
parameters_plain b o l end_of_text = kept_plain b InParameters refl

step_plain : (s : TokenPlace) (o : Option Order) (t : Lexeme) (b : ℕ) → is_plain s ≡ true → Leaves o → Plain b (at_token s o t b)
step_plain Elsewhere o t b is l = kept_plain b (elsewhere t) (elsewhere_plain t)
step_plain BehindType o t b is l = kept_plain b (behind_type t) (behind_type_plain t)
step_plain BehindName o t b is l = kept_plain b (behind_name t) (behind_name_plain t)
step_plain InMark o t b is l = mark_plain b o l t
step_plain (AmongRegions more) o t b is l = absurd cc
step_plain InParameters o t b is l = parameters_plain b o l t
step_plain InRange o t b is l = kept_plain b (in_range t) (in_range_plain t)

-- ---- all bytes

abbrev AllLeave : List Order → Type 0
AllLeave [] = Unit {0}
AllLeave (o ∷ os) = (o ≡ leave) × AllLeave os

first_leaves : (os : List Order) → AllLeave os → Leaves (first_order os)
first_leaves [] l = no_order
first_leaves (o ∷ os) l = subst (λ x. Leaves (Some x)) (sym l.0) left_order

rest_leaves : (done : Bool) (os : List Order) → AllLeave os → AllLeave (rest_if done os)
rest_leaves true [] l = tt
rest_leaves true (o ∷ os) l = l.1
rest_leaves false os l = l

leave_walks : (s : TokenPlace) (os : List Order) (ms : List Marked) → is_plain s ≡ true → AllLeave os → walked s Copying os ms ≡ map (λ (x : Marked). x.0) ms
leave_walks s os [] is l = refl
leave_walks s os ((b, None) ∷ rest) is l = ap (λ (x : List ℕ). b ∷ x) (leave_walks s os rest is l)
leave_walks s os ((b, Some t) ∷ rest) is l =
    let step = at_token s (first_order os) t b in
    let plain = step_plain s (first_order os) t b is (first_leaves os l) in
    let later = leave_walks step.behind.spot (rest_if step.behind.done os) rest plain.spot (rest_leaves step.behind.done os l) in
    (λ i. plain.bytes i ++ walked step.behind.spot (plain.mode i) (rest_if step.behind.done os) rest) ∙ ap (λ (x : List ℕ). b ∷ x) later

marked_bytes : (at : Place) (ts : List Seen) (text : List ℕ) → map (λ (x : Marked). x.0) (marked at ts text) ≡ text
marked_bytes at ts [] = refl
marked_bytes at ts (b ∷ rest) = ap (λ (x : List ℕ). b ∷ x) (marked_bytes (behind at b) (tokens_behind (begins at ts) ts) rest)

left_text : (os : List Order) (text : List ℕ) → AllLeave os → edited_text os text ≡ text
left_text os text l = by (tokens_of text)
  where
    by : (r : Result (List Seen) FrontFail) → (elim r [ Ok ts ↦ edited os ts text | Err fail ↦ text ]) ≡ text
    by (Ok ts) = leave_walks Elsewhere os (marked (record { line = 1; col = 1 }) ts text) refl l ∙ marked_bytes (record { line = 1; col = 1 }) ts text
    by (Err fail) = refl

-- ---- orders where nothing differs

leave_join : (xs ys : List Order) → AllLeave xs → AllLeave ys → AllLeave (xs ++ ys)
leave_join [] ys one two = two
leave_join (x ∷ xs) ys one two = (one.0, leave_join xs ys one.1 two)

length_same : (a b : ℕ) → a ≡ b → length_order a b ≡ leave
length_same a b e = let same : (a == b) ≡ true = grind (arith, nat_tests) in ap (λ (x : Bool). if x then leave else put (length_bytes b)) same

regions_same : (as_ bs : List RegionText) → map unplaced_region as_ ≡ map unplaced_region bs → regions_order as_ bs ≡ leave
regions_same as_ bs e = let same = same_regions_yes as_ bs e in ap (λ (x : Bool). if x then leave else put_for (length as_) (regions_bytes bs)) same

marks_same : (a b : Option MarkText) → option_map unplaced_mark a ≡ option_map unplaced_mark b → AllLeave (mark_orders a b)
marks_same None b e = tt
marks_same (Some k) None e = (refl, (refl, tt))
marks_same (Some k) (Some n) e =
    let one : unplaced_mark k ≡ unplaced_mark n = cc in
    (length_same k.stated n.stated (ap (λ (x : MarkText). x.stated) one), (regions_same k.regions n.regions (ap (λ (x : MarkText). x.regions) one), tt))

range_same : (r : Option (ℤ × ℤ)) → range_order r r ≡ leave
range_same None = refl
range_same (Some r) = refl

ranges_same : (ps : List Parameter) → AllLeave (range_orders ps (map (λ (q : Parameter). q.range) ps))
ranges_same [] = tt
ranges_same (p ∷ ps) = (range_same p.range, ranges_same ps)

function_same : (f : FunctionText) (w : Wanted) → unplaced_wanted (annotations f) ≡ unplaced_wanted w → AllLeave (function_orders f w.0 w.1)
function_same f w e =
    let mark : option_map unplaced_mark f.mark ≡ option_map unplaced_mark w.0 = ap (λ (x : Wanted). x.0) e in
    let ranges : map (λ (q : Parameter). q.range) f.params ≡ w.1 = ap (λ (x : Wanted). x.1) e in
    leave_join (mark_orders f.mark w.0) (range_orders f.params w.1) (marks_same f.mark w.0 mark) (subst (λ x. AllLeave (range_orders f.params x)) ranges (ranges_same f.params))

all_same : (fs : List FunctionText) (ws : List Wanted) → map unplaced_wanted (map annotations fs) ≡ map unplaced_wanted ws → AllLeave (all_orders fs ws)
all_same [] ws e = tt
all_same (f ∷ fs) [] e = cc
all_same (f ∷ fs) (w ∷ ws) e =
    let one : unplaced_wanted (annotations f) ≡ unplaced_wanted w = cc in
    let rest : map unplaced_wanted (map annotations fs) ≡ map unplaced_wanted ws = cc in
    leave_join (function_orders f w.0 w.1) (all_orders fs ws) (function_same f w one) (all_same fs ws rest)

pub stays_where_same : StaysWhereSame
stays_where_same text p ws is e =
    let program : reads text ≡ Ok p = text_read text p is in
    let outer : text_with ws text ≡ edited_text (all_orders (functions_of p) ws) text =
    ap (λ (r : Result ProgramText FrontFail). elim r [ Ok q ↦ edited_text (all_orders (functions_of q) ws) text | Err fail ↦ text ]) program in
    outer ∙ left_text (all_orders (functions_of p) ws) text (all_same (functions_of p) ws e)
