-- A program with tiles can be printed so that it is read again.
use Rattle.std.specs.Prelude.{nat_lt, nat_le, ◌==◌, codes, decimal, pos}
use Rattle.std.specs.Str.{bytes_eq}
use Rattle.std.specs.Str.Parse.{AllDigits}
use Rattle.std.specs.List.{list_any}
use Rattle.std.proofs.Common.{◌≡◌, ℕ, zero, suc, ◌+◌, ◌^◌, ◌<◌, ◌≤◌, Bool, true, false, cond, not, ◌&&◌, ◌||◌, List, [], ◌∷◌, ◌++◌, length, map, refl, ap, sym, ◌∙◌, subst, arith}
use Rattle.std.proofs.Common.{Option, None, Some, option_map, true≢false, ⊎_elim}
use Rattle.std.proofs.lemmas.Bool.{and_from, and_parts}
use Rattle.std.proofs.lemmas.Fmt.{decimal_is_IsNumeral}
use Rattle.prem_word.specs.declared.kind.Kind.{Kind}
use Rattle.prem_word.specs.declared.kind.Kind.TheVariants.{Int, Unsigned}
use Rattle.prem_syntax.specs.declared.tree.Place.{Place}
use Rattle.prem_syntax.specs.Syntax.{Text, Expression, literal, Statement, block, if_then, if_else, bounded_while, counting_for, assign, output, input, call, Statements}
use Rattle.prem_syntax.specs.Syntax.{no_statements, next_statement, RegionText, MarkText, FunctionText, ItemText, global_item, function_item, ProgramText}
use Rattle.prem_text.specs.declared.lexing.token.token.Word.{Word}
use Rattle.prem_text.specs.declared.lexing.token.token.Mark.TheVariants as m
use Rattle.prem_text.specs.declared.lexing.token.token.Word.TheVariants as w
use Rattle.prem_text.specs.Lexing.Spelling.{words, unused}
use Rattle.prem_text.specs.Lexing.Token.Lexeme.{Lexeme, name, number, word, mark, end_of_text}
use Rattle.prem_text.specs.Lexing.Tokens.{is_digit, is_name_byte}
use Rattle.prem_text.specs.Spelling.Spellings.{StandsIn, at_front, further, every, Reserved, used, without_use, Spells, as_name, as_word, as_literal, as_mark}
use Rattle.prem_text.specs.Canonical.Unplaced.{unplaced_statement, unplaced_statements, unplaced_item, unplaced}
use Rattle.prem_text.specs.Canonical.Canonical.{number_lexeme, expression_lexemes, while_lexemes, for_lexemes, bound_lexemes, step_lexemes, if_lexemes, statement_lexemes}
use Rattle.prem_text.specs.Canonical.Canonical.{statements_lexemes, declaration_lexemes, regions_lexemes, mark_lexemes, parameters_lexemes, locals_lexemes, result_lexemes}
use Rattle.prem_text.specs.Canonical.Canonical.{function_lexemes, item_lexemes, program_lexemes, type_lexemes}
use Rattle.prem_text.proofs.CanonicalLemmas.Sayable.{IsSayable, AreSayable, both, number_said}
use Rattle.prem_text.proofs.CanonicalLemmas.Shaped.{leaves_open, IsShaped, AreShaped, IsShapedItem, AreShapedItems}
use Rattle.prem_text.proofs.CanonicalLemmas.Spelled.{in_digits}
use Rattle.prem_tiling.specs.Shapes.Narrowed.{added_in}
use Rattle.prem_tiling.specs.Shapes.Tiled.{Cut, tile_name, last_of, tile_loop, tile_region, tile_mark, tile_of, tiles_from, low_of, closed_of, high_of, calls_from, with_tiles}
use Rattle.prem_tiling.specs.Shapes.Tiled.{all_with_tiles, function_with_tiles, item_with_tiles, tiled}
use Rattle.prem_tiling.proofs.LawsLemmas.Shapes.{IsShape, low_end, high_end, statement_of}
use Rattle.prem_tiling.proofs.LawsLemmas.Quiet.{IsWithin, narrowed_within}
use Rattle.prem_tile.proofs.CuttingLemmas.Printable.{IsPrintable}

-- ---- parts

say_front : (xs ys : List Lexeme) → AreSayable (xs ++ ys) → AreSayable xs
say_front [] ys p = tt
say_front (name x ∷ xs) ys p = (p.0, say_front xs ys p.1)
say_front (number value kind ∷ xs) ys p = (p.0, say_front xs ys p.1)
say_front (word k ∷ xs) ys p = say_front xs ys p
say_front (mark k ∷ xs) ys p = say_front xs ys p
say_front (end_of_text ∷ xs) ys p = absurd p

say_back : (xs ys : List Lexeme) → AreSayable (xs ++ ys) → AreSayable ys
say_back [] ys p = p
say_back (name x ∷ xs) ys p = say_back xs ys p.1
say_back (number value kind ∷ xs) ys p = say_back xs ys p.1
say_back (word k ∷ xs) ys p = say_back xs ys p
say_back (mark k ∷ xs) ys p = say_back xs ys p
say_back (end_of_text ∷ xs) ys p = absurd p

-- the last part is another one
with_last : (xs ys zs : List Lexeme) → (AreSayable ys → AreSayable zs) → AreSayable (xs ++ ys) → AreSayable (xs ++ zs)
with_last xs ys zs f p = both xs zs (say_front xs ys p) (f (say_back xs ys p))

-- the first part is another one
with_first : (xs ys zs : List Lexeme) → (AreSayable xs → AreSayable zs) → AreSayable (xs ++ ys) → AreSayable (zs ++ ys)
with_first xs ys zs f p = both zs ys (f (say_front xs ys p)) (say_back xs ys p)

-- ---- names of tiles

every_append : (f : ℕ → Bool) (xs ys : List ℕ) → every f xs ≡ true → every f ys ≡ true → every f (xs ++ ys) ≡ true
every_append f [] ys p q = q
every_append f (x ∷ xs) ys p q = let parts = and_parts (f x) (every f xs) p in and_from (f x) (every f (xs ++ ys)) parts.0 (every_append f xs ys parts.1 q)

digit_in_name : (c : ℕ) → is_digit c ≡ true → is_name_byte c ≡ true
digit_in_name c e = ap (λ b. b || (nat_le 65 c && nat_le c 90) || (nat_le 97 c && nat_le c 122) || c == 95) e

digits_in_name : (ds : List ℕ) → AllDigits 10 ds → every is_name_byte ds ≡ true
digits_in_name [] all = refl
digits_in_name (d ∷ ds) all = and_from (is_name_byte d) (every is_name_byte ds) (digit_in_name d (in_digits d all.0)) (digits_in_name ds all.1)

abbrev has_digit : List ℕ → Bool
has_digit bytes = list_any is_digit bytes

any_right : (xs ys : List ℕ) → has_digit ys ≡ true → has_digit (xs ++ ys) ≡ true
any_right [] ys e = e
any_right (x ∷ xs) ys e = by (is_digit x) (any_right xs ys e)
  where
    by : (b : Bool) → has_digit (xs ++ ys) ≡ true → (b || has_digit (xs ++ ys)) ≡ true
    by true h = refl
    by false h = h

first_digit : (ds : List ℕ) → AllDigits 10 ds → 0 < length ds → has_digit ds ≡ true
first_digit [] all lt = absurd (omega arith)
first_digit (d ∷ ds) all lt = ap (λ b. b || has_digit ds) (in_digits d all.0)

stands : {X : Type 0} → (f : X → Bool) (x : X) (xs : List X) → StandsIn x xs → every f xs ≡ true → f x ≡ true
stands f x _ (at_front xs) e = (and_parts (f x) (every f xs) e).0
stands f x _ (further y xs more) e = stands f x xs more (and_parts (f y) (every f xs) e).1

-- no reserved word has a digit
words_plain : every (λ (x : List ℕ × Word). not (has_digit x.0)) words ≡ true
words_plain = refl

unused_plain : every (λ (x : List ℕ). not (has_digit x)) unused ≡ true
unused_plain = refl

not_reserved : (bytes : List ℕ) → has_digit bytes ≡ true → (k : Word) → Reserved bytes k → ⊥
not_reserved bytes e _ (used _ k is) = true≢false (sym (stands (λ (x : List ℕ × Word). not (has_digit x.0)) (bytes, k) words is words_plain) ∙ ap not e)
not_reserved bytes e _ (without_use _ is) = true≢false (sym (stands (λ (x : List ℕ). not (has_digit x)) bytes unused is unused_plain) ∙ ap not e)

abbrev is_a_name : Lexeme → Bool
is_a_name (name x) = true
is_a_name _ = false

tile_spelled : (f : Text) (x : Lexeme) → Spells f x → is_a_name x ≡ true → (t : ℕ) → t < 2 ^ 64 → length (tile_name f t) ≤ 64 → Spells (tile_name f t) (name (tile_name f t))
tile_spelled _ _ (as_name b rest first more le free) e t small short =
    let d = (decimal_is_IsNumeral t small).0 in
    let tail = codes "_t" ++ decimal t in
    let bytes : every is_name_byte tail ≡ true = every_append is_name_byte (codes "_t") (decimal t) refl (digits_in_name (decimal t) d.1) in
    as_name b (rest ++ tail) first (every_append is_name_byte rest tail more bytes) short
    (not_reserved (b ∷ (rest ++ tail)) (any_right (b ∷ rest) tail (any_right (codes "_t") (decimal t) (first_digit (decimal t) d.1 d.0))))
tile_spelled _ _ (as_word bytes k is) e t small short = absurd (true≢false (sym e))
tile_spelled _ _ (as_literal bytes n kind is) e t small short = absurd (true≢false (sym e))
tile_spelled _ _ (as_mark bytes k is) e t small short = absurd (true≢false (sym e))

pub tile_said : (f : Text) (t : ℕ) → Spells f (name f) → t < 2 ^ 64 → length (tile_name f t) ≤ 64 → Spells (tile_name f t) (name (tile_name f t))
tile_said f t is small short = tile_spelled f (name f) is refl t small short

-- ---- statements

module _ (f : Text) (tiles : ℕ) (said : (t : ℕ) → t < tiles → Spells (tile_name f t) (name (tile_name f t))) where
  calls_said : (at : Place) (n t : ℕ) → t + n ≡ tiles → AreSayable (statements_lexemes (calls_from at f t n))
  calls_said at zero t ends = tt
  calls_said at (suc n) t ends = (said t (omega arith), calls_said at n (t + 1) (omega arith))

  call_said : (at : Place) (target : Option Text) (callee : Text) (es : List Expression) (b : Bool) →
      AreSayable (statement_lexemes (call at target callee es)) →
      AreSayable (statement_lexemes (cond b (block at (calls_from at f 0 tiles)) (call at target callee es)))
  call_said at target callee es true p = both (statements_lexemes (calls_from at f 0 tiles)) (mark m.CloseBrace ∷ []) (calls_said at tiles 0 (omega arith)) tt
  call_said at target callee es false p = p

  mutual
    with_said : (s : Statement) → AreSayable (statement_lexemes s) → AreSayable (statement_lexemes (with_tiles f tiles s))
    with_said (block at body) p = with_first (statements_lexemes body) (mark m.CloseBrace ∷ []) (statements_lexemes (all_with_tiles f tiles body)) (all_said body) p
    with_said (if_then at condition taken) p = with_last (if_lexemes condition) (statement_lexemes taken) (statement_lexemes (with_tiles f tiles taken)) (with_said taken) p
    with_said (if_else at condition taken other) p =
        let if_ = if_lexemes condition in
        let else_ = word w.Else ∷ [] in
        let head = with_first (if_ ++ statement_lexemes taken ++ else_) (statement_lexemes other) (if_ ++ statement_lexemes (with_tiles f tiles taken) ++ else_)
        (with_first (if_ ++ statement_lexemes taken) else_ (if_ ++ statement_lexemes (with_tiles f tiles taken))
        (with_last if_ (statement_lexemes taken) (statement_lexemes (with_tiles f tiles taken)) (with_said taken))) p in
        with_last (if_ ++ statement_lexemes (with_tiles f tiles taken) ++ else_) (statement_lexemes other) (statement_lexemes (with_tiles f tiles other)) (with_said other) head
    with_said (bounded_while at turns condition body) p =
        with_last (while_lexemes turns ++ expression_lexemes 1 condition ++ mark m.CloseParenthesis ∷ []) (statement_lexemes body)
        (statement_lexemes (with_tiles f tiles body)) (with_said body) p
    with_said (counting_for at names low closed high step body) p =
        with_last (for_lexemes names.first ++ expression_lexemes 1 low ++ bound_lexemes names.second closed ++ expression_lexemes 8 high
        ++ step_lexemes names.third names.fourth step) (statement_lexemes body) (statement_lexemes (with_tiles f tiles body)) (with_said body) p
    with_said (assign at x index value) p = p
    with_said (output at value) p = p
    with_said (input at x) p = p
    with_said (call at target callee es) p = call_said at target callee es (bytes_eq callee f) p

    all_said : (ss : Statements) → AreSayable (statements_lexemes ss) → AreSayable (statements_lexemes (all_with_tiles f tiles ss))
    all_said no_statements p = p
    all_said (next_statement s ss) p =
        both (statement_lexemes (with_tiles f tiles s)) (statements_lexemes (all_with_tiles f tiles ss))
        (with_said s (say_front (statement_lexemes s) (statements_lexemes ss) p)) (all_said ss (say_back (statement_lexemes s) (statements_lexemes ss) p))

-- ---- shapes

closed_kept : (f : Text) (n : ℕ) (s : Statement) → leaves_open (unplaced_statement s) ≡ false → leaves_open (unplaced_statement (with_tiles f n s)) ≡ false
closed_kept f n (block at body) e = refl
closed_kept f n (if_then at condition taken) e = e
closed_kept f n (if_else at condition taken other) e = closed_kept f n other e
closed_kept f n (bounded_while at turns condition body) e = closed_kept f n body e
closed_kept f n (counting_for at names low closed high step body) e = closed_kept f n body e
closed_kept f n (assign at x index value) e = refl
closed_kept f n (output at value) e = refl
closed_kept f n (input at x) e = refl
closed_kept f n (call at target callee es) e = by (bytes_eq callee f)
  where
    by : (b : Bool) → leaves_open (unplaced_statement (cond b (block at (calls_from at f 0 n)) (call at target callee es))) ≡ false
    by true = refl
    by false = refl

calls_shaped : (f : Text) (at : Place) (n t : ℕ) → AreShaped (unplaced_statements (calls_from at f t n))
calls_shaped f at zero t = tt
calls_shaped f at (suc n) t = (tt, calls_shaped f at n (t + 1))

call_shaped : (f : Text) (n : ℕ) (at : Place) (target : Option Text) (callee : Text) (es : List Expression) (b : Bool) →
    IsShaped (unplaced_statement (cond b (block at (calls_from at f 0 n)) (call at target callee es)))
call_shaped f n at target callee es true = calls_shaped f at n 0
call_shaped f n at target callee es false = tt

mutual
  shape_kept : (f : Text) (n : ℕ) (s : Statement) → IsShaped (unplaced_statement s) → IsShaped (unplaced_statement (with_tiles f n s))
  shape_kept f n (block at body) p = shapes_kept f n body p
  shape_kept f n (if_then at condition taken) p = shape_kept f n taken p
  shape_kept f n (if_else at condition taken other) p = (shape_kept f n taken p.0, closed_kept f n taken p.1, shape_kept f n other p.2)
  shape_kept f n (bounded_while at turns condition body) p = shape_kept f n body p
  shape_kept f n (counting_for at names low closed high step body) p = shape_kept f n body p
  shape_kept f n (assign at x index value) p = tt
  shape_kept f n (output at value) p = tt
  shape_kept f n (input at x) p = tt
  shape_kept f n (call at target callee es) p = call_shaped f n at target callee es (bytes_eq callee f)

  shapes_kept : (f : Text) (n : ℕ) (ss : Statements) → AreShaped (unplaced_statements ss) → AreShaped (unplaced_statements (all_with_tiles f n ss))
  shapes_kept f n no_statements p = tt
  shapes_kept f n (next_statement s ss) p = (shape_kept f n s p.0, shapes_kept f n ss p.1)

-- ---- functions

-- a function in parts
abbrev before_body : FunctionText → List Lexeme
before_body f =
    mark_lexemes f.mark ++ declaration_lexemes f.ty f.name ++ (mark m.OpenParenthesis ∷ []) ++ parameters_lexemes f.params
    ++ (mark m.CloseParenthesis ∷ mark m.OpenBrace ∷ []) ++ locals_lexemes f.locals

function_said : (c : Cut) → ((t : ℕ) → t < c.tiles → Spells (tile_name c.function.name t) (name (tile_name c.function.name t))) → (f : FunctionText) →
    AreSayable (function_lexemes f) → AreSayable (function_lexemes (function_with_tiles c f))
function_said c said f p =
    with_first (before_body f ++ statements_lexemes f.body ++ result_lexemes f.result) (mark m.CloseBrace ∷ [])
    (before_body f ++ statements_lexemes (all_with_tiles c.function.name c.tiles f.body) ++ result_lexemes f.result)
    (with_first (before_body f ++ statements_lexemes f.body) (result_lexemes f.result) (before_body f ++ statements_lexemes (all_with_tiles c.function.name c.tiles f.body))
    (with_last (before_body f) (statements_lexemes f.body) (statements_lexemes (all_with_tiles c.function.name c.tiles f.body)) (all_said c.function.name c.tiles said f.body))) p

-- ---- tiles

number_small : (n : ℕ) → IsSayable (number_lexeme n) → n ≤ 4294967295
number_small n p = by (nat_lt 2147483647 n) p
  where
    by : (b : Bool) → IsSayable (number n (cond b Unsigned Int)) → n ≤ 4294967295
    by true q = q
    by false q = omega (arith, q)

low_small : (r' r : RegionText) → IsWithin r' r → r.low ≤ 4294967295 → r.high ≤ 4294967295 → r'.low ≤ 4294967295
low_small r' r w low high = ⊎_elim (λ (same : r'.low ≡ r.low). omega arith) (λ (le : r'.low ≤ r.high). omega arith) w.least

high_small : (r' r : RegionText) → IsWithin r' r → r.high ≤ 4294967295 → r'.high ≤ 4294967295
high_small r' r w high = let most = w.most in omega arith

module _ (c : Cut) (t : ℕ) where
  region_is : (r : RegionText) → IsWithin (tile_region c t r) r
  region_is r = narrowed_within (pos (low_of c t)) (last_of c t) r (added_in c.loop.names.first r.name c.loop.body)

  regions_said : (rs : List RegionText) → AreSayable (regions_lexemes rs) → AreSayable (regions_lexemes (map (tile_region c t) rs))
  regions_said [] p = tt
  regions_said (r ∷ rs) p =
      let r' = tile_region c t r in
      let low = number_small r.low p.1.0 in
      let high = number_small r.high p.1.1.0 in (
        subst (λ x. Spells x (name x)) (sym (region_is r).name) p.0,
        (number_said r'.low (low_small r' r (region_is r) low high), (number_said r'.high (high_small r' r (region_is r) high), regions_said rs p.1.1.1)),
      )

  mark_said : c.stated ≤ 2147483647 → (k : Option MarkText) → AreSayable (mark_lexemes k) → AreSayable (mark_lexemes (option_map (tile_mark c t) k))
  mark_said small None p = p
  mark_said small (Some k) p = (number_said c.stated (omega arith), regions_said k.regions p.1)

  literal_said : (least : ℕ) (at : Place) (value : ℕ) (kind : Kind) → value ≤ 2147483647 → AreSayable (expression_lexemes least (literal at value kind))
  literal_said least at value Int small = (small, tt)
  literal_said least at value Unsigned small = (omega (arith, small), tt)

  loop_said : low_of c t ≤ 2147483647 → high_of c t ≤ 2147483647 → AreSayable (statement_lexemes (statement_of c.loop)) → AreSayable (statement_lexemes (tile_loop c t))
  loop_said low high p =
      let l = c.loop in
      let head = for_lexemes l.names.first in
      let lo = expression_lexemes 1 (low_end l) in
      let bound = bound_lexemes l.names.second l.closed in
      let hi = expression_lexemes 8 (high_end l) in
      let step = step_lexemes l.names.third l.names.fourth l.step in
      let body = statement_lexemes l.body in
      let five = say_front (head ++ lo ++ bound ++ hi ++ step) body p in
      let four = say_front (head ++ lo ++ bound ++ hi) step five in
      let three = say_front (head ++ lo ++ bound) hi four in
      let two = say_front (head ++ lo) bound three in
      let lo' = expression_lexemes 1 (literal l.low.at (low_of c t) l.low.kind) in
      let hi' = expression_lexemes 8 (literal l.high.at (high_of c t) l.high.kind) in
      let bound' = bound_lexemes l.names.second (closed_of c t) in
      both (head ++ lo' ++ bound' ++ hi' ++ step) body
      (both (head ++ lo' ++ bound' ++ hi') step
      (both (head ++ lo' ++ bound') hi'
      (both (head ++ lo') bound' (both head lo' (say_front head lo two) (literal_said 1 l.low.at (low_of c t) l.low.kind low))
      (bound_said l.names.second l.closed (closed_of c t) (say_back (head ++ lo) bound three)))
      (literal_said 8 l.high.at (high_of c t) l.high.kind high)) (say_back (head ++ lo ++ bound ++ hi) step five)) (say_back (head ++ lo ++ bound ++ hi ++ step) body p)
    where
      bound_said : (x : Text) (b b' : Bool) → AreSayable (bound_lexemes x b) → AreSayable (bound_lexemes x b')
      bound_said x b b' q = (q.0, tt)

  -- a tile, where the function is in a text
  tile_function_said : IsShape c.function c.loop → c.stated ≤ 2147483647 → low_of c t ≤ 2147483647 → high_of c t ≤ 2147483647 →
      Spells (tile_name c.function.name t) (name (tile_name c.function.name t)) → AreSayable (function_lexemes c.function) →
      AreSayable (function_lexemes (tile_of c t))
  tile_function_said shape small low high said p =
      let f = c.function in
      let types = type_lexemes f.ty in
      let params = (mark m.OpenParenthesis ∷ []) in
      let names = parameters_lexemes f.params in
      let opening = mark m.CloseParenthesis ∷ mark m.OpenBrace ∷ [] in
      let locals = locals_lexemes f.locals in
      let body = statements_lexemes f.body in
      let result = result_lexemes f.result in
      let marks = mark_lexemes f.mark in
      let declaration = declaration_lexemes f.ty f.name in
      let whole = say_front (before_body f ++ body ++ result) (mark m.CloseBrace ∷ []) p in
      let front = say_front (before_body f ++ body) result whole in
      let head = say_front (before_body f) body front in
      let to_opening = say_front (marks ++ declaration ++ params ++ names ++ opening) locals head in
      let to_names = say_front (marks ++ declaration ++ params ++ names) opening to_opening in
      let to_params = say_front (marks ++ declaration ++ params) names to_names in
      let to_declaration = say_front (marks ++ declaration) params to_params in
      let marks' = mark_lexemes (option_map (tile_mark c t) f.mark) in
      let declaration' = declaration_lexemes f.ty (tile_name f.name t) in
      let body' = statements_lexemes (next_statement (tile_loop c t) no_statements) in
      let own = subst (λ ss. AreSayable (statements_lexemes ss)) shape.body (say_back (before_body f) body front) in
      let new_head = both (marks' ++ declaration' ++ params ++ names ++ opening) locals
      (both (marks' ++ declaration' ++ params ++ names) opening (both (marks' ++ declaration' ++ params) names (both (marks' ++ declaration') params
      (both marks' declaration' (mark_said small f.mark (say_front marks declaration to_declaration))
      (both types (name (tile_name f.name t) ∷ []) (say_front types (name f.name ∷ []) (say_back marks declaration to_declaration)) (said, tt))) tt)
      (say_back (marks ++ declaration ++ params) names to_names)) tt) (say_back (marks ++ declaration ++ params ++ names ++ opening) locals head) in
      both (before_body (tile_of c t) ++ body' ++ result) (mark m.CloseBrace ∷ [])
      (both (before_body (tile_of c t) ++ body') result (both (before_body (tile_of c t)) body' new_head
      (both (statement_lexemes (tile_loop c t)) [] (loop_said low high (say_front (statement_lexemes (statement_of c.loop)) [] own)) tt)) (say_back (before_body f ++ body) result whole)) tt

-- ---- programs

module _ (c : Cut) (shape : IsShape c.function c.loop) (small : c.stated ≤ 2147483647) (lows : (t : ℕ) → t < c.tiles → low_of c t ≤ 2147483647)
    (highs : (t : ℕ) → t < c.tiles → high_of c t ≤ 2147483647)
    (said : (t : ℕ) → t < c.tiles → Spells (tile_name c.function.name t) (name (tile_name c.function.name t)))
    (own : AreSayable (function_lexemes c.function)) (own_shape : IsShapedItem (unplaced_item (function_item c.function))) where
  tiles_said : (n t : ℕ) → t + n ≡ c.tiles → (rest : ProgramText) → AreSayable (program_lexemes rest) → AreSayable (program_lexemes (tiles_from c t n ++ rest))
  tiles_said zero t ends rest p = p
  tiles_said (suc n) t ends rest p =
      let lt : t < c.tiles = omega arith in
      both (function_lexemes (tile_of c t)) (program_lexemes (tiles_from c (t + 1) n ++ rest))
      (tile_function_said c t shape small (lows t lt) (highs t lt) (said t lt) own) (tiles_said n (t + 1) (omega arith) rest p)

  item_said : (i : ItemText) (rest : ProgramText) → AreSayable (item_lexemes i) → AreSayable (program_lexemes rest) → AreSayable (program_lexemes (item_with_tiles c i ++ rest))
  item_said (global_item g) rest p q = both (item_lexemes (global_item g)) (program_lexemes rest) p q
  item_said (function_item f) rest p q = by (bytes_eq f.name c.function.name)
    where
      by : (b : Bool) → AreSayable (program_lexemes (cond b (tiles_from c 0 c.tiles) (function_item (function_with_tiles c f) ∷ []) ++ rest))
      by true = tiles_said c.tiles 0 (omega arith) rest q
      by false = both (function_lexemes (function_with_tiles c f)) (program_lexemes rest) (function_said c said f p) q

  pub items_said : (xs : ProgramText) → AreSayable (program_lexemes xs) → AreSayable (program_lexemes (tiled c xs))
  items_said [] p = p
  items_said (i ∷ xs) p = item_said i (tiled c xs) (say_front (item_lexemes i) (program_lexemes xs) p) (items_said xs (say_back (item_lexemes i) (program_lexemes xs) p))

  tile_shaped : (t : ℕ) → IsShapedItem (unplaced_item (function_item (tile_of c t)))
  tile_shaped t = (own_shape.0, ((subst (λ ss. AreShaped (unplaced_statements ss)) shape.body own_shape.1).0, tt))

  tiles_shaped : (n t : ℕ) (rest : ProgramText) → AreShapedItems (unplaced rest) → AreShapedItems (unplaced (tiles_from c t n ++ rest))
  tiles_shaped zero t rest p = p
  tiles_shaped (suc n) t rest p = (tile_shaped t, tiles_shaped n (t + 1) rest p)

  item_shaped : (i : ItemText) (rest : ProgramText) → IsShapedItem (unplaced_item i) → AreShapedItems (unplaced rest) → AreShapedItems (unplaced (item_with_tiles c i ++ rest))
  item_shaped (global_item g) rest p q = (p, q)
  item_shaped (function_item f) rest p q = by (bytes_eq f.name c.function.name)
    where
      by : (b : Bool) → AreShapedItems (unplaced (cond b (tiles_from c 0 c.tiles) (function_item (function_with_tiles c f) ∷ []) ++ rest))
      by true = tiles_shaped c.tiles 0 rest q
      by false = ((p.0, shapes_kept c.function.name c.tiles f.body p.1), q)

  pub items_shaped : (xs : ProgramText) → AreShapedItems (unplaced xs) → AreShapedItems (unplaced (tiled c xs))
  items_shaped [] p = p
  items_shaped (i ∷ xs) p = item_shaped i (tiled c xs) p.0 (items_shaped xs p.1)

-- what stands in a program can be printed
pub function_inside : (front back : ProgramText) (f : FunctionText) → IsPrintable (front ++ function_item f ∷ back) → AreSayable (function_lexemes f) × IsShapedItem (unplaced_item (function_item f))
function_inside front back f is = (lexemes front is.sayable, shapes front is.shaped)
  where
    lexemes : (xs : ProgramText) → AreSayable (program_lexemes (xs ++ function_item f ∷ back)) → AreSayable (function_lexemes f)
    lexemes [] p = say_front (function_lexemes f) (program_lexemes back) p
    lexemes (x ∷ xs) p = lexemes xs (say_back (item_lexemes x) (program_lexemes (xs ++ function_item f ∷ back)) p)

    shapes : (xs : ProgramText) → AreShapedItems (unplaced (xs ++ function_item f ∷ back)) → IsShapedItem (unplaced_item (function_item f))
    shapes [] p = p.0
    shapes (x ∷ xs) p = shapes xs p.1

-- the name of a function in a text is spelled so
pub name_said : (f : FunctionText) → AreSayable (function_lexemes f) → Spells f.name (name f.name)
name_said f p =
    let marks = mark_lexemes f.mark in
    let declaration = declaration_lexemes f.ty f.name in
    let params = mark m.OpenParenthesis ∷ [] in
    let names = parameters_lexemes f.params in
    let opening = mark m.CloseParenthesis ∷ mark m.OpenBrace ∷ [] in
    let head = say_front (before_body f) (statements_lexemes f.body)
    (say_front (before_body f ++ statements_lexemes f.body) (result_lexemes f.result)
    (say_front (before_body f ++ statements_lexemes f.body ++ result_lexemes f.result) (mark m.CloseBrace ∷ []) p)) in
    let to_names = say_front (marks ++ declaration ++ params ++ names) opening (say_front (marks ++ declaration ++ params ++ names ++ opening) (locals_lexemes f.locals) head) in
    let to_declaration = say_front (marks ++ declaration) params (say_front (marks ++ declaration ++ params) names to_names) in
    (say_back (type_lexemes f.ty) (name f.name ∷ []) (say_back marks declaration to_declaration)).0
