-- Each text of a program has one with its annotations, by edits at annotations alone.
use Rattle.std.proofs.Common.{ℤ, ◌≡◌, ℕ, suc, ◌+◌, true, List, [], ◌∷◌, ◌++◌, length, map, refl, sym, ap, subst, ◌∙◌, arith, Option, None, Some, Result, Ok, Err}
use Rattle.prem_annotating.proofs.Prelude.{annotated_mark, marked_routines, texts_of, all_ranged, all_annotated, range_bytes, range_order, range_orders, mark_orders, function_orders, Wanted}
use Rattle.prem_annotating.proofs.Prelude.{annotations, all_orders, edited_text, text_with, Order, leave, put, mode_of, edited, stated_or, inferred, ranged_parameter, ranged_parameters}
use Rattle.prem_annotating.proofs.Prelude.{ranged_routines, Each, range_phrase, AnnotatedFunction, AnnotatedItems, no_items, a_global, a_function, IsSaidRange, IsSaidMark, CanBeSaid}
use Rattle.prem_annotating.proofs.Prelude.{AnnotatedTextsAreThere, TextsAreAnnotated, Piece, a_token, text_of, lexemes_in, AreDivided, AreGaps, range_pieces, EndsInToken, Edited, with_range}
use Rattle.prem_annotating.proofs.Prelude.{regions_reached, KnownCall, calls_of_all, Copying, TokenPlace, Elsewhere, BehindName, InParameters, resolved, promoted, resolve_items}
use Rattle.prem_annotating.proofs.Prelude.{functions_of, loops_within, Routine, unlimited, Text, Parameter, MarkText, GlobalVariable, FunctionText, global_item, function_item, ProgramText}
use Rattle.prem_annotating.proofs.Prelude.{complete, text_read, range_lexemes, lexemes_of, unplaced_parameter, unplaced_mark, IsRow, void_type, type_of, Declaration, IsDeclaration}
use Rattle.prem_annotating.proofs.Prelude.{declaration_tokens, MarkPhrase, IsMark, mark_tokens, mark_tree, RangePhrase, IsRange, range_tokens, range_tree, ParameterPhrase, IsParameter}
use Rattle.prem_annotating.proofs.Prelude.{parameter_tokens, parameter_tree, PartedParameter, ParametersPhrase, of_void, of_parameters, begins_void, ArePartedParameters, AreParameters}
use Rattle.prem_annotating.proofs.Prelude.{parted_parameter_tokens, parted_parameter_trees, parameters_tokens, parameters_tree, local_tokens, result_tokens, FunctionPhrase, IsFunction}
use Rattle.prem_annotating.proofs.Prelude.{function_tokens, function_tree, ItemPhrase, of_global, of_function, AreItems, items_tokens, items_tree, global_tokens, a_name, right_brace}
use Rattle.prem_annotating.proofs.Prelude.{the_end, is_end, all_written, Lexeme, name, end_of_text, Seen, tokens_of, reads, IsProgramText, FrontFail, append_cancel_right, option_map}
use Rattle.prem_annotating.proofs.Calls.{each_left, each_right}
use Rattle.prem_annotating.proofs.EditingLemmas.Goes.{Goes, Stays, from, goes_both, stays_go, quiet_stays}
use Rattle.prem_annotating.proofs.EditingLemmas.Places.{edited_is}
use Rattle.prem_annotating.proofs.EditingLemmas.Quiet.{row_quiet, statements_quiet}
use Rattle.prem_annotating.proofs.EditingLemmas.Rows.{rows_join, Types, types_of_row, types_in_parameters, name_of, declaration_stays, global_stays, locals_stay, result_quiet, begins_stay}
use Rattle.prem_annotating.proofs.EditingLemmas.Rows.{opening_stays, comma_stays, range_stays}
use Rattle.prem_annotating.proofs.EditingLemmas.Said.{range_said}
use Rattle.prem_annotating.proofs.EditingLemmas.Single.{leave_goes, name_goes}
use Rattle.prem_annotating.proofs.Edits.{edited_divide, range_right, range_is, range_lexed, lexemes_join}
use Rattle.prem_annotating.proofs.Inserted.{lexemes_append, range_says}
use Rattle.prem_annotating.proofs.Phrases.{read_as_annotated, lexemes_end}
use Rattle.prem_annotating.proofs.Pieces.{pieces_of}
use Rattle.prem_annotating.proofs.There.{gaps_go, piece_cut, first_token, gap_lexemes, AreSpelled, divided_spelled, spelled_left, spelled_right, edited_itself, edited_append, kept_front}
use Rattle.prem_annotating.proofs.There.{EditedTo, new_mark_of}
use Rattle.prem_annotating.specs.Pieces.{IsConstant}
use Rattle.std.proofs.lemmas.List.{append_assoc, append-nil}

-- pieces that stay
itself : (s s' : TokenPlace) (os : List Order) (ps : List Piece) (ls : List Lexeme) → lexemes_in ps ≡ ls → mode_of s ≡ Copying → Stays s ls s' → EditedTo s os ps ls s' os
itself s s' os ps ls e mode stays = record { new = ps; edited = edited_itself ps; lexemes = e; goes = stays_go s s' os ps mode (subst (λ l. Stays s l s') (sym e) stays) }

-- edits of two parts
both_edited : (s s1 s2 : TokenPlace) (o o1 o2 : List Order) (a b ps : List Piece) (xs ys : List Seen) → a ++ b ≡ ps → EditedTo s o a (lexemes_of xs) s1 o1 →
    EditedTo s1 o1 b (lexemes_of ys) s2 o2 → EditedTo s o ps (lexemes_of (xs ++ ys)) s2 o2
both_edited s s1 s2 o o1 o2 a b ps xs ys parts one two = record {
  new = one.new ++ two.new;
  edited = subst (λ l. Edited l (one.new ++ two.new)) parts (edited_append one.edited two.edited);
  lexemes = lexemes_append one.new two.new ∙ (λ i. one.lexemes i ++ two.lexemes i) ∙ sym (lexemes_join xs ys);
  goes = subst (λ l. Goes s o l (one.new ++ two.new) s2 o2) parts (goes_both s s1 s2 o o1 o2 a b one.new two.new one.goes two.goes);
}

-- ---- parameters

abbrev with_new : Option RangePhrase → Option (ℤ × ℤ) → Option RangePhrase
with_new None x = option_map range_phrase x
with_new (Some r) x = Some r

new_right : (o : Option RangePhrase) (x : Option (ℤ × ℤ)) → IsRange o → IsRange (with_new o x)
new_right None None h = tt
new_right None (Some r) h = range_right r
new_right (Some r) x h = h

new_tree : (o : Option RangePhrase) (x : Option (ℤ × ℤ)) → range_tree (with_new o x) ≡ stated_or (range_tree o) x
new_tree None None = refl
new_tree None (Some r) = range_is r
new_tree (Some r) x = refl

-- the pieces of a type and a name, and those with others behind the name
record Named (type_row : List Seen) (t : Seen) (ps : List Piece) : Type 0 where
  front : List Piece
  gaps : List Piece
  bytes : List ℕ
  text : Text
  rest : List Piece
  parts : front ++ (gaps ++ (a_token bytes (name text) ∷ rest)) ≡ ps
  one : lexemes_in front ≡ lexemes_of type_row
  are : AreGaps gaps
  is : t.0 ≡ name text
  none : lexemes_in rest ≡ []

named : (type_row : List Seen) (t : Seen) (ps : List Piece) → IsRow (a_name ∷ []) (t ∷ []) → lexemes_in ps ≡ lexemes_of (type_row ++ t ∷ []) → Named type_row t ps
named type_row t ps h e =
    let c = piece_cut type_row (t ∷ []) ps e in
    let f = first_token t.0 [] c.back c.two in
    let n = name_of t.0 h.0 in
    record {
      front = c.front;
      gaps = f.gaps;
      bytes = f.bytes;
      text = n.text;
      rest = f.rest;
      parts = ap (λ x. c.front ++ (f.gaps ++ (a_token f.bytes x ∷ f.rest))) (sym n.is) ∙ ap (λ l. c.front ++ l) f.parts ∙ c.parts;
      one = c.one;
      are = f.are;
      is = n.is;
      none = f.two;
    }

-- the walk over them, where the name has an order
named_goes : (type_row : List Seen) (t : Seen) (ps added : List Piece) (o : Order) (os : List Order) → Types type_row → (n : Named type_row t ps) →
    Goes InParameters (o ∷ os) (a_token n.bytes (name n.text) ∷ []) (a_token n.bytes (name n.text) ∷ added) InParameters os →
    Goes InParameters (o ∷ os) ps (n.front ++ (n.gaps ++ (a_token n.bytes (name n.text) ∷ (added ++ n.rest)))) InParameters os
named_goes type_row t ps added o os types n goes =
    let front = stays_go InParameters InParameters (o ∷ os) n.front refl (subst (λ l. Stays InParameters l InParameters) (sym n.one) (types_in_parameters type_row types)) in
    let gaps = gaps_go InParameters (o ∷ os) n.gaps refl n.are in
    let rest = stays_go InParameters InParameters os n.rest refl (subst (λ l. Stays InParameters l InParameters) (sym n.none) refl) in
    let token : Piece = a_token n.bytes (name n.text) in
    let g2 = goes_both InParameters InParameters InParameters (o ∷ os) os os (token ∷ []) n.rest (token ∷ added) n.rest goes rest in
    let g1 = goes_both InParameters InParameters InParameters (o ∷ os) (o ∷ os) os n.gaps (token ∷ n.rest) n.gaps (token ∷ (added ++ n.rest)) gaps g2 in
    let g0 = goes_both InParameters InParameters InParameters (o ∷ os) (o ∷ os) os n.front (n.gaps ++ (token ∷ n.rest)) n.front (n.gaps ++ (token ∷ (added ++ n.rest))) front g1 in
    subst (λ l. Goes InParameters (o ∷ os) l (n.front ++ (n.gaps ++ (token ∷ (added ++ n.rest)))) InParameters os) n.parts g0

-- a RANGE behind a name
range_behind : (type_row : List Seen) (t : Seen) (r : ℤ × ℤ) (os : List Order) (ps : List Piece) → Types type_row → IsRow (a_name ∷ []) (t ∷ []) →
    IsConstant r.0 → IsConstant r.1 → lexemes_in ps ≡ lexemes_of (type_row ++ t ∷ []) →
    EditedTo InParameters (put (range_bytes r) ∷ os) ps (lexemes_of (type_row ++ t ∷ [] ++ range_tokens (Some (range_phrase r)))) InParameters os
range_behind type_row t r os ps types h low high e =
    let n = named type_row t ps h e in
    let token : Piece = a_token n.bytes (name n.text) in
    let inner = with_range n.bytes (name n.text) r low high (edited_itself n.rest) in
    let new = n.gaps ++ (token ∷ (range_pieces r ++ n.rest)) in
    let back : Edited (n.gaps ++ (token ∷ n.rest)) new = kept_front n.gaps inner in
    let new_lexemes : lexemes_in new ≡ t.0 ∷ range_lexemes (Some r) =
    gap_lexemes n.gaps (token ∷ (range_pieces r ++ n.rest)) n.are
    ∙ (λ i. sym n.is i ∷ lexemes_in (range_pieces r ++ n.rest))
    ∙ ap (λ l. t.0 ∷ l) (lexemes_append (range_pieces r) n.rest ∙ (λ i. range_says r i ++ n.none i) ∙ append-nil (range_lexemes (Some r))) in
    record {
      new = n.front ++ new;
      edited = subst (λ l. Edited l (n.front ++ new)) n.parts (kept_front n.front back);
      lexemes =
          lexemes_append n.front new ∙ (λ i. n.one i ++ new_lexemes i)
          ∙ sym (lexemes_join (type_row ++ t ∷ []) (range_tokens (Some (range_phrase r))) ∙ (λ i. lexemes_join type_row (t ∷ []) i ++ range_lexed r i)
          ∙ append_assoc (lexemes_of type_row) (t.0 ∷ []) (range_lexemes (Some r)));
      goes = named_goes type_row t ps (range_pieces r) (put (range_bytes r)) os types n (name_goes os n.bytes n.text (range_pieces r));
    }

-- a type and a name that stay, with an order to leave them
name_left : (type_row : List Seen) (t : Seen) (os : List Order) (ps : List Piece) → Types type_row → IsRow (a_name ∷ []) (t ∷ []) →
    lexemes_in ps ≡ lexemes_of (type_row ++ t ∷ []) → EditedTo InParameters (leave ∷ os) ps (lexemes_of (type_row ++ t ∷ [])) InParameters os
name_left type_row t os ps types h e =
    let n = named type_row t ps h e in
    let goes = named_goes type_row t ps [] leave os types n (leave_goes InParameters InParameters os n.bytes (name n.text) refl (λ b. refl)) in
    record { new = ps; edited = edited_itself ps; lexemes = e; goes = subst (λ l. Goes InParameters (leave ∷ os) ps l InParameters os) n.parts goes }

-- a declaration of which a range may have been inferred
declared_by : (type_row name_row : List Seen) (x : Option (ℤ × ℤ)) (os : List Order) (ps : List Piece) → Types type_row →
    IsRow (a_name ∷ []) name_row → IsSaidRange x → lexemes_in ps ≡ lexemes_of (type_row ++ name_row) →
    EditedTo InParameters (range_order None x ∷ os) ps (lexemes_of (type_row ++ name_row ++ range_tokens (with_new None x))) InParameters os
declared_by type_row [] x os ps types h said e = absurd h
declared_by type_row (t ∷ u ∷ more) x os ps types h said e = absurd h.1
declared_by type_row (t ∷ []) None os ps types h said e =
    subst (λ l. EditedTo InParameters (leave ∷ os) ps (lexemes_of l) InParameters os) (sym (append-nil (type_row ++ t ∷ [])))
    (name_left type_row t os ps types h e)
declared_by type_row (t ∷ []) (Some r) os ps types h said e =
    subst (λ l. EditedTo InParameters (put l ∷ os) ps (lexemes_of (type_row ++ t ∷ [] ++ range_tokens (Some (range_phrase r)))) InParameters os)
    (sym (range_said r)) (range_behind type_row t r os ps types h said.0 said.1 e)

-- one with a RANGE that stands
declared_with : (type_row name_row : List Seen) (q : RangePhrase) (os : List Order) (ps : List Piece) → Types type_row →
    IsRow (a_name ∷ []) name_row → IsRange (Some q) → lexemes_in ps ≡ lexemes_of (type_row ++ name_row ++ range_tokens (Some q)) →
    EditedTo InParameters (leave ∷ os) ps (lexemes_of (type_row ++ name_row ++ range_tokens (Some q))) InParameters os
declared_with type_row [] q os ps types h right e = absurd h
declared_with type_row (t ∷ u ∷ more) q os ps types h right e = absurd h.1
declared_with type_row (t ∷ []) q os ps types h right e =
    let c = piece_cut (type_row ++ t ∷ []) (range_tokens (Some q)) ps e in
    both_edited InParameters InParameters InParameters (leave ∷ os) os os c.front c.back ps (type_row ++ t ∷ []) (range_tokens (Some q)) c.parts (name_left type_row t os c.front types h c.one)
    (itself InParameters InParameters os c.back (lexemes_of (range_tokens (Some q))) c.two refl (range_stays q right))

-- a parameter of which a range may have been inferred
parameter_by : (d : Declaration) (o : Option RangePhrase) (x : Option (ℤ × ℤ)) (os : List Order) (ps : List Piece) → IsDeclaration d → IsRange o →
    IsSaidRange (stated_or (range_tree o) x) → lexemes_in ps ≡ lexemes_of (declaration_tokens d ++ range_tokens o) →
    EditedTo InParameters (range_order (range_tree o) (stated_or (range_tree o) x) ∷ os) ps (lexemes_of (declaration_tokens d ++ range_tokens (with_new o x))) InParameters os
parameter_by d None x os ps h right said e = declared_by d.type_row d.name_row x os ps (types_of_row d.form d.type_row h.0) h.1 said (e ∙ ap lexemes_of (append-nil (declaration_tokens d)))
parameter_by d (Some q) x os ps h right said e = declared_with d.type_row d.name_row q os ps (types_of_row d.form d.type_row h.0) h.1 right e

abbrev ranged_phrase : List KnownCall → ℕ → ℕ → ParameterPhrase → ParameterPhrase
ranged_phrase calls f k p = record { declaration = p.declaration; range = with_new p.range (inferred calls f k (promoted (type_of p.declaration.form))) }

ranged_tree : (calls : List KnownCall) (f k : ℕ) (p : ParameterPhrase) → parameter_tree (ranged_phrase calls f k p) ≡ ranged_parameter calls f k (parameter_tree p)
ranged_tree calls f k p =
    let range = new_tree p.range (inferred calls f k (promoted (type_of p.declaration.form))) in
    λ i. record { at = (parameter_tree p).at; ty = (parameter_tree p).ty; name = (parameter_tree p).name; range = range i }

ranged_is : (calls : List KnownCall) (f k : ℕ) (p : ParameterPhrase) → IsParameter p → IsParameter (ranged_phrase calls f k p)
ranged_is calls f k p h = (h.0, new_right p.range (inferred calls f k (promoted (type_of p.declaration.form))) h.1)

parameter_edited : (calls : List KnownCall) (f k : ℕ) (p : ParameterPhrase) (os : List Order) (ps : List Piece) → IsParameter p →
    IsSaidRange (ranged_parameter calls f k (parameter_tree p)).range → lexemes_in ps ≡ lexemes_of (parameter_tokens p) →
    EditedTo InParameters (range_order (parameter_tree p).range (ranged_parameter calls f k (parameter_tree p)).range ∷ os) ps
    (lexemes_of (parameter_tokens (ranged_phrase calls f k p))) InParameters os
parameter_edited calls f k p os ps h said e = parameter_by p.declaration p.range (inferred calls f k (promoted (type_of p.declaration.form))) os ps h.0 h.1 said e

-- the orders of parameters whose ranges are inferred
ranged_orders : List KnownCall → ℕ → ℕ → List Parameter → List Order → List Order
ranged_orders calls f k ps os = range_orders ps (map (λ (q : Parameter). q.range) (ranged_parameters calls f k ps)) ++ os

record PartedEdited (calls : List KnownCall) (f k : ℕ) (before : List PartedParameter) (os : List Order) (ps : List Piece) : Type 0 where
  phrases : List PartedParameter
  right : ArePartedParameters phrases
  trees : parted_parameter_trees phrases ≡ ranged_parameters calls f k (parted_parameter_trees before)
  void_is : (a b : ParameterPhrase) → a.declaration ≡ b.declaration → begins_void phrases a ≡ begins_void before b
  to : EditedTo InParameters (ranged_orders calls f k (parted_parameter_trees before) os) ps (lexemes_of (parted_parameter_tokens phrases)) InParameters os

parted_edited : (calls : List KnownCall) (f k : ℕ) (before : List PartedParameter) (os : List Order) (ps : List Piece) → ArePartedParameters before →
    Each (λ (q : Parameter). IsSaidRange q.range) (ranged_parameters calls f k (parted_parameter_trees before)) →
    lexemes_in ps ≡ lexemes_of (parted_parameter_tokens before) → PartedEdited calls f k before os ps
unfolding ranged_orders
parted_edited calls f k [] os ps h said e =
    record {
      phrases = [];
      right = tt;
      trees = refl;
      void_is = λ a b same. ap (λ d. begins_void [] (record { declaration = d; range = None })) same;
      to = itself InParameters InParameters os ps [] e refl refl;
    }
parted_edited calls f k (p ∷ before) os ps h said e =
    let c = piece_cut (parameter_tokens p.0 ++ p.1) (parted_parameter_tokens before) ps e in
    let d = piece_cut (parameter_tokens p.0) p.1 c.front c.one in
    let left = ranged_orders calls f (k + 1) (parted_parameter_trees before) os in
    let o : Order = range_order (parameter_tree p.0).range (ranged_parameter calls f k (parameter_tree p.0)).range in
    let one = parameter_edited calls f k p.0 left d.front h.0 said.0 d.one in
    let rest = parted_edited calls f (k + 1) before os c.back h.2 said.1 c.two in
    let new = ranged_phrase calls f k p.0 in
    record {
      phrases = (new, p.1) ∷ rest.phrases;
      right = (ranged_is calls f k p.0 h.0, h.1, rest.right);
      trees = λ i. ranged_tree calls f k p.0 i ∷ rest.trees i;
      void_is = λ a b same. void_same calls f k p.0;
      to = both_edited InParameters InParameters InParameters (o ∷ left) left os c.front c.back ps (parameter_tokens new ++ p.1)
          (parted_parameter_tokens rest.phrases) c.parts
          (both_edited InParameters InParameters InParameters (o ∷ left) left left d.front d.back c.front (parameter_tokens new) p.1 d.parts one
          (itself InParameters InParameters left d.back (lexemes_of p.1) d.two refl (comma_stays p.1 h.1))) rest.to;
    }
  where
    void_same : (calls : List KnownCall) (f k : ℕ) (q : ParameterPhrase) → begins_void [] (ranged_phrase calls f k q) ≡ begins_void [] q
    void_same calls f k q = refl

ranged_end : (calls : List KnownCall) (f k : ℕ) (xs : List Parameter) (y : Parameter) →
    ranged_parameters calls f k (xs ++ y ∷ []) ≡ ranged_parameters calls f k xs ++ ranged_parameter calls f (k + length xs) y ∷ []
ranged_end calls f k [] y = let e : k + 0 ≡ k = omega arith in rw e
ranged_end calls f k (x ∷ xs) y = let e : k + suc (length xs) ≡ k + 1 + length xs = omega arith in rw e (ap (λ l. ranged_parameter calls f k x ∷ l) (ranged_end calls f (k + 1) xs y))

record ParametersEdited (calls : List KnownCall) (f : ℕ) (p : ParametersPhrase) (os : List Order) (ps : List Piece) : Type 0 where
  phrase : ParametersPhrase
  right : AreParameters phrase
  trees : parameters_tree phrase ≡ ranged_parameters calls f 0 (parameters_tree p)
  to : EditedTo InParameters (ranged_orders calls f 0 (parameters_tree p) os) ps (lexemes_of (parameters_tokens phrase)) InParameters os

-- the orders of parameters up to the last one
orders_end : (calls : List KnownCall) (f k : ℕ) (xs : List Parameter) (y : Parameter) (os : List Order) →
    ranged_orders calls f k (xs ++ y ∷ []) os ≡ ranged_orders calls f k xs (range_order y.range (ranged_parameter calls f (k + length xs) y).range ∷ os)
unfolding ranged_orders
orders_end calls f k [] y os = let e : k + 0 ≡ k = omega arith in rw e refl
orders_end calls f k (x ∷ xs) y os = let e : k + suc (length xs) ≡ k + 1 + length xs = omega arith in
    rw e (ap (λ l. range_order x.range (ranged_parameter calls f k x).range ∷ l) (orders_end calls f (k + 1) xs y os))

parameters_edited : (calls : List KnownCall) (f : ℕ) (p : ParametersPhrase) (os : List Order) (ps : List Piece) → AreParameters p →
    Each (λ (q : Parameter). IsSaidRange q.range) (ranged_parameters calls f 0 (parameters_tree p)) → lexemes_in ps ≡ lexemes_of (parameters_tokens p) →
    ParametersEdited calls f p os ps
unfolding ranged_orders
parameters_edited calls f (of_void row) os ps h said e =
    record {
      phrase = of_void row;
      right = h;
      trees = refl;
      to =
          itself InParameters InParameters os ps (lexemes_of row) e refl (types_in_parameters row (types_of_row void_type row h));
    }
parameters_edited calls f (of_parameters before last) os ps h said e =
    let trees = parted_parameter_trees before in
    let k = 0 + length trees in
    let c = piece_cut (parted_parameter_tokens before) (parameter_tokens last) ps e in
    let split = ranged_end calls f 0 trees (parameter_tree last) in
    let said' = subst (Each (λ (q : Parameter). IsSaidRange q.range)) split said in
    let o : Order = range_order (parameter_tree last).range (ranged_parameter calls f k (parameter_tree last)).range in
    let front = parted_edited calls f 0 before (o ∷ os) c.front h.0
    (each_left (λ (q : Parameter). IsSaidRange q.range) (ranged_parameters calls f 0 trees)
    (ranged_parameter calls f k (parameter_tree last) ∷ []) said') c.one in
    let one = parameter_edited calls f k last os c.back h.1
    (each_right (λ (q : Parameter). IsSaidRange q.range) (ranged_parameters calls f 0 trees)
    (ranged_parameter calls f k (parameter_tree last) ∷ []) said').0 c.two in
    let new = ranged_phrase calls f k last in
    record {
      phrase = of_parameters front.phrases new;
      right = (front.right, ranged_is calls f k last h.1, front.void_is new last (declaration_same calls f k last) ∙ h.2);
      trees = (λ i. front.trees i ++ ranged_tree calls f k last i ∷ []) ∙ sym split;
      to = subst (λ l. EditedTo InParameters l ps (lexemes_of (parted_parameter_tokens front.phrases ++ parameter_tokens new)) InParameters os)
          (sym (orders_end calls f 0 trees (parameter_tree last) os))
          (both_edited InParameters InParameters InParameters (ranged_orders calls f 0 trees (o ∷ os)) (o ∷ os) os c.front c.back ps
          (parted_parameter_tokens front.phrases) (parameter_tokens new) c.parts front.to one);
    }
  where
    declaration_same : (calls : List KnownCall) (f k : ℕ) (q : ParameterPhrase) → (ranged_phrase calls f k q).declaration ≡ q.declaration
    declaration_same calls f k q = refl

-- ---- marks

record MarkEdited (o : Option MarkPhrase) (a : Option MarkText) (os : List Order) (ps : List Piece) : Type 0 where
  phrase : Option MarkPhrase
  right : IsMark phrase
  tree_is : option_map unplaced_mark (mark_tree phrase) ≡ option_map unplaced_mark a
  to : EditedTo Elsewhere (mark_orders (mark_tree o) a ++ os) ps (lexemes_of (mark_tokens phrase)) Elsewhere os

mark_edited : (o : Option MarkPhrase) (h : MarkText → MarkText) (os : List Order) (ps : List Piece) → IsMark o →
    IsSaidMark (option_map h (mark_tree o)) → EndsInToken ps → AreSpelled ps → lexemes_in ps ≡ lexemes_of (mark_tokens o) →
    MarkEdited o (option_map h (mark_tree o)) os ps
mark_edited None h os ps right said ends spelled e = record { phrase = None; right = tt; tree_is = refl; to = itself Elsewhere Elsewhere os ps [] e refl refl }
mark_edited (Some k) h os ps right said ends spelled e =
    let new = new_mark_of k _ os ps right said.0 said.1 ends spelled e in
    record { phrase = Some new.phrase; right = new.right; tree_is = new.tree_is; to = new.to }

-- ---- functions

rest_tokens : FunctionPhrase → List Seen
rest_tokens f = f.begins ++ local_tokens f.locals ++ all_written f.body ++ result_tokens f.result ++ f.tail

regroup : (m d o p b l s r t : List Seen) → m ++ d ++ o ++ p ++ b ++ l ++ s ++ r ++ t ≡ m ++ ((d ++ o) ++ (p ++ (b ++ l ++ s ++ r ++ t)))
regroup m d o p b l s r t = simp (append_assoc)

tokens_are : (f : FunctionPhrase) → function_tokens f ≡ mark_tokens f.mark ++ ((declaration_tokens f.declaration ++ f.opening) ++ (parameters_tokens f.params ++ rest_tokens f))
unfolding rest_tokens
tokens_are f = regroup (mark_tokens f.mark) (declaration_tokens f.declaration) f.opening (parameters_tokens f.params) f.begins (local_tokens f.locals)
    (all_written f.body) (result_tokens f.result) f.tail

record FunctionEdited (f : FunctionPhrase) (t : FunctionText) (os : List Order) (ps : List Piece) : Type 0 where
  phrase : FunctionPhrase
  is : AnnotatedFunction f phrase t
  to : EditedTo Elsewhere (function_orders (function_tree f) t.mark (map (λ (q : Parameter). q.range) t.params) ++ os) ps (lexemes_of (function_tokens phrase)) Elsewhere os

with_annotations : List KnownCall → ℕ → (MarkText → MarkText) → FunctionText → FunctionText
with_annotations calls n h f = record f { mark = option_map h f.mark; params = ranged_parameters calls n 0 f.params }

-- what stands behind the parameters stays
rest_stays : (f : FunctionPhrase) → IsFunction f → Stays InParameters (lexemes_of (rest_tokens f)) Elsewhere
unfolding rest_tokens
rest_stays f h =
    let to_locals = rows_join InParameters Elsewhere Elsewhere f.begins (local_tokens f.locals) (begins_stay f.begins h.4) (locals_stay f.locals h.5) in
    let to_body = rows_join InParameters Elsewhere Elsewhere (f.begins ++ local_tokens f.locals) (all_written f.body) to_locals (quiet_stays (all_written f.body) (statements_quiet f.body h.6)) in
    let to_result = rows_join InParameters Elsewhere Elsewhere (f.begins ++ local_tokens f.locals ++ all_written f.body) (result_tokens f.result)
    to_body (quiet_stays (result_tokens f.result) (result_quiet f.result h.7)) in
    rows_join InParameters Elsewhere Elsewhere (f.begins ++ local_tokens f.locals ++ all_written f.body ++ result_tokens f.result) f.tail to_result
    (quiet_stays f.tail (row_quiet (right_brace ∷ []) f.tail refl h.8))

function_edited : (f : FunctionPhrase) (calls : List KnownCall) (n : ℕ) (h : MarkText → MarkText) (os : List Order) (ps : List Piece) → IsFunction f →
    Each (λ (q : Parameter). IsSaidRange q.range) (with_annotations calls n h (function_tree f)).params →
    IsSaidMark (with_annotations calls n h (function_tree f)).mark → AreSpelled ps → lexemes_in ps ≡ lexemes_of (function_tokens f) →
    FunctionEdited f (with_annotations calls n h (function_tree f)) os ps
unfolding rest_tokens with_annotations ranged_orders
function_edited f calls n h os ps right ranges marks spelled e =
    let m = mark_tokens f.mark in
    let d = declaration_tokens f.declaration ++ f.opening in
    let p = parameters_tokens f.params in
    let one = piece_cut m (d ++ (p ++ rest_tokens f)) ps (e ∙ ap lexemes_of (tokens_are f)) in
    let two = piece_cut d (p ++ rest_tokens f) one.back one.two in
    let three = piece_cut p (rest_tokens f) two.back two.two in
    let left = ranged_orders calls n 0 (parameters_tree f.params) os in
    let marked = mark_orders (mark_tree f.mark) (option_map h (mark_tree f.mark)) in
    let k = mark_edited f.mark h left one.front right.0 marks one.ends (spelled_left one.front one.back (subst AreSpelled (sym one.parts) spelled)) one.one in
    let q = parameters_edited calls n f.params os three.front right.3 ranges three.one in
    let g : FunctionPhrase = record {
      mark = k.phrase;
      declaration = f.declaration;
      opening = f.opening;
      params = q.phrase;
      begins = f.begins;
      locals = f.locals;
      body = f.body;
      result = f.result;
      tail = f.tail;
    } in
    let last = both_edited InParameters InParameters Elsewhere left os os three.front three.back two.back (parameters_tokens q.phrase) (rest_tokens f)
    three.parts q.to (itself InParameters Elsewhere os three.back (lexemes_of (rest_tokens f)) three.two refl (rest_stays f right)) in
    let declared = rows_join Elsewhere BehindName InParameters (declaration_tokens f.declaration) f.opening (declaration_stays f.declaration right.1) (opening_stays f.opening right.2) in
    let middle = both_edited Elsewhere InParameters Elsewhere left left os two.front two.back one.back d (parameters_tokens q.phrase ++ rest_tokens f)
    two.parts (itself Elsewhere InParameters left two.front (lexemes_of d) two.one refl declared) last in
    let whole = both_edited Elsewhere Elsewhere Elsewhere (marked ++ left) left os one.front one.back ps (mark_tokens k.phrase)
    (d ++ (parameters_tokens q.phrase ++ rest_tokens f)) one.parts k.to middle in
    let orders = sym (append_assoc marked (range_orders (parameters_tree f.params) (map (λ (p : Parameter). p.range) (ranged_parameters calls n 0 (parameters_tree f.params)))) os) in
    record {
      phrase = g;
      is = record {
        text = record { ty_is = refl; name_is = refl; locals_are = refl; body_is = refl; result_is = refl };
        mark_right = k.right;
        mark_is = k.tree_is;
        params_right = q.right;
        params_are = ap (map unplaced_parameter) q.trees;
        declaration_is = refl;
        opening_is = refl;
        begins_is = refl;
        locals_are = refl;
        body_is = refl;
        result_is = refl;
        tail_is = refl;
      };
      to = record {
        new = whole.new;
        edited = whole.edited;
        lexemes = whole.lexemes ∙ ap lexemes_of (sym (tokens_are g));
        goes =
            subst (λ l. Goes Elsewhere l ps whole.new Elsewhere os) orders whole.goes;
      };
    }

-- ---- items

-- texts of functions with annotations
data WithAnnotations : List FunctionText → List FunctionText → Type 0 where
  none_with : WithAnnotations [] []
  next_with : (calls : List KnownCall) (n : ℕ) (h : MarkText → MarkText) (f : FunctionText) {fs ts : List FunctionText} → WithAnnotations fs ts →
      WithAnnotations (f ∷ fs) (with_annotations calls n h f ∷ ts)

record ItemsEdited (ps : List ItemPhrase) (ts : List FunctionText) (all : List Piece) : Type 0 where
  items : List ItemPhrase
  are : AnnotatedItems ps ts items
  to : EditedTo Elsewhere (all_orders (functions_of (items_tree ps)) (map annotations ts)) all (lexemes_of (items_tokens items)) Elsewhere []

items_edited : (ps : List ItemPhrase) (ts : List FunctionText) (all : List Piece) → WithAnnotations (functions_of (items_tree ps)) ts → CanBeSaid ts →
    AreItems ps → AreSpelled all → lexemes_in all ≡ lexemes_of (items_tokens ps) → ItemsEdited ps ts all
items_edited [] [] all none_with said right spelled e = record { items = []; are = no_items; to = itself Elsewhere Elsewhere [] all [] e refl refl }
items_edited [] (t ∷ ts) all with_ said right spelled e = elim with_ [ ]
items_edited (of_global g ∷ ps) ts all with_ said right spelled e =
    let c = piece_cut (global_tokens g) (items_tokens ps) all e in
    let rest = items_edited ps ts c.back with_ said right.1 (spelled_right c.front c.back (subst AreSpelled (sym c.parts) spelled)) c.two in
    record {
      items = of_global g ∷ rest.items;
      are = a_global g rest.are;
      to =
          both_edited Elsewhere Elsewhere Elsewhere (all_orders (functions_of (items_tree ps)) (map annotations ts))
          (all_orders (functions_of (items_tree ps)) (map annotations ts)) [] c.front c.back all (global_tokens g) (items_tokens rest.items) c.parts
          (itself Elsewhere Elsewhere (all_orders (functions_of (items_tree ps)) (map annotations ts)) c.front (lexemes_of (global_tokens g)) c.one refl
          (global_stays g right.0)) rest.to;
    }
items_edited (of_function f ∷ ps) [] all with_ said right spelled e = elim with_ [ ]
items_edited (of_function f ∷ ps) (_ ∷ ts) all (next_with calls n h _ more) said right spelled e =
    let c = piece_cut (function_tokens f) (items_tokens ps) all e in
    let spelled' = subst AreSpelled (sym c.parts) spelled in
    let left = all_orders (functions_of (items_tree ps)) (map annotations ts) in
    let wanted = with_annotations calls n h (function_tree f) in
    let one = function_edited f calls n h left c.front right.0 said.0 said.1 (spelled_left c.front c.back spelled') c.one in
    let rest = items_edited ps ts c.back more said.2 right.1 (spelled_right c.front c.back spelled') c.two in
    record {
      items = of_function one.phrase ∷ rest.items;
      are = a_function one.is rest.are;
      to =
          both_edited Elsewhere Elsewhere Elsewhere
          (function_orders (function_tree f) wanted.mark (map (λ (q : Parameter). q.range) wanted.params) ++ left) left [] c.front c.back all
          (function_tokens one.phrase) (items_tokens rest.items) c.parts one.to rest.to;
    }

-- ---- programs

pub texts_resolved : (fs : List FunctionText) (t : ℕ → ℕ) (n : ℕ) (gs : List GlobalVariable) (items : ProgramText) → texts_of (resolve_items fs t n gs items) ≡ functions_of items
texts_resolved fs t n gs [] = refl
texts_resolved fs t n gs (global_item g ∷ items) = texts_resolved fs t n (gs ++ g ∷ []) items
texts_resolved fs t n gs (function_item f ∷ items) = ap (λ l. f ∷ l) (texts_resolved fs t (n + loops_within f.body) gs items)

routines_with : (lengths : ℕ → ℕ) (gs : List GlobalVariable) (all : List Routine) (n k : ℕ) (fs : List Routine) →
    WithAnnotations (texts_of fs) (texts_of (marked_routines lengths gs all n (ranged_routines k fs)))
unfolding with_annotations
routines_with lengths gs all n k [] = none_with
routines_with lengths gs all n k (f ∷ fs) =
    next_with (calls_of_all (ranged_routines (k + 1) fs)) k (annotated_mark (regions_reached f.text.at gs all n) (lengths n)) f.text (routines_with lengths gs all (n + 1) (k + 1) fs)

program_with : (lengths : ℕ → ℕ) (p : ProgramText) → WithAnnotations (functions_of p) (texts_of (all_annotated lengths p))
program_with lengths p =
    subst (λ l. WithAnnotations l (texts_of (all_annotated lengths p))) (texts_resolved (functions_of p) unlimited.turns 0 [] p)
    (routines_with lengths (resolved p).globals (all_ranged p) 0 0 (resolved p).routines)

end_is : (x : Lexeme) → is_end x ≡ true → x ≡ end_of_text
end_is end_of_text h = refl
end_is _ h = absurd cc

end_lexemes : (row : List Seen) → IsRow (the_end ∷ []) row → lexemes_of row ≡ end_of_text ∷ []
end_lexemes [] h = absurd h
end_lexemes (t ∷ []) h = ap (λ x. x ∷ []) (end_is t.0 h.0)
end_lexemes (t ∷ u ∷ more) h = absurd h.1

-- the walk over all pieces of a text gives its edited bytes
written_is : (text : List ℕ) (p : ProgramText) (is : IsProgramText text p) (ws : List Wanted) (new : List Piece) →
    Goes Elsewhere (all_orders (functions_of p) ws) (pieces_of [] text is.tokens.tokens is.tokens.divides).all new Elsewhere [] →
    text_of new ≡ text_with ws text
written_is text p is ws new goes =
    let os = all_orders (functions_of p) ws in
    let pieces = pieces_of [] text is.tokens.tokens is.tokens.divides in
    let whole = goes [] (subst AreDivided (sym (append-nil pieces.all)) pieces.divided) in
    let walk : from Elsewhere os pieces.all ≡ text_of new = ap (λ (l : List Piece). from Elsewhere os l) (sym (append-nil pieces.all)) ∙ whole ∙ append-nil (text_of new) in
    let bytes : edited os is.all text ≡ text_of new = ap (λ (l : List Seen). edited os l text) is.tokens.is_all ∙ edited_is os text is.tokens.tokens is.tokens.divides ∙ walk in
    let tokens : tokens_of text ≡ Ok is.all = complete text is.all is.tokens in
    let program : reads text ≡ Ok p = text_read text p is in
    let inner : edited_text os text ≡ edited os is.all text = ap (λ (r : Result (List Seen) FrontFail). elim r [ Ok ts ↦ edited os ts text | Err fail ↦ text ]) tokens in
    let outer : text_with ws text ≡ edited_text os text = ap (λ (r : Result ProgramText FrontFail). elim r [ Ok q ↦ edited_text (all_orders (functions_of q) ws) text | Err fail ↦ text ]) program in
    sym (outer ∙ inner ∙ bytes)

pub texts_are_there : AnnotatedTextsAreThere
texts_are_there lengths text p is said =
    let ts = texts_of (all_annotated lengths p) in
    let phrase = is.phrase in
    let pieces = pieces_of [] text is.tokens.tokens is.tokens.divides in
    let end = end_lexemes phrase.end is.right.1 in
    let whole : lexemes_of (items_tokens phrase.items) ++ end_of_text ∷ [] ≡ lexemes_in pieces.all ++ end_of_text ∷ [] =
    ap (λ l. lexemes_of (items_tokens phrase.items) ++ l) (sym end) ∙ sym (lexemes_join (items_tokens phrase.items) phrase.end)
    ∙ ap lexemes_of (is.spelled ∙ is.tokens.is_all) ∙ lexemes_end is.tokens.tokens _ ∙ ap (λ l. l ++ end_of_text ∷ []) (sym pieces.lexemes) in
    let same : lexemes_in pieces.all ≡ lexemes_of (items_tokens phrase.items) = append_cancel_right (lexemes_in pieces.all) (lexemes_of (items_tokens phrase.items)) (end_of_text ∷ []) (sym whole) in
    let with_ : WithAnnotations (functions_of (items_tree phrase.items)) ts = subst (λ l. WithAnnotations (functions_of l) ts) (sym is.tree) (program_with lengths p) in
    let new = items_edited phrase.items ts pieces.all with_ said is.right.0 (divided_spelled pieces.all pieces.divided) same in
    record {
      old = pieces.all;
      old_is = pieces.text_is;
      old_divided = pieces.divided;
      new = new.to.new;
      edited = new.to.edited;
      items = new.items;
      annotated_items = new.are;
      written = written_is text p is (map annotations ts) new.to.new
          (subst (λ l. Goes Elsewhere (all_orders (functions_of l) (map annotations ts)) pieces.all new.to.new Elsewhere []) is.tree new.to.goes);
      lexemes = ap (λ l. l ++ end_of_text ∷ []) new.to.lexemes ∙ ap (λ l. lexemes_of (items_tokens new.items) ++ l) (sym end) ∙ sym (lexemes_join (items_tokens new.items) phrase.end);
    }

pub texts_are_annotated : TextsAreAnnotated
texts_are_annotated lengths text p is a size count =
    read_as_annotated lengths text p is a.new (edited_divide a.old a.new a.edited a.old_divided)
    (record { items = a.items; annotated_items = a.annotated_items; lexemes = a.lexemes; size = size; count = count })
