-- Functions are read as the grammar says.
use Rattle.std.proofs.Common.{◌≡◌, ◌+◌, ◌-◌, ℕ, ℤ, List, [], ◌∷◌, ◌++◌, Option, None, Some, Bool, true, false, refl, ap, sym, subst, ◌∙◌, append_assoc, arith}
use Rattle.prem_text.proofs.Prelude.{Expression, no_statements, Parameter, LocalVariable, FunctionText, function_item, Place, bottom, State, wants, has, Move, goes, ends, stops, move}
use Rattle.prem_text.proofs.Prelude.{no_type, an_item, a_parameter, a_local, range_low, range_high, Value, local_value, result_value, body_row, range_row, local_row, end_row, Stage, in_row}
use Rattle.prem_text.proofs.Prelude.{in_type, behind_item, before_constant, behind_constant, before_parameter, on_parameter, behind_parameter, before_local, in_statements, in_value}
use Rattle.prem_text.proofs.Prelude.{ItemStep, ahead, made, refused, type_begins, with_parameter, with_range, parameter_ends, with_body, with_result, body_ends, statement_step, begins_type}
use Rattle.prem_text.proofs.Prelude.{value_ends, step, body_begins, ends_body, Phrase, spelled, tree, level, IsExpression, IsRow, name_at, quiet, counted, TypeForm, void_type, int_type}
use Rattle.prem_text.proofs.Prelude.{short_type, signed_char_type, unsigned_type, unsigned_int_type, unsigned_short_type, unsigned_char_type, type_of, Declaration, IsDeclaration}
use Rattle.prem_text.proofs.Prelude.{declaration_tokens, constant_tree, MarkPhrase, mark_tokens, mark_tree, RangePhrase, IsRange, range_tokens, range_tree, ParameterPhrase, IsParameter}
use Rattle.prem_text.proofs.Prelude.{parameter_tokens, parameter_tree, PartedParameter, ParametersPhrase, of_void, of_parameters, is_void_form, begins_void, ArePartedParameters}
use Rattle.prem_text.proofs.Prelude.{AreParameters, parted_parameter_tokens, parted_parameter_trees, parameters_tokens, parameters_tree, LocalPhrase, AreLocals, local_tokens, local_trees}
use Rattle.prem_text.proofs.Prelude.{local_past, ResultPhrase, IsResult, result_tokens, result_tree, result_past, FunctionPhrase, IsFunction, of_function, item_tokens, item_past, Slot}
use Rattle.prem_text.proofs.Prelude.{left_parenthesis, right_parenthesis, left_brace, right_brace, semicolon, comma, equal_sign, the_return, the_void, the_range, fits, place_at}
use Rattle.prem_text.proofs.Prelude.{is_right_brace, is_semicolon, is_void, is_range, in_body, Point, Turn, on, turn, listed, StatementPhrases, AreStatements, all_written, all_meant}
use Rattle.prem_text.proofs.Prelude.{all_past, Lexeme, name, number, word, mark, end_of_text, Seen, append-nil}
use Rattle.prem_text.proofs.GrammarLemmas.Complete.{reads_phrase}
use Rattle.prem_text.proofs.GrammarLemmas.Exact.{body_frame, body_left, no_else}
use Rattle.prem_text.proofs.GrammarLemmas.ItemTaken.{Runs, rest, forth, runs_append, quietly, row_runs, row_from, one_runs, first_word, declaration_runs, constant_runs}
use Rattle.prem_text.proofs.GrammarLemmas.ItemWhole.{before_item, mark_runs, item_type, type_at, no_comma_at, ItemRead}
use Rattle.prem_text.proofs.GrammarLemmas.Nested.{reads_statements}
use Rattle.prem_text.proofs.GrammarLemmas.Steps.{Goes, done, more, Same}
use Rattle.prem_text.proofs.GrammarLemmas.Taken.{Turns, stay, go, room_flag}
use Rattle.std.specs.Prelude.{if◌then◌else◌}
use Rattle.prem_text.specs.declared.lexing.token.token.Mark.TheVariants as m
use Rattle.prem_text.specs.declared.lexing.token.token.Word.TheVariants as w

abbrev pub opened_function : Option MarkPhrase → Declaration → List Parameter → List LocalVariable → FunctionText
opened_function p d params locals =
    record {
      at = place_at 0 d.name_row;
      mark = mark_tree p;
      ty = type_of d.form;
      name = name_at 0 d.name_row;
      params = params;
      locals = locals;
      body = no_statements;
      result = None;
    }

-- ---- parameters

abbrev pub parameter_of : Declaration → Option RangePhrase → Parameter
parameter_of d r = record { at = place_at 0 d.name_row; ty = type_of d.form; name = name_at 0 d.name_row; range = range_tree r }

pub record ParameterRead (f : FunctionText) (d : Declaration) (r : Option RangePhrase) (s : Stage) : Type 0 where
  stage : Stage
  runs : Runs s (declaration_tokens d ++ range_tokens r) (quiet (declaration_tokens d ++ range_tokens r)) stage
  same : (t : Seen) → is_range t.0 ≡ false → step stage t ≡ parameter_ends (with_parameter f (parameter_of d r)) t

range_begins : (f : FunctionText) (p : Parameter) (t : Seen) → fits the_range t.0 ≡ true → step (on_parameter f p) t ≡ ahead (in_row (range_row f p) (t ∷ []) left_parenthesis [])
range_begins f p t h = rw h refl

bare_ends : (f : FunctionText) (p : Parameter) (t : Seen) → is_range t.0 ≡ false → step (on_parameter f p) t ≡ parameter_ends (with_parameter f p) t
bare_ends f p t h = rw h refl

range_middle : (f : FunctionText) (p : Parameter) (value : ℤ) (t : Seen) → fits comma t.0 ≡ true → step (behind_constant (range_low f p) value) t ≡ ahead (before_constant (range_high f p value) false)
range_middle f p value t h = rw h refl

range_closes : (f : FunctionText) (p : Parameter) (low value : ℤ) (t : Seen) → fits right_parenthesis t.0 ≡ true →
    step (behind_constant (range_high f p low) value) t ≡ ahead (behind_parameter (with_parameter f (with_range p low value)))
range_closes f p low value t h = rw h refl

parameter_read : (f : FunctionText) (d : Declaration) (r : Option RangePhrase) (s : Stage) → IsDeclaration d → IsRange r →
    ((t : Seen) → fits (first_word d.form) t.0 ≡ true → step s t ≡ type_begins (a_parameter f) t) → ParameterRead f d r s
parameter_read f d None s is ranged begins = record {
  stage = on_parameter f (parameter_of d None);
  runs = quietly _ _ (declaration_tokens d) [] (runs_append (declaration_runs d (a_parameter f) s is begins) (rest _));
  same = λ t h. bare_ends f (parameter_of d None) t h;
}
parameter_read f d (Some r) s is ranged begins =
    let p = parameter_of d None in
    let head = row_from (on_parameter f (parameter_of d None)) (range_row f (parameter_of d None)) the_range left_parenthesis [] r.head
    (before_constant (range_low f (parameter_of d None)) false) (λ t h. range_begins f (parameter_of d None) t h) ranged.0 refl refl in
    let low = constant_runs (range_low f (parameter_of d None)) (before_constant (range_low f (parameter_of d None)) false) r.low.negative r.low.row ranged.1 (λ t h. refl) in
    let middle = one_runs (behind_constant (range_low f (parameter_of d None)) (constant_tree r.low)) comma r.middle
    (before_constant (range_high f (parameter_of d None) (constant_tree r.low)) false)
    (λ t h. range_middle f (parameter_of d None) (constant_tree r.low) t h) ranged.2 refl in
    let high = constant_runs (range_high f (parameter_of d None) (constant_tree r.low))
    (before_constant (range_high f (parameter_of d None) (constant_tree r.low)) false) r.high.negative r.high.row ranged.3 (λ t h. refl) in
    let close = one_runs (behind_constant (range_high f (parameter_of d None) (constant_tree r.low)) (constant_tree r.high)) right_parenthesis r.close
    (behind_parameter (with_parameter f (parameter_of d (Some r))))
    (λ t h. range_closes f (parameter_of d None) (constant_tree r.low) (constant_tree r.high) t h) ranged.4 refl in
    let first = quietly _ _ r.head r.low.row (runs_append head low) in
    let second = quietly _ _ (r.head ++ r.low.row) r.middle (runs_append first middle) in
    let third = quietly _ _ (r.head ++ r.low.row ++ r.middle) r.high.row (runs_append second high) in
    let fourth = quietly _ _ (r.head ++ r.low.row ++ r.middle ++ r.high.row) r.close (runs_append third close) in
    record {
      stage = behind_parameter (with_parameter f (parameter_of d (Some r)));
      runs = quietly _ _ (declaration_tokens d) (r.head ++ r.low.row ++ r.middle ++ r.high.row ++ r.close) (runs_append (declaration_runs d (a_parameter f) s is begins) fourth);
      same = λ t h. refl;
    }

-- the form of the first of some parameters
abbrev pub First : (TypeForm → Type 0) → List PartedParameter → ParameterPhrase → Type 0
First allowed [] last = allowed last.declaration.form
First allowed (p ∷ before) last = allowed p.0.declaration.form

pub record ParametersRead (p : Option MarkPhrase) (d : Declaration) (acc : List Parameter) (s : Stage) (before : List PartedParameter) (last : ParameterPhrase) : Type 0 where
  stage : Stage
  runs : Runs s (parted_parameter_tokens before ++ parameter_tokens last) (quiet (parted_parameter_tokens before ++ parameter_tokens last)) stage
  same : (t : Seen) → is_range t.0 ≡ false → step stage t ≡ parameter_ends (opened_function p d (acc ++ (parted_parameter_trees before ++ parameter_tree last ∷ [])) []) t

no_range : (slot : Slot) (x : Lexeme) → fits slot (word w.Range) ≡ false → fits slot x ≡ true → is_range x ≡ false
no_range slot (word w.Range) is h = let e : false ≡ true = sym is ∙ h in absurd cc
no_range slot (word _) is h = refl
no_range slot _ is h = refl

comma_next : (f : FunctionText) (t : Seen) → fits comma t.0 ≡ true → parameter_ends f t ≡ ahead (in_type (a_parameter f) no_type)
comma_next f t h = rw h refl

parameters_read : (p : Option MarkPhrase) (d : Declaration) (acc : List Parameter) (s : Stage) (allowed : TypeForm → Type 0)
    (before : List PartedParameter) (last : ParameterPhrase) → ArePartedParameters before → IsParameter last →
    First allowed before last → ((form : TypeForm) (t : Seen) → allowed form → fits (first_word form) t.0 ≡ true →
    step s t ≡ type_begins (a_parameter (opened_function p d acc [])) t) → ParametersRead p d acc s before last
parameters_read p d acc s allowed [] last all is ok begins =
    let r = parameter_read (opened_function p d acc []) last.declaration last.range s is.0 is.1 (λ t h. begins last.declaration.form t ok h) in
    record { stage = r.stage; runs = r.runs; same = r.same }
parameters_read p d acc s allowed (q ∷ before) last all is ok begins =
    let r = parameter_read (opened_function p d acc []) q.0.declaration q.0.range s all.0.0 all.0.1 (λ t h. begins q.0.declaration.form t ok h) in
    let parts = one_runs r.stage comma q.1 (in_type (a_parameter (opened_function p d (acc ++ parameter_tree q.0 ∷ []) [])) no_type)
    (λ t h. r.same t (no_range comma t.0 refl h) ∙ comma_next (opened_function p d (acc ++ parameter_tree q.0 ∷ []) []) t h) all.1 refl in
    let later = parameters_read p d (acc ++ parameter_tree q.0 ∷ [])
    (in_type (a_parameter (opened_function p d (acc ++ parameter_tree q.0 ∷ []) [])) no_type) (λ form. Unit {0}) before last all.2 is
    (anyway before last) (λ form t ok h. refl) in
    let same_tokens : (parameter_tokens q.0 ++ q.1) ++ (parted_parameter_tokens before ++ parameter_tokens last) ≡ parameter_tokens q.0 ++ q.1
    ++ parted_parameter_tokens before ++ parameter_tokens last = simp append_assoc in
    record {
      stage = later.stage;
      runs = subst (λ (l : List Seen). Runs s l (quiet l) later.stage) same_tokens
          (quietly _ _ (parameter_tokens q.0 ++ q.1) (parted_parameter_tokens before ++ parameter_tokens last)
          (runs_append (quietly _ _ (parameter_tokens q.0) q.1 (runs_append r.runs parts)) later.runs));
      same = λ t h. later.same t h ∙ ap (λ (l : List Parameter). parameter_ends (opened_function p d l []) t)
          (append_assoc acc (parameter_tree q.0 ∷ []) (parted_parameter_trees before ++ parameter_tree last ∷ []));
    }
  where
    anyway : (before : List PartedParameter) (last : ParameterPhrase) → First (λ form. Unit {0}) before last
    anyway [] last = tt
    anyway (q ∷ before) last = tt

void_at : (form : TypeForm) (x : Lexeme) → is_void_form form ≡ false → fits (first_word form) x ≡ true → is_void x ≡ false
void_at void_type x v h = absurd cc
void_at int_type (word w.Int) v h = refl
void_at short_type (word w.Short) v h = refl
void_at signed_char_type (word w.Signed) v h = refl
void_at unsigned_type (word w.Unsigned) v h = refl
void_at unsigned_int_type (word w.Unsigned) v h = refl
void_at unsigned_short_type (word w.Unsigned) v h = refl
void_at unsigned_char_type (word w.Unsigned) v h = refl
void_at _ (word _) v h = absurd cc
void_at _ _ v h = absurd cc

first_free : (before : List PartedParameter) (last : ParameterPhrase) → begins_void before last ≡ false → First (λ form. is_void_form form ≡ false) before last
first_free [] last is = is
first_free (q ∷ before) last is = is

parameter_type : (f : FunctionText) (form : TypeForm) (t : Seen) → is_void_form form ≡ false → fits (first_word form) t.0 ≡ true → step (before_parameter f) t ≡ type_begins (a_parameter f) t
parameter_type f form t v h = rw (void_at form t.0 v h) refl

parameters_close : (f : FunctionText) (t : Seen) → fits right_parenthesis t.0 ≡ true → parameter_ends f t ≡ ahead (in_row (body_row f) (t ∷ []) left_brace [])
parameters_close f t h = rw (no_comma_at right_parenthesis t.0 refl h, h) refl

pub void_begins : (f : FunctionText) (t : Seen) → fits the_void t.0 ≡ true → step (before_parameter f) t ≡ ahead (in_row (body_row f) (t ∷ []) right_parenthesis (left_brace ∷ []))
void_begins f t h = rw h refl

-- from the first parameter to the brace of the body
head_closes : (p : Option MarkPhrase) (d : Declaration) (params : ParametersPhrase) (begins : List Seen) → AreParameters params → IsRow (right_parenthesis ∷ left_brace ∷ []) begins →
    Runs (before_parameter (opened_function p d [] [])) (parameters_tokens params ++ begins) (quiet (parameters_tokens params) ++ quiet begins)
    (before_local (opened_function p d (parameters_tree params) []))
head_closes p d (of_void []) begins is row = absurd is
head_closes p d (of_void (t ∷ u ∷ ts)) begins is row = absurd is.1
head_closes p d (of_void (t ∷ [])) begins is row =
    forth _ _ _ t _ false _ (void_begins (opened_function p d [] []) t is.0) refl (row_runs (body_row (opened_function p d [] [])) (t ∷ []) right_parenthesis (left_brace ∷ []) begins _ row refl refl)
head_closes p d (of_parameters before last) begins is row =
    let r = parameters_read p d [] (before_parameter (opened_function p d [] [])) (λ form. is_void_form form ≡ false) before last is.0 is.1
    (first_free before last is.2) (λ form t v h. parameter_type (opened_function p d [] []) form t v h) in
    runs_append r.runs (row_from r.stage (body_row (opened_function p d (parted_parameter_trees before ++ parameter_tree last ∷ []) [])) right_parenthesis left_brace [] begins _
    (λ t h. r.same t (no_range right_parenthesis t.0 refl h) ∙ parameters_close (opened_function p d (parted_parameter_trees before ++ parameter_tree last ∷ []) []) t h) row refl refl)

-- ---- values

pub record CountedValue (v : Value) (s end : State) (room n : ℕ) (ts : List Seen) : Type 0 where
  left : ℕ
  runs : Runs (in_value v s room) ts (counted n ts) (in_value v end left)

abbrev pub value_moves : Value → ℕ → Seen → Move → ItemStep
value_moves v room t (goes s') = ahead (in_value v s' (room - 1))
value_moves v room t (ends e) = if is_semicolon t.0 then value_ends v e t else refused
value_moves v room t stops = refused

pub value_step : (v : Value) (s : State) (room : ℕ) (t : Seen) (x : Move) → move 1 s t ≡ x → step (in_value v s room) t ≡ value_moves v room t x
value_step v s room t x is = by (move 1 s t) ∙ ap (value_moves v room t) is
  where
    by : (y : Move) → (elim y [
      | goes s' ↦ ahead (in_value v s' (room - 1))
      | ends e ↦ if is_semicolon t.0 then value_ends v e t else refused
      | stops ↦ refused
    ]) ≡ value_moves v room t y
    by (goes s') = refl
    by (ends e) = refl
    by stops = refl

counted_value : (v : Value) (s end : State) (room n : ℕ) (ts : List Seen) → Goes 1 s ts end → room ≡ 258 - n → CountedValue v s end room n ts
counted_value v s _ room n _ (done _) is = record { left = room; runs = rest _ }
counted_value v s end room n _ (more _ mid _ t ts step' later) is =
    let next_room : room - 1 ≡ 258 - (n + 1) = omega (arith, is) in
    let r = counted_value v mid end (room - 1) (n + 1) ts later next_room in
    record { left = r.left; runs = forth _ (in_value v mid (room - 1)) _ t ts _ _ (value_step v s room t (goes mid) step') (room_flag room n is) r.runs }

pub record ValueRead (v : Value) (p : Phrase) : Type 0 where
  stage : Stage
  runs : Runs (in_value v (wants bottom) 257) (spelled p) (counted 1 (spelled p)) stage
  ends : (t : Seen) → fits semicolon t.0 ≡ true → step stage t ≡ value_ends v (tree p) t

value_closes : (v : Value) (p : Phrase) (end : State) (room : ℕ) (x : Lexeme) (at : Place) → fits semicolon x ≡ true →
    Same 1 (level p) end (has (tree p) bottom) → step (in_value v end room) (x, at) ≡ value_ends v (tree p) (x, at)
value_closes v p end room (mark m.Semicolon) at h same = value_step v end room (mark m.Semicolon, at) _ (same (mark m.Semicolon) at (refl, tt))
value_closes v p end room (mark _) at h same = absurd cc
value_closes v p end room _ at h same = absurd cc

value_read : (v : Value) (p : Phrase) → IsExpression 1 p → ValueRead v p
value_read v p short =
    let r = reads_phrase 1 p bottom short.1 short.0 in
    let c = counted_value v (wants bottom) r.end 257 1 (spelled p) r.goes refl in
    record { stage = in_value v r.end c.left; runs = c.runs; ends = λ t h. value_closes v p r.end c.left t.0 t.1 h r.same }

-- ---- locals

local_type : (f : FunctionText) (form : TypeForm) (t : Seen) → fits (first_word form) t.0 ≡ true → step (before_local f) t ≡ type_begins (a_local f) t
local_type f form t h = rw (type_at form t.0 h).3 refl

locals_read : (p : Option MarkPhrase) (d : Declaration) (params : List Parameter) (acc : List LocalVariable) (locals : List LocalPhrase) → AreLocals locals →
    Runs (before_local (opened_function p d params acc)) (local_tokens locals) (local_past locals) (before_local (opened_function p d params (acc ++ local_trees locals)))
locals_read p d params acc [] all =
    subst (λ (l : List LocalVariable). Runs (before_local (opened_function p d params acc)) [] [] (before_local (opened_function p d params l)))
    (sym (append-nil acc)) (rest _)
locals_read p d params acc (l ∷ locals) all =
    let f = opened_function p d params acc in
    let v = local_value (opened_function p d params acc) (type_of l.declaration.form) (place_at 0 l.declaration.name_row) (name_at 0 l.declaration.name_row) in
    let found : LocalVariable = record { at = place_at 0 l.declaration.name_row; ty = type_of l.declaration.form; name = name_at 0 l.declaration.name_row; value = tree l.value } in
    let begun = declaration_runs l.declaration (a_local (opened_function p d params acc)) (before_local (opened_function p d params acc)) all.0
    (λ t h. local_type (opened_function p d params acc) l.declaration.form t h) in
    let sign = row_runs (local_row (opened_function p d params acc) (type_of l.declaration.form) (place_at 0 l.declaration.name_row)
    (name_at 0 l.declaration.name_row)) [] equal_sign [] l.sign _ all.1 refl refl in
    let r = value_read v l.value all.2 in
    let tail = one_runs r.stage semicolon l.tail (before_local (opened_function p d params (acc ++ found ∷ []))) r.ends all.3 refl in
    let later = subst (λ (x : List LocalVariable). Runs (before_local (opened_function p d params (acc ++ found ∷ []))) (local_tokens locals)
    (local_past locals) (before_local (opened_function p d params x)))
    (append_assoc acc (found ∷ []) (local_trees locals)) (locals_read p d params (acc ++ found ∷ []) locals all.4) in
    runs_append (runs_append (runs_append (runs_append begun sign) r.runs) tail) later

-- ---- statements

pub record BodyLifted (f : FunctionText) (end : Point) (ts : List Seen) (bs : List Bool) : Type 0 where
  stage : Stage
  runs : Runs (before_local f) ts bs stage
  same : (t : Seen) → begins_type t.0 ≡ false → step stage t ≡ statement_step f (turn end t) t

lifted : (f : FunctionText) (p end : Point) (ts : List Seen) (bs : List Bool) → Turns p ts bs end → Runs (in_statements f p) ts bs (in_statements f end)
lifted f p _ _ _ (stay _) = rest _
lifted f p end _ _ (go _ mid _ t ts b bs is flag later) = forth _ (in_statements f mid) _ t ts b bs (ap (λ (x : Turn). statement_step f x t) is) flag (lifted f mid end ts bs later)

no_type_taken : (x : Lexeme) (at : Place) (mid : Point) → turn body_begins (x, at) ≡ on mid → begins_type x ≡ false
no_type_taken (word w.Void) at mid is = absurd cc
no_type_taken (word w.Int) at mid is = absurd cc
no_type_taken (word w.Short) at mid is = absurd cc
no_type_taken (word w.Signed) at mid is = absurd cc
no_type_taken (word w.Unsigned) at mid is = absurd cc
no_type_taken (word _) at mid is = refl
no_type_taken (mark _) at mid is = refl
no_type_taken (name x) at mid is = refl
no_type_taken (number v k) at mid is = refl
no_type_taken end_of_text at mid is = refl

first_statement : (f : FunctionText) (t : Seen) → begins_type t.0 ≡ false → step (before_local f) t ≡ statement_step f (turn body_begins t) t
first_statement f t h = rw h refl

lift_first : (f : FunctionText) (p end : Point) (ts : List Seen) (bs : List Bool) → p ≡ body_begins → Turns p ts bs end → BodyLifted f end ts bs
lift_first f p _ _ _ same (stay _) = record { stage = before_local f; runs = rest _; same = λ t h. first_statement f t h ∙ ap (λ (x : Point). statement_step f (turn x t) t) (sym same) }
lift_first f p end _ _ same (go _ mid _ t ts b bs is flag later) =
    let begun : turn body_begins t ≡ on mid = ap (λ (x : Point). turn x t) (sym same) ∙ is in
    record {
      stage = in_statements f end;
      runs = forth _ (in_statements f mid) _ t ts b bs (first_statement f t (no_type_taken t.0 t.1 mid begun) ∙ ap (λ (x : Turn). statement_step f x t) begun) flag (lifted f mid end ts bs later);
      same = λ u h. refl;
    }

no_type_ends : (x : Lexeme) → ends_body x ≡ true → begins_type x ≡ false
no_type_ends (mark x) h = refl
no_type_ends (word w.Return) h = refl
no_type_ends (word _) h = absurd cc
no_type_ends _ h = absurd cc

pub record BodyRead (f : FunctionText) (ss : StatementPhrases) : Type 0 where
  stage : Stage
  runs : Runs (before_local f) (all_written ss) (all_past 1 ss) stage
  same : (t : Seen) → ends_body t.0 ≡ true → step stage t ≡ body_ends (with_body f (listed (all_meant ss))) t

body_read : (f : FunctionText) (ss : StatementPhrases) → AreStatements ss → BodyRead f ss
body_read f ss right =
    let r = reads_statements ss (λ before. in_body before) 0 [] body_frame right in
    let l = lift_first f body_begins r.end (all_written ss) (all_past 1 ss) refl r.turns in
    record {
      stage = l.stage;
      runs = l.runs;
      same = λ t h. l.same t (no_type_ends t.0 h) ∙ ap (λ (x : Turn). statement_step f x t) (r.same t (no_else t.0 h) ∙ body_left (all_meant ss) t.0 t.1 h);
    }

-- ---- the end of a function

pub record ResultRead (f : FunctionText) (ss : StatementPhrases) (r : Option ResultPhrase) : Type 0 where
  stage : Stage
  runs : Runs (before_local f) (all_written ss ++ result_tokens r) (all_past 1 ss ++ result_past r) stage
  ends : (t : Seen) → fits right_brace t.0 ≡ true → step stage t ≡ made (function_item (record f { body = listed (all_meant ss); result = result_tree r }))

brace_ends_body : (x : Lexeme) → fits right_brace x ≡ true → ends_body x ≡ true
brace_ends_body (mark m.CloseBrace) h = refl
brace_ends_body (mark _) h = absurd cc
brace_ends_body _ h = absurd cc

return_ends_body : (x : Lexeme) → fits the_return x ≡ true → (ends_body x ≡ true) × (is_right_brace x ≡ false)
return_ends_body (word w.Return) h = (refl, refl)
return_ends_body (word _) h = absurd cc
return_ends_body _ h = absurd cc

body_closes : (f : FunctionText) (t : Seen) → fits right_brace t.0 ≡ true → body_ends f t ≡ made (function_item f)
body_closes f t h = rw h refl

body_returns : (f : FunctionText) (t : Seen) → fits the_return t.0 ≡ true → is_right_brace t.0 ≡ false → body_ends f t ≡ ahead (in_value (result_value f) (wants bottom) 257)
body_returns f t h other = rw (other, h) refl

end_closes : (f : FunctionText) (got : List Seen) (t : Seen) → fits right_brace t.0 ≡ true → step (in_row (end_row f) got right_brace []) t ≡ made (function_item f)
end_closes f got t h = rw h refl

pub record Closed (f : FunctionText) (e : Expression) (s : Stage) (ts : List Seen) : Type 0 where
  stage : Stage
  runs : Runs s ts (quiet ts) stage
  ends : (t : Seen) → fits right_brace t.0 ≡ true → step stage t ≡ made (function_item (with_result f e))

result_closes : (f : FunctionText) (e : Expression) (s : Stage) (ts : List Seen) → IsRow (semicolon ∷ []) ts →
    ((t : Seen) → fits semicolon t.0 ≡ true → step s t ≡ value_ends (result_value f) e t) → Closed f e s ts
result_closes f e s [] fit last = absurd fit
result_closes f e s (t ∷ u ∷ ts) fit last = absurd fit.1
result_closes f e s (t ∷ []) fit last = record {
  stage = in_row (end_row (with_result f e)) (t ∷ []) right_brace [];
  runs = forth _ (in_row (end_row (with_result f e)) (t ∷ []) right_brace []) _ t [] false [] (last t fit.0) refl (rest _);
  ends = λ u h. end_closes (with_result f e) (t ∷ []) u h;
}

result_read : (p : Option MarkPhrase) (d : Declaration) (params : List Parameter) (locals : List LocalVariable) (ss : StatementPhrases)
    (r : Option ResultPhrase) → AreStatements ss → IsResult r → ResultRead (opened_function p d params locals) ss r
result_read p d params locals ss None right is =
    let b = body_read (opened_function p d params locals) ss right in
    record {
      stage = b.stage;
      runs = runs_append b.runs (rest _);
      ends = λ t h. b.same t (brace_ends_body t.0 h) ∙ body_closes (with_body (opened_function p d params locals) (listed (all_meant ss))) t h;
    }
result_read p d params locals ss (Some r) right is =
    let f = with_body (opened_function p d params locals) (listed (all_meant ss)) in
    let b = body_read (opened_function p d params locals) ss right in
    let head = one_runs b.stage the_return r.head (in_value (result_value (with_body (opened_function p d params locals) (listed (all_meant ss)))) (wants bottom) 257)
    (λ t h. b.same t (return_ends_body t.0 h).0 ∙ body_returns (with_body (opened_function p d params locals) (listed (all_meant ss))) t h (return_ends_body t.0 h).1) is.0 refl in
    let v = value_read (result_value (with_body (opened_function p d params locals) (listed (all_meant ss)))) r.value is.1 in
    let c = result_closes (with_body (opened_function p d params locals) (listed (all_meant ss))) (tree r.value) v.stage r.tail is.2 v.ends in
    record {
      stage = c.stage;
      runs = runs_append b.runs (runs_append (runs_append head v.runs) c.runs);
      ends = c.ends;
    }

-- ---- whole functions

parenthesis_begins : (p : Option MarkPhrase) (d : Declaration) (t : Seen) → fits left_parenthesis t.0 ≡ true →
    step (behind_item (mark_tree p) (type_of d.form) (place_at 0 d.name_row) (name_at 0 d.name_row)) t ≡ ahead (before_parameter (opened_function p d [] []))
parenthesis_begins p d t h = rw h refl

pub function_read : (f : FunctionPhrase) → IsFunction f → ItemRead (of_function f)
function_read f is = tail f.tail is.8 refl
  where
    tail : (ts : List Seen) → IsRow (right_brace ∷ []) ts → f.tail ≡ ts → ItemRead (of_function f)
    tail [] fit same = absurd fit
    tail (t ∷ u ∷ ts) fit same = absurd fit.1
    tail (t ∷ []) fit same =
        let marked_runs = mark_runs f.mark is.0 in
        let named = declaration_runs f.declaration (an_item (mark_tree f.mark)) (before_item f.mark) is.1 (λ t h. item_type f.mark f.declaration.form t h) in
        let opened = one_runs (behind_item (mark_tree f.mark) (type_of f.declaration.form) (place_at 0 f.declaration.name_row)
        (name_at 0 f.declaration.name_row)) left_parenthesis f.opening _ (λ t h. parenthesis_begins f.mark f.declaration t h) is.2 refl in
        let head = head_closes f.mark f.declaration f.params f.begins is.3 is.4 in
        let locals = locals_read f.mark f.declaration (parameters_tree f.params) [] f.locals is.5 in
        let ending = result_read f.mark f.declaration (parameters_tree f.params) (local_trees f.locals) f.body f.result is.6 is.7 in
        let front = mark_tokens f.mark ++ declaration_tokens f.declaration ++ f.opening ++ (parameters_tokens f.params ++ f.begins)
        ++ local_tokens f.locals ++ (all_written f.body ++ result_tokens f.result) in
        let spelled_so : item_tokens (of_function f) ≡ mark_tokens f.mark ++ declaration_tokens f.declaration ++ f.opening
        ++ (parameters_tokens f.params ++ f.begins) ++ local_tokens f.locals ++ (all_written f.body ++ result_tokens f.result) ++ t ∷ [] =
        ap (λ (l : List Seen). mark_tokens f.mark ++ declaration_tokens f.declaration ++ f.opening ++ parameters_tokens f.params ++ f.begins
        ++ local_tokens f.locals ++ all_written f.body ++ result_tokens f.result ++ l) same ∙ simp append_assoc in
        let limited_so : item_past (of_function f) ≡ quiet (mark_tokens f.mark) ++ quiet (declaration_tokens f.declaration) ++ quiet f.opening
        ++ (quiet (parameters_tokens f.params) ++ quiet f.begins) ++ local_past f.locals ++ (all_past 1 f.body ++ result_past f.result) ++ false ∷ [] =
        ap (λ (l : List Seen). quiet (mark_tokens f.mark) ++ quiet (declaration_tokens f.declaration) ++ quiet f.opening
        ++ quiet (parameters_tokens f.params) ++ quiet f.begins ++ local_past f.locals ++ all_past 1 f.body ++ result_past f.result ++ quiet l)
        same ∙ simp append_assoc in
        record {
          front = mark_tokens f.mark ++ declaration_tokens f.declaration ++ f.opening ++ (parameters_tokens f.params ++ f.begins)
              ++ local_tokens f.locals ++ (all_written f.body ++ result_tokens f.result);
          last = t;
          flags = quiet (mark_tokens f.mark) ++ quiet (declaration_tokens f.declaration) ++ quiet f.opening
              ++ (quiet (parameters_tokens f.params) ++ quiet f.begins) ++ local_past f.locals ++ (all_past 1 f.body ++ result_past f.result);
          stage = ending.stage;
          tokens = spelled_so;
          limits = limited_so;
          runs = runs_append (runs_append (runs_append (runs_append (runs_append marked_runs named) opened) head) locals) ending.runs;
          ends = ending.ends t fit.0;
        }
