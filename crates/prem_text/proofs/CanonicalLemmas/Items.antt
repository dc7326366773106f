-- A program has a phrase whose tokens are its canonical ones.
use Rattle.std.proofs.Common.{append-nil, ◌≡◌, ℕ, ℤ, pos, negsuc, neg_ℤ, int_lt, unsigned_abs, nat_lt, Bool, true, false, if◌then◌else◌, List, [], ◌∷◌, ◌++◌, Option, None, Some, refl, ap}
use Rattle.std.proofs.Common.{sym, ◌∙◌, arith, append_assoc, map}
use Rattle.prem_text.proofs.Prelude.{Text, Expression, Parameter, LocalVariable, RegionText, MarkText, InitialValue, absent, one, many, GlobalVariable, FunctionText, ItemText, global_item}
use Rattle.prem_text.proofs.Prelude.{function_item, ProgramText, Ty, number_lexeme, constant_lexemes, expression_lexemes, statements_lexemes, type_lexemes, declaration_lexemes}
use Rattle.prem_text.proofs.Prelude.{length_lexemes, more_constants, initial_lexemes, global_lexemes, region_lexemes, regions_lexemes, mark_lexemes, range_lexemes, parameter_lexemes}
use Rattle.prem_text.proofs.Prelude.{more_parameters, parameters_lexemes, local_lexemes, locals_lexemes, result_lexemes, function_lexemes, item_lexemes, program_lexemes, unplaced_expression}
use Rattle.prem_text.proofs.Prelude.{unplaced_parameter, unplaced_local, unplaced_region, unplaced_mark, unplaced_global, unplaced_function, unplaced_item, unplaced, name_at, TypeForm}
use Rattle.prem_text.proofs.Prelude.{void_type, int_type, short_type, signed_char_type, unsigned_type, unsigned_short_type, unsigned_char_type, type_slots, type_of, Declaration}
use Rattle.prem_text.proofs.Prelude.{IsDeclaration, declaration_tokens, ConstantPhrase, constant_slots, IsConstant, constant_tree, PartedConstant, InitialPhrase, no_initial, one_initial}
use Rattle.prem_text.proofs.Prelude.{many_initial, ArePartedConstants, IsInitial, constants_tokens, constants_tree, initial_tokens, initial_tree, IsLength, length_tokens, length_tree}
use Rattle.prem_text.proofs.Prelude.{GlobalPhrase, IsGlobal, global_tokens, global_tree, MarkPhrase, AreRegions, region_tokens, region_trees, IsMark, mark_tokens, mark_tree, RangePhrase}
use Rattle.prem_text.proofs.Prelude.{IsRange, range_tokens, range_tree, ParameterPhrase, IsParameter, parameter_tokens, parameter_tree, PartedParameter, ParametersPhrase, of_void}
use Rattle.prem_text.proofs.Prelude.{of_parameters, is_void_form, begins_void, ArePartedParameters, AreParameters, parted_parameter_tokens, parted_parameter_trees, parameters_tokens}
use Rattle.prem_text.proofs.Prelude.{parameters_tree, LocalPhrase, AreLocals, local_tokens, local_trees, ResultPhrase, IsResult, result_tokens, result_tree, FunctionPhrase, IsFunction}
use Rattle.prem_text.proofs.Prelude.{function_tokens, function_tree, ItemPhrase, of_global, of_function, IsItem, item_tokens, item_tree, AreItems, items_tokens, items_tree, ProgramPhrase}
use Rattle.prem_text.proofs.Prelude.{IsProgram, program_tokens, program_tree, nowhere, left_parenthesis, right_parenthesis, left_brace, right_brace, left_bracket, right_bracket, semicolon}
use Rattle.prem_text.proofs.Prelude.{comma, equal_sign, a_name, a_literal, the_return, the_void, the_range, the_predictable, the_region, the_end, name, word, mark, end_of_text, Seen}
use Rattle.prem_text.proofs.Prelude.{nat_tests, option_map}
use Rattle.prem_text.proofs.CanonicalLemmas.Parts.{Are, none, cut, glue, all_fit, row, name_is, value_is, regroup}
use Rattle.prem_text.proofs.CanonicalLemmas.Shaped.{is_void, BeginsShaped, IsShapedInitial, IsShapedItem, AreShapedItems}
use Rattle.prem_text.proofs.CanonicalLemmas.Statements.{whole, all_said}
use Rattle.prem_syntax.specs.declared.tree.Ty.TheVariants as ty
use Rattle.prem_text.specs.declared.lexing.token.token.Mark.TheVariants as m
use Rattle.prem_text.specs.declared.lexing.token.token.Word.TheVariants as w

-- ---- types

abbrev form_for : Ty → TypeForm
form_for ty.Void = void_type
form_for ty.Int = int_type
form_for ty.Unsigned = unsigned_type
form_for ty.Short = short_type
form_for ty.Ushort = unsigned_short_type
form_for ty.Schar = signed_char_type
form_for ty.Uchar = unsigned_char_type

types_fit : (t : Ty) → all_fit (type_slots (form_for t)) (type_lexemes t) ≡ true
types_fit ty.Void = refl
types_fit _ = refl

type_back : (t : Ty) → type_of (form_for t) ≡ t
type_back ty.Void = refl
type_back _ = refl

void_back : (t : Ty) → is_void_form (form_for t) ≡ is_void t
void_back ty.Void = refl
void_back _ = refl

record Declared (t : Ty) (x : Text) (ts : List Seen) : Type 0 where
  phrase : Declaration
  right : IsDeclaration phrase
  tokens : declaration_tokens phrase ≡ ts
  void : is_void_form phrase.form ≡ is_void t
  type : type_of phrase.form ≡ t
  text : name_at 0 phrase.name_row ≡ x

declared : (t : Ty) (x : Text) (ts : List Seen) → Are (declaration_lexemes t x) ts → Declared t x ts
declared t x ts are =
    let c = cut (type_lexemes t) (name x ∷ []) ts are in
    record {
      phrase = record { form = form_for t; type_row = c.front; name_row = c.back };
      right = (row (type_slots (form_for t)) _ c.front c.before (types_fit t), row (a_name ∷ []) _ c.back c.behind refl);
      tokens = glue c refl refl;
      void = void_back t;
      type = type_back t;
      text = name_is 0 _ c.back c.behind;
    }

-- ---- constants

positive : (z : ℤ) → int_lt z (pos 0) ≡ false → pos (unsigned_abs z) ≡ z
positive (pos n) is = refl
positive (negsuc n) is = absurd cc

negative : (z : ℤ) → int_lt z (pos 0) ≡ true → neg_ℤ (pos (unsigned_abs z)) ≡ z
negative (pos n) is = let no_less : nat_lt n 0 ≡ false = grind (arith, nat_tests) in let clash : true ≡ false = sym is ∙ no_less in absurd cc
negative (negsuc n) is = refl

record Told (z : ℤ) (ts : List Seen) : Type 0 where
  phrase : ConstantPhrase
  right : IsConstant phrase
  tokens : phrase.row ≡ ts
  same : constant_tree phrase ≡ z

told_by : (b : Bool) (z : ℤ) (ts : List Seen) → int_lt z (pos 0) ≡ b → Are (if b then mark m.Minus ∷ number_lexeme (unsigned_abs z) ∷ [] else number_lexeme (unsigned_abs z) ∷ []) ts → Told z ts
told_by false z ts is are = record {
  phrase = record { negative = false; row = ts };
  right = row (constant_slots false) _ ts are refl;
  tokens = refl;
  same = ap pos (value_is 0 _ ts are) ∙ positive z is;
}
told_by true z ts is are = record {
  phrase = record { negative = true; row = ts };
  right = row (constant_slots true) _ ts are refl;
  tokens = refl;
  same = ap (λ (n : ℕ). neg_ℤ (pos n)) (value_is 1 _ ts are) ∙ negative z is;
}

told : (z : ℤ) (ts : List Seen) → Are (constant_lexemes z) ts → Told z ts
told z ts are = told_by (int_lt z (pos 0)) z ts refl are

record ToldBehind (p : ConstantPhrase) (rest : List ℤ) (ts : List Seen) : Type 0 where
  before : List PartedConstant
  last : ConstantPhrase
  parted : ArePartedConstants before
  right : IsConstant last
  tokens : constants_tokens before ++ last.row ≡ p.row ++ ts
  same : constants_tree before ++ constant_tree last ∷ [] ≡ constant_tree p ∷ rest

told_behind : (p : ConstantPhrase) (rest : List ℤ) (ts : List Seen) → IsConstant p → Are (more_constants rest) ts → ToldBehind p rest ts
told_behind p [] _ is none = record { before = []; last = p; parted = tt; right = is; tokens = sym (append-nil p.row); same = refl }
told_behind p (z ∷ rest) ts is are =
    let c = cut (mark m.Comma ∷ constant_lexemes z) (more_constants rest) ts are in
    let d = cut (mark m.Comma ∷ []) (constant_lexemes z) c.front c.before in
    let s = told z d.back d.behind in
    let r = told_behind s.phrase rest c.back s.right c.behind in
    record {
      before = (p, d.front) ∷ r.before;
      last = r.last;
      parted = (is, row (comma ∷ []) _ d.front d.before refl, r.parted);
      right = r.right;
      tokens = regroup p.row d.front (constants_tokens r.before) r.last.row s.phrase.row c.back ts r.tokens (glue c (glue d refl s.tokens) refl);
      same = ap (λ (u : List ℤ). constant_tree p ∷ u) (r.same ∙ ap (λ (x : ℤ). x ∷ rest) s.same);
    }

-- ---- globals

record Initialised (v : InitialValue) (ts : List Seen) : Type 0 where
  phrase : InitialPhrase
  right : IsInitial phrase
  tokens : initial_tokens phrase ≡ ts
  same : initial_tree phrase ≡ v

initialised : (v : InitialValue) (ts : List Seen) → IsShapedInitial v → Are (initial_lexemes v) ts → Initialised v ts
initialised absent _ shaped none = record { phrase = no_initial; right = tt; tokens = refl; same = refl }
initialised (one z) ts shaped are =
    let c = cut (mark m.Equal ∷ []) (constant_lexemes z) ts are in
    let s = told z c.back c.behind in
    record {
      phrase = one_initial c.front s.phrase;
      right = (row (equal_sign ∷ []) _ c.front c.before refl, s.right);
      tokens = glue c refl s.tokens;
      same = ap one s.same;
    }
initialised (many []) ts shaped are = absurd shaped
initialised (many (z ∷ rest)) ts shaped are =
    let e = cut ((mark m.Equal ∷ mark m.OpenBrace ∷ []) ++ (constant_lexemes z ++ more_constants rest)) (mark m.CloseBrace ∷ []) ts are in
    let d = cut (mark m.Equal ∷ mark m.OpenBrace ∷ []) (constant_lexemes z ++ more_constants rest) e.front e.before in
    let c = cut (constant_lexemes z) (more_constants rest) d.back d.behind in
    let s = told z c.front c.before in
    let r = told_behind s.phrase rest c.back s.right c.behind in
    record {
      phrase = many_initial d.front r.before r.last e.back;
      right = (row (equal_sign ∷ left_brace ∷ []) _ d.front d.before refl, r.parted, r.right, row (right_brace ∷ []) _ e.back e.behind refl);
      tokens = glue e (append_assoc d.front (constants_tokens r.before) r.last.row ∙ glue d refl (r.tokens ∙ glue c s.tokens refl)) refl;
      same = ap many (r.same ∙ ap (λ (x : ℤ). x ∷ rest) s.same);
    }

record Measured (n : Option ℕ) (ts : List Seen) : Type 0 where
  phrase : Option (List Seen)
  right : IsLength phrase
  tokens : length_tokens phrase ≡ ts
  same : length_tree phrase ≡ n

measured : (n : Option ℕ) (ts : List Seen) → Are (length_lexemes n) ts → Measured n ts
measured None _ none = record { phrase = None; right = tt; tokens = refl; same = refl }
measured (Some n) ts are = record {
  phrase = Some ts;
  right = row (left_bracket ∷ a_literal ∷ right_bracket ∷ []) _ ts are refl;
  tokens = refl;
  same = ap Some (value_is 1 _ ts are);
}

record GlobalSaid (g : GlobalVariable) (ts : List Seen) : Type 0 where
  phrase : GlobalPhrase
  right : IsGlobal phrase
  tokens : global_tokens phrase ≡ ts
  same : unplaced_global (global_tree phrase) ≡ unplaced_global g

global_said : (g : GlobalVariable) (ts : List Seen) → IsShapedInitial g.initial → Are (global_lexemes g) ts → GlobalSaid g ts
global_said g ts shaped are =
    let e = cut (declaration_lexemes g.ty g.name ++ length_lexemes g.len ++ initial_lexemes g.initial) (mark m.Semicolon ∷ []) ts are in
    let d = cut (declaration_lexemes g.ty g.name ++ length_lexemes g.len) (initial_lexemes g.initial) e.front e.before in
    let c = cut (declaration_lexemes g.ty g.name) (length_lexemes g.len) d.front d.before in
    let s = declared g.ty g.name c.front c.before in
    let l = measured g.len c.back c.behind in
    let v = initialised g.initial d.back shaped d.behind in
    record {
      phrase = record { declaration = s.phrase; length = l.phrase; initial = v.phrase; tail = e.back };
      right = (s.right, l.right, v.right, row (semicolon ∷ []) _ e.back e.behind refl);
      tokens = glue e (glue d (glue c s.tokens l.tokens) v.tokens) refl;
      same = λ i. record { at = nowhere; ty = s.type i; name = s.text i; len = l.same i; initial = v.same i };
    }

-- ---- marks

record RegionsSaid (rs : List RegionText) (ts : List Seen) : Type 0 where
  phrase : List (List Seen)
  right : AreRegions phrase
  tokens : region_tokens phrase ≡ ts
  same : map unplaced_region (region_trees phrase) ≡ map unplaced_region rs

regions_said : (rs : List RegionText) (ts : List Seen) → Are (regions_lexemes rs) ts → RegionsSaid rs ts
regions_said [] _ none = record { phrase = []; right = tt; tokens = refl; same = refl }
regions_said (r ∷ rest) ts are =
    let c = cut (region_lexemes r) (regions_lexemes rest) ts are in
    let s = regions_said rest c.back c.behind in
    record {
      phrase = c.front ∷ s.phrase;
      right = (row (the_region ∷ left_parenthesis ∷ a_name ∷ comma ∷ a_literal ∷ comma ∷ a_literal ∷ right_parenthesis ∷ []) _ c.front c.before refl, s.right);
      tokens = glue c refl s.tokens;
      same = λ i. record { at = nowhere; name = name_is 2 _ c.front c.before i; low = value_is 4 _ c.front c.before i; high = value_is 6 _ c.front c.before i } ∷ s.same i;
    }

record MarkSaid (k : Option MarkText) (ts : List Seen) : Type 0 where
  phrase : Option MarkPhrase
  right : IsMark phrase
  tokens : mark_tokens phrase ≡ ts
  same : option_map unplaced_mark (mark_tree phrase) ≡ option_map unplaced_mark k

mark_said : (k : Option MarkText) (ts : List Seen) → Are (mark_lexemes k) ts → MarkSaid k ts
mark_said None _ none = record { phrase = None; right = tt; tokens = refl; same = refl }
mark_said (Some k) ts are =
    let c = cut (word w.Predictable ∷ mark m.OpenParenthesis ∷ number_lexeme k.stated ∷ mark m.CloseParenthesis ∷ []) (regions_lexemes k.regions) ts are in
    let s = regions_said k.regions c.back c.behind in
    record {
      phrase = Some record { head = c.front; regions = s.phrase };
      right = (row (the_predictable ∷ left_parenthesis ∷ a_literal ∷ right_parenthesis ∷ []) _ c.front c.before refl, s.right);
      tokens = glue c refl s.tokens;
      same = λ i. Some record { stated = value_is 2 _ c.front c.before i; regions = s.same i };
    }

-- ---- parameters

record RangeSaid (r : Option (ℤ × ℤ)) (ts : List Seen) : Type 0 where
  phrase : Option RangePhrase
  right : IsRange phrase
  tokens : range_tokens phrase ≡ ts
  same : range_tree phrase ≡ r

range_said : (r : Option (ℤ × ℤ)) (ts : List Seen) → Are (range_lexemes r) ts → RangeSaid r ts
range_said None _ none = record { phrase = None; right = tt; tokens = refl; same = refl }
range_said (Some (low, high)) ts are =
    let head = word w.Range ∷ mark m.OpenParenthesis ∷ [] in
    let f = cut (head ++ constant_lexemes low ++ (mark m.Comma ∷ []) ++ constant_lexemes high) (mark m.CloseParenthesis ∷ []) ts are in
    let e = cut (head ++ constant_lexemes low ++ mark m.Comma ∷ []) (constant_lexemes high) f.front f.before in
    let d = cut (head ++ constant_lexemes low) (mark m.Comma ∷ []) e.front e.before in
    let c = cut head (constant_lexemes low) d.front d.before in
    let a = told low c.back c.behind in
    let b = told high e.back e.behind in
    record {
      phrase = Some record { head = c.front; low = a.phrase; middle = d.back; high = b.phrase; close = f.back };
      right = (row (the_range ∷ left_parenthesis ∷ []) _ c.front c.before refl, a.right, row (comma ∷ []) _ d.back d.behind refl, b.right, row (right_parenthesis ∷ []) _ f.back f.behind refl);
      tokens = glue f (glue e (glue d (glue c refl a.tokens) refl) b.tokens) refl;
      same = λ i. Some (a.same i, b.same i);
    }

record ParameterSaid (p : Parameter) (ts : List Seen) : Type 0 where
  phrase : ParameterPhrase
  right : IsParameter phrase
  tokens : parameter_tokens phrase ≡ ts
  void : is_void_form phrase.declaration.form ≡ is_void p.ty
  same : unplaced_parameter (parameter_tree phrase) ≡ unplaced_parameter p

parameter_said : (p : Parameter) (ts : List Seen) → Are (parameter_lexemes p) ts → ParameterSaid p ts
parameter_said p ts are =
    let c = cut (declaration_lexemes p.ty p.name) (range_lexemes p.range) ts are in
    let d = declared p.ty p.name c.front c.before in
    let r = range_said p.range c.back c.behind in
    record {
      phrase = record { declaration = d.phrase; range = r.phrase };
      right = (d.right, r.right);
      tokens = glue c d.tokens r.tokens;
      void = d.void;
      same = λ i. record { at = nowhere; ty = d.type i; name = d.text i; range = r.same i };
    }

record ParametersBehind (p : ParameterPhrase) (rest : List Parameter) (ts : List Seen) : Type 0 where
  before : List PartedParameter
  last : ParameterPhrase
  parted : ArePartedParameters before
  right : IsParameter last
  begins : begins_void before last ≡ is_void_form p.declaration.form
  tokens : parted_parameter_tokens before ++ parameter_tokens last ≡ parameter_tokens p ++ ts
  same : map unplaced_parameter (parted_parameter_trees before ++ parameter_tree last ∷ []) ≡ unplaced_parameter (parameter_tree p) ∷ map unplaced_parameter rest

parameters_behind : (p : ParameterPhrase) (rest : List Parameter) (ts : List Seen) → IsParameter p → Are (more_parameters rest) ts → ParametersBehind p rest ts
parameters_behind p [] _ is none = record { before = []; last = p; parted = tt; right = is; begins = refl; tokens = sym (append-nil (parameter_tokens p)); same = refl }
parameters_behind p (q ∷ rest) ts is are =
    let c = cut (mark m.Comma ∷ parameter_lexemes q) (more_parameters rest) ts are in
    let d = cut (mark m.Comma ∷ []) (parameter_lexemes q) c.front c.before in
    let s = parameter_said q d.back d.behind in
    let r = parameters_behind s.phrase rest c.back s.right c.behind in
    record {
      before = (p, d.front) ∷ r.before;
      last = r.last;
      parted = (is, row (comma ∷ []) _ d.front d.before refl, r.parted);
      right = r.right;
      begins = refl;
      tokens = regroup (parameter_tokens p) d.front (parted_parameter_tokens r.before) (parameter_tokens r.last) (parameter_tokens s.phrase) c.back ts r.tokens (glue c (glue d refl s.tokens) refl);
      same = ap (λ (u : List Parameter). unplaced_parameter (parameter_tree p) ∷ u) (r.same ∙ ap (λ (x : Parameter). x ∷ map unplaced_parameter rest) s.same);
    }

record ParametersSaid (ps : List Parameter) (ts : List Seen) : Type 0 where
  phrase : ParametersPhrase
  right : AreParameters phrase
  tokens : parameters_tokens phrase ≡ ts
  same : map unplaced_parameter (parameters_tree phrase) ≡ map unplaced_parameter ps

parameters_said : (ps : List Parameter) (ts : List Seen) → BeginsShaped (map unplaced_parameter ps) → Are (parameters_lexemes ps) ts → ParametersSaid ps ts
parameters_said [] ts shaped are = record { phrase = of_void ts; right = row (the_void ∷ []) _ ts are refl; tokens = refl; same = refl }
parameters_said (p ∷ rest) ts shaped are =
    let c = cut (parameter_lexemes p) (more_parameters rest) ts are in
    let s = parameter_said p c.front c.before in
    let r = parameters_behind s.phrase rest c.back s.right c.behind in
    record {
      phrase = of_parameters r.before r.last;
      right = (r.parted, r.right, r.begins ∙ s.void ∙ shaped);
      tokens = r.tokens ∙ glue c s.tokens refl;
      same = r.same ∙ ap (λ (x : Parameter). x ∷ map unplaced_parameter rest) s.same;
    }

-- ---- functions

record LocalsSaid (ls : List LocalVariable) (ts : List Seen) : Type 0 where
  phrase : List LocalPhrase
  right : AreLocals phrase
  tokens : local_tokens phrase ≡ ts
  same : map unplaced_local (local_trees phrase) ≡ map unplaced_local ls

locals_said : (ls : List LocalVariable) (ts : List Seen) → Are (locals_lexemes ls) ts → LocalsSaid ls ts
locals_said [] _ none = record { phrase = []; right = tt; tokens = refl; same = refl }
locals_said (l ∷ rest) ts are =
    let f = cut (local_lexemes l) (locals_lexemes rest) ts are in
    let e = cut (declaration_lexemes l.ty l.name ++ (mark m.Equal ∷ []) ++ expression_lexemes 1 l.value) (mark m.Semicolon ∷ []) f.front f.before in
    let d = cut (declaration_lexemes l.ty l.name ++ mark m.Equal ∷ []) (expression_lexemes 1 l.value) e.front e.before in
    let c = cut (declaration_lexemes l.ty l.name) (mark m.Equal ∷ []) d.front d.before in
    let s = declared l.ty l.name c.front c.before in
    let v = whole l.value d.back d.behind in
    let r = locals_said rest f.back f.behind in
    record {
      phrase = record { declaration = s.phrase; sign = c.back; value = v.phrase; tail = e.back } ∷ r.phrase;
      right = (s.right, row (equal_sign ∷ []) _ c.back c.behind refl, (v.tight, v.binds), row (semicolon ∷ []) _ e.back e.behind refl, r.right);
      tokens = glue f (glue e (glue d (glue c s.tokens refl) v.tokens) refl) r.tokens;
      same = λ i. record { at = nowhere; ty = s.type i; name = s.text i; value = v.same i } ∷ r.same i;
    }

record ResultSaid (e : Option Expression) (ts : List Seen) : Type 0 where
  phrase : Option ResultPhrase
  right : IsResult phrase
  tokens : result_tokens phrase ≡ ts
  same : option_map unplaced_expression (result_tree phrase) ≡ option_map unplaced_expression e

result_said : (e : Option Expression) (ts : List Seen) → Are (result_lexemes e) ts → ResultSaid e ts
result_said None _ none = record { phrase = None; right = tt; tokens = refl; same = refl }
result_said (Some e) ts are =
    let d = cut ((word w.Return ∷ []) ++ expression_lexemes 1 e) (mark m.Semicolon ∷ []) ts are in
    let c = cut (word w.Return ∷ []) (expression_lexemes 1 e) d.front d.before in
    let v = whole e c.back c.behind in
    record {
      phrase = Some record { head = c.front; value = v.phrase; tail = d.back };
      right = (row (the_return ∷ []) _ c.front c.before refl, (v.tight, v.binds), row (semicolon ∷ []) _ d.back d.behind refl);
      tokens = glue d (glue c refl v.tokens) refl;
      same = ap Some v.same;
    }

record FunctionSaid (f : FunctionText) (ts : List Seen) : Type 0 where
  phrase : FunctionPhrase
  right : IsFunction phrase
  tokens : function_tokens phrase ≡ ts
  same : unplaced_function (function_tree phrase) ≡ unplaced_function f

function_said : (f : FunctionText) (ts : List Seen) → IsShapedItem (unplaced_item (function_item f)) → Are (function_lexemes f) ts → FunctionSaid f ts
function_said f ts shaped are =
    let opening = mark m.OpenParenthesis ∷ [] in
    let begins = mark m.CloseParenthesis ∷ mark m.OpenBrace ∷ [] in
    let to_name = mark_lexemes f.mark ++ declaration_lexemes f.ty f.name in
    let to_params = to_name ++ opening ++ parameters_lexemes f.params in
    let to_locals = to_params ++ begins ++ locals_lexemes f.locals in
    let to_body = to_locals ++ statements_lexemes f.body in
    let c8 = cut (to_body ++ result_lexemes f.result) (mark m.CloseBrace ∷ []) ts are in
    let c7 = cut to_body (result_lexemes f.result) c8.front c8.before in
    let c6 = cut to_locals (statements_lexemes f.body) c7.front c7.before in
    let c5 = cut (to_params ++ begins) (locals_lexemes f.locals) c6.front c6.before in
    let c4 = cut to_params begins c5.front c5.before in
    let c3 = cut (to_name ++ opening) (parameters_lexemes f.params) c4.front c4.before in
    let c2 = cut to_name opening c3.front c3.before in
    let c1 = cut (mark_lexemes f.mark) (declaration_lexemes f.ty f.name) c2.front c2.before in
    let k = mark_said f.mark c1.front c1.before in
    let d = declared f.ty f.name c1.back c1.behind in
    let p = parameters_said f.params c3.back shaped.0 c3.behind in
    let l = locals_said f.locals c5.back c5.behind in
    let b = all_said f.body c6.back shaped.1 c6.behind in
    let r = result_said f.result c7.back c7.behind in
    record {
      phrase = record { mark = k.phrase; declaration = d.phrase; opening = c2.back; params = p.phrase; begins = c4.back; locals = l.phrase; body = b.phrase; result = r.phrase; tail = c8.back };
      right = (
        k.right,
        d.right,
        row (left_parenthesis ∷ []) _ c2.back c2.behind refl,
        p.right,
        row (right_parenthesis ∷ left_brace ∷ []) _ c4.back c4.behind refl,
        l.right,
        b.right,
        r.right,
        row (right_brace ∷ []) _ c8.back c8.behind refl,
      );
      tokens = glue c8 (glue c7 (glue c6 (glue c5 (glue c4 (glue c3 (glue c2 (glue c1 k.tokens d.tokens) refl) p.tokens) refl) l.tokens) b.tokens) r.tokens) refl;
      same = λ i. record { at = nowhere; mark = k.same i; ty = d.type i; name = d.text i; params = p.same i; locals = l.same i; body = b.same i; result = r.same i };
    }

-- ---- programs

record ItemSaid (x : ItemText) (ts : List Seen) : Type 0 where
  phrase : ItemPhrase
  right : IsItem phrase
  tokens : item_tokens phrase ≡ ts
  same : unplaced_item (item_tree phrase) ≡ unplaced_item x

item_said : (x : ItemText) (ts : List Seen) → IsShapedItem (unplaced_item x) → Are (item_lexemes x) ts → ItemSaid x ts
item_said (global_item g) ts shaped are = let s = global_said g ts shaped are in record { phrase = of_global s.phrase; right = s.right; tokens = s.tokens; same = ap global_item s.same }
item_said (function_item f) ts shaped are = let s = function_said f ts shaped are in record { phrase = of_function s.phrase; right = s.right; tokens = s.tokens; same = ap function_item s.same }

record ItemsSaid (items : ProgramText) (ts : List Seen) : Type 0 where
  phrase : List ItemPhrase
  right : AreItems phrase
  tokens : items_tokens phrase ≡ ts
  same : unplaced (items_tree phrase) ≡ unplaced items

items_said : (items : ProgramText) (ts : List Seen) → AreShapedItems (unplaced items) → Are (program_lexemes items) ts → ItemsSaid items ts
items_said [] _ shaped none = record { phrase = []; right = tt; tokens = refl; same = refl }
items_said (x ∷ rest) ts shaped are =
    let c = cut (item_lexemes x) (program_lexemes rest) ts are in
    let s = item_said x c.front shaped.0 c.before in
    let r = items_said rest c.back shaped.1 c.behind in
    record { phrase = s.phrase ∷ r.phrase; right = (s.right, r.right); tokens = glue c s.tokens r.tokens; same = λ i. s.same i ∷ r.same i }

pub record ProgramSaid (items : ProgramText) (ts : List Seen) : Type 0 where
  pub phrase : ProgramPhrase
  pub right : IsProgram phrase
  pub tokens : program_tokens phrase ≡ ts
  pub same : unplaced (program_tree phrase) ≡ unplaced items

pub program_said : (items : ProgramText) (ts : List Seen) → AreShapedItems (unplaced items) → Are (program_lexemes items ++ end_of_text ∷ []) ts → ProgramSaid items ts
program_said items ts shaped are =
    let c = cut (program_lexemes items) (end_of_text ∷ []) ts are in
    let s = items_said items c.front shaped c.before in
    record {
      phrase = record { items = s.phrase; end = c.back };
      right = (s.right, row (the_end ∷ []) _ c.back c.behind refl);
      tokens = glue c s.tokens refl;
      same = s.same;
    }
