-- The canonical tokens of a text's tree can be spelled, and it has the shape that they need.
use Rattle.std.proofs.Common.{◌≡◌, ◌≤◌, ℕ, ℤ, unsigned_abs, Bool, true, false, List, [], ◌∷◌, ◌++◌, Option, None, Some, refl, sym, subst, ◌∙◌, map}
use Rattle.prem_text.proofs.Prelude.{Parameter, Ty, constant_lexemes, expression_lexemes, statements_lexemes, type_lexemes, declaration_lexemes, length_lexemes, more_constants}
use Rattle.prem_text.proofs.Prelude.{constants_lexemes, initial_lexemes, global_lexemes, regions_lexemes, mark_lexemes, range_lexemes, parameter_lexemes, more_parameters, parameters_lexemes}
use Rattle.prem_text.proofs.Prelude.{locals_lexemes, result_lexemes, function_lexemes, item_lexemes, program_lexemes, unplaced_parameter, unplaced_item, unplaced, spelled, tree, name_at}
use Rattle.prem_text.proofs.Prelude.{TypeForm, void_type, type_of, Declaration, IsDeclaration, declaration_tokens, ConstantPhrase, constant_value, constant_tree, PartedConstant}
use Rattle.prem_text.proofs.Prelude.{InitialPhrase, no_initial, one_initial, many_initial, constants_tokens, constants_tree, initial_tokens, initial_tree, length_tokens, length_tree}
use Rattle.prem_text.proofs.Prelude.{GlobalPhrase, IsGlobal, global_tokens, global_tree, AreRegions, region_tokens, region_trees, MarkPhrase, IsMark, mark_tokens, mark_tree, RangePhrase}
use Rattle.prem_text.proofs.Prelude.{range_tokens, range_tree, ParameterPhrase, IsParameter, parameter_tokens, parameter_tree, PartedParameter, ParametersPhrase, of_void, of_parameters}
use Rattle.prem_text.proofs.Prelude.{is_void_form, ArePartedParameters, AreParameters, parted_parameter_tokens, parted_parameter_trees, parameters_tokens, parameters_tree, LocalPhrase}
use Rattle.prem_text.proofs.Prelude.{AreLocals, local_tokens, local_trees, ResultPhrase, result_tokens, result_tree, FunctionPhrase, IsFunction, function_tokens, function_tree, ItemPhrase}
use Rattle.prem_text.proofs.Prelude.{of_global, of_function, IsItem, item_tokens, item_tree, AreItems, items_tokens, items_tree, left_parenthesis, right_parenthesis, comma, a_name}
use Rattle.prem_text.proofs.Prelude.{a_literal, the_region, value_at, all_written, name, mark, Seen}
use Rattle.prem_text.proofs.CanonicalLemmas.Sayable.{AreSayable, both, AreSaid, front, back, name_said, value_bound, value_said, constant_said, abs_negated, Each, each_last}
use Rattle.prem_text.proofs.CanonicalLemmas.Shaped.{is_void, BeginsShaped, IsShapedInitial, IsShapedItem, AreShapedItems}
use Rattle.prem_text.proofs.CanonicalLemmas.StatementsSaid.{expression_said, all_shaped, all_statements_said}
use Rattle.prem_syntax.specs.declared.tree.Ty.TheVariants as ty
use Rattle.prem_text.specs.declared.lexing.token.token.Mark.TheVariants as m

-- ---- types and constants

types_said : (t : Ty) → AreSayable (type_lexemes t)
types_said ty.Void = tt
types_said _ = tt

declared_said : (d : Declaration) → IsDeclaration d → AreSaid (declaration_tokens d) → AreSayable (declaration_lexemes (type_of d.form) (name_at 0 d.name_row))
declared_said d is s =
    both (type_lexemes (type_of d.form)) (name (name_at 0 d.name_row) ∷ []) (types_said (type_of d.form)) (name_said 0 (a_name ∷ []) d.name_row refl is.1 (back d.type_row d.name_row s), tt)

value_abs : (b : Bool) (row : List Seen) → AreSaid row → unsigned_abs (constant_value b row) ≤ 4294967295
value_abs false row s = value_bound 0 row s
value_abs true row s = subst (λ (n : ℕ). n ≤ 4294967295) (sym (abs_negated (value_at 1 row))) (value_bound 1 row s)

told_said : (c : ConstantPhrase) → AreSaid c.row → AreSayable (constant_lexemes (constant_tree c))
told_said c s = constant_said (constant_tree c) (value_abs c.negative c.row s)

parted_constants_said : (before : List PartedConstant) → AreSaid (constants_tokens before) → Each constant_lexemes (constants_tree before)
parted_constants_said [] s = tt
parted_constants_said (c ∷ rest) s =
    (told_said c.0 (front c.0.row c.1 (front (c.0.row ++ c.1) (constants_tokens rest) s)), parted_constants_said rest (back (c.0.row ++ c.1) (constants_tokens rest) s))

more_constants_said : (zs : List ℤ) → Each constant_lexemes zs → AreSayable (more_constants zs)
more_constants_said [] p = tt
more_constants_said (z ∷ rest) p = both (constant_lexemes z) (more_constants rest) p.0 (more_constants_said rest p.1)

constants_said : (zs : List ℤ) → Each constant_lexemes zs → AreSayable (constants_lexemes zs)
constants_said [] p = tt
constants_said (z ∷ rest) p = both (constant_lexemes z) (more_constants rest) p.0 (more_constants_said rest p.1)

-- ---- globals

initial_said : (v : InitialPhrase) → AreSaid (initial_tokens v) → AreSayable (initial_lexemes (initial_tree v))
initial_said no_initial s = tt
initial_said (one_initial sign constant) s = told_said constant (back sign constant.row s)
initial_said (many_initial head before last close) s =
    let e = front (head ++ constants_tokens before ++ last.row) close s in
    let d = front (head ++ constants_tokens before) last.row e in
    let zs = constants_tree before ++ constant_tree last ∷ [] in
    let all = each_last constant_lexemes (constants_tree before) (constant_tree last)
    (parted_constants_said before (back head (constants_tokens before) d)) (told_said last (back (head ++ constants_tokens before) last.row e)) in
    both (constants_lexemes zs) (mark m.CloseBrace ∷ []) (constants_said zs all) tt

initial_shaped : (v : InitialPhrase) → IsShapedInitial (initial_tree v)
initial_shaped no_initial = tt
initial_shaped (one_initial sign constant) = tt
initial_shaped (many_initial head [] last close) = tt
initial_shaped (many_initial head (c ∷ rest) last close) = tt

length_said : (n : Option (List Seen)) → AreSaid (length_tokens n) → AreSayable (length_lexemes (length_tree n))
length_said None s = tt
length_said (Some row) s = (value_said 1 row s, tt)

global_said : (g : GlobalPhrase) → IsGlobal g → AreSaid (global_tokens g) → AreSayable (global_lexemes (global_tree g))
global_said g is s =
    let t = global_tree g in
    let e = front (declaration_tokens g.declaration ++ length_tokens g.length ++ initial_tokens g.initial) g.tail s in
    let d = front (declaration_tokens g.declaration ++ length_tokens g.length) (initial_tokens g.initial) e in
    let declaration = declared_said g.declaration is.0 (front (declaration_tokens g.declaration) (length_tokens g.length) d) in
    let length = length_said g.length (back (declaration_tokens g.declaration) (length_tokens g.length) d) in
    let initial = initial_said g.initial (back (declaration_tokens g.declaration ++ length_tokens g.length) (initial_tokens g.initial) e) in
    both (declaration_lexemes t.ty t.name ++ length_lexemes t.len ++ initial_lexemes t.initial) (mark m.Semicolon ∷ [])
    (both (declaration_lexemes t.ty t.name ++ length_lexemes t.len) (initial_lexemes t.initial) (both (declaration_lexemes t.ty t.name) (length_lexemes t.len) declaration length) initial) tt

-- ---- marks and parameters

regions_said : (rows : List (List Seen)) → AreRegions rows → AreSaid (region_tokens rows) → AreSayable (regions_lexemes (region_trees rows))
regions_said [] is s = tt
regions_said (row ∷ rest) is s =
    let here = front row (region_tokens rest) s in
    let name_is = name_said 2 (the_region ∷ left_parenthesis ∷ a_name ∷ comma ∷ a_literal ∷ comma ∷ a_literal ∷ right_parenthesis ∷ []) row refl is.0 here in
    (name_is, (value_said 4 row here, (value_said 6 row here, regions_said rest is.1 (back row (region_tokens rest) s))))

mark_said : (k : Option MarkPhrase) → IsMark k → AreSaid (mark_tokens k) → AreSayable (mark_lexemes (mark_tree k))
mark_said None is s = tt
mark_said (Some k) is s = (value_said 2 k.head (front k.head (region_tokens k.regions) s), regions_said k.regions is.1 (back k.head (region_tokens k.regions) s))

range_said : (r : Option RangePhrase) → AreSaid (range_tokens r) → AreSayable (range_lexemes (range_tree r))
range_said None s = tt
range_said (Some r) s =
    let e = front (r.head ++ r.low.row ++ r.middle ++ r.high.row) r.close s in
    let d = front (r.head ++ r.low.row ++ r.middle) r.high.row e in
    let c = front (r.head ++ r.low.row) r.middle d in
    let low_is = constant_lexemes (constant_tree r.low) in
    let high_is = constant_lexemes (constant_tree r.high) in
    both (low_is ++ (mark m.Comma ∷ []) ++ high_is) (mark m.CloseParenthesis ∷ [])
    (both (low_is ++ mark m.Comma ∷ []) high_is (both low_is (mark m.Comma ∷ []) (told_said r.low (back r.head r.low.row c)) tt)
    (told_said r.high (back (r.head ++ r.low.row ++ r.middle) r.high.row e))) tt

parameter_said : (p : ParameterPhrase) → IsParameter p → AreSaid (parameter_tokens p) → AreSayable (parameter_lexemes (parameter_tree p))
parameter_said p is s =
    let t = parameter_tree p in
    both (declaration_lexemes t.ty t.name) (range_lexemes t.range) (declared_said p.declaration is.0 (front (declaration_tokens p.declaration) (range_tokens p.range) s))
    (range_said p.range (back (declaration_tokens p.declaration) (range_tokens p.range) s))

parted_parameters_said : (before : List PartedParameter) → ArePartedParameters before → AreSaid (parted_parameter_tokens before) → Each parameter_lexemes (parted_parameter_trees before)
parted_parameters_said [] is s = tt
parted_parameters_said (p ∷ rest) is s =
    let here = front (parameter_tokens p.0 ++ p.1) (parted_parameter_tokens rest) s in
    (parameter_said p.0 is.0 (front (parameter_tokens p.0) p.1 here), parted_parameters_said rest is.2 (back (parameter_tokens p.0 ++ p.1) (parted_parameter_tokens rest) s))

more_parameters_said : (ps : List Parameter) → Each parameter_lexemes ps → AreSayable (more_parameters ps)
more_parameters_said [] p = tt
more_parameters_said (x ∷ rest) p = both (parameter_lexemes x) (more_parameters rest) p.0 (more_parameters_said rest p.1)

parameter_list_said : (ps : List Parameter) → Each parameter_lexemes ps → AreSayable (parameters_lexemes ps)
parameter_list_said [] p = tt
parameter_list_said (x ∷ rest) p = both (parameter_lexemes x) (more_parameters rest) p.0 (more_parameters_said rest p.1)

parameters_said : (ps : ParametersPhrase) → AreParameters ps → AreSaid (parameters_tokens ps) → AreSayable (parameters_lexemes (parameters_tree ps))
parameters_said (of_void row) is s = tt
parameters_said (of_parameters before last) is s =
    parameter_list_said _ (each_last parameter_lexemes (parted_parameter_trees before) (parameter_tree last)
    (parted_parameters_said before is.0 (front (parted_parameter_tokens before) (parameter_tokens last) s))
    (parameter_said last is.1 (back (parted_parameter_tokens before) (parameter_tokens last) s)))

void_form : (form : TypeForm) → is_void (type_of form) ≡ is_void_form form
void_form void_type = refl
void_form _ = refl

parameters_shaped : (ps : ParametersPhrase) → AreParameters ps → BeginsShaped (map unplaced_parameter (parameters_tree ps))
parameters_shaped (of_void row) is = tt
parameters_shaped (of_parameters [] last) is = void_form last.declaration.form ∙ is.2
parameters_shaped (of_parameters (p ∷ rest) last) is = void_form p.0.declaration.form ∙ is.2

-- ---- functions

locals_said : (ls : List LocalPhrase) → AreLocals ls → AreSaid (local_tokens ls) → AreSayable (locals_lexemes (local_trees ls))
locals_said [] is s = tt
locals_said (l ∷ rest) is s =
    let tokens = declaration_tokens l.declaration ++ l.sign ++ spelled l.value ++ l.tail in
    let f = front tokens (local_tokens rest) s in
    let e = front (declaration_tokens l.declaration ++ l.sign ++ spelled l.value) l.tail f in
    let d = front (declaration_tokens l.declaration ++ l.sign) (spelled l.value) e in
    let value = expression_lexemes 1 (tree l.value) in
    let start = declaration_lexemes (type_of l.declaration.form) (name_at 0 l.declaration.name_row) in
    let start_said = declared_said l.declaration is.0 (front (declaration_tokens l.declaration) l.sign d) in
    let value_is = expression_said l.value (back (declaration_tokens l.declaration ++ l.sign) (spelled l.value) e) 1 in
    both (start ++ (mark m.Equal ∷ []) ++ value ++ mark m.Semicolon ∷ []) (locals_lexemes (local_trees rest))
    (both (start ++ (mark m.Equal ∷ []) ++ value) (mark m.Semicolon ∷ []) (both (start ++ mark m.Equal ∷ []) value (both start (mark m.Equal ∷ []) start_said tt) value_is) tt)
    (locals_said rest is.4 (back tokens (local_tokens rest) s))

result_said : (r : Option ResultPhrase) → AreSaid (result_tokens r) → AreSayable (result_lexemes (result_tree r))
result_said None s = tt
result_said (Some r) s =
    both (expression_lexemes 1 (tree r.value)) (mark m.Semicolon ∷ []) (expression_said r.value (back r.head (spelled r.value) (front (r.head ++ spelled r.value) r.tail s)) 1) tt

function_said : (f : FunctionPhrase) → IsFunction f → AreSaid (function_tokens f) → AreSayable (function_lexemes (function_tree f))
function_said f is s =
    let to_name = mark_tokens f.mark ++ declaration_tokens f.declaration in
    let to_params = to_name ++ f.opening ++ parameters_tokens f.params in
    let to_locals = to_params ++ f.begins ++ local_tokens f.locals in
    let to_body = to_locals ++ all_written f.body in
    let s8 = front (to_body ++ result_tokens f.result) f.tail s in
    let s7 = front to_body (result_tokens f.result) s8 in
    let s6 = front to_locals (all_written f.body) s7 in
    let s5 = front (to_params ++ f.begins) (local_tokens f.locals) s6 in
    let s4 = front to_params f.begins s5 in
    let s3 = front (to_name ++ f.opening) (parameters_tokens f.params) s4 in
    let s2 = front to_name f.opening s3 in
    let k = mark_said f.mark is.0 (front (mark_tokens f.mark) (declaration_tokens f.declaration) s2) in
    let d = declared_said f.declaration is.1 (back (mark_tokens f.mark) (declaration_tokens f.declaration) s2) in
    let p = parameters_said f.params is.3 (back (to_name ++ f.opening) (parameters_tokens f.params) s4) in
    let l = locals_said f.locals is.5 (back (to_params ++ f.begins) (local_tokens f.locals) s6) in
    let b = all_statements_said f.body is.6 (back to_locals (all_written f.body) s7) in
    let r = result_said f.result (back to_body (result_tokens f.result) s8) in
    let t = function_tree f in
    let opening = mark m.OpenParenthesis ∷ [] in
    let begins = mark m.CloseParenthesis ∷ mark m.OpenBrace ∷ [] in
    let x2 = mark_lexemes t.mark ++ declaration_lexemes t.ty t.name in
    let x4 = x2 ++ opening ++ parameters_lexemes t.params in
    let x6 = x4 ++ begins ++ locals_lexemes t.locals in
    let x7 = x6 ++ statements_lexemes t.body in
    let p2 = both (mark_lexemes t.mark) (declaration_lexemes t.ty t.name) k d in
    let p4 = both (x2 ++ opening) (parameters_lexemes t.params) (both x2 opening p2 tt) p in
    let p6 = both (x4 ++ begins) (locals_lexemes t.locals) (both x4 begins p4 tt) l in
    both (x7 ++ result_lexemes t.result) (mark m.CloseBrace ∷ []) (both x7 (result_lexemes t.result) (both x6 (statements_lexemes t.body) p6 b) r) tt

-- ---- programs

item_said : (x : ItemPhrase) → IsItem x → AreSaid (item_tokens x) → AreSayable (item_lexemes (item_tree x))
item_said (of_global g) is s = global_said g is s
item_said (of_function f) is s = function_said f is s

item_shaped : (x : ItemPhrase) → IsItem x → IsShapedItem (unplaced_item (item_tree x))
item_shaped (of_global g) is = initial_shaped g.initial
item_shaped (of_function f) is = (parameters_shaped f.params is.3, all_shaped f.body is.6)

pub items_said : (xs : List ItemPhrase) → AreItems xs → AreSaid (items_tokens xs) → AreSayable (program_lexemes (items_tree xs))
items_said [] is s = tt
items_said (x ∷ rest) is s =
    both (item_lexemes (item_tree x)) (program_lexemes (items_tree rest)) (item_said x is.0 (front (item_tokens x) (items_tokens rest) s))
    (items_said rest is.1 (back (item_tokens x) (items_tokens rest) s))

pub items_shaped : (xs : List ItemPhrase) → AreItems xs → AreShapedItems (unplaced (items_tree xs))
items_shaped [] is = tt
items_shaped (x ∷ rest) is = (item_shaped x is.0, items_shaped rest is.1)
