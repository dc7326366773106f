-- The grammar of items and programs: phrases as they are spelled.
use Rattle.std.specs.Prelude.{◌≡◌, ℕ, ℤ, Bool, true, false, List, [], ◌∷◌, ◌++◌, Option, None, Some}
use Rattle.prem_text.specs.Prelude.{Expression, Parameter, LocalVariable, RegionText, MarkText, InitialValue, absent, one, many, GlobalVariable, FunctionText, ItemText, global_item}
use Rattle.prem_text.specs.Prelude.{function_item, ProgramText, Ty, Void, Short, Ushort, Schar, Uchar}
use Rattle.prem_syntax.specs.declared.tree.Ty.TheVariants.{Int, Unsigned}
use Rattle.prem_text.specs.Grammar.Item.{constant_of}
use Rattle.prem_text.specs.Grammar.Phrases.{Phrase, spelled, tree, IsExpression, IsRow, name_at, quiet, counted}
use Rattle.prem_text.specs.Grammar.Slots.{Slot, left_parenthesis, right_parenthesis, left_brace, right_brace, left_bracket, right_bracket, semicolon, comma, equal_sign, minus_sign, a_name}
use Rattle.prem_text.specs.Grammar.Slots.{a_literal, the_return, the_void, the_range, the_predictable, the_region, the_int, the_short, the_signed, the_char, the_unsigned, the_end, value_at}
use Rattle.prem_text.specs.Grammar.Slots.{place_at}
use Rattle.prem_text.specs.Grammar.Statement.{listed}
use Rattle.prem_text.specs.Grammar.StatementPhrases.{StatementPhrases, AreStatements, all_written, all_meant, all_past}
use Rattle.prem_text.specs.Lexing.Token.Lexeme.{Seen}

-- ---- types and constants

pub data TypeForm : Type 0 where
  void_type : TypeForm
  int_type : TypeForm
  short_type : TypeForm
  signed_char_type : TypeForm
  unsigned_type : TypeForm
  unsigned_int_type : TypeForm
  unsigned_short_type : TypeForm
  unsigned_char_type : TypeForm

abbrev pub type_slots : TypeForm → List Slot
type_slots void_type = the_void ∷ []
type_slots int_type = the_int ∷ []
type_slots short_type = the_short ∷ []
type_slots signed_char_type = the_signed ∷ the_char ∷ []
type_slots unsigned_type = the_unsigned ∷ []
type_slots unsigned_int_type = the_unsigned ∷ the_int ∷ []
type_slots unsigned_short_type = the_unsigned ∷ the_short ∷ []
type_slots unsigned_char_type = the_unsigned ∷ the_char ∷ []

abbrev pub type_of : TypeForm → Ty
type_of void_type = Void
type_of int_type = Int
type_of short_type = Short
type_of signed_char_type = Schar
type_of unsigned_type = Unsigned
type_of unsigned_int_type = Unsigned
type_of unsigned_short_type = Ushort
type_of unsigned_char_type = Uchar

-- a type and the name behind it
pub record Declaration : Type 0 where
  pub form : TypeForm
  pub type_row : List Seen
  pub name_row : List Seen

abbrev pub IsDeclaration : Declaration → Type 0
IsDeclaration d = IsRow (type_slots d.form) d.type_row × IsRow (a_name ∷ []) d.name_row

abbrev pub declaration_tokens : Declaration → List Seen
declaration_tokens d = d.type_row ++ d.name_row

-- a literal, with `-` before it where it is negative
pub record ConstantPhrase : Type 0 where
  pub negative : Bool
  pub row : List Seen

abbrev pub constant_slots : Bool → List Slot
constant_slots false = a_literal ∷ []
constant_slots true = minus_sign ∷ a_literal ∷ []

abbrev pub constant_value : Bool → List Seen → ℤ
constant_value false row = constant_of false (value_at 0 row)
constant_value true row = constant_of true (value_at 1 row)

abbrev pub IsConstant : ConstantPhrase → Type 0
IsConstant c = IsRow (constant_slots c.negative) c.row

abbrev pub constant_tree : ConstantPhrase → ℤ
constant_tree c = constant_value c.negative c.row

-- ---- globals

-- a constant and the token that parts it from the next one
abbrev pub PartedConstant : Type 0
PartedConstant = ConstantPhrase × List Seen

pub data InitialPhrase : Type 0 where
  no_initial : InitialPhrase
  one_initial : (sign : List Seen) (constant : ConstantPhrase) → InitialPhrase
  many_initial : (head : List Seen) (before : List PartedConstant) (last : ConstantPhrase) (close : List Seen) → InitialPhrase

abbrev pub ArePartedConstants : List PartedConstant → Type 0
ArePartedConstants [] = Unit {0}
ArePartedConstants (c ∷ rest) = IsConstant c.0 × IsRow (comma ∷ []) c.1 × ArePartedConstants rest

abbrev pub IsInitial : InitialPhrase → Type 0
IsInitial no_initial = Unit {0}
IsInitial (one_initial sign constant) = IsRow (equal_sign ∷ []) sign × IsConstant constant
IsInitial (many_initial head before last close) =
    IsRow (equal_sign ∷ left_brace ∷ []) head × ArePartedConstants before × IsConstant last × IsRow (right_brace ∷ []) close

abbrev pub constants_tokens : List PartedConstant → List Seen
constants_tokens [] = []
constants_tokens (c ∷ rest) = c.0.row ++ c.1 ++ constants_tokens rest

abbrev pub constants_tree : List PartedConstant → List ℤ
constants_tree [] = []
constants_tree (c ∷ rest) = constant_tree c.0 ∷ constants_tree rest

abbrev pub initial_tokens : InitialPhrase → List Seen
initial_tokens no_initial = []
initial_tokens (one_initial sign constant) = sign ++ constant.row
initial_tokens (many_initial head before last close) = head ++ constants_tokens before ++ last.row ++ close

abbrev pub initial_tree : InitialPhrase → InitialValue
initial_tree no_initial = absent
initial_tree (one_initial sign constant) = one (constant_tree constant)
initial_tree (many_initial head before last close) = many (constants_tree before ++ constant_tree last ∷ [])

-- `[ literal ]`, or nothing
abbrev pub IsLength : Option (List Seen) → Type 0
IsLength None = Unit {0}
IsLength (Some row) = IsRow (left_bracket ∷ a_literal ∷ right_bracket ∷ []) row

abbrev pub length_tokens : Option (List Seen) → List Seen
length_tokens None = []
length_tokens (Some row) = row

abbrev pub length_tree : Option (List Seen) → Option ℕ
length_tree None = None
length_tree (Some row) = Some (value_at 1 row)

pub record GlobalPhrase : Type 0 where
  pub declaration : Declaration
  pub length : Option (List Seen)
  pub initial : InitialPhrase
  pub tail : List Seen

abbrev pub IsGlobal : GlobalPhrase → Type 0
IsGlobal g = IsDeclaration g.declaration × IsLength g.length × IsInitial g.initial × IsRow (semicolon ∷ []) g.tail

abbrev pub global_tokens : GlobalPhrase → List Seen
global_tokens g = declaration_tokens g.declaration ++ length_tokens g.length ++ initial_tokens g.initial ++ g.tail

abbrev pub global_tree : GlobalPhrase → GlobalVariable
global_tree g = record {
  at = place_at 0 g.declaration.name_row;
  ty = type_of g.declaration.form;
  name = name_at 0 g.declaration.name_row;
  len = length_tree g.length;
  initial = initial_tree g.initial;
}

-- ---- marks

-- `PREDICTABLE ( literal )` and its regions, each a row
pub record MarkPhrase : Type 0 where
  pub head : List Seen
  pub regions : List (List Seen)

abbrev pub AreRegions : List (List Seen) → Type 0
AreRegions [] = Unit {0}
AreRegions (row ∷ rest) =
    IsRow (the_region ∷ left_parenthesis ∷ a_name ∷ comma ∷ a_literal ∷ comma ∷ a_literal ∷ right_parenthesis ∷ []) row × AreRegions rest

abbrev pub region_tokens : List (List Seen) → List Seen
region_tokens [] = []
region_tokens (row ∷ rest) = row ++ region_tokens rest

abbrev pub region_trees : List (List Seen) → List RegionText
region_trees [] = []
region_trees (row ∷ rest) = record { at = place_at 2 row; name = name_at 2 row; low = value_at 4 row; high = value_at 6 row } ∷ region_trees rest

abbrev pub IsMark : Option MarkPhrase → Type 0
IsMark None = Unit {0}
IsMark (Some m) = IsRow (the_predictable ∷ left_parenthesis ∷ a_literal ∷ right_parenthesis ∷ []) m.head × AreRegions m.regions

abbrev pub mark_tokens : Option MarkPhrase → List Seen
mark_tokens None = []
mark_tokens (Some m) = m.head ++ region_tokens m.regions

abbrev pub mark_tree : Option MarkPhrase → Option MarkText
mark_tree None = None
mark_tree (Some m) = Some record { stated = value_at 2 m.head; regions = region_trees m.regions }

-- ---- parameters

-- `RANGE ( const , const )`
pub record RangePhrase : Type 0 where
  pub head : List Seen
  pub low : ConstantPhrase
  pub middle : List Seen
  pub high : ConstantPhrase
  pub close : List Seen

abbrev pub IsRange : Option RangePhrase → Type 0
IsRange None = Unit {0}
IsRange (Some r) =
    IsRow (the_range ∷ left_parenthesis ∷ []) r.head × IsConstant r.low × IsRow (comma ∷ []) r.middle × IsConstant r.high × IsRow (right_parenthesis ∷ []) r.close

abbrev pub range_tokens : Option RangePhrase → List Seen
range_tokens None = []
range_tokens (Some r) = r.head ++ r.low.row ++ r.middle ++ r.high.row ++ r.close

abbrev pub range_tree : Option RangePhrase → Option (ℤ × ℤ)
range_tree None = None
range_tree (Some r) = Some (constant_tree r.low, constant_tree r.high)

pub record ParameterPhrase : Type 0 where
  pub declaration : Declaration
  pub range : Option RangePhrase

abbrev pub IsParameter : ParameterPhrase → Type 0
IsParameter p = IsDeclaration p.declaration × IsRange p.range

abbrev pub parameter_tokens : ParameterPhrase → List Seen
parameter_tokens p = declaration_tokens p.declaration ++ range_tokens p.range

abbrev pub parameter_tree : ParameterPhrase → Parameter
parameter_tree p = record {
  at = place_at 0 p.declaration.name_row;
  ty = type_of p.declaration.form;
  name = name_at 0 p.declaration.name_row;
  range = range_tree p.range;
}

-- a parameter and the token that parts it from the next one
abbrev pub PartedParameter : Type 0
PartedParameter = ParameterPhrase × List Seen

pub data ParametersPhrase : Type 0 where
  of_void : (row : List Seen) → ParametersPhrase
  of_parameters : (before : List PartedParameter) (last : ParameterPhrase) → ParametersPhrase

abbrev pub is_void_form : TypeForm → Bool
is_void_form void_type = true
is_void_form _ = false

-- whether the first of some parameters is void
abbrev pub begins_void : List PartedParameter → ParameterPhrase → Bool
begins_void [] last = is_void_form last.declaration.form
begins_void (p ∷ rest) last = is_void_form p.0.declaration.form

abbrev pub ArePartedParameters : List PartedParameter → Type 0
ArePartedParameters [] = Unit {0}
ArePartedParameters (p ∷ rest) = IsParameter p.0 × IsRow (comma ∷ []) p.1 × ArePartedParameters rest

-- a list of parameters can't begin with a void one
abbrev pub AreParameters : ParametersPhrase → Type 0
AreParameters (of_void row) = IsRow (the_void ∷ []) row
AreParameters (of_parameters before last) = ArePartedParameters before × IsParameter last × (begins_void before last ≡ false)

abbrev pub parted_parameter_tokens : List PartedParameter → List Seen
parted_parameter_tokens [] = []
parted_parameter_tokens (p ∷ rest) = parameter_tokens p.0 ++ p.1 ++ parted_parameter_tokens rest

abbrev pub parted_parameter_trees : List PartedParameter → List Parameter
parted_parameter_trees [] = []
parted_parameter_trees (p ∷ rest) = parameter_tree p.0 ∷ parted_parameter_trees rest

abbrev pub parameters_tokens : ParametersPhrase → List Seen
parameters_tokens (of_void row) = row
parameters_tokens (of_parameters before last) = parted_parameter_tokens before ++ parameter_tokens last

abbrev pub parameters_tree : ParametersPhrase → List Parameter
parameters_tree (of_void row) = []
parameters_tree (of_parameters before last) = parted_parameter_trees before ++ parameter_tree last ∷ []

-- ---- functions

-- a type, a name, `=`, an expression and `;`
pub record LocalPhrase : Type 0 where
  pub declaration : Declaration
  pub sign : List Seen
  pub value : Phrase
  pub tail : List Seen

abbrev pub AreLocals : List LocalPhrase → Type 0
AreLocals [] = Unit {0}
AreLocals (l ∷ rest) = IsDeclaration l.declaration × IsRow (equal_sign ∷ []) l.sign × IsExpression 1 l.value × IsRow (semicolon ∷ []) l.tail × AreLocals rest

abbrev pub local_tokens : List LocalPhrase → List Seen
local_tokens [] = []
local_tokens (l ∷ rest) = declaration_tokens l.declaration ++ l.sign ++ spelled l.value ++ l.tail ++ local_tokens rest

abbrev pub local_trees : List LocalPhrase → List LocalVariable
local_trees [] = []
local_trees (l ∷ rest) =
    record { at = place_at 0 l.declaration.name_row; ty = type_of l.declaration.form; name = name_at 0 l.declaration.name_row; value = tree l.value } ∷ local_trees rest

abbrev pub local_past : List LocalPhrase → List Bool
local_past [] = []
local_past (l ∷ rest) = quiet (declaration_tokens l.declaration) ++ quiet l.sign ++ counted 1 (spelled l.value) ++ quiet l.tail ++ local_past rest

-- `return`, an expression and `;`
pub record ResultPhrase : Type 0 where
  pub head : List Seen
  pub value : Phrase
  pub tail : List Seen

abbrev pub IsResult : Option ResultPhrase → Type 0
IsResult None = Unit {0}
IsResult (Some r) = IsRow (the_return ∷ []) r.head × IsExpression 1 r.value × IsRow (semicolon ∷ []) r.tail

abbrev pub result_tokens : Option ResultPhrase → List Seen
result_tokens None = []
result_tokens (Some r) = r.head ++ spelled r.value ++ r.tail

abbrev pub result_tree : Option ResultPhrase → Option Expression
result_tree None = None
result_tree (Some r) = Some (tree r.value)

abbrev pub result_past : Option ResultPhrase → List Bool
result_past None = []
result_past (Some r) = quiet r.head ++ counted 1 (spelled r.value) ++ quiet r.tail

pub record FunctionPhrase : Type 0 where
  pub mark : Option MarkPhrase
  pub declaration : Declaration
  pub opening : List Seen
  pub params : ParametersPhrase
  pub begins : List Seen
  pub locals : List LocalPhrase
  pub body : StatementPhrases
  pub result : Option ResultPhrase
  pub tail : List Seen

abbrev pub IsFunction : FunctionPhrase → Type 0
IsFunction f =
    IsMark f.mark × IsDeclaration f.declaration × IsRow (left_parenthesis ∷ []) f.opening × AreParameters f.params × IsRow (right_parenthesis ∷ left_brace ∷ []) f.begins
    × AreLocals f.locals × AreStatements f.body × IsResult f.result × IsRow (right_brace ∷ []) f.tail

abbrev pub function_tokens : FunctionPhrase → List Seen
function_tokens f =
    mark_tokens f.mark ++ declaration_tokens f.declaration ++ f.opening ++ parameters_tokens f.params ++ f.begins
    ++ local_tokens f.locals ++ all_written f.body ++ result_tokens f.result ++ f.tail

abbrev pub function_tree : FunctionPhrase → FunctionText
function_tree f = record {
  at = place_at 0 f.declaration.name_row;
  mark = mark_tree f.mark;
  ty = type_of f.declaration.form;
  name = name_at 0 f.declaration.name_row;
  params = parameters_tree f.params;
  locals = local_trees f.locals;
  body = listed (all_meant f.body);
  result = result_tree f.result;
}

abbrev pub function_past : FunctionPhrase → List Bool
function_past f =
    quiet (mark_tokens f.mark) ++ quiet (declaration_tokens f.declaration) ++ quiet f.opening ++ quiet (parameters_tokens f.params) ++ quiet f.begins
    ++ local_past f.locals ++ all_past 1 f.body ++ result_past f.result ++ quiet f.tail

-- ---- programs

pub data ItemPhrase : Type 0 where
  of_global : GlobalPhrase → ItemPhrase
  of_function : FunctionPhrase → ItemPhrase

abbrev pub IsItem : ItemPhrase → Type 0
IsItem (of_global g) = IsGlobal g
IsItem (of_function f) = IsFunction f

abbrev pub item_tokens : ItemPhrase → List Seen
item_tokens (of_global g) = global_tokens g
item_tokens (of_function f) = function_tokens f

abbrev pub item_tree : ItemPhrase → ItemText
item_tree (of_global g) = global_item (global_tree g)
item_tree (of_function f) = function_item (function_tree f)

abbrev pub item_past : ItemPhrase → List Bool
item_past (of_global g) = quiet (global_tokens g)
item_past (of_function f) = function_past f

abbrev pub AreItems : List ItemPhrase → Type 0
AreItems [] = Unit {0}
AreItems (i ∷ rest) = IsItem i × AreItems rest

abbrev pub items_tokens : List ItemPhrase → List Seen
items_tokens [] = []
items_tokens (i ∷ rest) = item_tokens i ++ items_tokens rest

abbrev pub items_tree : List ItemPhrase → ProgramText
items_tree [] = []
items_tree (i ∷ rest) = item_tree i ∷ items_tree rest

abbrev pub items_past : List ItemPhrase → List Bool
items_past [] = []
items_past (i ∷ rest) = item_past i ++ items_past rest

-- items, and the end of the text
pub record ProgramPhrase : Type 0 where
  pub items : List ItemPhrase
  pub end : List Seen

abbrev pub IsProgram : ProgramPhrase → Type 0
IsProgram p = AreItems p.items × IsRow (the_end ∷ []) p.end

abbrev pub program_tokens : ProgramPhrase → List Seen
program_tokens p = items_tokens p.items ++ p.end

abbrev pub program_tree : ProgramPhrase → ProgramText
program_tree p = items_tree p.items

-- which tokens are past a limit: the 257th of an outermost expression and those behind it, and the first of each
-- statement of nesting 65 or more
abbrev pub program_past : ProgramPhrase → List Bool
program_past p = items_past p.items ++ quiet p.end
