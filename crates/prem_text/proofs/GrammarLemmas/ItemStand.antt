-- What the tokens of an item so far spell, wherever the reader of items stands.
use Rattle.std.proofs.Common.{◌≡◌, ◌-◌, ℕ, ℤ, List, [], ◌∷◌, ◌++◌, Option, None, Some, Bool, true, false, refl, ap, sym, subst, ◌∙◌, append_assoc, arith}
use Rattle.prem_text.proofs.Prelude.{Text, Expression, Statement, Parameter, LocalVariable, RegionText, absent, many, GlobalVariable, FunctionText, ItemText, global_item, function_item}
use Rattle.prem_text.proofs.Prelude.{Place, bottom, State, wants, Move, goes, ends, stops, move, global_ends, global_or, constant_ends, Typing, no_type, after_signed, after_unsigned, a_type}
use Rattle.prem_text.proofs.Prelude.{Declared, an_item, a_parameter, a_local, Constant, range_low, range_high, only_value, next_value, Value, local_value, result_value, ItemRow, mark_row}
use Rattle.prem_text.proofs.Prelude.{region_row, length_row, global_row, body_row, range_row, local_row, end_row, Stage, outside, marked, in_row, in_type, behind_item, behind_global}
use Rattle.prem_text.proofs.Prelude.{before_initial, before_constant, behind_constant, before_parameter, on_parameter, behind_parameter, before_local, in_statements, in_value, finished}
use Rattle.prem_text.proofs.Prelude.{ItemStep, ahead, made, refused, declared, type_or_name, with_initial, constant, with_parameter, parameter_ends, with_local, with_body, with_result}
use Rattle.prem_text.proofs.Prelude.{body_ends, statement_step, begins_type, value_ends, with_region, row_ends, row_goes_on, step, body_begins, Phrase, spelled, tree, IsExpression, IsRow}
use Rattle.prem_text.proofs.Prelude.{name_at, TypeForm, void_type, int_type, short_type, signed_char_type, unsigned_type, unsigned_int_type, unsigned_short_type, unsigned_char_type}
use Rattle.prem_text.proofs.Prelude.{type_slots, type_of, Declaration, IsDeclaration, declaration_tokens, ConstantPhrase, IsConstant, constant_tree, PartedConstant, no_initial, one_initial}
use Rattle.prem_text.proofs.Prelude.{many_initial, ArePartedConstants, constants_tokens, constants_tree, IsLength, length_tokens, length_tree, MarkPhrase, AreRegions, region_tokens}
use Rattle.prem_text.proofs.Prelude.{region_trees, IsMark, mark_tokens, mark_tree, ParameterPhrase, IsParameter, parameter_tokens, parameter_tree, PartedParameter, ParametersPhrase, of_void}
use Rattle.prem_text.proofs.Prelude.{of_parameters, is_void_form, begins_void, ArePartedParameters, AreParameters, parted_parameter_tokens, parted_parameter_trees, parameters_tokens}
use Rattle.prem_text.proofs.Prelude.{parameters_tree, LocalPhrase, AreLocals, local_tokens, local_trees, ItemPhrase, of_global, of_function, IsItem, item_tokens, item_tree, Slot}
use Rattle.prem_text.proofs.Prelude.{left_parenthesis, right_parenthesis, left_brace, right_brace, left_bracket, right_bracket, semicolon, comma, equal_sign, minus_sign, a_name, a_literal}
use Rattle.prem_text.proofs.Prelude.{the_return, the_range, the_predictable, the_signed, the_unsigned, the_end, fits, place_at, is_left_parenthesis, is_right_parenthesis, is_left_bracket}
use Rattle.prem_text.proofs.Prelude.{is_left_brace, is_right_brace, is_comma, is_semicolon, is_equal, is_return, is_void, is_range, is_predictable, is_region, is_end, in_body, Point, Turn}
use Rattle.prem_text.proofs.Prelude.{on, leaves, wrong, turn, listed, StatementPhrases, no_phrases, AreStatements, all_written, all_meant, Lexeme, name, number, word, mark, Seen, append-nil}
use Rattle.prem_text.proofs.GrammarLemmas.FunctionWhole.{opened_function, parameter_of, value_moves, value_step}
use Rattle.prem_text.proofs.GrammarLemmas.ItemWhole.{mark_text, region_slots, region_in, region_ends, global_of}
use Rattle.prem_text.proofs.GrammarLemmas.Sound.{StandsIn, wanting, at_bottom, Fine, move_fine}
use Rattle.prem_text.proofs.GrammarLemmas.Stand.{StandsAt, at_between, body_opened, FineTurn}
use Rattle.prem_text.proofs.GrammarLemmas.Turns.{turn_fine}
use Rattle.std.specs.Prelude.{if◌then◌else◌}
use Rattle.prem_text.specs.declared.lexing.token.token.Mark.TheVariants as m
use Rattle.prem_text.specs.declared.lexing.token.token.Word.TheVariants as w

abbrev pub FreeOf : List PartedParameter → Type 0
FreeOf [] = Unit {0}
FreeOf (q ∷ rest) = is_void_form q.0.declaration.form ≡ false

-- a form of type where any may stand, or all but `void`
abbrev pub Fitting : Bool → TypeForm → Type 0
Fitting true form = Unit {0}
Fitting false form = is_void_form form ≡ false

-- the first parameter may not be void
abbrev pub may_be_void : List PartedParameter → Bool
may_be_void [] = false
may_be_void (q ∷ rest) = true

abbrev pub Allowed : List PartedParameter → TypeForm → Type 0
Allowed before form = Fitting (may_be_void before) form

-- a function up to some parameters, each with the token that parts it from the next
pub data Parameters : FunctionText → List Seen → List PartedParameter → Type 0 where
  parameters_are : (p : Option MarkPhrase) (d : Declaration) (opening : List Seen) (before : List PartedParameter) → IsMark p → IsDeclaration d →
      IsRow (left_parenthesis ∷ []) opening → ArePartedParameters before → FreeOf before →
      Parameters (opened_function p d (parted_parameter_trees before) []) (mark_tokens p ++ declaration_tokens d ++ opening ++ parted_parameter_tokens before) before

-- a function up to some locals
pub data Locals : FunctionText → List Seen → Type 0 where
  locals_are : (p : Option MarkPhrase) (d : Declaration) (opening : List Seen) (params : ParametersPhrase) (begins : List Seen)
      (locals : List LocalPhrase) → IsMark p → IsDeclaration d → IsRow (left_parenthesis ∷ []) opening →
      AreParameters params → IsRow (right_parenthesis ∷ left_brace ∷ []) begins → AreLocals locals →
      Locals (opened_function p d (parameters_tree params) (local_trees locals)) (mark_tokens p ++ declaration_tokens d ++ opening ++ parameters_tokens params ++ begins ++ local_tokens locals)

-- a whole item
pub record Whole (item : ItemText) (ts : List Seen) : Type 0 where
  pub phrase : ItemPhrase
  pub right : IsItem phrase
  pub tree_is : item_tree phrase ≡ item
  pub tokens : item_tokens phrase ≡ ts

-- a function up to its statements
pub data Bodies : FunctionText → List Seen → Type 0 where
  bodies_are : (f : FunctionText) (ts : List Seen) (ss : StatementPhrases) → Locals f ts → AreStatements ss → Bodies (with_body f (listed (all_meant ss))) (ts ++ all_written ss)

pub data DeclaredIs : Declared → List Seen → Bool → Type 0 where
  item_is : (p : Option MarkPhrase) → IsMark p → DeclaredIs (an_item (mark_tree p)) (mark_tokens p) true
  parameter_is : (f : FunctionText) (ts : List Seen) (before : List PartedParameter) → Parameters f ts before → DeclaredIs (a_parameter f) ts (may_be_void before)
  local_is : (f : FunctionText) (ts : List Seen) → Locals f ts → DeclaredIs (a_local f) ts true

pub data TypingIs (may : Bool) : Typing → List Seen → Type 0 where
  no_typing : ((form : TypeForm) → Fitting may form) → TypingIs may no_type []
  signed_typing : (t : Seen) → fits the_signed t.0 ≡ true → ((form : TypeForm) → is_void_form form ≡ false → Fitting may form) → TypingIs may after_signed (t ∷ [])
  unsigned_typing : (t : Seen) → fits the_unsigned t.0 ≡ true → ((form : TypeForm) → is_void_form form ≡ false → Fitting may form) → TypingIs may after_unsigned (t ∷ [])
  whole_typing : (form : TypeForm) (ts : List Seen) → IsRow (type_slots form) ts → Fitting may form → TypingIs may (a_type (type_of form)) ts

pub data ConstantIs : Constant → List Seen → Type 0 where
  low_is : (f : FunctionText) (ts : List Seen) (before : List PartedParameter) (d : Declaration) (head : List Seen) → Parameters f ts before →
      IsDeclaration d → Allowed before d.form → IsRow (the_range ∷ left_parenthesis ∷ []) head →
      ConstantIs (range_low f (parameter_of d None)) (ts ++ declaration_tokens d ++ head)
  high_is : (f : FunctionText) (ts : List Seen) (before : List PartedParameter) (d : Declaration) (head : List Seen) (k : ConstantPhrase)
      (middle : List Seen) → Parameters f ts before → IsDeclaration d → Allowed before d.form → IsRow (the_range ∷ left_parenthesis ∷ []) head →
      IsConstant k → IsRow (comma ∷ []) middle → ConstantIs (range_high f (parameter_of d None) (constant_tree k)) (ts ++ declaration_tokens d ++ head ++ k.row ++ middle)
  only_is : (d : Declaration) (len : Option (List Seen)) (sign : List Seen) → IsDeclaration d → IsLength len → IsRow (equal_sign ∷ []) sign →
      ConstantIs (only_value (global_of d (length_tree len) absent)) (declaration_tokens d ++ length_tokens len ++ sign)
  next_is : (d : Declaration) (len : Option (List Seen)) (head : List Seen) (before : List PartedConstant) → IsDeclaration d → IsLength len →
      IsRow (equal_sign ∷ left_brace ∷ []) head → ArePartedConstants before →
      ConstantIs (next_value (global_of d (length_tree len) absent) (constants_tree before)) (declaration_tokens d ++ length_tokens len ++ head ++ constants_tokens before)

pub data ValueIs : Value → List Seen → Type 0 where
  local_value_is : (f : FunctionText) (ts : List Seen) (d : Declaration) (sign : List Seen) → Locals f ts → IsDeclaration d → IsRow (equal_sign ∷ []) sign →
      ValueIs (local_value f (type_of d.form) (place_at 0 d.name_row) (name_at 0 d.name_row)) (ts ++ declaration_tokens d ++ sign)
  result_value_is : (f : FunctionText) (ts : List Seen) (head : List Seen) → Bodies f ts → IsRow (the_return ∷ []) head → ValueIs (result_value f) (ts ++ head)

-- a whole row, behind what its item has before it
pub data ItemRowIs : ItemRow → List Seen → List Seen → Type 0 where
  mark_is : (all : List Seen) → IsRow (the_predictable ∷ left_parenthesis ∷ a_literal ∷ right_parenthesis ∷ []) all → ItemRowIs mark_row [] all
  region_is : (p : MarkPhrase) (all : List Seen) → IsMark (Some p) → IsRow region_slots all → ItemRowIs (region_row (mark_text p.head (region_trees p.regions))) (mark_tokens (Some p)) all
  length_is : (d : Declaration) (all : List Seen) → IsDeclaration d → IsRow (left_bracket ∷ a_literal ∷ right_bracket ∷ []) all →
      ItemRowIs (length_row (global_of d None absent)) (declaration_tokens d) all
  global_is : (g : GlobalVariable) (before all : List Seen) → Whole (global_item g) (before ++ all) → ItemRowIs (global_row g) before all
  body_is : (f : FunctionText) (before all : List Seen) → Locals f (before ++ all) → ItemRowIs (body_row f) before all
  range_is : (f : FunctionText) (ts : List Seen) (before : List PartedParameter) (d : Declaration) (all : List Seen) → Parameters f ts before →
      IsDeclaration d → Allowed before d.form → IsRow (the_range ∷ left_parenthesis ∷ []) all →
      ItemRowIs (range_row f (parameter_of d None)) (ts ++ declaration_tokens d) all
  sign_is : (f : FunctionText) (ts : List Seen) (d : Declaration) (all : List Seen) → Locals f ts → IsDeclaration d → IsRow (equal_sign ∷ []) all →
      ItemRowIs (local_row f (type_of d.form) (place_at 0 d.name_row) (name_at 0 d.name_row)) (ts ++ declaration_tokens d) all
  end_is : (f : FunctionText) (before all : List Seen) → Whole (function_item f) (before ++ all) → ItemRowIs (end_row f) before all

-- the tokens of an item so far spell its stage
pub data StageIs : Stage → List Seen → Type 0 where
  is_outside : StageIs outside []
  is_marked : (p : MarkPhrase) → IsMark (Some p) → StageIs (marked (mark_text p.head (region_trees p.regions))) (mark_tokens (Some p))
  is_row : (row : ItemRow) (before got : List Seen) (wanted : Slot) (later : List Slot) →
      ((more : List Seen) → IsRow (wanted ∷ later) more → ItemRowIs row before (got ++ more)) → StageIs (in_row row got wanted later) (before ++ got)
  is_type : (d : Declared) (before : List Seen) (may : Bool) (typing : Typing) (words : List Seen) → DeclaredIs d before may → TypingIs may typing words → StageIs (in_type d typing) (before ++ words)
  is_item : (p : Option MarkPhrase) (d : Declaration) → IsMark p → IsDeclaration d →
      StageIs (behind_item (mark_tree p) (type_of d.form) (place_at 0 d.name_row) (name_at 0 d.name_row)) (mark_tokens p ++ declaration_tokens d)
  is_global : (d : Declaration) (len : Option (List Seen)) → IsDeclaration d → IsLength len → StageIs (behind_global (global_of d (length_tree len) absent)) (declaration_tokens d ++ length_tokens len)
  is_initial : (d : Declaration) (len : Option (List Seen)) (sign : List Seen) → IsDeclaration d → IsLength len → IsRow (equal_sign ∷ []) sign →
      StageIs (before_initial (global_of d (length_tree len) absent)) (declaration_tokens d ++ length_tokens len ++ sign)
  is_constant : (c : Constant) (before : List Seen) → ConstantIs c before → StageIs (before_constant c false) before
  is_negative : (c : Constant) (before : List Seen) (t : Seen) → ConstantIs c before → fits minus_sign t.0 ≡ true → StageIs (before_constant c true) (before ++ t ∷ [])
  is_behind : (c : Constant) (before : List Seen) (k : ConstantPhrase) → ConstantIs c before → IsConstant k → StageIs (behind_constant c (constant_tree k)) (before ++ k.row)
  is_first : (f : FunctionText) (ts : List Seen) → Parameters f ts [] → StageIs (before_parameter f) ts
  is_on : (f : FunctionText) (ts : List Seen) (before : List PartedParameter) (d : Declaration) → Parameters f ts before → IsDeclaration d →
      Allowed before d.form → StageIs (on_parameter f (parameter_of d None)) (ts ++ declaration_tokens d)
  is_parameter : (f : FunctionText) (ts : List Seen) (before : List PartedParameter) (q : ParameterPhrase) → Parameters f ts before → IsParameter q →
      Allowed before q.declaration.form → StageIs (behind_parameter (with_parameter f (parameter_tree q))) (ts ++ parameter_tokens q)
  is_local : (f : FunctionText) (ts : List Seen) → Locals f ts → StageIs (before_local f) ts
  is_statements : (f : FunctionText) (ts mid : List Seen) (p : Point) → Locals f ts → StandsAt p mid → StageIs (in_statements f p) (ts ++ mid)
  is_value : (v : Value) (before mid : List Seen) (s : State) (room : ℕ) → ValueIs v before → StandsIn 1 s mid → StageIs (in_value v s room) (before ++ mid)
  is_finished : (t : Seen) → fits the_end t.0 ≡ true → StageIs finished (t ∷ [])

-- what a step says of the tokens with its own
abbrev pub FineStep : List Seen → ItemStep → Type 0
FineStep now (ahead stage) = StageIs stage now
FineStep now (made item) = Whole item now
FineStep now refused = Unit {0}

if_step : (now : List Seen) (b : Bool) (x y : ItemStep) → (b ≡ true → FineStep now x) → (b ≡ false → FineStep now y) → FineStep now (if b then x else y)
if_step now true x y first second = first refl
if_step now false x y first second = second refl

stage_same : (s : Stage) (xs ys : List Seen) → xs ≡ ys → StageIs s xs → StageIs s ys
stage_same s xs ys same is = subst (λ (l : List Seen). StageIs s l) same is

locals_same : (f : FunctionText) (xs ys : List Seen) → xs ≡ ys → Locals f xs → Locals f ys
locals_same f xs ys same is = subst (λ (l : List Seen). Locals f l) same is

-- ---- types and names

abbrev pub declares : TypeForm → List Seen → Text → Place → Declaration
declares form words x at = record { form = form; type_row = words; name_row = (name x, at) ∷ [] }

declared_fine : (d : Declared) (before : List Seen) (may : Bool) (form : TypeForm) (words : List Seen) (x : Text) (at : Place) →
    DeclaredIs d before may → IsRow (type_slots form) words → Fitting may form →
    StageIs (declared d (type_of form) at x) (before ++ words ++ (name x, at) ∷ [])
declared_fine _ _ _ form words x at (item_is p is) row ok =
    stage_same _ (mark_tokens p ++ declaration_tokens (declares form words x at)) _ (simp append_assoc) (is_item p (declares form words x at) is (row, (refl, tt)))
declared_fine _ _ _ form words x at (parameter_is f ts prior is) row ok =
    stage_same _ (ts ++ declaration_tokens (declares form words x at)) _ (simp append_assoc) (is_on f ts prior (declares form words x at) is (row, (refl, tt)) ok)
declared_fine _ _ _ form words x at (local_is f ts is) row ok =
    stage_same _ (ts ++ declaration_tokens (declares form words x at) ++ []) _ (simp (append_assoc, append-nil))
    (is_row (local_row f (type_of form) at x) (ts ++ declaration_tokens (declares form words x at)) [] equal_sign []
    (λ more fit. sign_is f ts (declares form words x at) more is (row, (refl, tt)) fit))

begin_fine : (d : Declared) (before : List Seen) (may : Bool) (x : Lexeme) (at : Place) → DeclaredIs d before may →
    (is_void x ≡ true → Fitting may void_type) → ((form : TypeForm) → is_void_form form ≡ false → Fitting may form) →
    FineStep (before ++ (x, at) ∷ []) (type_or_name d no_type at x)
begin_fine d before may (word w.Void) at is first others = is_type d before may _ _ is (whole_typing void_type ((word w.Void, at) ∷ []) (refl, tt) (first refl))
begin_fine d before may (word w.Int) at is first others = is_type d before may _ _ is (whole_typing int_type ((word w.Int, at) ∷ []) (refl, tt) (others int_type refl))
begin_fine d before may (word w.Short) at is first others = is_type d before may _ _ is (whole_typing short_type ((word w.Short, at) ∷ []) (refl, tt) (others short_type refl))
begin_fine d before may (word w.Signed) at is first others = is_type d before may _ _ is (signed_typing (word w.Signed, at) refl others)
begin_fine d before may (word w.Unsigned) at is first others = is_type d before may _ _ is (unsigned_typing (word w.Unsigned, at) refl others)
begin_fine d before may (word _) at is first others = tt
begin_fine d before may _ at is first others = tt

type_fine : (d : Declared) (before : List Seen) (may : Bool) (typing : Typing) (words : List Seen) (x : Lexeme) (at : Place) → DeclaredIs d before may → TypingIs may typing words →
    FineStep (before ++ words ++ (x, at) ∷ []) (type_or_name d typing at x)
type_fine d before may _ _ x at is (no_typing all) =
    let same : before ++ (x, at) ∷ [] ≡ before ++ [] ++ (x, at) ∷ [] = simp append-nil in
    subst (λ (l : List Seen). FineStep l (type_or_name d no_type at x)) same (begin_fine d before may x at is (λ h. all void_type) (λ form h. all form))
type_fine d before may _ _ (word w.Char) at is (signed_typing t h others) =
    stage_same _ (before ++ (t ∷ (word w.Char, at) ∷ [])) _ (simp append_assoc)
    (is_type d before may _ _ is (whole_typing signed_char_type (t ∷ (word w.Char, at) ∷ []) (h, (refl, tt)) (others signed_char_type refl)))
type_fine d before may _ _ (word _) at is (signed_typing t h others) = tt
type_fine d before may _ _ _ at is (signed_typing t h others) = tt
type_fine d before may _ _ (word w.Int) at is (unsigned_typing t h others) =
    stage_same _ (before ++ (t ∷ (word w.Int, at) ∷ [])) _ (simp append_assoc)
    (is_type d before may _ _ is (whole_typing unsigned_int_type (t ∷ (word w.Int, at) ∷ []) (h, (refl, tt)) (others unsigned_int_type refl)))
type_fine d before may _ _ (word w.Short) at is (unsigned_typing t h others) =
    stage_same _ (before ++ (t ∷ (word w.Short, at) ∷ [])) _ (simp append_assoc)
    (is_type d before may _ _ is (whole_typing unsigned_short_type (t ∷ (word w.Short, at) ∷ []) (h, (refl, tt)) (others unsigned_short_type refl)))
type_fine d before may _ _ (word w.Char) at is (unsigned_typing t h others) =
    stage_same _ (before ++ (t ∷ (word w.Char, at) ∷ [])) _ (simp append_assoc)
    (is_type d before may _ _ is (whole_typing unsigned_char_type (t ∷ (word w.Char, at) ∷ []) (h, (refl, tt)) (others unsigned_char_type refl)))
type_fine d before may _ _ (word _) at is (unsigned_typing t h others) = tt
type_fine d before may _ _ (name x) at is (unsigned_typing t h others) = declared_fine d before may unsigned_type (t ∷ []) x at is (h, tt) (others unsigned_type refl)
type_fine d before may _ _ _ at is (unsigned_typing t h others) = tt
type_fine d before may _ _ (name x) at is (whole_typing form words row ok) = declared_fine d before may form words x at is row ok
type_fine d before may _ _ _ at is (whole_typing form words row ok) = tt

-- ---- items

item_fine : (t : Seen) → FineStep (t ∷ []) (step outside t)
item_fine t =
    if_step _ (is_end t.0) _ _ (λ h. is_finished t h)
    (λ _. if_step _ (is_predictable t.0) _ _ (λ h. is_row mark_row [] (t ∷ []) left_parenthesis (a_literal ∷ right_parenthesis ∷ []) (λ more fit. mark_is (t ∷ more) (h, fit)))
    (λ _. begin_fine (an_item None) [] true t.0 t.1 (item_is None tt) (λ h. tt) (λ form h. tt)))

marked_fine : (p : MarkPhrase) (t : Seen) → IsMark (Some p) → FineStep (mark_tokens (Some p) ++ t ∷ []) (step (marked (mark_text p.head (region_trees p.regions))) t)
marked_fine p t is =
    if_step _ (is_region t.0) _ _
    (λ h. is_row (region_row (mark_text p.head (region_trees p.regions))) (mark_tokens (Some p)) (t ∷ []) left_parenthesis
    (a_name ∷ comma ∷ a_literal ∷ comma ∷ a_literal ∷ right_parenthesis ∷ []) (λ more fit. region_is p (t ∷ more) is (h, fit)))
    (λ _. begin_fine (an_item (mark_tree (Some p))) (mark_tokens (Some p)) true t.0 t.1 (item_is (Some p) is) (λ h. tt) (λ form h. tt))

global_ends_fine : (d : Declaration) (len : Option (List Seen)) (t : Seen) → IsDeclaration d → IsLength len →
    FineStep (declaration_tokens d ++ length_tokens len ++ t ∷ []) (global_ends (global_of d (length_tree len) absent) t)
global_ends_fine d len t is sized =
    if_step _ (is_equal t.0) _ _ (λ h. is_initial d len (t ∷ []) is sized (h, tt))
    (λ _. if_step _ (is_semicolon t.0) _ refused
    (λ h. record {
      phrase = of_global record { declaration = d; length = len; initial = no_initial; tail = t ∷ [] };
      right = (is, sized, tt, (h, tt));
      tree_is = refl;
      tokens = simp append-nil;
    }) (λ _. tt))

pub named_fine : (p : Option MarkPhrase) (d : Declaration) (t : Seen) → IsMark p → IsDeclaration d →
    FineStep (mark_tokens p ++ declaration_tokens d ++ t ∷ []) (global_or (mark_tree p) (type_of d.form) (place_at 0 d.name_row) (name_at 0 d.name_row) t)
named_fine (Some p) d t marked' is = tt
named_fine None d t marked' is =
    if_step _ (is_left_bracket t.0) _ _
    (λ h. is_row (length_row (global_of d None absent)) (declaration_tokens d) (t ∷ []) a_literal (right_bracket ∷ []) (λ more fit. length_is d (t ∷ more) is (h, fit)))
    (λ _. let same : declaration_tokens d ++ [] ++ t ∷ [] ≡ declaration_tokens d ++ t ∷ [] = simp append-nil in
    subst (λ (l : List Seen). FineStep l (global_ends (global_of d None absent) t)) same (global_ends_fine d None t is tt))

behind_item_fine : (p : Option MarkPhrase) (d : Declaration) (t : Seen) → IsMark p → IsDeclaration d →
    FineStep (mark_tokens p ++ declaration_tokens d ++ t ∷ []) (step (behind_item (mark_tree p) (type_of d.form) (place_at 0 d.name_row) (name_at 0 d.name_row)) t)
behind_item_fine p d t marked' is =
    if_step _ (is_left_parenthesis t.0) _ _
    (λ h. stage_same _ (mark_tokens p ++ declaration_tokens d ++ t ∷ [] ++ []) _ (simp append-nil) (is_first _ _ (parameters_are p d (t ∷ []) [] marked' is (h, tt) tt tt)))
    (λ _. named_fine p d t marked' is)

-- ---- constants

constant_fine : (c : Constant) (before : List Seen) (x : Lexeme) (at : Place) → ConstantIs c before → FineStep (before ++ (x, at) ∷ []) (constant c false x)
constant_fine c before (number v k) at is = is_behind c before record { negative = false; row = (number v k, at) ∷ [] } is (refl, tt)
constant_fine c before (mark m.Minus) at is = is_negative c before (mark m.Minus, at) is refl
constant_fine c before (mark _) at is = tt
constant_fine c before _ at is = tt

negative_fine : (c : Constant) (before : List Seen) (t : Seen) (x : Lexeme) (at : Place) → ConstantIs c before → fits minus_sign t.0 ≡ true →
    FineStep (before ++ t ∷ [] ++ (x, at) ∷ []) (constant c true x)
negative_fine c before t (number v k) at is h =
    stage_same _ (before ++ (t ∷ (number v k, at) ∷ [])) _ (simp append_assoc) (is_behind c before record { negative = true; row = t ∷ (number v k, at) ∷ [] } is (h, (refl, tt)))
negative_fine c before t (mark m.Minus) at is h = tt
negative_fine c before t (mark _) at is h = tt
negative_fine c before t _ at is h = tt

initial_fine : (d : Declaration) (len : Option (List Seen)) (sign : List Seen) (t : Seen) → IsDeclaration d → IsLength len → IsRow (equal_sign ∷ []) sign →
    FineStep (declaration_tokens d ++ length_tokens len ++ sign ++ t ∷ []) (step (before_initial (global_of d (length_tree len) absent)) t)
initial_fine d len [] t is sized row = absurd row
initial_fine d len (s ∷ s' ∷ ts) t is sized row = absurd row.1
initial_fine d len (s ∷ []) t is sized row =
    if_step _ (is_left_brace t.0) _ _
    (λ h. stage_same _ (declaration_tokens d ++ length_tokens len ++ (s ∷ t ∷ []) ++ []) _ (simp (append_assoc, append-nil))
    (is_constant _ _ (next_is d len (s ∷ t ∷ []) [] is sized (row.0, (h, tt)) tt)))
    (λ _. constant_fine _ _ t.0 t.1 (only_is d len (s ∷ []) is sized row))

abbrev pub parted_constant : ConstantPhrase → Seen → PartedConstant
parted_constant k t = (k, t ∷ [])

pub more_constants : (before : List PartedConstant) (k : ConstantPhrase) (t : Seen) → constants_tree (before ++ parted_constant k t ∷ []) ≡ constants_tree before ++ constant_tree k ∷ []
more_constants [] k t = refl
more_constants (c ∷ rest') k t = ap (λ (l : List ℤ). constant_tree c.0 ∷ l) (more_constants rest' k t)

more_constant_tokens : (before : List PartedConstant) (k : ConstantPhrase) (t : Seen) → constants_tokens (before ++ parted_constant k t ∷ []) ≡ constants_tokens before ++ (k.row ++ t ∷ [])
more_constant_tokens [] k t = append-nil (k.row ++ t ∷ [])
more_constant_tokens (c ∷ rest') k t = ap (λ (l : List Seen). c.0.row ++ c.1 ++ l) (more_constant_tokens rest' k t) ∙ simp append_assoc

more_are_constants : (before : List PartedConstant) (k : ConstantPhrase) (t : Seen) → ArePartedConstants before → IsConstant k →
    IsRow (comma ∷ []) (t ∷ []) → ArePartedConstants (before ++ parted_constant k t ∷ [])
more_are_constants [] k t all is row = (is, row, tt)
more_are_constants (c ∷ rest') k t all is row = (all.0, all.1, more_are_constants rest' k t all.2 is row)

constant_ends_fine : (c : Constant) (before : List Seen) (k : ConstantPhrase) (t : Seen) → ConstantIs c before → IsConstant k →
    FineStep (before ++ k.row ++ t ∷ []) (constant_ends c (constant_tree k) t)
constant_ends_fine _ _ k t (low_is f ts prior d head begun is ok row) constant_is =
    if_step _ (is_comma t.0) _ refused (λ h. is_constant _ _ (high_is f ts prior d head k (t ∷ []) begun is ok row constant_is (h, tt))) (λ _. tt)
constant_ends_fine _ _ k t (high_is f ts prior d head low middle begun is ok row low_is' parts) constant_is =
    if_step _ (is_right_parenthesis t.0) _ refused
    (λ h. stage_same _ (ts ++ (declaration_tokens d ++ (head ++ low.row ++ middle ++ k.row ++ t ∷ []))) _ (simp append_assoc)
    (is_parameter f ts prior record { declaration = d; range = Some record { head = head; low = low; middle = middle; high = k; close = t ∷ [] } }
    begun (is, (row, low_is', parts, constant_is, (h, tt))) ok)) (λ _. tt)
constant_ends_fine _ _ k t (only_is d len sign is sized row) constant_is =
    if_step _ (is_semicolon t.0) _ refused
    (λ h. record {
      phrase = of_global record { declaration = d; length = len; initial = one_initial sign k; tail = t ∷ [] };
      right =
          (is, sized, (row, constant_is), (h, tt));
      tree_is = refl;
      tokens = simp append_assoc;
    }) (λ _. tt)
constant_ends_fine _ _ k t (next_is d len head prior is sized row all) constant_is =
    if_step _ (is_comma t.0) _ _
    (λ h. let same : declaration_tokens d ++ length_tokens len ++ head ++ constants_tokens (prior ++ parted_constant k t ∷ []) ≡ declaration_tokens d
    ++ length_tokens len ++ head ++ constants_tokens prior ++ k.row ++ t ∷ [] =
    ap (λ (l : List Seen). declaration_tokens d ++ length_tokens len ++ head ++ l) (more_constant_tokens prior k t) ∙ simp append_assoc in
    subst (λ (l : List ℤ). StageIs (before_constant (next_value (global_of d (length_tree len) absent) l) false)
    (declaration_tokens d ++ length_tokens len ++ head ++ constants_tokens prior ++ k.row ++ t ∷ [])) (more_constants prior k t)
    (stage_same _ _ _ same (is_constant _ _ (next_is d len head (prior ++ parted_constant k t ∷ []) is sized row (more_are_constants prior k t all constant_is (h, tt))))))
    (λ _. if_step _ (is_right_brace t.0) _ refused
    (λ h. is_row (global_row (with_initial (global_of d (length_tree len) absent) (many (constants_tree prior ++ constant_tree k ∷ []))))
    (declaration_tokens d ++ length_tokens len ++ head ++ constants_tokens prior ++ k.row) (t ∷ []) semicolon []
    (λ more fit. global_is _ _ _ record {
      phrase =
          of_global record { declaration = d; length = len; initial = many_initial head prior k (t ∷ []); tail = more };
      right =
          (is, sized, (row, all, constant_is, (h, tt)), fit);
      tree_is = refl;
      tokens = simp append_assoc;
    })) (λ _. tt))

-- ---- parameters

abbrev pub parted_parameter : ParameterPhrase → Seen → PartedParameter
parted_parameter q t = (q, t ∷ [])

pub more_parameters : (before : List PartedParameter) (q : ParameterPhrase) (t : Seen) →
    parted_parameter_trees (before ++ parted_parameter q t ∷ []) ≡ parted_parameter_trees before ++ parameter_tree q ∷ []
more_parameters [] q t = refl
more_parameters (c ∷ rest') q t = ap (λ (l : List Parameter). parameter_tree c.0 ∷ l) (more_parameters rest' q t)

more_parameter_tokens : (before : List PartedParameter) (q : ParameterPhrase) (t : Seen) →
    parted_parameter_tokens (before ++ parted_parameter q t ∷ []) ≡ parted_parameter_tokens before ++ (parameter_tokens q ++ t ∷ [])
more_parameter_tokens [] q t = append-nil (parameter_tokens q ++ t ∷ [])
more_parameter_tokens (c ∷ rest') q t = ap (λ (l : List Seen). parameter_tokens c.0 ++ c.1 ++ l) (more_parameter_tokens rest' q t) ∙ simp append_assoc

more_are_parameters : (before : List PartedParameter) (q : ParameterPhrase) (t : Seen) → ArePartedParameters before → IsParameter q →
    IsRow (comma ∷ []) (t ∷ []) → ArePartedParameters (before ++ parted_parameter q t ∷ [])
more_are_parameters [] q t all is row = (is, row, tt)
more_are_parameters (c ∷ rest') q t all is row = (all.0, all.1, more_are_parameters rest' q t all.2 is row)

more_free : (before : List PartedParameter) (q : ParameterPhrase) (t : Seen) → FreeOf before → Allowed before q.declaration.form → FreeOf (before ++ parted_parameter q t ∷ [])
more_free [] q t free ok = ok
more_free (c ∷ rest') q t free ok = free

all_allowed : (before : List PartedParameter) (q : ParameterPhrase) (t : Seen) (form : TypeForm) → Allowed (before ++ parted_parameter q t ∷ []) form
all_allowed [] q t form = tt
all_allowed (c ∷ rest') q t form = tt

pub no_void : (before : List PartedParameter) (q : ParameterPhrase) → FreeOf before → Allowed before q.declaration.form → begins_void before q ≡ false
no_void [] q free ok = ok
no_void (c ∷ rest') q free ok = free

parameter_ends_fine : (f : FunctionText) (ts : List Seen) (before : List PartedParameter) (q : ParameterPhrase) (t : Seen) → Parameters f ts before →
    IsParameter q → Allowed before q.declaration.form →
    FineStep (ts ++ parameter_tokens q ++ t ∷ []) (parameter_ends (with_parameter f (parameter_tree q)) t)
parameter_ends_fine _ _ _ q t (parameters_are p d opening before marked' named opens all free) is ok =
    if_step _ (is_comma t.0) _ _
    (λ h.
    let tokens : (mark_tokens p ++ declaration_tokens d ++ opening ++ parted_parameter_tokens (before ++ parted_parameter q t ∷ [])) ++ []
    ≡ (mark_tokens p ++ declaration_tokens d ++ opening ++ parted_parameter_tokens before) ++ parameter_tokens q ++ t ∷ [] =
    ap (λ (l : List Seen). (mark_tokens p ++ declaration_tokens d ++ opening ++ l) ++ []) (more_parameter_tokens before q t) ∙ simp (append_assoc, append-nil) in
    subst (λ (l : List Parameter). StageIs (in_type (a_parameter (opened_function p d l [])) no_type)
    ((mark_tokens p ++ declaration_tokens d ++ opening ++ parted_parameter_tokens before) ++ parameter_tokens q ++ t ∷ [])) (more_parameters before q t)
    (stage_same _ _ _ tokens (is_type _ _ (may_be_void (before ++ parted_parameter q t ∷ [])) no_type []
    (parameter_is _ _ _ (parameters_are p d opening (before ++ parted_parameter q t ∷ []) marked' named opens
    (more_are_parameters before q t all is (h, tt)) (more_free before q t free ok))) (no_typing (all_allowed before q t)))))
    (λ _. if_step _ (is_right_parenthesis t.0) _ refused
    (λ h. is_row (body_row (with_parameter (opened_function p d (parted_parameter_trees before) []) (parameter_tree q)))
    ((mark_tokens p ++ declaration_tokens d ++ opening ++ parted_parameter_tokens before) ++ parameter_tokens q) (t ∷ []) left_brace []
    (λ more fit. body_is _ _ _ (locals_same _ _ _ (simp (append_assoc, append-nil))
    (locals_are p d opening (of_parameters before q) (t ∷ more) [] marked' named opens (all, is, no_void before q free ok) (h, fit) tt)))) (λ _. tt))

on_parameter_fine : (f : FunctionText) (ts : List Seen) (before : List PartedParameter) (d : Declaration) (t : Seen) → Parameters f ts before → IsDeclaration d → Allowed before d.form →
    FineStep (ts ++ declaration_tokens d ++ t ∷ []) (step (on_parameter f (parameter_of d None)) t)
on_parameter_fine f ts before d t begun is ok =
    if_step _ (is_range t.0) _ _
    (λ h. is_row (range_row f (parameter_of d None)) (ts ++ declaration_tokens d) (t ∷ []) left_parenthesis [] (λ more fit. range_is f ts before d (t ∷ more) begun is ok (h, fit)))
    (λ _. let same : ts ++ (declaration_tokens d ++ []) ++ t ∷ [] ≡ ts ++ declaration_tokens d ++ t ∷ [] = simp append-nil in
    subst (λ (l : List Seen). FineStep l (parameter_ends (with_parameter f (parameter_of d None)) t)) same
    (parameter_ends_fine f ts before record { declaration = d; range = None } t begun (is, tt) ok))

first_fine : (f : FunctionText) (ts : List Seen) (t : Seen) → Parameters f ts [] → FineStep (ts ++ t ∷ []) (step (before_parameter f) t)
first_fine f ts t begun =
    if_step _ (is_void t.0) _ _ (λ h. void_row f ts t begun h)
    (λ h. begin_fine (a_parameter f) ts false t.0 t.1 (parameter_is f ts [] begun) (λ h'. let e : true ≡ false = sym h' ∙ h in absurd cc) (λ form v. v))
  where
    void_row : (f : FunctionText) (ts : List Seen) (t : Seen) → Parameters f ts [] → is_void t.0 ≡ true → StageIs (in_row (body_row f) (t ∷ []) right_parenthesis (left_brace ∷ [])) (ts ++ t ∷ [])
    void_row _ _ t (parameters_are p d opening [] marked' named opens all free) h =
        is_row _ _ (t ∷ []) right_parenthesis (left_brace ∷ [])
        (λ more fit. body_is _ _ _ (locals_same _ _ _ (simp (append_assoc, append-nil)) (locals_are p d opening (of_void (t ∷ [])) more [] marked' named opens (h, tt) fit tt)))

-- ---- the body

more_locals : (locals : List LocalPhrase) (l : LocalPhrase) → local_trees (locals ++ l ∷ []) ≡ local_trees locals ++ local_trees (l ∷ [])
more_locals [] l = refl
more_locals (x ∷ rest') l = ap (λ (k : List LocalVariable). local_trees (x ∷ []) ++ k) (more_locals rest' l)

more_local_tokens : (locals : List LocalPhrase) (l : LocalPhrase) → local_tokens (locals ++ l ∷ []) ≡ local_tokens locals ++ local_tokens (l ∷ [])
more_local_tokens [] l = refl
more_local_tokens (x ∷ rest') l = ap (λ (k : List Seen). declaration_tokens x.declaration ++ x.sign ++ spelled x.value ++ x.tail ++ k) (more_local_tokens rest' l) ∙ simp append_assoc

more_are_locals : (locals : List LocalPhrase) (l : LocalPhrase) → AreLocals locals → AreLocals (l ∷ []) → AreLocals (locals ++ l ∷ [])
more_are_locals [] l all is = is
more_are_locals (x ∷ rest') l all is = (all.0, all.1, all.2, all.3, more_are_locals rest' l all.4 is)

pub one_more_local : (f : FunctionText) (ts : List Seen) (l : LocalPhrase) → Locals f ts → AreLocals (l ∷ []) →
    Locals (with_local f record {
      at = place_at 0 l.declaration.name_row;
      ty = type_of l.declaration.form;
      name = name_at 0 l.declaration.name_row;
      value = tree l.value;
    }) (ts ++ local_tokens (l ∷ []))
one_more_local _ _ l (locals_are p d opening params begins locals marked' named opens given braces all) is =
    let tokens : mark_tokens p ++ declaration_tokens d ++ opening ++ parameters_tokens params ++ begins ++ local_tokens (locals ++ l ∷ [])
    ≡ (mark_tokens p ++ declaration_tokens d ++ opening ++ parameters_tokens params ++ begins ++ local_tokens locals) ++ local_tokens (l ∷ []) =
    ap (λ (k : List Seen). mark_tokens p ++ declaration_tokens d ++ opening ++ parameters_tokens params ++ begins ++ k) (more_local_tokens locals l) ∙ simp append_assoc in
    subst (λ (k : List LocalVariable). Locals (opened_function p d (parameters_tree params) k)
    ((mark_tokens p ++ declaration_tokens d ++ opening ++ parameters_tokens params ++ begins ++ local_tokens locals) ++ local_tokens (l ∷ [])))
    (more_locals locals l)
    (locals_same _ _ _ tokens (locals_are p d opening params begins (locals ++ l ∷ []) marked' named opens given braces (more_are_locals locals l all is)))

body_ends_fine : (f : FunctionText) (ts : List Seen) (t : Seen) → Bodies f ts → FineStep (ts ++ t ∷ []) (body_ends f t)
body_ends_fine _ _ t (bodies_are _ _ ss (locals_are p d opening params begins locals marked' named opens given braces all) right) =
    if_step _ (is_right_brace t.0) _ _
    (λ h. record {
      phrase = of_function record { mark = p; declaration = d; opening = opening; params = params; begins = begins; locals = locals; body = ss; result = None; tail = t ∷ [] };
      right = (marked', named, opens, given, braces, all, right, tt, (h, tt));
      tree_is = refl;
      tokens = simp (append_assoc, append-nil);
    })
    (λ _. if_step _ (is_return t.0) _ refused
    (λ h. stage_same _ _ _ (simp append-nil)
    (is_value _ _ [] (wants bottom) 257
    (result_value_is _ _ (t ∷ []) (bodies_are _ _ ss (locals_are p d opening params begins locals marked' named opens given braces all) right)
    (h, tt)) (wanting bottom [] at_bottom))) (λ _. tt))

pub statement_fine : (f : FunctionText) (ts mid : List Seen) (t : Seen) (x : Turn) → Locals f ts → FineTurn mid (mid ++ t ∷ []) x → FineStep (ts ++ mid ++ t ∷ []) (statement_step f x t)
statement_fine f ts mid t (on p) begun fine = stage_same _ (ts ++ (mid ++ t ∷ [])) _ (simp append_assoc) (is_statements f ts (mid ++ t ∷ []) p begun fine)
statement_fine f ts mid t (leaves statements) begun fine =
    subst (λ (l : List Seen). FineStep (ts ++ l ++ t ∷ []) (statement_step f (leaves statements) t)) fine.3
    (subst (λ (l : List Statement). FineStep (ts ++ all_written fine.0 ++ t ∷ []) (statement_step f (leaves l) t)) fine.2 (body_ends_fine _ _ t (bodies_are f ts fine.0 begun fine.1)))
statement_fine f ts mid t wrong begun fine = tt

local_fine : (f : FunctionText) (ts : List Seen) (t : Seen) → Locals f ts → FineStep (ts ++ t ∷ []) (step (before_local f) t)
local_fine f ts t begun =
    if_step _ (begins_type t.0) _ _ (λ h. begin_fine (a_local f) ts true t.0 t.1 (local_is f ts begun) (λ h. tt) (λ form h. tt))
    (λ _. let same : ts ++ [] ++ t ∷ [] ≡ ts ++ t ∷ [] = simp append-nil in
    subst (λ (l : List Seen). FineStep l (statement_step f (turn body_begins t) t)) same
    (statement_fine f ts [] t (turn body_begins t) begun (turn_fine body_begins [] t (at_between (in_body []) [] (body_opened no_phrases tt)))))

value_ends_fine : (v : Value) (before : List Seen) (q : Phrase) (t : Seen) → ValueIs v before → IsExpression 1 q → fits semicolon t.0 ≡ true →
    FineStep (before ++ spelled q ++ t ∷ []) (value_ends v (tree q) t)
value_ends_fine _ _ q t (local_value_is f ts d sign begun is row) short h =
    stage_same _ (ts ++ local_tokens (record { declaration = d; sign = sign; value = q; tail = t ∷ [] } ∷ [])) _ (simp (append_assoc, append-nil))
    (is_local _ _ (one_more_local f ts record { declaration = d; sign = sign; value = q; tail = t ∷ [] } begun (is, row, short, (h, tt), tt)))
value_ends_fine _ _ q t (result_value_is _ _ head (bodies_are _ _ ss (locals_are p d opening params begins locals marked' named opens given braces all) right) row) short h =
    is_row (end_row (with_result (with_body (opened_function p d (parameters_tree params) (local_trees locals)) (listed (all_meant ss))) (tree q))) _ (t ∷ []) right_brace []
    (λ more fit. end_is _ _ _ record {
      phrase = of_function record {
        mark = p;
        declaration = d;
        opening = opening;
        params = params;
        begins = begins;
        locals = locals;
        body = ss;
        result = Some record { head = head; value = q; tail = t ∷ [] };
        tail = more;
      };
      right = (marked', named, opens, given, braces, all, right, (row, short, (h, tt)), fit);
      tree_is = refl;
      tokens = simp append_assoc;
    })

value_fine : (v : Value) (before mid : List Seen) (room : ℕ) (t : Seen) (x : Move) → ValueIs v before → Fine 1 mid t x → FineStep (before ++ mid ++ t ∷ []) (value_moves v room t x)
unfolding Fine
value_fine v before mid room t (goes s) is fine = stage_same _ (before ++ (mid ++ t ∷ [])) _ (simp append_assoc) (is_value v before (mid ++ t ∷ []) s (room - 1) is fine)
value_fine v before mid room t (ends e) is fine =
    if_step _ (is_semicolon t.0) _ refused
    (λ h. subst (λ (l : List Seen). FineStep (before ++ l ++ t ∷ []) (value_ends v e t)) fine.3
    (subst (λ (y : Expression). FineStep (before ++ spelled fine.0 ++ t ∷ []) (value_ends v y t)) fine.4 (value_ends_fine v before fine.0 t is (fine.1, fine.2) h))) (λ _. tt)
value_fine v before mid room t stops is fine = tt

-- ---- rows

more_regions : (rows : List (List Seen)) (row : List Seen) → region_trees (rows ++ row ∷ []) ≡ region_trees rows ++ region_in row ∷ []
more_regions [] row = refl
more_regions (r ∷ rows) row = ap (λ (l : List RegionText). region_in r ∷ l) (more_regions rows row)

pub more_region_tokens : (rows : List (List Seen)) (row : List Seen) → region_tokens (rows ++ row ∷ []) ≡ region_tokens rows ++ row
more_region_tokens [] row = append-nil row
more_region_tokens (r ∷ rows) row = ap (λ (l : List Seen). r ++ l) (more_region_tokens rows row) ∙ sym (append_assoc r (region_tokens rows) row)

pub more_are_regions : (rows : List (List Seen)) (row : List Seen) → AreRegions rows → IsRow region_slots row → AreRegions (rows ++ row ∷ [])
more_are_regions [] row all fit = (fit, tt)
more_are_regions (r ∷ rows) row all fit = (all.0, more_are_regions rows row all.1 fit)

region_fine : (p : MarkPhrase) (all : List Seen) → IsMark (Some p) → IsRow region_slots all →
    StageIs (marked (with_region (mark_text p.head (region_trees p.regions)) (region_in all))) (mark_tokens (Some p) ++ all)
region_fine p all is fit =
    let tokens : p.head ++ region_tokens (p.regions ++ all ∷ []) ≡ (p.head ++ region_tokens p.regions) ++ all =
    ap (λ (l : List Seen). p.head ++ l) (more_region_tokens p.regions all) ∙ sym (append_assoc p.head (region_tokens p.regions) all) in
    subst (λ (l : List RegionText). StageIs (marked (mark_text p.head l)) ((p.head ++ region_tokens p.regions) ++ all)) (more_regions p.regions all)
    (stage_same _ _ _ tokens (is_marked record { head = p.head; regions = p.regions ++ all ∷ [] } (is.0, more_are_regions p.regions all is.1 fit)))

row_ends_fine : (row : ItemRow) (before all : List Seen) → ItemRowIs row before all → FineStep (before ++ all) (row_ends row all)
row_ends_fine _ _ _ (mark_is all fit) = stage_same _ (all ++ []) _ (simp append-nil) (is_marked record { head = all; regions = [] } (fit, tt))
row_ends_fine _ _ _ (region_is p all is fit) =
    subst (λ (x : ItemStep). FineStep (mark_tokens (Some p) ++ all) x) (sym (region_ends (mark_text p.head (region_trees p.regions)) all fit)) (region_fine p all is fit)
row_ends_fine _ _ _ (length_is d all is fit) = is_global d (Some all) is fit
row_ends_fine _ _ _ (global_is g before all whole) = whole
row_ends_fine _ _ _ (body_is f before all begun) = is_local f _ begun
row_ends_fine _ _ _ (range_is f ts before d all begun is ok fit) = is_constant _ _ (low_is f ts before d all begun is ok fit)
row_ends_fine _ _ _ (sign_is f ts d all begun is fit) =
    stage_same _ (ts ++ declaration_tokens d ++ all ++ []) _ (simp append-nil)
    (is_value _ _ [] (wants bottom) 257 (local_value_is f ts d all begun is fit) (wanting bottom [] at_bottom))
row_ends_fine _ _ _ (end_is f before all whole) = whole

pub row_fine : (row : ItemRow) (before got : List Seen) (t : Seen) (wanted : Slot) (later : List Slot) → fits wanted t.0 ≡ true →
    ((more : List Seen) → IsRow (wanted ∷ later) more → ItemRowIs row before (got ++ more)) →
    FineStep (before ++ got ++ t ∷ []) (row_goes_on row (got ++ t ∷ []) later)
row_fine row before got t wanted [] h is =
    let same : before ++ (got ++ t ∷ []) ≡ before ++ got ++ t ∷ [] = simp append_assoc in
    subst (λ (l : List Seen). FineStep l (row_ends row (got ++ t ∷ []))) same (row_ends_fine row before (got ++ t ∷ []) (is (t ∷ []) (h, tt)))
row_fine row before got t wanted (slot ∷ later) h is =
    stage_same _ (before ++ (got ++ t ∷ [])) _ (simp append_assoc)
    (is_row row before (got ++ t ∷ []) slot later (λ more fit. subst (λ (l : List Seen). ItemRowIs row before l) (sym (append_assoc got (t ∷ []) more)) (is (t ∷ more) (h, fit))))

pub step_fine : (s : Stage) (pre : List Seen) (t : Seen) → StageIs s pre → FineStep (pre ++ t ∷ []) (step s t)
step_fine _ _ t is_outside = item_fine t
step_fine _ _ t (is_marked p is) = marked_fine p t is
step_fine _ _ t (is_row row before got wanted later is) = if_step _ (fits wanted t.0) _ refused (λ h. row_fine row before got t wanted later h is) (λ _. tt)
step_fine _ _ t (is_type d before may typing words is typed) = type_fine d before may typing words t.0 t.1 is typed
step_fine _ _ t (is_item p d marked' is) = behind_item_fine p d t marked' is
step_fine _ _ t (is_global d len is sized) = global_ends_fine d len t is sized
step_fine _ _ t (is_initial d len sign is sized row) = initial_fine d len sign t is sized row
step_fine _ _ t (is_constant c before is) = constant_fine c before t.0 t.1 is
step_fine _ _ t (is_negative c before u is h) = negative_fine c before u t.0 t.1 is h
step_fine _ _ t (is_behind c before k is constant_is) = constant_ends_fine c before k t is constant_is
step_fine _ _ t (is_first f ts begun) = first_fine f ts t begun
step_fine _ _ t (is_on f ts before d begun is ok) = on_parameter_fine f ts before d t begun is ok
step_fine _ _ t (is_parameter f ts before q begun is ok) = parameter_ends_fine f ts before q t begun is ok
step_fine _ _ t (is_local f ts begun) = local_fine f ts t begun
step_fine _ _ t (is_statements f ts mid p begun stands) = statement_fine f ts mid t (turn p t) begun (turn_fine p mid t stands)
step_fine _ _ t (is_value v before mid s room is stands) =
    subst (λ (x : ItemStep). FineStep (before ++ mid ++ t ∷ []) x) (sym (value_step v s room t (move 1 s t) refl))
    (value_fine v before mid room t (move 1 s t) is (move_fine 1 s mid t (omega arith) stands))
step_fine _ _ t (is_finished u h) = tt
