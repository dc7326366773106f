-- Globals and functions are read as the grammar says.
use Rattle.std.proofs.Common.{◌≡◌, ℕ, ℤ, List, [], ◌∷◌, ◌++◌, Option, None, Some, Bool, true, false, refl, ap, sym, subst, ◌∙◌, append_assoc}
use Rattle.prem_text.proofs.Prelude.{Text, RegionText, MarkText, InitialValue, absent, one, many, GlobalVariable, global_item, Place, Ty, an_item, only_value, next_value, mark_row}
use Rattle.prem_text.proofs.Prelude.{region_row, length_row, global_row, Stage, outside, marked, in_row, behind_item, behind_global, before_initial, before_constant, behind_constant, ahead}
use Rattle.prem_text.proofs.Prelude.{made, refused, type_begins, scalar, with_initial, constant, begins_type, with_region, row_ends, step, IsRow, name_at, quiet, TypeForm, void_type}
use Rattle.prem_text.proofs.Prelude.{int_type, short_type, signed_char_type, unsigned_type, unsigned_int_type, unsigned_short_type, unsigned_char_type, type_of, Declaration}
use Rattle.prem_text.proofs.Prelude.{declaration_tokens, constant_tree, PartedConstant, InitialPhrase, no_initial, one_initial, many_initial, ArePartedConstants, IsInitial, constants_tokens}
use Rattle.prem_text.proofs.Prelude.{constants_tree, initial_tokens, initial_tree, IsLength, length_tokens, length_tree, GlobalPhrase, IsGlobal, MarkPhrase, AreRegions, region_tokens}
use Rattle.prem_text.proofs.Prelude.{region_trees, IsMark, mark_tokens, mark_tree, ItemPhrase, of_global, item_tokens, item_tree, item_past, Slot, left_parenthesis, right_parenthesis}
use Rattle.prem_text.proofs.Prelude.{left_brace, right_brace, left_bracket, right_bracket, semicolon, comma, equal_sign, a_name, a_literal, the_predictable, the_region, fits, value_at}
use Rattle.prem_text.proofs.Prelude.{place_at, is_left_parenthesis, is_left_bracket, is_left_brace, is_comma, is_equal, is_predictable, is_region, is_end, Lexeme, word, mark, Seen}
use Rattle.prem_text.proofs.Prelude.{append-nil}
use Rattle.prem_text.proofs.GrammarLemmas.ItemTaken.{Runs, rest, forth, runs_append, quiet_append, quietly, row_from, one_runs, first_word, declaration_runs, constant_runs}
use Rattle.prem_text.proofs.GrammarLemmas.Taken.{name_in_row}
use Rattle.prem_text.specs.declared.lexing.token.token.Mark.TheVariants as m
use Rattle.prem_text.specs.declared.lexing.token.token.Word.TheVariants as w

-- ---- marks

abbrev pub mark_text : List Seen → List RegionText → MarkText
mark_text head regions = record { stated = value_at 2 head; regions = regions }

region_begins : (annotation : MarkText) (t : Seen) → fits the_region t.0 ≡ true →
    step (marked annotation) t ≡ ahead (in_row (region_row annotation) (t ∷ []) left_parenthesis (a_name ∷ comma ∷ a_literal ∷ comma ∷ a_literal ∷ right_parenthesis ∷ []))
region_begins annotation t h = rw h refl

abbrev pub region_slots : List Slot
region_slots = the_region ∷ left_parenthesis ∷ a_name ∷ comma ∷ a_literal ∷ comma ∷ a_literal ∷ right_parenthesis ∷ []

abbrev pub region_in : List Seen → RegionText
region_in row = record { at = place_at 2 row; name = name_at 2 row; low = value_at 4 row; high = value_at 6 row }

pub region_ends : (annotation : MarkText) (row : List Seen) → IsRow region_slots row → row_ends (region_row annotation) row ≡ ahead (marked (with_region annotation (region_in row)))
region_ends annotation row fit =
    ap (λ (o : Option Text). elim o [
      | Some x ↦ ahead (marked (with_region annotation record { at = place_at 2 row; name = x; low = value_at 4 row; high = value_at 6 row }))
      | None ↦ refused
    ]) (name_in_row 2 region_slots row refl fit)

regions_run : (head : List Seen) (acc : List RegionText) (rows : List (List Seen)) → AreRegions rows →
    Runs (marked (mark_text head acc)) (region_tokens rows) (quiet (region_tokens rows)) (marked (mark_text head (acc ++ region_trees rows)))
regions_run head acc [] all = subst (λ (l : List RegionText). Runs (marked (mark_text head acc)) [] [] (marked (mark_text head l))) (sym (append-nil acc)) (rest _)
regions_run head acc (row ∷ rows) all =
    let later = subst (λ (l : List RegionText). Runs (marked (mark_text head (acc ++ region_in row ∷ []))) (region_tokens rows) (quiet (region_tokens rows)) (marked (mark_text head l)))
    (append_assoc acc (region_in row ∷ []) (region_trees rows)) (regions_run head (acc ++ region_in row ∷ []) rows all.1) in
    quietly _ _ row (region_tokens rows)
    (runs_append (row_from (marked (mark_text head acc)) (region_row (mark_text head acc)) the_region left_parenthesis (a_name ∷ comma ∷ a_literal ∷ comma ∷ a_literal ∷ right_parenthesis ∷ []) row _
    (λ t h. region_begins (mark_text head acc) t h) all.0 (region_ends (mark_text head acc) row all.0) refl) later)

-- where an item's type may begin
abbrev pub before_item : Option MarkPhrase → Stage
before_item None = outside
before_item (Some p) = marked (mark_text p.head (region_trees p.regions))

predictable_begins : (x : Lexeme) (at : Place) → fits the_predictable x ≡ true → step outside (x, at) ≡ ahead (in_row mark_row ((x, at) ∷ []) left_parenthesis (a_literal ∷ right_parenthesis ∷ []))
predictable_begins (word w.Predictable) at h = refl
predictable_begins (word _) at h = absurd cc
predictable_begins _ at h = absurd cc

pub mark_runs : (p : Option MarkPhrase) → IsMark p → Runs outside (mark_tokens p) (quiet (mark_tokens p)) (before_item p)
mark_runs None is = rest _
mark_runs (Some p) is =
    quietly _ _ p.head (region_tokens p.regions)
    (runs_append (row_from outside mark_row the_predictable left_parenthesis (a_literal ∷ right_parenthesis ∷ []) p.head
    (marked (mark_text p.head [])) (λ t h. predictable_begins t.0 t.1 h) is.0 refl refl)
    (regions_run p.head [] p.regions is.1))

-- the first word of a type is no other word that may stand there
pub type_at : (form : TypeForm) (x : Lexeme) → fits (first_word form) x ≡ true → (is_end x ≡ false) × (is_predictable x ≡ false) × (is_region x ≡ false) × (begins_type x ≡ true)
type_at void_type (word w.Void) h = (refl, refl, refl, refl)
type_at int_type (word w.Int) h = (refl, refl, refl, refl)
type_at short_type (word w.Short) h = (refl, refl, refl, refl)
type_at signed_char_type (word w.Signed) h = (refl, refl, refl, refl)
type_at unsigned_type (word w.Unsigned) h = (refl, refl, refl, refl)
type_at unsigned_int_type (word w.Unsigned) h = (refl, refl, refl, refl)
type_at unsigned_short_type (word w.Unsigned) h = (refl, refl, refl, refl)
type_at unsigned_char_type (word w.Unsigned) h = (refl, refl, refl, refl)
type_at void_type _ h = absurd cc
type_at int_type _ h = absurd cc
type_at short_type _ h = absurd cc
type_at signed_char_type _ h = absurd cc
type_at unsigned_type _ h = absurd cc
type_at unsigned_int_type _ h = absurd cc
type_at unsigned_short_type _ h = absurd cc
type_at unsigned_char_type _ h = absurd cc

pub item_type : (p : Option MarkPhrase) (form : TypeForm) (t : Seen) → fits (first_word form) t.0 ≡ true → step (before_item p) t ≡ type_begins (an_item (mark_tree p)) t
item_type None form t h = let k = type_at form t.0 h in rw (k.0, k.1) refl
item_type (Some p) form t h = let k = type_at form t.0 h in rw k.2 refl

-- ---- globals

abbrev pub global_of : Declaration → Option ℕ → InitialValue → GlobalVariable
global_of d len initial = record { at = place_at 0 d.name_row; ty = type_of d.form; name = name_at 0 d.name_row; len = len; initial = initial }

-- an item of which all tokens but the last are read
pub record ItemRead (i : ItemPhrase) : Type 0 where
  pub front : List Seen
  pub last : Seen
  pub flags : List Bool
  pub stage : Stage
  pub tokens : item_tokens i ≡ front ++ last ∷ []
  pub limits : item_past i ≡ flags ++ false ∷ []
  pub runs : Runs outside front flags stage
  pub ends : step stage last ≡ made (item_tree i)

bracket_begins : (ty : Ty) (at : Place) (x : Text) (t : Seen) → fits left_bracket t.0 ≡ true → is_left_parenthesis t.0 ≡ false →
    step (behind_item None ty at x) t ≡ ahead (in_row (length_row (scalar ty at x)) (t ∷ []) a_literal (right_bracket ∷ []))
bracket_begins ty at x t h other = rw (other, h) refl

no_parenthesis : (slot : Slot) (x : Lexeme) → fits slot (mark m.OpenParenthesis) ≡ false → fits slot x ≡ true → is_left_parenthesis x ≡ false
no_parenthesis slot (mark m.OpenParenthesis) is h = let e : false ≡ true = sym is ∙ h in absurd cc
no_parenthesis slot (mark _) is h = refl
no_parenthesis slot _ is h = refl

no_bracket : (slot : Slot) (x : Lexeme) → fits slot (mark m.OpenBracket) ≡ false → fits slot x ≡ true → is_left_bracket x ≡ false
no_bracket slot (mark m.OpenBracket) is h = let e : false ≡ true = sym is ∙ h in absurd cc
no_bracket slot (mark _) is h = refl
no_bracket slot _ is h = refl

no_equal : (slot : Slot) (x : Lexeme) → fits slot (mark m.Equal) ≡ false → fits slot x ≡ true → is_equal x ≡ false
no_equal slot (mark m.Equal) is h = let e : false ≡ true = sym is ∙ h in absurd cc
no_equal slot (mark _) is h = refl
no_equal slot _ is h = refl

pub no_comma_at : (slot : Slot) (x : Lexeme) → fits slot (mark m.Comma) ≡ false → fits slot x ≡ true → is_comma x ≡ false
no_comma_at slot (mark m.Comma) is h = let e : false ≡ true = sym is ∙ h in absurd cc
no_comma_at slot (mark _) is h = refl
no_comma_at slot _ is h = refl

-- behind the name of a global, or its length
pub record Sized (d : Declaration) (len : Option (List Seen)) : Type 0 where
  stage : Stage
  runs : Runs (behind_item None (type_of d.form) (place_at 0 d.name_row) (name_at 0 d.name_row)) (length_tokens len) (quiet (length_tokens len)) stage
  equal : (t : Seen) → fits equal_sign t.0 ≡ true → step stage t ≡ ahead (before_initial (global_of d (length_tree len) absent))
  closed : (t : Seen) → fits semicolon t.0 ≡ true → step stage t ≡ made (global_item (global_of d (length_tree len) absent))

length_read : (d : Declaration) (len : Option (List Seen)) → IsLength len → Sized d len
length_read d None is = record {
  stage = behind_item None (type_of d.form) (place_at 0 d.name_row) (name_at 0 d.name_row);
  runs = rest _;
  equal = λ t h. rw (no_parenthesis equal_sign t.0 refl h, no_bracket equal_sign t.0 refl h, h) refl;
  closed = λ t h. rw (no_parenthesis semicolon t.0 refl h, no_bracket semicolon t.0 refl h, no_equal semicolon t.0 refl h, h) refl;
}
length_read d (Some row) is = record {
  stage = behind_global (global_of d (Some (value_at 1 row)) absent);
  runs = row_from _ (length_row (scalar (type_of d.form) (place_at 0 d.name_row) (name_at 0 d.name_row))) left_bracket a_literal (right_bracket ∷ []) row _
      (λ t h. bracket_begins (type_of d.form) (place_at 0 d.name_row) (name_at 0 d.name_row) t h (no_parenthesis left_bracket t.0 refl h)) is refl refl;
  equal = λ t h. rw h refl;
  closed = λ t h. rw (no_equal semicolon t.0 refl h, h) refl;
}

-- constants that `,` parts
constants_run : (g : GlobalVariable) (acc : List ℤ) (before : List PartedConstant) → ArePartedConstants before →
    Runs (before_constant (next_value g acc) false) (constants_tokens before) (quiet (constants_tokens before)) (before_constant (next_value g (acc ++ constants_tree before)) false)
constants_run g acc [] all = subst (λ (l : List ℤ). Runs (before_constant (next_value g acc) false) [] [] (before_constant (next_value g l) false)) (sym (append-nil acc)) (rest _)
constants_run g acc (c ∷ before) all =
    let later = subst (λ (l : List ℤ). Runs (before_constant (next_value g (acc ++ constant_tree c.0 ∷ [])) false) (constants_tokens before)
    (quiet (constants_tokens before)) (before_constant (next_value g l) false))
    (append_assoc acc (constant_tree c.0 ∷ []) (constants_tree before)) (constants_run g (acc ++ constant_tree c.0 ∷ []) before all.2) in
    let value = constant_runs (next_value g acc) (before_constant (next_value g acc) false) c.0.negative c.0.row all.0 (λ t h. refl) in
    let parts = one_runs (behind_constant (next_value g acc) (constant_tree c.0)) comma c.1 (before_constant (next_value g (acc ++ constant_tree c.0 ∷ [])) false) (λ t h. rw h refl) all.1 refl in
    quietly _ _ (c.0.row ++ c.1) (constants_tokens before) (runs_append (quietly _ _ c.0.row c.1 (runs_append value parts)) later)

pub record Valued (d : Declaration) (len : Option (List Seen)) (initial : InitialPhrase) : Type 0 where
  stage : Stage
  runs : Runs (behind_item None (type_of d.form) (place_at 0 d.name_row) (name_at 0 d.name_row)) (length_tokens len ++ initial_tokens initial)
      (quiet (length_tokens len ++ initial_tokens initial)) stage
  closed : (t : Seen) → fits semicolon t.0 ≡ true → step stage t ≡ made (global_item (global_of d (length_tree len) (initial_tree initial)))

value_closed : (g : GlobalVariable) (value : ℤ) (t : Seen) → fits semicolon t.0 ≡ true → step (behind_constant (only_value g) value) t ≡ made (global_item (with_initial g (one value)))
value_closed g value t h = rw h refl

list_closed : (g : GlobalVariable) (got : List Seen) (t : Seen) → fits semicolon t.0 ≡ true → step (in_row (global_row g) got semicolon []) t ≡ made (global_item g)
list_closed g got t h = rw h refl

list_begins : (g : GlobalVariable) (t : Seen) → fits left_brace t.0 ≡ true → step (before_initial g) t ≡ ahead (before_constant (next_value g []) false)
list_begins g t h = rw h refl

single_begins : (g : GlobalVariable) (t : Seen) → is_left_brace t.0 ≡ false → step (before_initial g) t ≡ constant (only_value g) false t.0
single_begins g t h = rw h refl

brace_closes : (g : GlobalVariable) (acc : List ℤ) (value : ℤ) (t : Seen) → fits right_brace t.0 ≡ true →
    step (behind_constant (next_value g acc) value) t ≡ ahead (in_row (global_row (with_initial g (many (acc ++ value ∷ [])))) (t ∷ []) semicolon [])
brace_closes g acc value t h = rw (no_comma_at right_brace t.0 refl h, h) refl

initial_read : (d : Declaration) (len : Option (List Seen)) (initial : InitialPhrase) → IsLength len → IsInitial initial → Valued d len initial
initial_read d len no_initial sized is =
    let s = length_read d len sized in
    record { stage = s.stage; runs = quietly _ _ (length_tokens len) [] (runs_append s.runs (rest _)); closed = s.closed }
initial_read d len (one_initial sign k) sized is =
    let s = length_read d len sized in
    let g = global_of d (length_tree len) absent in
    let opened = one_runs s.stage equal_sign sign (before_initial (global_of d (length_tree len) absent)) s.equal is.0 refl in
    let value = constant_runs (only_value (global_of d (length_tree len) absent)) (before_initial (global_of d (length_tree len) absent))
    k.negative k.row is.1 (λ t h. single_begins (global_of d (length_tree len) absent) t h) in
    record {
      stage = behind_constant (only_value (global_of d (length_tree len) absent)) (constant_tree k);
      runs = quietly _ _ (length_tokens len) (sign ++ k.row) (runs_append s.runs (quietly _ _ sign k.row (runs_append opened value)));
      closed = λ t h. value_closed (global_of d (length_tree len) absent) (constant_tree k) t h;
    }
initial_read d len (many_initial [] before last close) sized is = absurd is.0
initial_read d len (many_initial (a ∷ []) before last close) sized is = absurd is.0.1
initial_read d len (many_initial (a ∷ b ∷ c ∷ ts) before last close) sized is = absurd is.0.1.1
initial_read d len (many_initial (a ∷ b ∷ []) before last []) sized is = absurd is.3
initial_read d len (many_initial (a ∷ b ∷ []) before last (z ∷ y ∷ ts)) sized is = absurd is.3.1
initial_read d len (many_initial (a ∷ b ∷ []) before last (z ∷ [])) sized is =
    let s = length_read d len sized in
    let g0 = global_of d (length_tree len) absent in
    let head : Runs s.stage (a ∷ b ∷ []) (false ∷ false ∷ []) (before_constant (next_value (global_of d (length_tree len) absent) []) false) =
    forth _ (before_initial (global_of d (length_tree len) absent)) _ a _ false _ (s.equal a is.0.0) refl
    (forth _ _ _ b [] false [] (list_begins (global_of d (length_tree len) absent) b is.0.1.0) refl (rest _)) in
    let listed_all = constants_run (global_of d (length_tree len) absent) [] before is.1 in
    let value = constant_runs (next_value (global_of d (length_tree len) absent) (constants_tree before))
    (before_constant (next_value (global_of d (length_tree len) absent) (constants_tree before)) false) last.negative last.row is.2 (λ t h. refl) in
    let ending : Runs (behind_constant (next_value (global_of d (length_tree len) absent) (constants_tree before)) (constant_tree last)) (z ∷ [])
    (false ∷ []) (in_row (global_row
    (with_initial (global_of d (length_tree len) absent) (many (constants_tree before ++ constant_tree last ∷ [])))) (z ∷ []) semicolon []) =
    forth _ _ _ z [] false [] (brace_closes (global_of d (length_tree len) absent) (constants_tree before) (constant_tree last) z is.3.0) refl (rest _) in
    let first = quietly _ _ (a ∷ b ∷ []) (constants_tokens before) (runs_append head listed_all) in
    let second = quietly _ _ ((a ∷ b ∷ []) ++ constants_tokens before) last.row (runs_append first value) in
    let third = quietly _ _ ((a ∷ b ∷ []) ++ constants_tokens before ++ last.row) (z ∷ []) (runs_append second ending) in
    record {
      stage = in_row (global_row (with_initial (global_of d (length_tree len) absent) (many (constants_tree before ++ constant_tree last ∷ [])))) (z ∷ []) semicolon [];
      runs = quietly _ _ (length_tokens len) ((a ∷ b ∷ []) ++ constants_tokens before ++ last.row ++ z ∷ []) (runs_append s.runs third);
      closed = λ t h. list_closed (with_initial (global_of d (length_tree len) absent) (many (constants_tree before ++ constant_tree last ∷ []))) (z ∷ []) t h;
    }

pub global_read : (g : GlobalPhrase) → IsGlobal g → ItemRead (of_global g)
global_read g is = tail g.tail is.3 refl
  where
    tail : (ts : List Seen) → IsRow (semicolon ∷ []) ts → g.tail ≡ ts → ItemRead (of_global g)
    tail [] fit same = absurd fit
    tail (t ∷ u ∷ ts) fit same = absurd fit.1
    tail (t ∷ []) fit same =
        let v = initial_read g.declaration g.length g.initial is.1 is.2 in
        let first = declaration_runs g.declaration (an_item None) outside is.0 (λ t h. item_type None g.declaration.form t h) in
        let front = declaration_tokens g.declaration ++ (length_tokens g.length ++ initial_tokens g.initial) in
        let spelled_so : item_tokens (of_global g) ≡ declaration_tokens g.declaration ++ (length_tokens g.length ++ initial_tokens g.initial) ++ t ∷ [] =
        ap (λ (l : List Seen). declaration_tokens g.declaration ++ length_tokens g.length ++ initial_tokens g.initial ++ l) same ∙ simp append_assoc in
        record {
          front = declaration_tokens g.declaration ++ (length_tokens g.length ++ initial_tokens g.initial);
          last = t;
          flags = quiet (declaration_tokens g.declaration ++ (length_tokens g.length ++ initial_tokens g.initial));
          stage = v.stage;
          tokens = spelled_so;
          limits = ap quiet spelled_so ∙ quiet_append (declaration_tokens g.declaration ++ (length_tokens g.length ++ initial_tokens g.initial)) (t ∷ []);
          runs = quietly _ _ (declaration_tokens g.declaration) (length_tokens g.length ++ initial_tokens g.initial) (runs_append first v.runs);
          ends = v.closed t fit.0;
        }
