-- Whatever the reader of items has taken begins an item.
use Rattle.std.proofs.Common.{◌⊎◌, ◌≡◌, inl, inr, List, [], ◌∷◌, ◌++◌, Option, None, Some, Bool, true, false, refl, ap, sym, subst, ◌∙◌, append_assoc, arith}
use Rattle.prem_text.proofs.Prelude.{FunctionText, ItemText, Typing, Declared, Constant, Value, ItemRow, Stage, Phrase, spelled, IsExpression, IsRow, int_type, signed_char_type}
use Rattle.prem_text.proofs.Prelude.{unsigned_type, Declaration, IsDeclaration, declaration_tokens, ConstantPhrase, IsConstant, InitialPhrase, no_initial, one_initial, many_initial}
use Rattle.prem_text.proofs.Prelude.{IsInitial, initial_tokens, IsLength, length_tokens, MarkPhrase, region_tokens, IsMark, mark_tokens, ParameterPhrase, IsParameter, parameter_tokens}
use Rattle.prem_text.proofs.Prelude.{PartedParameter, of_parameters, ItemPhrase, of_global, of_function, IsItem, item_tokens, left_parenthesis, right_parenthesis, left_brace, right_brace}
use Rattle.prem_text.proofs.Prelude.{semicolon, comma, equal_sign, a_name, a_literal, the_int, the_char, the_end, StatementPhrases, no_phrases, AreStatements, all_written, Seen, append-nil}
use Rattle.prem_text.proofs.GrammarLemmas.Fill.{samples, samples_fit, zero_phrase, zero_short, fill_point}
use Rattle.prem_text.proofs.GrammarLemmas.ItemStand.{Fitting, Allowed, Parameters, parameters_are, Locals, locals_are, Whole, bodies_are, DeclaredIs, item_is, parameter_is, local_is}
use Rattle.prem_text.proofs.GrammarLemmas.ItemStand.{TypingIs, no_typing, signed_typing, unsigned_typing, whole_typing, ConstantIs, low_is, high_is, only_is, next_is, ValueIs}
use Rattle.prem_text.proofs.GrammarLemmas.ItemStand.{local_value_is, result_value_is, ItemRowIs, mark_is, region_is, length_is, global_is, body_is, range_is, sign_is, end_is, StageIs}
use Rattle.prem_text.proofs.GrammarLemmas.ItemStand.{is_outside, is_marked, is_row, is_type, is_item, is_global, is_initial, is_constant, is_negative, is_behind, is_first, is_on}
use Rattle.prem_text.proofs.GrammarLemmas.ItemStand.{is_parameter, is_local, is_statements, is_value, is_finished, no_void, one_more_local, more_region_tokens, more_are_regions}
use Rattle.prem_text.proofs.GrammarLemmas.Sound.{begins_expression}

-- tokens begin an item
pub record ItemBegins (pre : List Seen) : Type 0 where
  pub more : List Seen
  pub phrase : ItemPhrase
  pub right : IsItem phrase
  pub tokens : item_tokens phrase ≡ pre ++ more

item_less : (pre xs : List Seen) → ItemBegins (pre ++ xs) → ItemBegins pre
item_less pre xs b = record { more = xs ++ b.more; phrase = b.phrase; right = b.right; tokens = b.tokens ∙ append_assoc pre xs b.more }

item_same : (xs ys : List Seen) → xs ≡ ys → ItemBegins xs → ItemBegins ys
item_same xs ys same b = subst (λ (l : List Seen). ItemBegins l) same b

item_whole : (item : ItemText) (ts : List Seen) → Whole item ts → ItemBegins ts
item_whole item ts w = record { more = []; phrase = w.phrase; right = w.right; tokens = w.tokens ∙ sym (append-nil ts) }

abbrev zero_constant : ConstantPhrase
zero_constant = record { negative = false; row = samples (a_literal ∷ []) }

abbrev plain : Declaration
plain = record { form = int_type; type_row = samples (the_int ∷ []); name_row = samples (a_name ∷ []) }

plain_right : IsDeclaration plain
plain_right = ((refl, tt), (refl, tt))

fill_locals : (f : FunctionText) (ts : List Seen) → Locals f ts → ItemBegins ts
fill_locals _ _ (locals_are p d opening params begins locals marked' named opens given braces all) = record {
  more = samples (right_brace ∷ []);
  phrase = of_function record { mark = p; declaration = d; opening = opening; params = params; begins = begins; locals = locals; body = no_phrases; result = None; tail = samples (right_brace ∷ []) };
  right = (marked', named, opens, given, braces, all, tt, tt, (refl, tt));
  tokens = simp (append_assoc, append-nil);
}

fill_parameters : (f : FunctionText) (ts : List Seen) (before : List PartedParameter) (q : ParameterPhrase) → Parameters f ts before → IsParameter q →
    Allowed before q.declaration.form → ItemBegins (ts ++ parameter_tokens q)
fill_parameters _ _ _ q (parameters_are p d opening before marked' named opens all free) is ok = record {
  more = samples (right_parenthesis ∷ left_brace ∷ []) ++ samples (right_brace ∷ []);
  phrase = of_function record {
    mark = p;
    declaration = d;
    opening = opening;
    params = of_parameters before q;
    begins =
        samples (right_parenthesis ∷ left_brace ∷ []);
    locals = [];
    body = no_phrases;
    result = None;
    tail = samples (right_brace ∷ []);
  };
  right = (marked', named, opens, (all, is, no_void before q free ok), (refl, (refl, tt)), tt, tt, tt, (refl, tt));
  tokens = simp (append_assoc, append-nil);
}

fill_head : (p : Option MarkPhrase) (d : Declaration) → IsMark p → IsDeclaration d → ItemBegins (mark_tokens p ++ declaration_tokens d)
fill_head p d marked' is =
    item_less _ (samples (left_parenthesis ∷ []) ++ [] ++ parameter_tokens record { declaration = plain; range = None })
    (item_same _ _ (simp (append_assoc, append-nil))
    (fill_parameters _ _ [] record { declaration = plain; range = None } (parameters_are p d (samples (left_parenthesis ∷ [])) [] marked' is (refl, tt) tt tt) (plain_right, tt) refl))

fill_mark : (p : Option MarkPhrase) → IsMark p → ItemBegins (mark_tokens p)
fill_mark p is = item_less _ (declaration_tokens plain) (fill_head p plain is plain_right)

fill_declared : (d : Declared) (before : List Seen) (may : Bool) (e : Declaration) → DeclaredIs d before may → IsDeclaration e → Fitting may e.form → ItemBegins (before ++ declaration_tokens e)
fill_declared _ _ _ e (item_is p is) row ok = fill_head p e is row
fill_declared _ _ _ e (parameter_is f ts before is) row ok = item_same _ _ (simp append-nil) (fill_parameters f ts before record { declaration = e; range = None } is (row, tt) ok)
fill_declared _ _ _ e (local_is f ts is) row ok =
    item_less _ (samples (equal_sign ∷ []) ++ spelled zero_phrase ++ samples (semicolon ∷ []))
    (item_same _ _ (simp (append_assoc, append-nil))
    (fill_locals _ _ (one_more_local f ts
    record { declaration = e; sign = samples (equal_sign ∷ []); value = zero_phrase; tail = samples (semicolon ∷ []) } is
    (row, (refl, tt), zero_short 1 (omega arith), (refl, tt), tt))))

fill_global : (d : Declaration) (len : Option (List Seen)) (initial : InitialPhrase) → IsDeclaration d → IsLength len → IsInitial initial →
    ItemBegins (declaration_tokens d ++ length_tokens len ++ initial_tokens initial)
fill_global d len initial is sized begun = record {
  more = samples (semicolon ∷ []);
  phrase = of_global record { declaration = d; length = len; initial = initial; tail = samples (semicolon ∷ []) };
  right = (is, sized, begun, (refl, tt));
  tokens = refl;
}

fill_constant : (c : Constant) (before : List Seen) (k : ConstantPhrase) → ConstantIs c before → IsConstant k → ItemBegins (before ++ k.row)
fill_constant _ _ k (low_is f ts prior d head begun is ok row) constant_is =
    item_less _ (samples (comma ∷ []) ++ zero_constant.row ++ samples (right_parenthesis ∷ []))
    (item_same _ _ (simp append_assoc)
    (fill_parameters f ts prior record {
      declaration = d;
      range =
          Some record { head = head; low = k; middle = samples (comma ∷ []); high = zero_constant; close = samples (right_parenthesis ∷ []) };
    } begun
    (is, (row, constant_is, (refl, tt), (refl, tt), (refl, tt))) ok))
fill_constant _ _ k (high_is f ts prior d head low middle begun is ok row low_is' parts) constant_is =
    item_less _ (samples (right_parenthesis ∷ []))
    (item_same _ _ (simp append_assoc)
    (fill_parameters f ts prior record {
      declaration = d;
      range =
          Some record { head = head; low = low; middle = middle; high = k; close = samples (right_parenthesis ∷ []) };
    } begun
    (is, (row, low_is', parts, constant_is, (refl, tt))) ok))
fill_constant _ _ k (only_is d len sign is sized row) constant_is = item_same _ _ (simp append_assoc) (fill_global d len (one_initial sign k) is sized (row, constant_is))
fill_constant _ _ k (next_is d len head prior is sized row all) constant_is =
    item_less _ (samples (right_brace ∷ []))
    (item_same _ _ (simp append_assoc)
    (fill_global d len (many_initial head prior k (samples (right_brace ∷ []))) is sized (row, all, constant_is, (refl, tt))))

fill_row_item : (row : ItemRow) (before all : List Seen) → ItemRowIs row before all → ItemBegins (before ++ all)
fill_row_item _ _ _ (mark_is all fit) = item_same _ _ (simp append-nil) (fill_mark (Some record { head = all; regions = [] }) (fit, tt))
fill_row_item _ _ _ (region_is p all is fit) =
    item_same _ _ (ap (λ (l : List Seen). p.head ++ l) (more_region_tokens p.regions all) ∙ sym (append_assoc p.head (region_tokens p.regions) all))
    (fill_mark (Some record { head = p.head; regions = p.regions ++ all ∷ [] }) (is.0, more_are_regions p.regions all is.1 fit))
fill_row_item _ _ _ (length_is d all is fit) = item_same _ _ (simp append-nil) (fill_global d (Some all) no_initial is fit tt)
fill_row_item _ _ _ (global_is g before all whole) = item_whole _ _ whole
fill_row_item _ _ _ (body_is f before all begun) = fill_locals f _ begun
fill_row_item _ _ _ (range_is f ts prior d all begun is ok fit) =
    item_less _ zero_constant.row (fill_constant _ _ zero_constant (low_is f ts prior d all begun is ok fit) (refl, tt))
fill_row_item _ _ _ (sign_is f ts d all begun is fit) =
    item_less _ (spelled zero_phrase ++ samples (semicolon ∷ []))
    (item_same _ _ (simp (append_assoc, append-nil))
    (fill_locals _ _ (one_more_local f ts record { declaration = d; sign = all; value = zero_phrase; tail = samples (semicolon ∷ []) } begun
    (is, fit, zero_short 1 (omega arith), (refl, tt), tt))))
fill_row_item _ _ _ (end_is f before all whole) = item_whole _ _ whole

fill_type : (d : Declared) (before : List Seen) (may : Bool) (typing : Typing) (words : List Seen) → DeclaredIs d before may → TypingIs may typing words → ItemBegins (before ++ words)
fill_type d before may _ _ is (no_typing all) =
    item_less _ (declaration_tokens plain) (item_same _ _ (simp append-nil) (fill_declared d before may plain is plain_right (all int_type)))
fill_type d before may _ _ is (signed_typing t h others) =
    item_less _ (samples (the_char ∷ a_name ∷ [])) (item_same _ _ (simp append_assoc)
    (fill_declared d before may record { form = signed_char_type; type_row = t ∷ samples (the_char ∷ []); name_row = samples (a_name ∷ []) } is
    ((h, (refl, tt)), (refl, tt)) (others signed_char_type refl)))
fill_type d before may _ _ is (unsigned_typing t h others) =
    item_less _ (samples (a_name ∷ []))
    (item_same _ _ (simp append_assoc)
    (fill_declared d before may record { form = unsigned_type; type_row = t ∷ []; name_row = samples (a_name ∷ []) } is ((h, tt), (refl, tt))
    (others unsigned_type refl)))
fill_type d before may _ _ is (whole_typing form words row ok) =
    item_less _ (samples (a_name ∷ []))
    (item_same _ _ (simp append_assoc)
    (fill_declared d before may record { form = form; type_row = words; name_row = samples (a_name ∷ []) } is (row, (refl, tt)) ok))

fill_value : (v : Value) (before : List Seen) (q : Phrase) → ValueIs v before → IsExpression 1 q → ItemBegins (before ++ spelled q)
fill_value _ _ q (local_value_is f ts d sign begun is row) short =
    item_less _ (samples (semicolon ∷ []))
    (item_same _ _ (simp (append_assoc, append-nil))
    (fill_locals _ _ (one_more_local f ts record { declaration = d; sign = sign; value = q; tail = samples (semicolon ∷ []) } begun
    (is, row, short, (refl, tt), tt))))
fill_value _ _ q (result_value_is _ _ head (bodies_are _ _ ss (locals_are p d opening params begins locals marked' named opens given braces all) right) row) short = record {
  more = samples (semicolon ∷ []) ++ samples (right_brace ∷ []);
  phrase = of_function record {
    mark = p;
    declaration = d;
    opening = opening;
    params = params;
    begins = begins;
    locals = locals;
    body = ss;
    result =
        Some record { head = head; value = q; tail = samples (semicolon ∷ []) };
    tail = samples (right_brace ∷ []);
  };
  right = (marked', named, opens, given, braces, all, right, (row, short, (refl, tt)), (refl, tt));
  tokens = simp append_assoc;
}

fill_statements : (f : FunctionText) (ts : List Seen) (ss : StatementPhrases) → Locals f ts → AreStatements ss → ItemBegins (ts ++ all_written ss)
fill_statements _ _ ss (locals_are p d opening params begins locals marked' named opens given braces all) right = record {
  more = samples (right_brace ∷ []);
  phrase = of_function record { mark = p; declaration = d; opening = opening; params = params; begins = begins; locals = locals; body = ss; result = None; tail = samples (right_brace ∷ []) };
  right = (marked', named, opens, given, braces, all, right, tt, (refl, tt));
  tokens = simp (append_assoc, append-nil);
}

-- what was read of an item begins one, or it is the end of the text
pub fill_stage : (s : Stage) (pre : List Seen) → StageIs s pre → ItemBegins pre ⊎ IsRow (the_end ∷ []) pre
fill_stage _ _ is_outside = inl (fill_mark None tt)
fill_stage _ _ (is_marked p is) = inl (fill_mark (Some p) is)
fill_stage _ _ (is_row row before got wanted later is) =
    inl (item_less _ (samples (wanted ∷ later))
    (item_same _ _ (simp append_assoc)
    (fill_row_item row before (got ++ samples (wanted ∷ later)) (is (samples (wanted ∷ later)) (samples_fit (wanted ∷ later))))))
fill_stage _ _ (is_type d before may typing words is typed) = inl (fill_type d before may typing words is typed)
fill_stage _ _ (is_item p d marked' is) = inl (fill_head p d marked' is)
fill_stage _ _ (is_global d len is sized) = inl (item_same _ _ (simp append-nil) (fill_global d len no_initial is sized tt))
fill_stage _ _ (is_initial d len sign is sized row) = inl (item_less _ zero_constant.row (fill_constant _ _ zero_constant (only_is d len sign is sized row) (refl, tt)))
fill_stage _ _ (is_constant c before is) = inl (item_less _ zero_constant.row (fill_constant c before zero_constant is (refl, tt)))
fill_stage _ _ (is_negative c before t is h) =
    inl (item_less _ (samples (a_literal ∷ [])) (item_same _ _ (simp append_assoc) (fill_constant c before record { negative = true; row = t ∷ samples (a_literal ∷ []) } is (h, (refl, tt)))))
fill_stage _ _ (is_behind c before k is constant_is) = inl (fill_constant c before k is constant_is)
fill_stage _ _ (is_first f ts begun) =
    inl (item_less _ (parameter_tokens record { declaration = plain; range = None })
    (fill_parameters f ts [] record { declaration = plain; range = None } begun (plain_right, tt) refl))
fill_stage _ _ (is_on f ts before d begun is ok) = inl (item_same _ _ (simp append-nil) (fill_parameters f ts before record { declaration = d; range = None } begun (is, tt) ok))
fill_stage _ _ (is_parameter f ts before q begun is ok) = inl (fill_parameters f ts before q begun is ok)
fill_stage _ _ (is_local f ts begun) = inl (fill_locals f ts begun)
fill_stage _ _ (is_statements f ts mid p begun stands) =
    let b = fill_point p mid stands in
    inl (item_less _ b.more (item_same _ _ (ap (λ (l : List Seen). ts ++ l) b.spells ∙ sym (append_assoc ts mid b.more)) (fill_statements f ts b.phrases begun b.right)))
fill_stage _ _ (is_value v before mid s room is stands) =
    let w = begins_expression 1 s mid (omega arith) stands in
    inl (item_less _ w.rest (item_same _ _ (ap (λ (l : List Seen). before ++ l) w.spells ∙ sym (append_assoc before mid w.rest)) (fill_value v before w.phrase is (w.levels, w.binds))))
fill_stage _ _ (is_finished t h) = inr (h, tt)
