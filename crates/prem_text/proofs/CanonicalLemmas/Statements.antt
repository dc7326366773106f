-- A statement has a phrase whose tokens are its canonical ones.
use Rattle.std.proofs.Common.{append-nil, ◌≡◌, Bool, true, false, List, [], ◌∷◌, ◌++◌, Option, None, Some, refl, ap, sym, ◌∙◌, arith, map, ◌&&◌}
use Rattle.prem_text.proofs.Prelude.{Text, Expression, Statement, block, if_then, if_else, bounded_while, counting_for, assign, output, input, call, Statements, no_statements}
use Rattle.prem_text.proofs.Prelude.{next_statement, expression_lexemes, more_arguments, argument_lexemes, target_lexemes, call_lexemes, comparison_sign, while_lexemes, for_lexemes}
use Rattle.prem_text.proofs.Prelude.{bound_lexemes, step_lexemes, tail_lexemes, if_lexemes, statement_lexemes, statements_lexemes, unplaced_expression, unplaced_statement}
use Rattle.prem_text.proofs.Prelude.{unplaced_statements, Phrase, spelled, tree, IsExpression, IsRow, nowhere, left_brace, right_brace, right_parenthesis, semicolon, comma, equal_sign}
use Rattle.prem_text.proofs.Prelude.{the_else, is_comparison, place_at, listed, is_at_most, summed_step, Target, to_name, to_element, Parted, Arguments, no_arguments, arguments}
use Rattle.prem_text.proofs.Prelude.{StatementPhrase, of_block, of_if, of_else, of_for, of_while, of_output, of_call, of_input, of_call_to, of_assign, StatementPhrases, no_phrases}
use Rattle.prem_text.proofs.Prelude.{next_phrase, if_head, for_head, for_bound, while_head, out_head, statement_tail, call_head, call_to_head, input_row, step_slots, ends_open, AreParted}
use Rattle.prem_text.proofs.Prelude.{AreArguments, IsTarget, IsStatement, AreStatements, parted_tokens, argument_tokens, target_tokens, written, all_written, parted_trees, argument_trees}
use Rattle.prem_text.proofs.Prelude.{target_text, target_index, meant, all_meant, name, word, mark, Seen, option_map}
use Rattle.prem_text.proofs.CanonicalLemmas.Expressions.{Spelling, expression_spelling}
use Rattle.prem_text.proofs.CanonicalLemmas.Parts.{Are, none, next, cut, glue, single, row, name_is, value_is, regroup}
use Rattle.prem_text.proofs.CanonicalLemmas.Shaped.{leaves_open, IsShaped, AreShaped}
use Rattle.prem_text.specs.declared.lexing.token.token.Mark.TheVariants as m
use Rattle.prem_text.specs.declared.lexing.token.token.Word.TheVariants as w

-- `expr` of the grammar
pub whole : (e : Expression) (ts : List Seen) → Are (expression_lexemes 1 e) ts → Spelling 1 e ts
whole e ts are = expression_spelling 1 e ts (omega arith) are

-- ---- arguments

-- arguments behind one that has a phrase
record Behind (p : Phrase) (rest : List Expression) (ts : List Seen) : Type 0 where
  before : List Parted
  last : Phrase
  parted : AreParted before
  right : IsExpression 1 last
  tokens : parted_tokens before ++ spelled last ≡ spelled p ++ ts
  same : map unplaced_expression (parted_trees before ++ tree last ∷ []) ≡ unplaced_expression (tree p) ∷ map unplaced_expression rest

behind : (p : Phrase) (rest : List Expression) (ts : List Seen) → IsExpression 1 p → Are (more_arguments rest) ts → Behind p rest ts
behind p [] _ is none = record { before = []; last = p; parted = tt; right = is; tokens = sym (append-nil (spelled p)); same = refl }
behind p (e ∷ rest) ts is are =
    let c = cut (mark m.Comma ∷ expression_lexemes 1 e) (more_arguments rest) ts are in
    let d = cut (mark m.Comma ∷ []) (expression_lexemes 1 e) c.front c.before in
    let s = whole e d.back d.behind in
    let r = behind s.phrase rest c.back (s.tight, s.binds) c.behind in
    record {
      before = (p, d.front) ∷ r.before;
      last = r.last;
      parted = (is, row (comma ∷ []) _ d.front d.before refl, r.parted);
      right = r.right;
      tokens = regroup (spelled p) d.front (parted_tokens r.before) (spelled r.last) (spelled s.phrase) c.back ts r.tokens (glue c (glue d refl s.tokens) refl);
      same = ap (λ (u : List Expression). unplaced_expression (tree p) ∷ u) (r.same ∙ ap (λ (x : Expression). x ∷ map unplaced_expression rest) s.same);
    }

record Given (es : List Expression) (ts : List Seen) : Type 0 where
  phrase : Arguments
  right : AreArguments phrase
  tokens : argument_tokens phrase ≡ ts
  same : map unplaced_expression (argument_trees phrase) ≡ map unplaced_expression es

given : (es : List Expression) (ts : List Seen) → Are (argument_lexemes es) ts → Given es ts
given [] _ none = record { phrase = no_arguments; right = tt; tokens = refl; same = refl }
given (e ∷ rest) ts are =
    let c = cut (expression_lexemes 1 e) (more_arguments rest) ts are in
    let s = whole e c.front c.before in
    let r = behind s.phrase rest c.back (s.tight, s.binds) c.behind in
    record {
      phrase = arguments r.before r.last;
      right = (r.parted, r.right);
      tokens = r.tokens ∙ glue c s.tokens refl;
      same = r.same ∙ ap (λ (x : Expression). x ∷ map unplaced_expression rest) s.same;
    }

-- ---- parts of statements

record Assigned (x : Text) (index : Option Expression) (ts : List Seen) : Type 0 where
  target : Target
  right : IsTarget target
  tokens : target_tokens target ≡ ts
  text : target_text target ≡ x
  same : option_map unplaced_expression (target_index target) ≡ option_map unplaced_expression index

assigned : (x : Text) (index : Option Expression) (ts : List Seen) → Are (target_lexemes x index) ts → Assigned x index ts
assigned x None _ (next _ a _ _ none) = record { target = to_name a x; right = tt; tokens = refl; text = refl; same = refl }
assigned x (Some index) _ (next _ a _ _ (next _ b _ us are)) =
    let c = cut (expression_lexemes 1 index) (mark m.CloseBracket ∷ []) us are in
    let s = whole index c.front c.before in
    record {
      target = to_element a x b s.phrase (place_at 0 c.back);
      right = (s.tight, s.binds);
      tokens = ap (λ (u : List Seen). (name x, a) ∷ (mark m.OpenBracket, b) ∷ u) (glue c s.tokens (single (mark m.CloseBracket) c.back c.behind));
      text = refl;
      same = ap Some s.same;
    }

-- `if ( .. )`
record Tested (condition : Expression) (ts : List Seen) : Type 0 where
  head : List Seen
  phrase : Phrase
  close : List Seen
  begins : IsRow if_head head
  right : IsExpression 1 phrase
  ends : IsRow (right_parenthesis ∷ []) close
  tokens : head ++ spelled phrase ++ close ≡ ts
  same : unplaced_expression (tree phrase) ≡ unplaced_expression condition

tested : (condition : Expression) (ts : List Seen) → Are (if_lexemes condition) ts → Tested condition ts
tested condition ts are =
    let d = cut ((word w.If ∷ mark m.OpenParenthesis ∷ []) ++ expression_lexemes 1 condition) (mark m.CloseParenthesis ∷ []) ts are in
    let c = cut (word w.If ∷ mark m.OpenParenthesis ∷ []) (expression_lexemes 1 condition) d.front d.before in
    let s = whole condition c.back c.behind in
    record {
      head = c.front;
      phrase = s.phrase;
      close = d.back;
      begins = row if_head _ c.front c.before refl;
      right = (s.tight, s.binds);
      ends = row (right_parenthesis ∷ []) _ d.back d.behind refl;
      tokens = glue d (glue c refl s.tokens) refl;
      same = s.same;
    }

compares : (closed : Bool) → is_comparison (mark (comparison_sign closed)) && true ≡ true
compares true = refl
compares false = refl

at_most_is : (x : Text) (closed : Bool) (ts : List Seen) → Are (bound_lexemes x closed) ts → is_at_most ts ≡ closed
at_most_is x true _ (next _ _ _ _ (next _ _ _ _ (next _ _ _ _ none))) = refl
at_most_is x false _ (next _ _ _ _ (next _ _ _ _ (next _ _ _ _ none))) = refl

-- ---- statements

pub record Said (s : Statement) (ts : List Seen) : Type 0 where
  pub phrase : StatementPhrase
  pub right : IsStatement phrase
  pub tokens : written phrase ≡ ts
  pub opened : ends_open phrase ≡ leaves_open (unplaced_statement s)
  pub same : unplaced_statement (meant phrase) ≡ unplaced_statement s

pub record AllSaid (ss : Statements) (ts : List Seen) : Type 0 where
  pub phrase : StatementPhrases
  pub right : AreStatements phrase
  pub tokens : all_written phrase ≡ ts
  pub same : unplaced_statements (listed (all_meant phrase)) ≡ unplaced_statements ss

mutual
  pub said : (s : Statement) (ts : List Seen) → IsShaped (unplaced_statement s) → Are (statement_lexemes s) ts → Said s ts
  said (block at body) ts shaped are =
      let d = cut ((mark m.OpenBrace ∷ []) ++ statements_lexemes body) (mark m.CloseBrace ∷ []) ts are in
      let c = cut (mark m.OpenBrace ∷ []) (statements_lexemes body) d.front d.before in
      let s = all_said body c.back shaped c.behind in
      record {
        phrase = of_block c.front s.phrase d.back;
        right = (row (left_brace ∷ []) _ c.front c.before refl, s.right, row (right_brace ∷ []) _ d.back d.behind refl);
        tokens = glue d (glue c refl s.tokens) refl;
        opened = refl;
        same = ap (block nowhere) s.same;
      }
  said (if_then at condition taken) ts shaped are =
      let c = cut (if_lexemes condition) (statement_lexemes taken) ts are in
      let t = tested condition c.front c.before in
      let s = said taken c.back shaped c.behind in
      record {
        phrase = of_if t.head t.phrase t.close s.phrase;
        right = (t.begins, t.right, t.ends, s.right);
        tokens = glue c t.tokens s.tokens;
        opened = refl;
        same = λ i. if_then nowhere (t.same i) (s.same i);
      }
  said (if_else at condition taken other) ts shaped are =
      let e = cut (if_lexemes condition ++ statement_lexemes taken ++ word w.Else ∷ []) (statement_lexemes other) ts are in
      let d = cut (if_lexemes condition ++ statement_lexemes taken) (word w.Else ∷ []) e.front e.before in
      let c = cut (if_lexemes condition) (statement_lexemes taken) d.front d.before in
      let t = tested condition c.front c.before in
      let s = said taken c.back shaped.0 c.behind in
      let o = said other e.back shaped.2 e.behind in
      record {
        phrase = of_else t.head t.phrase t.close s.phrase d.back o.phrase;
        right = (t.begins, t.right, t.ends, s.right, s.opened ∙ shaped.1, row (the_else ∷ []) _ d.back d.behind refl, o.right);
        tokens = glue e (glue d (glue c t.tokens s.tokens) refl) o.tokens;
        opened = o.opened;
        same = λ i. if_else nowhere (t.same i) (s.same i) (o.same i);
      }
  said (bounded_while at turns condition body) ts shaped are =
      let e = cut (while_lexemes turns ++ expression_lexemes 1 condition ++ mark m.CloseParenthesis ∷ []) (statement_lexemes body) ts are in
      let d = cut (while_lexemes turns ++ expression_lexemes 1 condition) (mark m.CloseParenthesis ∷ []) e.front e.before in
      let c = cut (while_lexemes turns) (expression_lexemes 1 condition) d.front d.before in
      let t = whole condition c.back c.behind in
      let s = said body e.back shaped e.behind in
      record {
        phrase = of_while c.front t.phrase d.back s.phrase;
        right = (row while_head _ c.front c.before refl, (t.tight, t.binds), row (right_parenthesis ∷ []) _ d.back d.behind refl, s.right);
        tokens = glue e (glue d (glue c refl t.tokens) refl) s.tokens;
        opened = s.opened;
        same = λ i. bounded_while nowhere (value_is 2 (while_lexemes turns) c.front c.before i) (t.same i) (s.same i);
      }
  said (counting_for at names low closed high step body) ts shaped are =
      let for_is = for_lexemes names.first in
      let bound_is = bound_lexemes names.second closed in
      let step_is = step_lexemes names.third names.fourth step in
      let f = cut (for_is ++ expression_lexemes 1 low ++ bound_is ++ expression_lexemes 8 high ++ step_is) (statement_lexemes body) ts are in
      let e = cut (for_is ++ expression_lexemes 1 low ++ bound_is ++ expression_lexemes 8 high) step_is f.front f.before in
      let d = cut (for_is ++ expression_lexemes 1 low ++ bound_is) (expression_lexemes 8 high) e.front e.before in
      let c = cut (for_is ++ expression_lexemes 1 low) bound_is d.front d.before in
      let b = cut for_is (expression_lexemes 1 low) c.front c.before in
      let l = whole low b.back b.behind in
      let h = expression_spelling 8 high d.back (omega arith) d.behind in
      let s = said body f.back shaped f.behind in
      record {
        phrase = of_for b.front l.phrase c.back h.phrase summed_step e.back s.phrase;
        right = (
          row for_head _ b.front b.before refl,
          (l.tight, l.binds),
          row for_bound _ c.back c.behind (compares closed),
          (h.tight, h.binds),
          row (step_slots summed_step) _ e.back e.behind refl,
          s.right,
        );
        tokens = glue f (glue e (glue d (glue c (glue b refl l.tokens) refl) h.tokens) refl) s.tokens;
        opened = s.opened;
        same = λ i. counting_for nowhere
            (record {
              first = name_is 2 for_is b.front b.before i;
              second = name_is 1 bound_is c.back c.behind i;
              third =
                  name_is 1 step_is e.back e.behind i;
              fourth = name_is 3 step_is e.back e.behind i;
            })
            (l.same i) (at_most_is names.second closed c.back c.behind i) (h.same i) (value_is 5 step_is e.back e.behind i) (s.same i);
      }
  said (assign at x index value) ts shaped are =
      let e = cut (target_lexemes x index ++ (mark m.Equal ∷ []) ++ expression_lexemes 1 value) (mark m.Semicolon ∷ []) ts are in
      let d = cut (target_lexemes x index ++ mark m.Equal ∷ []) (expression_lexemes 1 value) e.front e.before in
      let c = cut (target_lexemes x index) (mark m.Equal ∷ []) d.front d.before in
      let t = assigned x index c.front c.before in
      let s = whole value d.back d.behind in
      record {
        phrase = of_assign t.target c.back s.phrase e.back;
        right = (t.right, row (equal_sign ∷ []) _ c.back c.behind refl, (s.tight, s.binds), row (semicolon ∷ []) _ e.back e.behind refl);
        tokens = glue e (glue d (glue c t.tokens refl) s.tokens) refl;
        opened = refl;
        same = λ i. assign nowhere (t.text i) (t.same i) (s.same i);
      }
  said (output at value) ts shaped are =
      let d = cut ((word w.Out ∷ mark m.OpenParenthesis ∷ []) ++ expression_lexemes 1 value) tail_lexemes ts are in
      let c = cut (word w.Out ∷ mark m.OpenParenthesis ∷ []) (expression_lexemes 1 value) d.front d.before in
      let s = whole value c.back c.behind in
      record {
        phrase = of_output c.front s.phrase d.back;
        right = (row out_head _ c.front c.before refl, (s.tight, s.binds), row statement_tail _ d.back d.behind refl);
        tokens = glue d (glue c refl s.tokens) refl;
        opened = refl;
        same = ap (output nowhere) s.same;
      }
  said (input at x) ts shaped are = record {
    phrase = of_input ts;
    right = row input_row _ ts are refl;
    tokens = refl;
    opened = refl;
    same = ap (input nowhere) (name_is 0 _ ts are);
  }
  said (call at None callee es) ts shaped are =
      let d = cut (call_lexemes None callee ++ argument_lexemes es) tail_lexemes ts are in
      let c = cut (call_lexemes None callee) (argument_lexemes es) d.front d.before in
      let g = given es c.back c.behind in
      record {
        phrase = of_call c.front g.phrase d.back;
        right = (row call_head _ c.front c.before refl, g.right, row statement_tail _ d.back d.behind refl);
        tokens = glue d (glue c refl g.tokens) refl;
        opened = refl;
        same = λ i. call nowhere None (name_is 0 _ c.front c.before i) (g.same i);
      }
  said (call at (Some target) callee es) ts shaped are =
      let d = cut (call_lexemes (Some target) callee ++ argument_lexemes es) tail_lexemes ts are in
      let c = cut (call_lexemes (Some target) callee) (argument_lexemes es) d.front d.before in
      let g = given es c.back c.behind in
      record {
        phrase = of_call_to c.front g.phrase d.back;
        right = (row call_to_head _ c.front c.before refl, g.right, row statement_tail _ d.back d.behind refl);
        tokens = glue d (glue c refl g.tokens) refl;
        opened = refl;
        same = λ i. call nowhere (Some (name_is 0 _ c.front c.before i)) (name_is 2 _ c.front c.before i) (g.same i);
      }

  pub all_said : (ss : Statements) (ts : List Seen) → AreShaped (unplaced_statements ss) → Are (statements_lexemes ss) ts → AllSaid ss ts
  all_said no_statements _ shaped none = record { phrase = no_phrases; right = tt; tokens = refl; same = refl }
  all_said (next_statement first rest) ts shaped are =
      let c = cut (statement_lexemes first) (statements_lexemes rest) ts are in
      let s = said first c.front shaped.0 c.before in
      let r = all_said rest c.back shaped.1 c.behind in
      record {
        phrase = next_phrase s.phrase r.phrase;
        right = (s.right, r.right);
        tokens = glue c s.tokens r.tokens;
        same = λ i. next_statement (s.same i) (r.same i);
      }
