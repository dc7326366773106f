-- All statements of a body are read as the grammar says.
use Rattle.std.proofs.Common.{◌≡◌, ℕ, suc, List, [], ◌∷◌, ◌++◌, None, Some, Bool, true, false, refl, ap, sym, subst, ◌∙◌, append_assoc}
use Rattle.prem_text.proofs.Prelude.{Expression, Statement, block, if_then, Place, tree, name_at, quiet, opening, right_brace, value_at, place_at, is_else, is_right_brace, Around, in_block}
use Rattle.prem_text.proofs.Prelude.{in_taken, in_other, in_while, in_for, Point, between, may_else, on, ended, is_at_most, turn, listed, step_size, argument_tokens, argument_past}
use Rattle.prem_text.proofs.Prelude.{StatementPhrase, of_block, of_if, of_else, of_for, of_while, of_output, of_call, of_input, of_call_to, of_assign, of_change, of_count, StatementPhrases}
use Rattle.prem_text.proofs.Prelude.{no_phrases, next_phrase, IsStatement, AreStatements, ends_open, written, all_written, meant, all_meant, loop_names, past, all_past, Lexeme, mark, Seen}
use Rattle.prem_text.proofs.Prelude.{append-nil}
use Rattle.prem_text.proofs.GrammarLemmas.Taken.{Turns, stay, go, turns_append, depth_of, ended_quiet, first_brace, nest_flag}
use Rattle.prem_text.proofs.GrammarLemmas.TakenAll.{call_begins, call_to_begins, input_reads, assign_reads, change_reads, count_reads, settle_same, plain_append, plain_slot, plain_statement}
use Rattle.prem_text.proofs.GrammarLemmas.TakenAll.{agree}
use Rattle.prem_text.proofs.GrammarLemmas.TakenWhole.{output_reads, if_reads, while_reads, for_reads, arguments_read}
use Rattle.prem_text.specs.declared.lexing.token.token.Mark.TheVariants as m

pub record Reading (s : StatementPhrase) (around : Around) : Type 0 where
  pub end : Point
  pub turns : Turns (between around) (written s) (past (suc (depth_of around)) s) end
  pub same : (t : Seen) → (ends_open s ≡ true → is_else t.0 ≡ false) → turn end t ≡ turn (ended (meant s) around) t

-- a body or a block, by the statements in it
pub record Frame (f : List Statement → Around) (k : ℕ) : Type 0 where
  pub adds : (s : Statement) (before : List Statement) (t : Seen) → turn (ended s (f before)) t ≡ turn (between (f (before ++ s ∷ []))) t
  pub deep : (before : List Statement) → depth_of (f before) ≡ k

-- statements are read from some others on
pub record ReadingAll (ss : StatementPhrases) (f : List Statement → Around) (k : ℕ) (before : List Statement) : Type 0 where
  pub end : Point
  pub turns : Turns (between (f before)) (all_written ss) (all_past (suc k) ss) end
  pub same : (t : Seen) → is_else t.0 ≡ false → turn end t ≡ turn (between (f (before ++ all_meant ss))) t

brace_ends : (from : Place) (before : List Statement) (around : Around) (x : Lexeme) (at : Place) → is_right_brace x ≡ true →
    turn (between (in_block from before around)) (x, at) ≡ on (ended (block from (listed before)) around)
brace_ends from before around (mark m.CloseBrace) at h = refl
brace_ends from before around (mark _) at h = absurd cc
brace_ends from before around _ at h = absurd cc

plainly : (s : StatementPhrase) (around : Around) (end : Point) → Turns (between around) (written s) (past (suc (depth_of around)) s) end → end ≡ ended (meant s) around → Reading s around
plainly s around end turns is = record { end = end; turns = turns; same = λ t plain. ap (λ (p : Point). turn p t) is }

else_taken : (first : Point) (at : Place) (condition : Expression) (taken : Statement) (around : Around) (t : Seen) → is_else t.0 ≡ true → turn first t ≡ turn (may_else at condition taken around) t →
    turn first t ≡ on (between (in_other at condition taken around))
else_taken first at condition taken around t h is = is ∙ rw h refl

abbrev pub both_of : List Seen → List Bool → List Seen × List Bool
both_of xs cs = (xs, cs)

pub pairs : (xs ys : List Seen) (cs bs : List Bool) → xs ≡ ys → cs ≡ bs → both_of xs cs ≡ both_of ys bs
pairs xs ys cs bs same flags = ap (λ (l : List Seen). both_of l cs) same ∙ ap (λ (l : List Bool). both_of ys l) flags

mutual
  reads_statement : (s : StatementPhrase) (around : Around) → IsStatement s → Reading s around
  reads_statement (of_block [] inner tail) around right = absurd right.0
  reads_statement (of_block (h ∷ h' ∷ hs) inner tail) around right = absurd right.0.1
  reads_statement (of_block (h ∷ []) inner []) around right = absurd right.2
  reads_statement (of_block (h ∷ []) inner (t ∷ t' ∷ ts)) around right = absurd right.2.1
  reads_statement (of_block (h ∷ []) inner (t ∷ [])) around right =
      let all = reads_statements inner (λ before. in_block h.1 before around) (suc (depth_of around)) [] record { adds = λ s before t. refl; deep = λ before. refl } right.1 in
      let last = all.same t (plain_slot right_brace t.0 refl right.2.0) ∙ brace_ends h.1 (all_meant inner) around t.0 t.1 right.2.0 in
      plainly (of_block (h ∷ []) inner (t ∷ [])) around _
      (turns_append (go _ (between (in_block h.1 [] around)) _ h _ _ _ (first_brace around h.0 h.1 right.0.0) (nest_flag around) all.turns)
      (go _ _ _ t [] false [] last (ended_quiet _ around) (stay _))) refl
  reads_statement (of_if head condition close taken) around right =
      let inner = reads_statement taken (in_taken (place_at 0 head) (tree condition) around) right.3 in
      record {
        end = inner.end;
        turns = turns_append (if_reads head condition close around right.0 right.1 right.2) inner.turns;
        same = λ t plain.
            let no_else : is_else t.0 ≡ false = plain refl in
            inner.same t (λ _. no_else) ∙ rw no_else (settle_same (if_then (place_at 0 head) (tree condition) (meant taken)) around t no_else);
      }
  reads_statement (of_else head condition close taken [] other) around right = absurd right.5
  reads_statement (of_else head condition close taken (t ∷ t' ∷ ts) other) around right = absurd right.5.1
  reads_statement (of_else head condition close taken (t ∷ []) other) around right =
      let first = reads_statement taken (in_taken (place_at 0 head) (tree condition) around) right.3 in
      let second = reads_statement other (in_other (place_at 0 head) (tree condition) (meant taken) around) right.6 in
      let closed : ends_open taken ≡ false = right.4 in
      let met = first.same t (λ is. let e : true ≡ false = sym is ∙ closed in absurd cc) in
      record {
        end = second.end;
        turns = turns_append (turns_append (turns_append (if_reads head condition close around right.0 right.1 right.2) first.turns)
            (go _ _ _ t [] false [] (else_taken first.end (place_at 0 head) (tree condition) (meant taken) around t right.5.0 met) refl (stay _))) second.turns;
        same = second.same;
      }
  reads_statement (of_for head low bound high form step body) around right =
      let inner = reads_statement body (in_for (place_at 0 head) (loop_names head bound form step) (tree low) (is_at_most bound) (tree high) (step_size form step) around) right.5 in
      record { end = inner.end; turns = turns_append (for_reads head low bound high form step around right.0 right.1 right.2 right.3 right.4) inner.turns; same = inner.same }
  reads_statement (of_while head condition close body) around right =
      let inner = reads_statement body (in_while (place_at 0 head) (value_at 2 head) (tree condition) around) right.3 in
      record { end = inner.end; turns = turns_append (while_reads head condition close around right.0 right.1 right.2) inner.turns; same = inner.same }
  reads_statement (of_output head value tail) around right = plainly (of_output head value tail) around _ (output_reads head value tail around right) refl
  reads_statement (of_call head given tail) around right =
      plainly (of_call head given tail) around _
      (subst (λ (l : List Seen × List Bool). Turns (between around) l.0 l.1 (ended (meant (of_call head given tail)) around))
      (pairs _ _ _ _ (sym (append_assoc head (argument_tokens given) tail))
      (sym (append_assoc (opening (suc (depth_of around)) head) (argument_past given) (quiet tail))))
      (turns_append (call_begins around head right.0) (arguments_read (place_at 0 head) None (name_at 0 head) given tail around right.1 right.2))) refl
  reads_statement (of_input row) around right = plainly (of_input row) around _ (input_reads around row right) refl
  reads_statement (of_call_to head given tail) around right =
      plainly (of_call_to head given tail) around _
      (subst (λ (l : List Seen × List Bool). Turns (between around) l.0 l.1 (ended (meant (of_call_to head given tail)) around))
      (pairs _ _ _ _ (sym (append_assoc head (argument_tokens given) tail))
      (sym (append_assoc (opening (suc (depth_of around)) head) (argument_past given) (quiet tail))))
      (turns_append (call_to_begins around head right.0) (arguments_read (place_at 0 head) (Some (name_at 0 head)) (name_at 2 head) given tail around right.1 right.2))) refl
  reads_statement (of_assign g sign value tail) around right = plainly (of_assign g sign value tail) around _ (assign_reads g sign value tail around right) refl
  reads_statement (of_change g direction sign value tail) around right = plainly (of_change g direction sign value tail) around _ (change_reads g direction sign value tail around right) refl
  reads_statement (of_count g direction row) around right = plainly (of_count g direction row) around _ (count_reads g direction row around right) refl

  pub reads_statements : (ss : StatementPhrases) (f : List Statement → Around) (k : ℕ) (before : List Statement) → Frame f k → AreStatements ss → ReadingAll ss f k before
  reads_statements no_phrases f k before frame right =
      record { end = between (f before); turns = stay _; same = λ t plain. ap (λ (l : List Statement). turn (between (f l)) t) (sym (append-nil before)) }
  reads_statements (next_phrase first no_phrases) f k before frame right =
      let one = reads_statement first (f before) right.0 in
      record {
        end = one.end;
        turns = turns_append (subst (λ (d : ℕ). Turns (between (f before)) (written first) (past (suc d) first) one.end) (frame.deep before) one.turns) (stay _);
        same = λ t plain. one.same t (λ _. plain) ∙ frame.adds (meant first) before t;
      }
  reads_statements (next_phrase first (next_phrase second rest)) f k before frame right =
      let one = reads_statement first (f before) right.0 in
      let all = reads_statements (next_phrase second rest) f k (before ++ meant first ∷ []) frame right.1 in
      record {
        end = all.end;
        turns = turns_append (subst (λ (d : ℕ). Turns (between (f before)) (written first) (past (suc d) first) one.end) (frame.deep before) one.turns)
            (agree one.end (between (f (before ++ meant first ∷ []))) all.end _ _ (λ t plain. one.same t (λ _. plain) ∙ frame.adds (meant first) before t)
            (plain_append (written second) (all_written rest) (plain_statement second right.1.0)) all.turns);
        same = λ t plain. all.same t plain ∙ ap (λ (l : List Statement). turn (between (f l)) t) (append_assoc before (meant first ∷ []) (all_meant (next_phrase second rest)));
      }
