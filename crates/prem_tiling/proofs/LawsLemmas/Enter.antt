-- Calls of functions: of one that has no tiles, and of the one that has.
use Rattle.std.proofs.Common.{◌≡◌, ℕ, Bool, true, false, List, [], ◌∷◌, ◌++◌, refl, ap, sym, ◌∙◌, subst, Option, None, Some, Ok, append_assoc}
use Rattle.prem_tiling.proofs.Prelude.{and_then, eval, Term, Routine, everywhere, ProgramState, MarkedCall, Calls, value, run, with_new_local, declare, result_of, with_mark, is_marked}
use Rattle.prem_tiling.proofs.Prelude.{leave, enter, renumbered, MarksTiled, no_marks, other_mark, tile_marks}
use Rattle.prem_tiling.proofs.LawsLemmas.Alike.{Alike}
use Rattle.prem_tiling.proofs.LawsLemmas.Joint.{Joint, fine, joint_then, same_then}

-- ---- marks

pub marks_append : {first tiles : ℕ} {ms ns xs ys : List MarkedCall} → MarksTiled first tiles ms ns → MarksTiled first tiles xs ys → MarksTiled first tiles (ms ++ xs) (ns ++ ys)
marks_append no_marks more = more
marks_append (other_mark m other rest) more = other_mark m other (marks_append rest more)
marks_append {first = first} {tiles = tiles} {xs = xs} {ys = ys} (tile_marks {ms = ms} {ns = ns} m ts is are rest) more =
    subst (λ zs. MarksTiled first tiles (m ∷ (ms ++ xs)) zs) (sym (append_assoc ts ns ys)) (tile_marks m ts is are (marks_append rest more))

abbrev mark_of : ℕ → List (List ℕ) → List (List ℕ) → MarkedCall
mark_of g before after = record { function = g; before = before; after = after }

-- ---- a function without tiles

module _ {first tiles : ℕ} where
  new_local_alike : (w : ℕ) {u v : ProgramState} → Alike first tiles u v → Alike first tiles (with_new_local w u) (with_new_local w v)
  new_local_alike w a = record { same = ap (with_new_local w) a.same; marks = a.marks }

  declare_alike : (es : List Term) (u v : ProgramState) → Alike first tiles u v → Joint (Alike first tiles) (declare everywhere es u) (declare everywhere es v)
  declare_alike [] u v a = fine a
  declare_alike (e ∷ es) u v a =
      same_then (value everywhere u e) (value everywhere v e) (λ w. declare everywhere es (with_new_local w u)) (λ w. declare everywhere es (with_new_local w v))
      (ap (λ (b : ProgramState). eval everywhere b.globals b.locals e) a.same) (λ w. declare_alike es (with_new_local w u) (with_new_local w v) (new_local_alike w a))

  result_alike : (e : Option Term) (u v : ProgramState) → Alike first tiles u v → result_of everywhere e u ≡ result_of everywhere e v
  result_alike None u v a = refl
  result_alike (Some e) u v a = ap (λ (b : ProgramState). eval everywhere b.globals b.locals e) a.same

  noted_alike : (b : Bool) (g : ℕ) (before before' after after' : List (List ℕ)) (ms ns : List MarkedCall) → (g ≡ first → ⊥) → before ≡ before' → after ≡ after' → MarksTiled first tiles ms ns →
      MarksTiled first tiles (with_mark b (mark_of g before after) ms) (with_mark b (mark_of (renumbered first tiles g) before' after') ns)
  noted_alike false g before before' after after' ms ns other e f are = are
  noted_alike true g before before' after after' ms ns other e f are =
      subst (λ x. MarksTiled first tiles (ms ++ mark_of g before after ∷ []) (ns ++ mark_of (renumbered first tiles g) x after' ∷ [])) e
      (subst (λ x. MarksTiled first tiles (ms ++ mark_of g before after ∷ []) (ns ++ mark_of (renumbered first tiles g) before x ∷ [])) f
      (marks_append are (other_mark (mark_of g before after) other no_marks)))

  left_alike : (r r' : Routine) (g : ℕ) → is_marked r ≡ is_marked r' → (g ≡ first → ⊥) → (u v x y : ProgramState) → Alike first tiles u v →
      Alike first tiles x y → Alike first tiles (leave r g u x) (leave r' (renumbered first tiles g) v y)
  left_alike r r' g marked other u v x y a b = record {
    same = λ i. record (b.same i) { locals = (a.same i).locals };
    marks = subst (λ m. MarksTiled first tiles (leave r g u x).marks (with_mark m (mark_of (renumbered first tiles g) v.globals y.globals) y.marks)) marked
        (noted_alike (is_marked r) g u.globals v.globals x.globals y.globals x.marks y.marks other (λ i. (a.same i).globals) (λ i. (b.same i).globals) b.marks);
  }

  -- a call that enters two routines which do the same
  pub enter_alike : (calls calls' : Calls) (r r' : Routine) (g : ℕ) (ws : List ℕ) (u v : ProgramState) → (g ≡ first → ⊥) → is_marked r ≡ is_marked r' → r.locals ≡ r'.locals → r.result ≡ r'.result →
      ((x y : ProgramState) → Alike first tiles x y → Joint (Alike first tiles) (run everywhere calls r.body x) (run everywhere calls' r'.body y)) → Alike first tiles u v →
      Joint (λ (a b : ℕ × ProgramState). (a.0 ≡ b.0) × Alike first tiles a.1 b.1) (enter calls everywhere r g ws u) (enter calls' everywhere r' (renumbered first tiles g) ws v)
  enter_alike calls calls' r r' g ws u v other marked locals_are result_is body a =
      joint_then (λ t. and_then (run everywhere calls r.body t) (λ x. and_then (result_of everywhere r.result x) (λ w. Ok (w, leave r g u x))))
      (λ t. and_then (run everywhere calls' r'.body t) (λ x. and_then (result_of everywhere r'.result x) (λ w. Ok (w, leave r' (renumbered first tiles g) v x))))
      (subst (λ es. Joint (Alike first tiles) (declare everywhere r.locals (record u { locals = ws })) (declare everywhere es (record v { locals = ws }))) locals_are
      (declare_alike r.locals (record u { locals = ws }) (record v { locals = ws }) (record { same = λ i. record (a.same i) { locals = ws }; marks = a.marks })))
      (λ p q b. joint_then (λ x. and_then (result_of everywhere r.result x) (λ w. Ok (w, leave r g u x)))
      (λ x. and_then (result_of everywhere r'.result x) (λ w. Ok (w, leave r' (renumbered first tiles g) v x)))
      (body p q b)
      (λ x y d. same_then (result_of everywhere r.result x) (result_of everywhere r'.result y) (λ w. Ok (w, leave r g u x)) (λ w. Ok (w, leave r' (renumbered first tiles g) v y))
      (result_alike r.result x y d ∙ ap (λ e. result_of everywhere e y) result_is) (λ w. fine (refl, left_alike r r' g marked other u v x y a d))))
