-- What the code at the edges of passages does: the frame and the locals, the arguments, the target, the result and the return.
use Rattle.std.proofs.Common.{◌≡◌, ℕ, zero, suc, ◌+◌, ◌-◌, ◌*◌, ◌%◌, ◌^◌, ◌<◌, ◌≤◌, refl, ap, ◌∙◌, subst, arith, true, Bool, ◌&&◌, List, [], ◌∷◌, ◌++◌, length, Option, Some, None, Ok, inl}
use Rattle.prem_wcet_laws.proofs.Prelude.{run-followed, Pieces, no_pieces, straight, followed, size_of, Setting, Calls, Falls, Returns, with_trace, then_run, all_of, run, all_between}
use Rattle.prem_wcet_laws.proofs.Prelude.{Readable, goes_then, before, after, then_ok, Opened, closed, rounded, resulted, number_same, number_apart, word_back, store_falls, globals_stack}
use Rattle.prem_wcet_laws.proofs.Prelude.{locals_apart, evaluated, still, slot_falls, Globals, GlobalsStand, Stack, Ground, AreApart, AllFit, DeclaredFit, ResultFits, Between, Matches}
use Rattle.prem_wcet_laws.proofs.Prelude.{slot_at, ArgumentsStand, TaskState, Did, Phase, Lw, Sw, locals_of, slots_of, frame_of, argument_slot, store_argument, argument_code, target_code}
use Rattle.prem_wcet_laws.proofs.Prelude.{declare_code, result_code, store_slot, opening, closing, only, term_code, Access, Term, Routine, ProgramState, value, values, declare, result_of}
use Rattle.prem_wcet_laws.proofs.Prelude.{number_at, put_number}
use Rattle.prem_code_laws.proofs.GenLawsLemmas.Frames.{declared, opened}

module _ (s : Setting) (calls : Calls) (gs : Globals) (may : Access) (k : Stack) (ground : Ground s gs may k) (phase : Phase) where
  -- ---- arguments

  pub record Falling (at : ℕ) (ps : Pieces) (t : TaskState) : Type 0 where
    pub to : TaskState
    pub trace : List Did
    pub goes : run s calls at ps t ≡ Falls to trace

  -- words below the frame are no globals
  abbrev pub Apart : (frame : ℕ) → Type 0
  Apart frame = (a w : ℕ) (view : ℕ → ℕ) (globals : List (List ℕ)) → k.sp - frame + 4 ≤ a → a + 4 ≤ k.sp → GlobalsStand s gs globals view → GlobalsStand s gs globals (put_number 4 a w view)

  below_slots : (a i : ℕ) → a + 4 ≤ k.sp → AreApart (slot_at k i) 4 a 4
  below_slots a i h = grind arith

  written : (f : ℕ → Bool) (n a : ℕ) → ((b : ℕ) → a ≤ b → b < a + n → f b ≡ true) → all_of f a n ≡ true
  written f zero a h = refl
  written f (suc n) a h = both (h a (omega arith) (omega arith)) (written f n (a + 1) (λ b le lt. h b (omega (arith, le)) (omega (arith, lt)))) where
    both : {x y : Bool} → x ≡ true → y ≡ true → (x && y) ≡ true
    both {x} {y} e f = ap (λ z. z && y) e ∙ f

  -- stored from number j on, where these bytes may be written
  pub passing : (count frame : ℕ) (es : List Term) (j at : ℕ) (t : TaskState) (p : ProgramState) (ws : List ℕ) → Matches s gs k phase count p t → AllFit gs count es → values may p es ≡ Ok ws →
      4 + 4 * (j + length es) ≤ frame → frame % 4 ≡ 0 → frame ≤ k.sp →
      ((a : ℕ) → k.sp - frame + 4 + 4 * j ≤ a → a < k.sp - frame + 4 + 4 * (j + length es) → s.guard.store a ≡ true) → Apart frame →
      Falling at (argument_code gs.target gs.part frame j es) t
  passing count frame [] j at t p ws m fit is room al deep allowed apart = record { to = t; trace = []; goes = refl }
  passing count frame (e ∷ es) j at t p ws m fit is room al deep allowed apart =
      let x = then_ok (value may p e) _ ws is in
      let y = then_ok (values may p es) _ ws x.1.1 in
      let w = x.0 in
      let ps = term_code gs.target gs.part 10 e in
      let g = evaluated s calls gs may k ground phase count e 10 at t p w (omega arith) m fit.0 x.1.0 in
      let t1 : TaskState = record t { registers = g.registers } in
      let m1 = still s calls gs may k ground phase count at ps t p 10 w (omega arith) m g in
      let at1 = at + size_of ps in
      let a = k.sp - frame + 4 + 4 * j in
      let small : s.size < 2 ^ 32 = ground.small in
      let ends : k.top ≤ s.size = ground.ends in
      let fr : k.sp + 4 + 4 * k.slots ≤ k.top = ground.room in
      let sal : k.sp % 4 ≡ 0 = ground.aligned in
      let two : t1.registers 2 ≡ k.sp = m1.stack in
      let some : 4 + 4 * (j + suc (length es)) ≤ frame = room in
      let to : (t1.registers 2 + (2 ^ 32 - suc (frame - 4 - 4 * j - 1))) % 2 ^ 32 ≡ a = omega arith in
      let st = store_falls s at1 Sw 2 10 (argument_slot frame j) t1 a w to g.value (omega arith) (omega arith) (written s.guard.store 4 a (λ b le lt. allowed b le (omega arith))) in
      let t2 : TaskState = record t1 { view = put_number 4 a w t.view } in
      let m2 : Matches s gs k phase count p t2 = record {
        globals = apart a w t.view p.globals (omega arith) (omega arith) m1.globals;
        locals = locals_apart p.locals k 4 a w t.view (λ i lt. below_slots a i (omega arith)) m1.locals;
        words = m1.words;
        stack = m1.stack;
        count_is = m1.count_is;
        phase_is = m1.phase_is;
        left = m1.left;
        used = m1.used;
        outputs = m1.outputs;
        inputs = m1.inputs;
      } in
      let z = passing count frame es (j + 1) (at1 + 4) t2 p y.0 m2 fit.1 y.1.0 (omega arith) al deep (λ b le lt. allowed b (omega (arith, le)) (omega (arith, lt))) apart in
      let rest = argument_code gs.target gs.part frame (j + 1) es in
      record {
        to = z.to;
        trace = g.trace ++ (st.0 ++ z.trace);
        goes = goes_then s calls ps (straight (store_argument frame j ∷ []) rest) at t t1 z.to g.trace (st.0 ++ z.trace) g.goes
            (before s calls at1 (store_argument frame j) [] rest t1 t2 z.to st.0 z.trace st.1 (after s calls (at1 + 4) rest t2 z.to z.trace z.goes));
      }

  -- ---- the result to its target

  pub landing : (count at : ℕ) (target : Option ℕ) (t : TaskState) (p : ProgramState) → Matches s gs k phase count p t → count ≤ k.slots →
      ((i : ℕ) → target ≡ Some i → i < count) → Falling at (target_code target no_pieces) t
  landing count at None t p m fits inside = record { to = t; trace = []; goes = refl }
  landing count at (Some i) t p m fits inside =
      let x = slot_falls s calls gs may k ground phase count i (i + 1) at i t p (t.registers 10) m (omega (arith, inside i refl)) refl in
      record { to = _; trace = x.0 ++ []; goes = before s calls at (store_slot i) [] no_pieces t _ _ x.0 [] x.1 (after s calls (at + 4) no_pieces _ _ [] refl) }

  -- ---- the frame and the locals

  pub record Entered (at back : ℕ) (f : Routine) (t : TaskState) (p : ProgramState) : Type 0 where
    pub to : TaskState
    pub trace : List Did
    pub goes : run s calls at (straight (opening (frame_of f)) (declare_code gs.target gs.part (length f.text.params) f.locals)) t ≡ Falls to trace
    pub matches : Matches s gs k phase (locals_of f) p to
    pub home : number_at to.view k.sp 4 ≡ back

  beside : (base i : ℕ) → AreApart (base + 4 + 4 * i) 4 base 4
  beside base i = grind arith

  pub entered : (f : Routine) (at back : ℕ) (ws : List ℕ) (q p1 : ProgramState) (t : TaskState) → k.slots ≡ slots_of f →
      DeclaredFit gs (length f.text.params) f.locals → length ws ≡ length f.text.params → ArgumentsStand t.view k.sp ws →
      Between s gs phase q t → t.registers 2 ≡ k.sp + frame_of f → k.sp + frame_of f < 2 ^ 32 → t.registers 1 ≡ back → back < 2 ^ 32 →
      declare may f.locals (record q { locals = ws }) ≡ Ok p1 → Entered at back f t p1
  entered f at back ws q p1 t slots_is fit len args b two top_small one back_small is =
      let frame = frame_of f in
      let r = rounded (4 + 4 * slots_of f) in
      let holds : 4 + 4 * slots_of f ≤ frame = r.1.0 in
      let room : k.sp + 4 + 4 * k.slots ≤ k.top = ground.room in
      let ends : k.top ≤ s.size = ground.ends in
      let small : s.size < 2 ^ 32 = ground.small in
      let sal : k.sp % 4 ≡ 0 = ground.aligned in
      let floor : k.low ≤ k.sp = ground.floor in
      let below : k.sp + frame - frame ≡ k.sp = omega arith in
      let same_slots : k.slots ≡ slots_of f = slots_is in
      let op0 = opened s at frame (k.sp + frame) back t b.words two one (omega arith) (omega arith) top_small (omega arith) (omega arith)
      (all_between s.guard.store k.low k.top ground.stores 4 (k.sp + frame - frame) (omega arith) (omega arith)) in
      let op = subst (λ sp. Opened s at frame sp back t) below op0 in
      let p0 : ProgramState = record q { locals = ws } in
      let t1 : TaskState = record t { registers = op.registers; view = put_number 4 k.sp back t.view } in
      let m0 : Matches s gs k phase (length f.text.params) p0 t1 = record {
        globals = globals_stack s gs may k ground q.globals 4 k.sp back t.view (omega arith) (omega arith) b.globals;
        locals = record {
          fits = omega arith;
          stands = λ i lt. number_apart 4 k.sp back t.view (k.sp + 4 + 4 * i) 4 (beside k.sp i) ∙ args.stands i lt;
          word = args.word;
        };
        words = op.words;
        stack = op.stack;
        count_is = len;
        phase_is = b.phase_is;
        left = b.left;
        used = b.used;
        outputs = b.outputs;
        inputs = b.inputs;
      } in
      let d = declared s calls gs may k ground phase (locals_of f) (locals_of f) (slots_of f) (omega arith) (omega arith) f.locals (length f.text.params) (at + 8) t1 p0 p1 m0 fit refl is in
      record {
        to = d.to;
        trace = op.trace ++ d.trace;
        goes = ap (λ o. then_run o (run s calls (at + 8) (declare_code gs.target gs.part (length f.text.params) f.locals))) op.goes ∙ ap (with_trace op.trace) d.goes;
        matches = d.matches;
        home = number_same d.to.view t1.view 4 k.sp (λ b le lt. d.kept b (inl (le, lt))) ∙ word_back k.sp back t.view back_small;
      }

  -- ---- the result and the return

  pub record Left (at back : ℕ) (f : Routine) (t : TaskState) : Type 0 where
    pub to : TaskState
    pub trace : List Did
    pub goes : run s calls at (followed (result_code gs.target gs.part f.result) (only (closing (frame_of f)))) t ≡ Returns back to trace

  pub left : (f : Routine) (at back w : ℕ) (t : TaskState) (p : ProgramState) → k.slots ≡ slots_of f → ResultFits gs (locals_of f) f.result →
      Matches s gs k phase (locals_of f) p t → result_of may f.result p ≡ Ok w →
      number_at t.view k.sp 4 ≡ back → k.sp + frame_of f < 2 ^ 32 → back % 4 ≡ 0 → back < 2 ^ 32 → Left at back f t
  left f at back w t p slots_is fit m is home top_small back_al back_small =
      let frame = frame_of f in
      let r = rounded (4 + 4 * slots_of f) in
      let holds : 4 + 4 * slots_of f ≤ frame = r.1.0 in
      let room : k.sp + 4 + 4 * k.slots ≤ k.top = ground.room in
      let ends : k.top ≤ s.size = ground.ends in
      let sal : k.sp % 4 ≡ 0 = ground.aligned in
      let floor : k.low ≤ k.sp = ground.floor in
      let d = resulted s calls gs may k ground phase (locals_of f) at f.result t p w m fit is in
      let at1 = at + size_of (result_code gs.target gs.part f.result) in
      let readable : Readable s d.to.view Lw k.sp back = record {
        aligned = omega arith;
        within = omega arith;
        gives = ap (λ v. number_at v k.sp 4) d.view ∙ home;
        word = back_small;
        allowed = all_between s.guard.load k.low k.top ground.loads 4 k.sp (omega arith) (omega arith);
      } in
      let c = closed s calls at1 frame k.sp (k.sp + frame) back d.to d.matches.words d.matches.stack refl top_small (omega arith) back_al back_small readable in
      record {
        to = record d.to { registers = c.registers };
        trace = d.trace ++ c.trace;
        goes = run-followed s calls (result_code gs.target gs.part f.result) (only (closing frame)) at t
            ∙ ap (λ o. then_run o (run s calls at1 (only (closing frame)))) d.goes ∙ ap (with_trace d.trace) c.goes;
      }
