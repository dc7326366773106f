-- What isn't compiled, computed; each program stands above its tree in the language's own text.
use Rattle.std.proofs.Common.{◌≡◌, refl, ℕ, [], ◌∷◌, None, Some}
use Rattle.prem_layout.proofs.Prelude.{depth, frame, excess, excess_of, at, int, statements, global, function, resolve, Routine, Resolved, Constant, Done as NoSteps, binary, assign, output}
use Rattle.prem_layout.proofs.Prelude.{absent, no_statements, ProgramText, Void, Int as IntTy, Add, And, codes, slice_index}
use Rattle.prem_word.specs.declared.kind.Kind.TheVariants.{Int}
use Rattle.std.specs.Prelude.{replicate}

-- a program without counting loops
abbrev program : ProgramText → Resolved
program text = resolve (slice_index []) text

-- twelve registers are enough for twelve literals
--   void job(void) {
--     out(1 + (2 + (3 + (4 + (5 + (6 + (7 + (8 + (9 + (10 + (11 + 12)))))))))));
--   }
fits_text : ProgramText
fits_text = function (at 1 6) None Void (codes "job") ([]) ([])
    (statements ((output (at 2 3) (binary (at 2 9) Add (int 2 7 1)
    (binary (at 2 14) Add (int 2 12 2)
    (binary (at 2 19) Add (int 2 17 3)
    (binary (at 2 24) Add (int 2 22 4)
    (binary (at 2 29) Add (int 2 27 5)
    (binary (at 2 34) Add (int 2 32 6)
    (binary (at 2 39) Add (int 2 37 7)
    (binary (at 2 44) Add (int 2 42 8)
    (binary (at 2 49) Add (int 2 47 9) (binary (at 2 55) Add (int 2 52 10) (binary (at 2 61) Add (int 2 58 11) (int 2 63 12))))))))))))) ∷ [])) None ∷ []

fits_excess : excess (program fits_text) ≡ None
unfolding fits_text
fits_excess = refl

-- the literal that would go into the thirteenth stands before its operator
--   void job(void) {
--     out(1 + (2 + (3 + (4 + (5 + (6 + (7 + (8 + (9 + (10 + (11 + (12
--       + (13 +
--       14)))))))))))));
--   }
deep_text : ProgramText
deep_text = function (at 1 6) None Void (codes "job") ([]) ([])
    (statements ((output (at 2 3) (binary (at 2 9) Add (int 2 7 1)
    (binary (at 2 14) Add (int 2 12 2)
    (binary (at 2 19) Add (int 2 17 3)
    (binary (at 2 24) Add (int 2 22 4)
    (binary (at 2 29) Add (int 2 27 5)
    (binary (at 2 34) Add (int 2 32 6)
    (binary (at 2 39) Add (int 2 37 7)
    (binary (at 2 44) Add (int 2 42 8)
    (binary (at 2 49) Add (int 2 47 9)
    (binary (at 2 55) Add (int 2 52 10)
    (binary (at 2 61) Add (int 2 58 11) (binary (at 3 5) Add (int 2 64 12) (binary (at 3 11) Add (int 3 8 13) (int 4 5 14))))))))))))))) ∷ [])) None ∷ []

deep_excess : excess (program deep_text) ≡ Some (depth 3)
unfolding deep_text
deep_excess = refl

-- an index goes into the second register, and stands before the value
--   int a[2];
--   void job(void) {
--     a[0 & (2 + (3 + (4 + (5 + (6 + (7 + (8 + (9 + (10 + (11 +
--       (12
--       + 13)))))))))))] =
--       (0 & (2 + (3 + (4 + (5 + (6 + (7 + (8 + (9 + (10 + (11 +
--       (12 + 13))))))))))));
--   }
deep2_text : ProgramText
deep2_text = global (at 1 5) IntTy (codes "a") (Some 2) absent ∷
    function (at 2 6) None Void (codes "job") ([]) ([])
    (statements ((assign (at 3 3) (codes "a")
    (Some (binary (at 3 7) And (int 3 5 0)
    (binary (at 3 12) Add (int 3 10 2)
    (binary (at 3 17) Add (int 3 15 3)
    (binary (at 3 22) Add (int 3 20 4)
    (binary (at 3 27) Add (int 3 25 5)
    (binary (at 3 32) Add (int 3 30 6)
    (binary (at 3 37) Add (int 3 35 7)
    (binary (at 3 42) Add (int 3 40 8)
    (binary (at 3 47) Add (int 3 45 9)
    (binary (at 3 53) Add (int 3 50 10) (binary (at 3 59) Add (int 3 56 11) (binary (at 5 5) Add (int 4 6 12) (int 5 7 13))))))))))))))
    (binary (at 6 8) And (int 6 6 0)
    (binary (at 6 13) Add (int 6 11 2)
    (binary (at 6 18) Add (int 6 16 3)
    (binary (at 6 23) Add (int 6 21 4)
    (binary (at 6 28) Add (int 6 26 5)
    (binary (at 6 33) Add (int 6 31 6)
    (binary (at 6 38) Add (int 6 36 7)
    (binary (at 6 43) Add (int 6 41 8)
    (binary (at 6 48) Add (int 6 46 9)
    (binary (at 6 54) Add (int 6 51 10) (binary (at 6 60) Add (int 6 57 11) (binary (at 7 9) Add (int 7 6 12) (int 7 11 13)))))))))))))) ∷ [])) None ∷ []

deep2_excess : excess (program deep2_text) ≡ Some (depth 4)
unfolding deep2_text
deep2_excess = refl

-- 507 locals fill the greatest frame
abbrev big_frame : ℕ → Routine
big_frame n = record {
  text = record {
    at = at 1 6;
    mark = None;
    ty = Void;
    name = codes "f";
    params = [];
    locals = [];
    body = no_statements;
    result =
        None;
  };
  locals = replicate n (Constant (at 1 1) 0 Int);
  body = NoSteps;
  result = None;
}

frame_fits : excess_of 3 (big_frame 507) ≡ None
frame_fits = refl

frame_excess : excess_of 3 (big_frame 508) ≡ Some (frame 3)
frame_excess = refl
