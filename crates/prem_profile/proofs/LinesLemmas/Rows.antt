-- Worked line tables.
use Rattle.std.specs.Prelude.{slice_index_or, map}
use Rattle.std.proofs.Common.{◌≡◌, refl, ℕ, List, [], ◌∷◌, ◌++◌}
use Rattle.prem_word.specs.declared.kind.Kind.TheVariants.{Int}
use Rattle.prem_plant.specs.declared.plant.Target.TheVariants.{Rv32i}
use Rattle.prem_syntax.specs.declared.tree.Place.{Place}
use Rattle.prem_syntax.specs.Resolve.{resolve}
use Rattle.prem_syntax.specs.Resolved.{Constant, Local, Steps, Done, Output, Input, If, While}
use Rattle.prem_layout.proofs.Samples.{fir_text, fir_turns}
use Rattle.prem_profile.specs.Lines.Table.{at_line, function_lines, steps_lines}

-- the lines of the functions of the program of a filter, which `prem_layout` has with its text
abbrev fir_lines : List (List ℕ)
fir_lines = map (function_lines Rv32i) (resolve (λ n. slice_index_or fir_turns n 0) fir_text).routines

-- `fir`, and `job`: what opens each, the locals, the outer loop, what is in it, and what closes them
fir_row :
    fir_lines
    ≡ (at_line 5 2 ++ at_line 6 2 ++ at_line 7 2 ++ at_line 8 2 ++ at_line 9 6 ++ at_line 10 2 ++ at_line 11 38 ++ at_line 12 7 ++ at_line 9 4 ++ at_line 5 3)
    ∷ (at_line 15 2 ++ at_line 16 2 ++ at_line 17 2 ++ at_line 18 19 ++ at_line 19 1 ++ at_line 20 17 ++ at_line 15 3)
    ∷ []
fir_row = refl

abbrev at : ℕ → Place
at line = record { line = line; col = 1 }

-- `if (x) { out(7); } else { x = in(); }`, and `BOUNDED(5) while (x) { out(7); }`, each part on a line of its own
abbrev choice_and_loop : Steps
choice_and_loop =
    If (at 1) (Local (at 1) 0 Int) (Output (at 2) (Constant (at 2) 7 Int) Done) (Input (at 3) 0 Done)
    (While (at 4) 5 (Local (at 4) 0 Int) (Output (at 5) (Constant (at 5) 7 Int) Done) Done)

-- the condition with its test and jump, the taken side, the jump over the other one, and that; the head, the body, and the jump back
choice_and_loop_row : steps_lines Rv32i choice_and_loop ≡ at_line 1 3 ++ at_line 2 2 ++ at_line 1 1 ++ at_line 3 2 ++ at_line 4 12 ++ at_line 5 2 ++ at_line 4 1
choice_and_loop_row = refl
