-- Worked programs whose tasks may have parts.
use Rattle.std.specs.Prelude.{codes, slice_index}
use Rattle.std.proofs.Common.{◌<◌, ◌^◌, refl, arith}
use Rattle.std.proofs.lemmas.List.Elements.{All-from_recursion}
use Rattle.prem_plant.specs.declared.plant.Target.TheVariants.{Rv32i}
use Rattle.prem_syntax.specs.ProgramRules.{first_breach, IsWellFormed}
use Rattle.prem_asm.specs.Pieces.{size_of}
use Rattle.prem_layout.specs.Placed.{Coded}
use Rattle.prem_layout.proofs.Samples.{m_text, m_turns}
use Rattle.prem_layout.proofs.Tasks.{coded}
use Rattle.prem_prefetch.specs.Sizes.Sizes.{IsCodeOf}

abbrev task_m : Coded
task_m = coded (codes "m") 1000 1 m_text m_turns

m_formed : IsWellFormed m_text
unfolding first_breach
m_formed = refl

-- a marked function of one store, and `job`
m_is_code : IsCodeOf m_text task_m
m_is_code =
    record {
      target = Rv32i;
      turns = slice_index m_turns;
      formed = m_formed;
      program = refl;
      kept = refl;
      code = refl;
      small = All-from_recursion (λ ps. size_of ps < 2 ^ 32) task_m.code (omega arith, (omega arith, tt));
    }
