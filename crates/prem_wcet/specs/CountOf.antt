-- Counts in memory.
use Rattle.std.specs.Prelude.{ℕ, ◌+◌, pos}
use Rattle.prem_plant.specs.declared.plant.Plant.{Plant}
use Rattle.prem_isa.specs.declared.instr.Instr.TheVariants.{Jalr, PmMem}
use Rattle.prem_layout.specs.Bounds.{job_weight}
use Rattle.prem_layout.specs.Stretch.Sums.{marked_sums_of}
use Rattle.prem_bounds.specs.ToldSums.{sums_of}
use Rattle.prem_wcet_laws.specs.Counts.{PathCount}
use Rattle.prem_wcet.specs.declared.count.PathCount.{PathCount as CountTree}

abbrev pub count_in : CountTree → PathCount
count_in c = record { total = c.total; sums = sums_of c.sums }

-- a marked call of such a length, behind its jump
abbrev pub marked_by : Plant → ℕ → PathCount
marked_by p stated = record { total = job_weight p PmMem + p.switch + stated + p.switch + job_weight p (Jalr 0 4 (pos 0)); sums = marked_sums_of p }
