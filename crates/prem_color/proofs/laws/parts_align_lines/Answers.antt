use Rattle.prem_color.proofs.Sets.{parts_align_lines}
use Rattle.prem_color.proofs.laws.parts_align_lines.Goals as goal

pub returns : goal.returns
returns c = parts_align_lines
