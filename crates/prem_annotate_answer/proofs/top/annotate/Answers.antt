use Rattle.prem_annotate_answer.proofs.Tool.{is_tool}
use Rattle.prem_annotate_answer.proofs.top.annotate.Goals as goal

pub run_tool-requires : goal.run_tool-requires
run_tool-requires g c = is_tool
