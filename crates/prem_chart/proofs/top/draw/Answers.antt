use Rattle.prem_chart.proofs.Tool.{is_tool}
use Rattle.prem_chart.proofs.top.draw.Goals as goal

pub run_tool-requires : goal.run_tool-requires
run_tool-requires g c = is_tool
