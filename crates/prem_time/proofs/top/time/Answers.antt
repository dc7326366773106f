use Rattle.prem_time.proofs.Tool.{is_tool}
use Rattle.prem_time.proofs.top.time.Goals as goal

pub run_plain_tool-requires : goal.run_plain_tool-requires
run_plain_tool-requires g c = is_tool
