use Rattle.prem_pair_top.proofs.Tool.{is_tool}
use Rattle.prem_pair_top.proofs.top.run_pair.Goals as goal

pub run_plain_tool-requires : goal.run_plain_tool-requires
run_plain_tool-requires g c = is_tool
