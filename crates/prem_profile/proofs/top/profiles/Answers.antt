use Rattle.prem_profile.proofs.Tool.{is_tool}
use Rattle.prem_profile.proofs.top.profiles.Goals as goal

pub run_tool-requires : goal.run_tool-requires
run_tool-requires g c = is_tool
