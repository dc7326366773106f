-- Each answer may be given, and is the one to a set and a run file that are there and in form.
use Rattle.std.proofs.Common.{refl}
use Rattle.prem_answer.specs.Tool.{IsTool}
use Rattle.prem_running.proofs.Tellings.{is_telling_tool}
use Rattle.prem_wave.specs.Answer.{wave_tells, wave_tool}

pub is_tool : IsTool wave_tool
is_tool = is_telling_tool wave_tool.usage wave_tells (λ asked set input c. refl)
