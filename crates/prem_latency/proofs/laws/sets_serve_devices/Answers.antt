use Rattle.prem_latency.proofs.SetWaits.{sets_serve_devices}
use Rattle.prem_latency.proofs.laws.sets_serve_devices.Goals as goal

pub returns : goal.returns
returns c = sets_serve_devices
