use Rattle.prem_latency.proofs.JoinedRuns.{joined_images_serve_devices}
use Rattle.prem_latency.proofs.laws.joined_images_serve_devices.Goals as goal

pub returns : goal.returns
returns c = joined_images_serve_devices
