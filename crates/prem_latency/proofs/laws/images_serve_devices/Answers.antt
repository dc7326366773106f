use Rattle.prem_latency.proofs.Given.{charged_images_serve_devices}
use Rattle.prem_latency.proofs.laws.images_serve_devices.Goals as goal

pub returns : goal.returns
returns c = charged_images_serve_devices
