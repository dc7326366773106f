use Rattle.std.proofs.Common.{sym, subst, ap, ◌∙◌, map}
use Rattle.prem_list.specs.Sequence.{items_of}
use Rattle.prem_plant.specs.declared.plant.Device.{Device}
use Rattle.prem_plant.specs.Label.{AreDistinct}
use Rattle.prem_report.specs.Fitting.Named.{devices_in}
use Rattle.prem_report.proofs.FittingLemmas.Fits.{distinct_devices}
use Rattle.prem_report.proofs.fitting.names.names_of_image.Goals as goal

pub new-requires-clause-distinct_devices : goal.new-requires-clause-distinct_devices
new-requires-clause-distinct_devices c =
    subst (λ ds. AreDistinct (map (λ (d : Device). d.name) ds)) (sym (c.deref-2.ensures.value ∙ c.in_ok-devices.ensures ∙ ap devices_in c.items-2.ensures))
    (distinct_devices (items_of c.args.image.now.devices) c.args.image.now.lawful.device_names)
