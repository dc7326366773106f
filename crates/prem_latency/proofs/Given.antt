-- An image whose tasks have scripts, and are charged as loads tell, for all input words serves its devices in every run.
use Rattle.prem_sound.proofs.Images.{run_fits}
use Rattle.prem_latency.specs.Waits.{ServesBy}
use Rattle.prem_latency.specs.Images.{ChargedImagesServeDevices}
use Rattle.prem_latency.proofs.Charged.{charges_serve_in_time, charges_drop_none, charges_serve_each}

pub charged_images_serve_devices : ChargedImagesServeDevices
charged_images_serve_devices rule order passes p content promises limit scopings loads devices tasks d wait policy h are close there asks room inputs requests given =
    let s : ServesBy rule order passes p content inputs requests h.own (h.runs inputs) (h.scripts inputs) (scopings inputs) loads devices tasks d = record {
      policy = policy;
      run = run_fits passes p content promises limit requests h given.trace given.words;
      are_scripts = h.are_scripts inputs given.inputs_are;
      are_loads = are inputs given.inputs_are;
      askings = given.askings;
      closings = close inputs given.inputs_are;
      there = there;
      asks = asks;
    } in (
      λ t n on le. charges_serve_in_time rule order passes p content inputs requests h.own (h.runs inputs) (h.scripts inputs) (scopings inputs) loads devices tasks d wait t n s room on le,
      λ holds. record {
        served = λ t n on le. charges_serve_each rule order passes p content inputs requests h.own (h.runs inputs) (h.scripts inputs)
            (scopings inputs) loads devices tasks d wait t n s room holds on le;
        kept = λ n. charges_drop_none rule order passes p content inputs requests h.own (h.runs inputs) (h.scripts inputs) (scopings inputs) loads devices tasks d wait n s room holds;
      },
    )
