-- The second set, which has no device.
use Rattle.std.specs.Prelude.{codes}
use Rattle.std.proofs.Common.{◌≡◌, ◌≤◌, ℕ, List, [], ◌∷◌, length, arith, Option, Result, Ok, Err, refl, ap, ◌∙◌, sym}
use Rattle.prem_io.specs.Files.{Files}
use Rattle.prem_plant.specs.declared.plant.Device.{Device}
use Rattle.prem_set.specs.SetFile.{SetData}
use Rattle.prem_answer.specs.declared.answer.Telling.TheVariants.{Brief}
use Rattle.prem_answer.specs.Stages.{Reply, IsReadAsBy, and_then, form_reply}
use Rattle.prem_exec.specs.Sources.Sources.{set_limit, set_of_bytes_by}
use Rattle.prem_pair_top.specs.Stages.{other_of_bytes, without, without_devices}

-- its file, as any set file is read, and then without devices
read_without : (told : Option Files) (name : List ℕ) (given also : Result SetData Reply) → IsReadAsBy Brief told set_limit name (set_of_bytes_by Brief name) given →
    and_then given (without_devices name) ≡ also → IsReadAsBy Brief told set_limit name (other_of_bytes name) also
read_without told name given also (read, (is_read, is)) same =
    (read, (is_read, sym same ∙ ap (λ r. and_then r (without_devices name)) is ∙ joined read)) where
      joined : (read : Result (List ℕ) Reply) → and_then (and_then read (set_of_bytes_by Brief name)) (without_devices name) ≡ and_then read (other_of_bytes name)
      joined (Ok bytes) = refl
      joined (Err reply) = refl

file_with : (told : Option Files) (name : List ℕ) (s : SetData) (d : Device) (ds : List Device) (reply : Reply) → IsReadAsBy Brief told set_limit name (set_of_bytes_by Brief name) (Ok s) →
    s.devices ≡ d ∷ ds → reply ≡ form_reply name (codes "limit device") → IsReadAsBy Brief told set_limit name (other_of_bytes name) (Err reply)
file_with told name s d ds reply read some is = read_without told name (Ok s) (Err reply) read (ap (without name s) some ∙ ap Err (sym is))

-- what it states has devices
pub file_with_some : (told : Option Files) (name : List ℕ) (s : SetData) (devices : List Device) (reply : Reply) → IsReadAsBy Brief told set_limit name (set_of_bytes_by Brief name) (Ok s) →
    devices ≡ s.devices → 1 ≤ length devices → reply ≡ form_reply name (codes "limit device") → IsReadAsBy Brief told set_limit name (other_of_bytes name) (Err reply)
file_with_some told name s [] reply read are some is = absurd (omega (arith, some))
file_with_some told name s (d ∷ ds) reply read are some is = file_with told name s d ds reply read (sym are) is
