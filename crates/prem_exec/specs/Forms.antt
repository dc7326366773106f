-- What is written of image files and run files that aren't in their form.
use Rattle.std.specs.Prelude.{ℕ, List, [], ◌++◌, Result, Ok, Err, codes, decimal}
use Rattle.prem_gate.specs.declared.request.Request.{Request}
use Rattle.prem_image.specs.Text.{ImageText}
use Rattle.prem_set.specs.declared.run.fail.Which.{Which}
use Rattle.prem_set.specs.declared.run.fail.Which.TheVariants as which
use Rattle.prem_set.specs.Run.Run.{Gathered, LineRefusal}
use Rattle.prem_imagefile.specs.declared.fail.ImageFail.{ImageFail}
use Rattle.prem_imagefile.specs.declared.fail.ImageFail.TheVariants.{Magic, Version, Short, Long, Field, OutOfMemory}
use Rattle.prem_answer.specs.declared.answer.Telling.{Telling}
use Rattle.prem_answer.specs.declared.answer.Telling.TheVariants.{Whole}
use Rattle.prem_answer.specs.Stages.{Reply, form_by, form_reply}

-- why bytes are no image; want of memory is no reason
abbrev pub image_why : ImageFail → List ℕ
image_why Magic = codes "magic"
image_why (Version found) = codes "version " ++ decimal found
image_why (Short at) = codes "short " ++ decimal at
image_why (Long at) = codes "long " ++ decimal at
image_why (Field at) = codes "field " ++ decimal at
image_why OutOfMemory = []

abbrev pub which_word : Which → List ℕ
which_word which.Text = codes "text"
which_word which.Word = codes "word"
which_word which.Task = codes "task"
which_word which.Device = codes "device"
which_word which.Number = codes "number"
which_word which.Slot = codes "slot"
which_word which.Order = codes "order"
which_word which.Limit = codes "limit"

-- why a line of a run file is refused
abbrev pub line_why : LineRefusal → List ℕ
line_why refusal = codes "line " ++ (decimal refusal.0 ++ (codes " " ++ which_word refusal.1))

-- the image of a file
abbrev pub image_in : List ℕ → Result ImageText ImageFail → Result ImageText Reply
image_in name (Ok image) = Ok image
image_in name (Err fail) = Err (form_reply name (image_why fail))

-- the input words of each task and the requests of the devices
pub record RunText : Type 0 where
  pub words : List (List ℕ)
  pub requests : List Request

-- those of a run file
abbrev pub run_in_by : Telling → List ℕ → Result Gathered LineRefusal → Result RunText Reply
run_in_by how name (Ok g) = Ok (record { words = g.words; requests = g.requests })
run_in_by how name (Err refusal) = Err (form_by how name (line_why refusal))

abbrev pub run_in : List ℕ → Result Gathered LineRefusal → Result RunText Reply
run_in name read = run_in_by Whole name read
