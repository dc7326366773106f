-- What is said of a set file that isn't in its form.
use Rattle.std.specs.Prelude.{ℕ, List, [], ◌++◌, Result, Ok, Err, codes}
use Rattle.prem_syntax.specs.Syntax.{Text}
use Rattle.prem_set.specs.declared.fault.SetFail.{SetFail}
use Rattle.prem_set.specs.declared.fault.SetFail.TheVariants.{NotToml, Key, Kind, Value, Limit, OutOfMemory}
use Rattle.prem_set.specs.SetFile.{SetData, set_of}
use Rattle.prem_answer.specs.declared.status.Status.TheVariants.{Refused}
use Rattle.prem_answer.specs.Stages.{Reply}
use Rattle.prem_lint.specs.declared.spot.Spot.{Spot}
use Rattle.prem_lint.specs.declared.spot.Spot.TheVariants.{Whole}
use Rattle.prem_lint.specs.Spots.{head, marked}
use Rattle.prem_lint.specs.Keys.{key_spot}

-- want of memory is no fault
unfoldable pub fault_message : SetFail → List ℕ
fault_message NotToml = codes "this is no TOML document"
fault_message (Key path) = path ++ codes ": the key is unknown, or it has to be there and isn't"
fault_message (Kind path) = path ++ codes ": the value has another type"
fault_message (Value path) = path ++ codes ": the value is out of its range"
fault_message (Limit path) = path ++ codes ": there are too few or too many"
fault_message OutOfMemory = []

unfoldable pub fault_advice : SetFail → List ℕ
fault_advice NotToml = codes "a set file has the tables [plant], [[task]] and [[device]], with a line KEY = VALUE for each key"
fault_advice (Key path) =
    codes "[plant] may have line, sets, ways, fill, back, switch, memory, policy and target; a [[task]] has name, source, period and jobs, a [[device]] name, queue, cost and lines"
fault_advice (Kind path) = codes "names, sources, policy and target are texts in quotes, and all other values are integers"
fault_advice (Value path) = codes "docs/COMMANDS.md has the range of each key; no two tasks and no two devices have one name"
fault_advice (Limit path) = codes "a set has 1 to 16 tasks and at most 8 devices"
fault_advice OutOfMemory = []

-- the line of the key, as far as it is found
abbrev pub fault_spot : SetFail → List ℕ → Spot
fault_spot NotToml bytes = Whole
fault_spot (Key path) bytes = key_spot path bytes
fault_spot (Kind path) bytes = key_spot path bytes
fault_spot (Value path) bytes = key_spot path bytes
fault_spot (Limit path) bytes = key_spot path bytes
fault_spot OutOfMemory bytes = Whole

abbrev pub fault_error : Text → List ℕ → SetFail → Spot → List ℕ
fault_error name bytes fail spot = head name spot ++ (codes "error: " ++ (fault_message fail ++ (codes "\n" ++ marked spot bytes)))

abbrev pub fault_note : Text → SetFail → Spot → List ℕ
fault_note name fail spot = head name spot ++ (codes "note: " ++ (fault_advice fail ++ codes "\n"))

abbrev pub fault_text : Text → List ℕ → SetFail → Spot → List ℕ
fault_text name bytes fail spot = fault_error name bytes fail spot ++ fault_note name fail spot

unfoldable pub form_text : Text → List ℕ → SetFail → List ℕ
form_text name bytes fail = fault_text name bytes fail (fault_spot fail bytes)

abbrev pub formed : Text → List ℕ → Result SetData SetFail → Result SetData Reply
formed name bytes (Ok set) = Ok set
formed name bytes (Err fail) = Err (Refused, form_text name bytes fail)

-- the bytes that a set file has at most
abbrev pub set_limit : ℕ
set_limit = 65536

-- what a set file says, or what is said of it
abbrev pub stated_in : Text → List ℕ → Result SetData Reply
stated_in name bytes = formed name bytes (set_of bytes)
