-- What a map of files keeps for each of them.
use Rattle.std.specs.Prelude.{ℕ, List, string_bytes}
use Rattle.prem_io.specs.declared.file_map.FileEntry.{FileEntry}

-- a file's name and bytes
abbrev pub file_of : FileEntry → List ℕ × List ℕ
file_of entry = (string_bytes entry.name, entry.bytes.items)
