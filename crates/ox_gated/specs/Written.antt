-- What is written into the files: the two writes of a record, and the one that opens a file.
use Rattle.std.specs.Prelude.{ℕ, ◌+◌, List, [], ◌∷◌}
use Rattle.ox_outside.specs.Files.{Files, file_of, with_file, with_bytes}
use Rattle.ox_outside.specs.declared.site.Which.{Which}

-- the files with these bytes at this place of one of them, over what stood there
abbrev pub with_write : Which → ℕ → List ℕ → Files → Files
with_write file at bytes files = with_file files file (with_bytes at bytes (file_of files file))

-- the gate at this place of a file is opened, by the byte 1
abbrev pub with_open_gate : Which → ℕ → Files → Files
with_open_gate file gate = with_write file gate (1 ∷ [])

-- the bytes of a record are written behind the gate at this place of a file, and then that gate is
-- opened
abbrev pub with_record_behind : Which → ℕ → List ℕ → Files → Files
with_record_behind file gate bytes files =
    with_open_gate file gate (with_write file (gate + 1) bytes files)
