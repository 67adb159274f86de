-- What keeps a file apart from the standard streams.
use Rattle.std.specs.Prelude.{◌<ℤ◌, pos}
use Rattle.std.specs.Fd.{file_raw_fd}
use Rattle.std.specs.declared.fs.File.{File}

-- The file's number is none of the three of the standard streams: 0, 1 and 2.
abbrev pub IsApart : File → Type 0
IsApart file = pos 2 <ℤ file_raw_fd file
