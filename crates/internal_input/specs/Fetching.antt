-- The next record of an internal file, as an input reads it (ANSI X3.9-1978, 12.2.5 and 12.9.5.1).
use Rattle.std.specs.Prelude.{◌≡◌, ◌≤◌, ℕ, List, length, take, Result, Ok, Err}
use Rattle.c_tree.specs.Objects.{Object}
use Rattle.c_tree.specs.World.{InternalFile}
use Rattle.listed_input.specs.declared.reading.RecordInReading.{RecordInReading}
use Rattle.listed_input.specs.Reading.{line_of}
use Rattle.internal_records.specs.declared.records.RecordEnd.{RecordEnd}
use Rattle.internal_records.specs.Fetching.{Comes, NoneComes}

-- the next record is read into the front of a line
abbrev pub ReadsInto : List Object → List ℕ → InternalFile → InternalFile → Result ℕ RecordEnd → Type 0
ReadsInto objects line file file' (Ok used) = Comes objects (take used line) file file' × (used ≤ length line)
ReadsInto objects line file file' (Err end) = NoneComes objects file end

-- the next record takes the place of the one that is being read, or there is none
abbrev pub ReadsNext : List Object → RecordInReading → RecordInReading → InternalFile → InternalFile → Result (Unit {0}) RecordEnd → Type 0
ReadsNext objects reading reading' file file' (Ok done) = Comes objects (line_of reading') file file' × (reading'.reader ≡ reading.reader)
ReadsNext objects reading reading' file file' (Err end) = NoneComes objects file end
