-- The records of an internal file that come next (ANSI X3.9-1978, 12.2.5 and 12.9.5.1).
use Rattle.std.specs.Prelude.{◌≡◌, ◌≤◌, ◌+◌, ◌-◌, ℕ, List, ◌∷◌, length, Result, Ok, Err}
use Rattle.c_tree.specs.Faults.{failing}
use Rattle.c_tree.specs.Objects.{Object}
use Rattle.c_tree.specs.World.{InternalFile}
use Rattle.c_tree.specs.Transfers.{Upcoming, internal_upcoming, nothing_but}
use Rattle.internal_records.specs.declared.records.RecordEnd.{RecordEnd}
use Rattle.internal_records.specs.declared.records.RecordEnd.TheVariants.{Fault, Number}

-- the records of a file that come next
abbrev pub coming : List Object → InternalFile → Upcoming
coming objects file = internal_upcoming objects file (file.count - file.position) file.position

-- the file behind so many of its records
abbrev pub moved : ℕ → InternalFile → InternalFile
moved count file = record file { position = file.position + count }

-- a record that comes before others
abbrev pub before_others : List ℕ → Upcoming → Upcoming
before_others line later = record later { lines = line ∷ later.lines }

-- the record is the first of those that came next
pub record Comes (objects : List Object) (line : List ℕ) (file file' : InternalFile) : Type 0 where
  pub first : coming objects file ≡ before_others line (coming objects file')
  pub behind : file' ≡ moved 1 file
  pub short : length line ≤ 1024

-- none came next, and a number or a fault in its place
abbrev pub NoneComes : List Object → InternalFile → RecordEnd → Type 0
NoneComes objects file (Number number) = coming objects file ≡ nothing_but (Ok number)
NoneComes objects file (Fault fault) = coming objects file ≡ nothing_but (failing fault)

-- a found record as its text
abbrev pub text_of : {A : Type 0} → (A → List ℕ) → Result A RecordEnd → Result (List ℕ) RecordEnd
text_of shown (Ok found) = Ok (shown found)
text_of shown (Err end) = Err end

-- the next record of a file is fetched
abbrev pub Fetches : List Object → InternalFile → InternalFile → Result (List ℕ) RecordEnd → Type 0
Fetches objects file file' (Ok line) = Comes objects line file file'
Fetches objects file file' (Err end) = (file' ≡ file) × NoneComes objects file end
