-- An internal file and the objects in which it stands, and the records that are stored (ANSI X3.9-1978, 12.2.5).
use Rattle.std.specs.Prelude.{ℕ, List, Result}
use Rattle.c_tree.specs.Objects.{Object}
use Rattle.internal_output.specs.declared.files.FileRecords.{FileRecords}
use Rattle.internal_output.specs.declared.files.RecordRefusal.{RecordRefusal}
use Rattle.internal_output.specs.Files.{Fills}

-- a file and the objects
pub record Held : Type 0 where
  pub file : FileRecords
  pub objects : List Object

abbrev pub held : FileRecords → List Object → Held
held file objects = record { file = file; objects = objects }

-- records are stored, one after the other, and objects keep their forms
abbrev pub Stores : List (List ℕ) → Held → Held → Result (Unit {0}) RecordRefusal → Type 0
Stores lines old new result = Fills lines old.file old.objects new.file new.objects result
