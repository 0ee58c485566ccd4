-- An internal file and the records that are stored in it (ANSI X3.9-1978, 12.2.5 and 12.9.5.2).
use Rattle.std.specs.Prelude.{◌≡◌, ℕ, ◌≤◌, ◌^◌, ℤ, pos, negsuc, List, Option, Some, None, Result, Ok, Err}
use Rattle.c_tree.specs.declared.outcome.CFault.{CFault}
use Rattle.c_tree.specs.Faults.{Or, failing}
use Rattle.c_tree.specs.Objects.{Object}
use Rattle.c_tree.specs.World.{InternalFile}
use Rattle.c_tree.specs.TransferOutput.{Filling, Filled, Stuck, fill_all}
use Rattle.run_bytes.specs.Answers.{answered}
use Rattle.item_deeds.specs.Forms.{SameForms}
use Rattle.unit_answers.specs.declared.ends.CallEnd.{CallEnd}
use Rattle.unit_answers.specs.declared.ends.CallEnd.TheVariants.{Fault}
use Rattle.unit_answers.specs.Answers.{numbered_answer}
use Rattle.internal_output.specs.declared.files.FileRecords.{FileRecords}
use Rattle.internal_output.specs.declared.files.RecordRefusal.{RecordRefusal}
use Rattle.internal_output.specs.declared.files.RecordRefusal.TheVariants.{UsedUp, TooLong, Faulty}

-- the file as the meaning of C texts has it
abbrev pub file_of : FileRecords → InternalFile
file_of file =
    record { object = file.object; offset = file.offset; size = file.size; count = file.count; position = file.position }

-- a number of 64 bits is this offset, or the offset has more
abbrev pub IsOffset : Option ℕ → ℕ → Type 0
IsOffset (Some number) offset = number ≡ offset
IsOffset None offset = 2 ^ 64 ≤ offset

-- objects are stored in as told, and keep their forms; at a fault a part may be stored
pub record Puts (meaning : Or (List Object)) (old new : List Object) (result : Result (Unit {0}) CFault) : Type 0 where
  pub stores : meaning ≡ answered (λ done. new) result
  pub forms : SameForms old new

-- what the storing of records comes to, by the file and the objects behind it
abbrev pub filling_by : InternalFile → List Object → Result (Unit {0}) RecordRefusal → Or Filling
filling_by file objects (Ok done) = Ok (Filled file objects)
filling_by file objects (Err UsedUp) = Ok (Stuck (negsuc 0) objects)
filling_by file objects (Err TooLong) = Ok (Stuck (pos 5) objects)
filling_by file objects (Err (Faulty fault)) = failing fault

-- records are stored in a file, one after the other, and objects keep their forms
pub record Fills (lines : List (List ℕ)) (file : FileRecords) (objects : List Object) (file' : FileRecords) (objects' : List Object) (result : Result (Unit {0}) RecordRefusal) : Type 0 where
  pub fills : fill_all lines (file_of file) objects ≡ filling_by (file_of file') objects' result
  pub forms : SameForms objects objects'

-- what a call answers whose record is not stored
abbrev pub refusal_answer : RecordRefusal → ℤ → ℤ → Result ℤ CallEnd
refusal_answer UsedUp on_error on_end = numbered_answer (negsuc 0) on_error on_end
refusal_answer TooLong on_error on_end = numbered_answer (pos 5) on_error on_end
refusal_answer (Faulty fault) on_error on_end = Err (Fault fault)
