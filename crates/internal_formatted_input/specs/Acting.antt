-- What the edits of a format do to the record that is being read and to the internal file, of which further records are read
-- (ANSI X3.9-1978, 12.2.5, 12.9.5.1 and 13).
use Rattle.std.specs.Prelude.{◌≡◌, ℕ, ◌+◌, ℤ, pos, List, [], length, Some, Result, Ok, Err}
use Rattle.c_tree.specs.Faults.{Or, failing}
use Rattle.c_tree.specs.Objects.{Object}
use Rattle.c_tree.specs.World.{InternalFile}
use Rattle.edit_rules.specs.edit_meaning.Halts as halts
use Rattle.edit_rules.specs.edit_meaning.TakenRecords.{Input}
use Rattle.taken_records.specs.declared.record.RecordInput.{RecordInput}
use Rattle.taken_records.specs.Records.{shown}
use Rattle.internal_records.specs.Fetching.{coming, moved}
use Rattle.internal_formatted_input.specs.declared.acts.Stop.{Stop}
use Rattle.internal_formatted_input.specs.declared.acts.Stop.TheVariants as stop

-- the input that a record stands for before those of its file that come next
abbrev pub input_at : List Object → InternalFile → RecordInput → Input
input_at objects file read = shown read (coming objects file).lines []

-- some records of a file were read, and what comes behind the others is as it was
pub record ReadOn (objects : List Object) (before after : InternalFile) : Type 0 where
  pub count : ℕ
  pub behind : after ≡ moved count before
  pub lines : length (coming objects before).lines ≡ count + length (coming objects after).lines
  pub then_comes : (coming objects before).then_comes ≡ (coming objects after).then_comes

-- why an input goes no further, by what comes behind the records of its file
abbrev pub HaltsBy : Or ℤ → Stop → halts.Halt → Type 0
HaltsBy then_comes (stop.Number number) (halts.Number error) = number ≡ pos error
HaltsBy then_comes (stop.Number number) halts.OtherType = number ≡ pos 4
HaltsBy then_comes (stop.Number number) halts.EndOfRecords = then_comes ≡ Ok number
HaltsBy then_comes (stop.Fault fault) (halts.Number error) = ⊥
HaltsBy then_comes (stop.Fault fault) halts.OtherType = ⊥
HaltsBy then_comes (stop.Fault fault) halts.EndOfRecords = then_comes ≡ failing fault

pub record Stops (objects : List Object) (file : InternalFile) (out : Input) (why : Stop) : Type 0 where
  pub halt : halts.Halt
  pub halted : out.halted ≡ Some halt
  pub by : HaltsBy (coming objects file).then_comes why halt

-- an input goes on in a record
pub record GoesTo (objects : List Object) (out : Input) (before after : InternalFile) (new : RecordInput) : Type 0 where
  pub reads : ReadOn objects before after
  pub is : out ≡ input_at objects after new

abbrev pub Comes : List Object → Input → InternalFile → InternalFile → RecordInput → Result (Unit {0}) Stop → Type 0
Comes objects out before after new (Ok done) = GoesTo objects out before after new
Comes objects out before after new (Err why) = Stops objects before out why

-- an act does this to the input, and reads the records that it comes to
abbrev pub Does : List Object → (Input → Input) → RecordInput → RecordInput → InternalFile → InternalFile → Result (Unit {0}) Stop → Type 0
Does objects act old new before after result = Comes objects (act (input_at objects before old)) before after new result
