-- What the edits of a format do to the record that is being read and to the unit, of which further records are read
-- (ANSI X3.9-1978, 12.9.5.1 and 13).
use Rattle.std.specs.Prelude.{◌≡◌, ℕ, ◌+◌, ℤ, pos, List, [], length, Some, Result, Ok, Err}
use Rattle.c_tree.specs.run_state.Units.{Units}
use Rattle.c_tree.specs.Transfers.{read_on}
use Rattle.edit_rules.specs.edit_meaning.Halts as halts
use Rattle.edit_rules.specs.edit_meaning.TakenRecords.{Input}
use Rattle.f2c_outside.specs.Table.{Row}
use Rattle.f2c_outside.specs.Meaning.{Tells, units_of}
use Rattle.unit_answers.specs.Failing.{FailedOn, NoneFailed}
use Rattle.listed_output.specs.Writing.{StayedOn}
use Rattle.listed_input.specs.Fetching.{coming}
use Rattle.taken_records.specs.declared.record.RecordInput.{RecordInput}
use Rattle.taken_records.specs.Records.{shown}
use Rattle.formatted_input.specs.declared.acts.Stop.{Stop}
use Rattle.formatted_input.specs.declared.acts.Stop.TheVariants as stop

-- the device of the unit failed, or none did; at a fault only that of the unit was called
abbrev pub ReadsFrom : {T : Type 0} → ℤ → List Row → List Row → Result T Stop → Type 0
ReadsFrom unit old new (Ok done) = StayedOn unit old new
ReadsFrom unit old new (Err (stop.Number number)) = NoneFailed old new
ReadsFrom unit old new (Err stop.Device) = FailedOn unit old new
ReadsFrom unit old new (Err (stop.Fault fault)) = StayedOn unit old new

-- the input that a record stands for before those of its unit that come next
abbrev pub input_at : ℤ → RecordInput → Units → Input
input_at unit taken units = shown taken (coming unit units).lines []

-- the records up to these later ones were read
pub record Behind (unit : ℤ) (later : List (List ℕ)) (before after : Units) : Type 0 where
  pub count : ℕ
  pub lines : length (coming unit before).lines ≡ count + length later
  pub units : after ≡ read_on count unit before

-- and what comes behind them is as it was
pub record ReadOn (unit : ℤ) (before after : Units) : Type 0 where
  pub reads : Behind unit (coming unit after).lines before after
  pub then_comes : (coming unit before).then_comes ≡ (coming unit after).then_comes

-- why an input goes no further, and behind how many records
abbrev pub HaltsBy : ℤ → ℤ → List (List ℕ) → Units → Units → halts.Halt → Type 0
HaltsBy unit number later before after (halts.Number error) = (number ≡ pos error) × Behind unit later before after
HaltsBy unit number later before after halts.OtherType = (number ≡ pos 4) × Behind unit later before after
HaltsBy unit number later before after halts.EndOfRecords =
    ((coming unit before).then_comes ≡ Ok number) × (after ≡ read_on (length (coming unit before).lines + 1) unit before)

pub record StopsBy (out : Input) (unit number : ℤ) (before after : Units) : Type 0 where
  pub halt : halts.Halt
  pub halted : out.halted ≡ Some halt
  pub reads : HaltsBy unit number out.later before after halt

abbrev pub Stops : Input → ℤ → Units → Units → Stop → Type 0
Stops out unit before after (stop.Number number) = StopsBy out unit number before after
Stops out unit before after stop.Device = Unit {0}
Stops out unit before after (stop.Fault fault) = ⊥

-- an input goes on in a record
pub record GoesTo (out : Input) (unit : ℤ) (before after : Units) (new : RecordInput) : Type 0 where
  pub reads : ReadOn unit before after
  pub is : out ≡ input_at unit new after

abbrev pub Comes : Input → ℤ → Units → Units → RecordInput → Result (Unit {0}) Stop → Type 0
Comes out unit before after new (Ok done) = GoesTo out unit before after new
Comes out unit before after new (Err why) = Stops out unit before after why

-- an act does this to the input, and reads the records that it comes to
pub record Does (act : Input → Input) (unit : ℤ) (old new : RecordInput) (rows rows' : List Row) (result : Result (Unit {0}) Stop) : Type 0 where
  pub tells : Tells rows → Tells rows'
  pub comes : Tells rows → Comes (act (input_at unit old (units_of rows))) unit (units_of rows) (units_of rows') new result
  pub devices : ReadsFrom unit rows rows' result
