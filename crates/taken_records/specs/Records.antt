-- A record that is being read as the input that it stands for, and what its acts do to that input (ANSI X3.9-1978, section 13.5).
use Rattle.std.specs.Prelude.{◌≡◌, ℕ, ℤ, ◌+◌, ◌-◌, ◌≤◌, Bool, List, [], ◌∷◌, ◌++◌, take, drop, replicate, None, Result, Ok, Err}
use Rattle.edit_rules.specs.TakeErrors.{error_number}
use Rattle.edit_rules.specs.declared.edits.Edit.{Edit}
use Rattle.edit_rules.specs.declared.edits.Edit.TheVariants as edit
use Rattle.edit_rules.specs.edit_meaning.Formats.{Descriptor, NextRecord, ZeroBlanks}
use Rattle.edit_rules.specs.edit_meaning.Halts as halts
use Rattle.edit_rules.specs.edit_meaning.ListItems.{Value, IntValue, LogicalValue, TextValue}
use Rattle.edit_rules.specs.edit_meaning.TakenFields.{int_in}
use Rattle.edit_rules.specs.edit_meaning.TakenRecords as inputs
use Rattle.edit_rules.specs.edit_meaning.TakenRecords.{Input, halted_by, with_control, with_field, with_int, columns_of, input_start}
use Rattle.taken_records.specs.declared.halt.Halt.{Halt}
use Rattle.taken_records.specs.declared.halt.Halt.TheVariants as halt
use Rattle.taken_records.specs.declared.fields.Want.{Want}
use Rattle.taken_records.specs.declared.fields.Want.TheVariants as want
use Rattle.taken_records.specs.declared.fields.Taken.{Taken}
use Rattle.taken_records.specs.declared.fields.Taken.TheVariants as given
use Rattle.taken_records.specs.declared.record.RecordInput.{RecordInput}

abbrev pub halt_of : Halt → halts.Halt
halt_of halt.PastColumns = halts.Number 5
halt_of halt.TextInFormat = halts.Number 10
halt_of (halt.BadField error) = halts.Number (error_number error)
halt_of halt.OtherType = halts.OtherType

abbrev pub want_of : Want → inputs.Want
want_of want.Int = inputs.WantInt
want_of want.Logical = inputs.WantLogical
want_of (want.Text size) = inputs.WantText size

-- the record that is being read
abbrev pub line_in : RecordInput → List ℕ
line_in read = take read.used read.line

-- the characters between two places, as if blanks stood behind the record
abbrev pub characters_in : RecordInput → ℕ → ℕ → List ℕ
characters_in read from to = take (to - from) (drop from read.line)

abbrev pub value_in : RecordInput → Taken → Value
value_in read (given.Int number) = IntValue number
value_in read (given.Logical truth) = LogicalValue truth
value_in read (given.Text from to blanks) = TextValue (characters_in read from to ++ replicate blanks 32)

-- the input that a record stands for before later ones, behind some values
abbrev pub shown : RecordInput → List (List ℕ) → List Value → Input
shown read later values = record { line = line_in read; later = later; before = read.before; zeros = read.zeros; values = values; halted = None }

-- an act: the input goes on, or is halted, and the record stays as it was
abbrev pub ActsBy : (Input → Input) → List (List ℕ) → List Value → RecordInput → RecordInput → Result (Unit {0}) Halt → Type 0
ActsBy act later values old new (Ok done) = act (shown old later values) ≡ shown new later values
ActsBy act later values old new (Err why) = (new ≡ old) × (act (shown old later values) ≡ halted_by (halt_of why) (shown old later values))

abbrev pub Acts : (Input → Input) → RecordInput → RecordInput → Result (Unit {0}) Halt → Type 0
Acts act old new result = (later : List (List ℕ)) → (values : List Value) → ActsBy act later values old new result

-- blanks in numbers are zeros from here on, or are not
abbrev pub CountsZeros : Bool → RecordInput → RecordInput → Type 0
CountsZeros zeros old new =
    (later : List (List ℕ)) → (values : List Value) → with_control (ZeroBlanks zeros) (shown old later values) ≡ shown new later values

-- the next record is come to
abbrev pub ComesTo : List ℕ → RecordInput → RecordInput → Type 0
ComesTo next old new =
    (later : List (List ℕ)) → (values : List Value) → with_control NextRecord (shown old (next ∷ later) values) ≡ shown new later values

-- an input at its start
abbrev pub Begins : List ℕ → Bool → RecordInput → Type 0
Begins first zeros new = (later : List (List ℕ)) → input_start (first ∷ later) zeros ≡ shown new later []

-- an edit that does not come to the next record
abbrev pub TakesNone : Edit → Type 0
TakesNone edit.NextRecord = ⊥
TakesNone other = Unit {0}

-- the integer in a field at the position; past the last column it does not matter which one
abbrev pub ReadsInt : RecordInput → ℕ → Result ℤ ℕ → Type 0
ReadsInt read width found =
    (later : List (List ℕ)) → (values : List Value) →
    with_int width (int_in (columns_of read.before width (line_in read)) read.zeros) (shown read later values) ≡ with_int width found (shown read later values)

-- an item takes its field
abbrev pub TakesBy : Descriptor → inputs.Want → List (List ℕ) → List Value → RecordInput → RecordInput → Result Taken Halt → Type 0
TakesBy descriptor wanted later values old new (Ok value) =
    with_field descriptor wanted (shown old later values) ≡ shown new later (values ++ value_in new value ∷ [])
TakesBy descriptor wanted later values old new (Err why) =
    (new ≡ old) × (with_field descriptor wanted (shown old later values) ≡ halted_by (halt_of why) (shown old later values))

abbrev pub Takes : Descriptor → inputs.Want → RecordInput → RecordInput → Result Taken Halt → Type 0
Takes descriptor wanted old new result = (later : List (List ℕ)) → (values : List Value) → TakesBy descriptor wanted later values old new result

-- a value of the type that is wanted, a text of the length
abbrev pub IsFor : Want → Taken → Type 0
IsFor want.Int (given.Int number) = Unit {0}
IsFor want.Int (given.Logical truth) = ⊥
IsFor want.Int (given.Text from to blanks) = ⊥
IsFor want.Logical (given.Int number) = ⊥
IsFor want.Logical (given.Logical truth) = Unit {0}
IsFor want.Logical (given.Text from to blanks) = ⊥
IsFor (want.Text size) (given.Int number) = ⊥
IsFor (want.Text size) (given.Logical truth) = ⊥
IsFor (want.Text size) (given.Text from to blanks) = (from ≤ to) × (to ≤ 1024) × ((to - from) + blanks ≡ size)

abbrev pub Fits : Want → Result Taken Halt → Type 0
Fits wanted (Ok value) = IsFor wanted value
Fits wanted (Err why) = Unit {0}
