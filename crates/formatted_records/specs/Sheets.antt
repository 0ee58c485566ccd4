-- A sheet as the output that it stands for, and what its acts do to that output (ANSI X3.9-1978, section 13.5).
use Rattle.std.specs.Prelude.{◌≡◌, ℕ, ◌-◌, Bool, false, List, [], ◌∷◌, ◌++◌, length, take, Option, None, Some, option_map, Result, Ok, Err}
use Rattle.edit_rules.specs.edit_meaning.Formats.{Descriptor, IntIn, LogicalIn, TextIn, NextRecord, PlusSigns}
use Rattle.edit_rules.specs.edit_meaning.Halts as halts
use Rattle.edit_rules.specs.edit_meaning.EditedRecords.{Sheet, Output, output_start, with_control}
use Rattle.formatted_records.specs.declared.halt.Halt.{Halt}
use Rattle.formatted_records.specs.declared.halt.Halt.TheVariants as halt
use Rattle.formatted_records.specs.declared.fields.Field.{Field}
use Rattle.formatted_records.specs.declared.fields.Field.TheVariants as field
use Rattle.formatted_records.specs.declared.sheet.RecordSheet.{RecordSheet}

abbrev pub halt_of : Halt → halts.Halt
halt_of halt.PastColumns = halts.Number 5
halt_of halt.EndOfRecords = halts.EndOfRecords
halt_of halt.OtherType = halts.OtherType

abbrev pub descriptor_of : Field → Descriptor
descriptor_of (field.Int width least) = IntIn width least
descriptor_of (field.Logical width) = LogicalIn width
descriptor_of (field.Text width) = TextIn width

-- the record in the making
abbrev pub making_in : RecordSheet → List ℕ
making_in sheet = take sheet.used sheet.line

-- how many records an internal file has from the one in the making on, behind so many complete ones
abbrev pub left_of : Option ℕ → ℕ → Option ℕ
left_of records complete = option_map (λ count. count - complete) records

-- the output that a sheet stands for behind complete records
abbrev pub shown : RecordSheet → List (List ℕ) → Output
shown sheet complete = record { complete = complete; making = making_in sheet; before = sheet.before; plus = sheet.plus; halted = None }

-- the sheet is one of these columns and records, behind complete records
pub record StandsOn (sheet : Sheet) (complete : List (List ℕ)) (made : RecordSheet) : Type 0 where
  pub columns : sheet.columns ≡ made.columns
  pub left : left_of sheet.records (length complete) ≡ made.left

-- an act in a record: the output goes on as the sheet says, or is halted, and the sheet stays as it was
abbrev pub ActsBy : Sheet → (Output → Output) → List (List ℕ) → RecordSheet → RecordSheet → Result (Unit {0}) Halt → Type 0
ActsBy sheet act complete old new (Ok done) = StandsOn sheet complete new × (act (shown old complete) ≡ shown new complete)
ActsBy sheet act complete old new (Err why) = (new ≡ old) × (act (shown old complete) ≡ record (shown old complete) { halted = Some (halt_of why) })

abbrev pub Acts : Sheet → (Output → Output) → RecordSheet → RecordSheet → Result (Unit {0}) Halt → Type 0
Acts sheet act old new result = (complete : List (List ℕ)) → StandsOn sheet complete old → ActsBy sheet act complete old new result

-- plus signs are written from here on, or none are
abbrev pub HasPlus : Bool → RecordSheet → RecordSheet → Type 0
HasPlus plus old new =
    (sheet : Sheet) → (complete : List (List ℕ)) → StandsOn sheet complete old →
    StandsOn sheet complete new × (with_control sheet (PlusSigns plus) (shown old complete) ≡ shown new complete)

-- the next record, behind the one that was in the making
abbrev pub ArrivesBehind : Sheet → List (List ℕ) → List (List ℕ) → RecordSheet → RecordSheet → Result (Unit {0}) Halt → Type 0
ArrivesBehind sheet complete before old new (Ok done) =
    StandsOn sheet before new × (with_control sheet NextRecord (shown old complete) ≡ shown new before)
ArrivesBehind sheet complete before old new (Err why) =
    with_control sheet NextRecord (shown old complete) ≡ record (shown new before) { halted = Some (halt_of why) }

abbrev pub Arrives : Sheet → RecordSheet → RecordSheet → Result (Unit {0}) Halt → Type 0
Arrives sheet old new result =
    (complete : List (List ℕ)) → StandsOn sheet complete old →
    ArrivesBehind sheet complete (complete ++ making_in old ∷ []) old new result

-- an output at its start
abbrev pub Begins : Sheet → RecordSheet → Type 0
Begins sheet made = StandsOn sheet [] made × (output_start sheet ≡ shown made [])

abbrev pub BeginsIn : Sheet → Result RecordSheet Halt → Type 0
BeginsIn sheet (Ok made) = Begins sheet made
BeginsIn sheet (Err why) =
    output_start sheet ≡ record { complete = []; making = []; before = 0; plus = false; halted = Some (halt_of why) }
