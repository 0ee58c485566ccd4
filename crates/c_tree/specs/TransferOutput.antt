-- Items of output and its end (ANSI X3.9-1978, 12.8.2, 12.9.5.2 and 13): the values so far make records, and those that are
-- complete are written. A record that is in the making at an error is not written.
use Rattle.std.specs.Prelude.{ℕ, zero, suc, ◌+◌, ◌*◌, nat_eq, nat_le, nat_lt, ℤ, pos, negsuc, Bool, true, false, not, List, [], ◌∷◌, ◌++◌, length, drop, Option, Some, None, Result, Ok, Err, if◌then◌else◌}
use Rattle.std.specs.Ordering.{int_eq}
use Rattle.edit_meaning.specs.Listed as list
use Rattle.edit_meaning.specs.Formats.{Descriptor, IntIn, LogicalIn, TextIn, Format, Edit, Item, Act, Stop, pass, reverted, edits_for}
use Rattle.edit_meaning.specs.Halts.{Halt, Number, EndOfRecords, OtherType}
use Rattle.edit_meaning.specs.EditedRecords.{Sheet, Output, unit_sheet, internal_sheet, made_on, made_ahead}
use Rattle.edit_meaning.specs.Transfers.{for_next}
use Rattle.run_state.specs.Units.{Units, write_unit}
use Rattle.run_state.specs.declared.refusals.UnitRefusal.{UnitRefusal}
use Rattle.c_tree.specs.declared.outcome.CValue.{CValue}
use Rattle.c_tree.specs.declared.outcome.CValue.TheVariants.{Pointer}
use Rattle.c_tree.specs.declared.outcome.CFault.TheVariants.{Library}
use Rattle.c_tree.specs.Faults.{Or, after, failing}
use Rattle.c_tree.specs.Objects.{Object}
use Rattle.c_tree.specs.World.{Layout, Formatted, Listed, Medium, Unit, Internal, InternalFile, Transfer, World, Reply, Gives}
use Rattle.c_tree.specs.LibraryArguments.{number_through, text_at, text_stored, shifted, fitted}
use Rattle.c_tree.specs.Transfers.{refusal_number, ended_by, Passage, GoesOn, Answers, passed}

-- the value of an item by its kind: 3 an integer, 8 a logical, 9 a text
pub data ItemKind : Type 0 where
  IntegerItem : ItemKind
  LogicalItem : ItemKind
  TextItem : ItemKind

abbrev pub item_kind : ℤ → Or ItemKind
item_kind number =
    if int_eq number (pos 3) then Ok IntegerItem
    else if int_eq number (pos 8) then Ok LogicalItem else if int_eq number (pos 9) then Ok TextItem else failing Library

-- an integer and a logical have four bytes
abbrev pub item_length : ItemKind → ℕ → Or ℕ
item_length TextItem size = Ok size
item_length kind size = if nat_eq size 4 then Ok size else failing Library

abbrev pub item_at : ItemKind → List Object → CValue → ℕ → Or list.ListedValue
item_at IntegerItem objects pointer size = after (number_through objects pointer) λ number. Ok (list.Int number)
item_at LogicalItem objects pointer size =
    after (number_through objects pointer) λ number. Ok (list.Logical (not (int_eq number (pos 0))))
item_at TextItem objects pointer size = after (text_at objects pointer size) λ text. Ok (list.Text text)

-- so many items that stand one behind the other
abbrev pub items_at : ItemKind → List Object → ℕ → ℕ → CValue → Or (List list.ListedValue)
items_at kind objects size zero pointer = Ok []
items_at kind objects size (suc count) pointer =
    after (item_at kind objects pointer size) λ value.
    after (items_at kind objects size count (shifted size pointer)) λ later.
    Ok (value ∷ later)

-- the descriptor that the next item gets, of the edits that come before it and with it
abbrev pub descriptor_in : List Edit → Option Descriptor
descriptor_in [] = None
descriptor_in (Item descriptor ∷ later) = Some descriptor
descriptor_in (Act control ∷ later) = descriptor_in later
descriptor_in (Stop ∷ later) = descriptor_in later

-- where these edits of a pass are left
abbrev pub next_descriptor : Format → List Edit → Option Descriptor
next_descriptor format left = descriptor_in (for_next (pass (reverted format)) left).edits

-- an item of other than four bytes has no number and no logical; it stands as an empty text, which their descriptors
-- refuse
abbrev pub if_four : ℕ → Or list.ListedValue → Or list.ListedValue
if_four size value = if nat_eq size 4 then value else Ok (list.Text [])

-- the value of an item under the descriptor that it gets. Where there is none it does not matter
abbrev pub item_under : Option Descriptor → List Object → CValue → ℕ → Or list.ListedValue
item_under (Some (IntIn width least)) objects pointer size = if_four size (item_at IntegerItem objects pointer size)
item_under (Some (LogicalIn width)) objects pointer size = if_four size (item_at LogicalItem objects pointer size)
item_under (Some (TextIn width)) objects pointer size = item_at TextItem objects pointer size
item_under None objects pointer size = Ok (list.Text [])

-- what an output made so far, or at its end: its complete records, and why its format goes no further
pub record Made : Type 0 where
  pub records : List (List ℕ)
  pub halted : Option Halt

abbrev pub sheet_of : Medium → Sheet
sheet_of (Unit unit) = unit_sheet
sheet_of (Internal file) = internal_sheet file.count file.size

abbrev pub made_by : Output → Made
made_by out = record { records = out.complete; halted = out.halted }

abbrev pub made_in : Layout → Medium → List list.ListedValue → Bool → Made
made_in Listed medium values closed = record { records = list.listed values closed; halted = None }
made_in (Formatted format) medium values closed = made_by (made_on (sheet_of medium) format values closed)

abbrev pub made : Transfer → Bool → Made
made transfer closed = made_in transfer.layout transfer.medium transfer.values closed

-- records are written one after the other
abbrev pub write_all : ℤ → List (List ℕ) → Units → Result Units UnitRefusal
write_all unit [] units = Ok units
write_all unit (line ∷ later) units =
    elim (write_unit unit line units) [ Ok changed ↦ write_all unit later changed | Err refusal ↦ Err refusal ]

-- an internal file and the objects, once records are stored in it, or with the number that stops it
pub data Filling : Type 0 where
  Filled : InternalFile → List Object → Filling
  Stuck : ℤ → List Object → Filling

abbrev pub one_filled : InternalFile → Or (List Object) → Or Filling
one_filled file changed = after changed λ objects. Ok (Filled (record file { position = file.position + 1 }) objects)

-- the next record of an internal file, with blanks behind it: -1 where the file is used up, 5 where it is too long
abbrev pub fill_one : List ℕ → InternalFile → List Object → Or Filling
fill_one line file objects =
    if nat_le file.count file.position then Ok (Stuck (negsuc 0) objects)
    else if nat_lt file.size (length line) then Ok (Stuck (pos 5) objects)
    else
    one_filled
    file
    (text_stored objects (Pointer file.object (file.offset + file.position * file.size)) (fitted file.size line))

abbrev pub fill_all : List (List ℕ) → InternalFile → List Object → Or Filling
fill_all [] file objects = Ok (Filled file objects)
fill_all (line ∷ later) file objects =
    after (fill_one line file objects) λ filling.
    elim filling [ Filled next changed ↦ fill_all later next changed | Stuck number changed ↦ Ok (Stuck number changed) ]

-- once records are written: where the output stands, or the number that stops it
pub data Putting : Type 0 where
  PutTo : Medium → World → Putting
  StopsAt : ℤ → World → Putting

abbrev pub put_on_unit : ℤ → World → Result Units UnitRefusal → Or Putting
put_on_unit unit world (Ok units) = Ok (PutTo (Unit unit) (record world { units = units }))
put_on_unit unit world (Err refusal) = after (refusal_number refusal) λ number. Ok (StopsAt number world)

abbrev pub put_in_file : World → Filling → Putting
put_in_file world (Filled file objects) = PutTo (Internal file) (record world { objects = objects })
put_in_file world (Stuck number objects) = StopsAt number (record world { objects = objects })

abbrev pub lines_put : Medium → List (List ℕ) → World → Or Putting
lines_put (Unit unit) lines world = put_on_unit unit world (write_all unit lines world.units)
lines_put (Internal file) lines world =
    after (fill_all lines file world.objects) λ filling. Ok (put_in_file world filling)

-- the records that are complete and not yet written
abbrev pub new_records : Transfer → Bool → List (List ℕ)
new_records transfer closed = drop transfer.written (made transfer closed).records

abbrev pub halt_number : Halt → ℤ
halt_number (Number number) = pos number
halt_number EndOfRecords = negsuc 0
halt_number OtherType = pos 4

-- once the complete records are written the output goes on, or its format halts it
abbrev pub put_unless : Option Halt → Transfer → ℕ → Medium → World → Passage
put_unless (Some halt) transfer written medium world = Answers (ended_by (halt_number halt) transfer world)
put_unless None transfer written medium world = GoesOn (record transfer { medium = medium; written = written }) world

abbrev pub put_further : Transfer → Made → Putting → Passage
put_further transfer made (StopsAt number world) = Answers (ended_by number transfer world)
put_further transfer made (PutTo medium world) = put_unless made.halted transfer (length made.records) medium world

-- the complete records that are not yet written
abbrev pub records_put : Made → Transfer → World → Or Passage
records_put made transfer world =
    after (lines_put transfer.medium (drop transfer.written made.records) world) λ putting. Ok (put_further transfer made putting)

-- an output with further values
abbrev pub put_values : List list.ListedValue → Transfer → World → Or Passage
put_values values transfer world =
    let longer = record transfer { values = transfer.values ++ values } in records_put (made longer false) longer world

-- items of list-directed output
abbrev pub listed_put : ItemKind → ℕ → ℕ → CValue → Transfer → World → Or Reply
listed_put kind size count first transfer world =
    after (items_at kind world.objects size count first) λ values.
    after (put_values values transfer world) λ passage.
    Ok (passed passage)

-- the rest, unless the output is over
abbrev pub led_on : Passage → (Transfer → World → Or Passage) → Or Passage
led_on (Answers reply) next = Ok (Answers reply)
led_on (GoesOn transfer world) next = next transfer world

-- what a format gives before the descriptor of the item that comes next
abbrev pub made_before : Format → Transfer → Made
made_before format transfer = made_by (made_ahead (sheet_of transfer.medium) format transfer.values)

abbrev pub value_put : Format → ℕ → CValue → Transfer → World → Or Passage
value_put format size pointer transfer world =
    after (item_under (next_descriptor format (edits_for format (length transfer.values)).left) world.objects pointer size) λ value.
    put_values (value ∷ []) transfer world

-- an item of formatted output is fetched when its descriptor is come to, since it may stand in a record of the internal file that
-- is complete by then, by the item before it or by its own reversion or slash
abbrev pub formatted_put : Format → ℕ → CValue → Transfer → World → Or Passage
formatted_put format size pointer transfer world =
    after (records_put (made_before format transfer) transfer world) λ passage. led_on passage (value_put format size pointer)

-- at its end
abbrev pub put_last : Transfer → Option Halt → Putting → Reply
put_last transfer halted (StopsAt number world) = ended_by number transfer world
put_last transfer (Some halt) (PutTo medium world) = ended_by (halt_number halt) transfer world
put_last transfer None (PutTo medium world) = Gives (pos 0) (record world { transfer = None })

-- the end of an output writes its last record
abbrev pub output_ended : Transfer → World → Or Reply
output_ended transfer world =
    after (lines_put transfer.medium (new_records transfer true) world) λ putting.
    Ok (put_last transfer (made transfer true).halted putting)
