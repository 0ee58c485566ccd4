-- Transfers: the numbers that end one, what its list says, and the records of its unit or internal file
-- (ANSI X3.9-1978, 12.8 and 12.9).
use Rattle.std.specs.Prelude.{ℕ, zero, suc, ◌+◌, ◌-◌, ◌*◌, nat_le, ℤ, pos, negsuc, Bool, false, List, [], ◌∷◌, length, drop, Option, Some, None, Ok, Err, codes, if◌then◌else◌}
use Rattle.std.specs.Ordering.{int_eq}
use Rattle.run_state.specs.Units.{Units, UnitState, is_connected, read_unit, reads_zero_blanks}
use Rattle.run_state.specs.declared.refusals.UnitRefusal.{UnitRefusal}
use Rattle.run_state.specs.declared.refusals.UnitRefusal.TheVariants.{NotConnected, NotOffered, Taken, PastEnd, Failed}
use Rattle.edit_meaning.specs.Formats.{Format}
use Rattle.c_tree.specs.declared.outcome.CValue.{CValue}
use Rattle.c_tree.specs.declared.outcome.CValue.TheVariants.{Pointer, Null}
use Rattle.c_tree.specs.declared.outcome.CFault.TheVariants.{Outside, Kind, Library}
use Rattle.c_tree.specs.declared.types.ListType.{ListType}
use Rattle.c_tree.specs.declared.types.ListType.TheVariants as list_type
use Rattle.c_tree.specs.Faults.{NoMeaning, Or, after, failing}
use Rattle.c_tree.specs.Objects.{Object}
use Rattle.c_tree.specs.World.{Direction, Layout, Medium, Unit, Internal, InternalFile, Transfer, World, Io, Reply, Gives, Stops, no_place, no_course}
use Rattle.c_tree.specs.LibraryArguments.{count_from, text_at, list_at, field_value, field_number}
use Rattle.c_tree.specs.FormatsGiven.{format_at}

-- the number that a statement on a unit gives where it is refused
abbrev pub refusal_number : UnitRefusal → Or ℤ
refusal_number NotConnected = Ok (pos 6)
refusal_number NotOffered = Ok (pos 7)
refusal_number Taken = Ok (pos 8)
refusal_number PastEnd = Ok (pos 9)
refusal_number Failed = Err NoMeaning

-- the field that asks for a number: that of the end of a file for -1, else that of an error
abbrev pub asked : ℤ → ℤ → ℤ → ℤ
asked (pos number) on_error on_end = on_error
asked (negsuc number) on_error on_end = on_end

-- a number other than 0 ends the transfer, and the run where the list does not ask for it
abbrev pub numbered : ℤ → ℤ → ℤ → World → Reply
numbered number on_error on_end world =
    if int_eq (asked number on_error on_end) (pos 0) then Stops (Io number) (record world { transfer = None })
    else Gives number (record world { transfer = None })

-- the number ends this transfer
abbrev pub ended_by : ℤ → Transfer → World → Reply
ended_by number transfer world = numbered number transfer.on_error transfer.on_end world

-- a start or a statement on a unit stands outside every transfer
abbrev pub outside_transfers : World → Or World
outside_transfers world = elim world.transfer [ None ↦ Ok world | Some transfer ↦ failing Library ]

-- an item or an end stands inside one
abbrev pub in_transfer : World → Or Transfer
in_transfer world = elim world.transfer [ None ↦ failing Library | Some transfer ↦ Ok transfer ]

-- what a list says at the start: where the records are, and whether errors and ends are asked for
pub record Control : Type 0 where
  pub medium : Medium
  pub on_error : ℤ
  pub on_end : ℤ

-- of a `cilist`
abbrev pub unit_control : List Object → CValue → Or Control
unit_control objects pointer =
    after (list_at objects list_type.Transfer pointer) λ place.
    after (field_number objects place (codes "cierr")) λ on_error.
    after (field_number objects place (codes "ciunit")) λ unit.
    after (field_number objects place (codes "ciend")) λ on_end.
    Ok (record { medium = Unit unit; on_error = on_error; on_end = on_end })

-- where an internal file begins
abbrev pub internal_file : CValue → ℕ → ℕ → Or InternalFile
internal_file (Pointer object offset) size count =
    Ok (record { object = object; offset = offset; size = size; count = count; position = 0 })
internal_file Null size count = failing Outside
internal_file other size count = failing Kind

-- of an `icilist`
abbrev pub internal_control : List Object → CValue → Or Control
internal_control objects pointer =
    after (list_at objects list_type.Internal pointer) λ place.
    after (field_number objects place (codes "icierr")) λ on_error.
    after (field_value objects place (codes "iciunit")) λ start.
    after (field_number objects place (codes "iciend")) λ on_end.
    after (field_number objects place (codes "icirlen")) λ record_length.
    after (field_number objects place (codes "icirnum")) λ record_count.
    after (count_from record_length) λ size.
    after (count_from record_count) λ count.
    after (internal_file start size count) λ file.
    Ok (record { medium = Internal file; on_error = on_error; on_end = on_end })

-- what the field of the format holds
abbrev pub format_field : ListType → List ℕ → List Object → CValue → Or CValue
format_field type name objects pointer = after (list_at objects type pointer) λ place. field_value objects place name

-- a transfer at its start
abbrev pub new_transfer : Direction → Layout → Control → Transfer
new_transfer direction layout control = record {
  direction = direction;
  layout = layout;
  medium = control.medium;
  on_error = control.on_error;
  on_end = control.on_end;
  values = [];
  written = 0;
  received = [];
  line = [];
  place = no_place;
  slashed = false;
  course = no_course;
}

-- the rest of a start, where the unit is connected
abbrev pub when_connected : Medium → Control → World → Or Reply → Or Reply
when_connected (Unit unit) control world rest =
    if is_connected unit world.units then rest else Ok (numbered (pos 6) control.on_error control.on_end world)
when_connected (Internal file) control world rest = rest

-- the rest of a start, where there is a format
abbrev pub when_format : Option Format → Control → World → (Format → Or Reply) → Or Reply
when_format None control world rest = Ok (numbered (pos 10) control.on_error control.on_end world)
when_format (Some format) control world rest = rest format

-- a start checks the unit and then the format, and goes on
abbrev pub formatted_start : Control → CValue → World → (Format → Or Reply) → Or Reply
formatted_start control pointer world rest =
    when_connected control.medium control world
    (after (format_at world.objects pointer) λ format. when_format format control world rest)

-- the units once so many records of one are read
abbrev pub read_on : ℕ → ℤ → Units → Units
read_on zero unit units = units
read_on (suc count) unit units =
    elim (read_unit unit units) [ Ok reading ↦ read_on count unit reading.after | Err refusal ↦ units ]

-- the units, and the medium of a transfer, behind so many records
abbrev pub units_behind : ℕ → Medium → Units → Units
units_behind count (Unit unit) units = read_on count unit units
units_behind count (Internal file) units = units

abbrev pub medium_behind : ℕ → Medium → Medium
medium_behind count (Unit unit) = Unit unit
medium_behind count (Internal file) = Internal (record file { position = file.position + count })

-- the records that come next, up to the first that is not there or cannot be read; and in its place a number or a fault:
-- -1 at the end, 5 where it has more than 1,024 bytes
pub record Upcoming : Type 0 where
  pub lines : List (List ℕ)
  pub then_comes : Or ℤ

abbrev pub nothing_but : Or ℤ → Upcoming
nothing_but number = record { lines = []; then_comes = number }

abbrev pub led_by : List ℕ → Upcoming → Upcoming
led_by line later =
    if nat_le (length line) 1024 then record later { lines = line ∷ later.lines } else nothing_but (Ok (pos 5))

abbrev pub records_upcoming : List (List ℕ) → Upcoming
records_upcoming [] = nothing_but (Ok (negsuc 0))
records_upcoming (line ∷ later) = led_by line (records_upcoming later)

abbrev pub records_left : Option UnitState → List (List ℕ)
records_left None = []
records_left (Some unit) = drop unit.position unit.records

-- a record of an internal file is fetched when the transfer comes to it
abbrev pub internal_record : List Object → InternalFile → ℕ → Or (List ℕ)
internal_record objects file number =
    text_at objects (Pointer file.object (file.offset + number * file.size)) file.size

abbrev pub fetched_before : Or (List ℕ) → Upcoming → Upcoming
fetched_before (Err reason) later = nothing_but (Err reason)
fetched_before (Ok line) later = led_by line later

-- so many records of an internal file, from one on
abbrev pub internal_upcoming : List Object → InternalFile → ℕ → ℕ → Upcoming
internal_upcoming objects file zero number = nothing_but (Ok (negsuc 0))
internal_upcoming objects file (suc more) number =
    fetched_before (internal_record objects file number) (internal_upcoming objects file more (number + 1))

abbrev pub upcoming : World → Medium → Upcoming
upcoming world (Unit unit) = records_upcoming (records_left (world.units.connected unit))
upcoming world (Internal file) = internal_upcoming world.objects file (file.count - file.position) file.position

-- whether blanks in a number are zeros; not in an internal file (12.10.1)
abbrev pub zero_blanks_on : Medium → Units → Bool
zero_blanks_on (Unit unit) units = reads_zero_blanks unit units
zero_blanks_on (Internal file) units = false

-- what an item does in a transfer: it goes on, or the call ends with an answer
pub data Passage : Type 0 where
  GoesOn : Transfer → World → Passage
  Answers : Reply → Passage

-- a call that ends well
abbrev pub passed : Passage → Reply
passed (GoesOn transfer world) = Gives (pos 0) (record world { transfer = Some transfer })
passed (Answers reply) = reply
