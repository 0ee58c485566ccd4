-- The state of the external units as plain data, and what each input and output statement does to it
-- (ANSI X3.9-1978, section 12).
use Rattle.std.specs.Prelude.{ℕ, ◌+◌, ◌-◌, ℤ, Bool, true, false, List, [], ◌∷◌, ◌++◌, length, take, Option, Some, None, is_some, Result, Ok, Err, slice_get, if◌then◌else◌, bytes_eq}
use Rattle.std.specs.Ordering.{int_eq}
use Rattle.run_state.specs.declared.refusals.UnitRefusal.{UnitRefusal}
use Rattle.run_state.specs.declared.refusals.UnitRefusal.TheVariants.{NotConnected, NotOffered, Taken, PastEnd}

-- a connected unit: the records of its file, how many of them stand before its position, whether it stands
-- behind the endfile record, and whether blanks in a number are read as zeros
pub record UnitState : Type 0 where
  pub records : List (List ℕ)
  pub position : ℕ
  pub end_mark : Bool
  pub zero_blanks : Bool

-- a file that is not connected and can be opened by its name
pub record Offered : Type 0 where
  pub name : List ℕ
  pub records : List (List ℕ)
  pub position : ℕ

-- the connected units by number, and the drawer of files that can be opened, in order
pub record Units : Type 0 where
  pub connected : ℤ → Option UnitState
  pub drawer : List Offered

-- the units with another state of one of them; `None` means that it is not connected
abbrev pub with_unit : ℤ → Option UnitState → Units → Units
with_unit unit state units =
    record units { connected = λ asked. if int_eq asked unit then state else units.connected asked }

-- a unit that is connected to a file before the program begins (12.3.2): it does not stand behind an endfile
-- record, and blanks in a number are ignored
abbrev pub preconnect : ℤ → List (List ℕ) → ℕ → Units → Units
preconnect number records position units =
    with_unit number (Some (record { records = records; position = position; end_mark = false; zero_blanks = false })) units

-- one more file that exists for the program (12.2.1), behind the others
abbrev pub put_in_drawer : List ℕ → List (List ℕ) → ℕ → Units → Units
put_in_drawer name records position units =
    record units { drawer = units.drawer ++ record { name = name; records = records; position = position } ∷ [] }

abbrev pub is_connected : ℤ → Units → Bool
is_connected unit units = is_some (units.connected unit)

-- whether blanks in a number are read as zeros on this unit; false where it is not connected (12.10.1)
abbrev pub zero_blanks_of : Option UnitState → Bool
zero_blanks_of None = false
zero_blanks_of (Some unit) = unit.zero_blanks

abbrev pub reads_zero_blanks : ℤ → Units → Bool
reads_zero_blanks unit units = zero_blanks_of (units.connected unit)

-- what reading gives: the record, or `None` at the end of the file, and the units after it
pub record Reading : Type 0 where
  pub found : Option (List ℕ)
  pub after : Units

-- the unit behind the record that was read, or behind the endfile record (12.2.3)
abbrev pub behind : Option (List ℕ) → UnitState → UnitState
behind None unit = record unit { end_mark = true }
behind (Some line) unit = record unit { position = unit.position + 1 }

abbrev pub read_at : ℤ → Option UnitState → Units → Result Reading UnitRefusal
read_at number None units = Err NotConnected
read_at number (Some unit) units =
    let found = slice_get unit.records unit.position
    in Ok (record { found = found; after = with_unit number (Some (behind found unit)) units })

-- reading the next record of a unit (12.9.5.1)
unfoldable pub read_unit : ℤ → Units → Result Reading UnitRefusal
read_unit number units = read_at number (units.connected number) units

-- the unit once a record has been written at its position, which becomes the last one (12.9.5.2)
abbrev pub with_record : List ℕ → UnitState → UnitState
with_record bytes unit =
    record unit { records = take unit.position unit.records ++ bytes ∷ []; position = unit.position + 1 }

-- the units once one has changed, unless it stands behind the endfile record
abbrev pub unless_ended : Bool → Units → Result Units UnitRefusal
unless_ended true units = Err PastEnd
unless_ended false units = Ok units

abbrev pub write_at : ℤ → List ℕ → Option UnitState → Units → Result Units UnitRefusal
write_at number bytes None units = Err NotConnected
write_at number bytes (Some unit) units =
    unless_ended unit.end_mark (with_unit number (Some (with_record bytes unit)) units)

-- writing a record; no record follows the endfile record (12.9.5.2)
unfoldable pub write_unit : ℤ → List ℕ → Units → Result Units UnitRefusal
write_unit number bytes units = write_at number bytes (units.connected number) units

-- the unit before the preceding record, which may be the endfile record (12.10.4.1)
abbrev pub one_back : Bool → UnitState → UnitState
one_back true unit = record unit { end_mark = false }
one_back false unit = record unit { position = unit.position - 1 }

abbrev pub back_at : ℤ → Option UnitState → Units → Result Units UnitRefusal
back_at number None units = Err NotConnected
back_at number (Some unit) units = Ok (with_unit number (Some (one_back unit.end_mark unit)) units)

-- BACKSPACE (12.10.4.1)
unfoldable pub back_unit : ℤ → Units → Result Units UnitRefusal
back_unit number units = back_at number (units.connected number) units

abbrev pub rewind_at : ℤ → Option UnitState → Units → Result Units UnitRefusal
rewind_at number None units = Err NotConnected
rewind_at number (Some unit) units =
    Ok (with_unit number (Some (record unit { position = 0; end_mark = false })) units)

-- REWIND: before the first record (12.10.4.3)
unfoldable pub rewind_unit : ℤ → Units → Result Units UnitRefusal
rewind_unit number units = rewind_at number (units.connected number) units

abbrev pub end_at : ℤ → Option UnitState → Units → Result Units UnitRefusal
end_at number None units = Err NotConnected
end_at number (Some unit) units =
    unless_ended unit.end_mark
    (with_unit number (Some (record unit { records = take unit.position unit.records; end_mark = true })) units)

-- ENDFILE: the endfile record becomes the next record, and the unit stands behind it (12.10.4.2)
unfoldable pub end_unit : ℤ → Units → Result Units UnitRefusal
end_unit number units = end_at number (units.connected number) units

-- what closing gives: the number of records of the file, and the units after it
pub record Closing : Type 0 where
  pub count : ℕ
  pub after : Units

abbrev pub close_at : ℤ → Option UnitState → Units → Result Closing UnitRefusal
close_at number None units = Err NotConnected
close_at number (Some unit) units = Ok (record { count = length unit.records; after = with_unit number None units })

-- CLOSE: the unit is no longer connected (12.10.2)
unfoldable pub close_unit : ℤ → Units → Result Closing UnitRefusal
close_unit number units = close_at number (units.connected number) units

-- a file taken out of the drawer, and what is left there
pub record Picked : Type 0 where
  pub file : Offered
  pub rest : List Offered

abbrev pub put_before : Offered → Option Picked → Option Picked
put_before first None = None
put_before first (Some picked) = Some (record picked { rest = first ∷ picked.rest })

-- the first file of a name is taken out of the drawer
abbrev pub pick : List ℕ → List Offered → Option Picked
pick name [] = None
pick name (first ∷ rest) =
    if bytes_eq first.name name then Some (record { file = first; rest = rest }) else put_before first (pick name rest)

abbrev pub connect_file : ℤ → Bool → Option Picked → Units → Result Units UnitRefusal
connect_file number zero_blanks None units = Err NotOffered
connect_file number zero_blanks (Some picked) units =
    Ok
    (with_unit number
    (Some
    (record {
      records = picked.file.records;
      position = picked.file.position;
      end_mark = false;
      zero_blanks = zero_blanks;
    }))
    (record units { drawer = picked.rest }))

abbrev pub open_at : ℤ → List ℕ → Bool → Option UnitState → Units → Result Units UnitRefusal
open_at number name zero_blanks (Some unit) units = Err Taken
open_at number name zero_blanks None units = connect_file number zero_blanks (pick name units.drawer) units

-- OPEN: the first file of that name is connected to a unit that is not connected (12.10.1)
unfoldable pub open_unit : ℤ → List ℕ → Bool → Units → Result Units UnitRefusal
open_unit number name zero_blanks units = open_at number name zero_blanks (units.connected number) units
