-- Where the records of a transfer go, and where they come from: a unit, or an internal file, of which each
-- element is a record. ANSI X3.9-1978, sections 12.2 (files), 12.2.5 (internal files) and 12.9.5 (transfer).
use Rattle.std.specs.Prelude.{ℕ, zero, suc, ◌+◌, ◌-◌, ◌*◌, ◌/◌, nat_lt, nat_le, ℤ, List, [], ◌∷◌, length, drop, Option, Some, None, Result, Ok, Err, if◌then◌else◌}
use Rattle.run_state.specs.Units.{Units, UnitState, read_unit, write_unit}
use Rattle.run_state.specs.declared.refusals.UnitRefusal.{UnitRefusal}
use Rattle.f_tree.specs.Values.{Bytes, Spot, Datum, IsText, IsSpot, Act, NoMeaning, Checked, Gives, Fails}
use Rattle.f_tree.specs.Store.{Store, fetch, define}
use Rattle.f_tree.specs.World.{Medium, External, Internal, Transfer, World}
use Rattle.f_tree.specs.Statuses.{number_of, end_of_file, too_long}

-- the characters at a place, of all its elements in their order
unfoldable pub text_from : Checked Datum → Checked Bytes
text_from (Gives (IsText cs)) = Gives cs
text_from (Gives _) = Fails NoMeaning
text_from (Fails act) = Fails act

unfoldable pub text_at : Store → Spot → Checked Bytes
text_at s p = text_from (fetch s (record p { width = p.extent }))

-- a text that is a value, or stands at a place and is fetched now
unfoldable pub text_now : Store → Datum → Checked Bytes
text_now s (IsText cs) = Gives cs
text_now s (IsSpot p) = text_at s p
text_now s _ = Fails NoMeaning

-- the records of an internal file, and the place of one, counted from 0
unfoldable pub record_count : Spot → ℕ
record_count p = p.extent / p.width

unfoldable pub record_place : Spot → ℕ → Spot
record_place p k = record p { first = p.first + k * p.width; extent = p.width }

-- what writing comes to: all is written, a number stops it, or an act stands in its way
pub data Writing : Type 0 where
  Wrote : World → Writing
  StoppedBy : ℤ → World → Writing
  Broken : Act → Writing

unfoldable pub written_then : Writing → (World → Writing) → Writing
written_then (Wrote w) go = go w
written_then (StoppedBy number w) go = StoppedBy number w
written_then (Broken act) go = Broken act

unfoldable pub stopped_by : World → Checked ℤ → Writing
stopped_by w (Gives number) = StoppedBy number w
stopped_by w (Fails act) = Broken act

unfoldable pub unit_written : World → Result Units UnitRefusal → Writing
unit_written w (Ok units) = Wrote (record w { units = units })
unit_written w (Err refusal) = stopped_by w (number_of refusal)

unfoldable pub record_stored : World → Checked Store → Writing
record_stored w (Gives s) = Wrote (record w { store = s })
record_stored w (Fails act) = Broken act

-- a record of an internal file is filled with blanks; the file may be used up, and the record may be too long
unfoldable pub record_filled : Spot → ℕ → Bytes → World → Writing
record_filled p k line w =
    if nat_le (record_count p) k then StoppedBy end_of_file w
    else if nat_lt p.width (length line) then StoppedBy too_long w
    else record_stored w (define w.store (record_place p k) (IsText line))

-- a record is written, behind so many others
unfoldable pub put_line : Medium → ℕ → Bytes → World → Writing
put_line (External unit) k line w = unit_written w (write_unit unit line w.units)
put_line (Internal p) k line w = record_filled p k line w

unfoldable pub put_lines : Medium → ℕ → List Bytes → World → Writing
put_lines medium k [] w = Wrote w
put_lines medium k (line ∷ lines) w = written_then (put_line medium k line w) (put_lines medium (suc k) lines)

-- why there are no more records: the file ends, the next one is too long, or it may not be fetched
pub data Beyond : Type 0 where
  EndOfFile : Beyond
  LongRecord : Beyond
  Unfetched : Act → Beyond

-- the records that can be read, in their order, and why there are no more
pub record Supply : Type 0 where
  pub lines : List Bytes
  pub beyond : Beyond

unfoldable pub led_by : Bytes → Supply → Supply
led_by line later = record later { lines = line ∷ later.lines }

unfoldable pub none_but : Beyond → Supply
none_but why = record { lines = []; beyond = why }

-- a record has at most 1,024 characters
unfoldable pub up_to_a_long_one : Bytes → Supply → Supply
up_to_a_long_one line later = if nat_le (length line) 1024 then led_by line later else none_but LongRecord

unfoldable pub supply_in : List Bytes → Supply
supply_in [] = none_but EndOfFile
supply_in (line ∷ lines) = up_to_a_long_one line (supply_in lines)

unfoldable pub records_behind : Option UnitState → List Bytes
records_behind None = []
records_behind (Some unit) = drop unit.position unit.records

unfoldable pub if_fetched : Checked Bytes → Supply → Supply
if_fetched (Gives line) later = up_to_a_long_one line later
if_fetched (Fails act) later = none_but (Unfetched act)

-- so many records of an internal file, from one on
unfoldable pub supply_from : ℕ → Store → Spot → ℕ → Supply
supply_from zero s p k = none_but EndOfFile
supply_from (suc more) s p k = if_fetched (text_at s (record_place p k)) (supply_from more s p (suc k))

-- the records that a transfer can still read
unfoldable pub supply : World → Transfer → Supply
supply w t = elim t.medium [
  | External unit ↦ supply_in (records_behind (w.units.connected unit))
  | Internal p ↦ supply_from (record_count p - t.written) w.store p t.written
]

-- so many records of a unit are read
unfoldable pub read_on : ℕ → ℤ → Units → Units
read_on zero unit units = units
read_on (suc count) unit units = elim (read_unit unit units) [ Ok reading ↦ read_on count unit reading.after | Err refusal ↦ units ]

unfoldable pub world_behind : ℕ → World → Medium → World
world_behind count w (External unit) = record w { units = read_on count unit w.units }
world_behind count w (Internal p) = w

-- the world once a transfer has read so many records more
unfoldable pub world_after : ℕ → World → Transfer → World
world_after count w t = world_behind count w t.medium

unfoldable pub records_opened : Unit {0}
unfolding text_from text_at text_now record_count record_place written_then stopped_by unit_written record_stored record_filled put_line put_lines led_by none_but up_to_a_long_one supply_in records_behind if_fetched supply_from supply read_on world_behind world_after read_unit write_unit
records_opened = tt
