-- The format that a pointer gives: the bytes from there on begin with it (ANSI X3.9-1978, 13.1). A format has at most
-- 2,048 bytes.
use Rattle.std.specs.Prelude.{ℕ, ◌+◌, nat_le, List, [], ◌∷◌, drop, Option, Some, None, Ok, slice_get, if◌then◌else◌}
use Rattle.edit_meaning.specs.Formats.{Format}
use Rattle.edit_meaning.specs.FormatTexts.{State, Going, Done, starting, next_state}
use Rattle.c_tree.specs.declared.outcome.CValue.{CValue}
use Rattle.c_tree.specs.declared.outcome.CValue.TheVariants.{Pointer, Null}
use Rattle.c_tree.specs.declared.outcome.CFault.TheVariants.{Unset, Outside, Kind}
use Rattle.c_tree.specs.Faults.{Or, failing}
use Rattle.c_tree.specs.Objects.{Object, Bytes, Values}

-- what bytes give: a format, with the number of its bytes; none, as a byte stands where no format goes on; a byte of it that
-- is not set; or they end before it does
pub data FormatRead : Type 0 where
  Begins : ℕ → Format → FormatRead
  NoFormat : FormatRead
  NotSet : FormatRead
  EndsEarly : FormatRead

-- the reading of the later bytes, where a byte leads on
abbrev pub read_on : Option State → (State → FormatRead) → FormatRead
read_on None later = NoFormat
read_on (Some state) later = later state

abbrev pub format_from : ℕ → List (Option ℕ) → State → FormatRead
format_from size bytes (Done format) = Begins size format
format_from size [] (Going mode made outer) = EndsEarly
format_from size (None ∷ later) (Going mode made outer) = NotSet
format_from size (Some byte ∷ later) (Going mode made outer) =
    read_on (next_state (Going mode made outer) byte) (λ state. format_from (size + 1) later state)

-- `None` stands for what is no format, or one of more than 2,048 bytes
abbrev pub format_read : FormatRead → Or (Option Format)
format_read (Begins size format) = Ok (if nat_le size 2048 then Some format else None)
format_read NoFormat = Ok None
format_read NotSet = failing Unset
format_read EndsEarly = failing Outside

abbrev pub format_in : Option Object → ℕ → Or (Option Format)
format_in None offset = failing Outside
format_in (Some (Bytes bytes)) offset = format_read (format_from 0 (drop offset bytes) starting)
format_in (Some (Values held)) offset = failing Kind

-- the format that a pointer gives
unfoldable pub format_at : List Object → CValue → Or (Option Format)
format_at objects (Pointer object offset) = format_in (slice_get objects object) offset
format_at objects Null = failing Outside
format_at objects other = failing Kind
