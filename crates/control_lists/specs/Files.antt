-- What is read of the lists of OPEN, CLOSE, BACKSPACE, REWIND and ENDFILE (ANSI X3.9-1978, 12.10), in the order in which it is read.
use Rattle.std.specs.Prelude.{ℤ, Bool, List, ℕ, Option, Some, None, option_map, Ok, codes}
use Rattle.c_tree.specs.declared.outcome.CValue.{CValue}
use Rattle.c_tree.specs.declared.types.ListType.TheVariants as list_type
use Rattle.c_tree.specs.Faults.{Or, after}
use Rattle.c_tree.specs.Objects.{Object}
use Rattle.c_tree.specs.LibraryArguments.{list_at, field_value, field_number}
use Rattle.c_tree.specs.LibraryUnits.{file_of_unit, name_given, zero_blanks_given}
use Rattle.control_lists.specs.declared.files.OpenList.{OpenList}
use Rattle.control_lists.specs.declared.files.CloseList.{CloseList}
use Rattle.control_lists.specs.declared.files.PositionList.{PositionList}

-- of OPEN: whether an error is asked for, the unit, the name of the file, and whether blanks in a number are zeros
pub record Opening : Type 0 where
  pub on_error : ℤ
  pub unit : ℤ
  pub file : List ℕ
  pub zero_blanks : Bool

abbrev pub opening : List Object → CValue → Or Opening
opening objects pointer =
    after (list_at objects list_type.Open pointer) λ list.
    after (field_number objects list (codes "oerr")) λ on_error.
    after (field_number objects list (codes "ounit")) λ unit.
    after (field_value objects list (codes "ofnm")) λ name.
    after (field_value objects list (codes "ofnmlen")) λ size.
    after (name_given objects unit name size) λ file.
    after (field_value objects list (codes "oblnk")) λ blanks.
    after (zero_blanks_given objects blanks) λ zero_blanks.
    Ok (record { on_error = on_error; unit = unit; file = file; zero_blanks = zero_blanks })

-- of a statement that names its unit alone
pub record Naming : Type 0 where
  pub on_error : ℤ
  pub unit : ℤ

abbrev pub closing : List Object → CValue → Or Naming
closing objects pointer =
    after (list_at objects list_type.Close pointer) λ list.
    after (field_number objects list (codes "cerr")) λ on_error.
    after (field_number objects list (codes "cunit")) λ unit.
    Ok (record { on_error = on_error; unit = unit })

abbrev pub positioning : List Object → CValue → Or Naming
positioning objects pointer =
    after (list_at objects list_type.Position pointer) λ list.
    after (field_number objects list (codes "aerr")) λ on_error.
    after (field_number objects list (codes "aunit")) λ unit.
    Ok (record { on_error = on_error; unit = unit })

-- the name of the file, which is that of the unit where none is given
abbrev pub name_shown : ℤ → Option (List ℕ) → List ℕ
name_shown unit None = file_of_unit unit
name_shown unit (Some name) = name

abbrev pub open_shown : OpenList → Opening
open_shown list =
    record {
      on_error = list.on_error;
      unit = list.unit;
      file = name_shown list.unit (option_map (λ name. name.now) list.name);
      zero_blanks = list.zero_blanks;
    }

abbrev pub close_shown : CloseList → Naming
close_shown list = record { on_error = list.on_error; unit = list.unit }

abbrev pub position_shown : PositionList → Naming
position_shown list = record { on_error = list.on_error; unit = list.unit }
