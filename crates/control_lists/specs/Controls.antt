-- What is read of a control list, as the meaning of C texts has it (ANSI X3.9-1978, 12.8).
use Rattle.std.specs.Prelude.{ℕ, List, Ok, codes}
use Rattle.c_tree.specs.declared.outcome.CValue.{CValue}
use Rattle.c_tree.specs.declared.outcome.CValue.TheVariants.{Pointer, Null}
use Rattle.c_tree.specs.declared.outcome.CFault.TheVariants.{Outside, Kind}
use Rattle.c_tree.specs.declared.types.ListType.TheVariants as list_type
use Rattle.c_tree.specs.Faults.{Or, after, failing}
use Rattle.c_tree.specs.Objects.{Object}
use Rattle.c_tree.specs.LibraryArguments.{list_at, field_value, field_number}
use Rattle.c_tree.specs.World.{Unit, Internal, InternalFile}
use Rattle.c_tree.specs.Transfers.{Control}
use Rattle.control_lists.specs.declared.controls.UnitControl.{UnitControl}
use Rattle.control_lists.specs.declared.controls.InternalControl.{InternalControl}
use Rattle.control_lists.specs.declared.controls.InternalFields.{InternalFields}

abbrev pub unit_shown : UnitControl → Control
unit_shown control = record { medium = Unit control.unit; on_error = control.on_error; on_end = control.on_end }

-- the internal file at its start
abbrev pub file_shown : InternalControl → InternalFile
file_shown control =
    record { object = control.object; offset = control.offset; size = control.size; count = control.count; position = 0 }

abbrev pub internal_shown : InternalControl → Control
internal_shown control =
    record { medium = Internal (file_shown control); on_error = control.on_error; on_end = control.on_end }

-- the fields of an `icilist`, without its format
abbrev pub internal_fields : List Object → CValue → Or InternalFields
internal_fields objects pointer =
    after (list_at objects list_type.Internal pointer) λ place.
    after (field_number objects place (codes "icierr")) λ on_error.
    after (field_value objects place (codes "iciunit")) λ start.
    after (field_number objects place (codes "iciend")) λ on_end.
    after (field_number objects place (codes "icirlen")) λ record_length.
    after (field_number objects place (codes "icirnum")) λ record_count.
    Ok
    (record {
      on_error = on_error;
      start = start;
      on_end = on_end;
      record_length = record_length;
      record_count = record_count;
    })

-- the object and the offset at which an internal file begins
abbrev pub file_start : CValue → Or (ℕ × ℕ)
file_start (Pointer object offset) = Ok (object, offset)
file_start Null = failing Outside
file_start other = failing Kind
