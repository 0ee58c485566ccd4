-- The types of accesses of the code, and how objects start, as the meaning of C texts has them.
use Rattle.std.specs.Prelude.{ℕ, Bool, true, false, []}
use Rattle.c_tree.specs.Access.{Access, ToNumber, ToChar, ToByte, ToList, ToField, ToPointer, ToFunction, ToNothing, FieldKind, NumberField, TextField}
use Rattle.c_tree.specs.Objects.{Object, Typed}
use Rattle.c_tree.specs.Declarations.{filled, unset, unset_values}
use Rattle.run_bytes.specs.declared.access.FieldType.{FieldType}
use Rattle.run_bytes.specs.declared.access.FieldType.TheVariants as field
use Rattle.run_bytes.specs.declared.access.PointedType.{PointedType}
use Rattle.run_bytes.specs.declared.access.PointedType.TheVariants as pointed
use Rattle.run_bytes.specs.declared.access.AccessType.{AccessType}
use Rattle.run_bytes.specs.declared.access.AccessType.TheVariants as access
use Rattle.run_bytes.specs.declared.access.TypedValue.{TypedValue}
use Rattle.run_bytes.specs.declared.access.ObjectKind.{ObjectKind}
use Rattle.run_bytes.specs.declared.access.ObjectKind.TheVariants as kind

abbrev pub field_kind : FieldType → FieldKind
field_kind field.Number = NumberField
field_kind field.Text = TextField

abbrev pub pointed_access : PointedType → Access
pointed_access pointed.Number = ToNumber
pointed_access pointed.Char = ToChar

abbrev pub access_of : AccessType → Access
access_of access.Number = ToNumber
access_of access.Char = ToChar
access_of access.Byte = ToByte
access_of (access.List type) = ToList type
access_of (access.Field type) = ToField (field_kind type)
access_of (access.Pointer type) = ToPointer (pointed_access type)
access_of access.Function = ToFunction
access_of access.Nothing = ToNothing

abbrev pub typed_of : TypedValue → Typed
typed_of typed = record { value = typed.value; through = access_of typed.through }

abbrev pub bytes_at_first : ℕ → Bool → Object
bytes_at_first count true = filled count []
bytes_at_first count false = unset count

-- an object as it starts: zero bytes, bytes that are not set, or values that are not set
abbrev pub object_at_first : ObjectKind → Object
object_at_first (kind.Bytes count set) = bytes_at_first count set
object_at_first (kind.Values count type) = unset_values (access_of type) count
