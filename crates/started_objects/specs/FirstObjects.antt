-- Objects as they are made, before they are given what they start with (C89, 3.1.2.4).
use Rattle.std.specs.Prelude.{◌≡◌, ℕ, max, ◌<◌, ◌≤◌, List, [], length, Option, Some, slice_get}
use Rattle.c_tree.specs.declared.outcome.CValue.{CValue}
use Rattle.c_tree.specs.declared.types.ListType.{ListType}
use Rattle.c_tree.specs.Access.{ToList}
use Rattle.c_tree.specs.Objects.{Object, Bytes, Values}
use Rattle.c_tree.specs.Declarations.{filled, unset_values}
use Rattle.run_bytes.specs.Accesses.{object_at_first}
use Rattle.linked_programs.specs.declared.objects.LinkedObject.{LinkedObject}
use Rattle.linked_programs.specs.declared.objects.LinkedObject.TheVariants as object

-- zero bytes in the place of an image, and no field of a list is set
abbrev pub first_object : LinkedObject → Object
first_object (object.Plain kind) = object_at_first kind
first_object (object.Image size bytes) = filled (max size (length bytes)) []
first_object (object.List type fields) = unset_values (ToList type) (length fields)

-- an object has at least so many bytes
pub record HasBytes (objects : List Object) (number count : ℕ) : Type 0 where
  pub cells : List (Option ℕ)
  pub there : slice_get objects number ≡ Some (Bytes cells)
  pub enough : count ≤ length cells

-- an object is a list of the library that has the field of a number
pub record HasField (objects : List Object) (number offset : ℕ) : Type 0 where
  pub type : ListType
  pub values : List (Option CValue)
  pub there : slice_get objects number ≡ Some (Values (record { type = ToList type; values = values }))
  pub within : offset < length values
