-- By what type a place is read or stored: that of its declaration or of the last cast (C89, 3.2.2.1 and
-- 3.3.4). The numbers `integer`, `logical`, `int`, `ftnlen` and `ftnint` are one type, as in f2c.h.
use Rattle.std.specs.Prelude.{ℕ, ◌+◌, List, [], ◌∷◌, Option, Some, None, option_map, codes, bytes_eq, if◌then◌else◌, length}
use Rattle.c_tree.specs.declared.types.ListType.{ListType}
use Rattle.c_tree.specs.declared.types.ListType.TheVariants as list

-- what a field of a list holds
pub data FieldKind : Type 0 where
  NumberField : FieldKind
  TextField : FieldKind

pub data Access : Type 0 where
  -- a number, in four bytes
  ToNumber : Access
  -- a plain `char`, whose values are outside the subset
  ToChar : Access
  -- an `unsigned char`
  ToByte : Access
  -- a list of the library, of which only fields are read and stored
  ToList : ListType → Access
  ToField : FieldKind → Access
  -- a pointer that a parameter or an element of an `address` array holds, and the type of accesses through it
  ToPointer : Access → Access
  -- a function that a parameter holds
  ToFunction : Access
  -- no object
  ToNothing : Access

-- a field of a list
pub record FieldOf : Type 0 where
  pub name : List ℕ
  pub kind : FieldKind

abbrev pub number_field : List ℕ → FieldOf
number_field name = record { name = name; kind = NumberField }

abbrev pub text_field : List ℕ → FieldOf
text_field name = record { name = name; kind = TextField }

-- the fields of each list in order (f2c.h)
abbrev pub fields_of : ListType → List FieldOf
fields_of list.Transfer =
    number_field (codes "cierr")
    ∷ number_field (codes "ciunit")
    ∷ number_field (codes "ciend")
    ∷ text_field (codes "cifmt")
    ∷ number_field (codes "cirec")
    ∷ []
fields_of list.Internal =
    number_field (codes "icierr")
    ∷ text_field (codes "iciunit")
    ∷ number_field (codes "iciend")
    ∷ text_field (codes "icifmt")
    ∷ number_field (codes "icirlen")
    ∷ number_field (codes "icirnum")
    ∷ []
fields_of list.Open =
    number_field (codes "oerr")
    ∷ number_field (codes "ounit")
    ∷ text_field (codes "ofnm")
    ∷ number_field (codes "ofnmlen")
    ∷ text_field (codes "osta")
    ∷ text_field (codes "oacc")
    ∷ text_field (codes "ofm")
    ∷ number_field (codes "orl")
    ∷ text_field (codes "oblnk")
    ∷ []
fields_of list.Close =
    number_field (codes "cerr") ∷ number_field (codes "cunit") ∷ text_field (codes "csta") ∷ []
fields_of list.Position = number_field (codes "aerr") ∷ number_field (codes "aunit") ∷ []

-- a field that was found: its number from 0, and what it holds
pub record FieldAt : Type 0 where
  pub number : ℕ
  pub kind : FieldKind

abbrev pub one_later : FieldAt → FieldAt
one_later found = record found { number = found.number + 1 }

abbrev pub field_among : List ℕ → List FieldOf → Option FieldAt
field_among name [] = None
field_among name (field ∷ later) =
    if bytes_eq name field.name then Some (record { number = 0; kind = field.kind })
    else option_map one_later (field_among name later)

-- the field of this name, where the list has one
abbrev pub field_named : List ℕ → ListType → Option FieldAt
field_named name list_type = field_among name (fields_of list_type)

-- by how much a pointer moves to the next element: bytes, or elements of an object that holds values; a field
-- of a list is no element of an array
abbrev pub stride : Access → Option ℕ
stride ToNumber = Some 4
stride ToChar = Some 1
stride ToByte = Some 1
stride (ToList list_type) = Some (length (fields_of list_type))
stride (ToField kind) = None
stride (ToPointer through) = Some 1
stride ToFunction = Some 1
stride ToNothing = None
