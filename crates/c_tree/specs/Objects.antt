-- Objects, and what is read and stored at a place in one (C89, 3.1.2.5 and 3.3.2). An object is a list of
-- bytes, or, for a list of the library, an `address` array and a parameter that holds a pointer or a function, a
-- list of values that has no bytes. Numbers have four bytes, the low one first.
use Rattle.std.specs.Prelude.{ℕ, ◌+◌, ◌%◌, nat_eq, nat_le, ℤ, pos, Bool, true, false, List, [], ◌∷◌, ◌++◌, map, length, take, drop, Option, Some, None, Ok, slice_get, slice_set, if◌then◌else◌}
use Rattle.std.specs.Ordering.{int_eq}
use Rattle.std.specs.Int.{w32, to_le_bytes, from_le_bytes, cast_signed, cast_unsigned}
use Rattle.c_tree.specs.declared.outcome.CValue.{CValue}
use Rattle.c_tree.specs.declared.outcome.CValue.TheVariants.{Number, Pointer, Null, Function}
use Rattle.c_tree.specs.declared.outcome.CFault.TheVariants.{Unset, Outside, Kind}
use Rattle.c_tree.specs.Faults.{Or, after, failing}
use Rattle.c_tree.specs.Access.{Access, ToNumber, ToChar, ToByte, ToList, ToField, ToPointer, ToFunction, ToNothing, NumberField, TextField}

-- values, by the type of each, or of the list whose fields they are; `None` stands for a value that was not set
pub record Held : Type 0 where
  pub type : Access
  pub values : List (Option CValue)

-- `None` stands for a byte that was not set
pub data Object : Type 0 where
  Bytes : List (Option ℕ) → Object
  Values : Held → Object

-- how many bytes or values an object has
abbrev pub extent : Object → ℕ
extent (Bytes bytes) = length bytes
extent (Values held) = length held.values

-- a value with the type of accesses through it
pub record Typed : Type 0 where
  pub value : CValue
  pub through : Access

-- a place: a pointer or null, and the type of an access there
pub record Place : Type 0 where
  pub at : CValue
  pub access : Access

abbrev pub plain : CValue → Typed
plain value = record { value = value; through = ToNothing }

-- the bytes where each of them is set
abbrev pub all_set : List (Option ℕ) → Or (List ℕ)
all_set [] = Ok []
all_set (None ∷ rest) = failing Unset
all_set (Some byte ∷ rest) = after (all_set rest) λ bytes. Ok (byte ∷ bytes)

-- so many bytes from an offset on
abbrev pub bytes_at : ℕ → ℕ → List (Option ℕ) → Or (List ℕ)
bytes_at offset count bytes =
    if nat_le (offset + count) (length bytes) then all_set (take count (drop offset bytes)) else failing Outside

abbrev pub number_from : List ℕ → ℤ
number_from bytes = cast_signed w32 (from_le_bytes w32 bytes)

-- the number in the four bytes from an offset on, which is a multiple of four
abbrev pub number_at : ℕ → List (Option ℕ) → Or ℤ
number_at offset bytes =
    if nat_eq (offset % 4) 0 then after (bytes_at offset 4 bytes) (λ four. Ok (number_from four)) else failing Outside

abbrev pub byte_from : List ℕ → Or Typed
byte_from [] = failing Outside
byte_from (byte ∷ rest) = Ok (plain (Number (pos byte)))

-- what an object of bytes holds for an access
abbrev pub read_bytes : Access → ℕ → List (Option ℕ) → Or Typed
read_bytes ToNumber offset bytes = after (number_at offset bytes) λ number. Ok (plain (Number number))
read_bytes ToByte offset bytes = after (bytes_at offset 1 bytes) byte_from
read_bytes access offset bytes = failing Kind

-- a held pointer, with the type of accesses through it
abbrev pub as_pointer : Access → CValue → Or Typed
as_pointer through (Pointer object offset) = Ok (record { value = Pointer object offset; through = through })
as_pointer through Null = Ok (record { value = Null; through = through })
as_pointer through other = failing Kind

abbrev pub as_function : CValue → Or Typed
as_function (Function number) = Ok (plain (Function number))
as_function Null = Ok (plain Null)
as_function other = failing Kind

abbrev pub as_number : CValue → Or ℤ
as_number (Number number) = Ok number
as_number other = failing Kind

-- what a held value is for an access
abbrev pub read_value : Access → CValue → Or Typed
read_value (ToField NumberField) value = after (as_number value) λ number. Ok (plain (Number number))
read_value (ToField TextField) value = as_pointer ToChar value
read_value (ToPointer through) value = as_pointer through value
read_value ToFunction value = as_function value
read_value access value = failing Kind

abbrev pub read_held : Access → Option (Option CValue) → Or Typed
read_held access None = failing Outside
read_held access (Some None) = failing Unset
read_held access (Some (Some value)) = read_value access value

-- whether an access is by the type of what an object of values holds
abbrev pub holds : Access → Access → Bool
holds (ToList list_type) (ToField kind) = true
holds (ToPointer ToChar) (ToPointer ToChar) = true
holds (ToPointer ToNumber) (ToPointer ToNumber) = true
holds ToFunction ToFunction = true
holds type access = false

abbrev pub read_object : Access → ℕ → Option Object → Or Typed
read_object access offset None = failing Outside
read_object access offset (Some (Bytes bytes)) = read_bytes access offset bytes
read_object access offset (Some (Values held)) =
    if holds held.type access then read_held access (slice_get held.values offset) else failing Kind

-- what an access reads through a value
abbrev pub read_through : List Object → CValue → Access → Or Typed
read_through objects (Pointer object offset) access = read_object access offset (slice_get objects object)
read_through objects Null access = failing Outside
read_through objects (Number number) access = failing Kind
read_through objects (Function number) access = failing Kind

-- an access to a type that has no values of its own
abbrev pub is_valued : Access → Bool
is_valued ToChar = false
is_valued (ToList list_type) = false
is_valued ToNothing = false
is_valued access = true

-- the value at a place (C89, 3.2.2.1)
unfoldable pub fetched : List Object → Place → Or Typed
fetched objects place =
    if is_valued place.access then read_through objects place.at place.access else failing Kind

-- the four bytes of a number
abbrev pub bytes_of_number : ℤ → List ℕ
bytes_of_number number = to_le_bytes w32 (cast_unsigned w32 number)

-- the bytes stand in place of those from an offset on
abbrev pub overlaid : ℕ → List ℕ → List (Option ℕ) → List (Option ℕ)
overlaid offset new bytes = take offset bytes ++ map Some new ++ drop (offset + length new) bytes

abbrev pub with_bytes : ℕ → List ℕ → List (Option ℕ) → Or Object
with_bytes offset new bytes =
    if nat_le (offset + length new) (length bytes) then Ok (Bytes (overlaid offset new bytes)) else failing Outside

abbrev pub with_number : ℕ → ℤ → List (Option ℕ) → Or Object
with_number offset number bytes =
    if nat_eq (offset % 4) 0 then with_bytes offset (bytes_of_number number) bytes else failing Outside

-- a store through `unsigned char` keeps the low eight bits
abbrev pub with_byte : ℕ → ℤ → List (Option ℕ) → Or Object
with_byte offset number bytes = with_bytes offset (cast_unsigned w32 number % 256 ∷ []) bytes

-- the number 0 where a pointer or a function is wanted is null (C89, 3.2.2.3)
abbrev pub null_for_zero : CValue → CValue
null_for_zero (Number number) = if int_eq number (pos 0) then Null else Number number
null_for_zero value = value

-- the value in the form in which a place holds it
abbrev pub converted : Access → CValue → Or CValue
converted ToNumber value = after (as_number value) λ number. Ok (Number number)
converted ToByte value = after (as_number value) λ number. Ok (Number number)
converted (ToField NumberField) value = after (as_number value) λ number. Ok (Number number)
converted (ToField TextField) value = after (as_pointer ToChar (null_for_zero value)) λ held. Ok held.value
converted (ToPointer through) value = after (as_pointer through (null_for_zero value)) λ held. Ok held.value
converted ToFunction value = after (as_function (null_for_zero value)) λ held. Ok held.value
converted access value = failing Kind

-- an object of values with one of them stored
abbrev pub with_value : ℕ → CValue → Held → Or Object
with_value offset value held =
    if nat_le (offset + 1) (length held.values) then Ok (Values (record held { values = slice_set held.values offset (Some value) }))
    else failing Outside

abbrev pub put_bytes : Access → ℕ → CValue → List (Option ℕ) → Or Object
put_bytes ToNumber offset (Number number) bytes = with_number offset number bytes
put_bytes ToByte offset (Number number) bytes = with_byte offset number bytes
put_bytes access offset value bytes = failing Kind

abbrev pub put_object : Access → ℕ → CValue → Option Object → Or Object
put_object access offset value None = failing Outside
put_object access offset value (Some (Bytes bytes)) = put_bytes access offset value bytes
put_object access offset value (Some (Values held)) =
    if holds held.type access then with_value offset value held else failing Kind

-- the objects once an access has stored a value through another one
abbrev pub store_through : List Object → CValue → Access → CValue → Or (List Object)
store_through objects (Pointer object offset) access value =
    after (put_object access offset value (slice_get objects object)) λ changed. Ok (slice_set objects object changed)
store_through objects Null access value = failing Outside
store_through objects other access value = failing Kind

-- the objects once a value is stored at a place (C89, 3.3.16.1)
unfoldable pub stored : List Object → Place → CValue → Or (List Object)
stored objects place value =
    after (converted place.access value) λ held. store_through objects place.at place.access held
