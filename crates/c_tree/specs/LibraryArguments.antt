-- What the library reads and stores through its arguments (C89, 3.3.2.2).
use Rattle.std.specs.Prelude.{ℕ, zero, suc, ◌+◌, ◌-◌, nat_eq, ℤ, pos, int_lt, unsigned_abs, not, bytes_eq, List, [], ◌∷◌, ◌++◌, length, take, drop, replicate, Option, Some, None, Ok, slice_get, slice_set, if◌then◌else◌}
use Rattle.c_tree.specs.declared.outcome.CValue.{CValue}
use Rattle.c_tree.specs.declared.outcome.CValue.TheVariants.{Pointer, Null}
use Rattle.c_tree.specs.declared.outcome.CFault.TheVariants.{Outside, Kind, Library}
use Rattle.c_tree.specs.declared.types.ListType.{ListType}
use Rattle.c_tree.specs.Faults.{Or, after, failing}
use Rattle.c_tree.specs.Access.{Access, ToNumber, ToList}
use Rattle.c_tree.specs.Objects.{Object, Bytes, Values, Place, as_number, fetched, bytes_at, with_bytes}
use Rattle.c_tree.specs.Values.{field}
use Rattle.c_tree.specs.CWords.{list_word}

-- the number that an `integer *` argument points to
abbrev pub number_through : List Object → CValue → Or ℤ
number_through objects pointer =
    after (fetched objects (record { at = pointer; access = ToNumber })) λ typed. as_number typed.value

-- a length or a count, which is not negative
abbrev pub count_from : ℤ → Or ℕ
count_from number = if int_lt number (pos 0) then failing Library else Ok (unsigned_abs number)

abbrev pub length_from : CValue → Or ℕ
length_from value = after (as_number value) count_from

abbrev pub text_in : Option Object → ℕ → ℕ → Or (List ℕ)
text_in None offset count = failing Outside
text_in (Some (Bytes bytes)) offset count = bytes_at offset count bytes
text_in (Some (Values held)) offset count = failing Kind

abbrev pub text_through : List Object → CValue → ℕ → Or (List ℕ)
text_through objects (Pointer object offset) count = text_in (slice_get objects object) offset count
text_through objects Null count = failing Outside
text_through objects other count = failing Kind

-- the text of so many bytes that a `char *` argument points to; an empty one is no access
abbrev pub text_at : List Object → CValue → ℕ → Or (List ℕ)
text_at objects pointer count = if nat_eq count 0 then Ok [] else text_through objects pointer count

abbrev pub with_text : ℕ → List ℕ → Option Object → Or Object
with_text offset text None = failing Outside
with_text offset text (Some (Bytes bytes)) = with_bytes offset text bytes
with_text offset text (Some (Values held)) = failing Kind

abbrev pub store_text : List Object → CValue → List ℕ → Or (List Object)
store_text objects (Pointer object offset) text =
    after (with_text offset text (slice_get objects object)) λ changed. Ok (slice_set objects object changed)
store_text objects Null text = failing Outside
store_text objects other text = failing Kind

-- the objects once a text is stored through a `char *` argument; an empty one is no access
abbrev pub text_stored : List Object → CValue → List ℕ → Or (List Object)
text_stored objects pointer [] = Ok objects
text_stored objects pointer (first ∷ rest) = store_text objects pointer (first ∷ rest)

-- an access to a list by its type: it begins where its object does; just past the end is outside it
abbrev pub list_in : ListType → Access → ℕ → ℕ → Place → Or Place
list_in type (ToList other) size offset place =
    if not (bytes_eq (list_word type) (list_word other)) then failing Kind
    else if nat_eq offset 0 then Ok place else if nat_eq offset size then failing Outside else failing Kind
list_in type access size offset place = failing Kind

abbrev pub list_of : ListType → Option Object → ℕ → Place → Or Place
list_of type None offset place = failing Outside
list_of type (Some (Bytes bytes)) offset place = failing Kind
list_of type (Some (Values held)) offset place = list_in type held.type (length held.values) offset place

-- the list of this type that an argument points to
abbrev pub list_at : List Object → ListType → CValue → Or Place
list_at objects type (Pointer object offset) =
    list_of type (slice_get objects object) offset (record { at = Pointer object offset; access = ToList type })
list_at objects type Null = failing Outside
list_at objects type other = failing Kind

-- the bytes of a name up to its zero byte
abbrev pub name_from : List (Option ℕ) → Or (List ℕ)
name_from [] = failing Library
name_from (None ∷ later) = failing Library
name_from (Some zero ∷ later) = Ok []
name_from (Some (suc less) ∷ later) = after (name_from later) λ bytes. Ok (suc less ∷ bytes)

abbrev pub name_in : Option Object → ℕ → Or (List ℕ)
name_in None offset = failing Library
name_in (Some (Bytes bytes)) offset = name_from (drop offset bytes)
name_in (Some (Values held)) offset = failing Kind

-- the name that an argument points to
abbrev pub name_at : List Object → CValue → Or (List ℕ)
name_at objects (Pointer object offset) = name_in (slice_get objects object) offset
name_at objects other = failing Library

-- what a field of a list holds
abbrev pub field_value : List Object → Place → List ℕ → Or CValue
field_value objects list name =
    after (field name list) λ place. after (fetched objects place) λ typed. Ok typed.value

abbrev pub field_number : List Object → Place → List ℕ → Or ℤ
field_number objects list name = after (field_value objects list name) as_number

-- a pointer to what stands so many bytes, or elements, behind
abbrev pub shifted : ℕ → CValue → CValue
shifted distance (Pointer object offset) = Pointer object (offset + distance)
shifted distance other = other

-- a text cut to a length, or with blanks behind it
abbrev pub fitted : ℕ → List ℕ → List ℕ
fitted size text = take size (text ++ replicate (size - length text) 32)
