-- What is read of objects and stored in them, and the values of terms of declared names, are values or faults.
use Rattle.std.specs.Prelude.{ℕ, ℤ, ◌+ℤ◌, ◌-ℤ◌, ◌*ℤ◌, neg_ℤ, Bool, true, false, List, [], ◌∷◌, Option, Some, None, slice_get}
use Rattle.c_laws.specs.c_tree.declared.outcome.CValue.{CValue}
use Rattle.c_laws.specs.c_tree.declared.outcome.CValue.TheVariants.{Number, Pointer, Null, Function}
use Rattle.c_laws.specs.c_tree.declared.types.CastType.{CastType}
use Rattle.c_laws.specs.c_tree.declared.types.CastType.TheVariants as to
use Rattle.c_laws.specs.c_tree.declared.expression.UnaryOp.{UnaryOp}
use Rattle.c_laws.specs.c_tree.declared.expression.UnaryOp.TheVariants as prefix
use Rattle.c_laws.specs.c_tree.declared.expression.BinaryOp.{BinaryOp}
use Rattle.c_laws.specs.c_tree.declared.expression.BinaryOp.TheVariants as op
use Rattle.c_laws.specs.c_tree.declared.expression.Extreme.{Extreme}
use Rattle.c_laws.specs.c_tree.declared.expression.Extreme.TheVariants as extreme
use Rattle.c_laws.specs.c_tree.Faults.{Or, after}
use Rattle.c_laws.specs.c_tree.Access.{Access, ToNumber, ToChar, ToByte, ToList, ToField, ToPointer, ToFunction, NumberField, TextField, FieldAt, field_named, stride}
use Rattle.c_laws.specs.c_tree.Objects.{Object, Bytes, Values, Held, Typed, Place, as_number, as_pointer, as_function, all_set, bytes_at, byte_from, number_at, read_bytes, read_value, read_held, read_object, read_through, fetched, with_bytes, with_number, null_for_zero, converted, with_value, put_bytes, put_object, store_through, stored}
use Rattle.c_laws.specs.c_tree.Terms.{Term, Constant, Variable, Array, Routine, Unknown, Prefixed, Cast, Between, Choice, Element, Field, Size, Most, Magnitude}
use Rattle.c_laws.specs.c_tree.Values.{Seen, only_value, with_place, checked, condition, pointer_at, moved_by, moved, sum_of, difference_of, same, quotient, remainder, on_numbers, relation, operation, unless_decided, between, null_from, cast_number, cast_value, cast, pointed, place_of, address_of, prefixed, element, field_at, field_in, field, chosen, choice, most, magnitude, seen, value_of, place_named, values_of, test_of, number_of}
use Rattle.c_totality.specs.Sound.{IsMeant, gives, faults, Each, IsKnown}
use Rattle.c_totality.proofs.SoundLaws.{after-meant, meant}

-- ## Objects

pub as_number-meant : (value : CValue) → IsMeant (as_number value)
as_number-meant (Number number) = search meant
as_number-meant other = search meant

pub as_pointer-meant : (through : Access) (value : CValue) → IsMeant (as_pointer through value)
as_pointer-meant through (Pointer object offset) = search meant
as_pointer-meant through other = search meant

pub as_function-meant : (value : CValue) → IsMeant (as_function value)
as_function-meant (Function number) = search meant
as_function-meant other = search meant

pub all_set-meant : (bytes : List (Option ℕ)) → IsMeant (all_set bytes)
all_set-meant [] = gives _
all_set-meant (None ∷ rest) = faults _
all_set-meant (Some byte ∷ rest) = after-meant (all_set-meant rest) (λ bytes. gives _)

pub bytes_at-meant : (offset count : ℕ) (bytes : List (Option ℕ)) → IsMeant (bytes_at offset count bytes)
bytes_at-meant offset count bytes = search (meant, all_set-meant)

pub byte_from-meant : (bytes : List ℕ) → IsMeant (byte_from bytes)
byte_from-meant [] = search meant
byte_from-meant (byte ∷ rest) = search meant

pub number_at-meant : (offset : ℕ) (bytes : List (Option ℕ)) → IsMeant (number_at offset bytes)
number_at-meant offset bytes = search (meant, bytes_at-meant)

pub read_bytes-meant : (access : Access) (offset : ℕ) (bytes : List (Option ℕ)) → IsMeant (read_bytes access offset bytes)
read_bytes-meant ToNumber offset bytes = after-meant (number_at-meant offset bytes) (λ number. gives _)
read_bytes-meant ToByte offset bytes = after-meant (bytes_at-meant offset 1 bytes) byte_from-meant
read_bytes-meant other offset bytes = search meant

pub read_value-meant : (access : Access) (value : CValue) → IsMeant (read_value access value)
read_value-meant (ToField NumberField) value = after-meant (as_number-meant value) (λ number. gives _)
read_value-meant (ToField TextField) value = as_pointer-meant ToChar value
read_value-meant (ToPointer through) value = as_pointer-meant through value
read_value-meant ToFunction value = as_function-meant value
read_value-meant access value = search meant

pub read_held-meant : (access : Access) (held : Option (Option CValue)) → IsMeant (read_held access held)
read_held-meant access None = search meant
read_held-meant access (Some None) = search meant
read_held-meant access (Some (Some value)) = read_value-meant access value

pub read_object-meant : (access : Access) (offset : ℕ) (object : Option Object) → IsMeant (read_object access offset object)
read_object-meant access offset None = search meant
read_object-meant access offset (Some (Bytes bytes)) = read_bytes-meant access offset bytes
read_object-meant access offset (Some (Values held)) = search (meant, read_held-meant)

pub read_through-meant : (objects : List Object) (value : CValue) (access : Access) → IsMeant (read_through objects value access)
read_through-meant objects (Pointer object offset) access = read_object-meant access offset (slice_get objects object)
read_through-meant objects other access = search meant

pub fetched-meant : (objects : List Object) (place : Place) → IsMeant (fetched objects place)
unfolding fetched
fetched-meant objects place = search (meant, read_through-meant)

pub with_bytes-meant : (offset : ℕ) (new : List ℕ) (bytes : List (Option ℕ)) → IsMeant (with_bytes offset new bytes)
with_bytes-meant offset new bytes = search meant

pub with_number-meant : (offset : ℕ) (number : ℤ) (bytes : List (Option ℕ)) → IsMeant (with_number offset number bytes)
with_number-meant offset number bytes = search (meant, with_bytes-meant)

pub converted-meant : (access : Access) (value : CValue) → IsMeant (converted access value)
converted-meant ToNumber value = after-meant (as_number-meant value) (λ number. gives _)
converted-meant ToByte value = after-meant (as_number-meant value) (λ number. gives _)
converted-meant (ToField NumberField) value = after-meant (as_number-meant value) (λ number. gives _)
converted-meant (ToField TextField) value = after-meant (as_pointer-meant ToChar (null_for_zero value)) (λ held. gives _)
converted-meant (ToPointer through) value = after-meant (as_pointer-meant through (null_for_zero value)) (λ held. gives _)
converted-meant ToFunction value = after-meant (as_function-meant (null_for_zero value)) (λ held. gives _)
converted-meant access value = search meant

pub with_value-meant : (offset : ℕ) (value : CValue) (held : Held) → IsMeant (with_value offset value held)
with_value-meant offset value held = search meant

pub put_bytes-meant : (access : Access) (offset : ℕ) (value : CValue) (bytes : List (Option ℕ)) → IsMeant (put_bytes access offset value bytes)
put_bytes-meant ToNumber offset (Number number) bytes = with_number-meant offset number bytes
put_bytes-meant ToByte offset (Number number) bytes = search with_bytes-meant
put_bytes-meant access offset value bytes = search meant

pub put_object-meant : (access : Access) (offset : ℕ) (value : CValue) (object : Option Object) → IsMeant (put_object access offset value object)
put_object-meant access offset value None = search meant
put_object-meant access offset value (Some (Bytes bytes)) = put_bytes-meant access offset value bytes
put_object-meant access offset value (Some (Values held)) = search (meant, with_value-meant)

pub store_through-meant : (objects : List Object) (at : CValue) (access : Access) (value : CValue) → IsMeant (store_through objects at access value)
store_through-meant objects (Pointer object offset) access value = after-meant (put_object-meant access offset value (slice_get objects object)) (λ changed. gives _)
store_through-meant objects other access value = search meant

pub stored-meant : (objects : List Object) (place : Place) (value : CValue) → IsMeant (stored objects place value)
unfolding stored
stored-meant objects place value = after-meant (converted-meant place.access value) (λ held. store_through-meant objects place.at place.access held)

-- ## Operators

pub checked-meant : (number : ℤ) → IsMeant (checked number)
checked-meant number = search meant

pub condition-meant : (typed : Typed) → IsMeant (condition typed)
condition-meant typed = after-meant (as_number-meant typed.value) (λ number. gives _)

pub pointer_at-meant : (object : ℕ) (offset : ℤ) (found : Option Object) → IsMeant (pointer_at object offset found)
pointer_at-meant object offset None = search meant
pointer_at-meant object offset (Some found) = search meant

pub moved_by-meant : (width : Option ℕ) (objects : List Object) (object offset : ℕ) (count : ℤ) → IsMeant (moved_by width objects object offset count)
moved_by-meant None objects object offset count = search meant
moved_by-meant (Some width) objects object offset count = search pointer_at-meant

pub moved-meant : (objects : List Object) (through : Access) (value : CValue) (count : ℤ) → IsMeant (moved objects through value count)
moved-meant objects through (Pointer object offset) count = after-meant (moved_by-meant (stride through) objects object offset count) (λ value. gives _)
moved-meant objects through other count = search meant

pub sum_of-meant : (objects : List Object) (through : Access) (left right : CValue) → IsMeant (sum_of objects through left right)
sum_of-meant objects through (Number left) (Number right) = checked-meant (left +ℤ right)
sum_of-meant objects through left (Number right) = moved-meant objects through left right
sum_of-meant objects through left right = search meant

pub difference_of-meant : (objects : List Object) (through : Access) (left right : CValue) → IsMeant (difference_of objects through left right)
difference_of-meant objects through (Number left) (Number right) = checked-meant (left -ℤ right)
difference_of-meant objects through left (Number right) = moved-meant objects through left (neg_ℤ right)
difference_of-meant objects through left right = search meant

pub same-meant : (left right : CValue) → IsMeant (same left right)
same-meant (Number left) (Number right) = search meant
same-meant (Number left) right = search meant
same-meant left (Number right) = search meant
same-meant (Pointer object offset) (Pointer object' offset') = search meant
same-meant Null Null = search meant
same-meant (Function left) (Function right) = search meant
same-meant left right = search meant

pub quotient-meant : (left right : ℤ) → IsMeant (quotient left right)
quotient-meant left right = search (meant, checked-meant)

pub remainder-meant : (left right : ℤ) → IsMeant (remainder left right)
remainder-meant left right = after-meant (quotient-meant left right) (λ fits. gives _)

pub on_numbers-meant : (by : ℤ → ℤ → Or Typed) (left right : Typed) → ((a b : ℤ) → IsMeant (by a b)) → IsMeant (on_numbers by left right)
on_numbers-meant by left right each = after-meant (as_number-meant left.value) (λ a. after-meant (as_number-meant right.value) (λ b. each a b))

pub relation-meant : (holds : ℤ → ℤ → Bool) (left right : Typed) → IsMeant (relation holds left right)
relation-meant holds left right = on_numbers-meant _ left right (λ a b. gives _)

pub operation-meant : (objects : List Object) (operator : BinaryOp) (left right : Typed) → IsMeant (operation objects operator left right)
operation-meant objects op.Add left right = sum_of-meant objects left.through left.value right.value
operation-meant objects op.Subtract left right = difference_of-meant objects left.through left.value right.value
operation-meant objects op.Multiply left right = on_numbers-meant _ left right (λ a b. checked-meant (a *ℤ b))
operation-meant objects op.Divide left right = on_numbers-meant _ left right quotient-meant
operation-meant objects op.Remainder left right = on_numbers-meant _ left right remainder-meant
operation-meant objects op.Equal left right = after-meant (same-meant left.value right.value) (λ equal. gives _)
operation-meant objects op.Unequal left right = after-meant (same-meant left.value right.value) (λ equal. gives _)
operation-meant objects op.Less left right = relation-meant _ left right
operation-meant objects op.LessOrEqual left right = relation-meant _ left right
operation-meant objects op.Greater left right = relation-meant _ left right
operation-meant objects op.GreaterOrEqual left right = relation-meant _ left right
operation-meant objects op.And left right = search meant
operation-meant objects op.Or left right = search meant

pub unless_decided-meant : (decided decision : Bool) (right : Or Typed) → IsMeant right → IsMeant (unless_decided decided decision right)
unless_decided-meant true decision right meant = gives _
unless_decided-meant false decision right meant = after-meant meant (λ typed. after-meant (condition-meant typed) (λ holds. gives _))

pub plainly-meant : (objects : List Object) (operator : BinaryOp) (left right : Or Typed) → IsMeant left → IsMeant right → IsMeant (after left λ a. after right λ b. operation objects operator a b)
plainly-meant objects operator left right first second = after-meant first (λ a. after-meant second (λ b. operation-meant objects operator a b))

pub between-meant : (objects : List Object) (operator : BinaryOp) (left right : Or Typed) → IsMeant left → IsMeant right → IsMeant (between objects operator left right)
between-meant objects op.And left right first second = after-meant first (λ typed. after-meant (condition-meant typed) (λ holds. search (unless_decided-meant, second)))
between-meant objects op.Or left right first second = after-meant first (λ typed. after-meant (condition-meant typed) (λ holds. search (unless_decided-meant, second)))
between-meant objects operator left right first second = plainly-meant objects operator left right first second

pub null_from-meant : (number : ℤ) → IsMeant (null_from number)
null_from-meant number = search meant

pub cast_number-meant : (type : CastType) (number : ℤ) → IsMeant (cast_number type number)
cast_number-meant to.Length number = search meant
cast_number-meant to.Number number = search meant
cast_number-meant type number = null_from-meant number

pub cast_value-meant : (type : CastType) (value : CValue) → IsMeant (cast_value type value)
cast_value-meant type (Number number) = cast_number-meant type number
cast_value-meant type other = search meant

pub cast-meant : (type : CastType) (typed : Typed) → IsMeant (cast type typed)
cast-meant type typed = after-meant (cast_value-meant type typed.value) (λ value. gives _)

pub pointed-meant : (access : Access) (value : CValue) → IsMeant (pointed access value)
pointed-meant access (Number number) = search meant
pointed-meant access (Function number) = search meant
pointed-meant access other = search meant

pub place_of-meant : (typed : Typed) → IsMeant (place_of typed)
place_of-meant typed = pointed-meant typed.through typed.value

pub address_of-meant : (place : Place) → IsMeant (address_of place)
address_of-meant place = gives _

pub element-meant : (objects : List Object) (array index : Typed) → IsMeant (element objects array index)
element-meant objects array index =
    after-meant (place_of-meant array) (λ start. after-meant (as_number-meant index.value) (λ count. after-meant (moved-meant objects start.access start.at count) place_of-meant))

pub field_at-meant : (object offset : ℕ) (found : Option FieldAt) → IsMeant (field_at object offset found)
field_at-meant object offset None = search meant
field_at-meant object offset (Some found) = search meant

pub field_in-meant : (name : List ℕ) (at : CValue) (access : Access) → IsMeant (field_in name at access)
field_in-meant name (Pointer object offset) (ToList list_type) = field_at-meant object offset (field_named name list_type)
field_in-meant name Null (ToList list_type) = search meant
field_in-meant name at access = search meant

pub field-meant : (name : List ℕ) (place : Place) → IsMeant (field name place)
field-meant name place = field_in-meant name place.at place.access

pub chosen-meant : (holds : Bool) (first second : Or Typed) → IsMeant first → IsMeant second → IsMeant (chosen holds first second)
chosen-meant true first second one two = one
chosen-meant false first second one two = two

pub choice-meant : (test first second : Or Typed) → IsMeant test → IsMeant first → IsMeant second → IsMeant (choice test first second)
choice-meant test first second tested one two =
    after-meant tested (λ typed. after-meant (condition-meant typed) (λ holds. chosen-meant holds first second one two))

pub most-meant : (which : Extreme) (left right : ℤ) → IsMeant (most which left right)
most-meant extreme.Max left right = search meant
most-meant extreme.Min left right = search meant

pub magnitude-meant : (number : ℤ) → IsMeant (magnitude number)
magnitude-meant number = search checked-meant

-- ## Terms

-- as a value and as a place
pub record BothMeant (it : Seen) : Type 0 where
  pub valued : IsMeant it.value
  pub placed : IsMeant it.place

pub only_value-meant : (value : Or Typed) → IsMeant value → BothMeant (only_value value)
only_value-meant value is = record { valued = is; placed = faults _ }

pub with_place-meant : (objects : List Object) (place : Or Place) → IsMeant place → BothMeant (with_place objects place)
with_place-meant objects place is = record { valued = after-meant is (fetched-meant objects); placed = is }

pub prefixed-meant : (objects : List Object) (operator : UnaryOp) (operand : Seen) → BothMeant operand → BothMeant (prefixed objects operator operand)
prefixed-meant objects prefix.Minus operand both =
    only_value-meant _ (after-meant both.valued (λ typed. after-meant (as_number-meant typed.value) (λ number. checked-meant (neg_ℤ number))))
prefixed-meant objects prefix.Not operand both =
    only_value-meant _ (after-meant both.valued (λ typed. after-meant (condition-meant typed) (λ holds. gives _)))
prefixed-meant objects prefix.Deref operand both = with_place-meant objects _ (after-meant both.valued place_of-meant)
prefixed-meant objects prefix.Address operand both = only_value-meant _ (after-meant both.placed address_of-meant)

pub seen-meant : (objects : List Object) (term : Term) → IsKnown term → BothMeant (seen objects term)
unfolding seen
seen-meant objects (Constant number) known = only_value-meant _ (gives _)
seen-meant objects (Variable object access) known = with_place-meant objects _ (gives _)
seen-meant objects (Array object access) known = only_value-meant _ (gives _)
seen-meant objects (Routine number) known = only_value-meant _ (gives _)
seen-meant objects Unknown known = absurd known
seen-meant objects (Prefixed operator operand) known = prefixed-meant objects operator (seen objects operand) (seen-meant objects operand known)
seen-meant objects (Cast type operand) known = only_value-meant _ (after-meant (seen-meant objects operand known).valued (cast-meant type))
seen-meant objects (Between operator left right) known =
    only_value-meant _ (between-meant objects operator _ _ (seen-meant objects left known.0).valued (seen-meant objects right known.1).valued)
seen-meant objects (Choice test first second) known =
    only_value-meant _ (choice-meant _ _ _ (seen-meant objects test known.0).valued (seen-meant objects first known.1.0).valued (seen-meant objects second known.1.1).valued)
seen-meant objects (Element array index) known =
    with_place-meant objects _
    (after-meant (seen-meant objects array known.0).valued (λ start. after-meant (seen-meant objects index known.1).valued (λ count. element-meant objects start count)))
seen-meant objects (Field operand name) known = with_place-meant objects _ (after-meant (seen-meant objects operand known).placed (field-meant name))
seen-meant objects Size known = only_value-meant _ (gives _)
seen-meant objects (Most which left right) known =
    only_value-meant _
    (after-meant (seen-meant objects left known.0).valued (λ a. after-meant (seen-meant objects right known.1).valued (λ b. on_numbers-meant _ a b (most-meant which))))
seen-meant objects (Magnitude operand) known =
    only_value-meant _ (after-meant (seen-meant objects operand known).valued (λ typed. after-meant (as_number-meant typed.value) magnitude-meant))

pub value_of-meant : (objects : List Object) (term : Term) → IsKnown term → IsMeant (value_of objects term)
value_of-meant objects term known = after-meant (seen-meant objects term known).valued (λ typed. gives _)

pub place_named-meant : (objects : List Object) (term : Term) → IsKnown term → IsMeant (place_named objects term)
place_named-meant objects term known = (seen-meant objects term known).placed

pub values_of-meant : (objects : List Object) (terms : List Term) → Each IsKnown terms → IsMeant (values_of objects terms)
values_of-meant objects [] known = gives _
values_of-meant objects (term ∷ later) known =
    after-meant (value_of-meant objects term known.0) (λ value. after-meant (values_of-meant objects later known.1) (λ values. gives _))

pub test_of-meant : (objects : List Object) (term : Term) → IsKnown term → IsMeant (test_of objects term)
test_of-meant objects term known = after-meant (seen-meant objects term known).valued condition-meant

pub number_of-meant : (objects : List Object) (term : Term) → IsKnown term → IsMeant (number_of objects term)
number_of-meant objects term known = after-meant (value_of-meant objects term known) as_number-meant
