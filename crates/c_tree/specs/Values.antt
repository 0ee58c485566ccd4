-- The value of an expression, or the first fault in order of operands, and the place that it names (C89, 3.3).
use Rattle.std.specs.Prelude.{ℕ, ◌+◌, nat_eq, ℤ, pos, negsuc, ◌+ℤ◌, ◌-ℤ◌, ◌*ℤ◌, neg_ℤ, unsigned_abs, int_lt, int_le, int_div, int_rem, Bool, true, false, not, ◌&&◌, List, [], ◌∷◌, Option, Some, None, Ok, Err, slice_get, if◌then◌else◌}
use Rattle.std.specs.Ordering.{int_eq}
use Rattle.c_tree.specs.declared.outcome.CValue.{CValue}
use Rattle.c_tree.specs.declared.outcome.CValue.TheVariants.{Number, Pointer, Null, Function}
use Rattle.c_tree.specs.declared.outcome.CFault.TheVariants.{Overflow, ZeroDivide, Outside, Kind}
use Rattle.c_tree.specs.declared.types.CastType.{CastType}
use Rattle.c_tree.specs.declared.types.CastType.TheVariants as to
use Rattle.c_tree.specs.declared.expression.UnaryOp.{UnaryOp}
use Rattle.c_tree.specs.declared.expression.UnaryOp.TheVariants as prefix
use Rattle.c_tree.specs.declared.expression.BinaryOp.{BinaryOp}
use Rattle.c_tree.specs.declared.expression.BinaryOp.TheVariants as op
use Rattle.c_tree.specs.declared.expression.Extreme.{Extreme}
use Rattle.c_tree.specs.declared.expression.Extreme.TheVariants as extreme
use Rattle.c_tree.specs.Faults.{Or, after, failing, NoMeaning}
use Rattle.c_tree.specs.Access.{Access, ToNumber, ToChar, ToByte, ToList, ToField, ToNothing, FieldAt, field_named, stride}
use Rattle.c_tree.specs.Objects.{Object, extent, Typed, Place, plain, as_number, fetched}
use Rattle.c_tree.specs.Terms.{Term, Constant, Variable, Array, Routine, Unknown, Prefixed, Cast, Between, Choice, Element, Field, Size, Most, Magnitude}

-- what an expression is as a value, and as a place
pub record Seen : Type 0 where
  pub value : Or Typed
  pub place : Or Place

-- an expression that names no place
abbrev pub only_value : Or Typed → Seen
only_value value = record { value = value; place = failing Kind }

-- an expression that names a place has the value there
abbrev pub with_place : List Object → Or Place → Seen
with_place objects place = record { value = after place (fetched objects); place = place }

abbrev pub in_range : ℤ → Bool
in_range number = int_le (negsuc 2147483647) number && int_le number (pos 2147483647)

-- a result of 32 bits
abbrev pub checked : ℤ → Or Typed
checked number = if in_range number then Ok (plain (Number number)) else failing Overflow

abbrev pub truth : Bool → Typed
truth holds = plain (Number (if holds then pos 1 else pos 0))

-- whether a number stands for true
abbrev pub condition : Typed → Or Bool
condition typed = after (as_number typed.value) λ number. Ok (not (int_eq number (pos 0)))

-- a pointer at this offset, which is in its object or just past its end
abbrev pub pointer_at : ℕ → ℤ → Option Object → Or CValue
pointer_at object offset None = failing Outside
pointer_at object offset (Some found) =
    if int_le (pos 0) offset && int_le offset (pos (extent found)) then Ok (Pointer object (unsigned_abs offset))
    else failing Outside

abbrev pub moved_by : Option ℕ → List Object → ℕ → ℕ → ℤ → Or CValue
moved_by None objects object offset count = failing Kind
moved_by (Some width) objects object offset count =
    pointer_at object (pos offset +ℤ count *ℤ pos width) (slice_get objects object)

-- a pointer once it has moved by a number of elements (C89, 3.3.6)
abbrev pub moved : List Object → Access → CValue → ℤ → Or Typed
moved objects through (Pointer object offset) count =
    after (moved_by (stride through) objects object offset count) λ value.
    Ok (record { value = value; through = through })
moved objects through Null count = failing Outside
moved objects through other count = failing Kind

abbrev pub sum_of : List Object → Access → CValue → CValue → Or Typed
sum_of objects through (Number left) (Number right) = checked (left +ℤ right)
sum_of objects through left (Number right) = moved objects through left right
sum_of objects through left right = failing Kind

abbrev pub difference_of : List Object → Access → CValue → CValue → Or Typed
difference_of objects through (Number left) (Number right) = checked (left -ℤ right)
difference_of objects through left (Number right) = moved objects through left (neg_ℤ right)
difference_of objects through left right = failing Kind

-- whether two numbers, or two of pointers, null and functions, are equal (C89, 3.3.9)
abbrev pub same : CValue → CValue → Or Bool
same (Number left) (Number right) = Ok (int_eq left right)
same (Number left) right = failing Kind
same left (Number right) = failing Kind
same (Pointer object offset) (Pointer object' offset') = Ok (nat_eq object object' && nat_eq offset offset')
same Null Null = Ok true
same (Function left) (Function right) = Ok (nat_eq left right)
same left right = Ok false

-- division cuts towards zero (C89, 3.3.5)
abbrev pub quotient : ℤ → ℤ → Or Typed
quotient left right = if int_eq right (pos 0) then failing ZeroDivide else checked (int_div left right)

-- the remainder is a fault where the quotient is
abbrev pub remainder : ℤ → ℤ → Or Typed
remainder left right = after (quotient left right) λ fits. Ok (plain (Number (int_rem left right)))

abbrev pub on_numbers : (ℤ → ℤ → Or Typed) → Typed → Typed → Or Typed
on_numbers operation left right =
    after (as_number left.value) λ a. after (as_number right.value) λ b. operation a b

abbrev pub relation : (ℤ → ℤ → Bool) → Typed → Typed → Or Typed
relation holds left right = on_numbers (λ a b. Ok (truth (holds a b))) left right

-- an operator that values both operands
abbrev pub operation : List Object → BinaryOp → Typed → Typed → Or Typed
operation objects op.Add left right = sum_of objects left.through left.value right.value
operation objects op.Subtract left right = difference_of objects left.through left.value right.value
operation objects op.Multiply left right = on_numbers (λ a b. checked (a *ℤ b)) left right
operation objects op.Divide left right = on_numbers quotient left right
operation objects op.Remainder left right = on_numbers remainder left right
operation objects op.Equal left right = after (same left.value right.value) λ equal. Ok (truth equal)
operation objects op.Unequal left right = after (same left.value right.value) λ equal. Ok (truth (not equal))
operation objects op.Less left right = relation int_lt left right
operation objects op.LessOrEqual left right = relation int_le left right
operation objects op.Greater left right = relation (λ a b. int_lt b a) left right
operation objects op.GreaterOrEqual left right = relation (λ a b. int_le b a) left right
operation objects op.And left right = failing Kind
operation objects op.Or left right = failing Kind

-- the right operand where the left one has not decided
abbrev pub unless_decided : Bool → Bool → Or Typed → Or Typed
unless_decided true decision right = Ok (truth decision)
unless_decided false decision right = after right λ typed. after (condition typed) λ holds. Ok (truth holds)

-- `&&` and `||` value their right operand only where the left one does not decide (C89, 3.3.13 and 3.3.14)
abbrev pub between : List Object → BinaryOp → Or Typed → Or Typed → Or Typed
between objects op.And left right =
    after left λ typed. after (condition typed) λ holds. unless_decided (not holds) false right
between objects op.Or left right =
    after left λ typed. after (condition typed) λ holds. unless_decided holds true right
between objects operator left right = after left λ a. after right λ b. operation objects operator a b

-- through what a cast accesses
abbrev pub access_of : CastType → Access
access_of to.Chars = ToChar
access_of to.UnsignedChars = ToByte
access_of to.Integers = ToNumber
access_of to.Logicals = ToNumber
access_of to.Length = ToNothing
access_of to.Number = ToNothing
access_of (to.Function type) = ToNothing

-- a number where a pointer or a function is wanted: 0 is null
abbrev pub null_from : ℤ → Or CValue
null_from number = if int_eq number (pos 0) then Ok Null else failing Kind

abbrev pub cast_number : CastType → ℤ → Or CValue
cast_number to.Length number = Ok (Number number)
cast_number to.Number number = Ok (Number number)
cast_number type number = null_from number

-- a cast keeps a pointer or a function (C89, 3.3.4)
abbrev pub cast_value : CastType → CValue → Or CValue
cast_value type (Number number) = cast_number type number
cast_value type other = Ok other

abbrev pub cast : CastType → Typed → Or Typed
cast type typed =
    after (cast_value type typed.value) λ value. Ok (record { value = value; through = access_of type })

-- the place that a pointer points to; null is a place that every access faults at
abbrev pub pointed : Access → CValue → Or Place
pointed access (Number number) = failing Kind
pointed access (Function number) = failing Kind
pointed access pointer = Ok (record { at = pointer; access = access })

abbrev pub place_of : Typed → Or Place
place_of typed = pointed typed.through typed.value

-- the pointer to a place
abbrev pub address_of : Place → Or Typed
address_of place = Ok (record { value = place.at; through = place.access })

-- `-`, `!`, `*` and `&` (C89, 3.3.3)
abbrev pub prefixed : List Object → UnaryOp → Seen → Seen
prefixed objects prefix.Minus operand =
    only_value (after operand.value λ typed. after (as_number typed.value) λ number. checked (neg_ℤ number))
prefixed objects prefix.Not operand =
    only_value (after operand.value λ typed. after (condition typed) λ holds. Ok (truth (not holds)))
prefixed objects prefix.Deref operand = with_place objects (after operand.value place_of)
prefixed objects prefix.Address operand = only_value (after operand.place address_of)

-- the element of an array (C89, 3.3.2.1)
abbrev pub element : List Object → Typed → Typed → Or Place
element objects array index =
    after (place_of array) λ start.
    after (as_number index.value) λ count.
    after (moved objects start.access start.at count) place_of

abbrev pub field_at : ℕ → ℕ → Option FieldAt → Or Place
field_at object offset None = failing Kind
field_at object offset (Some field) =
    Ok (record { at = Pointer object (offset + field.number); access = ToField field.kind })

abbrev pub field_in : List ℕ → CValue → Access → Or Place
field_in name (Pointer object offset) (ToList list_type) = field_at object offset (field_named name list_type)
field_in name Null (ToList list_type) = failing Outside
field_in name at access = failing Kind

-- the field of a list (C89, 3.3.2.3)
abbrev pub field : List ℕ → Place → Or Place
field name place = field_in name place.at place.access

abbrev pub chosen : Bool → Or Typed → Or Typed → Or Typed
chosen true first second = first
chosen false first second = second

-- `?:` values the arm that is taken (C89, 3.3.15)
abbrev pub choice : Or Typed → Or Typed → Or Typed → Or Typed
choice test first second = after test λ typed. after (condition typed) λ holds. chosen holds first second

abbrev pub most : Extreme → ℤ → ℤ → Or Typed
most extreme.Max left right = Ok (plain (Number (if int_lt left right then right else left)))
most extreme.Min left right = Ok (plain (Number (if int_lt right left then right else left)))

abbrev pub magnitude : ℤ → Or Typed
magnitude number = checked (if int_lt number (pos 0) then neg_ℤ number else number)

-- a linked expression over the objects
unfoldable pub seen : List Object → Term → Seen
seen objects (Constant number) = only_value (Ok (plain (Number number)))
seen objects (Variable object access) = with_place objects (Ok (record { at = Pointer object 0; access = access }))
seen objects (Array object access) = only_value (Ok (record { value = Pointer object 0; through = access }))
seen objects (Routine number) = only_value (Ok (plain (Function number)))
seen objects Unknown = record { value = Err NoMeaning; place = Err NoMeaning }
seen objects (Prefixed operator operand) = prefixed objects operator (seen objects operand)
seen objects (Cast type operand) = only_value (after (seen objects operand).value (cast type))
seen objects (Between operator left right) =
    only_value (between objects operator (seen objects left).value (seen objects right).value)
seen objects (Choice test first second) =
    only_value (choice (seen objects test).value (seen objects first).value (seen objects second).value)
seen objects (Element array index) =
    with_place objects
    (after (seen objects array).value λ start. after (seen objects index).value λ count. element objects start count)
seen objects (Field operand name) = with_place objects (after (seen objects operand).place (field name))
seen objects Size = only_value (Ok (plain (Number (pos 4))))
seen objects (Most which left right) =
    only_value
    (after (seen objects left).value λ a. after (seen objects right).value λ b. on_numbers (most which) a b)
seen objects (Magnitude operand) =
    only_value (after (seen objects operand).value λ typed. after (as_number typed.value) magnitude)

-- the value, or the first fault
abbrev pub value_of : List Object → Term → Or CValue
value_of objects term = after (seen objects term).value λ typed. Ok typed.value

-- the place that is stored at, or the first fault
abbrev pub place_named : List Object → Term → Or Place
place_named objects term = (seen objects term).place

-- the values from the left
abbrev pub values_of : List Object → List Term → Or (List CValue)
values_of objects [] = Ok []
values_of objects (term ∷ later) =
    after (value_of objects term) λ value. after (values_of objects later) λ values. Ok (value ∷ values)

-- whether a condition holds
abbrev pub test_of : List Object → Term → Or Bool
test_of objects term = after (seen objects term).value condition

-- the number that a `switch` chooses by
abbrev pub number_of : List Object → Term → Or ℤ
number_of objects term = after (value_of objects term) as_number
