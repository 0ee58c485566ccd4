-- The lists that expressions name are within their objects, since no pointer to one moves out of it (C89, 3.3.6).
use Rattle.std.specs.Prelude.{◌≡◌, ℕ, ◌≤◌, ℤ, pos, negsuc, ◌+ℤ◌, ◌-ℤ◌, ◌*ℤ◌, neg_ℤ, unsigned_abs, int_lt, int_le, int_div, int_rem, not, Bool, true, false, ◌&&◌, List, [], ◌∷◌, Option, Some, None, Ok, Err, slice_get, if◌then◌else◌}
use Rattle.std.specs.Ordering.{int_eq}
use Rattle.std.proofs.Common.{refl, sym, subst, arith}
use Rattle.std.proofs.lemmas.Bool.Decides.{nat_tests}
use Rattle.c_tree.specs.declared.outcome.CValue.{CValue}
use Rattle.c_tree.specs.declared.outcome.CValue.TheVariants.{Number, Pointer, Null, Function}
use Rattle.c_tree.specs.declared.outcome.CFault.TheVariants.{Outside, Kind}
use Rattle.c_tree.specs.declared.types.ListType.{ListType}
use Rattle.c_tree.specs.declared.types.CastType.{CastType}
use Rattle.c_tree.specs.declared.types.CastType.TheVariants as to
use Rattle.c_tree.specs.declared.expression.UnaryOp.{UnaryOp}
use Rattle.c_tree.specs.declared.expression.UnaryOp.TheVariants as prefix
use Rattle.c_tree.specs.declared.expression.BinaryOp.{BinaryOp}
use Rattle.c_tree.specs.declared.expression.BinaryOp.TheVariants as op
use Rattle.c_tree.specs.declared.expression.Extreme.{Extreme}
use Rattle.c_tree.specs.declared.expression.Extreme.TheVariants as extreme
use Rattle.c_tree.specs.Faults.{Or, after, failing}
use Rattle.c_tree.specs.Access.{Access, ToNumber, ToChar, ToByte, ToList, ToField, ToPointer, ToFunction, ToNothing, NumberField, TextField, FieldAt, field_named, stride}
use Rattle.c_tree.specs.Objects.{Object, Bytes, Values, extent, Typed, Place, plain, as_number, as_pointer, as_function, number_at, bytes_at, byte_from, read_bytes, read_value, read_held, read_object, read_through, holds, is_valued, fetched}
use Rattle.c_tree.specs.Values.{Seen, in_range, checked, truth, condition, pointer_at, moved_by, moved, sum_of, difference_of, same, quotient, remainder, on_numbers, operation, unless_decided, between, cast_value, cast, pointed, place_of, address_of, prefixed, element, field_at, field_in, field, chosen, most, magnitude, seen}
use Rattle.run_bytes.specs.declared.access.AccessType.{AccessType}
use Rattle.run_bytes.specs.declared.access.AccessType.TheVariants as access
use Rattle.run_bytes.specs.declared.access.PointedType.TheVariants as pointed_type
use Rattle.run_bytes.specs.Accesses.{access_of}
use Rattle.linked_terms.specs.declared.terms.LinkedTerm.{LinkedTerm, Constant, Variable, Array, Routine, Prefixed', Cast', Between', Choice', Element', Field', Size, Most', Magnitude', end_of-LinkedTerm, more_of-LinkedTerm}
use Rattle.linked_terms.specs.FieldNames.{name_in}
use Rattle.linked_terms.specs.LinkedTerms.{term_of}
use Rattle.term_values.specs.Within.{extent_of, IsPointedTo, IsWithin, StandsWithin}

-- what holds of a value, where there is one
abbrev If : {A : Type 0} → (A → Type 0) → Or A → Type 0
If P (Ok value) = P value
If P (Err reason) = Unit {0}

if-after : {A B : Type 0} (P : A → Type 0) (Q : B → Type 0) (x : Or A) (rest : A → Or B) → If P x → ((a : A) → P a → If Q (rest a)) → If Q (after x rest)
if-after P Q (Ok a) rest h k = k a h
if-after P Q (Err r) rest h k = tt

if-any : {A B : Type 0} (Q : B → Type 0) (x : Or A) (rest : A → Or B) → ((a : A) → If Q (rest a)) → If Q (after x rest)
if-any Q (Ok a) rest k = k a
if-any Q (Err r) rest k = tt

if-either : {A : Type 0} (Q : A → Type 0) (b : Bool) (x y : Or A) → If Q x → If Q y → If Q (if b then x else y)
if-either Q true x y h k = h
if-either Q false x y h k = k

abbrev ValueIn : List Object → Typed → Type 0
ValueIn objects v = IsWithin objects v.through v.value

abbrev PlaceIn : List Object → Place → Type 0
PlaceIn objects p = IsWithin objects p.access p.at

start : (objects : List Object) (o : ℕ) (a : AccessType) → IsWithin objects (access_of a) (Pointer o 0)
start objects o access.Number = tt
start objects o access.Char = tt
start objects o access.Byte = tt
start objects o (access.List type) = omega arith
start objects o (access.Field type) = tt
start objects o (access.Pointer pointed_type.Number) = tt
start objects o (access.Pointer pointed_type.Char) = tt
start objects o access.Function = tt
start objects o access.Nothing = tt

-- FETCHED VALUES
pointer-in : (objects : List Object) (through : Access) (v : CValue) → IsPointedTo through → If (ValueIn objects) (as_pointer through v)
pointer-in objects ToNumber (Pointer o n) h = tt
pointer-in objects ToNumber Null h = tt
pointer-in objects ToChar (Pointer o n) h = tt
pointer-in objects ToChar Null h = tt
pointer-in objects through (Number n) h = tt
pointer-in objects through (Function n) h = tt
pointer-in objects ToByte v h = absurd h
pointer-in objects (ToList l) v h = absurd h
pointer-in objects (ToField k) v h = absurd h
pointer-in objects (ToPointer t) v h = absurd h
pointer-in objects ToFunction v h = absurd h
pointer-in objects ToNothing v h = absurd h

function-in : (objects : List Object) (v : CValue) → If (ValueIn objects) (as_function v)
function-in objects (Function n) = tt
function-in objects Null = tt
function-in objects (Number n) = tt
function-in objects (Pointer o n) = tt

-- an access that reaches no list
abbrev Reaches : Access → Type 0
Reaches (ToPointer through) = IsPointedTo through
Reaches access = Unit {0}

value-in : (objects : List Object) (a : Access) (v : CValue) → Reaches a → If (ValueIn objects) (read_value a v)
value-in objects (ToField NumberField) v h = if-any (ValueIn objects) (as_number v) (λ n. Ok (plain (Number n))) λ n. tt
value-in objects (ToField TextField) v h = pointer-in objects ToChar v tt
value-in objects (ToPointer through) v h = pointer-in objects through v h
value-in objects ToFunction v h = function-in objects v
value-in objects ToNumber v h = tt
value-in objects ToChar v h = tt
value-in objects ToByte v h = tt
value-in objects (ToList l) v h = tt
value-in objects ToNothing v h = tt

held-in : (objects : List Object) (a : Access) (v : Option (Option CValue)) → Reaches a → If (ValueIn objects) (read_held a v)
held-in objects a None h = tt
held-in objects a (Some None) h = tt
held-in objects a (Some (Some v)) h = value-in objects a v h

byte-in : (objects : List Object) (bytes : List ℕ) → If (ValueIn objects) (byte_from bytes)
byte-in objects [] = tt
byte-in objects (b ∷ bs) = tt

bytes-in : (objects : List Object) (a : Access) (n : ℕ) (bytes : List (Option ℕ)) → If (ValueIn objects) (read_bytes a n bytes)
bytes-in objects ToNumber n bytes = if-any (ValueIn objects) (number_at n bytes) (λ number. Ok (plain (Number number))) λ number. tt
bytes-in objects ToByte n bytes = if-any (ValueIn objects) (bytes_at n 1 bytes) byte_from (byte-in objects)
bytes-in objects ToChar n bytes = tt
bytes-in objects (ToList l) n bytes = tt
bytes-in objects (ToField k) n bytes = tt
bytes-in objects (ToPointer t) n bytes = tt
bytes-in objects ToFunction n bytes = tt
bytes-in objects ToNothing n bytes = tt

object-in : (objects : List Object) (a : Access) (n : ℕ) (found : Option Object) → Reaches a → If (ValueIn objects) (read_object a n found)
object-in objects a n None h = tt
object-in objects a n (Some (Bytes bytes)) h = bytes-in objects a n bytes
object-in objects a n (Some (Values held)) h =
    if-either (ValueIn objects) (holds held.type a) (read_held a (slice_get held.values n)) (failing Kind) (held-in objects a (slice_get held.values n) h) tt

through-in : (objects : List Object) (v : CValue) (a : Access) → Reaches a → If (ValueIn objects) (read_through objects v a)
through-in objects (Pointer o n) a h = object-in objects a n (slice_get objects o) h
through-in objects Null a h = tt
through-in objects (Number n) a h = tt
through-in objects (Function n) a h = tt

reaches : (objects : List Object) (a : Access) (v : CValue) → IsWithin objects a v → Reaches a
reaches objects (ToPointer t) v h = h
reaches objects ToNumber v h = tt
reaches objects ToChar v h = tt
reaches objects ToByte v h = tt
reaches objects (ToList l) v h = tt
reaches objects (ToField k) v h = tt
reaches objects ToFunction v h = tt
reaches objects ToNothing v h = tt

fetched-in : (objects : List Object) (p : Place) → PlaceIn objects p → If (ValueIn objects) (fetched objects p)
unfolding fetched
fetched-in objects p h =
    if-either (ValueIn objects) (is_valued p.access) (read_through objects p.at p.access) (failing Kind) (through-in objects p.at p.access (reaches objects p.access p.at h)) tt

-- POINTERS
under : (b : Bool) (o k : ℕ) (z : ℤ) (objects : List Object) (l : _) → (b ≡ true → k ≤ extent_of (slice_get objects o)) →
    If (IsWithin objects (ToList l)) (if b then Ok (Pointer o k) else failing Outside)
under true o k z objects l h = h refl
under false o k z objects l h = tt

bounded : (z : ℤ) (most : ℕ) → int_le (pos 0) z && int_le z (pos most) ≡ true → unsigned_abs z ≤ most
bounded (pos n) most h = grind (arith, nat_tests)
bounded (negsuc n) most h = grind (arith, nat_tests)

at-in : (objects : List Object) (o : ℕ) (z : ℤ) (l : _) (found : Option Object) → slice_get objects o ≡ found →
    If (IsWithin objects (ToList l)) (pointer_at o z found)
at-in objects o z l None e = tt
at-in objects o z l (Some object) e =
    under (int_le (pos 0) z && int_le z (pos (extent object))) o (unsigned_abs z) z objects l
    λ is. subst (λ other. unsigned_abs z ≤ extent_of other) (sym e) (bounded z (extent object) is)

by-in : (objects : List Object) (width : Option ℕ) (o n : ℕ) (count : ℤ) (l : _) → If (IsWithin objects (ToList l)) (moved_by width objects o n count)
by-in objects None o n count l = tt
by-in objects (Some width) o n count l = at-in objects o (pos n +ℤ count *ℤ pos width) l (slice_get objects o) refl

moved-any : (objects : List Object) (a : Access) (v : CValue) (count : ℤ) → ((v : CValue) → IsWithin objects a v) → If (ValueIn objects) (moved objects a v count)
moved-any objects a (Pointer o n) count h =
    if-any (ValueIn objects) (moved_by (stride a) objects o n count) (λ value. Ok (record { value = value; through = a })) h
moved-any objects a Null count h = tt
moved-any objects a (Number n) count h = tt
moved-any objects a (Function n) count h = tt

moved-in : (objects : List Object) (a : Access) (v : CValue) (count : ℤ) → IsWithin objects a v → If (ValueIn objects) (moved objects a v count)
moved-in objects (ToList l) (Pointer o n) count h =
    if-after (IsWithin objects (ToList l)) (ValueIn objects) (moved_by (stride (ToList l)) objects o n count) (λ value. Ok (record { value = value; through = ToList l }))
    (by-in objects (stride (ToList l)) o n count l) λ v k. k
moved-in objects (ToList l) Null count h = tt
moved-in objects (ToList l) (Number n) count h = tt
moved-in objects (ToList l) (Function n) count h = tt
moved-in objects (ToPointer t) v count h = moved-any objects (ToPointer t) v count λ other. h
moved-in objects ToNumber v count h = moved-any objects ToNumber v count λ other. tt
moved-in objects ToChar v count h = moved-any objects ToChar v count λ other. tt
moved-in objects ToByte v count h = moved-any objects ToByte v count λ other. tt
moved-in objects (ToField k) v count h = moved-any objects (ToField k) v count λ other. tt
moved-in objects ToFunction v count h = moved-any objects ToFunction v count λ other. tt
moved-in objects ToNothing v count h = moved-any objects ToNothing v count λ other. tt

pointed-in : (objects : List Object) (a : Access) (v : CValue) → IsWithin objects a v → If (PlaceIn objects) (pointed a v)
pointed-in objects a (Pointer o n) h = h
pointed-in objects a Null h = h
pointed-in objects a (Number n) h = tt
pointed-in objects a (Function n) h = tt

-- OPERATORS
checked-in : (objects : List Object) (z : ℤ) → If (ValueIn objects) (checked z)
checked-in objects z = if-either (ValueIn objects) (in_range z) (Ok (plain (Number z))) (failing _) tt tt

sum-in : (objects : List Object) (a : Access) (x y : CValue) → IsWithin objects a x → If (ValueIn objects) (sum_of objects a x y)
sum-in objects a (Number m) (Number n) h = checked-in objects (m +ℤ n)
sum-in objects a (Number m) (Pointer o n) h = tt
sum-in objects a (Number m) Null h = tt
sum-in objects a (Number m) (Function n) h = tt
sum-in objects a (Pointer p m) (Number n) h = moved-in objects a (Pointer p m) n h
sum-in objects a (Pointer p m) (Pointer o n) h = tt
sum-in objects a (Pointer p m) Null h = tt
sum-in objects a (Pointer p m) (Function n) h = tt
sum-in objects a Null (Number n) h = moved-in objects a Null n h
sum-in objects a Null (Pointer o n) h = tt
sum-in objects a Null Null h = tt
sum-in objects a Null (Function n) h = tt
sum-in objects a (Function m) (Number n) h = moved-in objects a (Function m) n h
sum-in objects a (Function m) (Pointer o n) h = tt
sum-in objects a (Function m) Null h = tt
sum-in objects a (Function m) (Function n) h = tt

difference-in : (objects : List Object) (a : Access) (x y : CValue) → IsWithin objects a x → If (ValueIn objects) (difference_of objects a x y)
difference-in objects a (Number m) (Number n) h = checked-in objects (m -ℤ n)
difference-in objects a (Number m) (Pointer o n) h = tt
difference-in objects a (Number m) Null h = tt
difference-in objects a (Number m) (Function n) h = tt
difference-in objects a (Pointer p m) (Number n) h = moved-in objects a (Pointer p m) (neg_ℤ n) h
difference-in objects a (Pointer p m) (Pointer o n) h = tt
difference-in objects a (Pointer p m) Null h = tt
difference-in objects a (Pointer p m) (Function n) h = tt
difference-in objects a Null (Number n) h = moved-in objects a Null (neg_ℤ n) h
difference-in objects a Null (Pointer o n) h = tt
difference-in objects a Null Null h = tt
difference-in objects a Null (Function n) h = tt
difference-in objects a (Function m) (Number n) h = moved-in objects a (Function m) (neg_ℤ n) h
difference-in objects a (Function m) (Pointer o n) h = tt
difference-in objects a (Function m) Null h = tt
difference-in objects a (Function m) (Function n) h = tt

numbers-in : (objects : List Object) (f : ℤ → ℤ → Or Typed) (x y : Typed) → ((a b : ℤ) → If (ValueIn objects) (f a b)) → If (ValueIn objects) (on_numbers f x y)
numbers-in objects f x y h =
    if-any (ValueIn objects) (as_number x.value) (λ a. after (as_number y.value) λ b. f a b) λ a. if-any (ValueIn objects) (as_number y.value) (λ b. f a b) (h a)

quotient-in : (objects : List Object) (a b : ℤ) → If (ValueIn objects) (quotient a b)
quotient-in objects a b = if-either (ValueIn objects) (int_eq b (pos 0)) (failing _) (checked (int_div a b)) tt (checked-in objects (int_div a b))

operation-in : (objects : List Object) (operator : BinaryOp) (x y : Typed) → ValueIn objects x → If (ValueIn objects) (operation objects operator x y)
operation-in objects op.Add x y h = sum-in objects x.through x.value y.value h
operation-in objects op.Subtract x y h = difference-in objects x.through x.value y.value h
operation-in objects op.Multiply x y h = numbers-in objects (λ a b. checked (a *ℤ b)) x y λ a b. checked-in objects (a *ℤ b)
operation-in objects op.Divide x y h = numbers-in objects quotient x y (quotient-in objects)
operation-in objects op.Remainder x y h =
    numbers-in objects remainder x y λ a b. if-any (ValueIn objects) (quotient a b) (λ done. Ok (plain (Number (int_rem a b)))) λ done. tt
operation-in objects op.Equal x y h = if-any (ValueIn objects) (same x.value y.value) (λ equal. Ok (truth equal)) λ equal. tt
operation-in objects op.Unequal x y h = if-any (ValueIn objects) (same x.value y.value) (λ equal. Ok (truth (not equal))) λ equal. tt
operation-in objects op.Less x y h = numbers-in objects (λ a b. Ok (truth (int_lt a b))) x y λ a b. tt
operation-in objects op.LessOrEqual x y h = numbers-in objects (λ a b. Ok (truth (int_le a b))) x y λ a b. tt
operation-in objects op.Greater x y h = numbers-in objects (λ a b. Ok (truth (int_lt b a))) x y λ a b. tt
operation-in objects op.GreaterOrEqual x y h = numbers-in objects (λ a b. Ok (truth (int_le b a))) x y λ a b. tt
operation-in objects op.And x y h = tt
operation-in objects op.Or x y h = tt

decided-in : (objects : List Object) (b d : Bool) (y : Or Typed) → If (ValueIn objects) (unless_decided b d y)
decided-in objects true d y = tt
decided-in objects false d y =
    if-any (ValueIn objects) y (λ typed. after (condition typed) λ holds. Ok (truth holds)) λ typed. if-any (ValueIn objects) (condition typed) (λ holds. Ok (truth holds)) λ holds. tt

valued-in : (objects : List Object) (operator : BinaryOp) (x y : Or Typed) → If (ValueIn objects) x →
    If (ValueIn objects) (after x λ a. after y λ b. operation objects operator a b)
valued-in objects operator x y h =
    if-after (ValueIn objects) (ValueIn objects) x (λ a. after y λ b. operation objects operator a b) h
    λ a k. if-any (ValueIn objects) y (λ b. operation objects operator a b) λ b. operation-in objects operator a b k

between-in : (objects : List Object) (operator : BinaryOp) (x y : Or Typed) → If (ValueIn objects) x → If (ValueIn objects) (between objects operator x y)
between-in objects op.And x y h =
    if-any (ValueIn objects) x (λ typed. after (condition typed) λ holds. unless_decided (not holds) false y)
    λ typed. if-any (ValueIn objects) (condition typed) (λ holds. unless_decided (not holds) false y) λ holds. decided-in objects (not holds) false y
between-in objects op.Or x y h =
    if-any (ValueIn objects) x (λ typed. after (condition typed) λ holds. unless_decided holds true y)
    λ typed. if-any (ValueIn objects) (condition typed) (λ holds. unless_decided holds true y) λ holds. decided-in objects holds true y
between-in objects op.Equal x y h = valued-in objects op.Equal x y h
between-in objects op.Unequal x y h = valued-in objects op.Unequal x y h
between-in objects op.Less x y h = valued-in objects op.Less x y h
between-in objects op.LessOrEqual x y h = valued-in objects op.LessOrEqual x y h
between-in objects op.Greater x y h = valued-in objects op.Greater x y h
between-in objects op.GreaterOrEqual x y h = valued-in objects op.GreaterOrEqual x y h
between-in objects op.Add x y h = valued-in objects op.Add x y h
between-in objects op.Subtract x y h = valued-in objects op.Subtract x y h
between-in objects op.Multiply x y h = valued-in objects op.Multiply x y h
between-in objects op.Divide x y h = valued-in objects op.Divide x y h
between-in objects op.Remainder x y h = valued-in objects op.Remainder x y h

cast-in : (objects : List Object) (type : CastType) (x : Typed) → If (ValueIn objects) (cast type x)
cast-in objects to.Chars x = if-any (ValueIn objects) (cast_value to.Chars x.value) (λ value. Ok (record { value = value; through = ToChar })) λ value. tt
cast-in objects to.UnsignedChars x = if-any (ValueIn objects) (cast_value to.UnsignedChars x.value) (λ value. Ok (record { value = value; through = ToByte })) λ value. tt
cast-in objects to.Integers x = if-any (ValueIn objects) (cast_value to.Integers x.value) (λ value. Ok (record { value = value; through = ToNumber })) λ value. tt
cast-in objects to.Logicals x = if-any (ValueIn objects) (cast_value to.Logicals x.value) (λ value. Ok (record { value = value; through = ToNumber })) λ value. tt
cast-in objects to.Length x = if-any (ValueIn objects) (cast_value to.Length x.value) (λ value. Ok (record { value = value; through = ToNothing })) λ value. tt
cast-in objects to.Number x = if-any (ValueIn objects) (cast_value to.Number x.value) (λ value. Ok (record { value = value; through = ToNothing })) λ value. tt
cast-in objects (to.Function of) x = if-any (ValueIn objects) (cast_value (to.Function of) x.value) (λ value. Ok (record { value = value; through = ToNothing })) λ value. tt

element-in : (objects : List Object) (array index : Typed) → ValueIn objects array → If (PlaceIn objects) (element objects array index)
element-in objects array index h =
    if-after (PlaceIn objects) (PlaceIn objects) (place_of array) (λ start. after (as_number index.value) λ count. after (moved objects start.access start.at count) place_of)
    (pointed-in objects array.through array.value h)
    λ start k. if-any (PlaceIn objects) (as_number index.value) (λ count. after (moved objects start.access start.at count) place_of)
    λ count. if-after (ValueIn objects) (PlaceIn objects) (moved objects start.access start.at count) place_of
    (moved-in objects start.access start.at count k) λ v i. pointed-in objects v.through v.value i

found-in : (objects : List Object) (o n : ℕ) (found : Option FieldAt) → If (PlaceIn objects) (field_at o n found)
found-in objects o n None = tt
found-in objects o n (Some f) = tt

field-in : (objects : List Object) (name : List ℕ) (v : CValue) (a : Access) → If (PlaceIn objects) (field_in name v a)
field-in objects name (Pointer o n) (ToList l) = found-in objects o n (field_named name l)
field-in objects name (Pointer o n) ToNumber = tt
field-in objects name (Pointer o n) ToChar = tt
field-in objects name (Pointer o n) ToByte = tt
field-in objects name (Pointer o n) (ToField k) = tt
field-in objects name (Pointer o n) (ToPointer t) = tt
field-in objects name (Pointer o n) ToFunction = tt
field-in objects name (Pointer o n) ToNothing = tt
field-in objects name Null (ToList l) = tt
field-in objects name Null ToNumber = tt
field-in objects name Null ToChar = tt
field-in objects name Null ToByte = tt
field-in objects name Null (ToField k) = tt
field-in objects name Null (ToPointer t) = tt
field-in objects name Null ToFunction = tt
field-in objects name Null ToNothing = tt
field-in objects name (Number n) a = tt
field-in objects name (Function n) a = tt

most-in : (objects : List Object) (which : Extreme) (a b : ℤ) → If (ValueIn objects) (most which a b)
most-in objects extreme.Max a b = tt
most-in objects extreme.Min a b = tt

chosen-in : (objects : List Object) (b : Bool) (x y : Or Typed) → If (ValueIn objects) x → If (ValueIn objects) y → If (ValueIn objects) (chosen b x y)
chosen-in objects true x y h k = h
chosen-in objects false x y h k = k

abbrev SeenIn : List Object → Seen → Type 0
SeenIn objects s = If (ValueIn objects) s.value × If (PlaceIn objects) s.place

with_place-in : (objects : List Object) (x : Or Place) → If (PlaceIn objects) x → If (ValueIn objects) (after x (fetched objects))
with_place-in objects x h = if-after (PlaceIn objects) (ValueIn objects) x (fetched objects) h (fetched-in objects)

prefixed-in : (objects : List Object) (operator : UnaryOp) (s : Seen) → SeenIn objects s → SeenIn objects (prefixed objects operator s)
prefixed-in objects prefix.Minus s h = (
  if-any (ValueIn objects) s.value (λ typed. after (as_number typed.value) λ number. checked (neg_ℤ number))
      λ typed. if-any (ValueIn objects) (as_number typed.value) (λ number. checked (neg_ℤ number)) λ number. checked-in objects (neg_ℤ number),
  tt,
)
prefixed-in objects prefix.Not s h = (
  if-any (ValueIn objects) s.value (λ typed. after (condition typed) λ holds. Ok (truth (not holds)))
      λ typed. if-any (ValueIn objects) (condition typed) (λ holds. Ok (truth (not holds))) λ holds. tt,
  tt,
)
prefixed-in objects prefix.Deref s h =
    let place : If (PlaceIn objects) (after s.value place_of) =
    if-after (ValueIn objects) (PlaceIn objects) s.value place_of h.0 λ v k. pointed-in objects v.through v.value k in
    (with_place-in objects (after s.value place_of) place, place)
prefixed-in objects prefix.Address s h =
    (if-after (PlaceIn objects) (ValueIn objects) s.place address_of h.1 λ p k. k, tt)

-- an expression, as a value and as a place
pub seen-in : (objects : List Object) (t : LinkedTerm) → SeenIn objects (seen objects (term_of t))
unfolding seen term_of
seen-in objects (Constant n) = (tt, tt)
seen-in objects (Variable o a) =
    (with_place-in objects (Ok (record { at = Pointer o 0; access = access_of a })) (start objects o a), start objects o a)
seen-in objects (Array o a) = (start objects o a, tt)
seen-in objects (Routine n) = (tt, tt)
seen-in objects (Prefixed' operator s (more_of-LinkedTerm t end_of-LinkedTerm)) =
    prefixed-in objects operator (seen objects (term_of t)) (seen-in objects t)
seen-in objects (Cast' type s (more_of-LinkedTerm t end_of-LinkedTerm)) =
    (if-any (ValueIn objects) (seen objects (term_of t)).value (cast type) (cast-in objects type), tt)
seen-in objects (Between' operator s (more_of-LinkedTerm a end_of-LinkedTerm) r (more_of-LinkedTerm b end_of-LinkedTerm)) =
    (between-in objects operator (seen objects (term_of a)).value (seen objects (term_of b)).value (seen-in objects a).0, tt)
seen-in objects (Choice' s (more_of-LinkedTerm test end_of-LinkedTerm) r (more_of-LinkedTerm a end_of-LinkedTerm) q (more_of-LinkedTerm b end_of-LinkedTerm)) = (
  if-any (ValueIn objects) (seen objects (term_of test)).value (λ typed. after (condition typed) λ holds. chosen holds (seen objects (term_of a)).value (seen objects (term_of b)).value)
      λ typed. if-any (ValueIn objects) (condition typed) (λ holds. chosen holds (seen objects (term_of a)).value (seen objects (term_of b)).value)
      λ holds. chosen-in objects holds (seen objects (term_of a)).value (seen objects (term_of b)).value (seen-in objects a).0 (seen-in objects b).0,
  tt,
)
seen-in objects (Element' s (more_of-LinkedTerm a end_of-LinkedTerm) r (more_of-LinkedTerm b end_of-LinkedTerm)) =
    let place : If (PlaceIn objects) (after (seen objects (term_of a)).value λ start. after (seen objects (term_of b)).value λ count. element objects start count) =
    if-after (ValueIn objects) (PlaceIn objects) (seen objects (term_of a)).value (λ start. after (seen objects (term_of b)).value λ count. element objects start count) (seen-in objects a).0
    (λ start k. if-any (PlaceIn objects) (seen objects (term_of b)).value (λ count. element objects start count) λ count. element-in objects start count k) in
    (with_place-in objects (after (seen objects (term_of a)).value λ start. after (seen objects (term_of b)).value λ count. element objects start count) place, place)
seen-in objects (Field' s (more_of-LinkedTerm t end_of-LinkedTerm) name) =
    let place : If (PlaceIn objects) (after (seen objects (term_of t)).place (field (name_in name))) =
    if-any (PlaceIn objects) (seen objects (term_of t)).place (field (name_in name)) (λ p. field-in objects (name_in name) p.at p.access) in
    (with_place-in objects (after (seen objects (term_of t)).place (field (name_in name))) place, place)
seen-in objects Size = (tt, tt)
seen-in objects (Most' which s (more_of-LinkedTerm a end_of-LinkedTerm) r (more_of-LinkedTerm b end_of-LinkedTerm)) = (
  if-any (ValueIn objects) (seen objects (term_of a)).value (λ x. after (seen objects (term_of b)).value λ y. on_numbers (most which) x y)
      λ x. if-any (ValueIn objects) (seen objects (term_of b)).value (λ y. on_numbers (most which) x y) λ y. numbers-in objects (most which) x y (most-in objects which),
  tt,
)
seen-in objects (Magnitude' s (more_of-LinkedTerm t end_of-LinkedTerm)) = (
  if-any (ValueIn objects) (seen objects (term_of t)).value (λ typed. after (as_number typed.value) magnitude)
      λ typed. if-any (ValueIn objects) (as_number typed.value) magnitude λ number. checked-in objects (if int_lt number (pos 0) then neg_ℤ number else number),
  tt,
)

-- a list that is named is within its object
pub place-within : (objects : List Object) (t : LinkedTerm) (p : Place) → Ok p ≡ (seen objects (term_of t)).place → StandsWithin objects p
place-within objects t p e = record { within = subst (If (PlaceIn objects)) (sym e) (seen-in objects t).1 }

-- so its offset has room for the number of a field
pub list-offset : (objects : List Object) (p : Place) (o n : ℕ) (l : ListType) → StandsWithin objects p → p.at ≡ Pointer o n → p.access ≡ ToList l →
    n ≤ extent_of (slice_get objects o)
list-offset objects p o n l h at is = subst (λ a. IsWithin objects a (Pointer o n)) is (subst (λ v. IsWithin objects p.access v) at h.within)

pub ruleset place_laws = (place-within, list-offset)
