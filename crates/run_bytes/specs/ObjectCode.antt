-- How the logic stores objects: by numbers and lists that give them back.
use Rattle.std.specs.Prelude.{◌≡◌, ℕ, ℤ, ◌⊎◌, ◌==◌, cond, List, [], ◌∷◌, Option, refl}
use Rattle.std.proofs.Common.{ap, inl, inr}
use Rattle.std.specs.Coded.{Coded, code_by, coded_ℕ, coded_ℤ, coded_list, coded_option, coded×, coded⊎}
use Rattle.c_tree.specs.declared.outcome.CValue.{CValue}
use Rattle.c_tree.specs.declared.outcome.CValue.TheVariants.{Number, Pointer, Null, Function}
use Rattle.c_tree.specs.declared.types.ListType.TheVariants as list
use Rattle.c_tree.specs.Access.{Access, ToNumber, ToChar, ToByte, ToList, ToField, ToPointer, ToFunction, ToNothing, NumberField, TextField}
use Rattle.c_tree.specs.Objects.{Object, Bytes, Values}

abbrev access_numbers : Access → List ℕ
access_numbers ToNumber = 0 ∷ []
access_numbers ToChar = 1 ∷ []
access_numbers ToByte = 2 ∷ []
access_numbers (ToList list.Transfer) = 3 ∷ []
access_numbers (ToList list.Internal) = 4 ∷ []
access_numbers (ToList list.Open) = 5 ∷ []
access_numbers (ToList list.Close) = 6 ∷ []
access_numbers (ToList list.Position) = 7 ∷ []
access_numbers (ToField NumberField) = 8 ∷ []
access_numbers (ToField TextField) = 9 ∷ []
access_numbers (ToPointer through) = 10 ∷ access_numbers through
access_numbers ToFunction = 11 ∷ []
access_numbers ToNothing = 12 ∷ []

abbrev access_by : ℕ → Access → Access
access_by n through =
    cond (n == 0) ToNumber (cond (n == 1) ToChar (cond (n == 2) ToByte (cond (n == 3) (ToList list.Transfer) (cond (n == 4) (ToList list.Internal)
    (cond (n == 5) (ToList list.Open) (cond (n == 6) (ToList list.Close) (cond (n == 7) (ToList list.Position) (cond (n == 8) (ToField NumberField)
    (cond (n == 9) (ToField TextField) (cond (n == 10) (ToPointer through) (cond (n == 11) ToFunction ToNothing)))))))))))

abbrev access_from : List ℕ → Access
access_from [] = ToNothing
access_from (n ∷ later) = access_by n (access_from later)

pub access_from-access_numbers : (a : Access) → access_from (access_numbers a) ≡ a
access_from-access_numbers ToNumber = refl
access_from-access_numbers ToChar = refl
access_from-access_numbers ToByte = refl
access_from-access_numbers (ToList list.Transfer) = refl
access_from-access_numbers (ToList list.Internal) = refl
access_from-access_numbers (ToList list.Open) = refl
access_from-access_numbers (ToList list.Close) = refl
access_from-access_numbers (ToList list.Position) = refl
access_from-access_numbers (ToField NumberField) = refl
access_from-access_numbers (ToField TextField) = refl
access_from-access_numbers (ToPointer through) = ap ToPointer (access_from-access_numbers through)
access_from-access_numbers ToFunction = refl
access_from-access_numbers ToNothing = refl

abbrev access_code : Coded Access
access_code = code_by (List ℕ) (coded_list coded_ℕ) access_numbers access_from access_from-access_numbers

abbrev value_parts : CValue → ℤ ⊎ List ℕ
value_parts (Number number) = inl number
value_parts (Pointer object offset) = inr (object ∷ offset ∷ [])
value_parts Null = inr []
value_parts (Function number) = inr (number ∷ [])

abbrev value_from : ℤ ⊎ List ℕ → CValue
value_from (inl number) = Number number
value_from (inr []) = Null
value_from (inr (number ∷ [])) = Function number
value_from (inr (object ∷ offset ∷ later)) = Pointer object offset

pub value_from-value_parts : (value : CValue) → value_from (value_parts value) ≡ value
value_from-value_parts (Number number) = refl
value_from-value_parts (Pointer object offset) = refl
value_from-value_parts Null = refl
value_from-value_parts (Function number) = refl

abbrev value_code : Coded CValue
value_code = code_by (ℤ ⊎ List ℕ) (coded⊎ coded_ℤ (coded_list coded_ℕ)) value_parts value_from value_from-value_parts

abbrev Parts : Type 0
Parts = List (Option ℕ) ⊎ (Access × List (Option CValue))

abbrev parts_code : Coded Parts
parts_code = coded⊎ (coded_list (coded_option coded_ℕ)) (coded× access_code (coded_list (coded_option value_code)))

abbrev object_parts : Object → Parts
object_parts (Bytes bytes) = inl bytes
object_parts (Values held) = inr (held.type, held.values)

abbrev object_from : Parts → Object
object_from (inl bytes) = Bytes bytes
object_from (inr held) = Values (record { type = held.0; values = held.1 })

pub object_from-object_parts : (object : Object) → object_from (object_parts object) ≡ object
object_from-object_parts (Bytes bytes) = refl
object_from-object_parts (Values held) = refl

abbrev pub objects_code : Coded (List Object)
objects_code = coded_list (code_by Parts parts_code object_parts object_from object_from-object_parts)
