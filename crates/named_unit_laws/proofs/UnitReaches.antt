-- The names of a unit stand for one place each: its variables, its result, its temporaries, what it keeps of its dummy arrays, and where its parameters point.
-- ANSI X3.9-1978, sections 2.2, 5.5.1 and 15.9; C89, 3.1.2.
use Rattle.std.specs.Prelude.{◌≡◌, ℕ, suc, ◌+◌, ◌<◌, ◌≤◌, ◌^◌, nat_lt, true, false, not, List, [], ◌∷◌, ◌++◌, Option, Some, slice_get, codes, decimal}
use Rattle.std.proofs.Common.{refl, sym, ap, ◌∙◌, arith}
use Rattle.std.proofs.lemmas.Bool.{ltb-true}
use Rattle.named_units.specs.f_tree.declared.names.Basic.{Basic}
use Rattle.named_units.specs.f_tree.declared.names.Class.{Class}
use Rattle.named_units.specs.f_tree.declared.names.Class.TheVariants as class
use Rattle.named_units.specs.f_tree.CNames.{is_name, variable_name, MadeName, made_name, NumberTemporary, FunctionResult, DimensionOf, LowerBoundOf, IsNumbered}
use Rattle.named_units.specs.f_tree.Facts.{Facts}
use Rattle.named_units.specs.f_tree.Values.{Bytes}
use Rattle.named_main_laws.proofs.fortran_laws.CNameLaws.{variable_name-injective, variable_name-not_made}
use Rattle.bound_names.specs.BoundNames.{IsBoundName, of_lower, of_size}
use Rattle.bound_names.proofs.ToldNames.{bounds_are_no_temporaries, bounds_end_in_digits}
use Rattle.named_units.specs.c_tree.declared.types.NumberType.{NumberType}
use Rattle.named_units.specs.c_tree.Terms.{Term}
use Rattle.named_units.specs.c_image.Addresses.{number_term, element_term}
use Rattle.named_units.specs.c_emit.Numbers.{Writing, is_numeric, is_variable, has_shape, has_number, is_scalar, is_array}
use Rattle.named_main_laws.proofs.main_translation_laws.Names.{same_first}
use Rattle.named_main_laws.proofs.main_translation_laws.Lists.{in_at}
use Rattle.named_units.specs.unit_file.UnitFile.{KeptBound, Inventory, Bases, bound_name, result_object, first_temporary, first_bound, place_or_none, place_of_variable, place_of_parameter, parameter_object, address_in, writing_of}
use Rattle.named_units.specs.unit_file.UnitNames.{object_name, names_of}
use Rattle.named_units.specs.unit_sites.UnitSites.{Site}
use Rattle.named_units.specs.unit_file_laws.KnownUnits.{NamesAreListed}
use Rattle.named_units.proofs.unit_item_laws.UnitObjects.{variable_is, parameter_is, result_is, temporary_is, bound_is}
use Rattle.named_units.proofs.named_items.WrittenAlike.{left_true, right_true}
use Rattle.named_main_laws.proofs.NamedPlaces.{Reach, Own, Pointed, NamesObjects, AreTold}
use Rattle.named_main_laws.proofs.NamedNames.{temporaries_told}
use Rattle.named_main_laws.proofs.NamedValues.{WritesObjects}
use Rattle.named_unit_laws.proofs.UnitBoundNames.{BoundsAreTold, bound_places}

-- ## Names that are made

result_front : made_name FunctionResult ≡ 114 ∷ (101 ∷ codes "t_val")
unfolding made_name
result_front = refl

temporary_front : (i : ℕ) → made_name (NumberTemporary i) ≡ 105 ∷ (95 ∷ (95 ∷ decimal i))
unfolding made_name
temporary_front i = refl

result_no_temporary : {A : Type 0} (i : ℕ) → made_name FunctionResult ≡ made_name (NumberTemporary i) → A
result_no_temporary i same =
    let no : 114 ≡ 105 = same_first 114 105 (101 ∷ codes "t_val") (95 ∷ (95 ∷ decimal i)) (sym result_front ∙ same ∙ temporary_front i) in
    absurd (let none : ⊥ = omega (arith, no) in none)

variable_no_made : {A : Type 0} (x : Bytes) (m : MadeName) → is_name x ≡ true → IsNumbered m → variable_name x ≡ made_name m → A
variable_no_made x m named small same = absurd (variable_name-not_made x named m small same)

variable_no_bound : {A : Type 0} (x : Bytes) (name : List ℕ) → is_name x ≡ true → IsBoundName name → variable_name x ≡ name → A
variable_no_bound x name named (of_lower y k small is) same = variable_no_made x (LowerBoundOf (variable_name y) k) named small (same ∙ is)
variable_no_bound x name named (of_size y k small is) same = variable_no_made x (DimensionOf (variable_name y) k) named small (same ∙ is)

result_end : made_name FunctionResult ≡ codes "ret_va" ++ 108 ∷ []
unfolding made_name
result_end = refl

result_no_bound : {A : Type 0} (name : List ℕ) → IsBoundName name → made_name FunctionResult ≡ name → A
result_no_bound name bound same = absurd (bounds_end_in_digits name (codes "ret_va") 108 bound (λ low high. omega (arith, high)) (sym same ∙ result_end))

temporary_no_bound : {A : Type 0} (name : List ℕ) (i : ℕ) → IsBoundName name → i < 2 ^ 64 → made_name (NumberTemporary i) ≡ name → A
temporary_no_bound name i bound few same = absurd (bounds_are_no_temporaries name i bound few (sym same))

other_class : {A : Type 0} (c : Class) → c ≡ class.Stored → c ≡ class.Dummy → A
other_class c own dummy = absurd (let no : class.Stored ≡ class.Dummy = sym own ∙ dummy in cc)

module _ (vs : List Inventory) (s : Site) (v : Inventory) (facts : Facts) where
  abbrev b : Bases
  b = s.bases

  -- what the places of a unit are: objects of its own, and where its dummies of numbers point
  pub data IsUnitObject : Reach → ℕ → Type 0 where
    of_variable : (k : ℕ) (x : Bytes) (i : ℕ) → (facts.program.attribute x).class ≡ class.Stored → is_name x ≡ true → place_of_variable v x ≡ Some i → k ≡ b.function + place_or_none (place_of_variable v x) → IsUnitObject Own k
    of_result : (k : ℕ) (type : NumberType) → v.returned ≡ Some type → k ≡ result_object v b → IsUnitObject Own k
    of_temporary : (k i : ℕ) → nat_lt i v.temporaries ≡ true → k ≡ first_temporary v b + i → IsUnitObject Own k
    of_bound : (k i : ℕ) (one : KeptBound) → slice_get v.bounds i ≡ Some one → k ≡ first_bound v b + i → IsUnitObject Own k
    of_parameter : (k : ℕ) (x : Bytes) (i : ℕ) → (facts.program.attribute x).class ≡ class.Dummy → is_name x ≡ true → place_of_parameter v x ≡ Some i → k ≡ parameter_object v b x → IsUnitObject Pointed k

  -- ## What they are called

  variable_called : (k : ℕ) (x : Bytes) (i : ℕ) → place_of_variable v x ≡ Some i → k ≡ b.function + place_or_none (place_of_variable v x) → object_name s.constants v b k ≡ variable_name x
  variable_called k x i is at = ap (object_name s.constants v b) at ∙ variable_is s v x i is

  result_called : (k : ℕ) (type : NumberType) → v.returned ≡ Some type → k ≡ result_object v b → object_name s.constants v b k ≡ made_name FunctionResult
  result_called k type is at = ap (object_name s.constants v b) at ∙ result_is s v type is

  temporary_called : (k i : ℕ) → nat_lt i v.temporaries ≡ true → k ≡ first_temporary v b + i → object_name s.constants v b k ≡ made_name (NumberTemporary (suc i))
  temporary_called k i below at = ap (object_name s.constants v b) at ∙ temporary_is s v i below

  parameter_called : (k : ℕ) (x : Bytes) (i : ℕ) → place_of_parameter v x ≡ Some i → k ≡ parameter_object v b x → object_name s.constants v b k ≡ variable_name x
  parameter_called k x i is at = ap (object_name s.constants v b) at ∙ parameter_is s v x i is

  bound_called : (k i : ℕ) (one : KeptBound) → slice_get v.bounds i ≡ Some one → k ≡ first_bound v b + i → object_name s.constants v b k ≡ bound_name one
  bound_called k i one there at = ap (object_name s.constants v b) at ∙ bound_is s v i one there

  -- ## They are told apart

  module _ (few : 1 + v.temporaries ≤ 2 ^ 64) (apart : BoundsAreTold v) where
    bound_named : (i : ℕ) (one : KeptBound) → slice_get v.bounds i ≡ Some one → IsBoundName (bound_name one)
    bound_named i one there = apart.kept_named one (in_at v.bounds i one there)

    number_fits : (i : ℕ) → nat_lt i v.temporaries ≡ true → suc i < 2 ^ 64
    number_fits i h = let below = ltb-true i v.temporaries h in omega (arith, few, below)

    pub reaches_told : AreTold IsUnitObject (names_of s.constants vs v b)
    reaches_told _ _ _ _ (of_variable j x i _ _ is at) (of_variable k y m _ _ also beside) same =
        let one : x ≡ y = variable_name-injective x y (sym (variable_called j x i is at) ∙ same ∙ variable_called k y m also beside) in
        (refl, at ∙ ap (λ z. b.function + place_or_none (place_of_variable v z)) one ∙ sym beside)
    reaches_told _ _ _ _ (of_variable j x i _ named is at) (of_result k type given beside) same =
        variable_no_made x FunctionResult named tt (sym (variable_called j x i is at) ∙ same ∙ result_called k type given beside)
    reaches_told _ _ _ _ (of_variable j x i _ named is at) (of_temporary k m below beside) same =
        variable_no_made x (NumberTemporary (suc m)) named (number_fits m below) (sym (variable_called j x i is at) ∙ same ∙ temporary_called k m below beside)
    reaches_told _ _ _ _ (of_variable j x i _ named is at) (of_bound k m one there beside) same =
        variable_no_bound x (bound_name one) named (bound_named m one there) (sym (variable_called j x i is at) ∙ same ∙ bound_called k m one there beside)
    reaches_told _ _ _ _ (of_variable j x i own _ is at) (of_parameter k y m dummy _ also beside) same =
        let one : x ≡ y = variable_name-injective x y (sym (variable_called j x i is at) ∙ same ∙ parameter_called k y m also beside) in
        other_class (facts.program.attribute x).class own (ap (λ z. (facts.program.attribute z).class) one ∙ dummy)
    reaches_told _ _ _ _ (of_result j type given at) (of_variable k y m _ named also beside) same =
        variable_no_made y FunctionResult named tt (sym (variable_called k y m also beside) ∙ sym same ∙ result_called j type given at)
    reaches_told _ _ _ _ (of_result j type given at) (of_result k _ _ beside) same = (refl, at ∙ sym beside)
    reaches_told _ _ _ _ (of_result j type given at) (of_temporary k m below beside) same = result_no_temporary (suc m) (sym (result_called j type given at) ∙ same ∙ temporary_called k m below beside)
    reaches_told _ _ _ _ (of_result j type given at) (of_bound k m one there beside) same =
        result_no_bound (bound_name one) (bound_named m one there) (sym (result_called j type given at) ∙ same ∙ bound_called k m one there beside)
    reaches_told _ _ _ _ (of_result j type given at) (of_parameter k y m _ named also beside) same =
        variable_no_made y FunctionResult named tt (sym (parameter_called k y m also beside) ∙ sym same ∙ result_called j type given at)
    reaches_told _ _ _ _ (of_temporary j i below at) (of_variable k y m _ named also beside) same =
        variable_no_made y (NumberTemporary (suc i)) named (number_fits i below) (sym (variable_called k y m also beside) ∙ sym same ∙ temporary_called j i below at)
    reaches_told _ _ _ _ (of_temporary j i below at) (of_result k type given beside) same = result_no_temporary (suc i) (sym (result_called k type given beside) ∙ sym same ∙ temporary_called j i below at)
    reaches_told _ _ _ _ (of_temporary j i below at) (of_temporary k m also beside) same =
        let numbers : suc i ≡ suc m = temporaries_told (suc i) (suc m) (number_fits i below) (number_fits m also) (sym (temporary_called j i below at) ∙ same ∙ temporary_called k m also beside) in
        (refl, omega (arith, at, beside, numbers))
    reaches_told _ _ _ _ (of_temporary j i below at) (of_bound k m one there beside) same =
        temporary_no_bound (bound_name one) (suc i) (bound_named m one there) (number_fits i below) (sym (temporary_called j i below at) ∙ same ∙ bound_called k m one there beside)
    reaches_told _ _ _ _ (of_temporary j i below at) (of_parameter k y m _ named also beside) same =
        variable_no_made y (NumberTemporary (suc i)) named (number_fits i below) (sym (parameter_called k y m also beside) ∙ sym same ∙ temporary_called j i below at)
    reaches_told _ _ _ _ (of_bound j i one there at) (of_variable k y m _ named also beside) same =
        variable_no_bound y (bound_name one) named (bound_named i one there) (sym (variable_called k y m also beside) ∙ sym same ∙ bound_called j i one there at)
    reaches_told _ _ _ _ (of_bound j i one there at) (of_result k type given beside) same =
        result_no_bound (bound_name one) (bound_named i one there) (sym (result_called k type given beside) ∙ sym same ∙ bound_called j i one there at)
    reaches_told _ _ _ _ (of_bound j i one there at) (of_temporary k m also beside) same =
        temporary_no_bound (bound_name one) (suc m) (bound_named i one there) (number_fits m also) (sym (temporary_called k m also beside) ∙ sym same ∙ bound_called j i one there at)
    reaches_told _ _ _ _ (of_bound j i one there at) (of_bound k m two also beside) same =
        let places : i ≡ m = bound_places v apart i m one two there also (sym (bound_called j i one there at) ∙ same ∙ bound_called k m two also beside) in
        (refl, omega (arith, at, beside, places))
    reaches_told _ _ _ _ (of_bound j i one there at) (of_parameter k y m _ named also beside) same =
        variable_no_bound y (bound_name one) named (bound_named i one there) (sym (parameter_called k y m also beside) ∙ sym same ∙ bound_called j i one there at)
    reaches_told _ _ _ _ (of_parameter j x i dummy _ is at) (of_variable k y m own _ also beside) same =
        let one : x ≡ y = variable_name-injective x y (sym (parameter_called j x i is at) ∙ same ∙ variable_called k y m also beside) in
        other_class (facts.program.attribute x).class (ap (λ z. (facts.program.attribute z).class) one ∙ own) dummy
    reaches_told _ _ _ _ (of_parameter j x i _ named is at) (of_result k type given beside) same =
        variable_no_made x FunctionResult named tt (sym (parameter_called j x i is at) ∙ same ∙ result_called k type given beside)
    reaches_told _ _ _ _ (of_parameter j x i _ named is at) (of_temporary k m below beside) same =
        variable_no_made x (NumberTemporary (suc m)) named (number_fits m below) (sym (parameter_called j x i is at) ∙ same ∙ temporary_called k m below beside)
    reaches_told _ _ _ _ (of_parameter j x i _ named is at) (of_bound k m one there beside) same =
        variable_no_bound x (bound_name one) named (bound_named m one there) (sym (parameter_called j x i is at) ∙ same ∙ bound_called k m one there beside)
    reaches_told _ _ _ _ (of_parameter j x i _ _ is at) (of_parameter k y m _ _ also beside) same =
        let one : x ≡ y = variable_name-injective x y (sym (parameter_called j x i is at) ∙ same ∙ parameter_called k y m also beside) in
        (refl, at ∙ ap (parameter_object v b) one ∙ sym beside)

  -- ## What is written for names

  -- variables and dummies of numbers have names of letters and digits
  pub record HaveNames : Type 0 where
    pub stored : (x : Bytes) → (facts.program.attribute x).class ≡ class.Stored → is_numeric (facts.program.attribute x).basic ≡ true → is_name x ≡ true
    pub dummies : (x : Bytes) → (facts.program.attribute x).class ≡ class.Dummy → is_numeric (facts.program.attribute x).basic ≡ true → is_name x ≡ true

  module _ (listed : NamesAreListed v facts) (named : HaveNames) (kind : ℕ → ℕ → Option Basic) where
    abbrev w : Writing
    w = writing_of s.constants v b facts kind

    scalar_by : (x : Bytes) (k : Class) → (facts.program.attribute x).class ≡ k → is_variable k ≡ true → is_numeric (facts.program.attribute x).basic ≡ true → NamesObjects IsUnitObject (number_term (address_in v b x k))
    unfolding is_variable address_in
    scalar_by x class.Stored is variable numeric = let p = listed.stored x is numeric in of_variable _ x p.place is (named.stored x is numeric) p.placed refl
    scalar_by x class.Dummy is variable numeric = let p = listed.dummies x is numeric in of_parameter _ x p.place is (named.dummies x is numeric) p.placed refl
    scalar_by x class.Result is variable numeric = let r = (listed.results x is numeric).1 in of_result _ r.0 r.1 refl
    scalar_by x other is variable numeric = absurd (cc)

    element_by : (x : Bytes) (k : Class) → (facts.program.attribute x).class ≡ k → is_variable k ≡ true → is_numeric (facts.program.attribute x).basic ≡ true → has_shape (facts.program.attribute x).dimensions ≡ true
        → (index : Term) → NamesObjects IsUnitObject (element_term (address_in v b x k) index)
    unfolding is_variable address_in
    element_by x class.Stored is variable numeric some index = let p = listed.stored x is numeric in of_variable _ x p.place is (named.stored x is numeric) p.placed refl
    element_by x class.Dummy is variable numeric some index = let p = listed.dummies x is numeric in of_parameter _ x p.place is (named.dummies x is numeric) p.placed refl
    element_by x class.Result is variable numeric some index = absurd (let no : true ≡ false = sym some ∙ (listed.results x is numeric).0 in cc)
    element_by x other is variable numeric some index = absurd (cc)

    pub writes_objects : WritesObjects IsUnitObject w
    unfolding is_scalar is_array has_number
    writes_objects = record {
      scalars = λ x is.
          let number = left_true (has_number w x) (not (has_shape (facts.program.attribute x).dimensions)) is in
          scalar_by x (facts.program.attribute x).class refl (left_true (is_variable (facts.program.attribute x).class) (is_numeric (facts.program.attribute x).basic) number)
          (right_true (is_variable (facts.program.attribute x).class) (is_numeric (facts.program.attribute x).basic) number);
      arrays = λ x is index.
          let number = left_true (has_number w x) (has_shape (facts.program.attribute x).dimensions) is in
          element_by x (facts.program.attribute x).class refl (left_true (is_variable (facts.program.attribute x).class) (is_numeric (facts.program.attribute x).basic) number)
          (right_true (is_variable (facts.program.attribute x).class) (is_numeric (facts.program.attribute x).basic) number) (right_true (has_number w x) (has_shape (facts.program.attribute x).dimensions) is) index;
      temporaries = λ k below. of_temporary _ k below refl;
    }
