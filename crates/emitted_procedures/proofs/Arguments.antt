-- The C expressions for actual arguments have the values that are passed for them.
use Rattle.std.specs.Prelude.{◌≡◌, ℕ, ℤ, pos, Bool, true, false, List, [], ◌∷◌, map, Option, Some, None, option_map, Ok, slice_get}
use Rattle.std.proofs.Common.{refl, sym, ap, ◌∙◌, subst}
use Rattle.procedure_emission.specs.f_tree.declared.names.Basic.{Basic}
use Rattle.procedure_emission.specs.f_tree.declared.names.Basic.TheVariants as basic
use Rattle.procedure_emission.specs.f_tree.declared.names.Class.{Class}
use Rattle.procedure_emission.specs.f_tree.declared.names.Class.TheVariants as class
use Rattle.procedure_emission.specs.f_tree.Values.{Bytes, Spot, Datum, IsInt, IsLog, IsText, IsSpot, IsProc, IsLabel, Nothing, NoMeaning, Gives, Fails, given_that}
use Rattle.procedure_emission.specs.f_tree.Store.{Store, Whole, Truth}
use Rattle.procedure_emission.specs.f_tree.Facts.{Frame}
use Rattle.procedure_emission.specs.f_tree.Valuing.{stored_at, if_bound, if_there, named_as, whole}
use Rattle.procedure_emission.specs.f_tree.World.{Procedure}
use Rattle.procedure_emission.specs.l_core.Pures.{Pure, Constant, Temporary, Load, Name, AllOf, ElementOf, FirstOf, Substring, Concatenated, Prefixed, Operated, Applied, Chosen, Pures, NoPure, AndPure, Temporaries, if_kept, meant, all_meant}
use Rattle.procedure_emission.specs.c_tree.declared.types.CastType.TheVariants as to
use Rattle.procedure_emission.specs.c_tree.declared.types.FunctionType.TheVariants as pointer
use Rattle.procedure_emission.specs.c_tree.declared.outcome.CValue.{CValue}
use Rattle.procedure_emission.specs.c_tree.declared.outcome.CValue.TheVariants.{Pointer, Function}
use Rattle.procedure_emission.specs.c_tree.Faults.{after}
use Rattle.procedure_emission.specs.c_tree.Access.{Access, ToNumber, ToPointer, ToFunction}
use Rattle.procedure_emission.specs.c_tree.Objects.{Object, bytes_of_number, read_object, fetched}
use Rattle.procedure_emission.specs.c_tree.Terms as c_term
use Rattle.procedure_emission.specs.c_tree.Terms.{Term}
use Rattle.procedure_emission.specs.c_tree.Values as c_values
use Rattle.procedure_emission.specs.c_tree.Values.{value_of, values_of}
use Rattle.procedure_emission.proofs.c_laws.ValueLaws.{values_of-cons, address_of_variable}
use Rattle.procedure_emission.specs.faithful.StorageImage.{number_for}
use Rattle.procedure_emission.specs.c_image.World.{World}
use Rattle.procedure_emission.specs.c_image.Standing.{Stands}
use Rattle.procedure_emission.specs.c_image.Held.{whole_for, Holds}
use Rattle.procedure_emission.specs.c_image.Addresses.{Address, Alone, Inside, InTexts, Through, access_to, pointer_object, Reaches, IsSound}
use Rattle.procedure_emission.specs.c_image.Passing.{Argument}
use Rattle.procedure_emission.specs.c_image_laws.Meanings.{Points}
use Rattle.procedure_emission.proofs.c_image_laws.AddressValues.{Array-points, Address-points, Parameter-points}
use Rattle.procedure_emission.proofs.c_image_laws.PlaceValues.{reached_object, number_place}
use Rattle.procedure_emission.specs.c_emit.Numbers.{Writing, is_variable, is_numeric, has_number, has_shape, one_more, if_number, place_term}
use Rattle.procedure_emission.specs.c_emit.Calls.{address_of, if_held, constant_held, held_term}
use Rattle.procedure_emission.specs.c_emit_laws.EmittedNumbers.{IsKnown}
use Rattle.procedure_emission.proofs.c_emit_laws.Choices.{got, mapped_by, some_same}
use Rattle.procedure_emission.proofs.c_emit_laws.NumberLaws.{places_are_emitted}
use Rattle.procedure_emission.specs.emitted_texts.SecondLayer.{Surroundings}
use Rattle.procedure_emission.specs.CallLayer.{function_object}
use Rattle.procedure_emission.specs.Reading.{IsPlain, plain_number, plain_truth, plain_nothing, number_kept, numbers_kept}
use Rattle.procedure_emission.specs.ProcedureItems.{pointer_term, procedure_argument, routine_term, name_argument, argument_term, argument_terms}
use Rattle.emitted_procedures.proofs.KeptNumbers.{right_true}
use Rattle.emitted_procedures.proofs.Passing.{IsFar, IsGiven, integer_given, truth_given, place_given, nothing_given, procedure_given, AreGiven, none_given, one_given, label_given, data_of}
use Rattle.emitted_procedures.proofs.ReadNumbers.{place_read}

given_same : {A : Type 0} (a b : A) → Gives a ≡ Gives b → a ≡ b
given_same a b h = cc

-- an argument that is valued
pub record IsValued (s : Surroundings) (number : ℕ) (ν : World) (objects : List Object) (term : Term) (d : Datum) : Type 0 where
  pub argument : Argument
  pub datum_is : argument.datum ≡ d
  pub value : CValue
  pub valued : value_of objects term ≡ Ok value
  pub given : IsGiven s number ν argument value

pub record AreValued (s : Surroundings) (number : ℕ) (ν : World) (objects : List Object) (terms : List Term) (ds : List Datum) : Type 0 where
  pub arguments : List Argument
  pub data_are : data_of arguments ≡ ds
  pub values : List CValue
  pub valued : values_of objects terms ≡ Ok values
  pub given : AreGiven s number ν arguments values

pointer_value : (objects : List Object) (term : Term) (object offset : ℕ) (access : Access) → Points objects term object offset access → value_of objects term ≡ Ok (Pointer object offset)
pointer_value objects term object offset access points = ap (λ found. after found λ typed. Ok typed.value) points

routine_value : (objects : List Object) (function : ℕ) → value_of objects (procedure_argument (c_term.Routine function)) ≡ Ok (Function function)
unfolding c_values.seen
routine_value objects function = refl

-- the function that a parameter holds
pub function_value : (objects : List Object) (parameter function : ℕ) → slice_get objects parameter ≡ Some (function_object function) → value_of objects (c_term.Variable parameter ToFunction) ≡ Ok (Function function)
unfolding c_values.seen fetched
function_value objects parameter function there = ap (λ found. after (read_object ToFunction 0 found) λ typed. Ok typed.value) there

function_passed : (objects : List Object) (parameter function : ℕ) → slice_get objects parameter ≡ Some (function_object function) → value_of objects (procedure_argument (c_term.Variable parameter ToFunction)) ≡ Ok (Function function)
unfolding c_values.seen fetched
function_passed objects parameter function there = ap (λ found. after (after (read_object ToFunction 0 found) (c_values.cast (to.Function pointer.Unknown))) λ typed. Ok typed.value) there

numeric_access : (b : Basic) → is_numeric b ≡ true → access_to b ≡ ToNumber
unfolding is_numeric
numeric_access basic.Integer h = refl
numeric_access basic.Logical h = refl
numeric_access basic.Character h = absurd (cc)
numeric_access basic.Untyped h = absurd (cc)

-- a dummy by its parameter
parameter_valued : (μ : World) (store : Store) (objects : List Object) (p : Spot) (parameter object : ℕ) → Stands μ store objects → access_to p.basic ≡ ToNumber → Reaches μ p (Through parameter) → μ.homes p.sequence ≡ Some object
    → value_of objects (c_term.Variable parameter (ToPointer ToNumber)) ≡ Ok (Pointer object p.first)
parameter_valued μ store objects p parameter object stands numeric reaches at =
    let same : reaches.0 ≡ object = some_same reaches.0 object (sym reaches.1 ∙ at) in
    let points = Parameter-points objects parameter reaches.0 p.first p.basic (stands.held parameter (pointer_object (access_to p.basic) (Pointer reaches.0 p.first)) reaches.2) in
    pointer_value objects (c_term.Variable parameter (ToPointer ToNumber)) object p.first ToNumber
    (subst (λ k. Points objects (c_term.Variable parameter (ToPointer ToNumber)) k p.first ToNumber) same
    (subst (λ access. Points objects (c_term.Variable parameter (ToPointer access)) reaches.0 p.first access) numeric points))

-- a variable or an array of numbers by the pointer to it
pointer_valued : (μ : World) (store : Store) (objects : List Object) (p : Spot) (array : Bool) (address : Address) (object : ℕ) → Stands μ store objects → IsSound μ p → access_to p.basic ≡ ToNumber → Reaches μ p address
    → μ.homes p.sequence ≡ Some object → value_of objects (pointer_term array address) ≡ Ok (Pointer object p.first)
pointer_valued μ store objects p true (Alone own) object stands sound numeric reaches at =
    let same : own ≡ object = some_same own object (sym reaches.0 ∙ at) in
    pointer_value objects (c_term.Array own ToNumber) own 0 ToNumber (Array-points objects own ToNumber) ∙ (λ i. Ok (Pointer (same i) (sym reaches.1 i)))
pointer_valued μ store objects p false (Alone own) object stands sound numeric reaches at =
    pointer_value objects _ object p.first ToNumber (Address-points objects _ object p.first ToNumber (number_place μ store objects p (Alone own) object stands sound numeric reaches at))
pointer_valued μ store objects p true (Inside own before) object stands sound numeric reaches at =
    pointer_value objects _ object p.first ToNumber (Address-points objects _ object p.first ToNumber (number_place μ store objects p (Inside own before) object stands sound numeric reaches at))
pointer_valued μ store objects p false (Inside own before) object stands sound numeric reaches at =
    pointer_value objects _ object p.first ToNumber (Address-points objects _ object p.first ToNumber (number_place μ store objects p (Inside own before) object stands sound numeric reaches at))
pointer_valued μ store objects p true (InTexts own before) object stands sound numeric reaches at =
    pointer_value objects _ object p.first ToNumber (Address-points objects _ object p.first ToNumber (number_place μ store objects p (InTexts own before) object stands sound numeric reaches at))
pointer_valued μ store objects p false (InTexts own before) object stands sound numeric reaches at =
    pointer_value objects _ object p.first ToNumber (Address-points objects _ object p.first ToNumber (number_place μ store objects p (InTexts own before) object stands sound numeric reaches at))
pointer_valued μ store objects p true (Through parameter) object stands sound numeric reaches at = parameter_valued μ store objects p parameter object stands numeric reaches at
pointer_valued μ store objects p false (Through parameter) object stands sound numeric reaches at =
    parameter_valued μ store objects p parameter object stands numeric reaches at

record AreMore (x : Option Term) (xs : Option (List Term)) (terms : List Term) : Type 0 where
  first : Term
  later : List Term
  first_is : x ≡ Some first
  later_is : xs ≡ Some later
  is : first ∷ later ≡ terms

more_by : (x : Option Term) (xs : Option (List Term)) (terms : List Term) → one_more x xs ≡ Some terms → AreMore x xs terms
unfolding one_more
more_by (Some a) (Some later) terms h = record { first = a; later = later; first_is = refl; later_is = refl; is = some_same (a ∷ later) terms h }
more_by (Some a) None terms h = absurd (cc)
more_by None xs terms h = absurd (cc)

module _ (s : Surroundings) (number : ℕ) (ν : World) (store : Store) (objects : List Object) (w : Writing) (frame : Frame) (kept : Temporaries) (plain : (k : ℕ) (d : Datum) → kept k ≡ Some d → IsPlain d) (stands : Stands ν store objects) (known : IsKnown ν w frame (numbers_kept kept))
    (constants : (z : ℤ) → w.library.has z ≡ true → Holds (ν.frozen (w.library.constant z)) (IsInt z)) (constants_far : (z : ℤ) → w.library.has z ≡ true → IsFar s number (w.library.constant z))
    (temporaries_far : (k : ℕ) → w.is_number k ≡ true → IsFar s number (w.naming.temporary k))
    (procedures : (x : Bytes) (d : Datum) (parameter : ℕ) → (w.facts.program.attribute x).class ≡ class.DummyProcedure → frame.bound x ≡ Some d → w.naming.address x ≡ Through parameter →
    (y : Bytes) × (function : ℕ) × (d ≡ IsProc y) × (s.numbers (Procedure y) ≡ Some function) × (ν.frozen parameter ≡ Some (function_object function))) where
  -- ## Values

  variable_valued : (object : ℕ) (term : Term) → address_of (c_term.Variable object ToNumber) ≡ term → value_of objects term ≡ Ok (Pointer object 0)
  variable_valued object term is = ap (value_of objects) (sym is) ∙ address_of_variable objects object ToNumber

  -- the object of a constant, where there is one
  record HasConstant (z : ℤ) (term : Term) : Type 0 where
    has : w.library.has z ≡ true
    is : address_of (c_term.Variable (w.library.constant z) ToNumber) ≡ term

  constant_by : (z : ℤ) (holds : Bool) (term : Term) → w.library.has z ≡ holds → option_map address_of (if_number holds (Some (c_term.Variable (w.library.constant z) ToNumber))) ≡ Some term → HasConstant z term
  unfolding if_number
  constant_by z true term has h = record { has = has; is = some_same (address_of (c_term.Variable (w.library.constant z) ToNumber)) term h }
  constant_by z false term has h = absurd (cc)

  integer_valued : (z : ℤ) (d : Datum) (term : Term) → IsInt z ≡ d → HasConstant z term → IsValued s number ν objects term d
  integer_valued z d term same has = record {
    argument = record { datum = IsInt z; object = w.library.constant z };
    datum_is = same;
    value = Pointer (w.library.constant z) 0;
    valued = variable_valued (w.library.constant z) term has.is;
    given = integer_given z (w.library.constant z) (constants z has.has) (constants_far z has.has);
  }

  truth_valued : (b : Bool) (z : ℤ) (d : Datum) (term : Term) → IsLog b ≡ d → number_for (Truth b) ≡ z → HasConstant z term → IsValued s number ν objects term d
  truth_valued b z d term same is has = record {
    argument = record { datum = IsLog b; object = w.library.constant z };
    datum_is = same;
    value = Pointer (w.library.constant z) 0;
    valued = variable_valued (w.library.constant z) term has.is;
    given = truth_given b (w.library.constant z) (truth_held b z (ν.frozen (w.library.constant z)) is (constants z has.has)) (constants_far z has.has);
  }
    where
      truth_held : (b : Bool) (z : ℤ) (object : Option Object) → number_for (Truth b) ≡ z → Holds object (IsInt z) → Holds object (IsLog b)
      truth_held b z object is holds = record { bytes = holds.bytes; is = holds.is; begins = holds.begins.1 ∙ ap (λ n. map Some (bytes_of_number n)) (sym is) }

  constant_valued : (e d : Datum) (term : Term) → e ≡ d → option_map address_of (constant_held w e) ≡ Some term → IsValued s number ν objects term d
  unfolding constant_held if_held
  constant_valued (IsInt z) d term same h = integer_valued z d term same (constant_by z (w.library.has z) term refl h)
  constant_valued (IsLog true) d term same h = truth_valued true (pos 1) d term same refl (constant_by (pos 1) (w.library.has (pos 1)) term refl h)
  constant_valued (IsLog false) d term same h = truth_valued false (pos 0) d term same refl (constant_by (pos 0) (w.library.has (pos 0)) term refl h)
  constant_valued (IsText cs) d term same h = absurd (cc)
  constant_valued (IsSpot p) d term same h = absurd (cc)
  constant_valued (IsProc x) d term same h = absurd (cc)
  constant_valued (IsLabel l) d term same h = absurd (cc)
  constant_valued Nothing d term same h = absurd (cc)

  kept_is : (found : Option Datum) (d : Datum) → if_kept found ≡ Gives d → found ≡ Some d
  unfolding if_kept
  kept_is (Some e) d h = ap Some (given_same e d h)
  kept_is None d h = absurd (cc)

  held_valued : (object : ℕ) (d : Datum) (whole : Whole) (term : Term) → whole_for d ≡ Some whole → Holds (ν.frozen object) d → IsFar s number object → address_of (c_term.Variable object ToNumber) ≡ term → IsValued s number ν objects term d
  held_valued object (IsInt z) whole term is holds far term_is = record {
    argument = record { datum = IsInt z; object = object };
    datum_is = refl;
    value = Pointer object 0;
    valued = variable_valued object term term_is;
    given = integer_given z object holds far;
  }
  held_valued object (IsLog b) whole term is holds far term_is = record {
    argument = record { datum = IsLog b; object = object };
    datum_is = refl;
    value = Pointer object 0;
    valued = variable_valued object term term_is;
    given = truth_given b object holds far;
  }
  held_valued object _ whole term is holds far term_is = absurd (cc)

  number_valued : (k : ℕ) (holds : Bool) (d : Datum) (term : Term) → w.is_number k ≡ holds → numbers_kept kept k ≡ Some d → option_map address_of (if_number holds (Some (c_term.Variable (w.naming.temporary k) ToNumber))) ≡ Some term
      → IsValued s number ν objects term d
  unfolding if_number
  number_valued k true d term numeric has h =
      let value = known.numbers k d has numeric in
      held_valued (w.naming.temporary k) d value.0 term value.1 (known.knows.kept k d has) (temporaries_far k numeric) (some_same (address_of (c_term.Variable (w.naming.temporary k) ToNumber)) term h)
  number_valued k false d term numeric has h = absurd (cc)

  nothing_valued : (k : ℕ) (holds : Bool) (term : Term) → option_map address_of (if_number holds (Some (c_term.Variable (w.naming.temporary k) ToNumber))) ≡ Some term → IsValued s number ν objects term Nothing
  unfolding if_number
  nothing_valued k true term h = record {
    argument = record { datum = Nothing; object = w.naming.temporary k };
    datum_is = refl;
    value = Pointer (w.naming.temporary k) 0;
    valued = variable_valued (w.naming.temporary k) term (some_same (address_of (c_term.Variable (w.naming.temporary k) ToNumber)) term h);
    given = nothing_given (w.naming.temporary k);
  }
  nothing_valued k false term h = absurd (cc)

  temporary_valued : (k : ℕ) (d : Datum) (term : Term) → IsPlain d → kept k ≡ Some d → option_map address_of (if_number (w.is_number k) (Some (c_term.Variable (w.naming.temporary k) ToNumber))) ≡ Some term
      → IsValued s number ν objects term d
  unfolding number_kept
  temporary_valued k _ term (plain_number z) has h = number_valued k (w.is_number k) (IsInt z) term refl (ap number_kept has) h
  temporary_valued k _ term (plain_truth b) has h = number_valued k (w.is_number k) (IsLog b) term refl (ap number_kept has) h
  temporary_valued k _ term plain_nothing has h = nothing_valued k (w.is_number k) term h

  -- ## Places and procedures

  spot_valued : (x : Bytes) (d : Datum) (term : Term) → has_number w x ≡ true → whole w.facts frame x ≡ Gives d → pointer_term (has_shape (w.facts.program.attribute x).dimensions) (w.naming.address x) ≡ term → IsValued s number ν objects term d
  unfolding has_number
  spot_valued x d term numeric gives is =
      let spot = known.spots x d numeric gives in
      let p = spot.0 in
      let gives_spot : whole w.facts frame x ≡ Gives (IsSpot p) = gives ∙ ap Gives spot.1 in
      let sound = known.knows.sound x p gives_spot in
      let reaches = known.knows.reaches x p gives_spot in
      let at = reached_object ν p (w.naming.address x) reaches in
      let number_type : access_to p.basic ≡ ToNumber =
      ap access_to (known.types x p gives_spot) ∙ numeric_access (w.facts.program.attribute x).basic (right_true (is_variable (w.facts.program.attribute x).class) (is_numeric (w.facts.program.attribute x).basic) numeric) in
      record {
        argument = record { datum = IsSpot p; object = at.0 };
        datum_is = sym spot.1;
        value = Pointer at.0 p.first;
        valued = ap (value_of objects) (sym is) ∙ pointer_valued ν store objects p (has_shape (w.facts.program.attribute x).dimensions) (w.naming.address x) at.0 stands sound number_type reaches at.1;
        given = place_given p at.0 sound number_type at.1;
      }

  -- what a name of a class stands for
  whole_of : (x : Bytes) (k : Class) → (w.facts.program.attribute x).class ≡ k → whole w.facts frame x ≡ (elim k [
    | class.Stored ↦ stored_at (w.facts.program.attribute x) (w.facts.program.attribute x).width (w.facts.home x)
    | class.Dummy ↦ if_bound (frame.bound x)
    | class.DummyProcedure ↦ if_bound (frame.bound x)
    | class.Result ↦ if_there (w.facts.program.attribute x).basic frame.result
    | class.Procedure ↦ Gives (IsProc x)
    | class.Intrinsic ↦ Gives (IsProc x)
    | _ ↦ Fails NoMeaning
  ])
  unfolding whole named_as
  whole_of x k is = ap (λ c. elim c [
    | class.Stored ↦ stored_at (w.facts.program.attribute x) (w.facts.program.attribute x).width (w.facts.home x)
    | class.Dummy ↦ if_bound (frame.bound x)
    | class.DummyProcedure ↦ if_bound (frame.bound x)
    | class.Result ↦ if_there (w.facts.program.attribute x).basic frame.result
    | class.Procedure ↦ Gives (IsProc x)
    | class.Intrinsic ↦ Gives (IsProc x)
    | _ ↦ Fails NoMeaning
  ]) is

  bound_is : (r : Option Datum) (d : Datum) → if_bound r ≡ Gives d → r ≡ Some d
  unfolding if_bound
  bound_is (Some e) d h = ap Some (given_same e d h)
  bound_is None d h = absurd (cc)

  routine_valued : (x : Bytes) (k : Class) (address : Address) (d : Datum) (term : Term) → (w.facts.program.attribute x).class ≡ k → w.naming.address x ≡ address → whole w.facts frame x ≡ Gives d → routine_term s.numbers x k address ≡ Some term
      → IsValued s number ν objects term d
  unfolding routine_term
  routine_valued x class.Procedure address d term is at gives h =
      let m = mapped_by (λ number. procedure_argument (c_term.Routine number)) (s.numbers (Procedure x)) term h in
      record {
        argument = record { datum = IsProc x; object = 0 };
        datum_is = given_same (IsProc x) d (sym (whole_of x class.Procedure is) ∙ gives);
        value = Function m.one;
        valued = ap (value_of objects) (sym m.is) ∙ routine_value objects m.one;
        given = procedure_given x m.one m.one_is;
      }
  routine_valued x class.DummyProcedure (Through parameter) d term is at gives h =
      let bound = bound_is (frame.bound x) d (sym (whole_of x class.DummyProcedure is) ∙ gives) in
      let held = procedures x d parameter is bound at in
      record {
        argument = record { datum = IsProc held.0; object = 0 };
        datum_is = sym held.2;
        value = Function held.1;
        valued = ap (value_of objects) (sym (some_same (procedure_argument (c_term.Variable parameter ToFunction)) term h)) ∙ function_passed objects parameter held.1 (stands.held parameter (function_object held.1) held.4);
        given = procedure_given held.0 held.1 held.3;
      }
  routine_valued x class.DummyProcedure (Alone object) d term is at gives h = absurd (cc)
  routine_valued x class.DummyProcedure (Inside object before) d term is at gives h = absurd (cc)
  routine_valued x class.DummyProcedure (InTexts object before) d term is at gives h = absurd (cc)
  routine_valued x _ address d term is at gives h = absurd (cc)

  name_valued : (x : Bytes) (numeric : Bool) (d : Datum) (term : Term) → has_number w x ≡ numeric → whole w.facts frame x ≡ Gives d → name_argument s.numbers w x numeric ≡ Some term → IsValued s number ν objects term d
  unfolding name_argument
  name_valued x true d term numeric gives h = spot_valued x d term numeric gives (some_same (pointer_term (has_shape (w.facts.program.attribute x).dimensions) (w.naming.address x)) term h)
  name_valued x false d term numeric gives h = routine_valued x (w.facts.program.attribute x).class (w.naming.address x) d term refl refl gives h

  element_valued : (x : Bytes) (ps : Pures) (d : Datum) (term : Term) → meant w.facts frame kept store (ElementOf x ps) ≡ Gives d → option_map address_of (place_term w (ElementOf x ps)) ≡ Some term → IsValued s number ν objects term d
  element_valued x ps d term gives h =
      let m = mapped_by address_of (place_term w (ElementOf x ps)) term h in
      let at = places_are_emitted ν store objects w frame (numbers_kept kept) (ElementOf x ps) m.one d stands known m.one_is (place_read w frame kept store plain (ElementOf x ps) m.one d m.one_is gives) in
      record {
        argument = record { datum = IsSpot at.place; object = at.object };
        datum_is = sym at.is;
        value = Pointer at.object at.place.first;
        valued = ap (value_of objects) (sym m.is) ∙ pointer_value objects (address_of m.one) at.object at.place.first ToNumber (Address-points objects m.one at.object at.place.first ToNumber at.named);
        given = place_given at.place at.object at.sound at.numeric at.at;
      }

  -- ## All

  argument_valued : (p : Pure) (d : Datum) (term : Term) → meant w.facts frame kept store p ≡ Gives d → argument_term s.numbers w p ≡ Some term → IsValued s number ν objects term d
  unfolding argument_term held_term meant
  argument_valued (Constant e) d term gives h = constant_valued e d term (given_same e d gives) h
  argument_valued (Temporary k) d term gives h = let has = kept_is (kept k) d gives in temporary_valued k d term (plain k d has) has h
  argument_valued (Name x) d term gives h = name_valued x (has_number w x) d term refl gives h
  argument_valued (ElementOf x ps) d term gives h = element_valued x ps d term gives h
  argument_valued (Load p) d term gives h = absurd (cc)
  argument_valued (AllOf x) d term gives h = absurd (cc)
  argument_valued (FirstOf p) d term gives h = absurd (cc)
  argument_valued (Substring x p first last) d term gives h = absurd (cc)
  argument_valued (Concatenated ps) d term gives h = absurd (cc)
  argument_valued (Prefixed op p) d term gives h = absurd (cc)
  argument_valued (Operated op p q) d term gives h = absurd (cc)
  argument_valued (Applied function ps) d term gives h = absurd (cc)
  argument_valued (Chosen p q r) d term gives h = absurd (cc)

  argument_more : (p : Pure) (ps : Pures) (ds : List Datum) (terms : List Term) → all_meant w.facts frame kept store (AndPure p ps) ≡ Gives ds → one_more (argument_term s.numbers w p) (argument_terms s.numbers w ps) ≡ Some terms
      → ((later : List Datum) (ts : List Term) → all_meant w.facts frame kept store ps ≡ Gives later → argument_terms s.numbers w ps ≡ Some ts → AreValued s number ν objects ts later) → AreValued s number ν objects terms ds
  unfolding all_meant
  argument_more p ps ds terms gives h valued_later =
      let m = more_by (argument_term s.numbers w p) (argument_terms s.numbers w ps) terms h in
      let g = got (meant w.facts frame kept store p) _ ds gives in
      let rest = got (all_meant w.facts frame kept store ps) (λ later. Gives (g.value ∷ later)) ds g.gives in
      let one = argument_valued p g.value m.first g.is m.first_is in
      let more = valued_later rest.value m.later rest.is m.later_is in
      subst (λ ts. AreValued s number ν objects ts ds) m.is (record {
        arguments = one.argument ∷ more.arguments;
        data_are = (λ i. one.datum_is i ∷ more.data_are i) ∙ given_same (g.value ∷ rest.value) ds rest.gives;
        values = one.value ∷ more.values;
        valued = values_of-cons objects m.first m.later one.value more.values one.valued more.valued;
        given = one_given one.argument one.value more.arguments more.values one.given more.given;
      })

  pub arguments_valued : (ps : Pures) (ds : List Datum) (terms : List Term) → all_meant w.facts frame kept store ps ≡ Gives ds → argument_terms s.numbers w ps ≡ Some terms → AreValued s number ν objects terms ds
  unfolding argument_terms all_meant meant given_that
  arguments_valued NoPure ds terms gives h =
      let none : [] ≡ ds = given_same [] ds gives in
      let nothing : [] ≡ terms = some_same [] terms h in
      subst (λ ts. AreValued s number ν objects ts ds) nothing (record { arguments = []; data_are = none; values = []; valued = refl; given = none_given })
  arguments_valued (AndPure (Constant (IsLabel label)) ps) ds terms gives h =
      let rest = got (all_meant w.facts frame kept store ps) (λ later. Gives (IsLabel label ∷ later)) ds gives in
      let more = arguments_valued ps rest.value terms rest.is h in
      record {
        arguments = record { datum = IsLabel label; object = 0 } ∷ more.arguments;
        data_are = ap (λ later. IsLabel label ∷ later) more.data_are ∙ given_same (IsLabel label ∷ rest.value) ds rest.gives;
        values = more.values;
        valued = more.valued;
        given = label_given label more.arguments more.values more.given;
      }
  arguments_valued (AndPure p ps) ds terms gives h = argument_more p ps ds terms gives h (λ later ts gives' h'. arguments_valued ps later ts gives' h')
