-- What the dummy arguments of a procedure are, where its arguments are passed alike.
use Rattle.std.specs.Prelude.{◌≡◌, ℕ, suc, ◌+◌, nat_le, Bool, true, false, ◌&&◌, ◌||◌, List, [], ◌∷◌, ◌++◌, length, bytes_eq, Some, None, slice_get, if◌then◌else◌}
use Rattle.std.proofs.Common.{refl, sym, ap, ◌∙◌, subst, arith}
use Rattle.std.proofs.lemmas.Slice.Eq.{bytes_eq-Decides}
use Rattle.procedure_emission.specs.f_tree.declared.names.Basic.{Basic}
use Rattle.procedure_emission.specs.f_tree.declared.names.Basic.TheVariants.{Integer, Logical, Character, Untyped}
use Rattle.procedure_emission.specs.f_tree.declared.names.Class.TheVariants as class
use Rattle.procedure_emission.specs.f_tree.Values.{Bytes, Spot, Datum, IsSpot, IsProc, IsLabel, Nothing, Disagreement, Gives, Fails}
use Rattle.procedure_emission.specs.f_tree.Facts.{Attribute, Formal, Named, Alternate, ProgramUnit}
use Rattle.procedure_emission.specs.f_tree.World.{Procedure}
use Rattle.procedure_emission.specs.f_tree.Association.{Bindings, value_for, length_for, length_of, same_basic, is_array_dummy, bound_as, agreed, bind_all}
use Rattle.procedure_emission.specs.l_core.Steps.{Text}
use Rattle.procedure_emission.specs.c_tree.declared.outcome.CValue.{CValue}
use Rattle.procedure_emission.specs.c_tree.declared.outcome.CValue.TheVariants.{Pointer, Function}
use Rattle.procedure_emission.specs.c_tree.declared.types.ParameterType.{ParameterType}
use Rattle.procedure_emission.specs.c_tree.declared.types.ParameterType.TheVariants as parameter
use Rattle.procedure_emission.specs.c_tree.Steps.{fits, all_fit}
use Rattle.procedure_emission.specs.c_image.World.{World}
use Rattle.procedure_emission.specs.c_image.Addresses.{HasShape, IsSound}
use Rattle.procedure_emission.specs.c_emit.Numbers.{is_numeric}
use Rattle.procedure_emission.proofs.c_emit_laws.Choices.{got, some_same}
use Rattle.procedure_emission.specs.emitted_texts.SecondLayer.{Surroundings, Emission, length_of_text, lengths_of}
use Rattle.procedure_emission.specs.CallLayer.{ArePassed, none_passed, place_passed, procedure_passed, label_passed, nothing_passed}
use Rattle.procedure_emission.specs.DummyBounds.{dummies_named}
use Rattle.procedure_emission.specs.EmittedUnits.{is_number_pointer, IsParameter, is_function_pointer, IsProcedureParameter, AreParameters, no_parameters, named, named_procedure, alternate}

given_same : {A : Type 0} (a b : A) → Gives a ≡ Gives b → a ≡ b
given_same a b h = cc

-- ## One dummy

same_type : (a b : Basic) → same_basic a b ≡ true → b ≡ a
unfolding same_basic
same_type Integer Integer h = refl
same_type Logical Logical h = refl
same_type Character Character h = refl
same_type _ _ h = absurd (cc)

-- a dummy of numbers is the place that was passed
record IsAgreed (a : Attribute) (p : Spot) (d : Datum) : Type 0 where
  is : d ≡ IsSpot (record p { width = 4 })
  basic : p.basic ≡ a.basic

agreed_by : (a : Attribute) (p : Spot) (d : Datum) → a.class ≡ class.Dummy → a.width ≡ Some 4 → agreed a (IsSpot p) ≡ Gives d → IsAgreed a p d
unfolding agreed bound_as
agreed_by a p d dummy width h = by (same_basic a.basic p.basic) refl (is_array_dummy a || nat_le 4 p.width)
    ((λ i. elim (sym dummy i) [ class.Dummy ↦ if same_basic a.basic p.basic then bound_as a (sym width i) p else Fails Disagreement | _ ↦ Fails Disagreement ]) ∙ h)
  where
    by : (same : Bool) → same_basic a.basic p.basic ≡ same → (wide : Bool) → (if same then (if wide then Gives (IsSpot (record p { width = 4 })) else Fails Disagreement) else Fails Disagreement) ≡ Gives d → IsAgreed a p d
    by true same true g = record { is = sym (given_same (IsSpot (record p { width = 4 })) d g); basic = same_type a.basic p.basic same }
    by true same false g = absurd (cc)
    by false same wide g = absurd (cc)

-- neither a procedure nor a label is passed to it
no_procedure : {A : Type 0} (a : Attribute) (x : Bytes) (d : Datum) → a.class ≡ class.Dummy → agreed a (IsProc x) ≡ Gives d → A
unfolding agreed
no_procedure a x d dummy h =
    let wrong : Fails Disagreement ≡ Gives d = (λ i. elim (sym dummy i) [ class.DummyProcedure ↦ Gives (IsProc x) | _ ↦ Fails Disagreement ]) ∙ h in absurd (cc)

no_label : {A : Type 0} (a : Attribute) (l : ℕ) (d : Datum) → agreed a (IsLabel l) ≡ Gives d → A
unfolding agreed
no_label a l d h = absurd (cc)

no_value : {A : Type 0} (a : Attribute) (d : Datum) → agreed a Nothing ≡ Gives d → A
unfolding agreed
no_value a d h = absurd (cc)

sound_wide : (basic : Basic) (μ : World) (p : Spot) → p.basic ≡ basic → is_numeric basic ≡ true → IsSound μ p → IsSound μ (record p { width = 4 })
unfolding is_numeric
sound_wide basic μ p same numeric sound = record { there = sound.there; shaped = subst (λ b. HasShape b (record p { width = 4 })) (sym same) (by basic numeric (subst (λ b. HasShape b p) same sound.shaped)); inside = sound.inside }
  where
    by : (b : Basic) → is_numeric b ≡ true → HasShape b p → HasShape b (record p { width = 4 })
    by Integer h shaped = (shaped.0, refl)
    by Logical h shaped = (shaped.0, refl)
    by Character h shaped = absurd (cc)
    by Untyped h shaped = absurd (cc)

no_text : (basic : Basic) (width : ℕ) → is_numeric basic ≡ true → length_of_text basic width ≡ []
unfolding is_numeric
no_text Integer width h = refl
no_text Logical width h = refl
no_text Character width h = absurd (cc)
no_text Untyped width h = absurd (cc)

-- and a dummy procedure is the procedure that was passed
procedure_agreed : (a : Attribute) (x : Bytes) (d : Datum) → a.class ≡ class.DummyProcedure → agreed a (IsProc x) ≡ Gives d → d ≡ IsProc x
unfolding agreed
procedure_agreed a x d dummy h = sym (given_same (IsProc x) d ((λ i. elim (sym dummy i) [ class.DummyProcedure ↦ Gives (IsProc x) | _ ↦ Fails Disagreement ]) ∙ h))

no_place : {A : Type 0} (a : Attribute) (p : Spot) (d : Datum) → a.class ≡ class.DummyProcedure → agreed a (IsSpot p) ≡ Gives d → A
unfolding agreed
no_place a p d dummy h =
    let wrong : Fails Disagreement ≡ Gives d = (λ i. elim (sym dummy i) [ class.Dummy ↦ if same_basic a.basic p.basic then bound_as a a.width p else Fails Disagreement | _ ↦ Fails Disagreement ]) ∙ h in absurd (cc)

function_fits : (type : ParameterType) (number : ℕ) → is_function_pointer type ≡ true → fits type (Function number) ≡ true
unfolding is_function_pointer
function_fits (parameter.Function type) number h = refl
function_fits _ number h = absurd (cc)

pointer_fits : (type : ParameterType) (object offset : ℕ) → is_number_pointer type ≡ true → fits type (Pointer object offset) ≡ true
unfolding is_number_pointer
pointer_fits parameter.Integers object offset h = refl
pointer_fits parameter.Logicals object offset h = refl
pointer_fits _ object offset h = absurd (cc)

-- ## All of them

-- a dummy at a place, counted from the first that is left
pub record DummyAt (u : Text) (e : Emission) (μ : World) (at : ℕ) (values : List CValue) (x : Bytes) (d : Datum) : Type 0 where
  pub type : ParameterType
  pub index : ℕ
  pub place : ℕ
  pub place_is : place ≡ at + index
  pub parameter : IsParameter u e place x type
  pub spot : Spot
  pub is : d ≡ IsSpot spot
  pub basic : spot.basic ≡ (u.facts.program.attribute x).basic
  pub sound : IsSound μ spot
  pub object : ℕ
  pub home : μ.homes spot.sequence ≡ Some object
  pub passed : slice_get values index ≡ Some (Pointer object spot.first)

-- a dummy procedure at a place
pub record ProcedureAt (s : Surroundings) (u : Text) (e : Emission) (at : ℕ) (values : List CValue) (x : Bytes) (d : Datum) : Type 0 where
  pub type : ParameterType
  pub index : ℕ
  pub place : ℕ
  pub place_is : place ≡ at + index
  pub parameter : IsProcedureParameter u e place x type
  pub name : Bytes
  pub is : d ≡ IsProc name
  pub function : ℕ
  pub numbered : s.numbers (Procedure name) ≡ Some function
  pub passed : slice_get values index ≡ Some (Function function)

pub data IsBoundTo (s : Surroundings) (u : Text) (e : Emission) (μ : World) (at : ℕ) (values : List CValue) (x : Bytes) (d : Datum) : Type 0 where
  a_place : DummyAt u e μ at values x d → IsBoundTo s u e μ at values x d
  a_procedure : ProcedureAt s u e at values x d → IsBoundTo s u e μ at values x d

pub record AreBound (s : Surroundings) (u : Text) (e : Emission) (μ : World) (at : ℕ) (types : List ParameterType) (ds : List Datum) (values : List CValue) (bindings : Bindings) : Type 0 where
  pub fit : all_fit types values ≡ true
  pub as_many : length values ≡ length types
  pub no_lengths : lengths_of ds ≡ []
  pub dummy : (x : Bytes) (d : Datum) → value_for x bindings.names bindings.values ≡ Some d → IsBoundTo s u e μ at values x d
  pub numeric : (x : Bytes) (n : ℕ) → length_for x bindings.names bindings.lengths ≡ Some n → (u.facts.program.attribute x).class ≡ class.Dummy → is_numeric (u.facts.program.attribute x).basic ≡ true

none_some : {A B : Type 0} (a : A) → None ≡ Some a → B
none_some a h = absurd (cc)

module _ (s : Surroundings) (u : Text) (e : Emission) (μ : World) where
  bound_none : (at : ℕ) → AreBound s u e μ at [] [] [] (record { names = []; values = []; lengths = []; labels = [] })
  unfolding value_for length_for
  bound_none at = record {
    fit = refl;
    as_many = refl;
    no_lengths = refl;
    dummy = λ x d h. none_some d h;
    numeric = λ x n h dummy. none_some n h;
  }

  -- what is one place further on
  dummy_later : (at : ℕ) (value : CValue) (values : List CValue) (x : Bytes) (d : Datum) → DummyAt u e μ (suc at) values x d → DummyAt u e μ at (value ∷ values) x d
  dummy_later at value values x d one = record {
    type = one.type;
    index = suc one.index;
    place = one.place;
    place_is = (let is = one.place_is in omega (arith, is));
    parameter = one.parameter;
    spot = one.spot;
    is = one.is;
    basic = one.basic;
    sound = one.sound;
    object = one.object;
    home = one.home;
    passed = one.passed;
  }

  procedure_later : (at : ℕ) (value : CValue) (values : List CValue) (x : Bytes) (d : Datum) → ProcedureAt s u e (suc at) values x d → ProcedureAt s u e at (value ∷ values) x d
  procedure_later at value values x d one = record {
    type = one.type;
    index = suc one.index;
    place = one.place;
    place_is = (let is = one.place_is in omega (arith, is));
    parameter = one.parameter;
    name = one.name;
    is = one.is;
    function = one.function;
    numbered = one.numbered;
    passed = one.passed;
  }

  bound_later : (at : ℕ) (value : CValue) (values : List CValue) (x : Bytes) (d : Datum) → IsBoundTo s u e μ (suc at) values x d → IsBoundTo s u e μ at (value ∷ values) x d
  bound_later at value values x d (a_place one) = a_place (dummy_later at value values x d one)
  bound_later at value values x d (a_procedure one) = a_procedure (procedure_later at value values x d one)

  bound_more : (at : ℕ) (x : Bytes) (type : ParameterType) (types : List ParameterType) (p : Spot) (object : ℕ) (ds : List Datum) (values : List CValue) (value : Datum) (rest : Bindings) → IsParameter u e at x type → IsSound μ p
      → μ.homes p.sequence ≡ Some object → IsAgreed (u.facts.program.attribute x) p value → AreBound s u e μ (suc at) types ds values rest
      → AreBound s u e μ at (type ∷ types) (IsSpot p ∷ ds) (Pointer object p.first ∷ values) (record rest { names = x ∷ rest.names; values = value ∷ rest.values; lengths = length_of (IsSpot p) ∷ rest.lengths })
  unfolding value_for length_for
  bound_more at x type types p object ds values value rest is sound home agree more = record {
    fit = (λ i. pointer_fits type object p.first is.pointer i && more.fit i);
    as_many = ap suc more.as_many;
    no_lengths = (λ i. no_text p.basic p.width number_spot i ++ more.no_lengths i);
    dummy = λ y d h. dummy_by y d (bytes_eq y x) refl h;
    numeric = λ y n h dummy. numeric_by y n (bytes_eq y x) refl h dummy;
  }
    where
      number_spot : is_numeric p.basic ≡ true
      number_spot = ap is_numeric agree.basic ∙ is.numeric

      here : DummyAt u e μ at (Pointer object p.first ∷ values) x value
      here = record {
        type = type;
        index = 0;
        place = at;
        place_is = omega arith;
        parameter = is;
        spot = record p { width = 4 };
        is = agree.is;
        basic = agree.basic;
        sound = sound_wide (u.facts.program.attribute x).basic μ p agree.basic is.numeric sound;
        object = object;
        home = home;
        passed = refl;
      }

      dummy_by : (y : Bytes) (d : Datum) (b : Bool) → bytes_eq y x ≡ b → (if b then Some value else value_for y rest.names rest.values) ≡ Some d → IsBoundTo s u e μ at (Pointer object p.first ∷ values) y d
      dummy_by y d true same h =
          let name : y ≡ x = (bytes_eq-Decides y x).0 same in
          subst (λ z. IsBoundTo s u e μ at (Pointer object p.first ∷ values) z d) (sym name) (subst (IsBoundTo s u e μ at (Pointer object p.first ∷ values) x) (some_same value d h) (a_place here))
      dummy_by y d false same h = bound_later at (Pointer object p.first) values y d (more.dummy y d h)

      numeric_by : (y : Bytes) (n : ℕ) (b : Bool) → bytes_eq y x ≡ b → (if b then Some (length_of (IsSpot p)) else length_for y rest.names rest.lengths) ≡ Some n → (u.facts.program.attribute y).class ≡ class.Dummy → is_numeric (u.facts.program.attribute y).basic ≡ true
      numeric_by y n true same h dummy = ap (λ z. is_numeric (u.facts.program.attribute z).basic) ((bytes_eq-Decides y x).0 same) ∙ is.numeric
      numeric_by y n false same h dummy = more.numeric y n h dummy

  bound_procedure : (at : ℕ) (x : Bytes) (type : ParameterType) (types : List ParameterType) (name : Bytes) (number : ℕ) (ds : List Datum) (values : List CValue) (value : Datum) (rest : Bindings) → IsProcedureParameter u e at x type
      → s.numbers (Procedure name) ≡ Some number → value ≡ IsProc name → AreBound s u e μ (suc at) types ds values rest
      → AreBound s u e μ at (type ∷ types) (IsProc name ∷ ds) (Function number ∷ values) (record rest { names = x ∷ rest.names; values = value ∷ rest.values; lengths = length_of (IsProc name) ∷ rest.lengths })
  unfolding value_for length_for
  bound_procedure at x type types name number ds values value rest is numbered is_name more = record {
    fit = (λ i. function_fits type number is.pointer i && more.fit i);
    as_many = ap suc more.as_many;
    no_lengths = more.no_lengths;
    dummy = λ y d h. dummy_by y d (bytes_eq y x) refl h;
    numeric = λ y n h dummy. numeric_by y n (bytes_eq y x) refl h dummy;
  }
    where
      here : ProcedureAt s u e at (Function number ∷ values) x value
      here = record { type = type; index = 0; place = at; place_is = omega arith; parameter = is; name = name; is = is_name; function = number; numbered = numbered; passed = refl }

      dummy_by : (y : Bytes) (d : Datum) (b : Bool) → bytes_eq y x ≡ b → (if b then Some value else value_for y rest.names rest.values) ≡ Some d → IsBoundTo s u e μ at (Function number ∷ values) y d
      dummy_by y d true same h =
          let same_name : y ≡ x = (bytes_eq-Decides y x).0 same in
          subst (λ z. IsBoundTo s u e μ at (Function number ∷ values) z d) (sym same_name) (subst (IsBoundTo s u e μ at (Function number ∷ values) x) (some_same value d h) (a_procedure here))
      dummy_by y d false same h = bound_later at (Function number) values y d (more.dummy y d h)

      no_dummy : {A : Type 0} → class.DummyProcedure ≡ class.Dummy → A
      no_dummy h = absurd (cc)

      numeric_by : (y : Bytes) (n : ℕ) (b : Bool) → bytes_eq y x ≡ b → (if b then Some (length_of (IsProc name)) else length_for y rest.names rest.lengths) ≡ Some n → (u.facts.program.attribute y).class ≡ class.Dummy
          → is_numeric (u.facts.program.attribute y).basic ≡ true
      numeric_by y n true same h dummy = no_dummy (sym is.dummy ∙ ap (λ z. (u.facts.program.attribute z).class) (sym ((bytes_eq-Decides y x).0 same)) ∙ dummy)
      numeric_by y n false same h dummy = more.numeric y n h dummy

  bound_label : (at : ℕ) (label : ℕ) (types : List ParameterType) (ds : List Datum) (values : List CValue) (rest : Bindings) → AreBound s u e μ at types ds values rest
      → AreBound s u e μ at types (IsLabel label ∷ ds) values (record rest { labels = label ∷ rest.labels })
  bound_label at label types ds values rest more = record {
    fit = more.fit;
    as_many = more.as_many;
    no_lengths = more.no_lengths;
    dummy = more.dummy;
    numeric = more.numeric;
  }

  pub dummies_bound : (at : ℕ) (formals : List Formal) (types : List ParameterType) (ds : List Datum) (values : List CValue) (bindings : Bindings) → AreParameters u e at formals types → ArePassed s μ ds values
      → bind_all u.facts.program formals ds ≡ Gives bindings → AreBound s u e μ at types ds values bindings
  unfolding bind_all
  dummies_bound _ _ _ _ _ bindings (no_parameters at) none_passed h = subst (AreBound s u e μ at [] [] []) (given_same _ bindings h) (bound_none at)
  dummies_bound _ _ _ _ _ bindings (no_parameters at) (place_passed p object ds values sound home later) h = absurd (cc)
  dummies_bound _ _ _ _ _ bindings (no_parameters at) (procedure_passed x number ds values is later) h = absurd (cc)
  dummies_bound _ _ _ _ _ bindings (no_parameters at) (label_passed label ds values later) h = absurd (cc)
  dummies_bound _ _ _ _ _ bindings (no_parameters at) (nothing_passed value ds values later) h = absurd (cc)
  dummies_bound _ _ _ _ _ bindings (named at x formals type types is more) none_passed h = absurd (cc)
  dummies_bound _ _ _ _ _ bindings (named at x formals type types is more) (place_passed p object ds values sound home later) h =
      let one = got (agreed (u.facts.program.attribute x) (IsSpot p)) _ bindings h in
      let rest = got (bind_all u.facts.program formals ds) _ bindings one.gives in
      subst (AreBound s u e μ at (type ∷ types) (IsSpot p ∷ ds) (Pointer object p.first ∷ values)) (given_same _ bindings rest.gives)
      (bound_more at x type types p object ds values one.value rest.value is sound home (agreed_by (u.facts.program.attribute x) p one.value is.dummy is.width one.is)
      (dummies_bound (suc at) formals types ds values rest.value more later rest.is))
  dummies_bound _ _ _ _ _ bindings (named at x formals type types is more) (procedure_passed y number ds values found later) h =
      let one = got (agreed (u.facts.program.attribute x) (IsProc y)) _ bindings h in no_procedure (u.facts.program.attribute x) y one.value is.dummy one.is
  dummies_bound _ _ _ _ _ bindings (named at x formals type types is more) (label_passed label ds values later) h =
      let one = got (agreed (u.facts.program.attribute x) (IsLabel label)) _ bindings h in no_label (u.facts.program.attribute x) label one.value one.is
  dummies_bound _ _ _ _ _ bindings (named at x formals type types is more) (nothing_passed value ds values later) h =
      let one = got (agreed (u.facts.program.attribute x) Nothing) _ bindings h in no_value (u.facts.program.attribute x) one.value one.is
  dummies_bound _ _ _ _ _ bindings (named_procedure at x formals type types is more) none_passed h = absurd (cc)
  dummies_bound _ _ _ _ _ bindings (named_procedure at x formals type types is more) (place_passed p object ds values sound home later) h =
      let one = got (agreed (u.facts.program.attribute x) (IsSpot p)) _ bindings h in no_place (u.facts.program.attribute x) p one.value is.dummy one.is
  dummies_bound _ _ _ _ _ bindings (named_procedure at x formals type types is more) (procedure_passed y number ds values found later) h =
      let one = got (agreed (u.facts.program.attribute x) (IsProc y)) _ bindings h in
      let rest = got (bind_all u.facts.program formals ds) _ bindings one.gives in
      subst (AreBound s u e μ at (type ∷ types) (IsProc y ∷ ds) (Function number ∷ values)) (given_same _ bindings rest.gives)
      (bound_procedure at x type types y number ds values one.value rest.value is found (procedure_agreed (u.facts.program.attribute x) y one.value is.dummy one.is)
      (dummies_bound (suc at) formals types ds values rest.value more later rest.is))
  dummies_bound _ _ _ _ _ bindings (named_procedure at x formals type types is more) (label_passed label ds values later) h =
      let one = got (agreed (u.facts.program.attribute x) (IsLabel label)) _ bindings h in no_label (u.facts.program.attribute x) label one.value one.is
  dummies_bound _ _ _ _ _ bindings (named_procedure at x formals type types is more) (nothing_passed value ds values later) h =
      let one = got (agreed (u.facts.program.attribute x) Nothing) _ bindings h in no_value (u.facts.program.attribute x) one.value one.is
  dummies_bound _ _ _ _ _ bindings (alternate at formals types more) none_passed h = absurd (cc)
  dummies_bound _ _ _ _ _ bindings (alternate at formals types more) (nothing_passed value ds values later) h = absurd (cc)
  dummies_bound _ _ _ _ _ bindings (alternate at formals types more) (place_passed p object ds values sound home later) h = absurd (cc)
  dummies_bound _ _ _ _ _ bindings (alternate at formals types more) (procedure_passed x number ds values is later) h = absurd (cc)
  dummies_bound _ _ _ _ _ bindings (alternate at formals types more) (label_passed label ds values later) h =
      let rest = got (bind_all u.facts.program formals ds) _ bindings h in
      subst (AreBound s u e μ at types (IsLabel label ∷ ds) values) (given_same _ bindings rest.gives) (bound_label at label types ds values rest.value (dummies_bound at formals types ds values rest.value more later rest.is))

-- ## Names

module _ (u : ProgramUnit) where
  -- bounds are fixed of the dummies that have names
  pub names_bound : (formals : List Formal) (ds : List Datum) (bindings : Bindings) → bind_all u formals ds ≡ Gives bindings → bindings.names ≡ dummies_named formals
  unfolding bind_all
  names_bound [] [] bindings h = ap (λ (b : Bindings). b.names) (sym (given_same _ bindings h))
  names_bound [] (d ∷ ds) bindings h = absurd (cc)
  names_bound (Named x ∷ formals) [] bindings h = absurd (cc)
  names_bound (Named x ∷ formals) (d ∷ ds) bindings h =
      let one = got (agreed (u.attribute x) d) _ bindings h in
      let rest = got (bind_all u formals ds) _ bindings one.gives in
      ap (λ (b : Bindings). b.names) (sym (given_same _ bindings rest.gives)) ∙ ap (λ names. x ∷ names) (names_bound formals ds rest.value rest.is)
  names_bound (Alternate ∷ formals) (IsLabel label ∷ ds) bindings h =
      let rest = got (bind_all u formals ds) _ bindings h in
      ap (λ (b : Bindings). b.names) (sym (given_same _ bindings rest.gives)) ∙ names_bound formals ds rest.value rest.is
  names_bound (Alternate ∷ formals) _ bindings h = absurd (cc)
