-- The example is emitted.
use Rattle.std.specs.Prelude.{◌≡◌, ◌≢◌, ℕ, zero, suc, ◌+◌, ◌≤◌, nat_eq, nat_lt, ℤ, pos, Bool, true, false, List, [], ◌∷◌, map, Some, None, bytes_eq, slice_get, if◌then◌else◌}
use Rattle.std.specs.Ordering.{int_eq}
use Rattle.std.proofs.Common.{refl, sym, ap, ◌∙◌, subst, arith}
use Rattle.std.proofs.lemmas.Bool.{eqb-true}
use Rattle.std.proofs.lemmas.Bool.Decides.{Decides-int_eq}
use Rattle.procedure_emission.specs.f_tree.declared.names.Basic.{Basic}
use Rattle.procedure_emission.specs.f_tree.declared.names.Basic.TheVariants as basic
use Rattle.procedure_emission.specs.f_tree.declared.names.Class.TheVariants as class
use Rattle.procedure_emission.specs.f_tree.Values.{Bytes, Spot, Datum, IsInt, IsSpot, Checked, Gives, in_range}
use Rattle.procedure_emission.specs.f_tree.Facts.{Bounds, Formal, MainProgram, FunctionUnit, BlockDataUnit, Frame}
use Rattle.procedure_emission.specs.f_tree.Setting.{IsIn, first_in, later_in}
use Rattle.procedure_emission.specs.f_tree.Valuing.{stored_at, extent_of, elements_of, named_as, whole}
use Rattle.procedure_emission.specs.f_tree.World.{Called, TheMain, Procedure}
use Rattle.procedure_emission.specs.f_tree.Association.{dimensions_by}
use Rattle.procedure_emission.specs.l_core.Pures.{Pure, Pures}
use Rattle.procedure_emission.specs.l_core.Steps.{Acting, Starts, Step, Keep, Halt, Acts}
use Rattle.procedure_emission.specs.l_core.Costs.{cost}
use Rattle.procedure_emission.specs.c_tree.declared.types.FunctionType.TheVariants as to
use Rattle.procedure_emission.specs.c_tree.declared.types.ParameterType.TheVariants as parameter
use Rattle.procedure_emission.specs.c_tree.Objects.{bytes_of_number}
use Rattle.procedure_emission.specs.c_image.Held.{Holds, number_object}
use Rattle.procedure_emission.specs.c_image.Addresses.{Address, Alone, Through, Reaches, IsSound}
use Rattle.procedure_emission.specs.c_emit.Numbers.{numbers_opened, is_numeric}
use Rattle.procedure_emission.specs.c_emit.Types.{types_opened}
use Rattle.procedure_emission.specs.c_emit.Calls.{calls_opened}
use Rattle.procedure_emission.specs.c_emit.Flats.{flats_opened}
use Rattle.procedure_emission.specs.emitted_texts.Emitted.{leads, stage_behind, is_of_output}
use Rattle.procedure_emission.specs.emitted_texts.SecondLayer.{Emission}
use Rattle.procedure_emission.specs.ProcedureItems.{procedure_items_opened}
use Rattle.procedure_emission.specs.Reading.{reading_opened, kind_after}
use Rattle.procedure_emission.specs.DummyBounds.{HasConstantBounds, AreFixed, constant, BoundsAreKnown}
use Rattle.procedure_emission.specs.EmittedUnits.{leads_on, is_number_pointer, is_function_pointer, number_result, IsItem, StepsFit, IsOfRoom, IsParameter, IsProcedureParameter, no_parameters, named, named_procedure, ResultIsMade, IsEmittedUnit}
use Rattle.emitted_rows.specs.Example.{the_function, the_dummy_procedure, the_other, the_dummy, an_integer, its_room, its_number, its_surroundings, main_entry, main_attribute, main_steps, main_facts, main_text, main_kind, main_emission, function_entry, function_attribute, function_steps, function_text, function_address, function_emission, other_entry, other_attribute, other_steps, other_text, other_emission, its_costs}

pub some_is : {A : Type 0} (a b : A) → Some a ≡ Some b → a ≡ b
some_is a b h = cc

pub none_some : {A B : Type 0} (a : A) → None ≡ Some a → B
none_some a h = absurd (cc)

pub nothing_at_all : {A B : Type 0} (k : ℕ) (b : A) → slice_get [] k ≡ Some b → B
nothing_at_all zero b h = absurd (cc)
nothing_at_all (suc k) b h = absurd (cc)

none_led : {A : Type 0} (m : ℕ) → IsIn m [] → A
none_led m among = elim among [ ]

led_to : (m a : ℕ) → IsIn m (a ∷ []) → m ≡ a
led_to m _ first_in = refl
led_to m a (later_in among) = none_led m among

-- ## Bounds

no_bounds : (bounds : List Bounds) → Gives [] ≡ Gives bounds → bounds ≡ []
no_bounds bounds h = let same : [] ≡ bounds = (let e = h in cc) in sym same

-- a name that has no dimensions
pub fixed_by : (e : Emission) (x : Bytes) → (e.writing.facts.program.attribute x).dimensions ≡ [] → (e.writing.facts.program.attribute x).bounds ≡ [] → AreFixed e.writing.facts x
unfolding dimensions_by
fixed_by e x none bare f store bounds h = no_bounds bounds (sym (ap (dimensions_by e.writing.facts f store) none) ∙ h) ∙ sym bare

-- where nothing is kept, since no dummy has dimensions
nothing_kept : (e : Emission) (formals : List Formal) → ((x : Bytes) → HasConstantBounds e x) → ((x : Bytes) → AreFixed e.writing.facts x) → BoundsAreKnown e formals []
nothing_kept e formals constants fixed = record {
  saved = λ i one at. nothing_at_all i one at;
  alone = λ i j one other at at' same. nothing_at_all i one at;
  values = λ i one at. nothing_at_all i one at;
  others = λ x other. constants x;
  dummies = λ x among. constant (fixed x) (constants x);
}

-- ## Rooms

no_room : (object : ℕ) → IsOfRoom (record { first = 9; count = 0 }) object → ⊥
no_room object own = let low = own.0 in let high = own.1 in omega (arith, low, high)

main_rooms : (j object : ℕ) → nat_eq j 0 ≡ false → IsOfRoom (its_room j) object → IsOfRoom (its_room 0) object → ⊥
main_rooms zero object apart one other = absurd (cc)
main_rooms (suc zero) object apart one other = let low = one.0 in let high = other.1 in omega (arith, low, high)
main_rooms (suc (suc zero)) object apart one other = let low = one.0 in let high = other.1 in omega (arith, low, high)
main_rooms (suc (suc (suc j))) object apart one other = no_room object one

function_rooms : (j object : ℕ) → nat_eq j 1 ≡ false → IsOfRoom (its_room j) object → IsOfRoom (its_room 1) object → ⊥
function_rooms zero object apart one other = let high = one.1 in let low = other.0 in omega (arith, low, high)
function_rooms (suc zero) object apart one other = absurd (cc)
function_rooms (suc (suc zero)) object apart one other = let low = one.0 in let high = other.1 in omega (arith, low, high)
function_rooms (suc (suc (suc j))) object apart one other = no_room object one

other_rooms : (j object : ℕ) → nat_eq j 2 ≡ false → IsOfRoom (its_room j) object → IsOfRoom (its_room 2) object → ⊥
other_rooms zero object apart one other = let high = one.1 in let low = other.0 in omega (arith, low, high)
other_rooms (suc zero) object apart one other = let high = one.1 in let low = other.0 in omega (arith, low, high)
other_rooms (suc (suc zero)) object apart one other = absurd (cc)
other_rooms (suc (suc (suc j))) object apart one other = no_room object one

main_constants : (j : ℕ) (z : ℤ) → nat_eq j 0 ≡ false → IsOfRoom (its_room j) 0 → ⊥
main_constants zero z apart own = absurd (cc)
main_constants (suc zero) z apart own = let low = own.0 in omega (arith, low)
main_constants (suc (suc zero)) z apart own = let low = own.0 in omega (arith, low)
main_constants (suc (suc (suc j))) z apart own = no_room 0 own

its_calls : (name : Called) (function : ℕ) → its_number name ≡ Some function → nat_lt function 3 ≡ true
its_calls TheMain function h = ap (λ n. nat_lt n 3) (sym (some_is 0 function h))
its_calls (Procedure x) function h = by (bytes_eq x the_function) (bytes_eq x the_other) h
  where
    by : (b c : Bool) → (if b then Some 1 else if c then Some 2 else None) ≡ Some function → nat_lt function 3 ≡ true
    by true c g = ap (λ n. nat_lt n 3) (sym (some_is 1 function g))
    by false true g = ap (λ n. nat_lt n 3) (sym (some_is 2 function g))
    by false false g = none_some function g

-- ## The main program

main_item : (n : ℕ) (st : Step) → slice_get main_steps n ≡ Some st → IsItem its_surroundings main_text main_emission n st
unfolding procedure_items_opened flats_opened numbers_opened types_opened calls_opened in_range
main_item zero st h = subst (IsItem its_surroundings main_text main_emission 0) (some_is _ st h) (record { item = _; emitted = refl; stands = refl })
main_item (suc zero) st h = subst (IsItem its_surroundings main_text main_emission 1) (some_is _ st h) (record { item = _; emitted = refl; stands = refl })
main_item (suc (suc zero)) st h = subst (IsItem its_surroundings main_text main_emission 2) (some_is _ st h) (record { item = _; emitted = refl; stands = refl })
main_item (suc (suc (suc n))) st h = absurd (cc)

main_costs : (n : ℕ) (st : Step) → slice_get main_steps n ≡ Some st → 1 ≤ cost its_costs n
unfolding cost
main_costs zero st h = omega arith
main_costs (suc zero) st h = omega arith
main_costs (suc (suc zero)) st h = omega arith
main_costs (suc (suc (suc n))) st h = absurd (cc)

no_type : {A : Type 0} (m k : ℕ) (b : Basic) → main_kind m k ≡ None → main_kind m k ≡ Some b → A
no_type m k b none some = absurd (cc)

main_kinds : (n : ℕ) (st : Step) (m : ℕ) → slice_get main_steps n ≡ Some st → IsIn m (leads_on main_text n st) → (k : ℕ) (b : Basic) → main_kind m k ≡ Some b → kind_after main_emission.writing n st k ≡ Some b
unfolding leads leads_on kind_after reading_opened procedure_items_opened
main_kinds zero st m h among k b is =
    let to_next : m ≡ 1 = led_to m 1 (subst (λ o. IsIn m (leads_on main_text 0 o)) (sym (some_is _ st h)) among) in
    subst (λ o. kind_after main_emission.writing 0 o k ≡ Some b) (some_is _ st h) (first_kind k (sym (ap (λ i. main_kind i k) to_next) ∙ is))
  where
    first_kind : (k : ℕ) → main_kind 1 k ≡ Some b → (if nat_eq k 0 then Some basic.Integer else main_kind 0 k) ≡ Some b
    first_kind zero e = e
    first_kind (suc k) e = none_some b e
main_kinds (suc zero) st m h among k b is =
    let to_next : m ≡ 2 = led_to m 2 (subst (λ o. IsIn m (leads_on main_text 1 o)) (sym (some_is _ st h)) among) in
    no_type m k b (ap (λ i. main_kind i k) to_next) is
main_kinds (suc (suc zero)) st m h among k b is = none_led m (subst (λ o. IsIn m (leads_on main_text 2 o)) (sym (some_is _ st h)) among)
main_kinds (suc (suc (suc n))) st m h among k b is = absurd (cc)

main_keeps : {A : Type 0} (n k : ℕ) (p : Pure) → slice_get main_steps n ≡ Some (Keep k p) → A
main_keeps zero k p h = absurd (cc)
main_keeps (suc zero) k p h = absurd (cc)
main_keeps (suc (suc zero)) k p h = absurd (cc)
main_keeps (suc (suc (suc n))) k p h = absurd (cc)

main_stages : (n : ℕ) (st : Step) → slice_get main_steps n ≡ Some st → stage_behind None st ≡ None
unfolding stage_behind
main_stages zero st h = ap (stage_behind None) (sym (some_is _ st h))
main_stages (suc zero) st h = ap (stage_behind None) (sym (some_is _ st h))
main_stages (suc (suc zero)) st h = ap (stage_behind None) (sym (some_is _ st h))
main_stages (suc (suc (suc n))) st h = absurd (cc)

main_outputs : {A : Type 0} (n : ℕ) (st : Step) → slice_get main_steps n ≡ Some st → is_of_output st ≡ true → A
unfolding is_of_output
main_outputs zero st h of = let wrong : false ≡ true = ap is_of_output (some_is _ st h) ∙ of in absurd (cc)
main_outputs (suc zero) st h of = let wrong : false ≡ true = ap is_of_output (some_is _ st h) ∙ of in absurd (cc)
main_outputs (suc (suc zero)) st h of = let wrong : false ≡ true = ap is_of_output (some_is _ st h) ∙ of in absurd (cc)
main_outputs (suc (suc (suc n))) st h of = absurd (cc)

two_held : Holds (Some (number_object (pos 2))) (IsInt (pos 2))
unfolding in_range
two_held = record { bytes = map Some (bytes_of_number (pos 2)); is = refl; begins = (refl, refl) }

main_holds : (z : ℤ) → int_eq z (pos 2) ≡ true → Holds (Some (number_object (pos 2))) (IsInt z)
main_holds z has = subst (λ n. Holds (Some (number_object (pos 2))) (IsInt n)) (sym ((Decides-int_eq z (pos 2)).0 has)) two_held

main_acts : {A : Type 0} (n : ℕ) (act : Acting) (ps : Pures) (m : ℕ) → slice_get main_steps n ≡ Some (Acts act ps m) → A
main_acts zero act ps m h = absurd (cc)
main_acts (suc zero) act ps m h = absurd (cc)
main_acts (suc (suc zero)) act ps m h = absurd (cc)
main_acts (suc (suc (suc n))) act ps m h = absurd (cc)

main_halts : {A : Type 0} (n : ℕ) (text : Bytes) → slice_get main_steps n ≡ Some (Halt text) → A
main_halts zero text h = absurd (cc)
main_halts (suc zero) text h = absurd (cc)
main_halts (suc (suc zero)) text h = absurd (cc)
main_halts (suc (suc (suc n))) text h = absurd (cc)

main_fits : StepsFit its_surroundings main_text main_emission main_entry
main_fits = record {
  kinds = main_kinds;
  keeps = λ n k p at. main_keeps n k p at;
  stages = λ n st m at among. sym (main_stages n st at);
  outputs = λ n st at of. main_outputs n st at of;
  returns = λ n st at return. refl;
  none_at_first = refl;
  own = refl;
  constants = λ z has. main_holds z has;
  lists = λ n way layout controls ps m unit at is. main_acts n (Starts way layout controls) ps m at;
  texts = λ n text at. main_halts n text at;
}

its_spot : Spot
its_spot = record { basic = basic.Integer; sequence = 0; first = 0; extent = 4; width = 4 }

spot_in : Spot → Checked Datum → Spot
spot_in p (Gives (IsSpot q)) = q
spot_in p r = p

main_spot : (f : Frame) (x : Bytes) (p : Spot) → (main_attribute x).class ≡ class.Stored → whole main_facts f x ≡ Gives (IsSpot p) → its_spot ≡ p
unfolding whole named_as stored_at extent_of elements_of its_spot spot_in
main_spot f x p stored h = by (bytes_eq x the_function) (bytes_eq x the_other) stored h
  where
    by : (a b : Bool) → (if a then record an_integer { class = class.Procedure } else if b then record an_integer { class = class.Procedure } else an_integer).class ≡ class.Stored → named_as main_facts f x (if a then record an_integer { class = class.Procedure } else if b then record an_integer { class = class.Procedure } else an_integer) ≡ Gives (IsSpot p) → its_spot ≡ p
    by true b stored h = absurd (cc)
    by false true stored h = absurd (cc)
    by false false stored h = ap (spot_in p) h

main_bounds : {A : Type 0} (x : Bytes) (k : ℕ) (b : Bounds) → slice_get (main_attribute x).bounds k ≡ Some b → A
main_bounds x k bounds h = by (bytes_eq x the_function) (bytes_eq x the_other) h
  where
    by : {A : Type 0} (a b : Bool) → slice_get (if a then record an_integer { class = class.Procedure } else if b then record an_integer { class = class.Procedure } else an_integer).bounds k ≡ Some bounds → A
    by true b h = nothing_at_all k bounds h
    by false true h = nothing_at_all k bounds h
    by false false h = nothing_at_all k bounds h

main_constant : (x : Bytes) → HasConstantBounds main_emission x
main_constant x = record { fits = λ k b at. main_bounds x k b at; closed = λ k b at more. main_bounds x k b at; lowers = λ k b at. main_bounds x k b at; sizes = λ k b last at upper. main_bounds x k b at }

main_fixed : (x : Bytes) → AreFixed main_emission.writing.facts x
main_fixed x = fixed_by main_emission x (none (bytes_eq x the_function) (bytes_eq x the_other)) (bare (bytes_eq x the_function) (bytes_eq x the_other))
  where
    none : (a b : Bool) → (if a then record an_integer { class = class.Procedure } else if b then record an_integer { class = class.Procedure } else an_integer).dimensions ≡ []
    none true b = refl
    none false true = refl
    none false false = refl

    bare : (a b : Bool) → (if a then record an_integer { class = class.Procedure } else if b then record an_integer { class = class.Procedure } else an_integer).bounds ≡ []
    bare true b = refl
    bare false true = refl
    bare false false = refl

no_block : MainProgram ≢ BlockDataUnit
no_block same = cc

no_function : MainProgram ≢ FunctionUnit
no_function same = cc

pub main_is_emitted : IsEmittedUnit its_surroundings 0 main_text its_costs main_emission
unfolding its_spot
main_is_emitted = record {
  facts = refl;
  runs = no_block;
  items = main_item;
  in_order = λ n st at. omega arith;
  positive = main_costs;
  entry = main_entry;
  only = refl;
  room = refl;
  inside = omega arith;
  apart_rooms = record { rooms = main_rooms; constants = λ j z apart has own. main_constants j z apart own };
  parameters = no_parameters 0;
  gives = λ other. refl;
  result = λ function. absurd (no_function function);
  temporaries = λ k numeric. record {
    in_frame = record { index = 0; at = ap (λ n. 2 + n) (eqb-true k 0 numeric); bytes = None ∷ None ∷ None ∷ None ∷ []; is = refl; room = omega arith };
    behind = omega arith;
  };
  apart = λ k numeric. record {
    temporaries = λ j same. omega (arith, same);
    addresses = λ x parameter is. absurd (cc);
    lengths = λ x same. omega (arith, same, eqb-true k 0 numeric);
    lowers = λ x i saved is. absurd (cc);
    sizes = λ x i saved is. absurd (cc);
  };
  fit = main_fits;
  calls = its_calls;
  sound = λ f x p stored h. subst (IsSound its_surroundings.first) (main_spot f x p stored h) (record { there = omega arith; shaped = (refl, refl); inside = omega arith });
  reached = λ f x p stored h. subst (λ q. Reaches its_surroundings.first q (Alone 1)) (main_spot f x p stored h) (refl, refl);
  savings = [];
  bounds = nothing_kept main_emission main_entry.formals main_constant main_fixed;
  begins = refl;
}

-- ## The function

pub not_false : {A : Type 0} → false ≡ true → A
not_false h = absurd (cc)

function_item : (n : ℕ) (st : Step) → slice_get function_steps n ≡ Some st → IsItem its_surroundings function_text function_emission n st
unfolding procedure_items_opened flats_opened numbers_opened types_opened calls_opened in_range
function_item zero st h = subst (IsItem its_surroundings function_text function_emission 0) (some_is _ st h) (record { item = _; emitted = refl; stands = refl })
function_item (suc zero) st h = subst (IsItem its_surroundings function_text function_emission 1) (some_is _ st h) (record { item = _; emitted = refl; stands = refl })
function_item (suc (suc zero)) st h = subst (IsItem its_surroundings function_text function_emission 2) (some_is _ st h) (record { item = _; emitted = refl; stands = refl })
function_item (suc (suc (suc n))) st h = absurd (cc)

function_costs : (n : ℕ) (st : Step) → slice_get function_steps n ≡ Some st → 1 ≤ cost its_costs n
unfolding cost
function_costs zero st h = omega arith
function_costs (suc zero) st h = omega arith
function_costs (suc (suc zero)) st h = omega arith
function_costs (suc (suc (suc n))) st h = absurd (cc)

function_kinds : (n : ℕ) (st : Step) (m : ℕ) → slice_get function_steps n ≡ Some st → IsIn m (leads_on function_text n st) → (k : ℕ) (b : Basic) → main_kind m k ≡ Some b → kind_after function_emission.writing n st k ≡ Some b
unfolding leads leads_on kind_after reading_opened procedure_items_opened
function_kinds zero st m h among k b is =
    let to_next : m ≡ 1 = led_to m 1 (subst (λ o. IsIn m (leads_on function_text 0 o)) (sym (some_is _ st h)) among) in
    subst (λ o. kind_after function_emission.writing 0 o k ≡ Some b) (some_is _ st h) (first_kind k (sym (ap (λ i. main_kind i k) to_next) ∙ is))
  where
    first_kind : (k : ℕ) → main_kind 1 k ≡ Some b → (if nat_eq k 0 then Some basic.Integer else main_kind 0 k) ≡ Some b
    first_kind zero e = e
    first_kind (suc k) e = none_some b e
function_kinds (suc zero) st m h among k b is =
    let to_next : m ≡ 2 = led_to m 2 (subst (λ o. IsIn m (leads_on function_text 1 o)) (sym (some_is _ st h)) among) in
    no_type m k b (ap (λ i. main_kind i k) to_next) is
function_kinds (suc (suc zero)) st m h among k b is = none_led m (subst (λ o. IsIn m (leads_on function_text 2 o)) (sym (some_is _ st h)) among)
function_kinds (suc (suc (suc n))) st m h among k b is = absurd (cc)

function_keeps : {A : Type 0} (n k : ℕ) (p : Pure) → slice_get function_steps n ≡ Some (Keep k p) → A
function_keeps zero k p h = absurd (cc)
function_keeps (suc zero) k p h = absurd (cc)
function_keeps (suc (suc zero)) k p h = absurd (cc)
function_keeps (suc (suc (suc n))) k p h = absurd (cc)

function_stages : (n : ℕ) (st : Step) → slice_get function_steps n ≡ Some st → stage_behind None st ≡ None
unfolding stage_behind
function_stages zero st h = ap (stage_behind None) (sym (some_is _ st h))
function_stages (suc zero) st h = ap (stage_behind None) (sym (some_is _ st h))
function_stages (suc (suc zero)) st h = ap (stage_behind None) (sym (some_is _ st h))
function_stages (suc (suc (suc n))) st h = absurd (cc)

function_outputs : {A : Type 0} (n : ℕ) (st : Step) → slice_get function_steps n ≡ Some st → is_of_output st ≡ true → A
unfolding is_of_output
function_outputs zero st h of = let wrong : false ≡ true = ap is_of_output (some_is _ st h) ∙ of in absurd (cc)
function_outputs (suc zero) st h of = let wrong : false ≡ true = ap is_of_output (some_is _ st h) ∙ of in absurd (cc)
function_outputs (suc (suc zero)) st h of = let wrong : false ≡ true = ap is_of_output (some_is _ st h) ∙ of in absurd (cc)
function_outputs (suc (suc (suc n))) st h of = absurd (cc)

function_acts : {A : Type 0} (n : ℕ) (act : Acting) (ps : Pures) (m : ℕ) → slice_get function_steps n ≡ Some (Acts act ps m) → A
function_acts zero act ps m h = absurd (cc)
function_acts (suc zero) act ps m h = absurd (cc)
function_acts (suc (suc zero)) act ps m h = absurd (cc)
function_acts (suc (suc (suc n))) act ps m h = absurd (cc)

function_halts : {A : Type 0} (n : ℕ) (text : Bytes) → slice_get function_steps n ≡ Some (Halt text) → A
function_halts zero text h = absurd (cc)
function_halts (suc zero) text h = absurd (cc)
function_halts (suc (suc zero)) text h = absurd (cc)
function_halts (suc (suc (suc n))) text h = absurd (cc)

function_fits : StepsFit its_surroundings function_text function_emission function_entry
function_fits = record {
  kinds = function_kinds;
  keeps = λ n k p at. function_keeps n k p at;
  stages = λ n st m at among. sym (function_stages n st at);
  outputs = λ n st at of. function_outputs n st at of;
  returns = λ n st at return. refl;
  none_at_first = refl;
  own = refl;
  constants = λ z has. not_false has;
  lists = λ n way layout controls ps m unit at is. function_acts n (Starts way layout controls) ps m at;
  texts = λ n text at. function_halts n text at;
}

is_dummy : IsParameter function_text function_emission 0 the_dummy parameter.Integers
unfolding is_numeric is_number_pointer
is_dummy = record {
  dummy = refl;
  numeric = refl;
  width = refl;
  pointer = refl;
  address = refl;
  fresh = refl;
}

is_dummy_procedure : IsProcedureParameter function_text function_emission 1 the_dummy_procedure (parameter.Function to.Integer)
unfolding is_function_pointer
is_dummy_procedure = record {
  dummy = refl;
  pointer = refl;
  address = refl;
  fresh = refl;
}

function_result : ResultIsMade function_text function_emission function_entry
unfolding is_numeric number_result
function_result = record {
  object = 6;
  made = record { in_frame = record { index = 3; at = refl; bytes = None ∷ None ∷ None ∷ None ∷ []; is = refl; room = omega arith }; behind = omega arith };
  own = refl;
  numeric = λ x own. numeric_by (bytes_eq x the_function) (bytes_eq x the_dummy_procedure);
  address = λ x own. address_by (bytes_eq x the_function) (bytes_eq x the_dummy_procedure) own;
  gives = refl;
  apart = λ k numeric same. omega (arith, same, eqb-true k 0 numeric);
}
  where
    numeric_by : (a b : Bool) → is_numeric (if a then record an_integer { class = class.Result } else if b then record an_integer { class = class.DummyProcedure } else record an_integer { class = class.Dummy }).basic ≡ true
    numeric_by true b = refl
    numeric_by false true = refl
    numeric_by false false = refl

    address_by : (a b : Bool) → (if a then record an_integer { class = class.Result } else if b then record an_integer { class = class.DummyProcedure } else record an_integer { class = class.Dummy }).class ≡ class.Result → (if a then Alone 6 else if b then Through 4 else Through 3) ≡ Alone 6
    address_by true b own = refl
    address_by false true own = absurd (cc)
    address_by false false own = absurd (cc)

function_stored : {A : Type 0} (x : Bytes) → (function_attribute x).class ≡ class.Stored → A
function_stored x stored = by (bytes_eq x the_function) (bytes_eq x the_dummy_procedure) stored
  where
    by : {A : Type 0} (a b : Bool) → (if a then record an_integer { class = class.Result } else if b then record an_integer { class = class.DummyProcedure } else record an_integer { class = class.Dummy }).class ≡ class.Stored → A
    by true b h = absurd (cc)
    by false true h = absurd (cc)
    by false false h = absurd (cc)

function_bounds : {A : Type 0} (x : Bytes) (k : ℕ) (b : Bounds) → slice_get (function_attribute x).bounds k ≡ Some b → A
function_bounds x k bounds h = by (bytes_eq x the_function) (bytes_eq x the_dummy_procedure) h
  where
    by : {A : Type 0} (a b : Bool) → slice_get (if a then record an_integer { class = class.Result } else if b then record an_integer { class = class.DummyProcedure } else record an_integer { class = class.Dummy }).bounds k ≡ Some bounds → A
    by true b h = nothing_at_all k bounds h
    by false true h = nothing_at_all k bounds h
    by false false h = nothing_at_all k bounds h

function_constant : (x : Bytes) → HasConstantBounds function_emission x
function_constant x = record { fits = λ k b at. function_bounds x k b at; closed = λ k b at more. function_bounds x k b at; lowers = λ k b at. function_bounds x k b at; sizes = λ k b last at upper. function_bounds x k b at }

function_fixed : (x : Bytes) → AreFixed function_emission.writing.facts x
function_fixed x = fixed_by function_emission x (none (bytes_eq x the_function) (bytes_eq x the_dummy_procedure)) (bare (bytes_eq x the_function) (bytes_eq x the_dummy_procedure))
  where
    none : (a b : Bool) → (if a then record an_integer { class = class.Result } else if b then record an_integer { class = class.DummyProcedure } else record an_integer { class = class.Dummy }).dimensions ≡ []
    none true b = refl
    none false true = refl
    none false false = refl

    bare : (a b : Bool) → (if a then record an_integer { class = class.Result } else if b then record an_integer { class = class.DummyProcedure } else record an_integer { class = class.Dummy }).bounds ≡ []
    bare true b = refl
    bare false true = refl
    bare false false = refl

-- a parameter is not the temporary
function_through : (x : Bytes) (k p : ℕ) → function_address x ≡ Through p → 5 + k ≢ p
function_through x k p is = by (bytes_eq x the_function) (bytes_eq x the_dummy_procedure) is
  where
    parameter_in : Address → ℕ
    parameter_in (Through q) = q
    parameter_in other = 0

    by : (a b : Bool) → (if a then Alone 6 else if b then Through 4 else Through 3) ≡ Through p → 5 + k ≢ p
    by true b h = absurd (cc)
    by false true h = λ same. let four : 4 ≡ p = ap parameter_in h in omega (arith, same, four)
    by false false h = λ same. let three : 3 ≡ p = ap parameter_in h in omega (arith, same, three)

function_no_block : FunctionUnit ≢ BlockDataUnit
function_no_block same = cc

pub function_is_emitted : IsEmittedUnit its_surroundings 1 function_text its_costs function_emission
function_is_emitted = record {
  facts = refl;
  runs = function_no_block;
  items = function_item;
  in_order = λ n st at. omega arith;
  positive = function_costs;
  entry = function_entry;
  only = refl;
  room = refl;
  inside = omega arith;
  apart_rooms = record { rooms = function_rooms; constants = λ j z apart has own. not_false has };
  parameters = named 0 the_dummy _ parameter.Integers _ is_dummy (named_procedure 1 the_dummy_procedure [] (parameter.Function to.Integer) [] is_dummy_procedure (no_parameters 2));
  gives = λ other. absurd (other refl);
  result = λ function. function_result;
  temporaries = λ k numeric. record {
    in_frame = record { index = 2; at = ap (λ n. 5 + n) (eqb-true k 0 numeric); bytes = None ∷ None ∷ None ∷ None ∷ []; is = refl; room = omega arith };
    behind = omega arith;
  };
  apart = λ k numeric. record {
    temporaries = λ j same. omega (arith, same);
    addresses = λ x p is same. function_through x k p is (sym same);
    lengths = λ x same. omega (arith, same, eqb-true k 0 numeric);
    lowers = λ x i saved is. absurd (cc);
    sizes = λ x i saved is. absurd (cc);
  };
  fit = function_fits;
  calls = its_calls;
  sound = λ f x p stored h. function_stored x stored;
  reached = λ f x p stored h. function_stored x stored;
  savings = [];
  bounds = nothing_kept function_emission function_entry.formals function_constant function_fixed;
  begins = refl;
}

-- ## The other one

other_item : (n : ℕ) (st : Step) → slice_get other_steps n ≡ Some st → IsItem its_surroundings other_text other_emission n st
unfolding procedure_items_opened flats_opened numbers_opened types_opened calls_opened in_range
other_item zero st h = subst (IsItem its_surroundings other_text other_emission 0) (some_is _ st h) (record { item = _; emitted = refl; stands = refl })
other_item (suc zero) st h = subst (IsItem its_surroundings other_text other_emission 1) (some_is _ st h) (record { item = _; emitted = refl; stands = refl })
other_item (suc (suc n)) st h = absurd (cc)

other_costs : (n : ℕ) (st : Step) → slice_get other_steps n ≡ Some st → 1 ≤ cost its_costs n
unfolding cost
other_costs zero st h = omega arith
other_costs (suc zero) st h = omega arith
other_costs (suc (suc n)) st h = absurd (cc)

other_keeps : {A : Type 0} (n k : ℕ) (p : Pure) → slice_get other_steps n ≡ Some (Keep k p) → A
other_keeps zero k p h = absurd (cc)
other_keeps (suc zero) k p h = absurd (cc)
other_keeps (suc (suc n)) k p h = absurd (cc)

other_stages : (n : ℕ) (st : Step) → slice_get other_steps n ≡ Some st → stage_behind None st ≡ None
unfolding stage_behind
other_stages zero st h = ap (stage_behind None) (sym (some_is _ st h))
other_stages (suc zero) st h = ap (stage_behind None) (sym (some_is _ st h))
other_stages (suc (suc n)) st h = absurd (cc)

other_outputs : {A : Type 0} (n : ℕ) (st : Step) → slice_get other_steps n ≡ Some st → is_of_output st ≡ true → A
unfolding is_of_output
other_outputs zero st h of = let wrong : false ≡ true = ap is_of_output (some_is _ st h) ∙ of in absurd (cc)
other_outputs (suc zero) st h of = let wrong : false ≡ true = ap is_of_output (some_is _ st h) ∙ of in absurd (cc)
other_outputs (suc (suc n)) st h of = absurd (cc)

other_acts : {A : Type 0} (n : ℕ) (act : Acting) (ps : Pures) (m : ℕ) → slice_get other_steps n ≡ Some (Acts act ps m) → A
other_acts zero act ps m h = absurd (cc)
other_acts (suc zero) act ps m h = absurd (cc)
other_acts (suc (suc n)) act ps m h = absurd (cc)

other_halts : {A : Type 0} (n : ℕ) (text : Bytes) → slice_get other_steps n ≡ Some (Halt text) → A
other_halts zero text h = absurd (cc)
other_halts (suc zero) text h = absurd (cc)
other_halts (suc (suc n)) text h = absurd (cc)

other_fits : StepsFit its_surroundings other_text other_emission other_entry
other_fits = record {
  kinds = λ n st m at among k b is. none_some b is;
  keeps = λ n k p at. other_keeps n k p at;
  stages = λ n st m at among. sym (other_stages n st at);
  outputs = λ n st at of. other_outputs n st at of;
  returns = λ n st at return. refl;
  none_at_first = refl;
  own = refl;
  constants = λ z has. not_false has;
  lists = λ n way layout controls ps m unit at is. other_acts n (Starts way layout controls) ps m at;
  texts = λ n text at. other_halts n text at;
}

is_other_dummy : IsParameter other_text other_emission 0 the_dummy parameter.Integers
unfolding is_numeric is_number_pointer
is_other_dummy = record {
  dummy = refl;
  numeric = refl;
  width = refl;
  pointer = refl;
  address = refl;
  fresh = refl;
}

other_result : ResultIsMade other_text other_emission other_entry
unfolding is_numeric number_result
other_result = record {
  object = 8;
  made = record { in_frame = record { index = 1; at = refl; bytes = None ∷ None ∷ None ∷ None ∷ []; is = refl; room = omega arith }; behind = omega arith };
  own = refl;
  numeric = λ x own. numeric_by (bytes_eq x the_other);
  address = λ x own. address_by (bytes_eq x the_other) own;
  gives = refl;
  apart = λ k numeric. not_false numeric;
}
  where
    numeric_by : (b : Bool) → is_numeric (if b then record an_integer { class = class.Result } else record an_integer { class = class.Dummy }).basic ≡ true
    numeric_by true = refl
    numeric_by false = refl

    address_by : (b : Bool) → (if b then record an_integer { class = class.Result } else record an_integer { class = class.Dummy }).class ≡ class.Result → (if b then Alone 8 else Through 7) ≡ Alone 8
    address_by true own = refl
    address_by false own = absurd (cc)

other_stored : {A : Type 0} (x : Bytes) → (other_attribute x).class ≡ class.Stored → A
other_stored x stored = by (bytes_eq x the_other) stored
  where
    by : {A : Type 0} (b : Bool) → (if b then record an_integer { class = class.Result } else record an_integer { class = class.Dummy }).class ≡ class.Stored → A
    by true h = absurd (cc)
    by false h = absurd (cc)

other_bounds : {A : Type 0} (x : Bytes) (k : ℕ) (b : Bounds) → slice_get (other_attribute x).bounds k ≡ Some b → A
other_bounds x k b h = by (bytes_eq x the_other) h
  where
    by : {A : Type 0} (test : Bool) → slice_get (if test then record an_integer { class = class.Result } else record an_integer { class = class.Dummy }).bounds k ≡ Some b → A
    by true h = nothing_at_all k b h
    by false h = nothing_at_all k b h

other_constant : (x : Bytes) → HasConstantBounds other_emission x
other_constant x = record { fits = λ k b at. other_bounds x k b at; closed = λ k b at more. other_bounds x k b at; lowers = λ k b at. other_bounds x k b at; sizes = λ k b last at upper. other_bounds x k b at }

other_fixed : (x : Bytes) → AreFixed other_emission.writing.facts x
other_fixed x = fixed_by other_emission x (none (bytes_eq x the_other)) (bare (bytes_eq x the_other))
  where
    none : (b : Bool) → (if b then record an_integer { class = class.Result } else record an_integer { class = class.Dummy }).dimensions ≡ []
    none true = refl
    none false = refl

    bare : (b : Bool) → (if b then record an_integer { class = class.Result } else record an_integer { class = class.Dummy }).bounds ≡ []
    bare true = refl
    bare false = refl

other_no_block : FunctionUnit ≢ BlockDataUnit
other_no_block same = cc

pub other_is_emitted : IsEmittedUnit its_surroundings 2 other_text its_costs other_emission
other_is_emitted = record {
  facts = refl;
  runs = other_no_block;
  items = other_item;
  in_order = λ n st at. omega arith;
  positive = other_costs;
  entry = other_entry;
  only = refl;
  room = refl;
  inside = omega arith;
  apart_rooms = record { rooms = other_rooms; constants = λ j z apart has own. not_false has };
  parameters = named 0 the_dummy [] parameter.Integers [] is_other_dummy (no_parameters 1);
  gives = λ other. absurd (other refl);
  result = λ function. other_result;
  temporaries = λ k numeric. not_false numeric;
  apart = λ k numeric. not_false numeric;
  fit = other_fits;
  calls = its_calls;
  sound = λ f x p stored h. other_stored x stored;
  reached = λ f x p stored h. other_stored x stored;
  savings = [];
  bounds = nothing_kept other_emission other_entry.formals other_constant other_fixed;
  begins = refl;
}
