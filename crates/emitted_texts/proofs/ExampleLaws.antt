-- The example is emitted.
use Rattle.std.specs.Prelude.{◌≡◌, ℕ, zero, suc, ◌+◌, ◌≤◌, nat_eq, ℤ, pos, Bool, true, false, ◌||◌, [], ◌∷◌, map, Option, Some, None, slice_get, if◌then◌else◌}
use Rattle.std.specs.Ordering.{int_eq}
use Rattle.std.proofs.Common.{refl, sym, ap, ◌∙◌, subst, arith}
use Rattle.std.proofs.lemmas.Bool.{eqb-true}
use Rattle.std.proofs.lemmas.Bool.Decides.{Decides-int_eq}
use Rattle.output_laws.specs.f_tree.declared.names.Basic.TheVariants as basic
use Rattle.output_laws.specs.f_tree.Values.{Bytes, Spot, Datum, IsInt, IsSpot, Checked, Gives, in_range}
use Rattle.output_laws.specs.f_tree.Facts.{Direction, Layout, Controls, Frame}
use Rattle.output_laws.specs.f_tree.Setting.{IsIn, first_in, later_in}
use Rattle.output_laws.specs.f_tree.Valuing.{stored_at, extent_of, elements_of, named_as, whole}
use Rattle.c_emit_laws.specs.l_core.Pures.{Pures}
use Rattle.c_emit_laws.specs.l_core.Steps.{Starts, Step, Halt, Acts}
use Rattle.c_emit_laws.specs.l_core.Costs.{cost}
use Rattle.output_laws.specs.c_tree.Objects.{bytes_of_number}
use Rattle.c_emit_laws.specs.c_image.Held.{Holds, number_object}
use Rattle.c_emit_laws.specs.c_image.Addresses.{Alone, Reaches, IsSound}
use Rattle.c_emit_laws.specs.c_emit.Calls.{unit_of}
use Rattle.c_emit_laws.specs.c_emit.Flats.{flats_opened}
use Rattle.c_emit_laws.specs.c_emit.Numbers.{numbers_opened}
use Rattle.c_emit_laws.specs.c_emit.Types.{types_opened}
use Rattle.c_emit_laws.specs.c_emit.Calls.{calls_opened}
use Rattle.c_emit_laws.specs.Example.{one_integer}
use Rattle.output_laws.specs.ListedOutputs.{list_object}
use Rattle.emitted_texts.specs.Emitted.{leads, stage_behind, is_of_output, CallsFit, IsItem, IsEmittedMain}
use Rattle.emitted_texts.specs.Example.{its_steps, its_text, its_costs, held_first, its_surroundings, unit_at, its_emission}

some_is : {A : Type 0} (a b : A) → Some a ≡ Some b → a ≡ b
some_is a b h = cc

item_at : (n : ℕ) (st : Step) → slice_get its_steps n ≡ Some st → IsItem its_text its_emission n st
unfolding flats_opened numbers_opened types_opened calls_opened in_range
item_at zero st h = subst (IsItem its_text its_emission 0) (some_is _ st h) (record { item = _; emitted = refl; stands = refl })
item_at (suc zero) st h = subst (IsItem its_text its_emission 1) (some_is _ st h) (record { item = _; emitted = refl; stands = refl })
item_at (suc (suc zero)) st h = subst (IsItem its_text its_emission 2) (some_is _ st h) (record { item = _; emitted = refl; stands = refl })
item_at (suc (suc (suc zero))) st h = subst (IsItem its_text its_emission 3) (some_is _ st h) (record { item = _; emitted = refl; stands = refl })
item_at (suc (suc (suc (suc zero)))) st h = subst (IsItem its_text its_emission 4) (some_is _ st h) (record { item = _; emitted = refl; stands = refl })
item_at (suc (suc (suc (suc (suc n))))) st h = absurd (cc)

costs_something : (n : ℕ) (st : Step) → slice_get its_steps n ≡ Some st → 1 ≤ cost its_costs n
unfolding cost
costs_something zero st h = omega arith
costs_something (suc zero) st h = omega arith
costs_something (suc (suc zero)) st h = omega arith
costs_something (suc (suc (suc zero))) st h = omega arith
costs_something (suc (suc (suc (suc zero)))) st h = omega arith
costs_something (suc (suc (suc (suc (suc n))))) st h = absurd (cc)

none_led : {A : Type 0} (m : ℕ) → IsIn m [] → A
none_led m among = elim among [ ]

led_to : (m a : ℕ) → IsIn m (a ∷ []) → m ≡ a
led_to m _ first_in = refl
led_to m a (later_in among) = none_led m among

nothing_at : {A : Type 0} (m : ℕ) (unit : ℤ) → unit_at m ≡ None → unit_at m ≡ Some unit → A
nothing_at m unit none some = absurd (cc)

-- the unit before the step that comes next is the one behind this one
staged : (n : ℕ) (st : Step) (m : ℕ) → slice_get its_steps n ≡ Some st → IsIn m (leads its_text n st) → (unit : ℤ) → unit_at m ≡ Some unit → stage_behind (unit_at n) st ≡ Some unit
unfolding leads stage_behind unit_of
staged zero st m h among unit is =
    let to_next : m ≡ 1 = led_to m 1 (subst (λ o. IsIn m (leads its_text 0 o)) (sym (some_is _ st h)) among) in
    nothing_at m unit (ap unit_at to_next) is
staged (suc zero) st m h among unit is =
    let to_next : m ≡ 2 = led_to m 2 (subst (λ o. IsIn m (leads its_text 1 o)) (sym (some_is _ st h)) among) in
    subst (λ o. stage_behind None o ≡ Some unit) (some_is _ st h) (sym (ap unit_at to_next) ∙ is)
staged (suc (suc zero)) st m h among unit is =
    let to_next : m ≡ 3 = led_to m 3 (subst (λ o. IsIn m (leads its_text 2 o)) (sym (some_is _ st h)) among) in
    subst (λ o. stage_behind (Some (pos 6)) o ≡ Some unit) (some_is _ st h) (sym (ap unit_at to_next) ∙ is)
staged (suc (suc (suc zero))) st m h among unit is =
    let to_next : m ≡ 4 = led_to m 4 (subst (λ o. IsIn m (leads its_text 3 o)) (sym (some_is _ st h)) among) in
    nothing_at m unit (ap unit_at to_next) is
staged (suc (suc (suc (suc zero)))) st m h among unit is = none_led m (subst (λ o. IsIn m (leads its_text 4 o)) (sym (some_is _ st h)) among)
staged (suc (suc (suc (suc (suc n))))) st m h among unit is = absurd (cc)

outputs_on : (n : ℕ) (st : Step) → slice_get its_steps n ≡ Some st → is_of_output st ≡ true → (unit : ℤ) × (unit_at n ≡ Some unit)
unfolding is_of_output
outputs_on zero st h of = let wrong : false ≡ true = ap is_of_output (some_is _ st h) ∙ of in absurd (cc)
outputs_on (suc zero) st h of = let wrong : false ≡ true = ap is_of_output (some_is _ st h) ∙ of in absurd (cc)
outputs_on (suc (suc zero)) st h of = (pos 6, refl)
outputs_on (suc (suc (suc zero))) st h of = (pos 6, refl)
outputs_on (suc (suc (suc (suc zero)))) st h of = let wrong : false ≡ true = ap is_of_output (some_is _ st h) ∙ of in absurd (cc)
outputs_on (suc (suc (suc (suc (suc n))))) st h of = absurd (cc)

-- the constants
one_held : Holds (Some (number_object (pos 1))) (IsInt (pos 1))
unfolding in_range
one_held = record { bytes = map Some (bytes_of_number (pos 1)); is = refl; begins = (refl, refl) }

three_held : Holds (Some (number_object (pos 3))) (IsInt (pos 3))
unfolding in_range
three_held = record { bytes = map Some (bytes_of_number (pos 3)); is = refl; begins = (refl, refl) }

constant_by : (z : ℤ) (one three : Bool) → int_eq z (pos 1) ≡ one → int_eq z (pos 3) ≡ three → one || three ≡ true → Holds (held_first (if one then 0 else 1)) (IsInt z)
constant_by z true three is_one is_three h = subst (λ n. Holds (Some (number_object (pos 1))) (IsInt n)) (sym ((Decides-int_eq z (pos 1)).0 is_one)) one_held
constant_by z false true is_one is_three h = subst (λ n. Holds (Some (number_object (pos 3))) (IsInt n)) (sym ((Decides-int_eq z (pos 3)).0 is_three)) three_held
constant_by z false false is_one is_three h = absurd (cc)

list_held : (n : ℕ) (way : Direction) (layout : Layout) (controls : Controls) (ps : Pures) (m : ℕ) (unit : ℤ) → slice_get its_steps n ≡ Some (Acts (Starts way layout controls) ps m) → unit_of ps ≡ Some unit → Some (list_object (pos 6)) ≡ Some (list_object unit)
unfolding unit_of
list_held zero way layout controls ps m unit h is = absurd (cc)
list_held (suc zero) way layout controls ps m unit h is =
    let same : pos 6 ≡ unit = some_is (pos 6) unit (ap unit_of (operands_in h) ∙ is) in ap (λ z. Some (list_object z)) same
  where
    operands_of : Option Step → Pures
    operands_of (Some (Acts act ps m)) = ps
    operands_of _ = ps

    operands_in : slice_get its_steps 1 ≡ Some (Acts (Starts way layout controls) ps m) → operands_of (slice_get its_steps 1) ≡ ps
    operands_in h = ap operands_of h
list_held (suc (suc zero)) way layout controls ps m unit h is = absurd (cc)
list_held (suc (suc (suc zero))) way layout controls ps m unit h is = absurd (cc)
list_held (suc (suc (suc (suc zero)))) way layout controls ps m unit h is = absurd (cc)
list_held (suc (suc (suc (suc (suc n))))) way layout controls ps m unit h is = absurd (cc)

no_stop : {A : Type 0} (n : ℕ) (text : Bytes) → slice_get its_steps n ≡ Some (Halt text) → A
no_stop zero text h = absurd (cc)
no_stop (suc zero) text h = absurd (cc)
no_stop (suc (suc zero)) text h = absurd (cc)
no_stop (suc (suc (suc zero))) text h = absurd (cc)
no_stop (suc (suc (suc (suc zero)))) text h = absurd (cc)
no_stop (suc (suc (suc (suc (suc n))))) text h = absurd (cc)

none_some : {A B : Type 0} (a : A) → None ≡ Some a → B
none_some a h = absurd (cc)

calls_fit : CallsFit its_surroundings its_text its_emission
calls_fit = record {
  kinds = λ n st m at among k b kind. none_some b kind;
  stages = staged;
  outputs = outputs_on;
  none_at_first = refl;
  own = refl;
  constants = λ z has. constant_by z (int_eq z (pos 1)) (int_eq z (pos 3)) refl refl has;
  lists = list_held;
  texts = λ n text at. no_stop n text at;
}

-- the place of each name
its_spot : Spot
its_spot = record { basic = basic.Integer; sequence = 0; first = 0; extent = 4; width = 4 }

spot_in : Spot → Checked Datum → Spot
spot_in p (Gives (IsSpot q)) = q
spot_in p r = p

spot_is : (f : Frame) (x : Bytes) (p : Spot) → whole one_integer f x ≡ Gives (IsSpot p) → its_spot ≡ p
unfolding whole named_as stored_at extent_of elements_of its_spot spot_in
spot_is f x p h = ap (spot_in p) h

numbers_one : (k : ℕ) → nat_eq k 0 ≡ true → k ≡ 0
numbers_one k h = eqb-true k 0 h

nothing_at_all : {A B : Type 0} (k : ℕ) (b : A) → slice_get [] k ≡ Some b → B
nothing_at_all zero b h = absurd (cc)
nothing_at_all (suc k) b h = absurd (cc)

pub example_is_emitted : IsEmittedMain its_surroundings 0 its_text its_costs its_emission
unfolding its_spot
example_is_emitted = record {
  facts = refl;
  kind = refl;
  items = item_at;
  in_order = λ n st at. omega arith;
  positive = costs_something;
  entry = record { name = []; formals = []; start = 0 };
  only = refl;
  no_dummies = refl;
  at_first = refl;
  begins = refl;
  room = refl;
  inside = omega arith;
  result = refl;
  parameters = refl;
  temporaries = λ k numeric. record { index = 0; at = ap (λ n. 4 + n) (numbers_one k numeric); bytes = None ∷ None ∷ None ∷ None ∷ []; is = refl; room = omega arith };
  apart = λ k numeric. record {
    temporaries = λ j same. omega (arith, same);
    addresses = λ x parameter is. absurd (cc);
    lengths = λ x same. omega (arith, same, numbers_one k numeric);
    lowers = λ x i saved is. absurd (cc);
    sizes = λ x i saved is. absurd (cc);
  };
  calls = calls_fit;
  sound = λ f x p stored h. subst (IsSound its_surroundings.first) (spot_is f x p h) (record { there = omega arith; shaped = (refl, refl); inside = omega arith });
  reached = λ f x p stored h. subst (λ q. Reaches its_surroundings.first q (Alone 2)) (spot_is f x p h) (refl, refl);
  fits = λ x k b at. nothing_at_all k b at;
  closed = λ x k b at more. nothing_at_all k b at;
  lowers = λ x k b at. nothing_at_all k b at;
  sizes = λ x k b last at upper. nothing_at_all k b at;
}
