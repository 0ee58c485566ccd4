-- The example is translated.
use Rattle.std.specs.Prelude.{◌≡◌, ℕ, zero, suc, ◌<◌, ◌≤◌, nat_lt, Bool, true, false, [], ◌∷◌, length, Some, None, slice_get, bytes_eq, if◌then◌else◌, map, ◌||◌, pos, ℤ, List, Option}
use Rattle.std.proofs.Common.{refl, sym, ap, ◌∙◌, subst, arith}
use Rattle.lowering_laws.specs.simulation.LocalSimulation.{Local}
use Rattle.lowering_laws.specs.run_state.Units.{Units}
use Rattle.lowering_laws.specs.f_tree.declared.names.Basic.TheVariants as basic
use Rattle.lowering_laws.specs.f_tree.Values.{Bytes, Spot, Datum, IsInt, IsSpot, Checked, Gives, in_range}
use Rattle.lowering_laws.specs.f_tree.Store.{Sequence, Cell, Undefined, store_opened}
use Rattle.lowering_laws.specs.f_tree.Facts.{Home, Member, Frame, ProgramUnit, EntryPoint, Direction, Layout, Controls}
use Rattle.lowering_laws.specs.f_tree.Setting.{IsIn, first_in, later_in, HasUnit, unit_home, setting_opened}
use Rattle.lowering_laws.specs.f_tree.Valuing.{whole, named_as, stored_at, extent_of, elements_of}
use Rattle.lowering_laws.specs.f_tree.Images.{images_opened}
use Rattle.lowering_laws.specs.f_tree.World.{Called, TheMain}
use Rattle.lowering_laws.specs.f_tree.Meaning.{found_from, facts_at, start_world, world_with, answers_to}
use Rattle.lowering_laws.specs.l_core.Pures.{Pures}
use Rattle.lowering_laws.specs.l_core.Steps.{Step, Acts, Starts, Halt}
use Rattle.lowering_laws.specs.l_core.Costs.{cost, rest}
use Rattle.lowering_laws.specs.lowering.Units.{lowered_unit}
use Rattle.lowering_laws.specs.Layer.{IsLaidOut, lower_couple, others_opened}
use Rattle.lowering_laws.specs.Layout.{LoopsFit, with_loops, layout_opened}
use Rattle.lowered_rows.specs.Examples.{letter, example_opened}
use Rattle.lowering_laws.proofs.LayoutLemmas.{laid_out}
use Rattle.lowering_laws.proofs.LocalLemmas.{simulates}
use Rattle.emitted_texts.specs.c_tree.Objects as objects_of
use Rattle.emitted_texts.specs.c_tree.Objects.{Object, bytes_of_number}
use Rattle.emitted_texts.specs.c_tree.Opened.{trees_opened}
use Rattle.emitted_texts.specs.c_tree.Linking as linking
use Rattle.emitted_texts.specs.c_tree.Linking.{program}
use Rattle.emitted_texts.specs.c_tree.Meaning.{text_of, main_number, step_factor}
use Rattle.emitted_texts.specs.faithful.Opened.{faithful_opened}
use Rattle.emitted_texts.specs.faithful.StorageImage.{NamesStand, StandsInItsObject, function_number, byte_for, cell_of}
use Rattle.emitted_texts.specs.faithful.FrameImage as frames
use Rattle.emitted_texts.specs.faithful.FrameImage.{ProcedureStands}
use Rattle.std.specs.Ordering.{int_eq}
use Rattle.std.proofs.lemmas.Bool.Decides.{Decides-int_eq}
use Rattle.emitted_texts.specs.c_image.Held.{Holds, number_object}
use Rattle.emitted_texts.specs.output_laws.ListedOutputs.{list_object}
use Rattle.emitted_texts.specs.c_image.Standing.{Stands, IsHoused, AreInRange, IsInRange, HasRoom}
use Rattle.emitted_texts.specs.c_image.Addresses.{Reaches, IsSound, Alone}
use Rattle.emitted_texts.specs.c_emit.Numbers.{numbers_opened}
use Rattle.emitted_texts.specs.c_emit.Types.{types_opened}
use Rattle.emitted_texts.specs.c_emit.Calls.{unit_of, calls_opened}
use Rattle.emitted_texts.specs.c_emit.Flats.{flats_opened}
use Rattle.emitted_texts.specs.SecondLayer.{emit_couple}
use Rattle.emitted_texts.specs.Emitted.{IsItem, leads, stage_behind, is_of_output, CallsFit, IsEmittedMain}
use Rattle.emitted_texts.proofs.Simulated.{mains_are_simulated}
use Rattle.bridge.specs.Bridge.{is_wrapper, FramesStand, UnitIsTranslated, IsTranslated}
use Rattle.bridge.specs.Example.{its_unit, its_units, its_setting, its_facts, its_steps, its_text, its_costs, its_files, held_first, its_surroundings, unit_at, emission_by, its_translation}

-- ## Lowering

pub example_lowered : lowered_unit its_facts ≡ Some its_text
unfolding example_opened
example_lowered = refl

loops_fit : LoopsFit its_unit
unfolding example_opened layout_opened others_opened
loops_fit = with_loops (record { nested = record { ended = refl; contained = refl }; blocks = refl; branches = refl; entries = refl })

laid : IsLaidOut its_text
unfolding example_opened layout_opened others_opened
laid = laid_out its_facts its_text example_lowered refl refl loops_fit

some_is : {A : Type 0} (a b : A) → Some a ≡ Some b → a ≡ b
some_is a b h = cc

none_some : {A B : Type 0} (a : A) → None ≡ Some a → B
none_some a h = absurd (cc)

no_truth : {A : Type 0} → false ≡ true → A
no_truth h = absurd (cc)

costs_something : (n : ℕ) (st : Step) → slice_get its_steps n ≡ Some st → 1 ≤ cost its_costs n
unfolding cost
costs_something zero st h = omega arith
costs_something (suc zero) st h = omega arith
costs_something (suc (suc zero)) st h = omega arith
costs_something (suc (suc (suc zero))) st h = omega arith
costs_something (suc (suc (suc (suc zero)))) st h = omega arith
costs_something (suc (suc (suc (suc (suc zero))))) st h = omega arith
costs_something (suc (suc (suc (suc (suc (suc zero)))))) st h = omega arith
costs_something (suc (suc (suc (suc (suc (suc (suc zero))))))) st h = omega arith
costs_something (suc (suc (suc (suc (suc (suc (suc (suc zero)))))))) st h = omega arith
costs_something (suc (suc (suc (suc (suc (suc (suc (suc (suc zero))))))))) st h = omega arith
costs_something (suc (suc (suc (suc (suc (suc (suc (suc (suc (suc n)))))))))) st h = absurd (cc)

upper : Local (lower_couple 0 its_text its_costs)
upper = simulates 0 its_text its_costs laid costs_something

-- ## Emission

item_at : (n : ℕ) (st : Step) → slice_get its_steps n ≡ Some st → IsItem its_text (emission_by 0) n st
unfolding flats_opened numbers_opened types_opened calls_opened in_range
item_at zero st h = subst (IsItem its_text (emission_by 0) 0) (some_is _ st h) (record { item = _; emitted = refl; stands = refl })
item_at (suc zero) st h = subst (IsItem its_text (emission_by 0) 1) (some_is _ st h) (record { item = _; emitted = refl; stands = refl })
item_at (suc (suc zero)) st h = subst (IsItem its_text (emission_by 0) 2) (some_is _ st h) (record { item = _; emitted = refl; stands = refl })
item_at (suc (suc (suc zero))) st h = subst (IsItem its_text (emission_by 0) 3) (some_is _ st h) (record { item = _; emitted = refl; stands = refl })
item_at (suc (suc (suc (suc zero)))) st h = subst (IsItem its_text (emission_by 0) 4) (some_is _ st h) (record { item = _; emitted = refl; stands = refl })
item_at (suc (suc (suc (suc (suc zero))))) st h = subst (IsItem its_text (emission_by 0) 5) (some_is _ st h) (record { item = _; emitted = refl; stands = refl })
item_at (suc (suc (suc (suc (suc (suc zero)))))) st h = subst (IsItem its_text (emission_by 0) 6) (some_is _ st h) (record { item = _; emitted = refl; stands = refl })
item_at (suc (suc (suc (suc (suc (suc (suc zero))))))) st h = subst (IsItem its_text (emission_by 0) 7) (some_is _ st h) (record { item = _; emitted = refl; stands = refl })
item_at (suc (suc (suc (suc (suc (suc (suc (suc zero)))))))) st h = subst (IsItem its_text (emission_by 0) 8) (some_is _ st h) (record { item = _; emitted = refl; stands = refl })
item_at (suc (suc (suc (suc (suc (suc (suc (suc (suc zero))))))))) st h = subst (IsItem its_text (emission_by 0) 9) (some_is _ st h) (record { item = _; emitted = refl; stands = refl })
item_at (suc (suc (suc (suc (suc (suc (suc (suc (suc (suc n)))))))))) st h = absurd (cc)

-- no output is on where these lead
data AreQuiet : List ℕ → Type 0 where
  no_ways : AreQuiet []
  and_way : {m : ℕ} {ms : List ℕ} → unit_at m ≡ None → AreQuiet ms → AreQuiet (m ∷ ms)

never : {A : Type 0} (m : ℕ) (ms : List ℕ) (unit : ℤ) → AreQuiet ms → IsIn m ms → unit_at m ≡ Some unit → A
never m [] unit quiet among is = elim among [ ]
never m (k ∷ ms) unit (and_way none rest) first_in is = none_some unit (sym none ∙ is)
never m (k ∷ ms) unit (and_way none rest) (later_in among) is = never m ms unit rest among is

led_to : (m a : ℕ) → IsIn m (a ∷ []) → m ≡ a
led_to m _ first_in = refl
led_to m a (later_in among) = elim among [ ]

-- the unit before the step that comes next is the one behind this one
staged : (n : ℕ) (st : Step) (m : ℕ) → slice_get its_steps n ≡ Some st → IsIn m (leads its_text n st) → (unit : ℤ) → unit_at m ≡ Some unit → stage_behind (unit_at n) st ≡ Some unit
unfolding leads stage_behind unit_of
staged zero st m h among unit is = never m _ unit (and_way refl no_ways) (subst (λ o. IsIn m (leads its_text 0 o)) (sym (some_is _ st h)) among) is
staged (suc zero) st m h among unit is = never m _ unit (and_way refl no_ways) (subst (λ o. IsIn m (leads its_text 1 o)) (sym (some_is _ st h)) among) is
staged (suc (suc zero)) st m h among unit is = never m _ unit (and_way refl (and_way refl no_ways)) (subst (λ o. IsIn m (leads its_text 2 o)) (sym (some_is _ st h)) among) is
staged (suc (suc (suc zero))) st m h among unit is = never m _ unit (and_way refl no_ways) (subst (λ o. IsIn m (leads its_text 3 o)) (sym (some_is _ st h)) among) is
staged (suc (suc (suc (suc zero)))) st m h among unit is = never m _ unit (and_way refl no_ways) (subst (λ o. IsIn m (leads its_text 4 o)) (sym (some_is _ st h)) among) is
staged (suc (suc (suc (suc (suc zero))))) st m h among unit is = never m _ unit (and_way refl no_ways) (subst (λ o. IsIn m (leads its_text 5 o)) (sym (some_is _ st h)) among) is
staged (suc (suc (suc (suc (suc (suc zero)))))) st m h among unit is =
    let to_next : m ≡ 7 = led_to m 7 (subst (λ o. IsIn m (leads its_text 6 o)) (sym (some_is _ st h)) among) in
    subst (λ o. stage_behind (unit_at 6) o ≡ Some unit) (some_is _ st h) (sym (ap unit_at to_next) ∙ is)
staged (suc (suc (suc (suc (suc (suc (suc zero))))))) st m h among unit is =
    let to_next : m ≡ 8 = led_to m 8 (subst (λ o. IsIn m (leads its_text 7 o)) (sym (some_is _ st h)) among) in
    subst (λ o. stage_behind (unit_at 7) o ≡ Some unit) (some_is _ st h) (sym (ap unit_at to_next) ∙ is)
staged (suc (suc (suc (suc (suc (suc (suc (suc zero)))))))) st m h among unit is = never m _ unit (and_way refl no_ways) (subst (λ o. IsIn m (leads its_text 8 o)) (sym (some_is _ st h)) among) is
staged (suc (suc (suc (suc (suc (suc (suc (suc (suc zero))))))))) st m h among unit is = never m _ unit no_ways (subst (λ o. IsIn m (leads its_text 9 o)) (sym (some_is _ st h)) among) is
staged (suc (suc (suc (suc (suc (suc (suc (suc (suc (suc n)))))))))) st m h among unit is = absurd (cc)

outputs_on : (n : ℕ) (st : Step) → slice_get its_steps n ≡ Some st → is_of_output st ≡ true → (unit : ℤ) × (unit_at n ≡ Some unit)
unfolding is_of_output
outputs_on zero st h of = no_truth (ap is_of_output (some_is _ st h) ∙ of)
outputs_on (suc zero) st h of = no_truth (ap is_of_output (some_is _ st h) ∙ of)
outputs_on (suc (suc zero)) st h of = no_truth (ap is_of_output (some_is _ st h) ∙ of)
outputs_on (suc (suc (suc zero))) st h of = no_truth (ap is_of_output (some_is _ st h) ∙ of)
outputs_on (suc (suc (suc (suc zero)))) st h of = no_truth (ap is_of_output (some_is _ st h) ∙ of)
outputs_on (suc (suc (suc (suc (suc zero))))) st h of = no_truth (ap is_of_output (some_is _ st h) ∙ of)
outputs_on (suc (suc (suc (suc (suc (suc zero)))))) st h of = no_truth (ap is_of_output (some_is _ st h) ∙ of)
outputs_on (suc (suc (suc (suc (suc (suc (suc zero))))))) st h of = (pos 6, refl)
outputs_on (suc (suc (suc (suc (suc (suc (suc (suc zero)))))))) st h of = (pos 6, refl)
outputs_on (suc (suc (suc (suc (suc (suc (suc (suc (suc zero))))))))) st h of = no_truth (ap is_of_output (some_is _ st h) ∙ of)
outputs_on (suc (suc (suc (suc (suc (suc (suc (suc (suc (suc n)))))))))) st h of = absurd (cc)

-- the constants
one_held : Holds (Some (number_object (pos 1))) (IsInt (pos 1))
unfolding in_range
one_held = record { bytes = map Some (bytes_of_number (pos 1)); is = refl; begins = (refl, refl) }

three_held : Holds (Some (number_object (pos 3))) (IsInt (pos 3))
unfolding in_range
three_held = record { bytes = map Some (bytes_of_number (pos 3)); is = refl; begins = (refl, refl) }

constant_by : (z : ℤ) (one three : Bool) → int_eq z (pos 1) ≡ one → int_eq z (pos 3) ≡ three → one || three ≡ true → Holds (held_first (if one then 0 else 1)) (IsInt z)
constant_by z true three is_one is_three h = subst (λ n. Holds (Some (number_object (pos 1))) (IsInt n)) (sym ((Decides-int_eq z (pos 1)).0 is_one)) one_held
constant_by z false true is_one is_three h = subst (λ n. Holds (Some (number_object (pos 3))) (IsInt n)) (sym ((Decides-int_eq z (pos 3)).0 is_three)) three_held
constant_by z false false is_one is_three h = absurd (cc)

operands_of : Pures → Option Step → Pures
operands_of qs (Some (Acts act ps m)) = ps
operands_of qs st = qs

list_held : (n : ℕ) (way : Direction) (layout : Layout) (controls : Controls) (ps : Pures) (m : ℕ) (unit : ℤ) → slice_get its_steps n ≡ Some (Acts (Starts way layout controls) ps m) → unit_of ps ≡ Some unit → Some (list_object (pos 6)) ≡ Some (list_object unit)
unfolding unit_of operands_of
list_held zero way layout controls ps m unit h is = absurd (cc)
list_held (suc zero) way layout controls ps m unit h is = absurd (cc)
list_held (suc (suc zero)) way layout controls ps m unit h is = absurd (cc)
list_held (suc (suc (suc zero))) way layout controls ps m unit h is = absurd (cc)
list_held (suc (suc (suc (suc zero)))) way layout controls ps m unit h is = absurd (cc)
list_held (suc (suc (suc (suc (suc zero))))) way layout controls ps m unit h is = absurd (cc)
list_held (suc (suc (suc (suc (suc (suc zero)))))) way layout controls ps m unit h is = let same : pos 6 ≡ unit = some_is (pos 6) unit (ap unit_of (ap (operands_of ps) h) ∙ is) in ap (λ z. Some (list_object z)) same
list_held (suc (suc (suc (suc (suc (suc (suc zero))))))) way layout controls ps m unit h is = absurd (cc)
list_held (suc (suc (suc (suc (suc (suc (suc (suc zero)))))))) way layout controls ps m unit h is = absurd (cc)
list_held (suc (suc (suc (suc (suc (suc (suc (suc (suc zero))))))))) way layout controls ps m unit h is = absurd (cc)
list_held (suc (suc (suc (suc (suc (suc (suc (suc (suc (suc n)))))))))) way layout controls ps m unit h is = absurd (cc)

no_stop : {A : Type 0} (n : ℕ) (text : Bytes) → slice_get its_steps n ≡ Some (Halt text) → A
no_stop zero text h = absurd (cc)
no_stop (suc zero) text h = absurd (cc)
no_stop (suc (suc zero)) text h = absurd (cc)
no_stop (suc (suc (suc zero))) text h = absurd (cc)
no_stop (suc (suc (suc (suc zero)))) text h = absurd (cc)
no_stop (suc (suc (suc (suc (suc zero))))) text h = absurd (cc)
no_stop (suc (suc (suc (suc (suc (suc zero)))))) text h = absurd (cc)
no_stop (suc (suc (suc (suc (suc (suc (suc zero))))))) text h = absurd (cc)
no_stop (suc (suc (suc (suc (suc (suc (suc (suc zero)))))))) text h = absurd (cc)
no_stop (suc (suc (suc (suc (suc (suc (suc (suc (suc zero))))))))) text h = absurd (cc)
no_stop (suc (suc (suc (suc (suc (suc (suc (suc (suc (suc n)))))))))) text h = absurd (cc)

none_first : unit_at (its_text.begins 0) ≡ None
unfolding example_opened
none_first = refl

calls_fit : CallsFit its_surroundings its_text (emission_by 0)
calls_fit = record {
  kinds = λ n st m at among k b kind. none_some b kind;
  stages = staged;
  outputs = outputs_on;
  none_at_first = none_first;
  own = refl;
  constants = λ z has. constant_by z (int_eq z (pos 1)) (int_eq z (pos 3)) refl refl has;
  lists = list_held;
  texts = λ n text at. no_stop n text at;
}

-- ## Places

spot_of : ℕ → Spot
spot_of n = record { basic = basic.Integer; sequence = n; first = 0; extent = 4; width = 4 }

-- the home of a name, and its object
data IsPlaced (x : Bytes) (p : Spot) : Type 0 where
  first_name : bytes_eq (letter 107) x ≡ true → record { basic = basic.Integer; sequence = 0; first = 0; extent = 4; width = 4 } ≡ p → IsPlaced x p
  second_name : bytes_eq (letter 107) x ≡ false → record { basic = basic.Integer; sequence = 1; first = 0; extent = 4; width = 4 } ≡ p → IsPlaced x p

spot_in : Spot → Checked Datum → Spot
spot_in p (Gives (IsSpot q)) = q
spot_in p r = p

placed : (f : Frame) (x : Bytes) (p : Spot) → whole its_facts f x ≡ Gives (IsSpot p) → IsPlaced x p
unfolding whole named_as stored_at extent_of elements_of spot_in setting_opened
placed f x p h = by (bytes_eq (letter 107) x) (bytes_eq (letter 105) x) refl h
  where
    by : (k i : Bool) → bytes_eq (letter 107) x ≡ k
        → stored_at (its_unit.attribute x) (Some 4) (if k then Some (record { sequence = 0; first = 0 }) else if i then Some (record { sequence = 1; first = 0 }) else None) ≡ Gives (IsSpot p) → IsPlaced x p
    by true i is g = first_name is (ap (spot_in p) g)
    by false true is g = second_name is (ap (spot_in p) g)
    by false false is g = absurd (cc)

sound_by : (x : Bytes) (p : Spot) → IsPlaced x p → IsSound its_surroundings.first p
sound_by x p (first_name is same) = subst (IsSound its_surroundings.first) same (record { there = omega arith; shaped = (refl, refl); inside = omega arith })
sound_by x p (second_name is same) = subst (IsSound its_surroundings.first) same (record { there = omega arith; shaped = (refl, refl); inside = omega arith })

reached_by : (x : Bytes) (p : Spot) → IsPlaced x p → Reaches its_surroundings.first p (if bytes_eq (letter 107) x then Alone 2 else Alone 3)
reached_by x p (first_name is same) = subst (λ b. Reaches its_surroundings.first p (if b then Alone 2 else Alone 3)) (sym is) (subst (λ q. Reaches its_surroundings.first q (Alone 2)) same (refl, refl))
reached_by x p (second_name is same) = subst (λ b. Reaches its_surroundings.first p (if b then Alone 2 else Alone 3)) (sym is) (subst (λ q. Reaches its_surroundings.first q (Alone 3)) same (refl, refl))

nothing_at_all : {A B : Type 0} (k : ℕ) (b : A) → slice_get [] k ≡ Some b → B
nothing_at_all zero b h = absurd (cc)
nothing_at_all (suc k) b h = absurd (cc)

emitted : IsEmittedMain its_surroundings 0 its_text its_costs (emission_by 0)
unfolding example_opened
emitted = record {
  facts = refl;
  kind = refl;
  items = item_at;
  in_order = λ n st at. omega arith;
  positive = costs_something;
  entry = record { name = []; formals = []; start = 0 };
  only = refl;
  no_dummies = refl;
  at_first = refl;
  begins = refl;
  room = refl;
  inside = omega arith;
  result = refl;
  parameters = refl;
  temporaries = λ k numeric. no_truth numeric;
  apart = λ k numeric. no_truth numeric;
  calls = calls_fit;
  sound = λ f x p stored h. sound_by x p (placed f x p h);
  reached = λ f x p stored h. reached_by x p (placed f x p h);
  fits = λ x k b at. nothing_at_all k b at;
  closed = λ x k b at more. nothing_at_all k b at;
  lowers = λ x k b at. nothing_at_all k b at;
  sizes = λ x k b last at upper. nothing_at_all k b at;
}

lower : Local (emit_couple its_surroundings 0 its_text its_costs (emission_by 0))
lower = mains_are_simulated its_surroundings 0 its_text its_costs (emission_by 0) emitted

-- ## The linked program

its_linked : linking.Program
its_linked = record {
  functions = (emission_by 0).function ∷ [];
  objects =
      number_object (pos 1) ∷ number_object (pos 3) ∷ objects_of.Bytes (Some 0 ∷ Some 0 ∷ Some 0 ∷ Some 0 ∷ []) ∷ objects_of.Bytes (Some 0 ∷ Some 0 ∷ Some 0 ∷ Some 0 ∷ []) ∷ list_object (pos 6) ∷ [];
}

program_is : program its_files ≡ its_linked
unfolding program trees_opened its_linked
program_is = refl

factor_is : step_factor its_files ≡ 10
unfolding step_factor trees_opened
factor_is = refl

rest_is : rest its_costs 0 ≡ 10
unfolding rest
rest_is = refl

named : function_number its_files its_unit ≡ Some 0
unfolding faithful_opened
named = refl

-- ## Storage

its_cells : Sequence
its_cells = record { cells = Undefined ∷ Undefined ∷ Undefined ∷ Undefined ∷ []; read_only = false }

store_is : (units : Units) → (start_world its_setting its_units units).store ≡ its_cells ∷ its_cells ∷ []
unfolding start_world world_with images_opened store_opened its_cells
store_is units = refl

undefined_alone : (place : ℕ) (cell : Cell) → slice_get its_cells.cells place ≡ Some cell → Undefined ≡ cell
unfolding its_cells
undefined_alone zero cell h = some_is Undefined cell h
undefined_alone (suc zero) cell h = some_is Undefined cell h
undefined_alone (suc (suc zero)) cell h = some_is Undefined cell h
undefined_alone (suc (suc (suc zero))) cell h = some_is Undefined cell h
undefined_alone (suc (suc (suc (suc place)))) cell h = absurd (cc)

in_range_all : AreInRange its_cells.cells
in_range_all place cell h = subst IsInRange (undefined_alone place cell h) tt

housed : (n : ℕ) (q : Sequence) → slice_get (its_cells ∷ its_cells ∷ []) n ≡ Some q → IsHoused its_surroundings.first its_linked.objects n q
unfolding its_cells its_linked
housed zero q h = subst (IsHoused its_surroundings.first its_linked.objects 0) (some_is its_cells q h) (record {
  sized = refl;
  locked = refl;
  in_range = in_range_all;
  room = λ object is. subst (λ k. HasRoom 4 (slice_get its_linked.objects k)) (some_is 2 object is) (record { bytes = _; is = refl; room = omega arith });
})
housed (suc zero) q h = subst (IsHoused its_surroundings.first its_linked.objects 1) (some_is its_cells q h) (record {
  sized = refl;
  locked = refl;
  in_range = in_range_all;
  room = λ object is. subst (λ k. HasRoom 4 (slice_get its_linked.objects k)) (some_is 3 object is) (record { bytes = _; is = refl; room = omega arith });
})
housed (suc (suc n)) q h = absurd (cc)

apart : (n m object : ℕ) → slice_get (2 ∷ 3 ∷ []) n ≡ Some object → slice_get (2 ∷ 3 ∷ []) m ≡ Some object → m ≡ n
apart zero zero object one other = refl
apart zero (suc zero) object one other = let no : 2 ≡ 3 = some_is 2 object one ∙ sym (some_is 3 object other) in omega (arith, no)
apart (suc zero) zero object one other = let no : 3 ≡ 2 = some_is 3 object one ∙ sym (some_is 2 object other) in omega (arith, no)
apart (suc zero) (suc zero) object one other = refl
apart (suc (suc n)) m object one other = absurd (cc)
apart n (suc (suc m)) object one other = absurd (cc)

not_held : (n object : ℕ) → slice_get (2 ∷ 3 ∷ []) n ≡ Some object → held_first object ≡ None
not_held zero object h = ap held_first (sym (some_is 2 object h))
not_held (suc zero) object h = ap held_first (sym (some_is 3 object h))
not_held (suc (suc n)) object h = absurd (cc)

held_there : (k : ℕ) (object : Object) → held_first k ≡ Some object → slice_get its_linked.objects k ≡ Some object
unfolding its_linked
held_there zero object h = h
held_there (suc zero) object h = h
held_there (suc (suc zero)) object h = none_some object h
held_there (suc (suc (suc zero))) object h = none_some object h
held_there (suc (suc (suc (suc zero)))) object h = h
held_there (suc (suc (suc (suc (suc k))))) object h = none_some object h

no_cell : {A : Type 0} (n place : ℕ) (cell : Cell) (byte : ℕ) → cell_of (slice_get (its_cells ∷ its_cells ∷ []) n) place ≡ Some cell → byte_for cell ≡ Some byte → A
unfolding byte_for
no_cell zero place cell byte at is = none_some byte (ap byte_for (undefined_alone place cell at) ∙ is)
no_cell (suc zero) place cell byte at is = none_some byte (ap byte_for (undefined_alone place cell at) ∙ is)
no_cell (suc (suc n)) place cell byte at is = absurd (cc)

stands_linked : Stands its_surroundings.first (its_cells ∷ its_cells ∷ []) its_linked.objects
stands_linked = record {
  sane = record { small = λ n below. omega arith; alone = λ n m object below below' fixed one other. apart n m object one other; free = λ n object below fixed one. not_held n object one };
  as_high = refl;
  housed = housed;
  units = λ n number place byte cell home at is. no_cell n place cell byte at is;
  held = held_there;
}

stands : (units : Units) → Stands its_surroundings.first (start_world its_setting its_units units).store (program its_files).objects
stands units =
    subst (λ s. Stands its_surroundings.first s (program its_files).objects) (sym (store_is units))
    (subst (λ (p : linking.Program). Stands its_surroundings.first (its_cells ∷ its_cells ∷ []) p.objects) (sym program_is) stands_linked)

in_its_object : (member : Member) → IsIn member its_unit.stored → StandsInItsObject its_units its_setting its_files its_surroundings.first.homes 0 its_unit member.name
unfolding faithful_opened setting_opened program trees_opened
in_its_object _ first_in = record { home = record { sequence = 0; first = 0 }; is = refl; object = λ takes. (2, refl, refl) }
in_its_object _ (later_in first_in) = record { home = record { sequence = 1; first = 0 }; is = refl; object = λ takes. (3, refl, refl) }
in_its_object member (later_in (later_in among)) = elim among [ ]

names_stand : NamesStand its_units its_setting its_files its_surroundings.first.homes
names_stand zero unit member has among =
    let same : its_unit ≡ unit = some_is its_unit unit has in
    subst (λ (u : ProgramUnit). StandsInItsObject its_units its_setting its_files its_surroundings.first.homes 0 u member.name) same (in_its_object member (subst (λ (u : ProgramUnit). IsIn member u.stored) (sym same) among))
names_stand (suc k) unit member has among = nothing_at_all k unit has

low_in : (member : Member) (home : Home) → IsIn member its_unit.stored → unit_home its_setting 0 its_unit member.name ≡ Some home → home.sequence < 2
unfolding setting_opened
low_in _ home first_in h = subst (λ (x : Home). x.sequence < 2) (some_is (record { sequence = 0; first = 0 }) home h) (omega arith)
low_in _ home (later_in first_in) h = subst (λ (x : Home). x.sequence < 2) (some_is (record { sequence = 1; first = 0 }) home h) (omega arith)
low_in member home (later_in (later_in among)) h = elim among [ ]

low : (k : ℕ) (unit : ProgramUnit) (member : Member) (home : Home) → HasUnit its_units k unit → IsIn member unit.stored → unit_home its_setting k unit member.name ≡ Some home → home.sequence < 2
low zero unit member home has among h =
    let same : its_unit ≡ unit = some_is its_unit unit has in
    low_in member home (subst (λ (u : ProgramUnit). IsIn member u.stored) (sym same) among) (subst (λ (u : ProgramUnit). unit_home its_setting 0 u member.name ≡ Some home) (sym same) h)
low (suc k) unit member home has among h = nothing_at_all k unit has

-- ## The unit

found_one : (b : Bool) (i : ℕ) → (if b then Some 0 else None) ≡ Some i → 0 ≡ i
found_one true i h = some_is 0 i h
found_one false i h = absurd (cc)

one_unit : (name : Called) (i : ℕ) → found_from 0 its_units name ≡ Some i → 0 ≡ i
unfolding found_from
one_unit name i h = found_one (answers_to name its_unit) i h

one_entry : (e : EntryPoint) → IsIn e its_unit.entries → record { name = []; formals = []; start = 0 } ≡ e
one_entry _ first_in = refl
one_entry e (later_in among) = elim among [ ]

frames_stand : FramesStand its_units its_files 0 (emission_by 0)
frames_stand ν f kept objects is known held = record {
  unit = its_unit;
  is = refl;
  function = 0;
  has = named;
  dummies = subst (λ (e : EntryPoint). frames.Each (frames.FormalStands its_files ν.homes objects 0 its_unit f) e.formals) (one_entry f.called is.called) frames.none;
  result = subst (frames.ResultStands its_files ν.homes objects 0) (sym (is.no_result (λ wrong. absurd (cc)))) tt;
}

the_unit : UnitIsTranslated its_setting its_units its_files its_translation 0
unfolding facts_at its_linked
the_unit = record {
  unit = its_unit;
  has = refl;
  facts = refl;
  upper = upper;
  lower = lower;
  narrow = (let counted = rest_is in let factor = factor_is in omega (arith, counted, factor));
  function = ap (λ (p : linking.Program). text_of p.functions 0) program_is;
  own = ap (λ (p : linking.Program). nat_lt 0 (length p.functions)) program_is;
  inner = refl;
  named = named;
  called = λ name h. refl;
  idle = record { no_home = λ n object below home from before. omega (arith, from, before); not_held = λ k from before. (let no : ⊥ = omega (arith, from, before) in absurd no) };
  frames = frames_stand;
}

no_wrapper : (i : ℕ) → is_wrapper (slice_get (linking.all_functions its_files) i) ≡ false
unfolding is_wrapper
no_wrapper zero = refl
no_wrapper (suc i) = refl

pub example_translated : IsTranslated its_setting its_units its_files its_translation
unfolding its_linked
example_translated = record {
  units = λ i may. subst (UnitIsTranslated its_setting its_units its_files its_translation) (one_unit may.0 i may.1) the_unit;
  owned = λ i. refl;
  no_wrapper = no_wrapper;
  some_step = (let factor = factor_is in omega (arith, factor));
  main = λ i found. ap main_number program_is ∙ one_unit TheMain i found;
  stands = stands;
  as_many = ap (λ (p : linking.Program). length p.objects) program_is;
  names = names_stand;
  low = low;
}
