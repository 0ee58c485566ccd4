-- Each function of the files is one of which all is so that is asked.
use Rattle.std.specs.Prelude.{◌≡◌, ℕ, suc, ◌+◌, ◌-◌, ◌<◌, ◌≤◌, nat_eq, nat_lt, ℤ, true, false, List, [], ◌∷◌, ◌++◌, map, length, replicate, Option, Some, None, is_some, option_map, unwrap_or, slice_get}
use Rattle.std.specs.Ordering.{int_eq}
use Rattle.std.proofs.Common.{refl, sym, ap, ◌∙◌, subst, arith}
use Rattle.std.proofs.lemmas.Bool.{ltb-true, lt-ltb, eq-eqb}
use Rattle.std.proofs.lemmas.Bool.Decides.{Decides-int_eq}
use Rattle.std.proofs.lemmas.List.{length-map}
use Rattle.emitted_procedures.specs.f_tree.declared.names.Class.TheVariants as class
use Rattle.emitted_procedures.specs.f_tree.CNames.{variable_name}
use Rattle.emitted_procedures.specs.f_tree.Values.{Bytes, Spot, IsInt, IsText, IsSpot, Gives}
use Rattle.emitted_procedures.specs.f_tree.Facts.{Direction, Layout, Controls, Formal, Named, Alternate, FunctionUnit, Frame}
use Rattle.emitted_procedures.specs.f_tree.Setting.{IsIn, first_in, later_in}
use Rattle.emitted_procedures.specs.f_tree.Valuing.{whole}
use Rattle.emitted_procedures.specs.f_tree.World.{Called}
use Rattle.emitted_procedures.specs.l_core.Pures.{Pure, Pures}
use Rattle.emitted_procedures.specs.l_core.Steps.{Starts, Step, Acts, Halt, Text}
use Rattle.emitted_procedures.specs.l_core.Costs.{cost}
use Rattle.emitted_procedures.specs.c_tree.declared.types.ParameterType.{ParameterType}
use Rattle.emitted_procedures.specs.c_tree.declared.types.ParameterType.TheVariants as parameter
use Rattle.emitted_procedures.specs.c_tree.Access.{ToNumber, ToPointer, ToFunction}
use Rattle.emitted_procedures.specs.c_tree.Objects.{bytes_of_number}
use Rattle.emitted_procedures.specs.c_tree.Terms.{Variable}
use Rattle.emitted_procedures.specs.c_tree.Flat.{Assign}
use Rattle.emitted_procedures.specs.c_tree.Declarations as declared
use Rattle.emitted_procedures.specs.c_tree.Declarations.{string_object, unset_values}
use Rattle.emitted_procedures.specs.c_image.Addresses.{Alone, Through, Reaches}
use Rattle.emitted_procedures.specs.c_image.Elements.{Quantity}
use Rattle.emitted_procedures.specs.c_image.Held.{Holds}
use Rattle.emitted_procedures.specs.c_image.Knowing.{IsApart}
use Rattle.emitted_procedures.specs.c_emit.Numbers.{Writing}
use Rattle.emitted_procedures.specs.c_emit.Calls.{unit_of}
use Rattle.emitted_procedures.specs.output_laws.ListedOutputs.{list_object}
use Rattle.unit_file_laws.proofs.linking_laws.Places.{get_front, map_at, within}
use Rattle.emitted_procedures.specs.emitted_texts.SecondLayer.{Surroundings, Emission}
use Rattle.emitted_procedures.specs.procedure_emission.kept_bounds.KeptBounds.{size_pure}
use Rattle.emitted_procedures.specs.procedure_emission.bound_items.BoundItems.{Saving, saving_item}
use Rattle.emitted_procedures.specs.procedure_emission.DummyBounds.{IsMadeAnew, IsKeptAt, IsBoundValue, HasConstantBounds, IsQuantityOf, kept, HasAdjustableBounds, HasDummyBounds, constant, adjustable, BoundsAreKnown}
use Rattle.emitted_procedures.specs.procedure_emission.EmittedUnits.{IsItem, StepsFit, IsOfRoom, RoomIsApart, is_number_pointer, is_function_pointer, AreParameters, no_parameters, named, named_procedure, alternate, ResultIsMade, IsEmittedUnit, IsCosted}
use Rattle.unit_file_laws.proofs.main_file_laws.Known.{position_finds}
use Rattle.main_programs.proofs.Emission.{lower_written, size_written}
use Rattle.main_programs.proofs.MainRuns.{ones_cost}
use Rattle.main_programs.proofs.MainStrings.{front_is, string_of}
use Rattle.ways_back.proofs.UnitWays.{ways_back, ways_back_if}
use Rattle.behind_bounds.specs.BehindBounds.{GoesBackWithin}
use Rattle.behind_bounds.proofs.StepsBehind.{steps_stand_behind}
use Rattle.behind_bounds.proofs.ValuesBehind.{value_same}
use Rattle.behind_bounds.proofs.ItemsBehind.{items_stand_behind}
use Rattle.unit_file_laws.specs.unit_file.UnitFile.{Parameter, BoundKind, LowerOf, SizeOf, Inventory, Bases, bound_name, result_count, frame_count, first_list, first_string, first_parameter, result_object, first_temporary, first_bound, place_of_bound, quantity_in, place_or_none, place_of_constant, place_of_list, place_of_parameter, place_of_string, framed_names, result_names, parameter_object, address_in, lower_of, size_of}
use Rattle.unit_file_laws.specs.unit_file.UnitSavings.{savings_of}
use Rattle.unit_forms.specs.main_file.MainFile.{temporary_names}
use Rattle.unit_file_laws.specs.unit_sites.UnitSites.{UnitsOfFile, all_units, sites_of}
use Rattle.unit_file_laws.specs.KnownUnits.{unit_writing}
use Rattle.unit_file_laws.proofs.unit_places.Declared.{as_main}
use Rattle.unit_file_laws.proofs.unit_places.Sites.{owned, AreApart, constants_first, objects_first, constants_apart}
use Rattle.unit_programs.specs.TranslatedUnits.{Rendering, units_of, facts_of, whole_text, dummies_named, BoundsAreWritten, IsKept, BoundsAreKept, DummyBounds, are_written, are_kept, IsDummy, is_number, is_procedure, IsTranslatedUnit, IsTranslatedSet}
use Rattle.unit_programs.specs.EmittedFile.{room_at, surroundings_of, emission_of, costs_of, costs_behind, UnitsAreEmitted}
use Rattle.unit_programs.proofs.Pieces.{placed_by}
use Rattle.unit_programs.proofs.Costs.{costs_more, costs_first}
use Rattle.unit_programs.proofs.Sequences.{same_unit}
use Rattle.unit_programs.proofs.Savings.{saving_for, savings_many, saving_there, saving_back}
use Rattle.unit_programs.proofs.Apart as apart_in
use Rattle.unit_programs.proofs.Held as held
use Rattle.unit_programs.proofs.Objects as objects_of
use Rattle.unit_programs.proofs.Objects.{found_back, IsFunctionOf}
use Rattle.unit_programs.proofs.Stored as stored_of

-- ## Parameters before a call

number_parameter : (type : ParameterType) → is_number_pointer type ≡ true → declared.parameter_object type ≡ unset_values (ToPointer ToNumber) 1
unfolding is_number_pointer
number_parameter parameter.Integers h = refl
number_parameter parameter.Logicals h = refl
number_parameter parameter.Chars h = absurd (cc)
number_parameter parameter.Length h = absurd (cc)
number_parameter parameter.Int h = absurd (cc)
number_parameter (parameter.Function type) h = absurd (cc)

function_parameter : (type : ParameterType) → is_function_pointer type ≡ true → declared.parameter_object type ≡ unset_values ToFunction 1
unfolding is_function_pointer
function_parameter (parameter.Function type) h = refl
function_parameter parameter.Integers h = absurd (cc)
function_parameter parameter.Logicals h = absurd (cc)
function_parameter parameter.Chars h = absurd (cc)
function_parameter parameter.Length h = absurd (cc)
function_parameter parameter.Int h = absurd (cc)

module _ (fs : List UnitsOfFile) (rs : List Rendering) (is : IsTranslatedSet fs rs) (j : ℕ) (r : Rendering) (at : slice_get rs j ≡ Some r) where
  abbrev v : Inventory
  v = r.written.inventory

  abbrev b : Bases
  b = r.site.bases

  abbrev u : Text
  u = r.text

  abbrev s : Surroundings
  s = surroundings_of fs rs

  abbrev e : Emission
  e = emission_of fs j r

  -- how many bounds are kept, and what the function goes by where steps are numbered behind those
  abbrev first : ℕ
  first = length v.bounds

  abbrev own_writing : Writing
  own_writing = unit_writing r.site r.written u.facts r.kind

  one : IsTranslatedUnit rs j r
  one = is.units j r at

  function_is : IsFunctionOf fs r e.function
  function_is = objects_of.function_of fs rs is j r at

  site_there : slice_get (sites_of fs) j ≡ Some r.site
  site_there = objects_of.site_at fs rs is j r at

  written_there : slice_get (all_units fs) j ≡ Some r.written
  written_there = objects_of.unit_written fs rs is j r at

  program_is : u.facts.program ≡ r.unit
  program_is = stored_of.program_is fs rs is j r at

  -- ## Steps

  goes_back : (n : ℕ) (st : Step) → slice_get u.steps n ≡ Some st → GoesBackWithin n st
  goes_back n st there = record {
    again = λ m same. ways_back (facts_of rs j r) u one.lowered n m (there ∙ ap Some same);
    again_if = λ p m same. ways_back_if (facts_of rs j r) u one.lowered n p m (there ∙ ap Some same);
  }

  item_of : (n : ℕ) (st : Step) → slice_get u.steps n ≡ Some st → IsItem s u e n st
  item_of n st there =
      let i = objects_of.item_at fs rs is j r at n st there in
      record {
        item = i.item;
        emitted = sym (items_stand_behind s.numbers own_writing u.position first n st (goes_back n st there)) ∙ i.emitted;
        stands = ap (λ xs. slice_get xs (first + n)) function_is.code ∙ i.at;
      }

  -- a step of the text, behind what is kept
  step_behind : (n : ℕ) (st : Step) → slice_get u.steps n ≡ Some st → slice_get (whole_text r).steps (first + n) ≡ Some st
  step_behind n st there = (steps_stand_behind first u).places n ∙ there

  -- ## The frame

  room_is : s.rooms j ≡ record { first = e.function.frame; count = length e.function.fresh }
  room_is = ap room_at at ∙ (λ i. record { first = sym function_is.frame i; count = sym function_is.as_many i })

  inside : e.function.frame + length e.function.fresh ≤ s.objects
  inside = let frame = function_is.frame in let many = function_is.as_many in let all = (objects_of.function_stands fs rs is j r at).inside in omega (arith, frame, many, all)

  other_room : (i object : ℕ) → nat_eq i j ≡ false → (found : Option Rendering) → slice_get rs i ≡ found → IsOfRoom (room_at found) object → IsOfRoom (room_at (Some r)) object → ⊥
  other_room i object apart None at' own mine = let low = own.0 in let high = own.1 in omega (arith, low, high)
  other_room i object apart (Some q) at' own mine =
      let low = own.0 in
      let high = own.1 in
      let low' = mine.0 in
      let high' = mine.1 in
      let same = same_unit fs i j q.site r.site q.written r.written (object - q.site.bases.function) (object - b.function) (objects_of.site_at fs rs is i q at') (objects_of.unit_written fs rs is i q at') site_there written_there
      (omega (arith, low, high)) (omega (arith, low', high')) (omega (arith, low, low')) in
      told (sym apart ∙ eq-eqb i j same)
    where
      told : false ≡ true → ⊥
      told h = absurd (cc)

  constant_apart : (k : ℕ) (q : Rendering) → k < length r.site.constants → IsOfRoom (room_at (Some q)) (b.file + k) → AreApart q.site q.written r.site → ⊥
  constant_apart k q below own (constants_first before) = let low = own.0 in omega (arith, below, low, before)
  constant_apart k q below own (objects_first before) = let high = own.1 in omega (arith, high, before)

  no_constant : (i : ℕ) (z : ℤ) (found : Option Rendering) → slice_get rs i ≡ found → (place : Option ℕ) → place_of_constant r.site.constants z ≡ place → is_some place ≡ true → IsOfRoom (room_at found) (b.file + place_or_none place) → ⊥
  no_constant i z found at' None placed has own = absurd (cc)
  no_constant i z None at' (Some k) placed has own = let low = own.0 in let high = own.1 in omega (arith, low, high)
  no_constant i z (Some q) at' (Some k) placed has own =
      let f = position_finds (int_eq z) r.site.constants k placed in
      constant_apart k q (within r.site.constants k f.one f.at) own (constants_apart fs i j q.site r.site q.written (objects_of.site_at fs rs is i q at') (objects_of.unit_written fs rs is i q at') site_there)

  rooms_apart : RoomIsApart s j e
  rooms_apart = record {
    rooms = λ i object apart own mine. other_room i object apart (slice_get rs i) refl own (subst (λ found. IsOfRoom (room_at found) object) at mine);
    constants = λ i z apart has own. no_constant i z (slice_get rs i) refl (place_of_constant r.site.constants z) refl has own;
  }

  -- ## Dummies

  parameter_alone : (i m : ℕ) (p q : Parameter) → slice_get v.parameters i ≡ Some p → slice_get v.parameters m ≡ Some q → q.name ≡ p.name → m ≡ i
  parameter_alone i m p q at' other same = one.built.differ.framed m i (variable_name p.name) (framed m q other ∙ ap (λ x. Some (variable_name x)) same) (framed i p at')
    where
      framed : (n : ℕ) (z : Parameter) → slice_get v.parameters n ≡ Some z → slice_get (framed_names v) n ≡ Some (variable_name z.name)
      framed n z there =
          get_front (map (λ (p : Parameter). variable_name p.name) v.parameters) (result_names v.returned ++ (temporary_names 1 v.temporaries ++ map bound_name v.bounds)) n (variable_name z.name) (map_at (λ (p : Parameter). variable_name p.name) v.parameters n z there)

  pub parameter_placed : (i : ℕ) (p : Parameter) → slice_get v.parameters i ≡ Some p → place_of_parameter v p.name ≡ Some i
  parameter_placed i p at' = placed_by (λ (z : Parameter). z.name) v.parameters i p (λ m q other same. parameter_alone i m p q at' other same) at'

  parameter_there : (x : Bytes) (i : ℕ) → place_of_parameter v x ≡ Some i → Through (parameter_object v b x) ≡ Through (e.function.frame + i)
  parameter_there x i placed = ap (λ place. Through (first_parameter v b + unwrap_or place (frame_count v))) placed ∙ ap (λ n. Through (n + i)) (sym function_is.frame)

  pub dummy_address : (x : Bytes) (i : ℕ) → (u.facts.program.attribute x).class ≡ class.Dummy → place_of_parameter v x ≡ Some i → e.writing.naming.address x ≡ Through (e.function.frame + i)
  unfolding address_in
  dummy_address x i own placed = ap (address_in v b x) own ∙ parameter_there x i placed

  pub procedure_address : (x : Bytes) (i : ℕ) → (u.facts.program.attribute x).class ≡ class.DummyProcedure → place_of_parameter v x ≡ Some i → e.writing.naming.address x ≡ Through (e.function.frame + i)
  unfolding address_in
  procedure_address x i own placed = ap (address_in v b x) own ∙ parameter_there x i placed

  with_parameter : (i : ℕ) (formals : List Formal) (p : Parameter) (types : List ParameterType) → slice_get v.parameters i ≡ Some p → IsDummy u.facts v p → AreParameters u e (suc i) formals types → AreParameters u e i (Named p.name ∷ formals) (p.type ∷ types)
  with_parameter i formals p types at' (is_number own numeric width fixed pointer) later =
      named i p.name formals p.type types (record {
        dummy = own;
        numeric = numeric;
        width = width;
        pointer = pointer;
        address = dummy_address p.name i own (parameter_placed i p at');
        fresh = function_is.parameter i p at' ∙ ap Some (number_parameter p.type pointer);
      }) later
  with_parameter i formals p types at' (is_procedure own fixed pointer) later =
      named_procedure i p.name formals p.type types (record {
        dummy = own;
        pointer = pointer;
        address = procedure_address p.name i own (parameter_placed i p at');
        fresh = function_is.parameter i p at' ∙ ap Some (function_parameter p.type pointer);
      }) later

  parameters_from : (i : ℕ) (formals : List Formal) (ps : List Parameter) → dummies_named formals ≡ map (λ (p : Parameter). p.name) ps → ((m : ℕ) (p : Parameter) → slice_get ps m ≡ Some p → slice_get v.parameters (i + m) ≡ Some p)
      → AreParameters u e i formals (map (λ (p : Parameter). p.type) ps)
  parameters_from i [] [] same there = no_parameters i
  parameters_from i [] (p ∷ ps) same there = absurd (cc)
  parameters_from i (Named x ∷ formals) [] same there = absurd (cc)
  parameters_from i (Named x ∷ formals) (p ∷ ps) same there =
      let first : p.name ≡ x = cc in
      let rest : dummies_named formals ≡ map (λ (q : Parameter). q.name) ps = cc in
      let here : slice_get v.parameters i ≡ Some p = ap (slice_get v.parameters) {x = i} {y = i + 0} (omega arith) ∙ there 0 p refl in
      let later = parameters_from (suc i) formals ps rest (λ m q other. ap (slice_get v.parameters) {x = suc i + m} {y = i + suc m} (omega arith) ∙ there (suc m) q other) in
      subst (λ y. AreParameters u e i (Named y ∷ formals) (p.type ∷ map (λ (q : Parameter). q.type) ps)) first (with_parameter i formals p (map (λ (q : Parameter). q.type) ps) here (one.parameters i p here) later)
  parameters_from i (Alternate ∷ formals) ps same there = alternate i formals (map (λ (p : Parameter). p.type) ps) (parameters_from i formals ps same there)

  parameters_are : AreParameters u e 0 one.entry.formals e.function.parameters
  parameters_are =
      subst (AreParameters u e 0 one.entry.formals) (sym function_is.parameters_are)
      (parameters_from 0 one.entry.formals v.parameters one.dummies (λ m p there. ap (slice_get v.parameters) {x = 0 + m} {y = m} (omega arith) ∙ there))

  parameters_many : length e.function.parameters ≡ length v.parameters
  parameters_many = ap length function_is.parameters_are ∙ length-map v.parameters (λ (p : Parameter). p.type)

  -- ## The result and the temporaries

  result_made : r.unit.kind ≡ FunctionUnit → ResultIsMade u e one.entry
  unfolding address_in
  result_made function =
      let res = one.result function in
      let many = parameters_many in
      let frame = function_is.frame in
      record {
        object = result_object v b;
        made = record {
          in_frame = record {
            index = length v.parameters;
            at = omega (arith, frame);
            bytes = None ∷ None ∷ None ∷ None ∷ [];
            is = function_is.result res.type res.returned;
            room = omega arith;
          };
          behind = omega (arith, many);
        };
        own = res.own;
        numeric = res.numeric;
        address = λ x own. ap (address_in v b x) own;
        gives = function_is.gives ∙ res.gives;
        apart = λ k numeric same. (let counted = ap result_count res.returned in let no : ⊥ = omega (arith, counted, same) in no);
      }

  temporary_made : (k : ℕ) → nat_lt k v.temporaries ≡ true → IsMadeAnew e (first_temporary v b + k)
  temporary_made k h =
      let many = parameters_many in
      let frame = function_is.frame in
      record {
        in_frame = record {
          index = length v.parameters + (result_count v.returned + k);
          at = omega (arith, frame);
          bytes = None ∷ None ∷ None ∷ None ∷ [];
          is = function_is.temporary k (ltb-true k v.temporaries h);
          room = omega arith;
        };
        behind = omega (arith, many);
      }

  apart : (k : ℕ) → nat_lt k v.temporaries ≡ true → IsApart e.writing.naming k
  apart k h =
      let below = ltb-true k v.temporaries h in
      record {
        temporaries = λ i same. omega (arith, same);
        addresses = λ x object there same. apart_in.no_temporary v b k below x (place_of_parameter v x) refl (sym (apart_in.through_parameter v b x (u.facts.program.attribute x).class object there) ∙ same);
        lengths = λ x same. (let no : ⊥ = omega (arith, same, below) in no);
        lowers = λ x i saved there. apart_in.kept_behind v b k below (place_of_bound v x i LowerOf) (lower_of (slice_get (u.facts.program.attribute x).bounds i)) saved (λ other. lower_written (slice_get (u.facts.program.attribute x).bounds i) saved other) there;
        sizes = λ x i saved there. apart_in.kept_behind v b k below (place_of_bound v x i SizeOf) (size_of (slice_get (u.facts.program.attribute x).bounds i)) saved (λ other. size_written (slice_get (u.facts.program.attribute x).bounds i) saved other) there;
      }

  -- ## What is passed to the library

  constant_held : (z : ℤ) → e.writing.library.has z ≡ true → Holds (s.first.frozen (e.writing.library.constant z)) (IsInt z)
  constant_held z h = by (place_of_constant r.site.constants z) refl h
    where
      by : (found : Option ℕ) → place_of_constant r.site.constants z ≡ found → is_some found ≡ true → Holds (s.first.frozen (b.file + place_or_none found)) (IsInt z)
      by None there g = absurd (cc)
      by (Some i) there g =
          let f = position_finds (int_eq z) r.site.constants i there in
          let same : z ≡ f.one = (Decides-int_eq z f.one).0 f.passes in
          subst (λ y. Holds (s.first.frozen (b.file + i)) (IsInt y)) (sym same) (record {
            bytes = map Some (bytes_of_number f.one);
            is = held.constant_held fs j r.site r.written site_there written_there i f.one f.at;
            begins = (is.numbers j r at i f.one f.at, refl);
          })

  list_held : (n : ℕ) (way : Direction) (layout : Layout) (controls : Controls) (ps : Pures) (m : ℕ) (unit : ℤ) → slice_get u.steps n ≡ Some (Acts (Starts way layout controls) ps m) → unit_of ps ≡ Some unit
      → s.first.frozen (e.writing.library.list n) ≡ Some (list_object unit)
  list_held n way layout controls ps m unit there of =
      let l = one.passes.units (first + n) way layout controls ps m unit (step_behind n (Acts (Starts way layout controls) ps m) there) of in
      held.held_list fs j r.site r.written site_there written_there l.0 (first_list v b + place_or_none (place_of_list v (first + n))) l.1 (ap (λ found. first_list v b + place_or_none found) l.2) l.3 ∙ ap (λ z. Some (list_object z)) l.4

  text_held : (n : ℕ) (text : Bytes) → slice_get u.steps n ≡ Some (Halt text) → Holds (s.first.frozen (e.writing.library.text n)) (IsText text)
  text_held n text there =
      let behind' = step_behind n (Halt text) there in
      let string = string_of (as_main v) (whole_text r).steps (first + n) text one.built.stops behind' in
      let short = one.passes.short (first + n) text behind' in
      record {
        bytes = map Some (text ++ replicate (length text + 1 - length text) 0);
        is = held.held_string fs j r.site r.written site_there written_there string.place (first_string v b + place_or_none (place_of_string v (first + n))) (first + n) (ap (λ found. first_string v b + place_or_none found) string.placed) string.at
            ∙ ap (λ bytes. Some (string_object bytes)) (one.passes.texts (first + n) text behind');
        begins = (short.1, short.0, front_is text (replicate (length text + 1 - length text) 0));
      }

  fit : StepsFit s u e one.entry
  fit = record {
    kinds = one.flows.kinds;
    keeps = one.flows.keeps;
    stages = one.flows.stages;
    outputs = one.flows.outputs;
    returns = one.flows.returns;
    none_at_first = one.flows.none_at_first;
    own = owned fs j r.site site_there ∙ sym function_is.own;
    constants = constant_held;
    lists = list_held;
    texts = text_held;
  }

  -- ## Bounds

  -- what is written for a value does not depend on how steps are numbered
  saving_same : (saving : Saving) → saving_item e.writing saving ≡ saving_item own_writing saving
  unfolding saving_item
  saving_same saving = ap (option_map (Assign (Variable saving.object ToNumber))) (sym (value_same own_writing first saving.value))

  -- a dummy is one of the parameters
  parameter_named : (x : Bytes) (ps : List Parameter) → IsIn x (map (λ (p : Parameter). p.name) ps) → (i : ℕ) × (p : Parameter) × (slice_get ps i ≡ Some p) × (p.name ≡ x)
  parameter_named x [] among = elim among [ ]
  parameter_named _ (p ∷ ps) first_in = (0, p, refl, refl)
  parameter_named x (p ∷ ps) (later_in among) = let found = parameter_named x ps among in (suc found.0, found.1, found.2, found.3)

  abbrev savings : List Saving
  savings = savings_of v b

  saved_many : length savings ≡ first
  saved_many = savings_many (first_bound v b) v.bounds

  -- the object of a bound that is kept
  bound_made : (i : ℕ) (saving : Saving) → slice_get savings i ≡ Some saving → IsMadeAnew e saving.object
  bound_made i saving there =
      let found = saving_back (first_bound v b) v.bounds i saving there in
      let object = found.object in
      let many = parameters_many in
      let frame = function_is.frame in
      record {
        in_frame = record {
          index = length v.parameters + (result_count v.returned + (v.temporaries + i));
          at = omega (arith, frame, object);
          bytes = None ∷ None ∷ None ∷ None ∷ [];
          is = function_is.bound i found.one found.at;
          room = omega arith;
        };
        behind = omega (arith, many);
      }

  -- a unit with a result has an object for it
  no_result : (x : Bytes) (object i : ℕ) → (u.facts.program.attribute x).class ≡ class.Result → e.writing.naming.address x ≡ Alone object → object ≡ first_bound v b + i → ⊥
  no_result x object i own there same =
      let res = one.result (one.results x own) in
      let counted = ap result_count res.returned in
      let place = apart_in.result_alone v b x (u.facts.program.attribute x).class object own there in
      omega (arith, counted, place, same)

  -- no parameter is the object of a bound
  no_parameter : (x : Bytes) (object i : ℕ) → i < first → e.writing.naming.address x ≡ Through object → object ≡ first_bound v b + i → ⊥
  no_parameter x object i below there same =
      apart_in.no_bound v b i below x (place_of_parameter v x) refl (sym (apart_in.through_parameter v b x (u.facts.program.attribute x).class object there) ∙ same)

  kept_at : (i : ℕ) (saving : Saving) → slice_get savings i ≡ Some saving → IsKeptAt e i saving
  kept_at i saving there =
      let item = objects_of.saving_at fs rs is j r at i saving there in
      let found = saving_back (first_bound v b) v.bounds i saving there in
      let object = found.object in
      let below = within v.bounds i found.one found.at in
      record {
        item = item.item;
        emitted = saving_same saving ∙ item.emitted;
        stands = ap (λ xs. slice_get xs i) function_is.code ∙ item.at;
        made = bound_made i saving there;
        temporaries = λ k numeric same. (let few = ltb-true k v.temporaries numeric in let no : ⊥ = omega (arith, few, object, same) in no);
        results = λ x k own address same. no_result x k i own address (same ∙ object);
        addresses = λ x k address same. no_parameter x k i below address (same ∙ object);
        lengths = λ x same. (let no : ⊥ = omega (arith, object, below, same) in no);
      }

  -- no two are kept by one object
  kept_alone : (i k : ℕ) (saving other : Saving) → slice_get savings i ≡ Some saving → slice_get savings k ≡ Some other → saving.object ≡ other.object → i ≡ k
  kept_alone i k saving other there there' same =
      let object = (saving_back (first_bound v b) v.bounds i saving there).object in
      let object' = (saving_back (first_bound v b) v.bounds k other there').object in
      omega (arith, object, object', same)

  kept_value : (i : ℕ) (saving : Saving) → slice_get savings i ≡ Some saving → IsBoundValue u.facts one.entry.formals saving.value
  kept_value i saving there =
      let found = saving_back (first_bound v b) v.bounds i saving there in
      subst (IsBoundValue u.facts one.entry.formals) found.value (one.values i found.one found.at)

  -- bounds that are written
  constants : (x : Bytes) → BoundsAreWritten u.facts v x → HasConstantBounds e x
  constants x written = record {
    fits = written.fits;
    closed = written.closed;
    lowers = λ k bound there. apart_in.quantity_written v b (place_of_bound v x k LowerOf) (lower_of (slice_get (u.facts.program.attribute x).bounds k)) (written.unkept k LowerOf) ∙ ap lower_of there;
    sizes = λ k bound last there upper. apart_in.quantity_written v b (place_of_bound v x k SizeOf) (size_of (slice_get (u.facts.program.attribute x).bounds k)) (written.unkept k SizeOf) ∙ ap size_of there;
  }

  -- bounds that are kept
  quantity_of : (x : Bytes) (k : ℕ) (kind : BoundKind) (p : Pure) (written : Quantity) → IsKept v x k kind p → IsQuantityOf savings (quantity_in v b (place_of_bound v x k kind) written) p
  quantity_of x k kind p written is =
      kept is.place (saving_for (first_bound v b + is.place) is.one) (apart_in.quantity_kept v b (place_of_bound v x k kind) is.place written is.placed)
      (saving_there (first_bound v b) v.bounds is.place is.one is.at) is.value

  adjusted : (x : Bytes) → BoundsAreKept u.facts v x → HasAdjustableBounds e savings x
  adjusted x are = record {
    lowers = λ k d there.
        let l = are.lowers k d there in
        record { value = l.0; is = l.1; known = quantity_of x k LowerOf l.0 (lower_of (slice_get (u.facts.program.attribute x).bounds k)) l.2 };
    sizes = λ k d last there upper.
        let z = are.sizes k d last there upper in
        record { lower = z.0; upper = z.1; lower_is = z.2; upper_is = z.3; known = quantity_of x k SizeOf (size_pure z.0 z.1) (size_of (slice_get (u.facts.program.attribute x).bounds k)) z.4 };
    closed = are.closed;
  }

  dummy_known : (x : Bytes) → DummyBounds u.facts v x → HasDummyBounds e savings x
  dummy_known x (are_written fixed written) = constant fixed (constants x written)
  dummy_known x (are_kept are) = adjustable (adjusted x are)

  dummy_bounds : (p : Parameter) → IsDummy u.facts v p → DummyBounds u.facts v p.name
  dummy_bounds p (is_number own numeric width bounds pointer) = bounds
  dummy_bounds p (is_procedure own bounds pointer) = bounds

  bounds_known : BoundsAreKnown e one.entry.formals savings
  bounds_known = record {
    saved = kept_at;
    alone = kept_alone;
    values = kept_value;
    others = λ x other. constants x (one.bounds x other);
    dummies = λ x among.
        let found = parameter_named x v.parameters (subst (IsIn x) one.dummies among) in
        subst (HasDummyBounds e savings) found.3 (dummy_known found.1.name (dummy_bounds found.1 (one.parameters found.0 found.1 found.2)));
  }

  -- ## The unit

  calls : (name : Called) (function : ℕ) → s.numbers name ≡ Some function → nat_lt function e.function.own ≡ true
  calls name function found =
      let f = found_back 0 (units_of rs) name function found in
      let there = f.is in
      let below = within (units_of rs) f.place f.unit f.at in
      let many = length-map rs (λ (q : Rendering). q.unit) in
      let written = length-map rs (λ (q : Rendering). q.written) in
      let all = ap length is.written in
      let own = function_is.own in
      lt-ltb function e.function.own (omega (arith, there, below, many, written, all, own))

  reached : (f : Frame) (x : Bytes) (p : Spot) → (u.facts.program.attribute x).class ≡ class.Stored → whole u.facts f x ≡ Gives (IsSpot p) → Reaches s.first p (e.writing.naming.address x)
  unfolding address_in
  reached f x p own h = subst (λ k. Reaches s.first p (address_in v b x k)) (sym own) (stored_of.reached fs rs is j r at f x p own h)

  -- the first step is the first that stands behind what is kept
  first_place : first + u.begins one.entry.start ≡ length savings
  first_place = let start = one.begins in let many = saved_many in omega (arith, start, many)

  more_behind : (n : ℕ) → cost (costs_of u) n ≤ cost (costs_behind first (costs_of u)) n
  more_behind n = costs_more first (costs_of u) n

  first_cost : length savings + cost (costs_of u) (u.begins one.entry.start) ≤ cost (costs_behind first (costs_of u)) (u.begins one.entry.start)
  first_cost =
      subst (λ start. length savings + cost (costs_of u) start ≤ cost (costs_behind first (costs_of u)) start) (sym one.begins)
      (let many = saved_many in let costs = costs_first first (costs_of u) in omega (arith, many, costs))

  pub emitted : (is : IsEmittedUnit s j u (costs_of u) e) × IsCosted u (costs_of u) (costs_behind first (costs_of u)) is.entry is.savings
  emitted = (
    record {
      facts = refl;
      runs = λ data'. one.runs (sym (ap (λ p. p.kind) program_is) ∙ data');
      items = item_of;
      in_order = λ n st there. omega arith;
      positive = λ n st there. ones_cost (length u.steps) n (within u.steps n st there);
      entry = one.entry;
      only = ap (λ p. p.entries) program_is ∙ one.only;
      room = room_is;
      inside = inside;
      apart_rooms = rooms_apart;
      parameters = parameters_are;
      gives = λ other. function_is.gives ∙ one.gives (λ function. other (ap (λ p. p.kind) program_is ∙ function));
      result = λ function. result_made (sym (ap (λ p. p.kind) program_is) ∙ function);
      temporaries = temporary_made;
      apart = apart;
      fit = fit;
      calls = calls;
      sound = stored_of.sound fs rs is j r at;
      reached = reached;
      savings = savings;
      bounds = bounds_known;
      begins = first_place;
    },
    record { more = more_behind; first = first_cost },
  )

pub units_are_emitted : UnitsAreEmitted
units_are_emitted fs rs is j r at = emitted fs rs is j r at
