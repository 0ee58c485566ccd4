-- The example that keeps bounds is translated.
use Rattle.std.specs.Prelude.{◌≡◌, ◌≢◌, ℕ, zero, suc, ◌<◌, ℤ, pos, nat_eq, Bool, true, false, ◌&&◌, List, [], ◌∷◌, Some, None, length, position, option_map, slice_get, bytes_eq, if◌then◌else◌}
use Rattle.std.proofs.Common.{refl, sym, ap, ◌∙◌, subst, arith}
use Rattle.std.proofs.lemmas.Slice.Eq.{bytes_eq-Decides}
use Rattle.emitted_procedures.specs.f_tree.declared.names.Class.{Class}
use Rattle.emitted_procedures.specs.f_tree.declared.names.Class.TheVariants as class
use Rattle.emitted_procedures.specs.f_tree.Values.{Bytes, IsInt, in_range}
use Rattle.emitted_procedures.specs.f_tree.Terms.{Term, Fetch, At}
use Rattle.emitted_procedures.specs.f_tree.Facts.{Dimension, Bounds, Attribute, MainProgram, FunctionUnit, BlockDataUnit}
use Rattle.emitted_procedures.specs.f_tree.Setting.{IsIn, first_in}
use Rattle.emitted_procedures.specs.l_core.Pures.{Pure, Constant, Load, Name, ElementOf, NoPure, AndPure}
use Rattle.unit_forms.specs.lowering_laws.Layout.{without_loops}
use Rattle.emitted_procedures.specs.c_tree.Opened.{trees_opened}
use Rattle.emitted_procedures.specs.c_tree.Builtins.{builtin_names}
use Rattle.emitted_procedures.specs.c_tree.FlatForm.{whole_body}
use Rattle.emitted_procedures.specs.c_emit.Numbers.{has_shape}
use Rattle.emitted_procedures.specs.c_emit_laws.EmittedNumbers.{BoundFits}
use Rattle.unit_file_laws.proofs.linking_laws.Places.{some_same, skipped, other_bytes, position_step}
use Rattle.emitted_procedures.specs.procedure_emission.kept_bounds.KeptBounds.{bound_pure, size_pure}
use Rattle.emitted_procedures.specs.procedure_emission.DummyBounds.{IsBoundValue, of_lower, of_size}
use Rattle.emitted_procedures.specs.procedure_emission.EmittedUnits.{is_number_pointer}
use Rattle.behind_bounds.specs.BehindBounds.{behind, writing_behind}
use Rattle.unit_file_laws.specs.unit_file.UnitFile.{BoundKind, LowerOf, SizeOf, KeptBound, is_same_kind, is_bound, place_of_bound}
use Rattle.unit_file_laws.specs.unit_file.UnitNames.{own_names, routine_name}
use Rattle.unit_file_laws.specs.KnownUnits.{IsVariable, IsParameter, NamesAreListed, unit_writing}
use Rattle.unit_file_laws.specs.BuiltUnits.{IsCalled, AreListed, IsUnitBuilt}
use Rattle.unit_programs.specs.OwnStorage.{HasOwnStorage}
use Rattle.unit_programs.specs.TranslatedUnits.{Rendering, written_of, numbers_of, BoundsAreWritten, IsKept, BoundsAreKept, are_written, are_kept, IsDummy, is_number, Flows, IsTranslatedUnit, IsTranslatedSet}
use Rattle.unit_programs.specs.Example.{the_dummy, the_subroutine, an_integer, no_name}
use Rattle.unit_programs.specs.KeptExample.{kept_example_opened, the_array, the_dummy_array, as_many_as_told, an_array, a_dummy_array, caller_attribute, keeper_attribute, caller_entry, keeper_entry, caller_unit, keeper_unit, kept_facts, kept_text, caller_steps, keeper_steps, kept_constants, caller_inventory, kept_bounds_of, keeper_inventory, kept_inventories, caller_site, keeper_site, caller_items, keeper_items, caller_body, keeper_body, kept_outline, caller_written, keeper_written, kept_files, caller_rendering, keeper_rendering, kept_renderings}
use Rattle.unit_programs.proofs.Told.{differ_by, distinct_by, apart_by, each_at}
use Rattle.unit_programs.proofs.ExampleParts.{none_led, nothing_at_all, no_some, bare_bounds, written_by, flows_by, passes_by, storage_by, fixed_by}
use Rattle.unit_programs.proofs.ExampleLaws.{no_truth, two_flow}

-- ## Names of the main program

caller_names : (x : Bytes) (P : Attribute → Type 0) → ((bytes_eq x the_array ≡ true) → P an_array) → P (record no_name { class = class.Procedure }) → P no_name → P (caller_attribute x)
caller_names x P own subroutine other = by (bytes_eq x the_array) (bytes_eq x the_subroutine) refl
  where
    by : (a b : Bool) → bytes_eq x the_array ≡ a → P (if a then an_array else if b then record no_name { class = class.Procedure } else no_name)
    by true b h = own h
    by false true h = subroutine
    by false false h = other

caller_stored : (x : Bytes) → (caller_attribute x).class ≡ class.Stored → the_array ≡ x
caller_stored x = caller_names x (λ a. a.class ≡ class.Stored → the_array ≡ x) (λ h same. sym ((bytes_eq-Decides x the_array).0 h)) (λ same. absurd (cc)) (λ same. absurd (cc))

no_other : {A : Type 0} (x : Bytes) (k : Class) → (class.Stored ≡ k → A) → (class.Procedure ≡ k → A) → (class.Constant ≡ k → A) → (caller_attribute x).class ≡ k → A
no_other {A} x k stored procedure constant = caller_names x (λ a. a.class ≡ k → A) (λ h. stored) procedure constant

caller_listed : NamesAreListed caller_inventory (kept_facts 0 caller_unit)
unfolding kept_example_opened
caller_listed = record {
  stored = λ x own numeric. subst (λ y. IsVariable caller_inventory y (has_shape (caller_attribute y).dimensions)) (caller_stored x own) (record { place = 0; one = _; placed = refl; at = refl; counted = refl });
  dummies = λ x own numeric. no_other x class.Dummy (λ h. absurd (cc)) (λ h. absurd (cc)) (λ h. absurd (cc)) own;
  procedures = λ x own. no_other x class.DummyProcedure (λ h. absurd (cc)) (λ h. absurd (cc)) (λ h. absurd (cc)) own;
  results = λ x own numeric. no_other x class.Result (λ h. absurd (cc)) (λ h. absurd (cc)) (λ h. absurd (cc)) own;
}

-- its array has constant bounds
one_bound : (k : ℕ) (b : Bounds) → slice_get an_array.bounds k ≡ Some b → record { lower = pos 1; upper = Some (pos 3) } ≡ b
one_bound zero b at = some_same (let one : Bounds = record { lower = pos 1; upper = Some (pos 3) } in one) b at
one_bound (suc k) b at = nothing_at_all k b at

array_written : BoundsAreWritten (kept_facts 0 caller_unit) caller_inventory the_array
unfolding kept_example_opened
array_written = record {
  unkept = λ k kind. refl;
  fits = λ k b at. subst BoundFits (one_bound k b at) (record { lower = refl; size = λ u is. refl });
  closed = λ k b at more. (pos 3, ap (λ (z : Bounds). z.upper) (sym (one_bound k b at)));
}

-- and no other name has bounds
caller_bare : (x : Bytes) → bytes_eq x the_array ≡ false → (caller_attribute x).bounds ≡ []
caller_bare x = caller_names x (λ a. bytes_eq x the_array ≡ false → a.bounds ≡ []) (λ h other. let no : true ≡ false = sym h ∙ other in absurd (cc)) (λ other. refl) (λ other. refl)

caller_bounds : (x : Bytes) → BoundsAreWritten (kept_facts 0 caller_unit) caller_inventory x
unfolding kept_example_opened
caller_bounds x = by (bytes_eq x the_array) refl
  where
    by : (t : Bool) → bytes_eq x the_array ≡ t → BoundsAreWritten (kept_facts 0 caller_unit) caller_inventory x
    by true same = subst (BoundsAreWritten (kept_facts 0 caller_unit) caller_inventory) (sym ((bytes_eq-Decides x the_array).0 same)) array_written
    by false other = written_by (kept_facts 0 caller_unit) caller_inventory x refl (caller_bare x other)

-- ## The function of the main program

caller_declared : AreListed (numbers_of kept_renderings) kept_inventories (kept_facts 0 caller_unit) caller_inventory 0 caller_steps
unfolding kept_example_opened
caller_declared = (((λ k found. subst (λ n. IsCalled caller_inventory (routine_name kept_inventories n)) (some_same 1 k found) (0, refl)), tt), (tt, tt))

no_caller_strings : length (whole_body caller_body).items.strings ≡ 0
unfolding trees_opened
no_caller_strings = refl

caller_is_built : IsUnitBuilt (numbers_of kept_renderings) (written_of kept_renderings) caller_site caller_written (behind 0 (kept_text 0 caller_unit caller_steps)) (λ n k. None) (kept_outline caller_site caller_inventory) caller_items
unfolding kept_example_opened
caller_is_built = record {
  differ = differ_by kept_constants caller_inventory refl refl refl refl refl refl refl refl refl;
  names_listed = caller_listed;
  listed = caller_declared;
  stops = refl;
  names = refl;
  emitted = refl;
  built = record { turns = 2; statements = refl; ended = refl; inside = λ n name at. absurd (cc); alone = λ m n name at other. absurd (cc); none = λ n ends. refl };
  as_many = no_caller_strings;
}

caller_flows : Flows (writing_behind 0 (unit_writing caller_site caller_written (kept_facts 0 caller_unit) (λ n k. None))) (kept_text 0 caller_unit caller_steps) (λ n. None) caller_entry
unfolding kept_example_opened
caller_flows =
    flows_by (writing_behind 0 (unit_writing caller_site caller_written (kept_facts 0 caller_unit) (λ n k. None))) (kept_text 0 caller_unit caller_steps) (λ n. None) caller_entry
    ((λ m among k b is. no_some b is), ((λ m among k b is. none_led m among), tt))
    (tt, (tt, tt))
    ((λ m among. refl), ((λ m among. none_led m among), tt))
    (((λ h. no_truth h), (λ h. no_truth h)), (((λ h. no_truth h), (λ h. refl)), tt))
    refl

caller_storage : HasOwnStorage caller_unit caller_inventory
unfolding kept_example_opened
caller_storage =
    storage_by caller_unit caller_inventory refl refl refl refl (record { one = _; at = refl; named = refl; sized = refl; small = omega arith; first = refl; numeric = refl; wide = refl; within = omega arith }, tt)

main_runs : MainProgram ≢ BlockDataUnit
main_runs h = cc

main_none : MainProgram ≡ FunctionUnit → ⊥
main_none h = cc

caller_translated : IsTranslatedUnit kept_renderings 0 caller_rendering
unfolding kept_example_opened trees_opened
caller_translated = record {
  lowered = refl;
  facts = refl;
  direct = refl;
  ended = refl;
  loops = without_loops refl;
  runs = main_runs;
  entry = caller_entry;
  only = refl;
  begins = refl;
  named = refl;
  dummies = refl;
  parameters = λ i p at. nothing_at_all i p at;
  gives = λ other. refl;
  result = λ function. absurd (main_none function);
  results = λ x own. no_other x class.Result (λ h. absurd (cc)) (λ h. absurd (cc)) (λ h. absurd (cc)) own;
  storage = caller_storage;
  bounds = λ x other. caller_bounds x;
  values = λ i one at. nothing_at_all i one at;
  built = caller_is_built;
  flows = caller_flows;
  passes = passes_by caller_inventory (behind 0 (kept_text 0 caller_unit caller_steps)) (tt, (tt, tt));
  no_wrapper = refl;
}

-- ## Names of the subroutine

keeper_names : (x : Bytes) (P : Attribute → Type 0) → ((bytes_eq x the_dummy_array ≡ true) → P a_dummy_array) → ((bytes_eq x the_dummy ≡ true) → P (record an_integer { class = class.Dummy })) → P no_name → P (keeper_attribute x)
keeper_names x P array dummy other = by (bytes_eq x the_dummy_array) (bytes_eq x the_dummy) refl refl
  where
    by : (a b : Bool) → bytes_eq x the_dummy_array ≡ a → bytes_eq x the_dummy ≡ b → P (if a then a_dummy_array else if b then record an_integer { class = class.Dummy } else no_name)
    by true b h g = array h
    by false true h g = dummy g
    by false false h g = other

keeper_bare : (x : Bytes) → (keeper_attribute x).bounds ≡ []
keeper_bare x = keeper_names x (λ a. a.bounds ≡ []) (λ h. refl) (λ h. refl) refl

keeper_dummy : (x : Bytes) → (keeper_attribute x).class ≡ class.Dummy → IsParameter keeper_inventory x is_number_pointer
unfolding kept_example_opened
keeper_dummy x = keeper_names x (λ a. a.class ≡ class.Dummy → IsParameter keeper_inventory x is_number_pointer)
    (λ h same. subst (λ y. IsParameter keeper_inventory y is_number_pointer) (sym ((bytes_eq-Decides x the_dummy_array).0 h)) (record { place = 0; one = _; placed = refl; at = refl; typed = refl }))
    (λ h same. subst (λ y. IsParameter keeper_inventory y is_number_pointer) (sym ((bytes_eq-Decides x the_dummy).0 h)) (record { place = 1; one = _; placed = refl; at = refl; typed = refl }))
    (λ same. absurd (cc))

nothing_else : {A : Type 0} (x : Bytes) (k : Class) → (class.Dummy ≡ k → A) → (class.Constant ≡ k → A) → (keeper_attribute x).class ≡ k → A
nothing_else {A} x k dummy constant = keeper_names x (λ a. a.class ≡ k → A) (λ h. dummy) (λ h. dummy) constant

keeper_listed : NamesAreListed keeper_inventory (kept_facts 1 keeper_unit)
unfolding kept_example_opened
keeper_listed = record {
  stored = λ x own numeric. nothing_else x class.Stored (λ h. absurd (cc)) (λ h. absurd (cc)) own;
  dummies = λ x own numeric. keeper_dummy x own;
  procedures = λ x own. nothing_else x class.DummyProcedure (λ h. absurd (cc)) (λ h. absurd (cc)) own;
  results = λ x own numeric. nothing_else x class.Result (λ h. absurd (cc)) (λ h. absurd (cc)) own;
}

-- ## Bounds of the subroutine

-- of another name none is kept
not_its_bound : (x : Bytes) (k : ℕ) (kind : BoundKind) (one : KeptBound) → bytes_eq x one.dummy ≡ false → is_bound x k kind one ≡ false
unfolding is_bound
not_its_bound x k kind one other = ap (λ t. t && (nat_eq k one.place && is_same_kind kind one.kind)) other

none_of_it : (x : Bytes) (k : ℕ) (kind : BoundKind) (bounds : List KeptBound) → ((i : ℕ) (one : KeptBound) → slice_get bounds i ≡ Some one → bytes_eq x one.dummy ≡ false) → position (is_bound x k kind) bounds ≡ None
none_of_it x k kind [] other = refl
none_of_it x k kind (one ∷ later) other =
    position_step (is_bound x k kind) one later ∙ skipped (is_bound x k kind one) (Some 0) (option_map suc (position (is_bound x k kind) later)) (not_its_bound x k kind one (other 0 one refl))
    ∙ ap (option_map suc) (none_of_it x k kind later (λ i other_one at. other (suc i) other_one at))

of_the_array : (i : ℕ) (one : KeptBound) → slice_get kept_bounds_of i ≡ Some one → one.dummy ≡ the_dummy_array
of_the_array = each_at (λ i (one : KeptBound). one.dummy ≡ the_dummy_array) kept_bounds_of (refl, (refl, tt))

kept_of_one : (x : Bytes) (k : ℕ) (kind : BoundKind) → bytes_eq x the_dummy_array ≡ false → place_of_bound keeper_inventory x k kind ≡ None
kept_of_one x k kind other = none_of_it x k kind kept_bounds_of (λ i one at. ap (bytes_eq x) (of_the_array i one at) ∙ other)

other_written : (x : Bytes) → bytes_eq x the_dummy_array ≡ false → BoundsAreWritten (kept_facts 1 keeper_unit) keeper_inventory x
unfolding kept_example_opened
other_written x other = record {
  unkept = λ k kind. kept_of_one x k kind other;
  fits = λ k b at. bare_bounds (keeper_attribute x).bounds k b (keeper_bare x) at;
  closed = λ k b at more. bare_bounds (keeper_attribute x).bounds k b (keeper_bare x) at;
}

-- both bounds of the array are
lower_kept : (k : ℕ) (d : Dimension) → slice_get (as_many_as_told ∷ []) k ≡ Some d → (p : Pure) × (bound_pure d.lower ≡ Some p) × IsKept keeper_inventory the_dummy_array k LowerOf p
unfolding kept_example_opened
lower_kept zero d at =
    subst (λ (z : Dimension). (p : Pure) × (bound_pure z.lower ≡ Some p) × IsKept keeper_inventory the_dummy_array 0 LowerOf p) (some_same as_many_as_told d at)
    (Constant (IsInt (pos 1)), refl, record { place = 0; one = _; placed = refl; at = refl; value = refl })
lower_kept (suc k) d at = nothing_at_all k d at

size_kept : (k : ℕ) (d : Dimension) (t : Term) → slice_get (as_many_as_told ∷ []) k ≡ Some d → d.upper ≡ Some t
    → (lower : Pure) × (upper : Pure) × (bound_pure d.lower ≡ Some lower) × (bound_pure t ≡ Some upper) × IsKept keeper_inventory the_dummy_array k SizeOf (size_pure lower upper)
unfolding kept_example_opened
size_kept zero d t at upper =
    let same = some_same as_many_as_told d at in
    let term : Fetch (At the_dummy) ≡ t = some_same (Fetch (At the_dummy)) t (ap (λ (z : Dimension). z.upper) same ∙ upper) in
    let known : bound_pure t ≡ Some (Load (Name the_dummy)) = ap bound_pure (sym term) in
    let lower_is : bound_pure d.lower ≡ Some (Constant (IsInt (pos 1))) = ap (λ (z : Dimension). bound_pure z.lower) (sym same) in
    (Constant (IsInt (pos 1)), Load (Name the_dummy), lower_is, known, record { place = 1; one = _; placed = refl; at = refl; value = refl })
size_kept (suc k) d t at upper = nothing_at_all k d at

array_kept : BoundsAreKept (kept_facts 1 keeper_unit) keeper_inventory the_dummy_array
unfolding kept_example_opened
array_kept = record { lowers = lower_kept; sizes = size_kept; closed = closed }
  where
    closed : (k : ℕ) (d : Dimension) → slice_get (as_many_as_told ∷ []) k ≡ Some d → suc k < 1 → (t : Term) × (d.upper ≡ Some t)
    closed k d at more = absurd (let no : ⊥ = omega (arith, more) in no)

keeper_values : (i : ℕ) (one : KeptBound) → slice_get kept_bounds_of i ≡ Some one → IsBoundValue (kept_facts 1 keeper_unit) keeper_entry.formals one.value
unfolding kept_example_opened
keeper_values =
    each_at (λ i (one : KeptBound). IsBoundValue (kept_facts 1 keeper_unit) keeper_entry.formals one.value) kept_bounds_of
    (of_lower the_dummy_array 0 as_many_as_told first_in refl refl, (of_size the_dummy_array 0 as_many_as_told _ _ _ first_in refl refl refl refl refl, tt))

-- ## The function of the subroutine

no_keeper_strings : length (whole_body keeper_body).items.strings ≡ 0
unfolding trees_opened
no_keeper_strings = refl

keeper_is_built : IsUnitBuilt (numbers_of kept_renderings) (written_of kept_renderings) keeper_site keeper_written (behind 2 (kept_text 1 keeper_unit keeper_steps)) (λ n k. None) (kept_outline keeper_site keeper_inventory) keeper_items
unfolding kept_example_opened
keeper_is_built = record {
  differ = differ_by kept_constants keeper_inventory refl refl refl refl refl refl refl refl refl;
  names_listed = keeper_listed;
  listed = (tt, (tt, (tt, (tt, tt))));
  stops = refl;
  names = refl;
  emitted = refl;
  built = record { turns = 4; statements = refl; ended = refl; inside = λ n name at. absurd (cc); alone = λ m n name at other. absurd (cc); none = λ n ends. refl };
  as_many = no_keeper_strings;
}

keeper_translated : IsTranslatedUnit kept_renderings 1 keeper_rendering
unfolding kept_example_opened trees_opened
keeper_translated = record {
  lowered = refl;
  facts = refl;
  direct = refl;
  ended = refl;
  loops = without_loops refl;
  runs = λ h. absurd (cc);
  entry = keeper_entry;
  only = refl;
  begins = refl;
  named = refl;
  dummies = refl;
  parameters = each_at (λ i p. IsDummy (kept_facts 1 keeper_unit) keeper_inventory p) keeper_inventory.parameters
      (is_number refl refl refl (are_kept array_kept) refl, (is_number refl refl refl (are_written (fixed_by (kept_facts 1 keeper_unit) the_dummy refl refl) (other_written the_dummy refl)) refl, tt));
  gives = λ other. refl;
  result = λ function. absurd (cc);
  results = λ x own. nothing_else x class.Result (λ h. absurd (cc)) (λ h. absurd (cc)) own;
  storage = storage_by keeper_unit keeper_inventory refl refl refl refl tt;
  bounds = λ x other. other_written x (other_bytes x the_dummy_array (λ same. other (subst (λ y. IsIn y (the_dummy_array ∷ the_dummy ∷ [])) (sym same) first_in)));
  values = keeper_values;
  built = keeper_is_built;
  flows = two_flow _ (kept_text 1 keeper_unit keeper_steps) _ (ElementOf the_dummy_array (AndPure (Load (Name the_dummy)) NoPure)) (Load (Name the_dummy)) (λ n k. refl) refl;
  passes = passes_by keeper_inventory (behind 2 (kept_text 1 keeper_unit keeper_steps)) (tt, (tt, (tt, (tt, tt))));
  no_wrapper = refl;
}

-- ## The file

kept_units_are_translated : (j : ℕ) (r : Rendering) → slice_get kept_renderings j ≡ Some r → IsTranslatedUnit kept_renderings j r
kept_units_are_translated = each_at (IsTranslatedUnit kept_renderings) kept_renderings (caller_translated, (keeper_translated, tt))

in_range_each : (i : ℕ) (z : ℤ) → slice_get kept_constants i ≡ Some z → in_range z ≡ true
unfolding in_range
in_range_each = each_at (λ i z. in_range z ≡ true) kept_constants (refl, tt)

kept_numbers : (j : ℕ) (r : Rendering) → slice_get kept_renderings j ≡ Some r → (i : ℕ) (z : ℤ) → slice_get r.site.constants i ≡ Some z → in_range z ≡ true
kept_numbers = each_at (λ j r. (i : ℕ) (z : ℤ) → slice_get r.site.constants i ≡ Some z → in_range z ≡ true) kept_renderings (in_range_each, (in_range_each, tt))

pub kept_example_is_translated : IsTranslatedSet kept_files kept_renderings
kept_example_is_translated = record {
  units = kept_units_are_translated;
  written = refl;
  sited = refl;
  some = omega arith;
  differ = distinct_by (own_names kept_inventories) refl;
  apart = apart_by builtin_names (own_names kept_inventories) refl;
  numbers = kept_numbers;
}
