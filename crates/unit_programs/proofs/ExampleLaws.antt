-- The example is translated.
use Rattle.std.specs.Prelude.{◌≡◌, ◌≢◌, ℕ, zero, suc, ◌+◌, nat_eq, ℤ, pos, Bool, true, false, [], ◌∷◌, Some, None, length, slice_get, bytes_eq, if◌then◌else◌}
use Rattle.std.proofs.Common.{refl, sym, ap, ◌∙◌, subst, arith}
use Rattle.std.proofs.lemmas.Slice.Eq.{bytes_eq-Decides}
use Rattle.emitted_procedures.specs.f_tree.declared.names.Basic.{Basic}
use Rattle.emitted_procedures.specs.f_tree.declared.names.Basic.TheVariants as basic
use Rattle.emitted_procedures.specs.f_tree.declared.names.Class.{Class}
use Rattle.emitted_procedures.specs.f_tree.declared.names.Class.TheVariants as class
use Rattle.emitted_procedures.specs.f_tree.Values.{Bytes, IsInt, in_range}
use Rattle.emitted_procedures.specs.f_tree.Terms.{Add}
use Rattle.emitted_procedures.specs.f_tree.Facts.{Attribute, Named, MainProgram, FunctionUnit, BlockDataUnit, EntryPoint}
use Rattle.emitted_procedures.specs.l_core.Pures.{Pure, Constant, Load, Name, Operated}
use Rattle.emitted_procedures.specs.l_core.Steps.{Put, Back, Text}
use Rattle.unit_forms.specs.lowering_laws.Layout.{without_loops}
use Rattle.emitted_procedures.specs.c_tree.declared.types.NumberType.TheVariants as number_type
use Rattle.emitted_procedures.specs.c_tree.Opened.{trees_opened}
use Rattle.emitted_procedures.specs.c_tree.Builtins.{builtin_names}
use Rattle.emitted_procedures.specs.c_tree.FlatForm.{whole_body}
use Rattle.emitted_procedures.specs.c_emit.Numbers.{Writing, is_numeric, has_shape}
use Rattle.unit_file_laws.proofs.linking_laws.Places.{some_same}
use Rattle.emitted_procedures.specs.procedure_emission.EmittedUnits.{is_number_pointer}
use Rattle.behind_bounds.specs.BehindBounds.{behind, writing_behind}
use Rattle.unit_file_laws.specs.unit_file.UnitNames.{own_names, routine_name}
use Rattle.unit_file_laws.specs.KnownUnits.{IsVariable, IsParameter, NamesAreListed, unit_writing}
use Rattle.unit_file_laws.specs.BuiltUnits.{IsCalled, AreListed, IsUnitBuilt}
use Rattle.unit_programs.specs.OwnStorage.{HasOwnStorage}
use Rattle.unit_programs.specs.TranslatedUnits.{Rendering, written_of, numbers_of, are_written, IsDummy, is_number, Flows, Passes, IsTranslatedUnit, IsTranslatedSet}
use Rattle.unit_programs.specs.Example.{the_variable, the_dummy, the_function, the_subroutine, an_integer, no_name, main_attribute, function_attribute, subroutine_attribute, main_unit, function_unit, subroutine_unit, its_facts, text_with, main_steps, function_steps, subroutine_steps, main_kind, main_stage, its_constants, main_inventory, function_inventory, subroutine_inventory, its_inventories, main_site, function_site, subroutine_site, main_items, function_items, subroutine_items, main_body, function_body, subroutine_body, outline_for, main_written, function_written, subroutine_written, its_files, main_rendering, function_rendering, subroutine_rendering, its_renderings, example_opened}
use Rattle.unit_programs.proofs.Told.{differ_by, distinct_by, apart_by, EachAt, each_at}
use Rattle.unit_programs.proofs.ExampleParts.{none_led, led_to, nothing_at_all, no_some, written_by, KindsFit, IsKept, StageFits, OutputFits, flows_by, passes_by, storage_by, fixed_by}

-- ## Names of the main program

main_names : (x : Bytes) (P : Attribute → Type 0) → ((bytes_eq x the_variable ≡ true) → P an_integer) → P (record an_integer { class = class.Procedure }) → P (record no_name { class = class.Procedure }) → P no_name → P (main_attribute x)
main_names x P own function subroutine other = by (bytes_eq x the_variable) (bytes_eq x the_function) (bytes_eq x (115 ∷ [])) refl
  where
    by : (a b c : Bool) → bytes_eq x the_variable ≡ a → P (if a then an_integer else if b then record an_integer { class = class.Procedure } else if c then record no_name { class = class.Procedure } else no_name)
    by true b c h = own h
    by false true c h = function
    by false false true h = subroutine
    by false false false h = other

main_bare : (x : Bytes) → (main_attribute x).bounds ≡ []
main_bare x = main_names x (λ a. a.bounds ≡ []) (λ h. refl) refl refl refl

main_stored : (x : Bytes) → (main_attribute x).class ≡ class.Stored → the_variable ≡ x
main_stored x =
    main_names x (λ a. a.class ≡ class.Stored → the_variable ≡ x) (λ h same. sym ((bytes_eq-Decides x the_variable).0 h)) (λ same. absurd (cc)) (λ same. absurd (cc)) (λ same. absurd (cc))

no_other : {A : Type 0} (x : Bytes) (k : Class) → (class.Stored ≡ k → A) → (class.Procedure ≡ k → A) → (class.Constant ≡ k → A) → (main_attribute x).class ≡ k → A
no_other {A} x k stored procedure constant = main_names x (λ a. a.class ≡ k → A) (λ h. stored) procedure procedure constant

main_listed : NamesAreListed main_inventory (its_facts 0 main_unit)
unfolding example_opened
main_listed = record {
  stored = λ x own numeric. subst (λ y. IsVariable main_inventory y (has_shape (main_attribute y).dimensions)) (main_stored x own) (record { place = 0; one = _; placed = refl; at = refl; counted = refl });
  dummies = λ x own numeric. no_other x class.Dummy (λ h. absurd (cc)) (λ h. absurd (cc)) (λ h. absurd (cc)) own;
  procedures = λ x own. no_other x class.DummyProcedure (λ h. absurd (cc)) (λ h. absurd (cc)) (λ h. absurd (cc)) own;
  results = λ x own numeric. no_other x class.Result (λ h. absurd (cc)) (λ h. absurd (cc)) (λ h. absurd (cc)) own;
}

-- ## The function of the main program

main_declared : AreListed (numbers_of its_renderings) its_inventories (its_facts 0 main_unit) main_inventory 0 main_steps
unfolding example_opened
main_declared = (
  ((λ k found. subst (λ n. IsCalled main_inventory (routine_name its_inventories n)) (some_same 1 k found) (0, refl)), tt),
  (
    tt,
    (
      ((λ k found. subst (λ n. IsCalled main_inventory (routine_name its_inventories n)) (some_same 2 k found) (1, refl)), tt),
      (((2, refl), (0, refl)), ((3, refl), ((4, refl), (tt, tt)))),
    ),
  ),
)

no_strings : length (whole_body main_body).items.strings ≡ 0
unfolding trees_opened
no_strings = refl

main_is_built : IsUnitBuilt (numbers_of its_renderings) (written_of its_renderings) main_site main_written (behind 0 (text_with 0 main_unit main_steps)) main_kind (outline_for main_site main_inventory) main_items
unfolding example_opened
main_is_built = record {
  differ = differ_by its_constants main_inventory refl refl refl refl refl refl refl refl refl;
  names_listed = main_listed;
  listed = main_declared;
  stops = refl;
  names = refl;
  emitted = refl;
  built = record { turns = 7; statements = refl; ended = refl; inside = λ n name at. absurd (cc); alone = λ m n name at other. absurd (cc); none = λ n ends. refl };
  as_many = no_strings;
}

pub no_truth : {A : Type 0} → false ≡ true → A
no_truth h = absurd (cc)

first_kind : (k : ℕ) (b : Basic) → main_kind 1 k ≡ Some b → (if nat_eq k 0 then Some basic.Integer else main_kind 0 k) ≡ Some b
first_kind zero b h = h
first_kind (suc k) b h = no_some b h

main_flows : Flows (writing_behind 0 (unit_writing main_site main_written (its_facts 0 main_unit) main_kind)) (text_with 0 main_unit main_steps) (λ n. main_stage (0 + n))
    (record { name = []; formals = []; start = 0 })
unfolding example_opened
main_flows =
    flows_by (writing_behind 0 (unit_writing main_site main_written (its_facts 0 main_unit) main_kind)) (text_with 0 main_unit main_steps) (λ n. main_stage (0 + n))
    (record { name = []; formals = []; start = 0 }) (
      (λ m among k b is. first_kind k b (ap (λ i. main_kind (0 + i) k) (led_to m 1 among) ∙ is)),
      (
        (λ m among k b is. no_some b (ap (λ i. main_kind (0 + i) k) (led_to m 2 among) ∙ is)),
        (
          (λ m among k b is. no_some b (ap (λ i. main_kind (0 + i) k) (led_to m 3 among) ∙ is)),
          (
            (λ m among k b is. no_some b (ap (λ i. main_kind (0 + i) k) (led_to m 4 among) ∙ is)),
            (
              (λ m among k b is. no_some b (ap (λ i. main_kind (0 + i) k) (led_to m 5 among) ∙ is)),
              (
                (λ m among k b is. no_some b (ap (λ i. main_kind (0 + i) k) (led_to m 6 among) ∙ is)),
                ((λ m among k b is. none_led m among), tt),
              ),
            ),
          ),
        ),
      ),
    )
    (tt, (tt, (tt, (tt, (tt, (tt, (tt, tt))))))) (
      (λ m among. ap (λ i. main_stage (0 + i)) (sym (led_to m 1 among))),
      (
        (λ m among. ap (λ i. main_stage (0 + i)) (sym (led_to m 2 among))),
        (
          (λ m among. ap (λ i. main_stage (0 + i)) (sym (led_to m 3 among))),
          (
            (λ m among. ap (λ i. main_stage (0 + i)) (sym (led_to m 4 among))),
            (
              (λ m among. ap (λ i. main_stage (0 + i)) (sym (led_to m 5 among))),
              (
                (λ m among. ap (λ i. main_stage (0 + i)) (sym (led_to m 6 among))),
                ((λ m among. none_led m among), tt),
              ),
            ),
          ),
        ),
      ),
    ) (
      ((λ h. no_truth h), (λ h. no_truth h)),
      (
        ((λ h. no_truth h), (λ h. no_truth h)),
        (
          ((λ h. no_truth h), (λ h. no_truth h)),
          (
            ((λ h. no_truth h), (λ h. no_truth h)),
            (
              ((λ h. (pos 6, refl)), (λ h. no_truth h)),
              (
                ((λ h. (pos 6, refl)), (λ h. no_truth h)),
                (((λ h. no_truth h), (λ h. refl)), tt),
              ),
            ),
          ),
        ),
      ),
    )
    refl

-- the unit of the output
six_only : (unit : ℤ) → Some (pos 6) ≡ Some unit → pos 6 ≡ unit
six_only unit h = some_same (pos 6) unit h

main_passes : Passes main_inventory (behind 0 (text_with 0 main_unit main_steps))
unfolding example_opened
main_passes = passes_by main_inventory (behind 0 (text_with 0 main_unit main_steps)) (tt, (tt, (tt, ((λ unit is. (0, record { step = 3; unit = pos 6 }, refl, refl, six_only unit is)), (tt, (tt, (tt, tt)))))))

main_storage : HasOwnStorage main_unit main_inventory
unfolding example_opened
main_storage =
    storage_by main_unit main_inventory refl refl refl refl (record { one = _; at = refl; named = refl; sized = refl; small = omega arith; first = refl; numeric = refl; wide = refl; within = omega arith }, tt)

main_runs : MainProgram ≢ BlockDataUnit
main_runs h = cc

main_none : MainProgram ≡ FunctionUnit → ⊥
main_none h = cc

main_translated : IsTranslatedUnit its_renderings 0 main_rendering
unfolding example_opened trees_opened
main_translated = record {
  lowered = refl;
  facts = refl;
  direct = refl;
  ended = refl;
  loops = without_loops refl;
  runs = main_runs;
  entry = record { name = []; formals = []; start = 0 };
  only = refl;
  begins = refl;
  named = refl;
  dummies = refl;
  parameters = λ i p at. nothing_at_all i p at;
  gives = λ other. refl;
  result = λ function. absurd (main_none function);
  results = λ x own. no_other x class.Result (λ h. absurd (cc)) (λ h. absurd (cc)) (λ h. absurd (cc)) own;
  storage = main_storage;
  bounds = λ x other. written_by (its_facts 0 main_unit) main_inventory x refl (main_bare x);
  values = λ i one at. nothing_at_all i one at;
  built = main_is_built;
  flows = main_flows;
  passes = main_passes;
  no_wrapper = refl;
}

-- ## The function

function_names : (x : Bytes) (P : Attribute → Type 0) → P (record an_integer { class = class.Result }) → ((bytes_eq x the_dummy ≡ true) → P (record an_integer { class = class.Dummy })) → P no_name → P (function_attribute x)
function_names x P result dummy other = by (bytes_eq x the_function) (bytes_eq x the_dummy) refl
  where
    by : (a b : Bool) → bytes_eq x the_dummy ≡ b → P (if a then record an_integer { class = class.Result } else if b then record an_integer { class = class.Dummy } else no_name)
    by true b h = result
    by false true h = dummy h
    by false false h = other

function_bare : (x : Bytes) → (function_attribute x).bounds ≡ []
function_bare x = function_names x (λ a. a.bounds ≡ []) refl (λ h. refl) refl

function_flat : (x : Bytes) → (function_attribute x).dimensions ≡ []
function_flat x = function_names x (λ a. a.dimensions ≡ []) refl (λ h. refl) refl

function_dummy : (x : Bytes) → (function_attribute x).class ≡ class.Dummy → the_dummy ≡ x
function_dummy x = function_names x (λ a. a.class ≡ class.Dummy → the_dummy ≡ x) (λ same. absurd (cc)) (λ h same. sym ((bytes_eq-Decides x the_dummy).0 h)) (λ same. absurd (cc))

no_more : {A : Type 0} (x : Bytes) (k : Class) → (class.Result ≡ k → A) → (class.Dummy ≡ k → A) → (class.Constant ≡ k → A) → (function_attribute x).class ≡ k → A
no_more {A} x k result dummy constant = function_names x (λ a. a.class ≡ k → A) result (λ h. dummy) constant

function_listed : NamesAreListed function_inventory (its_facts 1 function_unit)
unfolding example_opened
function_listed = record {
  stored = λ x own numeric. no_more x class.Stored (λ h. absurd (cc)) (λ h. absurd (cc)) (λ h. absurd (cc)) own;
  dummies = λ x own numeric. subst (λ y. IsParameter function_inventory y is_number_pointer) (function_dummy x own) (record { place = 0; one = _; placed = refl; at = refl; typed = refl });
  procedures = λ x own. no_more x class.DummyProcedure (λ h. absurd (cc)) (λ h. absurd (cc)) (λ h. absurd (cc)) own;
  results = λ x own numeric. (ap has_shape (function_flat x), (number_type.Integer, refl));
}

no_function_strings : length (whole_body function_body).items.strings ≡ 0
unfolding trees_opened
no_function_strings = refl

function_is_built : IsUnitBuilt (numbers_of its_renderings) (written_of its_renderings) function_site function_written (behind 0 (text_with 1 function_unit function_steps)) (λ n k. None) (outline_for function_site function_inventory) function_items
unfolding example_opened
function_is_built = record {
  differ = differ_by [] function_inventory refl refl refl refl refl refl refl refl refl;
  names_listed = function_listed;
  listed = (tt, (tt, tt));
  stops = refl;
  names = refl;
  emitted = refl;
  built = record { turns = 2; statements = refl; ended = refl; inside = λ n name at. absurd (cc); alone = λ m n name at other. absurd (cc); none = λ n ends. refl };
  as_many = no_function_strings;
}

-- two steps, a store and a return, over no temporaries and no output
pub two_flow : (w : Writing) (u : Text) (entry : EntryPoint) (target value : Pure) → ((n k : ℕ) → w.kind n k ≡ None) → u.steps ≡ Put target value ∷ Back ∷ [] → Flows w u (λ n. None) entry
unfolding example_opened
two_flow w u entry target value none steps =
    flows_by w u (λ n. None) entry
    (subst (EachAt (KindsFit w u) 0) (sym steps) ((λ m among k b is. no_some b (sym (none m k) ∙ is)), ((λ m among k b is. none_led m among), tt)))
    (subst (EachAt (IsKept w) 0) (sym steps) (tt, (tt, tt)))
    (subst (EachAt (StageFits u (λ n. None)) 0) (sym steps) ((λ m among. refl), ((λ m among. none_led m among), tt)))
    (subst (EachAt (OutputFits (λ n. None)) 0) (sym steps) (((λ h. no_truth h), (λ h. no_truth h)), (((λ h. no_truth h), (λ h. refl)), tt)))
    refl

function_translated : IsTranslatedUnit its_renderings 1 function_rendering
unfolding example_opened trees_opened
function_translated = record {
  lowered = refl;
  facts = refl;
  direct = refl;
  ended = refl;
  loops = without_loops refl;
  runs = λ h. absurd (cc);
  entry = record { name = the_function; formals = Named the_dummy ∷ []; start = 0 };
  only = refl;
  begins = refl;
  named = refl;
  dummies = refl;
  parameters = each_at (λ i p. IsDummy (its_facts 1 function_unit) function_inventory p) function_inventory.parameters (is_number refl refl refl (are_written (fixed_by (its_facts 1 function_unit) the_dummy refl refl) (written_by (its_facts 1 function_unit) function_inventory the_dummy refl refl)) refl, tt);
  gives = λ other. absurd (other refl);
  result = λ function. record {
    type = number_type.Integer;
    returned = refl;
    own = refl;
    numeric = λ x. function_names x (λ a. a.class ≡ class.Result → is_numeric a.basic ≡ true) (λ same. refl) (λ h same. absurd (cc)) (λ same. absurd (cc));
    gives = refl;
  };
  results = λ x own. refl;
  storage = storage_by function_unit function_inventory refl refl refl refl tt;
  bounds = λ x other. written_by (its_facts 1 function_unit) function_inventory x refl (function_bare x);
  values = λ i one at. nothing_at_all i one at;
  built = function_is_built;
  flows = two_flow _ (text_with 1 function_unit function_steps) _ (Name the_function) (Load (Name the_dummy)) (λ n k. refl) refl;
  passes = passes_by function_inventory (behind 0 (text_with 1 function_unit function_steps)) (tt, (tt, tt));
  no_wrapper = refl;
}

-- ## The subroutine

subroutine_names : (x : Bytes) (P : Attribute → Type 0) → ((bytes_eq x the_dummy ≡ true) → P (record an_integer { class = class.Dummy })) → P no_name → P (subroutine_attribute x)
subroutine_names x P dummy other = by (bytes_eq x the_dummy) refl
  where
    by : (b : Bool) → bytes_eq x the_dummy ≡ b → P (if b then record an_integer { class = class.Dummy } else no_name)
    by true h = dummy h
    by false h = other

subroutine_bare : (x : Bytes) → (subroutine_attribute x).bounds ≡ []
subroutine_bare x = subroutine_names x (λ a. a.bounds ≡ []) (λ h. refl) refl

subroutine_dummy : (x : Bytes) → (subroutine_attribute x).class ≡ class.Dummy → the_dummy ≡ x
subroutine_dummy x = subroutine_names x (λ a. a.class ≡ class.Dummy → the_dummy ≡ x) (λ h same. sym ((bytes_eq-Decides x the_dummy).0 h)) (λ same. absurd (cc))

nothing_else : {A : Type 0} (x : Bytes) (k : Class) → (class.Dummy ≡ k → A) → (class.Constant ≡ k → A) → (subroutine_attribute x).class ≡ k → A
nothing_else {A} x k dummy constant = subroutine_names x (λ a. a.class ≡ k → A) (λ h. dummy) constant

subroutine_listed : NamesAreListed subroutine_inventory (its_facts 2 subroutine_unit)
unfolding example_opened
subroutine_listed = record {
  stored = λ x own numeric. nothing_else x class.Stored (λ h. absurd (cc)) (λ h. absurd (cc)) own;
  dummies = λ x own numeric. subst (λ y. IsParameter subroutine_inventory y is_number_pointer) (subroutine_dummy x own) (record { place = 0; one = _; placed = refl; at = refl; typed = refl });
  procedures = λ x own. nothing_else x class.DummyProcedure (λ h. absurd (cc)) (λ h. absurd (cc)) own;
  results = λ x own numeric. nothing_else x class.Result (λ h. absurd (cc)) (λ h. absurd (cc)) own;
}

no_subroutine_strings : length (whole_body subroutine_body).items.strings ≡ 0
unfolding trees_opened
no_subroutine_strings = refl

subroutine_is_built : IsUnitBuilt (numbers_of its_renderings) (written_of its_renderings) subroutine_site subroutine_written (behind 0 (text_with 2 subroutine_unit subroutine_steps)) (λ n k. None) (outline_for subroutine_site subroutine_inventory)
    subroutine_items
unfolding example_opened
subroutine_is_built = record {
  differ = differ_by [] subroutine_inventory refl refl refl refl refl refl refl refl refl;
  names_listed = subroutine_listed;
  listed = (tt, (tt, tt));
  stops = refl;
  names = refl;
  emitted = refl;
  built = record { turns = 2; statements = refl; ended = refl; inside = λ n name at. absurd (cc); alone = λ m n name at other. absurd (cc); none = λ n ends. refl };
  as_many = no_subroutine_strings;
}

subroutine_translated : IsTranslatedUnit its_renderings 2 subroutine_rendering
unfolding example_opened trees_opened
subroutine_translated = record {
  lowered = refl;
  facts = refl;
  direct = refl;
  ended = refl;
  loops = without_loops refl;
  runs = λ h. absurd (cc);
  entry = record { name = the_subroutine; formals = Named the_dummy ∷ []; start = 0 };
  only = refl;
  begins = refl;
  named = refl;
  dummies = refl;
  parameters = each_at (λ i p. IsDummy (its_facts 2 subroutine_unit) subroutine_inventory p) subroutine_inventory.parameters (is_number refl refl refl (are_written (fixed_by (its_facts 2 subroutine_unit) the_dummy refl refl) (written_by (its_facts 2 subroutine_unit) subroutine_inventory the_dummy refl refl)) refl, tt);
  gives = λ other. refl;
  result = λ function. absurd (cc);
  results = λ x own. nothing_else x class.Result (λ h. absurd (cc)) (λ h. absurd (cc)) own;
  storage = storage_by subroutine_unit subroutine_inventory refl refl refl refl tt;
  bounds = λ x other. written_by (its_facts 2 subroutine_unit) subroutine_inventory x refl (subroutine_bare x);
  values = λ i one at. nothing_at_all i one at;
  built = subroutine_is_built;
  flows = two_flow _ (text_with 2 subroutine_unit subroutine_steps) _ (Name the_dummy) (Operated Add (Load (Name the_dummy)) (Constant (IsInt (pos 1)))) (λ n k. refl) refl;
  passes = passes_by subroutine_inventory (behind 0 (text_with 2 subroutine_unit subroutine_steps)) (tt, (tt, tt));
  no_wrapper = refl;
}

-- ## The files

its_units_are_translated : (j : ℕ) (r : Rendering) → slice_get its_renderings j ≡ Some r → IsTranslatedUnit its_renderings j r
its_units_are_translated = each_at (IsTranslatedUnit its_renderings) its_renderings (main_translated, (function_translated, (subroutine_translated, tt)))

in_range_each : (i : ℕ) (z : ℤ) → slice_get its_constants i ≡ Some z → in_range z ≡ true
unfolding in_range
in_range_each = each_at (λ i z. in_range z ≡ true) its_constants (refl, (refl, (refl, tt)))

its_numbers : (j : ℕ) (r : Rendering) → slice_get its_renderings j ≡ Some r → (i : ℕ) (z : ℤ) → slice_get r.site.constants i ≡ Some z → in_range z ≡ true
its_numbers = each_at (λ j r. (i : ℕ) (z : ℤ) → slice_get r.site.constants i ≡ Some z → in_range z ≡ true) its_renderings (in_range_each, ((λ i z at. nothing_at_all i z at), ((λ i z at. nothing_at_all i z at), tt)))

pub example_is_translated : IsTranslatedSet its_files its_renderings
example_is_translated = record {
  units = its_units_are_translated;
  written = refl;
  sited = refl;
  some = omega arith;
  differ = distinct_by (own_names its_inventories) refl;
  apart = apart_by builtin_names (own_names its_inventories) refl;
  numbers = its_numbers;
}
