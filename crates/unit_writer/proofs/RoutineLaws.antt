-- What is known of the procedures of a set is what its units say: the function of each name, and which names may be passed.
use Rattle.std.specs.Prelude.{◌≡◌, ℕ, zero, suc, ◌+◌, Bool, true, false, List, [], ◌∷◌, map, length, Option, Some, None, is_some, option_map, option_and_then, slice_get, if◌then◌else◌}
use Rattle.std.proofs.Common.{◌<◌, refl, sym, ap, ◌∙◌, arith}
use Rattle.f_tree.specs.declared.names.Class.{Class}
use Rattle.f_tree.specs.declared.names.Class.TheVariants as class
use Rattle.f_tree.specs.Values.{Bytes}
use Rattle.f_tree.specs.CNames.{variable_name, external_name}
use Rattle.f_tree.specs.Facts.{ProgramUnit}
use Rattle.f_tree.specs.World.{Called, Procedure}
use Rattle.f_tree.specs.Meaning.{answers_to, found_from}
use Rattle.c_emit.specs.faithful.StorageImage.{function_name}
use Rattle.unit_translation.specs.unit_file.UnitFile.{Callee}
use Rattle.unit_translation.specs.unit_file.UnitNames.{routine_name}
use Rattle.unit_translation.specs.UnitContents.{LoweredUnit, inventory_of, inventories_of, procedure_callee, program_units, unit_callee, unit_numbers}
use Rattle.named_items.specs.declared.item.Callee as named
use Rattle.named_items.specs.Items.{by_name, through}
use Rattle.item_emission.specs.NamedEmission.{procedure_passed}
use Rattle.unit_item_laws.specs.AgreeingUnits as agreeing
use Rattle.unit_item_laws.specs.AgreeingUnits.{is_procedure_in}
use Rattle.item_emitter.specs.declared.known.Routine.{Routine}
use Rattle.item_emitter.specs.Knowing.{is_passed, callee_in}
use Rattle.unit_writer.specs.declared.heading.Procedure as heading
use Rattle.unit_writer.specs.ToldUnits.{TellsProcedures, callees_by}
use Rattle.unit_writer.specs.Told.{put_over, routine_by, routine_if}
use Rattle.unit_writer.proofs.OptionForms.{none_some, nothing_one, one_nothing, one_same, some_none, some_same}

-- ## Units by their numbers

found_within : (name : Called) (us : List ProgramUnit) (k j : ℕ) → found_from k us name ≡ Some j → j < k + length us
unfolding found_from
found_within name [] k j h = absurd (none_some j h)
found_within name (u ∷ us) k j h = by (answers_to name u) (found_within name us (suc k) j) h
  where
    by : (b : Bool) → (found_from (suc k) us name ≡ Some j → j < suc k + length us) → (if b then Some k else found_from (suc k) us name) ≡ Some j → j < k + length (u ∷ us)
    by true further is = let same : k ≡ j = some_same is in omega arith
    by false further is = let later : j < suc k + length us = further is in omega arith

units_length : (us : List LoweredUnit) → length (program_units us) ≡ length us
units_length [] = refl
units_length (u ∷ us) = ap suc (units_length us)

there_is : {A : Type 0} (xs : List A) (j : ℕ) → j < length xs → slice_get xs j ≡ None → ⊥
there_is [] j h none = omega arith
there_is (x ∷ xs) zero h none = some_none x none
there_is (x ∷ xs) (suc j) h none = there_is xs j (omega arith) none

-- the name of the function with the number of a unit
routine_at : (all us : List LoweredUnit) (k : ℕ) (u : LoweredUnit) → slice_get us k ≡ Some u → routine_name (map (inventory_of all) us) k ≡ function_name u.unit
routine_at all [] k u h = absurd (none_some u h)
routine_at all (v ∷ us) zero u h = ap (λ (w : LoweredUnit). function_name w.unit) (some_same h)
routine_at all (v ∷ us) (suc k) u h = routine_at all us k u h

-- ## The function of a name

abbrev function_if : Bool → Bytes → Option named.Callee
function_if b x = if b then Some (by_name (external_name x)) else None

module _ (us : List LoweredUnit) (x : Bytes) where
  found_by : (p : Option heading.Procedure) (o : Option ℕ) → unit_numbers us (Procedure x) ≡ o → callees_by x p ≡ unit_callee (option_and_then (slice_get us) o)
      → option_map (λ k. by_name (routine_name (inventories_of us) k)) o ≡ function_if (is_some p) x
  unfolding callees_by unit_callee
  found_by None None is told = refl
  found_by (Some p) None is told = absurd (one_nothing _ told)
  found_by p (Some k) is told = at p (slice_get us k) refl told
    where
      at : (p : Option heading.Procedure) (u : Option LoweredUnit) → slice_get us k ≡ u → callees_by x p ≡ unit_callee u → Some (by_name (routine_name (inventories_of us) k)) ≡ function_if (is_some p) x
      at p None none said =
          let within : k < 0 + length (program_units us) = found_within (Procedure x) (program_units us) 0 k is in
          let size : length (program_units us) ≡ length us = units_length us in
          absurd (there_is us k (omega arith) none)
      at None (Some u) there said = absurd (nothing_one _ said)
      at (Some p) (Some u) there said =
          ap (λ name. Some (by_name name)) (routine_at us us k u there ∙ sym (ap (λ (c : Callee). c.name) (one_same _ _ said)))

  pub function_found : (procedures : Bytes → Option heading.Procedure) → TellsProcedures us procedures
      → option_map (λ k. by_name (routine_name (inventories_of us) k)) (unit_numbers us (Procedure x)) ≡ function_if (is_some (procedures x)) x
  unfolding procedure_callee
  function_found procedures tells = found_by (procedures x) (unit_numbers us (Procedure x)) refl (tells.told x)

-- ## What is known of a name

-- what is found of a name is the function that it calls, and whether it may be passed, where it has one
pub record IsRoutine (us : List LoweredUnit) (x : Bytes) (k : Class) (found : Option Routine) : Type 0 where
  pub callee : callee_in found ≡ agreeing.routine_in (unit_numbers us) (inventories_of us) x k
  pub passed : procedure_passed (is_passed found) (agreeing.routine_in (unit_numbers us) (inventories_of us) x k) ≡ procedure_passed (is_procedure_in k) (agreeing.routine_in (unit_numbers us) (inventories_of us) x k)

no_unit : class.DummyProcedure ≡ class.Unit → ⊥
no_unit h = cc

module _ (us : List LoweredUnit) (x : Bytes) where
  abbrev its_function : Option named.Callee
  its_function = option_map (λ k. by_name (routine_name (inventories_of us) k)) (unit_numbers us (Procedure x))

  abbrev put_twice : Class → Bool → Bool → Option Routine
  put_twice k d b = put_over d (routine_by k d x) (put_over b (routine_by k d x) None)

  named_case : (d b passed : Bool) → its_function ≡ function_if d x → callee_in (put_over d (routine_if d passed x) (put_over b (routine_if d passed x) None)) ≡ its_function
  unfolding routine_if put_over callee_in
  named_case true b passed is = sym is
  named_case false true passed is = sym is
  named_case false false passed is = sym is

  passed_case : (d b : Bool) → its_function ≡ function_if d x
      → procedure_passed (is_passed (put_over d (routine_if d true x) (put_over b (routine_if d true x) None))) its_function ≡ procedure_passed true its_function
  unfolding routine_if put_over is_passed procedure_passed
  passed_case true b is = refl
  passed_case false true is = sym (ap (procedure_passed true) is)
  passed_case false false is = sym (ap (procedure_passed true) is)

  called_case : (d b : Bool) → is_passed (put_over d (routine_if d false x) (put_over b (routine_if d false x) None)) ≡ false
  unfolding routine_if put_over is_passed
  called_case true b = refl
  called_case false true = refl
  called_case false false = refl

  none_case : (d b : Bool) → put_over d None (put_over b None None) ≡ None
  unfolding put_over
  none_case true true = refl
  none_case true false = refl
  none_case false true = refl
  none_case false false = refl

  dummy_case : (r : Routine) (d b : Bool) → (b ≡ false → ⊥) → put_over d (Some r) (put_over b (Some r) None) ≡ Some r
  unfolding put_over
  dummy_case r true b h = refl
  dummy_case r false true h = refl
  dummy_case r false false h = absurd (h refl)

  other_routine : (k : Class) (d b : Bool) → routine_by k d x ≡ None → agreeing.routine_in (unit_numbers us) (inventories_of us) x k ≡ None → is_procedure_in k ≡ false → IsRoutine us x k (put_twice k d b)
  unfolding callee_in is_passed
  other_routine k d b none uncalled not_one =
      let found : put_twice k d b ≡ None = ap (λ r. put_over d r (put_over b r None)) none ∙ none_case d b in
      record {
        callee = ap callee_in found ∙ sym uncalled;
        passed = λ i. procedure_passed ((ap is_passed found ∙ sym not_one) i) (agreeing.routine_in (unit_numbers us) (inventories_of us) x k);
      }

  pub routine_case : (k : Class) (d b : Bool) → (b ≡ false → k ≡ class.Unit) → its_function ≡ function_if d x → IsRoutine us x k (put_twice k d b)
  unfolding routine_by agreeing.routine_in is_procedure_in is_passed callee_in
  routine_case class.Procedure d b other is = record { callee = named_case d b true is; passed = passed_case d b is }
  routine_case class.Result d b other is = record { callee = named_case d b false is; passed = ap (λ p. procedure_passed p its_function) (called_case d b) }
  routine_case class.Unit d b other is = record { callee = named_case d b false is; passed = ap (λ p. procedure_passed p its_function) (called_case d b) }
  routine_case class.DummyProcedure d b other is = dummy
    where
      found : put_twice class.DummyProcedure d b ≡ Some (record { callee = through (variable_name x); is_passed = true })
      found = dummy_case (record { callee = through (variable_name x); is_passed = true }) d b (λ h. no_unit (other h))

      dummy : IsRoutine us x class.DummyProcedure (put_twice class.DummyProcedure d b)
      dummy = record { callee = ap callee_in found; passed = ap (λ r. procedure_passed (is_passed r) (Some (through (variable_name x)))) found }
  routine_case class.Constant d b other is = other_routine class.Constant d b refl refl refl
  routine_case class.Stored d b other is = other_routine class.Stored d b refl refl refl
  routine_case class.Dummy d b other is = other_routine class.Dummy d b refl refl refl
  routine_case class.StatementFunction d b other is = other_routine class.StatementFunction d b refl refl refl
  routine_case class.Intrinsic d b other is = other_routine class.Intrinsic d b refl refl refl
