-- LAW: the function of a main program that calls no procedure is that of a unit, where more is said of its steps and its frame stands apart.
-- ANSI X3.9-1978, section 14.
use Rattle.std.specs.Prelude.{◌≡◌, ℕ, nat_lt, true, List, Some, None, slice_get}
use Rattle.procedure_emission.specs.f_tree.declared.names.Basic.{Basic}
use Rattle.procedure_emission.specs.f_tree.Setting.{IsIn}
use Rattle.procedure_emission.specs.f_tree.World.{Called}
use Rattle.procedure_emission.specs.l_core.Pures.{Pure}
use Rattle.procedure_emission.specs.l_core.Steps.{Step, Keep, Back, Text}
use Rattle.procedure_emission.specs.c_emit.Types.{type_of}
use Rattle.procedure_emission.specs.emitted_texts.SecondLayer.{Surroundings, Emission}
use Rattle.procedure_emission.specs.emitted_texts.Emitted.{leads, stage_behind, IsEmittedMain}
use Rattle.procedure_emission.specs.EmittedUnits.{RoomIsApart, IsEmittedUnit}

-- what is asked of a unit beside what is asked of a main program
pub record IsFurther (s : Surroundings) (number : ℕ) (u : Text) (e : Emission) : Type 0 where
  pub apart_rooms : RoomIsApart s number e
  pub calls : (name : Called) (function : ℕ) → s.numbers name ≡ Some function → nat_lt function e.function.own ≡ true
  -- the output in progress before each step is that behind the steps that lead there, and none is in progress at the end
  pub stages : (n : ℕ) (st : Step) (m : ℕ) → slice_get u.steps n ≡ Some st → IsIn m (leads u n st) → e.stage m ≡ stage_behind (e.stage n) st
  pub returns : (n : ℕ) → slice_get u.steps n ≡ Some Back → e.stage n ≡ None
  pub keeps : (n k : ℕ) (p : Pure) → slice_get u.steps n ≡ Some (Keep k p) → (basic : Basic) × (type_of e.writing n p ≡ Some basic)

abbrev pub MainsAreUnits : Type 0
MainsAreUnits = (s : Surroundings) (number : ℕ) (u : Text) (costs : List ℕ) (e : Emission) → IsEmittedMain s number u costs e → IsFurther s number u e → IsEmittedUnit s number u costs e
