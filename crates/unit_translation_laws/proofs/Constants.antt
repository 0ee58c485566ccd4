-- The constants of a file are told apart, and have 32 bits.
use Rattle.std.specs.List.{flat_map}
use Rattle.std.specs.Prelude.{◌≡◌, ℕ, suc, ℤ, pos, true, List, [], ◌∷◌, option_and_then}
use Rattle.unit_translation.specs.f_tree.Values.{in_range}
use Rattle.unit_translation.specs.f_tree.Setting.{IsIn}
use Rattle.unit_translation.specs.l_core.Pures.{NoPure, AndPure}
use Rattle.unit_translation.specs.l_core.Steps.{Takes, Step, Compute, CallFor, CallSub, Acts, Text}
use Rattle.unit_translation.specs.c_emit.Calls.{kind_number}
use Rattle.unit_translation.specs.main_translation.Contents.{own_value, kind_value}
use Rattle.main_translation_laws.proofs.Lists.{AreApart}
use Rattle.main_translation_laws.proofs.Contents.{none_ascending, fold_ascends, ascending_apart, AllFit, fold_fit, fit_both, fit_none, fit_one, one, kind_fits, own_fits, owns_fit}
use Rattle.unit_translation.specs.UnitFlow.{item_kind}
use Rattle.unit_translation.specs.UnitContents.{LoweredUnit, whole_text, values_passed, values_from, constants_passed}

step_fits : (u : Text) (n : ℕ) (st : Step) → AllFit (values_passed u n st)
unfolding values_passed
step_fits u n (Acts Takes (AndPure p NoPure) m) =
    fit_both (kind_value (option_and_then kind_number (item_kind u n p))) (pos 1 ∷ own_value p) (kind_fits (item_kind u n p)) (fit_both (pos 1 ∷ []) (own_value p) (fit_one (pos 1) one) (own_fits p))
step_fits u n (Compute k f ps) = owns_fit ps
step_fits u n (CallFor k callee ps) = owns_fit ps
step_fits u n (CallSub k x ps) = owns_fit ps
step_fits u n st = fit_none

steps_fit : (u : Text) (n : ℕ) (steps : List Step) → AllFit (values_from u n steps)
unfolding values_from
steps_fit u n [] = fit_none
steps_fit u n (st ∷ later) = fit_both (values_passed u n st) (values_from u (suc n) later) (step_fits u n st) (steps_fit u (suc n) later)

units_fit : (us : List LoweredUnit) → AllFit (flat_map (λ (u : LoweredUnit). values_from (whole_text u) 0 (whole_text u).steps) us)
units_fit [] = fit_none
units_fit (u ∷ us) = fit_both (values_from (whole_text u) 0 (whole_text u).steps) (flat_map (λ (v : LoweredUnit). values_from (whole_text v) 0 (whole_text v).steps) us) (steps_fit (whole_text u) 0 (whole_text u).steps) (units_fit us)

pub constants_fit : (us : List LoweredUnit) (z : ℤ) → IsIn z (constants_passed us) → in_range z ≡ true
unfolding constants_passed
constants_fit us = fold_fit (flat_map (λ (u : LoweredUnit). values_from (whole_text u) 0 (whole_text u).steps) us) [] (units_fit us) fit_none

pub constants_apart : (us : List LoweredUnit) → AreApart (constants_passed us)
unfolding constants_passed
constants_apart us = ascending_apart (constants_passed us) (fold_ascends (flat_map (λ (u : LoweredUnit). values_from (whole_text u) 0 (whole_text u).steps) us) [] none_ascending)
