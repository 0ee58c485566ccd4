use Rattle.std.proofs.Common.{◌≡◌, List, drop}
use Rattle.std.specs.Prelude.{fold}
use Rattle.unit_forms.specs.main_translation.Contents.{with_new}
use Rattle.unit_translation.specs.UnitContents.{LoweredUnit, constants_passed}
use Rattle.translator.specs.LoweredFiles.{AreTold}
use Rattle.translator.proofs.ListLemmas.{values_passed_by}
use Rattle.translator.proofs.functions.constants_among.Given as goal

abbrev pub invariant-loop-unit : goal.invariant-loop-unit
invariant-loop-unit l = (us : List LoweredUnit) → AreTold us l.units → constants_passed us ≡ fold with_new l.constants.keys (values_passed_by (drop l.unit-index us))
