-- What the test computes to for five units, and for ten that are not plain; and what is kept of dummy arrays.
use Rattle.std.proofs.Common.{refl}
use Rattle.plain_mains.specs.f_tree.CNames.{is_name_byte, is_name}
use Rattle.plain_mains.specs.f_tree.Nests.{nests_opened}
use Rattle.plain_mains.specs.f_tree.Meaning.{everything}
use Rattle.plain_mains.specs.lowering_laws.Layout.{layout_opened}
use Rattle.plain_mains.specs.c_emit.Numbers.{numbers_opened}
use Rattle.plain_mains.specs.plain_forms.PlainUnits.{plain_units_opened}
use Rattle.unit_translation_laws.specs.procedure_emission.kept_bounds.KeptBounds.{kept_bounds_opened}
use Rattle.plain_mains.specs.faithful.Signatures.{named_formals}
use Rattle.unit_translation_laws.specs.unit_translation.UnitBounds.{unit_bounds_opened}
use Rattle.unit_translation_laws.specs.unit_forms.PlainProcedures.{plain_procedures_opened}
use Rattle.plain_units.specs.Examples.{ExamplesAreTold, examples_opened}

pub examples_are_told : ExamplesAreTold
unfolding everything nests_opened is_name_byte is_name layout_opened numbers_opened plain_units_opened kept_bounds_opened unit_bounds_opened named_formals plain_procedures_opened examples_opened
examples_are_told = record {
  function = λ options. refl;
  subroutine = λ options. refl;
  any_length = λ options. refl;
  given_length = λ options. refl;
  given_columns = λ options. refl;
  text = λ options. refl;
  many = λ options. refl;
  twice = λ options. refl;
  entered = λ options. refl;
  constant = λ options. refl;
  result = λ options. refl;
  first_assumed = λ options. refl;
  stored_assumed = λ options. refl;
  power = λ options. refl;
  stored_given = λ options. refl;
  nothing_kept = λ options. refl;
  columns_kept = λ options. refl;
}
