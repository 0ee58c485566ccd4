-- What the test computes to for four main programs.
use Rattle.std.proofs.Common.{refl}
use Rattle.main_translation_laws.specs.f_tree.CNames.{is_name_byte, is_name}
use Rattle.main_translation_laws.specs.f_tree.Nests.{nests_opened}
use Rattle.main_translation_laws.specs.f_tree.Meaning.{everything}
use Rattle.main_translation_laws.specs.lowering_laws.Layout.{layout_opened}
use Rattle.main_translation_laws.specs.c_emit.Numbers.{numbers_opened}
use Rattle.plain_mains.specs.PlainUnits.{plain_units_opened}
use Rattle.plain_mains.specs.Examples.{ExamplesAreTold, examples_opened}

pub examples_are_told : ExamplesAreTold
unfolding everything nests_opened is_name_byte is_name layout_opened numbers_opened plain_units_opened examples_opened
examples_are_told = record { plain = λ options. refl; tied = λ options. refl; entered = λ options. refl; unbounded = λ options. refl }
