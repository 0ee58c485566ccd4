use Rattle.c_image_laws.proofs.TestedValues.{values_are_given, tests_are_meant, switches_are_meant, choices_are_meant}
use Rattle.c_image_laws.proofs.values.values_are_used.Goals as goal

pub returns : goal.returns
returns c = record { given = values_are_given; tests = tests_are_meant; switches = switches_are_meant; choices = choices_are_meant }
