use Rattle.unit_table_rows.specs.Ends.{the_unit}
use Rattle.unit_table_rows.proofs.FailureSteps.{back-unit-called}
use Rattle.unit_table_rows.proofs.failures.back_or_fail.Goals as goal

pub returns-clause-called : goal.returns-clause-called
returns-clause-called g c = back-unit-called the_unit _ _ c.back_unit.result c.back_unit.ensures.did c.requires
