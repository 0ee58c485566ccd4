use Rattle.unit_table_rows.specs.Ends.{the_unit}
use Rattle.unit_table_rows.proofs.FailureSteps.{end-unit-called}
use Rattle.unit_table_rows.proofs.failures.end_or_fail.Goals as goal

pub returns-clause-called : goal.returns-clause-called
returns-clause-called g c = end-unit-called the_unit _ _ c.end_unit.result c.end_unit.ensures.did c.requires
