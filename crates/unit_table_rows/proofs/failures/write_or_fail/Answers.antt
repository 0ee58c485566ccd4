use Rattle.unit_table_rows.specs.Ends.{the_unit}
use Rattle.unit_table_rows.proofs.FailureSteps.{write-called}
use Rattle.unit_table_rows.proofs.failures.write_or_fail.Goals as goal

pub returns-clause-called : goal.returns-clause-called
returns-clause-called g c = write-called the_unit _ _ _ c.write_to.result c.write_to.ensures.did c.requires
