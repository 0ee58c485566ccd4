use Rattle.unit_table_rows.proofs.FailureSteps.{all-finished, stopped-at-three}
use Rattle.unit_table_rows.proofs.failures.finish_three.Goals as goal

pub returns-clause-all : goal.returns-clause-all
returns-clause-all g c = λ three is. all-finished c.finish_all.result three _ _ c.finish_all.ensures.did is

pub returns-clause-stopped : goal.returns-clause-stopped
returns-clause-stopped g c = λ three is. stopped-at-three c.finish_all.result three _ _ c.finish_all.ensures.did is
