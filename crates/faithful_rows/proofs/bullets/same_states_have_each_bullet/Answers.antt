use Rattle.faithful_rows.proofs.BulletProofs.{outcomes_are_equal, units_are_equal, functions_are_those, transfers_agree, names_are_read, procedures_are_read}
use Rattle.faithful_rows.proofs.bullets.same_states_have_each_bullet.Goals as goal

pub returns-clause-outcome : goal.returns-clause-outcome
returns-clause-outcome c = outcomes_are_equal

pub returns-clause-units : goal.returns-clause-units
returns-clause-units c = units_are_equal

pub returns-clause-functions : goal.returns-clause-functions
returns-clause-functions c = functions_are_those

pub returns-clause-transfers : goal.returns-clause-transfers
returns-clause-transfers c = transfers_agree

pub returns-clause-names : goal.returns-clause-names
returns-clause-names c = names_are_read

pub returns-clause-procedures : goal.returns-clause-procedures
returns-clause-procedures c = procedures_are_read
