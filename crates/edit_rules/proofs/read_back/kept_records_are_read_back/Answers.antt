use Rattle.edit_rules.proofs.RecordsBack.{read_back}
use Rattle.edit_rules.proofs.read_back.kept_records_are_read_back.Goals as goal

pub returns-clause-values : goal.returns-clause-values
returns-clause-values c sheet format values kept zeros n h w k = ((read_back sheet n format values h w).1 kept zeros k).0

pub returns-clause-ends : goal.returns-clause-ends
returns-clause-ends c sheet format values kept zeros n h w k = ((read_back sheet n format values h w).1 kept zeros k).1

pub returns-clause-as_written : goal.returns-clause-as_written
returns-clause-as_written c sheet format values n h w = (read_back sheet n format values h w).0
