use Rattle.std.proofs.Common.{◌≤◌, arith}
use Rattle.edit_meaning.specs.EditedRecords.{unit_sheet}
use Rattle.edit_rules.proofs.RecordsBack.{read_back}
use Rattle.edit_rules.proofs.read_back.records_are_read_back.Goals as goal

narrow : 1024 ≤ 1024
narrow = omega arith

pub returns-clause-values : goal.returns-clause-values
returns-clause-values c format values zeros h w = let b = read_back unit_sheet narrow format values h w in (b.1 _ zeros b.0).0

pub returns-clause-ends : goal.returns-clause-ends
returns-clause-ends c format values zeros h w = let b = read_back unit_sheet narrow format values h w in (b.1 _ zeros b.0).1
