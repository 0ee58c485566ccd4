use Rattle.internal_formatted.proofs.RecordlessLaws.{first-there}
use Rattle.internal_formatted.proofs.calls.first_record.Goals as goal

pub returns-in-Err : goal.returns-in-Err
returns-in-Err c some = absurd (first-there c.args.records c.args.columns c.in-Err.field-0 some c.in-Err.ensures)
