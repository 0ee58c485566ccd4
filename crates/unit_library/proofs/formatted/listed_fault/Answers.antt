use Rattle.unit_library.proofs.FormattedLaws.{listed-given, listed-faulty}
use Rattle.unit_library.proofs.formatted.listed_fault.Goals as goal

pub returns-in-Ok : goal.returns-in-Ok
returns-in-Ok c = listed-given c.args.run.now c.args.kind c.args.count c.args.size c.in-Ok.field-0 c.in-Ok.ensures

pub returns-in-Err : goal.returns-in-Err
returns-in-Err c = listed-faulty c.args.run.now c.args.kind c.args.count c.args.size c.in-Err.fault c.in-Err.ensures
