use Rattle.program_runner.proofs.FlagLaws.{noted-waits, noted-flags}
use Rattle.program_runner.proofs.stack.note.Goals as goal

pub returns-clause-waits : goal.returns-clause-waits
returns-clause-waits c = noted-waits c.args.room.now c.args.number _ c.args.active

pub returns-clause-flags : goal.returns-clause-flags
returns-clause-flags c = noted-flags c.args.room.now c.args.number _ c.args.active
