use Rattle.program_runner.proofs.FlagLaws.{put-waits, put-flags}
use Rattle.program_runner.proofs.stack.put.Goals as goal

pub returns-clause-waits : goal.returns-clause-waits
returns-clause-waits c = put-waits c.args.room.now c.args.place c.args.waits _

pub returns-clause-flags : goal.returns-clause-flags
returns-clause-flags c = put-flags c.args.room.now c.args.place _ c.args.waits
