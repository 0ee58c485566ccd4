use Rattle.run_command.proofs.EndLaws.{unasked-so}
use Rattle.run_command.proofs.command.run_c_files.Goals as goal

pub returns-in-Err : goal.returns-in-Err
returns-in-Err g c = unasked-so c.in-Err.why c.in-Err.ensures c.say_unasked-status.ensures.said c.say_unasked-status.ensures.status
