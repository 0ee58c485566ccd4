use Rattle.run_command.proofs.EndLaws.{unasked}
use Rattle.run_command.proofs.command.run_request.Goals as goal

pub returns-in-Err : goal.returns-in-Err
returns-in-Err g c = unasked c.say_no_memory-status.ensures.said c.say_no_memory-status.ensures.status
