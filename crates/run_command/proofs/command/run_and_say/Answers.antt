use Rattle.run_command.proofs.EndLaws.{ran}
use Rattle.run_command.proofs.command.run_and_say.Goals as goal

pub returns : goal.returns
returns g c = λ b runs. ran runs c.run_loaded-run.ensures c.say_run-status.ensures.said c.say_run-status.ensures.status
