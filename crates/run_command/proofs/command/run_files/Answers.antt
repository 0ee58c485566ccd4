use Rattle.run_command.proofs.EndLaws.{unloaded-so}
use Rattle.run_command.proofs.command.run_files.Goals as goal

pub returns-in-Ok : goal.returns-in-Ok
returns-in-Ok g c = λ b asked trees. c.run_and_say.ensures b (record { asked = asked; trees = trees; rules = c.in-Ok.ensures.loaded.rules })

pub returns-in-Err : goal.returns-in-Err
returns-in-Err g c = λ b asked trees.
    unloaded-so c.args.request.now c.args.files.now (g.H.Shelf.state c.args.shelf.now) c.in-Err.why asked trees c.in-Err.ensures.refused c.say_unloaded-status.ensures.said c.say_unloaded-status.ensures.status
