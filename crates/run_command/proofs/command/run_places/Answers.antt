use Rattle.run_command.proofs.EndLaws.{unread-so}
use Rattle.run_command.proofs.command.run_places.Goals as goal

pub returns-in-Err : goal.returns-in-Err
returns-in-Err g c = unread-so c.args.request.now (g.H.Shelf.state c.read_c_files.new.shelf) c.in-Err.why c.requires.asked c.requires.named c.in-Err.ensures.err c.say_unread-status.ensures.said c.say_unread-status.ensures.status
