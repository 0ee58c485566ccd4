use Rattle.item_deeds.specs.Deeds.{view_of, world_of}
use Rattle.program_runner.specs.Stacks.{frames_of, waiting}
use Rattle.program_runner.proofs.RunLaws.{goes-so}
use Rattle.program_runner.proofs.machine.moved_on.Goals as goal

pub returns-in-Some-position_after-clause-meaning : goal.returns-in-Some-position_after-clause-meaning
returns-in-Some-position_after-clause-meaning c = λ units transfer.
    goes-so c.args.program.now c.in-Some.function.now c.args.stack.now.top.number c.in-Some-position_after.position (view_of c.args.stack.now.top.view) (frames_of (waiting c.args.stack.now))
    (world_of c.args.run.now units transfer) (world_of c.position_after.new.run units transfer) c.in-Some.ensures.value
    (λ own view at. c.in-Some-position_after.ensures.meaning own view at units transfer)
