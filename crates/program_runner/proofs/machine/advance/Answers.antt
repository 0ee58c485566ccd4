use Rattle.run_library.specs.Devices.{no_call}
use Rattle.program_runner.proofs.CountLaws.{counted-kept}
use Rattle.program_runner.proofs.LeftLaws.{kept-as}
use Rattle.program_runner.proofs.machine.advance.Goals as goal

pub returns-then-moved_on-clause-devices : goal.returns-then-moved_on-clause-devices
returns-then-moved_on-clause-devices g c = no_call

pub returns-else-moved_on-clause-kept : goal.returns-else-moved_on-clause-kept
returns-else-moved_on-clause-kept g c = λ units transfer stood.
    kept-as c.args.program.now c.args.stack.now c.moved_on.new.stack c.args.run.now c.moved_on.new.run units transfer (g.L.Library.stands c.next.new.library) c.next.result c.if-moved_on.ensures.meaning
    (c.next.ensures.kept units transfer stood)

pub returns-else-moved_on-clause-counted : goal.returns-else-moved_on-clause-counted
returns-else-moved_on-clause-counted g c =
    counted-kept c.args.program.now c.args.stack.now c.moved_on.new.stack c.args.run.now c.moved_on.new.run (g.L.Library.stands c.args.library.now) (λ unit. g.L.Library.uncounted unit c.next.new.library) c.next.result
    c.if-moved_on.ensures.meaning c.next.ensures.counted
