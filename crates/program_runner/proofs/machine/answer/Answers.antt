use Rattle.std.proofs.Common.{◌∷◌}
use Rattle.c_tree.specs.simulation.Machine as machine
use Rattle.c_tree.specs.Faults.{Faults}
use Rattle.item_deeds.specs.Deeds.{view_of, world_of}
use Rattle.program_runner.specs.Stacks.{frames_of, waiting}
use Rattle.program_runner.proofs.RunLaws.{answers-nobody, answers-caller, answers-refused}
use Rattle.program_runner.proofs.machine.answer.Goals as goal

pub returns-then-not-pop-clause-meaning : goal.returns-then-not-pop-clause-meaning
returns-then-not-pop-clause-meaning g c = λ program ending units transfer.
    answers-nobody program c.args.stack.now.top.number (waiting c.args.stack.now) (world_of c.args.run.now units transfer) c.args.given c.if-not-pop.ensures.popped

pub returns-in-Ok-clause-meaning : goal.returns-in-Ok-clause-meaning
returns-in-Ok-clause-meaning g c = λ program ending units transfer.
    answers-caller program c.args.stack.now.top.number (waiting c.args.stack.now) c.pop.new.self.top (waiting c.pop.new.self) (world_of c.args.run.now units transfer) c.args.given (view_of c.in-Ok.view) (world_of c.resume.new.run units transfer)
    c.if-not-pop.ensures.popped.0 (c.in-Ok.ensures.meaning (program.text c.pop.new.self.top.number) units transfer)

pub returns-in-Err-clause-meaning : goal.returns-in-Err-clause-meaning
returns-in-Err-clause-meaning g c = λ program ending units transfer. (
  c.pop.new.self.top.number ∷ machine.numbers (frames_of (waiting c.pop.new.self)),
  answers-refused program c.args.stack.now.top.number (waiting c.args.stack.now) c.pop.new.self.top (waiting c.pop.new.self) (world_of c.args.run.now units transfer) c.args.given (Faults c.in-Err.fault)
      c.if-not-pop.ensures.popped.0 (c.in-Err.ensures.meaning (program.text c.pop.new.self.top.number) units transfer),
)
