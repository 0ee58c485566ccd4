use Rattle.std.proofs.Common.{◌∷◌}
use Rattle.c_tree.specs.simulation.Machine as machine
use Rattle.c_tree.specs.declared.outcome.CFault.TheVariants.{Active}
use Rattle.c_tree.specs.Steps.{language}
use Rattle.item_deeds.specs.Deeds.{view_of}
use Rattle.run_library.specs.declared.library.RunBreak.TheVariants.{Fault}
use Rattle.program_runner.specs.Stacks.{frames_of, waiting}
use Rattle.program_runner.proofs.RunLaws.{broken-so, enters-busy, enters-idle}
use Rattle.program_runner.proofs.machine.entered.Goals as goal

pub returns-then-is_active-clause-meaning : goal.returns-then-is_active-clause-meaning
returns-then-is_active-clause-meaning g c = λ ending world.
    broken-so ending
    (machine.opening language (machine.Enters (view_of c.args.called.view) world) c.args.called.number (machine.Has c.args.stack.now.top.number (view_of c.args.view) ∷ frames_of (waiting c.args.stack.now)))
    c.args.stack.now world (Fault Active) c.args.stack.now.top.number (machine.numbers (frames_of (waiting c.args.stack.now))) c.faulty.result c.faulty.ensures
    (enters-busy c.args.stack.now (view_of c.args.view) (view_of c.args.called.view) c.args.called.number world c.if-is_active.ensures)

pub returns-clause-meaning : goal.returns-clause-meaning
returns-clause-meaning g c = λ ending world. enters-idle c.args.stack.now c.push.new.self c.args.view c.args.called world c.if-is_active.ensures c.push.ensures
