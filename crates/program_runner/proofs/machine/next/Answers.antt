use Rattle.std.specs.Prelude.{None}
use Rattle.c_tree.specs.simulation.Machine as machine
use Rattle.c_tree.specs.Meaning as meaning
use Rattle.c_tree.specs.Steps.{language}
use Rattle.linked_programs.specs.LinkedPrograms.{program_of}
use Rattle.item_deeds.specs.Deeds.{view_of, world_of}
use Rattle.program_runner.specs.Events.{event_of}
use Rattle.program_runner.specs.Stacks.{frames_of, waiting}
use Rattle.program_runner.proofs.DeviceLaws.{no_units, told-going}
use Rattle.program_runner.proofs.CountLaws.{counts-none}
use Rattle.program_runner.proofs.RunLaws.{next-so, frames-kept}
use Rattle.program_runner.proofs.LeftLaws.{next-left}
use Rattle.program_runner.proofs.machine.next.Goals as goal

pub happened-requires-clause-frames : goal.happened-requires-clause-frames
happened-requires-clause-frames g c = frames-kept c.args.program.now c.args.run.now c.step.new.run c.requires.frames c.step.ensures.forms

pub returns-in-Ok-clause-meaning : goal.returns-in-Ok-clause-meaning
returns-in-Ok-clause-meaning g c = λ units transfer stood.
    next-so g.L.Library.ending c.args.program.now c.len.result c.in-Some.function.now c.args.stack.now c.happened.new.stack (world_of c.args.run.now units transfer) (g.L.Library.stands c.step.new.library)
    c.step.new.run c.happened.new.run c.step.new.buffer c.in-Ok.event c.happened.result c.in-Some.ensures.value c.len.ensures (c.in-Ok.ensures.meaning units transfer stood)
    (c.happened.ensures.meaning g.L.Library.ending)

pub returns-in-Ok-clause-kept : goal.returns-in-Ok-clause-kept
returns-in-Ok-clause-kept g c = λ units transfer stood.
    next-left g.L.Library.ending
    (machine.act language (meaning.machine (program_of c.args.program.now)) (event_of g.L.Library.ending (world_of c.step.new.run no_units None) c.step.new.buffer c.in-Ok.event)
    c.args.stack.now.top.number (frames_of (waiting c.args.stack.now)))
    c.happened.new.stack (world_of c.happened.new.run no_units None) c.args.program.now c.len.result c.args.stack.now.top.number c.in-Some.function.now (view_of c.args.stack.now.top.view) (world_of c.args.run.now units transfer)
    (g.L.Library.stands c.step.new.library) c.happened.result (c.happened.ensures.meaning g.L.Library.ending no_units None) c.in-Some.ensures.value c.len.ensures (c.in-Ok.ensures.kept units transfer stood)

pub returns-in-Ok-clause-devices : goal.returns-in-Ok-clause-devices
returns-in-Ok-clause-devices g c =
    told-going g.L.Library.none_failed g.L.Library.failed_on c.args.library.now c.step.new.library g.L.Library.ending
    (machine.act language (meaning.machine (program_of c.args.program.now)) (event_of g.L.Library.ending (world_of c.step.new.run no_units None) c.step.new.buffer c.in-Ok.event)
    c.args.stack.now.top.number (frames_of (waiting c.args.stack.now)))
    c.happened.new.stack (world_of c.happened.new.run no_units None) c.happened.result c.in-Ok.ensures.devices (c.happened.ensures.meaning g.L.Library.ending no_units None)

pub returns-in-Ok-clause-counted : goal.returns-in-Ok-clause-counted
returns-in-Ok-clause-counted g c =
    counts-none _ g.L.Library.ending
    (machine.act language (meaning.machine (program_of c.args.program.now)) (event_of g.L.Library.ending (world_of c.step.new.run no_units None) c.step.new.buffer c.in-Ok.event)
    c.args.stack.now.top.number (frames_of (waiting c.args.stack.now)))
    c.happened.new.stack (world_of c.happened.new.run no_units None) c.happened.result (c.happened.ensures.meaning g.L.Library.ending no_units None)
