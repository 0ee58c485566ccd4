use Rattle.std.proofs.Common.{◌∷◌, length, refl, sym, ap, ◌∙◌, subst}
use Rattle.c_tree.specs.simulation.Machine as machine
use Rattle.c_tree.specs.run_state.Endings.{Ending}
use Rattle.c_tree.specs.declared.outcome.CFault.TheVariants.{Kind}
use Rattle.c_tree.specs.Faults.{Faults}
use Rattle.c_tree.specs.Meaning as meaning
use Rattle.c_tree.specs.Steps as steps
use Rattle.c_tree.specs.Steps.{sorts, language}
use Rattle.linked_programs.specs.LinkedPrograms.{function_of, program_of}
use Rattle.item_deeds.specs.Deeds.{view_of, world_of}
use Rattle.run_library.specs.declared.library.RunBreak.TheVariants.{Fault}
use Rattle.program_runner.specs.Outcomes.{Reaches}
use Rattle.program_runner.specs.Stacks.{frames_of, waiting}
use Rattle.program_runner.proofs.RunLaws.{broken-so, call-known, call-missing, first-number}
use Rattle.program_runner.proofs.machine.call.Goals as goal

pub call_known-requires-clause-frame : goal.call_known-requires-clause-frame
call_known-requires-clause-frame g c = c.requires.frames c.args.number c.in-Some.function.now (sym c.in-Some.ensures.value)

pub returns-in-Some-clause-meaning : goal.returns-in-Some-clause-meaning
returns-in-Some-clause-meaning g c = λ ending units transfer.
    subst
    (λ (state : machine.State Ending sorts). Reaches ending state c.call_known.new.stack (world_of c.call_known.new.run units transfer) c.call_known.result)
    (sym (call-known c.args.program.now c.args.number c.in-Some.function.now c.args.values.now (world_of c.args.run.now units transfer)
    (machine.Has c.args.stack.now.top.number (view_of c.args.view) ∷ frames_of (waiting c.args.stack.now))
    (steps.start (function_of (length c.args.program.now.functions) c.in-Some.function.now) c.args.number c.args.values.now (world_of c.args.run.now units transfer))
    (sym c.in-Some.ensures.value) refl))
    (c.call_known.ensures.meaning (length c.args.program.now.functions) ending units transfer)

pub returns-in-None-clause-meaning : goal.returns-in-None-clause-meaning
returns-in-None-clause-meaning g c = λ ending units transfer.
    broken-so ending
    (machine.calling language (meaning.machine (program_of c.args.program.now)) (meaning.numbered (program_of c.args.program.now).functions c.args.number) c.args.number c.args.values.now (world_of c.args.run.now units transfer)
    (machine.Has c.args.stack.now.top.number (view_of c.args.view) ∷ frames_of (waiting c.args.stack.now)))
    c.args.stack.now (world_of c.args.run.now units transfer) (Fault Kind) c.args.stack.now.top.number (machine.numbers (frames_of (waiting c.args.stack.now))) c.faulty.result c.faulty.ensures
    (call-missing c.args.program.now c.args.number c.args.values.now (world_of c.args.run.now units transfer) (machine.Has c.args.stack.now.top.number (view_of c.args.view) ∷ frames_of (waiting c.args.stack.now))
    (sym c.in-None.ensures.value)
    ∙ ap (machine.Broken (Faults Kind)) (first-number c.args.stack.now.top.number (view_of c.args.view) (frames_of (waiting c.args.stack.now))))
