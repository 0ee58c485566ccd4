use Rattle.std.proofs.Common.{◌∷◌, sym, ap, ◌∙◌, subst}
use Rattle.c_tree.specs.simulation.Machine as machine
use Rattle.c_tree.specs.Steps as steps
use Rattle.c_tree.specs.Steps.{sorts, language}
use Rattle.linked_programs.specs.LinkedPrograms.{function_of}
use Rattle.item_deeds.specs.Deeds.{view_of, world_of}
use Rattle.run_library.specs.declared.library.RunBreak.TheVariants.{Fault}
use Rattle.program_runner.specs.Outcomes.{Reaches}
use Rattle.program_runner.specs.Stacks.{frames_of, waiting}
use Rattle.program_runner.proofs.RunLaws.{broken-so, refused-first}
use Rattle.program_runner.proofs.machine.call_known.Goals as goal

pub returns-in-Ok-clause-meaning : goal.returns-in-Ok-clause-meaning
returns-in-Ok-clause-meaning g c = λ own ending units transfer.
    subst
    (λ (entry : machine.Entry sorts).
    Reaches ending (machine.opening language entry c.args.number (machine.Has c.args.stack.now.top.number (view_of c.args.view) ∷ frames_of (waiting c.args.stack.now))) c.entered.new.stack (world_of c.start.new.run units transfer) c.entered.result)
    (sym (c.in-Ok.ensures.meaning own c.args.number units transfer))
    (c.entered.ensures.meaning ending (world_of c.start.new.run units transfer))

pub returns-in-Err-clause-meaning : goal.returns-in-Err-clause-meaning
returns-in-Err-clause-meaning g c = λ own ending units transfer.
    broken-so ending
    (machine.opening language (steps.start (function_of own c.args.function.now) c.args.number c.args.values.now (world_of c.args.run.now units transfer)) c.args.number
    (machine.Has c.args.stack.now.top.number (view_of c.args.view) ∷ frames_of (waiting c.args.stack.now)))
    c.args.stack.now (world_of c.start.new.run units transfer) (Fault c.in-Err.fault) c.args.stack.now.top.number (machine.numbers (frames_of (waiting c.args.stack.now))) c.faulty.result c.faulty.ensures
    (ap (λ entry. machine.opening language entry c.args.number (machine.Has c.args.stack.now.top.number (view_of c.args.view) ∷ frames_of (waiting c.args.stack.now))) (c.in-Err.ensures.meaning own c.args.number units transfer)
    ∙ refused-first c.in-Err.fault c.args.number c.args.stack.now.top.number (view_of c.args.view) (frames_of (waiting c.args.stack.now)))
