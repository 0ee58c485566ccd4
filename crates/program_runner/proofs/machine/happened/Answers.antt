use Rattle.std.proofs.Common.{◌∷◌, take, sym, ap, ◌∙◌, subst}
use Rattle.c_tree.specs.simulation.Machine as machine
use Rattle.c_tree.specs.run_state.Endings.{Ending}
use Rattle.c_tree.specs.Meaning as meaning
use Rattle.c_tree.specs.Steps.{sorts, language}
use Rattle.linked_programs.specs.LinkedPrograms.{program_of}
use Rattle.item_deeds.specs.Deeds.{view_of, world_of}
use Rattle.run_library.specs.Replies.{break_of}
use Rattle.program_runner.specs.Events.{event_of}
use Rattle.program_runner.specs.Outcomes.{Reaches}
use Rattle.program_runner.specs.Stacks.{frames_of, waiting}
use Rattle.program_runner.proofs.RunLaws.{goes-on, ends-by, calls-one, answers-one, breaks-by}
use Rattle.program_runner.proofs.machine.happened.Goals as goal

pub returns-in-Goes-clause-meaning : goal.returns-in-Goes-clause-meaning
returns-in-Goes-clause-meaning g c = λ ending units transfer.
    ap (λ event. machine.act language (meaning.machine (program_of c.args.program.now)) (event_of ending (world_of c.args.run.now units transfer) c.args.buffer.now event) c.args.stack.now.top.number (frames_of (waiting c.args.stack.now))) c.in-Goes.is
    ∙ goes-on (meaning.machine (program_of c.args.program.now)) c.args.stack.now.top.number (frames_of (waiting c.args.stack.now)) (view_of c.in-Goes.view) (world_of c.args.run.now units transfer)

pub returns-in-Stops-clause-meaning : goal.returns-in-Stops-clause-meaning
returns-in-Stops-clause-meaning g c = λ ending units transfer. (
  machine.Has c.args.stack.now.top.number (view_of c.in-Stops.view) ∷ frames_of (waiting c.args.stack.now),
  ap (λ event. machine.act language (meaning.machine (program_of c.args.program.now)) (event_of ending (world_of c.args.run.now units transfer) c.args.buffer.now event) c.args.stack.now.top.number (frames_of (waiting c.args.stack.now))) c.in-Stops.is
      ∙ ends-by (meaning.machine (program_of c.args.program.now)) c.args.stack.now.top.number (frames_of (waiting c.args.stack.now)) (ending c.args.run.now c.in-Stops.ending) (view_of c.in-Stops.view) (world_of c.args.run.now units transfer),
)

pub returns-in-Calls-clause-meaning : goal.returns-in-Calls-clause-meaning
returns-in-Calls-clause-meaning g c = λ ending units transfer.
    subst
    (λ (state : machine.State Ending sorts). Reaches ending state c.call.new.stack (world_of c.call.new.run units transfer) c.call.result)
    (sym (ap (λ event. machine.act language (meaning.machine (program_of c.args.program.now)) (event_of ending (world_of c.args.run.now units transfer) c.args.buffer.now event) c.args.stack.now.top.number (frames_of (waiting c.args.stack.now))) c.in-Calls.is
    ∙ calls-one c.args.program.now c.args.stack.now.top.number (frames_of (waiting c.args.stack.now)) (view_of c.in-Calls.view) (world_of c.args.run.now units transfer) c.in-Calls.number (take c.in-Calls.count c.args.buffer.now)
    ∙ ap
    (λ values.
    machine.calling language (meaning.machine (program_of c.args.program.now)) (meaning.numbered (program_of c.args.program.now).functions c.in-Calls.number) c.in-Calls.number values
    (world_of c.args.run.now units transfer) (machine.Has c.args.stack.now.top.number (view_of c.in-Calls.view) ∷ frames_of (waiting c.args.stack.now)))
    (sym c.first_values.ensures)))
    (c.call.ensures.meaning ending units transfer)

pub returns-in-Answers-clause-meaning : goal.returns-in-Answers-clause-meaning
returns-in-Answers-clause-meaning g c = λ ending units transfer.
    subst
    (λ (state : machine.State Ending sorts). Reaches ending state c.answer.new.stack (world_of c.answer.new.run units transfer) c.answer.result)
    (sym (ap (λ event. machine.act language (meaning.machine (program_of c.args.program.now)) (event_of ending (world_of c.args.run.now units transfer) c.args.buffer.now event) c.args.stack.now.top.number (frames_of (waiting c.args.stack.now))) c.in-Answers.is
    ∙ answers-one (meaning.machine (program_of c.args.program.now)) c.args.stack.now.top.number (frames_of (waiting c.args.stack.now)) c.in-Answers.given (world_of c.args.run.now units transfer)))
    (c.answer.ensures.meaning (meaning.machine (program_of c.args.program.now)) ending units transfer)

pub returns-in-Breaks-clause-meaning : goal.returns-in-Breaks-clause-meaning
returns-in-Breaks-clause-meaning g c = λ ending units transfer. (
  machine.numbers (frames_of (waiting c.args.stack.now)),
  ap (λ event. machine.act language (meaning.machine (program_of c.args.program.now)) (event_of ending (world_of c.args.run.now units transfer) c.args.buffer.now event) c.args.stack.now.top.number (frames_of (waiting c.args.stack.now))) c.in-Breaks.is
      ∙ breaks-by (meaning.machine (program_of c.args.program.now)) c.args.stack.now.top.number (frames_of (waiting c.args.stack.now)) (break_of c.in-Breaks.reason),
)
