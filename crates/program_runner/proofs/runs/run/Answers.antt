use Rattle.std.proofs.Common.{◌≡◌, length, refl, ap, sym, ◌∙◌, subst, arith}
use Rattle.c_tree.specs.simulation.Machine as machine
use Rattle.c_tree.specs.Meaning as meaning
use Rattle.c_tree.specs.Steps.{language}
use Rattle.c_tree.specs.World.{World}
use Rattle.linked_programs.specs.LinkedPrograms.{program_of}
use Rattle.item_deeds.specs.Deeds.{world_of}
use Rattle.item_deeds.proofs.FormLaws.{same-objects}
use Rattle.call_frames.proofs.FrameLists.{forms-after}
use Rattle.run_library.specs.Devices.{no_call}
use Rattle.run_library.specs.Replies.{StandsIn}
use Rattle.program_runner.specs.declared.runs.RunOutcome.{RunOutcome}
use Rattle.program_runner.specs.Outcomes.{Reaches, UnlessFailed, ToldOfRun, KeepsStack}
use Rattle.program_runner.specs.Stacks.{state_of}
use Rattle.program_runner.proofs.DeviceLaws.{joined, told-further}
use Rattle.program_runner.proofs.RoomLaws.{room-further}
use Rattle.program_runner.proofs.RunLaws.{none-run, goes-further-by, over-by, frames-kept}
use Rattle.program_runner.proofs.TakenLaws.{over-taken, taken-so}
use Rattle.program_runner.proofs.runs.run.Goals as goal

pub advance-requires-clause-frames : goal.advance-requires-clause-frames
advance-requires-clause-frames g c = frames-kept c.args.program.now c.args.run.now c.loop-taken.run c.requires.frames c.loop-taken.invariant.kept

pub advance-requires-clause-texts : goal.advance-requires-clause-texts
advance-requires-clause-texts g c =
    room-further (g.L.Library.room c.loop-taken.library) (g.L.Library.room c.args.library.now) c.args.run.now c.loop-taken.run c.requires.texts c.loop-taken.invariant.kept c.loop-taken.invariant.texts

pub loop-taken-init : goal.loop-taken-init
loop-taken-init g c = record {
  reached = λ units transfer stood. record {
    units = units;
    transfer = transfer;
    stood = stood;
    holds = none-run (meaning.machine (program_of c.args.program.now)) (state_of c.args.stack.now (world_of c.args.run.now units transfer));
  };
  texts = refl;
  quiet = no_call;
  stack = c.requires.stack;
  kept = same-objects c.args.run.now;
  few = omega arith;
}

pub loop-taken-preserved : goal.loop-taken-preserved
loop-taken-preserved g c = record {
  reached = λ units transfer stood.
      goes-further-by (meaning.machine (program_of c.args.program.now)) c.loop-taken.taken (state_of c.args.stack.now (world_of c.args.run.now units transfer)) c.loop-taken.stack c.advance.new.stack
      (g.L.Library.stands c.loop-taken.library) (g.L.Library.stands c.advance.new.library) c.loop-taken.run c.advance.new.run (c.loop-taken.invariant.reached units transfer stood) c.in-Running.ensures.meaning;
  texts = c.in-Running.ensures.texts ∙ c.loop-taken.invariant.texts;
  quiet = joined c.loop-taken.invariant.quiet c.in-Running.ensures.devices;
  stack = c.in-Running.ensures.stack;
  kept = forms-after c.args.run.now c.loop-taken.run c.advance.new.run c.loop-taken.invariant.kept c.in-Running.ensures.forms;
  few = omega arith;
}

pub returns-clause-meaning : goal.returns-clause-meaning
returns-clause-meaning g c = λ units transfer stood.
    let all : c.args.steps ≡ c.loop-taken.taken = omega (arith, c.loop-taken.invariant.few) in
    let reached = c.loop-taken.invariant.reached units transfer stood in
    record {
      units = reached.units;
      transfer = reached.transfer;
      stood = reached.stood;
      holds = ap (λ count. machine.run language (meaning.machine (program_of c.args.program.now)) count (state_of c.args.stack.now (world_of c.args.run.now units transfer))) all ∙ reached.holds;
    }

pub returns-clause-taken : goal.returns-clause-taken
returns-clause-taken g c = refl

pub returns-in_default : goal.returns-in_default
returns-in_default g c =
    let how = c.ended_behind.ensures.outcome in
    record {
      meaning = λ units transfer stood.
          subst
          (λ (how : RunOutcome g.row.L-Ending.Denot).
          UnlessFailed how (StandsIn (g.L.Library.stands c.advance.new.library) c.advance.new.run (λ after.
          Reaches g.L.Library.ending (machine.run language (meaning.machine (program_of c.args.program.now)) c.args.steps (state_of c.args.stack.now (world_of c.args.run.now units transfer))) c.advance.new.stack after how)))
          (sym how)
          (over-by g.L.Library.ending (meaning.machine (program_of c.args.program.now)) c.loop-taken.taken c.args.steps (state_of c.args.stack.now (world_of c.args.run.now units transfer)) c.loop-taken.stack c.advance.new.stack
          (g.L.Library.stands c.loop-taken.library) (g.L.Library.stands c.advance.new.library) c.loop-taken.run c.advance.new.run c.advance.result (c.loop-taken.invariant.reached units transfer stood) c.advance.ensures.meaning
          c.in_default.not-Running (omega arith));
      taken = taken-so (program_of c.args.program.now) (λ (before : World). (before.objects ≡ c.args.run.now) × g.L.Library.stands c.args.library.now before.units before.transfer)
          (λ before count. machine.run language (meaning.machine (program_of c.args.program.now)) count (state_of c.args.stack.now before)) g.L.Library.stands g.L.Library.none_failed g.L.Library.failed_on g.L.Library.uncounted c.args.steps
          c.args.library.now c.advance.new.library c.loop-taken.taken c.ended_behind.result.steps c.advance.result c.ended_behind.result.outcome how c.ended_behind.ensures.steps
          (over-taken g.L.Library.ending c.args.program.now c.args.stack.now c.loop-taken.stack c.advance.new.stack c.args.run.now c.loop-taken.run c.advance.new.run g.L.Library.stands g.L.Library.none_failed
          g.L.Library.failed_on g.L.Library.uncounted c.loop-taken.taken c.args.steps c.args.library.now c.loop-taken.library c.advance.new.library c.advance.result c.loop-taken.invariant.reached c.loop-taken.invariant.quiet
          c.advance.ensures.devices c.advance.ensures.meaning c.advance.ensures.kept c.advance.ensures.counted c.in_default.not-Running (omega arith));
      devices = subst (λ (how : RunOutcome g.row.L-Ending.Denot). ToldOfRun g.L.Library.none_failed g.L.Library.failed_on c.args.library.now c.advance.new.library how) (sym how)
          (told-further g.L.Library.none_failed g.L.Library.failed_on c.args.library.now c.loop-taken.library c.advance.new.library c.advance.result c.loop-taken.invariant.quiet c.advance.ensures.devices);
      texts = c.advance.ensures.texts ∙ c.loop-taken.invariant.texts;
      stack = subst (λ (how : RunOutcome g.row.L-Ending.Denot). KeepsStack (length c.args.program.now.functions) c.advance.new.stack how) (sym how) c.advance.ensures.stack;
      forms = forms-after c.args.run.now c.loop-taken.run c.advance.new.run c.loop-taken.invariant.kept c.advance.ensures.forms;
    }
