use Rattle.std.proofs.Common.{◌≡◌, None, refl}
use Rattle.c_tree.specs.simulation.Machine as machine
use Rattle.c_tree.specs.Meaning as meaning
use Rattle.c_tree.specs.Steps.{language}
use Rattle.c_tree.specs.World.{World}
use Rattle.linked_programs.specs.LinkedPrograms.{program_of}
use Rattle.item_deeds.specs.Deeds.{world_of}
use Rattle.run_library.specs.Devices.{no_call}
use Rattle.program_runner.specs.Stacks.{state_of}
use Rattle.program_runner.proofs.RoomLaws.{room-kept}
use Rattle.program_runner.proofs.RunLaws.{frames-kept, whole-run-by, whole-refused}
use Rattle.program_runner.proofs.TakenLaws.{taken-as, whole-same}
use Rattle.program_runner.proofs.runs.run_program.Goals as goal

pub run-requires-clause-frames : goal.run-requires-clause-frames
run-requires-clause-frames g c = frames-kept c.args.program.now c.args.objects.now c.begin.new.run c.requires.frames c.begin.ensures.forms

pub run-requires-clause-texts : goal.run-requires-clause-texts
run-requires-clause-texts g c = room-kept (g.L.Library.room c.args.library.now) c.args.objects.now c.begin.new.run c.requires.texts c.begin.ensures.forms

pub returns-in-Ok-clause-meaning : goal.returns-in-Ok-clause-meaning
returns-in-Ok-clause-meaning g c = λ units stood.
    whole-run-by g.L.Library.ending (program_of c.args.program.now) units c.args.steps c.args.objects.now c.begin.new.run c.run.new.run c.in-Ok.stack c.run.new.stack (g.L.Library.stands c.run.new.library) c.run.result.outcome
    c.requires.objects
    (c.in-Ok.ensures.meaning units None)
    (c.run.ensures.meaning units None stood)

pub returns-in-Ok-clause-taken : goal.returns-in-Ok-clause-taken
returns-in-Ok-clause-taken g c =
    taken-as (program_of c.args.program.now) (λ (before : World). (before.objects ≡ c.begin.new.run) × g.L.Library.stands c.args.library.now before.units before.transfer)
    (λ before count. machine.run language (meaning.machine (program_of c.args.program.now)) count (state_of c.in-Ok.stack before))
    (λ units. g.L.Library.stands c.args.library.now units None) (meaning.run_of (program_of c.args.program.now)) g.L.Library.stands g.L.Library.none_failed g.L.Library.failed_on g.L.Library.uncounted c.args.steps c.args.library.now c.run.new.library
    c.run.result.steps c.run.result.outcome (λ units. world_of c.begin.new.run units None) (λ units stood. (refl, stood))
    (λ units stood. whole-same (program_of c.args.program.now) units c.args.objects.now c.begin.new.run c.in-Ok.stack c.requires.objects (c.in-Ok.ensures.meaning units None))
    c.run.ensures.taken

pub returns-in-Err-clause-meaning : goal.returns-in-Err-clause-meaning
returns-in-Err-clause-meaning g c = λ units stood. record {
  units = units;
  transfer = None;
  stood = stood;
  holds = whole-refused (program_of c.args.program.now) units c.args.steps c.args.objects.now None c.in-Err.fault c.requires.objects refl
      (c.in-Err.ensures.meaning units None);
}

pub returns-in-Err-clause-devices : goal.returns-in-Err-clause-devices
returns-in-Err-clause-devices g c = no_call
