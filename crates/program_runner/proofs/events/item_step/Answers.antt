use Rattle.std.proofs.Common.{length, ap, sym, ◌∙◌, subst}
use Rattle.std.specs.Prelude.{slice_get}
use Rattle.c_tree.specs.Builtins.{signatures}
use Rattle.c_tree.specs.Steps as steps
use Rattle.item_deeds.specs.Deeds.{view_of, wants_of, world_of}
use Rattle.item_deeds.specs.Calls.{call_by, item_call}
use Rattle.run_library.specs.Devices as devices
use Rattle.linked_terms.specs.LinkedItems.{flat_of}
use Rattle.program_runner.specs.Events.{StepsBy}
use Rattle.program_runner.specs.UnitsLeft.{no_call}
use Rattle.program_runner.proofs.CountLaws.{counted-as}
use Rattle.program_runner.proofs.LeftLaws.{left-as}
use Rattle.program_runner.proofs.RoomLaws.{room-kept}
use Rattle.program_runner.proofs.events.item_step.Goals as goal

pub returns-in-Goes-clause-devices : goal.returns-in-Goes-clause-devices
returns-in-Goes-clause-devices g c = devices.no_call

pub returns-in-Calls-clause-devices : goal.returns-in-Calls-clause-devices
returns-in-Calls-clause-devices g c = devices.no_call

pub returns-in-Library-clause-meaning : goal.returns-in-Library-clause-meaning
returns-in-Library-clause-meaning g c = λ function own gives units transfer stood.
    subst
    (λ (happens : steps.Happening).
    StepsBy g.L.Library.ending happens (g.L.Library.stands c.library_called.new.library) c.library_called.new.run c.perform.new.buffer c.library_called.result)
    (sym (c.in-Library.ensures.meaning function own gives units transfer
    ∙ ap (λ values. steps.library_called (view_of c.in-Library.view) (world_of c.perform.new.run units transfer) (wants_of c.in-Library.wants) values (slice_get signatures c.in-Library.number)) (sym c.first_values.ensures)))
    (c.library_called.ensures.meaning units transfer c.perform.new.buffer stood)

pub returns-in-Library-clause-called : goal.returns-in-Library-clause-called
returns-in-Library-clause-called g c = c.library_called.ensures.called c.args.view.position (length c.perform.new.buffer)

pub returns-in-Answers-clause-devices : goal.returns-in-Answers-clause-devices
returns-in-Answers-clause-devices g c = devices.no_call

pub returns-in-Breaks-clause-devices : goal.returns-in-Breaks-clause-devices
returns-in-Breaks-clause-devices g c = devices.no_call

pub library_called-requires-clause-texts : goal.library_called-requires-clause-texts
library_called-requires-clause-texts g c = room-kept (g.L.Library.room c.args.library.now) c.args.run.now c.perform.new.run c.requires.texts c.perform.ensures.forms

pub returns-in-Goes-clause-kept : goal.returns-in-Goes-clause-kept
returns-in-Goes-clause-kept g c = λ units transfer stood. no_call c.in-Goes.ensures.calls stood

pub returns-in-Calls-clause-kept : goal.returns-in-Calls-clause-kept
returns-in-Calls-clause-kept g c = λ units transfer stood. no_call c.in-Calls.ensures.calls stood

pub returns-in-Answers-clause-kept : goal.returns-in-Answers-clause-kept
returns-in-Answers-clause-kept g c = λ units transfer stood. no_call c.in-Answers.ensures.calls stood

pub returns-in-Breaks-clause-kept : goal.returns-in-Breaks-clause-kept
returns-in-Breaks-clause-kept g c = λ units transfer stood. no_call c.in-Breaks.ensures.calls stood

pub returns-in-Library-clause-kept : goal.returns-in-Library-clause-kept
returns-in-Library-clause-kept g c = λ units transfer stood.
    left-as (item_call c.args.own c.args.run.now (flat_of c.args.item.now)) (call_by (wants_of c.in-Library.wants) c.first_values.result.now (slice_get signatures c.in-Library.number)) c.args.run.now c.perform.new.run units transfer
    (g.L.Library.stands c.library_called.new.library) c.library_called.result
    (c.in-Library.ensures.calls ∙ ap (λ values. call_by (wants_of c.in-Library.wants) values (slice_get signatures c.in-Library.number)) (sym c.first_values.ensures))
    c.in-Library.ensures.objects (c.library_called.ensures.kept units transfer stood)

pub returns-in-Library-clause-counted : goal.returns-in-Library-clause-counted
returns-in-Library-clause-counted g c =
    counted-as (λ before. item_call c.args.own c.args.run.now (flat_of c.args.item.now)) (λ before. call_by (wants_of c.in-Library.wants) c.first_values.result.now (slice_get signatures c.in-Library.number)) c.args.run.now c.perform.new.run
    (g.L.Library.stands c.args.library.now) (λ unit. g.L.Library.uncounted unit c.library_called.new.library) c.library_called.result c.in-Library.ensures.objects
    (λ units transfer. c.in-Library.ensures.calls ∙ ap (λ values. call_by (wants_of c.in-Library.wants) values (slice_get signatures c.in-Library.number)) (sym c.first_values.ensures))
    c.library_called.ensures.counted
