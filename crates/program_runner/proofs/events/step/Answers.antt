use Rattle.std.proofs.Common.{refl, sym, subst}
use Rattle.c_tree.specs.Steps as steps
use Rattle.item_deeds.specs.Deeds.{view_of, world_of}
use Rattle.item_deeds.specs.Calls.{item_call, next_call}
use Rattle.linked_programs.specs.LinkedPrograms.{function_of}
use Rattle.run_library.specs.Devices as devices
use Rattle.linked_terms.specs.LinkedItems.{flat_of}
use Rattle.program_runner.specs.Events.{StepsBy}
use Rattle.program_runner.specs.UnitsLeft.{no_call}
use Rattle.program_runner.proofs.CountLaws.{counted-as}
use Rattle.program_runner.proofs.LeftLaws.{left-as}
use Rattle.program_runner.proofs.StepLaws.{step-known, step-none, call-known, call-none}
use Rattle.program_runner.proofs.events.step.Goals as goal

pub returns-in-Some-clause-meaning : goal.returns-in-Some-clause-meaning
returns-in-Some-clause-meaning g c = λ units transfer stood.
    subst
    (λ (happens : steps.Happening).
    StepsBy g.L.Library.ending happens (g.L.Library.stands c.item_step.new.library) c.item_step.new.run c.item_step.new.buffer c.item_step.result)
    (sym (step-known c.args.own c.args.function.now (view_of c.args.view) (world_of c.args.run.now units transfer) c.in-Some.item.now c.in-Some.ensures.value))
    (c.item_step.ensures.meaning (function_of c.args.own c.args.function.now) refl refl units transfer stood)

pub returns-in-None-clause-meaning : goal.returns-in-None-clause-meaning
returns-in-None-clause-meaning g c = λ units transfer stood. record {
  units = units;
  transfer = transfer;
  stood = stood;
  holds = step-none c.args.own c.args.function.now (view_of c.args.view) (world_of c.args.run.now units transfer) c.in-None.ensures.value;
}

pub returns-in-None-clause-devices : goal.returns-in-None-clause-devices
returns-in-None-clause-devices g c = devices.no_call

pub returns-in-Some-clause-kept : goal.returns-in-Some-clause-kept
returns-in-Some-clause-kept g c = λ units transfer stood.
    left-as (next_call (function_of c.args.own c.args.function.now) (view_of c.args.view) (world_of c.args.run.now units transfer)) (item_call c.args.own c.args.run.now (flat_of c.in-Some.item.now)) c.args.run.now c.args.run.now
    units transfer (g.L.Library.stands c.item_step.new.library) c.item_step.result
    (call-known c.args.own c.args.function.now (view_of c.args.view) (world_of c.args.run.now units transfer) c.in-Some.item.now c.in-Some.ensures.value) refl (c.item_step.ensures.kept units transfer stood)

pub returns-in-None-clause-kept : goal.returns-in-None-clause-kept
returns-in-None-clause-kept g c = λ units transfer stood.
    no_call (call-none c.args.own c.args.function.now (view_of c.args.view) (world_of c.args.run.now units transfer) c.in-None.ensures.value) stood

pub returns-in-Some-clause-counted : goal.returns-in-Some-clause-counted
returns-in-Some-clause-counted g c =
    counted-as (next_call (function_of c.args.own c.args.function.now) (view_of c.args.view)) (λ before. item_call c.args.own c.args.run.now (flat_of c.in-Some.item.now)) c.args.run.now c.args.run.now
    (g.L.Library.stands c.args.library.now) (λ unit. g.L.Library.uncounted unit c.item_step.new.library) c.item_step.result refl
    (λ units transfer. call-known c.args.own c.args.function.now (view_of c.args.view) (world_of c.args.run.now units transfer) c.in-Some.item.now c.in-Some.ensures.value) c.item_step.ensures.counted
