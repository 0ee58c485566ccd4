use Rattle.item_deeds.specs.Deeds.{view_of, wants_of, world_of}
use Rattle.program_runner.proofs.CallLaws.{call-broken, told-broken}
use Rattle.program_runner.proofs.DeviceLaws.{one-call}
use Rattle.program_runner.proofs.CountLaws.{counts-broken}
use Rattle.program_runner.proofs.LeftLaws.{left-replied, left-broken}
use Rattle.program_runner.proofs.events.call_made.Goals as goal

pub returns-in-Ok-clause-devices : goal.returns-in-Ok-clause-devices
returns-in-Ok-clause-devices g c = one-call c.in-Ok.ensures.devices

pub returns-in-Ok-clause-kept : goal.returns-in-Ok-clause-kept
returns-in-Ok-clause-kept g c = λ units transfer stood.
    left-replied g.L.Library.ending c.args.number c.args.values.now (world_of c.args.run.now units transfer) (wants_of c.args.wants) (g.L.Library.stands c.call.new.self) c.call.new.run c.in-Ok.reply
    c.requires.allowed.0 c.requires.allowed.1 (c.in-Ok.ensures.meaning units transfer stood)

pub returns-in-Err-clause-kept : goal.returns-in-Err-clause-kept
returns-in-Err-clause-kept g c = λ units transfer stood.
    left-broken g.L.Library.ending c.args.number c.args.values.now (world_of c.args.run.now units transfer) (wants_of c.args.wants) (g.L.Library.stands c.call.new.self) c.call.new.run c.in-Err.reason c.broken.result
    c.broken.ensures.is c.requires.allowed.0 c.requires.allowed.1 (c.in-Err.ensures.meaning units transfer stood)

pub returns-in-Err-clause-meaning : goal.returns-in-Err-clause-meaning
returns-in-Err-clause-meaning g c = λ units transfer given stood.
    call-broken g.L.Library.ending c.args.number c.args.values.now (view_of c.args.view) (world_of c.args.run.now units transfer) (wants_of c.args.wants) (g.L.Library.stands c.call.new.self) c.call.new.run given
    c.in-Err.reason c.broken.result c.broken.ensures.is c.requires.allowed.0 c.requires.allowed.1 (c.in-Err.ensures.meaning units transfer stood)

pub returns-in-Err-clause-devices : goal.returns-in-Err-clause-devices
returns-in-Err-clause-devices g c =
    told-broken g.L.Library.none_failed g.L.Library.failed_on c.args.library.now c.call.new.self c.in-Err.reason c.broken.result c.broken.ensures.is c.in-Err.ensures.devices

pub returns-in-Err-clause-counted : goal.returns-in-Err-clause-counted
returns-in-Err-clause-counted g c =
    counts-broken c.args.number c.args.values.now (wants_of c.args.wants) c.args.run.now (g.L.Library.stands c.args.library.now) (λ unit. g.L.Library.uncounted unit c.call.new.self) c.in-Err.reason c.broken.result
    c.broken.ensures.is c.requires.allowed.0 c.requires.allowed.1 c.in-Err.ensures.counted
