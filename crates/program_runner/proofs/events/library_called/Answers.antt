use Rattle.run_library.specs.Devices as devices
use Rattle.program_runner.specs.UnitsLeft.{no_call}
use Rattle.program_runner.proofs.events.library_called.Goals as goal

pub returns-in-Err-clause-devices : goal.returns-in-Err-clause-devices
returns-in-Err-clause-devices g c = devices.no_call

pub returns-in-Err-clause-kept : goal.returns-in-Err-clause-kept
returns-in-Err-clause-kept g c = λ units transfer stood. no_call c.in-Err.ensures.0 stood
