use Rattle.check_command.proofs.ReadLemmas.{no_file}
use Rattle.check_command.proofs.prototype_reading.protos_at.Goals as goal

pub returns-in-Err-clause-err : goal.returns-in-Err-clause-err
returns-in-Err-clause-err c = no_file c.args.place.now c.args.text.now c.in-Err.why c.fail_at.result c.in-Err.ensures.refused c.fail_at.ensures
