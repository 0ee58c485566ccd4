use Rattle.std.proofs.Common.{Some}
use Rattle.std.proofs.lemmas.Map.Text.{hash_map_updates_str}
use Rattle.unit_writer.proofs.telling.put_variable.Goals as goal

pub returns-in-Ok : goal.returns-in-Ok
returns-in-Ok c = λ x. hash_map_updates_str c.args.name.now c.args.variables.now c.insert.new.self (Some c.args.variable) c.in-Ok.ensures.updates x
