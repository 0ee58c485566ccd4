use Rattle.std.proofs.Common.{Some}
use Rattle.std.proofs.lemmas.Map.Text.{hash_map_updates_str}
use Rattle.call_check.proofs.bindings.put_basic.Goals as goal

pub returns-in-Ok : goal.returns-in-Ok
returns-in-Ok c = λ x. hash_map_updates_str c.args.name.now c.args.dummies.now c.insert.new.self (Some c.args.basic) c.in-Ok.ensures.updates x
