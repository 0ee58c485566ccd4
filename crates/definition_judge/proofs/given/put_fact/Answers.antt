use Rattle.std.proofs.Common.{Some}
use Rattle.std.proofs.lemmas.Map.Text.{hash_map_updates_str}
use Rattle.definition_judge.proofs.given.put_fact.Goals as goal

pub returns-in-Ok : goal.returns-in-Ok
returns-in-Ok c = λ x. hash_map_updates_str c.args.name.now c.args.table.now c.insert.new.self (Some c.args.fact) c.in-Ok.ensures.updates x
