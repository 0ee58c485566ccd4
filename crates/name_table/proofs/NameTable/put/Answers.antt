use Rattle.std.proofs.Common.{Some}
use Rattle.std.proofs.lemmas.Map.Text.{hash_map_updates_str}
use Rattle.name_table.specs.Named.{value_of}
use Rattle.name_table.proofs.NameTable.put.Goals as goal

pub returns-in-Ok : goal.returns-in-Ok
unfolding value_of
returns-in-Ok g c = λ q. hash_map_updates_str c.args.name.now c.args.self.now.values c.insert.new.self (Some c.args.value) c.in-Ok.ensures.updates q
