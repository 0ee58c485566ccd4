use Rattle.name_table.specs.Named.{labelled}
use Rattle.name_table.proofs.LabelTable.put.Goals as goal

pub returns-in-Ok : goal.returns-in-Ok
unfolding labelled
returns-in-Ok g c = λ q. c.in-Ok.ensures.updates.0 q
