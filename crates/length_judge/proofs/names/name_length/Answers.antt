use Rattle.length_judge.proofs.KnownLaws.{own_known, unit_known}
use Rattle.length_judge.proofs.names.name_length.Goals as goal

pub returns-in-Some : goal.returns-in-Some
returns-in-Some c = own_known c.args.names.now c.args.name.now c.in-Some.own c.requires c.in-Some.ensures

pub returns-in-None : goal.returns-in-None
returns-in-None c = unit_known c.args.names.now c.args.name.now c.unit_length.result c.requires c.in-None.ensures c.unit_length.ensures
