use Rattle.length_judge.proofs.KnownLaws.{basic_is}
use Rattle.length_judge.proofs.definitions.own_basic.Goals as goal

pub returns : goal.returns
returns c = basic_is c.args.unit.now c.args.name.now c.typed_name.result c.typed_name.ensures
