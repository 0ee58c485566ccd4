use Rattle.definition_judge.proofs.DummyLemmas.{basic_is}
use Rattle.definition_judge.proofs.dummies.own_basic.Goals as goal

pub returns : goal.returns
returns c = basic_is c.args.unit.now c.args.name.now c.typed_name.result c.typed_name.ensures
