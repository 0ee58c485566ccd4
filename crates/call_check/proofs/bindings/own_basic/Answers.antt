use Rattle.reference_judge.proofs.BindingLaws.{basic_is}
use Rattle.call_check.proofs.bindings.own_basic.Goals as goal

pub returns : goal.returns
returns c = basic_is c.args.unit.now c.args.name.now c.typed_name.result c.typed_name.ensures
