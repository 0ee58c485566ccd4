use Rattle.declared_types.proofs.TypeForms.{type_there, type_missing}
use Rattle.declared_types.proofs.types.typed_name.Goals as goal

pub returns-in-Some : goal.returns-in-Some
returns-in-Some c = type_there c.args.unit.now c.args.types.now c.args.name.now c.get.result _ c.requires c.get.ensures c.in-Some.is

pub returns-in-None : goal.returns-in-None
returns-in-None c = type_missing c.args.unit.now c.args.types.now c.args.name.now c.get.result _ c.requires c.get.ensures c.in-None.is c.undeclared_type.ensures
