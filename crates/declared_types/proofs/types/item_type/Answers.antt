use Rattle.declared_types.proofs.TypeForms.{item_length, item_plain}
use Rattle.declared_types.proofs.types.item_type.Goals as goal

pub returns-in-Some : goal.returns-in-Some
returns-in-Some c = item_length c.args.written.now c.args.item.now.length _ c.in-Some.is

pub returns-in-None : goal.returns-in-None
returns-in-None c = item_plain c.args.written.now c.args.item.now.length c.written_type.result c.in-None.is c.written_type.ensures
