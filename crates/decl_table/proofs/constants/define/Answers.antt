use Rattle.decl_table.proofs.ConstantLemmas.{defines-one}
use Rattle.decl_table.proofs.constants.define.Goals as goal

pub returns : goal.returns
returns c =
    defines-one c.define.result c.args.unit.now c.args.constants.now _ c.args.item.now c.as_slice-name.result.now c.typed_name.result c.in_ok-width.width c.in_ok-value.value
    c.as_slice-name.ensures c.typed_name.ensures c.in_ok-width.ensures c.in_ok-value.ensures c.define.ensures
