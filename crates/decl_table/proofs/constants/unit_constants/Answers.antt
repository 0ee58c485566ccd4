use Rattle.decl_table.proofs.ConstantLemmas.{unit-constants}
use Rattle.decl_table.proofs.constants.unit_constants.Goals as goal

pub returns : goal.returns
returns c = unit-constants c.constants_among.result c.args.unit.now c.as_slice.result.now c.as_slice.ensures c.constants_among.ensures
