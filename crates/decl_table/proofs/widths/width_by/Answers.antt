use Rattle.decl_table.proofs.ConstantLemmas.{width-length, width-one, width-four}
use Rattle.decl_table.proofs.widths.width_by.Goals as goal

pub returns-in-Some : goal.returns-in-Some
returns-in-Some c = width-length c.args.constants.now c.args.typed c.in-Some.length c.length_value.result c.in-Character.is c.in-Some.is c.length_value.ensures

pub returns-in-None : goal.returns-in-None
returns-in-None c = width-one c.args.constants.now c.args.typed c.in-Character.is c.in-None.is

pub returns-in-Integer : goal.returns-in-Integer
returns-in-Integer c = width-four c.args.constants.now c.args.typed c.in-Integer.is
