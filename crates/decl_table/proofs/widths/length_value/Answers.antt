use Rattle.decl_table.proofs.ConstantLemmas.{length-star, length-value}
use Rattle.decl_table.proofs.widths.length_value.Goals as goal

pub returns-in-Star : goal.returns-in-Star
returns-in-Star c = length-star c.args.constants.now c.args.length.now c.in-Star.is

pub returns-in_ok-constant_value-in-Value : goal.returns-in_ok-constant_value-in-Value
returns-in_ok-constant_value-in-Value c =
    length-value c.args.constants.now c.args.length.now c.in-Value.e c.in_ok-constant_value-in-Value.field-0 c.measured.result c.in-Value.is c.in_ok-constant_value-in-Value.ensures
    c.measured.ensures
