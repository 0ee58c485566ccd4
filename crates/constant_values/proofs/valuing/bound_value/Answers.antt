use Rattle.name_table.specs.Named.{names_in}
use Rattle.constant_values.proofs.ConstantLaws.{is-bound}
use Rattle.constant_values.proofs.valuing.bound_value.Goals as goal

pub returns : goal.returns
returns c = is-bound c.args.constants.now (names_in c.args.functions.now) c.args.e.now c.in_ok-value.value c.integer_of.result c.integer_of.ensures c.in_ok-value.ensures
