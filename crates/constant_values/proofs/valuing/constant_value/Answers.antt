use Rattle.name_table.specs.Named.{names_in}
use Rattle.constant_values.proofs.ConstantLaws.{is-value}
use Rattle.constant_values.proofs.valuing.constant_value.Goals as goal

pub returns : goal.returns
returns c = is-value c.value_in.result c.args.constants.now (names_in c.new-functions.result) c.args.e.now c.new-functions.ensures.names c.value_in.ensures
