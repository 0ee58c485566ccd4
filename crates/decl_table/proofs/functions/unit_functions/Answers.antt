use Rattle.std.proofs.Common.{ap, ◌∙◌}
use Rattle.name_table.specs.Named.{texts}
use Rattle.decl_table.proofs.FunctionLemmas.{unit-functions}
use Rattle.decl_table.proofs.functions.unit_functions.Goals as goal

pub all_names-requires : goal.all_names-requires
all_names-requires c = record { is_set = c.requires.arrays.is_set; arrays = c.requires.arrays.names }

pub returns : goal.returns
returns c =
    unit-functions c.functions_among.result c.args.unit.now (texts c.as_slice.result.now) (ap texts c.as_slice.ensures.value ∙ c.in_ok-names.ensures) c.functions_among.ensures
