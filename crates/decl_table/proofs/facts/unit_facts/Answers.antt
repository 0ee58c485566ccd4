use Rattle.std.proofs.Common.{ap, ◌∙◌}
use Rattle.name_table.specs.Named.{texts}
use Rattle.decl_table.proofs.TableLemmas.{unit-facts}
use Rattle.decl_table.proofs.facts.unit_facts.Goals as goal

pub all_names-requires : goal.all_names-requires
all_names-requires c = record { is_set = c.requires.signs.arrays.is_set; arrays = c.requires.signs.arrays.names }

pub returns : goal.returns
returns c = unit-facts c.facts_among.result c.args.unit.now (texts c.as_slice.result.now) (ap texts c.as_slice.ensures.value ∙ c.in_ok-names.ensures) c.facts_among.ensures
