use Rattle.std.proofs.Common.{◌∙◌}
use Rattle.name_table.specs.Named.{names_in}
use Rattle.translator.proofs.NameLemmas.{all_defined}
use Rattle.translator.proofs.procedures.procedures_are_defined.Goals as goal

pub returns : goal.returns
returns c = c.are_defined.ensures ∙ all_defined (names_in c.args.procedures.now) c.args._unit.now c.args.table.now c.args.names.now c.requires.table c.requires.names
