use Rattle.std.proofs.Common.{◌∙◌}
use Rattle.plain_names.proofs.Described.{all_spelled}
use Rattle.plain_names.proofs.names.is_spellable.Goals as goal

pub returns : goal.returns
returns c = λ options. c.are_spelled.ensures ∙ all_spelled options c.args.unit.now c.args.table.now c.args.names.now c.requires.table c.requires.names
