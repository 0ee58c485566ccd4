use Rattle.std.proofs.Common.{ap, ◌∙◌}
use Rattle.std.specs.List.{list_all}
use Rattle.plain_procedures.specs.ToldNames.{plain_in}
use Rattle.plain_procedures.proofs.ToldLaws.{all_plain}
use Rattle.plain_procedures.proofs.parts.has_plain_names.Goals as goal

pub returns : goal.returns
returns c =
    c.are_plain.ensures ∙ ap (λ function. list_all (plain_in c.args.unit.now c.args.table.now function) c.args.names.now) c.is_function.ensures
    ∙ all_plain c.args.unit.now c.args.table.now c.args.names.now c.requires.table c.requires.names
