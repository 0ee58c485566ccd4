use Rattle.std.proofs.Common.{ap, ◌∙◌}
use Rattle.std.specs.List.{list_all}
use Rattle.plain_procedures.specs.ToldHeadings as spec
use Rattle.plain_procedures.proofs.Headings.{dummies-known}
use Rattle.plain_procedures.proofs.dummies.names_dummies.Goals as goal

pub returns : goal.returns
returns c =
    c.name_dummies.ensures ∙ ap (list_all (spec.names_a_dummy c.args.table.now)) c.as_slice.ensures ∙ dummies-known c.args.unit.now c.args.table.now (record { facts = c.requires.facts })
