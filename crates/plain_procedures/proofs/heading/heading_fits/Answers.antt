use Rattle.f_tree.specs.Lines.{unit_kind}
use Rattle.plain_names.proofs.Statements.{none_known}
use Rattle.plain_procedures.proofs.Headings.{fits-then, fits-else}
use Rattle.plain_procedures.proofs.heading.heading_fits.Goals as goal

pub returns-then-not-is_main : goal.returns-then-not-is_main
returns-then-not-is_main c = fits-then (unit_kind c.args.unit.now) c.args.unit.now.dummies c.is_main.result c.is_main.ensures c.if-not-is_main.true

pub returns-else-not-is_main : goal.returns-else-not-is_main
returns-else-not-is_main c =
    fits-else (unit_kind c.args.unit.now) c.args.unit.now.dummies c.is_main.result c.is_empty.result c.is_main.ensures c.if-not-is_main.false
    (none_known c.is_empty.result c.args.unit.now.dummies c.is_empty.ensures)
