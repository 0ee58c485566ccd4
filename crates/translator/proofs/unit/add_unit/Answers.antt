use Rattle.name_table.specs.Named.{names_in}
use Rattle.translator.proofs.FileLemmas.{unit_put, unit_refused}
use Rattle.translator.proofs.unit.add_unit.Goals as goal

pub returns-in_ok-push-in-Some : goal.returns-in_ok-push-in-Some
returns-in_ok-push-in-Some c =
    unit_put c.args.options (names_in c.args.procedures.now) c.args.unit.now c.args.found.now.items _ c.in_ok-plain.field-0 c.in_ok-plain.ensures c.in-Some.plain c.in-Some.is c.in_ok-push-in-Some.ensures.items

pub returns-in-None : goal.returns-in-None
returns-in-None c =
    unit_refused c.args.options (names_in c.args.procedures.now) c.args.unit.now c.args.found.now.items _ c.in_ok-plain.field-0 c.in_ok-plain.ensures c.form_row.result c.in-None.is c.form_row.ensures
