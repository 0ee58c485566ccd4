use Rattle.name_table.specs.Named.{texts}
use Rattle.loop_entries.proofs.FunctionLaws.{noted_already, noted_first}
use Rattle.loop_entries.proofs.functions.note_function.Goals as goal

pub returns-then-is_some : goal.returns-then-is_some
returns-then-is_some c =
    noted_already c.args.table.now c.args.functions.now c.args.name.now (texts c.args.dummies.now) c.args.value.now c.get.result c.is_some.result c.get.ensures c.is_some.ensures c.if-is_some.true

pub returns : goal.returns
returns c =
    noted_first c.put.result c.args.table.now c.args.functions.now _ c.args.name.now (texts c.args.dummies.now) c.args.value.now c.get.result c.is_some.result c.in_ok-labels.labels.items
    c.get.ensures c.is_some.ensures c.if-is_some.false c.in_ok-labels.ensures c.put.ensures
