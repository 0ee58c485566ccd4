use Rattle.f_tree.specs.Lines.{way_of}
use Rattle.lowered_tree.specs.Shapes.{layout_of}
use Rattle.expression_lowering.specs.Purposes.{purpose_of}
use Rattle.statement_lowering.proofs.TransferLaws.{expression-done}
use Rattle.statement_lowering.proofs.transfers.put_expression.Goals as goal

pub returns : goal.returns
returns c =
    expression-done c.args.table.now (way_of c.args.way) (layout_of c.args.how) c.args.e.now c.item_taken-taken.result (purpose_of c.item_purpose-purpose.result) c.args.free
    c.new-one.result.items c.lower_taken.new.steps.items c.args.behind.now.items c.put_before.new.behind.items c.in_ok-value.value c.put_before.result c.item_taken-taken.ensures
    c.item_purpose-purpose.ensures c.new-one.ensures.items c.in_ok-value.ensures c.put_before.ensures
