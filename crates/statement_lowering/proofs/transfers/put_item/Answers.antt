use Rattle.f_tree.specs.Lines.{way_of}
use Rattle.lowered_tree.specs.Shapes.{layout_of}
use Rattle.statement_lowering.proofs.TransferLaws.{item-done}
use Rattle.statement_lowering.proofs.transfers.put_item.Goals as goal

pub returns : goal.returns
returns c =
    item-done c.args.table.now (way_of c.args.way) (layout_of c.args.how) c.args.item.now c.in-Item.e c.args.free c.args.behind.now.items c.put_expression.new.behind.items
    c.put_expression.result c.in-Item.is c.put_expression.ensures
