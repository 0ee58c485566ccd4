use Rattle.lowered_tree.specs.Shapes.{pures_of}
use Rattle.unit_contents.proofs.Lists.{then_ok}
use Rattle.unit_contents.proofs.ProcedureLaws.{named_added}
use Rattle.unit_contents.proofs.procedures.add_named.Goals as goal

pub returns : goal.returns
returns c =
    then_ok _ _ c.add_operands.result
    (λ added facts tells.
    named_added facts c.args.table.now c.args.name.now c.class.result (pures_of c.args.operands.now) c.args.names.now.items c.add_called.new.names.items c.add_operands.new.names.items tells
    c.class.ensures c.in_ok-add_called.ensures (added facts tells))
    c.add_operands.ensures
