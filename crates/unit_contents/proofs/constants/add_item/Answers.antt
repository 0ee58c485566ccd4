use Rattle.lowered_tree.specs.Shapes.{pure_of}
use Rattle.unit_contents.proofs.Lists.{then_ok}
use Rattle.unit_contents.proofs.ConstantLaws.{item_added}
use Rattle.unit_contents.proofs.constants.add_item.Goals as goal

pub returns : goal.returns
returns c =
    then_ok _ _ c.add_if-2.result
    (λ last facts tells.
    item_added facts c.args.kept (pure_of c.args.item.now) c.item_type.result c.kind_number.result c.own_value.result c.args.values.now.keys c.add_if.new.values.keys
    c.add_value.new.values.keys c.add_if-2.new.values.keys (c.item_type.ensures facts tells) c.kind_number.ensures c.own_value.ensures c.in_ok-add_if.ensures c.in_ok-add_value.ensures
    last)
    c.add_if-2.ensures
