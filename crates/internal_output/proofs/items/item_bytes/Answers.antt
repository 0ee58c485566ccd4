use Rattle.edit_rules.specs.Writer.{value_of}
use Rattle.listed_output.specs.Kinds.{kind_shown}
use Rattle.internal_output.proofs.ItemLaws.{item-value, item-size}
use Rattle.internal_output.proofs.items.item_bytes.Goals as goal

pub returns-in-Ok-clause-value : goal.returns-in-Ok-clause-value
returns-in-Ok-clause-value c =
    item-value (λ text. text.now) (kind_shown c.args.kind) c.args.run.now c.args.pointer c.args.size (value_of c.in-Ok.field-0) c.text.result c.requires c.in-Ok.ensures c.text.ensures

pub returns-in-Ok-clause-size : goal.returns-in-Ok-clause-size
returns-in-Ok-clause-size c = item-size (λ text. text.now) c.args.run.now c.args.pointer c.args.size c.text.result c.text.ensures
