use Rattle.formatted_records.proofs.FieldLaws.{too-wide, length-text}
use Rattle.formatted_records.proofs.fields.put_text.Goals as goal

pub returns-then-width-gt-COLUMNS : goal.returns-then-width-gt-COLUMNS
returns-then-width-gt-COLUMNS c on complete stands =
    too-wide on complete c.args.sheet.now _ c.args.width stands (length-text c.args.value.now c.args.width) c.if-width-gt-COLUMNS.true
