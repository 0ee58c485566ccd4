use Rattle.formatted_records.proofs.FieldLaws.{too-wide, length-int}
use Rattle.formatted_records.proofs.fields.put_int.Goals as goal

pub returns-then-width-gt-COLUMNS : goal.returns-then-width-gt-COLUMNS
returns-then-width-gt-COLUMNS c on complete stands =
    too-wide on complete c.args.sheet.now _ c.args.width stands (length-int c.args.value c.args.width c.args.least c.args.sheet.now.plus) c.if-width-gt-COLUMNS.true
