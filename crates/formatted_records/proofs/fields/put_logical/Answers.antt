use Rattle.std.proofs.Common.{◌≤◌, ap, ◌∙◌, arith}
use Rattle.edit_rules.specs.edit_meaning.EditedFields.{logical_field}
use Rattle.formatted_records.proofs.FieldLaws.{too-wide, length-logical, logical-widened, same-text}
use Rattle.formatted_records.proofs.fields.put_logical.Goals as goal

pub returns-then-width-gt-COLUMNS : goal.returns-then-width-gt-COLUMNS
returns-then-width-gt-COLUMNS c on complete stands =
    let some : 1 ≤ c.args.width = omega arith in
    too-wide on complete c.args.sheet.now _ c.args.width stands (length-logical c.args.value c.args.width some) c.if-width-gt-COLUMNS.true

pub returns : goal.returns
returns c on complete stands =
    same-text on complete c.args.sheet.now _ _ _ _ (ap (logical_field c.args.value) c.max.ensures ∙ logical-widened c.args.value c.args.width)
    (c.put_truth.ensures on complete stands)
