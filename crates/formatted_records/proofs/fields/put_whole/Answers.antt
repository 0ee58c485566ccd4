use Rattle.std.proofs.Common.{sym}
use Rattle.formatted_records.proofs.FieldLaws.{text-whole, same-text}
use Rattle.formatted_records.proofs.fields.put_whole.Goals as goal

pub returns : goal.returns
returns c on complete stands =
    same-text on complete c.args.sheet.now _ _ _ _ (sym (text-whole c.args.value.now)) (c.literal.ensures on complete stands)
