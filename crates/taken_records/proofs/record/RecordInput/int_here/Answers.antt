use Rattle.std.proofs.Common.{refl}
use Rattle.edit_rules.specs.TakeErrors.{numbered}
use Rattle.taken_records.proofs.FieldLaws.{field-is, int-reads}
use Rattle.taken_records.proofs.record.RecordInput.int_here.Goals as goal

pub returns : goal.returns
returns c =
    int-reads c.args.self.now c.args.width _ (numbered c.take_int.result) c.take_int.ensures
    (field-is c.args.self.now c.args.width c.min.result c.columns_on-columns.result _ c.min.ensures c.columns_on-columns.ensures refl)
