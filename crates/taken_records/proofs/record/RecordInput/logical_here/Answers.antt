use Rattle.std.proofs.Common.{refl}
use Rattle.edit_rules.specs.TakeErrors.{numbered}
use Rattle.taken_records.proofs.FieldLaws.{field-is, logical-reads}
use Rattle.taken_records.proofs.record.RecordInput.logical_here.Goals as goal

pub returns : goal.returns
returns c =
    logical-reads c.args.self.now c.args.width _ (numbered c.take_logical.result) c.take_logical.ensures
    (field-is c.args.self.now c.args.width c.min.result c.columns_on-columns.result _ c.min.ensures c.columns_on-columns.ensures refl)
