use Rattle.std.proofs.Common.{refl}
use Rattle.taken_records.proofs.ColumnLaws.{columns-behind}
use Rattle.taken_records.proofs.record.RecordInput.columns_on.Goals as goal

pub returns : goal.returns
returns c = columns-behind c.args.self.now.line c.copy_from_slice.new.self _ c.args.self.now.before c.args.self.now.stands c.args.self.now.whole c.copy_from_slice.ensures.after refl
