use Rattle.std.proofs.Common.{refl}
use Rattle.taken_records.proofs.ColumnLaws.{blank-behind}
use Rattle.taken_records.proofs.record.line_of.Goals as goal

pub returns-clause-blank : goal.returns-clause-blank
returns-clause-blank c = blank-behind c.args.record.now c.copy_from_slice.new.self _ c.copy_from_slice.ensures.after refl
