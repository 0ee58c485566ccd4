use Rattle.std.proofs.Common.{rules}
use Rattle.formatted_records.proofs.ColumnLaws.{is-longer}
use Rattle.formatted_records.proofs.columns.write_at.Goals as goal

pub returns-else-used-before-clause-written : goal.returns-else-used-before-clause-written
returns-else-used-before-clause-written c =
    is-longer c.args.line.now c.place-else-used-before.new.line c.args.text.now c.args.used c.args.before c.max.result
    (search rules) c.if-used-before.false c.requires.used c.requires.within c.max.ensures c.place-else-used-before.ensures
