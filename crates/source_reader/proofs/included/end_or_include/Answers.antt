use Rattle.std.proofs.Common.{sym, ◌∙◌}
use Rattle.source_reader.proofs.PartLemmas.{endings_here, endings_go_on, endings_end}
use Rattle.source_reader.proofs.included.end_or_include.Goals as goal

pub returns-then-branch : goal.returns-then-branch
returns-then-branch c =
    endings_here c.args.file c.args.statements.now c.loop-statement.statement-index c.statement-item.result c.loop-statement-test.true c.statement-item.is
    (sym c.in_ok-ends_or_includes.ensures ∙ c.if-branch.true) c.loop-statement.invariant

pub loop-statement-preserved : goal.loop-statement-preserved
loop-statement-preserved c =
    endings_go_on c.args.file c.args.statements.now c.loop-statement.statement-index c.statement-item.result c.loop-statement-test.true c.statement-item.is
    (sym c.in_ok-ends_or_includes.ensures ∙ c.if-branch.false) c.loop-statement.invariant

pub returns : goal.returns
returns c = endings_end c.args.file c.args.statements.now c.loop-statement.statement-index c.loop-statement-test.false c.loop-statement.invariant
