use Rattle.std.proofs.Common.{arith}
use Rattle.decl_table.proofs.ConstantLemmas.{no-constants, statement-more, statements-end}
use Rattle.decl_table.proofs.constants.constants_among.Goals as goal

pub loop-statement-init : goal.loop-statement-init
loop-statement-init c = no-constants c.args.unit.now c.new-constants.result c.new-constants.ensures

pub loop-statement-preserved : goal.loop-statement-preserved
loop-statement-preserved c =
    statement-more c.args.unit.now _ _ c.args.statements.now c.loop-statement.statement-index c.statement-item.result _ c.loop-statement-test.true c.statement-item.is c.loop-statement.invariant
    c.in_ok-define_in.ensures

pub returns : goal.returns
returns c = statements-end c.args.unit.now _ c.args.statements.now c.loop-statement.statement-index (omega arith) c.loop-statement.invariant
