use Rattle.std.proofs.Common.{arith}
use Rattle.source_reader.proofs.MentionLemmas.{names_go_on, names_end}
use Rattle.source_reader.proofs.mentions.names_in.Goals as goal

pub loop-statement-preserved : goal.loop-statement-preserved
loop-statement-preserved c =
    names_go_on c.args.statements.now c.loop-statement.statement-index c.statement-item.result c.loop-statement.names c.in_ok-names.names c.in_ok-included_name.field-0
    c.loop-statement-test.true c.statement-item.is c.loop-statement.invariant c.in_ok-included_name.ensures c.in_ok-names.ensures

pub returns : goal.returns
returns c = names_end c.args.statements.now c.loop-statement.statement-index c.loop-statement.names (omega arith) c.loop-statement.invariant
