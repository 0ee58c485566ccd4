use Rattle.std.proofs.Common.{arith}
use Rattle.file_parse.proofs.IncludeLemmas.{mentions_go_on, mentions_end}
use Rattle.file_parse.proofs.mentions.mentioned_in.Goals as goal

pub loop-statement-preserved : goal.loop-statement-preserved
loop-statement-preserved c =
    mentions_go_on c.args.statements.now c.loop-statement.statement-index c.statement-item.result c.loop-statement.names c.in_ok-names.names c.loop-statement-test.true
    c.statement-item.is c.loop-statement.invariant c.in_ok-names.ensures

pub returns : goal.returns
returns c = mentions_end c.args.statements.now c.loop-statement.statement-index c.loop-statement.names (omega arith) c.loop-statement.invariant
