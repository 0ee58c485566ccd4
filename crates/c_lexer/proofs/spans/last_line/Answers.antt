use Rattle.std.proofs.Common.{arith}
use Rattle.c_lexer.proofs.PartLemmas.{last_line_is}
use Rattle.c_lexer.proofs.spans.last_line.Goals as goal

pub returns-in-len1-up : goal.returns-in-len1-up
returns-in-len1-up c = last_line_is c.args.bytes.now _ c.line_feeds.result c.in-len1-up.len_at_least (omega arith) c.line_feeds.ensures.value
