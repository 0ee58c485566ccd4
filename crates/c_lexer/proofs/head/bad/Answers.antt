use Rattle.c_lexer.proofs.HeadLemmas.{is_bad}
use Rattle.c_lexer.proofs.head.bad.Goals as goal

pub returns : goal.returns
returns c = is_bad c.args.first c.args.later.now c.args.known c.requires
