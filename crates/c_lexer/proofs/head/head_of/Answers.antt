use Rattle.std.proofs.Common.{sym, ◌∙◌}
use Rattle.c_lexer.proofs.HeadLemmas.{is_gap}
use Rattle.c_lexer.proofs.head.head_of.Goals as goal

pub returns-then-is_space : goal.returns-then-is_space
returns-then-is_space c = is_gap c.args.text.now c.args.first c.args.later.now c.args.alone c.args.known c.requires.text (sym c.is_space.ensures ∙ c.if-is_space.true) c.requires.known
