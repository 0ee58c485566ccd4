use Rattle.c_lexer.proofs.HeadLemmas.{is_include}
use Rattle.c_lexer.proofs.head.include_head.Goals as goal

pub returns-in-Some : goal.returns-in-Some
returns-in-Some c =
    is_include c.args.text.now c.args.later.now c.in-Some.len c.args.known c.in-Some.ensures.value c.in-Some.ensures.some c.in-Some.ensures.within c.requires.known
