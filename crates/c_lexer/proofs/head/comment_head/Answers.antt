use Rattle.std.proofs.Common.{refl}
use Rattle.c_lexer.proofs.HeadLemmas.{is_comment}
use Rattle.c_lexer.proofs.head.comment_head.Goals as goal

pub returns-in-Some : goal.returns-in-Some
returns-in-Some c =
    is_comment c.args.later.now c.args.inside.now c.in-Some.len _ c.args.known c.requires.inside c.in-Some.ensures.value c.in-Some.ensures.within refl c.requires.known
