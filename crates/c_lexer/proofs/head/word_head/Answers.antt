use Rattle.std.proofs.Common.{refl}
use Rattle.c_lexer.proofs.HeadLemmas.{is_word, word_some}
use Rattle.c_lexer.proofs.head.word_head.Goals as goal

pub returns : goal.returns
returns c =
    is_word c.args.text.now c.args.first _ c.word_len-len.result c.in_ok-token.token c.args.known c.word_len-len.ensures.value c.word_len-len.ensures.within
    (word_some c.args.text.now c.args.first c.args.later.now c.word_len-len.result c.requires.text c.requires.word c.word_len-len.ensures.value) refl c.in_ok-token.ensures
    c.requires.known
