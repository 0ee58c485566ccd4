use Rattle.std.proofs.Common.{arith, sym}
use Rattle.f2c_outside.proofs.TextLemmas.{word_at-found}
use Rattle.f2c_outside.proofs.texts.Words.get.Goals as goal

pub returns : goal.returns
returns c =
    rw (c.as_slice.ensures.value, ← c.self.view_is)
    (sym
    (word_at-found (λ v. v.items) c.self.inside.words.items c.args.number c.index-word.result.now (omega arith) (omega arith)
    c.index-word.ensures))
