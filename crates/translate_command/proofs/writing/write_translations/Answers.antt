use Rattle.std.proofs.Common.{subst}
use Rattle.translate_command.specs.WrittenTexts.{IsStoppedAt}
use Rattle.translate_command.proofs.WriteLemmas.{unwritten_at}
use Rattle.translate_command.proofs.writing.write_translations.Goals as goal

pub returns-in-Err-clause-err : goal.returns-in-Err-clause-err
returns-in-Err-clause-err g c =
    unwritten_at c.args.places c.args.texts.now c.in-Err.number c.remove.result (g.H.Shelf.state c.args.shelf.now) (g.H.Shelf.state c.write_texts.new.shelf)
    (subst (λ ps. IsStoppedAt ps c.args.texts.now c.in-Err.number (g.H.Shelf.state c.args.shelf.now) (g.H.Shelf.state c.write_texts.new.shelf)) c.as_slice.ensures
    c.in-Err.ensures.err) c.remove.ensures.item
