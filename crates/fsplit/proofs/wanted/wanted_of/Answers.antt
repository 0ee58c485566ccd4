use Rattle.std.proofs.Common.{◌≡◌, ap, ◌∙◌}
use Rattle.std.proofs.lemmas.Result.{IfOk-weaker}
use Rattle.split_pieces.specs.WantedNames.{wanted_by, wanted_of}
use Rattle.split_pieces.specs.declared.wanted.WantedName.{WantedName}
use Rattle.fsplit.proofs.WantedLemmas.{of_statements}
use Rattle.fsplit.proofs.wanted.wanted_of.Goals as goal

pub returns-in-Ok : goal.returns-in-Ok
returns-in-Ok c =
    IfOk-weaker c.wanted_by.result (λ (w : WantedName). w ≡ wanted_by c.statements.result.now) (λ (w : WantedName). w ≡ wanted_of c.args.piece.now)
    (λ w is. is ∙ ap wanted_by c.statements.ensures ∙ of_statements c.args.piece.now c.in-Ok.cards c.in-Ok.ensures.read) c.wanted_by.ensures
