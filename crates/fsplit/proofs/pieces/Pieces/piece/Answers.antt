use Rattle.split_pieces.specs.Pieces.{Piece}
use Rattle.fsplit.proofs.ViewLemmas.{at_place}
use Rattle.fsplit.proofs.pieces.Pieces.piece.Goals as goal

pub returns : goal.returns
returns c =
    at_place _ (λ (p : Piece). p.text) c.self.inside.parts.items c.args.self.now c.args.i c.index.result.now c.self.view_is c.requires c.index.ensures
