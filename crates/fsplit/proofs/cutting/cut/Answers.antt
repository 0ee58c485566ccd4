use Rattle.fsplit.proofs.PieceLaws.{joined, ended}
use Rattle.fsplit.proofs.cutting.cut.Goals as goal

pub returns-clause-joined : goal.returns-clause-joined
returns-clause-joined c = joined c.args.bytes.now c.in_ok-pieces.pieces c.in_ok-pieces.ensures

pub returns-clause-ended : goal.returns-clause-ended
returns-clause-ended c = ended c.args.bytes.now c.in_ok-pieces.pieces c.in_ok-pieces.ensures
