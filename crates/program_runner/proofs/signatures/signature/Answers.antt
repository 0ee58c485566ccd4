use Rattle.program_runner.proofs.SignatureLaws.{shape-at}
use Rattle.program_runner.proofs.signatures.signature.Goals as goal

pub returns : goal.returns
returns c = shape-at c.table.result.now c.args.number c.signature_at.result c.table.ensures c.signature_at.ensures
