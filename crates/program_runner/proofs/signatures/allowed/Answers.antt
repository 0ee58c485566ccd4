use Rattle.std.proofs.Common.{sym}
use Rattle.item_deeds.specs.Deeds.{wants_of}
use Rattle.program_runner.proofs.SignatureLaws.{one-allowed}
use Rattle.program_runner.proofs.signatures.allowed.Goals as goal

pub returns-in-Some : goal.returns-in-Some
returns-in-Some c = one-allowed c.args.number c.args.values.now (wants_of c.args.wants) c.in-Some.found (sym c.if-agrees.ensures) c.in-Some.ensures
