use Rattle.std.proofs.Common.{refl}
use Rattle.program_runner.proofs.signatures.table.Goals as goal

pub returns : goal.returns
returns c = refl
