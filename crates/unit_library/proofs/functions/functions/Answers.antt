use Rattle.std.proofs.Common.{refl}
use Rattle.unit_library.proofs.functions.functions.Goals as goal

pub returns : goal.returns
returns c = refl
