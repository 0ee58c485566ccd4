use Rattle.plain_mains.proofs.PlainUnits.{plain_mains_are_told}
use Rattle.plain_mains.proofs.tells.plain_mains_are_told.Goals as goal

pub returns : goal.returns
returns c = plain_mains_are_told
