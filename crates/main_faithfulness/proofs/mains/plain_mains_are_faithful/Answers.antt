use Rattle.main_faithfulness.proofs.Faithfulness.{plain_mains_are_faithful}
use Rattle.main_faithfulness.proofs.mains.plain_mains_are_faithful.Goals as goal

pub returns : goal.returns
returns c = plain_mains_are_faithful
