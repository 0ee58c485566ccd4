use Rattle.std.proofs.Common.{refl}
use Rattle.file_parse.proofs.OpenBlockLemmas.{closes_loop}
use Rattle.file_parse.proofs.nests.OpenBlocks.close_unlabelled.Goals as goal

pub returns : goal.returns
returns c = closes_loop c.args.self.now _ refl c.saturating_sub-self.ensures refl refl
