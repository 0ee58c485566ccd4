use Rattle.std.proofs.Common.{refl}
use Rattle.file_parse.proofs.OpenBlockLemmas.{closes_if}
use Rattle.file_parse.proofs.nests.OpenBlocks.close_conditional.Goals as goal

pub returns : goal.returns
returns c = closes_if c.args.self.now _ c.saturating_sub-self.ensures refl refl refl
