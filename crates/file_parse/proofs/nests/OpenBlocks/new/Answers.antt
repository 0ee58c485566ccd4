use Rattle.std.proofs.Common.{refl}
use Rattle.file_parse.proofs.OpenBlockLemmas.{counts_nothing}
use Rattle.file_parse.proofs.nests.OpenBlocks.new.Goals as goal

pub returns : goal.returns
returns c = counts_nothing _ refl refl refl c.new.ensures.empty
