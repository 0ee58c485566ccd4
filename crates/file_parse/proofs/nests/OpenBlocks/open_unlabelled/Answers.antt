use Rattle.std.proofs.Common.{refl, arith, ◌-◌, ◌^◌}
use Rattle.file_parse.proofs.OpenBlockLemmas.{opens_loop}
use Rattle.file_parse.proofs.nests.OpenBlocks.open_unlabelled.Goals as goal

pub returns : goal.returns
returns c =
    λ blocks few counts. opens_loop c.args.self.now _ (2 ^ 64 - 1) refl c.saturating_add-self.ensures refl refl blocks (omega arith) counts
