use Rattle.std.proofs.Common.{refl, arith, ◌-◌, ◌^◌}
use Rattle.file_parse.proofs.OpenBlockLemmas.{opens_if}
use Rattle.file_parse.proofs.nests.OpenBlocks.open_conditional.Goals as goal

pub returns : goal.returns
returns c =
    λ blocks few counts. opens_if c.args.self.now _ (2 ^ 64 - 1) c.saturating_add-self.ensures refl refl refl blocks (omega arith) counts
