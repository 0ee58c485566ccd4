use Rattle.std.proofs.Common.{refl, ap, ◌∙◌}
use Rattle.std.specs.Prelude.{ℕ, Option, unwrap_or}
use Rattle.file_parse.proofs.OpenBlockLemmas.{closes_labelled}
use Rattle.file_parse.proofs.nests.OpenBlocks.close_labelled.Goals as goal

pub returns : goal.returns
returns c =
    closes_labelled c.args.label c.unwrap_or-loops.result c.args.self.now _
    (c.unwrap_or-loops.ensures ∙ ap (λ (o : Option ℕ). unwrap_or o 0) c.remove.ensures.value) refl refl c.saturating_sub-self.ensures c.remove.ensures.updates.0
