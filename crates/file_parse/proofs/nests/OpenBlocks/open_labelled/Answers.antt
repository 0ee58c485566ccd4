use Rattle.std.proofs.Common.{refl, ap, ◌∙◌, arith, ◌-◌, ◌^◌, ◌+◌, min}
use Rattle.file_parse.proofs.OpenBlockLemmas.{opens_labelled}
use Rattle.file_parse.proofs.nests.OpenBlocks.open_labelled.Goals as goal

pub returns : goal.returns
returns c =
    λ blocks few counts.
    opens_labelled c.args.label c.saturating_add-loops.result (2 ^ 64 - 1) c.args.self.now _
    (c.saturating_add-loops.ensures ∙ ap (λ n. min (n + 1) (2 ^ 64 - 1)) c.loops_to.ensures) refl refl c.saturating_add-self.ensures
    c.in_ok-insert.ensures.updates.0 blocks (omega arith) counts
