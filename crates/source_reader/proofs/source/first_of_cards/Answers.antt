use Rattle.std.proofs.Common.{ap, ◌∙◌, unwrap_or}
use Rattle.source_reader.specs.Limits.{first_named, count_in, first_passing}
use Rattle.source_reader.specs.PartReading.{or_else}
use Rattle.source_reader.proofs.CardTheorem.{by_count}
use Rattle.source_reader.proofs.source.first_of_cards.Goals as goal

pub returns : goal.returns
returns c =
    c.or_else-2.ensures
    ∙ (ap (or_else c.in_ok-passing.passing) c.or_else.ensures
    ∙ by_count c.args.named.now c.args.parts.now (count_in c.in_ok-counts.counts) c.in_ok-passing.passing
    (λ name. ap (λ o. unwrap_or o 0)
    (c.in_ok-counts.ensures name
    ∙ (ap (λ l. first_named l c.as_slice-2.result.now name) c.as_slice.ensures
    ∙ ap (λ l. first_named c.args.named.now.names l name) c.as_slice-2.ensures)))
    (c.in_ok-passing.ensures ∙ ap (first_passing (count_in c.in_ok-counts.counts) 0) c.as_slice-3.ensures))
