use Rattle.std.proofs.Common.{[], ap, ◌∙◌}
use Rattle.source_acceptance.specs.SourceFiles.{first_mentions}
use Rattle.source_reader.specs.Mentions.{mentioned_in_cards}
use Rattle.source_reader.proofs.NamedLemmas.{named_are}
use Rattle.source_reader.proofs.named.read_files.Goals as goal

pub returns : goal.returns
returns c =
    named_are c.args.options.now c.args.files.now c.in_ok-cards.field-0.cards c.in_ok-cards.field-0.refused c.in_ok-mentions.mentions c.in_ok-names.names
    c.in_ok-cards.ensures (c.in_ok-mentions.ensures ∙ ap mentioned_in_cards c.as_slice.ensures) (c.in_ok-names.ensures ∙ ap (first_mentions []) c.as_slice-2.ensures)
