use Rattle.std.proofs.Common.{◌≡◌, ◌++◌, drop}
use Rattle.source_reader.specs.Mentions.{mentioned_in_cards}
use Rattle.source_reader.proofs.mentions.mentioned_in_files.Given as goal

abbrev pub invariant-loop-cards : goal.invariant-loop-cards
invariant-loop-cards l = mentioned_in_cards l.files ≡ l.names ++ mentioned_in_cards (drop l.cards-index l.files)
