use Rattle.std.proofs.Common.{drop}
use Rattle.source_reader.proofs.MentionLemmas.{Noted, has_name}
use Rattle.source_reader.proofs.mentions.first_mentions.Given as goal

abbrev pub invariant-loop-name : goal.invariant-loop-name
invariant-loop-name l = Noted l.mentions (drop l.name-index l.mentions) l.names (has_name l.seen)
