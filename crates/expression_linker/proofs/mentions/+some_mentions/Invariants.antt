use Rattle.std.proofs.Common.{length}
use Rattle.expression_linker.proofs.mentions.+some_mentions.Given as goal

abbrev pub decreases-some_mentions : goal.decreases-some_mentions
decreases-some_mentions l = length l.list.now
