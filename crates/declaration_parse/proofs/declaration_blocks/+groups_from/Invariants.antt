-- Each call has fewer names.
use Rattle.std.proofs.Common.{length}
use Rattle.declaration_parse.proofs.declaration_blocks.+groups_from.Given as goal

abbrev pub decreases-groups_from : goal.decreases-groups_from
decreases-groups_from l = length l.more
