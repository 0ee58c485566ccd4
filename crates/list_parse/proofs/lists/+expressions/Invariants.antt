-- Each further expression takes fuel.
use Rattle.std.proofs.Common.{◌+◌, ◌*◌}
use Rattle.list_parse.proofs.lists.+expressions.Given as goal

abbrev pub decreases-expressions_from : goal.decreases-expressions_from
decreases-expressions_from l = 2 * l.fuel + 0

abbrev pub decreases-expressions_onward : goal.decreases-expressions_onward
decreases-expressions_onward l = 2 * l.fuel + 1
