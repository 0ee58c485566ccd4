-- An item takes fuel; what goes on behind it is nearer to the end.
use Rattle.std.proofs.Common.{◌+◌, ◌*◌}
use Rattle.action_parse.proofs.calls.+listed_dummies.Given as goal

abbrev pub decreases-listed_dummies_further : goal.decreases-listed_dummies_further
decreases-listed_dummies_further l = 2 * l.fuel + 1

abbrev pub decreases-listed_dummies_items : goal.decreases-listed_dummies_items
decreases-listed_dummies_items l = 2 * l.fuel
