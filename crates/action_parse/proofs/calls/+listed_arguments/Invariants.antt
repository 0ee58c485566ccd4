-- An item takes fuel; what goes on behind it is nearer to the end.
use Rattle.std.proofs.Common.{◌+◌, ◌*◌}
use Rattle.action_parse.proofs.calls.+listed_arguments.Given as goal

abbrev pub decreases-listed_arguments_further : goal.decreases-listed_arguments_further
decreases-listed_arguments_further l = 2 * l.fuel + 1

abbrev pub decreases-listed_arguments_items : goal.decreases-listed_arguments_items
decreases-listed_arguments_items l = 2 * l.fuel
