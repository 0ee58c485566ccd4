-- An item takes fuel; what goes on behind it is nearer to the end.
use Rattle.std.proofs.Common.{◌+◌, ◌*◌}
use Rattle.action_parse.proofs.actions.+listed_labels.Given as goal

abbrev pub decreases-listed_labels_further : goal.decreases-listed_labels_further
decreases-listed_labels_further l = 2 * l.fuel + 1

abbrev pub decreases-listed_labels_items : goal.decreases-listed_labels_items
decreases-listed_labels_items l = 2 * l.fuel
