-- Each further control takes fuel.
use Rattle.std.proofs.Common.{◌+◌, ◌*◌}
use Rattle.control_parse.proofs.controls.+keyed_controls.Given as goal

abbrev pub decreases-keyed_controls_from : goal.decreases-keyed_controls_from
decreases-keyed_controls_from l = 2 * l.fuel + 0

abbrev pub decreases-keyed_controls_onward : goal.decreases-keyed_controls_onward
decreases-keyed_controls_onward l = 2 * l.fuel + 1
