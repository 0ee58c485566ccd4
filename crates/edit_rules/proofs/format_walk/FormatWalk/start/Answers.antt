use Rattle.std.proofs.Common.{refl}
use Rattle.edit_rules.proofs.WalkSteps.{started}
use Rattle.edit_rules.proofs.format_walk.FormatWalk.start.Goals as goal

pub returns : goal.returns
returns c format after spells = started c.args.text.now _ format after c.begin-place.ensures.within refl refl refl c.begin-place.ensures.value spells
