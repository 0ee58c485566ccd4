use Rattle.std.proofs.Common.{◌∙◌}
use Rattle.length_judge.proofs.KnownLaws.{length_is}
use Rattle.length_judge.proofs.definitions.has_star_length.Goals as goal

pub returns : goal.returns
returns c = c.is_star.ensures ∙ length_is c.args.unit.now c.args.name.now c.typed_name.result c.typed_name.ensures
