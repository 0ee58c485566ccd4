use Rattle.std.proofs.Common.{ap, ◌∙◌}
use Rattle.f_tree.specs.Attributes.{constants_of}
use Rattle.declaration_rows.specs.LengthRows.{integer_at}
use Rattle.length_judge.specs.KnownNames.{constants_in}
use Rattle.length_judge.proofs.places.place_value.Goals as goal

pub returns : goal.returns
unfolding constants_in
returns c = c.integer_at.ensures ∙ ap integer_at (c.in_ok-constant_value.ensures.value (constants_of c.args.names.now.unit.now) c.requires.constants)
