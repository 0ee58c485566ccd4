use Rattle.std.proofs.Common.{None, sym, ap, ◌∙◌}
use Rattle.edit_meaning.specs.Formats.{TextIn}
use Rattle.edit_meaning.specs.FormatTexts.{takes}
use Rattle.edit_rules.specs.FormatPlaces.{shape}
use Rattle.edit_rules.proofs.FormatMoves.{a_else}
use Rattle.edit_rules.proofs.format_places.from_a.Goals as goal

pub returns-in_default : goal.returns-in_default
returns-in_default c = c.settle.ensures (takes (TextIn None)) ∙ ap shape (sym (a_else c.args.depth c.args.sign c.in_default.not-Digit))
