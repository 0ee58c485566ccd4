use Rattle.std.proofs.Common.{false, sym, ap, ◌∙◌}
use Rattle.edit_meaning.specs.Formats.{PlusSigns}
use Rattle.edit_meaning.specs.FormatTexts.{does}
use Rattle.edit_rules.specs.FormatPlaces.{shape}
use Rattle.edit_rules.proofs.FormatMoves.{s_else}
use Rattle.edit_rules.proofs.format_places.from_s.Goals as goal

pub returns-in_default : goal.returns-in_default
returns-in_default c =
    c.settle.ensures (does 1 (PlusSigns false)) ∙ ap shape (sym (s_else c.args.depth c.args.sign c.in_default.not-LetterP c.in_default.not-LetterS))
