use Rattle.std.proofs.Common.{None, sym, ap, ◌∙◌}
use Rattle.edit_meaning.specs.Formats.{IntIn}
use Rattle.edit_meaning.specs.FormatTexts.{takes, ended}
use Rattle.edit_rules.specs.FormatPlaces.{sign_in, shape}
use Rattle.edit_rules.proofs.FormatMoves.{width_else}
use Rattle.edit_rules.proofs.format_places.from_width.Goals as goal

pub returns-in_default : goal.returns-in_default
returns-in_default c =
    c.settle.ensures (takes (IntIn c.args.width None))
    ∙ ap (λ well. shape (ended well (takes (IntIn c.args.width None)) c.args.depth (sign_in c.args.sign))) c.is_width.ensures
    ∙ ap shape (sym (width_else c.args.depth c.args.width c.args.sign c.in_default.not-Period))
