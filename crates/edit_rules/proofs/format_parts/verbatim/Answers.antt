use Rattle.std.proofs.Common.{ap, ◌∙◌, ◌+◌}
use Rattle.edit_rules.specs.PartPlaces.{parted_in}
use Rattle.edit_rules.proofs.PartSteps.{verbatim_shown}
use Rattle.edit_rules.proofs.format_parts.verbatim.Goals as goal

pub returns-clause-value : goal.returns-clause-value
returns-clause-value c =
    ap (parted_in c.args.text.now) c.once.ensures
    ∙ verbatim_shown c.args.text.now c.args.at _ c.args.size c.requires.at (ap (λ n. c.args.at + n) c.min.ensures)
