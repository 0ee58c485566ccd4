use Rattle.std.proofs.Common.{ap, ◌∙◌, ◌+◌, false}
use Rattle.edit_rules.specs.FormatParts.{written_size}
use Rattle.edit_rules.specs.PartPlaces.{parted_in}
use Rattle.edit_rules.proofs.PartSteps.{quoted_shown}
use Rattle.edit_rules.proofs.TakeSteps.{whole_rest}
use Rattle.edit_rules.proofs.format_parts.quoted.Goals as goal

pub returns-clause-value : goal.returns-clause-value
returns-clause-value c =
    ap (parted_in c.args.text.now) c.once.ensures
    ∙ quoted_shown c.args.text.now c.args.at _ _ (ap (λ n. c.args.at + n) (c.written_len.ensures.value ∙ ap (written_size false) (whole_rest c.args.text.now c.args.at))) c.min.ensures
