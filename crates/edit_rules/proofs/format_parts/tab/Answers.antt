use Rattle.std.proofs.Common.{ap, ◌∙◌, drop}
use Rattle.edit_rules.specs.FormatParts.{tab_by, tab_part}
use Rattle.edit_rules.specs.PartPlaces.{parted_in, sign_in, number_in}
use Rattle.edit_rules.proofs.PartSteps.{tab_left, tab_right, tab_to}
use Rattle.edit_rules.proofs.format_parts.tab.Goals as goal

pub returns-then-sign-eq76-clause-value : goal.returns-then-sign-eq76-clause-value
unfolding tab_part
returns-then-sign-eq76-clause-value c =
    let text = c.args.text.now in
    ap (parted_in text) c.once.ensures
    ∙ tab_left (drop c.args.at text) (sign_in text c.sign_at-sign.result) (number_in text c.number_at-columns.result) c.if-sign-eq76.true c.number_at-columns.ensures.value
    ∙ ap (tab_by (drop c.args.at text)) c.sign_at-sign.ensures.value

pub returns-then-sign-eq82-clause-value : goal.returns-then-sign-eq82-clause-value
unfolding tab_part
returns-then-sign-eq82-clause-value c =
    let text = c.args.text.now in
    ap (parted_in text) c.once-then-sign-eq82.ensures
    ∙ tab_right (drop c.args.at text) (sign_in text c.sign_at-sign.result) (number_in text c.number_at-columns-then-sign-eq82.result) c.if-sign-eq82.true c.number_at-columns-then-sign-eq82.ensures.value
    ∙ ap (tab_by (drop c.args.at text)) c.sign_at-sign.ensures.value

pub returns-clause-value : goal.returns-clause-value
unfolding tab_part
returns-clause-value c =
    let text = c.args.text.now in
    ap (parted_in text) c.once-2.ensures
    ∙ tab_to (drop c.args.at text) (sign_in text c.sign_at-sign.result) (number_in text c.number_at-column.result) c.if-sign-eq76.false c.if-sign-eq82.false c.number_at-column.ensures.value
    ∙ ap (tab_by (drop c.args.at text)) c.sign_at-sign.ensures.value
