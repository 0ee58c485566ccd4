use Rattle.std.proofs.Common.{ap, ◌∙◌, drop}
use Rattle.edit_rules.specs.FormatParts.{plus_by, plus_part}
use Rattle.edit_rules.specs.PartPlaces.{parted_in, sign_in}
use Rattle.edit_rules.proofs.PartSteps.{plus_produced, plus_suppressed, plus_as_ever}
use Rattle.edit_rules.proofs.format_parts.plus.Goals as goal

pub returns-then-sign-eq80-clause-value : goal.returns-then-sign-eq80-clause-value
unfolding plus_part
returns-then-sign-eq80-clause-value c =
    ap (parted_in c.args.text.now) c.once.ensures
    ∙ plus_produced (drop c.args.at c.args.text.now) (sign_in c.args.text.now c.sign_at-sign.result) c.if-sign-eq80.true
    ∙ ap (plus_by (drop c.args.at c.args.text.now)) c.sign_at-sign.ensures.value

pub returns-then-sign-eq83-clause-value : goal.returns-then-sign-eq83-clause-value
unfolding plus_part
returns-then-sign-eq83-clause-value c =
    ap (parted_in c.args.text.now) c.once-then-sign-eq83.ensures
    ∙ plus_suppressed (drop c.args.at c.args.text.now) (sign_in c.args.text.now c.sign_at-sign.result) c.if-sign-eq83.true
    ∙ ap (plus_by (drop c.args.at c.args.text.now)) c.sign_at-sign.ensures.value

pub returns-clause-value : goal.returns-clause-value
unfolding plus_part
returns-clause-value c =
    ap (parted_in c.args.text.now) c.once-2.ensures
    ∙ plus_as_ever (drop c.args.at c.args.text.now) (sign_in c.args.text.now c.sign_at-sign.result) c.if-sign-eq80.false c.if-sign-eq83.false
    ∙ ap (plus_by (drop c.args.at c.args.text.now)) c.sign_at-sign.ensures.value
